-- The bytes of a setup, of a script and of a journal come to one exit where nothing fails.
use Rattle.gt_desk.specs.Damage.{IsDamagedAs, IsDamagedAt}
use Rattle.gt_desk.specs.History.{StandsFor}
use Rattle.gt_desk.specs.declared.fault.OpenFault.{OpenFault}
use Rattle.gt_desk.specs.declared.fault.OpenFault.TheVariants.{Damaged as OpenDamaged}
use Rattle.gt_script.specs.Script.{EndsBehind, Reads}
use Rattle.gt_script.specs.TextFacts.{reads_before}
use Rattle.gt_script.specs.declared.line.Line.{Line}
use Rattle.gt_script.specs.declared.line.Line.TheVariants.{End}
use Rattle.gt_disk.specs.Disk.{DiskWords}
use Rattle.gt_setup.specs.Grammar.{setup_of}
use Rattle.gt_setup.specs.Setup.{Setup}
use Rattle.gt_setup.specs.declared.fault.SetupFault.{SetupFault}
use Rattle.gt_types.specs.declared.event.Event.{Event}
use Rattle.std.proofs.Common.{Bool, Err, IsTrue, List, Ok, Result, [], ap, append-nil, false, inl, inr, length, refl, subst, sym, ⊎_elim, ◌++◌, ◌+◌, ◌<◌, ◌∙◌, ◌∷◌, ◌≡◌, ◌^◌, ◌⊎◌, ℕ}
use Rattle.std.proofs.lemmas.List.{length-map}
use Rattle.transferd.specs.Endings.{Stream}
use Rattle.transferd.specs.Exits.{DeskExit, ExitFor, Faults, HasCauses, IsFault, IsUnlessFault, NoneRose, ScriptExit, UnderSetup, setup_read}
use Rattle.transferd.specs.MainTheorem.{DeskTheorem, Ran}
use Rattle.transferd.specs.Opening.{IsNotRead, ReadsSetup}
use Rattle.transferd.specs.Run.{IsUnended, ReopenFails, lines_of}
use Rattle.gt_world.specs.World.{NotOpened, Reopen, Step, StepAnswer, Taken, World, WorldRun, WorldStep}
use Rattle.transferd.specs.declared.exit.Exit.{Exit}
use Rattle.transferd.specs.declared.exit.Exit.TheVariants.{Damaged, Done, JournalFault, OutOfMemory, ScriptRefused, SetupRefused, SinkFault, SourceFault}

-- lines that go on behind an end are ended
ended_inside : (before more : List Line) → IsUnended (before ++ End ∷ [] ++ more) → ⊥
ended_inside [] more unended = unended.0 refl
ended_inside (line ∷ before) more unended = ended_inside before more unended.1

-- the bytes of a setup stand for one setup or have one fault
setup_or_fault : (r : Result Setup SetupFault) (setup : Setup) (fault : SetupFault) → r ≡ Ok setup → r ≡ Err fault → ⊥
setup_or_fault r setup fault a b = let both = sym a ∙ b in cc

one_setup : (r : Result Setup SetupFault) (setup other : Setup) → r ≡ Ok setup → r ≡ Ok other → setup ≡ other
one_setup r setup other a b = let both = sym a ∙ b in cc

one_fault : (r : Result Setup SetupFault) (fault other : SetupFault) → r ≡ Err fault → r ≡ Err other → fault ≡ other
one_fault r fault other a b = let both = sym a ∙ b in cc

-- of the setup that the bytes stand for
under : (bytes : List ℕ) (P Q : Setup → Type 0) (R : Type 0) → ((setup : Setup) → setup_of (setup_read bytes) ≡ Ok setup → P setup → Q setup → R) → UnderSetup bytes P → UnderSetup bytes Q → R
under bytes P Q R so (setup, is, p) (other, also, q) = so setup is p (subst Q (sym (one_setup (setup_of (setup_read bytes)) setup other is also)) q)

-- where a script has one reading
module _ (one_reading : (setup : Setup) (lines others : List Line) (bytes after behind : List ℕ) → Reads setup lines bytes after → Reads setup others bytes behind
    → ((more : List Line) × (others ≡ lines ++ more)) ⊎ ((more : List Line) × (lines ≡ others ++ more)))
    (one_whole : (setup : Setup) (lines others : List Line) (bytes after behind : List ℕ) → Reads setup lines bytes after → EndsBehind setup lines bytes → Reads setup others bytes behind → EndsBehind setup others bytes → lines ≡ others)
    (none_more : (setup : Setup) (lines more : List Line) (bytes after : List ℕ) → EndsBehind setup lines bytes → Reads setup (lines ++ more) bytes after → more ≡ []) where
  -- a reading through the end, and one that no line follows
  done_or_refused : (setup : Setup) (script : List ℕ) (number : ℕ) → ScriptExit setup script Done → ScriptExit setup script (ScriptRefused number) → ⊥
  done_or_refused setup script number (lines, after, one, (before, start, ended)) (others, behind, two, unended, ends, count) =
      ⊎_elim
      (λ (more, same). ended_inside before more (subst IsUnended (same ∙ ap (λ ls. ls ++ more) ended) unended))
      (λ (more, same).
      let none : more ≡ [] = none_more setup others more script after ends (subst (λ ls. Reads setup ls script after) same one) in
      let equal : others ≡ before ++ End ∷ [] ++ [] = sym (append-nil others) ∙ ap (λ ls. others ++ ls) (sym none) ∙ sym same ∙ ended ∙ sym (append-nil (before ++ End ∷ [])) in
      ended_inside before [] (subst IsUnended equal unended))
      (one_reading setup lines others script after behind one two)

  -- two readings that no line follows
  one_refusal : (setup : Setup) (script : List ℕ) (number other : ℕ) → ScriptExit setup script (ScriptRefused number) → ScriptExit setup script (ScriptRefused other) → number ≡ other
  one_refusal setup script number other (lines, after, one, unended, ends, count) (others, behind, two, unended', stops, counts) =
      count ∙ ap (λ (ls : List Line). length ls + 1) (one_whole setup lines others script after behind one ends two stops) ∙ sym counts

  -- where a file stands for one history, or is damaged at one record
  module _ (few : Setup → Type 0) (apart : (setup : Setup) (history : List Event) (number : ℕ) (file : List ℕ) → few setup → StandsFor setup history file → IsDamagedAt setup number file → ⊥)
      (one_damage : (setup : Setup) (a b : ℕ) (file : List ℕ) → few setup → IsDamagedAt setup a file → IsDamagedAt setup b file → a ≡ b)
      (bytes script file : List ℕ) (are_few : (setup : Setup) → setup_of (setup_read bytes) ≡ Ok setup → few setup) where
    -- a file that stands for a history is not damaged
    whole : (exit : Setup → Type 0) (number : ℕ) → UnderSetup bytes (λ setup. ((history : List Event) × StandsFor setup history file) × exit setup) → UnderSetup bytes (λ setup. IsDamagedAt setup number file) → ⊥
    whole exit number = under bytes (λ setup. ((history : List Event) × StandsFor setup history file) × exit setup) (λ setup. IsDamagedAt setup number file) ⊥ (λ setup is stands damaged. apart setup stands.0.0 number file (are_few setup is) stands.0.1 damaged)

    -- a setup that is refused is none
    refused : (P : Setup → Type 0) (fault : SetupFault) → UnderSetup bytes P → setup_of (setup_read bytes) ≡ Err fault → ⊥
    refused P fault (setup, is, holds) none = setup_or_fault (setup_of (setup_read bytes)) setup fault is none

    done_or : (number : ℕ) → ExitFor bytes script file Done → ExitFor bytes script file (ScriptRefused number) → ⊥
    done_or number = under bytes (λ s. DeskExit s script file Done) (λ s. DeskExit s script file (ScriptRefused number)) ⊥ (λ setup is a b. done_or_refused setup script number a.1 b.1)

    pub one_exit : (exit other : Exit) → ExitFor bytes script file exit → ExitFor bytes script file other → exit ≡ other
    one_exit Done Done a b = refl
    one_exit Done (ScriptRefused m) a b = absurd (done_or m a b)
    one_exit Done (Damaged m) a b = absurd (whole (λ s. ScriptExit s script Done) m a b)
    one_exit Done (SetupRefused g) a b = absurd (refused (λ s. DeskExit s script file Done) g a b)
    one_exit (ScriptRefused n) Done a b = absurd (done_or n b a)
    one_exit (ScriptRefused n) (ScriptRefused m) a b =
        ap (λ (k : ℕ). ScriptRefused k) (under bytes (λ s. DeskExit s script file (ScriptRefused n)) (λ s. DeskExit s script file (ScriptRefused m)) (n ≡ m) (λ setup is p q. one_refusal setup script n m p.1 q.1) a b)
    one_exit (ScriptRefused n) (Damaged m) a b = absurd (whole (λ s. ScriptExit s script (ScriptRefused n)) m a b)
    one_exit (ScriptRefused n) (SetupRefused g) a b = absurd (refused (λ s. DeskExit s script file (ScriptRefused n)) g a b)
    one_exit (Damaged n) Done a b = absurd (whole (λ s. ScriptExit s script Done) n b a)
    one_exit (Damaged n) (ScriptRefused m) a b = absurd (whole (λ s. ScriptExit s script (ScriptRefused m)) n b a)
    one_exit (Damaged n) (Damaged m) a b =
        ap (λ (k : ℕ). Damaged k) (under bytes (λ s. IsDamagedAt s n file) (λ s. IsDamagedAt s m file) (n ≡ m) (λ setup is p q. one_damage setup n m file (are_few setup is) p q) a b)
    one_exit (Damaged n) (SetupRefused g) a b = absurd (refused (λ s. IsDamagedAt s n file) g a b)
    one_exit (SetupRefused f) Done a b = absurd (refused (λ s. DeskExit s script file Done) f b a)
    one_exit (SetupRefused f) (ScriptRefused m) a b = absurd (refused (λ s. DeskExit s script file (ScriptRefused m)) f b a)
    one_exit (SetupRefused f) (Damaged m) a b = absurd (refused (λ s. IsDamagedAt s m file) f b a)
    one_exit (SetupRefused f) (SetupRefused g) a b = ap (λ x. SetupRefused x) (one_fault (setup_of (setup_read bytes)) f g a b)
    one_exit Done other a b = absurd b
    one_exit (ScriptRefused n) other a b = absurd b
    one_exit (Damaged n) other a b = absurd b
    one_exit (SetupRefused f) other a b = absurd b
    one_exit exit other a b = absurd a

-- a step that finds the journal damaged
finds_damage : (setup : Setup) (honest : Bool) (start : World) (last : List Taken) (number : ℕ) → ReopenFails (OpenDamaged number) last → WorldRun setup honest start last → honest ≡ false
finds_damage setup honest start [] number is run = absurd is
finds_damage setup honest start (taken ∷ []) number (reopens, told) run =
    let step : WorldStep setup honest start Reopen taken.answer taken.world = subst (λ (s : Step). WorldStep setup honest start s taken.answer taken.world) reopens run.0 in
    let closed : WorldStep setup honest start Reopen (NotOpened (OpenDamaged number)) taken.world = subst (λ (a : StepAnswer). WorldStep setup honest start Reopen a taken.world) told step in
    closed.fails.0
finds_damage setup honest start (taken ∷ second ∷ rest) number is run = absurd is

module _ {D : Type 0} (words : DiskWords D) (honest : Bool) (setup : Setup) (old new : D) (script out : Stream) where
  -- the exit of a run through the end
  done_exit : (start : World) (first : D) → Ran words honest Done setup start first new script out → IsTrue script.told → ScriptExit setup script.before Done
  done_exit start first ran told =
      let given = ran.ending.read told in
      (lines_of ran.run, script.after, reads_before setup (lines_of ran.run) script.before given.taken [] script.after given.whole given.reads, ran.ending.ended)

  -- the exit of a run whose next line is refused
  refused_exit : (start : World) (first : D) (number : ℕ) → Ran words honest (ScriptRefused number) setup start first new script out → IsTrue script.told → ScriptExit setup script.before (ScriptRefused number)
  refused_exit start first number ran told =
      let ((beyond, given), ends) = ran.ending.read told in (
        lines_of ran.run,
        beyond ++ script.after,
        reads_before setup (lines_of ran.run) script.before given.taken beyond script.after given.whole given.reads,
        ran.ending.unended,
        ends,
        ran.ending.count ∙ ap (λ (k : ℕ). k + 1) (sym (length-map ran.run (λ played. played.line))),
      )

  -- the exit of an opened desk or of one that was refused
  pub exit_of_desk : (bytes : List ℕ) → setup_of (setup_read bytes) ≡ Ok setup → (exit : Exit) → DeskTheorem words honest exit setup old new script out → IsTrue script.told → IsTrue honest
      → ExitFor bytes script.before (words.seen old) exit ⊎ IsFault exit
  exit_of_desk bytes stands Done did told keeps =
      ⊎_elim (λ served. inl (setup, stands, ((served.found.history, served.file keeps), done_exit _ served.disk served.ran told))) (λ refused. absurd refused.told) did
  exit_of_desk bytes stands (ScriptRefused number) did told keeps =
      ⊎_elim (λ served. inl (setup, stands, ((served.found.history, served.file keeps), refused_exit _ served.disk number served.ran told))) (λ refused. absurd refused.told) did
  exit_of_desk bytes stands (Damaged number) did told keeps =
      ⊎_elim
      (λ served.
      let finds : honest ≡ false = finds_damage setup honest _ served.ran.last number served.ran.ending.stops.1 served.ran.rest in
      let no : ⊥ = cc in absurd no)
      (λ refused. inl (setup, stands, subst (λ (fault : OpenFault). IsDamagedAs setup (words.seen old) fault) refused.told (refused.damaged keeps))) did
  exit_of_desk bytes stands SourceFault did told keeps = inr (inl refl)
  exit_of_desk bytes stands SinkFault did told keeps = inr (inr (inl refl))
  exit_of_desk bytes stands JournalFault did told keeps = inr (inr (inr (inl refl)))
  exit_of_desk bytes stands OutOfMemory did told keeps = inr (inr (inr (inr refl)))
  exit_of_desk bytes stands exit did told keeps = ⊎_elim (λ served. absurd served.ran.ending) (λ refused. absurd refused.told) did

-- the setup that was read is that of the source's bytes
stands_read : (source : Stream) (bytes : List ℕ) (r : Result Setup SetupFault) → ReadsSetup source bytes → IsTrue source.told → setup_of bytes ≡ r → setup_of (setup_read source.before) ≡ r
stands_read source bytes r read told stands = ap setup_of (sym (read.all told)) ∙ stands

-- where the bytes of a setup, of a script and of a journal come to one exit
module _ (source : Stream) (script file : List ℕ)
    (one : (exit other : Exit) → ((opened : Setup) → setup_of (setup_read source.before) ≡ Ok opened → length opened.collections < 2 ^ 32) → ExitFor source.before script file exit → ExitFor source.before script file other → exit ≡ other)
    (exit : Exit) (is : ExitFor source.before script file exit) where
  -- no setup was read
  pub exit_without_setup : (result : Exit) → IsNotRead source result → IsTrue source.told → IsUnlessFault exit result
  exit_without_setup (SetupRefused fault) none told =
      let stands = stands_read source none.bytes (Err fault) none.read told none.stands in
      inl (one (SetupRefused fault) exit (λ opened also. absurd (setup_or_fault (setup_of (setup_read source.before)) opened fault also stands)) stands is)
  exit_without_setup SourceFault none told = inr (inl refl)
  exit_without_setup OutOfMemory none told = inr (inr (inr (inr refl)))
  exit_without_setup exit none told = absurd none

  -- a setup was read
  pub exit_under_setup : (bytes : List ℕ) (setup : Setup) → ReadsSetup source bytes → setup_of bytes ≡ Ok setup → IsTrue source.told → length setup.collections < 2 ^ 32
      → (result : Exit) → (setup_of (setup_read source.before) ≡ Ok setup → ExitFor source.before script file result ⊎ IsFault result) → IsUnlessFault exit result
  exit_under_setup bytes setup read stands told few result comes =
      let stands_all = stands_read source bytes (Ok setup) read told stands in
      ⊎_elim
      (λ same. inl (one result exit (λ opened also. subst (λ (s : Setup). length s.collections < 2 ^ 32) (one_setup (setup_of (setup_read source.before)) setup opened stands_all also) few) same is))
      (λ fault. inr fault)
      (comes stands_all)

-- what comes where no device failed
pub complete_exit : (exit result : Exit) (a a' : ℕ) (before after : Faults) → IsUnlessFault exit result → HasCauses result a a' before after → NoneRose a a' before after → (result ≡ exit) ⊎ (result ≡ OutOfMemory)
complete_exit exit result a a' before after comes causes none =
    ⊎_elim (λ same. inl same)
    (λ fault. ⊎_elim (λ source. absurd (⊎_elim none.setup none.script (causes.source source)))
    (λ other. ⊎_elim (λ sink. absurd (none.out (causes.sink sink)))
    (λ third. ⊎_elim (λ journal. absurd (none.disk (causes.journal journal))) (λ memory. inr memory) third) other) fault) comes
