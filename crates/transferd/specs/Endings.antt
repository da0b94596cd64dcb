-- How a run of a script ends: the lines that ran, and the bytes read and written.
use Rattle.gt_desk.specs.declared.fault.OpenFault.TheVariants.{Damaged as OpenDamaged, JournalFault as OpenJournalFault, OutOfMemory as OpenOutOfMemory}
use Rattle.gt_script.specs.Script.{EndsBehind, EndsWithNext, Reads}
use Rattle.gt_script.specs.declared.line.Line.{Line}
use Rattle.gt_script.specs.declared.line.Line.TheVariants.{Restart, Send}
use Rattle.gt_setup.specs.Setup.{Setup}
use Rattle.gt_streams.specs.Streams.{SinkWords, SourceWords}
use Rattle.std.specs.Prelude.{Bool, IsTrue, List, [], length, ◌++◌, ◌+◌, ◌∷◌, ◌≡◌, ◌⊎◌, ℕ}
use Rattle.transferd.specs.Output.{IsPart, line_output, out_text}
use Rattle.transferd.specs.Run.{IsEnded, IsUnended, Makes, Played, ReopenFails, RequestWantsMemory, incoming_of, lines_of, world_at}
use Rattle.gt_world.specs.World.{Taken, World}
use Rattle.transferd.specs.declared.exit.Exit.{Exit}
use Rattle.transferd.specs.declared.exit.Exit.TheVariants.{Damaged, Done, JournalFault, OutOfMemory, ScriptRefused, SinkFault, SourceFault}

-- whether a source or a sink tells its bytes, and these bytes before and after a run: those left in it, or those it took
pub record Stream : Type 0 where
  pub told : Bool
  pub before : List ℕ
  pub after : List ℕ

-- what was read of a source
abbrev pub read_from : {S : Type 0} → SourceWords S → S → S → Stream
read_from words old new = record { told = words.told old; before = words.left old; after = words.left new }

-- what was written to a sink
abbrev pub written_to : {K : Type 0} → SinkWords K → K → K → Stream
written_to words old new = record { told = words.told old; before = words.taken old; after = words.taken new }

-- the bytes that the source gave are these lines, and `beyond` behind them
pub record Gave (setup : Setup) (lines : List Line) (script : Stream) (beyond : List ℕ) : Type 0 where
  pub taken : List ℕ
  pub whole : script.before ≡ taken ++ script.after
  pub reads : Reads setup lines taken beyond

-- the source gave these lines and nothing more
abbrev pub GaveAll : Setup → List Line → Stream → Type 0
GaveAll setup lines script = IsTrue script.told → Gave setup lines script []

-- the sink took all that these lines print
abbrev pub TookAll : World → List Played → Stream → Type 0
TookAll start run out = IsTrue out.told → out.after ≡ out.before ++ out_text start run

-- The source gave these lines and part of a further one, which isn't whole. All that they print was written.
pub record StopsReading (setup : Setup) (start : World) (run : List Played) (last : List Taken) (script out : Stream) : Type 0 where
  pub unended : IsUnended (lines_of run)
  pub idle : last ≡ []
  pub read : IsTrue script.told → (beyond : List ℕ) × (gave : Gave setup (lines_of run) script beyond) × EndsBehind setup (lines_of run) gave.taken
  pub written : TookAll start run out

-- The source gave these lines and nothing behind a further one, for which memory was wanted. All that they print was written.
pub record GivesUp (setup : Setup) (start : World) (run : List Played) (last : List Taken) (script out : Stream) : Type 0 where
  pub unended : IsUnended (lines_of run)
  pub idle : last ≡ []
  pub read : IsTrue script.told → (beyond : List ℕ) × (gave : Gave setup (lines_of run) script beyond) × EndsWithNext setup (lines_of run) gave.taken
  pub written : TookAll start run out

-- nothing was written
abbrev pub WroteNothing : Stream → Type 0
WroteNothing out = IsTrue out.told → out.after ≡ out.before

-- the steps of a line that wanted memory
abbrev pub WantsMemory : Line → List Taken → Type 0
WantsMemory (Send token method target body) steps = RequestWantsMemory (incoming_of token method target body) steps
WantsMemory Restart steps = ReopenFails OpenOutOfMemory steps
WantsMemory line steps = ⊥

-- What a line that was read whole made and wrote before the run stopped in it. A line whose output could not be written made
-- all its steps; a desk that was not opened again made the line's only step; where memory was wanted the line made none of
-- its steps, or one that wanted memory, or all of them, and wrote nothing.
abbrev pub StopsLine : Exit → World → Line → List Taken → Stream → Type 0
StopsLine SinkFault start line steps out = Makes line steps × (IsTrue out.told → IsPart (line_output start line steps) out.before out.after)
StopsLine JournalFault start line steps out = (line ≡ Restart) × ReopenFails OpenJournalFault steps × WroteNothing out
StopsLine (Damaged number) start line steps out = (line ≡ Restart) × ReopenFails (OpenDamaged number) steps × WroteNothing out
StopsLine OutOfMemory start line steps out = ((steps ≡ []) ⊎ (Makes line steps ⊎ WantsMemory line steps)) × WroteNothing out
StopsLine exit start line steps out = ⊥

-- One more line was read, and the run stopped in it. All that the lines before it print was written.
pub record StopsIn (exit : Exit) (setup : Setup) (start : World) (run : List Played) (last : List Taken) (script out : Stream) : Type 0 where
  pub unended : IsUnended (lines_of run)
  pub line : Line
  pub read : GaveAll setup (lines_of run ++ line ∷ []) script
  pub stops : StopsLine exit (world_at start run) line last (record out { before = out.before ++ out_text start run })

-- The lines ran through the end, and all that they print was written.
pub record Ends (setup : Setup) (start : World) (run : List Played) (last : List Taken) (script out : Stream) : Type 0 where
  pub ended : IsEnded (lines_of run)
  pub idle : last ≡ []
  pub read : GaveAll setup (lines_of run) script
  pub written : TookAll start run out

-- No line of a script stands behind these, as the bytes of the source tell. All that they print was written.
pub record Refuses (number : ℕ) (setup : Setup) (start : World) (run : List Played) (last : List Taken) (script out : Stream) : Type 0 where
  pub count : number ≡ length run + 1
  pub unended : IsUnended (lines_of run)
  pub idle : last ≡ []
  pub read : IsTrue script.told → ((beyond : List ℕ) × Gave setup (lines_of run) script beyond) × EndsBehind setup (lines_of run) script.before
  pub written : TookAll start run out

-- how a script's run ends, one row for each exit
abbrev pub EndsAs : Exit → Setup → World → List Played → List Taken → Stream → Stream → Type 0
EndsAs Done setup start run last script out = Ends setup start run last script out
EndsAs (ScriptRefused number) setup start run last script out = Refuses number setup start run last script out
EndsAs SourceFault setup start run last script out = StopsReading setup start run last script out
EndsAs SinkFault setup start run last script out = StopsIn SinkFault setup start run last script out
EndsAs JournalFault setup start run last script out = StopsIn JournalFault setup start run last script out
EndsAs (Damaged number) setup start run last script out = StopsIn (Damaged number) setup start run last script out
EndsAs OutOfMemory setup start run last script out = GivesUp setup start run last script out ⊎ StopsIn OutOfMemory setup start run last script out
EndsAs exit setup start run last script out = ⊥
