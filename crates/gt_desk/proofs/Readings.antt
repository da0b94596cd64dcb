-- A file stands for one history or is damaged at one place.
use Rattle.std.proofs.Common.{◌≡◌, ℕ, suc, inr, ⊎_elim, ◌<◌, ◌^◌, ◌&&◌, List, [], ◌∷◌, ◌++◌, Option, None, Some, IsSome, Bool, true, false, map, length, refl, sym, ap, subst, ◌∙◌, arith, rules}
use Rattle.std.proofs.lemmas.List.{length-map}
use Rattle.std.specs.Prelude.{nat_lt, option_and_then}
use Rattle.gt_desk.specs.Damage.{HasRecords, IsBadAfter, IsBadBody, IsDamagedAt}
use Rattle.gt_desk.specs.Desk.{events_of, listed}
use Rattle.gt_desk.specs.History.{StandsFor}
use Rattle.gt_journal.specs.JournalText.{IsDamagedAfter, IsJournalText}
use Rattle.gt_machine.specs.MachineState.{MachineState, empty_state}
use Rattle.gt_machine.specs.Run.{run_from, run_of}
use Rattle.gt_machine.specs.Step.{step_of}
use Rattle.gt_records.specs.ReadingEvents.{event_of}
use Rattle.gt_records.specs.RecordText.{record_text}
use Rattle.gt_setup.specs.Setup.{Setup}
use Rattle.gt_types.specs.Event.{has_collections, is_recordable, is_recordable_happening, recordable_collections}
use Rattle.gt_types.specs.declared.event.Event.{Event}
use Rattle.gt_types.specs.declared.event.Happening.{Happening}
use Rattle.gt_types.specs.declared.event.Happening.TheVariants.{AccessAdd, PauseAdd, SubmitDelete, SubmitTransfer}
use Rattle.gt_values.specs.Forms.{is_moment}

more_room : (count n : ℕ) → count < 2 ^ 32 → nat_lt n count ≡ true → nat_lt n recordable_collections ≡ true
more_room count n few below = grind (arith, rules, below, few)

both_hold : (a b a' b' : Bool) → (a ≡ true → a' ≡ true) → (b ≡ true → b' ≡ true) → (a && b) ≡ true → (a' && b') ≡ true
both_hold true true a' b' fa fb both = rw (fa refl, fb refl) refl
both_hold true false a' b' fa fb both = absurd (cc)
both_hold false b a' b' fa fb both = absurd (cc)

more_collections : (count : ℕ) (what : Happening) → count < 2 ^ 32 → has_collections count what ≡ true → has_collections recordable_collections what ≡ true
more_collections count (SubmitTransfer owner submission spec) few has =
    both_hold (nat_lt spec.source count) (nat_lt spec.destination count) (nat_lt spec.source recordable_collections) (nat_lt spec.destination recordable_collections)
    (more_room count spec.source few) (more_room count spec.destination few) has
more_collections count (SubmitDelete owner submission spec) few has = more_room count spec.collection few has
more_collections count (AccessAdd collection spec) few has = more_room count collection few has
more_collections count (PauseAdd spec) few has = more_room count spec.collection few has
more_collections count what few has = refl

-- what is recordable under a setup is recordable
recordable_widely : (count : ℕ) (event : Event) → count < 2 ^ 32 → is_recordable count event ≡ true → is_recordable recordable_collections event ≡ true
recordable_widely count event few is =
    both_hold (is_moment event.moment && has_collections count event.what) (is_recordable_happening event.what) (is_moment event.moment && has_collections recordable_collections event.what) (is_recordable_happening event.what)
    (both_hold (is_moment event.moment) (has_collections count event.what) (is_moment event.moment) (has_collections recordable_collections event.what) (λ e. e) (more_collections count event.what few)) (λ e. e) is

step_there : (setup : Setup) (events : List Event) (o : Option MachineState) → IsSome (option_and_then (λ n. run_from setup n events) o) → (n : MachineState) × (o ≡ Some n) × IsSome (run_from setup n events)
step_there setup events None runs = absurd (cc)
step_there setup events (Some n) runs = (n, refl, runs)

module _ (setup : Setup) (few : length setup.collections < 2 ^ 32) (law : (s : Setup) (m next : MachineState) (event : Event) → step_of s m event ≡ Some next → is_recordable (length s.collections) event ≡ true)
    (again : (event : Event) → is_recordable recordable_collections event ≡ true → event_of (record_text event) ≡ Some event) where
  recordable_step : (m next : MachineState) (event : Event) → step_of setup m event ≡ Some next → is_recordable recordable_collections event ≡ true
  recordable_step m next event step = recordable_widely (length setup.collections) event few (law setup m next event step)

  read_back : (events : List Event) (m : MachineState) → IsSome (run_from setup m events) → events_of (map record_text events) ≡ events
  read_back [] m runs = refl
  read_back (event ∷ events) m runs =
      let next = step_there setup events (step_of setup m event) runs in
      ap (λ (o : Option Event). listed o ++ events_of (map record_text events)) (again event (recordable_step m next.0 event next.1))
      ∙ ap (λ (es : List Event). event ∷ es) (read_back events next.0 next.2)

  -- texts of two events that have steps are of one
  same_event : (m n : MachineState) (a b : Event) (na nb : MachineState) → step_of setup m a ≡ Some na → step_of setup n b ≡ Some nb → record_text a ≡ record_text b → a ≡ b
  same_event m n a b na nb step_a step_b same =
      let both : Some a ≡ Some b = sym (again a (recordable_step m na a step_a)) ∙ ap event_of same ∙ again b (recordable_step n nb b step_b) in
      cc

  -- the text of an event that has a step isn't bad
  not_bad : (m next : MachineState) (event : Event) (body : List ℕ) → step_of setup m event ≡ Some next → record_text event ≡ body → IsBadBody setup m body → ⊥
  not_bad m next event body step text bad =
      let recordable = recordable_step m next event step in
      ⊎_elim (λ no. no event (record { recordable = recordable; text = text }))
      (λ stuck.
      let both : Some event ≡ Some stuck.0 = sym (again event recordable) ∙ ap event_of (text ∙ sym stuck.1.text) ∙ again stuck.0 stuck.1.recordable in
      let same : event ≡ stuck.0 = cc in
      let steps : Some next ≡ None = sym step ∙ ap (λ (e : Event). step_of setup m e) same ∙ stuck.2 in
      absurd (cc)) bad

  -- where a run goes on, no bad body stands
  goes_through : (before all : List Event) (start m : MachineState) (body : List ℕ) (rest : List (List ℕ)) → IsSome (run_from setup start all) → run_from setup start before ≡ Some m
      → map record_text all ≡ map record_text before ++ body ∷ rest → IsBadBody setup m body → ⊥
  goes_through [] [] start m body rest runs to same bad = absurd (cc)
  goes_through [] (event ∷ events) start m body rest runs to same bad =
      let next = step_there setup events (step_of setup start event) runs in
      let here : start ≡ m = cc in
      let text : record_text event ≡ body = cc in
      not_bad start next.0 event body next.1 text (subst (λ s. IsBadBody setup s body) (sym here) bad)
  goes_through (first ∷ before) [] start m body rest runs to same bad = absurd (cc)
  goes_through (first ∷ before) (event ∷ events) start m body rest runs to same bad =
      let next = step_there setup events (step_of setup start event) runs in
      let other = step_there setup before (step_of setup start first) (subst (λ (o : Option MachineState). IsSome o) (sym to) refl) in
      let texts : record_text event ≡ record_text first = cc in
      let is : event ≡ first = same_event start start event first next.0 other.0 next.1 other.1 texts in
      let steps : Some next.0 ≡ Some other.0 = sym next.1 ∙ ap (λ (e : Event). step_of setup start e) is ∙ other.1 in
      let at : next.0 ≡ other.0 = cc in
      let later : map record_text events ≡ map record_text before ++ body ∷ rest = cc in
      let run_on : run_from setup next.0 before ≡ Some m =
      subst (λ s. run_from setup s before ≡ Some m) (sym at) (subst (λ o. option_and_then (λ n. run_from setup n before) o ≡ Some m) other.1 to) in
      goes_through before events next.0 m body rest next.2 run_on later bad

  some_run : (events : List Event) (start m : MachineState) → run_from setup start events ≡ Some m → IsSome (run_from setup start events)
  some_run events start m to = subst (λ (o : Option MachineState). IsSome o) (sym to) refl

  -- two runs of which each ends before a bad body, over the same bodies, are as long
  as_long : (before other : List Event) (start m n : MachineState) (body text : List ℕ) (rest more : List (List ℕ)) → run_from setup start before ≡ Some m → run_from setup start other ≡ Some n
      → map record_text before ++ body ∷ rest ≡ map record_text other ++ text ∷ more → IsBadBody setup m body → IsBadBody setup n text → length before ≡ length other
  as_long [] [] start m n body text rest more to to' same bad bad' = refl
  as_long [] (event ∷ other) start m n body text rest more to to' same bad bad' =
      let next = step_there setup other (step_of setup start event) (some_run (event ∷ other) start n to') in
      let here : start ≡ m = cc in
      let is : record_text event ≡ body = cc in
      absurd (not_bad start next.0 event body next.1 is (subst (λ s. IsBadBody setup s body) (sym here) bad))
  as_long (event ∷ before) [] start m n body text rest more to to' same bad bad' =
      let next = step_there setup before (step_of setup start event) (some_run (event ∷ before) start m to) in
      let here : start ≡ n = cc in
      let is : record_text event ≡ text = cc in
      absurd (not_bad start next.0 event text next.1 is (subst (λ s. IsBadBody setup s text) (sym here) bad'))
  as_long (event ∷ before) (first ∷ other) start m n body text rest more to to' same bad bad' =
      let next = step_there setup before (step_of setup start event) (some_run (event ∷ before) start m to) in
      let that = step_there setup other (step_of setup start first) (some_run (first ∷ other) start n to') in
      let texts : record_text event ≡ record_text first = cc in
      let is : event ≡ first = same_event start start event first next.0 that.0 next.1 that.1 texts in
      let steps : Some next.0 ≡ Some that.0 = sym next.1 ∙ ap (λ (e : Event). step_of setup start e) is ∙ that.1 in
      let at : that.0 ≡ next.0 = cc in
      let later : map record_text before ++ body ∷ rest ≡ map record_text other ++ text ∷ more = cc in
      let run_on : run_from setup next.0 before ≡ Some m = subst (λ o. option_and_then (λ k. run_from setup k before) o ≡ Some m) next.1 to in
      let run_that : run_from setup that.0 other ≡ Some n = subst (λ o. option_and_then (λ k. run_from setup k other) o ≡ Some n) that.1 to' in
      ap suc (as_long before other next.0 m n body text rest more run_on (subst (λ s. run_from setup s other ≡ Some n) at run_that) later bad bad')

  module _ (one_list : (xs ys : List (List ℕ)) (file : List ℕ) → IsJournalText xs file → IsJournalText ys file → xs ≡ ys) (cut_apart : (xs ys : List (List ℕ)) (file : List ℕ) → IsJournalText xs file → IsDamagedAfter ys file → ⊥) where
    pub one_history : (a b : List Event) (file : List ℕ) → StandsFor setup a file → StandsFor setup b file → a ≡ b
    one_history a b file at_a at_b =
        sym (read_back a (empty_state setup.namespace) at_a.runs) ∙ ap events_of (one_list (map record_text a) (map record_text b) file at_a.texts at_b.texts)
        ∙ read_back b (empty_state setup.namespace) at_b.runs

    pub stands_undamaged : (history : List Event) (number : ℕ) (file : List ℕ) → StandsFor setup history file → IsDamagedAt setup number file → ⊥
    stands_undamaged history number file stands damage =
        ⊎_elim (λ cut. cut_apart (map record_text history) (map record_text damage.history) file stands.texts cut)
        (λ bad.
        ⊎_elim (λ text.
        goes_through damage.history history (empty_state setup.namespace) damage.machine bad.body bad.rest stands.runs damage.runs
        (one_list (map record_text history) (map record_text damage.history ++ bad.body ∷ bad.rest) file stands.texts text) bad.bad)
        (λ cut. cut_apart (map record_text history) (map record_text damage.history ++ bad.body ∷ bad.rest) file stands.texts cut) bad.records) damage.at

    module _ (one_place : (xs ys : List (List ℕ)) (file : List ℕ) → IsDamagedAfter xs file → IsDamagedAfter ys file → xs ≡ ys) where
      one_list_of : (xs ys : List (List ℕ)) (file : List ℕ) → HasRecords xs file → HasRecords ys file → xs ≡ ys
      one_list_of xs ys file a b =
          ⊎_elim (λ whole. ⊎_elim (λ other. one_list xs ys file whole other) (λ cut. absurd (cut_apart xs ys file whole cut)) b)
          (λ cut. ⊎_elim (λ whole. absurd (cut_apart ys xs file whole cut)) (λ other. one_place xs ys file cut other) b) a

      many : (history : List Event) → length (map record_text history) ≡ length history
      many history = length-map history record_text

      cut_and_bad : (history : List Event) (m : MachineState) (damage : List ℕ) (other : List Event) (n : MachineState) → run_of setup history ≡ Some m → run_of setup other ≡ Some n
          → IsDamagedAfter (map record_text history) damage → IsBadAfter setup other n damage → ⊥
      cut_and_bad history m file other n runs runs' cut bad =
          goes_through other history (empty_state setup.namespace) n bad.body bad.rest (some_run history (empty_state setup.namespace) m runs) runs'
          (one_list_of (map record_text history) (map record_text other ++ bad.body ∷ bad.rest) file (inr cut) bad.records) bad.bad

      pub one_damage : (a b : ℕ) (file : List ℕ) → IsDamagedAt setup a file → IsDamagedAt setup b file → a ≡ b
      one_damage a b file one other =
          sym one.before ∙ ⊎_elim
          (λ cut. ⊎_elim
          (λ cut'. sym (many one.history) ∙ ap length (one_place (map record_text one.history) (map record_text other.history) file cut cut') ∙ many other.history)
          (λ bad. absurd (cut_and_bad one.history one.machine file other.history other.machine one.runs other.runs cut bad)) other.at)
          (λ bad. ⊎_elim
          (λ cut. absurd (cut_and_bad other.history other.machine file one.history one.machine other.runs one.runs cut bad))
          (λ bad'. as_long one.history other.history (empty_state setup.namespace) one.machine other.machine bad.body bad'.body bad.rest bad'.rest one.runs other.runs
          (one_list_of (map record_text one.history ++ bad.body ∷ bad.rest) (map record_text other.history ++ bad'.body ∷ bad'.rest) file bad.records bad'.records) bad.bad bad'.bad) other.at) one.at
          ∙ other.before
