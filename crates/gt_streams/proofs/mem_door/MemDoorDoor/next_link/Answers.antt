-- What is hard here: none is out when the door is asked, and the place behind the last link handed out.
use Rattle.std.specs.List.{slice_get}
use Rattle.std.specs.Prelude.{Some, None, false, length, refl, take, [], ◌++◌, ◌∷◌, ◌+◌, ◌≡◌, ◌≤◌}
use Rattle.std.proofs.Common.{ap, arith, rules, sym, ◌∙◌}
use Rattle.std.proofs.lemmas.Option.{slice_get_within}
use Rattle.gt_streams.specs.MemoryDoor.{number_out}
use Rattle.gt_streams.proofs.DoorLemmas.{slice_get_none, take_next}
use Rattle.gt_streams.proofs.mem_door.MemDoorDoor.next_link.Goals as goal

pub returns-then-is_err-clause-value : goal.returns-then-is_err-clause-value
returns-then-is_err-clause-value c = record { out = ap (λ d. d.is_out) c.self.view_is ∙ c.requires; ended = refl }

pub invariant_of-self-in-Ok-Some : goal.invariant_of-self-in-Ok-Some
invariant_of-self-in-Ok-Some c =
    let at : slice_get c.self.inside.links.items c.self.inside.next ≡ Some c.in-Ok-Some.link = search rules in
    let out : number_out c.self.inside.is_out ≡ 0 = ap number_out (ap (λ d. d.is_out) c.self.view_is ∙ c.requires) in
    (omega (arith, out, c.self.invariant.0), omega (arith, slice_get_within c.self.inside.links.items c.self.inside.next c.in-Ok-Some.link at), c.self.invariant.2)

pub returns-in-Ok-Some-clause-told : goal.returns-in-Ok-Some-clause-told
returns-in-Ok-Some-clause-told c =
    let at : slice_get c.self.inside.links.items c.self.inside.next ≡ Some c.in-Ok-Some.link = search rules in
    record {
      handed = take_next c.self.inside.links.items c.self.inside.next c.in-Ok-Some.link at ∙ ap (λ d. take d.next d.links ++ c.in-Ok-Some.link ∷ []) c.self.view_is;
      back = search rules;
    }

pub returns-in-Ok-None-clause-value : goal.returns-in-Ok-None-clause-value
returns-in-Ok-None-clause-value c = record { out = ap (λ d. d.is_out) c.self.view_is ∙ c.requires; ended = refl }

pub returns-in-Ok-None-clause-listed : goal.returns-in-Ok-None-clause-listed
returns-in-Ok-None-clause-listed c =
    let at : slice_get c.self.inside.links.items c.self.inside.next ≡ None = search rules in
    let past : length c.self.inside.links.items ≤ c.self.inside.next = slice_get_none c.self.inside.links.items c.self.inside.next at in
    record {
      value = search rules;
      some = search rules;
      none = λ is. search rules;
      memory = search rules;
      listed = search rules;
    }

pub returns-in-Err-clause-value : goal.returns-in-Err-clause-value
returns-in-Err-clause-value c = record { out = ap (λ d. d.is_out) c.self.view_is ∙ c.requires; ended = refl }

pub returns-in-Err-clause-listed : goal.returns-in-Err-clause-listed
returns-in-Err-clause-listed c =
    record {
      value = search rules;
      some = search rules;
      none = search rules;
      memory = search rules;
      listed = search rules;
    }
