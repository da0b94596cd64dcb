-- What is hard here: a link that is out leaves room for it among those given back.
use Rattle.std.specs.Prelude.{length, ◌+◌, ◌≡◌}
use Rattle.std.proofs.Common.{ap, arith, ◌∙◌}
use Rattle.std.proofs.lemmas.List.{length_push}
use Rattle.gt_streams.specs.MemoryDoor.{Link, number_out}
use Rattle.gt_streams.proofs.mem_door.MemDoorDoor.give_back.Goals as goal

pub push_reserved-requires : goal.push_reserved-requires
push_reserved-requires c =
    let out : number_out c.self.inside.is_out ≡ 1 = ap number_out (ap (λ d. d.is_out) c.self.view_is ∙ c.requires) in
    omega (arith, out, c.self.invariant.0, c.self.invariant.1, c.self.invariant.2)

pub invariant_of-self : goal.invariant_of-self
invariant_of-self c =
    let out : number_out c.self.inside.is_out ≡ 1 = ap number_out (ap (λ d. d.is_out) c.self.view_is ∙ c.requires) in
    let more : length c.push_reserved.new.self.items ≡ length c.self.inside.back.items + 1 = ap (length {A = Link}) c.push_reserved.ensures.items ∙ length_push c.self.inside.back.items c.args.link in
    (omega (arith, out, more, c.self.invariant.0), c.self.invariant.1, omega (arith, c.self.invariant.2, c.push_reserved.ensures.capacity))
