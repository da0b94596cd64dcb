-- What a decision says, and what it makes.
use Rattle.std.specs.Prelude.{List, [], max, ℕ, ◌∷◌}
use Rattle.gt_machine.specs.MachineState.{MachineState}
use Rattle.gt_machine.specs.declared.decision.Decision.{Decision}
use Rattle.gt_machine.specs.declared.decision.Decision.TheVariants.{Do, Say}
use Rattle.gt_types.specs.declared.event.Event.{Event}
use Rattle.gt_types.specs.declared.event.Happening.{Happening}
use Rattle.gt_types.specs.declared.reply.Reply.{Reply}
use Rattle.gt_types.specs.declared.reply.Reply.TheVariants.{Refused as RefusedReply}
use Rattle.gt_types.specs.declared.reply.ReplyCode.{ReplyCode}

-- the answer
abbrev pub said : {A : Type 0} → Decision A → A
said (Say answer) = answer
said (Do event answer) = answer

-- the event that is made, as a list of at most one
abbrev pub events_in : {A : Type 0} → Decision A → List Event
events_in (Say answer) = []
events_in (Do event answer) = event ∷ []

-- the event of a request at this moment; moments don't go back
abbrev pub event_at : MachineState → ℕ → Happening → Event
event_at m now what = record { moment = max now m.greatest; what = what }

-- an event with its answer
abbrev pub doing : {A : Type 0} → MachineState → ℕ → Happening → A → Decision A
doing m now what answer = Do (event_at m now what) answer

-- a refusal
abbrev pub refusing : ReplyCode → Decision Reply
refusing code = Say (RefusedReply code)
