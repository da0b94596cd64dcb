use Rattle.gt_machine.proofs.NamedLemmas.{made_named, names_made}
use Rattle.gt_machine.proofs.laws.identifiers_name_what_is_made.Goals as goal

pub returns : goal.returns
returns c = record { made = names_made; named = made_named }
