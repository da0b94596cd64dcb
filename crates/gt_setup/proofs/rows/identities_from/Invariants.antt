use Rattle.std.proofs.Common.{List, Ok, [], drop, length, ℕ, ◌++◌, ◌≡◌}
use Rattle.std.specs.BTreeMap.{BTreeMap, keys}
use Rattle.toml.specs.View.{items_view}
use Rattle.toml.specs.declared.value.Value.{Value}
use Rattle.gt_setup.specs.Grammar.{identities_from}
use Rattle.gt_values.specs.Results.{◌>>=◌}
use Rattle.gt_setup.specs.Indexed.{IsIndexOf}
use Rattle.gt_setup.specs.Setup.{lists}
use Rattle.gt_setup.specs.declared.parts.Identity.{Identity}
use Rattle.gt_setup.proofs.rows.identities_from.Given as goal

-- the identities of the rows before this one, whose tokens have been taken
pub record ReadsBefore (rows : List Value) (number : ℕ) (identities : List Identity) (taken : BTreeMap (List ℕ) ℕ) : Type 0 where
  pub read :
      identities_from 0 [] (items_view rows)
      ≡ (identities_from number (keys taken) (items_view (drop number rows)) >>= (λ rest. Ok (identities ++ rest)))
  pub index : IsIndexOf lists identities taken
  pub count : number ≡ length identities

abbrev pub invariant-loop-number : goal.invariant-loop-number
invariant-loop-number l = ReadsBefore l.rows l.number l.identities.items l.taken
