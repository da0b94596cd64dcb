-- What a reader gives: a value, the place of what is bad, or want of memory.
use Rattle.std.specs.Prelude.{Bool, Err, Ok, Result, if◌then◌else◌, ⊤, ◌≡◌}
use Rattle.gt_documents.specs.Place.{Place}
use Rattle.gt_documents.specs.declared.fault.DocumentFault.{DocumentFault}
use Rattle.gt_documents.specs.declared.fault.DocumentFault.TheVariants.{Bad, OutOfMemory}

-- goes on where the test holds
abbrev pub unless_not : {E : Type 0} → Bool → E → Result Unit E
unless_not holds e = if holds then Ok tt else Err e

-- the result is the reading, its value as it is seen, or memory was wanted
abbrev pub ReadsWith : {A B : Type 0} → (A → B) → Result B Place → Result A DocumentFault → Type 0
ReadsWith seen said (Ok a) = said ≡ Ok (seen a)
ReadsWith seen said (Err (Bad place)) = said ≡ Err place
ReadsWith seen said (Err OutOfMemory) = ⊤

-- the same of a value that is seen as it is
abbrev pub ReadsAs : {A : Type 0} → Result A Place → Result A DocumentFault → Type 0
ReadsAs said result = ReadsWith (λ a. a) said result
