-- What the code gives for a reading.
use Rattle.std.specs.Prelude.{Err, Ok, Result, ⊤, ◌≡◌, ◌⊎◌}
use Rattle.gt_requests.specs.Request.{told}
use Rattle.gt_documents.specs.declared.fault.DocumentFault.{DocumentFault}
use Rattle.gt_documents.specs.declared.fault.DocumentFault.TheVariants as document
use Rattle.gt_requests.specs.declared.fault.RequestFault.{RequestFault}
use Rattle.gt_requests.specs.declared.fault.RequestFault.TheVariants as request
use Rattle.gt_requests.specs.declared.refusal.ReadFault.{ReadFault}
use Rattle.gt_requests.specs.declared.refusal.ReadFault.TheVariants as fault
use Rattle.gt_requests.specs.declared.refusal.Refusal.{Refusal}
use Rattle.gt_requests.specs.declared.refusal.Refusal.TheVariants as refusal

-- the value that the reading gives, its refusal, or want of memory
abbrev pub Gives : {A : Type 0} → Result A Refusal → Result A ReadFault → Type 0
Gives said (Ok a) = said ≡ Ok a
Gives said (Err (fault.Refusal refusal)) = said ≡ Err refusal
Gives said (Err fault.OutOfMemory) = ⊤

-- the fault of a document as that of its request
abbrev pub read_fault : DocumentFault → ReadFault
read_fault (document.Bad place) = fault.Refusal (refusal.Bad place)
read_fault document.OutOfMemory = fault.OutOfMemory

-- a refusal is told, or memory was wanted, which it never is for a refusal that names no place
abbrev pub IsTold : ReadFault → RequestFault → Type 0
IsTold fault.OutOfMemory result = result ≡ request.OutOfMemory
IsTold (fault.Refusal (refusal.Plain code)) result = result ≡ told (refusal.Plain code)
IsTold (fault.Refusal (refusal.Bad place)) result = (result ≡ told (refusal.Bad place)) ⊎ (result ≡ request.OutOfMemory)
