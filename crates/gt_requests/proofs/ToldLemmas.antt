-- How a fault of a reading is told.
use Rattle.std.proofs.Common.{◌≡◌, ◌<◌, ◌≤◌, ◌⊎◌, inl, inr, ℕ, List, Option, Result, Err, length, sym, ap, subst}
use Rattle.std.proofs.lemmas.Bool.{lt-leb}
use Rattle.std.specs.Result.{result_map_both}
use Rattle.gt_setup.specs.Setup.{Setup}
use Rattle.gt_types.specs.declared.reply.ReplyCode.TheVariants.{TooLarge}
use Rattle.gt_requests.specs.Outcome.{Gives, IsTold}
use Rattle.gt_requests.specs.Request.{read_of, request_of, told}
use Rattle.gt_requests.specs.declared.fault.RequestFault.{RequestFault}
use Rattle.gt_requests.specs.declared.fault.RequestFault.TheVariants as request
use Rattle.gt_requests.specs.declared.refusal.ReadFault.{ReadFault}
use Rattle.gt_requests.specs.declared.refusal.ReadFault.TheVariants as fault
use Rattle.gt_requests.specs.declared.refusal.Refusal.{Refusal}
use Rattle.gt_requests.specs.declared.refusal.Refusal.TheVariants as refusal

-- the fault is told as the reading's, or memory was wanted
pub told_fault : {A : Type 0} (said : Result A Refusal) (f : ReadFault) (result : RequestFault) → Gives {A = A} said (Err f) → IsTold f result
    → (result ≡ request.OutOfMemory) ⊎ (result_map_both (λ r. r) told said ≡ Err result)
told_fault said fault.OutOfMemory result g t = inl t
told_fault said (fault.Refusal (refusal.Plain code)) result g t = inr (rw g (ap Err (sym t)))
told_fault said (fault.Refusal (refusal.Bad place)) result g (inl t) = inr (rw g (ap Err (sym t)))
told_fault said (fault.Refusal (refusal.Bad place)) result g (inr t) = inl t

is_told_plain : (result : RequestFault) → IsTold (fault.Refusal (refusal.Plain TooLarge)) result → result ≡ request.OutOfMemory → ⊥
is_told_plain result t e = absurd (cc (t, e))

-- a long body is refused whatever else the request has
pub long_body : (setup : Setup) (method target : List ℕ) (token : Option (List ℕ)) (body : List ℕ) → 4194304 < length body
    → request_of setup method target token body ≡ Err (told (refusal.Plain TooLarge))
unfolding request_of read_of
long_body setup method target token body h = rw (lt-leb (length body) 4194304 h)

-- where memory was wanted, the body wasn't too long
pub told_memory : (f : ReadFault) (result : RequestFault) (bytes : ℕ) → IsTold f result → (f ≡ fault.Refusal (refusal.Plain TooLarge)) ⊎ (bytes ≤ 4194304)
    → result ≡ request.OutOfMemory → bytes ≤ 4194304
told_memory f result bytes t (inl h) e = absurd (is_told_plain result (subst (λ (x : ReadFault). IsTold x result) h t) e)
told_memory f result bytes t (inr h) e = h
