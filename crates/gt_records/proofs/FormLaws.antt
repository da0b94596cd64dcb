-- A value of several forms is read by the first form whose number stands before it.
use Rattle.std.proofs.Common.{◌≡◌, ℕ, Bool, true, List, [], ◌∷◌, Some, refl, sym, subst, ◌∙◌, eqb, inl, inr}
use Rattle.std.proofs.lemmas.Bool.{eqb-true}
use Rattle.gt_records.specs.Reading.{Form, alone, mapped, of_form}
use Rattle.gt_records.proofs.Laws.{IsBytes, Reads, Takes, chosen, mapped_takes, some_is}
use Rattle.gt_values.specs.Grammar.{Read}

-- what the form reads is the text of a valid value of its number
pub record FormTakes {X : Type 0} (lead : X → ℕ) (text : X → List ℕ) (valid : X → Bool) (form : Form X) : Type 0 where
  pub takes : (bytes : List ℕ) (x : X) (rest : List ℕ) → IsBytes bytes → form.reader bytes ≡ Some (x, rest)
      → Takes bytes (text x) rest × (valid x ≡ true) × (lead x ≡ form.number)

-- the same of each form
abbrev pub FormsTake : {X : Type 0} → (X → ℕ) → (X → List ℕ) → (X → Bool) → List (Form X) → Type 0
FormsTake lead text valid [] = Unit {0}
FormsTake lead text valid (form ∷ forms) = FormTakes lead text valid form × FormsTake lead text valid forms

pub forms_take : {X : Type 0} (lead : X → ℕ) (text : X → List ℕ) (valid : X → Bool) (forms : List (Form X)) → FormsTake lead text valid forms
    → (number : ℕ) (bytes : List ℕ) (x : X) (rest : List ℕ) → IsBytes bytes → of_form forms number bytes ≡ Some (x, rest)
    → Takes bytes (text x) rest × (valid x ≡ true) × (lead x ≡ number)
forms_take lead text valid [] laws number bytes x rest fits e = absurd cc
forms_take lead text valid (form ∷ forms) laws number bytes x rest fits e =
    elim (chosen (eqb number form.number) (form.reader bytes) (of_form forms number bytes) (Some (x, rest)) e) [
      | inl t ↦ let s = laws.0.takes bytes x rest fits t.1 in (s.0, s.1, s.2 ∙ sym (eqb-true number form.number t.0))
      | inr t ↦ forms_take lead text valid forms laws.1 number bytes x rest fits t.1
    ]

-- a form that is made of fields
pub made_form : {A X : Type 0} {reader : List ℕ → Read A} (lead : X → ℕ) (text : X → List ℕ) (valid : X → Bool) (number : ℕ) (make : A → X)
    → Reads reader (λ a. text (make a)) (λ a. valid (make a)) → ((a : A) → lead (make a) ≡ number)
    → FormTakes lead text valid (record { number = number; reader = mapped make reader })
made_form {A} {X} {reader} lead text valid number make reads is = record {
  takes = λ bytes x rest fits e.
      let m = mapped_takes make reads bytes x rest fits e in
      subst (λ (y : X). Takes bytes (text y) rest × (valid y ≡ true) × (lead y ≡ number)) m.1 (m.2, m.3, is m.0);
}

-- a form that nothing follows
pub lone_form : {X : Type 0} (lead : X → ℕ) (text : X → List ℕ) (valid : X → Bool) (x : X)
    → [] ≡ text x → valid x ≡ true → FormTakes lead text valid (record { number = lead x; reader = alone x })
lone_form {X} lead text valid x empty good = record {
  takes = λ bytes y rest fits e.
      let there : X × List ℕ = (x, bytes) in
      subst (λ (p : X × List ℕ). Takes bytes (text p.0) p.1 × (valid p.0 ≡ true) × (lead p.0 ≡ lead x)) (some_is there (y, rest) e)
      (subst (λ (t : List ℕ). Takes bytes t bytes) empty (record { parts = refl; rest_fits = fits }), good, refl);
}
