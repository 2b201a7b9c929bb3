-- What a typed block gives and the branch that it takes depend only on the inputs with feedthrough.
use Rattle.std.proofs.Common.{◌≡◌, ℕ, suc, ◌+◌, ◌<◌, Bool, true, false, cond, ℤ, List, [], length, Result, refl, ap, arith, add-one}
use Rattle.sci_base.specs.declared.observation.StopWord.{StopWord}
use Rattle.sci_base.specs.Lists.{truth_at}
use Rattle.sci_forms.specs.declared.spec.Spec.{Spec}
use Rattle.sci_forms.specs.Typed.{typed}
use Rattle.sci_kinds.proofs.LawProofs.{laid_inputs}
use Rattle.sci_net.specs.Parts.{Parts, IsBlock, spec_of}
use Rattle.sci_forms.specs.Form.{is_sensor}
use Rattle.sci_reaction.specs.Memory.{Memory, Columns, next_value}
use Rattle.sci_reaction.specs.Equations.{branch_on, answer, sensed, values_or_word}
use Rattle.sci_reaction.proofs.Agreement.{AgreeThrough, IsFair}

chosen_same : (t : Bool) (r f g : Result (List ℤ) StopWord) → (t ≡ false → f ≡ g) → cond t r f ≡ cond t r g
chosen_same true r f g h = refl
chosen_same false r f g h = h refl

module _ (n : Parts) (m : Memory) (i : Columns) (typed_all : (b : ℕ) → IsBlock n b → typed (spec_of n b) ≡ true) where
  same_through : (b : ℕ) (xs ys : ℕ → List ℤ) → IsBlock n b → AgreeThrough n b xs ys → (k : ℕ) → k < length (spec_of n b).ins → truth_at (spec_of n b).feed k ≡ true → xs (k + 1) ≡ ys (k + 1)
  same_through b xs ys inside agree k l on = rw add-one (agree (suc k) (record { block = inside; least = omega arith; most = omega (arith, l) }) on)

  fair_answers : (b mask : ℕ) (xs ys : ℕ → List ℤ) → IsBlock n b → AgreeThrough n b xs ys → answer n m i b mask xs ≡ answer n m i b mask ys
  unfolding answer
  fair_answers b mask xs ys inside agree =
      let s : Spec = spec_of n b in
      chosen_same (is_sensor s.kind) (sensed s (m.state b) mask (next_value i s (m.cursor b))) _ _
      (λ other. ap values_or_word (laid_inputs s (m.state b) mask xs ys (typed_all b inside) (same_through b xs ys inside agree)).0)

  fair_branches : (b : ℕ) (xs ys : ℕ → List ℤ) → IsBlock n b → AgreeThrough n b xs ys → branch_on (spec_of n b) xs ≡ branch_on (spec_of n b) ys
  unfolding branch_on
  fair_branches b xs ys inside agree = (laid_inputs (spec_of n b) [] 0 xs ys (typed_all b inside) (same_through b xs ys inside agree)).1

  pub fair : IsFair n m i
  fair = record { answers = fair_answers; branches = fair_branches }
