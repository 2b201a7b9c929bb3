-- How steps go, one after the other, and what they may read.
use Rattle.std.proofs.Common.{◌≡◌, ℕ, zero, suc, ◌+◌, ◌≤◌, ◌≤ℤ◌, ◌-ℤ◌, inl, inr, Option, Some, Bool, true, false, ◌||◌, true≢false, refl, ap, ◌∙◌, arith, ℤ, pos, negsuc, if◌then◌else◌, List, [], ◌∷◌, ◌++◌}
use Rattle.std.specs.Prelude.{nat_eq, int_lt}
use Rattle.std.proofs.lemmas.Bool.Decides.{nat_tests}
use Rattle.std.proofs.lemmas.Int.{ints}
use Rattle.sci_base.specs.declared.Ty.{Ty}
use Rattle.sci_base.specs.declared.Mode.{Mode}
use Rattle.sci_base.specs.declared.Mode.TheVariants.{Wrap, Saturate, Stop}
use Rattle.sci_base.specs.Fit.{low, high, span, fit}
use Rattle.sci_base.proofs.FitLemmas.{low_at_least, high_at_most, low≤high, span_at_most, fit_inside, fit_below, fit_above}
use Rattle.sci_kinds.specs.declared.Cell.{Cell}
use Rattle.sci_kinds.specs.declared.Cell.TheVariants.{Value, Overflow, Zero}
use Rattle.sci_kinds.specs.Table.{fitted}
use Rattle.c_ast.specs.declared.Op.TheVariants.{Lt, Gt, Or}
use Rattle.c_mean.specs.Meaning.{truth, ◌>>=◌}
use Rattle.c_mean.specs.Laws.{Within}
use Rattle.sci_cgen_blocks.specs.Terms.{Given, Term, constant, input, along, state, state_along, state_behind, mask, scratch, both, value, Scratch, with_scratch, Step, change, assign, assign_if, stop_if, worked, worked_by, do_step, Gives, work_under, stopped_under, Readable, TermFits, StepsFit, IsSpelled, IsScratch}
use Rattle.sci_cgen_blocks.specs.Recipes.{result, set_if, fit_steps}
use Rattle.sci_cgen_blocks.proofs.Operators.{lt_is, gt_is, or_is}
use Rattle.sci_cgen_blocks.proofs.Fitting.{wrapped_is, fit_wrap, cases_below, lt_yes, lt_no}

-- steps and the value behind them, which give what a cell is
pub record Reaches (g : Given) (xs : List Step) (v : Term) (s : Scratch) (c : Cell) : Type 0 where
  pub gives : Gives g (record { steps = xs; value = v }) s c

-- ---- steps

same_number : (n : ℕ) → nat_eq n n ≡ true
same_number n = grind (arith, nat_tests)

-- a step that goes on
pub step_goes : {g : Given} {x : Step} {xs : List Step} {v : Term} {s : Scratch} {c : Cell} {s' : Scratch} → do_step g x s ≡ worked s' → Reaches g xs v s' c
    → Reaches g (x ∷ xs) v s c
step_goes {g} {x} {xs} {v} {s} {c} {s'} e h = record { gives = by_cell c h.gives }
  where
    by_cell : (c : Cell) → Gives g (record { steps = xs; value = v }) s' c → Gives g (record { steps = x ∷ xs; value = v }) s c
    by_cell (Value z) h = record { behind = h.behind; works = rw e h.works; is = h.is }
    by_cell Overflow h = rw e h
    by_cell Zero h = rw e h

-- scratch n becomes a number
pub assign_goes : {g : Given} {n : ℕ} {t : Term} {xs : List Step} {v : Term} {s : Scratch} {c : Cell} {z : ℤ} → value g s t ≡ Some z
    → Reaches g xs v (with_scratch n z s) c
    → Reaches g (change (assign n t) ∷ xs) v s c
assign_goes {n} {s} e h = step_goes (ap (λ (o : Option ℤ). worked_by (o >>= λ y. Some (with_scratch n y s))) e) h

-- or it does where a test is true
pub assign_if_goes : {g : Given} {test : Term} {n : ℕ} {t : Term} {xs : List Step} {v : Term} {s : Scratch} {c : Cell} {z : ℤ} (b : Bool)
    → value g s test ≡ Some (truth b) → (b ≡ true → value g s t ≡ Some z)
    → ((s' : Scratch) → s' n ≡ (if b then z else s n) → ((k : ℕ) → nat_eq n k ≡ false → s' k ≡ s k) → Reaches g xs v s' c)
    → Reaches g (change (assign_if test n t) ∷ xs) v s c
assign_if_goes {g} {n} {t} {s} {z} true e f h =
    step_goes (ap (λ (o : Option ℤ). worked_by (o >>= work_under g s n t)) e ∙ ap (λ (o : Option ℤ). worked_by (o >>= λ y. Some (with_scratch n y s)))
    (f refl))
    (h (with_scratch n z s) (put_here n z s) (λ k d. put_elsewhere n z s k d))
  where
    put_here : (n : ℕ) (z : ℤ) (s : Scratch) → with_scratch n z s n ≡ z
    put_here n z s = rw (same_number n) refl

    put_elsewhere : (n : ℕ) (z : ℤ) (s : Scratch) (k : ℕ) → nat_eq n k ≡ false → with_scratch n z s k ≡ s k
    put_elsewhere n z s k d = rw d refl
assign_if_goes {g} {n} {t} {s} false e f h = step_goes (ap (λ (o : Option ℤ). worked_by (o >>= work_under g s n t)) e) (h s refl (λ k d. refl))

-- a test that isn't met goes on
pub test_goes : {g : Given} {test : Term} {word : ℕ} {xs : List Step} {v : Term} {s : Scratch} {c : Cell} → value g s test ≡ Some (pos 0) → Reaches g xs v s c
    → Reaches g (stop_if test word ∷ xs) v s c
test_goes {word} {s} e h = step_goes (ap (stopped_under word s) e) h

-- one that is met stops
pub overflow_stops : {g : Given} {test : Term} {xs : List Step} {v : Term} {s : Scratch} → value g s test ≡ Some (pos 1)
    → Reaches g (stop_if test 0 ∷ xs) v s Overflow
overflow_stops e = record { gives = rw e refl }

pub zero_stops : {g : Given} {test : Term} {xs : List Step} {v : Term} {s : Scratch} → value g s test ≡ Some (pos 1)
    → Reaches g (stop_if test 1 ∷ xs) v s Zero
zero_stops e = record { gives = rw e refl }

-- no step more
pub done_gives : {g : Given} {v : Term} {s : Scratch} {z : ℤ} → value g s v ≡ Some z → Reaches g [] v s (Value z)
done_gives {s} e = record { gives = record { behind = s; works = refl; is = e } }

-- ---- fitting

-- numbers up to 2^62 are near enough to each type
pub near : (t : Ty) (z : ℤ) → negsuc 4611686018427387903 ≤ℤ z → z ≤ℤ pos 4611686018427387904 → Within (z -ℤ low t)
near t z h k =
    let l = low_at_least t in
    let b = high_at_most t in
    let lh = low≤high t in
    record { above = omega (arith, ints, h, k, l, b, lh); below = omega (arith, ints, h, k, l, b, lh) }

module _ (g : Given) (t : Ty) (s : Scratch) where
  below_is : (z : ℤ) (b : Bool) → s 1 ≡ z → int_lt z (low t) ≡ b → value g s (both Lt result (constant (low t))) ≡ Some (truth b)
  below_is z b e f = lt_is (ap Some e) refl ∙ ap (λ (x : Bool). Some (truth x)) f

  above_is : (z : ℤ) (b : Bool) → s 1 ≡ z → int_lt (high t) z ≡ b → value g s (both Gt result (constant (high t))) ≡ Some (truth b)
  above_is z b e f = gt_is (ap Some e) refl ∙ ap (λ (x : Bool). Some (truth x)) f

  -- the result is brought to the nearer end
  saturate_gives : (z : ℤ) → s 1 ≡ z → Reaches g (fit_steps t Saturate) result s (fitted (fit t Saturate z))
  saturate_gives z e = elim (cases_below z (low t)) [
    | inl l ↦ rw (fit_below t Saturate z l, lt_yes z (low t) l) (from_low true z (low t) e (lt_yes z (low t) l) refl (lt_no (high t) (low t) (low≤high t)))
    | inr l ↦ elim (cases_below (high t) z) [
      | inl h ↦ rw (fit_above t Saturate z h, lt_no z (low t) l) (to_high z e (lt_no z (low t) l) (lt_yes (high t) z h))
      | inr h ↦ rw (fit_inside t Saturate z l h) (from_low false z z e (lt_no z (low t) l) refl (lt_no (high t) z h))
    ]
  ]
    where
      last : (s' : Scratch) (v w : ℤ) (b : Bool) → s' 1 ≡ v → int_lt (high t) v ≡ b → (if b then high t else v) ≡ w
          → Reaches g (set_if (both Gt result (constant (high t))) (constant (high t)) ∷ []) result s' (Value w)
      last s' v w b e f d = assign_if_goes b (gt_is (ap Some e) refl ∙ ap (λ (x : Bool). Some (truth x)) f) (λ _. refl)
          (λ s'' q k. done_gives (ap Some (q ∙ ap (λ (y : ℤ). if b then high t else y) e ∙ d)))

      from_low : (b : Bool) (z v : ℤ) → s 1 ≡ z → int_lt z (low t) ≡ b → (if b then low t else z) ≡ v → int_lt (high t) v ≡ false
          → Reaches g (fit_steps t Saturate) result s (Value v)
      from_low b z v e f d h = assign_if_goes b (below_is z b e f) (λ _. refl)
          (λ s' q k. last s' v v false (q ∙ ap (λ (y : ℤ). if b then low t else y) e ∙ d) h refl)

      to_high : (z : ℤ) → s 1 ≡ z → int_lt z (low t) ≡ false → int_lt (high t) z ≡ true → Reaches g (fit_steps t Saturate) result s (Value (high t))
      to_high z e f h = assign_if_goes false (below_is z false e f) (λ _. refl)
          (λ s' q k. last s' z (high t) true (q ∙ e) h refl)

  outside_is : (z : ℤ) (a b : Bool) → s 1 ≡ z → int_lt z (low t) ≡ a → (a ≡ false → int_lt (high t) z ≡ b)
      → value g s (both Or (both Lt result (constant (low t))) (both Gt result (constant (high t)))) ≡ Some (truth (a || b))
  outside_is z a b e f h = or_is a b (below_is z a e f) (λ n. above_is z b e (h n))

  -- or nothing fits
  stop_gives : (z : ℤ) → s 1 ≡ z → Reaches g (fit_steps t Stop) result s (fitted (fit t Stop z))
  stop_gives z e = elim (cases_below z (low t)) [
    | inl l ↦ rw (fit_below t Stop z l) (overflow_stops (outside_is z true true e (lt_yes z (low t) l) (λ n. absurd (true≢false n))))
    | inr l ↦ elim (cases_below (high t) z) [
      | inl h ↦ rw (fit_above t Stop z h) (overflow_stops (outside_is z false true e (lt_no z (low t) l) (λ n. lt_yes (high t) z h)))
      | inr h ↦ rw (fit_inside t Stop z l h) (test_goes (outside_is z false false e (lt_no z (low t) l) (λ n. lt_no (high t) z h)) (done_gives (ap Some e)))
    ]
  ]

  -- the steps that fit give what is fitted
  pub fit_gives : (m : Mode) (z : ℤ) → s 1 ≡ z → Within (z -ℤ low t) → Reaches g (fit_steps t m) result s (fitted (fit t m z))
  fit_gives Wrap z e w = rw (fit_wrap t z) (assign_goes (wrapped_is (ap Some e) t w) (done_gives refl))
  fit_gives Saturate z e w = saturate_gives z e
  fit_gives Stop z e w = stop_gives z e

-- ---- what may be read

pub spelled : (n : ℕ) → n ≤ 9223372036854775807 → IsSpelled (pos n)
spelled n h = (omega (arith, ints), omega (arith, ints, h))

pub low_spelled : (t : Ty) → IsSpelled (low t)
low_spelled t = let l = low_at_least t in let h = high_at_most t in let lh = low≤high t in (omega (arith, ints, l, h, lh), omega (arith, ints, l, h, lh))

pub high_spelled : (t : Ty) → IsSpelled (high t)
high_spelled t = let l = low_at_least t in let h = high_at_most t in let lh = low≤high t in (omega (arith, ints, l, h, lh), omega (arith, ints, l, h, lh))

pub span_spelled : (t : Ty) → IsSpelled (pos (span t))
span_spelled t = spelled (span t) (omega (arith, span_at_most t))

-- What a term reads may be read, whatever its depth; and how many terms it is of.
abbrev pub TermReads : Readable → Term → Type 0
TermReads r (constant z) = IsSpelled z
TermReads r (input k e) = r.input k e
TermReads r (along k) = r.input k r.element
TermReads r (state i) = r.state i
TermReads r state_along = r.state r.element
TermReads r state_behind = r.state (suc r.element)
TermReads r mask = r.mask ≡ true
TermReads r (scratch n) = IsScratch r n
TermReads r (both op a b) = TermReads r a × TermReads r b

abbrev pub weight : Term → ℕ
weight (both op a b) = suc (weight a + weight b)
weight _ = 1

-- a term of so many terms is no deeper
pub reads_fit : (r : Readable) (d : ℕ) (t : Term) → TermReads r t → weight t ≤ d → TermFits r d t
reads_fit r zero (constant z) h l = absurd (omega (arith, l))
reads_fit r zero (input k e) h l = absurd (omega (arith, l))
reads_fit r zero (along k) h l = absurd (omega (arith, l))
reads_fit r zero (state i) h l = absurd (omega (arith, l))
reads_fit r zero state_along h l = absurd (omega (arith, l))
reads_fit r zero state_behind h l = absurd (omega (arith, l))
reads_fit r zero mask h l = absurd (omega (arith, l))
reads_fit r zero (scratch n) h l = absurd (omega (arith, l))
reads_fit r zero (both op a b) h l = absurd (omega (arith, l))
reads_fit r (suc d) (constant z) h l = h
reads_fit r (suc d) (input k e) h l = h
reads_fit r (suc d) (along k) h l = h
reads_fit r (suc d) (state i) h l = h
reads_fit r (suc d) state_along h l = h
reads_fit r (suc d) state_behind h l = h
reads_fit r (suc d) mask h l = h
reads_fit r (suc d) (scratch n) h l = h
reads_fit r (suc d) (both op a b) h l = (reads_fit r d a h.0 (omega (arith, l)), reads_fit r d b h.1 (omega (arith, l)))

pub joined_fit : (r : Readable) (xs ys : List Step) → StepsFit r xs → StepsFit r ys → StepsFit r (xs ++ ys)
joined_fit r [] ys h k = k
joined_fit r (x ∷ xs) ys h k = (h.0, joined_fit r xs ys h.1 k)

pub fit_reads : (r : Readable) (t : Ty) (m : Mode) → 1 ≤ r.scratch → StepsFit r (fit_steps t m)
fit_reads r t Wrap h =
    let one : IsScratch r 1 = (omega arith, h) in
    let l = low_spelled t in
    let n = span_spelled t in
    ((one, (l, ((((one, l), n), n), n))), tt)
fit_reads r t Saturate h =
    let one : IsScratch r 1 = (omega arith, h) in ((one, (one, low_spelled t), low_spelled t), ((one, (one, high_spelled t), high_spelled t), tt))
fit_reads r t Stop h =
    let one : IsScratch r 1 = (omega arith, h) in ((((one, low_spelled t), (one, high_spelled t)), omega arith), tt)
