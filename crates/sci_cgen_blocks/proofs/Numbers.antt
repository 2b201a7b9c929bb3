-- The recipes of kinds that take one number, or the extreme of some: AbsValue, Signum, MaxMin, Saturation, DeadBand and Convert.
use Rattle.std.proofs.Common.{◌≡◌, ℕ, zero, suc, ◌+◌, ◌-◌, ◌<◌, ◌≤◌, ◌≤ℤ◌, ◌-ℤ◌, Some, Bool, true, false, refl, ap, ◌∙◌, subst, arith, ℤ, pos, negsuc, if◌then◌else◌, List, ◌∷◌, length}
use Rattle.std.specs.Prelude.{int_lt}
use Rattle.std.specs.Int.{int_min, int_max}
use Rattle.std.proofs.lemmas.Int.{ints}
use Rattle.sci_base.specs.declared.Ty.{Ty}
use Rattle.sci_base.specs.declared.Mode.{Mode}
use Rattle.sci_base.specs.Fit.{fit, InRange, int_eq}
use Rattle.sci_base.proofs.FitLemmas.{fit_inside}
use Rattle.sci_base.specs.Lists.{at}
use Rattle.sci_forms.specs.declared.Kind.TheVariants.{AbsValue, Signum, MaxMin, Saturation, DeadBand, Convert}
use Rattle.sci_forms.specs.declared.spec.Spec.{Spec}
use Rattle.sci_forms.specs.Ports.{total, Fills}
use Rattle.sci_forms.specs.Words.{param, out_type, in_type, size}
use Rattle.sci_kinds.specs.declared.Cell.TheVariants.{Value}
use Rattle.sci_kinds.specs.Table.{mode_of, input as input_of, sign, brought as brought_number, fitted, abs_cell, beyond_cell, least_to, greatest_to, extreme, cell_of}
use Rattle.sci_kinds.specs.Asks.{Asks}
use Rattle.sci_kinds.proofs.Elements.{first_input_in_range}
use Rattle.sci_kinds.proofs.Ranges.{zero_in_range}
use Rattle.c_ast.specs.declared.Op.{Op}
use Rattle.c_ast.specs.declared.Op.TheVariants.{Sub, Lt, Gt}
use Rattle.c_mean.specs.Meaning.{truth, operate}
use Rattle.sci_cgen_blocks.specs.Terms.{Given, constant, along, both, value, Scratch, with_scratch, Gives, Readable, StepsFit, RecipeFits, IsScratch}
use Rattle.sci_cgen_blocks.specs.Recipes.{natural, result, set, set_if, fit_steps, extremes, brought, recipe_of}
use Rattle.sci_cgen_blocks.proofs.Operators.{sub_is, lt_is, gt_is}
use Rattle.sci_cgen_blocks.proofs.Working.{Reaches, assign_goes, assign_if_goes, done_gives, near, fit_gives, spelled, fit_reads}
use Rattle.sci_cgen_blocks.proofs.Inputs.{given_for, given_input, given_first, in_size, small, spelled_in, fed_for, IsFed, element_read}

-- a number of the type needs no fitting
pub fitted_inside : (t : Ty) (m : Mode) (v : ℤ) → InRange t v → fitted (fit t m v) ≡ Value v
fitted_inside t m v r = rw (fit_inside t m v r.above r.below) refl

module _ (g : Given) (v : ℤ) (is : g.input 0 g.element ≡ v) (s : Scratch) where
  -- ---- AbsValue

  abs_reaches : (t : Ty) (m : Mode) → InRange t v
      → Reaches g (set (along 0) ∷ set_if (both Lt result (natural 0)) (both Sub (natural 0) result) ∷ fit_steps t m) result s (abs_cell t m v)
  abs_reaches t m r = by_sign (int_lt v (pos 0)) refl
    where
      b : (negsuc 2147483647 ≤ℤ v) × (v ≤ℤ pos 4294967295)
      b = small t v r

      by_sign : (n : Bool) → int_lt v (pos 0) ≡ n
          → Reaches g (set (along 0) ∷ set_if (both Lt result (natural 0)) (both Sub (natural 0) result) ∷ fit_steps t m) result s
          (if n then fitted (fit t m (pos 0 -ℤ v)) else Value v)
      by_sign true p = assign_goes (ap Some is) (assign_if_goes true (lt_is {x = v} {y = pos 0} refl refl ∙ ap (λ (x : Bool). Some (truth x)) p)
          (λ _. sub_is {x = pos 0} {y = v} refl refl (record { above = omega (arith, ints, b.0, b.1); below = omega (arith, ints, b.0, b.1) }))
          (λ s' q k. fit_gives g t s' m (pos 0 -ℤ v) q (near t _ (omega (arith, ints, b.0, b.1)) (omega (arith, ints, b.0, b.1)))))
      by_sign false p = assign_goes (ap Some is) (assign_if_goes {z = v} false (lt_is {x = v} {y = pos 0} refl refl ∙ ap (λ (x : Bool). Some (truth x)) p)
          (λ f. cc)
          (λ s' q k. subst (Reaches g (fit_steps t m) result s') (fitted_inside t m v r)
          (fit_gives g t s' m v q (near t v (omega (arith, ints, b.0)) (omega (arith, ints, b.1))))))

  -- ---- Signum

  sign_is : value g s (both Sub (both Gt (along 0) (natural 0)) (both Lt (along 0) (natural 0))) ≡ Some (sign v)
  sign_is = by_tests (int_lt v (pos 0)) (int_lt (pos 0) v) refl refl
    where
      by_tests : (a b : Bool) → int_lt v (pos 0) ≡ a → int_lt (pos 0) v ≡ b
          → value g s (both Sub (both Gt (along 0) (natural 0)) (both Lt (along 0) (natural 0))) ≡ Some
          (if a then negsuc 0 else if b then pos 1 else pos 0)
      by_tests true true p q = absurd (grind (arith, ints))
      by_tests true false p q = rw (is, p, q) refl
      by_tests false true p q = rw (is, p, q) refl
      by_tests false false p q = rw (is, p, q) refl

  -- ---- Saturation

  brought_reaches : (a b : ℤ) → Reaches g (brought a b (along 0)) result s (Value (brought_number a b v))
  brought_reaches a b =
      assign_goes (ap Some is) (assign_if_goes (int_lt b v) (gt_is {x = v} {y = b} refl refl) (λ _. refl) (λ s' q k.
      assign_if_goes (int_lt v a) (lt_is (ap Some is) refl) (λ _. refl) (λ s'' r l.
      done_gives (ap Some (r ∙ ap (λ (y : ℤ). if int_lt v a then a else y) q)))))

  -- ---- DeadBand

  abbrev beyond : ℤ → ℤ → ℤ
  beyond a b = if int_lt b v then v -ℤ b else if int_lt v a then v -ℤ a else pos 0

  beyond_reaches : (t : Ty) (m : Mode) (a b : ℤ) → InRange t v → InRange t a → InRange t b
      → Reaches g (set (natural 0) ∷ set_if (both Lt (along 0) (constant a)) (both Sub (along 0) (constant a))
      ∷ set_if (both Gt (along 0) (constant b)) (both Sub (along 0) (constant b)) ∷ fit_steps t m) result s (beyond_cell t m a b v)
  beyond_reaches t m a b rv ra rb =
      assign_goes refl (assign_if_goes (int_lt v a) (lt_is (ap Some is) refl) (λ _. less a ra) (λ s' q k.
      assign_if_goes (int_lt b v) (gt_is (ap Some is) refl) (λ _. less b rb) (λ s'' r l.
      subst (Reaches g (fit_steps t m) result s'') same
      (fit_gives g t s'' m (beyond a b) (r ∙ ap (λ (y : ℤ). if int_lt b v then v -ℤ b else y) q) (near t (beyond a b) bounds.0 bounds.1)))))
    where
      vs : (negsuc 2147483647 ≤ℤ v) × (v ≤ℤ pos 4294967295)
      vs = small t v rv

      less : (c : ℤ) → InRange t c → operate Sub (Some (g.input 0 g.element)) (Some c) ≡ Some (v -ℤ c)
      less c rc = let cs = small t c rc in
          sub_is (ap Some is) refl (record { above = omega (arith, ints, vs.0, vs.1, cs.0, cs.1); below = omega (arith, ints, vs.0, vs.1, cs.0, cs.1) })

      cond_bounds : (c : Bool) (x y l h : ℤ) → (l ≤ℤ x) × (x ≤ℤ h) → (l ≤ℤ y) × (y ≤ℤ h) → (l ≤ℤ (if c then x else y)) × ((if c then x else y) ≤ℤ h)
      cond_bounds true x y l h p q = p
      cond_bounds false x y l h p q = q

      less_bounds : (c : ℤ) → InRange t c → (negsuc 4611686018427387903 ≤ℤ (v -ℤ c)) × ((v -ℤ c) ≤ℤ pos 4611686018427387904)
      less_bounds c rc = let cs = small t c rc in (omega (arith, ints, vs.0, vs.1, cs.0, cs.1), omega (arith, ints, vs.0, vs.1, cs.0, cs.1))

      bounds : (negsuc 4611686018427387903 ≤ℤ beyond a b) × (beyond a b ≤ℤ pos 4611686018427387904)
      bounds = cond_bounds (int_lt b v) _ _ _ _ (less_bounds b rb) (cond_bounds (int_lt v a) _ _ _ _ (less_bounds a ra) (omega arith, omega arith))

      by_tests : (c d : Bool) → fitted (fit t m (if c then v -ℤ b else if d then v -ℤ a else pos 0))
          ≡ (if c then fitted (fit t m (v -ℤ b)) else if d then fitted (fit t m (v -ℤ a)) else Value (pos 0))
      by_tests true d = refl
      by_tests false true = refl
      by_tests false false = fitted_inside t m (pos 0) (zero_in_range t)

      same : fitted (fit t m (beyond a b)) ≡ beyond_cell t m a b v
      same = by_tests (int_lt b v) (int_lt v a)

  -- ---- Convert

  convert_reaches : (t i : Ty) (m : Mode) → InRange i v → Reaches g (set (along 0) ∷ fit_steps t m) result s (fitted (fit t m v))
  convert_reaches t i m r = let b = small i v r in
      assign_goes (ap Some is) (fit_gives g t _ m v refl (near t v (omega (arith, ints, b.0)) (omega (arith, ints, b.1))))

-- ---- MaxMin

module _ (g : Given) (f : ℕ → ℤ) (top : ℕ) (is : (k : ℕ) → k ≤ top → g.input k g.element ≡ f k) where
  least_step : (a b : ℤ) (s : ℤ) → s ≡ a → (if int_lt b s then b else s) ≡ int_min a b
  least_step a b s h = rw h refl

  greatest_step : (a b : ℤ) (s : ℤ) → s ≡ a → (if int_lt s b then b else s) ≡ int_max a b
  greatest_step a b s h = rw h (by_case (int_lt a b) (int_lt b a) refl refl)
    where
      by_case : (p q : Bool) → int_lt a b ≡ p → int_lt b a ≡ q → (if p then b else a) ≡ (if q then a else b)
      by_case true true p q = absurd (grind (arith, ints))
      by_case true false p q = refl
      by_case false true p q = refl
      by_case false false p q = let x : a ≡ b = grind (arith, ints) in x

  least_reaches : (n k : ℕ) → k + n ≤ top → (s : Scratch) → s 1 ≡ least_to f k → Reaches g (extremes Lt (suc k) n) result s (Value (least_to f (k + n)))
  least_reaches zero k l s h = let z : k + 0 ≡ k = omega arith in rw z (done_gives (ap Some h))
  least_reaches (suc n) k l s h =
      let z : k + suc n ≡ suc k + n = omega arith in
      rw z (assign_if_goes (int_lt (f (suc k)) (s 1)) (lt_is (ap Some (is (suc k) (omega (arith, l)))) refl) (λ _. ap Some (is (suc k) (omega (arith, l))))
      (λ s' q _. least_reaches n (suc k) (omega (arith, l)) s' (q ∙ least_step (least_to f k) (f (suc k)) (s 1) h)))

  greatest_reaches : (n k : ℕ) → k + n ≤ top → (s : Scratch) → s 1 ≡ greatest_to f k
      → Reaches g (extremes Gt (suc k) n) result s (Value (greatest_to f (k + n)))
  greatest_reaches zero k l s h = let z : k + 0 ≡ k = omega arith in rw z (done_gives (ap Some h))
  greatest_reaches (suc n) k l s h =
      let z : k + suc n ≡ suc k + n = omega arith in
      rw z (assign_if_goes (int_lt (s 1) (f (suc k))) (gt_is (ap Some (is (suc k) (omega (arith, l)))) refl) (λ _. ap Some (is (suc k) (omega (arith, l))))
      (λ s' q _. greatest_reaches n (suc k) (omega (arith, l)) s' (q ∙ greatest_step (greatest_to f k) (f (suc k)) (s 1) h)))

  extreme_reaches : (m : ℤ) (n : ℕ) → n ≤ top → (s : Scratch)
      → Reaches g (set (along 0) ∷ extremes (if int_eq m (pos 1) then Lt else Gt) 1 n) result s (Value (extreme m f n))
  extreme_reaches m n l s = by_mode (int_eq m (pos 1))
    where
      by_mode : (b : Bool) → Reaches g (set (along 0) ∷ extremes (if b then Lt else Gt) 1 n) result s
          (Value (if b then least_to f n else greatest_to f n))
      by_mode true =
          assign_goes (ap Some (is 0 (omega arith)))
          (subst (λ (j : ℕ). Reaches g (extremes Lt 1 n) result (with_scratch 1 (f 0) s) (Value (least_to f j))) (omega arith)
          (least_reaches n 0 (omega (arith, l)) _ refl))
      by_mode false =
          assign_goes (ap Some (is 0 (omega arith)))
          (subst (λ (j : ℕ). Reaches g (extremes Gt 1 n) result (with_scratch 1 (f 0) s) (Value (greatest_to f j))) (omega arith)
          (greatest_reaches n 0 (omega (arith, l)) _ refl))

-- ---- the kinds

module _ (s : Spec) (x : List ℤ) (m : ℕ) (u : List ℤ) (e : ℕ) (h : e < total s.outs) (t : Scratch) where
  pub abs_gives : Asks AbsValue s → Fills s.ins u → Gives (given_for s x m u e) (recipe_of AbsValue s) t (cell_of AbsValue s x m u e)
  abs_gives a f = (abs_reaches (given_for s x m u e) (at u e) (given_first s x m u e) t (out_type s) (mode_of (param s 0))
      (first_input_in_range s.ins (out_type s) (size s) u a.0.ins_alike f e (omega (arith, a.1)) (in_size s a.0.outs_alike a.0.one e h))).gives

  pub sign_gives : Asks Signum s → Fills s.ins u → Gives (given_for s x m u e) (recipe_of Signum s) t (cell_of Signum s x m u e)
  sign_gives a f = (done_gives (sign_is (given_for s x m u e) (at u e) (given_first s x m u e) t)).gives

  pub extreme_gives : Asks MaxMin s → Fills s.ins u → Gives (given_for s x m u e) (recipe_of MaxMin s) t (cell_of MaxMin s x m u e)
  extreme_gives a f =
      (extreme_reaches (given_for s x m u e) (λ k. input_of (size s) u k e) (length s.ins)
      (λ k l. given_input s x m u (out_type s) (size s) a.0.ins_alike k e l) (param s 0) (length s.ins - 1) (omega arith) t).gives

  pub brought_gives : Asks Saturation s → Fills s.ins u → Gives (given_for s x m u e) (recipe_of Saturation s) t (cell_of Saturation s x m u e)
  brought_gives a f = (brought_reaches (given_for s x m u e) (at u e) (given_first s x m u e) t (param s 0) (param s 1)).gives

  pub beyond_gives : Asks DeadBand s → Fills s.ins u → Gives (given_for s x m u e) (recipe_of DeadBand s) t (cell_of DeadBand s x m u e)
  beyond_gives a f = (beyond_reaches (given_for s x m u e) (at u e) (given_first s x m u e) t (out_type s) (mode_of (param s 0)) (param s 1) (param s 2)
      (first_input_in_range s.ins (out_type s) (size s) u a.0.ins_alike f e (omega (arith, a.1)) (in_size s a.0.outs_alike a.0.one e h)) a.3 a.4).gives

  pub convert_gives : Asks Convert s → Fills s.ins u → Gives (given_for s x m u e) (recipe_of Convert s) t (cell_of Convert s x m u e)
  convert_gives a f = (convert_reaches (given_for s x m u e) (at u e) (given_first s x m u e) t (out_type s) (in_type s) (mode_of (param s 0))
      (first_input_in_range s.ins (in_type s) (size s) u a.0.ins_alike f e (omega (arith, a.1)) (in_size s a.0.outs_alike a.0.one e h))).gives

-- ---- what they read

extremes_read : (r : Readable) (op : Op) → 1 ≤ r.scratch → (n k : ℕ) → ((i : ℕ) → k ≤ i → i < k + n → r.input i r.element) → StepsFit r (extremes op k n)
extremes_read r op o zero k h = tt
extremes_read r op o (suc n) k h =
    let one : IsScratch r 1 = (omega arith, o) in
    let this : r.input k r.element = h k (omega arith) (omega arith) in
    ((one, (this, one), this), extremes_read r op o n (suc k) (λ i l q. h i (omega (arith, l)) (omega (arith, q))))

module _ (s : Spec) (e : ℕ) (h : e < total s.outs) where
  pub abs_reads : Asks AbsValue s → IsFed AbsValue s → RecipeFits (fed_for AbsValue s e) (recipe_of AbsValue s)
  abs_reads a f =
      let this : (fed_for AbsValue s e).input 0 e = element_read AbsValue s (out_type s) a.0.ins_alike f 0 e (omega (arith, a.1)) refl
      (in_size s a.0.outs_alike a.0.one e h) in
      let one : IsScratch (fed_for AbsValue s e) 1 = (omega arith, omega arith) in
      let z = spelled 0 (omega arith) in
      (((one, this), ((one, (one, z), (z, one)), fit_reads (fed_for AbsValue s e) (out_type s) (mode_of (param s 0)) (omega arith))), one)

  pub sign_reads : Asks Signum s → IsFed Signum s → RecipeFits (fed_for Signum s e) (recipe_of Signum s)
  sign_reads a f =
      let this : (fed_for Signum s e).input 0 e = element_read Signum s (out_type s) a.0.ins_alike f 0 e (omega (arith, a.1)) refl
      (in_size s a.0.outs_alike a.0.one e h) in
      let z = spelled 0 (omega arith) in
      (tt, ((this, z), (this, z)))

  pub extreme_reads : Asks MaxMin s → IsFed MaxMin s → RecipeFits (fed_for MaxMin s e) (recipe_of MaxMin s)
  extreme_reads a f =
      let n = in_size s a.0.outs_alike a.0.one e h in
      let read : (i : ℕ) → i < length s.ins → (fed_for MaxMin s e).input i e = λ i l. element_read MaxMin s (out_type s) a.0.ins_alike f i e l refl n in
      let one : IsScratch (fed_for MaxMin s e) 1 = (omega arith, omega arith) in (
        (
          (one, read 0 (omega (arith, a.1))),
          extremes_read (fed_for MaxMin s e) (if int_eq (param s 0) (pos 1) then Lt else Gt) (omega arith)
              (length s.ins - 1) 1 (λ i l q. read i (omega (arith, l, q, a.1))),
        ),
        one,
      )

  pub brought_reads : Asks Saturation s → IsFed Saturation s → RecipeFits (fed_for Saturation s e) (recipe_of Saturation s)
  brought_reads a f =
      let this : (fed_for Saturation s e).input 0 e = element_read Saturation s (out_type s) a.0.ins_alike f 0 e (omega (arith, a.1)) refl
      (in_size s a.0.outs_alike a.0.one e h) in
      let one : IsScratch (fed_for Saturation s e) 1 = (omega arith, omega arith) in
      let l = spelled_in (out_type s) (param s 0) a.3 in
      let k = spelled_in (out_type s) (param s 1) a.4 in
      (((one, this), ((one, (one, k), k), ((one, (this, l), l), tt))), one)

  pub beyond_reads : Asks DeadBand s → IsFed DeadBand s → RecipeFits (fed_for DeadBand s e) (recipe_of DeadBand s)
  beyond_reads a f =
      let this : (fed_for DeadBand s e).input 0 e = element_read DeadBand s (out_type s) a.0.ins_alike f 0 e (omega (arith, a.1)) refl
      (in_size s a.0.outs_alike a.0.one e h) in
      let one : IsScratch (fed_for DeadBand s e) 1 = (omega arith, omega arith) in
      let z = spelled 0 (omega arith) in
      let l = spelled_in (out_type s) (param s 1) a.3 in
      let k = spelled_in (out_type s) (param s 2) a.4 in (
        (
          (one, z),
          (
            (one, (this, l), (this, l)),
            ((one, (this, k), (this, k)), fit_reads (fed_for DeadBand s e) (out_type s) (mode_of (param s 0)) (omega arith)),
          ),
        ),
        one,
      )

  pub convert_reads : Asks Convert s → IsFed Convert s → RecipeFits (fed_for Convert s e) (recipe_of Convert s)
  convert_reads a f =
      let this : (fed_for Convert s e).input 0 e = element_read Convert s (in_type s) a.0.ins_alike f 0 e (omega (arith, a.1)) refl
      (in_size s a.0.outs_alike a.0.one e h) in
      let one : IsScratch (fed_for Convert s e) 1 = (omega arith, omega arith) in
      (((one, this), fit_reads (fed_for Convert s e) (out_type s) (mode_of (param s 0)) (omega arith)), one)
