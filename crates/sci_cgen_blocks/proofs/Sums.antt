-- The recipe of Summation.
use Rattle.std.proofs.Common.{◌≡◌, ℕ, zero, suc, ◌+◌, ◌*◌, ◌<◌, ◌≤◌, ◌≤ℤ◌, ◌-ℤ◌, ◌+ℤ◌, ◌*ℤ◌, neg_ℤ, Some, Bool, true, false, inl, inr, refl, sym, ap, ◌∙◌, subst, arith, ℤ, pos, negsuc, if◌then◌else◌, List, ◌∷◌, ◌++◌, length}
use Rattle.std.proofs.lemmas.Int.{ints}
use Rattle.sci_base.specs.declared.Ty.{Ty}
use Rattle.sci_base.specs.Fit.{InRange, int_eq}
use Rattle.sci_forms.specs.declared.Kind.TheVariants.{Summation}
use Rattle.sci_forms.specs.declared.spec.Spec.{Spec}
use Rattle.sci_forms.specs.Ports.{total, Fills}
use Rattle.sci_forms.specs.Words.{param, out_type, size}
use Rattle.sci_kinds.specs.declared.Cell.{Cell}
use Rattle.sci_kinds.specs.Table.{mode_of, input as input_of, sum_to, cell_of}
use Rattle.sci_kinds.specs.Asks.{Asks, IsSign}
use Rattle.sci_kinds.proofs.Elements.{input_in_range}
use Rattle.c_ast.specs.declared.Op.TheVariants.{Add, Sub}
use Rattle.c_mean.specs.Laws.{Within}
use Rattle.sci_cgen_blocks.specs.Terms.{Given, along, both, Scratch, Step, Gives, Readable, StepsFit, RecipeFits, IsScratch}
use Rattle.sci_cgen_blocks.specs.Recipes.{result, set, fit_steps, terms, recipe_of}
use Rattle.sci_cgen_blocks.proofs.Operators.{add_is, sub_is}
use Rattle.sci_cgen_blocks.proofs.Working.{Reaches, assign_goes, near, fit_gives, spelled, fit_reads, joined_fit}
use Rattle.sci_cgen_blocks.proofs.Inputs.{given_for, given_input, in_size, small, fed_for, IsFed, element_read}

-- a bound of a sum of k numbers of a type
pub record Below (k : ℕ) (z : ℤ) : Type 0 where
  pub above : neg_ℤ (pos (k * 4294967296)) ≤ℤ z
  pub below : z ≤ℤ pos (k * 4294967296)

-- a number with its sign
abbrev IsTerm : ℤ → ℤ → ℤ → Type 0
IsTerm a v z = (int_eq a (pos 1) ≡ true → z ≡ v) × (int_eq a (pos 1) ≡ false → z ≡ neg_ℤ v)

times : (a v : ℤ) → IsSign a → IsTerm a v (a *ℤ v)
times a v (inl e) = rw e (λ _. one v, λ f. cc)
  where
    one : (v : ℤ) → pos 1 *ℤ v ≡ v
    one (pos n) = grind (arith, ints)
    one (negsuc n) = grind (arith, ints)
times a v (inr e) = rw e (λ f. cc, λ _. minus v)
  where
    minus : (v : ℤ) → negsuc 0 *ℤ v ≡ neg_ℤ v
    minus (pos zero) = refl
    minus (pos (suc n)) = grind (arith, ints)
    minus (negsuc n) = grind (arith, ints)

-- one more
one_more : (k : ℕ) (y v : ℤ) (t : Ty) → k < 64 → Below k y → InRange t v
    → Below (suc k) (y +ℤ v) × Below (suc k) (y -ℤ v) × (Within (y +ℤ v) × Within (y -ℤ v))
one_more k y v t l b r =
    let i = small t v r in
    let n : pos (suc k * 4294967296) ≡ pos (k * 4294967296) +ℤ pos 4294967296 = omega (arith, ints) in
    let w : pos (k * 4294967296) ≤ℤ pos 274877906944 = omega (arith, ints, l) in (
      record { above = omega (arith, ints, i.0, i.1, b.above, b.below); below = omega (arith, ints, i.0, i.1, b.above, b.below) },
      record { above = omega (arith, ints, i.0, i.1, b.above, b.below); below = omega (arith, ints, i.0, i.1, b.above, b.below) },
      (
        record { above = omega (arith, ints, i.0, i.1, b.above, b.below, w); below = omega (arith, ints, i.0, i.1, b.above, b.below, w) },
        record { above = omega (arith, ints, i.0, i.1, b.above, b.below, w); below = omega (arith, ints, i.0, i.1, b.above, b.below, w) },
      ),
    )

module _ (g : Given) (sp : Spec) (t : Ty) (n : ℕ) (f : ℕ → ℤ) (ys : List Step) (c : Cell) (most : n ≤ 64)
    (is : (k : ℕ) → k < n → g.input k g.element ≡ f k) (fits : (k : ℕ) → k < n → InRange t (f k)) (signs : (k : ℕ) → k < n → IsSign (param sp (k + 1))) where
  abbrev sum : ℕ → ℤ
  sum k = sum_to (λ k. param sp (k + 1) *ℤ f k) k

  sums_reach : (j k : ℕ) → k + j ≡ n → (s : Scratch) → s 1 ≡ sum k → Below k (sum k)
      → ((s' : Scratch) → s' 1 ≡ sum n → Below n (sum n) → Reaches g ys result s' c)
      → Reaches g (terms sp k j ++ ys) result s c
  sums_reach zero k l s h b go = let z : k ≡ n = omega (arith, l) in go s (h ∙ ap sum z) (subst (λ (i : ℕ). Below i (sum i)) z b)
  sums_reach (suc j) k l s h b go = by_sign (λ s' q d. sums_reach j (suc k) (omega (arith, l)) s' q d go) (int_eq (param sp (k + 1)) (pos 1)) refl
    where
      below : k < n
      below = omega (arith, l)

      term : IsTerm (param sp (k + 1)) (f k) (param sp (k + 1) *ℤ f k)
      term = times (param sp (k + 1)) (f k) (signs k below)

      more : Below (suc k) (sum k +ℤ f k) × Below (suc k) (sum k -ℤ f k) × (Within (sum k +ℤ f k) × Within (sum k -ℤ f k))
      more = one_more k (sum k) (f k) t (omega (arith, l, most)) b (fits k below)

      minus : (y v : ℤ) → y -ℤ v ≡ y +ℤ neg_ℤ v
      minus y v = omega (arith, ints)

      by_sign : ((s' : Scratch) → s' 1 ≡ sum (suc k) → Below (suc k) (sum (suc k)) → Reaches g (terms sp (suc k) j ++ ys) result s' c)
          → (d : Bool) → int_eq (param sp (k + 1)) (pos 1) ≡ d
          → Reaches g (set (both (if d then Add else Sub) result (along k)) ∷ (terms sp (suc k) j ++ ys)) result s c
      by_sign rest true p =
          let same : sum k +ℤ f k ≡ sum (suc k) = ap (λ (y : ℤ). sum k +ℤ y) (sym (term.0 p)) in
          assign_goes (add_is (ap Some h) (ap Some (is k below)) more.2.0)
          (rest _ same (subst (Below (suc k)) same more.0))
      by_sign rest false p =
          let same : sum k -ℤ f k ≡ sum (suc k) = minus (sum k) (f k) ∙ ap (λ (y : ℤ). sum k +ℤ y) (sym (term.1 p)) in
          assign_goes (sub_is (ap Some h) (ap Some (is k below)) more.2.1)
          (rest _ same (subst (Below (suc k)) same more.1))

pub sum_gives : (s : Spec) (x : List ℤ) (m : ℕ) (u : List ℤ) (e : ℕ) → e < total s.outs → (t : Scratch) → Asks Summation s → Fills s.ins u
    → Gives (given_for s x m u e) (recipe_of Summation s) t (cell_of Summation s x m u e)
sum_gives s x m u e h t a f =
    let n = length s.ins in
    let v : ℕ → ℤ = λ k. input_of (size s) u k e in
    (assign_goes {z = pos 0} refl (sums_reach (given_for s x m u e) s (out_type s) (length s.ins) (λ k. input_of (size s) u k e)
    (fit_steps (out_type s) (mode_of (param s 0))) _ a.2
    (λ k l. given_input s x m u (out_type s) (size s) a.0.ins_alike k e (omega (arith, l)))
    (λ k l. input_in_range s.ins (out_type s) (size s) u a.0.ins_alike f k e l (in_size s a.0.outs_alike a.0.one e h))
    a.4 (length s.ins) 0 (omega arith) _ refl (record { above = omega (arith, ints); below = omega (arith, ints) })
    (λ s' q b. fit_gives (given_for s x m u e) (out_type s) s' (mode_of (param s 0)) _ q
    (near (out_type s) _ (omega (arith, ints, b.above, a.2)) (omega (arith, ints, b.below, a.2)))))).gives

terms_read : (r : Readable) (s : Spec) → 1 ≤ r.scratch → (n k : ℕ) → ((i : ℕ) → i < k + n → r.input i r.element) → StepsFit r (terms s k n)
terms_read r s o zero k h = tt
terms_read r s o (suc n) k h =
    let one : IsScratch r 1 = (omega arith, o) in ((one, (one, h k (omega arith))), terms_read r s o n (suc k) (λ i l. h i (omega (arith, l))))

pub sum_reads : (s : Spec) (e : ℕ) → e < total s.outs → Asks Summation s → IsFed Summation s → RecipeFits (fed_for Summation s e) (recipe_of Summation s)
sum_reads s e h a f =
    let n = in_size s a.0.outs_alike a.0.one e h in
    let one : IsScratch (fed_for Summation s e) 1 = (omega arith, omega arith) in
    let z = spelled 0 (omega arith) in (
      (
        (one, z),
        joined_fit (fed_for Summation s e) (terms s 0 (length s.ins)) (fit_steps (out_type s) (mode_of (param s 0)))
            (terms_read (fed_for Summation s e) s (omega arith) (length s.ins) 0
            (λ i l. element_read Summation s (out_type s) a.0.ins_alike f i e (omega (arith, l)) refl n))
            (fit_reads (fed_for Summation s e) (out_type s) (mode_of (param s 0)) (omega arith)),
      ),
      one,
    )
