-- What a block is given, and what it may read.
use Rattle.std.proofs.Common.{◌≡◌, ℕ, zero, suc, ◌+◌, ◌*◌, ◌<◌, ◌≤◌, ◌≤ℤ◌, Bool, true, false, ◌||◌, ◌&&◌, if◌then◌else◌, refl, sym, ap, arith, ℤ, pos, negsuc, List, [], ◌∷◌, length, subst, true≢false}
use Rattle.std.specs.Prelude.{nat_eq, not}
use Rattle.std.proofs.lemmas.Int.{ints}
use Rattle.sci_base.specs.declared.Ty.{Ty}
use Rattle.sci_base.specs.Fit.{InRange}
use Rattle.sci_base.specs.Lists.{at, truth_at}
use Rattle.sci_base.proofs.FitLemmas.{low_at_least, high_at_most}
use Rattle.sci_forms.specs.declared.Kind.{Kind}
use Rattle.sci_forms.specs.declared.ports.Port.{Port}
use Rattle.sci_forms.specs.declared.spec.Spec.{Spec}
use Rattle.sci_forms.specs.Ports.{elements, total, before, IsAlike}
use Rattle.sci_forms.specs.Words.{out_type, size, state_len_of}
use Rattle.sci_forms.specs.Forms.{fed as fed_at, all_to}
use Rattle.sci_forms.specs.Form.{feeds, reads_mask}
use Rattle.sci_forms.specs.Typed.{typed}
use Rattle.sci_forms.proofs.TestLemmas.{both_true, all_to_at}
use Rattle.sci_kinds.specs.Table.{input}
use Rattle.sci_kinds.proofs.Elements.{total_one}
use Rattle.sci_kinds.proofs.TypedLemmas.{tests}
use Rattle.sci_cgen_blocks.specs.Terms.{Given, Readable, IsSpelled, all, is_looped, RecipeFits, WayFits}
use Rattle.sci_cgen_blocks.specs.Recipes.{given, IsElement, recipe_of, worked_of, copied, is_alike, scratch_of}

-- ---- values

-- what is given where this element is worked out
abbrev pub given_for : Spec → List ℤ → ℕ → List ℤ → ℕ → Given
given_for s x m u e = record (given s x m u) { element = e }

-- inputs of one size lie one after the other
pub before_alike : (ps : List Port) (t : Ty) (n : ℕ) → IsAlike ps t n → (k : ℕ) → k ≤ length ps → before ps k ≡ k * n
before_alike ps t n a zero h = omega arith
before_alike [] t n a (suc k) h = absurd (omega (arith, h))
before_alike (p ∷ ps) t n a (suc k) h =
    added (elements p) (before ps k) (a.sizes 0 (omega arith))
    (before_alike ps t n (record { types = λ i l. a.types (suc i) (omega (arith, l)); sizes = λ i l. a.sizes (suc i) (omega (arith, l)) }) k
    (omega (arith, h)))
  where
    added : (x y : ℕ) → x ≡ n → y ≡ k * n → x + y ≡ suc k * n
    added x y e f = rw (e, f) (grind arith)

-- element e of input k
pub given_input : (s : Spec) (x : List ℤ) (m : ℕ) (u : List ℤ) (t : Ty) (n : ℕ) → IsAlike s.ins t n → (k e : ℕ) → k ≤ length s.ins
    → (given s x m u).input k e ≡ input n u k e
given_input s x m u t n a k e h = ap (λ (b : ℕ). at u (b + e)) (before_alike s.ins t n a k h)

-- element e of the first input
pub given_first : (s : Spec) (x : List ℤ) (m : ℕ) (u : List ℤ) (e : ℕ) → (given s x m u).input 0 e ≡ at u e
given_first s x m u e = ap (at u) (omega arith)

-- an element of the only output
pub in_size : (s : Spec) → IsAlike s.outs (out_type s) (size s) → length s.outs ≡ 1 → (e : ℕ) → e < total s.outs → e < size s
in_size s a one e h = let n = total_one s.outs (out_type s) (size s) a one in omega (arith, h, n)

-- a number of a type is small
pub small : (t : Ty) (u : ℤ) → InRange t u → (negsuc 2147483647 ≤ℤ u) × (u ≤ℤ pos 4294967295)
small t u r =
    let lo = low_at_least t in
    let hi = high_at_most t in
    let above = r.above in
    let below = r.below in
    (omega (arith, ints, lo, above), omega (arith, ints, hi, below))

-- and C spells it
pub spelled_in : (t : Ty) (u : ℤ) → InRange t u → IsSpelled u
spelled_in t u r = let b = small t u r in (omega (arith, ints, b.0), omega (arith, ints, b.1))

-- ---- what may be read

-- what a block of kind k may read for its values
abbrev pub fed_of : Kind → Spec → Readable
fed_of k s = record {
  input = λ i e. IsElement s i e × (truth_at s.feed i ≡ true);
  state = λ i. i < state_len_of k s;
  mask = reads_mask k;
  scratch = scratch_of k s;
  element = 0;
}

-- and where its recipe works out this element
abbrev pub fed_for : Kind → Spec → ℕ → Readable
fed_for k s e = record (fed_of k s) { scratch = worked_of k s; element = e }

-- what may be read for a part of the outputs
abbrev pub fed_part : Kind → Spec → ℕ → Readable
fed_part k s e = record (fed_of k s) { element = e }

-- a kind that does the same to all elements has scratch for its recipe, and where there is a loop for the counter
enough_scratch : (k : Kind) (s : Spec) → is_alike k s ≡ true
    → (worked_of k s ≤ scratch_of k s) × (is_looped (total s.outs) ≡ true → suc (worked_of k s) ≤ scratch_of k s)
enough_scratch k s h = by_tests (is_alike k s) (is_looped (total s.outs)) h
  where
    by_tests : (a b : Bool) → a ≡ true
        → (worked_of k s ≤ (if a && b then suc (worked_of k s) else worked_of k s))
        × (b ≡ true → suc (worked_of k s) ≤ (if a && b then suc (worked_of k s) else worked_of k s))
    by_tests true true h = (omega arith, λ q. omega arith)
    by_tests true false h = (omega arith, λ q. absurd (true≢false (sym q)))
    by_tests false b h = absurd (true≢false (sym h))

-- where the recipe of each element reads what it may, so does the way
pub way_reads : (k : Kind) (s : Spec) (d : ℕ) → is_alike k s ≡ true → ((e : ℕ) → e < total s.outs → RecipeFits (fed_for k s e) (recipe_of k s))
    → WayFits (fed_of k s) (total s.outs) (all (worked_of k s) (recipe_of k s)) d
way_reads k s d h fits = let c = enough_scratch k s h in (c.0, c.1, fits)

-- a kind that takes no scratch copies an input that may be read
pub copied_reads : (k : Kind) (s : Spec) (d i : ℕ) → is_alike k s ≡ true → worked_of k s ≡ 0 → ((e : ℕ) → e < total s.outs → (fed_of k s).input i e)
    → WayFits (fed_of k s) (total s.outs) (copied i) d
copied_reads k s d i h none reads =
    let c = enough_scratch k s h in
    (omega arith, λ q. subst (λ (n : ℕ). suc n ≤ scratch_of k s) none (c.1 q), λ e l. (tt, reads e l))

-- each input has feedthrough that has it by the kind
abbrev pub IsFed : Kind → Spec → Type 0
IsFed k s = (i : ℕ) → i < length s.ins → feeds k (i + 1) ≡ true → truth_at s.feed i ≡ true

pub fed_is : (s : Spec) → typed s ≡ true → IsFed s.kind s
fed_is s h i l f =
    let t = tests s.kind s h in
    let all = (both_true (nat_eq (length s.feed) (length s.ins)) (all_to (fed_at s.kind s.feed) (length s.ins)) t.feed).1 in
    by_kind (truth_at s.feed i) (feeds s.kind (i + 1)) f (all_to_at (fed_at s.kind s.feed) (length s.ins) all i l)
  where
    by_kind : (a b : Bool) → b ≡ true → (a || not b) ≡ true → a ≡ true
    by_kind true b e h = refl
    by_kind false true e h = h
    by_kind false false e h = e

-- an element of an input like the others
pub element_read : (k : Kind) (s : Spec) (t : Ty) → IsAlike s.ins t (size s) → IsFed k s → (i e : ℕ) → i < length s.ins → feeds k (i + 1) ≡ true → e < size s
    → (fed_of k s).input i e
element_read k s t a f i e l d h = ((l, subst (λ (n : ℕ). e < n) (sym (a.sizes i l)) h), f i l d)
