-- Which inputs have feedthrough, by the kind and by what is declared.
use Rattle.std.proofs.Common.{◌≡◌, ℕ, zero, suc, ◌+◌, ◌<◌, Bool, true, false, refl, arith, [], ◌∷◌, ◌++◌, length, Option, Some, None, inl, inr, ◌||◌, ap, ◌∙◌}
use Rattle.std.proofs.Math.Numerals.{add-one}
use Rattle.std.proofs.Math.ListN.{get_or-append}
use Rattle.std.proofs.Math.Seq.{get_or-append_seam}
use Rattle.std.proofs.lemmas.List.{length-append}
use Rattle.std.proofs.lemmas.Bool.{cases_lt}
use Rattle.std.specs.Prelude.{is_none, not}
use Rattle.sci_base.specs.Lists.{truth_at, repeated}
use Rattle.sci_forms.specs.declared.Kind.{Kind}
use Rattle.sci_forms.specs.Forms.{own_feed, unfed, fed, first_not, all_to, or_else, unless}
use Rattle.sci_forms.specs.Form.{feeds}
use Rattle.sci_forms.proofs.TestLemmas.{all_to_at}

pub one_more_feed : (c : Kind) (n : ℕ) → own_feed c (n + 1) ≡ own_feed c n ++ feeds c (n + 1) ∷ []
one_more_feed c n = rw add-one refl

none_more : (o : Option ℕ) (b : Bool) (n : ℕ) → is_none o ≡ true → b ≡ true → is_none (or_else o (unless b n)) ≡ true
none_more (Some k) b n h p = cc
none_more None b n h p = rw p refl

-- a test that each number passes
pub all_to_from : (f : ℕ → Bool) (n : ℕ) → ((k : ℕ) → k < n → f k ≡ true) → is_none (first_not f n) ≡ true
all_to_from f zero h = refl
all_to_from f (suc n) h = none_more (first_not f n) (f n) n (all_to_from f n (λ k l. h k (omega (arith, l)))) (h n (omega arith))

pub length_repeated : {A : Type 0} (a : A) (n : ℕ) → length (repeated a n) ≡ n
length_repeated a zero = refl
length_repeated a (suc n) = let before = length_repeated a n in simp length-append (omega (arith, before))

pub at_repeated : (b : Bool) (n k : ℕ) → k < n → truth_at (repeated b n) k ≡ b
at_repeated b zero k h = absurd (omega (arith, h))
at_repeated b (suc n) k h = elim (cases_lt k n) [
  | inl q ↦ let len = length_repeated b n in get_or-append (repeated b n) (b ∷ []) false k (omega (arith, q, len)) ∙ at_repeated b n k q
  | inr q ↦ let len = length_repeated b n in let e : k ≡ length (repeated b n) = omega (arith, h, q, len) in rw e (get_or-append_seam (repeated b n) b [] false)
]

pub length_own : (c : Kind) (n : ℕ) → length (own_feed c n) ≡ n
length_own c zero = refl
length_own c (suc n) = let before = length_own c n in simp length-append (omega (arith, before))

pub at_own : (c : Kind) (n k : ℕ) → k < n → truth_at (own_feed c n) k ≡ feeds c (k + 1)
at_own c zero k h = absurd (omega (arith, h))
at_own c (suc n) k h = elim (cases_lt k n) [
  | inl q ↦ let len = length_own c n in get_or-append (own_feed c n) (feeds c (suc n) ∷ []) false k (omega (arith, q, len)) ∙ at_own c n k q
  | inr q ↦
      let len = length_own c n in
      let e : k ≡ length (own_feed c n) = omega (arith, h, q, len) in
      let s : suc n ≡ k + 1 = omega (arith, h, q) in
      rw e (get_or-append_seam (own_feed c n) (feeds c (suc n)) [] false) ∙ ap (feeds c) s
]

-- truths that give each input what the kind has are the kind's own, and pass; so does a truth for all inputs that is true, or where no input
-- has feedthrough by the kind
either : (a b : Bool) → a ≡ true → (a || b) ≡ true
either a b h = rw h refl

or_else_true : (a b : Bool) → b ≡ true → (a || b) ≡ true
or_else_true true b h = refl
or_else_true false b h = h

excluded : (a : Bool) → (a || not a) ≡ true
excluded true = refl
excluded false = refl

pub own_fed : (c : Kind) (n : ℕ) → all_to (fed c (own_feed c n)) n ≡ true
own_fed c n = all_to_from (fed c (own_feed c n)) n (λ k l. rw (at_own c n k l) (excluded (feeds c (k + 1))))

pub all_fed : (c : Kind) (n : ℕ) → all_to (fed c (repeated true n)) n ≡ true
all_fed c n = all_to_from (fed c (repeated true n)) n (λ k l. either (truth_at (repeated true n) k) (unfed c k) (at_repeated true n k l))

pub none_fed : (c : Kind) (n : ℕ) → all_to (unfed c) n ≡ true → all_to (fed c (repeated false n)) n ≡ true
none_fed c n h = all_to_from (fed c (repeated false n)) n (λ k l. or_else_true (truth_at (repeated false n) k) (unfed c k) (all_to_at (unfed c) n h k l))
