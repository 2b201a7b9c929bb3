-- Next states, branches and comparisons.
use Rattle.std.proofs.Common.{◌≡◌, ℕ, zero, suc, ◌+◌, ◌<◌, ◌≤◌, ℤ, pos, negsuc, ◌+ℤ◌, ◌-ℤ◌, ◌≤ℤ◌, ◌<ℤ◌, List, length, Bool, true, false, ◌&&◌, Option, Some, None, refl, sym, ap, ◌∙◌, arith, subst, cond, not}
use Rattle.std.proofs.lemmas.Int.{ints}
use Rattle.std.proofs.lemmas.Bool.Decides.{nat_tests}
use Rattle.std.specs.Prelude.{int_lt, int_le, nat_eq, nat_lt, unsigned_abs}
use Rattle.std.specs.Int.{int_rem_euclid}
use Rattle.sci_base.specs.declared.Ty.{Ty}
use Rattle.sci_base.specs.Fit.{InRange, int_eq, low, high}
use Rattle.sci_base.specs.Lists.{at}
use Rattle.sci_base.proofs.FitLemmas.{rem_bounds, int_le_yes}
use Rattle.sci_forms.specs.declared.Kind.{Kind}
use Rattle.sci_forms.specs.declared.Kind.TheVariants.{RelationalOp, Dollar, Register, ModuloCount, GatedDelay, IfThEl, ESelect}
use Rattle.sci_forms.specs.declared.spec.Spec.{Spec}
use Rattle.sci_forms.specs.Ports.{total, Fills}
use Rattle.sci_forms.specs.Words.{param, in_type, out_type, size, state_len_of}
use Rattle.sci_forms.specs.Form.{is_sync}
use Rattle.sci_forms.proofs.TestLemmas.{int_same, int_le_told, between_told}
use Rattle.sci_kinds.specs.Asks.{Asks, entering_of}
use Rattle.sci_kinds.specs.Table.{relation, next_of, branch_of, brought, state_len}
use Rattle.sci_kinds.proofs.Elements.{listed_at, total_one}
use Rattle.sci_kinds.proofs.TypedLemmas.{Tests, tests, only_total, type_at_first}
use Rattle.sci_kinds.proofs.LawProofs.{asks}
use Rattle.sci_ranges_base.specs.declared.interval.Interval.{Interval}
use Rattle.sci_ranges_base.specs.Intervals.{IsIn, IsInSome, from_to, between, both, hull, range_at}
use Rattle.sci_ranges_base.proofs.Numbers.{hull_has, hull_has_other, le_along}
use Rattle.sci_ranges_rules.specs.Words.{opposite, mirrored, related}
use Rattle.sci_ranges_rules.specs.Rules.{state_range, next_range_of, taking_of}
use Rattle.sci_ranges_rules.specs.Laws.{AreStates, NextCovers, BranchCovers, ComparedCovers}
use Rattle.sci_ranges_rules.proofs.Deciding.{opposite_is}

-- ---- next states

-- a remainder by a positive number
rem_has : (z b : ℤ) → pos 1 ≤ℤ b → IsIn (from_to (pos 0) (b -ℤ pos 1)) (int_rem_euclid z b)
rem_has z (pos n) h =
    let r = rem_bounds z n (omega (arith, ints, h)) in
    record { above = r.0; below = omega (arith, ints, r.1) }
rem_has z (negsuc n) h = absurd (omega (arith, ints, h))

-- the next value kept, or the one that comes in
moved_has : (b : Bool) (o : Option Interval) (j : Interval) (v w : ℤ) → (b ≡ true → IsIn j v) → IsInSome o w → IsInSome (both hull (Some j) o) (cond b v w)
moved_has b None j v w h k = absurd k
moved_has true (Some i) j v w h k = hull_has j i v (h refl)
moved_has false (Some i) j v w h k = hull_has_other j i w k

pub next_has : (c : Kind) (s : Spec) (xs : List Interval) (x : List ℤ) (m : ℕ) (us : List (Option Interval)) (u : List ℤ) (i : ℕ) → s.kind ≡ c → Asks c s
    → AreStates s xs x → ((e : ℕ) → e < total (entering_of c s) → IsInSome (range_at us e) (at u e)) → i < state_len_of c s → IsInSome (next_range_of c s xs us i) (next_of c s x m u i)
next_has Dollar s xs x m us u i kd a st f l = f i (omega (arith, l, total_one s.ins (out_type s) (size s) a.0.ins_alike a.1))
next_has GatedDelay s xs x m us u i kd a st f l = f i (omega (arith, l, a.0.total_ins))
next_has Register s xs x m us u i kd a st f l =
    moved_has (nat_lt (i + 1) (length s.state)) (range_at us 0) (state_range xs (i + 1)) (at x (i + 1)) (at u 0)
    (λ p. let more : i + 1 < length s.state = grind (arith, nat_tests) in st (i + 1) (rw kd more))
    (f 0 (omega (arith, a.2, total_one s.ins (out_type s) (size s) a.0.ins_alike a.1)))
next_has ModuloCount s xs x m us u i kd a st f l = rem_has (at x 0 +ℤ pos 1) (param s 0) a.2
next_has _ s xs x m us u i kd a st f l = absurd (omega (arith, l))

pub next_covers : NextCovers
next_covers s xs x m us u i h st states f l =
    let g = listed_at (next_of s.kind s x m u) (state_len s) in
    rw (g.1 i l) (next_has s.kind s xs x m us u i refl (asks s h) states f l)

-- ---- branches

then_taken : (s : Spec) (v : ℤ) → InRange (in_type s) v → IsIn (taking_of IfThEl s (cond (int_lt (pos 0) v) 1 2)) v
then_taken s v h = by_sign (int_lt (pos 0) v) refl
  where
    by_sign : (b : Bool) → int_lt (pos 0) v ≡ b → IsIn (taking_of IfThEl s (cond b 1 2)) v
    by_sign true e = record { above = grind (arith, ints); below = h.below }
    by_sign false e = record { above = h.above; below = grind (arith, ints) }

chosen_taken : (s : Spec) (v : ℤ) → 2 ≤ s.evtout → InRange (in_type s) v → IsIn (taking_of ESelect s (unsigned_abs (brought (pos 1) (pos s.evtout) v))) v
chosen_taken s v few h = by_low (int_lt v (pos 1)) refl
  where
    first : int_lt v (pos 1) ≡ true → IsIn (taking_of ESelect s 1) v
    first e =
        let below : v ≤ℤ pos 1 = grind (arith, ints) in
        let other : nat_eq 1 s.evtout ≡ false = grind (arith, nat_tests) in
        record { above = h.above; below = rw other below }

    last : pos s.evtout ≤ℤ v → IsIn (taking_of ESelect s s.evtout) v
    last l =
        let other : nat_eq s.evtout 1 ≡ false = grind (arith, nat_tests) in
        let same : nat_eq s.evtout s.evtout ≡ true = grind (arith, nat_tests) in
        record { above = rw other l; below = rw same h.below }

    between_ends : (z : ℤ) → z ≡ v → pos 1 ≤ℤ z → IsIn (taking_of ESelect s (unsigned_abs z)) v
    between_ends (negsuc n) e l = absurd (omega (arith, ints, l))
    between_ends (pos n) e l = record { above = lower (nat_eq n 1); below = upper (nat_eq n s.evtout) }
      where
        lower : (b : Bool) → cond b (low (in_type s)) (pos n) ≤ℤ v
        lower true = h.above
        lower false = omega (arith, ints, e)

        upper : (b : Bool) → v ≤ℤ cond b (high (in_type s)) (pos n)
        upper true = h.below
        upper false = omega (arith, ints, e)

    by_high : (b : Bool) → int_lt v (pos 1) ≡ false → int_lt (pos s.evtout) v ≡ b → IsIn (taking_of ESelect s (unsigned_abs (cond b (pos s.evtout) v))) v
    by_high true p q = last (grind (arith, ints))
    by_high false p q = between_ends v refl (grind (arith, ints))

    by_low : (b : Bool) → int_lt v (pos 1) ≡ b → IsIn (taking_of ESelect s (unsigned_abs (cond b (pos 1) (cond (int_lt (pos s.evtout) v) (pos s.evtout) v)))) v
    by_low true p = first p
    by_low false p = by_high (int_lt (pos s.evtout) v) p refl

-- the one element of the only input is of its type
first_typed : (s : Spec) (u : List ℤ) → Fills s.ins u → length s.ins ≡ 1 → total s.ins ≡ 1 → InRange (in_type s) (at u 0)
first_typed s u f one all =
    let size_one = only_total s.ins one in
    subst (λ t. InRange t (at u 0)) (type_at_first s.ins (omega (arith, one)) 0 (omega (arith, size_one, all))) (f.in_range 0 (omega (arith, all)))

branch_has : (c : Kind) (s : Spec) (u : List ℤ) → Asks c s → Tests c s → is_sync c ≡ true → Fills s.ins u → IsIn (taking_of c s (branch_of c s u)) (at u 0)
branch_has IfThEl s u a t y f = then_taken s (at u 0) (first_typed s u f (omega (arith, t.ins_least, t.ins_most)) a.1)
branch_has ESelect s u a t y f = chosen_taken s (at u 0) a.2 (first_typed s u f (omega (arith, t.ins_least, t.ins_most)) a.1)
branch_has _ s u a t y f = cc

pub branch_covers : BranchCovers
branch_covers s u h y f = branch_has s.kind s u (asks s h) (tests s.kind s h) y f

-- ---- comparisons

-- the six codes
by_code : (P : ℤ → Type 0) (op : ℤ) → pos 0 ≤ℤ op → op ≤ℤ pos 5 → P (pos 0) → P (pos 1) → P (pos 2) → P (pos 3) → P (pos 4) → P (pos 5) → P op
by_code P (pos zero) h k a b c d e f = a
by_code P (pos (suc zero)) h k a b c d e f = b
by_code P (pos (suc (suc zero))) h k a b c d e f = c
by_code P (pos (suc (suc (suc zero)))) h k a b c d e f = d
by_code P (pos (suc (suc (suc (suc zero))))) h k a b c d e f = e
by_code P (pos (suc (suc (suc (suc (suc zero)))))) h k a b c d e f = f
by_code P (pos (suc (suc (suc (suc (suc (suc n))))))) h k a b c d e f = absurd (omega (arith, ints, k))
by_code P (negsuc n) h k a b c d e f = absurd (omega (arith, ints, h))

same_turned : (a b : ℤ) → int_eq b a ≡ int_eq a b
same_turned a b = both_turned (int_le b a) (int_le a b)
  where
    both_turned : (p q : Bool) → (p && q) ≡ (q && p)
    both_turned true true = refl
    both_turned true false = refl
    both_turned false true = refl
    both_turned false false = refl

mirrored_is : (op a b : ℤ) → pos 0 ≤ℤ op → op ≤ℤ pos 5 → relation (mirrored op) b a ≡ relation op a b
mirrored_is op a b h k = by_code (λ op. relation (mirrored op) b a ≡ relation op a b) op h k (same_turned a b) (ap not (same_turned a b)) refl refl refl refl

mirrored_code : (op : ℤ) → pos 0 ≤ℤ op → op ≤ℤ pos 5 → (pos 0 ≤ℤ mirrored op) × (mirrored op ≤ℤ pos 5)
mirrored_code op h k = by_code (λ op. (pos 0 ≤ℤ mirrored op) × (mirrored op ≤ℤ pos 5)) op h k
    (omega (arith, ints), omega (arith, ints)) (omega (arith, ints), omega (arith, ints)) (omega (arith, ints), omega (arith, ints))
    (omega (arith, ints), omega (arith, ints)) (omega (arith, ints), omega (arith, ints)) (omega (arith, ints), omega (arith, ints))

opposite_code : (op : ℤ) → pos 0 ≤ℤ op → op ≤ℤ pos 5 → (pos 0 ≤ℤ opposite op) × (opposite op ≤ℤ pos 5)
opposite_code op h k = by_code (λ op. (pos 0 ≤ℤ opposite op) × (opposite op ≤ℤ pos 5)) op h k
    (omega (arith, ints), omega (arith, ints)) (omega (arith, ints), omega (arith, ints)) (omega (arith, ints), omega (arith, ints))
    (omega (arith, ints), omega (arith, ints)) (omega (arith, ints), omega (arith, ints)) (omega (arith, ints), omega (arith, ints))

between_has : (a b v : ℤ) → a ≤ℤ v → v ≤ℤ b → IsInSome (between a b) v
between_has a b v h k = rw (int_le_yes a b (le_along _ _ _ h k)) (record { above = h; below = k })

-- where a relation holds to one of the others
related_has : (op : ℤ) (t : Ty) (j : Interval) (a b : ℤ) → pos 0 ≤ℤ op → op ≤ℤ pos 5 → InRange t a → IsIn j b → relation op a b ≡ true → IsInSome (related op t j) a
related_has op t j a b h k r i = by_code (λ op. relation op a b ≡ true → IsInSome (related op t j) a) op h k
    (λ e. subst (IsIn j) (sym (int_same a b e)) i)
    (λ e. record { above = r.above; below = r.below })
    (λ e. let l : a <ℤ b = grind (arith, ints) in between_has (low t) (j.greatest -ℤ pos 1) a r.above (omega (arith, ints, l, i.below)))
    (λ e. between_has (low t) j.greatest a r.above (le_along _ _ _ (int_le_told a b e) i.below))
    (λ e. let l : b <ℤ a = grind (arith, ints) in between_has (j.least +ℤ pos 1) (high t) a (omega (arith, ints, l, i.above)) r.below)
    (λ e. between_has j.least (high t) a (le_along _ _ _ i.above (int_le_told b a e)) r.below)

-- the relation that is known to hold
known_op : (holds : Bool) (op a b : ℤ) → relation op a b ≡ holds → relation (cond holds op (opposite op)) a b ≡ true
known_op true op a b e = e
known_op false op a b e = opposite_is op a b ∙ ap not e

known_code : (holds : Bool) (op : ℤ) → pos 0 ≤ℤ op → op ≤ℤ pos 5 → (pos 0 ≤ℤ cond holds op (opposite op)) × (cond holds op (opposite op) ≤ℤ pos 5)
known_code true op h k = (h, k)
known_code false op h k = opposite_code op h k

pub compared_covers : ComparedCovers
compared_covers s holds a b i j h kd ra rb e =
    let a1 = (asks_of_kind s kd (asks s h)).2 in
    let code = between_told (pos 0) (pos 5) (param s 0) (rw kd at ((tests s.kind s h).params 0 (omega (arith, a1)))) in
    let known = known_code holds (param s 0) code.0 code.1 in
    let mirror = mirrored_code (cond holds (param s 0) (opposite (param s 0))) known.0 known.1 in
    let true_of = known_op holds (param s 0) a b e in (
      λ q. related_has (cond holds (param s 0) (opposite (param s 0))) (in_type s) j a b known.0 known.1 ra q true_of,
      λ q. related_has (mirrored (cond holds (param s 0) (opposite (param s 0)))) (in_type s) i b a mirror.0 mirror.1 rb q
          (mirrored_is (cond holds (param s 0) (opposite (param s 0))) a b known.0 known.1 ∙ true_of),
    )
  where
    asks_of_kind : (s : Spec) → s.kind ≡ RelationalOp → Asks s.kind s → Asks RelationalOp s
    asks_of_kind s kd a = subst (λ k. Asks k s) kd a
