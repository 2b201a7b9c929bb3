-- Tallies of the numbers of port blocks.
use Rattle.std.proofs.Common.{◌≡◌, ◌≢◌, ℕ, zero, suc, ℤ, pos, negsuc, ◌+◌, ◌-◌, ◌<◌, ◌≤◌, ◌^◌, List, [], ◌∷◌, ◌++◌, length, get_or, drop, map, min, Bool, true, false, cond, Option, Some, None, refl, ap, ◌∙◌, inl, inr, arith, length-set, length-append}
use Rattle.std.specs.Str.{bytes_eq}
use Rattle.std.specs.Prelude.{nat_eq, nat_le, nat_lt, filter, slice_index, slice_set, IfSome, replicate}
use Rattle.std.proofs.lemmas.Bool.{eq-eqb, ne_eqb, lt-ltb, le-ltb, cases_eq}
use Rattle.std.proofs.lemmas.List.{get_or-set_same, get_or-set_other, get_or-replicate, length-replicate, drop_more, drop_all}
use Rattle.sci_diagram.specs.Objects.{Object, block, superblock, link, text, deleted, objects_of, object_view}
use Rattle.sci_diagram.specs.declared.diagram.Obj.{Obj}
use Rattle.sci_forms.specs.Forms.{first_not, or_else, given}
use Rattle.sci_blocks.specs.declared.class.PortClass.{PortClass}
use Rattle.sci_blocks.specs.declared.tally.NumberTally.{NumberTally}
use Rattle.sci_blocks.specs.Ports.{name_of, number, object_number, numbers, times, least, least_of, is_once, first_broken}
use Rattle.sci_blocks.specs.Counts.{lesser, IsTallied}

-- ---- one number more

pub none_tallied : (t : NumberTally) (count : ℕ) → t.times.items ≡ replicate count 0 → t.least ≡ None → (whole : List ℕ) → IsTallied t count whole whole
none_tallied t count zeros none whole = record {
  len = ap length zeros ∙ length-replicate count 0;
  times = λ k below. let zero_here : slice_index t.times.items k ≡ 0 = rw zeros (get_or-replicate count k 0 0 below) in omega arith;
  least = rw none refl;
  fits = rw none tt;
}

apart_of : (n k : ℕ) (rest : List ℕ) → (n ≡ k → ⊥) → times k (n ∷ rest) ≡ times k rest
apart_of n k rest h = rw (ne_eqb n k h) (omega arith)

same_of : (n k : ℕ) (rest : List ℕ) → n ≡ k → times k (n ∷ rest) ≡ 1 + times k rest
same_of n k rest h = rw (eq-eqb n k h) refl

pub below_tallied : (old new : NumberTally) (count n : ℕ) (rest whole : List ℕ) → 1 ≤ n → n ≤ count
    → new.times.items ≡ slice_set old.times.items (n - 1) (slice_index old.times.items (n - 1) + 1) → new.least ≡ old.least
    → IsTallied old count (n ∷ rest) whole → IsTallied new count rest whole
below_tallied old new count n rest whole low high set same h =
    let older = old.times.items in
    let long : length older ≡ count = h.len in
    record {
      len = ap length set ∙ length-set older (n - 1) (slice_index older (n - 1) + 1) ∙ h.len;
      times = λ k below. elim (cases_eq n (k + 1)) [
        | inl e ↦
            let at : n - 1 ≡ k = omega (arith, e) in
            let one : slice_index new.times.items k ≡ slice_index older k + 1 = rw (set, at) (get_or-set_same older k (slice_index older k + 1) 0 (omega (arith, long, below))) in
            omega (arith, one, h.times k below, same_of n (k + 1) rest e)
        | inr apart ↦
            let other : k ≢ n - 1 = λ e. apart (omega (arith, e, low)) in
            let kept : slice_index new.times.items k ≡ slice_index older k = rw set (get_or-set_other older (n - 1) k (slice_index older (n - 1) + 1) 0 other) in
            omega (arith, kept, h.times k below, apart_of n (k + 1) rest apart)
      ];
      least = rw same (rw (le-ltb count n high) at h.least);
      fits = rw same h.fits;
    }

lesser_more : (o : Option ℕ) (m n : ℕ) → Some (least_of (min m n) o) ≡ Some (least_of m (Some (least_of n o)))
lesser_more None m n = refl
lesser_more (Some y) m n = ap Some (omega arith)

pub above_tallied : (old new : NumberTally) (count n : ℕ) (rest whole : List ℕ) → count < n → n < 2 ^ 63
    → new.times.items ≡ old.times.items → new.least ≡ lesser old.least (Some n)
    → IsTallied old count (n ∷ rest) whole → IsTallied new count rest whole
above_tallied old new count n rest whole high small same set h = record {
  len = ap length same ∙ h.len;
  times = λ k below.
      let kept : slice_index new.times.items k ≡ slice_index old.times.items k = rw same refl in
      omega (arith, kept, h.times k below, apart_of n (k + 1) rest (λ e. omega (arith, e, below, high)));
  least = rw set (grown old.least (least (filter (λ m. nat_lt count m) rest)) ∙ (rw (lt-ltb count n high) at h.least));
  fits = rw set (fit old.least h.fits);
}
  where
    grown : (o r : Option ℕ) → lesser (lesser o (Some n)) r ≡ lesser o (Some (least_of n r))
    grown None r = refl
    grown (Some m) r = lesser_more r m n

    fit : (o : Option ℕ) → IfSome o (λ m. m < 2 ^ 63) → IfSome (lesser o (Some n)) (λ m. m < 2 ^ 63)
    fit None p = small
    fit (Some m) p = omega arith

-- ---- room for one more

times-le : (n : ℕ) (ns : List ℕ) → times n ns ≤ length ns
times-le n [] = omega arith
times-le n (m ∷ ms) = one (nat_eq m n) (times-le n ms)
  where
    one : (b : Bool) → times n ms ≤ length ms → cond b 1 0 + times n ms ≤ suc (length ms)
    one true h = omega arith
    one false h = omega arith

number-short : (ps : List ℤ) → length (number ps) ≤ 1
number-short [] = omega arith
number-short (negsuc n ∷ ps) = omega arith
number-short (pos n ∷ m ∷ ps) = omega arith
number-short (pos n ∷ []) = either (nat_le 1 n)
  where
    either : (b : Bool) → length (cond b (n ∷ []) []) ≤ 1
    either true = omega arith
    either false = omega arith

named-short : (b : Bool) (ps : List ℤ) → length (cond b (number ps) []) ≤ 1
named-short true ps = number-short ps
named-short false ps = omega arith

object-short : (c : PortClass) (o : Object) → length (object_number c o) ≤ 1
object-short c (block gui f) = named-short (bytes_eq gui (name_of c)) f.ipar
object-short c (superblock gui f os) = omega arith
object-short c (link from to kind) = omega arith
object-short c text = omega arith
object-short c deleted = omega arith

pub numbers_short : (c : PortClass) (os : List Obj) → length (numbers c (objects_of (map object_view os))) ≤ length os
numbers_short c [] = omega arith
numbers_short c (o ∷ os) = omega (arith, length-append (object_number c (object_view o)) (numbers c (objects_of (map object_view os))), object-short c (object_view o), numbers_short c os)

pub room : (t : NumberTally) (count n : ℕ) (rest whole : List ℕ) → IsTallied t count (n ∷ rest) whole → 1 ≤ n → n ≤ count → slice_index t.times.items (n - 1) + 1 ≤ length whole
room t count n rest whole h low high =
    let at : n ≡ (n - 1) + 1 = omega arith in
    omega (arith, h.times (n - 1) (omega arith), same_of n ((n - 1) + 1) rest at, times-le ((n - 1) + 1) whole)

-- ---- the objects in turn

pub numbers_more : (c : PortClass) (os : List Obj) (i : ℕ) (r : Obj) → i < length os → r ≡ get_or os i r
    → numbers c (objects_of (map object_view (drop i os))) ≡ object_number c (object_view r) ++ numbers c (objects_of (map object_view (drop (i + 1) os)))
numbers_more c os i r h is = rw (drop_more os i r h, ← is) refl

pub numbers_end : (c : PortClass) (os : List Obj) (i : ℕ) → length os ≤ i → numbers c (objects_of (map object_view (drop i os))) ≡ []
numbers_end c os i h = rw (drop_all i os h) refl

-- ---- what a whole tally finds

first_not_same : (f g : ℕ → Bool) (n : ℕ) → ((k : ℕ) → k < n → f k ≡ g k) → first_not f n ≡ first_not g n
first_not_same f g zero h = refl
first_not_same f g (suc n) h = rw (first_not_same f g n (λ k l. h k (omega (arith, l))), h n (omega arith)) refl

pub tally_finds : (t : NumberTally) (count : ℕ) (whole : List ℕ) → IsTallied t count [] whole
    → or_else (given (first_not (λ k. nat_eq (slice_index t.times.items k) 1) (length t.times.items)) (λ k. k + 1)) t.least ≡ first_broken count whole
tally_finds t count whole h =
    let once = first_not_same (λ k. nat_eq (slice_index t.times.items k) 1) (is_once whole) count (λ k below. let e : slice_index t.times.items k ≡ times (k + 1) whole = omega (arith, h.times k below) in rw e refl) in
    rw (h.len, once, ← h.least, alone t.least) refl
  where
    alone : (o : Option ℕ) → lesser o None ≡ o
    alone None = refl
    alone (Some n) = refl
