-- How many blocks that aren't done a block depends on, as blocks are done.
use Rattle.std.proofs.Common.{◌≡◌, ℕ, zero, suc, ◌+◌, ◌-◌, ◌<◌, Bool, true, false, ◌||◌, cond, not, ⊎_elim, List, [], ◌∷◌, ◌++◌, length, take, get_or, set, Contains, All, eqb, refl, sym, ap, ap₂, subst, ◌∙◌, arith, length-set}
use Rattle.std.specs.List.{IsDistinct}
use Rattle.std.proofs.lemmas.Bool.{cases_eq, eq-eqb}
use Rattle.std.proofs.lemmas.List.{get_or-set_same, get_or-set_other}
use Rattle.std.proofs.lemmas.List.Sums.{sum_by-cons}
use Rattle.std.proofs.lemmas.List.Elements.{Contains-get_or, All-contains}
use Rattle.sci_reaction.proofs.Lists.{cons-Contains}
use Rattle.sci_reaction.proofs.Rows.{Contains-has, has-Contains}
use Rattle.sci_judge.specs.Rounds.{open_among, count_at, IsReleased}
use Rattle.sci_judge.proofs.Members.{has, hasnt, has_push, has_more, fresh_at, not_same, tail_distinct, head_fresh}

abbrev pub one_if : Bool → ℕ
one_if t = cond t 1 0

-- ---- counts of open blocks

open_cons : (done : List ℕ) (d : ℕ) (ds : List ℕ) → open_among done (d ∷ ds) ≡ one_if (not (has done d)) + open_among done ds
open_cons done d ds = sum_by-cons (λ b. one_if (not (has done b))) d ds

-- nothing is done
pub open_begin : (ds : List ℕ) → open_among [] ds ≡ length ds
open_begin [] = refl
open_begin (d ∷ ds) = let rest = open_begin ds in let first = open_cons [] d ds in omega (arith, rest, first)

-- one more is done, which is one of these or not
pub open_step : (done : List ℕ) (b : ℕ) (ds : List ℕ) → IsDistinct eqb ds → has done b ≡ false → open_among (done ++ b ∷ []) ds + one_if (has ds b) ≡ open_among done ds
open_step done b [] distinct fresh = refl
open_step done b (d ∷ ds) distinct fresh =
    let rest = open_step done b ds (tail_distinct d ds distinct) fresh in
    let new = open_cons (done ++ b ∷ []) d ds ∙ ap (λ t. one_if (not t) + open_among (done ++ b ∷ []) ds) (has_push done b d) in
    let old = open_cons done d ds in
    ⊎_elim (λ same. here same rest new old) (λ other. there other rest new old) (cases_eq b d)
  where
    here : b ≡ d → (open_among (done ++ b ∷ []) ds) + one_if (has ds b) ≡ open_among done ds → open_among (done ++ b ∷ []) (d ∷ ds) ≡ one_if (not (has done d || eqb d b)) + (open_among (done ++ b ∷ []) ds)
        → open_among done (d ∷ ds) ≡ one_if (not (has done d)) + open_among done ds → open_among (done ++ b ∷ []) (d ∷ ds) + one_if (has (d ∷ ds) b) ≡ open_among done (d ∷ ds)
    here same rest new old =
        let fresh_here : has done d ≡ false = ap (has done) (sym same) ∙ fresh in
        let on : eqb d b ≡ true = eq-eqb d b (sym same) in
        let on_back : eqb b d ≡ true = eq-eqb b d same in
        let none : has ds b ≡ false = hasnt ds b (λ h. head_fresh d ds distinct b h (sym same)) in
        let new_is : open_among (done ++ b ∷ []) (d ∷ ds) ≡ (open_among (done ++ b ∷ []) ds) = new ∙ ap₂ (λ x y. one_if (not (x || y)) + (open_among (done ++ b ∷ []) ds)) fresh_here on ∙ plus (open_among (done ++ b ∷ []) ds) in
        let old_is : open_among done (d ∷ ds) ≡ 1 + open_among done ds = old ∙ ap (λ x. one_if (not x) + open_among done ds) fresh_here in
        let same_rest : (open_among (done ++ b ∷ []) ds) + 0 ≡ open_among done ds = ap (λ x. (open_among (done ++ b ∷ []) ds) + one_if x) (sym none) ∙ rest in
        let one : one_if (has (d ∷ ds) b) ≡ 1 = ap (λ x. one_if (x || has ds b)) on_back in
        omega (arith, new_is, old_is, same_rest, one)
      where
        plus : (k : ℕ) → 0 + k ≡ k
        plus k = omega arith

    there : (b ≡ d → ⊥) → (open_among (done ++ b ∷ []) ds) + one_if (has ds b) ≡ open_among done ds → open_among (done ++ b ∷ []) (d ∷ ds) ≡ one_if (not (has done d || eqb d b)) + (open_among (done ++ b ∷ []) ds)
        → open_among done (d ∷ ds) ≡ one_if (not (has done d)) + open_among done ds → open_among (done ++ b ∷ []) (d ∷ ds) + one_if (has (d ∷ ds) b) ≡ open_among done (d ∷ ds)
    there other rest new old =
        let off : eqb d b ≡ false = not_same d b (λ e. other (sym e)) in
        let off_back : eqb b d ≡ false = not_same b d other in
        let new_is : open_among (done ++ b ∷ []) (d ∷ ds) ≡ one_if (not (has done d)) + (open_among (done ++ b ∷ []) ds) = new ∙ ap (λ x. one_if (not x) + (open_among (done ++ b ∷ []) ds)) (ap (λ y. has done d || y) off ∙ or_none (has done d)) in
        let has_is : one_if (has (d ∷ ds) b) ≡ one_if (has ds b) = ap (λ x. one_if (x || has ds b)) off_back in
        omega (arith, new_is, old, rest, has_is)
      where
        or_none : (x : Bool) → (x || false) ≡ x
        or_none true = refl
        or_none false = refl

-- where none is open all are done
pub none_open : (done ds : List ℕ) → open_among done ds ≡ 0 → (d : ℕ) → Contains ds d → Contains done d
none_open done [] none d h = absurd (omega (arith, h.1))
none_open done (x ∷ ds) none d (zero, l, e) =
    subst (Contains done) e (has-Contains done x (done_first (has done x) refl (open_cons done x ds)))
  where
    done_first : (t : Bool) → has done x ≡ t → open_among done (x ∷ ds) ≡ one_if (not (has done x)) + open_among done ds → has done x ≡ true
    done_first true is e = is
    done_first false is e = let one : one_if (not (has done x)) ≡ 1 = ap (λ u. one_if (not u)) is in absurd (omega (arith, none, e, one))
none_open done (x ∷ ds) none d (suc k, l, e) =
    let cons = open_cons done x ds in none_open done ds (omega (arith, cons, none)) d (k, omega (arith, l), e)

pub all_done : (done ds : List ℕ) → ((d : ℕ) → Contains ds d → Contains done d) → open_among done ds ≡ 0
all_done done [] all = refl
all_done done (x ∷ ds) all =
    let first : one_if (not (has done x)) ≡ 0 = ap (λ u. one_if (not u)) (Contains-has done x (all x (0, omega arith, refl))) in
    let rest = all_done done ds (λ d h. all d (cons-Contains x ds d h)) in
    let cons = open_cons done x ds in omega (arith, first, rest, cons)

-- ---- a block is done, and those that wait for it are released

pub released_none : (counts : List ℕ) → IsReleased [] counts counts
released_none counts = record { long = refl; each = λ b. omega arith }

module _ (ws old mid : List ℕ) (i : ℕ) (distinct : IsDistinct eqb ws) (less : i < length ws) (before : IsReleased (take i ws) old mid)
    (within : All (λ b. b < length old) ws) (some : All (λ b. 0 < count_at old b) ws) where
  abbrev at : ℕ
  at = get_or ws i 0

  pub at_within : at < length mid
  at_within = let l = All-contains (λ b. b < length old) ws at within (Contains-get_or ws i 0 less) in let long = before.long in omega (arith, l, long)

  untouched : count_at mid at ≡ count_at old at
  untouched =
      let e = before.each at in
      let none : one_if (has (take i ws) at) ≡ 0 = ap (λ t. one_if t) (hasnt (take i ws) at (fresh_at ws i distinct less)) in
      omega (arith, e, none)

  pub some_left : 0 < count_at mid at
  some_left = let s = All-contains (λ b. 0 < count_at old b) ws at some (Contains-get_or ws i 0 less) in let u = untouched in omega (arith, s, u)

  pub was_one : (count_at mid at - 1 ≡ 0 → count_at old at ≡ 1) × (count_at old at ≡ 1 → count_at mid at - 1 ≡ 0)
  was_one = let u = untouched in let s = some_left in ((λ h. omega (arith, h, u, s)), λ h. omega (arith, h, u))

  pub released_more : IsReleased (take (i + 1) ws) old (set mid at (count_at mid at - 1))
  released_more = record {
    long = length-set mid at (count_at mid at - 1) ∙ before.long;
    each = λ b. ⊎_elim (λ same. here b same) (λ other. there b other) (cases_eq b at);
  }
    where
      here : (b : ℕ) → b ≡ at → count_at (set mid at (count_at mid at - 1)) b + one_if (has (take (i + 1) ws) b) ≡ count_at old b
      here b same =
          let value : count_at (set mid at (count_at mid at - 1)) b ≡ count_at mid at - 1 = ap (count_at (set mid at (count_at mid at - 1))) same ∙ get_or-set_same mid at (count_at mid at - 1) 0 at_within in
          let one : one_if (has (take (i + 1) ws) b) ≡ 1 = ap (λ t. one_if t) (has_more ws i b less ∙ ap (λ t. has (take i ws) b || t) (eq-eqb b at same) ∙ or_on (has (take i ws) b)) in
          let u = untouched in let s = some_left in let e : count_at old b ≡ count_at old at = ap (count_at old) same in
          omega (arith, value, one, u, s, e)
        where
          or_on : (x : Bool) → (x || true) ≡ true
          or_on true = refl
          or_on false = refl

      there : (b : ℕ) → (b ≡ at → ⊥) → count_at (set mid at (count_at mid at - 1)) b + one_if (has (take (i + 1) ws) b) ≡ count_at old b
      there b other =
          let value : count_at (set mid at (count_at mid at - 1)) b ≡ count_at mid b = get_or-set_other mid at b (count_at mid at - 1) 0 (λ e. other e) in
          let same : one_if (has (take (i + 1) ws) b) ≡ one_if (has (take i ws) b) = ap (λ t. one_if t) (has_more ws i b less ∙ ap (λ t. has (take i ws) b || t) (not_same b at other) ∙ or_off (has (take i ws) b)) in
          let e = before.each b in omega (arith, value, same, e)
        where
          or_off : (x : Bool) → (x || false) ≡ x
          or_off true = refl
          or_off false = refl
