-- Members by their places, and what settling one keeps.
use Rattle.std.proofs.Common.{ℕ, ◌≡◌, ◌+◌, ◌<◌, ◌≤◌, Bool, true, false, List, length, get_or, set, slice_get, Contains, Some, Vec, All, ⊎_elim, subst, sym, ap, ◌∙◌, arith, subst₂, Result, Err, Ok, is_ok, refl, true≢false, nat_cmp, below_more}
use Rattle.std.proofs.lemmas.List.{get_or_default, get_or-set_same, get_or-set_other}
use Rattle.std.proofs.lemmas.Bool.{cases_eq, cases_order, cases_lt}
use Rattle.std.proofs.lemmas.Option.{same_Some, get_or_from_slice_get, slice_get_within, slice_get_read, slice_get-get_or}
use Rattle.std.proofs.lemmas.List.Elements.{Contains-get_or}
use Rattle.std.proofs.lemmas.Map.Keys.{below_from_sorted, sorted_from_strictly_increasing}
use Rattle.std.proofs.lemmas.List.Sorted.{searched}
use Rattle.std.specs.List.Sorted.{IsStrictlyIncreasing, IsBinarySearchResult}
use Rattle.std.specs.declared.alloc.Global.{Global}
use Rattle.sci_loop.specs.Grounded.{Grounded, grounded}
use Rattle.sci_loop.specs.Loops.{HasNoLoop}
use Rattle.sci_loop.proofs.Grounded.{grounded_no_loop}
use Rattle.sci_loop.specs.declared.table.DepTable.{DepTable}
use Rattle.sci_loop.specs.Table.{Needs, NeedsAt, IsTable, IsRow, ArePlaces}
use Rattle.sci_loop.specs.Progress.{IsSettled, SeenBelow, SeenTo, IsOpenNeed, IsMet, AllGrounded}

-- a number stands at one place of a list that rises
pub same_place : (xs : List ℕ) (i j : ℕ) → IsStrictlyIncreasing xs → i < length xs → j < length xs → get_or xs i 0 ≡ get_or xs j 0 → i ≡ j
same_place xs i j rising wi wj same =
    let sorted = sorted_from_strictly_increasing xs rising in
    ⊎_elim (λ here. here)
    (λ apart. absurd (⊎_elim (λ lt. let d = below_from_sorted xs i j 0 sorted lt wj in omega (arith, d, same))
    (λ gt. let d = below_from_sorted xs j i 0 sorted gt wi in omega (arith, d, same)) apart))
    (cases_order i j)

pub never_falls : (xs : List ℕ) → IsStrictlyIncreasing xs → (i j : ℕ) → i ≤ j → j < length xs → get_or xs i 0 ≤ get_or xs j 0
never_falls xs rising i j le h =
    let sorted = sorted_from_strictly_increasing xs rising in
    ⊎_elim (λ here. subst (λ m. get_or xs i 0 ≤ get_or xs m 0) here (let z : get_or xs i 0 ≤ get_or xs i 0 = omega arith in z))
    (λ apart. ⊎_elim (λ lt. let d = below_from_sorted xs i j 0 sorted lt h in omega (arith, d)) (λ gt. absurd (omega (arith, gt, le))) apart) (cases_order i j)

-- a binary search finds each member
pub not_missing : (xs : List ℕ) (x k : ℕ) (r : Result ℕ ℕ) → IsStrictlyIncreasing xs → Contains xs x → r ≡ Err k → IsBinarySearchResult (λ y. nat_cmp y x) xs r → ⊥
not_missing xs x k r rising has missing position =
    let at : get_or xs has.0 0 ≡ x = get_or_default xs has.0 0 x has.1 ∙ has.2 in
    let found = searched xs x (Err k) (subst (λ q. IsBinarySearchResult (λ y. nat_cmp y x) xs q) missing position) (never_falls xs rising) in
    ⊎_elim (λ lt. let l = found.1 has.0 lt in omega (arith, l, at)) (λ ge. let l = found.2 has.0 (omega (arith, ge)) has.1 in omega (arith, l, at)) (cases_lt has.0 k)

-- and no other number
pub found_or_not : (xs : List ℕ) (x : ℕ) (r : Result ℕ ℕ) → IsStrictlyIncreasing xs → IsBinarySearchResult (λ y. nat_cmp y x) xs r → (is_ok r ≡ true → Contains xs x) × (Contains xs x → is_ok r ≡ true)
found_or_not xs x (Ok p) rising position = (λ on. let found = searched xs x (Ok p) position (never_falls xs rising) in (p, found.0, get_or_default xs p x 0 found.0 ∙ found.1), λ has. refl)
found_or_not xs x (Err k) rising position = (λ on. absurd (true≢false (sym on)), λ has. absurd (not_missing xs x k (Err k) rising has refl position))

pub table_fits : (t : DepTable) (b : Bool) (ms : List ℕ) (rows : List (Vec ℕ Global)) → ms ≡ t.members.items → rows ≡ t.needs.items → IsStrictlyIncreasing t.members.items →
    length t.needs.items ≡ length t.members.items → (b ≡ true → All (IsRow ms) rows) × (All (IsRow ms) rows → b ≡ true) → (b ≡ true → IsTable t) × (IsTable t → b ≡ true)
table_fits t b ms rows same_ms same_rows rising long test = (
  λ on. record { rising = rising; rows = long; each = subst₂ (λ xs vs. All (IsRow xs) vs) same_ms same_rows (test.0 on) },
  λ ok. test.1 (subst₂ (λ xs vs. All (IsRow xs) vs) (sym same_ms) (sym same_rows) ok.each),
)

pub row_of : (ms ns : List ℕ) (v : Vec ℕ Global) → ns ≡ v.items → IsStrictlyIncreasing ns × All (Contains ms) ns → IsRow ms v
row_of ms ns v same h = record { rising = subst IsStrictlyIncreasing same h.0; closed = subst (All (Contains ms)) same h.1 }

pub of_row : (ms ns : List ℕ) (v : Vec ℕ Global) → ns ≡ v.items → IsRow ms v → IsStrictlyIncreasing ns × All (Contains ms) ns
of_row ms ns v same r = (subst IsStrictlyIncreasing (sym same) r.rising, subst (All (Contains ms)) (sym same) r.closed)

pub one_place : (xs : List ℕ) (i j c : ℕ) → IsStrictlyIncreasing xs → slice_get xs i ≡ Some c → slice_get xs j ≡ Some c → i ≡ j
one_place xs i j c rising at_i at_j =
    same_place xs i j rising (slice_get_within xs i c at_i) (slice_get_within xs j c at_j)
    (get_or_from_slice_get xs i c 0 at_i ∙ sym (get_or_from_slice_get xs j c 0 at_j))

pub row_at : (t : DepTable) (i : ℕ) (row : Vec ℕ Global) → IsTable t → i < length t.members.items → row ≡ get_or t.needs.items i row → slice_get t.needs.items i ≡ Some row
row_at t i row ok h is = slice_get_read t.needs.items (length t.members.items) i row (sym ok.rows) h is

-- the needs of the member at a place
pub needs_at : (t : DepTable) (i c : ℕ) (row : Vec ℕ Global) (ms ns : List ℕ) → IsTable t → i < length ms → get_or ms i 0 ≡ c → row ≡ get_or t.needs.items i row → ms ≡ t.members.items →
    ns ≡ row.items → (b : ℕ) → (Contains ns b → Needs t c b) × (Needs t c b → Contains ns b)
needs_at t i c row ms ns ok h holds is same_ms same_ns b =
    let inside : i < length t.members.items = subst (λ xs. i < length xs) same_ms h in
    let there : slice_get t.members.items i ≡ Some c =
    subst (λ x. slice_get t.members.items i ≡ Some x) (ap (λ xs. get_or xs i 0) (sym same_ms) ∙ holds) (slice_get-get_or t.members.items i 0 inside) in
    let here = row_at t i row ok inside is in (
      λ has. (i, row, there, here, subst (λ xs. Contains xs b) same_ns has),
      λ n.
          let one = one_place t.members.items n.0 i c ok.rising n.2 there in
          let same : n.1 ≡ row = same_Some _ _ (sym n.3 ∙ (ap (slice_get t.needs.items) one ∙ here)) in
          subst (λ xs. Contains xs b) (sym same_ns) (subst (λ (v : Vec ℕ Global). Contains v.items b) same n.4),
    )

-- they rise
pub rises_at : (t : DepTable) (i : ℕ) (row : Vec ℕ Global) (ms ns : List ℕ) → IsTable t → i < length ms → row ≡ get_or t.needs.items i row → ms ≡ t.members.items →
    ns ≡ row.items → IsStrictlyIncreasing ns
rises_at t i row ms ns ok h is same_ms same_ns =
    let inside : i < length t.needs.items = subst (λ m. i < m) (ap length same_ms ∙ sym ok.rows) h in
    let fits : IsRow t.members.items row = subst (IsRow t.members.items) (sym is) (ok.each i row inside) in
    subst IsStrictlyIncreasing (sym same_ns) fits.rising

pub closed_at : (t : DepTable) (i : ℕ) (row : Vec ℕ Global) (ms ns : List ℕ) → IsTable t → i < length t.members.items → row ≡ get_or t.needs.items i row →
    ms ≡ t.members.items → ns ≡ row.items → All (Contains ms) ns
closed_at t i row ms ns ok h is same_ms same_ns =
    let inside : i < length t.needs.items = rw ok.rows h in
    let fits : IsRow t.members.items row = subst (IsRow t.members.items) (sym is) (ok.each i row inside) in
    subst₂ (λ xs ys. All (Contains xs) ys) (sym same_ms) (sym same_ns) fits.closed

pub seen_at : (t : DepTable) (settled : List Bool) (i k : ℕ) (row : Vec ℕ Global) (ms ns : List ℕ) → IsTable t → i < length t.members.items → row ≡ get_or t.needs.items i row →
    ms ≡ t.members.items → ns ≡ row.items → SeenTo t settled i k → SeenBelow ms settled ns k
seen_at t settled i k row ms ns ok h is same_ms same_ns seen =
    subst₂ (λ xs ys. SeenBelow xs settled ys k) (sym same_ms) (sym same_ns) (seen.seen row (row_at t i row ok h is))

pub to_seen : (t : DepTable) (settled : List Bool) (i k : ℕ) (row : Vec ℕ Global) (ms ns : List ℕ) → IsTable t → i < length t.members.items → row ≡ get_or t.needs.items i row →
    ms ≡ t.members.items → ns ≡ row.items → SeenBelow ms settled ns k → SeenTo t settled i k
to_seen t settled i k row ms ns ok h is same_ms same_ns below =
    record {
      seen = λ other at.
          let same : row ≡ other = same_Some _ _ (sym (row_at t i row ok h is) ∙ at) in
          subst (λ (v : Vec ℕ Global). SeenBelow t.members.items settled v.items k) same (subst₂ (λ xs ys. SeenBelow xs settled ys k) same_ms same_ns below);
    }

-- what is settled stays so
pub stays : (settled : List Bool) (at i : ℕ) → at < length settled → get_or settled i false ≡ true → get_or (set settled at true) i false ≡ true
stays settled at i h on =
    ⊎_elim (λ same. subst (λ k. get_or (set settled at true) k false ≡ true) (sym same) (get_or-set_same settled at true false h))
    (λ other. get_or-set_other settled at i true false other ∙ on)
    (cases_eq i at)

pub seen_stays : (t : DepTable) (settled : List Bool) (at i k : ℕ) → at < length settled → SeenTo t settled i k → SeenTo t (set settled at true) i k
seen_stays t settled at i k h s =
    record {
      seen = λ row is m low inside.
          let old = s.seen row is m low inside in
          record { place = old.place; within = old.within; holds = old.holds; marked = stays settled at old.place h old.marked };
    }

-- a member whose needs are settled may be settled
pub grounded_too : (t : DepTable) (settled : List Bool) (i : ℕ) → IsTable t → IsMet t settled i → AllGrounded t settled → AllGrounded t (set settled i true)
grounded_too t settled i ok met all k within on =
    ⊎_elim
    (λ same. grounded _ (λ b n.
    let one = one_place t.members.items n.0 k _ ok.rising n.2 (slice_get-get_or t.members.items k 0 within) in
    let row_same : n.1 ≡ met.row = same_Some _ _ (sym n.3 ∙ (ap (slice_get t.needs.items) (one ∙ same) ∙ met.row_is)) in
    let m = met.all b (subst (λ (v : Vec ℕ Global). Contains v.items b) row_same n.4) in
    subst (Grounded (Needs t)) m.holds (all m.place m.within m.marked)))
    (λ other. all k within (sym (get_or-set_other settled i k true false other) ∙ on))
    (cases_eq k i)

pub open_is_need : (t : DepTable) (settled : List Bool) (i j : ℕ) → i < length t.members.items → IsOpenNeed t settled i j → NeedsAt t i j
open_is_need t settled i j h o = (i, o.row, slice_get-get_or t.members.items i 0 h, o.row_is, o.needed)

-- where every place is settled, there is no loop
pub all_settled : (t : DepTable) (settled : List Bool) → AllGrounded t settled → ((i : ℕ) → i < length t.members.items → get_or settled i false ≡ true) → HasNoLoop (Needs t)
all_settled t settled sound all =
    grounded_no_loop (Needs t) (λ c b n.
    let h = slice_get_within t.members.items n.0 c n.2 in
    subst (Grounded (Needs t)) (get_or_from_slice_get t.members.items n.0 c 0 n.2) (sound n.0 h (all n.0 h)))

-- the place that is listed at a member's number
pub place_listed : (ms ps : List ℕ) (b : ℕ) → ArePlaces ms ps → Contains ms b → (b < length ps) × (get_or ps b 0 < length ms) × (get_or ms (get_or ps b 0) 0 ≡ b)
place_listed ms ps b are has =
    let at : get_or ms has.0 0 ≡ b = get_or_default ms has.0 0 b has.1 ∙ has.2 in
    let listed : get_or ps b 0 ≡ has.0 = subst (λ x. get_or ps x 0 ≡ has.0) at (are.listed has.0 has.1) in (
      subst (λ x. x < length ps) at (are.within has.0 has.1),
      subst (λ x. x < length ms) (sym listed) has.1,
      ap (λ x. get_or ms x 0) listed ∙ at,
    )

-- one more place is listed
pub listed_more : (ms ps : List ℕ) (i : ℕ) → IsStrictlyIncreasing ms → i < length ms → get_or ms i 0 < length ps → ((k : ℕ) → k < i → get_or ps (get_or ms k 0) 0 ≡ k) →
    (k : ℕ) → k < i + 1 → get_or (set ps (get_or ms i 0) i) (get_or ms k 0) 0 ≡ k
listed_more ms ps i rising h inside before =
    let qs = set ps (get_or ms i 0) i in
    let P : ℕ → Type 0 = λ k. get_or qs (get_or ms k 0) 0 ≡ k in
    below_more P i
    (λ k l.
    get_or-set_other ps (get_or ms i 0) (get_or ms k 0) i 0 (λ e. let one = same_place ms k i rising (omega (arith, l, h)) h e in omega (arith, one, l)) ∙ before k l)
    (get_or-set_same ps (get_or ms i 0) i 0 inside)

-- so it is with each need
pub need_listed : (t : DepTable) (i k : ℕ) (row : Vec ℕ Global) (places ns : List ℕ) → IsTable t → ArePlaces t.members.items places → i < length t.members.items → row ≡ get_or t.needs.items i row →
    ns ≡ row.items → k < length ns →
    (get_or ns k 0 < length places) × (get_or places (get_or ns k 0) 0 < length t.members.items) × (get_or t.members.items (get_or places (get_or ns k 0) 0) 0 ≡ get_or ns k 0)
need_listed t i k row places ns ok are h is same inside =
    place_listed t.members.items places (get_or ns k 0) are (closed_at t i row t.members.items ns ok h is refl same k 0 inside)

pub need_open : (t : DepTable) (settled : List Bool) (i k : ℕ) (row : Vec ℕ Global) (places ns : List ℕ) → IsTable t → ArePlaces t.members.items places → i < length t.members.items →
    row ≡ get_or t.needs.items i row → ns ≡ row.items → k < length ns → get_or settled (get_or places (get_or ns k 0) 0) false ≡ false → IsOpenNeed t settled i (get_or places (get_or ns k 0) 0)
need_open t settled i k row places ns ok are h is same inside off =
    let l = need_listed t i k row places ns ok are h is same inside in
    record {
      row = row;
      row_is = row_at t i row ok h is;
      within = l.1;
      off = off;
      needed = subst₂ (λ xs b. Contains xs b) same (sym l.2) (Contains-get_or ns k 0 inside);
    }

pub need_settled : (t : DepTable) (settled : List Bool) (i k : ℕ) (row : Vec ℕ Global) (places ns : List ℕ) → IsTable t → ArePlaces t.members.items places → i < length t.members.items →
    row ≡ get_or t.needs.items i row → ns ≡ row.items → k < length ns → get_or settled (get_or places (get_or ns k 0) 0) false ≡ true → IsSettled t.members.items settled (get_or ns k 0)
need_settled t settled i k row places ns ok are h is same inside on =
    let l = need_listed t i k row places ns ok are h is same inside in record { place = get_or places (get_or ns k 0) 0; within = l.1; holds = l.2; marked = on }

-- where all needs are settled
pub all_met : (t : DepTable) (settled : List Bool) (i k : ℕ) (row : Vec ℕ Global) (ns : List ℕ) → IsTable t → i < length t.members.items → row ≡ get_or t.needs.items i row →
    ns ≡ row.items → length ns ≤ k → SeenBelow t.members.items settled ns k → IsMet t settled i
all_met t settled i k row ns ok h is same long below =
    record {
      row = row;
      row_is = row_at t i row ok h is;
      all = λ b has.
          let here : Contains ns b = subst (λ xs. Contains xs b) (sym same) has in
          subst (IsSettled t.members.items settled) (get_or_default ns here.0 0 b here.1 ∙ here.2) (below here.0 (let l = here.1 in omega (arith, l, long)) here.1);
    }
