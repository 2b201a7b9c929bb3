-- How many entries and guards there are.
use Rattle.std.proofs.Common.{ℕ, ◌≡◌, ◌+◌, ◌<◌, ◌≤◌, List, [], ◌∷◌, length, get_or, take, map, vec_len, refl, sym, ap, ap₂, ◌∙◌, arith, Vec}
use Rattle.std.specs.List.{sum_by}
use Rattle.std.proofs.lemmas.List.{length-map, take_all}
use Rattle.std.proofs.lemmas.List.Sums.{sum_by-cons, sum_by_more, sum_by_more_le}
use Rattle.std.specs.declared.alloc.Global.{Global}
use Rattle.sci_reaction.specs.declared.entry.Entry.{Entry}
use Rattle.sci_sched.specs.Plain.{row_of, lists_of}
use Rattle.sci_reaction.specs.Kept.{guard_of, entry_of}
use Rattle.sci_sched.specs.Size.{entry_count, guards_in, guard_count}

-- a sum over other forms of the same things
pub sum_by-alike : {X Y : Type 0} (f : X → ℕ) (g : Y → ℕ) (h : X → Y) → ((x : X) → f x ≡ g (h x)) → (xs : List X) → sum_by f xs ≡ sum_by g (map h xs)
sum_by-alike f g h same [] = refl
sum_by-alike f g h same (x ∷ xs) = sum_by-cons f x xs ∙ (ap₂ (λ a b. a + b) (same x) (sum_by-alike f g h same xs) ∙ sym (sum_by-cons g (h x) (map h xs)))

pub guards_counted : (es : List Entry) → sum_by (λ (e : Entry). vec_len e.guards) es ≡ guards_in (row_of es)
guards_counted es = sum_by-alike (λ (e : Entry). vec_len e.guards) (λ e. length e.guards) entry_of (λ e. e.guards.ok.0 ∙ sym (length-map e.guards.items guard_of)) es

pub entries_counted : (rows : List (Vec Entry Global)) → sum_by (λ (v : Vec Entry Global). vec_len v) rows ≡ entry_count (lists_of rows)
entries_counted rows = sum_by-alike (λ (v : Vec Entry Global). vec_len v) (λ row. length row) (λ v. row_of v.items) (λ v. v.ok.0 ∙ sym (length-map v.items entry_of)) rows

pub all_guards_counted : (rows : List (Vec Entry Global)) → sum_by (λ (v : Vec Entry Global). guards_in (row_of v.items)) rows ≡ guard_count (lists_of rows)
all_guards_counted rows = sum_by-alike (λ (v : Vec Entry Global). guards_in (row_of v.items)) guards_in (λ v. row_of v.items) (λ v. refl) rows

-- the sum so far and the next element are within a bound on the whole
pub part_fits : {X : Type 0} (f : X → ℕ) (xs : List X) (i count bound : ℕ) (x : X) → i < length xs → x ≡ get_or xs i x → count ≡ sum_by f (take i xs) → sum_by f xs < bound → count + f x < bound
part_fits f xs i count bound x h is so_far small =
    let part = sum_by_more_le f xs i x h in let e : f x ≡ f (get_or xs i x) = ap f is in omega (arith, part, e, so_far, small)

pub part_more : {X : Type 0} (f : X → ℕ) (xs : List X) (i count : ℕ) (x : X) → i < length xs → x ≡ get_or xs i x → count ≡ sum_by f (take i xs) → count + f x ≡ sum_by f (take (i + 1) xs)
part_more f xs i count x h is so_far =
    let more = sum_by_more f xs i x h in let e : f x ≡ f (get_or xs i x) = ap f is in omega (arith, more, e, so_far)

pub part_all : {X : Type 0} (f : X → ℕ) (xs : List X) (i count : ℕ) → length xs ≤ i → count ≡ sum_by f (take i xs) → count ≡ sum_by f xs
part_all f xs i count h so_far = so_far ∙ ap (λ ys. sum_by f ys) (take_all i xs h)
