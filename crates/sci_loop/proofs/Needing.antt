-- Whether a table has needs.
use Rattle.std.proofs.Common.{ℕ, ◌≡◌, ◌+◌, ◌<◌, ◌≤◌, Bool, true, false, ◌↔◌, List, length, get_or, Vec, vec_len, refl, sym, subst, ◌∙◌, arith, true≢false, nat_eq, below_more}
use Rattle.std.specs.declared.alloc.Global.{Global}
use Rattle.std.proofs.lemmas.Bool.{eqb-true, eq-eqb}
use Rattle.std.proofs.lemmas.List.{get_or_default}
use Rattle.std.proofs.lemmas.List.Elements.{Contains-get_or}
use Rattle.std.proofs.lemmas.Option.{slice_get_within, get_or_from_slice_get, slice_get-get_or, slice_get_read}
use Rattle.sci_loop.specs.declared.table.DepTable.{DepTable}
use Rattle.sci_loop.specs.Table.{HasNeeds, HasNumber, IsTable}

-- a list that isn't empty has a number
pub number_there : (rows : List (Vec ℕ Global)) (i : ℕ) (v : Vec ℕ Global) (empty : Bool) → i < length rows → v ≡ get_or rows i v → empty ≡ nat_eq (vec_len v) 0 → empty ≡ false → HasNumber rows
number_there rows i v empty h is tested off =
    let none : length v.items ≡ 0 → ⊥ = λ z. true≢false (sym (eq-eqb (vec_len v) 0 (v.ok.0 ∙ z)) ∙ (sym tested ∙ off)) in
    record { place = i; row = v; row_is = slice_get_read rows (length rows) i v refl h is; some = omega (arith, none) }

-- an empty list has none
pub none_there : (rows : List (Vec ℕ Global)) (i : ℕ) (v : Vec ℕ Global) (empty : Bool) → i < length rows → v ≡ get_or rows i v → empty ≡ nat_eq (vec_len v) 0 → empty ≡ true →
    ((k : ℕ) (d : Vec ℕ Global) → k < i → length (get_or rows k d).items ≡ 0) → (k : ℕ) (d : Vec ℕ Global) → k < i + 1 → length (get_or rows k d).items ≡ 0
none_there rows i v empty h is tested on before k d =
    let P : ℕ → Type 0 = λ m. length (get_or rows m d).items ≡ 0 in
    let here : length v.items ≡ 0 = sym v.ok.0 ∙ eqb-true (vec_len v) 0 (sym tested ∙ on) in
    below_more P i (λ m l. before m d l) (subst (λ (w : Vec ℕ Global). length w.items ≡ 0) (is ∙ get_or_default rows i v d h) here) k

-- where all are empty, there is none
pub no_number : (rows : List (Vec ℕ Global)) (i : ℕ) → length rows ≤ i → ((k : ℕ) (d : Vec ℕ Global) → k < i → length (get_or rows k d).items ≡ 0) → HasNumber rows → ⊥
no_number rows i all none h =
    let within = slice_get_within rows h.place h.row h.row_is in
    let same = get_or_from_slice_get rows h.place h.row h.row h.row_is in
    let empty : length h.row.items ≡ 0 = subst (λ (w : Vec ℕ Global). length w.items ≡ 0) same (none h.place h.row (omega (arith, within, all))) in
    let some = h.some in omega (arith, empty, some)

-- a number that stands in a list of the table is a need of the member there
pub numbers_needed : (t : DepTable) (r : Bool) (rows : List (Vec ℕ Global)) → IsTable t → rows ≡ t.needs.items → (r ≡ true) ↔ HasNumber rows → (r ≡ true) ↔ HasNeeds t
numbers_needed t r rows ok same test = (λ on. needed (subst HasNumber same (test.0 on)), λ h. test.1 (subst HasNumber (sym same) (number h)))
  where
    needed : HasNumber t.needs.items → HasNeeds t
    needed h =
        let within = slice_get_within t.needs.items h.place h.row h.row_is in
        let long = ok.rows in
        let inside : h.place < length t.members.items = omega (arith, within, long) in
        record {
          member = get_or t.members.items h.place 0;
          need = get_or h.row.items 0 0;
          needs = (h.place, h.row, slice_get-get_or t.members.items h.place 0 inside, h.row_is, Contains-get_or h.row.items 0 0 h.some);
        }

    number : HasNeeds t → HasNumber t.needs.items
    number h = let n = h.needs in record { place = n.0; row = n.1; row_is = n.3; some = let l = n.4.1 in omega (arith, l) }
