-- Lists of dead branches are short.
use Rattle.std.proofs.Common.{◌≡◌, ℕ, zero, suc, ◌<◌, ◌^◌, Bool, List, [], ◌∷◌, ◌++◌, length, get_or, Vec, sym, ap, subst, ◌∙◌, arith}
use Rattle.std.proofs.lemmas.List.{get_or_past, map-append}
use Rattle.std.specs.declared.alloc.Global.{Global}
use Rattle.sci_net.specs.Parts.{rows_of}
use Rattle.sci_ranges_marks.specs.Branches.{AreFewBranches}

none_few : (b : ℕ) → length (get_or {A = List Bool} [] b []) < 2 ^ 32
none_few b = subst (λ (v : List Bool). length v < 2 ^ 32) (sym (get_or_past [] b [] (omega arith))) (omega arith)

few_rows : (rows : List (List Bool)) (v : List Bool) → length v < 2 ^ 32 → ((b : ℕ) → length (get_or rows b []) < 2 ^ 32) → (b : ℕ) → length (get_or (rows ++ v ∷ []) b []) < 2 ^ 32
few_rows [] v small h zero = small
few_rows [] v small h (suc b) = none_few b
few_rows (r ∷ rows) v small h zero = h zero
few_rows (r ∷ rows) v small h (suc b) = few_rows rows v small (λ c. h (suc c)) b

rows_push : (rows : List (Vec Bool Global)) (v : Vec Bool Global) → rows_of (rows ++ v ∷ []) ≡ rows_of rows ++ v.items ∷ []
rows_push rows v = map-append (λ (w : Vec Bool Global). w.items) rows (v ∷ [])

pub few_more : (dead : List (Vec Bool Global)) (v : Vec Bool Global) → length v.items < 2 ^ 32 → AreFewBranches dead → AreFewBranches (dead ++ v ∷ [])
few_more dead v small so_far b =
    subst (λ (rows : List (List Bool)). length (get_or rows b []) < 2 ^ 32) (sym (rows_push dead v)) (few_rows (rows_of dead) v.items small so_far b)

-- the list of the blocks begins with one that is no block's
pub first_few : (old dead : List (Vec Bool Global)) (v : Vec Bool Global) → old ≡ [] → v.items ≡ [] → dead ≡ old ++ v ∷ [] → AreFewBranches dead
first_few old dead v none empty is =
    subst (λ (d : List (Vec Bool Global)). AreFewBranches d) (sym (is ∙ ap (λ (o : List (Vec Bool Global)). o ++ v ∷ []) none))
    (few_more [] v (subst (λ (x : List Bool). length x < 2 ^ 32) (sym empty) (omega arith)) none_few)
