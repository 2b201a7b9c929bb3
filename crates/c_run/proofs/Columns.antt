-- Taking the next value of a column.
use Rattle.std.proofs.Common.{◌≡◌, ℕ, zero, suc, ◌<◌, List, [], ◌∷◌, length, get_or, map, Some, refl, sym, ap, ◌∙◌, arith, ℤ}
use Rattle.std.specs.Prelude.{slice_get, slice_set}
use Rattle.c_ast.specs.Syntax.{Exp, Place}
use Rattle.c_run.specs.declared.memory.Memory.{Memory}
use Rattle.c_run.specs.declared.machine.ColumnRest.{ColumnRest}
use Rattle.c_mean.specs.Meaning.{World, evaluate, assign, column_place, received}
use Rattle.c_run.specs.Running.{left_of, world}
use Rattle.c_run.specs.Layout.{slots}

got : (cs : List ColumnRest) (i : ℕ) (c : ColumnRest) → i < length cs → slice_get (map left_of cs) i ≡ Some (left_of (get_or cs i c))
got [] i c h = absurd (omega arith)
got (d ∷ cs) zero c h = refl
got (d ∷ cs) (suc i) c h = let less : i < length cs = omega arith in got cs i c less

left_set : (cs : List ColumnRest) (i : ℕ) (c : ColumnRest) → map left_of (slice_set cs i c) ≡ slice_set (map left_of cs) i (left_of c)
left_set [] i c = refl
left_set (d ∷ cs) zero c = refl
left_set (d ∷ cs) (suc i) c = ap (λ (l : List (List ℤ)). left_of d ∷ l) (left_set cs i c)

pub received_is : (p : Place) (e : Exp) (vs vs' : Memory) (cs : List ColumnRest) (k : ℤ) (i : ℕ) (v : ℤ) (rest c new : ColumnRest) → evaluate e (slots vs) ≡ Some k → column_place k ≡ Some i → i < length cs
    → left_of (get_or cs i c) ≡ v ∷ left_of rest → assign p v (slots vs) ≡ Some (slots vs') → new ≡ rest → Some (world vs' (slice_set cs i new)) ≡ received p e (world vs cs)
received_is p e vs vs' cs k i v rest c new ev pl h first given same =
    let there : slice_get (map left_of cs) i ≡ Some (v ∷ left_of rest) = got cs i c h ∙ ap Some first in
    ap (λ (q : ColumnRest). Some (world vs' (slice_set cs i q))) same
    ∙ ap (λ (l : List (List ℤ)). let w : World = record { slots = slots vs'; left = l } in Some w) (left_set cs i rest)
    ∙ sym (rw (ev, pl, there, given) refl)
