-- A net without loops has one schedule.
use Rattle.std.proofs.Common.{◌≡◌, ℕ, zero, suc, ◌<◌, List, [], ◌∷◌, length, slice_index_or, refl, sym, ap, ap₂, ◌∙◌, arith}
use Rattle.sci_net.specs.declared.Source.{Source}
use Rattle.sci_net.specs.declared.Source.TheVariants.{Start}
use Rattle.sci_net.specs.Parts.{Parts, IsWired}
use Rattle.sci_net.specs.Sources.{sources_of, source_of}
use Rattle.sci_reaction.specs.Depends.{IsLoopFree}
use Rattle.sci_reaction.specs.Schedule.{Entry, IsRow, IsSchedule}
use Rattle.sci_reaction.proofs.Exists.{some_row}
use Rattle.sci_reaction.proofs.OneRow.{one_row}

module _ (n : Parts) (ok : IsWired n) where
  abbrev AllFree : List Source → Type 0
  AllFree ss = (k : ℕ) → k < length ss → IsLoopFree n (slice_index_or ss k Start)

  abbrev AreRows : List Source → List (List Entry) → Type 0
  AreRows ss rows = (k : ℕ) → k < length ss → IsRow n (slice_index_or ss k Start) (slice_index_or rows k [])

  rows_more : (s : Source) (ss : List Source) (row : List Entry) (rows : List (List Entry)) → IsRow n s row → AreRows ss rows → AreRows (s ∷ ss) (row ∷ rows)
  rows_more s ss row rows is all zero h = is
  rows_more s ss row rows is all (suc k) h = all k (omega (arith, h))

  rows_for : (ss : List Source) → AllFree ss → (rows : List (List Entry)) × (length rows ≡ length ss) × AreRows ss rows
  rows_for [] free = ([], refl, λ k h. absurd (omega (arith, h)))
  rows_for (s ∷ ss) free =
      let rest = rows_for ss (λ k h. free (suc k) (omega (arith, h))) in
      let row = some_row n s (free 0 (omega arith)) ok in
      (row.0 ∷ rest.0, ap suc rest.1, rows_more s ss row.0 rest.0 row.1 rest.2)

  pub some_schedule : AllFree (sources_of n) → (rows : List (List Entry)) × IsSchedule n rows
  some_schedule free =
      let r = rows_for (sources_of n) free in
      (r.0, record { enough = r.1; each = λ k h. r.2 k (let e = r.1 in omega (arith, h, e)) })

  same_rows : (xs ys : List (List Entry)) → length xs ≡ length ys → ((k : ℕ) → k < length xs → slice_index_or xs k [] ≡ slice_index_or ys k []) → xs ≡ ys
  same_rows [] [] e h = refl
  same_rows [] (y ∷ ys) e h = absurd (omega (arith, e))
  same_rows (x ∷ xs) [] e h = absurd (omega (arith, e))
  same_rows (x ∷ xs) (y ∷ ys) e h =
      ap₂ (λ v vs. v ∷ vs) (h 0 (omega arith)) (same_rows xs ys (omega (arith, e)) (λ k l. h (suc k) (omega (arith, l))))

  pub one_schedule : AllFree (sources_of n) → (one other : List (List Entry)) → IsSchedule n one → IsSchedule n other → one ≡ other
  one_schedule free one other x y =
      same_rows one other (x.enough ∙ sym y.enough)
      (λ k h. one_row n (source_of n k) (free k (let e = x.enough in omega (arith, h, e))) (slice_index_or one k []) (slice_index_or other k []) (x.each k h)
      (y.each k (let e = x.enough in let f = y.enough in omega (arith, h, e, f))))
