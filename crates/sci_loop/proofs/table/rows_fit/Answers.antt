use Rattle.std.proofs.Common.{ℕ, get_or, subst, sym, ◌∙◌, true≢false, below_more}
use Rattle.std.proofs.lemmas.List.{get_or_default}
use Rattle.sci_loop.specs.Table.{IsRow}
use Rattle.sci_loop.proofs.Places.{row_of, of_row}
use Rattle.sci_loop.proofs.table.rows_fit.Goals as goal

pub returns-then-not-row_fits : goal.returns-then-not-row_fits
returns-then-not-row_fits c = (
  λ on. absurd (true≢false (sym on)),
  λ all.
      let v = c.index-rows-i.result in
      let row : IsRow c.args.members.now v = subst (IsRow c.args.members.now) (sym c.index-rows-i.is) (all c.loop-i.i v c.loop-i-test.true) in
      absurd (true≢false (sym (c.row_fits.ensures.1 (of_row c.args.members.now c.deref.result.now v c.deref.ensures.value row)) ∙ c.if-not-row_fits.true)),
)

pub loop-i-preserved : goal.loop-i-preserved
loop-i-preserved c k d =
    let P : ℕ → Type 0 = λ m. IsRow c.args.members.now (get_or c.args.rows.now m d) in
    let v = c.index-rows-i.result in
    let row = row_of c.args.members.now c.deref.result.now v c.deref.ensures.value (c.row_fits.ensures.0 c.if-not-row_fits.false) in
    below_more P c.loop-i.i (λ m l. c.loop-i.invariant m d l)
    (subst (IsRow c.args.members.now) (c.index-rows-i.is ∙ get_or_default c.args.rows.now c.loop-i.i v d c.loop-i-test.true) row) k
