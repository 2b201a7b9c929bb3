use Rattle.std.proofs.Common.{rules, w64, FitsSigned, ◌≡◌, ◌≤◌, ◌∙◌, [], Some, None, length, slice_get, refl, ap, sym, arith}
use Rattle.std.proofs.lemmas.Int.{to_z-of_z}
use Rattle.std.proofs.lemmas.Option.{slice_get_read, slice_get_past}
use Rattle.sci_net.specs.Parts.{numbered}
use Rattle.sci_net.proofs.Numbered.{numbered_read}
use Rattle.sci_store.specs.Store.{Standing, cursor_at}
use Rattle.sci_store.proofs.Evaluating.{sense_is}
use Rattle.sci_store.proofs.store.Store.sense.Goals.{After-index}
use Rattle.sci_store.proofs.store.Store.sense.Goals as goal

-- the cursor that is read
cursor_is : (c : After-index) → c.index.result.now ≡ cursor_at c.args.self.now c.args.block
cursor_is c =
    let same = ap (λ (s : Standing). length s.cursors) c.self.view_is in
    numbered_read 0 c.self.inside.cursors.items c.args.block c.index.result.now c.requires.block.least
    (omega (arith, same, c.requires.store.cursors, c.requires.block.most)) c.index.ensures
    ∙ ap (λ (s : Standing). numbered 0 s.cursors c.args.block) c.self.view_is

pub returns-in_err-value-clause-value : goal.returns-in_err-value-clause-value
returns-in_err-value-clause-value c =
    let xs = c.deref.result.now in
    let k = c.index.result.now in
    let past : length xs ≤ k = c.in_err-value.ensures.lookup.3 in
    c.from_residual-in_err-value.ensures
    ∙ (sense_is c.args.inputs.now c.columns.result.now c.column.result c.in_ok-at.at k _ c.in_ok-column.column.now None c.columns.ensures c.in_ok-at.ensures.0
    c.in_ok-at.ensures.1 c.in_ok-column.ensures.lookup.3.0 c.in_ok-column.ensures.lookup.1 (cursor_is (goal.at.returns-in_err-value-clause-value c).After-index)
    (ap (λ vs. slice_get vs k) (sym c.deref.ensures.value) ∙ slice_get_past xs k past)
    ∙ ap (λ j. slice_get (numbered [] c.args.inputs.now j) (cursor_at c.args.self.now c.args.block)) c.column.ensures)

pub returns-clause-value : goal.returns-clause-value
returns-clause-value c =
    let xs = c.deref.result.now in
    let k = c.index.result.now in
    let v = c.in_ok-value.value.now in
    let fits : FitsSigned w64 v = search rules in
    ap Some (to_z-of_z w64 v fits)
    ∙ (sense_is c.args.inputs.now c.columns.result.now c.column.result c.in_ok-at.at k _ c.in_ok-column.column.now
    (Some v) c.columns.ensures c.in_ok-at.ensures.0
    c.in_ok-at.ensures.1 c.in_ok-column.ensures.lookup.3.0 c.in_ok-column.ensures.lookup.1 (cursor_is (goal.at.returns-clause-value c).After-index)
    (ap (λ vs. slice_get vs k) (sym c.deref.ensures.value)
    ∙ slice_get_read xs (length xs) k v refl c.in_ok-value.ensures.lookup.3.0 c.in_ok-value.ensures.lookup.1)
    ∙ ap (λ j. slice_get (numbered [] c.args.inputs.now j) (cursor_at c.args.self.now c.args.block)) c.column.ensures)
