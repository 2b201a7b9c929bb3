use Rattle.std.proofs.Common.{◌≡◌, ◌+◌, ◌-◌, ◌<◌, ℕ, pos, ℤ, List, length, take, drop, ap, sym, ◌∙◌, refl, arith}
use Rattle.std.proofs.lemmas.List.{get_or-drop, get_or-take}
use Rattle.sci_base.specs.Lists.{at}
use Rattle.sci_net.specs.Net.{all_elements}
use Rattle.sci_places.specs.Flat.{start_of}
use Rattle.sci_places.proofs.Outputs.{block_within}
use Rattle.sci_span.proofs.Runs.{read_length}
use Rattle.sci_vcd.specs.Writing.{Writing, with_notes}
use Rattle.sci_wave.specs.Noted.{holds_between}
use Rattle.sci_wave.proofs.Blockwise.{start_read, end_read, run_ordered, read_is, within_signals, value_fits}
use Rattle.sci_wave.proofs.noting.note_run.Goals as goal

pub slice_bounds-note_values-count : goal.slice_bounds-note_values-count
slice_bounds-note_values-count c =
    let n = c.args.ready.now.fixed.net in
    let s = start_read n c.args.dump.now c.args.first c.before-start.result c.requires.of c.requires.first c.before-start.ensures in
    let e = end_read n c.args.dump.now c.args.last c.before-end.result c.requires.of c.requires.last c.before-end.ensures in
    let o = run_ordered n c.args.first c.args.last c.requires.first c.requires.last c.requires.order in
    omega (arith, s, e, o)

pub slice_bounds-note_values-start : goal.slice_bounds-note_values-start
slice_bounds-note_values-start c =
    let n = c.args.ready.now.fixed.net in
    let s = start_read n c.args.dump.now c.args.first c.before-start.result c.requires.of c.requires.first c.before-start.ensures in
    let e = end_read n c.args.dump.now c.args.last c.before-end.result c.requires.of c.requires.last c.before-end.ensures in
    let o = run_ordered n c.args.first c.args.last c.requires.first c.requires.last c.requires.order in
    omega (arith, s, e, o)

pub slice_bounds-note_values-end : goal.slice_bounds-note_values-end
slice_bounds-note_values-end c =
    let n = c.args.ready.now.fixed.net in
    let s = start_read n c.args.dump.now c.args.first c.before-start.result c.requires.of c.requires.first c.before-start.ensures in
    let e = end_read n c.args.dump.now c.args.last c.before-end.result c.requires.of c.requires.last c.before-end.ensures in
    let o = run_ordered n c.args.first c.args.last c.requires.first c.requires.last c.requires.order in
    let w = block_within n c.args.last c.requires.last in
    omega (arith, s, e, o, w, c.values.ensures.whole)

pub note_values-requires-clause-within : goal.note_values-requires-clause-within
note_values-requires-clause-within c =
    let n = c.args.ready.now.fixed.net in
    let s = start_read n c.args.dump.now c.args.first c.before-start.result c.requires.of c.requires.first c.before-start.ensures in
    let e = end_read n c.args.dump.now c.args.last c.before-end.result c.requires.of c.requires.last c.before-end.ensures in
    let o = run_ordered n c.args.first c.args.last c.requires.first c.requires.last c.requires.order in
    let w = block_within n c.args.last c.requires.last in
    let long : length (take (c.before-end.result - c.before-start.result) (drop c.before-start.result c.values.result.now)) ≡ c.before-end.result - c.before-start.result =
    read_length c.values.result.now c.before-start.result (c.before-end.result - c.before-start.result) (omega (arith, s, e, o, w, c.values.ensures.whole)) in
    let f = within_signals n c.args.dump.now c.args.last c.requires.net c.requires.of c.requires.last in
    omega (arith, s, e, o, long, f)

pub note_values-requires-clause-fits : goal.note_values-requires-clause-fits
note_values-requires-clause-fits c = λ k h.
    let n = c.args.ready.now.fixed.net in
    let s = start_read n c.args.dump.now c.args.first c.before-start.result c.requires.of c.requires.first c.before-start.ensures in
    let e = end_read n c.args.dump.now c.args.last c.before-end.result c.requires.of c.requires.last c.before-end.ensures in
    let o = run_ordered n c.args.first c.args.last c.requires.first c.requires.last c.requires.order in
    let w = block_within n c.args.last c.requires.last in
    let long : length (take (c.before-end.result - c.before-start.result) (drop c.before-start.result c.values.result.now)) ≡ c.before-end.result - c.before-start.result =
    read_length c.values.result.now c.before-start.result (c.before-end.result - c.before-start.result) (omega (arith, s, e, o, w, c.values.ensures.whole)) in
    let below : k < c.before-end.result - c.before-start.result = omega (arith, h, long) in
    value_fits c.args.ready.now c.args.dump.now (c.before-start.result + k) _ _ c.requires.of c.requires.fits (omega (arith, s, e, o, w, below)) refl
    (get_or-take (c.before-end.result - c.before-start.result) (drop c.before-start.result c.values.result.now) k (pos 0) below
    ∙ get_or-drop c.before-start.result c.values.result.now k (pos 0) ∙ ap (λ (vs : List ℤ). at vs (c.before-start.result + k)) c.values.ensures.values)

pub returns-clause-noted : goal.returns-clause-noted
returns-clause-noted c =
    let n = c.args.ready.now.fixed.net in
    let s = start_read n c.args.dump.now c.args.first c.before-start.result c.requires.of c.requires.first c.before-start.ensures in
    let e = end_read n c.args.dump.now c.args.last c.before-end.result c.requires.of c.requires.last c.before-end.ensures in
    let o = run_ordered n c.args.first c.args.last c.requires.first c.requires.last c.requires.order in
    let vs = take (c.before-end.result - c.before-start.result) (drop c.before-start.result c.values.result.now) in
    c.note_values.ensures ∙ ap (λ (k : ℕ). with_notes c.args.dump.now k vs) s
    ∙ ap (λ (l : List ℤ). with_notes c.args.dump.now (start_of n c.args.first) l) (read_is c.values.result.now c.args.ready.now.store.values _ _ _ _ c.values.ensures.values s e)
