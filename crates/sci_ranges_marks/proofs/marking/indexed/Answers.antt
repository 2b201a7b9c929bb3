use Rattle.std.proofs.Common.{◌≡◌, ◌<◌, ◌≤◌, All, ℕ, length, get_or, map, take, take_all, sym, ap, ◌∙◌, subst, arith}
use Rattle.std.proofs.lemmas.List.{length_push}
use Rattle.std.proofs.lemmas.Iterator.Adapters.{YieldsList-from_vec}
use Rattle.std.proofs.lemmas.Iterator.Consumers.{YieldsList-turn, YieldsList-end}
use Rattle.sci_net.specs.Sources.{source_of}
use Rattle.sci_reaction.specs.declared.entry.Entry.{Entry}
use Rattle.sci_ranges_marks.specs.View.{lists_of, row_of}
use Rattle.sci_ranges_marks.proofs.Marked.{list_at_place, blocks_below, ready_more}
use Rattle.sci_ranges_marks.proofs.marking.indexed.Goals.{In-Some}
use Rattle.sci_ranges_marks.proofs.marking.indexed.Goals as goal

turn : (c : In-Some) → (length c.loop-row.yielded < length c.args.rows.items) × (c.in-Some.row ≡ get_or c.args.rows.items (length c.loop-row.yielded) c.in-Some.row)
turn c =
    let gives = c.into_iter-row-iterator.ensures.into_iter_gives in
    let long : c.into_iter-row-iterator.result.rest.len ≡ length c.args.rows.items = omega (arith, gives.1, c.args.rows.ok.0) in
    YieldsList-turn (YieldsList-from_vec {s = c.into_iter-row-iterator.result} c.args.rows.items gives.0 long) c.loop-row.yielded c.loop-row.row-iterator c.loop-row.yielded_by
    c.next.result c.next.new.self c.in-Some.row c.in-Some.is c.next.ensures.steps

pub of-requires : goal.of-requires
of-requires c =
    let n = c.args.net.now in
    let k = length c.loop-row.yielded in
    let t = turn (goal.at.of-requires c).In-Some in
    let all = blocks_below n (source_of n k) c.in-Some.row.items (list_at_place n c.args.rows.items k c.in-Some.row c.requires t.0 t.1) in
    subst (λ (m : ℕ). All (λ (e : Entry). e.block ≤ m) c.in-Some.row.items) (sym c.len-in-loop-row.ensures) all

pub loop-row-preserved : goal.loop-row-preserved
loop-row-preserved c =
    let k = length c.loop-row.yielded in
    let t = turn (goal.at.loop-row-preserved c).In-Some in
    ap (map row_of) c.in_ok-push.ensures.items
    ∙ (ready_more c.args.rows.items k c.in-Some.row c.loop-row.ready.items c.in_ok-of.field-0 t.0 t.1 c.in_ok-of.ensures c.loop-row.invariant
    ∙ ap (λ (m : ℕ). lists_of (take m c.args.rows.items)) (sym (length_push c.loop-row.yielded c.in-Some.row)))

pub returns : goal.returns
returns c =
    let gives = c.into_iter-row-iterator.ensures.into_iter_gives in
    let long : c.into_iter-row-iterator.result.rest.len ≡ length c.args.rows.items = omega (arith, gives.1, c.args.rows.ok.0) in
    let done = YieldsList-end (YieldsList-from_vec {s = c.into_iter-row-iterator.result} c.args.rows.items gives.0 long) c.loop-row.yielded c.loop-row.row-iterator c.loop-row.yielded_by
    c.next.result c.next.new.self c.in-None.is c.next.ensures.steps in
    c.loop-row.invariant ∙ ap lists_of (take_all (length c.loop-row.yielded) c.args.rows.items (omega (arith, done.1)))
