use Rattle.std.proofs.Common.{◌≡◌, ◌<◌, length, get_or, sym, subst, arith}
use Rattle.std.proofs.lemmas.List.{length_push}
use Rattle.std.proofs.lemmas.Iterator.Adapters.{YieldsList-from_vec}
use Rattle.std.proofs.lemmas.Iterator.Consumers.{YieldsList-turn}
use Rattle.sci_reaction.specs.Kept.{entries_of}
use Rattle.sci_net.specs.Sources.{source_of}
use Rattle.sci_reaction.specs.Depends.{IsLoopFree}
use Rattle.sci_reaction.specs.Schedule.{IsRow}
use Rattle.sci_store.specs.Rows.{AreEntriesOf}
use Rattle.sci_sim.proofs.Planning.{AreMade, made_more, row_planned, source_planned, entries_are, blocks_in}
use Rattle.sci_sim.proofs.rows.rows.Goals.{In-Some}
use Rattle.sci_sim.proofs.rows.rows.Goals as goal

module _ (c : In-Some) where
  turn : (length c.loop-entries.yielded < length c.args.plan.rows.items) × (c.in-Some.entries ≡ get_or c.args.plan.rows.items (length c.loop-entries.yielded) c.in-Some.entries)
  turn =
      let gives = c.into_iter-entries-iterator.ensures.into_iter_gives in
      let long : c.into_iter-entries-iterator.result.rest.len ≡ length c.args.plan.rows.items = omega (arith, gives.1, c.args.plan.rows.ok.0) in
      YieldsList-turn (YieldsList-from_vec {s = c.into_iter-entries-iterator.result} c.args.plan.rows.items gives.0 long) c.loop-entries.yielded c.loop-entries.entries-iterator
      c.loop-entries.yielded_by c.next.result c.next.new.self c.in-Some.entries c.in-Some.is c.next.ensures.steps

  is_row : IsRow c.args.kept.now.fixed.net (source_of c.args.kept.now.fixed.net (length c.loop-entries.yielded)) (entries_of c.in-Some.entries.items)
  is_row = row_planned c.args.kept.now.fixed.net c.args.plan.rows.items c.requires (length c.loop-entries.yielded) c.in-Some.entries turn.0 turn.1

  free : IsLoopFree c.args.kept.now.fixed.net (source_of c.args.kept.now.fixed.net (length c.loop-entries.yielded))
  free = source_planned c.args.kept.now.fixed.net c.args.plan.rows.items c.requires (length c.loop-entries.yielded) turn.0

  made_of : AreEntriesOf c.args.kept.now.fixed.net (source_of c.args.kept.now.fixed.net (length c.loop-entries.yielded)) c.in-Some.entries.items
  made_of = entries_are c.args.kept.now.fixed.net _ c.well_formed-2.ensures.frame.net free c.in-Some.entries.items is_row

pub row_of-requires-clause-blocks : goal.row_of-requires-clause-blocks
row_of-requires-clause-blocks c =
    let at = (goal.at.row_of-requires-clause-blocks c).In-Some in
    blocks_in c.args.kept.now.fixed.net _ c.well_formed-2.ensures.frame.net (free at) c.in-Some.entries.items (is_row at)

pub row_of-requires-clause-once : goal.row_of-requires-clause-once
row_of-requires-clause-once c = (made_of (goal.at.row_of-requires-clause-once c).In-Some).once

pub loop-entries-preserved : goal.loop-entries-preserved
loop-entries-preserved c =
    let at = (goal.at.loop-entries-preserved c).In-Some in
    let f = c.args.kept.now.fixed in
    let k = length c.loop-entries.yielded in
    let more = made_more f k c.loop-entries.made.items c.in_ok-row_of.field-0 (record { made_of = c.in-Some.entries.items; entries = made_of at; row = c.in_ok-row_of.ensures }) c.loop-entries.invariant in
    subst (λ (n : _). AreMade f n c.push.new.self.items) (sym (length_push c.loop-entries.yielded c.in-Some.entries)) (subst (AreMade f _) (sym c.in_ok-push.ensures.items) more)
