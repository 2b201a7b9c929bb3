use Rattle.std.proofs.Common.{◌≡◌, ◌+◌, sym, ap, ◌∙◌, subst, set, arith, rules}
use Rattle.std.proofs.lemmas.List.{get_or_default}
use Rattle.sci_net.specs.Parts.{rows_of}
use Rattle.sci_reaction.specs.Kept.{entry_of as plain_entry}
use Rattle.sci_reaction.specs.declared.entry.Entry.{Entry}
use Rattle.sci_ranges_rows.specs.Marks.{dead_of, is_let}
use Rattle.sci_ranges_marks.proofs.Marked.{AreActsTo, no_acts, one_act, all_acts}
use Rattle.sci_ranges_marks.proofs.marking.mark_row.Goals as goal

pub loop-k-init : goal.loop-k-init
loop-k-init c = no_acts (dead_of (rows_of c.args.dead.now)) c.args.count c.args.row.now c.in_ok-acts.acts.items (c.in_ok-acts.ensures.items_if_clones_equal (search rules))

pub index_mut-requires : goal.index_mut-requires
index_mut-requires c =
    let most = c.requires c.loop-k.k c.index-row-k-in-loop-k.result c.loop-k-test.true in
    omega (arith, most, c.loop-k.invariant.enough, c.loop-k.acts.ok.0)

pub loop-k-preserved : goal.loop-k-preserved
loop-k-preserved c =
    let dead = dead_of (rows_of c.args.dead.now) in
    let e = c.index-row-k-in-loop-k.result in
    let f = c.index-row-k.result in
    let same : f ≡ e = c.index-row-k.is ∙ (get_or_default c.args.row.now c.loop-k.k f e c.loop-k-test.true ∙ sym c.index-row-k-in-loop-k.is) in
    subst (λ (x : Entry). AreActsTo dead c.args.count c.args.row.now (c.loop-k.k + 1) (set c.loop-k.acts.items x.block c.is_let-on.result)) c.index-row-k-in-loop-k.is
    (one_act dead c.args.count c.args.row.now c.loop-k.k c.loop-k.acts.items e c.is_let-on.result c.loop-k-test.true c.index-row-k-in-loop-k.is
    (c.is_let-on.ensures ∙ (ap (λ acts. is_let dead acts (plain_entry f)) c.deref.ensures.value ∙ ap (λ (x : Entry). is_let dead c.loop-k.acts.items (plain_entry x)) same)) c.loop-k.invariant)

pub returns : goal.returns
returns c = all_acts (dead_of (rows_of c.args.dead.now)) c.args.count c.args.row.now c.loop-k.k c.loop-k.acts.items c.loop-k-test.false c.loop-k.invariant
