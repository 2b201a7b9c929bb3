use Rattle.std.proofs.Common.{◌≡◌, ◌+◌, ◌∙◌, false, Some, None, List, get_or, map, drop, refl, sym, ap, subst, arith}
use Rattle.std.specs.Prelude.{if◌then◌else◌}
use Rattle.std.proofs.lemmas.List.{drop_more}
use Rattle.sci_net.specs.Parts.{IsBlock}
use Rattle.sci_places.specs.Layout.{place_at}
use Rattle.sci_places.proofs.Outputs.{block_within}
use Rattle.sci_store.specs.declared.row.Member.{Member}
use Rattle.sci_store.specs.declared.row.Show.{Show}
use Rattle.sci_store.specs.Frame.{Fixed, IsFrame}
use Rattle.sci_store.specs.Rows.{then_block, shows_from}
use Rattle.sci_store.proofs.Framed.{start_read, len_read}
use Rattle.sci_store.proofs.Choices.{seen_if, seen_unless}
use Rattle.sci_store.proofs.Showing.{show_is}
use Rattle.sci_store.proofs.row.shows.Goals as goal
use Rattle.sci_store.proofs.row.shows.Goals.{then-member, else-member, In_ok-push_show}

pub overflow_add-place : goal.overflow_add-place
overflow_add-place c =
    let f = c.args.frame.now in
    let frame : IsFrame c.args.frame.now = subst IsFrame c.frame.view_is c.frame.invariant in
    let m = get_or c.args.members.now c.loop-member.member-index (record { block = 0; guarded = false }) in
    let block : IsBlock c.args.frame.now.net m.block = c.requires c.loop-member.member-index (record { block = 0; guarded = false }) c.loop-member-test.true in
    let place = c.outs-place.ensures ∙ ap (λ (g : Fixed). (place_at g.layout m.block).outs) c.frame.view_is in
    let start = start_read c.args.frame.now m.block c.outs-place.result frame block place in
    let len = len_read c.args.frame.now m.block c.outs-place.result frame block place in
    let fits = block_within c.args.frame.now.net m.block block in
    omega (arith, start, len, fits, frame.net.small)

asked : (c : In_ok-push_show) → c.if-member.push_show
    ≡ (if (get_or c.args.members.now c.loop-member.member-index (record { block = 0; guarded = false })).guarded
    then Some (get_or c.args.members.now c.loop-member.member-index (record { block = 0; guarded = false })).block else None)
asked c =
    let m = get_or c.args.members.now c.loop-member.member-index (record { block = 0; guarded = false }) in
    elim c.if-member.branch [
      | then-member w ↦ w.push_show-is ∙ sym (seen_if m.guarded (Some m.block) None w.if-member.true)
      | else-member w ↦ w.push_show-is ∙ sym (seen_unless m.guarded (Some m.block) None w.if-member.false)
    ]

pub loop-member-preserved : goal.loop-member-preserved
loop-member-preserved c guarded flags =
    let f = c.args.frame.now in
    let ms = c.args.members.now in
    let k = c.loop-member.member-index in
    let m = get_or c.args.members.now c.loop-member.member-index (record { block = 0; guarded = false }) in
    let rest = map (λ (x : Member). x.block) (drop (c.loop-member.member-index + 1) c.args.members.now) in
    let place = c.outs-place.ensures ∙ ap (λ (g : Fixed). (place_at g.layout m.block).outs) c.frame.view_is in
    let piece = show_is c.args.frame.now guarded m c.outs-place.result
    (record { start = c.outs-place.result.start; end = c.outs-place.result.start + c.outs-place.result.len; asked = c.if-member.push_show })
    (flags c.loop-member.member-index (record { block = 0; guarded = false }) c.loop-member-test.true) place refl refl (asked c) in
    ap (λ (ws : List Show). shows_from c.args.frame.now guarded ws rest) c.in_ok-push_show.ensures
    ∙ (ap (λ (w : Show). shows_from c.args.frame.now guarded (then_block c.loop-member.shows.items w) rest) piece
    ∙ (ap (λ (xs : List Member). shows_from c.args.frame.now guarded c.loop-member.shows.items (map (λ (x : Member). x.block) xs))
    (sym (drop_more c.args.members.now c.loop-member.member-index (record { block = 0; guarded = false }) c.loop-member-test.true))
    ∙ c.loop-member.invariant guarded flags))
