use Rattle.std.proofs.Common.{◌+◌, ◌≡◌, ◌<◌, List, length, map, take, get_or, subst, subst₂, sym, ◌∙◌, arith}
use Rattle.std.proofs.lemmas.List.{take_more}
use Rattle.sci_reaction.specs.declared.entry.Entry.{Entry}
use Rattle.sci_sched.specs.Rows.{AreEntries}
use Rattle.sci_sched.proofs.Building.{entries_more, depths_more}
use Rattle.sci_sched.proofs.rows.entries.Goals as goal

pub loop-at-preserved : goal.loop-at-preserved
loop-at-preserved c =
    let n = c.args.net.now in let r = c.args.reach.now in let m = c.args.marks.now in
    let blocks = c.args.blocks.now in let depths = c.args.depths.now in let i = c.loop-at.at in
    let within : i < length blocks = omega arith in let deep : i < length depths = omega arith in
    let b = get_or blocks i 0 in let e = c.in_ok-entry_for.field-0 in (
      subst₂ (AreEntries n r m) (sym (take_more blocks i 0 within)) (sym c.in_ok-push.ensures.items)
          (entries_more n r m (take i blocks) c.loop-at.entries.items b e c.loop-at.invariant.0 c.in_ok-entry_for.ensures.block c.in_ok-entry_for.ensures.entry),
      subst (λ (es : List Entry). map (λ (x : Entry). x.depth) es ≡ take (i + 1) depths) (sym c.in_ok-push.ensures.items)
          (depths_more c.loop-at.entries.items (take i depths) e (get_or depths i 0) c.loop-at.invariant.1 c.in_ok-entry_for.ensures.depth ∙ sym (take_more depths i 0 deep)),
    )
