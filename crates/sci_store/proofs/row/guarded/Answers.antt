use Rattle.std.proofs.Common.{◌+◌, ◌∙◌, Vec, List, get_or, sym, ap, subst, arith}
use Rattle.std.proofs.lemmas.List.{get_or_default, set-get_or}
use Rattle.std.specs.declared.alloc.Global.{Global}
use Rattle.sci_reaction.specs.declared.entry.Entry.{Entry}
use Rattle.sci_reaction.specs.declared.entry.Guard.{Guard}
use Rattle.sci_reaction.specs.Schedule.{Entry as PlainEntry}
use Rattle.sci_reaction.specs.Kept.{guards_of, entry_of}
use Rattle.sci_store.proofs.Joining.{no_rank}
use Rattle.sci_store.proofs.Guarding.{KeepsGuarded, passed_by, taken_out, all_kept}
use Rattle.sci_store.proofs.row.guarded.Goals as goal
use Rattle.sci_store.proofs.row.guarded.Goals.{then-rank+in_ok-push, else-rank}

abbrev plain : Entry → Vec Guard Global → PlainEntry
plain e gs = record { block = e.block; depth = e.depth; always = e.always; mask = e.mask; guards = guards_of gs.items }

abbrev with_guards : Entry → Vec Guard Global → Entry
with_guards e gs = record { block = e.block; depth = e.depth; always = e.always; mask = e.mask; guards = gs }

pub loop-rank-preserved : goal.loop-rank-preserved
loop-rank-preserved c =
    let order = c.args.order.now in
    let k = c.loop-rank.rank-index in
    let r = get_or c.args.order.now c.loop-rank.rank-index no_rank in
    let here = get_or_default c.args.order.now c.loop-rank.rank-index no_rank (get_or c.args.order.now c.loop-rank.rank-index no_rank) c.loop-rank-test.true in
    elim c.if-rank.branch [
      | then-rank+in_ok-push w ↦
          subst (λ (es : List Entry). KeepsGuarded c.args.entries.now c.if-rank.entries c.args.order.now (c.loop-rank.rank-index + 1) es)
          (sym (ap (λ (v : Vec Entry Global). v.items) w.kept-is ∙ w.in_ok-push.ensures.items))
          (taken_out (get_or c.args.order.now c.loop-rank.rank-index no_rank) c.index-entries-rank.result c.loop-rank.invariant c.loop-rank-test.true here c.index-entries-rank.is (with_guards (get_or c.loop-rank.entries (get_or c.args.order.now c.loop-rank.rank-index no_rank).at c.index-entries-rank.result) w.replace.result) _
          c.if-rank.entries w.if-rank.true
          (ap (plain (get_or c.loop-rank.entries (get_or c.args.order.now c.loop-rank.rank-index no_rank).at c.index-entries-rank.result)) w.replace.ensures.value
          ∙ ap entry_of (sym c.index-entries-rank.is))
          c.requires.apart w.entries-is)
      | else-rank w ↦
          subst (λ (es : List Entry). KeepsGuarded c.args.entries.now es c.args.order.now (c.loop-rank.rank-index + 1) c.if-rank.kept.items)
          (sym (w.entries-is ∙ set-get_or c.loop-rank.entries (get_or c.args.order.now c.loop-rank.rank-index no_rank).at c.index-entries-rank.result))
          (subst (λ (es : List Entry). KeepsGuarded c.args.entries.now c.loop-rank.entries c.args.order.now (c.loop-rank.rank-index + 1) es)
          (sym (ap (λ (v : Vec Entry Global). v.items) w.kept-is))
          (passed_by (get_or c.args.order.now c.loop-rank.rank-index no_rank) c.index-entries-rank.result c.loop-rank.invariant c.loop-rank-test.true here c.index-entries-rank.is w.if-rank.false))
    ]

pub returns : goal.returns
returns c = all_kept c.loop-rank.invariant (omega arith)
