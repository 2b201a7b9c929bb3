use Rattle.std.proofs.Common.{arith, ◌<◌, ◌-◌, length, refl, sym, ap, ◌∙◌}
use Rattle.std.proofs.lemmas.List.{length-set}
use Rattle.sci_cgen_base.specs.Layouts.{IsNamed}
use Rattle.sci_cgen_sources.proofs.PartLemmas.{none_said, part_noted}
use Rattle.sci_cgen_sources.proofs.RowLemmas.{of_entry}
use Rattle.sci_cgen_sources.proofs.parts.note_row.Goals as goal

pub loop-at-init : goal.loop-at-init
loop-at-init c = record {
  long = refl;
  within = omega arith;
  each = λ b. c.requires.absent b ∙ sym (none_said c.args.net.now c.args.row.now (length c.args.row.now) b (omega arith));
}

pub note-requires-clause-block : goal.note-requires-clause-block
note-requires-clause-block c =
    let more : 0 < c.loop-at.at = omega arith in
    let within : c.loop-at.at - 1 < length c.args.row.now = omega (arith, more, c.loop-at.invariant.within) in
    let named = of_entry (IsNamed c.args.net.now) c.args.row.now (c.loop-at.at - 1) c.index-row-at.result c.requires.named within c.index-row-at.is in
    named.block

pub note-requires-clause-within : goal.note-requires-clause-within
note-requires-clause-within c =
    let more : 0 < c.loop-at.at = omega arith in
    let within : c.loop-at.at - 1 < length c.args.row.now = omega (arith, more, c.loop-at.invariant.within) in
    let named = of_entry (IsNamed c.args.net.now) c.args.row.now (c.loop-at.at - 1) c.index-row-at.result c.requires.named within c.index-row-at.is in
    omega (arith, named.block.most, c.loop-at.invariant.long, c.requires.long)

pub loop-at-preserved : goal.loop-at-preserved
loop-at-preserved c =
    let more : 0 < c.loop-at.at = omega arith in
    let within : c.loop-at.at - 1 < length c.args.row.now = omega (arith, more, c.loop-at.invariant.within) in
    let long = c.loop-at.invariant.long in
    let named = of_entry (IsNamed c.args.net.now) c.args.row.now (c.loop-at.at - 1) c.index-row-at.result c.requires.named within c.index-row-at.is in
    record {
      long = ap length c.note.ensures ∙ length-set _ _ _ ∙ long;
      within = omega (arith, c.loop-at.invariant.within);
      each = part_noted c.args.net.now c.args.row.now c.loop-at.at _ _ c.index-row-at.result more c.loop-at.invariant.within c.index-row-at.is
          named.block.least (omega (arith, named.block.most, long, c.requires.long)) c.note.ensures c.loop-at.invariant.each;
    }
