use Rattle.std.proofs.Common.{◌≡◌, length, ap, ◌∙◌, arith}
use Rattle.std.proofs.lemmas.List.{length-map}
use Rattle.sci_ranges_rows.specs.Tests.{masks_below}
use Rattle.sci_ranges_marks.specs.View.{marks_of, row_of}
use Rattle.sci_ranges_marks.proofs.Tested.{masks_more}
use Rattle.sci_ranges_marks.proofs.marks.RowMarks.masks_of.Goals as goal

pub loop-k-preserved : goal.loop-k-preserved
loop-k-preserved c =
    masks_more (marks_of c.args.self.now) c.args.block c.loop-k.k c.loop-k.all.items c.push_some.new.all.items c.masks_at.result c.loop-k.invariant c.masks_at.ensures c.in_ok-push_some.ensures

pub returns : goal.returns
returns c =
    let len = length-map c.args.self.now.rows.items row_of in
    let all : c.loop-k.k ≡ length (marks_of c.args.self.now).rows =
    let most = c.loop-k.auto.k-end in omega (arith, c.loop-k-test.false, most, c.len-k-end.ensures, len, c.args.self.now.rows.ok.0) in
    c.loop-k.invariant ∙ ap (masks_below (marks_of c.args.self.now) c.args.block) all
