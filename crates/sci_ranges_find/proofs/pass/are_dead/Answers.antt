use Rattle.std.proofs.Common.{◌≡◌, ℕ, true, [], slice_index_or, length, sym, ◌∙◌, subst, arith}
use Rattle.sci_ranges_rows.specs.Tests.{all_below}
use Rattle.sci_ranges_marks.specs.View.{marks_of}
use Rattle.sci_ranges_marks.proofs.Rowed.{below_more, below_fails}
use Rattle.sci_ranges_find.specs.View.{untaken_on}
use Rattle.sci_ranges_find.proofs.pass.are_dead.Goals as goal

pub returns-then-not-is_untaken : goal.returns-then-not-is_untaken
returns-then-not-is_untaken c =
    sym (below_fails (untaken_on c.args.net.now (marks_of c.args.marks.now) c.args.block c.args.read) (length (slice_index_or (marks_of c.args.marks.now).dead c.args.block [])) c.loop-p.p (omega (arith, c.loop-p-test.true, c.branches-p-end.ensures))
    (sym c.is_untaken.ensures ∙ c.if-not-is_untaken.true))

pub loop-p-preserved : goal.loop-p-preserved
loop-p-preserved c = below_more (untaken_on c.args.net.now (marks_of c.args.marks.now) c.args.block c.args.read) c.loop-p.p c.loop-p.invariant (sym c.is_untaken.ensures ∙ c.if-not-is_untaken.false)

pub returns : goal.returns
returns c =
    let all : c.loop-p.p ≡ length (slice_index_or (marks_of c.args.marks.now).dead c.args.block []) = let most = c.loop-p.auto.p-end in omega (arith, c.loop-p-test.false, most, c.branches-p-end.ensures) in
    sym (subst (λ (j : ℕ). all_below (untaken_on c.args.net.now (marks_of c.args.marks.now) c.args.block c.args.read) j ≡ true) all c.loop-p.invariant)
