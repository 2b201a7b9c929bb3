use Rattle.std.proofs.Common.{ℕ, Option, subst}
use Rattle.sci_ranges_marks.specs.View.{marks_of}
use Rattle.sci_ranges_find.specs.View.{ranges_of}
use Rattle.sci_ranges_find.specs.Beside.{Follows}
use Rattle.sci_ranges_find.proofs.beside.followed_by.Goals as goal

pub returns : goal.returns
returns c =
    subst (λ (o : Option ℕ). Follows c.args.net.now c.args.inputs.now (marks_of c.args.marks.now) (ranges_of c.args.table.now) o c.in_ok-followed.followed) c.aim-aimed.ensures.value
    c.in_ok-followed.ensures
