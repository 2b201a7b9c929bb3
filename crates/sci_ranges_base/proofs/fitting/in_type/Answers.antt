use Rattle.std.proofs.Common.{subst}
use Rattle.sci_ranges_base.specs.Intervals.{HasEnds}
use Rattle.sci_ranges_base.specs.Wide.{numbers}
use Rattle.sci_ranges_base.proofs.Ends.{type_ends}
use Rattle.sci_ranges_base.proofs.fitting.in_type.Goals as goal

pub narrowed-requires : goal.narrowed-requires
narrowed-requires c = type_ends c.args.ty (numbers c.in-Some.inside) (subst (λ w. HasEnds w (numbers c.in-Some.inside)) c.whole.ensures c.in-Some.ensures.ends)
