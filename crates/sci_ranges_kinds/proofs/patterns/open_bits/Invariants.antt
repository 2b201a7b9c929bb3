use Rattle.sci_base.specs.Fit.{width}
use Rattle.sci_ranges_kinds.proofs.Opened.{IsOpenSoFar}
use Rattle.sci_ranges_kinds.proofs.patterns.open_bits.Given as goal

abbrev pub invariant-loop-bit : goal.invariant-loop-bit
invariant-loop-bit l = IsOpenSoFar l.fn.p (width l.fn.ty) l.bit l.least l.greatest l.open
