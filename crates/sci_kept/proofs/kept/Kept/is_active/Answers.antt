use Rattle.std.proofs.Common.{sym, subst, arith, length, ◌≤◌}
use Rattle.sci_kept.specs.Kept.{Kept}
use Rattle.sci_kept.proofs.kept.Kept.is_active.Goals as goal

pub is_active-requires-clause-most : goal.is_active-requires-clause-most
is_active-requires-clause-most c =
    let most = subst (λ (k : Kept). c.args.block ≤ length k.fixed.net.specs) (sym c.self.view_is) c.requires.most in
    omega (arith, most, c.self.invariant.marks)
