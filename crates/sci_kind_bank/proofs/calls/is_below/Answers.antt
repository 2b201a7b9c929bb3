use Rattle.std.proofs.Common.{◌≤◌, ◌^◌, arith}
use Rattle.std.proofs.Math.Nat.{pow-le-pow_right}
use Rattle.std.proofs.lemmas.Bool.Decides.{nat_tests}
use Rattle.sci_kind_bank.proofs.calls.is_below.Goals as goal

pub returns-then-n-gt63 : goal.returns-then-n-gt63
returns-then-n-gt63 c =
    let most : 2 ^ 64 ≤ 2 ^ c.args.n = pow-le-pow_right {n = 2} (omega arith) {i = 64} {j = c.args.n} (omega arith) in
    (λ h. omega (arith, most), λ h. grind (arith, nat_tests))
