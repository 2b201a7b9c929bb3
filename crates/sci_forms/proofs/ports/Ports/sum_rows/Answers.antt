use Rattle.std.proofs.Common.{rules, ◌≡◌, ◌<◌, length, ◌+ℤ◌, to_z, of_z, arith, get_or, FitsSigned, w64}
use Rattle.std.specs.Int.{w128}
use Rattle.std.proofs.lemmas.Int.{ints}
use Rattle.sci_forms.specs.Ports.{no_port}
use Rattle.sci_forms.proofs.FirstNot.{rows_from}
use Rattle.sci_forms.proofs.ports.Ports.sum_rows.Goals as goal

pub loop-p-preserved : goal.loop-p-preserved
loop-p-preserved c =
    let there : c.loop-p.p-index < length c.deref-p-items.result.now = search rules in
    let next = rows_from c.deref-p-items.result.now c.loop-p.p-index there in
    let row : c.from-sum.result ≡ (get_or c.deref-p-items.result.now c.loop-p.p-index no_port).rows = search rules in
    let fits : FitsSigned w64 (get_or c.deref-p-items.result.now c.loop-p.p-index no_port).rows = search rules in
    let sum : to_z w128 (of_z w128 (to_z w128 c.loop-p.sum-bits +ℤ to_z w128 (of_z w128 c.from-sum.result))) ≡ to_z w128 c.loop-p.sum-bits +ℤ c.from-sum.result = omega (arith, ints) in
    rw sum (record { left = omega (arith, ints); low = omega (arith, ints); high = omega (arith, ints) })
