use Rattle.std.proofs.Common.{w64, sym}
use Rattle.std.proofs.lemmas.Int.{to_z-of_z}
use Rattle.sci_sim.proofs.Programs.{may_put_without, may_put, keeps_without, keeps_put, ticks_are, ticks_small}
use Rattle.sci_sim.proofs.programming.program.Goals.{then-is_pending, else-is_pending}
use Rattle.sci_sim.proofs.programming.program.Goals as goal

pub put-requires : goal.put-requires
put-requires g c =
    let k = c.requires.keeps in
    let is = ticks_are c.args.delay c.in-Ok.ticks (rw (to_z-of_z w64 c.args.delay c.ranges.delay) at c.in-Ok.ensures) in
    let small = ticks_small c.args.delay c.in-Ok.ticks is c.requires.delay in
    elim c.if-is_pending.branch [
      | then-is_pending w ↦
          rw w.agenda-is (rw w.remove.ensures.removed (may_put_without k.0 k.1 c.args.date _ _ k.2 k.3 c.in-Ok.ticks c.args.source c.requires.port small))
      | else-is_pending w ↦
          rw w.agenda-is (may_put k.0 k.1 c.args.date _ _ k.2 k.3 c.in-Ok.ticks c.args.source c.requires.port small (sym w.if-is_pending.ensures))
    ]

pub returns-after-is_pending : goal.returns-after-is_pending
returns-after-is_pending g c = λ n offset p keeps.
    let is = ticks_are c.args.delay c.in-Ok.ticks (rw (to_z-of_z w64 c.args.delay c.ranges.delay) at c.in-Ok.ensures) in
    let small = ticks_small c.args.delay c.in-Ok.ticks is c.requires.delay in
    elim c.if-is_pending.branch [
      | then-is_pending w ↦
          rw (c.put.ensures.put, c.put.ensures.counted, w.agenda-is, w.remove.ensures.removed, w.remove.ensures.counted, is)
          (keeps_without n offset c.args.date _ _ p keeps c.in-Ok.ticks c.args.source c.requires.port small)
      | else-is_pending w ↦
          rw (c.put.ensures.put, c.put.ensures.counted, w.agenda-is, is)
          (keeps_put n offset c.args.date _ _ p keeps c.in-Ok.ticks c.args.source c.requires.port small (sym w.if-is_pending.ensures))
    ]
