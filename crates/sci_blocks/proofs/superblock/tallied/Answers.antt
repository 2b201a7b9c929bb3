use Rattle.std.proofs.Common.{ℕ, List, ◌∷◌, ◌++◌, ◌+◌, ◌∙◌, ap, map, drop, arith}
use Rattle.sci_diagram.specs.Objects.{objects_of, object_view}
use Rattle.sci_blocks.specs.Ports.{numbers}
use Rattle.sci_blocks.specs.Counts.{IsTallied}
use Rattle.sci_blocks.proofs.Tallying.{numbers_more, numbers_short, room}
use Rattle.sci_blocks.proofs.superblock.tallied.Goals.{in-Some, in-None}
use Rattle.sci_blocks.proofs.superblock.tallied.Goals as goal

pub add-requires-clause-few : goal.add-requires-clause-few
add-requires-clause-few c = λ below.
    let rest = numbers c.args.class (objects_of (map object_view (drop (c.loop-obj.obj-index + 1) c.args.objs.now))) in
    let whole = numbers c.args.class (objects_of (map object_view c.args.objs.now)) in
    let more = numbers_more c.args.class c.args.objs.now c.loop-obj.obj-index c.obj-item.result (omega arith) c.obj-item.is ∙ ap (λ (ns : List ℕ). ns ++ rest) c.in-Some.ensures.value in
    let so : IsTallied c.loop-obj.tally c.args.count (c.in-Some.n ∷ rest) whole = rw more at c.loop-obj.invariant in
    let enough = room c.loop-obj.tally c.args.count c.in-Some.n rest whole so c.in-Some.ensures.positive (omega (arith, so.len)) in
    let few = numbers_short c.args.class c.args.objs.now in
    omega (arith, enough, few)

pub loop-obj-preserved : goal.loop-obj-preserved
loop-obj-preserved c =
    let rest = numbers c.args.class (objects_of (map object_view (drop (c.loop-obj.obj-index + 1) c.args.objs.now))) in
    let whole = numbers c.args.class (objects_of (map object_view c.args.objs.now)) in
    let opens = numbers_more c.args.class c.args.objs.now c.loop-obj.obj-index c.obj-item.result (omega arith) c.obj-item.is in
    elim c.match-object_number.branch [
      | in-Some w ↦
          let more = opens ∙ ap (λ (ns : List ℕ). ns ++ rest) w.in-Some.ensures.value in
          let so : IsTallied c.loop-obj.tally c.args.count (w.in-Some.n ∷ rest) whole = rw more at c.loop-obj.invariant in
          let added = w.add.ensures rest whole (rw so.len so) in
          rw w.tally-is (rw so.len at added)
      | in-None w ↦
          let more = opens ∙ ap (λ (ns : List ℕ). ns ++ rest) w.in-None.ensures.value in
          rw w.tally-is (rw more at c.loop-obj.invariant)
    ]
