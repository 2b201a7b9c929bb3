use Rattle.std.proofs.Common.{refl, arith, inl, inr}
use Rattle.sci_infer.specs.Classes.{Points, Tied}
use Rattle.sci_infer.proofs.Trees.{renewed_trans, linked, Tied-by}
use Rattle.sci_infer.proofs.classes.join.Goals as goal

pub returns-then-a-b : goal.returns-then-a-b
returns-then-a-b c =
    let y = c.root-a.new.parents.items in
    let z = c.root-b.new.parents.items in
    let to_a : Tied (Points z) c.args.left c.root-a.result = Tied-by (Points y) (Points z) c.root-b.ensures.renewed.forth c.root-a.ensures.leads in
    linked c.args.parents.now.items z c.args.left c.args.right c.root-a.result c.root-b.result c.root-b.result c.root-a.result
    (renewed_trans c.args.parents.now.items y z c.root-a.ensures.renewed c.root-b.ensures.renewed) to_a c.root-b.ensures.leads
    c.root-b.ensures.root c.root-b.ensures.within (omega (arith, c.if-a-b.true)) (inl (refl, refl))

pub returns-else-a-b : goal.returns-else-a-b
returns-else-a-b c =
    let y = c.root-a.new.parents.items in
    let z = c.root-b.new.parents.items in
    let to_a : Tied (Points z) c.args.left c.root-a.result = Tied-by (Points y) (Points z) c.root-b.ensures.renewed.forth c.root-a.ensures.leads in
    let same_n = c.root-b.ensures.renewed.same_length in
    linked c.args.parents.now.items z c.args.left c.args.right c.root-a.result c.root-b.result c.root-a.result c.root-b.result
    (renewed_trans c.args.parents.now.items y z c.root-a.ensures.renewed c.root-b.ensures.renewed) to_a c.root-b.ensures.leads
    (c.root-b.ensures.renewed.roots c.root-a.result c.root-a.ensures.root) (omega (arith, c.root-a.ensures.within, same_n)) (omega (arith, c.if-a-b.false)) (inr (refl, refl))
