use Rattle.sci_forms.specs.declared.Kind.TheVariants.{LogicalOp}
use Rattle.sci_kinds.specs.Asks.{Asks}
use Rattle.sci_ranges_kinds.proofs.Asked.{asks_of}
use Rattle.sci_ranges_kinds.proofs.rules.logical_op.Goals as goal

pub logical_truths-requires-clause-few : goal.logical_truths-requires-clause-few
logical_truths-requires-clause-few c =
    let a : Asks LogicalOp c.args.spec.now = asks_of LogicalOp c.args.spec.now c.requires.kind c.requires.is_typed in
    a.2
