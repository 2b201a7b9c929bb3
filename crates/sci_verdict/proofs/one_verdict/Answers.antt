use Rattle.sci_verdict.proofs.Verdicts.{one_verdict, one_tree_verdict}
use Rattle.sci_verdict.proofs.one_verdict.Goals as goal

pub returns-clause-file : goal.returns-clause-file
returns-clause-file c = one_verdict

pub returns-clause-tree : goal.returns-clause-tree
returns-clause-tree c = one_tree_verdict
