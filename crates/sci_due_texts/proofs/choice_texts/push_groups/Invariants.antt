-- The groups so far.
use Rattle.std.proofs.Common.{◌≡◌, ◌≤◌}
use Rattle.c_ast.specs.View.{statements_of}
use Rattle.c_mean.specs.Texts.{joined, upto}
use Rattle.sci_due.specs.Texts.{group_text}
use Rattle.sci_due_texts.proofs.choice_texts.push_groups.Given as goal

abbrev pub invariant-loop-group : goal.invariant-loop-group
invariant-loop-group l = record {
  so_far : statements_of l.out.items ≡ joined (statements_of l.fn.out.items) (upto (group_text l.ports) l.group);
  within : l.group ≤ l.groups;
}
