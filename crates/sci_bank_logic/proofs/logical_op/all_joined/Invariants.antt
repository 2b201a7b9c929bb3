use Rattle.sci_forms.specs.Words.{out_type, size}
use Rattle.sci_kinds.specs.Table.{input}
use Rattle.sci_bank_logic.specs.Joins.{IsJoined}
use Rattle.sci_bank_logic.proofs.logical_op.all_joined.Given as goal

abbrev pub invariant-loop-k : goal.invariant-loop-k
invariant-loop-k l = IsJoined (out_type l.spec) l.join (λ k. input (size l.spec) l.ins k l.at) l.k l.all
