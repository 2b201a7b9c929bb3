use Rattle.std.proofs.Common.{◌≡◌, vec_len}
use Rattle.sci_agenda.proofs.chain.made_zeros.Given as goal

abbrev pub invariant-loop-node : goal.invariant-loop-node
invariant-loop-node l = vec_len l.dates ≡ l._node
