use Rattle.std.proofs.Common.{◌≡◌, ◌++◌, map}
use Rattle.sci_store.specs.Heads.{named_outputs}
use Rattle.sci_lines.specs.Lines.{start_text}
use Rattle.sci_store.proofs.LineStarts.{outputs_left}
use Rattle.sci_store.proofs.heads.push_outputs.Given as goal

-- with the outputs that are still to come they are all
abbrev pub invariant-loop-port : goal.invariant-loop-port
invariant-loop-port l = l.heads.items ++ outputs_left l.block l.outs l.port ≡ l.initial.heads.items ++ map start_text (named_outputs l.block 1 l.outs)
