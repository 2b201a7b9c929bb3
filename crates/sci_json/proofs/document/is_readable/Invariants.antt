use Rattle.std.proofs.Common.{◌≡◌, ◌+◌, ◌≤◌, map, drop}
use Rattle.json.specs.Tape.{node_token}
use Rattle.serde_json.specs.Read.{max_depth}
use Rattle.sci_json.proofs.Walk.{readable}
use Rattle.sci_json.proofs.document.is_readable.Given as goal

abbrev pub invariant-loop-node : goal.invariant-loop-node
invariant-loop-node l = record {
  rest : readable l.left (map node_token (drop l.node-index l.nodes)) ≡ readable max_depth (map node_token l.nodes);
  small : l.left ≤ max_depth + l.node-index;
}
