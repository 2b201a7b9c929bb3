use Rattle.std.proofs.Common.{map, sym, ◌∙◌}
use Rattle.json.specs.Tape.{node_token}
use Rattle.serde_json.specs.Read.{max_depth}
use Rattle.sci_json.proofs.Walk.{readable-json_tokens, too_deep, too_large, no_more}
use Rattle.sci_json.proofs.document.is_readable.Goals as goal

pub returns-then-left-eq0 : goal.returns-then-left-eq0
returns-then-left-eq0 c j is =
    let nodes = c.args.nodes.now in
    sym (too_deep nodes c.loop-node.node-index c.loop-node.left _ c.loop-node-test.true c.if-left-eq0.true c.in-Object.is) ∙ c.loop-node.invariant.rest
    ∙ readable-json_tokens (map node_token nodes) max_depth j is

pub returns-then-not-is_in_range : goal.returns-then-not-is_in_range
returns-then-not-is_in_range c j is =
    let nodes = c.args.nodes.now in
    sym (too_large nodes c.loop-node.node-index c.loop-node.left _ c.in-Number.text c.loop-node-test.true c.in-Number.is (sym c.is_in_range.ensures ∙ c.if-not-is_in_range.true)) ∙ c.loop-node.invariant.rest
    ∙ readable-json_tokens (map node_token nodes) max_depth j is

pub returns : goal.returns
returns c j is =
    let nodes = c.args.nodes.now in
    sym (no_more nodes c.loop-node.node-index c.loop-node.left c.loop-node-test.false) ∙ c.loop-node.invariant.rest ∙ readable-json_tokens (map node_token nodes) max_depth j is
