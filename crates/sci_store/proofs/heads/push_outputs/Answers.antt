use Rattle.std.proofs.Common.{List, ℕ, ◌+◌, ◌++◌, ◌∙◌, ap, sym, map, arith, rules}
use Rattle.std.proofs.lemmas.List.{drop_all}
use Rattle.sci_forms.specs.declared.ports.Port.{Port}
use Rattle.sci_forms.specs.Ports.{elements}
use Rattle.sci_places.proofs.Lists.{up_to}
use Rattle.sci_store.specs.Heads.{named_elements, named_outputs}
use Rattle.sci_lines.specs.Lines.{start_text}
use Rattle.sci_store.proofs.LineStarts.{put_more, put_all, outputs_next}
use Rattle.sci_store.proofs.heads.push_outputs.Goals as goal

pub overflow_cast-count : goal.overflow_cast-count
overflow_cast-count c = let up = up_to c.args.outs.now c.loop-port.port (omega arith) in search (rules, up)

pub push_elements-requires-clause-count : goal.push_elements-requires-clause-count
push_elements-requires-clause-count c = let up = up_to c.args.outs.now c.loop-port.port (omega arith) in omega (arith, up, c.requires.small, c.elements-count.ensures ∙ ap elements c.get.ensures)

pub loop-port-preserved : goal.loop-port-preserved
loop-port-preserved c =
    let next = outputs_next c.args.block c.loop-port.port c.args.outs.now (omega arith) in
    let count = c.elements-count.ensures ∙ ap elements c.get.ensures in
    put_more c.args.heads.now.items c.loop-port.heads.items c.push_elements.new.heads.items _ _ _
    (c.in_ok-push_elements.ensures ∙ ap (λ (m : ℕ). c.loop-port.heads.items ++ map start_text (named_elements c.args.block (c.loop-port.port + 1) 1 m)) count)
    (ap (λ (l : List (List ℕ)). c.loop-port.heads.items ++ l) (sym next) ∙ c.loop-port.invariant)

pub returns : goal.returns
returns c =
    put_all c.args.heads.now.items c.loop-port.heads.items _ _
    (ap (λ (os : List Port). map start_text (named_outputs c.args.block (c.loop-port.port + 1) os)) (drop_all c.loop-port.port c.args.outs.now (omega arith)))
    c.loop-port.invariant
