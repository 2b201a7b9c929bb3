use Rattle.std.proofs.Common.{rules, ◌≡◌, ◌<◌, ◌+◌, ℕ, List, [], drop, length, subst, sym, ap, arith}
use Rattle.std.proofs.lemmas.List.{drop_all}
use Rattle.sci_forms.specs.declared.spec.Spec.{Spec}
use Rattle.sci_forms.specs.Ports.{port_at, elements}
use Rattle.sci_io.specs.Taken.{UnderWay}
use Rattle.sci_io.proofs.Advance.{cut_off, next_front, same_text, finished}
use Rattle.sci_net.specs.Parts.{spec_of}
use Rattle.sci_ranges_text.specs.Text.{block_text, elements_text, outputs_text}
use Rattle.sci_ranges_find.specs.View.{ranges_of}
use Rattle.sci_ranges_tell.specs.Told.{plain_table}
use Rattle.sci_ranges_tell.proofs.Pieces.{next_output, total-drop}
use Rattle.sci_ranges_tell.proofs.elements.put_outputs.Goals as goal

pub count_of-count-requires-clause-port : goal.count_of-count-requires-clause-port
count_of-count-requires-clause-port g c = omega (arith, c.len-ports.ensures.value, ap (λ (s : Spec). length s.outs) c.spec.ensures.value)

pub put_elements-requires-clause-inside : goal.put_elements-requires-clause-inside
put_elements-requires-clause-inside g c =
    let ps = (spec_of c.args.net.now c.args.block).outs in
    let within : c.loop-k.k < length ps = omega (arith, c.len-ports.ensures.value, ap (λ (s : Spec). length s.outs) c.spec.ensures.value) in
    omega (arith, total-drop ps c.loop-k.k within, c.count_of-count.ensures, c.loop-k.invariant.1)

pub overflow_add-at : goal.overflow_add-at
overflow_add-at g c =
    let ps = (spec_of c.args.net.now c.args.block).outs in
    let within : c.loop-k.k < length ps = omega (arith, c.len-ports.ensures.value, ap (λ (s : Spec). length s.outs) c.spec.ensures.value) in
    omega (arith, total-drop ps c.loop-k.k within, c.count_of-count.ensures, c.loop-k.invariant.1, c.requires.small)

pub returns-in_err-put_elements : goal.returns-in_err-put_elements
returns-in_err-put_elements g c =
    let i = c.loop-k.k in
    let at = c.loop-k.at in
    let n = c.args.net.now in
    let b = c.args.block in
    let t = plain_table n (ranges_of c.args.table.now) in
    let ps = (spec_of n b).outs in
    let within : i < length ps = omega (arith, c.len-ports.ensures.value, ap (λ (s : Spec). length s.outs) c.spec.ensures.value) in
    let due = subst (λ (l : List ℕ). UnderWay (g.S.Sink.state c.args.out.now) (g.S.Sink.state c.loop-k.out) (block_text n t b) l) (next_output n t b at ps i within) c.loop-k.invariant.0 in
    cut_off (elements_text n t b (i + 1) 1 at (elements (port_at ps i))) (outputs_text n t b (i + 1 + 1) (at + elements (port_at ps i)) (drop (i + 1) ps)) c.put_elements.result c.from_residual.result _ _ c.in_err-put_elements.was (search rules)
    due (same_text (ap (elements_text n t b (i + 1) 1 at) c.count_of-count.ensures) c.put_elements.ensures)

pub loop-k-preserved : goal.loop-k-preserved
loop-k-preserved g c =
    let i = c.loop-k.k in
    let at = c.loop-k.at in
    let n = c.args.net.now in
    let b = c.args.block in
    let t = plain_table n (ranges_of c.args.table.now) in
    let ps = (spec_of n b).outs in
    let within : i < length ps = omega (arith, c.len-ports.ensures.value, ap (λ (s : Spec). length s.outs) c.spec.ensures.value) in
    let due = subst (λ (l : List ℕ). UnderWay (g.S.Sink.state c.args.out.now) (g.S.Sink.state c.loop-k.out) (block_text n t b) l) (next_output n t b at ps i within) c.loop-k.invariant.0 in
    let next = next_front (elements_text n t b (i + 1) 1 at (elements (port_at ps i))) (outputs_text n t b (i + 1 + 1) (at + elements (port_at ps i)) (drop (i + 1) ps)) c.put_elements.result _ c.in_ok-put_elements.was
    due (same_text (ap (elements_text n t b (i + 1) 1 at) c.count_of-count.ensures) c.put_elements.ensures) in (
      subst (λ (m : ℕ). UnderWay (g.S.Sink.state c.args.out.now) (g.S.Sink.state c.put_elements.new.out) (block_text n t b) (outputs_text n t b (i + 1 + 1) (at + m) (drop (i + 1) ps))) (sym c.count_of-count.ensures) next,
      omega (arith, total-drop ps i within, c.count_of-count.ensures, c.loop-k.invariant.1),
    )

pub returns : goal.returns
returns g c =
    let i = c.loop-k.k in
    let n = c.args.net.now in
    let b = c.args.block in
    let t = plain_table n (ranges_of c.args.table.now) in
    let ps = (spec_of n b).outs in
    let none : drop i ps ≡ [] = drop_all i ps (omega (arith, c.len-ports.ensures.value, ap (λ (s : Spec). length s.outs) c.spec.ensures.value)) in
    finished _ (subst (λ (l : List ℕ). UnderWay (g.S.Sink.state c.args.out.now) (g.S.Sink.state c.loop-k.out) (block_text n t b) l) (ap (outputs_text n t b (i + 1) c.loop-k.at) none) c.loop-k.invariant.0)
