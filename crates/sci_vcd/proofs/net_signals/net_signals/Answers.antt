use Rattle.std.proofs.Common.{◌≡◌, ℕ, ◌+◌, ◌-◌, ◌<◌, ◌≤◌, List, take, length, get_or, subst, sym, ap, ◌∙◌, arith}
use Rattle.std.proofs.lemmas.List.{length_push}
use Rattle.sci_net.specs.Net.{all_elements}
use Rattle.sci_vcd.specs.Signals.{before_block}
use Rattle.sci_vcd.proofs.OfNet.{small_outs, signals_step, count_step, starts_step, counted_most}
use Rattle.sci_vcd.proofs.net_signals.net_signals.Goals as goal

pub push_outputs-requires-clause-small : goal.push_outputs-requires-clause-small
push_outputs-requires-clause-small c = small_outs c.spec.result.now c.spec.ensures.is_typed

pub overflow_cast-len : goal.overflow_cast-len
overflow_cast-len c =
    let n = c.args.net.now in
    let block = c.loop-block.block in
    let within = c.loop-block-test.true in
    let count = count_step n block c.loop-block.signals.items c.push_outputs.new.signals.items c.spec.result.now (omega (arith, within, c.len-block-end.ensures)) c.spec.ensures.value c.in_ok-push_outputs.ensures c.loop-block.invariant.count in
    let most = counted_most n (block + 1) c.well_formed-2.ensures in
    omega (arith, count, most, c.len.ensures, c.push_outputs.new.signals.ok.0)

pub loop-block-preserved : goal.loop-block-preserved
loop-block-preserved c =
    let n = c.args.net.now in
    let block = c.loop-block.block in
    let within : block < length n.specs = omega (arith, c.loop-block-test.true, c.len-block-end.ensures) in
    let count = count_step n block c.loop-block.signals.items c.push_outputs.new.signals.items c.spec.result.now within c.spec.ensures.value c.in_ok-push_outputs.ensures c.loop-block.invariant.count in
    let items = c.in_ok-push-2.ensures.items in
    let here : c.len.result ≡ all_elements (take (block + 1) n.specs) = omega (arith, count, c.len.ensures, c.push_outputs.new.signals.ok.0) in
    record {
      signals = signals_step n block c.loop-block.signals.items c.push_outputs.new.signals.items c.spec.result.now within c.spec.ensures.value c.in_ok-push_outputs.ensures c.loop-block.invariant.signals;
      count = count;
      long = ap (λ (l : List ℕ). length l) items ∙ length_push c.loop-block.starts.items _ ∙ ap (λ (k : ℕ). k + 1) c.loop-block.invariant.long;
      each = subst (λ (l : List ℕ). (b : ℕ) → 1 ≤ b → b ≤ block + 1 + 1 → get_or l (b - 1) 0 ≡ before_block n b) (sym items)
          (starts_step n block c.len.result c.loop-block.starts.items c.loop-block.invariant.long here c.loop-block.invariant.each);
    }
