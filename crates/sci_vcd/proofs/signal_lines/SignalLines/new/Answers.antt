use Rattle.std.proofs.Common.{◌≡◌, length, ◌∙◌, arith}
use Rattle.sci_vcd.proofs.signal_lines.SignalLines.new.Goals as goal

pub invariant_of-result : goal.invariant_of-result
invariant_of-result c =
    let count : c.len-count.result ≡ length c.args.signals.items = omega (arith, c.len-count.ensures, c.args.signals.ok.0) in
    record {
      ends_long = c.in_ok-ends.ensures.long ∙ count;
      end_is = λ k h. c.in_ok-ends.ensures.each k (omega (arith, h, count));
      eights_long = c.in_ok-eights.ensures.long;
      eight_is = c.in_ok-eights.ensures.each;
    }
