use Rattle.std.proofs.Common.{◌≡◌, take}
use Rattle.sci_span.specs.Values.{spans_length, gathered}
use Rattle.sci_span.proofs.span.copy_spans.Given as goal

abbrev pub invariant-loop-span : goal.invariant-loop-span
invariant-loop-span l = record {
  count : l.count ≡ spans_length (take l.span-index l.spans);
  copied : take l.count l.ins ≡ gathered l.values (take l.span-index l.spans);
}
