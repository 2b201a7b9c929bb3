use Rattle.std.proofs.Common.{◌≡◌, take}
use Rattle.sci_span.specs.Values.{spans_length}
use Rattle.sci_span.proofs.span.spans_length.Given as goal

abbrev pub invariant-loop-span : goal.invariant-loop-span
invariant-loop-span l = l.count ≡ spans_length (take l.span-index l.spans)
