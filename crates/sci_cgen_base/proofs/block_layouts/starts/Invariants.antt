use Rattle.std.proofs.Common.{◌≡◌, map, take}
use Rattle.sci_span.specs.declared.span.Span.{Span}
use Rattle.sci_cgen_base.proofs.block_layouts.starts.Given as goal

abbrev pub invariant-loop-span : goal.invariant-loop-span
invariant-loop-span l = l.starts.items ≡ map (λ (s : Span). s.start) (take l.span-index l.spans)
