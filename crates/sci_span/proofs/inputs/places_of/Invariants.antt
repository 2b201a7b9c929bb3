use Rattle.std.proofs.Common.{◌≡◌, take, map}
use Rattle.sci_span.specs.Singles.{single}
use Rattle.sci_span.proofs.inputs.places_of.Given as goal

abbrev pub invariant-loop-span : goal.invariant-loop-span
invariant-loop-span l = take l.span-index l.spans ≡ map single l.places.items
