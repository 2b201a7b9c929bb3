use Rattle.std.proofs.Common.{◌≡◌, ◌++◌, ◌+◌, ◌<◌, ℕ, drop, length, get_or}
use Rattle.sci_infer.specs.PortParts.{parts_from, parts_in}
use Rattle.sci_infer.specs.Layout.{start_of}
use Rattle.sci_infer.proofs.parts.lay_out.Given as goal

abbrev pub invariant-loop-at : goal.invariant-loop-at
invariant-loop-at l = record {
  rest : l.parts.items ++ parts_from (l.at + 1) (drop l.at l.flat.specs) ≡ parts_in l.flat;
  long : length l.parts.items ≡ start_of l.flat.specs l.at;
  enough : length l.starts.items ≡ l.at;
  starts : (b : ℕ) → b < l.at → get_or l.starts.items b 0 ≡ start_of l.flat.specs b;
}
