use Rattle.std.proofs.Common.{◌≡◌, ◌≤◌, ◌*◌, ◌++◌, drop, take, length}
use Rattle.sci_infer.specs.Typed.{typed_specs}
use Rattle.sci_infer.specs.Layout.{start_of}
use Rattle.sci_infer.proofs.typed.fill_specs.Given as goal

abbrev pub invariant-loop-at : goal.invariant-loop-at
invariant-loop-at l = record {
  start : l.start ≡ start_of l.fn.specs.items l.at;
  small : l.start ≤ 384 * l.at;
  long : length l.specs.items ≡ length l.fn.specs.items;
  behind : drop l.at l.specs.items ≡ drop l.at l.fn.specs.items;
  filled : take l.at l.specs.items ++ typed_specs l.values l.start (drop l.at l.fn.specs.items) ≡ typed_specs l.values 0 l.fn.specs.items;
}
