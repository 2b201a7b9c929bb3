use Rattle.std.proofs.Common.{◌≡◌, find}
use Rattle.std.specs.Array.Iter.{array_into_iter_items}
use Rattle.std.specs.Str.{bytes_eq}
use Rattle.sci_names.specs.Names.{name_of, by_name}
use Rattle.sci_names.proofs.by_name.Given as goal

abbrev pub invariant-loop-kind : goal.invariant-loop-kind
invariant-loop-kind l =
    find (λ k. bytes_eq l.s (name_of k)) (array_into_iter_items l.kind-iterator) ≡ by_name l.s
