use Rattle.std.proofs.Common.{◌≡◌, ◌++◌, map}
use Rattle.sci_store.specs.Heads.{named_elements}
use Rattle.sci_lines.specs.Lines.{start_text}
use Rattle.sci_store.proofs.LineStarts.{elements_left}
use Rattle.sci_store.proofs.heads.push_elements.Given as goal

-- with the elements that are still to come they are all
abbrev pub invariant-loop-element : goal.invariant-loop-element
invariant-loop-element l =
    l.heads.items ++ elements_left l.block l.port l.count l.element ≡ l.initial.heads.items ++ map start_text (named_elements l.block l.port 1 l.count)
