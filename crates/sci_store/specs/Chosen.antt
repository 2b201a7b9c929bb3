-- Blocks of some kinds.
use Rattle.std.specs.Prelude.{ℕ, Bool, ◌&&◌, List}
use Rattle.std.specs.List.{filter}
use Rattle.sci_forms.specs.declared.Kind.{Kind}
use Rattle.sci_net.specs.Parts.{Parts, spec_of}
use Rattle.sci_run.specs.Activity.{Activity}

-- the active blocks of these kinds
abbrev pub active_of_kinds : Parts → (Kind → Bool) → Activity → Activity
active_of_kinds n is active b = active b && is (spec_of n b).kind

-- the blocks of these kinds, among some
abbrev pub of_kinds : Parts → (Kind → Bool) → List ℕ → List ℕ
of_kinds n is blocks = filter (λ b. is (spec_of n b).kind) blocks
