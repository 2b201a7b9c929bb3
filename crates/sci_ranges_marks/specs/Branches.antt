-- Dead branches.
use Rattle.std.specs.Prelude.{ℕ, ◌<◌, ◌^◌, Bool, List, [], length, slice_index_or, Vec}
use Rattle.std.specs.declared.alloc.Global.{Global}
use Rattle.sci_net.specs.Parts.{rows_of}

-- each list is as short as that of a block's branches
abbrev pub AreFewBranches : List (Vec Bool Global) → Type 0
AreFewBranches dead = (b : ℕ) → length (slice_index_or (rows_of dead) b []) < 2 ^ 32
