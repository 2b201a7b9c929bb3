use Rattle.std.proofs.Common.{◌≡◌, None, nat_eq, slice_index}
use Rattle.sci_forms.specs.Forms.{first_not}
use Rattle.sci_blocks.proofs.superblock.first_not_once.Given as goal

abbrev pub invariant-loop-k : goal.invariant-loop-k
invariant-loop-k l = first_not (λ j. nat_eq (slice_index l.times j) 1) l.k ≡ None
