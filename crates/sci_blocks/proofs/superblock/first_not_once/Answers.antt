use Rattle.std.proofs.Common.{sym, arith, length, nat_eq, slice_index}
use Rattle.std.proofs.lemmas.Bool.{ne_eqb}
use Rattle.sci_forms.proofs.FirstNot.{found}
use Rattle.sci_blocks.proofs.superblock.first_not_once.Goals as goal

pub returns-then-times-k-ne1-clause-first : goal.returns-then-times-k-ne1-clause-first
returns-then-times-k-ne1-clause-first c =
    sym (found (λ j. nat_eq (slice_index c.args.times.now j) 1) c.loop-k.k (length c.args.times.now) c.loop-k.invariant (ne_eqb (slice_index c.args.times.now c.loop-k.k) 1 c.if-times-k-ne1.true) (omega arith))
