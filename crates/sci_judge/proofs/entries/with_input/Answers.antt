use Rattle.std.proofs.Common.{◌+◌, Contains, subst, sym, ◌∙◌, true≢false}
use Rattle.sci_net.specs.Parts.{feeds_of}
use Rattle.sci_judge.specs.Entries.{HasBitsTo}
use Rattle.sci_judge.proofs.MaskBits.{bits_with, bits_without}
use Rattle.sci_judge.proofs.entries.with_input.Goals as goal

pub returns-then-contains : goal.returns-then-contains
returns-then-contains c =
    subst (λ m. HasBitsTo m (c.args.at + 1) (λ p. Contains (feeds_of c.args.net.now c.args.block p) c.args.feed)) (sym c.set_bit.ensures)
    (bits_with (λ p. Contains (feeds_of c.args.net.now c.args.block p) c.args.feed) c.args.mask c.args.at c.requires.so_far
    (subst (λ qs. Contains qs c.args.feed) c.feeds.ensures (c.contains.ensures.0 c.if-contains.true)))

pub returns-else-contains : goal.returns-else-contains
returns-else-contains c =
    bits_without (λ p. Contains (feeds_of c.args.net.now c.args.block p) c.args.feed) c.args.mask c.args.at c.requires.so_far
    (λ has. true≢false (sym (c.contains.ensures.1 (subst (λ qs. Contains qs c.args.feed) (sym c.feeds.ensures) has)) ∙ c.if-contains.false))
