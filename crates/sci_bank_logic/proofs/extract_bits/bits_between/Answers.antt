use Rattle.std.proofs.Common.{◌+◌, ◌-◌, ◌/◌, ◌^◌, ap, ◌∙◌}
use Rattle.std.specs.Prelude.{bit_and}
use Rattle.std.proofs.lemmas.Nat.{and_mask}
use Rattle.sci_bank_logic.proofs.extract_bits.bits_between.Goals as goal

pub returns-clause-value : goal.returns-clause-value
returns-clause-value c =
    ap (λ n. bit_and (c.args.p / 2 ^ c.args.start) (n - 1)) c.two_to.ensures ∙ and_mask (c.args.p / 2 ^ c.args.start) ((c.args.end - c.args.start) + 1)
