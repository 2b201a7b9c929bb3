use Rattle.std.proofs.Common.{arith, ◌≡◌, nat_eq, sym, ap, ◌∙◌}
use Rattle.std.specs.Int.{bit_at}
use Rattle.c_ast.specs.View.{statements_of}
use Rattle.c_mean.specs.Texts.{joined}
use Rattle.sci_cgen_blocks.proofs.Written.{joined_done}
use Rattle.sci_program.specs.Program.{text_where, with_bit, with_bits}
use Rattle.sci_due_texts.proofs.TextLemmas.{upto_pushed}
use Rattle.sci_cgen_sources.proofs.row_texts.push_bits.Goals as goal

pub loop-bit-init : goal.loop-bit-init
loop-bit-init c = sym (joined_done (statements_of c.args.out.now.items))

pub loop-bit-preserved : goal.loop-bit-preserved
loop-bit-preserved c =
    upto_pushed (λ p. text_where (nat_eq (bit_at c.args.mask p) 1) (with_bit c.args.block p)) c.loop-bit.bit _ _ _ c.loop-bit.invariant c.in_ok-push_bit.ensures

pub returns : goal.returns
returns c =
    let same : c.loop-bit.bit ≡ c.args.count = omega arith in
    c.loop-bit.invariant ∙ ap (λ k. joined (statements_of c.args.out.now.items) (with_bits c.args.block c.args.mask k)) same
