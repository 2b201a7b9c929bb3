use Rattle.std.proofs.Common.{arith, ◌<◌, sym, subst, ◌∙◌}
use Rattle.sci_cgen_blocks.specs.Plain.{plain_places, AreSpelled}
use Rattle.sci_cgen_blocks.proofs.Reading.{pow_spelled}
use Rattle.sci_cgen_blocks.proofs.Working.{spelled}
use Rattle.sci_cgen_blocks.proofs.Choosing.{last_chosen, chosen_before}
use Rattle.sci_cgen_blocks.proofs.choice_texts.first_of.Goals as goal

pub expression-requires : goal.expression-requires
expression-requires c = subst AreSpelled (sym c.in_ok-bit.ensures) ((tt, pow_spelled _ (omega arith)), spelled 2 (omega arith))

pub loop-port-init : goal.loop-port-init
loop-port-init c = (c.in_ok-chosen.ensures ∙ sym (last_chosen (plain_places c.args.at.now) c.args.count c.args.n), omega arith)

pub loop-port-preserved : goal.loop-port-preserved
loop-port-preserved c =
    let lt : 0 < c.loop-port.port = omega arith in (
      chosen_before (plain_places c.args.at.now) c.args.count c.loop-port.port c.args.n _ _ _ _ _ _ lt c.loop-port.invariant.1 c.in_ok-chosen-2.ensures.items
          c.either.ensures c.in_ok-test.ensures c.in_ok-bit.ensures c.in_ok-first.ensures c.loop-port.invariant.0,
      omega arith,
    )
