use Rattle.std.proofs.Common.{arith, ◌≡◌, suc, length, sym}
use Rattle.sci_cgen_blocks.proofs.Written.{joined_done}
use Rattle.sci_program.specs.Program.{state_text}
use Rattle.sci_cgen_sources.specs.Taking.{takes}
use Rattle.sci_cgen_sources.proofs.SettleLemmas.{each_turn}
use Rattle.sci_due_texts.proofs.TextLemmas.{each_done}
use Rattle.sci_cgen_sources.proofs.settle_texts.push_states.Goals as goal

pub loop-at-init : goal.loop-at-init
loop-at-init c = record { so_far = sym (joined_done _); within = omega arith }

pub loop-at-preserved : goal.loop-at-preserved
loop-at-preserved c = record {
  so_far = each_turn (state_text c.args.net.now (takes c.args.taking.now)) c.loop-at.at _ _ _ c.loop-at.invariant.so_far c.in_ok-push_state.ensures;
  within = omega arith;
}

pub returns : goal.returns
returns c =
    let all : c.loop-at.at ≡ length c.args.net.now.specs = omega (arith, c.loop-at.invariant.within) in
    each_done (λ k. state_text c.args.net.now (takes c.args.taking.now) (suc k)) c.loop-at.at _ _ _ all c.loop-at.invariant.so_far
