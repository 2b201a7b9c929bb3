use Rattle.std.proofs.Common.{arith, ◌<◌, ◌+◌, ◌^◌, length, sym, ap, subst, ◌∙◌}
use Rattle.sci_forms.specs.Words.{state_len_of}
use Rattle.sci_net.specs.Parts.{IsBlock}
use Rattle.sci_program.proofs.Sizes.{state_small}
use Rattle.sci_program.specs.Program.{counts_behind}
use Rattle.sci_cgen_base.proofs.NetLemmas.{any_passed, any_there}
use Rattle.sci_cgen_run.proofs.declared_names.has_loop.Goals as goal

pub counts_behind-requires : goal.counts_behind-requires
counts_behind-requires c =
    let within : c.loop-at.at < length c.args.net.now.specs = omega arith in
    let block : IsBlock c.args.net.now (c.loop-at.at + 1) = record { least = omega arith; most = omega (arith, within) } in
    subst (λ s. state_len_of s.kind s < 2 ^ 32) (sym c.spec.ensures.value) (state_small c.args.net.now c.well_formed-2.ensures (c.loop-at.at + 1) block)

pub loop-at-preserved : goal.loop-at-preserved
loop-at-preserved c =
    let within : c.loop-at.at < length c.args.net.now.specs = omega arith in
    let other = sym (c.counts_behind.ensures ∙ ap counts_behind c.spec.ensures.value) ∙ c.if-counts_behind.false in
    any_passed counts_behind c.args.net.now.specs c.loop-at.at _ within c.loop-at.invariant other

pub returns-then-counts_behind : goal.returns-then-counts_behind
returns-then-counts_behind c =
    let within : c.loop-at.at < length c.args.net.now.specs = omega arith in
    let here = sym (c.counts_behind.ensures ∙ ap counts_behind c.spec.ensures.value) ∙ c.if-counts_behind.true in
    any_there counts_behind c.args.net.now.specs c.loop-at.at _ within c.loop-at.invariant here
