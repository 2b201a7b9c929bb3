use Rattle.std.proofs.Common.{◌≡◌, ◌∙◌, ℕ, ap, subst, arith, length}
use Rattle.sci_forms.specs.declared.spec.Spec.{Spec}
use Rattle.sci_net.specs.Parts.{spec_of}
use Rattle.sci_dep.specs.Building.{Puts, SuppliesBelow}
use Rattle.sci_dep.proofs.Waited.{puts_none, puts_next, puts_through}
use Rattle.sci_dep.proofs.waiting.push_sources.Goals as goal

pub loop-at-init : goal.loop-at-init
loop-at-init c = puts_none c.args.net.now c.args.block c.args.blocks.now.items

pub loop-at-preserved : goal.loop-at-preserved
loop-at-preserved c =
    puts_next c.args.net.now c.args.block c.loop-at.at c.args.blocks.now.items c.loop-at.blocks.items c.push_source.new.blocks.items c.in_ok-push_source.ensures c.loop-at.invariant

pub returns : goal.returns
returns c =
    let ins : c.len-at-end.result ≡ length (spec_of c.args.net.now c.args.block).ins = c.len-at-end.ensures.value ∙ ap (λ (s : Spec). length s.ins) c.spec.ensures.value in
    let all : c.loop-at.at ≡ length (spec_of c.args.net.now c.args.block).ins = omega (arith, ins, c.loop-at-test.false, c.loop-at.auto.at-end) in
    puts_through c.args.net.now c.args.block c.args.blocks.now.items c.loop-at.blocks.items c.requires.least c.requires.most
    (subst (λ (k : ℕ). Puts (SuppliesBelow c.args.net.now c.args.block k) c.args.blocks.now.items c.loop-at.blocks.items) all c.loop-at.invariant)
