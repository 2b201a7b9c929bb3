use Rattle.std.proofs.Common.{◌≡◌, ◌∙◌, ℕ, ◌+◌, sym, ap, subst, arith, length}
use Rattle.sci_forms.specs.declared.spec.Spec.{Spec}
use Rattle.sci_net.specs.declared.Wire.{Wire}
use Rattle.sci_net.specs.Parts.{spec_of, wire_of}
use Rattle.sci_loop.specs.Lists.{plain, Adds}
use Rattle.sci_inherit.specs.Followers.{Upto, InputGives}
use Rattle.sci_inherit.proofs.Giving.{upto-none, upto-next, adds-given}
use Rattle.sci_inherit.proofs.Linked.{wire_inside}
use Rattle.sci_inherit.proofs.followers.push_to_sources.Goals as goal

pub loop-at-init : goal.loop-at-init
loop-at-init c = record { len = c.requires.long; adds = upto-none (InputGives c.args.net.now c.args.block) (plain c.args.heirs.now.items) }

pub loop-at-preserved : goal.loop-at-preserved
loop-at-preserved c =
    let n = c.args.net.now in
    let b = c.args.block in
    let at = c.loop-at.at in
    let inv = c.loop-at.invariant in
    let wb : c.wire-wire.result.block ≡ (wire_of n b (at + 1)).block = ap (λ (x : Wire). x.block) c.wire-wire.ensures in
    let ins : c.len-at-end.result ≡ length (spec_of n b).ins = c.len-at-end.ensures.value ∙ ap (λ (s : Spec). length s.ins) c.spec.ensures.value in
    let inside = wire_inside n b at c.well_formed-2.ensures c.requires.least c.requires.most (omega (arith, ins, c.loop-at-test.true)) in
    record {
      len = c.in_ok-push_at.ensures.len ∙ inv.len;
      adds = upto-next (InputGives n b) at (plain c.args.heirs.now.items) (plain c.loop-at.heirs.items) (plain c.push_at.new.lists.items) inv.adds
          (adds-given (InputGives n b at) c.loop-at.heirs c.push_at.new.lists c.wire-wire.result.block b (omega (arith, wb, inside, inv.len)) c.in_ok-push_at.ensures.lists
          (λ p x e d. record { from = sym wb ∙ sym e; is = d })
          (λ p x g. (sym g.from ∙ sym wb, g.is)));
    }

pub returns-clause-heirs : goal.returns-clause-heirs
returns-clause-heirs c =
    let n = c.args.net.now in
    let b = c.args.block in
    let ins : c.len-at-end.result ≡ length (spec_of n b).ins = c.len-at-end.ensures.value ∙ ap (λ (s : Spec). length s.ins) c.spec.ensures.value in
    let all : c.loop-at.at ≡ length (spec_of n b).ins = omega (arith, ins, c.loop-at-test.false, c.loop-at.auto.at-end) in
    subst (λ (k : ℕ). Adds (Upto (InputGives n b) k) (plain c.args.heirs.now.items) (plain c.loop-at.heirs.items)) all c.loop-at.invariant.adds
