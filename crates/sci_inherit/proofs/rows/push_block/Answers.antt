use Rattle.std.proofs.Common.{◌≡◌, ◌∙◌, ℕ, ◌+◌, ◌-◌, List, sym, ap, subst, arith}
use Rattle.sci_forms.specs.declared.spec.Spec.{Spec}
use Rattle.sci_net.specs.declared.Feed.{Feed}
use Rattle.sci_net.specs.Parts.{spec_of, AreRising}
use Rattle.sci_inherit.specs.Followers.{Upto, plain_rows, Fills, FeedGets, InputFed}
use Rattle.sci_inherit.proofs.Filling.{fills_none, fills_upto, have_rows_same}
use Rattle.sci_inherit.proofs.InOrder.{before_next, before_block}
use Rattle.sci_inherit.proofs.Linked.{has_rows}
use Rattle.sci_inherit.proofs.rows.push_block.Goals as goal

pub loop-at-init : goal.loop-at-init
loop-at-init c = record {
  fills = fills_none (Upto (InputFed c.args.net.now c.args.wanted.now c.args.block) 0) (plain_rows c.args.rows.now.items) (λ q f u. let l = u.below in absurd (omega (arith, l)));
  before = c.requires.before;
}

pub push_to_feeds-requires-clause-rows : goal.push_to_feeds-requires-clause-rows
push_to_feeds-requires-clause-rows c =
    let n = c.args.net.now in
    let b = c.args.block in
    let e : c.spec.result.now.evtin ≡ (spec_of n b).evtin = ap (λ (s : Spec). s.evtin) c.spec.ensures.value in
    has_rows n b c.loop-at.at c.feeds.result.now (plain_rows c.loop-at.rows.items) c.well_formed-2.ensures c.requires.least c.requires.most (omega (arith, e, c.loop-at-test.true)) c.feeds.ensures
    (have_rows_same n (Upto (InputFed n c.args.wanted.now b) c.loop-at.at) (plain_rows c.args.rows.now.items) (plain_rows c.loop-at.rows.items) c.loop-at.invariant.fills c.requires.shape)

pub push_to_feeds-requires-clause-rising : goal.push_to_feeds-requires-clause-rising
push_to_feeds-requires-clause-rising c =
    let n = c.args.net.now in
    let b = c.args.block in
    let e : c.spec.result.now.evtin ≡ (spec_of n b).evtin = ap (λ (s : Spec). s.evtin) c.spec.ensures.value in
    subst AreRising (sym c.feeds.ensures)
    (c.well_formed-2.ensures.wired.feeds_rise b (c.loop-at.at + 1)
    (record { block = record { least = c.requires.least; most = c.requires.most }; least = omega arith; most = omega (arith, e, c.loop-at-test.true) }))

pub loop-at-preserved : goal.loop-at-preserved
loop-at-preserved c =
    let n = c.args.net.now in
    let b = c.args.block in
    let at = c.loop-at.at in
    let mid = plain_rows c.loop-at.rows.items in
    let new = plain_rows c.push_to_feeds.new.rows.items in
    let P : List Feed → Type 0 = λ fs. Fills (FeedGets c.args.wanted.now fs (record { block = b; input = at + 1 })) mid new in
    record {
      fills = fills_upto (InputFed n c.args.wanted.now b) at (plain_rows c.args.rows.now.items) mid new c.loop-at.invariant.fills (subst P c.feeds.ensures c.in_ok-push_to_feeds.ensures.fills);
      before = before_next c.args.wanted.now c.feeds.result.now b (at + 1) mid new c.loop-at.invariant.before c.in_ok-push_to_feeds.ensures.fills c.in_ok-push_to_feeds.ensures.appends;
    }

pub returns-clause-fills : goal.returns-clause-fills
returns-clause-fills c =
    let n = c.args.net.now in
    let b = c.args.block in
    let old = plain_rows c.args.rows.now.items in
    let new = plain_rows c.loop-at.rows.items in
    let e : c.spec.result.now.evtin ≡ (spec_of n b).evtin = ap (λ (s : Spec). s.evtin) c.spec.ensures.value in
    let all : c.loop-at.at ≡ (spec_of n b).evtin = omega (arith, e, c.loop-at-test.false, c.loop-at.auto.at-end) in
    let number : (b - 1) + 1 ≡ b = let low = c.requires.least in omega (arith, low) in
    subst (λ (k : ℕ). Fills (Upto (InputFed n c.args.wanted.now k) (spec_of n k).evtin) old new) (sym number) (subst (λ (k : ℕ). Fills (Upto (InputFed n c.args.wanted.now b) k) old new) all c.loop-at.invariant.fills)

pub returns-clause-before : goal.returns-clause-before
returns-clause-before c = before_block c.args.block (c.loop-at.at + 1) (plain_rows c.loop-at.rows.items) c.loop-at.invariant.before

pub push_to_feeds-requires-clause-wanted : goal.push_to_feeds-requires-clause-wanted
push_to_feeds-requires-clause-wanted c = c.requires.wanted ∙ (sym c.requires.shape.long ∙ sym c.loop-at.invariant.fills.long)
