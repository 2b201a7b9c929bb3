use Rattle.std.proofs.Common.{◌≡◌, ◌∙◌, ℕ, ◌+◌, ◌-◌, refl, subst, sym, arith, length, []}
use Rattle.std.proofs.lemmas.List.{length-replicate}
use Rattle.sci_loop.specs.Lists.{plain}
use Rattle.sci_inherit.specs.Gather.{IsSender, Gathered, OfBlocks}
use Rattle.sci_inherit.proofs.Gathering.{gathered_none}
use Rattle.sci_inherit.proofs.gather.reaching.Goals as goal

pub loop-at-init : goal.loop-at-init
loop-at-init c =
    let n = c.args.net.now in
    record {
      count = refl;
      gathered = subst (Gathered n (OfBlocks (IsSender n c.args.rows.now.wanted.items c.args.senders) 0)) (sym c.in_ok-reaching.ensures.empty)
          (gathered_none n (IsSender n c.args.rows.now.wanted.items c.args.senders) c.len.result c.well_formed-2.ensures c.len.ensures (length-replicate c.len.result []));
    }

pub gather_block-requires-clause-walk : goal.gather_block-requires-clause-walk
gather_block-requires-clause-walk c = c.loop-at.invariant.count ∙ c.requires.walk

pub gather_block-requires-clause-gathered : goal.gather_block-requires-clause-gathered
gather_block-requires-clause-gathered c =
    let n = c.args.net.now in
    let e : c.loop-at.at ≡ (c.loop-at.at + 1) - 1 = omega arith in
    subst (λ (k : ℕ). Gathered n (OfBlocks (IsSender n c.args.rows.now.wanted.items c.args.senders) k) (plain c.loop-at.reaching.items)) e c.loop-at.invariant.gathered

pub returns-in_err-gather_block-clause-count : goal.returns-in_err-gather_block-clause-count
returns-in_err-gather_block-clause-count c = c.gather_block.ensures.count ∙ c.loop-at.invariant.count

pub loop-at-preserved : goal.loop-at-preserved
loop-at-preserved c = record { count = c.gather_block.ensures.count ∙ c.loop-at.invariant.count; gathered = c.in_ok-gather_block.ensures.gathered }

pub returns-clause-gathered : goal.returns-clause-gathered
returns-clause-gathered c =
    let n = c.args.net.now in
    let all : c.loop-at.at ≡ length n.specs = omega (arith, c.len-at-end.ensures, c.loop-at-test.false, c.loop-at.auto.at-end) in
    subst (λ (k : ℕ). Gathered n (OfBlocks (IsSender n c.args.rows.now.wanted.items c.args.senders) k) (plain c.loop-at.reaching.items)) all c.loop-at.invariant.gathered

pub returns-clause-count : goal.returns-clause-count
returns-clause-count c = c.loop-at.invariant.count
