use Rattle.std.proofs.Common.{ℕ, ◌<◌, ◌+◌, ◌∙◌, List, refl, sym, subst, arith, take, get_or, length, Vec}
use Rattle.std.specs.declared.alloc.Global.{Global}
use Rattle.std.proofs.lemmas.List.{length-map}
use Rattle.sci_loop.specs.Lists.{plain}
use Rattle.sci_judge.specs.Rounds.{IsPutTo}
use Rattle.sci_judge.proofs.Waiting.{put_none, put_more}
use Rattle.sci_judge.proofs.rounds.put.Goals as goal

pub loop-need-init : goal.loop-need-init
loop-need-init c = record { len = refl; put = put_none c.args.member (plain c.args.lists.now.items) }

pub loop-need-preserved : goal.loop-need-preserved
loop-need-preserved c =
    let i = c.loop-need.need-index in
    let ns = c.args.needs.now in
    let old = plain c.args.lists.now.items in
    let mid = plain c.loop-need.lists.items in
    let long = length-map c.loop-need.lists.items (λ (v : Vec ℕ Global). v.items) in
    let bound = c.requires.within i 0 c.loop-need-test.true in
    let same = c.loop-need.invariant.len in
    let inside : get_or ns i 0 < length mid = omega (arith, bound, long, same, c.loop-need.lists.ok.0) in
    record {
      len = c.in_ok-push_at.ensures.len ∙ same;
      put = subst (λ (ls : List (List ℕ)). IsPutTo (take (i + 1) ns) c.args.member old ls) (sym c.in_ok-push_at.ensures.lists)
          (put_more ns c.args.member i old mid c.requires.rising c.loop-need-test.true c.loop-need.invariant.put inside);
    }
