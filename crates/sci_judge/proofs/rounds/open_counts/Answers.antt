use Rattle.std.proofs.Common.{◌≡◌, ℕ, ◌<◌, ◌+◌, ◌∙◌, sym, ap, subst, arith, get_or, set, length}
use Rattle.std.proofs.lemmas.List.{get_or_default}
use Rattle.sci_loop.proofs.Adding.{list_at-plain}
use Rattle.sci_judge.specs.Rounds.{needs_at, count_at}
use Rattle.sci_judge.proofs.Releasing.{open_begin}
use Rattle.sci_judge.proofs.Waiting.{counts_more}
use Rattle.sci_judge.proofs.rounds.open_counts.Goals as goal

pub loop-at-preserved : goal.loop-at-preserved
loop-at-preserved c =
    let t = c.args.table.now in
    let k = c.loop-at.at in
    let mid = c.loop-at.counts.items in
    let less : k < length t.members.items = omega (arith, c.loop-at-test.true, c.len-at-end.ensures, c.args.table.now.members.ok.0) in
    let member : c.index-in-loop-at.result.now ≡ get_or t.members.items k 0 = c.index-in-loop-at.ensures ∙ get_or_default t.members.items k c.index-in-loop-at.result.now 0 less in
    let listed : needs_at t k ≡ c.index.result.now.items = list_at-plain t.needs.items k c.index.result.now (let long = c.requires.table.rows in omega (arith, long, less)) c.index.ensures in
    let same = ap length listed in
    let count : c.len.result ≡ length (needs_at t k) = omega (arith, same, c.len.ensures, c.index.result.now.ok.0) in
    let bound = c.requires.below k 0 less in
    let within : get_or t.members.items k 0 < length mid = omega (arith, bound, c.loop-at.counts.ok.0, c.loop-at.invariant.len) in
    record {
      len = c.loop-at.invariant.len;
      counts = subst (λ m. (i : ℕ) → i < k + 1 → count_at (set mid m c.len.result) (get_or t.members.items i 0) ≡ length (needs_at t i)) (sym member)
          (counts_more t k c.len.result mid c.requires.table less c.loop-at.invariant.counts within count);
    }

pub returns-clause-counts : goal.returns-clause-counts
returns-clause-counts c i h =
    c.loop-at.invariant.counts i (omega (arith, h, c.loop-at-test.false, c.len-at-end.ensures, c.args.table.now.members.ok.0)) ∙ sym (open_begin (needs_at c.args.table.now i))
