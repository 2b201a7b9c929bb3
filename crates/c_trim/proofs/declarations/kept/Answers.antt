use Rattle.std.proofs.Common.{arith, ◌≤◌, length}
use Rattle.std.proofs.lemmas.List.{drop_more}
use Rattle.c_trim.proofs.Listing.{kept_more, kept_done}
use Rattle.c_trim.proofs.declarations.kept.Goals as goal

pub loop-candidate-preserved : goal.loop-candidate-preserved
loop-candidate-preserved c =
    kept_more c.args.candidates.now c.loop-candidate.candidate-index _ _ _ _
    (drop_more c.args.candidates.now c.loop-candidate.candidate-index _ c.loop-candidate-test.true) c.in_ok-push_kept.ensures c.loop-candidate.invariant

pub returns : goal.returns
returns c =
    let most : length c.args.candidates.now ≤ c.loop-candidate.candidate-index = omega arith in
    kept_done c.args.candidates.now c.loop-candidate.candidate-index _ _ most c.loop-candidate.invariant
