use Rattle.std.proofs.Common.{arith, ◌≤◌, length, map}
use Rattle.c_trim.specs.Candidates.{noted_one, noted}
use Rattle.c_trim.proofs.Marking.{noted_done}
use Rattle.c_trim.proofs.texts.note.Goals as goal

pub returns : goal.returns
unfolding noted
returns c =
    let most : length c.loop-at.candidates ≤ c.loop-at.at = omega arith in
    noted_done (noted_one c.args.x) c.loop-at.candidates c.loop-at.at (map (noted_one c.args.x) c.args.candidates.now) most c.loop-at.invariant
