-- Those before were looked at, and those to come are as at the outset.
use Rattle.std.proofs.Common.{◌≡◌, ◌++◌, take, drop, map}
use Rattle.c_trim.specs.Candidates.{noted_one}
use Rattle.c_trim.proofs.texts.note.Given as goal

abbrev pub invariant-loop-at : goal.invariant-loop-at
invariant-loop-at l = take l.at l.candidates ++ map (noted_one l.x) (drop l.at l.candidates) ≡ map (noted_one l.x) l.initial.candidates
