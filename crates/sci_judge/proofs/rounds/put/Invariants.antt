use Rattle.std.proofs.Common.{◌≡◌, take, vec_len}
use Rattle.sci_loop.specs.Lists.{plain}
use Rattle.sci_judge.specs.Rounds.{IsPutTo}
use Rattle.sci_judge.proofs.rounds.put.Given as goal

abbrev pub invariant-loop-need : goal.invariant-loop-need
invariant-loop-need l = record {
  len : vec_len l.lists ≡ vec_len l.initial.lists;
  put : IsPutTo (take l.need-index l.needs) l.member (plain l.initial.lists.items) (plain l.lists.items);
}
