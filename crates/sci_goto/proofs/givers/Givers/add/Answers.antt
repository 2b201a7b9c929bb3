use Rattle.sci_goto.proofs.givers.Givers.add.Goals as goal

pub returns-in-Gives-clause-stop : goal.returns-in-Gives-clause-stop
returns-in-Gives-clause-stop c = λ ss tags h. rw c.in-Gives.is (c.give.ensures.stop ss tags h)
