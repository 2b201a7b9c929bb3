use Rattle.c_rules.proofs.rules.Knowledge.pass.Goals as goal

pub returns-in-Declare : goal.returns-in-Declare
returns-in-Declare c = λ s a. rw c.in-Declare.is (c.declare.ensures c.args.i s a)

pub returns-in-Assign : goal.returns-in-Assign
returns-in-Assign c = λ s a. rw c.in-Assign.is (c.assign.ensures c.args.i c.in-Assign.field-1 s a)

pub returns-in-Loop : goal.returns-in-Loop
returns-in-Loop c = λ s a. rw c.in-Loop.is (c.begin_loop.ensures c.args.i s a)

pub returns-in-Call : goal.returns-in-Call
returns-in-Call c = λ s a. rw c.in-Call.is (c.call.ensures c.args.i s a)

pub returns-in-If : goal.returns-in-If
returns-in-If c = λ s a. rw c.in-If.is (c.begin_branch.ensures c.args.i s a)

pub returns-in-Close : goal.returns-in-Close
returns-in-Close c = λ s a. rw c.in-Close.is (c.close.ensures c.args.i s a)
