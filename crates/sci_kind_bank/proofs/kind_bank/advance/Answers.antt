use Rattle.std.proofs.Common.{arith, FitsSigned, w64, rules}
use Rattle.std.proofs.lemmas.Int.{to_z-of_z}
use Rattle.sci_kind_bank.proofs.BankLemmas.{IsState-stepped, step_more, stepped_all}
use Rattle.sci_kind_bank.proofs.kind_bank.advance.Goals as goal

pub next-v-requires-clause-state : goal.next-v-requires-clause-state
next-v-requires-clause-state g c =
    IsState-stepped g.R.Rule.kind c.args.spec.now c.args.state.now c.loop-at.state c.args.mask c.args.ins.now c.loop-at.at c.requires.typed c.requires.state c.requires.ins c.loop-at.invariant

pub loop-at-preserved : goal.loop-at-preserved
loop-at-preserved g c =
    let fits : FitsSigned w64 c.next-v.result = search rules in
    rw (c.set.ensures, to_z-of_z w64 c.next-v.result fits)
    (step_more g.R.Rule.kind c.args.spec.now c.args.state.now c.loop-at.state c.args.mask c.args.ins.now c.loop-at.at c.next-v.result c.requires.typed.kind_is c.requires.state (omega arith) c.loop-at.invariant c.next-v.ensures)

pub returns : goal.returns
returns g c = stepped_all c.args.spec.now c.args.state.now c.loop-at.state c.args.mask c.args.ins.now c.loop-at.at c.requires.state (omega arith) c.loop-at.invariant
