use Rattle.std.proofs.Common.{◌≢◌, ◌∙◌, arith, FitsSigned, w64, rules, get_or-set_other, pos}
use Rattle.std.proofs.lemmas.Int.{to_z-of_z}
use Rattle.sci_kind_bank.proofs.BankLemmas.{tells_overflow, tells_zero, cell_more, filled_so_far}
use Rattle.sci_kind_bank.proofs.kind_bank.fill.Goals as goal

pub returns-in-Overflow-clause-answer : goal.returns-in-Overflow-clause-answer
returns-in-Overflow-clause-answer g c =
    tells_overflow g.R.Rule.kind c.args.spec.now c.args.state.now c.args.mask c.args.ins.now c.loop-at.at _ _ c.requires.typed.kind_is c.loop-at.invariant.cells c.in-Overflow.ensures (omega arith)

pub returns-in-Zero-clause-answer : goal.returns-in-Zero-clause-answer
returns-in-Zero-clause-answer g c =
    tells_zero g.R.Rule.kind c.args.spec.now c.args.state.now c.args.mask c.args.ins.now c.loop-at.at _ _ c.requires.typed.kind_is c.loop-at.invariant.cells c.in-Zero.ensures (omega arith)

pub returns-in-Overflow-clause-in_range : goal.returns-in-Overflow-clause-in_range
returns-in-Overflow-clause-in_range g c =
    filled_so_far g.R.Rule.kind c.args.spec.now c.args.state.now c.args.mask c.args.ins.now c.args.outs.now c.loop-at.outs c.loop-at.at c.requires.typed c.requires.state c.requires.mask c.requires.ins
    (omega arith) (omega arith) c.loop-at.invariant.cells c.loop-at.invariant.rest

pub returns-in-Zero-clause-in_range : goal.returns-in-Zero-clause-in_range
returns-in-Zero-clause-in_range g c =
    filled_so_far g.R.Rule.kind c.args.spec.now c.args.state.now c.args.mask c.args.ins.now c.args.outs.now c.loop-at.outs c.loop-at.at c.requires.typed c.requires.state c.requires.mask c.requires.ins
    (omega arith) (omega arith) c.loop-at.invariant.cells c.loop-at.invariant.rest

pub returns-clause-in_range : goal.returns-clause-in_range
returns-clause-in_range g c =
    filled_so_far g.R.Rule.kind c.args.spec.now c.args.state.now c.args.mask c.args.ins.now c.args.outs.now c.loop-at.outs c.loop-at.at c.requires.typed c.requires.state c.requires.mask c.requires.ins
    (omega arith) (omega arith) c.loop-at.invariant.cells c.loop-at.invariant.rest

pub loop-at-preserved : goal.loop-at-preserved
loop-at-preserved g c =
    let fits : FitsSigned w64 c.in-Value.v = search rules in
    rw (to_z-of_z w64 c.in-Value.v fits) (record {
      cells = cell_more g.R.Rule.kind c.args.spec.now c.args.state.now c.args.mask c.args.ins.now c.loop-at.at c.loop-at.outs c.in-Value.v c.requires.typed.kind_is c.loop-at.invariant.cells c.in-Value.ensures (omega arith);
      rest = λ e h. let other : e ≢ c.loop-at.at = omega arith in get_or-set_other _ _ _ _ (pos 0) other ∙ c.loop-at.invariant.rest e (omega arith);
    })
