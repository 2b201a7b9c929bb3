use Rattle.std.proofs.Common.{◌≡◌, ◌∙◌, refl, sym, ap, arith}
use Rattle.sci_forms.specs.declared.Kind.{Kind}
use Rattle.sci_forms.specs.declared.Kind.TheVariants.{Const, Summation, GainBlk, Product, AbsValue, Signum, MaxMin, Saturation, DeadBand, Convert, Mux, Demux, SampHold, Extractor, LogicalOp, RelationalOp, Shift, BitSet, BitClear, ExtractBits, Switch2, Select, Logic, AndLog, Dollar, Register, ModuloCount, GatedDelay, Sensor}
use Rattle.sci_forms.specs.Ports.{type_at}
use Rattle.sci_kinds.specs.Asks.{Asks}
use Rattle.sci_ranges_rules.specs.Rules.{cells_of, anything}
use Rattle.sci_ranges_rules.proofs.Covers.{one_size}
use Rattle.sci_ranges_kinds.proofs.Asked.{asks_of}
use Rattle.sci_ranges_kinds.proofs.rules.some_cells.Goals as goal

-- the element is one of the only output's
pub summation-requires-clause-element : goal.summation-requires-clause-element
summation-requires-clause-element c =
    let a : Asks Summation c.args.spec.now = asks_of Summation c.args.spec.now c.in-Summation.is c.requires.is_typed in
    one_size c.args.spec.now c.args.e a.0.outs_alike a.0.one c.requires.element

pub product-requires-clause-element : goal.product-requires-clause-element
product-requires-clause-element c =
    let a : Asks Product c.args.spec.now = asks_of Product c.args.spec.now c.in-Product.is c.requires.is_typed in
    one_size c.args.spec.now c.args.e a.0.outs_alike a.0.one c.requires.element

pub max_min-requires-clause-element : goal.max_min-requires-clause-element
max_min-requires-clause-element c =
    let a : Asks MaxMin c.args.spec.now = asks_of MaxMin c.args.spec.now c.in-MaxMin.is c.requires.is_typed in
    one_size c.args.spec.now c.args.e a.0.outs_alike a.0.one c.requires.element

pub logical_op-requires-clause-element : goal.logical_op-requires-clause-element
logical_op-requires-clause-element c =
    let a : Asks LogicalOp c.args.spec.now = asks_of LogicalOp c.args.spec.now c.in-LogicalOp.is c.requires.is_typed in
    one_size c.args.spec.now c.args.e a.0.outs_alike a.0.one c.requires.element

pub relational_op-requires-clause-element : goal.relational_op-requires-clause-element
relational_op-requires-clause-element c =
    let a : Asks RelationalOp c.args.spec.now = asks_of RelationalOp c.args.spec.now c.in-RelationalOp.is c.requires.is_typed in
    one_size c.args.spec.now c.args.e a.0.outs_alike a.0.one c.requires.element

pub switch2-requires-clause-element : goal.switch2-requires-clause-element
switch2-requires-clause-element c =
    let a : Asks Switch2 c.args.spec.now = asks_of Switch2 c.args.spec.now c.in-Switch2.is c.requires.is_typed in
    one_size c.args.spec.now c.args.e a.0.outs_alike a.0.one c.requires.element

pub select-requires-clause-element : goal.select-requires-clause-element
select-requires-clause-element c =
    let a : Asks Select c.args.spec.now = asks_of Select c.args.spec.now c.in-Select.is c.requires.is_typed in
    one_size c.args.spec.now c.args.e a.0.outs_alike a.0.one c.requires.element

pub extractor-requires-clause-element : goal.extractor-requires-clause-element
extractor-requires-clause-element c =
    let a : Asks Extractor c.args.spec.now = asks_of Extractor c.args.spec.now c.in-Extractor.is c.requires.is_typed in
    one_size c.args.spec.now c.args.e a.0.outs_alike a.0.one c.requires.element

pub logic-requires-clause-element : goal.logic-requires-clause-element
logic-requires-clause-element c =
    let a : Asks Logic c.args.spec.now = asks_of Logic c.args.spec.now c.in-Logic.is c.requires.is_typed in
    omega (arith, c.requires.element, a.3)

-- these rules are the same for every spec
pub returns-in-Signum : goal.returns-in-Signum
returns-in-Signum c =
    c.signum.ensures c.args.spec.now ∙ sym (ap (λ (k : Kind). cells_of k c.args.spec.now c.args.state.now c.args.masks.now c.args.ins.now c.args.e) c.in-Signum.is)

pub returns-in-AndLog : goal.returns-in-AndLog
returns-in-AndLog c =
    c.and_log.ensures c.args.spec.now ∙ sym (ap (λ (k : Kind). cells_of k c.args.spec.now c.args.state.now c.args.masks.now c.args.ins.now c.args.e) c.in-AndLog.is)

-- a kind without a rule of its own
pub returns-in_default : goal.returns-in_default
returns-in_default c = c.anything.ensures ∙ ap anything c.type_at.ensures ∙ sym (by_kind c.args.spec.now.kind refl)
  where
    by_kind : (k : Kind) → c.args.spec.now.kind ≡ k
        → cells_of k c.args.spec.now c.args.state.now c.args.masks.now c.args.ins.now c.args.e ≡ anything (type_at c.args.spec.now.outs c.args.e)
    by_kind Const is = absurd (c.in_default.not-Const is)
    by_kind Summation is = absurd (c.in_default.not-Summation is)
    by_kind GainBlk is = absurd (c.in_default.not-GainBlk is)
    by_kind Product is = absurd (c.in_default.not-Product is)
    by_kind AbsValue is = absurd (c.in_default.not-AbsValue is)
    by_kind Signum is = absurd (c.in_default.not-Signum is)
    by_kind MaxMin is = absurd (c.in_default.not-MaxMin is)
    by_kind Saturation is = absurd (c.in_default.not-Saturation is)
    by_kind DeadBand is = absurd (c.in_default.not-DeadBand is)
    by_kind Convert is = absurd (c.in_default.not-Convert is)
    by_kind Mux is = absurd (c.in_default.not-Mux is)
    by_kind Demux is = absurd (c.in_default.not-Demux is)
    by_kind SampHold is = absurd (c.in_default.not-SampHold is)
    by_kind Extractor is = absurd (c.in_default.not-Extractor is)
    by_kind LogicalOp is = absurd (c.in_default.not-LogicalOp is)
    by_kind RelationalOp is = absurd (c.in_default.not-RelationalOp is)
    by_kind Shift is = absurd (c.in_default.not-Shift is)
    by_kind BitSet is = absurd (c.in_default.not-BitSet is)
    by_kind BitClear is = absurd (c.in_default.not-BitClear is)
    by_kind ExtractBits is = absurd (c.in_default.not-ExtractBits is)
    by_kind Switch2 is = absurd (c.in_default.not-Switch2 is)
    by_kind Select is = absurd (c.in_default.not-Select is)
    by_kind Logic is = absurd (c.in_default.not-Logic is)
    by_kind AndLog is = absurd (c.in_default.not-AndLog is)
    by_kind Dollar is = absurd (c.in_default.not-Dollar is)
    by_kind Register is = absurd (c.in_default.not-Register is)
    by_kind ModuloCount is = absurd (c.in_default.not-ModuloCount is)
    by_kind GatedDelay is = absurd (c.in_default.not-GatedDelay is)
    by_kind Sensor is = absurd (c.in_default.not-Sensor is)
    by_kind _ is = refl
