use Rattle.std.proofs.Common.{◌≡◌, sym, ap, subst, ◌∙◌}
use Rattle.sci_net.specs.declared.Wire.{Wire}
use Rattle.sci_net.specs.Parts.{IsBlock, wire_of}
use Rattle.sci_ranges_pass.specs.Told.{stepped_back, subtracts_along}
use Rattle.sci_ranges_marks.specs.View.{marks_of}
use Rattle.sci_ranges_sums.proofs.Stepped.{aim_on, aim_off}
use Rattle.sci_ranges_sums.proofs.following.aim_at.Goals as goal
use Rattle.sci_ranges_sums.proofs.following.aim_at.Goals.{After-subtracts_along}

pub stepped_back-back-requires : goal.stepped_back-back-requires
stepped_back-back-requires c =
    subst (λ (w : Wire). IsBlock c.args.net.now w.block) (sym c.wire-other.ensures) (c.well_formed-2.ensures.wired.wires_lead c.args.block c.args.more c.requires.more).block

back : (c : After-subtracts_along) → c.stepped_back-back.result ≡ stepped_back c.args.net.now (marks_of c.args.marks.now) c.args.block (wire_of c.args.net.now c.args.block c.args.more)
back c = c.stepped_back-back.ensures.value ∙ ap (stepped_back c.args.net.now (marks_of c.args.marks.now) c.args.block) c.wire-other.ensures

along : (c : After-subtracts_along) → subtracts_along c.args.net.now (marks_of c.args.marks.now) c.args.block (wire_of c.args.net.now c.args.block c.args.from) c.stepped_back-back.result ≡ c.subtracts_along.result
along c =
    ap (λ (v : Wire). subtracts_along c.args.net.now (marks_of c.args.marks.now) c.args.block v c.stepped_back-back.result) (sym c.wire-own.ensures) ∙ sym c.subtracts_along.ensures

pub returns-then-subtracts_along-clause-value : goal.returns-then-subtracts_along-clause-value
returns-then-subtracts_along-clause-value c =
    let t = (goal.at.returns-then-subtracts_along-clause-value c).After-subtracts_along in
    aim_on c.args.net.now (marks_of c.args.marks.now) c.args.block c.args.from c.args.more c.stepped_back-back.result (back t) (along t ∙ c.if-subtracts_along.true)

pub returns-else-subtracts_along-clause-value : goal.returns-else-subtracts_along-clause-value
returns-else-subtracts_along-clause-value c =
    let t = (goal.at.returns-else-subtracts_along-clause-value c).After-subtracts_along in
    aim_off c.args.net.now (marks_of c.args.marks.now) c.args.block c.args.from c.args.more c.stepped_back-back.result (back t) (along t ∙ c.if-subtracts_along.false)
