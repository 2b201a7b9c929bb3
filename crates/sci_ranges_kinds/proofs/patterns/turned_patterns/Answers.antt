use Rattle.sci_ranges_kinds.proofs.Patterning.{word_pattern, turned_same, turned_other}
use Rattle.std.proofs.Common.{◌≡◌, ◌∙◌, ◌-◌, ◌^◌, ap, arith}
use Rattle.sci_base.specs.Fit.{width}
use Rattle.sci_ranges_kinds.proofs.Asked.{width_small}
use Rattle.sci_ranges_kinds.proofs.patterns.turned_patterns.Goals as goal
use Rattle.sci_ranges_kinds.proofs.patterns.turned_patterns.Goals.{After-two_to-round}

pub turned_left-least-requires-clause-pattern : goal.turned_left-least-requires-clause-pattern
turned_left-least-requires-clause-pattern c = word_pattern c.args.ty c.args.p.least c.requires.patterns.least

pub turned_left-least-requires-clause-few : goal.turned_left-least-requires-clause-few
turned_left-least-requires-clause-few c = omega (arith, c.requires.places, width_small c.args.ty)

pub turned_left-greatest-requires-clause-pattern : goal.turned_left-greatest-requires-clause-pattern
turned_left-greatest-requires-clause-pattern c = word_pattern c.args.ty c.args.p.greatest c.requires.patterns.greatest

pub turned_left-greatest-requires-clause-few : goal.turned_left-greatest-requires-clause-few
turned_left-greatest-requires-clause-few c = omega (arith, c.requires.places, width_small c.args.ty)

round_is : (c : After-two_to-round) → c.two_to-round.result ≡ 2 ^ (width c.args.ty - c.args.places)
round_is c = c.two_to-round.ensures ∙ ap (λ n. 2 ^ (n - c.args.places)) c.width.ensures

pub returns-then-first-last : goal.returns-then-first-last
returns-then-first-last c =
    rw (c.turned_left-least.ensures, c.turned_left-greatest.ensures)
    (turned_same c.args.ty c.args.p c.args.places c.two_to-round.result (round_is (goal.at.returns-then-first-last c).After-two_to-round) c.if-first-last.true)

pub returns-else-first-last : goal.returns-else-first-last
returns-else-first-last c =
    c.all_patterns.ensures ∙ turned_other c.args.ty c.args.p c.args.places c.two_to-round.result
    (round_is (goal.at.returns-else-first-last c).After-two_to-round) c.if-first-last.false
