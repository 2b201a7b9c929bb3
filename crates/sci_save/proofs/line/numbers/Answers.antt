use Rattle.std.proofs.Common.{rules, pos, sym}
use Rattle.std.proofs.lemmas.Int.{to_z-of_z}
use mir.Val.{SFits}
use mir.Syntax.{w64}
use Rattle.sci_save.specs.Numbers.{numbers_at}
use Rattle.sci_save.specs.Bounds.{from_to}
use Rattle.sci_save.proofs.NumberLoops.{numbers_go_on, numbers_break, numbers_end, numbers_open}
use Rattle.sci_save.proofs.line.numbers.Goals as goal

pub returns-in-None : goal.returns-in-None
returns-in-None c =
    let rs = c.args.bounds.now in
    numbers_break c.loop-bound.numbers.items rs c.loop-bound.bound-index (from_to (pos 0) (pos 0)) c.loop-bound.rest.now c.args.left (numbers_at rs c.args.bytes.now) c.loop-bound-test.true (sym c.in-None.ensures) c.loop-bound.invariant

pub loop-bound-preserved : goal.loop-bound-preserved
loop-bound-preserved c =
    let rs = c.args.bounds.now in
    let fits : SFits w64 c.in-Some.number = search rules in
    rw (c.in_ok-push-in-Some.ensures.items, to_z-of_z w64 c.in-Some.number fits)
    (numbers_go_on c.loop-bound.numbers.items rs c.loop-bound.bound-index (from_to (pos 0) (pos 0)) c.loop-bound.rest.now c.in-Some.number c.in-Some.behind.now (numbers_at rs c.args.bytes.now) c.loop-bound-test.true (sym c.in-Some.ensures) c.loop-bound.invariant)

pub returns-in-Some-after_text : goal.returns-in-Some-after_text
returns-in-Some-after_text c =
    let rs = c.args.bounds.now in
    numbers_end c.loop-bound.numbers.items rs c.loop-bound.bound-index c.loop-bound.rest.now c.in-Some-after_text.end.now c.args.left (numbers_at rs c.args.bytes.now) c.loop-bound-test.false (sym c.in-Some-after_text.ensures) c.loop-bound.invariant

pub returns : goal.returns
returns c =
    let rs = c.args.bounds.now in
    numbers_open c.loop-bound.numbers.items rs c.loop-bound.bound-index c.loop-bound.rest.now c.args.left (numbers_at rs c.args.bytes.now) c.loop-bound-test.false (sym c.in-None-after_text.ensures) c.loop-bound.invariant
