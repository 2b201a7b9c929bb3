use Rattle.std.proofs.Common.{◌+◌, ◌-◌, get_or, sym, refl, ap, ◌∙◌, true, false, arith}
use Rattle.std.proofs.lemmas.List.{get_or_default, get_or_past}
use Rattle.sci_save.specs.Reading.{is_port}
use Rattle.sci_save.proofs.Sources.{all_small}
use Rattle.sci_save.proofs.Lines.{before_within, place_is, place_free, place_taken, place_other}
use Rattle.sci_save.proofs.events.free_place.Goals as goal
use Rattle.sci_save.proofs.events.free_place.Goals.{else-place-marks-via-then-place-marks+then-not-marks-place+else-is_port, else-place-marks-via-then-place-marks+else-not-marks-place, else-place-marks-via-else-place-marks}

pub bounds-before-block : goal.bounds-before-block
bounds-before-block c = before_within c.args.net.now c.args.before.now c.args.block c.requires.before c.requires.least c.requires.most

pub overflow_cast-place-then-not-marks-place : goal.overflow_cast-place-then-not-marks-place
overflow_cast-place-then-not-marks-place c = let small = all_small c.args.net.now c.well_formed-2.ensures in omega (arith, small, c.requires.marks, c.if-place-marks.true)

pub overflow_cast-result : goal.overflow_cast-result
overflow_cast-result c = let small = all_small c.args.net.now c.well_formed-2.ensures in omega (arith, small, c.requires.marks, c.if-place-marks.true)

pub returns-then-is_port-clause-place : goal.returns-then-is_port-clause-place
returns-then-is_port-clause-place c =
    let n = c.args.net.now in
    let marks = c.args.marks.now in
    let b = c.args.block in
    let p = c.args.port in
    let place = get_or c.args.before.now (b - 1) 0 + p in
    let is = place_is n c.args.before.now b p (get_or c.args.before.now (b - 1) 0) c.requires.before c.requires.least c.requires.most refl in
    place_free n marks b p place is (sym (get_or_default marks place false true c.if-place-marks.true) ∙ c.if-not-marks-place.true)
    (ap (is_port b p) (sym c.source.ensures) ∙ sym c.is_port.ensures ∙ c.if-is_port.true)

pub returns-else-place-marks-clause-place : goal.returns-else-place-marks-clause-place
returns-else-place-marks-clause-place c =
    let n = c.args.net.now in
    let marks = c.args.marks.now in
    let b = c.args.block in
    let p = c.args.port in
    let place = get_or c.args.before.now (b - 1) 0 + p in
    let is = place_is n c.args.before.now b p (get_or c.args.before.now (b - 1) 0) c.requires.before c.requires.least c.requires.most refl in
    elim c.else-place-marks.branch [
      | else-place-marks-via-then-place-marks+then-not-marks-place+else-is_port w ↦
          place_other n marks b p place is (ap (is_port b p) (sym w.source.ensures) ∙ sym w.is_port.ensures ∙ w.if-is_port.false)
      | else-place-marks-via-then-place-marks+else-not-marks-place w ↦
          place_taken n marks b p place is (sym (get_or_default marks place false true w.if-place-marks.true) ∙ w.if-not-marks-place.false)
      | else-place-marks-via-else-place-marks w ↦ place_taken n marks b p place is (get_or_past marks place true w.if-place-marks.false)
    ]
