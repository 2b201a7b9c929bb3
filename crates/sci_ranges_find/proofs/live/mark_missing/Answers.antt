use Rattle.std.proofs.Common.{sym, ap, subst, ◌∙◌, arith}
use Rattle.sci_ranges_rows.specs.Marks.{Marks}
use Rattle.sci_ranges_marks.specs.View.{marks_of}
use Rattle.sci_ranges_find.specs.Live.{AreSound, IsMissing}
use Rattle.sci_ranges_find.proofs.Living.{added_sound}
use Rattle.sci_ranges_find.proofs.live.mark_missing.Goals as goal

pub marks_place-requires : goal.marks_place-requires
marks_place-requires c = omega (arith, c.if-place-source_count.false, c.source_count.ensures)

pub add_live-requires : goal.add_live-requires
add_live-requires c = omega (arith, c.if-place-source_count.false, c.source_count.ensures, c.requires.sound.enough)

pub returns-clause-sound : goal.returns-clause-sound
returns-clause-sound c =
    let missing : IsMissing c.args.net.now (marks_of c.args.marks.now) c.args.place = record {
      within = omega (arith, c.if-place-source_count.false, c.source_count.ensures);
      missing = sym c.marks_place.ensures ∙ c.if-marks_place.false;
    } in
    subst (λ (m : Marks). AreSound c.args.net.now m) (sym c.add_live.ensures)
    (added_sound c.args.net.now (marks_of c.args.marks.now) c.args.place c.well_formed-2.ensures c.requires.free missing c.requires.sound)

pub returns-clause-dead : goal.returns-clause-dead
returns-clause-dead c = ap (λ (m : Marks). m.dead) c.add_live.ensures
