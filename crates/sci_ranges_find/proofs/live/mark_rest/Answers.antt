use Rattle.std.proofs.Common.{◌≡◌, ◌<◌, length, sym, ap, subst, ◌∙◌, arith}
use Rattle.sci_net.specs.Sources.{sources_of}
use Rattle.sci_ranges_rows.specs.Marks.{Marks}
use Rattle.sci_ranges_marks.specs.View.{marks_of}
use Rattle.sci_ranges_find.specs.Live.{AreSound, IsMissing}
use Rattle.sci_ranges_find.proofs.Living.{missing_unmarked, added_sound, off_count, fewer_off}
use Rattle.sci_ranges_find.proofs.live.mark_rest.Goals as goal

pub first_missing-requires : goal.first_missing-requires
first_missing-requires c = c.loop-place.invariant.sound.marked.acts.rows.enough

pub add_live-requires : goal.add_live-requires
add_live-requires c =
    let missing : IsMissing c.args.net.now (marks_of c.loop-place.marks) c.in-Some.place = c.in-Some.ensures in
    let enough = c.loop-place.invariant.sound.enough in
    omega (arith, missing.within, enough)

pub loop-place-preserved : goal.loop-place-preserved
loop-place-preserved c =
    let n = c.args.net.now in
    record {
      sound = subst (λ (m : Marks). AreSound n m) (sym c.add_live.ensures)
          (added_sound n (marks_of c.loop-place.marks) c.in-Some.place c.well_formed-2.ensures c.requires.free c.in-Some.ensures c.loop-place.invariant.sound);
      dead = ap (λ (m : Marks). m.dead) c.add_live.ensures ∙ c.loop-place.invariant.dead;
    }

pub loop-place-smaller : goal.loop-place-smaller
loop-place-smaller c =
    let n = c.args.net.now in
    let m = marks_of c.loop-place.marks in
    let missing : IsMissing n m c.in-Some.place = c.in-Some.ensures in
    let enough : length m.live ≡ length (sources_of n) = c.loop-place.invariant.sound.enough in
    subst (λ (k : Marks). off_count k.live < off_count m.live) (sym c.add_live.ensures)
    (fewer_off m.live c.in-Some.place (omega (arith, missing.within, enough)) (missing_unmarked n m c.in-Some.place missing))

pub returns-clause-all : goal.returns-clause-all
returns-clause-all c = c.in_default.ensures
