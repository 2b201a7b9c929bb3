-- The size of the schedule of a net, from its outlines.
use Rattle.std.proofs.Common.{◌≡◌, ℕ, ◌^◌, ◌<◌, ◌≤◌, List, [], length, get_or, sym, ap, subst, refl, ◌∙◌, arith}
use Rattle.std.specs.List.{sum_by}
use Rattle.std.proofs.lemmas.List.{get_or_default}
use Rattle.std.proofs.lemmas.List.Sums.{sum_by-le-sum_by}
use Rattle.sci_net.specs.Parts.{Parts}
use Rattle.sci_net.specs.Net.{IsNet}
use Rattle.sci_net.specs.Sources.{sources_of, source_of}
use Rattle.sci_reaction.specs.Schedule.{Entry, IsRow, IsSchedule}
use Rattle.sci_reaction.proofs.Schedules.{some_schedule, one_schedule}
use Rattle.sci_sched.specs.declared.measured.Size.{Size}
use Rattle.sci_sched.specs.declared.outline.Outline.{Outline}
use Rattle.sci_sched.specs.Size.{entry_count, guards_in, guard_count}
use Rattle.sci_sched.specs.Outlines.{AreOutlines, outline_size}
use Rattle.sci_sched.specs.Measured.{IsMeasured, outline_entries, outline_guards}
use Rattle.sci_sched.specs.Laws.{OneSize}
use Rattle.sci_sched.proofs.Sized.{sum_by-places, row_long}
use Rattle.sci_sched.proofs.Planned.{outlines_free, planned}

-- ---- either count fits where both do

pub entries_fit : (os : List Outline) → sum_by outline_size os < 2 ^ 63 → sum_by outline_entries os < 2 ^ 63
entries_fit os small = let part = sum_by-le-sum_by outline_entries outline_size os (λ o. omega arith) in omega (arith, part, small)

pub guards_fit : (os : List Outline) → sum_by outline_size os < 2 ^ 63 → sum_by outline_guards os < 2 ^ 63
guards_fit os small = let part = sum_by-le-sum_by outline_guards outline_size os (λ o. omega arith) in omega (arith, part, small)

-- ---- of a net

module _ (n : Parts) (net : IsNet n) (os : List Outline) (are : AreOutlines n (length (sources_of n)) os) where
  module _ (rows : List (List Entry)) (ok : IsSchedule n rows) where
    long : length rows ≡ length os
    long = ok.enough ∙ sym are.long

    row_at : (i : ℕ) (d : List Entry) → i < length rows → IsRow n (source_of n i) (get_or rows i d)
    row_at i d h = subst (IsRow n (source_of n i)) (get_or_default rows i [] d h) (ok.each i h)

    inside : (i : ℕ) → i < length rows → i < length (sources_of n)
    inside i h = omega (arith, ok.enough, h)

    entries_measured : entry_count rows ≡ sum_by outline_entries os
    entries_measured =
        sum_by-places (λ (row : List Entry). length row) outline_entries rows os long
        (λ i d e h. let o = are.each i e (inside i h) in row_long n net (source_of n i) (get_or os i e).blocks.items o.blocks (get_or rows i d) (row_at i d h))

    guards_measured : guard_count rows ≡ sum_by outline_guards os
    guards_measured =
        sum_by-places guards_in outline_guards rows os long
        (λ i d e h. let o = are.each i e (inside i h) in o.guards (get_or rows i d) (row_at i d h))

  pub measured : (s : Size) → sum_by outline_size os ≤ 262144 → s.entries ≡ sum_by outline_entries os → s.guards ≡ sum_by outline_guards os → IsMeasured n s
  measured s short entries guards =
      let some = some_schedule n net.wired (outlines_free n (length (sources_of n)) os are) in
      record {
        rows = some.0;
        planned = planned n net os are (sum_by outline_size os) some.0 refl short some.1;
        entries = entries_measured some.0 some.1 ∙ sym entries;
        guards = guards_measured some.0 some.1 ∙ sym guards;
      }

pub one_size : OneSize
one_size n s rows net is plan =
    let same : rows ≡ is.rows = one_schedule n net.wired plan.free rows is.rows plan.schedule is.planned.schedule in
    (ap entry_count same ∙ is.entries, ap guard_count same ∙ is.guards)
