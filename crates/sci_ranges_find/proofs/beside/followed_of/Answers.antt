use Rattle.std.proofs.Common.{ℕ, List, Option, Some, refl, sym, ap, subst, ◌∙◌}
use Rattle.std.specs.Prelude.{IfSome}
use Rattle.sci_net.specs.Parts.{IsBlock}
use Rattle.sci_ranges_marks.specs.View.{marks_of}
use Rattle.sci_ranges_sums.specs.declared.parts.Followed.{Followed}
use Rattle.sci_ranges_find.specs.declared.reads.Reading.{Reading}
use Rattle.sci_ranges_find.specs.View.{ranges_of}
use Rattle.sci_ranges_find.specs.Readings.{entered_by}
use Rattle.sci_ranges_find.specs.Beside.{Follows}
use Rattle.sci_ranges_find.proofs.Readings.{entered_read}
use Rattle.sci_ranges_find.proofs.beside.followed_of.Goals as goal

pub returns-in_ok-ins-in-Some : goal.returns-in_ok-ins-in-Some
returns-in_ok-ins-in-Some c =
    let n = c.args.net.now in
    let i = c.args.inputs.now in
    let m = marks_of c.args.marks.now in
    let r = ranges_of c.args.table.now in
    let b : ℕ = c.in-Some.block in
    let f : Followed = record { block = b; ins = c.in_ok-ins-in-Some.ins } in
    subst (λ (o : Option ℕ). Follows n i m r o (Some f)) (sym c.in-Some.is) (
      subst (λ (o : Option ℕ). IfSome o (λ k. IsBlock n k)) c.in-Some.is c.requires.block,
      refl,
      c.in_ok-ins-in-Some.ensures
          ∙ (ap (λ (qs : List Reading). entered_by n i r qs b) c.deref.ensures.value ∙ entered_read n i m r c.in_ok-readings-in-Some.readings.items b c.in_ok-readings-in-Some.ensures),
    )
