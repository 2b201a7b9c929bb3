use Rattle.std.proofs.Common.{◌≡◌, ℤ, ap, ◌∙◌, w64, to_z, of_z, arith}
use Rattle.std.proofs.lemmas.Int.{to_z-of_z}
use Rattle.sci_trace.specs.Lines.{line}
use Rattle.sci_base.specs.declared.observation.Obs.TheVariants.{Event}
use Rattle.sci_lines.proofs.Paging.{event_is}
use Rattle.sci_lines.proofs.lines.event_line.Goals as goal

pub returns-clause-text : goal.returns-clause-text
returns-clause-text c =
    let date : to_z w64 (of_z w64 c.args.date) ≡ c.args.date = grind (arith, to_z-of_z) in
    let block : to_z w64 (of_z w64 c.args.block) ≡ c.args.block = grind (arith, to_z-of_z) in
    let port : to_z w64 (of_z w64 c.args.port) ≡ c.args.port = grind (arith, to_z-of_z) in
    event_is _ _ _ _ _ _ _ _ c.event_word-at.ensures.text c.spaced_at-at.ensures.text c.spaced_at-at-2.ensures.text
    c.spaced_at-at-3.ensures.text c.byte_at.ensures.text
    ∙ (ap (λ (z : ℤ). line (Event z (to_z w64 (of_z w64 c.args.block)) (to_z w64 (of_z w64 c.args.port)))) date
    ∙ (ap (λ (z : ℤ). line (Event c.args.date z (to_z w64 (of_z w64 c.args.port)))) block ∙ ap (λ (z : ℤ). line (Event c.args.date c.args.block z)) port))
