use Rattle.std.proofs.Common.{◌≡◌, length, replicate, ap, ◌∙◌, rules}
use Rattle.std.proofs.lemmas.List.{length-replicate}
use Rattle.sci_net.specs.Parts.{numbered}
use Rattle.sci_program.specs.declared.part.Part.TheVariants.{Absent}
use Rattle.sci_cgen_sources.proofs.PartLemmas.{none_noted}
use Rattle.sci_cgen_sources.proofs.parts.row_taking.Goals as goal

pub note_row-requires-clause-long : goal.note_row-requires-clause-long
note_row-requires-clause-long c =
    let filled : c.in_ok-parts.parts.items ≡ replicate c.len.result Absent = c.in_ok-parts.ensures.items_if_clones_equal (search rules) in
    ap length filled ∙ length-replicate c.len.result Absent ∙ c.len.ensures

pub note_row-requires-clause-absent : goal.note_row-requires-clause-absent
note_row-requires-clause-absent c = λ b.
    let filled : c.in_ok-parts.parts.items ≡ replicate c.len.result Absent = c.in_ok-parts.ensures.items_if_clones_equal (search rules) in
    ap (λ ps. numbered Absent ps b) filled ∙ none_noted c.len.result b

pub returns : goal.returns
returns c = λ k b. c.note_row.ensures b k
