use Rattle.std.proofs.Common.{◌≡◌, ◌<◌, true, All, List, length, map, sym, ◌∙◌, subst, arith}
use Rattle.std.proofs.lemmas.List.{length-map}
use Rattle.sci_net.specs.declared.Source.TheVariants.{Start}
use Rattle.sci_net.specs.Parts.{IsBlock, rows_of}
use Rattle.sci_reaction.specs.declared.entry.Entry.{Entry}
use Rattle.sci_ranges_reads.specs.Live.{IsQuiet}
use Rattle.sci_ranges_rows.specs.Marks.{dead_of, acts_in}
use Rattle.sci_ranges_marks.specs.View.{row_of, IsFirstPlace}
use Rattle.sci_ranges_marks.proofs.Marked.{marks_along, quiet_marked, quiet_place, row_at_place, row_blocks}
use Rattle.sci_ranges_marks.proofs.marks.RowMarks.mark.Goals as goal

pub returns-clause-marked : goal.returns-clause-marked
returns-clause-marked c =
    let n = c.args.net.now in
    let self = c.args.self.now in
    let dead = dead_of (rows_of self.dead.items) in
    let marks : rows_of c.in_ok-acts.acts.items ≡ map (acts_in dead (length n.specs)) (map row_of self.rows.items) =
    marks_along n c.deref.result.now self.dead.items c.deref-2.result.now self.rows.items c.in_ok-acts.acts.items c.deref.ensures.value c.deref-2.ensures.value c.in_ok-acts.ensures in
    let quiet : c.programs_none-quiet.result ≡ true → IsQuiet n dead =
    λ on. quiet_marked n dead self.rows.items c.in_ok-acts.acts.items c.index.result.now c.index-2.result.now c.entries.result.now c.deref-3.result.now c.well_formed-2.ensures
    c.requires.free c.requires.rows marks c.index.ensures c.index-2.ensures c.entries.ensures c.deref-3.ensures.value (c.programs_none-quiet.ensures on) in
    let q = quiet_place n dead c.programs_none-quiet.result c.args.first quiet c.requires.first in
    record {
      acts = record { rows = c.requires.rows; marks = marks };
      quiet = λ f e. q.0 f (sym c.first_if-self.ensures ∙ e);
      first = subst (IsFirstPlace n) (sym c.first_if-self.ensures) q.1;
    }

pub programs_none-quiet-requires : goal.programs_none-quiet-requires
programs_none-quiet-requires c =
    let n = c.args.net.now in
    let self = c.args.self.now in
    let some : 0 < length self.rows.items =
    let len = length-map self.rows.items row_of in let all = c.requires.rows.enough in omega (arith, len, all) in
    let row = row_at_place n self.rows.items 0 c.index.result.now c.requires.rows some c.index.ensures in
    subst (λ (es : List Entry). All (λ (e : Entry). IsBlock n e.block) es) (sym c.entries.ensures) (row_blocks n Start c.index.result.now.entries.items row)
