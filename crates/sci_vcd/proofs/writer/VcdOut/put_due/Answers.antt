use Rattle.std.proofs.Common.{ℕ, ℤ, List, sym, ap, ap₂, ◌∙◌}
use Rattle.std.specs.Prelude.{Option}
use Rattle.sci_io.proofs.Advance.{same_text}
use Rattle.sci_text.specs.Lines.{joined}
use Rattle.sci_vcd.specs.Spelling.{head_part, change_lines}
use Rattle.sci_vcd.specs.Writing.{Writing, lines_behind, tick_text, changes_at}
use Rattle.sci_vcd.proofs.Eachs.{signals_few}
use Rattle.sci_vcd.proofs.writer.VcdOut.put_due.Goals as goal

pub put_head-requires-clause-few : goal.put_head-requires-clause-few
put_head-requires-clause-few g c = signals_few c.self.inside.signals c.self.invariant.writing.signals

pub put_changes-requires-clause-few : goal.put_changes-requires-clause-few
put_changes-requires-clause-few g c = signals_few c.self.inside.signals c.self.invariant.writing.signals

pub returns-in-None : goal.returns-in-None
returns-in-None g c =
    let o : Writing = record { signals = c.self.inside.signals; starts = c.self.inside.starts.items; written = c.self.inside.written.items; noted = c.self.inside.noted.items; closed = c.self.inside.closed } in
    same_text (ap (λ (vs : List ℤ). joined (head_part o.signals vs)) c.deref.ensures.value
    ∙ ap (λ (cl : Option ℕ). joined (lines_behind cl o c.args.date)) (sym c.in-None.is) ∙ ap (λ (x : Writing). tick_text x c.args.date) c.self.view_is) c.put_head.ensures

pub returns-in-Some : goal.returns-in-Some
returns-in-Some g c =
    let o : Writing = record { signals = c.self.inside.signals; starts = c.self.inside.starts.items; written = c.self.inside.written.items; noted = c.self.inside.noted.items; closed = c.self.inside.closed } in
    let t = c.in-Some.told in
    same_text (ap₂ (λ (vs ws : List ℤ). joined (change_lines o.signals t (changes_at c.args.date 1 vs ws))) c.deref-in-Some.ensures.value c.deref-in-Some-2.ensures.value
    ∙ ap (λ (cl : Option ℕ). joined (lines_behind cl o c.args.date)) (sym c.in-Some.is) ∙ ap (λ (x : Writing). tick_text x c.args.date) c.self.view_is) c.put_changes.ensures
