use Rattle.std.proofs.Common.{◌≡◌, ℕ, ◌+◌, ◌≤◌, ◌<◌, ℤ, pos, Bool, List, ◌++◌, take, drop, length, ap, subst, sym, ◌∙◌, true, false, arith}
use Rattle.std.specs.Prelude.{slice_index_or}
use Rattle.sci_base.specs.Fit.{in_range}
use Rattle.sci_vcd.specs.Waveforms.{type_of}
use Rattle.sci_vcd.specs.Writing.{Writing, IsKept}
use Rattle.sci_vcd.proofs.Eachs.{signals_few}
use Rattle.sci_vcd.proofs.Kept.{kept_notes, written_back}
use Rattle.sci_vcd.proofs.writer.VcdOut.note_values.Goals as goal

pub mark_pages-requires-clause-small : goal.mark_pages-requires-clause-small
mark_pages-requires-clause-small c =
    let few = signals_few c.self.inside.signals c.self.invariant.writing.signals in
    let written = c.self.invariant.writing.written in
    let pages = c.self.invariant.marks.pages in
    let same = ap (λ (ms : List Bool). length ms) c.deref_mut-2.ensures.value in
    omega (arith, few, written, pages, same)

pub invariant_of-self : goal.invariant_of-self
invariant_of-self c =
    let view = c.self.view_is in
    let vs = c.args.values.now in
    let k = c.args.before in
    let was = c.self.inside.noted.items in
    let noted_value = c.deref_mut.ensures.value in
    let marked_value = c.deref_mut-2.ensures.value in
    let noted_long : length c.note_from.new.noted ≡ length was = c.note_from.auto.noted ∙ ap (λ (xs : List ℤ). length xs) noted_value in
    let marked_long : length c.mark_pages.new.marked ≡ length c.self.inside.marked.items = c.mark_pages.ensures.len ∙ ap (λ (ms : List Bool). length ms) marked_value in
    let off : (p : ℕ) → slice_index_or c.mark_pages.new.marked p false ≡ false → slice_index_or c.self.inside.marked.items p false ≡ false =
    λ p e. ap (λ (ms : List Bool). slice_index_or ms p false) (sym marked_value) ∙ c.mark_pages.ensures.kept p e in
    let o : List ℤ → Writing = λ ns. record { signals = c.self.inside.signals; starts = c.self.inside.starts.items; written = c.self.inside.written.items; noted = ns; closed = c.self.inside.closed } in
    let noted_is = written_back was c.note_from.new.noted c.self.inside.noted.len c.self.inside.noted.ok.0 noted_long ∙ c.note_from.ensures
    ∙ ap (λ (xs : List ℤ). take k xs ++ (vs ++ drop (k + length vs) xs)) noted_value in
    let marked_is = written_back c.self.inside.marked.items c.mark_pages.new.marked c.self.inside.marked.len c.self.inside.marked.ok.0 marked_long in
    let marks = c.mark_pages.new.marked ++ drop (length c.mark_pages.new.marked) c.self.inside.marked.items in
    subst (λ (ns : List ℤ). IsKept (o ns) (take c.self.inside.marked.len marks)) (sym noted_is)
    (subst (λ (ms : List Bool). IsKept (o (take k was ++ (vs ++ drop (k + length vs) was))) ms) (sym marked_is)
    (kept_notes (o was) c.self.inside.marked.items c.mark_pages.new.marked k vs c.self.invariant
    (subst (λ (w : Writing). k + length vs ≤ length w.signals) (sym view) c.requires.within)
    (subst (λ (w : Writing). (j : ℕ) → j < length vs → in_range (type_of w.signals (k + j + 1)) (slice_index_or vs j (pos 0)) ≡ true) (sym view) c.requires.fits)
    c.mark_pages.ensures.marked off marked_long))
