-- The observations of a reaction: its header, and behind it what is observed of its values.
use Rattle.std.proofs.Common.{◌≡◌, ℕ, List, [], ◌∷◌, All, Ok, Err, refl, sym, ap, subst, ◌∙◌}
use Rattle.std.specs.Prelude.{Result, OnOk}
use Rattle.sci_base.specs.declared.observation.Obs.{Obs}
use Rattle.sci_io.specs.Taken.{SinkState, Writes}
use Rattle.sci_io.proofs.Advance.{then_writes}
use Rattle.sci_trace.specs.Lines.{line, text}
use Rattle.sci_net.specs.declared.Source.{Source}
use Rattle.sci_reaction.specs.Equations.{Signals}
use Rattle.sci_run.specs.Activity.{Activity}
use Rattle.sci_run.specs.Observed.{blocks_seen}
use Rattle.sci_store.specs.Tally.{lines_after}
use Rattle.sci_store.specs.Frame.{Fixed, IsFrame}
use Rattle.sci_store.specs.Store.{Standing, IsStore, ShowsValues}
use Rattle.sci_store.specs.Written.{AreAmong, tallied, tallied_values}
use Rattle.sci_lines.specs.Lines.{IsHeader}
use Rattle.sci_lines.specs.Paged.{paged}
use Rattle.sci_store.specs.Rows.{ReadyRow, IsReadyRow, KeepsBegun, IsShowOf, shown_values}
use Rattle.sci_lines.proofs.Paging.{from_none, waits}
use Rattle.sci_store.proofs.Writing.{row_is_seen}
use Rattle.sci_store.proofs.Covering.{row_blocks, row_shows, row_pieces}
use Rattle.sci_store.proofs.ShownPieces.{pieces_seen}
use Rattle.sci_store.proofs.ShownLines.{shown_tallied, header_counted}
use Rattle.sci_store.proofs.StateRuns.{begun_behind}

-- ---- what is written

-- the line of the header waits, and the others are written behind it
pub header_first : {T E : Type 0} (s mid new : SinkState) (waiting : List ℕ) (o : Obs) (os : List Obs) (r : Result T E) → mid ≡ s → waiting ≡ line o
    → Writes (paged mid waiting) new (text os) r → Writes s new (text (o ∷ os)) r
header_first s mid new waiting o os r same is h =
    then_writes {T = Unit {0}} {E = Unit {0}} (line o) (text os) (Ok tt) r tt refl (from_none s (paged s (line o)) (line o) (Ok tt) (waits s [] (line o) tt))
    (subst (λ (u : SinkState). Writes (paged u (line o)) new (text os) r) same (subst (λ (l : List ℕ). Writes (paged mid l) new (text os) r) is h))

-- ---- what is counted

pub where_ok : {T E A B : Type 0} (r : Result T E) → (A → B) → OnOk r A → OnOk r B
where_ok (Ok x) f h = f h
where_ok (Err e) f h = tt

-- ---- a store that has counted the header

module _ (f : Fixed) (s t : Standing) (lines : ℕ) (same : t ≡ record s { lines = lines }) where
  abbrev values_same : t.values ≡ s.values
  values_same = ap (λ (u : Standing). u.values) same

  abbrev marks_same : t.marks ≡ s.marks
  marks_same = ap (λ (u : Standing). u.marks) same

  pub store_counted : IsStore f s → IsStore f t
  store_counted h = subst (IsStore f) (sym same) (record { values = h.values; cursors = h.cursors; marks = h.marks; room = h.room; chosen = h.chosen })

  pub begun_counted : (r : ReadyRow) → KeepsBegun f r s → KeepsBegun f r t
  begun_counted r h = begun_behind f r s t (ap (λ (u : Standing). u.marks) same) h

  pub values_counted : (source : Source) (y : Signals) (active : Activity) → ShowsValues f source s y active → ShowsValues f source t y active
  values_counted source y active h = subst (λ (u : Standing). ShowsValues f source u y active) (sym same) (record { values = h.values; active_are = h.active_are; masks = h.masks })

  pub shows_counted : (r : ReadyRow) → All (IsShowOf s) r.shows → All (IsShowOf t) r.shows
  shows_counted r h =
      subst (λ (u : Standing). All (IsShowOf u) r.shows) (sym same) (λ k d l. let is = h k d l in record { order = is.order; within = is.within; asked = is.asked })

  pub only_counted : t ≡ record s { lines = t.lines; sum = t.sum }
  only_counted = ap (λ (u : Standing). record u { lines = t.lines; sum = t.sum }) same

-- all is observed, where nobody reads it
pub unseen_counted : (f : Fixed) (s t u : Standing) (r : ReadyRow) (o : Obs) → IsFrame f → IsStore f s → IsReadyRow f r → KeepsBegun f r s → IsHeader o
    → t ≡ record s { lines = lines_after s.lines 1 } → u ≡ tallied_values t (shown_values t r.shows)
    → (source : Source) (y : Signals) (active : Activity) → ShowsValues f source s y active → AreAmong f.net active r.blocks → u ≡ tallied s (o ∷ blocks_seen 1 f.net.specs y active)
unseen_counted f s t u r o frame store ready begun header same counted source y active shown among =
    let seen = row_pieces f s r frame store ready begun ∙ row_is_seen f source s y active r.blocks (row_blocks f r ready) shown among in
    counted
    ∙ (shown_tallied f t (store_counted f s t (lines_after s.lines 1) same store).values r.shows t
    (shows_counted f s t (lines_after s.lines 1) same r (row_shows f s r frame store ready begun))
    ∙ (ap (λ (v : Standing). tallied t (pieces_seen f v r.shows)) same
    ∙ (ap (tallied t) seen ∙ header_counted o s t (blocks_seen 1 f.net.specs y active) header same)))
