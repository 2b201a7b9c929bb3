use Rattle.std.proofs.Common.{◌≡◌, ℕ, ◌+◌, ◌<◌, ◌≤◌, true, false, Option, None, IfSome, List, [], ◌++◌, drop, get_or, length, ap, sym, ◌∙◌, arith, rules, subst}
use Rattle.std.proofs.lemmas.List.{drop_all}
use Rattle.sci_base.specs.declared.observation.Obs.{Obs}
use Rattle.sci_trace.specs.Lines.{text}
use Rattle.sci_io.specs.Taken.{Writes}
use Rattle.sci_store.specs.declared.row.Show.{Show}
use Rattle.sci_store.specs.Store.{Standing}
use Rattle.sci_store.specs.Rows.{ReadyRow, between, is_shown, IsShowOf}
use Rattle.sci_store.specs.Runs.{lines_of}
use Rattle.sci_store.specs.Written.{tallied, tallied_values}
use Rattle.sci_lines.specs.Paged.{paged}
use Rattle.sci_store.proofs.Writing.{IsLeft, left_begin, left_as, left_more, cut_in_more, left_same, same_then, all_counted, row_is_seen}
use Rattle.sci_lines.proofs.Paging.{none_kept, none_left_behind, last_given, on_ok}
use Rattle.sci_store.proofs.ShownPieces.{piece_seen, pieces_seen}
use Rattle.sci_store.proofs.ShownLines.{show_lines, show_tallied, piece_on, piece_off, pieces_next}
use Rattle.sci_store.proofs.Covering.{row_blocks, row_shows, row_pieces}
use Rattle.sci_store.proofs.store.Store.write_values.Given.{Over}
use Rattle.sci_store.proofs.store.Store.write_values.Goals as goal
use Rattle.sci_store.proofs.store.Store.write_values.Goals.{At-loop-show, After-is_shown, then-is_shown+in_ok-write_show, else-is_shown}

asked_same : (o : Option ℕ) (m n : ℕ) → IfSome o (λ b. (1 ≤ b) × (b ≤ n)) → m ≡ n → IfSome o (λ b. (1 ≤ b) × (b ≤ m))
asked_same o m n h e = subst (λ (k : ℕ). IfSome o (λ b. (1 ≤ b) × (b ≤ k))) (sym e) h

abbrev no_show : Show
no_show = record { start = 0; end = 0; asked = None }

-- the pieces that are gone through
shows_are : (g : Over) (c : At-loop-show g) → c.deref-show-items.result.now ≡ c.args.row.now.shows
shows_are g c = c.deref-show-items.ensures.value ∙ ap (λ (r : ReadyRow). r.shows) c.row.view_is

module _ (g : Over) (c : After-is_shown g) where
  abbrev piece : Show
  piece = get_or c.deref-show-items.result.now c.loop-show.show-index no_show

  items : c.deref-show-items.result.now ≡ c.args.row.now.shows
  items = c.deref-show-items.ensures.value ∙ ap (λ (r : ReadyRow). r.shows) c.row.view_is

  there : c.loop-show.show-index < length c.args.row.now.shows
  there = subst (λ (ws : List Show). c.loop-show.show-index < length ws) items c.loop-show-test.true

  same_piece : get_or c.deref-show-items.result.now c.loop-show.show-index no_show ≡ get_or c.args.row.now.shows c.loop-show.show-index no_show
  same_piece = ap (λ (ws : List Show). get_or ws c.loop-show.show-index no_show) items

  piece_is : IsShowOf c.args.self.now piece
  piece_is = subst (IsShowOf c.args.self.now) (sym same_piece)
      (row_shows c.args.frame.now c.args.self.now c.args.row.now c.well_formed-2.ensures c.requires.store c.requires.row c.requires.begun c.loop-show.show-index no_show there)

  piece_now : IsShowOf c.loop-show.self piece
  piece_now =
      let values = ap (λ (t : Standing). length t.values) c.loop-show.invariant.counted in
      let marks = ap (λ (t : Standing). length t.marks) c.loop-show.invariant.counted in
      record { order = piece_is.order; within = omega (arith, piece_is.within, values); asked = asked_same piece.asked (length c.loop-show.self.marks) (length c.args.self.now.marks) piece_is.asked marks }

  marked : c.is_shown.result ≡ is_shown c.args.self.now.marks piece
  marked = c.is_shown.ensures ∙ ap (λ (s : Standing). is_shown s.marks piece) c.loop-show.invariant.counted

  values_same : between c.loop-show.self.values piece.start piece.end ≡ between c.args.self.now.values piece.start piece.end
  values_same = ap (λ (s : Standing). between s.values piece.start piece.end) c.loop-show.invariant.counted

  next_due : IsLeft (paged (g.S.Sink.state c.args.out.now) c.args.lines.now) (paged (g.S.Sink.state c.loop-show.out) c.loop-show.lines) c.args.self.now c.loop-show.self
      (pieces_seen c.args.frame.now c.args.self.now c.args.row.now.shows)
      (piece_seen c.args.frame.now c.args.self.now piece ++ pieces_seen c.args.frame.now c.args.self.now (drop (c.loop-show.show-index + 1) c.args.row.now.shows))
  next_due = left_as _
      (pieces_next c.args.frame.now c.args.self.now c.args.row.now.shows c.loop-show.show-index no_show there
      ∙ ap (λ (w : Show). piece_seen c.args.frame.now c.args.self.now w ++ pieces_seen c.args.frame.now c.args.self.now (drop (c.loop-show.show-index + 1) c.args.row.now.shows)) (sym same_piece))
      c.loop-show.invariant

  lines_on : c.is_shown.result ≡ true → lines_of c.args.frame.now c.loop-show.self piece ≡ text (piece_seen c.args.frame.now c.args.self.now piece)
  lines_on on =
      ap (λ (s : Standing). lines_of c.args.frame.now s piece) c.loop-show.invariant.counted
      ∙ (show_lines c.args.frame.now c.args.self.now piece c.well_formed-2.ensures ∙ ap text (piece_on c.args.frame.now c.args.self.now piece (sym marked ∙ on)))

  counted_on : c.is_shown.result ≡ true → (u : Standing) → u ≡ tallied_values c.loop-show.self (between c.loop-show.self.values piece.start piece.end)
      → u ≡ tallied c.loop-show.self (piece_seen c.args.frame.now c.args.self.now piece)
  counted_on on u e =
      e ∙ (ap (tallied_values c.loop-show.self) values_same
      ∙ (show_tallied c.args.frame.now c.args.self.now c.loop-show.self piece c.requires.store.values piece_is
      ∙ ap (tallied c.loop-show.self) (piece_on c.args.frame.now c.args.self.now piece (sym marked ∙ on))))

  none_off : c.is_shown.result ≡ false → piece_seen c.args.frame.now c.args.self.now piece ≡ []
  none_off off = piece_off c.args.frame.now c.args.self.now piece (sym marked ∙ off)

pub loop-show-init : goal.loop-show-init
loop-show-init g c =
    left_begin (paged (g.S.Sink.state c.args.out.now) c.args.lines.now) c.args.self.now (pieces_seen c.args.frame.now c.args.self.now c.args.row.now.shows)

pub is_shown-requires : goal.is_shown-requires
is_shown-requires g c =
    let s = c.args.self.now in
    let shows = shows_are g (goal.at.is_shown-requires g c).At-loop-show in
    let is = row_shows c.args.frame.now c.args.self.now c.args.row.now c.well_formed-2.ensures c.requires.store c.requires.row c.requires.begun c.loop-show.show-index no_show
    (subst (λ (ws : List Show). c.loop-show.show-index < length ws) shows c.loop-show-test.true) in
    let here = subst (IsShowOf c.args.self.now) (sym (ap (λ (ws : List Show). get_or ws c.loop-show.show-index no_show) shows)) is in
    let values = ap (λ (t : Standing). length t.values) c.loop-show.invariant.counted in
    let marks = ap (λ (t : Standing). length t.marks) c.loop-show.invariant.counted in
    record { order = here.order; within = omega (arith, here.within, values); asked = asked_same (get_or c.deref-show-items.result.now c.loop-show.show-index no_show).asked (length c.loop-show.self.marks) (length c.args.self.now.marks) here.asked marks }

pub write_show-requires-clause-show : goal.write_show-requires-clause-show
write_show-requires-clause-show g c = piece_now g (goal.at.write_show-requires-clause-show g c).After-is_shown

pub loop-show-preserved : goal.loop-show-preserved
loop-show-preserved g c =
    let at = (goal.at.loop-show-preserved g c).After-is_shown in
    let f = c.args.frame.now in
    let s = c.args.self.now in
    let before = paged (g.S.Sink.state c.args.out.now) c.args.lines.now in
    let whole = pieces_seen c.args.frame.now c.args.self.now c.args.row.now.shows in
    let rest = pieces_seen c.args.frame.now c.args.self.now (drop (c.loop-show.show-index + 1) c.args.row.now.shows) in
    elim c.if-is_shown.branch [
      | then-is_shown+in_ok-write_show w ↦ subst (λ (out : g.row.S.Denot). IsLeft before (paged (g.S.Sink.state out) c.if-is_shown.lines) s c.if-is_shown.self whole rest) (sym w.out-is)
          (subst (λ (waiting : List ℕ). IsLeft before (paged (g.S.Sink.state w.write_show.new.out) waiting) s c.if-is_shown.self whole rest) (sym w.lines-is)
          (subst (λ (t : Standing). IsLeft before (paged (g.S.Sink.state w.write_show.new.out) w.write_show.new.lines) s t whole rest) (sym w.self-is)
          (left_more _ _ w.write_show.result w.in_ok-write_show.field-0 w.in_ok-write_show.was (next_due g at)
          (subst (λ (bytes : List ℕ). Writes (paged (g.S.Sink.state c.loop-show.out) c.loop-show.lines) (paged (g.S.Sink.state w.write_show.new.out) w.write_show.new.lines) bytes w.write_show.result)
          (lines_on g at w.if-is_shown.true) w.write_show.ensures.written)
          (counted_on g at w.if-is_shown.true w.write_show.new.self w.in_ok-write_show.ensures.counted))))
      | else-is_shown w ↦ subst (λ (out : g.row.S.Denot). IsLeft before (paged (g.S.Sink.state out) c.if-is_shown.lines) s c.if-is_shown.self whole rest) (sym w.out-is)
          (subst (λ (waiting : List ℕ). IsLeft before (paged (g.S.Sink.state c.loop-show.out) waiting) s c.if-is_shown.self whole rest) (sym w.lines-is)
          (subst (λ (t : Standing). IsLeft before (paged (g.S.Sink.state c.loop-show.out) c.loop-show.lines) s t whole rest) (sym w.self-is)
          (left_as _ (ap (λ (l : List Obs). l ++ rest) (none_off g at w.if-is_shown.false)) (next_due g at))))
    ]

pub returns-clause-written : goal.returns-clause-written
returns-clause-written g c source y active shown among =
    let whole = row_pieces c.args.frame.now c.args.self.now c.args.row.now c.well_formed-2.ensures c.requires.store c.requires.row c.requires.begun
    ∙ row_is_seen c.args.frame.now source c.args.self.now y active c.args.row.now.blocks (row_blocks c.args.frame.now c.args.row.now c.requires.row) shown among in
    let shows = shows_are g (goal.at.returns-clause-written g c).At-loop-show in
    let long = ap (λ (ws : List Show). length ws) shows in
    let none = ap (pieces_seen c.args.frame.now c.args.self.now) (drop_all c.loop-show.show-index c.args.row.now.shows (omega (arith, long, c.loop-show-test.false))) in
    let left = left_as [] none c.loop-show.invariant in
    let before = paged (g.S.Sink.state c.args.out.now) c.args.lines.now in
    let after = g.S.Sink.state c.give.new.out in
    subst (λ (os : List Obs). Writes before after (text os) c.give.result) whole
    (none_left_behind after c.give.new.self (text (pieces_seen c.args.frame.now c.args.self.now c.args.row.now.shows)) c.give.result c.give.ensures.empty
    (last_given c.give.result left.written c.give.ensures.given))

pub returns-clause-counted : goal.returns-clause-counted
returns-clause-counted g c = on_ok c.give.result (λ source y active shown among.
    let whole = row_pieces c.args.frame.now c.args.self.now c.args.row.now c.well_formed-2.ensures c.requires.store c.requires.row c.requires.begun
    ∙ row_is_seen c.args.frame.now source c.args.self.now y active c.args.row.now.blocks (row_blocks c.args.frame.now c.args.row.now c.requires.row) shown among in
    let shows = shows_are g (goal.at.returns-clause-counted g c).At-loop-show in
    let long = ap (λ (ws : List Show). length ws) shows in
    let none = ap (pieces_seen c.args.frame.now c.args.self.now) (drop_all c.loop-show.show-index c.args.row.now.shows (omega (arith, long, c.loop-show-test.false))) in
    subst (λ (os : List Obs). c.loop-show.self ≡ tallied c.args.self.now os) whole (all_counted (left_as [] none c.loop-show.invariant)))

pub returns-in_err-write_show-clause-written : goal.returns-in_err-write_show-clause-written
returns-in_err-write_show-clause-written g c source y active shown among =
    let at = (goal.at.returns-in_err-write_show-clause-written g c).After-is_shown in
    let before = paged (g.S.Sink.state c.args.out.now) c.args.lines.now in
    let after = g.S.Sink.state c.write_show.new.out in
    let pieces = pieces_seen c.args.frame.now c.args.self.now c.args.row.now.shows in
    let whole = row_pieces c.args.frame.now c.args.self.now c.args.row.now c.well_formed-2.ensures c.requires.store c.requires.row c.requires.begun
    ∙ row_is_seen c.args.frame.now source c.args.self.now y active c.args.row.now.blocks (row_blocks c.args.frame.now c.args.row.now c.requires.row) shown among in
    let cut : Writes before (paged after c.write_show.new.lines) (text pieces) c.from_residual.result =
    cut_in_more _ _ c.write_show.result c.from_residual.result _ _ c.in_err-write_show.was (search rules) (next_due g at)
    (subst (λ (bytes : List ℕ). Writes (paged (g.S.Sink.state c.loop-show.out) c.loop-show.lines) (paged after c.write_show.new.lines) bytes c.write_show.result)
    (lines_on g at c.if-is_shown.true) c.write_show.ensures.written) in
    subst (λ (os : List Obs). Writes before after (text os) c.from_residual.result) whole
    (none_kept after c.write_show.new.lines (text pieces) c.from_residual.result _ (search rules) cut)

pub returns-in_err-write_show-clause-same : goal.returns-in_err-write_show-clause-same
returns-in_err-write_show-clause-same g c = same_then c.args.self.now c.loop-show.self c.write_show.new.self (left_same c.loop-show.invariant) c.write_show.ensures.same

pub returns-clause-same : goal.returns-clause-same
returns-clause-same g c = left_same c.loop-show.invariant
