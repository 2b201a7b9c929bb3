use Rattle.std.proofs.Common.{◌≡◌, ◌+◌, ◌<◌, ◌≤◌, ◌∙◌, ◌++◌, ℕ, ℤ, Option, None, IfSome, List, [], length, get_or, drop, ap, sym, subst, arith}
use Rattle.std.specs.Prelude.{if◌then◌else◌}
use Rattle.sci_store.specs.declared.row.Show.{Show}
use Rattle.sci_store.specs.contracts.store.Store.{the_view}
use Rattle.sci_store.specs.Tally.{lines_after, sum_with}
use Rattle.sci_store.specs.Store.{Standing}
use Rattle.sci_store.specs.Rows.{ReadyRow, between, is_shown, IsShowOf, shown_values}
use Rattle.sci_store.specs.Written.{tallied_values}
use Rattle.sci_store.proofs.Choices.{seen_if, seen_unless}
use Rattle.sci_store.proofs.Writing.{same_tally, same_then}
use Rattle.sci_store.proofs.ShownLines.{values_twice, shown_next}
use Rattle.sci_store.proofs.store.Store.count_values.Goals as goal
use Rattle.sci_store.proofs.store.Store.count_values.Goals.{After-self, then-is_shown, else-is_shown}

abbrev no_show : Show
no_show = record { start = 0; end = 0; asked = None }

asked_same : (o : Option ℕ) (m n : ℕ) → IfSome o (λ b. (1 ≤ b) × (b ≤ n)) → m ≡ n → IfSome o (λ b. (1 ≤ b) × (b ≤ m))
asked_same o m n h e = subst (λ (k : ℕ). IfSome o (λ b. (1 ≤ b) × (b ≤ k))) (sym e) h

module _ (c : After-self) where
  abbrev piece : Show
  piece = get_or c.deref-show-items.result.now c.loop-show.show-index no_show

  items : c.deref-show-items.result.now ≡ c.args.row.now.shows
  items = c.deref-show-items.ensures.value ∙ ap (λ (r : ReadyRow). r.shows) c.row.view_is

  there : c.loop-show.show-index < length c.args.row.now.shows
  there = subst (λ (ws : List Show). c.loop-show.show-index < length ws) items c.loop-show-test.true

  same_piece : get_or c.deref-show-items.result.now c.loop-show.show-index no_show ≡ get_or c.args.row.now.shows c.loop-show.show-index no_show
  same_piece = ap (λ (ws : List Show). get_or ws c.loop-show.show-index no_show) items

  piece_is : IsShowOf c.args.self.now piece
  piece_is = subst (IsShowOf c.args.self.now) (sym same_piece) (c.requires c.loop-show.show-index no_show there)

  piece_now : IsShowOf c.loop-show.self piece
  piece_now =
      let values = ap (λ (t : Standing). length t.values) c.loop-show.invariant.same in
      let marks = ap (λ (t : Standing). length t.marks) c.loop-show.invariant.same in
      record { order = piece_is.order; within = omega (arith, piece_is.within, values); asked = asked_same piece.asked (length c.loop-show.self.marks) (length c.args.self.now.marks) piece_is.asked marks }

pub is_shown-requires : goal.is_shown-requires
is_shown-requires c = piece_now c

pub slice_bounds-count_values-end : goal.slice_bounds-count_values-end
slice_bounds-count_values-end c =
    let is = piece_now (goal.at.slice_bounds-count_values-end c).After-self in
    let here = ap (λ (vs : List ℤ). length vs) c.deref.ensures.value in
    let view = ap (λ (t : Standing). length t.values) c.self.view_is in
    let within : (get_or c.deref-show-items.result.now c.loop-show.show-index no_show).end ≤ length c.deref.result.now = omega (arith, is.within, here, view) in
    within

pub loop-show-preserved : goal.loop-show-preserved
loop-show-preserved c =
    let h = (goal.at.loop-show-preserved c).After-self in
    let s = c.args.self.now in
    let t = c.loop-show.self in
    let w = piece h in
    let rest = shown_values c.args.self.now (drop (c.loop-show.show-index + 1) c.args.row.now.shows) in
    let marked : c.is_shown.result ≡ is_shown c.args.self.now.marks w = c.is_shown.ensures ∙ ap (λ (v : Standing). is_shown v.marks w) c.loop-show.invariant.same in
    let next = shown_next c.args.self.now c.args.row.now.shows c.loop-show.show-index no_show (there h)
    ∙ ap (λ (x : Show). (if is_shown c.args.self.now.marks x then between c.args.self.now.values x.start x.end else []) ++ rest) (sym (same_piece h)) in
    elim c.if-is_shown.branch [
      | then-is_shown v ↦
          let on = seen_if (is_shown c.args.self.now.marks w) (between c.args.self.now.values w.start w.end) [] (sym marked ∙ v.if-is_shown.true) in
          let lines = v.count_values.ensures.lines ∙ ap (λ (vs : List ℤ). lines_after c.self.inside.tally.lines (length (between vs w.start w.end))) v.deref.ensures.value in
          let sum = v.count_values.ensures.sum ∙ ap (λ (vs : List ℤ). sum_with c.self.inside.tally.sum (between vs w.start w.end)) v.deref.ensures.value in
          let e : c.if-is_shown.self ≡ tallied_values t (between t.values w.start w.end) =
          v.self-is
          ∙ (same_tally (the_view c.self.inside) v.count_values.new.self.lines v.count_values.new.self.sum _ _ lines sum
          ∙ ap (λ (u : Standing). tallied_values u (between u.values w.start w.end)) c.self.view_is) in
          record {
            counted = ap (λ (u : Standing). tallied_values u rest) e
                ∙ (values_twice t (between t.values w.start w.end) rest
                ∙ (ap (λ (u : Standing). tallied_values t (between u.values w.start w.end ++ rest)) c.loop-show.invariant.same
                ∙ (ap (λ (vs : List ℤ). tallied_values t (vs ++ rest)) (sym on)
                ∙ (ap (tallied_values t) (sym next) ∙ c.loop-show.invariant.counted))));
            same = same_then s t c.if-is_shown.self c.loop-show.invariant.same
                (e ∙ same_tally t _ _ c.if-is_shown.self.lines c.if-is_shown.self.sum (sym (ap (λ (u : Standing). u.lines) e)) (sym (ap (λ (u : Standing). u.sum) e)));
          }
      | else-is_shown v ↦
          let off = seen_unless (is_shown c.args.self.now.marks w) (between c.args.self.now.values w.start w.end) [] (sym marked ∙ v.if-is_shown.false) in
          record {
            counted = ap (λ (u : Standing). tallied_values u rest) v.self-is
                ∙ (ap (λ (vs : List ℤ). tallied_values t (vs ++ rest)) (sym off) ∙ (ap (tallied_values t) (sym next) ∙ c.loop-show.invariant.counted));
            same = subst (λ (u : Standing). u ≡ record s { lines = u.lines; sum = u.sum }) (sym v.self-is) c.loop-show.invariant.same;
          }
    ]
