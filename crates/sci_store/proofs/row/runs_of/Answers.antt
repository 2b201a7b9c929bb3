use Rattle.std.proofs.Common.{◌≡◌, ◌∙◌, ◌+◌, ◌-◌, ◌||◌, Bool, not, cond, eqb, List, [], ◌∷◌, ◌++◌, All, length, get_or, refl, sym, ap, subst, arith}
use Rattle.std.proofs.lemmas.Bool.{eq-eqb, ne_eqb}
use Rattle.std.proofs.lemmas.List.Elements.{All-push}
use Rattle.sci_reaction.proofs.Lists.{or_left}
use Rattle.sci_store.specs.declared.row.Run.{Run}
use Rattle.sci_store.specs.declared.seats.Seat.{Seat}
use Rattle.sci_store.specs.Rows.{IsRun}
use Rattle.sci_store.proofs.Joining.{no_rank, IsEndedBy, IsJoinedTo, is_run, counted_behind, count_most, joined_on, joined_behind}
use Rattle.sci_store.proofs.row.runs_of.Goals as goal
use Rattle.sci_store.proofs.row.runs_of.Goals.{then-end-order-2, else-end-order-2, then-rank, else-rank, In_ok-push, Joined-rank}

pub loop-at-preserved-then-is_with : goal.loop-at-preserved-then-is_with
loop-at-preserved-then-is_with c = record {
  joined = joined_on no_rank c.loop-at.invariant.joined c.if-end-order.true (sym c.is_with.ensures ∙ c.if-is_with.true);
  runs_are = c.loop-at.invariant.runs_are;
}

pub overflow_add-entries : goal.overflow_add-entries
overflow_add-entries c =
    let most = count_most c.args.order.now c.loop-at.start in
    let joined = c.loop-at.invariant.joined in
    omega (arith, most, joined.begun, joined.counted)

abbrev run_made : (c : Joined-rank) → Run
run_made c = record {
  kind = c.seat.result.kind;
  together = not (get_or c.args.order.now c.loop-at.at no_rank).alone;
  guarded = (get_or c.args.order.now c.loop-at.at no_rank).guarded;
  last = c.if-end-order-2.push;
  start = c.loop-at.start;
  end = c.loop-at.at + 1;
  entries = c.loop-at.entries;
}

last_is : (c : Joined-rank) → c.if-end-order-2.push
    ≡ (eqb (c.loop-at.at + 1) (length c.args.order.now) || not (eqb (get_or c.args.order.now c.loop-at.at no_rank).depth (get_or c.args.order.now (c.loop-at.at + 1) no_rank).depth))
last_is c =
    let level = eqb (get_or c.args.order.now c.loop-at.at no_rank).depth (get_or c.args.order.now (c.loop-at.at + 1) no_rank).depth in
    elim c.if-end-order-2.branch [
      | then-end-order-2 w ↦
          let whole = eq-eqb (c.loop-at.at + 1) (length c.args.order.now) w.if-end-order-2.true in
          let either = or_left (eqb (c.loop-at.at + 1) (length c.args.order.now)) (not level) whole in
          cc
      | else-end-order-2 w ↦
          let some = ne_eqb (c.loop-at.at + 1) (length c.args.order.now) w.if-end-order-2.false in
          w.push-is ∙ ap (λ (t : Bool). t || not level) (sym some)
    ]

next_is : (c : Joined-rank) → c.if-rank.entries ≡ c.loop-at.entries + cond (get_or c.args.order.now c.loop-at.at no_rank).guarded (c.loop-at.at + 1 - c.loop-at.start) 0
next_is c = elim c.if-rank.branch [
  | then-rank w ↦ w.entries-is ∙ ap (λ (t : Bool). c.loop-at.entries + cond t (c.loop-at.at + 1 - c.loop-at.start) 0) (sym w.if-rank.true)
  | else-rank w ↦
      let none : c.loop-at.entries ≡ c.loop-at.entries + 0 = omega arith in
      w.entries-is ∙ (none ∙ ap (λ (t : Bool). c.loop-at.entries + cond t (c.loop-at.at + 1 - c.loop-at.start) 0) (sym w.if-rank.false))
]

told : (c : Joined-rank) → IsEndedBy c.args.frame.now c.args.order.now c.loop-at.start c.loop-at.at c.loop-at.entries no_rank (run_made c)
told c = record {
  kind = ap (λ (s : Seat). s.kind) c.seat.ensures;
  together = refl;
  guarded = refl;
  begins = refl;
  ends = refl;
  entries_are = refl;
  last = last_is c;
}

pub loop-at-preserved : goal.loop-at-preserved
loop-at-preserved c =
    let joined = c.loop-at.invariant.joined in
    let order = c.args.order.now in
    let items : c.push.new.self.items ≡ c.loop-at.runs.items ++ run_made c ∷ [] = c.in_ok-push.ensures.items in
    record {
      joined = subst (λ (rs : List Run). IsJoinedTo c.args.order.now (c.loop-at.at + 1) (c.loop-at.at + 1) c.if-rank.entries rs) (sym items)
          (joined_behind (run_made c) c.if-rank.entries c.loop-at.invariant.joined refl refl
          (counted_behind c.args.order.now c.loop-at.start c.loop-at.at c.loop-at.entries c.if-rank.entries no_rank joined.begun c.loop-at-test.true joined.alike joined.counted (next_is c)));
      runs_are = λ depth es ranks. subst (All (IsRun c.args.frame.now depth es)) (sym items)
          (All-push (IsRun c.args.frame.now depth es) c.loop-at.runs.items (run_made c) (c.loop-at.invariant.runs_are depth es ranks)
          (is_run c.args.frame.now depth es c.args.order.now c.loop-at.start c.loop-at.at c.loop-at.entries (run_made c) ranks joined.begun c.loop-at-test.true joined.alike joined.counted
          no_rank (told c)));
    }
