-- The marks of a row are those of the blocks that its source may activate.
use Rattle.std.proofs.Common.{◌≡◌, ◌≢◌, ℕ, zero, suc, ◌+◌, Bool, true, false, not, inr, ⊎_elim, ◌↔◌, List, [], ◌∷◌, ◌++◌, length, replicate, set, Contains, refl, sym, subst, ◌∙◌, append_assoc, append-nil, length-set, get_or-set_same, get_or-set_other, arith, true≢false}
use Rattle.std.proofs.lemmas.Bool.{cases_eq, or_cases}
use Rattle.std.proofs.lemmas.List.{length-replicate}
use Rattle.std.specs.List.{list_any}
use Rattle.sci_base.specs.Lists.{truth_at}
use Rattle.sci_net.specs.declared.Feed.{Feed}
use Rattle.sci_net.specs.declared.Source.{Source}
use Rattle.sci_net.specs.Net.{IsNet}
use Rattle.sci_net.specs.Parts.{Parts, IsBlock}
use Rattle.sci_reaction.specs.Active.{Possible}
use Rattle.sci_reaction.specs.Depends.{Depends, IsLoopFree}
use Rattle.sci_reaction.specs.Schedule.{Entry, blocks_of}
use Rattle.sci_reaction.proofs.Lists.{Has, Has-left, Has-push, Has-pushed, and_both, and_true, or_left, or_right, any_to, any_from, cons-Contains}
use Rattle.sci_reaction.proofs.OneResult.{need_precedes}
use Rattle.sci_reaction.proofs.Rows.{Contains-has, Contains-mid, Sorted, stands_before, IsFit, row_plan}
use Rattle.sci_reaction.proofs.Spreading.{possible, why, from_always, from_guard, Spread-block}
use Rattle.sci_ranges_reads.specs.Live.{Dead, MayAct}
use Rattle.sci_ranges_rows.specs.Marks.{lets, is_let, acts_along}
use Rattle.sci_ranges_rows.specs.Laws.{MarkedMayAct}

pub not_true : (b : Bool) → not b ≡ true → b ≡ false
not_true true h = cc
not_true false h = refl

pub not_of : (b : Bool) → b ≡ false → not b ≡ true
not_of true h = cc
not_of false h = refl

-- of these blocks those are marked that may act, and no other
record MarkedTo (n : Parts) (s : Source) (dead : Dead) (done : List ℕ) (acts : List Bool) : Type 0 where
  long : length acts ≡ length n.specs + 1
  is : (b : ℕ) → (truth_at acts b ≡ true) ↔ (Has done b × MayAct n dead s b)

falses : (k b : ℕ) → truth_at (replicate k false) b ≡ false
falses zero b = refl
falses (suc k) zero = refl
falses (suc k) (suc b) = falses k b

module _ (n : Parts) (s : Source) (dead : Dead) (net : IsNet n) (free : IsLoopFree n s) where
  start : MarkedTo n s dead [] (replicate (length n.specs + 1) false)
  start = record {
    long = length-replicate (length n.specs + 1) false;
    is = λ b. ((λ h. absurd (true≢false (sym h ∙ falses (length n.specs + 1) b))), λ h. absurd (true≢false (sym h.0)));
  }

  module _ (pre post : List ℕ) (e : Entry) (acts : List Bool) (sorted : Sorted n s (pre ++ e.block ∷ post)) (complete : (b : ℕ) → Has (pre ++ e.block ∷ post) b ↔ Possible n s b)
      (fit : IsFit n s e) (marked : MarkedTo n s dead pre acts) where
    -- a block whose branch reaches this one stands before it
    before : (c p : ℕ) → MayAct n dead s e.block → MayAct n dead s c → Depends n s e.block c → Has pre c
    before c p may on depends =
        stands_before n s free pre post e.block c sorted ((complete c).1 (possible n s _ on)) (need_precedes n s free e.block c depends)

    let_on : is_let dead acts e ≡ true → MayAct n dead s e.block
    let_on h =
        ⊎_elim (λ on. from_always n s (λ c p. dead c p ≡ false) (fit.always_is.0 on))
        (λ some. let r = any_to (lets dead acts) e.guards some in
        let both = and_both (truth_at acts r.0.block) (not (dead r.0.block r.0.port)) r.2 in
        let guard = fit.are_guards r.0 r.1 in
        from_guard n s (λ c p. dead c p ≡ false) r.0.block r.0.port ((marked.is r.0.block).0 both.0).1 guard.sync (not_true (dead r.0.block r.0.port) both.1) guard.reaches)
        (or_cases e.always (list_any (lets dead acts) e.guards) h)

    let_of : MayAct n dead s e.block → is_let dead acts e ≡ true
    let_of may =
        ⊎_elim (λ always. or_left e.always (list_any (lets dead acts) e.guards) (fit.always_is.1 always))
        (λ w. let q : Feed = record { block = w.block; port = w.port } in
        let has = fit.has_guard q (possible n s _ w.spread) w.sync w.reaches in
        let first = before w.block w.port may w.spread
        (record { possible = possible n s _ may; on_possible = possible n s _ w.spread; waits = inr (record { sync = w.sync; branch = w.port; reaches = w.reaches }) }) in
        let P : Feed → Type 0 = λ v. lets dead acts (record { block = v.block; port = v.port; mask = 0 }) ≡ true in
        let there : P q = and_true (truth_at acts w.block) (not (dead w.block w.port)) ((marked.is w.block).1 (first, w.spread)) (not_of (dead w.block w.port) w.takes) in
        or_right e.always (list_any (lets dead acts) e.guards) (any_from (lets dead acts) e.guards has.0 has.1 (subst P (sym has.2) there)))
        (why n s (λ c p. dead c p ≡ false) may)

    inside : IsBlock n e.block
    inside = Spread-block n s _ ((complete e.block).0 (Contains-has (pre ++ e.block ∷ post) e.block (Contains-mid pre post e.block)))

    more : MarkedTo n s dead (pre ++ e.block ∷ []) (set acts e.block (is_let dead acts e))
    more = record {
      long = length-set acts e.block (is_let dead acts e) ∙ marked.long;
      is = λ b. ⊎_elim (λ same. own b same) (λ other. others b other) (cases_eq b e.block);
    }
      where
        own : (b : ℕ) → b ≡ e.block → (truth_at (set acts e.block (is_let dead acts e)) b ≡ true) ↔ (Has (pre ++ e.block ∷ []) b × MayAct n dead s b)
        own b same =
            let here : truth_at (set acts e.block (is_let dead acts e)) e.block ≡ is_let dead acts e =
            get_or-set_same acts e.block (is_let dead acts e) false (omega (arith, marked.long, inside.most)) in
            subst (λ c. (truth_at (set acts e.block (is_let dead acts e)) c ≡ true) ↔ (Has (pre ++ e.block ∷ []) c × MayAct n dead s c)) (sym same)
            ((λ h. (Has-push pre e.block, let_on (sym here ∙ h))), λ h. here ∙ let_of h.1)

        others : (b : ℕ) → b ≢ e.block → (truth_at (set acts e.block (is_let dead acts e)) b ≡ true) ↔ (Has (pre ++ e.block ∷ []) b × MayAct n dead s b)
        others b other =
            let there : truth_at (set acts e.block (is_let dead acts e)) b ≡ truth_at acts b = get_or-set_other acts e.block b (is_let dead acts e) false other in (
              (λ h. let r = (marked.is b).0 (sym there ∙ h) in (Has-left pre (e.block ∷ []) b r.0, r.1)),
              λ h. there ∙ (marked.is b).1 (⊎_elim (λ old. old) (λ new. absurd (other new)) (Has-pushed pre e.block b h.0), h.1),
            )

  along : (pre : List ℕ) (es : List Entry) (acts : List Bool) → ((e : Entry) → Contains es e → IsFit n s e) → Sorted n s (pre ++ blocks_of es)
      → ((b : ℕ) → Has (pre ++ blocks_of es) b ↔ Possible n s b) → MarkedTo n s dead pre acts → MarkedTo n s dead (pre ++ blocks_of es) (acts_along dead acts es)
  along pre [] acts fits sorted complete marked = subst (λ d. MarkedTo n s dead d acts) (sym (append-nil pre)) marked
  along pre (e ∷ es) acts fits sorted complete marked =
      let same : (pre ++ e.block ∷ []) ++ blocks_of es ≡ pre ++ e.block ∷ blocks_of es = append_assoc pre (e.block ∷ []) (blocks_of es) in
      subst (λ d. MarkedTo n s dead d (acts_along dead (set acts e.block (is_let dead acts e)) es)) same
      (along (pre ++ e.block ∷ []) es (set acts e.block (is_let dead acts e)) (λ d c. fits d (cons-Contains e es d c)) (subst (Sorted n s) (sym same) sorted)
      (subst (λ d. (b : ℕ) → Has d b ↔ Possible n s b) (sym same) complete)
      (more pre (blocks_of es) e acts sorted complete (fits e (0, omega arith, refl)) marked))

pub marked_may_act : MarkedMayAct
marked_may_act n dead s row b net free is =
    let plan = row_plan n s net.wired row is in
    let all = along n s dead net free [] row (replicate (length n.specs + 1) false) plan.entries plan.sorted plan.complete (start n s dead net free) in
    ((λ h. ((all.is b).0 h).1), λ may. (all.is b).1 ((plan.complete b).1 (possible n s _ may), may))
