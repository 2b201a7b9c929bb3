-- The order in which members are settled.
use Rattle.std.proofs.Common.{ℕ, ◌≡◌, ◌<◌, ◌≤◌, Bool, true, false, List, [], ◌∷◌, ◌++◌, length, get_or, set, map, Contains, Vec, slice_get, slice_index, ⊎_elim, subst, sym, ap, ◌∙◌, arith, true≢false}
use Rattle.std.proofs.Math.ListN.{replicate}
use Rattle.std.proofs.lemmas.Bool.{cases_eq, cases_lt}
use Rattle.std.proofs.lemmas.List.{get_or_default, get_or-set_same, get_or-set_other, get_or_push, get_or_append_left, get_or-map, get_or-take, length-append, length-map, length-take-le, get_or-replicate}
use Rattle.std.proofs.lemmas.Option.{same_Some, slice_get-get_or}
use Rattle.sci_loop.proofs.Rounds.{distinct_by_places}
use Rattle.std.specs.declared.alloc.Global.{Global}
use Rattle.sci_loop.specs.declared.table.DepTable.{DepTable}
use Rattle.sci_loop.specs.Table.{Needs, IsTable}
use Rattle.sci_loop.specs.Progress.{IsMet, IsSettling, StandsBefore}
use Rattle.sci_loop.specs.Sorted.{IsOrder}
use Rattle.sci_loop.proofs.Places.{same_place, one_place, stays}

module _ (t : DepTable) where
  -- at the beginning nothing is settled
  pub settling_begins : (st : List Bool) (od : List ℕ) (n : ℕ) → st ≡ replicate n false → od ≡ [] → length t.members.items ≡ n → IsSettling t st od
  settling_begins st od n is_st is_od full =
      let none : length od ≡ 0 = ap length is_od in
      record {
        within = λ k h. absurd (omega (arith, h, none));
        apart = λ i j h. absurd (omega (arith, h, none));
        marked = λ k h. absurd (omega (arith, h, none));
        listed = λ i h on. absurd (let off : get_or st i false ≡ false = ap (λ xs. get_or xs i false) is_st ∙ get_or-replicate n i false false (omega (arith, h, full)) in cc (off, on));
        after = λ k h. absurd (omega (arith, h, none));
      }

  pub same_settling : (st st' : List Bool) (od od' : List ℕ) → st' ≡ st → od' ≡ od → IsSettling t st od → IsSettling t st' od'
  same_settling st st' od od' es eo s = subst (λ xs. IsSettling t xs od') (sym es) (subst (IsSettling t st) (sym eo) s)

  -- an old place, or the new one
  old_or_new : (od : List ℕ) (at : ℕ) (P : ℕ → ℕ → Type 0) → ((k : ℕ) → k < length od → P k (get_or od k 0)) → P (length od) at → (k : ℕ) → k < length (od ++ at ∷ []) → P k (get_or (od ++ at ∷ []) k 0)
  old_or_new od at P old new k h =
      let more = length-append od (at ∷ []) in
      ⊎_elim (λ l. subst (P k) (sym (get_or_append_left od (at ∷ []) 0 k l)) (old k l))
      (λ ge. let same : length od ≡ k = omega (arith, h, more, ge) in subst (λ m. P m (get_or (od ++ at ∷ []) m 0)) same (subst (P (length od)) (sym (get_or_push od at 0 (length od) (let z : length od ≡ length od = omega arith in z))) new))
      (cases_lt k (length od))

  -- one more of the old ones keeps what stands before
  still_before : (od : List ℕ) (at k b : ℕ) → k ≤ length od → StandsBefore t od k b → StandsBefore t (od ++ at ∷ []) k b
  still_before od at k b h s =
      let l : s.at < length od = let z = s.before in omega (arith, h, z) in
      record {
        at = s.at;
        before = s.before;
        holds = ap (λ p. get_or t.members.items p 0) (get_or_append_left od (at ∷ []) 0 s.at l) ∙ s.holds;
      }

  -- a settled member stands there
  placed : (st : List Bool) (od : List ℕ) (at p b : ℕ) → IsSettling t st od → p < length t.members.items → get_or st p false ≡ true → get_or t.members.items p 0 ≡ b → StandsBefore t (od ++ at ∷ []) (length od) b
  placed st od at p b s within marked holds =
      let c = s.listed p within marked in
      record {
        at = c.0;
        before = c.1;
        holds = ap (λ q. get_or t.members.items q 0) (get_or_append_left od (at ∷ []) 0 c.0 c.1 ∙ (get_or_default od c.0 0 p c.1 ∙ c.2)) ∙ holds;
      }

  -- where its needs are settled, they stand before it
  met_before : (st : List Bool) (od : List ℕ) (at : ℕ) → IsTable t → at < length t.members.items → IsMet t st at → IsSettling t st od → (b : ℕ) → Needs t (get_or t.members.items at 0) b →
      StandsBefore t (od ++ at ∷ []) (length od) b
  met_before st od at ok h met s b n =
      let one = one_place t.members.items n.0 at _ ok.rising n.2 (slice_get-get_or t.members.items at 0 h) in
      let same : n.1 ≡ met.row = same_Some _ _ (sym n.3 ∙ (ap (slice_get t.needs.items) one ∙ met.row_is)) in
      let m = met.all b (subst (λ (v : Vec ℕ Global). Contains v.items b) same n.4) in
      placed st od at m.place b s m.within m.marked m.holds

  pub settling_more : (st : List Bool) (od : List ℕ) (at : ℕ) → IsTable t → length st ≡ length t.members.items → at < length t.members.items → get_or st at false ≡ false → IsMet t st at →
      IsSettling t st od → IsSettling t (set st at true) (od ++ at ∷ [])
  settling_more st od at ok long h off met s =
      let inside : at < length st = omega (arith, h, long) in
      let on : get_or (set st at true) at false ≡ true = get_or-set_same st at true false inside in
      let more = length-append od (at ∷ []) in
      let fresh : (k : ℕ) → k < length od → get_or od k 0 ≡ at → ⊥ = λ k l e. true≢false (sym (s.marked k l) ∙ (ap (λ p. get_or st p false) e ∙ off)) in
      record {
        within = old_or_new od at (λ k p. p < length t.members.items) s.within h;
        apart = λ i j hi hj e.
            old_or_new od at (λ k p. p ≡ get_or (od ++ at ∷ []) j 0 → k ≡ j)
            (λ k l. old_or_new od at (λ m q. get_or od k 0 ≡ q → k ≡ m) (λ m l' e'. s.apart k m l l' e') (λ e'. absurd (fresh k l e')) j hj)
            (old_or_new od at (λ m q. at ≡ q → length od ≡ m) (λ m l' e'. absurd (fresh m l' (sym e'))) (λ e'. let z : length od ≡ length od = omega arith in z) j hj)
            i hi e;
        marked = old_or_new od at (λ k p. get_or (set st at true) p false ≡ true) (λ k l. stays st at (get_or od k 0) inside (s.marked k l)) on;
        listed = λ i l is.
            ⊎_elim
            (λ same. (length od, omega (arith, more), subst (λ p. get_or (od ++ at ∷ []) (length od) p ≡ p) (sym same) (get_or_push od at at (length od) (let z : length od ≡ length od = omega arith in z))))
            (λ other. let old = s.listed i l (sym (get_or-set_other st at i true false other) ∙ is) in
            (old.0, omega (arith, more, old.1), get_or_append_left od (at ∷ []) i old.0 old.1 ∙ old.2))
            (cases_eq i at);
        after = old_or_new od at (λ k p. (b : ℕ) → Needs t (get_or t.members.items p 0) b → StandsBefore t (od ++ at ∷ []) k b)
            (λ k l b n. still_before od at k b (omega (arith, l)) (s.after k l b n))
            (λ b n. met_before st od at ok h met s b n);
      }

  -- where all are settled
  pub settled_order : (st : List Bool) (od xs : List ℕ) → IsTable t → IsSettling t st od → ((i : ℕ) → i < length t.members.items → get_or st i false ≡ true) →
      xs ≡ map (λ i. slice_index t.members.items i) od → IsOrder t xs
  settled_order st od xs ok s all is =
      let f : ℕ → ℕ = λ i. slice_index t.members.items i in
      let long : length xs ≡ length od = ap length is ∙ length-map od f in
      let at : (k : ℕ) → k < length od → get_or xs k 0 ≡ f (get_or od k 0) = λ k h. ap (λ ys. get_or ys k 0) is ∙ get_or-map f od k 0 0 h in
      record {
        members = λ b. (
          λ has.
              let l : has.0 < length od = omega (arith, has.1, long) in
              (get_or od has.0 0, s.within has.0 l, get_or_default t.members.items (get_or od has.0 0) b 0 (s.within has.0 l) ∙ (sym (at has.0 l) ∙ (get_or_default xs has.0 0 b has.1 ∙ has.2))),
          λ has.
              let c = s.listed has.0 has.1 (all has.0 has.1) in
              let l : c.0 < length xs = omega (arith, c.1, long) in
              (c.0, l, sym (get_or_default xs c.0 0 b l) ∙ (at c.0 c.1 ∙ (ap f (get_or_default od c.0 0 has.0 c.1 ∙ c.2) ∙ (get_or_default t.members.items has.0 0 b has.1 ∙ has.2)))),
        );
        once = distinct_by_places xs
            (λ i j hi hj e.
            let li : i < length od = omega (arith, hi, long) in let lj : j < length od = omega (arith, hj, long) in
            s.apart i j li lj (same_place t.members.items (get_or od i 0) (get_or od j 0) ok.rising (s.within i li) (s.within j lj) (sym (at i li) ∙ (e ∙ at j lj))));
        after = λ k b h n.
            let l : k < length od = omega (arith, h, long) in
            let c = s.after k l b (subst (λ c. Needs t c b) (at k l) n) in
            let low : c.at < k = c.before in
            let here : c.at < length od = omega (arith, low, l) in
            let short = length-take-le k xs (omega (arith, h)) in
            (c.at, omega (arith, low, short), get_or-take k xs c.at b low ∙ (sym (get_or_default xs c.at 0 b (omega (arith, here, long))) ∙ (at c.at here ∙ c.holds)));
      }
