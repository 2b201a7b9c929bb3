-- What each step of a walk keeps.
use Rattle.std.proofs.Common.{ℕ, ◌≡◌, ◌+◌, ◌-◌, ◌<◌, ◌≤◌, suc, Bool, true, false, List, [], ◌∷◌, ◌++◌, length, get_or, set, take, drop, count_by, sum_by, cond, not, ⊎_elim, subst, subst₂, sym, ap, ◌∙◌, arith}
use Rattle.std.proofs.Math.ListN.{replicate}
use Rattle.std.specs.List.{AllByRecursion}
use Rattle.std.proofs.lemmas.Bool.{cases_eq, cases_lt}
use Rattle.std.proofs.lemmas.List.{get_or-set_same, get_or-set_other, get_or-take, get_or-drop, get_or_push, get_or_append_left, length-set, length-take-le, length-drop, length-append, length-replicate, get_or-replicate}
use Rattle.std.proofs.lemmas.List.Sums.{sum_by-set}
use Rattle.std.proofs.lemmas.Map.Steps.{length-le_from_distinct_below}
use Rattle.sci_loop.specs.Rounds.{IsRound}
use Rattle.sci_loop.proofs.Rounds.{distinct_by_places}
use Rattle.sci_loop.proofs.Grounded.{inside_at}
use Rattle.sci_loop.specs.declared.table.DepTable.{DepTable}
use Rattle.sci_loop.specs.Table.{NeedsAt, IsTable}
use Rattle.sci_loop.specs.Progress.{SeenTo, IsMet, IsWalk, left_of}
use Rattle.sci_loop.proofs.Places.{seen_stays, grounded_too}

below_by_recursion : (n : ℕ) (xs : List ℕ) → ((k : ℕ) → k < length xs → get_or xs k 0 < n) → AllByRecursion (λ q. q < n) xs
below_by_recursion n [] h = tt
below_by_recursion n (x ∷ xs) h = (h 0 (omega arith), below_by_recursion n xs (λ k l. h (suc k) (omega (arith, l))))

module _ (t : DepTable) where
  -- a place stands once on the trail
  pub trail_apart : (st : List Bool) (lk dp tr : List ℕ) → IsWalk t st lk dp tr → (i j : ℕ) → i < length tr → j < length tr → get_or tr i 0 ≡ get_or tr j 0 → i ≡ j
  trail_apart st lk dp tr w i j hi hj same = sym (w.depth i hi) ∙ (ap (λ p. get_or dp p 0) same ∙ w.depth j hj)

  -- the trail is no longer than there are members
  pub trail_short : (st : List Bool) (lk dp tr : List ℕ) → IsWalk t st lk dp tr → length tr ≤ length t.members.items
  trail_short st lk dp tr w =
      length-le_from_distinct_below tr (length t.members.items) (distinct_by_places tr (trail_apart st lk dp tr w))
      (inside_at (length t.members.items) tr (below_by_recursion (length t.members.items) tr w.within))

  pub walk_settled : (st : List Bool) (lk dp tr : List ℕ) (at : ℕ) → IsTable t → IsWalk t st lk dp tr → 0 < length tr → at ≡ get_or tr (length tr - 1) 0 → IsMet t st at →
      IsWalk t (set st at true) lk dp (take (length tr - 1) tr)
  walk_settled st lk dp tr at ok w some is met =
      let n = length tr - 1 in
      let short : length (take n tr) ≡ n = length-take-le n tr (omega arith) in
      let last : n < length tr = omega (arith, some) in
      let inside : at < length st = let i = w.within n last in let l = w.settled_length in omega (arith, i, l, is) in
      let old = λ (k : ℕ) (h : k < n). get_or-take n tr k 0 h in
      record {
        settled_length = length-set st at true ∙ w.settled_length;
        looked_length = w.looked_length;
        depths_length = w.depths_length;
        grounded = grounded_too t st at ok met w.grounded;
        seen = λ i h. seen_stays t st at i (get_or lk i 0) inside (w.seen i h);
        within = λ k h. let l : k < n = omega (arith, h, short) in subst (λ p. p < length t.members.items) (sym (old k l)) (w.within k (omega (arith, l)));
        depth = λ k h. let l : k < n = omega (arith, h, short) in subst (λ p. get_or dp p 0 ≡ k) (sym (old k l)) (w.depth k (omega (arith, l)));
        step = λ k h.
            let l : k + 1 < n = omega (arith, h, short) in
            subst₂ (NeedsAt t) (sym (old k (omega (arith, l)))) (sym (old (k + 1) l)) (w.step k (omega (arith, l)));
        off = λ k h.
            let l : k < n = omega (arith, h, short) in let here : k < length tr = omega (arith, l) in
            let apart : get_or tr k 0 ≡ at → ⊥ = λ e. let same : k ≡ n = trail_apart st lk dp tr w k n here last (e ∙ is) in omega (arith, same, l) in
            subst (λ p. get_or (set st at true) p false ≡ false) (sym (old k l)) (get_or-set_other st at (get_or tr k 0) true false apart ∙ w.off k here);
      }

  pub walk_looked : (st : List Bool) (lk dp tr : List ℕ) (at index : ℕ) → IsWalk t st lk dp tr → at < length t.members.items → SeenTo t st at index → IsWalk t st (set lk at index) dp tr
  walk_looked st lk dp tr at index w h s =
      let inside : at < length lk = let l = w.looked_length in omega (arith, h, l) in
      record {
        settled_length = w.settled_length;
        looked_length = length-set lk at index ∙ w.looked_length;
        depths_length = w.depths_length;
        grounded = w.grounded;
        seen = λ i l.
            ⊎_elim (λ same. subst (SeenTo t st i) (sym (ap (λ k. get_or (set lk at index) k 0) same ∙ get_or-set_same lk at index 0 inside)) (subst (λ k. SeenTo t st k index) (sym same) s))
            (λ other. subst (SeenTo t st i) (sym (get_or-set_other lk at i index 0 other)) (w.seen i l))
            (cases_eq i at);
        within = w.within;
        depth = w.depth;
        step = w.step;
        off = w.off;
      }

  -- an old place of the trail, or the new one
  old_or_new : (tr : List ℕ) (place : ℕ) (P : ℕ → ℕ → Type 0) → ((k : ℕ) → k < length tr → P k (get_or tr k 0)) → P (length tr) place → (k : ℕ) → k < length (tr ++ place ∷ []) → P k (get_or (tr ++ place ∷ []) k 0)
  old_or_new tr place P old new k h =
      let more = length-append tr (place ∷ []) in
      ⊎_elim (λ l. subst (P k) (sym (get_or_append_left tr (place ∷ []) 0 k l)) (old k l))
      (λ ge. let same : length tr ≡ k = omega (arith, h, more, ge) in subst₂ P same (sym (get_or_push tr place 0 k same)) new)
      (cases_lt k (length tr))

  pub walk_entered : (st : List Bool) (lk dp tr : List ℕ) (place : ℕ) → IsWalk t st lk dp tr → place < length t.members.items → get_or st place false ≡ false →
      ((k : ℕ) → k < length tr → get_or tr k 0 ≡ place → ⊥) → (0 < length tr → NeedsAt t (get_or tr (length tr - 1) 0) place) → IsWalk t st lk (set dp place (length tr)) (tr ++ place ∷ [])
  walk_entered st lk dp tr place w h off new link =
      let inside : place < length dp = let l = w.depths_length in omega (arith, h, l) in
      let more = length-append tr (place ∷ []) in
      let dp' = set dp place (length tr) in
      record {
        settled_length = w.settled_length;
        looked_length = w.looked_length;
        depths_length = length-set dp place (length tr) ∙ w.depths_length;
        grounded = w.grounded;
        seen = w.seen;
        within = old_or_new tr place (λ k p. p < length t.members.items) w.within h;
        depth = old_or_new tr place (λ k p. get_or dp' p 0 ≡ k)
            (λ k l. get_or-set_other dp place (get_or tr k 0) (length tr) 0 (new k l) ∙ w.depth k l)
            (get_or-set_same dp place (length tr) 0 inside);
        step = λ k l.
            let here : k < length tr = omega (arith, l, more) in
            subst (λ p. NeedsAt t p (get_or (tr ++ place ∷ []) (k + 1) 0)) (sym (get_or_append_left tr (place ∷ []) 0 k here))
            (⊎_elim (λ low. subst (NeedsAt t (get_or tr k 0)) (sym (get_or_append_left tr (place ∷ []) 0 (k + 1) low)) (w.step k low))
            (λ ge. let same : length tr ≡ k + 1 = omega (arith, here, ge) in
            let last : length tr - 1 ≡ k = omega (arith, same) in
            subst₂ (NeedsAt t) (ap (λ m. get_or tr m 0) last) (sym (get_or_push tr place 0 (k + 1) same)) (link (omega (arith, same))))
            (cases_lt (k + 1) (length tr)));
        off = old_or_new tr place (λ k p. get_or st p false ≡ false) w.off off;
      }

  -- a need that is on the trail closes a round
  pub walk_round : (st : List Bool) (lk dp tr : List ℕ) (k place : ℕ) → IsWalk t st lk dp tr → k < length tr → get_or tr k 0 ≡ place → NeedsAt t (get_or tr (length tr - 1) 0) place →
      IsRound (NeedsAt t) (drop k tr)
  walk_round st lk dp tr k place w h is need =
      let rest = length-drop k tr in
      let at = λ (i : ℕ). get_or-drop k tr i 0 in
      record {
        some = omega (arith, rest, h);
        apart = λ i j hi hj e.
            let same : k + i ≡ k + j = trail_apart st lk dp tr w (k + i) (k + j) (omega (arith, hi, rest)) (omega (arith, hj, rest)) (sym (at i) ∙ (e ∙ at j)) in
            omega (arith, same);
        step = λ i hi.
            let next : k + i + 1 ≡ k + (i + 1) = omega arith in
            subst₂ (NeedsAt t) (sym (at i)) (ap (λ m. get_or tr m 0) next ∙ sym (at (i + 1))) (w.step (k + i) (omega (arith, hi, rest)));
        close =
            let last : length tr - 1 ≡ k + (length (drop k tr) - 1) = omega (arith, rest, h) in
            let first : k ≡ k + 0 = omega arith in
            subst₂ (NeedsAt t) (ap (λ m. get_or tr m 0) last ∙ sym (at (length (drop k tr) - 1))) (sym is ∙ (ap (λ m. get_or tr m 0) first ∙ sym (at 0))) need;
      }

  -- at the beginning nothing is known
  pub walk_begins : (st : List Bool) (lk dp tr : List ℕ) (n : ℕ) → n ≡ length t.members.items → st ≡ replicate n false → lk ≡ replicate n 0 → dp ≡ replicate n 0 → tr ≡ [] → IsWalk t st lk dp tr
  walk_begins st lk dp tr n full is_st is_lk is_dp is_tr =
      let none : length tr ≡ 0 = ap length is_tr in
      record {
        settled_length = ap length is_st ∙ (length-replicate n false ∙ full);
        looked_length = ap length is_lk ∙ (length-replicate n 0 ∙ full);
        depths_length = ap length is_dp ∙ (length-replicate n 0 ∙ full);
        grounded = λ i h on. absurd (let off : get_or st i false ≡ false = ap (λ xs. get_or xs i false) is_st ∙ get_or-replicate n i false false (omega (arith, h, full)) in cc (off, on));
        seen = λ i h.
            let zero_there : get_or lk i 0 ≡ 0 = ap (λ xs. get_or xs i 0) is_lk ∙ get_or-replicate n i 0 0 (omega (arith, h, full)) in
            record { seen = λ row is m low inside. absurd (omega (arith, low, zero_there)) };
        within = λ k h. absurd (omega (arith, h, none));
        depth = λ k h. absurd (omega (arith, h, none));
        step = λ k h. absurd (omega (arith, h, none));
        off = λ k h. absurd (omega (arith, h, none));
      }

-- one less to settle
pub unsettled_falls : (st : List Bool) (at : ℕ) → at < length st → get_or st at false ≡ false → count_by not (set st at true) < count_by not st
unsettled_falls st at h off =
    let ones : Bool → ℕ = λ b. cond (not b) 1 0 in
    let both : sum_by ones (set st at true) + ones (get_or st at false) ≡ sum_by ones st + 0 = sum_by-set ones st at true false h in
    let one : ones (get_or st at false) ≡ 1 = ap ones off in
    omega (arith, both, one)

pub falls_settled : (n : ℕ) (st : List Bool) (tr : List ℕ) (at : ℕ) → at < length st → get_or st at false ≡ false → length tr ≤ n → left_of n (set st at true) (take (length tr - 1) tr) < left_of n st tr
falls_settled n st tr at h off short =
    let less = unsettled_falls st at h off in
    let rest : length (take (length tr - 1) tr) ≡ length tr - 1 = length-take-le (length tr - 1) tr (omega arith) in
    omega (arith, less, rest, short)

pub falls_entered : (n : ℕ) (st : List Bool) (tr : List ℕ) (place : ℕ) → length (tr ++ place ∷ []) ≤ n → left_of n st (tr ++ place ∷ []) < left_of n st tr
falls_entered n st tr place short = let more = length-append tr (place ∷ []) in omega (arith, more, short)
