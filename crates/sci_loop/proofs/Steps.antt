-- What a step of the search keeps, from one state of it to the next.
use Rattle.std.proofs.Common.{ℕ, ◌≡◌, ◌+◌, ◌-◌, ◌<◌, ◌≤◌, Bool, true, false, List, [], ◌∷◌, ◌++◌, length, get_or, slice_index, set, map, take, drop, All, Option, None, IfNone, subst, subst₂, sym, ap, ◌∙◌, arith}
use Rattle.std.proofs.lemmas.List.{get_or_default, get_or-take, get_or-drop, length-take, length-drop}
use Rattle.sci_loop.specs.Rounds.{IsRound}
use Rattle.sci_loop.specs.Loops.{HasNoLoop}
use Rattle.sci_loop.specs.declared.table.DepTable.{DepTable}
use Rattle.sci_loop.specs.declared.search.Search.{Search}
use Rattle.sci_loop.specs.Table.{Needs, NeedsAt, IsTable}
use Rattle.sci_loop.specs.Progress.{SeenTo, IsMet, IsOpenNeed, IsWalk, IsSearch, IsSettling, left, left_of}
use Rattle.sci_loop.specs.Sorted.{IsOrder}
use Rattle.sci_loop.proofs.Places.{open_is_need, all_settled}
use Rattle.sci_loop.proofs.Settling.{same_settling, settling_more, settled_order}
use Rattle.sci_loop.proofs.Walks.{walk_settled, walk_looked, walk_entered, walk_round, trail_short, falls_settled, falls_entered}

module _ (t : DepTable) where
  same_walk : (st st' : List Bool) (lk lk' dp dp' tr tr' : List ℕ) → st' ≡ st → lk' ≡ lk → dp' ≡ dp → tr' ≡ tr → IsWalk t st lk dp tr → IsWalk t st' lk' dp' tr'
  same_walk st st' lk lk' dp dp' tr tr' es el ed et w =
      subst (λ xs. IsWalk t xs lk' dp' tr') (sym es)
      (subst (λ xs. IsWalk t st xs dp' tr') (sym el)
      (subst (λ xs. IsWalk t st lk xs tr') (sym ed)
      (subst (λ xs. IsWalk t st lk dp xs) (sym et) w)))

  -- the last place of the trail
  pub last_read : (tr : List ℕ) (long at : ℕ) → long ≡ length tr → 0 < length tr → at ≡ get_or tr (long - 1) at → at ≡ get_or tr (length tr - 1) 0
  last_read tr long at same some is =
      is ∙ (ap (λ m. get_or tr (m - 1) at) same ∙ get_or_default tr (length tr - 1) at 0 (let l : length tr - 1 < length tr = omega (arith, some) in l))

  pub last_within : (s : Search) (at : ℕ) → IsSearch t s → 0 < length s.trail.items → at ≡ get_or s.trail.items (length s.trail.items - 1) 0 → at < length t.members.items
  last_within s at w some is = subst (λ p. p < length t.members.items) (sym is) (w.within (length s.trail.items - 1) (omega (arith, some)))

  pub settled_search : (old new : Search) (at : ℕ) (ns : List Bool) → IsTable t → IsSearch t old → 0 < length old.trail.items → at ≡ get_or old.trail.items (length old.trail.items - 1) 0 →
      ns ≡ old.settled.items → IsMet t ns at → new.settled.items ≡ set old.settled.items at true → new.looked.items ≡ old.looked.items → new.depths.items ≡ old.depths.items →
      new.trail.items ≡ take (length old.trail.items - 1) old.trail.items → IsSearch t new
  settled_search old new at ns ok w some is same met es el ed et =
      same_walk _ _ _ _ _ _ _ _ es el ed et
      (walk_settled t old.settled.items old.looked.items old.depths.items old.trail.items at ok w some is (subst (λ xs. IsMet t xs at) same met))

  pub settled_in_order : (old new : Search) (at : ℕ) (ns : List Bool) → IsTable t → IsSearch t old → IsSettling t old.settled.items old.order.items → 0 < length old.trail.items →
      at ≡ get_or old.trail.items (length old.trail.items - 1) 0 → ns ≡ old.settled.items → IsMet t ns at → new.settled.items ≡ set old.settled.items at true →
      new.order.items ≡ old.order.items ++ at ∷ [] → IsSettling t new.settled.items new.order.items
  settled_in_order old new at ns ok w s some is same met es eo =
      let off : get_or old.settled.items at false ≡ false = subst (λ p. get_or old.settled.items p false ≡ false) (sym is) (w.off (length old.trail.items - 1) (omega (arith, some))) in
      same_settling t _ _ _ _ es eo
      (settling_more t old.settled.items old.order.items at ok w.settled_length (last_within old at w some is) off (subst (λ xs. IsMet t xs at) same met) s)

  pub settled_falls : (old new : Search) (at : ℕ) → IsSearch t old → 0 < length old.trail.items → at ≡ get_or old.trail.items (length old.trail.items - 1) 0 →
      new.settled.items ≡ set old.settled.items at true → new.trail.items ≡ take (length old.trail.items - 1) old.trail.items → left t new < left t old
  settled_falls old new at w some is es et =
      let n = length t.members.items in
      let long = w.settled_length in
      let h = last_within old at w some is in
      let inside : at < length old.settled.items = omega (arith, long, h) in
      let off : get_or old.settled.items at false ≡ false = subst (λ p. get_or old.settled.items p false ≡ false) (sym is) (w.off (length old.trail.items - 1) (omega (arith, some))) in
      let fewer = falls_settled n old.settled.items old.trail.items at inside off (trail_short t old.settled.items old.looked.items old.depths.items old.trail.items w) in
      subst₂ (λ xs ys. left_of n xs ys < left_of n old.settled.items old.trail.items) (sym es) (sym et) fewer

  pub looked_search : (old new : Search) (at index : ℕ) (ns : List Bool) → IsSearch t old → 0 < length old.trail.items → at ≡ get_or old.trail.items (length old.trail.items - 1) 0 →
      ns ≡ old.settled.items → SeenTo t ns at index → new.settled.items ≡ old.settled.items → new.looked.items ≡ set old.looked.items at index → new.depths.items ≡ old.depths.items →
      new.trail.items ≡ old.trail.items → IsSearch t new
  looked_search old new at index ns w some is same seen es el ed et =
      same_walk _ _ _ _ _ _ _ _ es el ed et
      (walk_looked t old.settled.items old.looked.items old.depths.items old.trail.items at index w (last_within old at w some is) (subst (λ xs. SeenTo t xs at index) same seen))

  -- the last place of the trail needs one that is on the trail
  pub round_search : (s : Search) (tr : List ℕ) (at place depth : ℕ) (ns : List Bool) → IsSearch t s → 0 < length tr → at ≡ get_or tr (length tr - 1) 0 → s.trail.items ≡ tr →
      IsOpenNeed t ns at place → (depth < length s.trail.items) × (get_or s.trail.items depth 0 ≡ place) → IsRound (NeedsAt t) (drop depth s.trail.items)
  round_search s tr at place depth ns w some is et need on =
      let some' : 0 < length s.trail.items = subst (λ xs. 0 < length xs) (sym et) some in
      let is' : at ≡ get_or s.trail.items (length s.trail.items - 1) 0 = subst (λ xs. at ≡ get_or xs (length xs - 1) 0) (sym et) is in
      walk_round t s.settled.items s.looked.items s.depths.items s.trail.items depth place w on.0 on.1
      (subst (λ p. NeedsAt t p place) is' (open_is_need t ns at place (last_within s at w some' is') need))

  pub entered_search : (s new : Search) (tr : List ℕ) (at place depth : ℕ) (ns : List Bool) → IsSearch t s → 0 < length tr → at ≡ get_or tr (length tr - 1) 0 → s.trail.items ≡ tr →
      ns ≡ s.settled.items → IsOpenNeed t ns at place → depth ≡ get_or s.depths.items place depth → ((depth < length s.trail.items) × (get_or s.trail.items depth 0 ≡ place) → ⊥) →
      new.settled.items ≡ s.settled.items → new.looked.items ≡ s.looked.items → new.depths.items ≡ set s.depths.items place (length s.trail.items) →
      new.trail.items ≡ s.trail.items ++ place ∷ [] → IsSearch t new
  entered_search s new tr at place depth ns w some is et same need known apart es el ed en =
      let some' : 0 < length s.trail.items = subst (λ xs. 0 < length xs) (sym et) some in
      let is' : at ≡ get_or s.trail.items (length s.trail.items - 1) 0 = subst (λ xs. at ≡ get_or xs (length xs - 1) 0) (sym et) is in
      same_walk _ _ _ _ _ _ _ _ es el ed en
      (walk_entered t s.settled.items s.looked.items s.depths.items s.trail.items place w need.within (subst (λ xs. get_or xs place false ≡ false) same need.off)
      (λ k h e.
      let long = w.depths_length in let in_range = need.within in
      let inside : place < length s.depths.items = omega (arith, long, in_range) in
      let there : depth ≡ k = known ∙ (get_or_default s.depths.items place depth 0 inside ∙ ap (λ p. get_or s.depths.items p 0) (sym e) ∙ w.depth k h) in
      apart (subst (λ m. m < length s.trail.items) (sym there) h, ap (λ m. get_or s.trail.items m 0) there ∙ e))
      (λ some2. subst (λ p. NeedsAt t p place) is' (open_is_need t ns at place (last_within s at w some' is') need)))

  pub entered_falls : (old s new : Search) (place : ℕ) → IsSearch t new → s.settled.items ≡ old.settled.items → s.trail.items ≡ old.trail.items → new.settled.items ≡ s.settled.items →
      new.trail.items ≡ s.trail.items ++ place ∷ [] → left t new < left t old
  entered_falls old s new place w es et es2 en =
      let n = length t.members.items in
      let settled : new.settled.items ≡ old.settled.items = es2 ∙ es in
      let trail : new.trail.items ≡ old.trail.items ++ place ∷ [] = en ∙ ap (λ xs. xs ++ place ∷ []) et in
      let short : length new.trail.items ≤ n = trail_short t new.settled.items new.looked.items new.depths.items new.trail.items w in
      subst₂ (λ xs ys. left_of n xs ys < left_of n old.settled.items old.trail.items) (sym settled) (sym trail)
      (falls_entered n old.settled.items old.trail.items place (subst (λ xs. length xs ≤ n) trail short))

  -- a walk that ended with all settled
  pub none_free : (s : Search) (o : Option ℕ) → o ≡ None → IsSearch t s → IfNone o ((i : ℕ) → i < length t.members.items → get_or s.settled.items i false ≡ true) → HasNoLoop (Needs t)
  none_free s o none w done =
      all_settled t s.settled.items w.grounded (subst (λ r. IfNone r ((i : ℕ) → i < length t.members.items → get_or s.settled.items i false ≡ true)) none done)

  -- and in which order
  pub all_in_order : (s : Search) (o : Option ℕ) (ms ps xs : List ℕ) → o ≡ None → IsTable t → IsSettling t s.settled.items s.order.items →
      IfNone o ((i : ℕ) → i < length t.members.items → get_or s.settled.items i false ≡ true) → ms ≡ t.members.items → ps ≡ s.order.items → xs ≡ map (λ i. slice_index ms i) ps → IsOrder t xs
  all_in_order s o ms ps xs none ok order done same_ms same_ps is =
      settled_order t s.settled.items s.order.items xs ok order (subst (λ r. IfNone r ((i : ℕ) → i < length t.members.items → get_or s.settled.items i false ≡ true)) none done)
      (is ∙ (ap (λ ys. map (λ i. slice_index ys i) ps) same_ms ∙ ap (λ ys. map (λ i. slice_index t.members.items i) ys) same_ps))

  pub rest_within : (s : Search) (tr : List ℕ) (n depth : ℕ) → tr ≡ s.trail.items → IsSearch t s → All (λ i. i < length t.members.items) (take n (drop depth tr))
  rest_within s tr n depth same w k d h =
      let long = length-take n (drop depth tr) in let rest = length-drop depth tr in
      let low : k < n = omega (arith, h, long) in
      let here : depth + k < length tr = omega (arith, h, long, rest) in
      let old : get_or tr (depth + k) 0 < length t.members.items = subst (λ xs. get_or xs (depth + k) 0 < length t.members.items) (sym same) (w.within (depth + k) (subst (λ xs. depth + k < length xs) same here)) in
      subst (λ p. p < length t.members.items) (sym (get_or-take n (drop depth tr) k d low ∙ (get_or-drop depth tr k d ∙ get_or_default tr (depth + k) d 0 here))) old
