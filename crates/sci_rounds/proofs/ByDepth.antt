-- The possible blocks by depth, done level by level: behind some of them all are done, or the least block of the last level that has no values is known.
use Rattle.std.proofs.Common.{◌≡◌, ◌≢◌, ℕ, zero, suc, ◌+◌, ◌-◌, ◌<◌, ◌≤◌, Bool, false, ◌⊎◌, ◌↔◌, inl, inr, ⊎_elim, ℤ, List, [], ◌∷◌, length, map, get_or, take, drop, Contains, All, Option, Some, None, Err, refl, sym, ap, subst, ◌∙◌, arith}
use Rattle.std.specs.Prelude.{AllPairs}
use Rattle.std.proofs.lemmas.Bool.{cases_eq, cases_lt}
use Rattle.std.proofs.lemmas.List.{get_or-map, length-map, take-map, drop-map, get_or-take, get_or-drop, length-take-le, length-drop, get_or_default}
use Rattle.sci_base.specs.declared.observation.StopWord.{StopWord}
use Rattle.sci_loop.proofs.Depth.{one_depth, depth_falls}
use Rattle.sci_net.specs.declared.Source.{Source}
use Rattle.sci_net.specs.Parts.{Parts, IsBlock}
use Rattle.sci_net.specs.Net.{IsNet}
use Rattle.sci_reaction.specs.Active.{Possible}
use Rattle.sci_reaction.specs.Depends.{Depends, HasDepth, IsLoopFree, Precedes}
use Rattle.sci_reaction.specs.Memory.{Memory, Columns}
use Rattle.sci_reaction.specs.Equations.{input_in, answer, Active, IsMaskOf}
use Rattle.sci_reaction.specs.Kept.{HaveDepths}
use Rattle.sci_reaction.specs.Result.{Whole, Stopped, IsResult}
use Rattle.sci_reaction.specs.Schedule.{Entry, blocks_of}
use Rattle.sci_reaction.specs.Pass.{Progress, IsFront}
use Rattle.sci_rounds.specs.Rounds.{IsClosed, IsReady, TellsActivation}
use Rattle.sci_rounds.proofs.Fronts.{ready_is_next, ready_is_alike, all_done}
use Rattle.sci_rounds.proofs.Together.{Apart, IsNextHere, AreDone, IsStoppedIn}

-- ---- places

abbrev pub no_entry : Entry
no_entry = record { block = 0; depth = 0; always = false; mask = 0; guards = [] }

abbrev pub entry_in : List Entry → ℕ → Entry
entry_in es k = get_or es k no_entry

abbrev pub block_in_row : List Entry → ℕ → ℕ
block_in_row es k = (entry_in es k).block

abbrev pub depth_in_row : List Entry → ℕ → ℕ
depth_in_row es k = (entry_in es k).depth

pub place_of_block : (es : List Entry) (b : ℕ) → Contains (blocks_of es) b → (k : ℕ) × (k < length es) × (block_in_row es k ≡ b)
place_of_block es b h =
    let long = length-map es (λ (e : Entry). e.block) in
    let within : h.0 < length es = omega (arith, long, h.1) in
    (h.0, within, sym (get_or-map (λ (e : Entry). e.block) es h.0 no_entry b within) ∙ h.2)

pub block_at_place : (es : List Entry) (k : ℕ) → k < length es → Contains (blocks_of es) (block_in_row es k)
block_at_place es k l =
    let long = length-map es (λ (e : Entry). e.block) in
    (k, omega (arith, long, l), get_or-map (λ (e : Entry). e.block) es k no_entry (block_in_row es k) l)

-- ---- numbers that stand once

pub apart_at : (xs : List ℕ) → Apart xs → (j k : ℕ) → j < k → k < length xs → get_or xs j 0 ≡ get_or xs k 0 → ⊥
apart_at [] h j k l m e = omega (arith, m)
apart_at (x ∷ xs) h zero zero l m e = omega (arith, l)
apart_at (x ∷ xs) h zero (suc k) l m e = h.0 (k, omega (arith, m), get_or_default xs k x 0 (omega (arith, m)) ∙ sym e)
apart_at (x ∷ xs) h (suc j) zero l m e = omega (arith, l)
apart_at (x ∷ xs) h (suc j) (suc k) l m e = apart_at xs h.1 j k (omega (arith, l)) (omega (arith, m)) e

apart_drop : (xs : List ℕ) (k : ℕ) → Apart xs → Apart (drop k xs)
apart_drop xs zero h = h
apart_drop [] (suc k) h = tt
apart_drop (x ∷ xs) (suc k) h = apart_drop xs k h.1

from_take : (xs : List ℕ) (k c : ℕ) → Contains (take k xs) c → Contains xs c
from_take [] zero c h = absurd (omega (arith, h.1))
from_take [] (suc k) c h = absurd (omega (arith, h.1))
from_take (x ∷ xs) zero c h = absurd (omega (arith, h.1))
from_take (x ∷ xs) (suc k) c (zero, l, e) = (0, omega arith, e)
from_take (x ∷ xs) (suc k) c (suc j, l, e) = let r = from_take xs k c (j, omega (arith, l), e) in (suc r.0, omega (arith, r.1), r.2)

apart_take : (xs : List ℕ) (k : ℕ) → Apart xs → Apart (take k xs)
apart_take xs zero h = tt
apart_take [] (suc k) h = tt
apart_take (x ∷ xs) (suc k) h = ((λ c. h.0 (from_take xs k x c)), apart_take xs k h.1)

-- ---- what stands from one place to before another

abbrev pub part : List Entry → ℕ → ℕ → List Entry
part es start end = take (end - start) (drop start es)

pub part_at : (es : List Entry) (start end k : ℕ) (d : Entry) → k < end - start → get_or (part es start end) k d ≡ get_or es (start + k) d
part_at es start end k d l = get_or-take (end - start) (drop start es) k d l ∙ get_or-drop start es k d

pub part_long : (es : List Entry) (start end : ℕ) → start ≤ end → end ≤ length es → length (part es start end) ≡ end - start
part_long es start end l m =
    let rest = length-drop start es in length-take-le (end - start) (drop start es) (omega (arith, rest, l, m))

part_blocks : (es : List Entry) (start end : ℕ) → blocks_of (part es start end) ≡ take (end - start) (drop start (blocks_of es))
part_blocks es start end =
    sym (take-map (λ (e : Entry). e.block) (end - start) (drop start es)) ∙ ap (take (end - start)) (sym (drop-map (λ (e : Entry). e.block) start es))

pub part_apart : (es : List Entry) (start end : ℕ) → Apart (blocks_of es) → Apart (blocks_of (part es start end))
part_apart es start end h = subst Apart (sym (part_blocks es start end)) (apart_take (drop start (blocks_of es)) (end - start) (apart_drop (blocks_of es) start h))

-- an element of the part, and its place in the whole
pub place_in_part : (es : List Entry) (start end : ℕ) (e : Entry) → start ≤ end → end ≤ length es → Contains (part es start end) e
    → (k : ℕ) × (start ≤ k) × (k < end) × (k < length es) × (entry_in es k ≡ e)
place_in_part es start end e l m h =
    let long = part_long es start end l m in
    let less : h.0 < end - start = omega (arith, long, h.1) in
    let inside : start + h.0 < length es = omega (arith, less, m) in (
      start + h.0,
      omega arith,
      omega (arith, less),
      inside,
      get_or_default es (start + h.0) no_entry e inside ∙ (sym (part_at es start end h.0 e less) ∙ h.2),
    )

pub in_part : (es : List Entry) (start end k : ℕ) → start ≤ k → k < end → end ≤ length es → Contains (part es start end) (entry_in es k)
in_part es start end k l m h =
    let long = part_long es start end (omega (arith, l, m)) h in
    let same : start + (k - start) ≡ k = omega (arith, l) in (
      k - start,
      omega (arith, long, l, m),
      part_at es start end (k - start) (entry_in es k) (omega (arith, l, m))
          ∙ (ap (λ j. get_or es j (entry_in es k)) same ∙ get_or_default es k (entry_in es k) no_entry (omega (arith, m, h))),
    )

-- ---- by depth

-- the possible blocks of a source, each once, with entries that tell when it is active, by depth
pub record AreByDepth (n : Parts) (s : Source) (es : List Entry) : Type 0 where
  pub exactly : (b : ℕ) → Contains (blocks_of es) b ↔ Possible n s b
  pub apart : Apart (blocks_of es)
  pub depths : HaveDepths n s es
  pub tells : All (TellsActivation n s) es
  pub rising : AllPairs (λ (d e : Entry). d.depth ≤ e.depth) es

-- those from one place to before another are of one depth, by number
pub record IsLevel (es : List Entry) (start end : ℕ) : Type 0 where
  pub some : start < end
  pub within : end ≤ length es
  pub depth_is : (k : ℕ) → start ≤ k → k < end → depth_in_row es k ≡ depth_in_row es start
  pub numbers : (j k : ℕ) → start ≤ j → j < k → k < end → block_in_row es j ≤ block_in_row es k

module _ (n : Parts) (m : Memory) (i : Columns) (s : Source) (net : IsNet n) (free : IsLoopFree n s) (es : List Entry) (by : AreByDepth n s es) where
  possible_at : (k : ℕ) → k < length es → Possible n s (block_in_row es k)
  possible_at k l = (by.exactly (block_in_row es k)).0 (block_at_place es k l)

  depth_here : (k : ℕ) → k < length es → HasDepth n s (block_in_row es k) (depth_in_row es k)
  depth_here k l = by.depths k no_entry l

  blocks_long : length (blocks_of es) ≡ length es
  blocks_long = length-map es (λ (e : Entry). e.block)

  block_read : (k : ℕ) → k < length es → get_or (blocks_of es) k 0 ≡ block_in_row es k
  block_read k l = get_or-map (λ (e : Entry). e.block) es k no_entry 0 l

  pub apart_places : (j k : ℕ) → j < k → k < length es → block_in_row es j ≡ block_in_row es k → ⊥
  apart_places j k l h e =
      apart_at (blocks_of es) by.apart j k l (omega (arith, blocks_long, h))
      (block_read j (omega (arith, l, h)) ∙ (e ∙ sym (block_read k h)))

  -- depths don't fall
  pub not_less : (j k : ℕ) → j ≤ k → k < length es → depth_in_row es j ≤ depth_in_row es k
  not_less j k l h = ⊎_elim
      (λ same. let e = ap (depth_in_row es) same in omega (arith, e)) (λ other. by.rising j k no_entry (omega (arith, l, other)) h) (cases_eq j k)

  before_by_depth : (j k : ℕ) → j < length es → depth_in_row es j < depth_in_row es k → j < k
  before_by_depth j k l h = ⊎_elim (λ less. less) (λ more. let up = not_less k j more l in absurd (omega (arith, up, h))) (cases_lt j k)

  -- what a block depends on stands before it, at a lesser depth
  needed_before : (k : ℕ) (d : ℕ) → k < length es → Depends n s (block_in_row es k) d
      → (j : ℕ) × (j < length es) × (block_in_row es j ≡ d) × (depth_in_row es j < depth_in_row es k)
  needed_before k d l dep =
      let p = place_of_block es d ((by.exactly d).1 dep.on_possible) in (
        p.0,
        p.1,
        p.2,
        depth_falls (Depends n s) (block_in_row es k) d (depth_in_row es k) (depth_in_row es p.0) dep (depth_here k l)
            (subst (λ c. HasDepth n s c (depth_in_row es p.0)) p.2 (depth_here p.0 p.1)),
      )

  -- ---- between two levels

  -- the least block without values of the level of this depth
  pub record IsPending (depth at : ℕ) (done : List ℕ) (w : Progress) (stop : ℕ × StopWord) : Type 0 where
    pub place : ℕ
    pub within : place < at
    pub block_is : stop.0 ≡ block_in_row es place
    pub depth_is : depth_in_row es place ≡ depth
    pub ready : IsReady n s done stop.0
    pub lower : (k : ℕ) → k < at → depth_in_row es k < depth → Contains done (block_in_row es k)
    pub earlier : (k : ℕ) → k < at → depth_in_row es k ≡ depth → block_in_row es k < stop.0 → Contains done (block_in_row es k)
    pub active : Active n s w.values stop.0
    pub mask : ℕ
    pub mask_is : IsMaskOf n s w.values stop.0 mask
    pub gives : answer n m i stop.0 mask (input_in n w.values stop.0) ≡ Err stop.1

  -- the first blocks are tried: those that are done are among them, and all of them where there is no stop
  pub record IsBetween (at : ℕ) (stop : Option (ℕ × StopWord)) (done : List ℕ) (w : Progress) : Type 0 where
    pub front : IsFront n m i s done w
    pub closed : IsClosed n s done
    pub within : at ≤ length es
    pub tried : (c : ℕ) → Contains done c → (k : ℕ) × (k < at) × (block_in_row es k ≡ c)
    pub whole : stop ≡ None → (k : ℕ) → k < at → Contains done (block_in_row es k)
    pub waits : (st : ℕ × StopWord) → stop ≡ Some st → (depth : ℕ) × IsPending depth at done w st × (at < length es → depth_in_row es at ≡ depth)

  pub between_first : (w : Progress) → IsFront n m i s [] w → IsBetween 0 None [] w
  between_first w front = record {
    front = front;
    closed = record { possible = λ c h. absurd (omega (arith, h.1)); closed = λ c d h dep. absurd (omega (arith, h.1)) };
    within = omega arith;
    tried = λ c h. absurd (omega (arith, h.1));
    whole = λ is k l. absurd (omega (arith, l));
    waits = λ st is. cc;
  }

  module _ (start end : ℕ) (stop : Option (ℕ × StopWord)) (done : List ℕ) (w : Progress) (state : IsBetween start stop done w) (level : IsLevel es start end) where
    abbrev pub here : List Entry
    here = part es start end

    level_within : start < length es
    level_within = let a = level.some in let b = level.within in omega (arith, a, b)

    -- a block of a lesser depth is tried
    tried_lower : (j : ℕ) → j < length es → depth_in_row es j < depth_in_row es start → j < start
    tried_lower j l h = before_by_depth j start l h

    done_lower : (j : ℕ) → j < length es → depth_in_row es j < depth_in_row es start → Contains done (block_in_row es j)
    done_lower j l h = by_stop stop refl
      where
        by_stop : (o : Option (ℕ × StopWord)) → stop ≡ o → Contains done (block_in_row es j)
        by_stop None is = state.whole is j (tried_lower j l h)
        by_stop (Some st) is =
            let p = state.waits st is in
            let same : depth_in_row es start ≡ p.0 = p.2 level_within in
            p.1.lower j (tried_lower j l h) (omega (arith, same, h))

    pub ready_at : (k : ℕ) → start ≤ k → k < end → IsReady n s done (block_in_row es k)
    ready_at k l h =
        let inside : k < length es = let b = level.within in omega (arith, h, b) in
        record {
          possible = possible_at k inside;
          fresh = λ old. let p = state.tried (block_in_row es k) old in apart_places p.0 k (omega (arith, p.1, l)) inside p.2;
          needs = λ d dep.
              let p = needed_before k d inside dep in
              let depth = level.depth_is k l h in
              subst (Contains done) p.2 (done_lower p.0 p.1 (omega (arith, p.3, depth)));
        }

    place_here : (e : Entry) → Contains here e → (k : ℕ) × (start ≤ k) × (k < end) × (k < length es) × (entry_in es k ≡ e)
    place_here e h = place_in_part es start end e (let a = level.some in omega (arith, a)) level.within h

    pub next_here : (e : Entry) → Contains here e → IsNextHere n s done e
    next_here e h =
        let p = place_here e h in
        record {
          ready = subst (λ (x : Entry). IsReady n s done x.block) p.4 (ready_at p.0 p.1 p.2);
          tells = subst (TellsActivation n s) p.4 (by.tells p.0 no_entry p.3);
        }

    pub fresh_here : (e : Entry) → Contains here e → Contains done e.block → ⊥
    fresh_here e h old = let p = place_here e h in (ready_at p.0 p.1 p.2).fresh (subst (λ (x : Entry). Contains done x.block) (sym p.4) old)

    pub apart_here : Apart (blocks_of here)
    apart_here = part_apart es start end by.apart

    block_here : (k : ℕ) → start ≤ k → k < end → Contains (blocks_of here) (block_in_row es k)
    block_here k l h =
        let c = in_part es start end k l h level.within in
        let long = length-map here (λ (e : Entry). e.block) in
        (c.0, omega (arith, long, c.1), get_or-map (λ (e : Entry). e.block) here c.0 (entry_in es k) (block_in_row es k) c.1 ∙ ap (λ (e : Entry). e.block) c.2)

    here_place : (c : ℕ) → Contains (blocks_of here) c → (k : ℕ) × (start ≤ k) × (k < end) × (k < length es) × (block_in_row es k ≡ c)
    here_place c h =
        let q = place_of_block here c h in
        let p = place_here (entry_in here q.0) (q.0, q.1, get_or_default here q.0 (entry_in here q.0) no_entry q.1) in
        (p.0, p.1, p.2, p.3, ap (λ (e : Entry). e.block) p.4 ∙ q.2)

    -- ---- behind the level

    module _ (y z : ℕ → List ℤ) (alike : (a : ℕ) → IsBlock n a → (Possible n s a → Contains done a) → y a ≡ w.values a) (acts : ℕ → Bool) (branch mask : ℕ → ℕ) (found : Option (ℕ × StopWord))
        (r : AreDone n m i s net free done w state.closed state.front y alike z acts branch mask done w here found) where
      tried_then : (c : ℕ) → Contains r.all c → (k : ℕ) × (k < end) × (block_in_row es k ≡ c)
      tried_then c h =
          ⊎_elim (λ old. let p = state.tried c old in (p.0, let a = level.some in omega (arith, a, p.1), p.2))
          (λ new. let p = here_place c new in (p.0, p.2, p.4)) (r.among c h)

      tried_whole : stop ≡ None → found ≡ None → (k : ℕ) → k < end → Contains r.all (block_in_row es k)
      tried_whole none nothing k h =
          ⊎_elim (λ old. r.more (block_in_row es k) (state.whole none k old)) (λ new. r.whole nothing (block_in_row es k) (block_here k new h)) (cases_lt k start)

      pub whole_behind : stop ≡ None → found ≡ None → IsBetween end None r.all r.after
      whole_behind none nothing = record {
        front = r.way.front_is;
        closed = r.way.closed_is;
        within = level.within;
        tried = tried_then;
        whole = λ is. tried_whole none nothing;
        waits = λ st is. cc;
      }

      abbrev pub depth_now : ℕ
      depth_now = depth_in_row es start

      pub pending_behind : (st : ℕ × StopWord) → IsPending depth_now end r.all r.after st → (end < length es → depth_in_row es end ≡ depth_now)
          → IsBetween end (Some st) r.all r.after
      pending_behind st p goes = record {
        front = r.way.front_is;
        closed = r.way.closed_is;
        within = level.within;
        tried = tried_then;
        whole = λ is. cc;
        waits = λ st' is. let same : st ≡ st' = cc in (depth_now, subst (IsPending depth_now end r.all r.after) same p, goes);
      }

      lower_then : (k : ℕ) → k < end → depth_in_row es k < depth_now → Contains r.all (block_in_row es k)
      lower_then k l h = r.more (block_in_row es k) (done_lower k (let b = level.within in omega (arith, l, b)) h)

      -- an entry of the level before the one that stops is done
      before_stop : (st : ℕ × StopWord) → IsStoppedIn n m i s net free done w state.closed state.front y alike z acts branch mask here r.all r.after st
          → (k : ℕ) → start ≤ k → k < end → block_in_row es k < st.0 → Contains r.all (block_in_row es k)
      before_stop st h k l less low = ⊎_elim
          (λ earlier. subst (λ (x : Entry). Contains r.all x.block)
          (part_at es start end (k - start) no_entry (omega (arith, less, l)) ∙ (let same : start + (k - start) ≡ k = omega (arith, l) in ap (entry_in es) same))
          (h.earlier (k - start) no_entry earlier))
          (λ later. absurd (too_low later))
          (cases_lt (k - start) h.place)
        where
          at_place : block_in_row es (start + h.place) ≡ st.0
          at_place =
              let long = part_long es start end (let a = level.some in omega (arith, a)) level.within in
              let l2 = h.within in
              ap (λ (x : Entry). x.block) (sym (part_at es start end h.place no_entry (omega (arith, long, l2)))
              ∙ (get_or_default here h.place no_entry h.entry h.within ∙ h.read)) ∙ sym h.block_is

          too_low : h.place ≤ k - start → ⊥
          too_low later = ⊎_elim
              (λ same. let e = ap (block_in_row es) same in omega (arith, e, at_place, low))
              (λ other. let up = level.numbers (start + h.place) k (omega arith) (omega (arith, later, l, other)) less in omega (arith, up, at_place, low))
              (cases_eq (start + h.place) k)

      pub stopped_here : (st : ℕ × StopWord) → found ≡ Some st → ((k : ℕ) → k < start → depth_in_row es k ≡ depth_now → block_in_row es k < st.0 → Contains done (block_in_row es k))
          → IsPending depth_now end r.all r.after st
      stopped_here st is old =
          let h = r.stopped st is in
          let long = part_long es start end (let a = level.some in omega (arith, a)) level.within in
          let l2 = h.within in
          let within : start + h.place < end = omega (arith, long, l2) in
          let read : entry_in es (start + h.place) ≡ h.entry =
          sym (part_at es start end h.place no_entry (omega (arith, long, l2))) ∙ (get_or_default here h.place no_entry h.entry h.within ∙ h.read) in
          let block : block_in_row es (start + h.place) ≡ st.0 = ap (λ (x : Entry). x.block) read ∙ sym h.block_is in
          let ready = ready_at (start + h.place) (omega arith) within in
          record {
            place = start + h.place;
            within = within;
            block_is = sym block;
            depth_is = level.depth_is (start + h.place) (omega arith) within;
            ready = record {
              possible = subst (Possible n s) block ready.possible;
              fresh = h.fresh;
              needs = λ d dep. r.more d (ready.needs d (subst (λ b. Depends n s b d) (sym block) dep));
            };
            lower = lower_then;
            earlier = λ k l depth low. ⊎_elim (λ before. r.more (block_in_row es k) (old k before depth low)) (λ new. before_stop st h k new l low) (cases_lt k start);
            active = h.active;
            mask = _;
            mask_is = h.mask_is;
            gives = h.gives;
          }

      -- a stop of before stays
      pub still_stopped : (st : ℕ × StopWord) → stop ≡ Some st → ((k : ℕ) → start ≤ k → k < end → block_in_row es k < st.0 → Contains r.all (block_in_row es k))
          → IsPending depth_now end r.all r.after st
      still_stopped st is new =
          let p = state.waits st is in
          let same : depth_in_row es start ≡ p.0 = p.2 level_within in
          let old = p.1 in
          let alike_now = ready_is_alike n m i s done st.0 w.values r.after.values net free state.closed old.ready (λ a inside h. r.way.same a h) in
          record {
            place = old.place;
            within = let a = level.some in let b = old.within in omega (arith, a, b);
            block_is = old.block_is;
            depth_is = old.depth_is ∙ sym same;
            ready = record {
              possible = old.ready.possible;
              fresh = λ h. ⊎_elim old.ready.fresh
                  (λ in_level. let q = here_place st.0 in_level in
                  let b = old.within in apart_places old.place q.0 (omega (arith, b, q.1)) q.3 (sym old.block_is ∙ sym q.4))
                  (r.among st.0 h);
              needs = λ d dep. r.more d (old.ready.needs d dep);
            };
            lower = lower_then;
            earlier = λ k l depth low. ⊎_elim (λ before. r.more (block_in_row es k) (old.earlier k before (depth ∙ same) low)) (λ at. new k at l low) (cases_lt k start);
            active = alike_now.active old.active;
            mask = old.mask;
            mask_is = alike_now.masks old.mask old.mask_is;
            gives = sym (alike_now.answers old.mask) ∙ old.gives;
          }

      -- no stop before, and one here
      pub first_stop : (st : ℕ × StopWord) → stop ≡ None → found ≡ Some st → IsPending depth_now end r.all r.after st
      first_stop st none is = stopped_here st is (λ k l depth low. state.whole none k l)

      -- one before, and none here
      pub only_stop : (st : ℕ × StopWord) → stop ≡ Some st → found ≡ None → IsPending depth_now end r.all r.after st
      only_stop st is nothing = still_stopped st is (λ k l less low. r.whole nothing (block_in_row es k) (block_here k l less))

      -- one before, at a lesser block than the one here
      pub older_stop : (st new : ℕ × StopWord) → stop ≡ Some st → found ≡ Some new → st.0 ≤ new.0 → IsPending depth_now end r.all r.after st
      older_stop st new is at less = still_stopped st is (λ k l h low. before_stop new (r.stopped new at) k l h (omega (arith, low, less)))

      -- or not
      pub newer_stop : (st old : ℕ × StopWord) → stop ≡ Some old → found ≡ Some st → st.0 ≤ old.0 → IsPending depth_now end r.all r.after st
      newer_stop st old is at less =
          let p = state.waits old is in
          let same : depth_in_row es start ≡ p.0 = p.2 level_within in
          stopped_here st at (λ k l depth low. p.1.earlier k l (depth ∙ same) (omega (arith, low, less)))

  -- ---- what it comes to

  -- behind the last entry of a depth the reaction stops
  pub stops_there : (depth end : ℕ) (done : List ℕ) (w : Progress) (st : ℕ × StopWord) → IsFront n m i s done w → IsClosed n s done → end ≤ length es
      → IsPending depth end done w st → (end ≡ length es) ⊎ (depth ≢ depth_in_row es end) → IsResult n m i s (Stopped st.0 st.1)
  stops_there depth end done w st front closed within p last =
      (ready_is_next n m i s done w st.0 net free closed front p.ready).stops p.mask st.1 before p.active p.mask_is p.gives
    where
      inside : p.place < length es
      inside = let a = p.within in omega (arith, a, within)

      own_depth : HasDepth n s st.0 depth
      own_depth = subst (λ b. HasDepth n s b depth) (sym p.block_is) (subst (HasDepth n s (block_in_row es p.place)) p.depth_is (depth_here p.place inside))

      -- one of this depth stands before the end
      within_level : (k : ℕ) → k < length es → depth_in_row es k ≡ depth → k < end
      within_level k l same = ⊎_elim (λ less. less)
          (λ more. absurd (⊎_elim (λ all. omega (arith, all, more, l))
          (λ other.
          let a = p.within in
          let here : end < length es = omega (arith, more, l) in
          let up = not_less end k more l in
          let low = not_less p.place end (omega (arith, a)) here in
          let is = p.depth_is in
          other (omega (arith, up, low, is, same))) last))
          (cases_lt k end)

      before : (c : ℕ) → Possible n s c → Precedes n s c st.0 → Contains done c
      before c may pre =
          let q = place_of_block es c ((by.exactly c).1 may) in
          let first : pre.depth ≡ depth_in_row es q.0 =
          one_depth (Depends n s) c pre.depth (depth_in_row es q.0) pre.has (subst (λ b. HasDepth n s b (depth_in_row es q.0)) q.2 (depth_here q.0 q.1)) in
          let second : pre.later_depth ≡ depth = one_depth (Depends n s) st.0 pre.later_depth depth pre.later_has own_depth in
          subst (Contains done) q.2
          (⊎_elim
          (λ less.
          let a = p.within in
          let low : depth_in_row es q.0 < depth = omega (arith, less, first, second) in
          let is = p.depth_is in
          let place = before_by_depth q.0 p.place q.1 (omega (arith, low, is)) in
          p.lower q.0 (omega (arith, place, a)) low)
          (λ level.
          let same : depth_in_row es q.0 ≡ depth = omega (arith, level.0, first, second) in
          let number = level.1 in
          let is = q.2 in
          p.earlier q.0 (within_level q.0 q.1 same) same (omega (arith, number, is)))
          pre.less)

  -- behind the last entry
  pub whole_result : (done : List ℕ) (w : Progress) → IsBetween (length es) None done w → IsResult n m i s (Whole w.values)
  whole_result done w state =
      all_done n m i s done w state.front
      (λ c may. let q = place_of_block es c ((by.exactly c).1 may) in subst (Contains done) q.2 (state.whole refl q.0 q.1))
