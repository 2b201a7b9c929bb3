-- What is read lies in the interval that is read.
use Rattle.std.proofs.Common.{◌≡◌, ℕ, ◌+◌, ◌-◌, ◌<◌, Bool, true, false, cond, ℤ, List, Option, Some, None, refl, sym, ap, subst, ◌∙◌, inl, inr, ⊎_elim, ◌⊎◌}
use Rattle.sci_base.specs.Lists.{at}
use Rattle.sci_forms.specs.declared.Kind.{Kind}
use Rattle.sci_forms.specs.declared.Kind.TheVariants.{Select}
use Rattle.sci_forms.specs.Ports.{elements, total, before, Fills}
use Rattle.sci_kinds.specs.Table.{first_held}
use Rattle.sci_net.specs.declared.Feed.{Feed}
use Rattle.sci_net.specs.declared.Source.{Source}
use Rattle.sci_net.specs.declared.Wire.{Wire}
use Rattle.sci_net.specs.Net.{IsNet}
use Rattle.sci_net.specs.Parts.{Parts, IsBlock, IsInput, spec_of, wire_of, input_of}
use Rattle.sci_reaction.specs.Active.{IsSync}
use Rattle.sci_reaction.specs.Depends.{Conditions}
use Rattle.sci_reaction.specs.Links.{has_feedthrough}
use Rattle.sci_reaction.specs.Memory.{Memory, Columns}
use Rattle.sci_reaction.specs.Equations.{Signals, Takes, Active, IsActivated, Meets, branch_on, input_in, all_inputs}
use Rattle.sci_ranges_base.specs.declared.interval.Interval.{Interval}
use Rattle.sci_ranges_base.specs.Intervals.{IsIn, IsInSome, one, meet, range_at}
use Rattle.sci_ranges_base.proofs.Numbers.{met_has}
use Rattle.sci_ranges_rules.specs.Rules.{taking}
use Rattle.sci_ranges_rules.proofs.Handing.{join_has}
use Rattle.sci_ranges_rules.proofs.Turning.{branch_covers}
use Rattle.sci_ranges_reads.specs.Live.{MayAct, IsLive, AreKnown}
use Rattle.sci_ranges_reads.specs.Reading.{ActsWith, HasActed}
use Rattle.sci_ranges_reads.proofs.Acting.{acts_too_is_active, fed_too_is_active, under_is_taken}
use Rattle.sci_ranges.specs.Table.{Table, held_range}
use Rattle.sci_ranges.specs.Reads.{Reads, holds, shows, under, fed_element}
use Rattle.sci_ranges.proofs.Wires.{input_at}

-- before a reaction: what is held is within the table, and what has acted holds what it has shown
pub record IsBefore (n : Parts) (t : Table) (m : Memory) (s : Source) : Type 0 where
  pub held : (b e : ℕ) → IsBlock n b → e < total (spec_of n b).outs → IsInSome (held_range n t b e) (at (m.held b) e)
  pub acted : (b e : ℕ) → HasActed n t.dead s b → IsBlock n b → e < total (spec_of n b).outs → IsInSome (range_at (t.shows b) e) (at (m.held b) e)

-- What is known of a block in a reaction: its equation, and that its values are in range; of an active one, that it may act, what it shows, that it takes no
-- dead branch, and what goes into a condition.
pub record Known (n : Parts) (j : Columns) (t : Table) (m : Memory) (s : Source) (y : Signals) (b : ℕ) : Type 0 where
  pub block : IsBlock n b
  pub meets : Meets n m j s y b
  pub fills : Fills (spec_of n b).outs (y b)
  pub acts : Active n s y b → MayAct n t.dead s b
  pub shown : Active n s y b → (e : ℕ) → e < total (spec_of n b).outs → IsInSome (range_at (t.shows b) e) (at (y b) e)
  pub takes : (p : ℕ) → Active n s y b → IsSync n b → Takes n y b p → t.dead b p ≡ false
  pub entering : Active n s y b → IsSync n b → Fills (spec_of n b).ins (all_inputs (spec_of n b) (input_in n y b))

-- the values on an input with feedthrough, and what is held in place of the others
abbrev pub taken : Parts → Memory → Signals → ℕ → ℕ → List ℤ
taken n m y b k = cond (has_feedthrough (spec_of n b) k) (input_in n y b k) (input_in n m.held b k)

pub chosen_at : (t : Bool) (x z : List ℤ) → t ≡ true → cond t x z ≡ x
chosen_at true x z e = refl
chosen_at false x z e = cc

met_some : (p : Option Interval) (i : Interval) (v : ℤ) → IsInSome p v → IsIn i v → IsInSome (meet p (Some i)) v
met_some None i v h k = absurd h
met_some (Some p) i v h k = met_has p i v h k

-- no number lies in two intervals that don't meet
pub apart : (p : Option Interval) (i : Interval) (v : ℤ) → meet p (Some i) ≡ None → IsInSome p v → IsIn i v → ⊥
apart p i v e h k = let there = met_some p i v h k in subst (λ o. IsInSome o v) e there

-- the number on which a condition takes its branch is one that takes it
pub taking_has : (n : Parts) → IsNet n → (y : Signals) (b p : ℕ) → IsBlock n b → IsSync n b → Takes n y b p → Fills (spec_of n b).ins (all_inputs (spec_of n b) (input_in n y b))
    → IsInput n b 1 → 0 < elements (input_of n b 1) → IsIn (taking (spec_of n b) p) (at (y (wire_of n b 1).block) (fed_element n b 1 0))
unfolding branch_on
taking_has n net y b p block sync takes fills inside some =
    let u = all_inputs (spec_of n b) (input_in n y b) in
    let number : IsIn (taking (spec_of n b) p) (at u 0) =
    subst (λ q. IsIn (taking (spec_of n b) q) (at u 0)) takes (branch_covers (spec_of n b) u (net.typed_specs b block) sync fills) in
    let here : at u 0 ≡ at (y (wire_of n b 1).block) (fed_element n b 1 0) = input_at n net y b 0 0 inside some in
    subst (IsIn (taking (spec_of n b) p)) here number

module _ (n : Parts) (j : Columns) (t : Table) (m : Memory) (s : Source) (y : Signals) (net : IsNet n) (live : IsLive n t.dead s) (old : IsBefore n t m s) where
  -- what a block has on its outputs is what it may hold
  pub held_now : (b e : ℕ) → Known n j t m s y b → e < total (spec_of n b).outs → IsInSome (held_range n t b e) (at (y b) e)
  held_now b e k l =
      ⊎_elim (λ on. join_has (Some (one (at (first_held (spec_of n b)) e))) (range_at (t.shows b) e) (at (y b) e) (inr (k.shown on.active e l)))
      (λ off. subst (λ vs. IsInSome (held_range n t b e) (at vs e)) (sym off.held) (old.held b e k.block l))
      k.meets

  -- of one that is active or has acted, what it shows
  pub shown_now : (b e : ℕ) → Known n j t m s y b → (HasActed n t.dead s b) ⊎ (Active n s y b) → e < total (spec_of n b).outs → IsInSome (range_at (t.shows b) e) (at (y b) e)
  shown_now b e k (inr on) l = k.shown on e l
  shown_now b e k (inl acted) l =
      ⊎_elim (λ on. k.shown on.active e l) (λ off. subst (λ vs. IsInSome (range_at (t.shows b) e) (at vs e)) (sym off.held) (old.acted b e acted k.block l)) k.meets

  -- what block b reads, where it is active
  module _ (b : ℕ) (on : Active n s y b) (may : MayAct n t.dead s b) (known : AreKnown n t.dead s y b)
      (conditions : (c : ℕ) → Conditions n c b → Active n s y c → Known n j t m s y c) where
    acts_with : (k : ℕ) (c : Kind) → (c ≡ Select → IsActivated n s y b k) → ActsWith c n t.dead s (wire_of n b k).block b k → Active n s y (wire_of n b k).block
    acts_with k Select chosen w = fed_too_is_active n t.dead s y (wire_of n b k).block b k known w (chosen refl)
    acts_with k _ chosen w = acts_too_is_active n t.dead s y (wire_of n b k).block b known w on

    -- the first element of the condition of which b is under a branch, by the wire of input k
    under_has : (k d : ℕ) (q : Feed) → IsSync n q.block → Active n s y q.block → Takes n y q.block q.port → Known n j t m s y q.block → wire_of n q.block 1 ≡ wire_of n b k → d ≡ 0
        → IsInput n q.block 1 → 0 < elements (input_of n q.block 1) → IsIn (taking (spec_of n q.block) q.port) (at (y (wire_of n b k).block) (fed_element n b k d))
    under_has k d q sync active takes kq same first inside some =
        let number = taking_has n net y q.block q.port kq.block sync takes (kq.entering active sync) inside some in
        let there : at (y (wire_of n q.block 1).block) (fed_element n q.block 1 0) ≡ at (y (wire_of n b k).block) (fed_element n b k 0) =
        ap (λ (w : Wire). at (y w.block) (before (spec_of n w.block).outs (w.port - 1) + 0)) same in
        subst (IsIn (taking (spec_of n q.block) q.port)) (there ∙ ap (λ e. at (y (wire_of n b k).block) (fed_element n b k e)) (sym first)) number

    pub read_has : (k d : ℕ) {o : Option Interval} → ((spec_of n b).kind ≡ Select → IsActivated n s y b k) → Known n j t m s y (wire_of n b k).block
        → fed_element n b k d < total (spec_of n (wire_of n b k).block).outs
        → ((q : Feed) → IsSync n q.block → wire_of n q.block 1 ≡ wire_of n b k → d ≡ 0 → Active n s y q.block → IsInput n q.block 1 × (0 < elements (input_of n q.block 1)))
        → Reads n t b k d o → IsInSome o (at (y (wire_of n b k).block) (fed_element n b k d))
    read_has k d chosen feeder l first holds = held_now (wire_of n b k).block (fed_element n b k d) feeder l
    read_has k d chosen feeder l first (shows sh) =
        shown_now (wire_of n b k).block (fed_element n b k d) feeder
        (⊎_elim (λ acted. inl acted) (λ w. inr (acts_with k (spec_of n b).kind chosen w)) (sh s live may)) l
    read_has k d chosen feeder l first (under q p r sync alone same head) =
        let way = under_is_taken n t.dead s y b q known (alone s live may) on in
        let kq = conditions q.block (record { sync = sync; branch = q.port; reaches = way.3 }) way.0 in
        let there = first q sync same head way.0 in
        met_some p (taking (spec_of n q.block) q.port) (at (y (wire_of n b k).block) (fed_element n b k d)) (read_has k d chosen feeder l first r)
        (under_has k d q sync way.0 way.2 kq same head there.0 there.1)
