-- One reaction, block by block in the order of what they depend on: each is known.
use Rattle.std.proofs.Common.{◌≡◌, ℕ, suc, ◌+◌, ◌<◌, Bool, true, false, ℤ, List, length, refl, sym, subst, ◌∙◌, arith, inl, inr, ⊎_elim}
use Rattle.std.specs.Prelude.{Ok, Err}
use Rattle.sci_base.specs.declared.observation.StopWord.{StopWord}
use Rattle.sci_base.specs.Lists.{at, truth_at}
use Rattle.sci_forms.specs.declared.Kind.{Kind}
use Rattle.sci_forms.specs.declared.Kind.TheVariants.{IfThEl, ESelect}
use Rattle.sci_forms.specs.Form.{is_sync, feeds}
use Rattle.sci_forms.specs.Ports.{elements, total, port_at, Fills}
use Rattle.sci_kinds.specs.Asks.{Asks}
use Rattle.sci_kinds.specs.Table.{state_len}
use Rattle.sci_kinds.proofs.LawProofs.{asks}
use Rattle.sci_kinds.proofs.TypedLemmas.{Tests, tests, only_total}
use Rattle.sci_loop.specs.Grounded.{Grounded, grounded}
use Rattle.sci_net.specs.declared.Source.{Source}
use Rattle.sci_net.specs.Net.{IsNet}
use Rattle.sci_net.specs.Parts.{Parts, IsBlock, IsInput, spec_of, wire_of, input_of}
use Rattle.sci_reaction.specs.Active.{IsSync, Possible}
use Rattle.sci_reaction.specs.Depends.{Conditions, Depends, IsLoopFree, Precedes}
use Rattle.sci_reaction.specs.Memory.{Memory, IsMemory, Columns, AreColumns}
use Rattle.sci_reaction.specs.Equations.{Signals, Takes, Active, Gives, Meets, input_in, all_inputs}
use Rattle.sci_reaction.specs.Result.{Whole, Stopped, IsResult}
use Rattle.sci_reaction.proofs.Decide.{decide_possible}
use Rattle.sci_reaction.proofs.Fills.{input_in_range}
use Rattle.sci_reaction.proofs.OneResult.{ground, need_precedes, precedes_trans}
use Rattle.sci_reaction.proofs.Ranges.{laid_in_range}
use Rattle.sci_reaction.proofs.Spreading.{possible, Spread-block}
use Rattle.sci_ranges_base.specs.Intervals.{IsIn, IsInSome, range_at}
use Rattle.sci_ranges_rules.specs.Rules.{state_range, taking}
use Rattle.sci_ranges_rules.proofs.Feeding.{fed_kind}
use Rattle.sci_ranges_reads.specs.Live.{MayAct, IsLive, AreKnown}
use Rattle.sci_ranges_reads.proofs.Acting.{active_may_act}
use Rattle.sci_ranges.specs.Columns.{KeepWithin}
use Rattle.sci_ranges.specs.Table.{Table}
use Rattle.sci_ranges.specs.Reads.{fed_element}
use Rattle.sci_ranges.specs.Closed.{IsBlockClosed, IsClosed}
use Rattle.sci_ranges.proofs.Sensing.{sync_other, keep_in_type}
use Rattle.sci_ranges.proofs.Reading.{IsBefore, Known, read_has, taking_has, apart, taken}
use Rattle.sci_ranges.proofs.Reacting.{HaveMore, first_there, fed_inside, first_input, given_in, given_fills, stop_in}
use Rattle.sci_ranges.proofs.Needing.{Needs, direct, need_possible, handed_on, needs_end}
use Rattle.sci_ranges.proofs.Refining.{taken_more}

-- a kind that chooses a branch has feedthrough, and one element goes in
sync_feeds : (c : Kind) (k : ℕ) → is_sync c ≡ true → feeds c k ≡ true
sync_feeds IfThEl k h = refl
sync_feeds ESelect k h = refl
sync_feeds _ k h = cc

one_goes_in : (n : Parts) → IsNet n → (b : ℕ) → IsBlock n b → IsSync n b → elements (port_at (spec_of n b).ins 0) ≡ 1
one_goes_in n net b block sync = by_kind (spec_of n b).kind sync (tests (spec_of n b).kind (spec_of n b) (net.typed_specs b block)) (asks (spec_of n b) (net.typed_specs b block))
  where
    by_kind : (c : Kind) → is_sync c ≡ true → Tests c (spec_of n b) → Asks c (spec_of n b) → elements (port_at (spec_of n b).ins 0) ≡ 1
    by_kind IfThEl h t a = let one : length (spec_of n b).ins ≡ 1 = omega (arith, t.ins_least, t.ins_most) in sym (only_total (spec_of n b).ins one) ∙ a.1
    by_kind ESelect h t a = let one : length (spec_of n b).ins ≡ 1 = omega (arith, t.ins_least, t.ins_most) in sym (only_total (spec_of n b).ins one) ∙ a.1
    by_kind _ h t a = cc

module _ (n : Parts) (i j : Columns) (t : Table) (m : Memory) (s : Source) (y : Signals) (net : IsNet n) (memory : IsMemory n m) (live : IsLive n t.dead s) (old : IsBefore n t m s)
    (states : (b k : ℕ) → IsBlock n b → k < state_len (spec_of n b) → IsIn (state_range (t.states b) k) (at (m.state b) k)) (columns : AreColumns n i) (keeps : KeepWithin n i j)
    (closed : IsClosed n i t) where
  -- a block is known where what it depends on is
  module _ (b : ℕ) (block : IsBlock n b) (needs : (c : ℕ) → Needs n s b c → Known n j t m s y c)
      (idle : (c : ℕ) → IsBlock n c → (Possible n s c → ⊥) → Known n j t m s y c) where
    feeders : Active n s y b → (k : ℕ) → k < length (spec_of n b).ins → truth_at (spec_of n b).feed k ≡ true → Known n j t m s y (wire_of n b (suc k)).block
    feeders on k l through =
        let within : IsInput n b (suc k) = record { block = block; least = omega arith; most = omega (arith, l) } in
        ⊎_elim
        (λ p. needs (wire_of n b (suc k)).block (direct (wire_of n b (suc k)).block
        (record { possible = possible n s _ on; on_possible = p; waits = inl (record { input = suc k; within = within; from = refl; through = through }) })))
        (λ out. idle (wire_of n b (suc k)).block (net.wired.wires_lead b (suc k) within).block out)
        (decide_possible n s (wire_of n b (suc k)).block)

    conditions : Active n s y b → (c : ℕ) → Conditions n c b → Active n s y c → Known n j t m s y c
    conditions on c decides active = needs c (direct c (record { possible = possible n s _ on; on_possible = possible n s _ active; waits = inr decides }))

    are_known : Active n s y b → AreKnown n t.dead s y b
    are_known on c p active decides takes = let k = conditions on c decides active in (k.acts active, k.takes p active decides.sync takes)

    may_act : Active n s y b → MayAct n t.dead s b
    may_act on = active_may_act n t.dead s y b (are_known on) on

    block_closed : Active n s y b → IsBlockClosed n i t b
    block_closed on = closed.blocks b (record { source = s; live = live; acts = may_act on })

    have_more : (on : Active n s y b) → HaveMore n i t b (block_closed on).inputs (all_inputs (spec_of n b) (taken n m y b))
    have_more on = taken_more n i j t m s y net live old idle b (record { block = block; on = on; needs = needs }) (block_closed on).inputs (block_closed on).enter

    -- ---- what it shows, and what stops it

    shows_in : (vs : List ℤ) → Gives n m j s y b (Ok vs) → (e : ℕ) → e < total (spec_of n b).outs → IsInSome (range_at (t.shows b) e) (at vs e)
    shows_in vs g e l =
        given_in n i j t m s y net memory live old states columns keeps b g.mask block g.active (may_act g.active) (are_known g.active) g.mask_is (conditions g.active)
        (block_closed g.active) (feeders g.active) (have_more g.active) vs e g.answer_is l

    fills_in : (vs : List ℤ) → Gives n m j s y b (Ok vs) → Fills (spec_of n b).outs vs
    fills_in vs g =
        given_fills n i j t m s y net memory live old states columns keeps b g.mask block g.active (may_act g.active) (are_known g.active) g.mask_is (conditions g.active)
        (block_closed g.active) (feeders g.active) (have_more g.active) (keep_in_type n i j columns keeps) vs g.answer_is

    pub word_listed : (word : StopWord) → Gives n m j s y b (Err word) → t.stops b word ≡ true
    word_listed word g =
        stop_in n i j t m s y net memory live old states columns keeps b g.mask block g.active (may_act g.active) (are_known g.active) g.mask_is (conditions g.active)
        (block_closed g.active) (feeders g.active) (have_more g.active) word g.answer_is

    -- ---- a condition

    through_first : IsSync n b → truth_at (spec_of n b).feed 0 ≡ true
    through_first sync = fed_kind (spec_of n b) (net.typed_specs b block) 0 (omega (arith, (first_there n net b block sync).most)) (sync_feeds (spec_of n b).kind (0 + 1) sync)

    first_feeder : Active n s y b → IsSync n b → Known n j t m s y (wire_of n b 1).block
    first_feeder on sync = feeders on 0 (omega (arith, (first_there n net b block sync).most)) (through_first sync)

    some_element : IsSync n b → 0 < elements (input_of n b 1)
    some_element sync = omega (arith, one_goes_in n net b block sync)

    enters : Active n s y b → IsSync n b → Fills (spec_of n b).ins (all_inputs (spec_of n b) (input_in n y b))
    enters on sync =
        laid_in_range (spec_of n b).ins (input_in n y b)
        (λ k l. input_in_range n net y b k (record { block = block; least = omega arith; most = omega (arith, l) })
        (feeders on k l (fed_kind (spec_of n b) (net.typed_specs b block) k l (sync_feeds (spec_of n b).kind (k + 1) sync))).fills)

    -- no branch is taken that is dead
    not_dead : (p : ℕ) → Active n s y b → IsSync n b → Takes n y b p → t.dead b p ≡ false
    not_dead p on sync takes = by_dead (t.dead b p) refl
      where
        by_dead : (d : Bool) → t.dead b p ≡ d → t.dead b p ≡ false
        by_dead true e =
            let r = closed.dead b p sync e in
            let inside = first_there n net b block sync in
            let some = some_element sync in
            let feeder = first_feeder on sync in
            let there =
            read_has n j t m s y net live old b on (may_act on) (are_known on) (conditions on) 1 0 (λ z. absurd (sync_other (spec_of n b).kind sync z)) feeder
            (fed_inside n net b 1 0 inside some) (first_input n net s y b 1 0 inside some) r.1 in
            absurd (apart r.0 (taking (spec_of n b) p) (at (y (wire_of n b 1).block) (fed_element n b 1 0)) r.2 there
            (taking_has n net y b p block sync takes (enters on sync) inside some))
        by_dead false e = e

    -- ---- all that is known of it

    pub known_of : Meets n m j s y b → Known n j t m s y b
    known_of meets = record {
      block = block;
      meets = meets;
      fills = ⊎_elim (λ g. fills_in (y b) g) (λ off. subst (Fills (spec_of n b).outs) (sym off.held) (memory.held b block)) meets;
      acts = may_act;
      shown = λ on e l. ⊎_elim (λ g. shows_in (y b) g e l) (λ off. absurd (off.idle on)) meets;
      takes = not_dead;
      entering = enters;
    }

  -- ---- in the order of the row

  module _ (free : IsLoopFree n s) (done : ℕ → Type 0) (meets : (c : ℕ) → IsBlock n c → done c → Meets n m j s y c) (onward : (c d : ℕ) → done c → Depends n s c d → done d)
      (rests : (c : ℕ) → (Possible n s c → ⊥) → done c) where
    idle_known : (b : ℕ) → IsBlock n b → (Possible n s b → ⊥) → Known n j t m s y b
    idle_known b block out = record {
      block = block;
      meets = meets b block (rests b out);
      fills = ⊎_elim (λ g. absurd (out (possible n s _ g.active))) (λ off. subst (Fills (spec_of n b).outs) (sym off.held) (memory.held b block)) (meets b block (rests b out));
      acts = λ on. absurd (out (possible n s _ on));
      shown = λ on. absurd (out (possible n s _ on));
      takes = λ p on. absurd (out (possible n s _ on));
      entering = λ on. absurd (out (possible n s _ on));
    }

    known_at : {b : ℕ} → Grounded (Needs n s) b → IsBlock n b → done b → Known n j t m s y b
    known_at (grounded b needs) block d =
        known_of b block (λ c need. known_at (needs c need) (Spread-block n s _ (need_possible n s b need)) (handed_on n s b done (λ a w. onward b a d w) onward need)) idle_known
        (meets b block d)

    pub all_known : (b : ℕ) → IsBlock n b → done b → Known n j t m s y b
    all_known b block d = known_at (needs_end n s (ground n s free b block)) block d

    -- a block that has no value stops by a word that is listed, where what it depends on is done
    pub stop_listed : (b : ℕ) (word : StopWord) → ((c : ℕ) → Depends n s b c → done c) → Gives n m j s y b (Err word) → t.stops b word ≡ true
    stop_listed b word before g =
        word_listed b (Spread-block n s _ g.active)
        (λ c need. all_known c (Spread-block n s _ (need_possible n s b need)) (handed_on n s b done before onward need)) idle_known word g

  -- where all equations are met, each block is known
  pub whole_known : IsLoopFree n s → IsResult n m j s (Whole y) → (b : ℕ) → IsBlock n b → Known n j t m s y b
  whole_known free whole b block = all_known free (λ c. Unit {0}) (λ c inside d. whole c inside) (λ c d h need. tt) (λ c out. tt) b block tt

-- where a block stops a reaction, the table lists its word
pub stops_listed : (n : Parts) (i j : Columns) (t : Table) (m : Memory) (s : Source) → IsNet n → IsMemory n m → IsLive n t.dead s → IsBefore n t m s
    → ((b k : ℕ) → IsBlock n b → k < state_len (spec_of n b) → IsIn (state_range (t.states b) k) (at (m.state b) k)) → AreColumns n i → KeepWithin n i j → IsClosed n i t → IsLoopFree n s
    → (b : ℕ) (word : StopWord) → IsResult n m j s (Stopped b word) → t.stops b word ≡ true
stops_listed n i j t m s net memory live old states columns keeps closed free b word h =
    stop_listed n i j t m s h.0 net memory live old states columns keeps closed free (λ c. Possible n s c → Precedes n s c b) (λ c inside d. h.1 c inside d)
    (λ c d before need may. precedes_trans n s free d c b (need_precedes n s free c d need) (before need.possible)) (λ c out may. absurd (out may)) b word
    (λ c need may. need_precedes n s free b c need) h.2
