-- What goes into a block, as the pass reads it.
use Rattle.std.proofs.Common.{◌≡◌, ℕ, zero, suc, ◌+◌, ◌-◌, ◌<◌, ◌≤◌, Bool, true, false, ◌&&◌, nat_eq, cond, List, [], ◌∷◌, length, slice_index_or, Option, Some, None, refl, sym, ap, subst, ◌∙◌, arith, length-append, inl, inr, Contains, true≢false}
use Rattle.std.proofs.lemmas.Bool.{cases_lt}
use Rattle.std.proofs.lemmas.List.{get_or_append_left, get_or-append_right, get_or_push}
use Rattle.std.proofs.lemmas.Nat.Bits.{bit_at-zero}
use Rattle.std.specs.Int.{bit_at}
use Rattle.sci_forms.specs.declared.Kind.{Kind}
use Rattle.sci_forms.specs.declared.Kind.TheVariants.{Select, AndLog}
use Rattle.sci_forms.specs.declared.ports.Port.{Port}
use Rattle.sci_forms.specs.declared.spec.Spec.{Spec}
use Rattle.sci_forms.specs.Form.{is_sensor, is_sync, reads_mask}
use Rattle.sci_forms.specs.Ports.{elements, port_at, before}
use Rattle.sci_forms.proofs.TestLemmas.{nat_same}
use Rattle.sci_kinds.proofs.LawProofs.{asks}
use Rattle.sci_kinds.proofs.TypedLemmas.{Tests, tests}
use Rattle.sci_net.specs.declared.Feed.{Feed}
use Rattle.sci_net.specs.declared.Wire.{Wire}
use Rattle.sci_net.specs.Net.{IsNet}
use Rattle.sci_net.specs.Parts.{Parts, IsBlock, IsInput, spec_of, wire_of, input_of}
use Rattle.sci_reaction.specs.Memory.{Columns}
use Rattle.sci_reaction.proofs.Lists.{and_both}
use Rattle.sci_run.specs.Laws.{AreLoopFree}
use Rattle.sci_ranges_base.specs.declared.masks.Masks.{Masks}
use Rattle.sci_ranges_base.specs.Intervals.{meet, range_at}
use Rattle.sci_ranges_rules.specs.Rules.{taking}
use Rattle.sci_ranges_reads.specs.Reading.{IsShown, AreMasksAt}
use Rattle.sci_ranges.specs.Columns.{sensed_range}
use Rattle.sci_ranges.specs.Table.{held_range}
use Rattle.sci_ranges.specs.Reads.{Reads, holds, shows, under, Enters, HaveMasks, fed_element}
use Rattle.sci_ranges.proofs.Sensing.{sensor_asks}
use Rattle.sci_ranges_rows.specs.Marks.{Marks, AreMarks, dead_of}
use Rattle.sci_ranges_rows.specs.Tests.{is_shown, is_under, masks_of}
use Rattle.sci_ranges_rows.proofs.Testing.{shown_by_test, under_by_test, masks_by_test}
use Rattle.sci_ranges_pass.specs.Ranges.{Ranges, table_of, plain_range, same_wire, conditions, under_range, read_range, read_port, read_ports, entered, any_mask, masks_for}

abbrev wire : ℕ → ℕ → Wire
wire b p = record { block = b; port = p }

same_parts : (a b p q : ℕ) → a ≡ b → p ≡ q → wire a p ≡ wire b q
same_parts a b p q e f = λ i. record { block = e i; port = f i }

pub wires_same : (v w : Wire) → same_wire v w ≡ true → v ≡ w
wires_same v w h =
    let p = and_both (nat_eq v.block w.block) (nat_eq v.port w.port) h in
    same_parts v.block w.block v.port w.port (nat_same v.block w.block p.0) (nat_same v.port w.port p.1)

-- a kind that doesn't read its mask has at most one activation input
few_inputs : (c : Kind) (s : Spec) → reads_mask c ≡ false → Tests c s → s.evtin ≤ 1
few_inputs Select s h t = absurd (true≢false h)
few_inputs AndLog s h t = absurd (true≢false h)
few_inputs _ s h t = omega (arith, t.evtin_most)

-- ---- all elements, one after the other

module _ (n : Parts) (m : Marks) (r : Ranges) where
  pub port_at_place : (c k count : ℕ) → (length (read_port n m r c k count) ≡ count) × ((d : ℕ) → d < count → range_at (read_port n m r c k count) d ≡ read_range n m r c k d)
  port_at_place c k zero = (refl, λ d l. absurd (omega (arith, l)))
  port_at_place c k (suc count) =
      let front = port_at_place c k count in (
        simp length-append (omega (arith, front.0)),
        λ d q. elim (cases_lt d count) [
          | inl l ↦ get_or_append_left (read_port n m r c k count) (read_range n m r c k count ∷ []) None d (omega (arith, front.0, l)) ∙ front.1 d l
          | inr l ↦
              let e : d ≡ count = omega (arith, q, l) in
              subst (λ j. range_at (read_port n m r c k (suc count)) j ≡ read_range n m r c k j) (sym e) (get_or_push (read_port n m r c k count) (read_range n m r c k count) None count front.0)
        ],
      )

  pub ports_at_place : (c k : ℕ) (ps : List Port) (p d : ℕ) → p < length ps → d < elements (port_at ps p) → range_at (read_ports n m r c k ps) (before ps p + d) ≡ read_range n m r c (k + p) d
  ports_at_place c k [] p d h l = absurd (omega (arith, h))
  ports_at_place c k (q ∷ ps) zero d h l =
      let g = port_at_place c k (elements q) in
      let place : 0 + d ≡ d = omega arith in
      let same : k ≡ k + 0 = omega arith in
      ap (range_at (read_ports n m r c k (q ∷ ps))) place
      ∙ (get_or_append_left (read_port n m r c k (elements q)) (read_ports n m r c (k + 1) ps) None d (omega (arith, l, g.0)) ∙ (g.1 d l ∙ ap (λ j. read_range n m r c j d) same))
  ports_at_place c k (q ∷ ps) (suc p) d h l =
      let g = (port_at_place c k (elements q)).0 in
      let place : (elements q + before ps p + d) - elements q ≡ before ps p + d = omega arith in
      let same : (k + 1) + p ≡ k + suc p = omega arith in
      get_or-append_right (read_port n m r c k (elements q)) (read_ports n m r c (k + 1) ps) (elements q) (elements q + before ps p + d) None g (omega arith)
      ∙ (ap (range_at (read_ports n m r c (k + 1) ps)) place ∙ (ports_at_place c (k + 1) ps p d (omega (arith, h)) l ∙ ap (λ j. read_range n m r c j d) same))

module _ (n : Parts) (i : Columns) (m : Marks) (r : Ranges) (net : IsNet n) (free : AreLoopFree n) (marks : AreMarks n m) where
  -- ---- one element

  plain_reads : (c p d : ℕ) → Reads n (table_of n m.dead r) c (suc p) d (plain_range n m r c (suc p) d)
  plain_reads c p d = by_test (is_shown n m c (suc p - 1)) refl
    where
      by_test : (b : Bool) → is_shown n m c (suc p - 1) ≡ b → Reads n (table_of n m.dead r) c (suc p) d
          (cond b (range_at (slice_index_or r.shows (wire_of n c (suc p)).block []) (fed_element n c (suc p) d))
          (held_range n (table_of n m.dead r) (wire_of n c (suc p)).block (fed_element n c (suc p) d)))
      by_test true e =
          let place : (suc p - 1) + 1 ≡ suc p = omega arith in
          shows (subst (IsShown n (dead_of m.dead) c) place (shown_by_test n m c (suc p - 1) net free marks e))
      by_test false e = holds

  pub read_reads : (c p d : ℕ) → Reads n (table_of n m.dead r) c (suc p) d (read_range n m r c (suc p) d)
  read_reads c p d = by_hint (slice_index_or m.under c None)
    where
      by_hint : (o : Option Feed) → Reads n (table_of n m.dead r) c (suc p) d (under_range n m c (suc p) d o (plain_range n m r c (suc p) d))
      by_hint None = plain_reads c p d
      by_hint (Some q) = by_test (conditions n m q c (suc p) d) refl
        where
          by_test : (b : Bool) → conditions n m q c (suc p) d ≡ b → Reads n (table_of n m.dead r) c (suc p) d
              (cond b (meet (plain_range n m r c (suc p) d) (Some (taking (spec_of n q.block) q.port))) (plain_range n m r c (suc p) d))
          by_test true e =
              let a = and_both (nat_eq d 0) (is_sync (spec_of n q.block).kind && (same_wire (wire_of n q.block 1) (wire_of n c (suc p)) && is_under m q c)) e in
              let b = and_both (is_sync (spec_of n q.block).kind) (same_wire (wire_of n q.block 1) (wire_of n c (suc p)) && is_under m q c) a.1 in
              let w = and_both (same_wire (wire_of n q.block 1) (wire_of n c (suc p))) (is_under m q c) b.1 in
              under q (plain_range n m r c (suc p) d) (plain_reads c p d) b.0 (λ s live may. under_by_test n m q c s net free marks w.1 live may)
              (wires_same (wire_of n q.block 1) (wire_of n c (suc p)) w.0) (nat_same d 0 a.0)
          by_test false e = plain_reads c p d

  -- ---- what goes in, and the masks

  pub enters : (c : ℕ) → IsBlock n c → Enters n i (table_of n m.dead r) c (entered n i m r c)
  enters c block = by_sensor (is_sensor (spec_of n c).kind) refl
    where
      -- element d of input k
      placed : (k d : ℕ) → IsInput n c k → d < elements (input_of n c k) → Reads n (table_of n m.dead r) c k d (range_at (read_ports n m r c 1 (spec_of n c).ins) (before (spec_of n c).ins (k - 1) + d))
      placed zero d inside l = absurd (omega (arith, inside.least))
      placed (suc p) d inside l =
          let less : suc p - 1 ≡ p = omega arith in
          let one : 1 + p ≡ suc p = omega arith in
          let there : range_at (read_ports n m r c 1 (spec_of n c).ins) (before (spec_of n c).ins p + d) ≡ read_range n m r c (suc p) d =
          ports_at_place n m r c 1 (spec_of n c).ins p d (omega (arith, inside.most)) l ∙ ap (λ j. read_range n m r c j d) one in
          subst (λ h. Reads n (table_of n m.dead r) c (suc p) d (range_at (read_ports n m r c 1 (spec_of n c).ins) (before (spec_of n c).ins h + d))) (sym less)
          (subst (Reads n (table_of n m.dead r) c (suc p) d) (sym there) (read_reads c p d))

      by_sensor : (b : Bool) → is_sensor (spec_of n c).kind ≡ b
          → Enters n i (table_of n m.dead r) c (cond b (Some (sensed_range i (spec_of n c)) ∷ []) (read_ports n m r c 1 (spec_of n c).ins))
      by_sensor true e = record {
        inputs = λ k d inside l.
            let a = sensor_asks (spec_of n c).kind (spec_of n c) e (asks (spec_of n c) (net.typed_specs c block)) in absurd (omega (arith, inside.least, inside.most, a.2));
        sensed = λ h. refl;
      }
      by_sensor false e = record { inputs = placed; sensed = λ h. absurd (true≢false (sym h ∙ e)) }

  pub masks_are : (c : ℕ) → IsBlock n c → HaveMasks n (table_of n m.dead r) c (masks_for n m c)
  masks_are c block s live may = by_kind (reads_mask (spec_of n c).kind) refl
    where
      any_at : reads_mask (spec_of n c).kind ≡ false → AreMasksAt n (dead_of m.dead) s c any_mask
      any_at e =
          let few = few_inputs (spec_of n c).kind (spec_of n c) e (tests (spec_of n c).kind (spec_of n c) (net.typed_specs c block)) in
          record {
            certain = λ p h. absurd (none p h);
            may = λ p inside how. let first : p ≡ 0 = omega (arith, inside.most, few) in rw first refl;
          }
        where
          none : (p : ℕ) → bit_at 0 p ≡ 1 → ⊥
          none p h = let z = bit_at-zero p in omega (arith, z, h)

      by_kind : (b : Bool) → reads_mask (spec_of n c).kind ≡ b → (x : Masks) × Contains (cond b (masks_of m c) (any_mask ∷ [])) x × AreMasksAt n (dead_of m.dead) s c x
      by_kind true e = masks_by_test n m c s net free marks live may
      by_kind false e = (any_mask, (0, omega arith, refl), any_at e)
