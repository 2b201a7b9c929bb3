-- How a block takes its inputs, as code tells it, and what goes in.
use Rattle.std.proofs.Common.{◌≡◌, ℕ, zero, suc, ◌+◌, ◌-◌, ◌<◌, ◌≤◌, Bool, true, false, cond, nat_eq, List, [], ◌∷◌, ◌++◌, length, drop, get_or, Option, Some, refl, sym, ap, subst, ◌∙◌, arith, inl, inr, append_assoc, append-nil}
use Rattle.std.proofs.lemmas.Bool.{cases_lt}
use Rattle.std.proofs.lemmas.List.{at_drop_more, at_drop_all, get_or_append_left, get_or_push, length_push}
use Rattle.std.specs.Prelude.{slice_index_or}
use Rattle.sci_forms.specs.declared.ports.Port.{Port}
use Rattle.sci_forms.specs.Form.{is_sensor}
use Rattle.sci_forms.specs.Ports.{elements, before}
use Rattle.sci_net.specs.declared.Wire.{Wire}
use Rattle.sci_net.specs.Parts.{Parts, spec_of, wire_of}
use Rattle.sci_reaction.specs.Memory.{Columns}
use Rattle.sci_ranges_base.specs.declared.interval.Interval.{Interval}
use Rattle.sci_ranges.specs.Columns.{sensed_range}
use Rattle.sci_ranges.specs.Reads.{fed_element}
use Rattle.sci_ranges_rows.specs.Marks.{Marks}
use Rattle.sci_ranges_pass.specs.Ranges.{Ranges, read_range, read_port, read_ports, entered}
use Rattle.sci_ranges_find.specs.declared.reads.Reading.{Reading}
use Rattle.sci_ranges_find.specs.View.{narrowed, fed_range}
use Rattle.sci_ranges_find.specs.Readings.{no_reading, IsReading, AreReadingsTo, AreReadings, plain_by, element_by, port_by, ports_by, entered_by}
use Rattle.sci_ranges_find.proofs.Entering.{read_is}

-- ---- readings of all inputs

pub readings_begin : (n : Parts) (m : Marks) (c : ℕ) (qs : List Reading) → qs ≡ [] → AreReadingsTo n m c 0 qs
readings_begin n m c qs e = (ap length e, λ k l. absurd (omega (arith, l)))

pub readings_more : (n : Parts) (m : Marks) (c k : ℕ) (qs : List Reading) (q : Reading) → AreReadingsTo n m c k qs → IsReading n m c (k + 1) q → AreReadingsTo n m c (k + 1) (qs ++ q ∷ [])
readings_more n m c k qs q so_far is = (
  length_push qs q ∙ ap (λ (j : ℕ). j + 1) so_far.0,
  λ j l. elim (cases_lt j k) [
    | inl p ↦ subst (IsReading n m c (j + 1)) (sym (get_or_append_left qs (q ∷ []) no_reading j (omega (arith, p, so_far.0)))) (so_far.1 j p)
    | inr p ↦
        let same : k ≡ j = omega (arith, p, l) in
        subst (IsReading n m c (j + 1)) (sym (get_or_push qs q no_reading j (omega (arith, so_far.0, same)))) (subst (λ (i : ℕ). IsReading n m c (i + 1) q) same is)
  ],
)

-- ---- one input

pub fed_is : (n : Parts) (r : Ranges) (q : Reading) (c k d from : ℕ) (w : Wire) → w ≡ wire_of n c k → from ≡ before (spec_of n w.block).outs (w.port - 1) →
    fed_range n r q.shown w.block (from + d) ≡ plain_by n r q c k d
fed_is n r q c k d from w e f =
    ap (λ (x : ℕ). fed_range n r q.shown w.block (x + d)) f
    ∙ ap (λ (v : Wire). fed_range n r q.shown v.block (before (spec_of n v.block).outs (v.port - 1) + d)) e

pub element_is : (n : Parts) (r : Ranges) (q : Reading) (c k d : ℕ) (plain o : Option Interval) → plain ≡ plain_by n r q c k d → o ≡ cond (nat_eq d 0) (narrowed q.numbers plain) plain →
    o ≡ element_by n r q c k d
element_is n r q c k d plain o same is = is ∙ ap (λ (x : Option Interval). cond (nat_eq d 0) (narrowed q.numbers x) x) same

-- one element more of an input
pub port_more : (n : Parts) (r : Ranges) (q : Reading) (c k d : ℕ) (old items : List (Option Interval)) (o : Option Interval) → items ≡ old ++ port_by n r q c k d → o ≡ element_by n r q c k d →
    items ++ o ∷ [] ≡ old ++ port_by n r q c k (d + 1)
port_more n r q c k d old items o so_far is =
    let one : suc d ≡ d + 1 = omega arith in
    ap (λ (xs : List (Option Interval)). xs ++ o ∷ []) so_far
    ∙ (append_assoc old (port_by n r q c k d) (o ∷ [])
    ∙ (ap (λ (x : Option Interval). old ++ (port_by n r q c k d ++ x ∷ [])) is ∙ ap (λ (e : ℕ). old ++ port_by n r q c k e) one))

-- where the input is read as the marks tell
element_read : (n : Parts) (m : Marks) (r : Ranges) (q : Reading) (c k d : ℕ) → IsReading n m c k q → element_by n r q c k d ≡ read_range n m r c k d
element_read n m r q c k d h =
    read_is n m r c k d q.numbers (plain_by n r q c k d) (element_by n r q c k d) h.taken (ap (λ (b : Bool). fed_range n r b (wire_of n c k).block (fed_element n c k d)) h.shown) refl

port_read : (n : Parts) (m : Marks) (r : Ranges) (q : Reading) (c k : ℕ) → IsReading n m c k q → (count : ℕ) → port_by n r q c k count ≡ read_port n m r c k count
port_read n m r q c k h zero = refl
port_read n m r q c k h (suc d) =
    ap (λ (xs : List (Option Interval)). xs ++ element_by n r q c k d ∷ []) (port_read n m r q c k h d)
    ∙ ap (λ (x : Option Interval). read_port n m r c k d ++ x ∷ []) (element_read n m r q c k d h)

-- ---- all inputs

-- one input more
pub ports_more : (n : Parts) (r : Ranges) (qs : List Reading) (c k : ℕ) (ps : List Port) (p : Port) (old items : List (Option Interval)) → k < length ps → p ≡ get_or ps k p →
    items ≡ old ++ port_by n r (slice_index_or qs k no_reading) c (k + 1) (elements p) → items ++ ports_by n r qs c (k + 1) (drop (k + 1) ps) ≡ old ++ ports_by n r qs c k (drop k ps)
ports_more n r qs c k ps p old items h s is =
    let rest : List (Option Interval) = ports_by n r qs c (k + 1) (drop (k + 1) ps) in
    let q : Reading = slice_index_or qs k no_reading in
    ap (λ (xs : List (Option Interval)). xs ++ rest) is
    ∙ (append_assoc old (port_by n r q c (k + 1) (elements p)) rest
    ∙ ap (λ (xs : List (Option Interval)). old ++ xs) (ap (λ (x : Port). port_by n r q c (k + 1) (elements x) ++ rest) s ∙ sym (at_drop_more (ports_by n r qs c k) ps k p h)))

pub ports_done : (n : Parts) (r : Ranges) (qs : List Reading) (c k : ℕ) (ps : List Port) (items : List (Option Interval)) → length ps ≤ k → items ++ ports_by n r qs c k (drop k ps) ≡ items
ports_done n r qs c k ps items h = ap (λ (xs : List (Option Interval)). items ++ xs) (at_drop_all (ports_by n r qs c k) ps k h) ∙ append-nil items

pub ports_begin : (n : Parts) (r : Ranges) (qs : List Reading) (c : ℕ) (ps : List Port) (items : List (Option Interval)) → items ≡ [] → items ++ ports_by n r qs c 0 (drop 0 ps) ≡ ports_by n r qs c 0 ps
ports_begin n r qs c ps items e =
    ap (λ (xs : List (Option Interval)). xs ++ ports_by n r qs c 0 (drop 0 ps)) e ∙ ap (ports_by n r qs c 0) (none_dropped ps)
  where
    none_dropped : (xs : List Port) → drop 0 xs ≡ xs
    none_dropped [] = refl
    none_dropped (x ∷ xs) = refl

-- where all are read as the marks tell
ports_read : (n : Parts) (m : Marks) (r : Ranges) (qs : List Reading) (c j : ℕ) (ps : List Port) →
    ((k : ℕ) → j ≤ k → k < j + length ps → IsReading n m c (k + 1) (slice_index_or qs k no_reading)) → ports_by n r qs c j ps ≡ read_ports n m r c (j + 1) ps
ports_read n m r qs c j [] h = refl
ports_read n m r qs c j (p ∷ ps) h =
    ap (λ (xs : List (Option Interval)). xs ++ ports_by n r qs c (j + 1) ps)
    (port_read n m r (slice_index_or qs j no_reading) c (j + 1) (h j (omega arith) (omega arith)) (elements p))
    ∙ ap (λ (xs : List (Option Interval)). read_port n m r c (j + 1) (elements p) ++ xs)
    (ports_read n m r qs c (j + 1) ps (λ k a b. h k (omega (arith, a)) (omega (arith, b))))

-- ---- a block

-- what goes into a block that is no sensor, and into one that is
pub entered_ports : (n : Parts) (i : Columns) (r : Ranges) (qs : List Reading) (c : ℕ) → is_sensor (spec_of n c).kind ≡ false → ports_by n r qs c 0 (spec_of n c).ins ≡ entered_by n i r qs c
entered_ports n i r qs c off = ap (λ (t : Bool). cond t (Some (sensed_range i (spec_of n c)) ∷ []) (ports_by n r qs c 0 (spec_of n c).ins)) (sym off)

pub entered_sensor : (n : Parts) (i : Columns) (r : Ranges) (qs : List Reading) (c : ℕ) → is_sensor (spec_of n c).kind ≡ true → Some (sensed_range i (spec_of n c)) ∷ [] ≡ entered_by n i r qs c
entered_sensor n i r qs c on = ap (λ (t : Bool). cond t (Some (sensed_range i (spec_of n c)) ∷ []) (ports_by n r qs c 0 (spec_of n c).ins)) (sym on)

pub entered_read : (n : Parts) (i : Columns) (m : Marks) (r : Ranges) (qs : List Reading) (c : ℕ) → AreReadings n m c qs → entered_by n i r qs c ≡ entered n i m r c
entered_read n i m r qs c h =
    ap (λ (xs : List (Option Interval)). cond (is_sensor (spec_of n c).kind) (Some (sensed_range i (spec_of n c)) ∷ []) xs)
    (ports_read n m r qs c 0 (spec_of n c).ins (λ k least most. h.1 k (omega (arith, most))))
