-- The widest table passes.
use Rattle.std.proofs.Common.{◌≡◌, ℕ, zero, suc, ◌+◌, ◌-◌, ◌<◌, ◌≤◌, Bool, true, false, not, ◌||◌, ◌&&◌, cond, ℤ, pos, ◌+ℤ◌, ◌-ℤ◌, ◌≤ℤ◌, List, [], ◌∷◌, length, slice_index_or, Option, Some, None, Contains, refl, sym, ap, subst, ◌∙◌, arith, inl, inr}
use Rattle.std.proofs.lemmas.Bool.{cases_lt}
use Rattle.std.proofs.lemmas.Bool.Decides.{nat_tests}
use Rattle.std.proofs.lemmas.Int.{ints}
use Rattle.std.proofs.lemmas.List.{get_or_append_left, get_or-append_right}
use Rattle.std.specs.Prelude.{nat_lt, int_le, is_none, unwrap_or, option_and_then}
use Rattle.std.specs.Int.{int_min, int_max}
use Rattle.sci_base.specs.declared.Ty.{Ty}
use Rattle.sci_base.specs.declared.Ty.TheVariants.{I32}
use Rattle.sci_base.specs.Fit.{InRange, low, high, int_eq}
use Rattle.sci_base.specs.Lists.{at, truth_at}
use Rattle.sci_base.proofs.FitLemmas.{low≤high, int_le_yes}
use Rattle.sci_forms.specs.declared.ports.Port.{Port}
use Rattle.sci_forms.specs.declared.spec.Spec.{Spec}
use Rattle.sci_forms.specs.Form.{is_sensor, is_sync}
use Rattle.sci_forms.specs.Ports.{no_port, port_at, elements, type_of, type_at, total, before}
use Rattle.sci_forms.specs.Words.{param, out_type}
use Rattle.sci_forms.proofs.TestLemmas.{int_le_told, int_same}
use Rattle.sci_kinds.specs.Asks.{entering}
use Rattle.sci_kinds.specs.Table.{mode_of, state_len, first_state, first_held}
use Rattle.sci_kinds.proofs.Elements.{type_at_alike}
use Rattle.sci_kinds.proofs.LawProofs.{asks, first_held_law}
use Rattle.sci_net.specs.declared.Feed.{Feed}
use Rattle.sci_net.specs.declared.Wire.{Wire}
use Rattle.sci_net.specs.Net.{IsNet}
use Rattle.sci_net.specs.Parts.{Parts, IsBlock, IsInput, numbered, spec_of, wire_of, input_of, column_of}
use Rattle.sci_reaction.specs.Memory.{Columns, AreColumns}
use Rattle.sci_reaction.proofs.Fills.{entering_ins}
use Rattle.sci_reaction.proofs.Lists.{and_true, cons-Contains}
use Rattle.sci_ranges_base.specs.declared.interval.Interval.{Interval}
use Rattle.sci_ranges_base.specs.declared.cells.Cells.{Cells}
use Rattle.sci_ranges_base.specs.Intervals.{from_to, one, whole, between, met, meet, has, within, range_at}
use Rattle.sci_ranges_base.proofs.Numbers.{le_along, min_below, max_above}
use Rattle.sci_ranges_rules.specs.Laws.{IsOfType, IsSomeOfType}
use Rattle.sci_ranges_rules.specs.Rules.{cells, compared, next_range, state_range, taking}
use Rattle.sci_ranges_rules.proofs.Typing.{none_of, some_of, one_of, join_in, fitted_in, rule_in_type, next_in_type}
use Rattle.sci_ranges_refined.specs.Sums.{is_sum, sum_cells}
use Rattle.sci_ranges_refined.specs.Choices.{taken_input, taken_place, from_on, up_to, without, first_numbers, third_numbers, taken_numbers, known_truth, sum_of}
use Rattle.sci_ranges_refined.proofs.Adding.{sum_asks}
use Rattle.sci_ranges.specs.Columns.{spanned, sensed_range}
use Rattle.sci_ranges.specs.Reads.{fed_element}
use Rattle.sci_ranges.specs.Table.{held_range}
use Rattle.sci_ranges.proofs.Sensing.{entering_outs, sensor_asks, sensor_total}
use Rattle.sci_ranges.proofs.Wires.{before_within}
use Rattle.sci_ranges_rows.specs.Marks.{Marks, dead_of}
use Rattle.sci_ranges_rows.specs.Tests.{all_below, is_shown}
use Rattle.sci_ranges_pass.specs.Ranges.{Ranges, table_of, plain_range, same_wire, conditions, under_range, read_range, read_port, read_ports, entered, masks_for}
use Rattle.sci_ranges_pass.specs.Taken.{comparison, addition, by_condition, by_input, by_truth, by_comparison, kept_on, summand, by_addition, taken_range, is_choice, taken_ranges, told_inputs}
use Rattle.sci_ranges_pass.specs.Told.{sum_range}
use Rattle.sci_ranges_pass.specs.Pass.{holds_cells, holds_values, holds_sums, holds_told, holds_next, holds_first, are_dead, is_possible, holds_rule, holds_block}
use Rattle.sci_ranges_pass.specs.Laws.{IsWidest, WidestPasses}
use Rattle.sci_ranges_pass.proofs.Entering.{port_at_place}

-- ---- tests that hold

below_all : (f : ℕ → Bool) (count : ℕ) → ((k : ℕ) → k < count → f k ≡ true) → all_below f count ≡ true
below_all f zero h = refl
below_all f (suc count) h = and_true (all_below f count) (f count) (below_all f count (λ k l. h k (omega (arith, l)))) (h count (omega arith))

either : (a b : Bool) → b ≡ true → (a || b) ≡ true
either true b h = refl
either false b h = h

not_off : (a b : Bool) → a ≡ false → (not a || b) ≡ true
not_off true b h = cc
not_off false b h = refl

-- ---- intervals of types

whole_in : (t : Ty) → IsOfType t (whole t)
whole_in t =
    let h = low≤high t in record { least = record { above = omega (arith, ints); below = h }; greatest = record { above = h; below = omega (arith, ints) } }

met_in : (t : Ty) (i j : Interval) → IsOfType t i → IsSomeOfType t (met i j)
met_in t i j h = by_order (int_le (int_max i.least j.least) (int_min i.greatest j.greatest)) refl
  where
    by_order : (b : Bool) → int_le (int_max i.least j.least) (int_min i.greatest j.greatest) ≡ b
        → IsSomeOfType t (cond b (Some (from_to (int_max i.least j.least) (int_min i.greatest j.greatest))) None)
    by_order false e = none_of t
    by_order true e =
        let order = int_le_told _ _ e in
        let lo = le_along _ _ _ h.least.above (max_above i.least j.least).0 in
        let hi = le_along _ _ _ (min_below i.greatest j.greatest).0 h.greatest.below in
        some_of t _ (record { least = record { above = lo; below = le_along _ _ _ order hi }; greatest = record { above = le_along _ _ _ lo order; below = hi } })

meet_in : (t : Ty) (o : Option Interval) (j : Interval) → IsSomeOfType t o → IsSomeOfType t (meet o (Some j))
meet_in t None j h = none_of t
meet_in t (Some i) j h = met_in t i j (h i refl)

-- what two intervals have is of the type of the first
first_in : (t : Ty) (o p : Option Interval) → IsSomeOfType t o → IsSomeOfType t (meet o p)
first_in t None p h = none_of t
first_in t (Some i) None h = none_of t
first_in t (Some i) (Some j) h = met_in t i j (h i refl)

then_in : (t : Ty) (f : Interval → Option Interval) (o : Option Interval) → ((i : Interval) → IsOfType t i → IsSomeOfType t (f i)) → IsSomeOfType t o
    → IsSomeOfType t (option_and_then f o)
then_in t f None g h = none_of t
then_in t f (Some i) g h = g i (h i refl)

-- from one of the numbers of an interval, or above, to one of them, or below
between_in : (t : Ty) (i : Interval) (a b : ℤ) → IsOfType t i → i.least ≤ℤ a → b ≤ℤ i.greatest → IsSomeOfType t (between a b)
between_in t i a b h l g = by_order (int_le a b) refl
  where
    by_order : (c : Bool) → int_le a b ≡ c → IsSomeOfType t (cond c (Some (from_to a b)) None)
    by_order false e = none_of t
    by_order true e =
        let order = int_le_told a b e in
        let lo = le_along _ _ _ h.least.above l in
        let hi = le_along _ _ _ g h.greatest.below in
        some_of t (from_to a b) (record { least = record { above = lo; below = le_along _ _ _ order hi }; greatest = record { above = le_along _ _ _ lo order; below = hi } })

same_end : (a : ℤ) → a ≤ℤ a
same_end a = omega (arith, ints)

from_on_in : (t : Ty) (a : ℤ) (i : Interval) → IsOfType t i → IsSomeOfType t (from_on a i)
from_on_in t a i h = between_in t i (int_max i.least a) i.greatest h (max_above i.least a).0 (same_end i.greatest)

up_to_in : (t : Ty) (a : ℤ) (i : Interval) → IsOfType t i → IsSomeOfType t (up_to a i)
up_to_in t a i h = between_in t i i.least (int_min i.greatest a) h (same_end i.least) (min_below i.greatest a).0

without_in : (t : Ty) (a : ℤ) (i : Interval) → IsOfType t i → IsSomeOfType t (without a i)
without_in t a i h =
    between_in t i (cond (int_eq i.least a) (a +ℤ pos 1) i.least) (cond (int_eq i.greatest a) (a -ℤ pos 1) i.greatest) h (least (int_eq i.least a) refl)
    (greatest (int_eq i.greatest a) refl)
  where
    least : (b : Bool) → int_eq i.least a ≡ b → i.least ≤ℤ cond b (a +ℤ pos 1) i.least
    least true e = let same = int_same i.least a e in omega (arith, ints, same)
    least false e = same_end i.least

    greatest : (b : Bool) → int_eq i.greatest a ≡ b → cond b (a -ℤ pos 1) i.greatest ≤ℤ i.greatest
    greatest true e = let same = int_same i.greatest a e in omega (arith, ints, same)
    greatest false e = same_end i.greatest

numbers_in_type : (t : Ty) (s : Spec) (first : Bool) (i : Interval) → IsOfType t i → IsSomeOfType t (taken_numbers s first i)
numbers_in_type t s true i h = by_code (int_eq (param s 0) (pos 0)) (int_eq (param s 0) (pos 1))
  where
    by_code : (p q : Bool) → IsSomeOfType t (cond p (from_on (param s 1) i) (cond q (from_on (param s 1 +ℤ pos 1) i) (without (param s 1) i)))
    by_code true q = from_on_in t (param s 1) i h
    by_code false true = from_on_in t (param s 1 +ℤ pos 1) i h
    by_code false false = without_in t (param s 1) i h
numbers_in_type t s false i h = by_code (int_eq (param s 0) (pos 0)) (int_eq (param s 0) (pos 1))
  where
    by_code : (p q : Bool) → IsSomeOfType t (cond p (up_to (param s 1 -ℤ pos 1) i) (cond q (up_to (param s 1) i) (met i (one (param s 1)))))
    by_code true q = up_to_in t (param s 1 -ℤ pos 1) i h
    by_code false true = up_to_in t (param s 1) i h
    by_code false false = met_in t i (one (param s 1)) h

sum_in : (s : Spec) (o : Option Interval) → IsSomeOfType (out_type s) ((sum_cells s o).values)
sum_in s None = none_of (out_type s)
sum_in s (Some i) = fitted_in (out_type s) (mode_of (param s 0)) i

spanned_in : (t : Ty) (vs : List ℤ) → ((v : ℤ) → Contains vs v → InRange t v) → IsSomeOfType t (spanned vs)
spanned_in t [] h = none_of t
spanned_in t (v ∷ vs) h =
    join_in t (Some (one v)) (spanned vs) (some_of t (one v) (one_of t v (h v (0, omega arith, refl)))) (spanned_in t vs (λ w c. h w (cons-Contains v vs w c)))

unwrapped_in : (t : Ty) (o : Option Interval) → IsSomeOfType t o → IsOfType t (unwrap_or o (whole t))
unwrapped_in t None h = whole_in t
unwrapped_in t (Some i) h = h i refl

within_whole : (t : Ty) (o : Option Interval) → IsSomeOfType t o → within o (Some (whole t)) ≡ true
within_whole t None h = refl
within_whole t (Some i) h =
    let k = h i refl in and_true (int_le (low t) i.least) (int_le i.greatest (high t)) (int_le_yes (low t) i.least k.least.above) (int_le_yes i.greatest (high t) k.greatest.below)

has_whole : (t : Ty) (v : ℤ) → InRange t v → has (whole t) v ≡ true
has_whole t v h = and_true (int_le (low t) v) (int_le v (high t)) (int_le_yes (low t) v h.above) (int_le_yes v (high t) h.below)

-- ---- elements of ports

type_here : (p : Port) (ps : List Port) (e : ℕ) → e < elements p → type_at (p ∷ ps) e ≡ type_of p
type_here p ps e l = by_test (nat_lt e (elements p)) refl
  where
    by_test : (b : Bool) → nat_lt e (elements p) ≡ b → cond b (type_of p) (type_at ps (e - elements p)) ≡ type_of p
    by_test true h = refl
    by_test false h = absurd (grind (arith, nat_tests, l, h))

type_behind : (p : Port) (ps : List Port) (e : ℕ) → elements p ≤ e → type_at (p ∷ ps) e ≡ type_at ps (e - elements p)
type_behind p ps e l = by_test (nat_lt e (elements p)) refl
  where
    by_test : (b : Bool) → nat_lt e (elements p) ≡ b → cond b (type_of p) (type_at ps (e - elements p)) ≡ type_at ps (e - elements p)
    by_test true h = absurd (grind (arith, nat_tests, l, h))
    by_test false h = refl

type_before : (ps : List Port) (k d : ℕ) → k < length ps → d < elements (port_at ps k) → type_at ps (before ps k + d) ≡ type_of (port_at ps k)
type_before [] k d h l = absurd (omega (arith, h))
type_before (p ∷ ps) zero d h l = type_here p ps (0 + d) (omega (arith, l))
type_before (p ∷ ps) (suc k) d h l =
    let e = elements p + before ps k + d in
    let rest : e - elements p ≡ before ps k + d = omega arith in
    type_behind p ps e (omega arith) ∙ (ap (type_at ps) rest ∙ type_before ps k d (omega (arith, h)) l)

fed_type : (ps : List Port) (q d : ℕ) → 1 ≤ q → q ≤ length ps → d < elements (numbered no_port ps q)
    → (before ps (q - 1) + d < total ps) × (type_at ps (before ps (q - 1) + d) ≡ type_of (numbered no_port ps q))
fed_type ps zero d least most l = absurd (omega (arith, least))
fed_type ps (suc k) d least most l =
    let less : k ≡ suc k - 1 = omega arith in
    let fits = before_within ps k (omega (arith, most)) in
    subst (λ j. (before ps j + d < total ps) × (type_at ps (before ps j + d) ≡ type_of (port_at ps k))) less (omega (arith, fits, l), type_before ps k d (omega (arith, most)) l)

module _ (n : Parts) (i : Columns) (m : Marks) (r : Ranges) (net : IsNet n) (columns : AreColumns n i) (none : (c p : ℕ) → dead_of m.dead c p ≡ false) (widest : IsWidest n r) where
  -- ---- what goes in

  -- an element of some block's outputs
  shown_in : (b e : ℕ) → IsBlock n b → e < total (spec_of n b).outs → IsSomeOfType (type_at (spec_of n b).outs e) (range_at (slice_index_or r.shows b []) e)
  shown_in b e block l =
      subst (IsSomeOfType (type_at (spec_of n b).outs e)) (sym (widest.shows b e block l)) (some_of (type_at (spec_of n b).outs e) _ (whole_in (type_at (spec_of n b).outs e)))

  held_in : (b e : ℕ) → IsBlock n b → e < total (spec_of n b).outs → IsSomeOfType (type_at (spec_of n b).outs e) (held_range n (table_of n m.dead r) b e)
  held_in b e block l =
      let t = type_at (spec_of n b).outs e in
      join_in t (Some (one (at (first_held (spec_of n b)) e))) (range_at (slice_index_or r.shows b []) e)
      (some_of t _ (one_of t _ ((first_held_law (spec_of n b) (net.typed_specs b block)).1.in_range e l))) (shown_in b e block l)

  plain_in : (c k d : ℕ) → IsInput n c k → d < elements (input_of n c k) → IsSomeOfType (type_of (input_of n c k)) (plain_range n m r c k d)
  plain_in c k d inside l =
      let w = wire_of n c k in
      let out = net.wired.wires_lead c k inside in
      let same = net.joined c k inside in
      let fed = fed_type (spec_of n w.block).outs w.port d out.least out.most (subst (λ (p : Port). d < elements p) (sym same) l) in
      let ty : type_at (spec_of n w.block).outs (fed_element n c k d) ≡ type_of (input_of n c k) = fed.1 ∙ ap type_of same in
      by_test ty (shown_in w.block (fed_element n c k d) out.block fed.0) (held_in w.block (fed_element n c k d) out.block fed.0) (is_shown n m c (k - 1))
    where
      by_test : {t u : Ty} {o p : Option Interval} → t ≡ u → IsSomeOfType t o → IsSomeOfType t p → (b : Bool) → IsSomeOfType u (cond b o p)
      by_test {o = o} e f g true = subst (λ x. IsSomeOfType x o) e f
      by_test {p = p} e f g false = subst (λ x. IsSomeOfType x p) e g

  read_in : (c k d : ℕ) → IsInput n c k → d < elements (input_of n c k) → IsSomeOfType (type_of (input_of n c k)) (read_range n m r c k d)
  read_in c k d inside l = by_hint (slice_index_or m.under c None)
    where
      by_hint : (o : Option Feed) → IsSomeOfType (type_of (input_of n c k)) (under_range n m c k d o (plain_range n m r c k d))
      by_hint None = plain_in c k d inside l
      by_hint (Some q) = by_test (conditions n m q c k d)
        where
          by_test : (b : Bool) → IsSomeOfType (type_of (input_of n c k)) (cond b (meet (plain_range n m r c k d) (Some (taking (spec_of n q.block) q.port))) (plain_range n m r c k d))
          by_test true = meet_in (type_of (input_of n c k)) (plain_range n m r c k d) (taking (spec_of n q.block) q.port) (plain_in c k d inside l)
          by_test false = plain_in c k d inside l

  ports_in : (c k : ℕ) (ps : List Port) → ((p d : ℕ) → p < length ps → d < elements (port_at ps p) → IsSomeOfType (type_of (port_at ps p)) (read_range n m r c (k + p) d))
      → (d : ℕ) → IsSomeOfType (type_at ps d) (range_at (read_ports n m r c k ps) d)
  ports_in c k [] h d = none_of I32
  ports_in c k (q ∷ ps) h d =
      let g = port_at_place n m r c k (elements q) in elim (cases_lt d (elements q)) [
        | inl l ↦
            let same : k + 0 ≡ k = omega arith in
            let there : range_at (read_ports n m r c k (q ∷ ps)) d ≡ read_range n m r c k d =
            get_or_append_left (read_port n m r c k (elements q)) (read_ports n m r c (k + 1) ps) None d (omega (arith, l, g.0)) ∙ g.1 d l in
            let first : IsSomeOfType (type_of q) (read_range n m r c k d) = subst (λ j. IsSomeOfType (type_of q) (read_range n m r c j d)) same (h 0 d (omega arith) l) in
            subst (λ o. IsSomeOfType (type_at (q ∷ ps) d) o) (sym there) (subst (λ x. IsSomeOfType x (read_range n m r c k d)) (sym (type_here q ps d l)) first)
        | inr l ↦
            let rest = ports_in c (k + 1) ps (λ p e u v. let same : k + suc p ≡ (k + 1) + p = omega arith in
            subst (λ j. IsSomeOfType (type_of (port_at ps p)) (read_range n m r c j e)) same (h (suc p) e (omega (arith, u)) v)) (d - elements q) in
            let there : range_at (read_ports n m r c k (q ∷ ps)) d ≡ range_at (read_ports n m r c (k + 1) ps) (d - elements q) =
            get_or-append_right (read_port n m r c k (elements q)) (read_ports n m r c (k + 1) ps) (elements q) d None g.0 (omega (arith, l)) in
            subst (λ o. IsSomeOfType (type_at (q ∷ ps) d) o) (sym there)
            (subst (λ x. IsSomeOfType x (range_at (read_ports n m r c (k + 1) ps) (d - elements q))) (sym (type_behind q ps d l)) rest)
      ]

  entered_in : (c : ℕ) → IsBlock n c → (d : ℕ) → IsSomeOfType (type_at (entering (spec_of n c)) d) (range_at (entered n i m r c) d)
  entered_in c block d = by_sensor (is_sensor (spec_of n c).kind) refl
    where
      sensed : is_sensor (spec_of n c).kind ≡ true → (e : ℕ) → IsSomeOfType (type_at (spec_of n c).outs e) (range_at (Some (sensed_range i (spec_of n c)) ∷ []) e)
      sensed h zero =
          let a = sensor_asks (spec_of n c).kind (spec_of n c) h (asks (spec_of n c) (net.typed_specs c block)) in
          let some : 0 < total (spec_of n c).outs = omega (arith, sensor_total (spec_of n c) a) in
          let t = out_type (spec_of n c) in
          let vs = numbered [] i (column_of (spec_of n c)) in
          let inside : IsOfType t (sensed_range i (spec_of n c)) = unwrapped_in t (spanned vs) (spanned_in t vs (columns c (record { block = block; sensor = h }))) in
          subst (λ x. IsSomeOfType x (Some (sensed_range i (spec_of n c)))) (sym (type_at_alike (spec_of n c).outs t _ a.0.outs_alike 0 some)) (some_of t _ inside)
      sensed h (suc e) = none_of (type_at (spec_of n c).outs (suc e))

      by_sensor : (b : Bool) → is_sensor (spec_of n c).kind ≡ b
          → IsSomeOfType (type_at (entering (spec_of n c)) d) (range_at (cond b (Some (sensed_range i (spec_of n c)) ∷ []) (read_ports n m r c 1 (spec_of n c).ins)) d)
      by_sensor true h =
          subst (λ ps. IsSomeOfType (type_at ps d) (range_at (Some (sensed_range i (spec_of n c)) ∷ []) d)) (sym (entering_outs (spec_of n c).kind (spec_of n c) h)) (sensed h d)
      by_sensor false h =
          subst (λ ps. IsSomeOfType (type_at ps d) (range_at (read_ports n m r c 1 (spec_of n c).ins) d)) (sym (entering_ins (spec_of n c).kind (spec_of n c) h))
          (ports_in c 1 (spec_of n c).ins (λ p e u v. input_in p e u v) d)
        where
          input_in : (p e : ℕ) → p < length (spec_of n c).ins → e < elements (port_at (spec_of n c).ins p) → IsSomeOfType (type_of (port_at (spec_of n c).ins p)) (read_range n m r c (1 + p) e)
          input_in p e u v =
              let same : suc p ≡ 1 + p = omega arith in
              subst (λ k. IsSomeOfType (type_of (port_at (spec_of n c).ins p)) (read_range n m r c k e)) same
              (read_in c (suc p) e (record { block = block; least = omega arith; most = omega (arith, u) }) v)

  -- ---- what a switch takes

  condition_in : (t : Ty) (c : ℕ) (first : Bool) (w : Wire) (o : Option Interval) → IsSomeOfType t o → IsSomeOfType t (by_condition n c first w o)
  condition_in t c first w o h = by_test (same_wire (wire_of n c 2) w)
    where
      by_test : (b : Bool) → IsSomeOfType t (cond b (option_and_then (taken_numbers (spec_of n c) first) o) o)
      by_test true = then_in t (taken_numbers (spec_of n c) first) o (numbers_in_type t (spec_of n c) first) h
      by_test false = h

  compared_in : (t : Ty) (g k : ℕ) (holds : Bool) (vs : List (Option Interval)) (w : Wire) (o : Option Interval) → IsSomeOfType t o → IsSomeOfType t (by_input n g k holds vs w o)
  compared_in t g k holds vs w o h = by_test (same_wire (wire_of n g (k + 1)) w)
    where
      by_test : (b : Bool) → IsSomeOfType t (cond b (meet o (option_and_then (compared (spec_of n g) k holds) (range_at vs (1 - k)))) o)
      by_test true = first_in t o (option_and_then (compared (spec_of n g) k holds) (range_at vs (1 - k))) h
      by_test false = h

  truth_in : (t : Ty) (g : ℕ) (vs : List (Option Interval)) (w : Wire) (known : Option Bool) (o : Option Interval) → IsSomeOfType t o → IsSomeOfType t (by_truth n g vs w known o)
  truth_in t g vs w None o h = h
  truth_in t g vs w (Some holds) o h = compared_in t g 1 holds vs w (by_input n g 0 holds vs w o) (compared_in t g 0 holds vs w o h)

  comparison_in : (t : Ty) (c : ℕ) (first : Bool) (w : Wire) (a : Option ℕ) (o : Option Interval) → IsSomeOfType t o → IsSomeOfType t (by_comparison n i m r c first w a o)
  comparison_in t c first w None o h = h
  comparison_in t c first w (Some g) o h = truth_in t g (entered n i m r g) w (known_truth (spec_of n c) first) o h

  addition_in : (t : Ty) (c : ℕ) (first : Bool) (a : Option ℕ) (o : Option Interval) → IsSomeOfType t o → IsSomeOfType t (by_addition n i m r c first a o)
  addition_in t c first None o h = h
  addition_in t c first (Some g) o h = first_in t o ((sum_cells (spec_of n g) (sum_of (spec_of n g) (summand n i m r c first g))).values) h

  taken_in : (t : Ty) (c : ℕ) (us : List (Option Interval)) (first : Bool) → IsSomeOfType t (range_at us (taken_place first)) → IsSomeOfType t (taken_range n i m r c us first)
  taken_in t c us first h =
      let w = wire_of n c (taken_input first) in
      let o = range_at us (taken_place first) in
      addition_in t c first (addition n m c first) (kept_on n i m r c first w o)
      (comparison_in t c first w (comparison n m c) (by_condition n c first w o) (condition_in t c first w o h))

  told_in : (c : ℕ) → IsBlock n c → (d : ℕ) → IsSomeOfType (type_at (entering (spec_of n c)) d) (range_at (told_inputs n i m r c (entered n i m r c)) d)
  told_in c block d = by_choice (is_choice (spec_of n c))
    where
      each : (d : ℕ) → IsSomeOfType (type_at (entering (spec_of n c)) d) (range_at (taken_ranges n i m r c (entered n i m r c)) d)
      each zero = taken_in (type_at (entering (spec_of n c)) 0) c (entered n i m r c) true (entered_in c block 0)
      each (suc zero) = entered_in c block 1
      each (suc (suc zero)) = taken_in (type_at (entering (spec_of n c)) 2) c (entered n i m r c) false (entered_in c block 2)
      each (suc (suc (suc k))) = none_of (type_at (entering (spec_of n c)) (suc (suc (suc k))))

      by_choice : (b : Bool) → IsSomeOfType (type_at (entering (spec_of n c)) d) (range_at (cond b (taken_ranges n i m r c (entered n i m r c)) (entered n i m r c)) d)
      by_choice true = each d
      by_choice false = entered_in c block d

  -- ---- one block

  module _ (c : ℕ) (block : IsBlock n c) where
    state_in : (k : ℕ) → IsOfType (out_type (spec_of n c)) (state_range (slice_index_or r.states c []) k)
    state_in k = subst (IsOfType (out_type (spec_of n c))) (sym (widest.states c k block)) (whole_in (out_type (spec_of n c)))

    first_holds : holds_first (spec_of n c) r c ≡ true
    first_holds =
        below_all (λ k. has (state_range (slice_index_or r.states c []) k) (at (first_state (spec_of n c)) k)) (state_len (spec_of n c))
        (λ k l. subst (λ j. has j (at (first_state (spec_of n c)) k) ≡ true) (sym (widest.states c k block))
        (has_whole (out_type (spec_of n c)) (at (first_state (spec_of n c)) k) ((first_held_law (spec_of n c) (net.typed_specs c block)).0.in_range k l)))

    dead_holds : are_dead n m r c ≡ true
    dead_holds =
        below_all (λ p. not (dead_of m.dead c p) || is_none (meet (read_range n m r c 1 0) (Some (taking (spec_of n c) p)))) (length (slice_index_or m.dead c []))
        (λ p l. not_off (dead_of m.dead c p) (is_none (meet (read_range n m r c 1 0) (Some (taking (spec_of n c) p)))) (none c p))

    cells_hold : (e : ℕ) (cs : Cells) → e < total (spec_of n c).outs → IsSomeOfType (type_at (spec_of n c).outs e) (cs.values) → holds_cells r c e cs ≡ true
    cells_hold e cs l h =
        and_true (within cs.values (range_at (slice_index_or r.shows c []) e)) ((not cs.overflow || truth_at r.overflows c) && (not cs.zero || truth_at r.zeros c))
        (subst (λ o. within cs.values o ≡ true) (sym (widest.shows c e block l)) (within_whole (type_at (spec_of n c).outs e) cs.values h))
        (and_true (not cs.overflow || truth_at r.overflows c) (not cs.zero || truth_at r.zeros c)
        (either (not cs.overflow) (truth_at r.overflows c) (widest.overflows c block)) (either (not cs.zero) (truth_at r.zeros c) (widest.zeros c block)))

    -- what is told of an element is in its type
    sum_told : is_sum (spec_of n c).kind ≡ true → (e : ℕ) → e < total (spec_of n c).outs
        → holds_cells r c e (sum_cells (spec_of n c) (sum_range n i m r c (entered n i m r c) e)) ≡ true
    sum_told h e l =
        let a = sum_asks (spec_of n c) (net.typed_specs c block) h in
        cells_hold e (sum_cells (spec_of n c) (sum_range n i m r c (entered n i m r c) e)) l
        (subst (λ t. IsSomeOfType t ((sum_cells (spec_of n c) (sum_range n i m r c (entered n i m r c) e)).values))
        (sym (type_at_alike (spec_of n c).outs (out_type (spec_of n c)) _ a.0.outs_alike e l)) (sum_in (spec_of n c) (sum_range n i m r c (entered n i m r c) e)))

    values_told : (e : ℕ) → e < total (spec_of n c).outs
        → holds_cells r c e (cells (spec_of n c) (slice_index_or r.states c []) (masks_for n m c) (told_inputs n i m r c (entered n i m r c)) e) ≡ true
    values_told e l =
        cells_hold e (cells (spec_of n c) (slice_index_or r.states c []) (masks_for n m c) (told_inputs n i m r c (entered n i m r c)) e) l
        (rule_in_type (spec_of n c) (slice_index_or r.states c []) (masks_for n m c) (told_inputs n i m r c (entered n i m r c)) e (net.typed_specs c block) (λ k _. state_in k)
        (told_in c block) l)

    told_holds : holds_told n i m r c (entered n i m r c) ≡ true
    told_holds = by_kind (is_sum (spec_of n c).kind) refl
      where
        by_kind : (b : Bool) → is_sum (spec_of n c).kind ≡ b
            → cond b (holds_sums n i m r c (entered n i m r c)) (holds_values (spec_of n c) r c (masks_for n m c) (told_inputs n i m r c (entered n i m r c))) ≡ true
        by_kind true h =
            below_all (λ e. holds_cells r c e (sum_cells (spec_of n c) (sum_range n i m r c (entered n i m r c) e))) (total (spec_of n c).outs) (sum_told h)
        by_kind false h =
            below_all (λ e. holds_cells r c e (cells (spec_of n c) (slice_index_or r.states c []) (masks_for n m c) (told_inputs n i m r c (entered n i m r c)) e))
            (total (spec_of n c).outs) values_told

    rule_holds : holds_rule n i m r c ≡ true
    rule_holds =
        let s = spec_of n c in
        let us = entered n i m r c in
        let xs = slice_index_or r.states c [] in
        and_true (holds_told n i m r c us) (holds_next s r c us)
        told_holds
        (below_all (λ k. within (next_range s xs us k) (Some (state_range xs k))) (state_len s)
        (λ k l. subst (λ j. within (next_range s xs us k) (Some j) ≡ true) (sym (widest.states c k block))
        (within_whole (out_type s) (next_range s xs us k) (next_in_type s xs us k (net.typed_specs c block) state_in (entered_in c block) l))))

    block_holds : holds_block n i m r c ≡ true
    block_holds =
        and_true (holds_first (spec_of n c) r c) ((not (is_sync (spec_of n c).kind) || are_dead n m r c) && (not (is_possible m c) || holds_rule n i m r c)) first_holds
        (and_true (not (is_sync (spec_of n c).kind) || are_dead n m r c) (not (is_possible m c) || holds_rule n i m r c)
        (either (not (is_sync (spec_of n c).kind)) (are_dead n m r c) dead_holds) (either (not (is_possible m c)) (holds_rule n i m r c) rule_holds))

pub widest_passes : WidestPasses
widest_passes n i m r net columns none widest =
    below_all (λ b. holds_block n i m r (b + 1)) (length n.specs) (λ b l. block_holds n i m r net columns none widest (b + 1) (record { least = omega arith; most = omega (arith, l) }))
