-- What goes into a block, as code reads it.
use Rattle.std.proofs.Common.{◌≡◌, ℕ, zero, suc, ◌+◌, ◌-◌, ◌<◌, ◌≤◌, Bool, true, false, ◌&&◌, cond, ℤ, List, [], ◌∷◌, length, get_or, Option, Some, None, Contains, Vec, refl, sym, ap, subst, ◌∙◌, arith, nat_le, nat_eq}
use Rattle.std.proofs.lemmas.Bool.Decides.{nat_tests}
use Rattle.std.proofs.lemmas.Int.{ints, clamps}
use Rattle.std.proofs.lemmas.List.{get_or_past, length-map}
use Rattle.std.specs.Prelude.{slice_index_or, int_lt, map}
use Rattle.std.specs.declared.alloc.Global.{Global}
use Rattle.sci_forms.specs.Form.{is_sync, reads_mask}
use Rattle.sci_forms.specs.declared.ports.Port.{Port}
use Rattle.sci_forms.specs.Ports.{no_port, port_at, elements, before, total}
use Rattle.sci_forms.proofs.TestLemmas.{nat_le_told, nat_same}
use Rattle.sci_base.specs.Lists.{at}
use Rattle.sci_forms.specs.declared.spec.Spec.{Spec}
use Rattle.sci_forms.specs.Words.{held_of}
use Rattle.sci_kinds.specs.Table.{first_held}
use Rattle.sci_kinds.proofs.Elements.{listed_at}
use Rattle.sci_net.proofs.Numbered.{numbered_map}
use Rattle.sci_net.specs.declared.Feed.{Feed}
use Rattle.sci_net.specs.declared.Wire.{Wire}
use Rattle.sci_net.specs.Net.{IsNet}
use Rattle.sci_net.specs.Parts.{Parts, IsBlock, IsInput, numbered, no_spec, spec_of, wire_of, input_of}
use Rattle.sci_reaction.proofs.Lists.{cons-Contains}
use Rattle.sci_ranges_base.specs.declared.interval.Interval.{Interval}
use Rattle.sci_ranges_base.specs.Intervals.{IsIn, IsHullOf, one, hull, join, meet}
use Rattle.sci_ranges_rules.specs.Rules.{taking}
use Rattle.sci_ranges.specs.Columns.{spanned}
use Rattle.sci_ranges.specs.Reads.{fed_element}
use Rattle.sci_ranges.proofs.Reacting.{fed_inside}
use Rattle.sci_ranges_rows.specs.Marks.{Marks}
use Rattle.sci_ranges_rows.specs.Tests.{is_under, masks_of}
use Rattle.sci_ranges_pass.specs.Ranges.{Ranges, plain_range, same_wire, conditions, under_range, read_range, any_mask, masks_for}
use Rattle.sci_ranges_find.specs.View.{decides_on, narrowed, IsTaken}
use Rattle.sci_ranges_find.proofs.Counted.{up_to}

-- ---- what a block holds before it shows anything

pub held_is : (n : Parts) (b e : ℕ) (s : Spec) (v : ℤ) (i : Interval) (o : Option Interval) → s ≡ spec_of n b → v ≡ held_of s.kind s e → i ≡ one v → e < total (spec_of n b).outs →
    join (Some i) o ≡ join (Some (one (at (first_held (spec_of n b)) e))) o
held_is n b e s v i o same held is h =
    let first : at (first_held (spec_of n b)) e ≡ held_of (spec_of n b).kind (spec_of n b) e = (listed_at (held_of (spec_of n b).kind (spec_of n b)) (total (spec_of n b).outs)).1 e h in
    ap (λ (j : Interval). join (Some j) o) (is ∙ ap one (held ∙ (ap (λ (x : Spec). held_of x.kind x e) same ∙ sym first)))

-- ---- the branch under which a block acts

join_tests : (a b c : Bool) → (a && (b && c)) ≡ ((a && b) && c)
join_tests true b c = refl
join_tests false b c = refl

conditions_is : (n : Parts) (m : Marks) (q : Feed) (c k : ℕ) → conditions n m q c k 0 ≡ (decides_on n q.block (wire_of n c k) && is_under m q c)
conditions_is n m q c k = join_tests (is_sync (spec_of n q.block).kind) (same_wire (wire_of n q.block 1) (wire_of n c k)) (is_under m q c)

pub taken_on : (n : Parts) (m : Marks) (q : Feed) (c k : ℕ) → decides_on n q.block (wire_of n c k) ≡ true → is_under m q c ≡ true →
    IsTaken n m c k (Some q) (Some (taking (spec_of n q.block) q.port))
taken_on n m q c k decides under o =
    ap (λ (b : Bool). cond b (meet o (Some (taking (spec_of n q.block) q.port))) o)
    (sym (conditions_is n m q c k ∙ (ap (λ (b : Bool). b && is_under m q c) decides ∙ under)))

pub taken_off : (n : Parts) (m : Marks) (q : Feed) (c k : ℕ) → (decides_on n q.block (wire_of n c k) && is_under m q c) ≡ false → IsTaken n m c k (Some q) None
taken_off n m q c k off o =
    ap (λ (b : Bool). cond b (meet o (Some (taking (spec_of n q.block) q.port))) o) (sym (conditions_is n m q c k ∙ off))

pub no_condition : (n : Parts) (b : ℕ) (w : Wire) → (b ≡ 0) → decides_on n b w ≡ false
no_condition n b w e = ap (λ (x : ℕ). decides_on n x w) e

pub past_condition : (n : Parts) (b : ℕ) (w : Wire) → length n.specs < b → decides_on n b w ≡ false
past_condition n zero w h = absurd (omega (arith, h))
past_condition n (suc k) w h =
    let none : spec_of n (suc k) ≡ no_spec = get_or_past n.specs k no_spec (omega (arith, h)) in
    ap (λ s. is_sync s.kind && same_wire (wire_of n (suc k) 1) w) none

not_first : (d : ℕ) → nat_eq (suc d) 0 ≡ false
not_first d = grind (arith, nat_tests)

-- behind the first element the branch tells nothing
under_behind : (n : Parts) (m : Marks) (c k d : ℕ) (hint : Option Feed) (o : Option Interval) → under_range n m c k (suc d) hint o ≡ o
under_behind n m c k d None o = refl
under_behind n m c k d (Some q) o =
    ap (λ (b : Bool). cond (b && (is_sync (spec_of n q.block).kind && (same_wire (wire_of n q.block 1) (wire_of n c k) && is_under m q c))) (meet o (Some (taking (spec_of n q.block) q.port))) o)
    (not_first d)

-- ---- one element

read_first : (n : Parts) (m : Marks) (r : Ranges) (c k d : ℕ) (numbers plain : Option Interval) → IsTaken n m c k (slice_index_or m.under c None) numbers →
    plain ≡ plain_range n m r c k d → d ≡ 0 → narrowed numbers plain ≡ read_range n m r c k d
read_first n m r c k d numbers plain taken same first =
    taken plain
    ∙ (ap (λ (e : ℕ). under_range n m c k e (slice_index_or m.under c None) plain) (sym first)
    ∙ ap (under_range n m c k d (slice_index_or m.under c None)) same)

read_other : (n : Parts) (m : Marks) (r : Ranges) (c k d : ℕ) (plain : Option Interval) → plain ≡ plain_range n m r c k d → (d ≡ 0 → ⊥) → plain ≡ read_range n m r c k d
read_other n m r c k zero plain same behind = absurd (behind refl)
read_other n m r c k (suc d) plain same behind = same ∙ sym (under_behind n m c k d (slice_index_or m.under c None) (plain_range n m r c k (suc d)))

pub read_is : (n : Parts) (m : Marks) (r : Ranges) (c k d : ℕ) (numbers plain o : Option Interval) → IsTaken n m c k (slice_index_or m.under c None) numbers →
    plain ≡ plain_range n m r c k d → o ≡ cond (nat_eq d 0) (narrowed numbers plain) plain → o ≡ read_range n m r c k d
read_is n m r c k d numbers plain o taken same is = is ∙ by_test (nat_eq d 0) refl
  where
    by_test : (b : Bool) → nat_eq d 0 ≡ b → cond b (narrowed numbers plain) plain ≡ read_range n m r c k d
    by_test true e = read_first n m r c k d numbers plain taken same (nat_same d 0 e)
    by_test false e = read_other n m r c k d plain same (λ z. grind (arith, nat_tests, e, z))

pub masks_read : (n : Parts) (m : Marks) (c : ℕ) → reads_mask (spec_of n c).kind ≡ true → masks_of m c ≡ masks_for n m c
masks_read n m c on = ap (λ (t : Bool). cond t (masks_of m c) (any_mask ∷ [])) (sym on)

pub masks_any : (n : Parts) (m : Marks) (c : ℕ) → reads_mask (spec_of n c).kind ≡ false → any_mask ∷ [] ≡ masks_for n m c
masks_any n m c off = ap (λ (t : Bool). cond t (masks_of m c) (any_mask ∷ [])) (sym off)

-- ---- elements of an input

-- the feeder of an input, and its output
pub record IsFeeder (n : Parts) (w : Wire) : Type 0 where
  pub block : IsBlock n w.block
  pub least : 1 ≤ w.port
  pub most : w.port ≤ length (spec_of n w.block).outs

pub feeder_of : (n : Parts) (c k : ℕ) (w : Wire) → IsNet n → IsInput n c k → w ≡ wire_of n c k → IsFeeder n w
feeder_of n c k w net inside e =
    let out = net.wired.wires_lead c k inside in
    subst (IsFeeder n) (sym e) (record { block = out.block; least = out.least; most = out.most })

pub element_in : (n : Parts) (c k d from : ℕ) (w : Wire) → IsNet n → IsInput n c k → w ≡ wire_of n c k → from ≡ before (spec_of n w.block).outs (w.port - 1) →
    d < elements (input_of n c k) → from + d < total (spec_of n w.block).outs
element_in n c k d from w net inside e f l =
    let there : fed_element n c k d < total (spec_of n (wire_of n c k).block).outs = fed_inside n net c k d inside l in
    let same : before (spec_of n w.block).outs (w.port - 1) ≡ before (spec_of n (wire_of n c k).block).outs ((wire_of n c k).port - 1) =
    ap (λ (v : Wire). before (spec_of n v.block).outs (v.port - 1)) e in
    let whole = ap (λ (v : Wire). total (spec_of n v.block).outs) e in
    omega (arith, there, same, whole, f)

pub port_numbered : (ps : List Port) (k : ℕ) → 1 ≤ k → port_at ps (k - 1) ≡ numbered no_port ps k
port_numbered ps zero least = absurd (omega (arith, least))
port_numbered ps (suc k) least = let less : suc k - 1 ≡ k = omega arith in ap (port_at ps) less

-- as many as its feeder's output has
pub input_small : (n : Parts) (c k : ℕ) → IsNet n → IsInput n c k → elements (input_of n c k) ≤ total (spec_of n (wire_of n c k).block).outs
input_small n c k net inside =
    let w = wire_of n c k in
    let out = net.wired.wires_lead c k inside in
    let same = ap elements (net.joined c k inside) in
    let fits = port_within (spec_of n w.block).outs w.port out.least out.most in
    omega (arith, same, fits)
  where
    port_within : (ps : List Port) (p : ℕ) → 1 ≤ p → p ≤ length ps → elements (numbered no_port ps p) ≤ total ps
    port_within ps zero least most = absurd (omega (arith, least))
    port_within ps (suc j) least most = let fits = up_to ps j (omega (arith, most)) in omega (arith, fits)

-- ---- columns

pub column_read : (cs : List (Vec ℤ Global)) (i : List (List ℤ)) (k : ℕ) (v : Vec ℤ Global) → map (λ (c : Vec ℤ Global). c.items) cs ≡ i → 1 ≤ k → k ≤ length cs → v ≡ get_or cs (k - 1) v → v.items ≡ numbered [] i k
column_read cs i k v is least most s = sym (ap (λ (ls : List (List ℤ)). numbered [] ls k) (sym is) ∙ numbered_map (λ (c : Vec ℤ Global). c.items) [] cs k v least most s)

pub no_column : (cs : List (Vec ℤ Global)) (i : List (List ℤ)) (k : ℕ) → map (λ (c : Vec ℤ Global). c.items) cs ≡ i → (1 ≤ k → k ≤ length cs → ⊥) → [] ≡ numbered [] i k
no_column cs i zero is none = refl
no_column cs i (suc k) is none =
    let len = length-map cs (λ (c : Vec ℤ Global). c.items) in
    let same = ap length is in
    sym (get_or_past i k [] (by_order (nat_le (suc k) (length cs)) refl))
  where
    by_order : (b : Bool) → nat_le (suc k) (length cs) ≡ b → length i ≤ k
    by_order true p = absurd (none (omega arith) (nat_le_told (suc k) (length cs) p))
    by_order false p =
        let len = length-map cs (λ (c : Vec ℤ Global). c.items) in let same = ap length is in let more : length cs ≤ k = grind (arith, nat_tests, p) in omega (arith, len, same, more)

-- ---- from the least of some numbers to the greatest

same_ends : (i j : Interval) → i.least ≡ j.least → i.greatest ≡ j.greatest → i ≡ j
same_ends i j e f = λ x. record { least = e x; greatest = f x }

one_hull : (v : ℤ) → IsHullOf (v ∷ []) (one v)
one_hull v = record { all = alone; least = (0, omega arith, refl); greatest = (0, omega arith, refl) }
  where
    alone : (x : ℤ) → Contains (v ∷ []) x → IsIn (one v) x
    alone x (zero, l, e) = subst (IsIn (one v)) e (record { above = omega (arith, ints); below = omega (arith, ints) })
    alone x (suc k, l, e) = absurd (omega (arith, l))

more_hull : (v : ℤ) (vs : List ℤ) (j : Interval) → IsHullOf vs j → IsHullOf (v ∷ vs) (hull (one v) j)
more_hull v vs j h = record { all = inside; least = by_least (int_lt j.least v) refl; greatest = by_greatest (int_lt j.greatest v) refl }
  where
    inside : (x : ℤ) → Contains (v ∷ vs) x → IsIn (hull (one v) j) x
    inside x (zero, l, e) = subst (IsIn (hull (one v) j)) e (record { above = omega (arith, ints, clamps); below = omega (arith, ints, clamps) })
    inside x (suc k, l, e) =
        let p = h.all x (k, omega (arith, l), e) in record { above = omega (arith, ints, clamps, p.above); below = omega (arith, ints, clamps, p.below) }

    by_least : (b : Bool) → int_lt j.least v ≡ b → Contains (v ∷ vs) (cond b j.least v)
    by_least true p = cons-Contains v vs j.least h.least
    by_least false p = (0, omega arith, refl)

    by_greatest : (b : Bool) → int_lt j.greatest v ≡ b → Contains (v ∷ vs) (cond b v j.greatest)
    by_greatest true p = (0, omega arith, refl)
    by_greatest false p = cons-Contains v vs j.greatest h.greatest

spanned_hull : (v : ℤ) (vs : List ℤ) → (j : Interval) × (spanned (v ∷ vs) ≡ Some j) × IsHullOf (v ∷ vs) j
spanned_hull v [] = (one v, refl, one_hull v)
spanned_hull v (w ∷ ws) =
    let r = spanned_hull w ws in (hull (one v) r.0, ap (join (Some (one v))) r.1, more_hull v (w ∷ ws) r.0 r.2)

hulls_same : (vs : List ℤ) (i j : Interval) → IsHullOf vs i → IsHullOf vs j → i ≡ j
hulls_same vs i j h k =
    let a = (h.all j.least k.least).above in
    let b = (k.all i.least h.least).above in
    let c = (h.all j.greatest k.greatest).below in
    let d = (k.all i.greatest h.greatest).below in
    same_ends i j (omega (arith, ints, a, b)) (omega (arith, ints, c, d))

pub spanned_some : (vs : List ℤ) (i : Interval) → IsHullOf vs i → spanned vs ≡ Some i
spanned_some [] i h = absurd (omega (arith, h.least.1))
spanned_some (v ∷ vs) i h = let r = spanned_hull v vs in r.1 ∙ ap Some (hulls_same (v ∷ vs) r.0 i r.2 h)
