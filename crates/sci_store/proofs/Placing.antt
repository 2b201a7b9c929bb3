-- The values of a net as a list of typed places, and the calls that may be made on it together.
use Rattle.std.proofs.Common.{◌≡◌, ℕ, zero, suc, ◌+◌, ◌-◌, ◌*◌, ◌<◌, ◌≤◌, Bool, true, false, ◌&&◌, cond, inl, inr, ⊎_elim, ℤ, pos, negsuc, List, [], ◌∷◌, ◌++◌, length, get_or, take, drop, All, refl, sym, ap, subst, ◌∙◌, arith, true≢false, length-append, length-drop}
use Rattle.std.specs.Prelude.{unsigned_abs, int_le, nat_lt}
use Rattle.std.proofs.Math.ListN.{replicate}
use Rattle.std.proofs.Math.Seq.{get_or-append_right}
use Rattle.std.proofs.lemmas.Bool.{cases_Bool, cases_eq, cases_lt}
use Rattle.std.proofs.lemmas.Bool.Decides.{nat_tests}
use Rattle.std.proofs.lemmas.List.{get_or-map, length-map, get_or-take, get_or-drop, get_or_append_left, get_or-replicate, length-take-le, length-replicate, drop-drop}
use Rattle.sci_base.specs.declared.Ty.{Ty}
use Rattle.sci_base.specs.declared.Ty.TheVariants.{I32}
use Rattle.sci_base.specs.Fit.{InRange}
use Rattle.sci_base.specs.Lists.{at}
use Rattle.sci_forms.specs.declared.Kind.{Kind}
use Rattle.sci_forms.specs.declared.ports.Port.{Port}
use Rattle.sci_forms.specs.declared.spec.Spec.{Spec}
use Rattle.sci_forms.specs.Form.{is_sync, is_sensor}
use Rattle.sci_forms.specs.Ports.{port_at, elements, type_of, type_at, total, before, Fills, no_port}
use Rattle.sci_forms.specs.Typed.{is_known}
use Rattle.sci_kinds.proofs.TypedLemmas.{tests}
use Rattle.sci_net.specs.declared.Wire.{Wire}
use Rattle.sci_net.specs.Parts.{Parts, IsBlock, IsInput, spec_of, no_spec, numbered, wire_of, no_wire, output_of}
use Rattle.sci_net.specs.Net.{all_elements}
use Rattle.sci_pass.specs.State.{AreAlike}
use Rattle.sci_reaction.specs.Equations.{AreInRange}
use Rattle.sci_reaction.proofs.Fills.{entering_ins}
use Rattle.sci_reaction.proofs.Lists.{and_both}
use Rattle.sci_span.specs.declared.span.Span.{Span}
use Rattle.sci_span.specs.declared.place.Place.{Place}
use Rattle.sci_span.specs.Values.{IsLone, no_span, no_place}
use Rattle.sci_places.specs.Flat.{start_in, start_of, values_at, IsWhole}
use Rattle.sci_places.specs.Layout.{place_at, output_span, block_span, laid_down}
use Rattle.sci_places.proofs.Lists.{up_to}
use Rattle.sci_places.proofs.Outputs.{block_within}
use Rattle.sci_places.proofs.Inputs.{output_within}
use Rattle.sci_places.proofs.Placed.{numbered_at}
use Rattle.sci_bank.specs.declared.runs.Call.{Call}
use Rattle.sci_bank.specs.Bank.{Meaning, spec_at}
use Rattle.sci_bank.specs.Library.{bank_of}
use Rattle.sci_bank.specs.Runs.{place_in, AreOfTypes, HasTypes, IsPlaced, ArePlaced, MayRun}
use Rattle.sci_store.specs.Frame.{Fixed, IsFrame, AreSeated, seat_of}
use Rattle.sci_store.specs.Rows.{IsAlone}
use Rattle.sci_store.specs.Runs.{IsCallIn, AreOfKind}
use Rattle.sci_store.proofs.Evaluating.{alike_here, known_here}

-- ---- the types of all values

abbrev pub port_types : List Port → List Ty
port_types [] = []
port_types (p ∷ ps) = replicate (elements p) (type_of p) ++ port_types ps

abbrev pub types_in : List Spec → List Ty
types_in [] = []
types_in (s ∷ ss) = port_types s.outs ++ types_in ss

abbrev pub types_of : Parts → List Ty
types_of n = types_in n.specs

port_types_long : (ps : List Port) → length (port_types ps) ≡ total ps
port_types_long [] = refl
port_types_long (p ∷ ps) =
    let joined = length-append (replicate (elements p) (type_of p)) (port_types ps) in
    let first = length-replicate (elements p) (type_of p) in
    let rest = port_types_long ps in
    omega (arith, joined, first, rest)

types_long : (ss : List Spec) → length (types_in ss) ≡ all_elements ss
types_long [] = refl
types_long (s ∷ ss) =
    let joined = length-append (port_types s.outs) (types_in ss) in
    let first = port_types_long s.outs in
    let rest = types_long ss in
    omega (arith, joined, first, rest)

port_type_at : (ps : List Port) (e : ℕ) → e < total ps → get_or (port_types ps) e I32 ≡ type_at ps e
port_type_at [] e h = absurd (omega (arith, h))
port_type_at (p ∷ ps) e h =
    let long = length-replicate (elements p) (type_of p) in
    elim (cases_lt e (elements p)) as (λ _. get_or (port_types (p ∷ ps)) e I32 ≡ type_at (p ∷ ps) e) [
      | inl l ↦
          get_or_append_left (replicate (elements p) (type_of p)) (port_types ps) I32 e (omega (arith, l, long))
          ∙ (get_or-replicate (elements p) e (type_of p) I32 l ∙ sym (test_yes (nat_lt e (elements p)) (lt_yes e (elements p) l)))
      | inr r ↦
          get_or-append_right (replicate (elements p) (type_of p)) (port_types ps) e I32 (omega (arith, r, long))
          ∙ (ap (λ k. get_or (port_types ps) (e - k) I32) long
          ∙ (port_type_at ps (e - elements p) (omega (arith, h, r)) ∙ sym (test_no (nat_lt e (elements p)) (lt_no e (elements p) r))))
    ]
  where
    lt_yes : (a b : ℕ) → a < b → nat_lt a b ≡ true
    lt_yes a b l = grind (arith, nat_tests)

    lt_no : (a b : ℕ) → b ≤ a → nat_lt a b ≡ false
    lt_no a b l = grind (arith, nat_tests)

    test_yes : (t : Bool) → t ≡ true → cond t (type_of p) (type_at ps (e - elements p)) ≡ type_of p
    test_yes t on = ap (λ u. cond u (type_of p) (type_at ps (e - elements p))) on

    test_no : (t : Bool) → t ≡ false → cond t (type_of p) (type_at ps (e - elements p)) ≡ type_at ps (e - elements p)
    test_no t off = ap (λ u. cond u (type_of p) (type_at ps (e - elements p))) off

-- the types of a block's values
block_type_in : (ss : List Spec) (j e : ℕ) → j < length ss → e < total (get_or ss j no_spec).outs
    → get_or (types_in ss) (start_in ss j + e) I32 ≡ type_at (get_or ss j no_spec).outs e
block_type_in [] j e h l = absurd (omega (arith, h))
block_type_in (s ∷ ss) zero e h l =
    let long = port_types_long s.outs in
    let same : 0 + e ≡ e = omega arith in
    ap (λ k. get_or (types_in (s ∷ ss)) k I32) same
    ∙ (get_or_append_left (port_types s.outs) (types_in ss) I32 e (omega (arith, long, l)) ∙ port_type_at s.outs e l)
block_type_in (s ∷ ss) (suc j) e h l =
    let long = port_types_long s.outs in
    let rest : total s.outs + start_in ss j + e - length (port_types s.outs) ≡ start_in ss j + e = omega (arith, long) in
    get_or-append_right (port_types s.outs) (types_in ss) (total s.outs + start_in ss j + e) I32 (omega (arith, long))
    ∙ (ap (λ k. get_or (types_in ss) k I32) rest ∙ block_type_in ss j e (omega (arith, h)) l)

pub block_type : (n : Parts) (b e : ℕ) → IsBlock n b → e < total (spec_of n b).outs → get_or (types_of n) (start_of n b + e) I32 ≡ type_at (spec_of n b).outs e
block_type n zero e block l = absurd (let a = block.least in omega (arith, a))
block_type n (suc j) e block l =
    let same : suc j - 1 ≡ j = omega arith in
    ap (λ k. get_or (types_of n) (start_in n.specs k + e) I32) same ∙ block_type_in n.specs j e (let a = block.most in omega (arith, a)) l

-- values in range are of these types, and the other way round
ranges_in : (ss : List Spec) (vs : List ℤ) → length vs ≡ all_elements ss
    → ((j : ℕ) → j < length ss → Fills (get_or ss j no_spec).outs (take (total (get_or ss j no_spec).outs) (drop (start_in ss j) vs)))
    → (k : ℕ) → k < length vs → InRange (get_or (types_in ss) k I32) (at vs k)
ranges_in [] vs long h k l = absurd (omega (arith, long, l))
ranges_in (s ∷ ss) vs long h k l =
    let t = total s.outs in
    let types = port_types_long s.outs in
    elim (cases_lt k t) as (λ _. InRange (get_or (types_in (s ∷ ss)) k I32) (at vs k)) [
      | inl less ↦
          let here = (h 0 (omega arith)).in_range k less in
          let value : at (take t vs) k ≡ at vs k = get_or-take t vs k (pos 0) less in
          let kind = get_or_append_left (port_types s.outs) (types_in ss) I32 k (omega (arith, types, less)) ∙ port_type_at s.outs k less in
          subst (λ x. InRange x (at vs k)) (sym kind) (subst (InRange (type_at s.outs k)) value here)
      | inr more ↦
          let rest = length-drop t vs in
          let again = ranges_in ss (drop t vs) (omega (arith, rest, long))
          (λ j m. subst (λ ws. Fills (get_or ss j no_spec).outs (take (total (get_or ss j no_spec).outs) ws)) (sym (drop-drop (start_in ss j) t vs)) (h (suc j) (omega (arith, m))))
          (k - t) (omega (arith, rest, l, more)) in
          let same : t + (k - t) ≡ k = omega (arith, more) in
          let value : at (drop t vs) (k - t) ≡ at vs k = get_or-drop t vs (k - t) (pos 0) ∙ ap (at vs) same in
          let kind = get_or-append_right (port_types s.outs) (types_in ss) k I32 (omega (arith, types, more)) ∙ ap (λ j. get_or (types_in ss) (k - j) I32) types in
          subst (λ x. InRange x (at vs k)) (sym kind) (subst (InRange (get_or (types_in ss) (k - t) I32)) value again)
    ]

pub of_types : (n : Parts) (values : List ℤ) → IsWhole n values → AreInRange n (values_at n values) → AreOfTypes (types_of n) values
of_types n values whole all = record {
  one_each = types_long n.specs ∙ sym whole;
  in_range = ranges_in n.specs values whole (λ j l.
      let same : suc j - 1 ≡ j = omega arith in
      subst (λ k. Fills (get_or n.specs j no_spec).outs (take (total (get_or n.specs j no_spec).outs) (drop (start_in n.specs k) values))) same
      (all (suc j) (record { least = omega arith; most = omega (arith, l) })));
}

pub from_types : (n : Parts) (values : List ℤ) → AreOfTypes (types_of n) values → AreInRange n (values_at n values)
from_types n values are b block =
    let t = total (spec_of n b).outs in
    let whole = types_long n.specs in
    let each = are.one_each in
    let fits = block_within n b block in
    let rest = length-drop (start_of n b) values in
    record {
      enough = length-take-le t (drop (start_of n b) values) (omega (arith, rest, fits, whole, each));
      in_range = λ e l.
          let value : at (values_at n values b) e ≡ at values (start_of n b + e) =
          get_or-take t (drop (start_of n b) values) e (pos 0) l ∙ get_or-drop (start_of n b) values e (pos 0) in
          subst (InRange (type_at (spec_of n b).outs e)) (sym value)
          (subst (λ x. InRange x (at values (start_of n b + e))) (block_type n b e block l) (are.in_range (start_of n b + e) (omega (arith, fits, whole, each, l))));
    }

pub whole_of_types : (n : Parts) (values : List ℤ) → AreOfTypes (types_of n) values → IsWhole n values
whole_of_types n values are = sym are.one_each ∙ types_long n.specs

-- ---- outputs have elements

one_or_more : (z : ℤ) → int_le (pos 1) z ≡ true → 1 ≤ unsigned_abs z
one_or_more (pos zero) h = absurd (true≢false (sym h))
one_or_more (pos (suc k)) h = omega arith
one_or_more (negsuc k) h = absurd (true≢false (sym h))

product_one : (a b : ℕ) → 1 ≤ a → 1 ≤ b → 1 ≤ a * b
product_one zero b h l = absurd (omega (arith, h))
product_one (suc a) b h l = grind arith

known_elements : (p : Port) → is_known p ≡ true → 1 ≤ elements p
known_elements p h =
    let first = and_both (int_le (pos 1) p.rows && int_le (pos 1) p.cols) _ h in
    let both = and_both (int_le (pos 1) p.rows) (int_le (pos 1) p.cols) first.0 in
    product_one (unsigned_abs p.rows) (unsigned_abs p.cols) (one_or_more p.rows both.0) (one_or_more p.cols both.1)

few_ports : (ps : List Port) → ((k : ℕ) → k < length ps → 1 ≤ elements (port_at ps k)) → length ps ≤ total ps
few_ports [] h = omega arith
few_ports (p ∷ ps) h =
    let first : 1 ≤ elements p = h 0 (omega arith) in
    let rest = few_ports ps (λ k l. h (suc k) (omega (arith, l))) in
    omega (arith, first, rest)

-- the type at the beginning of an output
first_of_port : (ps : List Port) (k : ℕ) → k < length ps → 1 ≤ elements (port_at ps k) → type_at ps (before ps k) ≡ type_of (port_at ps k)
first_of_port [] k l h = absurd (omega (arith, l))
first_of_port (p ∷ ps) zero l h = yes (nat_lt 0 (elements p)) (grind (arith, nat_tests))
  where
    yes : (t : Bool) → t ≡ true → cond t (type_of p) (type_at ps (0 - elements p)) ≡ type_of p
    yes t on = ap (λ u. cond u (type_of p) (type_at ps (0 - elements p))) on
first_of_port (p ∷ ps) (suc k) l h =
    let same : elements p + before ps k - elements p ≡ before ps k = omega arith in
    no (nat_lt (elements p + before ps k) (elements p)) (grind (arith, nat_tests))
    ∙ (ap (type_at ps) same ∙ first_of_port ps k (omega (arith, l)) h)
  where
    no : (t : Bool) → t ≡ false → cond t (type_of p) (type_at ps (elements p + before ps k - elements p)) ≡ type_at ps (elements p + before ps k - elements p)
    no t off = ap (λ u. cond u (type_of p) (type_at ps (elements p + before ps k - elements p))) off

-- ---- a block that is not done by itself

pub lone_stable : (p : Place) → ((IsLone p → ⊥) → ⊥) → IsLone p
lone_stable p h = record {
  ins = λ k d l. ⊎_elim (λ one. one) (λ other. absurd (h (λ lone. other (lone.ins k d l)))) (cases_eq (get_or p.ins k d).len 1);
  outs = ⊎_elim (λ more. absurd (h (λ lone. let a = lone.outs in omega (arith, a, more)))) (λ few. few) (cases_lt 1 p.outs.len);
}

pub lone_of : (f : Fixed) (b : ℕ) → (IsAlone f b → ⊥) → IsLone (place_at f.layout b)
lone_of f b h = lone_stable (place_at f.layout b) (λ out. h (record { reason = inr (inr out) }))

pub no_sensor_of : (f : Fixed) (b : ℕ) → (IsAlone f b → ⊥) → is_sensor (seat_of f b).kind ≡ false
no_sensor_of f b h = ⊎_elim (λ on. absurd (h (record { reason = inr (inl on) }))) (λ off. off) (cases_Bool (is_sensor (seat_of f b).kind))

pub no_sync_of : (f : Fixed) (b : ℕ) → (IsAlone f b → ⊥) → is_sync (seat_of f b).kind ≡ false
no_sync_of f b h = ⊎_elim (λ on. absurd (h (record { reason = inl on }))) (λ off. off) (cases_Bool (is_sync (seat_of f b).kind))

module _ (f : Fixed) (frame : IsFrame f) (banks : List Meaning) (seated : AreSeated f banks) (b : ℕ) (block : IsBlock f.net b) where
  pub place_is : place_in f.layout.blocks b ≡ laid_down f.net b
  place_is = sym (numbered_at no_place f.layout.blocks b block.least) ∙ frame.layout.places b block

  port_some : (k : ℕ) → k < length (spec_of f.net b).outs → 1 ≤ elements (port_at (spec_of f.net b).outs k)
  port_some k l = known_elements (port_at (spec_of f.net b).outs k) ((tests (spec_of f.net b).kind (spec_of f.net b) (frame.net.typed_specs b block)).known_outs k l)

  module _ (lone : IsLone (place_at f.layout b)) where
    lone_here : IsLone (laid_down f.net b)
    lone_here = subst IsLone (frame.layout.places b block) lone

    abbrev wires : List Wire
    wires = numbered [] f.net.wires b

    -- ---- what goes in

    module _ (k : ℕ) (less : k < length (spec_of f.net b).ins) where
      input : IsInput f.net b (suc k)
      input = record { block = block; least = omega arith; most = omega (arith, less) }

      abbrev w : Wire
      w = wire_of f.net b (suc k)

      leads_port : (p : ℕ) → 1 ≤ p → p ≤ length (spec_of f.net w.block).outs → output_of f.net w.block p ≡ port_at (spec_of f.net w.block).outs (p - 1)
      leads_port p l m = numbered_at no_port (spec_of f.net w.block).outs p l

      leads : IsBlock f.net w.block × (1 ≤ w.port) × (w.port ≤ length (spec_of f.net w.block).outs)
      leads = let o = frame.net.wired.wires_lead b (suc k) input in (o.block, o.least, o.most)

      span_read : get_or (laid_down f.net b).ins k no_span ≡ output_span f.net w
      span_read =
          let each = frame.net.wired.one_wire_each b block in
          get_or-map (output_span f.net) wires k no_wire no_span (omega (arith, each, less))

      len_is : (output_span f.net w).len ≡ elements (port_at (spec_of f.net b).ins k)
      len_is = ap elements (frame.net.joined b (suc k) input)

      len_one : (output_span f.net w).len ≡ 1
      len_one =
          let each = frame.net.wired.one_wire_each b block in
          let long = length-map wires (output_span f.net) in
          ap (λ (s : Span). s.len) (sym span_read) ∙ lone_here.ins k no_span (omega (arith, each, long, less))

      abbrev outs_there : List Port
      outs_there = (spec_of f.net w.block).outs

      port_is : output_of f.net w.block w.port ≡ port_at outs_there (w.port - 1)
      port_is = leads_port w.port leads.1 leads.2

      one_there : elements (port_at outs_there (w.port - 1)) ≡ 1
      one_there = ap elements (sym port_is) ∙ len_one

      input_type : get_or (types_of f.net) (output_span f.net w).start I32 ≡ type_of (port_at (spec_of f.net b).ins k)
      input_type =
          let l = leads.1 in
          let m = leads.2 in
          let port : w.port - 1 < length outs_there = omega (arith, l, m) in
          let room = up_to outs_there (w.port - 1) port in
          let one = one_there in
          block_type f.net w.block (before outs_there (w.port - 1)) leads.0 (omega (arith, room, one))
          ∙ (first_of_port outs_there (w.port - 1) port (omega (arith, one)) ∙ ap type_of (sym port_is ∙ frame.net.joined b (suc k) input))

      input_within : (output_span f.net w).start < length (types_of f.net)
      input_within =
          let fits = output_within f.net w (frame.net.wired.wires_lead b (suc k) input) in
          let one = len_one in
          let all = types_long f.net.specs in
          omega (arith, fits, one, all)

    ins_typed : HasTypes (types_of f.net) (spec_of f.net b).ins (laid_down f.net b).ins
    ins_typed =
        let each = frame.net.wired.one_wire_each b block in
        let long = length-map wires (output_span f.net) in
        let within : (k : ℕ) → k < length (laid_down f.net b).ins → k < length (spec_of f.net b).ins = λ k l. omega (arith, each, long, l) in
        record {
          one_each = long ∙ each;
          within = λ k l. subst (λ (s : Span). s.start < length (types_of f.net)) (sym (span_read k (within k l))) (input_within k (within k l));
          sizes_are = λ k l. ap (λ (s : Span). s.len) (span_read k (within k l)) ∙ len_is k (within k l);
          types_are = λ k l. ap (λ (s : Span). get_or (types_of f.net) s.start I32) (span_read k (within k l)) ∙ input_type k (within k l);
        }

    -- ---- what comes out

    some_port : (ps : List Port) → 0 < total ps → 0 < length ps
    some_port [] h = absurd (omega (arith, h))
    some_port (p ∷ ps) h = omega arith

    one_total : (ps : List Port) → length ps ≡ 1 → total ps ≡ elements (port_at ps 0)
    one_total [] h = absurd (omega (arith, h))
    one_total (p ∷ []) h = omega arith
    one_total (p ∷ q ∷ ps) h = absurd (omega (arith, h))

    outs_typed : 0 < total (spec_of f.net b).outs → HasTypes (types_of f.net) (spec_of f.net b).outs (block_span f.net b ∷ [])
    outs_typed some =
        let few = lone_here.outs in
        let count = few_ports (spec_of f.net b).outs port_some in
        let least = some_port (spec_of f.net b).outs some in
        let one : length (spec_of f.net b).outs ≡ 1 = omega (arith, few, count, least) in
        let fits = block_within f.net b block in
        let all = types_long f.net.specs in
        let at_zero : start_of f.net b + 0 ≡ start_of f.net b = omega arith in
        let first : (k : ℕ) → k < 1 → k ≡ 0 = λ k l. omega (arith, l) in
        let start : get_or (types_of f.net) (start_of f.net b) I32 ≡ type_of (port_at (spec_of f.net b).outs 0) =
        ap (λ k. get_or (types_of f.net) k I32) (sym at_zero)
        ∙ (block_type f.net b 0 block some ∙ first_of_port (spec_of f.net b).outs 0 least (port_some 0 least)) in
        record {
          one_each = sym one;
          within = λ k l. subst (λ j. (get_or (block_span f.net b ∷ []) j no_span).start < length (types_of f.net)) (sym (first k l))
              (let h : start_of f.net b < length (types_of f.net) = omega (arith, fits, all, some) in h);
          sizes_are = λ k l. subst (λ j. (get_or (block_span f.net b ∷ []) j no_span).len ≡ elements (port_at (spec_of f.net b).outs j)) (sym (first k l))
              (one_total (spec_of f.net b).outs one);
          types_are = λ k l. subst (λ j. get_or (types_of f.net) (get_or (block_span f.net b ∷ []) j no_span).start I32 ≡ type_of (port_at (spec_of f.net b).outs j))
              (sym (first k l)) start;
        }

-- ---- calls that are made together

module _ (f : Fixed) (frame : IsFrame f) (banks : List Meaning) (seated : AreSeated f banks) (kind : Kind) where
  -- the spec of a call's instance
  pub alike_call : (c : Call) → IsCallIn f c → (seat_of f c.block).kind ≡ kind → AreAlike (spec_of f.net c.block) (spec_at (bank_of banks kind) c.slot)
  alike_call c in_net same =
      subst (λ k. AreAlike (spec_of f.net c.block) (spec_at (bank_of banks k) c.slot)) same
      (subst (λ slot. AreAlike (spec_of f.net c.block) (spec_at (bank_of banks (seat_of f c.block).kind) slot)) (sym in_net.slot)
      (alike_here f banks seated c.block in_net.block (seat_of f c.block) refl))

  is_placed : (c : Call) → IsCallIn f c → (seat_of f c.block).kind ≡ kind → (IsAlone f c.block → ⊥) → IsPlaced (bank_of banks kind) f.layout.blocks (types_of f.net) c
  is_placed c in_net same together =
      let b = c.block in
      let block = in_net.block in
      let alike = alike_call c in_net same in
      let lone = lone_of f b together in
      let place = place_is f frame banks seated b block in
      let off : is_sensor (spec_of f.net b).kind ≡ false = ap is_sensor (sym (frame.seated b block).kind) ∙ no_sensor_of f b together in
      record {
        known = subst (λ k. c.slot < length (bank_of banks k).rows) same
            (subst (λ slot. slot < length (bank_of banks (seat_of f b).kind).rows) (sym in_net.slot) (known_here f banks seated b block (seat_of f b) refl));
        first = block.least;
        last = let each = frame.layout.one_each in let most = block.most in omega (arith, each, most);
        masked = alike.masks c.mask in_net.mask;
        takes_inputs = sym alike.entering ∙ (entering_ins (spec_of f.net b).kind (spec_of f.net b) off ∙ alike.ins);
        lone = subst IsLone (sym place) (lone_here f frame banks seated b block lone);
        ins = subst (λ (p : Place). HasTypes (types_of f.net) (spec_at (bank_of banks kind) c.slot).ins p.ins) (sym place)
            (subst (λ ps. HasTypes (types_of f.net) ps (laid_down f.net b).ins) alike.ins (ins_typed f frame banks seated b block lone));
        long = ap (λ (p : Place). p.outs.len) place ∙ ap total alike.outs;
        outs = λ some. subst (λ (p : Place). HasTypes (types_of f.net) (spec_at (bank_of banks kind) c.slot).outs (p.outs ∷ [])) (sym place)
            (subst (λ ps. HasTypes (types_of f.net) ps (block_span f.net b ∷ [])) alike.outs
            (outs_typed f frame banks seated b block lone (subst (λ ps. 0 < total ps) (sym alike.outs) some)));
      }

  pub are_placed : (calls : List Call) → All (IsCallIn f) calls → AreOfKind f kind calls → All (λ (c : Call). IsAlone f c.block → ⊥) calls
      → ArePlaced (bank_of banks kind) f.layout.blocks (types_of f.net) calls
  are_placed calls in_net of_kind together = record { each = λ k d l. is_placed (get_or calls k d) (in_net k d l) (of_kind k d l) (together k d l) }

  pub may_run : (calls : List Call) (values : List ℤ) → IsWhole f.net values → AreInRange f.net (values_at f.net values) → All (IsCallIn f) calls → AreOfKind f kind calls
      → All (λ (c : Call). IsAlone f c.block → ⊥) calls → MayRun (bank_of banks kind) f.layout.blocks values calls
  may_run calls values whole in_range in_net of_kind together =
      (types_of f.net, (of_types f.net values whole in_range, are_placed calls in_net of_kind together))
