-- Every typed spec is what the check gives of some fields: those that declare its ports, and its own lists.
use Rattle.std.proofs.Common.{◌≡◌, ℕ, zero, suc, ◌+◌, ◌<◌, ◌≤◌, ℤ, pos, List, [], ◌∷◌, length, map, take, Bool, true, false, ◌&&◌, ◌||◌, not, cond, Option, Some, None, Ok, refl, ap, sym, ◌∙◌, arith}
use Rattle.std.specs.Prelude.{nat_eq, int_lt, is_none}
use Rattle.std.proofs.lemmas.Bool.{eq-eqb, ne_eqb}
use Rattle.std.proofs.lemmas.List.{length-map, get_or-map, take_more, take_all}
use Rattle.sci_base.specs.Lists.{at}
use Rattle.sci_base.specs.Plain.{Fields, each_input}
use Rattle.sci_forms.specs.declared.Kind.{Kind}
use Rattle.sci_forms.specs.declared.Kind.TheVariants.{Const, Dollar, Register, ModuloCount, GatedDelay}
use Rattle.sci_forms.specs.declared.broken.Broken.{Broken}
use Rattle.sci_forms.specs.declared.ports.Port.{Port}
use Rattle.sci_forms.specs.declared.spec.Spec.{Spec}
use Rattle.sci_forms.specs.Ports.{port_at, no_port}
use Rattle.sci_names.specs.Names.{name_of, by_name}
use Rattle.sci_forms.specs.Forms.{or_else, unless, first_not, given, all_to, within, between, counts_of, fed, params_len_ok, param_ok, state_len_ok, state_ok, firing_ok}
use Rattle.sci_forms.specs.Form.{has_delay, has_state}
use Rattle.sci_forms.specs.Typed.{feed_ok, counted, formed_of, known_of, known_in, known_out, is_known, types_broken_of, sizes_broken_of}
use Rattle.sci_forms.proofs.TestLemmas.{both_true, all_to_at, nat_same}
use Rattle.sci_check.specs.Check.{judged, broken, counts_broken, lengths_broken, forms_broken, types_broken, side_broken, integer_at, not_integer, active_broken, params_broken, state_broken, events_broken, values_broken, cols_ok, types_len_ok, firing_len_ok, feed_broken, bad_truth, date_ok, bad_value, declared_port, declared_ports, kept, spec_of}
use Rattle.sci_rows.specs.Laws.{OriginLaw}

-- ---- the name of a kind

named : (k : Kind) → by_name (name_of k) ≡ Some k
named Const = refl
named _ = refl

-- ---- ports

abbrev rows_of : List Port → List ℤ
rows_of ps = map (λ (p : Port). p.rows) ps

abbrev cols_of : List Port → List ℤ
cols_of ps = map (λ (p : Port). p.cols) ps

abbrev types_of : List Port → List ℤ
types_of ps = map (λ (p : Port). p.ty) ps

port_again : (ps : List Port) (n : ℕ) → n < length ps → declared_port (rows_of ps) (cols_of ps) (types_of ps) n ≡ port_at ps n
port_again ps n h =
    let r : at (rows_of ps) n ≡ (port_at ps n).rows = get_or-map (λ (p : Port). p.rows) ps n no_port (pos 0) h in
    let c : at (cols_of ps) n ≡ (port_at ps n).cols = get_or-map (λ (p : Port). p.cols) ps n no_port (pos 0) h in
    let t : at (types_of ps) n ≡ (port_at ps n).ty = get_or-map (λ (p : Port). p.ty) ps n no_port (pos 0) h in
    let len : length (cols_of ps) ≡ length ps = length-map ps (λ (p : Port). p.cols) in
    let some : nat_eq (length (cols_of ps)) 0 ≡ false = ne_eqb (length (cols_of ps)) 0 (λ e. omega (arith, e, len, h)) in
    rw (some, r, c, t) refl

ports_again : (ps : List Port) (n : ℕ) → n ≤ length ps → declared_ports (rows_of ps) (cols_of ps) (types_of ps) n ≡ take n ps
ports_again ps zero h = refl
ports_again ps (suc n) h =
    let i : n < length ps = omega (arith, h) in
    let e : suc n ≡ n + 1 = omega arith in
    rw (ports_again ps n (omega (arith, h)), port_again ps n i) (sym (ap (λ m. take m ps) e ∙ take_more ps n no_port i))

all_ports : (ps : List Port) (n : ℕ) → n ≡ length ps → declared_ports (rows_of ps) (cols_of ps) (types_of ps) n ≡ ps
all_ports ps n e = ports_again ps n (omega (arith, e)) ∙ take_all n ps (omega (arith, e))

-- ---- tests that pass

pass : (b : Bool) (x : Broken) (r : Option Broken) → b ≡ true → r ≡ None → cond (not b) (Some x) r ≡ None
pass b x r h k = rw (h, k) refl

neither : (a b : Option Broken) → a ≡ None → b ≡ None → or_else a b ≡ None
neither a b h k = rw (h, k) refl

given_none : (o : Option ℕ) (f : ℕ → Broken) → is_none o ≡ true → given o f ≡ None
given_none (Some k) f h = cc
given_none None f h = refl

all_pass : (f : ℕ → Bool) (n : ℕ) → ((k : ℕ) → k < n → f k ≡ true) → is_none (first_not f n) ≡ true
all_pass f zero h = refl
all_pass f (suc n) h = none_more (first_not f n) (f n) n (all_pass f n (λ k p. h k (omega (arith, p)))) (h n (omega arith))
  where
    none_more : (o : Option ℕ) (b : Bool) (n : ℕ) → is_none o ≡ true → b ≡ true → is_none (or_else o (unless b n)) ≡ true
    none_more (Some k) b n p q = cc
    none_more None b n p q = rw q refl

or_right : (a b : Bool) → b ≡ true → (a || b) ≡ true
or_right true b h = refl
or_right false b h = h

none_left : {A : Type 0} (xs : List A) → nat_eq (length xs) 0 ≡ true → xs ≡ []
none_left [] h = refl
none_left (x ∷ xs) h = absurd (omega (arith, nat_same _ _ h))

-- the types of known ports are types of integers
side_passes : (side : ℤ) (ps : List Port) (n : ℕ) → n ≡ length ps → ((k : ℕ) → k < length ps → is_known (port_at ps k) ≡ true) → side_broken side (types_of ps) n ≡ None
side_passes side ps n e h =
    given_none (first_not (integer_at (types_of ps)) n) (not_integer side (types_of ps)) (all_pass (integer_at (types_of ps)) n (λ k l.
    let i : k < length ps = omega (arith, e, l) in
    let t : at (types_of ps) k ≡ (port_at ps k).ty = get_or-map (λ (p : Port). p.ty) ps k no_port (pos 0) i in
    rw t (or_right (int_lt (port_at ps k).ty (pos 0)) (between (pos 3) (pos 8) (port_at ps k).ty) (both_true _ (between (pos 3) (pos 8) (port_at ps k).ty) (h k i)).1)))

-- ---- the lists that only some kinds have

kept_again : (b : Bool) (xs : List ℤ) → (b ≡ false → xs ≡ []) → kept b xs ≡ xs
kept_again true xs h = refl
kept_again false xs h = sym (h refl)

-- a list that is there has its form, and one that isn't is empty
state_tells : (b : Bool) (c : Kind) (xs : List ℤ) → cond b (state_len_ok c (length xs)) (nat_eq (length xs) 0) ≡ true → b ≡ false → xs ≡ []
state_tells true c xs h e = cc
state_tells false c xs h e = none_left xs h

firing_tells : (b : Bool) (xs : List ℤ) → cond b (nat_eq (length xs) 1 && firing_ok (at xs 0)) (nat_eq (length xs) 0) ≡ true
    → (b ≡ false → xs ≡ []) × ((not b || nat_eq (length xs) 1) ≡ true) × ((not b || firing_ok (at xs 0)) ≡ true)
firing_tells true xs h = let p = both_true (nat_eq (length xs) 1) (firing_ok (at xs 0)) h in ((λ e. cc), p.0, p.1)
firing_tells false xs h = ((λ e. none_left xs h), refl, refl)

-- a kind without a state asks nothing of its length
free_state : (k : Kind) (n : ℕ) → cond (has_state k) (state_len_ok k n) (nat_eq n 0) ≡ true → state_len_ok k n ≡ true
free_state Dollar n h = h
free_state Register n h = h
free_state ModuloCount n h = h
free_state GatedDelay n h = h
free_state _ n h = refl

-- ---- the fields of a spec

abbrev fields_for : Spec → Fields
fields_for s = record {
  ins = rows_of s.ins;
  in2 = cols_of s.ins;
  intyp = types_of s.ins;
  outs = rows_of s.outs;
  out2 = cols_of s.outs;
  outtyp = types_of s.outs;
  evtin = s.evtin;
  evtout = s.evtout;
  dstate = s.state;
  ipar = s.params;
  firing = s.firing;
  dep = Some (record { part = each_input s.feed; always = false });
}

equal_lengths : (a b : ℕ) → a ≡ b → nat_eq a b ≡ true
equal_lengths a b e = eq-eqb a b e

passes : (c : Kind) (s : Spec) → formed_of c s ≡ true → known_of s ≡ true → broken c (fields_for s) ≡ None
passes c s h k =
    let f = fields_for s in
    let n : length f.ins ≡ length s.ins = length-map s.ins (λ (p : Port). p.rows) in
    let m : length f.outs ≡ length s.outs = length-map s.outs (λ (p : Port). p.rows) in
    let n2 : length f.in2 ≡ length f.ins = length-map s.ins (λ (p : Port). p.cols) ∙ sym n in
    let m2 : length f.out2 ≡ length f.outs = length-map s.outs (λ (p : Port). p.cols) ∙ sym m in
    let n3 : length f.intyp ≡ length f.ins = length-map s.ins (λ (p : Port). p.ty) ∙ sym n in
    let m3 : length f.outtyp ≡ length f.outs = length-map s.outs (λ (p : Port). p.ty) ∙ sym m in
    let t = counts_of c (length s.ins) in
    let f6 = both_true _ (feed_ok c s.feed (length s.ins)) h in
    let f5 = both_true _ (cond (has_delay c) (nat_eq (length s.firing) 1 && firing_ok (at s.firing 0)) (nat_eq (length s.firing) 0)) f6.0 in
    let f4 = both_true _ (all_to (state_ok c s.params s.state) (length s.state)) f5.0 in
    let f3 = both_true _ (cond (has_state c) (state_len_ok c (length s.state)) (nat_eq (length s.state) 0)) f4.0 in
    let f2 = both_true _ (all_to (param_ok c (length s.ins) s.params) (length s.params)) f3.0 in
    let f1 = both_true (counted s t) (params_len_ok c (length s.ins) (length s.outs) (length s.params)) f2.0 in
    let c3 = both_true _ (within t.evtout_least t.evtout_most s.evtout) f1.0 in
    let c2 = both_true _ (within t.evtin_least t.evtin_most s.evtin) c3.0 in
    let c1 = both_true (within t.ins_least t.ins_most (length s.ins)) (within t.outs_least t.outs_most (length s.outs)) c2.0 in
    let k1 = both_true (all_to (known_in s) (length s.ins)) (all_to (known_out s) (length s.outs)) k in
    let dates = firing_tells (has_delay c) s.firing f5.1 in
    let counts : counts_broken c f ≡ None = rw (n, m) (pass _ _ _ c1.0 (pass _ _ _ c1.1 (pass _ _ _ c2.1 (pass _ _ _ c3.1 refl)))) in
    let lengths : lengths_broken c f ≡ None =
    pass (cols_ok (length f.in2) (length f.ins)) _ _ (or_right _ _ (equal_lengths _ _ n2))
    (pass (types_len_ok (length f.intyp) (length f.ins)) _ _ (or_right _ _ (equal_lengths _ _ n3))
    (pass (cols_ok (length f.out2) (length f.outs)) _ _ (or_right _ _ (equal_lengths _ _ m2))
    (pass (types_len_ok (length f.outtyp) (length f.outs)) _ _ (or_right _ _ (equal_lengths _ _ m3))
    (pass (firing_len_ok c (length f.firing)) _ _ dates.1 refl)))) in
    let types : types_broken f ≡ None =
    neither (side_broken (pos 1) f.intyp (length f.ins)) (side_broken (pos 2) f.outtyp (length f.outs))
    (side_passes (pos 1) s.ins (length f.ins) n (all_to_at (known_in s) (length s.ins) k1.0))
    (side_passes (pos 2) s.outs (length f.outs) m (λ i l. (both_true (is_known (port_at s.outs i)) _ (all_to_at (known_out s) (length s.outs) k1.1 i l)).0)) in
    let params : params_broken c f ≡ None =
    rw (n, m) (pass (params_len_ok c (length s.ins) (length s.outs) (length s.params)) _ _ f1.1 (given_none (first_not (param_ok c (length s.ins) s.params) (length s.params)) (bad_value (pos 1) s.params) f2.1)) in
    let state : state_broken c f ≡ None =
    pass (state_len_ok c (length s.state)) _ _ (free_state c (length s.state) f3.1) (given_none (first_not (state_ok c s.params s.state) (length s.state)) (bad_value (pos 2) s.state) f4.1) in
    let truths = both_true (nat_eq (length s.feed) (length s.ins)) (all_to (fed c s.feed) (length s.ins)) f6.1 in
    let feed : feed_broken c f.dep (length f.ins) ≡ None =
    rw n (pass (nat_eq (length s.feed) (length s.ins)) _ _ truths.0 (given_none (first_not (fed c s.feed) (length s.ins)) bad_truth truths.1)) in
    let events : events_broken c f ≡ None = pass (date_ok c s.firing) _ _ dates.2 feed in
    neither (forms_broken c f) (or_else (types_broken f) (or_else (active_broken f) (values_broken c f)))
    (neither (counts_broken c f) (lengths_broken c f) counts lengths)
    (neither (types_broken f) (or_else (active_broken f) (values_broken c f)) types
    (neither (active_broken f) (values_broken c f) refl
    (neither (params_broken c f) (or_else (state_broken c f) (events_broken c f)) params
    (neither (state_broken c f) (events_broken c f) state events))))

spec_again : (s : Spec) → formed_of s.kind s ≡ true → spec_of s.kind (fields_for s) ≡ s
spec_again s h =
    let f6 = both_true _ (feed_ok s.kind s.feed (length s.ins)) h in
    let f5 = both_true _ (cond (has_delay s.kind) (nat_eq (length s.firing) 1 && firing_ok (at s.firing 0)) (nat_eq (length s.firing) 0)) f6.0 in
    let f4 = both_true _ (all_to (state_ok s.kind s.params s.state) (length s.state)) f5.0 in
    let f3 = both_true _ (cond (has_state s.kind) (state_len_ok s.kind (length s.state)) (nat_eq (length s.state) 0)) f4.0 in
    let state : kept (has_state s.kind) s.state ≡ s.state = kept_again (has_state s.kind) s.state (state_tells (has_state s.kind) s.kind s.state f3.1) in
    let dates : kept (has_delay s.kind) s.firing ≡ s.firing = kept_again (has_delay s.kind) s.firing (firing_tells (has_delay s.kind) s.firing f5.1).0 in
    rw (state, dates, all_ports s.ins (length (rows_of s.ins)) (length-map s.ins (λ (p : Port). p.rows)), all_ports s.outs (length (rows_of s.outs)) (length-map s.outs (λ (p : Port). p.rows))) refl

judged_none : (place : List ℕ) (c : Kind) (f : Fields) (o : Option Broken) (s : Spec) → o ≡ None → spec_of c f ≡ s → judged place c f o ≡ Ok s
judged_none place c f o s h e = rw (h, e) refl

pub origin_law : OriginLaw
origin_law place s h =
    let p3 = both_true _ (is_none (sizes_broken_of s.kind s)) h in
    let p2 = both_true _ (is_none (types_broken_of s.kind s)) p3.0 in
    let p1 = both_true (formed_of s.kind s) (known_of s) p2.0 in
    (fields_for s, rw (named s.kind) (judged_none place s.kind (fields_for s) (broken s.kind (fields_for s)) s (passes s.kind s p1.0 p1.1) (spec_again s p1.0)))
