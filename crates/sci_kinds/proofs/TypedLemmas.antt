use Rattle.std.proofs.Common.{◌≡◌, ℕ, suc, ◌+◌, ◌-◌, ◌*◌, ◌<◌, ◌≤◌, ℤ, pos, negsuc, ◌+ℤ◌, ◌≤ℤ◌, List, [], ◌∷◌, length, Bool, true, false, refl, ap, sym, ◌∙◌, arith, cond, inl, inr, ◌&&◌}
use Rattle.std.proofs.lemmas.Int.{ints}
use Rattle.std.proofs.lemmas.Bool.{cases_lt}
use Rattle.std.specs.Prelude.{nat_eq, nat_le, int_le, unsigned_abs, is_none}
use Rattle.sci_base.specs.declared.Ty.{Ty}
use Rattle.sci_base.specs.Fit.{int_eq}
use Rattle.sci_base.specs.Lists.{at}
use Rattle.sci_forms.specs.declared.ports.Port.{Port}
use Rattle.sci_forms.specs.declared.Kind.{Kind}
use Rattle.sci_forms.specs.declared.spec.Spec.{Spec}
use Rattle.sci_forms.specs.Ports.{port_at, elements, type_of, total, type_at, IsAlike, before, sum_rows}
use Rattle.sci_forms.specs.Words.{out_type, size}
use Rattle.sci_forms.specs.Forms.{counts_of, between, params_len_ok, param_ok, state_len_ok, state_ok, firing_ok, first_port, in_type_ok, out_type_ok, param_fits, state_fits, is_scalar, same_size, is_column, in_size_ok, out_size_ok, params_spread, state_spread, index_ok, all_to, within, or_else, unless, first_not, given}
use Rattle.sci_forms.specs.Form.{has_delay, has_state}
use Rattle.sci_forms.specs.Typed.{is_known, known_in, known_out, feed_ok, counted, formed_of, known_of, types_broken_of, sizes_broken_of, type_not_here, value_not_here, wrong_size, wrong_shape, param_fits_at, state_fits_at}
use Rattle.sci_kinds.specs.Asks.{IsOneOut, IsAlikeSpec, IsSizedSpec, IsJoined}
use Rattle.sci_forms.proofs.TestLemmas.{both_true, none_parts, none_given, none_unless, all_to_at, nat_same, nat_le_told, int_le_told, int_same}
use Rattle.sci_kinds.proofs.Elements.{nat_lt_yes, nat_lt_no}

-- ---- the tests of a spec, one by one

pub record Tests (k : Kind) (s : Spec) : Type 0 where
  pub ins_least : (counts_of k (length s.ins)).ins_least ≤ length s.ins
  pub ins_most : length s.ins ≤ (counts_of k (length s.ins)).ins_most
  pub outs_least : (counts_of k (length s.ins)).outs_least ≤ length s.outs
  pub outs_most : length s.outs ≤ (counts_of k (length s.ins)).outs_most
  pub evtin_least : (counts_of k (length s.ins)).evtin_least ≤ s.evtin
  pub evtin_most : s.evtin ≤ (counts_of k (length s.ins)).evtin_most
  pub evtout_least : (counts_of k (length s.ins)).evtout_least ≤ s.evtout
  pub evtout_most : s.evtout ≤ (counts_of k (length s.ins)).evtout_most
  pub params_len : params_len_ok k (length s.ins) (length s.outs) (length s.params) ≡ true
  pub params : (i : ℕ) → i < length s.params → param_ok k (length s.ins) s.params i ≡ true
  pub state_len : cond (has_state k) (state_len_ok k (length s.state)) (nat_eq (length s.state) 0) ≡ true
  pub state : (i : ℕ) → i < length s.state → state_ok k s.params s.state i ≡ true
  pub feed : feed_ok k s.feed (length s.ins) ≡ true
  pub known_ins : (i : ℕ) → i < length s.ins → is_known (port_at s.ins i) ≡ true
  pub known_outs : (i : ℕ) → i < length s.outs → is_known (port_at s.outs i) ≡ true
  pub in_types : (i : ℕ) → i < length s.ins → in_type_ok k s i ≡ true
  pub out_types : (i : ℕ) → i < length s.outs → out_type_ok k s i ≡ true
  pub params_fit : (i : ℕ) → i < length s.params → param_fits k (out_type s) i (at s.params i) ≡ true
  pub state_fits_all : (i : ℕ) → i < length s.state → state_fits k (out_type s) (at s.state i) ≡ true
  pub in_sizes : (i : ℕ) → i < length s.ins → in_size_ok k s i ≡ true
  pub out_sizes : (i : ℕ) → i < length s.outs → out_size_ok k s i ≡ true
  pub params_spread_is : params_spread k s ≡ true
  pub state_spread_is : state_spread k s ≡ true
  pub indices : (i : ℕ) → i < length s.params → index_ok k s i ≡ true

pub tests : (k : Kind) (s : Spec) → (formed_of k s && known_of s && is_none (types_broken_of k s) && is_none (sizes_broken_of k s)) ≡ true → Tests k s
tests k s h =
    let c = counts_of k (length s.ins) in
    let p3 = both_true _ (is_none (sizes_broken_of k s)) h in
    let p2 = both_true _ (is_none (types_broken_of k s)) p3.0 in
    let p1 = both_true (formed_of k s) (known_of s) p2.0 in
    let f6 = both_true _ (feed_ok k s.feed (length s.ins)) p1.0 in
    let f5 = both_true _ (cond (has_delay k) (nat_eq (length s.firing) 1 && firing_ok (at s.firing 0)) (nat_eq (length s.firing) 0)) f6.0 in
    let f4 = both_true _ (all_to (state_ok k s.params s.state) (length s.state)) f5.0 in
    let f3 = both_true _ (cond (has_state k) (state_len_ok k (length s.state)) (nat_eq (length s.state) 0)) f4.0 in
    let f2 = both_true _ (all_to (param_ok k (length s.ins) s.params) (length s.params)) f3.0 in
    let f1 = both_true (counted s c) (params_len_ok k (length s.ins) (length s.outs) (length s.params)) f2.0 in
    let c3 = both_true _ (within c.evtout_least c.evtout_most s.evtout) f1.0 in
    let c2 = both_true _ (within c.evtin_least c.evtin_most s.evtin) c3.0 in
    let c1 = both_true (within c.ins_least c.ins_most (length s.ins)) (within c.outs_least c.outs_most (length s.outs)) c2.0 in
    let w1 = within_told c.ins_least c.ins_most (length s.ins) c1.0 in
    let w2 = within_told c.outs_least c.outs_most (length s.outs) c1.1 in
    let w3 = within_told c.evtin_least c.evtin_most s.evtin c2.1 in
    let w4 = within_told c.evtout_least c.evtout_most s.evtout c3.1 in
    let k1 = both_true (all_to (known_in s) (length s.ins)) (all_to (known_out s) (length s.outs)) p1.1 in
    let i1 = given (first_not (in_type_ok k s) (length s.ins)) (type_not_here (pos 1)) in
    let i2 = given (first_not (out_type_ok k s) (length s.outs)) (type_not_here (pos 2)) in
    let i3 = given (first_not (param_fits_at k s) (length s.params)) (value_not_here (pos 1)) in
    let i4 = given (first_not (state_fits_at k s) (length s.state)) (value_not_here (pos 2)) in
    let t1 = none_parts i1 (or_else i2 (or_else i3 i4)) p2.1 in
    let t2 = none_parts i2 (or_else i3 i4) t1.1 in
    let t3 = none_parts i3 i4 t2.1 in
    let j1 = given (first_not (in_size_ok k s) (length s.ins)) (wrong_size (pos 1)) in
    let j2 = given (first_not (out_size_ok k s) (length s.outs)) (wrong_size (pos 2)) in
    let j3 = unless (params_spread k s) (wrong_shape (pos 1) (length s.params)) in
    let j4 = unless (state_spread k s) (wrong_shape (pos 2) (length s.state)) in
    let j5 = given (first_not (index_ok k s) (length s.params)) (λ i. wrong_shape (pos 1) (i + 1)) in
    let s1 = none_parts j1 (or_else j2 (or_else j3 (or_else j4 j5))) p3.1 in
    let s2 = none_parts j2 (or_else j3 (or_else j4 j5)) s1.1 in
    let s3 = none_parts j3 (or_else j4 j5) s2.1 in
    let s4 = none_parts j4 j5 s3.1 in
    record {
      ins_least = w1.0;
      ins_most = w1.1;
      outs_least = w2.0;
      outs_most = w2.1;
      evtin_least = w3.0;
      evtin_most = w3.1;
      evtout_least = w4.0;
      evtout_most = w4.1;
      params_len = f1.1;
      params = all_to_at (param_ok k (length s.ins) s.params) (length s.params) f2.1;
      state_len = f3.1;
      state = all_to_at (state_ok k s.params s.state) (length s.state) f4.1;
      feed = f6.1;
      known_ins = all_to_at (known_in s) (length s.ins) k1.0;
      known_outs = λ i l. (both_true (is_known (port_at s.outs i)) _ (all_to_at (known_out s) (length s.outs) k1.1 i l)).0;
      in_types = all_to_at (in_type_ok k s) (length s.ins) (none_given (first_not (in_type_ok k s) (length s.ins)) (type_not_here (pos 1)) t1.0);
      out_types = all_to_at (out_type_ok k s) (length s.outs) (none_given (first_not (out_type_ok k s) (length s.outs)) (type_not_here (pos 2)) t2.0);
      params_fit = all_to_at (param_fits_at k s) (length s.params) (none_given (first_not (param_fits_at k s) (length s.params)) (value_not_here (pos 1)) t3.0);
      state_fits_all = all_to_at (state_fits_at k s) (length s.state) (none_given (first_not (state_fits_at k s) (length s.state)) (value_not_here (pos 2)) t3.1);
      in_sizes = all_to_at (in_size_ok k s) (length s.ins) (none_given (first_not (in_size_ok k s) (length s.ins)) (wrong_size (pos 1)) s1.0);
      out_sizes = all_to_at (out_size_ok k s) (length s.outs) (none_given (first_not (out_size_ok k s) (length s.outs)) (wrong_size (pos 2)) s2.0);
      params_spread_is = none_unless (params_spread k s) (wrong_shape (pos 1) (length s.params)) s3.0;
      state_spread_is = none_unless (state_spread k s) (wrong_shape (pos 2) (length s.state)) s4.0;
      indices = all_to_at (index_ok k s) (length s.params) (none_given (first_not (index_ok k s) (length s.params)) (λ i. wrong_shape (pos 1) (i + 1)) s4.1);
    }
  where
    within_told : (a b n : ℕ) → within a b n ≡ true → (a ≤ n) × (n ≤ b)
    within_told a b n h = let p = both_true (nat_le a n) (nat_le n b) h in (nat_le_told a n p.0, nat_le_told n b p.1)

-- ---- ports

pub same_sized : (p q : Port) → same_size p q ≡ true → elements p ≡ elements q
same_sized p q h =
    let b = both_true (int_eq p.rows q.rows) (int_eq p.cols q.cols) h in
    let r = int_same p.rows q.rows b.0 in
    let c = int_same p.cols q.cols b.1 in
    rw (r, c) refl

pub scalar_one : (p : Port) → is_scalar p ≡ true → elements p ≡ 1
scalar_one p h =
    let b = both_true (int_eq p.rows (pos 1)) (int_eq p.cols (pos 1)) h in
    let r = int_same p.rows (pos 1) b.0 in
    let c = int_same p.cols (pos 1) b.1 in
    rw (r, c) refl

pub same_typed : (p q : Port) → int_eq p.ty q.ty ≡ true → type_of p ≡ type_of q
same_typed p q h = rw (int_same p.ty q.ty h) refl

-- ports of one size
pub total_sized : (ps : List Port) (n : ℕ) → ((k : ℕ) → k < length ps → elements (port_at ps k) ≡ n) → total ps ≡ length ps * n
total_sized [] n h = grind arith
total_sized (p ∷ ps) n h = added (elements p) (total ps) (length ps) (h 0 (omega arith)) (total_sized ps n (λ k q. h (suc k) (omega arith)))
  where
    added : (x y k : ℕ) → x ≡ n → y ≡ k * n → x + y ≡ suc k * n
    added x y k e f = rw (e, f) (grind arith)

-- ports of one type
pub type_at_same : (ps : List Port) (t : Ty) → ((k : ℕ) → k < length ps → type_of (port_at ps k) ≡ t) → (e : ℕ) → e < total ps → type_at ps e ≡ t
type_at_same [] t h e l = absurd (omega arith)
type_at_same (p ∷ ps) t h e l = elim (cases_lt e (elements p)) [
  | inl q ↦ rw (nat_lt_yes e (elements p) q) (h 0 (omega arith))
  | inr q ↦ rw (nat_lt_no e (elements p) q) (type_at_same ps t (λ k r. h (suc k) (omega arith)) (e - elements p) (omega (arith, q)))
]

pub first_is : (s : Spec) → 1 ≤ length s.ins → first_port s ≡ port_at s.ins 0
first_is s h = by_none (nat_eq (length s.ins) 0) refl
  where
    by_none : (b : Bool) → nat_eq (length s.ins) 0 ≡ b → cond b (port_at s.outs 0) (port_at s.ins 0) ≡ port_at s.ins 0
    by_none true p = absurd (omega (arith, nat_same (length s.ins) 0 p))
    by_none false p = refl

-- the one output is like itself
pub out_alike : (s : Spec) → length s.outs ≡ 1 → IsAlike s.outs (out_type s) (size s)
out_alike s one = record {
  types = λ k h. let z : k ≡ 0 = omega (arith, h, one) in rw z refl;
  sizes = λ k h. let z : k ≡ 0 = omega (arith, h, one) in rw z refl;
}

-- every port like the first
module _ (s : Spec) (one : length s.outs ≡ 1)
    (in_sizes : (i : ℕ) → i < length s.ins → same_size (port_at s.ins i) (first_port s) ≡ true)
    (out_sizes : (i : ℕ) → i < length s.outs → same_size (port_at s.outs i) (first_port s) ≡ true) where
  pub alike_of : ((i : ℕ) → i < length s.ins → int_eq (port_at s.ins i).ty (first_port s).ty ≡ true)
      → ((i : ℕ) → i < length s.outs → int_eq (port_at s.outs i).ty (first_port s).ty ≡ true) → IsAlikeSpec s
  alike_of it ot = record {
    outs_alike = out_alike s one;
    one = one;
    ins_alike = record {
      types = λ k h. same_typed (port_at s.ins k) (first_port s) (it k h) ∙ sym (same_typed (port_at s.outs 0) (first_port s) (ot 0 (omega (arith, one))));
      sizes = λ k h. same_sized (port_at s.ins k) (first_port s) (in_sizes k h) ∙ sym (same_sized (port_at s.outs 0) (first_port s) (out_sizes 0 (omega (arith, one))));
    };
  }

  pub sized_of : 1 ≤ length s.ins → ((i : ℕ) → i < length s.ins → int_eq (port_at s.ins i).ty (first_port s).ty ≡ true) → IsSizedSpec s
  sized_of some it = record {
    outs_alike = out_alike s one;
    one = one;
    ins_alike = record {
      types = λ k h. same_typed (port_at s.ins k) (first_port s) (it k h) ∙ ap type_of (first_is s some);
      sizes = λ k h. same_sized (port_at s.ins k) (first_port s) (in_sizes k h) ∙ sym (same_sized (port_at s.outs 0) (first_port s) (out_sizes 0 (omega (arith, one))));
    };
  }

pub one_of : (s : Spec) → 1 ≤ length s.outs → length s.outs ≤ 1 → length s.outs ≡ 1
one_of s h k = omega (arith, h, k)

pub one_out_of : (s : Spec) → 1 ≤ length s.outs → length s.outs ≤ 1 → IsOneOut s
one_out_of s h k = record { outs_alike = out_alike s (one_of s h k); one = one_of s h k }

-- scalars add up to the number of ports
pub scalars : (ps : List Port) → ((k : ℕ) → k < length ps → is_scalar (port_at ps k) ≡ true) → total ps ≡ length ps
scalars ps h = total_sized ps 1 (λ k l. scalar_one (port_at ps k) (h k l)) ∙ omega arith

-- columns add up to the sum of their rows
pub columns : (ps : List Port) → ((k : ℕ) → k < length ps → is_known (port_at ps k) ≡ true) → ((k : ℕ) → k < length ps → int_eq (port_at ps k).cols (pos 1) ≡ true)
    → pos (total ps) ≡ sum_rows ps
columns [] h c = refl
columns (p ∷ ps) h c =
    let rest = columns ps (λ k l. h (suc k) (omega arith)) (λ k l. c (suc k) (omega arith)) in
    let known = (both_true (int_le (pos 1) p.rows && int_le (pos 1) p.cols) (between (pos 3) (pos 8) p.ty) (h 0 (omega arith))).0 in
    let above = int_le_told (pos 1) p.rows (both_true (int_le (pos 1) p.rows) (int_le (pos 1) p.cols) known).0 in
    let one = int_same p.cols (pos 1) (c 0 (omega arith)) in
    added p.rows (total ps) (sum_rows ps) above rest (elements p) (rw one refl)
  where
    added : (r : ℤ) (n : ℕ) (z : ℤ) → pos 1 ≤ℤ r → pos n ≡ z → (e : ℕ) → e ≡ unsigned_abs r * 1 → pos (e + n) ≡ r +ℤ z
    added (pos r) n z h k e q = omega (arith, ints, q)
    added (negsuc r) n z h k e q = absurd (omega (arith, ints))

-- a column that is as long as the others together
pub column_total : (p : Port) (z : ℤ) (n : ℕ) → is_column z p ≡ true → pos n ≡ z → elements p ≡ n
column_total p z n h k =
    let b = both_true (int_eq p.cols (pos 1)) (int_eq p.rows z) h in
    let c = int_same p.cols (pos 1) b.0 in
    let r = int_same p.rows z b.1 in
    rw (c, r, ← k) (omega arith)

pub column_cols : (p : Port) (z : ℤ) → is_column z p ≡ true → int_eq p.cols (pos 1) ≡ true
column_cols p z h = (both_true (int_eq p.cols (pos 1)) (int_eq p.rows z) h).0

pub only_total : (ps : List Port) → length ps ≡ 1 → total ps ≡ elements (port_at ps 0)
only_total ps h = total_sized ps (elements (port_at ps 0)) (λ k l. let z : k ≡ 0 = omega (arith, l, h) in rw z refl) ∙ rw h (omega arith)

pub joined_of : (s : Spec) → total s.ins ≡ total s.outs
    → ((i : ℕ) → i < length s.ins → int_eq (port_at s.ins i).ty (first_port s).ty ≡ true)
    → ((i : ℕ) → i < length s.outs → int_eq (port_at s.outs i).ty (first_port s).ty ≡ true) → IsJoined s
joined_of s same it ot = record {
  totals = same;
  types = λ e h. type_at_same s.ins (type_of (first_port s)) (λ k l. same_typed (port_at s.ins k) (first_port s) (it k l)) e (omega (arith, h, same))
      ∙ sym (type_at_same s.outs (type_of (first_port s)) (λ k l. same_typed (port_at s.outs k) (first_port s) (ot k l)) e h);
}

-- ---- two or three inputs

pub two_total : (ps : List Port) → length ps ≡ 2 → total ps ≡ elements (port_at ps 0) + elements (port_at ps 1)
two_total [] h = absurd (omega arith)
two_total (p ∷ []) h = absurd (omega arith)
two_total (p ∷ q ∷ []) h = omega arith
two_total (p ∷ q ∷ r ∷ ps) h = absurd (omega arith)

pub three_total : (ps : List Port) → length ps ≡ 3 → total ps ≡ elements (port_at ps 0) + elements (port_at ps 1) + elements (port_at ps 2)
three_total [] h = absurd (omega arith)
three_total (p ∷ []) h = absurd (omega arith)
three_total (p ∷ q ∷ []) h = absurd (omega arith)
three_total (p ∷ q ∷ r ∷ []) h = omega arith
three_total (p ∷ q ∷ r ∷ t ∷ ps) h = absurd (omega arith)

pub before_one : (ps : List Port) → 1 ≤ length ps → before ps 1 ≡ elements (port_at ps 0)
before_one [] h = absurd (omega arith)
before_one (p ∷ ps) h = omega arith

pub type_at_first : (ps : List Port) → 1 ≤ length ps → (e : ℕ) → e < elements (port_at ps 0) → type_at ps e ≡ type_of (port_at ps 0)
type_at_first [] h e l = absurd (omega arith)
type_at_first (p ∷ ps) h e l = rw (nat_lt_yes e (elements p) l) refl

pub type_at_third : (ps : List Port) → 3 ≤ length ps → (e d : ℕ) → elements (port_at ps 0) + elements (port_at ps 1) + d ≡ e → d < elements (port_at ps 2)
    → type_at ps e ≡ type_of (port_at ps 2)
type_at_third [] h e d q l = absurd (omega arith)
type_at_third (a ∷ []) h e d q l = absurd (omega arith)
type_at_third (a ∷ b ∷ []) h e d q l = absurd (omega arith)
type_at_third (a ∷ b ∷ c ∷ ps) h e d q l =
    rw (nat_lt_no e (elements a) (omega (arith, q)), nat_lt_no (e - elements a) (elements b) (omega (arith, q)), nat_lt_yes ((e - elements a) - elements b) (elements c) (omega (arith, q, l))) refl
