-- A spec is typed still with a state in place of the one that it begins with.
use Rattle.std.proofs.Common.{◌≡◌, ℕ, zero, suc, ◌+◌, ◌*◌, ◌<◌, ◌≤◌, ℤ, pos, negsuc, ◌≤ℤ◌, ◌<ℤ◌, List, length, Bool, true, false, refl, ap, sym, ◌∙◌, subst, arith, cond, ◌&&◌, ◌||◌, Option, Some, None, unsigned_abs}
use Rattle.std.proofs.lemmas.Int.{ints}
use Rattle.std.proofs.lemmas.Bool.Decides.{nat_tests}
use Rattle.std.specs.Prelude.{nat_eq, nat_le, int_lt, int_le, is_none}
use Rattle.sci_base.specs.declared.Ty.{Ty}
use Rattle.sci_base.specs.Fit.{InRange, in_range, int_eq}
use Rattle.sci_base.specs.Lists.{at, spread}
use Rattle.sci_forms.specs.declared.Kind.{Kind}
use Rattle.sci_forms.specs.declared.Kind.TheVariants.{AndLog, Mux, Demux, Extractor, Switch2, GatedDelay, Const, Dollar, Register, ModuloCount}
use Rattle.sci_forms.specs.declared.ports.Port.{Port}
use Rattle.sci_forms.specs.declared.spec.Spec.{Spec}
use Rattle.sci_forms.specs.Ports.{port_at, elements}
use Rattle.sci_forms.specs.Words.{param, out_type, size, state_len_of}
use Rattle.sci_forms.specs.Forms.{counts_of, any_in, any_out, params_len_ok, param_ok, state_len_ok, state_ok, firing_ok, type_wanted, in_type_ok, out_type_ok, in_size_ok, out_size_ok, params_spread, state_spread, is_spread, index_ok, all_to, or_else, unless, first_not, given}
use Rattle.sci_forms.specs.Form.{has_state, has_delay}
use Rattle.sci_forms.specs.Typed.{is_known, feed_ok, counted, formed_of, known_of, types_broken_of, sizes_broken_of, type_not_here, value_not_here, wrong_size, wrong_shape, param_fits_at, state_fits_at, typed}
use Rattle.sci_forms.proofs.TestLemmas.{both_true, none_parts, int_le_told}
use Rattle.sci_kinds.specs.Asks.{IsState}
use Rattle.sci_kinds.specs.Table.{first_state, state_len}
use Rattle.sci_kinds.proofs.Elements.{listed_is}
use Rattle.sci_kinds.proofs.TypedLemmas.{Tests, tests}

abbrev pub with_state : Spec → List ℤ → Spec
with_state s x = record s { state = x }

-- ---- tests, joined again

both : (a b : Bool) → a ≡ true → b ≡ true → (a && b) ≡ true
both true true h k = refl
both true false h k = absurd cc
both false b h k = absurd cc

none_of_both : {A : Type 0} (a b : Option A) → is_none a ≡ true → is_none b ≡ true → is_none (or_else a b) ≡ true
none_of_both None b h k = k
none_of_both (Some x) b h k = absurd cc

none_if : {A : Type 0} (b : Bool) (a : A) → b ≡ true → is_none (unless b a) ≡ true
none_if true a h = refl
none_if false a h = absurd cc

all_if : (f : ℕ → Bool) (n : ℕ) → ((k : ℕ) → k < n → f k ≡ true) → all_to f n ≡ true
all_if f zero h = refl
all_if f (suc n) h = none_of_both (first_not f n) (unless (f n) n) (all_if f n (λ k l. h k (omega (arith, l)))) (none_if (f n) n (h n (omega arith)))

given_none : {A : Type 0} (o : Option ℕ) (f : ℕ → A) → is_none o ≡ true → is_none (given o f) ≡ true
given_none None f h = refl
given_none (Some k) f h = absurd cc

first_same : (f g : ℕ → Bool) → ((k : ℕ) → f k ≡ g k) → (n : ℕ) → first_not f n ≡ first_not g n
first_same f g h zero = refl
first_same f g h (suc n) = ap (λ o. or_else o (unless (f n) n)) (first_same f g h n) ∙ ap (λ (b : Bool). or_else (first_not g n) (unless b n)) (h n)

-- ---- tests that don't look at the state

module _ (s : Spec) (x : List ℤ) where
  wanted_same : (k : Kind) → type_wanted k s ≡ type_wanted k (with_state s x)
  wanted_same AndLog = refl
  wanted_same _ = refl

  in_size_same : (k : Kind) (i : ℕ) → in_size_ok k s i ≡ in_size_ok k (with_state s x) i
  in_size_same Mux i = refl
  in_size_same Demux i = refl
  in_size_same Extractor i = refl
  in_size_same Switch2 i = refl
  in_size_same GatedDelay i = refl
  in_size_same _ i = refl

  out_size_same : (k : Kind) (i : ℕ) → out_size_ok k s i ≡ out_size_ok k (with_state s x) i
  out_size_same Mux i = refl
  out_size_same Demux i = refl
  out_size_same Extractor i = refl
  out_size_same _ i = refl

  spread_same : (k : Kind) → params_spread k s ≡ params_spread k (with_state s x)
  spread_same Const = refl
  spread_same _ = refl

  index_same : (k : Kind) (i : ℕ) → index_ok k s i ≡ index_ok k (with_state s x) i
  index_same Extractor i = refl
  index_same _ i = refl

  -- what the tests ask of the state
  record StateTests (k : Kind) : Type 0 where
    len : cond (has_state k) (state_len_ok k (length x)) (nat_eq (length x) 0) ≡ true
    ok : all_to (state_ok k s.params x) (length x) ≡ true
    fits : all_to (state_fits_at k (with_state s x)) (length x) ≡ true
    spread : state_spread k (with_state s x) ≡ true

  typed_again : (k : Kind) → (formed_of k s && known_of s && is_none (types_broken_of k s) && is_none (sizes_broken_of k s)) ≡ true → StateTests k
      → (formed_of k (with_state s x) && known_of (with_state s x) && is_none (types_broken_of k (with_state s x)) && is_none (sizes_broken_of k (with_state s x))) ≡ true
  typed_again k h st =
      let u = with_state s x in
      let p3 = both_true _ (is_none (sizes_broken_of k s)) h in
      let p2 = both_true _ (is_none (types_broken_of k s)) p3.0 in
      let p1 = both_true (formed_of k s) (known_of s) p2.0 in
      let feed = feed_ok k s.feed (length s.ins) in
      let firing = cond (has_delay k) (nat_eq (length s.firing) 1 && firing_ok (at s.firing 0)) (nat_eq (length s.firing) 0) in
      let f6 = both_true _ feed p1.0 in
      let f5 = both_true _ firing f6.0 in
      let f4 = both_true _ (all_to (state_ok k s.params s.state) (length s.state)) f5.0 in
      let f3 = both_true _ (cond (has_state k) (state_len_ok k (length s.state)) (nat_eq (length s.state) 0)) f4.0 in
      let l = cond (has_state k) (state_len_ok k (length x)) (nat_eq (length x) 0) in
      let o = all_to (state_ok k s.params x) (length x) in
      let first : Bool = counted s (counts_of k (length s.ins)) && params_len_ok k (length s.ins) (length s.outs) (length s.params) && all_to (param_ok k (length s.ins) s.params) (length s.params) in
      let formed : formed_of k u ≡ true =
      both (first && l && o && firing) feed (both (first && l && o) firing (both (first && l) o (both first l f3.0 st.len) st.ok) f5.1) f6.1 in
      let i1 = given (first_not (in_type_ok k s) (length s.ins)) (type_not_here (pos 1)) in
      let i2 = given (first_not (out_type_ok k s) (length s.outs)) (type_not_here (pos 2)) in
      let i3 = given (first_not (param_fits_at k s) (length s.params)) (value_not_here (pos 1)) in
      let i4 = given (first_not (state_fits_at k s) (length s.state)) (value_not_here (pos 2)) in
      let t1 = none_parts i1 (or_else i2 (or_else i3 i4)) p2.1 in
      let t2 = none_parts i2 (or_else i3 i4) t1.1 in
      let t3 = none_parts i3 i4 t2.1 in
      let o1 = given (first_not (in_type_ok k u) (length u.ins)) (type_not_here (pos 1)) in
      let o2 = given (first_not (out_type_ok k u) (length u.outs)) (type_not_here (pos 2)) in
      let o3 = given (first_not (param_fits_at k u) (length u.params)) (value_not_here (pos 1)) in
      let o4 = given (first_not (state_fits_at k u) (length u.state)) (value_not_here (pos 2)) in
      let types : is_none (types_broken_of k u) ≡ true =
      none_of_both o1 (or_else o2 (or_else o3 o4))
      (subst (λ (v : Option ℕ). is_none (given v (type_not_here (pos 1))) ≡ true) (first_same (in_type_ok k s) (in_type_ok k u) (λ i. type_same k i) (length s.ins)) t1.0)
      (none_of_both o2 (or_else o3 o4)
      (subst (λ (v : Option ℕ). is_none (given v (type_not_here (pos 2))) ≡ true) (first_same (out_type_ok k s) (out_type_ok k u) (λ i. out_same k i) (length s.outs)) t2.0)
      (none_of_both o3 o4 t3.0 (given_none (first_not (state_fits_at k u) (length x)) (value_not_here (pos 2)) st.fits))) in
      let j1 = given (first_not (in_size_ok k s) (length s.ins)) (wrong_size (pos 1)) in
      let j2 = given (first_not (out_size_ok k s) (length s.outs)) (wrong_size (pos 2)) in
      let j3 = unless (params_spread k s) (wrong_shape (pos 1) (length s.params)) in
      let j4 = unless (state_spread k s) (wrong_shape (pos 2) (length s.state)) in
      let j5 = given (first_not (index_ok k s) (length s.params)) (λ i. wrong_shape (pos 1) (i + 1)) in
      let s1 = none_parts j1 (or_else j2 (or_else j3 (or_else j4 j5))) p3.1 in
      let s2 = none_parts j2 (or_else j3 (or_else j4 j5)) s1.1 in
      let s3 = none_parts j3 (or_else j4 j5) s2.1 in
      let s4 = none_parts j4 j5 s3.1 in
      let q1 = given (first_not (in_size_ok k u) (length u.ins)) (wrong_size (pos 1)) in
      let q2 = given (first_not (out_size_ok k u) (length u.outs)) (wrong_size (pos 2)) in
      let q3 = unless (params_spread k u) (wrong_shape (pos 1) (length u.params)) in
      let q4 = unless (state_spread k u) (wrong_shape (pos 2) (length u.state)) in
      let q5 = given (first_not (index_ok k u) (length u.params)) (λ i. wrong_shape (pos 1) (i + 1)) in
      let sizes : is_none (sizes_broken_of k u) ≡ true =
      none_of_both q1 (or_else q2 (or_else q3 (or_else q4 q5)))
      (subst (λ (v : Option ℕ). is_none (given v (wrong_size (pos 1))) ≡ true) (first_same (in_size_ok k s) (in_size_ok k u) (λ i. in_size_same k i) (length s.ins)) s1.0)
      (none_of_both q2 (or_else q3 (or_else q4 q5))
      (subst (λ (v : Option ℕ). is_none (given v (wrong_size (pos 2))) ≡ true) (first_same (out_size_ok k s) (out_size_ok k u) (λ i. out_size_same k i) (length s.outs)) s2.0)
      (none_of_both q3 (or_else q4 q5)
      (subst (λ (b : Bool). is_none (unless b (wrong_shape (pos 1) (length s.params))) ≡ true) (spread_same k) s3.0)
      (none_of_both q4 q5 (none_if (state_spread k u) (wrong_shape (pos 2) (length x)) st.spread)
      (subst (λ (v : Option ℕ). is_none (given v (λ i. wrong_shape (pos 1) (i + 1))) ≡ true) (first_same (index_ok k s) (index_ok k u) (λ i. index_same k i) (length s.params)) s4.1)))) in
      both (formed_of k u && known_of u && is_none (types_broken_of k u)) (is_none (sizes_broken_of k u))
      (both (formed_of k u && known_of u) (is_none (types_broken_of k u)) (both (formed_of k u) (known_of u) formed p1.1) types) sizes
    where
      type_same : (k : Kind) (i : ℕ) → in_type_ok k s i ≡ in_type_ok k (with_state s x) i
      type_same k i = ap (λ v. any_in k i || int_eq (port_at s.ins i).ty v) (wanted_same k)

      out_same : (k : Kind) (i : ℕ) → out_type_ok k s i ≡ out_type_ok k (with_state s x) i
      out_same k i = ap (λ v. any_out k || int_eq (port_at s.outs i).ty v) (wanted_same k)

  -- ---- the state of each kind

  none_there : length x ≡ 0 → (f : ℕ → Bool) → all_to f (length x) ≡ true
  none_there h f = subst (λ n. all_to f n ≡ true) (sym h) refl

  int_le_yes : (a b : ℤ) → a ≤ℤ b → int_le a b ≡ true
  int_le_yes a b h = grind (arith, ints)

  int_lt_yes : (a b : ℤ) → a <ℤ b → int_lt a b ≡ true
  int_lt_yes a b h = grind (arith, ints)

  in_range_yes : (ty : Ty) (v : ℤ) → InRange ty v → in_range ty v ≡ true
  in_range_yes ty v h = both _ _ (int_le_yes _ v h.above) (int_le_yes v _ h.below)

  some_elements : (p : Port) → is_known p ≡ true → 1 ≤ elements p
  some_elements p h =
      let b = both_true (int_le (pos 1) p.rows && int_le (pos 1) p.cols) _ h in
      let c = both_true (int_le (pos 1) p.rows) (int_le (pos 1) p.cols) b.0 in
      product p.rows p.cols (int_le_told (pos 1) p.rows c.0) (int_le_told (pos 1) p.cols c.1)
    where
      product : (a b : ℤ) → pos 1 ≤ℤ a → pos 1 ≤ℤ b → 1 ≤ unsigned_abs a * unsigned_abs b
      product (pos zero) b h k = absurd (omega (arith, ints))
      product (pos (suc a)) (pos zero) h k = absurd (omega (arith, ints))
      product (pos (suc a)) (pos (suc b)) h k = grind arith
      product (pos (suc a)) (negsuc b) h k = absurd (omega (arith, ints))
      product (negsuc a) b h k = absurd (omega (arith, ints))

  abbrev counts : Kind → Type 0
  counts ModuloCount = (pos 0 ≤ℤ at x 0) × (at x 0 <ℤ param s 0)
  counts _ = Unit {0}

  len_some : (n : ℕ) → 1 ≤ n → nat_le 1 n ≡ true
  len_some n h = grind (arith, nat_tests)

  spread_is : (n m : ℕ) → n ≡ m → is_spread n m ≡ true
  spread_is n m h = grind (arith, nat_tests)

  first_only : (n k : ℕ) → n ≡ 1 → k < n → k ≡ 0
  first_only n k h l = omega (arith, h, l)

  state_tests : (k : Kind) → Tests k s → length x ≡ state_len_of k s → ((i : ℕ) → i < state_len_of k s → InRange (out_type s) (at x i)) → counts k → StateTests k
  state_tests Dollar t long ranges c =
      let some = some_elements (port_at s.outs 0) (t.known_outs 0 (omega (arith, t.outs_least))) in
      record {
        len = len_some (length x) (omega (arith, long, some));
        ok = all_if (λ k. true) (length x) (λ k l. refl);
        fits = all_if (state_fits_at Dollar (with_state s x)) (length x) (λ k l. in_range_yes (out_type s) (at x k) (ranges k (omega (arith, l, long))));
        spread = spread_is (length x) (size s) long;
      }
  state_tests GatedDelay t long ranges c =
      let some = some_elements (port_at s.outs 0) (t.known_outs 0 (omega (arith, t.outs_least))) in
      record {
        len = len_some (length x) (omega (arith, long, some));
        ok = all_if (λ k. true) (length x) (λ k l. refl);
        fits = all_if (state_fits_at GatedDelay (with_state s x)) (length x) (λ k l. in_range_yes (out_type s) (at x k) (ranges k (omega (arith, l, long))));
        spread = spread_is (length x) (size s) long;
      }
  state_tests Register t long ranges c = record {
    len = subst (λ n. (nat_le 1 n && nat_le n 256) ≡ true) (sym long) t.state_len;
    ok = all_if (λ k. true) (length x) (λ k l. refl);
    fits = all_if (state_fits_at Register (with_state s x)) (length x) (λ k l. in_range_yes (out_type s) (at x k) (ranges k (omega (arith, l, long))));
    spread = refl;
  }
  state_tests ModuloCount t long ranges c = record {
    len = subst (λ n. nat_eq n 1 ≡ true) (sym long) refl;
    ok = all_if (state_ok ModuloCount s.params x) (length x) (λ k l. subst (λ j. state_ok ModuloCount s.params x j ≡ true) (sym (first_only (length x) k long l)) (both _ _ (int_le_yes (pos 0) (at x 0) c.0) (int_lt_yes (at x 0) (param s 0) c.1)));
    fits = all_if (λ k. true) (length x) (λ k l. refl);
    spread = refl;
  }
  state_tests _ t long ranges c = record {
    len = subst (λ n. nat_eq n 0 ≡ true) (sym long) refl;
    ok = none_there long (λ k. true);
    fits = none_there long (λ k. true);
    spread = refl;
  }

  counts_of_kind : (k : Kind) → (k ≡ ModuloCount → (pos 0 ≤ℤ at x 0) × (at x 0 <ℤ param s 0)) → counts k
  counts_of_kind ModuloCount h = h refl
  counts_of_kind _ h = tt

  -- a state in which the block may be is one that it may begin in
  pub typed_begun : typed s ≡ true → IsState s x → (s.kind ≡ ModuloCount → (pos 0 ≤ℤ at x 0) × (at x 0 <ℤ param s 0)) → typed (with_state s x) ≡ true
  typed_begun h is c = typed_again s.kind h (state_tests s.kind (tests s.kind s h) is.enough is.in_range (counts_of_kind s.kind c))

  -- and it begins in it
  spread_all : (n : ℕ) → length x ≡ n → (i : ℕ) → i < n → spread x i ≡ at x i
  spread_all n h i l = either (nat_eq (length x) 1) refl
    where
      either : (b : Bool) → nat_eq (length x) 1 ≡ b → cond b (at x 0) (at x i) ≡ at x i
      either true e = let z : 0 ≡ i = grind (arith, nat_tests) in ap (at x) z
      either false e = refl

  pub state_begun : IsState s x → length x ≡ state_len (with_state s x) → first_state (with_state s x) ≡ x
  state_begun is long = sym (listed_is (spread x) x (state_len (with_state s x)) long (λ i l. sym (spread_all (state_len (with_state s x)) long i l)))
