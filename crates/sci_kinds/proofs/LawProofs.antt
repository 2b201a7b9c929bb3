use Rattle.std.proofs.Common.{◌≡◌, ℕ, zero, suc, ◌+◌, ◌*◌, ◌^◌, ◌<◌, ◌≤◌, ℤ, pos, negsuc, ◌-ℤ◌, ◌≤ℤ◌, ◌<ℤ◌, List, length, Bool, true, false, refl, sym, ◌∙◌, arith, subst, cond, inl, inr, ◌⊎◌, ◌||◌, not}
use Rattle.std.proofs.lemmas.Int.{ints}
use Rattle.std.proofs.lemmas.Bool.Decides.{nat_tests}
use Rattle.std.specs.Prelude.{nat_eq, nat_le, int_lt, int_le, unsigned_abs}
use Rattle.sci_base.specs.Fit.{int_eq, in_range, width}
use Rattle.sci_base.specs.Lists.{at, truth_at}
use Rattle.sci_forms.specs.declared.Kind.{Kind}
use Rattle.sci_forms.specs.declared.Kind.TheVariants.{Const, Summation, GainBlk, Product, AbsValue, Signum, MaxMin, Saturation, DeadBand, Convert, Mux, Demux, Extractor, LogicalOp, RelationalOp, Shift, BitSet, BitClear, ExtractBits, Switch2, Select, Logic, AndLog, Dollar, SampHold, Register, ModuloCount, GatedDelay, Sensor, EvtDly, EvtVarDly, IfThEl, ESelect, Halt}
use Rattle.sci_forms.specs.declared.spec.Spec.{Spec}
use Rattle.sci_forms.specs.Ports.{port_at, elements, type_of, total, sum_rows}
use Rattle.sci_kinds.specs.Table.{out}
use Rattle.sci_forms.specs.Words.{param, out_type, size}
use Rattle.sci_forms.specs.Forms.{fed, all_to, between, is_flag, is_sign, first_port, same_size, is_scalar, is_spread}
use Rattle.sci_forms.specs.Form.{feeds}
use Rattle.sci_forms.specs.Typed.{typed}
use Rattle.sci_kinds.specs.Asks.{IsAlikeSpec, IsSign, Asks, SameFed, laid}
use Rattle.sci_kinds.proofs.Inputs.{all_or_one, same_fed, length_laid, laid_same}
use Rattle.std.proofs.Math.Numerals.{add-one}
use Rattle.sci_kinds.specs.Laws.{FreeInputLaw, FedInputsLaw, LaidInputsLaw, RangeLaw, FirstHeldLaw, DelayLaw, BranchLaw}
use Rattle.sci_kinds.proofs.LawLemmas.{gate, same_of, free_input_of, out_in_range, IsState-next, IsState-first_state, first_held_of, delay_of_typed, branch_of_typed}
use Rattle.sci_forms.proofs.TestLemmas.{all_to_at, both_true, either_true, nat_same, nat_le_told, nat_lt_told, int_le_told, int_lt_told, int_same, between_told, in_range_told}
use Rattle.sci_kinds.proofs.TypedLemmas.{Tests, tests, same_sized, scalar_one, same_typed, out_alike, alike_of, sized_of, one_of, scalars, columns, column_total, only_total, joined_of, two_total, three_total, before_one, type_at_first, type_at_third}

spread_of : (len n : ℕ) → is_spread len n ≡ true → (len ≡ 1) ⊎ (len ≡ n)
spread_of len n h = elim (either_true (nat_eq len 1) (nat_eq len n) h) [ inl p ↦ inl (nat_same len 1 p) | inr p ↦ inr (nat_same len n p) ]

past_zero : (k : ℕ) (a b : Bool) → cond (nat_eq (k + 1) 0) a b ≡ true → b ≡ true
past_zero k a b h = let e : nat_eq (k + 1) 0 ≡ false = grind (arith, nat_tests) in rw e at h

-- a test that is the same at each place
same_places : (b a : Bool) → cond b a a ≡ true → a ≡ true
same_places true a h = h
same_places false a h = h

every_place : (b c a : Bool) → cond b a (cond c a a) ≡ true → a ≡ true
every_place true c a h = h
every_place false c a h = same_places c a h

sign_of : (v : ℤ) → is_sign v ≡ true → IsSign v
sign_of v h = elim (either_true (int_eq v (pos 1)) (int_eq v (negsuc 0)) h) [ inl p ↦ inl (int_same v (pos 1) p) | inr p ↦ inr (int_same v (negsuc 0) p) ]

flag_of : (v : ℤ) → is_flag v ≡ true → (v ≡ pos 0) ⊎ (v ≡ pos 1)
flag_of v h = let b = between_told (pos 0) (pos 1) v h in by_sign v b.0 b.1
  where
    by_sign : (v : ℤ) → pos 0 ≤ℤ v → v ≤ℤ pos 1 → (v ≡ pos 0) ⊎ (v ≡ pos 1)
    by_sign (pos zero) a b = inl refl
    by_sign (pos (suc zero)) a b = inr refl
    by_sign (pos (suc (suc n))) a b = absurd (omega (arith, ints))
    by_sign (negsuc n) a b = absurd (omega (arith, ints))

abs_below : (v : ℤ) (n : ℕ) → pos 0 ≤ℤ v → v <ℤ pos n → unsigned_abs v < n
abs_below (pos v) n h k = omega (arith, ints)
abs_below (negsuc v) n h k = absurd (omega (arith, ints))

abs_rises : (v w : ℤ) → pos 0 ≤ℤ v → v ≤ℤ w → unsigned_abs v ≤ unsigned_abs w
abs_rises (pos v) (pos w) h k = omega (arith, ints)
abs_rises (pos v) (negsuc w) h k = absurd (omega (arith, ints))
abs_rises (negsuc v) w h k = absurd (omega (arith, ints))

abs_at_most : (v : ℤ) (n : ℕ) → pos 1 ≤ℤ v → v ≤ℤ pos n → unsigned_abs v ≤ n
abs_at_most (pos v) n h k = omega (arith, ints)
abs_at_most (negsuc v) n h k = absurd (omega (arith, ints))

-- a scalar port beside ports like the first
alike_scalars : (s : Spec) → length s.outs ≡ 1 → ((i : ℕ) → i < length s.ins → is_scalar (port_at s.ins i) ≡ true) → ((i : ℕ) → i < length s.outs → is_scalar (port_at s.outs i) ≡ true)
    → ((i : ℕ) → i < length s.ins → int_eq (port_at s.ins i).ty (first_port s).ty ≡ true)
    → ((i : ℕ) → i < length s.outs → int_eq (port_at s.outs i).ty (first_port s).ty ≡ true) → IsAlikeSpec s
alike_scalars s one is os it ot = record {
  outs_alike = out_alike s one;
  one = one;
  ins_alike = record {
    types = λ k h. same_typed (port_at s.ins k) (first_port s) (it k h) ∙ sym (same_typed (port_at s.outs 0) (first_port s) (ot 0 (omega (arith, one))));
    sizes = λ k h. scalar_one (port_at s.ins k) (is k h) ∙ sym (scalar_one (port_at s.outs 0) (os 0 (omega (arith, one))));
  };
}

-- the first input and the output alike
like_first : (s : Spec) (k : ℕ) → 1 ≤ length s.ins → 1 ≤ length s.outs
    → int_eq (port_at s.ins k).ty (first_port s).ty ≡ true → int_eq (port_at s.outs 0).ty (first_port s).ty ≡ true
    → same_size (port_at s.ins k) (first_port s) ≡ true → same_size (port_at s.outs 0) (first_port s) ≡ true
    → (type_of (port_at s.ins k) ≡ out_type s) × (elements (port_at s.ins k) ≡ size s)
like_first s k some out it ot is os = (
  same_typed (port_at s.ins k) (first_port s) it ∙ sym (same_typed (port_at s.outs 0) (first_port s) ot),
  same_sized (port_at s.ins k) (first_port s) is ∙ sym (same_sized (port_at s.outs 0) (first_port s) os),
)

asks_of : (k : Kind) (s : Spec) → Tests k s → Asks k s
asks_of Const s t = (
  alike_of s (one_of s t.outs_least t.outs_most) t.in_sizes t.out_sizes t.in_types t.out_types,
  omega (arith, t.ins_most),
  (spread_of (length s.params) (size s) t.params_spread_is, λ k l. in_range_told (out_type s) (at s.params k) (every_place (nat_eq k 0) (nat_eq k 1) (in_range (out_type s) (at s.params k)) (t.params_fit k l))),
)
asks_of Summation s t =
    let len : length s.params ≡ length s.ins + 1 = nat_same (length s.params) (length s.ins + 1) t.params_len in (
      alike_of s (one_of s t.outs_least t.outs_most) t.in_sizes t.out_sizes t.in_types t.out_types,
      t.ins_least,
      t.ins_most,
      len,
      λ k l. sign_of (param s (k + 1)) (same_places (nat_eq (k + 1) 1) (is_sign (param s (k + 1))) (past_zero k _ _ (t.params (k + 1) (omega (arith, len, l))))),
    )
asks_of GainBlk s t =
    let len : length s.params ≡ 2 = nat_same (length s.params) 2 t.params_len in (
      alike_of s (one_of s t.outs_least t.outs_most) t.in_sizes t.out_sizes t.in_types t.out_types,
      omega (arith, t.ins_least, t.ins_most),
      len,
      in_range_told (out_type s) (param s 1) (t.params_fit 1 (omega (arith, len))),
    )
asks_of Product s t = (
  alike_of s (one_of s t.outs_least t.outs_most) t.in_sizes t.out_sizes t.in_types t.out_types,
  omega (arith, t.ins_least, t.ins_most),
  nat_same (length s.params) 2 t.params_len,
)
asks_of AbsValue s t = (
  alike_of s (one_of s t.outs_least t.outs_most) t.in_sizes t.out_sizes t.in_types t.out_types,
  omega (arith, t.ins_least, t.ins_most),
  nat_same (length s.params) 1 t.params_len,
)
asks_of Signum s t =
    (alike_of s (one_of s t.outs_least t.outs_most) t.in_sizes t.out_sizes t.in_types t.out_types, omega (arith, t.ins_least, t.ins_most))
asks_of MaxMin s t = (
  alike_of s (one_of s t.outs_least t.outs_most) t.in_sizes t.out_sizes t.in_types t.out_types,
  t.ins_least,
  t.ins_most,
  nat_same (length s.params) 1 t.params_len,
)
asks_of Saturation s t =
    let len : length s.params ≡ 2 = nat_same (length s.params) 2 t.params_len in (
      alike_of s (one_of s t.outs_least t.outs_most) t.in_sizes t.out_sizes t.in_types t.out_types,
      omega (arith, t.ins_least, t.ins_most),
      len,
      in_range_told (out_type s) (param s 0) (t.params_fit 0 (omega (arith, len))),
      in_range_told (out_type s) (param s 1) (t.params_fit 1 (omega (arith, len))),
    )
asks_of DeadBand s t =
    let len : length s.params ≡ 3 = nat_same (length s.params) 3 t.params_len in (
      alike_of s (one_of s t.outs_least t.outs_most) t.in_sizes t.out_sizes t.in_types t.out_types,
      omega (arith, t.ins_least, t.ins_most),
      len,
      in_range_told (out_type s) (param s 1) (t.params_fit 1 (omega (arith, len))),
      in_range_told (out_type s) (param s 2) (t.params_fit 2 (omega (arith, len))),
    )
asks_of Convert s t = (
  sized_of s (one_of s t.outs_least t.outs_most) t.in_sizes t.out_sizes t.ins_least t.in_types,
  omega (arith, t.ins_least, t.ins_most),
  nat_same (length s.params) 1 t.params_len,
)
asks_of Mux s t =
    let one = one_of s t.outs_least t.outs_most in
    let sum : elements (port_at s.outs 0) ≡ total s.ins = column_total (port_at s.outs 0) (sum_rows s.ins) (total s.ins) (t.out_sizes 0 (omega (arith, one))) (columns s.ins t.known_ins t.in_sizes) in
    (joined_of s (sym (only_total s.outs one ∙ sum)) t.in_types t.out_types, one)
asks_of Demux s t =
    let one : length s.ins ≡ 1 = omega (arith, t.ins_least, t.ins_most) in
    let sum : elements (port_at s.ins 0) ≡ total s.outs = column_total (port_at s.ins 0) (sum_rows s.outs) (total s.outs) (t.in_sizes 0 (omega (arith, one))) (columns s.outs t.known_outs t.out_sizes) in
    (joined_of s (only_total s.ins one ∙ sum) t.in_types t.out_types, one)
asks_of Extractor s t =
    let one = one_of s t.outs_least t.outs_most in
    let in_one : length s.ins ≡ 1 = omega (arith, t.ins_least, t.ins_most) in (
      record { outs_alike = out_alike s one; one = one },
      in_one,
      record {
        types = λ k h. same_typed (port_at s.ins k) (first_port s) (t.in_types k h) ∙ sym (same_typed (port_at s.outs 0) (first_port s) (t.out_types 0 (omega (arith, one))));
        sizes = λ k h. let z : k ≡ 0 = omega (arith, h, in_one) in rw z refl;
      },
      column_total (port_at s.outs 0) (pos (length s.params)) (length s.params) (t.out_sizes 0 (omega (arith, one))) refl,
      λ k l. let most = pos (elements (port_at s.ins 0)) in
          let p : pos 1 ≤ℤ param s k = int_le_told (pos 1) (param s k) (every_place (nat_eq k 0) (nat_eq k 1) (int_le (pos 1) (param s k)) (t.params k l)) in
          (p, abs_at_most (param s k) (elements (port_at s.ins 0)) p (int_le_told (param s k) most (every_place (nat_eq k 0) (nat_eq k 1) (int_le (param s k) most) (t.indices k l)))),
    )
asks_of LogicalOp s t = (
  alike_of s (one_of s t.outs_least t.outs_most) t.in_sizes t.out_sizes t.in_types t.out_types,
  t.ins_least,
  t.ins_most,
  nat_same (length s.params) 2 t.params_len,
)
asks_of RelationalOp s t = (
  sized_of s (one_of s t.outs_least t.outs_most) t.in_sizes t.out_sizes (omega (arith, t.ins_least)) t.in_types,
  omega (arith, t.ins_least, t.ins_most),
  nat_same (length s.params) 1 t.params_len,
)
asks_of Shift s t =
    let len : length s.params ≡ 2 = nat_same (length s.params) 2 t.params_len in (
      alike_of s (one_of s t.outs_least t.outs_most) t.in_sizes t.out_sizes t.in_types t.out_types,
      omega (arith, t.ins_least, t.ins_most),
      len,
      nat_lt_told (unsigned_abs (param s 0)) (width (out_type s)) (t.params_fit 0 (omega (arith, len))),
    )
asks_of BitSet s t =
    let len : length s.params ≡ 1 = nat_same (length s.params) 1 t.params_len in (
      alike_of s (one_of s t.outs_least t.outs_most) t.in_sizes t.out_sizes t.in_types t.out_types,
      omega (arith, t.ins_least, t.ins_most),
      len,
      abs_below (param s 0) (width (out_type s)) (between_told (pos 0) (pos 31) (param s 0) (t.params 0 (omega (arith, len)))).0
          (int_lt_told (param s 0) (pos (width (out_type s))) (t.params_fit 0 (omega (arith, len)))),
    )
asks_of BitClear s t =
    let len : length s.params ≡ 1 = nat_same (length s.params) 1 t.params_len in (
      alike_of s (one_of s t.outs_least t.outs_most) t.in_sizes t.out_sizes t.in_types t.out_types,
      omega (arith, t.ins_least, t.ins_most),
      len,
      abs_below (param s 0) (width (out_type s)) (between_told (pos 0) (pos 31) (param s 0) (t.params 0 (omega (arith, len)))).0
          (int_lt_told (param s 0) (pos (width (out_type s))) (t.params_fit 0 (omega (arith, len)))),
    )
asks_of ExtractBits s t =
    let len : length s.params ≡ 2 = nat_same (length s.params) 2 t.params_len in
    let from = between_told (pos 0) (pos 31) (param s 0) (t.params 0 (omega (arith, len))) in
    let to = both_true (between (pos 0) (pos 31) (param s 1)) (int_le (param s 0) (param s 1)) (t.params 1 (omega (arith, len))) in (
      alike_of s (one_of s t.outs_least t.outs_most) t.in_sizes t.out_sizes t.in_types t.out_types,
      omega (arith, t.ins_least, t.ins_most),
      len,
      abs_rises (param s 0) (param s 1) from.0 (int_le_told (param s 0) (param s 1) to.1),
      abs_below (param s 1) (width (out_type s)) (between_told (pos 0) (pos 31) (param s 1) to.0).0
          (int_lt_told (param s 1) (pos (width (out_type s))) (t.params_fit 1 (omega (arith, len)))),
    )
asks_of Switch2 s t =
    let one = one_of s t.outs_least t.outs_most in
    let three : length s.ins ≡ 3 = omega (arith, t.ins_least, t.ins_most) in
    let a = like_first s 0 (omega (arith, three)) (omega (arith, one)) (t.in_types 0 (omega (arith, three))) (t.out_types 0 (omega (arith, one))) (t.in_sizes 0 (omega (arith, three))) (t.out_sizes 0 (omega (arith, one))) in
    let c = like_first s 2 (omega (arith, three)) (omega (arith, one)) (t.in_types 2 (omega (arith, three))) (t.out_types 0 (omega (arith, one))) (t.in_sizes 2 (omega (arith, three))) (t.out_sizes 0 (omega (arith, one))) in
    let b : elements (port_at s.ins 1) ≡ 1 = scalar_one (port_at s.ins 1) (t.in_sizes 1 (omega (arith, three))) in (
      record {
        outs_alike = out_alike s one;
        one = one;
        total_ins = three_total s.ins three ∙ rw (a.1, b, c.1) refl;
        first_size = before_one s.ins (omega (arith, three)) ∙ a.1;
        first = λ e h. type_at_first s.ins (omega (arith, three)) e (omega (arith, h, a.1)) ∙ a.0;
        last = λ e h. type_at_third s.ins (omega (arith, three)) (size s + 1 + e) e (rw (a.1, b) refl) (omega (arith, h, c.1)) ∙ c.0;
      },
      nat_same (length s.params) 2 t.params_len,
    )
asks_of Select s t = (
  alike_of s (one_of s t.outs_least t.outs_most) t.in_sizes t.out_sizes t.in_types t.out_types,
  omega (arith, t.evtin_least, t.evtin_most),
  omega (arith, t.ins_least, t.evtin_least),
  omega (arith, t.ins_most, t.evtin_most),
)
asks_of Logic s t = (
  t.ins_least,
  t.ins_most,
  scalars s.ins t.in_sizes,
  scalars s.outs t.out_sizes,
  nat_same (length s.params) (2 ^ length s.ins * length s.outs) t.params_len,
  λ k l. flag_of (param s k) (every_place (nat_eq k 0) (nat_eq k 1) (is_flag (param s k)) (t.params k l)),
)
asks_of AndLog s t =
    let one = one_of s t.outs_least t.outs_most in
    let code : (port_at s.outs 0).ty ≡ pos 3 = int_same (port_at s.outs 0).ty (pos 3) (t.out_types 0 (omega (arith, one))) in
    (record { outs_alike = out_alike s one; one = one }, rw code refl, omega (arith, t.evtin_least, t.evtin_most))
asks_of Dollar s t = (
  alike_of s (one_of s t.outs_least t.outs_most) t.in_sizes t.out_sizes t.in_types t.out_types,
  omega (arith, t.ins_least, t.ins_most),
  (spread_of (length s.state) (size s) t.state_spread_is, λ k l. in_range_told (out_type s) (at s.state k) (t.state_fits_all k l)),
)
asks_of SampHold s t =
    (alike_of s (one_of s t.outs_least t.outs_most) t.in_sizes t.out_sizes t.in_types t.out_types, omega (arith, t.ins_least, t.ins_most))
asks_of Register s t =
    let one = one_of s t.outs_least t.outs_most in (
      alike_scalars s one t.in_sizes t.out_sizes t.in_types t.out_types,
      omega (arith, t.ins_least, t.ins_most),
      scalar_one (port_at s.outs 0) (t.out_sizes 0 (omega (arith, one))),
      nat_le_told 1 (length s.state) (both_true (nat_le 1 (length s.state)) (nat_le (length s.state) 256) t.state_len).0,
      λ k l. in_range_told (out_type s) (at s.state k) (t.state_fits_all k l),
    )
asks_of ModuloCount s t =
    let one = one_of s t.outs_least t.outs_most in
    let len : length s.params ≡ 1 = nat_same (length s.params) 1 t.params_len in
    let state_len : length s.state ≡ 1 = nat_same (length s.state) 1 t.state_len in
    let base = between_told (pos 1) (pos 2147483647) (param s 0) (t.params 0 (omega (arith, len))) in
    let start = both_true (int_le (pos 0) (at s.state 0)) (int_lt (at s.state 0) (param s 0)) (t.state 0 (omega (arith, state_len))) in (
      record { outs_alike = out_alike s one; one = one },
      scalar_one (port_at s.outs 0) (t.out_sizes 0 (omega (arith, one))),
      base.0,
      base.1,
      (in_range_told (out_type s) (param s 0 -ℤ pos 1) (t.params_fit 0 (omega (arith, len)))).below,
      len,
      state_len,
      int_le_told (pos 0) (at s.state 0) start.0,
      int_lt_told (at s.state 0) (param s 0) start.1,
    )
asks_of GatedDelay s t =
    let one = one_of s t.outs_least t.outs_most in
    let two : length s.ins ≡ 2 = omega (arith, t.ins_least, t.ins_most) in
    let a = like_first s 0 (omega (arith, two)) (omega (arith, one)) (t.in_types 0 (omega (arith, two))) (t.out_types 0 (omega (arith, one))) (t.in_sizes 0 (omega (arith, two))) (t.out_sizes 0 (omega (arith, one))) in
    let b : elements (port_at s.ins 1) ≡ 1 = scalar_one (port_at s.ins 1) (t.in_sizes 1 (omega (arith, two))) in (
      record {
        outs_alike = out_alike s one;
        one = one;
        total_ins = two_total s.ins two ∙ rw (a.1, b) (omega arith);
        first_size = before_one s.ins (omega (arith, two)) ∙ a.1;
        first = λ e h. type_at_first s.ins (omega (arith, two)) e (omega (arith, h, a.1)) ∙ a.0;
        last = λ e h. absurd (omega (arith, h));
      },
      two,
      (spread_of (length s.state) (size s) t.state_spread_is, λ k l. in_range_told (out_type s) (at s.state k) (t.state_fits_all k l)),
    )
asks_of Sensor s t =
    let one = one_of s t.outs_least t.outs_most in
    (record { outs_alike = out_alike s one; one = one }, scalar_one (port_at s.outs 0) (t.out_sizes 0 (omega (arith, one))), omega (arith, t.ins_most))
asks_of EvtDly s t =
    let len : length s.params ≡ 1 = nat_same (length s.params) 1 t.params_len in
    let b = between_told (negsuc 0) (pos 2147483647) (param s 0) (t.params 0 (omega (arith, len))) in
    (omega (arith, t.outs_most), omega (arith, t.ins_most), b.0, b.1, len)
asks_of EvtVarDly s t = (omega (arith, t.outs_most), scalars s.ins t.in_sizes ∙ omega (arith, t.ins_least, t.ins_most))
asks_of IfThEl s t =
    (omega (arith, t.outs_most), scalars s.ins t.in_sizes ∙ omega (arith, t.ins_least, t.ins_most), omega (arith, t.evtout_least, t.evtout_most))
asks_of ESelect s t =
    (omega (arith, t.outs_most), scalars s.ins t.in_sizes ∙ omega (arith, t.ins_least, t.ins_most), t.evtout_least, t.evtout_most)
asks_of Halt s t = (omega (arith, t.outs_most), omega (arith, t.ins_most))

-- a typed spec has what its kind asks
pub asks : (s : Spec) → typed s ≡ true → Asks s.kind s
asks s h = asks_of s.kind s (tests s.kind s h)

-- an input without feedthrough is one of which the kind has none
unfed_kind : (s : Spec) → typed s ≡ true → (k : ℕ) → k < length s.ins → truth_at s.feed k ≡ false → feeds s.kind (k + 1) ≡ false
unfed_kind s h k l f = by_truth (truth_at s.feed k) f (feeds s.kind (k + 1)) (all_to_at (fed s.kind s.feed) (length s.ins) (feed_parts s h).1 k l)
  where
    feed_parts : (s : Spec) → typed s ≡ true → (nat_eq (length s.feed) (length s.ins) ≡ true) × (all_to (fed s.kind s.feed) (length s.ins) ≡ true)
    feed_parts s h = both_true (nat_eq (length s.feed) (length s.ins)) (all_to (fed s.kind s.feed) (length s.ins)) (tests s.kind s h).feed

    by_truth : (a : Bool) → a ≡ false → (b : Bool) → (a || not b) ≡ true → b ≡ false
    by_truth true p b h = cc
    by_truth false p true h = cc
    by_truth false p false h = refl

pub free_input : FreeInputLaw
free_input s x m k u v h l n b = free_input_of s (asks s h) x m k u v l (unfed_kind s h k l n) b

-- where an input of a GATED_DELAY has no feedthrough, the second has
gated_fed : (s : Spec) → typed s ≡ true → (u v : List ℤ) → SameFed s u v → s.kind ≡ GatedDelay → at u (size s) ≡ at v (size s)
gated_fed s h u v same kd =
    let g = gate s (subst (λ k. Asks k s) kd (asks s h)) in
    let on : truth_at s.feed 1 ≡ true = by_truth (truth_at s.feed 1) refl in
    same 1 (size s) (omega (arith, g.0)) on (omega (arith, g.1)) (omega (arith, g.2))
  where
    by_truth : (b : Bool) → truth_at s.feed 1 ≡ b → truth_at s.feed 1 ≡ true
    by_truth true p = p
    by_truth false p =
        let g = gate s (subst (λ k. Asks k s) kd (asks s h)) in
        let none : feeds s.kind 2 ≡ false = unfed_kind s h 1 (omega (arith, g.0)) p in
        let none_at : feeds GatedDelay 2 ≡ false = subst (λ k. feeds k 2 ≡ false) kd none in
        cc

pub fed_inputs : FedInputsLaw
fed_inputs s x m u v h lu lv same = elim (all_or_one (truth_at s.feed) (length s.ins)) [
  | inl all ↦ let e : u ≡ v = same_fed s.ins u v lu lv (λ k i l. same k i l (all k l)) in rw e (refl, refl)
  | inr one ↦ same_of s (asks s h) x m one.0 u v one.1 (unfed_kind s h one.0 one.1 one.2) (gated_fed s h u v same)
]

pub laid_inputs : LaidInputsLaw
laid_inputs s x m xs ys h same =
    fed_inputs s x m (laid s.ins xs) (laid s.ins ys) h (length_laid s.ins xs) (length_laid s.ins ys)
    (λ k e l on from to. laid_same s.ins xs ys k e from (rw add-one at to) (rw add-one at (same k l on)))

pub range_law : RangeLaw
range_law s x m u h st mk f = (out_in_range s (asks s h) x m u st mk f, IsState-next s (asks s h) x m u st f)

pub first_held_law : FirstHeldLaw
first_held_law s h = (IsState-first_state s (asks s h), first_held_of s (asks s h))

pub delay_law : DelayLaw
delay_law s p u h = delay_of_typed s (asks s h) p u

pub branch_law : BranchLaw
branch_law s u h = branch_of_typed s (asks s h) u
