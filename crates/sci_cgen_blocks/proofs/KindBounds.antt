-- The numbers of a typed block are small.
use Rattle.std.proofs.Common.{arith, lit≤, ◌≡◌, ◌≤◌, ◌<◌, ◌^◌, ◌≤ℤ◌, ℕ, pos, true, length, unsigned_abs, subst, inl, inr}
use Rattle.std.proofs.lemmas.Bool.{cases_lt}
use Rattle.std.proofs.lemmas.Nat.{pow_below}
use Rattle.sci_forms.specs.declared.Kind.{Kind}
use Rattle.sci_forms.specs.declared.Kind.TheVariants.{Const, Extractor, Shift, BitSet, BitClear, ExtractBits, Select, Logic}
use Rattle.sci_forms.specs.declared.spec.Spec.{Spec}
use Rattle.sci_forms.specs.Forms.{counts_of}
use Rattle.sci_forms.specs.Ports.{port_at, elements, total}
use Rattle.sci_forms.specs.Typed.{typed}
use Rattle.sci_forms.specs.Words.{param, out_type, size}
use Rattle.sci_kinds.specs.Asks.{Asks}
use Rattle.sci_kinds.proofs.Elements.{total_one}
use Rattle.sci_kinds.proofs.LawProofs.{asks}
use Rattle.sci_kinds.proofs.TypedLemmas.{tests}
use Rattle.sci_cgen_blocks.proofs.Patterns.{width_at_most}

-- what a block's kind asks, by the kind's name
pub asks_as : (k : Kind) (s : Spec) → typed s ≡ true → s.kind ≡ k → Asks k s
asks_as k s h is = subst (λ c. Asks c s) is (asks s h)

ins_most : (c : Kind) (n : ℕ) → (counts_of c n).ins_most ≤ 64
ins_most Const n = lit≤ tt
ins_most _ n = lit≤ tt

pub few_ins : (s : Spec) → typed s ≡ true → length s.ins ≤ 64
few_ins s h = omega (arith, ins_most s.kind (length s.ins), (tests s.kind s h).ins_most)

outs_most : (c : Kind) (n : ℕ) → (counts_of c n).outs_most ≤ 64
outs_most Const n = lit≤ tt
outs_most _ n = lit≤ tt

pub few_outs : (s : Spec) → typed s ≡ true → length s.outs ≤ 64
few_outs s h = omega (arith, outs_most s.kind (length s.ins), (tests s.kind s h).outs_most)

-- ---- by kind

pub shift_places : (s : Spec) → typed s ≡ true → s.kind ≡ Shift → unsigned_abs (param s 0) < 32
shift_places s h is = omega (arith, width_at_most (out_type s), (asks_as Shift s h is).3)

pub bit_to_set : (s : Spec) → typed s ≡ true → s.kind ≡ BitSet → unsigned_abs (param s 0) < 32
bit_to_set s h is = omega (arith, width_at_most (out_type s), (asks_as BitSet s h is).3)

pub bit_to_clear : (s : Spec) → typed s ≡ true → s.kind ≡ BitClear → unsigned_abs (param s 0) < 32
bit_to_clear s h is = omega (arith, width_at_most (out_type s), (asks_as BitClear s h is).3)

pub bits_in_order : (s : Spec) → typed s ≡ true → s.kind ≡ ExtractBits → unsigned_abs (param s 0) ≤ unsigned_abs (param s 1)
bits_in_order s h is = (asks_as ExtractBits s h is).3

pub bits_within : (s : Spec) → typed s ≡ true → s.kind ≡ ExtractBits → unsigned_abs (param s 1) < 32
bits_within s h is = omega (arith, width_at_most (out_type s), (asks_as ExtractBits s h is).4)

pub few_selected : (s : Spec) → typed s ≡ true → s.kind ≡ Select → s.evtin ≤ 8
few_selected s h is = (asks_as Select s h is).3

pub some_selected : (s : Spec) → typed s ≡ true → s.kind ≡ Select → 2 ≤ s.evtin
some_selected s h is = (asks_as Select s h is).2

pub few_tested : (s : Spec) → typed s ≡ true → s.kind ≡ Logic → length s.ins ≤ 8
few_tested s h is = (asks_as Logic s h is).1

pub few_columns : (s : Spec) → typed s ≡ true → s.kind ≡ Logic → length s.outs ≤ 8
few_columns s h is = subst (λ c. length s.outs ≤ (counts_of c (length s.ins)).outs_most) is (tests s.kind s h).outs_most

-- parameter e of an extractor names an element of the input
pub names_element : (s : Spec) → typed s ≡ true → s.kind ≡ Extractor → (e : ℕ) → e < total s.outs
    → (pos 1 ≤ℤ param s e) × (unsigned_abs (param s e) ≤ elements (port_at s.ins 0))
names_element s h is e l = let a = asks_as Extractor s h is in a.4 e (omega (arith, total_one s.outs (out_type s) (size s) a.0.outs_alike a.0.one, a.3))

small_pow : (n : ℕ) → n ≤ 8 → 2 ^ n ≤ 256
small_pow n h = elim (cases_lt n 8) [
  | inl l ↦ let b = pow_below n 8 l in omega (arith, b)
  | inr r ↦ let e : n ≡ 8 = omega (arith, h, r) in rw e (omega arith)
]

pub few_rows : (s : Spec) → typed s ≡ true → s.kind ≡ Logic → 2 ^ length s.ins ≤ 256
few_rows s h is = small_pow (length s.ins) (few_tested s h is)
