-- The mask of an active block is such as its kind expects.
use Rattle.std.proofs.Common.{◌≡◌, ℕ, ◌+◌, ◌-◌, ◌^◌, ◌<◌, ◌≤◌, inl, inr, eqb, refl, sym, subst, arith}
use Rattle.std.proofs.lemmas.Bool.{eqb-true, eq-eqb}
use Rattle.std.proofs.lemmas.Nat.Bits.{same_from_bits, bit_at-lt, bit_at-zero}
use Rattle.std.specs.Int.{bit_at}
use Rattle.sci_forms.specs.declared.Kind.{Kind}
use Rattle.sci_forms.specs.declared.Kind.TheVariants.{Select}
use Rattle.sci_forms.specs.declared.form.Mask.TheVariants.{Needed}
use Rattle.sci_forms.specs.Form.{form}
use Rattle.sci_forms.specs.declared.spec.Spec.{Spec}
use Rattle.sci_kinds.specs.Asks.{Asks, IsMask}
use Rattle.sci_kinds.proofs.LawProofs.{asks}
use Rattle.sci_net.specs.declared.Source.{Source}
use Rattle.sci_net.specs.declared.Source.TheVariants.{Start, Port}
use Rattle.sci_net.specs.Parts.{Parts, spec_of}
use Rattle.sci_net.specs.Net.{IsNet}
use Rattle.sci_reaction.specs.Links.{SetOff}
use Rattle.sci_reaction.specs.Active.{set_off, taken, inherited}
use Rattle.sci_reaction.specs.Equations.{Signals, Active, IsActivated, IsMaskOf}
use Rattle.sci_reaction.proofs.Spreading.{Spread-block}
use Rattle.sci_reaction.proofs.Bits.{bits_of, bits_of-at, bits_below}

-- a number without bits from k on
few_bits : (mask k : ℕ) → ((p : ℕ) → bit_at mask p ≡ 1 → p < k) → mask < 2 ^ k
few_bits mask k below =
    let t = λ (p : ℕ). eqb (bit_at mask p) 1 in
    let same : mask ≡ bits_of t k =
    same_from_bits mask (bits_of t k) (λ p.
    let made = bits_of-at t k p in
    let one : bit_at mask p ≡ 1 → bit_at (bits_of t k) p ≡ 1 = λ h. made.1 (below p h, eq-eqb (bit_at mask p) 1 h) in
    let two : bit_at (bits_of t k) p ≡ 1 → bit_at mask p ≡ 1 = λ h. eqb-true (bit_at mask p) 1 (made.0 h).1 in
    bits (bit_at mask p) (bit_at (bits_of t k) p) (bit_at-lt mask p) (bit_at-lt (bits_of t k) p) one two) in
    subst (λ v. v < 2 ^ k) (sym same) (bits_below t k)
  where
    bits : (a c : ℕ) → a < 2 → c < 2 → (a ≡ 1 → c ≡ 1) → (c ≡ 1 → a ≡ 1) → a ≡ c
    bits a c ha hc f g = grind arith

module _ (n : Parts) (s : Source) (y : Signals) where
  set_off_input : (t : Source) (b : ℕ) → s ≡ t → SetOff n t b → 1 ≤ (spec_of n b).evtin → (p : ℕ) × IsActivated n s y b (p + 1)
  set_off_input Start b e h some = absurd (let none = h.no_activation_input in omega (arith, none, some))
  set_off_input (Port q) b e h some =
      let place : h.input - 1 + 1 ≡ h.input = let l = h.within.least in omega (arith, l) in
      let here : IsActivated n (Port q) y b h.input = record { within = h.within; how = inl h.fed } in
      (h.input - 1, subst (λ t. IsActivated n t y b (h.input - 1 + 1)) (sym e) (subst (IsActivated n (Port q) y b) (sym place) here))

  -- an active block with activation inputs has one that is activated
  some_input : {b : ℕ} → Active n s y b → 1 ≤ (spec_of n b).evtin → (p : ℕ) × IsActivated n s y b (p + 1)
  some_input (set_off b h) some = set_off_input s b refl h some
  some_input (taken c q b d sync takes f) some =
      let place : f.input - 1 + 1 ≡ f.input = let l = f.within.least in omega (arith, l) in
      let here : IsActivated n s y b f.input =
      record { within = f.within; how = inr (record { block = c; port = q; active = d; sync = sync; takes = takes; fed = f.fed }) } in
      (f.input - 1, subst (IsActivated n s y b) (sym place) here)
  some_input (inherited a b d i u) some = absurd (let none = i.no_activation_input in omega (arith, none, some))

needed_inputs : (k : Kind) (s : Spec) → (form k).mask ≡ Needed → Asks k s → 1 ≤ s.evtin
needed_inputs Select s e a = omega (arith, a.2)
needed_inputs _ s e a = cc

pub mask_in_range : (n : Parts) (s : Source) (y : Signals) (b mask : ℕ) → IsNet n → Active n s y b → IsMaskOf n s y b mask → IsMask (spec_of n b) mask
mask_in_range n s y b mask net active is =
    let inside = Spread-block n s _ active in
    record {
      few = few_bits mask (spec_of n b).evtin (λ p h. let w = ((is p).0 h).within.most in omega (arith, w));
      some = λ needed zero'.
          let some = needed_inputs (spec_of n b).kind (spec_of n b) needed (asks (spec_of n b) (net.typed_specs b inside)) in
          let p = some_input n s y active some in
          let on : bit_at mask p.0 ≡ 1 = (is p.0).1 p.1 in
          let off : bit_at mask p.0 ≡ 0 = subst (λ v. bit_at v p.0 ≡ 0) (sym zero') (bit_at-zero p.0) in
          omega (arith, on, off);
    }
