-- The inputs of a switch, of a comparison and of a sum.
use Rattle.std.proofs.Common.{◌≡◌, ℕ, ◌+◌, ◌^◌, ◌<◌, ◌≤◌, pos, negsuc, ◌≤ℤ◌, true, nat_eq, length, arith, true≢false, sym}
use Rattle.std.proofs.lemmas.Int.{ints}
use Rattle.sci_forms.specs.declared.Kind.{Kind}
use Rattle.sci_forms.specs.declared.Kind.TheVariants.{Switch2}
use Rattle.sci_forms.specs.declared.spec.Spec.{Spec}
use Rattle.sci_forms.specs.Typed.{typed}
use Rattle.sci_forms.specs.Words.{param, size}
use Rattle.sci_forms.proofs.TestLemmas.{nat_same, between_told}
use Rattle.sci_kinds.specs.Asks.{Asks}
use Rattle.sci_kinds.proofs.LawProofs.{asks}
use Rattle.sci_kinds.proofs.TypedLemmas.{Tests, tests}
use Rattle.sci_net.specs.Net.{IsNet}
use Rattle.sci_net.specs.Parts.{Parts, IsBlock, IsInput, spec_of}
use Rattle.sci_reaction.proofs.Lists.{and_both}
use Rattle.sci_ranges_refined.specs.Choices.{is_switch}
use Rattle.sci_ranges_refined.proofs.Choosing.{switch_ports, comparing_asks}
use Rattle.sci_ranges_pass.specs.Taken.{is_choice}
use Rattle.sci_ranges_choices.specs.View.{IsCompared}

pub choice_is : (s : Spec) → is_choice s ≡ true → (is_switch s.kind ≡ true) × (size s ≡ 1)
choice_is s h = let p = and_both (is_switch s.kind) (nat_eq (size s) 1) h in (p.0, nat_same (size s) 1 p.1)

pub three_inputs : (n : Parts) (c : ℕ) → IsNet n → IsBlock n c → is_choice (spec_of n c) ≡ true → length (spec_of n c).ins ≡ 3
three_inputs n c net block h =
    let p = choice_is (spec_of n c) h in (switch_ports (spec_of n c) (net.typed_specs c block) p.0 p.1).three

pub switch_input : (n : Parts) (c k : ℕ) → IsNet n → IsBlock n c → is_choice (spec_of n c) ≡ true → 1 ≤ k → k ≤ 3 → IsInput n c k
switch_input n c k net block h least most = let three = three_inputs n c net block h in record { block = block; least = least; most = omega (arith, three, most) }

pub compared_input : (n : Parts) (g k : ℕ) → IsNet n → IsCompared n g → k < 2 → k + 1 ≤ length (spec_of n g).ins
compared_input n g k net is few = let a = comparing_asks (spec_of n g) (net.typed_specs g is.block) is.comparing in omega (arith, a.1, few)

-- the number that a switch compares with
pub number_small : (s : Spec) → typed s ≡ true → is_switch s.kind ≡ true → (negsuc (2 ^ 31) ≤ℤ param s 1) × (param s 1 ≤ℤ pos (2 ^ 32))
number_small s h switch = by_kind s.kind switch (asks s h) (tests s.kind s h)
  where
    by_kind : (c : Kind) → is_switch c ≡ true → Asks c s → Tests c s → (negsuc (2 ^ 31) ≤ℤ param s 1) × (param s 1 ≤ℤ pos (2 ^ 32))
    by_kind Switch2 q a t =
        let b = between_told (negsuc 2147483647) (pos 4294967295) (param s 1) (t.params 1 (omega (arith, a.1))) in (omega (arith, ints, b.0), omega (arith, ints, b.1))
    by_kind _ q a t = absurd (true≢false (sym q))
