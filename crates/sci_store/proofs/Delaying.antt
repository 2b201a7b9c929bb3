-- The delay of a block, by its instance in the banks.
use Rattle.std.proofs.Common.{◌≡◌, ℕ, true, true≢false, ℤ, pos, negsuc, List, if◌then◌else◌, refl, sym, ◌∙◌, ap, subst, arith}
use Rattle.std.specs.Prelude.{◌<ℤ◌, ◌≤ℤ◌}
use Rattle.std.proofs.lemmas.Int.{ints}
use Rattle.sci_forms.specs.declared.Kind.{Kind}
use Rattle.sci_forms.specs.declared.Kind.TheVariants.{EvtDly, EvtVarDly}
use Rattle.sci_forms.specs.declared.ports.Port.{Port as Signal}
use Rattle.sci_forms.specs.declared.spec.Spec.{Spec}
use Rattle.sci_forms.specs.Form.{has_delay}
use Rattle.sci_forms.specs.Ports.{Fills}
use Rattle.sci_kinds.specs.Asks.{entering_of, entering}
use Rattle.sci_kinds.specs.Table.{delay}
use Rattle.sci_kinds.proofs.LawProofs.{delay_law}
use Rattle.sci_net.specs.Parts.{IsBlock, spec_of}
use Rattle.sci_reaction.specs.Equations.{Signals, AreInRange, input_in, all_inputs}
use Rattle.sci_reaction.proofs.Fills.{inputs_in_range}
use Rattle.sci_pass.specs.State.{AreAlike}
use Rattle.sci_pass.proofs.Meanings.{same_but_state}
use Rattle.sci_places.specs.Flat.{values_at}
use Rattle.sci_bank.specs.Bank.{Meaning, spec_at}
use Rattle.sci_bank.specs.Library.{bank_of}
use Rattle.sci_bank.proofs.LibraryLemmas.{kind_of-bank, Holds-full}
use Rattle.sci_store.specs.Marks.{mark_at}
use Rattle.sci_store.specs.Frame.{Fixed, seat_of, IsFrame, AreSeated, instance_of}
use Rattle.sci_store.specs.Store.{Standing}
use Rattle.sci_store.specs.Delays.{delays_in}

plain_inputs : (k : Kind) (s : Spec) → has_delay k ≡ true → entering_of k s ≡ s.ins
plain_inputs EvtDly s h = refl
plain_inputs EvtVarDly s h = refl
plain_inputs _ s h = absurd (true≢false (sym h))

module _ (f : Fixed) (frame : IsFrame f) (b : ℕ) (block : IsBlock f.net b) (delayed : has_delay (spec_of f.net b).kind ≡ true) where
  module _ (banks : List Meaning) (seated : AreSeated f banks) where
    alike : AreAlike (spec_of f.net b) (instance_of f banks b).spec
    alike = same_but_state (spec_of f.net b) (instance_of f banks b).spec (seated.specs b block)

    pub bank_delays : has_delay (bank_of banks (seat_of f b).kind).kind ≡ true
    bank_delays =
        ap has_delay (kind_of-bank banks (seat_of f b).kind seated.in_order (Holds-full banks (seat_of f b).kind seated.full))
        ∙ (ap has_delay (frame.seated b block).kind ∙ delayed)

    pub filled : (y : Signals) (vs : List ℤ) → AreInRange f.net y → vs ≡ all_inputs (spec_of f.net b) (input_in f.net y b)
        → Fills (entering (spec_at (bank_of banks (seat_of f b).kind) (seat_of f b).slot)) vs
    filled y vs range e =
        subst (λ (ps : List Signal). Fills ps vs) (sym (plain_inputs (spec_of f.net b).kind (spec_of f.net b) delayed) ∙ alike.entering)
        (subst (Fills (spec_of f.net b).ins) (sym e) (inputs_in_range f.net frame.net y b block range))

    pub delay_is : (p : ℕ) (u : List ℤ) → delay (spec_at (bank_of banks (seat_of f b).kind) (seat_of f b).slot) p u ≡ delay (spec_of f.net b) p u
    delay_is p u = sym (alike.delay p u)

    pub delay_small : (p : ℕ) (u : List ℤ) → delay (spec_at (bank_of banks (seat_of f b).kind) (seat_of f b).slot) p u <ℤ pos 2147483648
    delay_small p u =
        subst (λ (d : ℤ). d <ℤ pos 2147483648) (alike.delay p u)
        (below (delay (spec_of f.net b) p u) (delay_law (spec_of f.net b) p u (frame.net.typed_specs b block)).1)
      where
        below : (d : ℤ) → d ≤ℤ pos 2147483647 → d <ℤ pos 2147483648
        below d h = omega (arith, ints, h)

    -- on the values on its inputs, where it is active
    pub delay_in : (s : Standing) (vs : List ℤ) (i : ℕ) → (mark_at s.marks b).active ≡ true
        → vs ≡ all_inputs (spec_of f.net b) (input_in f.net (values_at f.net s.values) b)
        → delay (spec_at (bank_of banks (seat_of f b).kind) (seat_of f b).slot) i vs ≡ delays_in f s (record { block = b; port = i })
    delay_in s vs i active e =
        delay_is i vs ∙ (ap (λ u. delay (spec_of f.net b) i u) e
        ∙ sym (ap (λ t. if t then delay (spec_of f.net b) i (all_inputs (spec_of f.net b) (input_in f.net (values_at f.net s.values) b)) else negsuc 0) active))
