-- The memory after a reaction.
use Rattle.std.proofs.Common.{◌≡◌, ℕ, ◌+◌, true, cond, inl, inr, ⊎_elim, ℤ, List, refl, sym, ap, subst, ◌∙◌, arith, true≢false}
use Rattle.std.proofs.lemmas.Bool.{cases_Bool}
use Rattle.sci_forms.specs.declared.Kind.{Kind}
use Rattle.sci_forms.specs.declared.Kind.TheVariants.{Sensor}
use Rattle.sci_forms.specs.declared.spec.Spec.{Spec}
use Rattle.sci_forms.specs.Ports.{Fills}
use Rattle.sci_forms.specs.Words.{state_len_of}
use Rattle.sci_forms.specs.Typed.{typed}
use Rattle.sci_kinds.specs.Table.{next, next_of}
use Rattle.sci_kinds.specs.Asks.{IsState, IsMask}
use Rattle.sci_kinds.proofs.Elements.{listed_at}
use Rattle.sci_kinds.proofs.LawProofs.{range_law, first_held_law}
use Rattle.sci_net.specs.declared.Source.{Source}
use Rattle.sci_net.specs.Parts.{Parts, IsBlock, spec_of}
use Rattle.sci_forms.specs.Form.{is_sensor}
use Rattle.sci_net.specs.Net.{IsNet}
use Rattle.sci_loop.proofs.Decided.{Decided}
use Rattle.sci_reaction.specs.Memory.{Memory, IsMemory, first_memory}
use Rattle.sci_reaction.specs.Equations.{Signals, AreInRange, input_in, all_inputs, IsActivated, IsMaskOf}
use Rattle.sci_reaction.specs.Next.{IsNextMemory}
use Rattle.sci_reaction.proofs.Decide.{decide_active, decide_activated}
use Rattle.sci_reaction.proofs.Rows.{mask_number, mask_number-bits}
use Rattle.sci_reaction.proofs.Exists.{same_mask}
use Rattle.sci_reaction.proofs.Masks.{mask_in_range}
use Rattle.sci_reaction.proofs.Fills.{entering_ins, inputs_in_range}

-- ---- there is one

module _ (n : Parts) (m : Memory) (s : Source) (y : Signals) where
  mask_at : ℕ → ℕ
  mask_at b = mask_number (decide_activated n s y b) (spec_of n b).evtin

  mask_at-is : (b : ℕ) → IsMaskOf n s y b (mask_at b)
  unfolding mask_at
  mask_at-is b = mask_number-bits (IsActivated n s y b) (decide_activated n s y b) (spec_of n b).evtin (λ p h. h.within.most)

  -- one thing of an active block, another of one that isn't
  chosen : {A P : Type 0} → Decided P → A → A → A
  chosen (inl on) a c = a
  chosen (inr off) a c = c

  memory_after : Memory
  memory_after = record {
    state = λ b. chosen (decide_active n s y b) (next (spec_of n b) (m.state b) (mask_at b) (all_inputs (spec_of n b) (input_in n y b))) (m.state b);
    held = λ b. chosen (decide_active n s y b) (y b) (m.held b);
    cursor = λ b. chosen (decide_active n s y b) (cond (is_sensor (spec_of n b).kind) (m.cursor b + 1) (m.cursor b)) (m.cursor b);
  }

  chosen-on : {A P : Type 0} (d : Decided P) (a c : A) → P → chosen d a c ≡ a
  unfolding chosen
  chosen-on (inl on) a c h = refl
  chosen-on (inr off) a c h = absurd (off h)

  chosen-off : {A P : Type 0} (d : Decided P) (a c : A) → (P → ⊥) → chosen d a c ≡ c
  unfolding chosen
  chosen-off (inl on) a c h = absurd (h on)
  chosen-off (inr off) a c h = refl

  pub some_next : (m' : Memory) × IsNextMemory n m s y m'
  unfolding memory_after
  some_next = (
    memory_after,
    λ b inside. ⊎_elim
        (λ on. inl (record {
          active = on;
          mask = mask_at b;
          mask_is = mask_at-is b;
          state = chosen-on (decide_active n s y b) _ _ on;
          held = chosen-on (decide_active n s y b) _ _ on;
          cursor = chosen-on (decide_active n s y b) _ _ on;
        }))
        (λ off. inr (record {
          idle = off;
          state = chosen-off (decide_active n s y b) _ _ off;
          held = chosen-off (decide_active n s y b) _ _ off;
          cursor = chosen-off (decide_active n s y b) _ _ off;
        }))
        (decide_active n s y b),
  )

-- ---- and no other

pub one_next : (n : Parts) (m : Memory) (s : Source) (y : Signals) (one other : Memory) (b : ℕ) → IsNextMemory n m s y one → IsNextMemory n m s y other → IsBlock n b →
    (one.state b ≡ other.state b) × (one.held b ≡ other.held b) × (one.cursor b ≡ other.cursor b)
one_next n m s y one other b x z inside =
    ⊎_elim
    (λ on. ⊎_elim
    (λ too. let mask = same_mask (IsActivated n s y b) on.mask too.mask on.mask_is too.mask_is in (
      on.state ∙ (ap (λ k. next (spec_of n b) (m.state b) k (all_inputs (spec_of n b) (input_in n y b))) mask ∙ sym too.state),
      on.held ∙ sym too.held,
      on.cursor ∙ sym too.cursor,
    ))
    (λ off. absurd (off.idle on.active)) (z b inside))
    (λ off. ⊎_elim
    (λ on. absurd (off.idle on.active))
    (λ too. (off.state ∙ sym too.state, off.held ∙ sym too.held, off.cursor ∙ sym too.cursor)) (z b inside))
    (x b inside)

-- ---- in range

sensor_stateless : (k : Kind) (s : Spec) → is_sensor k ≡ true → state_len_of k s ≡ 0
sensor_stateless Sensor s e = refl
sensor_stateless _ s e = absurd (true≢false (sym e))

next_in_range : (s : Spec) (x : List ℤ) (mask : ℕ) (us : List ℤ) → typed s ≡ true → IsState s x → IsMask s mask → Fills s.ins us → IsState s (next s x mask us)
next_in_range s x mask us typed_s state is_mask fills =
    ⊎_elim
    (λ on. let none = sensor_stateless s.kind s on in record {
      enough = (listed_at (next_of s.kind s x mask us) (state_len_of s.kind s)).0;
      in_range = λ i l. absurd (omega (arith, l, none));
    })
    (λ off. (range_law s x mask us typed_s state is_mask (subst (λ ps. Fills ps us) (sym (entering_ins s.kind s off)) fills)).1)
    (cases_Bool (is_sensor s.kind))

pub memory_in_range : (n : Parts) (m : Memory) (s : Source) (y : Signals) (after : Memory) → IsNet n → IsMemory n m → AreInRange n y → IsNextMemory n m s y after → IsMemory n after
memory_in_range n m s y after net memory fills next =
    record {
      states = λ b inside. ⊎_elim
          (λ on. subst (IsState (spec_of n b)) (sym on.state)
          (next_in_range (spec_of n b) (m.state b) on.mask (all_inputs (spec_of n b) (input_in n y b)) (net.typed_specs b inside) (memory.states b inside)
          (mask_in_range n s y b on.mask net on.active on.mask_is) (inputs_in_range n net y b inside fills)))
          (λ off. subst (IsState (spec_of n b)) (sym off.state) (memory.states b inside))
          (next b inside);
      held = λ b inside. ⊎_elim
          (λ on. subst (Fills (spec_of n b).outs) (sym on.held) (fills b inside))
          (λ off. subst (Fills (spec_of n b).outs) (sym off.held) (memory.held b inside))
          (next b inside);
    }

pub first_in_range : (n : Parts) → IsNet n → IsMemory n (first_memory n)
first_in_range n net = record {
  states = λ b inside. (first_held_law (spec_of n b) (net.typed_specs b inside)).0;
  held = λ b inside. (first_held_law (spec_of n b) (net.typed_specs b inside)).1;
}
