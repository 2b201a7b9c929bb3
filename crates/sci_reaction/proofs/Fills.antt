-- Values in range give values in range.
use Rattle.std.proofs.Common.{◌≡◌, ℕ, suc, ◌<◌, Bool, true, false, cond, inl, ⊎_elim, ℤ, List, [], ◌∷◌, length, slice_get, Contains, Option, Some, None, Ok, refl, sym, ap, subst, ◌∙◌, arith, true≢false}
use Rattle.std.proofs.lemmas.Option.{slice_get_within, get_or_from_slice_get}
use Rattle.sci_base.specs.Fit.{InRange}
use Rattle.sci_base.specs.Lists.{at}
use Rattle.sci_forms.specs.declared.Kind.{Kind}
use Rattle.sci_forms.specs.declared.Kind.TheVariants.{Sensor}
use Rattle.sci_forms.specs.declared.ports.Port.{Port}
use Rattle.sci_forms.specs.declared.spec.Spec.{Spec}
use Rattle.sci_forms.specs.Ports.{port_at, total, Fills}
use Rattle.sci_forms.specs.Words.{out_type}
use Rattle.sci_forms.specs.Typed.{typed}
use Rattle.sci_kinds.specs.Table.{Answer, Values, NoFit, NoQuotient, out}
use Rattle.sci_kinds.specs.Asks.{Asks, IsState, IsMask, entering_of}
use Rattle.sci_kinds.proofs.LawProofs.{asks, range_law}
use Rattle.sci_kinds.proofs.Elements.{total_one, type_at_alike}
use Rattle.sci_loop.specs.Grounded.{Grounded, grounded}
use Rattle.sci_net.specs.declared.Source.{Source}
use Rattle.sci_net.specs.Parts.{Parts, IsBlock, IsInput, spec_of, wire_of, numbered, column_of}
use Rattle.sci_forms.specs.Form.{is_sensor}
use Rattle.sci_net.specs.Net.{IsNet}
use Rattle.sci_reaction.specs.Links.{has_feedthrough}
use Rattle.sci_reaction.specs.Active.{Possible}
use Rattle.sci_reaction.specs.Depends.{Depends, IsLoopFree}
use Rattle.sci_reaction.specs.Memory.{Memory, IsMemory, Columns, AreColumns, next_value}
use Rattle.sci_reaction.specs.Equations.{Signals, input_in, all_inputs, values_or_word, sensed, answer, Gives, AreInRange}
use Rattle.sci_reaction.specs.Result.{Whole, IsResult}
use Rattle.sci_reaction.proofs.Spreading.{possible}
use Rattle.sci_reaction.proofs.Fair.{fair}
use Rattle.sci_reaction.proofs.Decide.{decide_possible}
use Rattle.sci_reaction.proofs.OneResult.{ground}
use Rattle.sci_reaction.proofs.Masks.{mask_in_range}
use Rattle.sci_reaction.proofs.Ranges.{IsOf, output_in_range, laid_in_range}

-- ---- inputs

-- an input has what its source block's outputs have
pub input_in_range : (n : Parts) → IsNet n → (y : Signals) (b k : ℕ) → IsInput n b (suc k) → Fills (spec_of n (wire_of n b (suc k)).block).outs (y (wire_of n b (suc k)).block) →
    IsOf (port_at (spec_of n b).ins k) (input_in n y b (suc k))
input_in_range n net y b k within fills =
    let w = wire_of n b (suc k) in
    let out = net.wired.wires_lead b (suc k) within in
    subst (λ p. IsOf p (input_in n y b (suc k))) (net.joined b (suc k) within) (output_in_range (spec_of n w.block).outs (y w.block) w.port out.least out.most fills)

pub inputs_in_range : (n : Parts) → IsNet n → (y : Signals) (b : ℕ) → IsBlock n b → AreInRange n y → Fills (spec_of n b).ins (all_inputs (spec_of n b) (input_in n y b))
inputs_in_range n net y b inside all =
    laid_in_range (spec_of n b).ins (input_in n y b)
    (λ k l. let within : IsInput n b (suc k) = record { block = inside; least = omega arith; most = omega (arith, l) } in
    input_in_range n net y b k within (all (wire_of n b (suc k)).block (net.wired.wires_lead b (suc k) within).block))

-- ---- answers

values_of : (a : Answer) (vs : List ℤ) → values_or_word a ≡ Ok vs → a ≡ Values vs
values_of (Values us) vs e = let same : us ≡ vs = cc in ap Values same
values_of NoFit vs e = cc
values_of NoQuotient vs e = cc

pub entering_ins : (k : Kind) (s : Spec) → is_sensor k ≡ false → entering_of k s ≡ s.ins
entering_ins Sensor s e = absurd (true≢false e)
entering_ins _ s e = refl

entering_outs : (k : Kind) (s : Spec) → is_sensor k ≡ true → entering_of k s ≡ s.outs
entering_outs Sensor s e = refl
entering_outs _ s e = absurd (true≢false (sym e))

sensor_asks : (k : Kind) (s : Spec) → is_sensor k ≡ true → Asks k s → Asks Sensor s
sensor_asks Sensor s e a = a
sensor_asks _ s e a = absurd (true≢false (sym e))

-- one value in range fills a sensor's output
one_value : (s : Spec) → Asks Sensor s → (v : ℤ) → InRange (out_type s) v → Fills s.outs (v ∷ [])
one_value s a v h =
    let one : total s.outs ≡ 1 = total_one s.outs (out_type s) _ a.0.outs_alike a.0.one ∙ a.1 in
    record {
      enough = sym one;
      in_range = λ e l.
          let first : e ≡ 0 = omega (arith, l, one) in
          let read : at (v ∷ []) e ≡ v = ap (λ i. at (v ∷ []) i) first in
          subst (λ t. InRange t (at (v ∷ []) e)) (sym (type_at_alike s.outs (out_type s) _ a.0.outs_alike e l)) (subst (InRange (out_type s)) (sym read) h);
    }

-- what an active block gives is in range
given_in_range : (s : Spec) (x : List ℤ) (next : Option ℤ) (mask : ℕ) (us vs : List ℤ) (t : Bool) → is_sensor s.kind ≡ t → typed s ≡ true → IsState s x → IsMask s mask →
    (t ≡ false → Fills s.ins us) → (t ≡ true → (v : ℤ) → next ≡ Some v → InRange (out_type s) v) →
    cond t (sensed s x mask next) (values_or_word (out s x mask us)) ≡ Ok vs → Fills s.outs vs
given_in_range s x None mask us vs true e typed_s state is_mask fills column given = cc
given_in_range s x (Some v) mask us vs true e typed_s state is_mask fills column given =
    let here : Fills s.outs (v ∷ []) = one_value s (sensor_asks s.kind s e (asks s typed_s)) v (column refl v refl) in
    (range_law s x mask (v ∷ []) typed_s state is_mask (subst (λ ps. Fills ps (v ∷ [])) (sym (entering_outs s.kind s e)) here)).0 vs
    (values_of (out s x mask (v ∷ [])) vs given)
given_in_range s x next mask us vs false e typed_s state is_mask fills column given =
    (range_law s x mask us typed_s state is_mask (subst (λ ps. Fills ps us) (sym (entering_ins s.kind s e)) (fills refl))).0 vs
    (values_of (out s x mask us) vs given)

-- a column's next value is one of its values
next_in_column : (xs : List ℤ) (k : ℕ) (v : ℤ) → slice_get xs k ≡ Some v → Contains xs v
next_in_column xs k v h = (k, slice_get_within xs k v h, get_or_from_slice_get xs k v v h)

pub answer_in_range : (n : Parts) (m : Memory) (i : Columns) → IsNet n → IsMemory n m → AreColumns n i → (b mask : ℕ) (inputs : ℕ → List ℤ) (vs : List ℤ) → IsBlock n b →
    IsMask (spec_of n b) mask → Fills (spec_of n b).ins (all_inputs (spec_of n b) inputs) → answer n m i b mask inputs ≡ Ok vs → Fills (spec_of n b).outs vs
unfolding answer
answer_in_range n m i net memory columns b mask inputs vs inside is_mask fills given =
    let s : Spec = spec_of n b in
    given_in_range s (m.state b) (next_value i s (m.cursor b)) mask (all_inputs s inputs) vs (is_sensor s.kind) refl (net.typed_specs b inside) (memory.states b inside) is_mask
    (λ h. fills)
    (λ on v h. columns b (record { block = inside; sensor = on }) v (next_in_column (numbered [] i (column_of s)) (m.cursor b) v h))
    given

-- ---- all values

module _ (n : Parts) (m : Memory) (i : Columns) (s : Source) (net : IsNet n) (free : IsLoopFree n s) (memory : IsMemory n m) (columns : AreColumns n i)
    (y : Signals) (whole : IsResult n m i s (Whole y)) where
  -- the inputs with feedthrough, and what is held in place of the others
  taken_inputs : ℕ → ℕ → List ℤ
  taken_inputs b k = cond (has_feedthrough (spec_of n b) k) (input_in n y b k) (input_in n m.held b k)

  cond_at : (t : Bool) (x z : List ℤ) → t ≡ true → x ≡ cond t x z
  cond_at true x z e = refl
  cond_at false x z e = absurd (true≢false (sym e))

  chosen_of : (t : Bool) (p : Port) (x z : List ℤ) → (t ≡ true → IsOf p x) → IsOf p z → IsOf p (cond t x z)
  chosen_of true p x z f g = f refl
  chosen_of false p x z f g = g

  rests_in_range : (b : ℕ) → IsBlock n b → (Possible n s b → ⊥) → Fills (spec_of n b).outs (y b)
  rests_in_range b inside out =
      ⊎_elim (λ on. absurd (out (possible n s _ on.active))) (λ off. subst (Fills (spec_of n b).outs) (sym off.held) (memory.held b inside)) (whole b inside)

  same_taken : (b : ℕ) (mask : ℕ) → IsBlock n b → answer n m i b mask (taken_inputs b) ≡ answer n m i b mask (input_in n y b)
  unfolding taken_inputs
  same_taken b mask inside =
      sym ((fair n m i net.typed_specs).answers b mask (input_in n y b) (taken_inputs b) inside
      (λ k within through. cond_at (has_feedthrough (spec_of n b) k) (input_in n y b k) (input_in n m.held b k) through))

  active_in_range : (b : ℕ) → IsBlock n b → Gives n m i s y b (Ok (y b)) → ((k : ℕ) → k < length (spec_of n b).ins → IsOf (port_at (spec_of n b).ins k) (taken_inputs b (suc k))) →
      Fills (spec_of n b).outs (y b)
  active_in_range b inside on each =
      answer_in_range n m i net memory columns b on.mask (taken_inputs b) (y b) inside (mask_in_range n s y b on.mask net on.active on.mask_is)
      (laid_in_range (spec_of n b).ins (taken_inputs b) each) (same_taken b on.mask inside ∙ on.answer_is)

  -- an input that is taken is in range where what is supplied is
  taken_in_range : (b k : ℕ) → IsInput n b (suc k) →
      (has_feedthrough (spec_of n b) (suc k) ≡ true → Fills (spec_of n (wire_of n b (suc k)).block).outs (y (wire_of n b (suc k)).block)) →
      IsOf (port_at (spec_of n b).ins k) (taken_inputs b (suc k))
  unfolding taken_inputs
  taken_in_range b k within supplied =
      chosen_of (has_feedthrough (spec_of n b) (suc k)) (port_at (spec_of n b).ins k) (input_in n y b (suc k)) (input_in n m.held b (suc k))
      (λ through. input_in_range n net y b k within (supplied through))
      (input_in_range n net m.held b k within (memory.held (wire_of n b (suc k)).block (net.wired.wires_lead b (suc k) within).block))

  in_range_at : {b : ℕ} → Grounded (Depends n s) b → IsBlock n b → Fills (spec_of n b).outs (y b)
  in_range_at (grounded b needs) inside =
      ⊎_elim
      (λ on. active_in_range b inside on
      (λ k l.
      let within : IsInput n b (suc k) = record { block = inside; least = omega arith; most = omega (arith, l) } in
      taken_in_range b k within
      (λ through. ⊎_elim
      (λ p. in_range_at
      (needs (wire_of n b (suc k)).block
      (record { possible = possible n s _ on.active; on_possible = p; waits = inl (record { input = suc k; within = within; from = refl; through = through }) }))
      (net.wired.wires_lead b (suc k) within).block)
      (λ out. rests_in_range (wire_of n b (suc k)).block (net.wired.wires_lead b (suc k) within).block out)
      (decide_possible n s (wire_of n b (suc k)).block))))
      (λ off. subst (Fills (spec_of n b).outs) (sym off.held) (memory.held b inside))
      (whole b inside)

  pub signals_in_range : AreInRange n y
  signals_in_range b inside = in_range_at (ground n s free b inside) inside
