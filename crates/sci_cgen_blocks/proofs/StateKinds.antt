-- The kinds with a state, AND_LOG and SAMPHOLD, and the kinds without outputs.
use Rattle.std.proofs.Common.{◌≡◌, ℕ, ◌+◌, ◌<◌, ◌*ℤ◌, Bool, true, false, Option, Some, refl, sym, ap, ◌∙◌, arith, ℤ, pos, negsuc, List, if◌then◌else◌, subst}
use Rattle.std.specs.Prelude.{int_lt, nat_eq}
use Rattle.std.proofs.lemmas.Int.{ints}
use Rattle.sci_base.specs.Fit.{InRange}
use Rattle.sci_base.specs.Lists.{at}
use Rattle.sci_forms.specs.declared.Kind.{Kind}
use Rattle.sci_forms.specs.declared.Kind.TheVariants.{AndLog, Dollar, SampHold, Register, ModuloCount, GatedDelay, EvtDly, EvtVarDly, IfThEl, ESelect, Halt}
use Rattle.sci_forms.specs.declared.spec.Spec.{Spec}
use Rattle.sci_forms.specs.Ports.{total, before, elements, port_at}
use Rattle.sci_forms.specs.Words.{out_type, size, state_len_of}
use Rattle.sci_kinds.specs.Table.{cell_of}
use Rattle.sci_kinds.specs.Asks.{Asks, IsState}
use Rattle.sci_kinds.proofs.LawLemmas.{gate}
use Rattle.sci_kinds.proofs.TypedLemmas.{two_total, before_one}
use Rattle.c_ast.specs.declared.Op.TheVariants.{Sub, Mul, Eq, Gt}
use Rattle.c_mean.specs.Meaning.{operate, truth}
use Rattle.c_mean.specs.Laws.{Within}
use Rattle.c_mean.proofs.Values.{same_ints}
use Rattle.sci_cgen_blocks.specs.Terms.{input, along, state, state_along, mask, both, Scratch, Gives, RecipeFits}
use Rattle.sci_cgen_blocks.specs.Recipes.{recipe_of, natural}
use Rattle.sci_cgen_blocks.proofs.Operators.{mul_is, gt_is}
use Rattle.sci_cgen_blocks.proofs.Working.{done_gives}
use Rattle.sci_cgen_blocks.proofs.Reading.{Reads, both_reads, natural_reads, input_reads, state_along_reads, mask_reads}
use Rattle.sci_cgen_blocks.proofs.Inputs.{given_for, given_first, in_size, fed_for, IsFed, element_read}
use Rattle.sci_cgen_blocks.proofs.PatternKinds.{within_type}

-- a truth times a number chooses between it and 0
pub chosen : {p q : Option ℤ} {z : ℤ} (b : Bool) → p ≡ Some (truth b) → q ≡ Some z → Within z → operate Mul p q ≡ Some (if b then z else pos 0)
chosen {z} true e f w =
    let above = w.above in
    let below = w.below in
    let same : pos 1 *ℤ z ≡ z = omega (arith, ints) in
    mul_is e f (record { above = omega (arith, ints, above); below = omega (arith, ints, below) }) ∙ ap Some same
chosen {z} false e f w =
    let none : pos 0 *ℤ z ≡ pos 0 = omega (arith, ints) in
    mul_is e f (record { above = omega (arith, ints); below = omega (arith, ints) }) ∙ ap Some none

module _ (s : Spec) (x : List ℤ) (m : ℕ) (u : List ℤ) (e : ℕ) (t : Scratch) where
  pub and_log_gives : Gives (given_for s x m u e) (recipe_of AndLog s) t (cell_of AndLog s x m u e)
  and_log_gives = (done_gives {v = both Sub (both Mul (natural 2) (both Eq mask (natural 3))) (natural 1)}
      (ap (λ (b : Bool). operate Sub (operate Mul (Some (pos 2)) (Some (truth b))) (Some (pos 1))) (same_ints m 3) ∙ by_case (nat_eq m 3))).gives
    where
      by_case : (b : Bool) → operate Sub (operate Mul (Some (pos 2)) (Some (truth b))) (Some (pos 1)) ≡ Some (if b then pos 1 else negsuc 0)
      by_case true = refl
      by_case false = refl

  pub dollar_gives : Gives (given_for s x m u e) (recipe_of Dollar s) t (cell_of Dollar s x m u e)
  dollar_gives = (done_gives {v = state_along} refl).gives

  pub samp_hold_gives : Gives (given_for s x m u e) (recipe_of SampHold s) t (cell_of SampHold s x m u e)
  samp_hold_gives = (done_gives {v = along 0} (ap Some (given_first s x m u e))).gives

  pub register_gives : Gives (given_for s x m u e) (recipe_of Register s) t (cell_of Register s x m u e)
  register_gives = (done_gives {v = state 0} refl).gives

  pub modulo_count_gives : Gives (given_for s x m u e) (recipe_of ModuloCount s) t (cell_of ModuloCount s x m u e)
  modulo_count_gives = (done_gives {v = state 0} refl).gives

  pub gated_delay_gives : s.kind ≡ GatedDelay → Asks GatedDelay s → IsState s x → e < total s.outs
      → Gives (given_for s x m u e) (recipe_of GatedDelay s) t (cell_of GatedDelay s x m u e)
  gated_delay_gives kd a st l =
      let held : InRange (out_type s) (at x e) =
      st.in_range e (subst (λ (k : Kind). e < state_len_of k s) (sym kd) (in_size s a.0.outs_alike a.0.one e l)) in
      let gate_at : at u (before s.ins 1 + 0) ≡ at u (size s) = ap (at u) (omega (arith, (gate s a).1)) in
      (done_gives {v = both Mul (both Gt (input 1 0) (natural 0)) state_along}
      (chosen (int_lt (pos 0) (at u (size s))) (gt_is {y = pos 0} (ap Some gate_at) refl) refl (within_type (out_type s) (at x e) held))).gives

  pub evt_dly_gives : Gives (given_for s x m u e) (recipe_of EvtDly s) t (cell_of EvtDly s x m u e)
  evt_dly_gives = (done_gives {v = natural 0} refl).gives

  pub evt_var_dly_gives : Gives (given_for s x m u e) (recipe_of EvtVarDly s) t (cell_of EvtVarDly s x m u e)
  evt_var_dly_gives = (done_gives {v = natural 0} refl).gives

  pub if_then_else_gives : Gives (given_for s x m u e) (recipe_of IfThEl s) t (cell_of IfThEl s x m u e)
  if_then_else_gives = (done_gives {v = natural 0} refl).gives

  pub event_select_gives : Gives (given_for s x m u e) (recipe_of ESelect s) t (cell_of ESelect s x m u e)
  event_select_gives = (done_gives {v = natural 0} refl).gives

  pub halt_gives : Gives (given_for s x m u e) (recipe_of Halt s) t (cell_of Halt s x m u e)
  halt_gives = (done_gives {v = natural 0} refl).gives

-- ---- what they read

zero_reads : (k : Kind) (s : Spec) (e : ℕ) → Reads (fed_for k s e) 32 (natural 0)
zero_reads k s e = natural_reads (omega arith)

module _ (s : Spec) (e : ℕ) where
  pub and_log_reads : RecipeFits (fed_for AndLog s e) (recipe_of AndLog s)
  and_log_reads = (tt, term.fits)
    where
      term : Reads (fed_for AndLog s e) 32 (both Sub (both Mul (natural 2) (both Eq mask (natural 3))) (natural 1))
      term = both_reads (both_reads (natural_reads (omega arith)) (both_reads (mask_reads refl) (natural_reads (omega arith)))) (natural_reads (omega arith))

  pub dollar_reads : Asks Dollar s → e < total s.outs → RecipeFits (fed_for Dollar s e) (recipe_of Dollar s)
  dollar_reads a l = (tt, in_size s a.0.outs_alike a.0.one e l)

  pub samp_hold_reads : Asks SampHold s → IsFed SampHold s → e < total s.outs → RecipeFits (fed_for SampHold s e) (recipe_of SampHold s)
  samp_hold_reads a f l = (tt, element_read SampHold s (out_type s) a.0.ins_alike f 0 e (omega (arith, a.1)) refl (in_size s a.0.outs_alike a.0.one e l))

  pub register_reads : Asks Register s → RecipeFits (fed_for Register s e) (recipe_of Register s)
  register_reads a = (tt, a.3)

  pub modulo_count_reads : RecipeFits (fed_for ModuloCount s e) (recipe_of ModuloCount s)
  modulo_count_reads = (tt, omega arith)

  pub gated_delay_reads : Asks GatedDelay s → IsFed GatedDelay s → e < total s.outs → RecipeFits (fed_for GatedDelay s e) (recipe_of GatedDelay s)
  gated_delay_reads a f l = (tt, term.fits)
    where
      one : elements (port_at s.ins 1) ≡ 1
      one = omega (arith, two_total s.ins a.1, before_one s.ins (omega (arith, a.1)), a.0.first_size, a.0.total_ins)

      term : Reads (fed_for GatedDelay s e) 32 (both Mul (both Gt (input 1 0) (natural 0)) state_along)
      term = both_reads
          (both_reads (input_reads ((omega (arith, a.1), omega (arith, one)), f 1 (omega (arith, a.1)) refl)) (natural_reads (omega arith)))
          (state_along_reads (in_size s a.0.outs_alike a.0.one e l))

  pub evt_dly_reads : RecipeFits (fed_for EvtDly s e) (recipe_of EvtDly s)
  evt_dly_reads = (tt, (zero_reads EvtDly s e).fits)

  pub evt_var_dly_reads : RecipeFits (fed_for EvtVarDly s e) (recipe_of EvtVarDly s)
  evt_var_dly_reads = (tt, (zero_reads EvtVarDly s e).fits)

  pub if_then_else_reads : RecipeFits (fed_for IfThEl s e) (recipe_of IfThEl s)
  if_then_else_reads = (tt, (zero_reads IfThEl s e).fits)

  pub event_select_reads : RecipeFits (fed_for ESelect s e) (recipe_of ESelect s)
  event_select_reads = (tt, (zero_reads ESelect s e).fits)

  pub halt_reads : RecipeFits (fed_for Halt s e) (recipe_of Halt s)
  halt_reads = (tt, (zero_reads Halt s e).fits)
