-- No conflict stops a run.
use Rattle.std.proofs.Common.{◌≡◌, ℕ, Bool, true, false, ℤ, List, ◌∷◌, [], Option, Some, None, Result, Ok, Err, if◌then◌else◌, refl, sym, ap, ◌∙◌}
use Rattle.sci_base.specs.declared.observation.Obs.{Obs}
use Rattle.sci_base.specs.declared.observation.StopWord.{StopWord}
use Rattle.sci_base.specs.declared.observation.StopWord.TheVariants.{Conflict}
use Rattle.sci_forms.specs.declared.spec.Spec.{Spec}
use Rattle.sci_kinds.specs.Table.{Answer, Values, NoFit, NoQuotient, out}
use Rattle.sci_net.specs.declared.Source.{Source}
use Rattle.sci_net.specs.declared.Source.TheVariants.{Start}
use Rattle.sci_net.specs.Parts.{Parts, spec_of}
use Rattle.sci_forms.specs.Form.{is_sensor}
use Rattle.sci_net.specs.Sources.{source_of}
use Rattle.sci_reaction.specs.Memory.{Memory, Columns, next_value}
use Rattle.sci_reaction.specs.Equations.{Signals, input_in, all_inputs, values_or_word, sensed, answer, Gives}
use Rattle.sci_reaction.specs.Result.{Stopped, IsResult}
use Rattle.sci_run.specs.Run.{State, first_state}
use Rattle.sci_run.specs.Finish.{ByStop, Finish, stopped, stopped_at_start}

is_conflict : Result (List ℤ) StopWord → Bool
is_conflict (Ok vs) = false
is_conflict (Err Conflict) = true
is_conflict (Err _) = false

values_free : (a : Answer) → is_conflict (values_or_word a) ≡ false
unfolding is_conflict
values_free (Values vs) = refl
values_free NoFit = refl
values_free NoQuotient = refl

sensed_free : (s : Spec) (x : List ℤ) (mask : ℕ) (v : Option ℤ) → is_conflict (sensed s x mask v) ≡ false
unfolding is_conflict
sensed_free s x mask None = refl
sensed_free s x mask (Some v) = values_free (out s x mask (v ∷ []))

either_free : (t : Bool) (p q : Result (List ℤ) StopWord) → is_conflict p ≡ false → is_conflict q ≡ false → is_conflict (if t then p else q) ≡ false
either_free true p q h g = h
either_free false p q h g = g

answer_free : (n : Parts) (m : Memory) (i : Columns) (b mask : ℕ) (inputs : ℕ → List ℤ) → is_conflict (answer n m i b mask inputs) ≡ false
unfolding answer
answer_free n m i b mask inputs =
    let s : Spec = spec_of n b in
    either_free (is_sensor s.kind) _ _ (sensed_free s (m.state b) mask (next_value i s (m.cursor b))) (values_free (out s (m.state b) mask (all_inputs s inputs)))

conflicts : is_conflict (Err Conflict) ≡ true
unfolding is_conflict
conflicts = refl

gives_none : (n : Parts) (m : Memory) (i : Columns) (s : Source) (y : Signals) (b : ℕ) → Gives n m i s y b (Err Conflict) → ⊥
gives_none n m i s y b h =
    let on = ap is_conflict h.answer_is ∙ conflicts in
    let off = answer_free n m i b h.mask (input_in n y b) in
    let both : true ≡ false = sym on ∙ off in cc

result_none : (n : Parts) (m : Memory) (i : Columns) (s : Source) (b : ℕ) → IsResult n m i s (Stopped b Conflict) → ⊥
result_none n m i s b h = gives_none n m i s h.0 b h.2

pub never : (n : Parts) (i : Columns) (until limit : ℕ) {st : State} {block : ℕ} {os : List Obs} → Finish n i until limit st (ByStop block Conflict) os → ⊥
never n i until limit (stopped st e block word seen stands fires h) = result_none n st.memory i (source_of n e.source) block h
never n i until limit (stopped_at_start block word h) = result_none n (first_state n).memory i Start block h
