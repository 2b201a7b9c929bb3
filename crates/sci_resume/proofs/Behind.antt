-- What is saved behind a reaction of a run is one thing, and the run goes on from it.
use Rattle.std.proofs.Common.{◌≡◌, ℕ, zero, suc, ◌+◌, ◌-◌, ◌≤◌, Bool, true, false, if◌then◌else◌, ℤ, List, [], ◌∷◌, ◌++◌, length, refl, sym, ap, subst, ◌∙◌, arith}
use Rattle.std.proofs.lemmas.List.{ext_get_or}
use Rattle.sci_base.specs.declared.observation.Obs.{Obs}
use Rattle.sci_base.specs.declared.observation.Obs.TheVariants.{End}
use Rattle.sci_base.specs.declared.observation.EndWord.{EndWord}
use Rattle.sci_forms.specs.declared.spec.Spec.{Spec}
use Rattle.sci_net.specs.declared.Source.{Source}
use Rattle.sci_net.specs.declared.Source.TheVariants.{Start, Port}
use Rattle.sci_net.specs.Parts.{Parts, IsBlock, numbered}
use Rattle.sci_net.specs.Net.{IsNet}
use Rattle.sci_net.specs.Sources.{source_of}
use Rattle.sci_reaction.specs.Memory.{Columns}
use Rattle.sci_pending.specs.Pending.{Event, Pending}
use Rattle.sci_pending.specs.Order.{in_order}
use Rattle.sci_run.specs.Alike.{AreAlike}
use Rattle.sci_run.specs.Finish.{ByEnd, ended}
use Rattle.sci_run.specs.Laws.{AreLoopFree}
use Rattle.sci_run.specs.Observed.{header, is_header, reactions}
use Rattle.sci_run.specs.Run.{State, taken, ReactionOutcome, Leads, StopsWith, IsOutcome, Decision, Over, Fires, comes_next, Then, EndsOr, Observes, IsRunFrom, IsRest}
use Rattle.sci_run.proofs.Reactions.{reactions_joined, counted}
use Rattle.sci_run.proofs.Unique.{one_trace, one_state}
use Rattle.sci_run.proofs.Finish.{run_is_over}
use Rattle.sci_save.specs.declared.bounds.Bounds.{Bounds}
use Rattle.sci_save.specs.Bounds.{AreByBlock}
use Rattle.sci_save.specs.Saved.{Saved}
use Rattle.sci_save.specs.Valid.{AreCursors, IsValid}
use Rattle.sci_save.specs.Resumed.{IsSavedOf, state_of}
use Rattle.sci_save.proofs.Reached.{reached_is_saved}
use Rattle.sci_save.proofs.Resumed.{resumed_goes_on}
use Rattle.sci_resume.specs.Behind.{IsSavedBehind}
use Rattle.sci_resume.specs.Laws.{OneSaved, OneEnd, NotBoth, SavedIsValid, AreParted, RunGoesOn}

-- ---- one thing is saved of a state

rows_length : (bounds : Spec → List Bounds) (ss : List Spec) (rows : List (List ℤ)) → AreByBlock bounds ss rows → length rows ≡ length ss
rows_length bounds [] [] h = refl
rows_length bounds (s ∷ ss) (vs ∷ rows) h = ap suc (rows_length bounds ss rows h.1)
rows_length bounds [] (vs ∷ rows) h = absurd h
rows_length bounds (s ∷ ss) [] h = absurd h

cursors_length : (ss : List Spec) (cs : List ℕ) → AreCursors ss cs → length cs ≡ length ss
cursors_length [] [] h = refl
cursors_length (s ∷ ss) (c ∷ cs) h = ap suc (cursors_length ss cs h.1)
cursors_length [] (c ∷ cs) h = absurd h
cursors_length (s ∷ ss) [] h = absurd h

-- lists with an entry for each block, which are the same at each block
same_lists : {A : Type 0} (n : Parts) (d : A) (xs ys : List A) → length xs ≡ length n.specs → length ys ≡ length n.specs
    → ((b : ℕ) → IsBlock n b → numbered d xs b ≡ numbered d ys b) → xs ≡ ys
same_lists n d xs ys hx hy same = ext_get_or d xs ys (hx ∙ sym hy) (λ k l. same (suc k) (record { least = omega arith; most = omega (arith, l, hx) }))

same_saved : (n : Parts) (m o : Saved) (st other : State) → IsSavedOf n st m → IsSavedOf n other o → AreAlike n st other → m ≡ o
same_saved n m o st other s t a =
    let fired : m.fired ≡ o.fired = s.fired ∙ (a.fired ∙ sym t.fired) in
    let now : m.now ≡ o.now = s.now ∙ (a.now ∙ sym t.now) in
    let states : m.states ≡ o.states = same_lists n [] m.states o.states (rows_length _ n.specs m.states s.shaped.states) (rows_length _ n.specs o.states t.shaped.states)
    (λ b h. s.memory.state b h ∙ (a.memory.state b h ∙ sym (t.memory.state b h))) in
    let held : m.held ≡ o.held = same_lists n [] m.held o.held (rows_length _ n.specs m.held s.shaped.held) (rows_length _ n.specs o.held t.shaped.held)
    (λ b h. s.memory.held b h ∙ (a.memory.held b h ∙ sym (t.memory.held b h))) in
    let cursors : m.cursors ≡ o.cursors = same_lists n 0 m.cursors o.cursors (cursors_length n.specs m.cursors s.shaped.cursors) (cursors_length n.specs o.cursors t.shaped.cursors)
    (λ b h. s.memory.cursor b h ∙ (a.memory.cursor b h ∙ sym (t.memory.cursor b h))) in
    let pending : m.pending ≡ o.pending = s.pending ∙ (ap (λ (p : Pending). in_order p.events) a.pending ∙ sym t.pending) in
    λ j. record { fired = fired j; now = now j; states = states j; held = held j; cursors = cursors j; pending = pending j }

itself : (n : Parts) (st : State) → AreAlike n st st
itself n st = record {
  memory = record { state = λ b h. refl; held = λ b h. refl; cursor = λ b h. refl };
  pending = refl;
  now = refl;
  fired = refl;
  active = λ b h. refl;
  activations = λ b h. refl;
}

pub one_saved : OneSaved
one_saved n i until limit k m o net free h g =
    let one = counted n i until limit h.state h.seen h.reachable in
    let other = counted n i until limit g.state g.seen g.reachable in
    let fired : h.state.fired ≡ g.state.fired = omega (arith, one, other, h.counted, g.counted) in
    same_saved n m o h.state g.state h.saved g.saved (one_state n i net free until limit h.state g.state h.seen g.seen h.reachable g.reachable fired).1

pub saved_is_valid : SavedIsValid
saved_is_valid n i until limit k m net free columns early few h =
    let reached = reached_is_saved n i until limit h.state h.seen net free columns early few h.reachable in
    subst (IsValid n i) (same_saved n reached.0 m h.state h.state reached.1 h.saved (itself n h.state)) reached.2

-- ---- a run has one number of reactions

pub one_end : OneEnd
one_end n i until limit k j l net free h g =
    h.counted ∙ (ap reactions (one_trace n i net free until limit h.observed g.observed h.run g.run) ∙ sym g.counted)

pub not_both : NotBoth
not_both n i until limit k count m net free h g =
    let same : reactions h.observed ≡ reactions g.observed = ap reactions (one_trace n i net free until limit h.observed g.observed h.run g.run) in
    omega (arith, same, h.more, g.few)

-- ---- what is observed of a run that goes on begins with its end, or with a header

pub record IsHeaded (os : List Obs) : Type 0 where
  pub header_of : Obs
  pub later : List Obs
  pub begins : os ≡ header_of ∷ later
  pub is_one : is_header header_of ≡ true

pub data Begins (os : List Obs) : Type 0 where
  over : (word : EndWord) → os ≡ End word ∷ [] → Begins os
  headed : IsHeaded os → Begins os

header_is_one : (date : ℕ) (s : Source) → is_header (header date s) ≡ true
header_is_one date Start = refl
header_is_one date (Port q) = refl

outcome_headed : (n : Parts) (i : Columns) (date : ℕ) (s : Source) (st : State) (rest : State → List Obs → Type 0) (os : List Obs) (o : ReactionOutcome) → IsOutcome n i date s st o → Then o rest os → IsHeaded os
outcome_headed n i date s st rest os (Leads seen after) is h =
    let begins = h.1 ∙ ap (λ (l : List Obs). l ++ h.0) is.observed in
    record { header_of = header date s; later = _; begins = begins; is_one = header_is_one date s }
outcome_headed n i date s st rest os (StopsWith seen) is h = record { header_of = header date s; later = _; begins = h ∙ is.observed; is_one = header_is_one date s }

ends_or_headed : (d : Decision) (os : List Obs) (F : Event → Type 0) → EndsOr d os F → ((e : Event) → F e → IsHeaded os) → Begins os
ends_or_headed (Over word) os F is fires = over word is
ends_or_headed (Fires e) os F is fires = headed (fires e is)

pub rest_begins : (n : Parts) (i : Columns) (until left : ℕ) (st : State) (os : List Obs) → IsRunFrom n i until left st os → Begins os
unfolding IsRunFrom
rest_begins n i until zero st os h = ends_or_headed (comes_next n until 0 st) os (λ e. ⊥) h (λ e none. absurd none)
rest_begins n i until (suc left) st os h =
    ends_or_headed (comes_next n until (suc left) st) os (λ e. Observes n i e.date (source_of n e.source) (taken st e) (IsRunFrom n i until left) os) h
    (λ e o. outcome_headed n i e.date (source_of n e.source) (taken st e) (IsRunFrom n i until left) os o.outcome o.is o.goes_on)

-- where an event fires
pub fires_headed : (n : Parts) (i : Columns) (until left : ℕ) (st : State) (os : List Obs) (e : Event) → IsRunFrom n i until left st os → comes_next n until left st ≡ Fires e → IsHeaded os
unfolding IsRunFrom
fires_headed n i until zero st os e h fires = let none : ⊥ = subst (λ (d : Decision). EndsOr d os (λ x. ⊥)) fires h in absurd none
fires_headed n i until (suc left) st os e h fires =
    let o = subst (λ (d : Decision). EndsOr d os (λ x. Observes n i x.date (source_of n x.source) (taken st x) (IsRunFrom n i until left) os)) fires h in
    outcome_headed n i e.date (source_of n e.source) (taken st e) (IsRunFrom n i until left) os o.outcome o.is o.goes_on

some_reaction : (t : Bool) (m : ℕ) → t ≡ true → 1 ≤ (if t then m + 1 else m)
some_reaction true m is = omega arith
some_reaction false m is = absurd (cc is)

pub headed_counts : (os : List Obs) → IsHeaded os → 1 ≤ reactions os
headed_counts os h = subst (λ (l : List Obs). 1 ≤ reactions l) (sym h.begins) (some_reaction (is_header h.header_of) (reactions h.later) h.is_one)

headed_of : (os : List Obs) → 1 ≤ reactions os → Begins os → IsHeaded os
headed_of os some (over word is) = let none : reactions os ≡ 0 = ap reactions is in absurd (omega (arith, none, some))
headed_of os some (headed h) = h

-- ---- the run goes on from what is saved

-- an event fires behind a reaction that isn't the last
fires_behind : (n : Parts) (i : Columns) (until limit k : ℕ) (m : Saved) (d : Decision) → IsNet n → AreLoopFree n → (h : IsSavedBehind n i until limit k m)
    → comes_next n until (limit - h.state.fired) h.state ≡ d → (e : Event) × (comes_next n until (limit - h.state.fired) h.state ≡ Fires e)
fires_behind n i until limit k m (Fires e) net free h is = (e, is)
fires_behind n i until limit k m (Over word) net free h is =
    let os = h.seen ++ End word ∷ [] in
    let run = (run_is_over n i until limit os).1 (h.state, ByEnd word, ended h.state word h.seen h.reachable is) in
    let same : reactions h.observed ≡ reactions os = ap reactions (one_trace n i net free until limit h.observed os h.run run) in
    let joined = reactions_joined h.seen (End word ∷ []) in
    absurd (omega (arith, same, joined, h.more, h.counted))

parted_at : (n : Parts) (i : Columns) (until limit k : ℕ) (front rest : List Obs) (m : Saved) → reactions front ≡ k → IsRest n i until limit (state_of m) rest → 1 ≤ reactions rest → AreParted k front rest
parted_at n i until limit k front rest m is h some =
    let first = headed_of rest some (rest_begins n i until (limit - m.fired) (state_of m) rest h) in
    record { counted = is; header = first.header_of; later = first.later; next = first.begins; is_one = first.is_one }

pub run_goes_on : RunGoesOn
run_goes_on n i until limit k m rest net free h goes =
    let fires = fires_behind n i until limit k m (comes_next n until (limit - h.state.fired) h.state) net free h refl in
    let run = resumed_goes_on n i until limit h.state fires.0 h.seen rest m net h.reachable fires.1 h.saved goes in
    let same : reactions h.observed ≡ reactions (h.seen ++ rest) = ap reactions (one_trace n i net free until limit h.observed (h.seen ++ rest) h.run run) in
    let joined = reactions_joined h.seen rest in
    (h.seen, run, parted_at n i until limit k h.seen rest m h.counted goes (omega (arith, same, joined, h.more, h.counted)))
