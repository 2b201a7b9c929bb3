-- A run has one dump.
use Rattle.std.proofs.Common.{◌≡◌, ◌≤◌, ◌+◌, ◌-◌, ℕ, ℤ, suc, true, false, List, [], ◌∷◌, ◌++◌, take, get_or, length, inl, inr, refl, sym, ap, ◌∙◌, subst, arith, append_assoc}
use Rattle.std.specs.Prelude.{nat_le, if◌then◌else◌}
use Rattle.std.proofs.lemmas.Bool.{cases_lt}
use Rattle.std.proofs.lemmas.List.{length-append}
use Rattle.std.proofs.Math.Seq.{take-append_seam, get_or-append_seam}
use Rattle.sci_base.specs.declared.observation.Obs.{Obs}
use Rattle.sci_base.specs.declared.observation.StopWord.{StopWord}
use Rattle.sci_base.specs.Lists.{at}
use Rattle.sci_forms.specs.declared.spec.Spec.{Spec}
use Rattle.sci_forms.specs.Ports.{total}
use Rattle.sci_net.specs.declared.Source.{Source}
use Rattle.sci_net.specs.declared.Source.TheVariants.{Start}
use Rattle.sci_net.specs.Parts.{Parts, IsBlock, no_spec, spec_of}
use Rattle.sci_net.specs.Net.{IsNet, all_elements}
use Rattle.sci_net.specs.Sources.{source_of}
use Rattle.sci_reaction.specs.Memory.{Memory, Columns, first_memory}
use Rattle.sci_run.specs.Observed.{stop_seen, reactions}
use Rattle.sci_run.specs.Run.{State, Reachable, here, reacted}
use Rattle.sci_run.specs.Finish.{ByEnd, ByStop, ended, stopped, stopped_at_start}
use Rattle.sci_run.specs.Alike.{AreAlike}
use Rattle.sci_run.specs.Laws.{AreLoopFree}
use Rattle.sci_run.proofs.Reactions.{reactions_joined, stop_counted, counted}
use Rattle.sci_run.proofs.Unique.{one_state}
use Rattle.sci_run.proofs.OneFinish.{one_finish}
use Rattle.sci_vcd.specs.Waveforms.{Waveforms, value_at}
use Rattle.sci_vcd.specs.Signals.{number_of}
use Rattle.sci_vcd.proofs.OfNet.{block_signals_length}
use Rattle.sci_wave.specs.History as history
use Rattle.sci_wave.specs.History.{IsHistory, IsWholeHistory, memory_at}
use Rattle.sci_wave.specs.RunDump.{IsDumpOf}
use Rattle.sci_wave.specs.Laws.{OneRunDump}
use Rattle.sci_wave.proofs.OneWaveform.{one_waveform}

memory_push : (m : Memory) (states : List State) (st : State) (t : ℕ) → memory_at m (states ++ st ∷ []) t ≡ (if nat_le st.now t then st.memory else memory_at m states t)
memory_push m [] st t = refl
memory_push m (x ∷ states) st t = memory_push (if nat_le x.now t then x.memory else m) states st t

-- the same is held at the blocks of the net
abbrev pub AreHeldAlike : Parts → Memory → Memory → Type 0
AreHeldAlike n m other = (b : ℕ) → IsBlock n b → m.held b ≡ other.held b

held_either : (n : Parts) (t : ℕ) (x y : State) (m other : Memory) → AreAlike n x y → AreHeldAlike n m other → AreHeldAlike n (if nat_le x.now t then x.memory else m) (if nat_le y.now t then y.memory else other)
held_either n t x y m other same before =
    subst (λ (k : ℕ). AreHeldAlike n (if nat_le x.now t then x.memory else m) (if nat_le k t then y.memory else other)) same.now
    (λ b block. elim (nat_le x.now t) as (λ q. (if q then x.memory else m).held b ≡ (if q then y.memory else other).held b) [ true ↦ same.memory.held b block | false ↦ before b block ])

module _ (n : Parts) (i : Columns) (until limit : ℕ) where
  -- the last state of a history is reachable
  reached : {states : List State} {st : State} → IsHistory n i until limit states st → (seen : List Obs) × Reachable n i until limit st seen
  reached (history.start st seen reacts) = (seen ++ [], record { first = st; at_start = seen; later = []; started = reacts; reaches = here; observed = refl })
  reached (history.event before st after e more behind fires reacts) =
      let r = (reached behind).1 in (
        r.at_start ++ (r.later ++ more),
        record { first = r.first; at_start = r.at_start; later = r.later ++ more; started = r.started; reaches = reacted st after e r.later more r.reaches fires reacts; observed = refl },
      )

  module _ (net : IsNet n) (free : AreLoopFree n) where
    alike : {xs ys : List State} {x y : State} → IsHistory n i until limit xs x → IsHistory n i until limit ys y → x.fired ≡ y.fired → AreAlike n x y
    alike {x = x} {y = y} h g fired =
        let r = reached h in
        let q = reached g in
        (one_state n i net free until limit x y r.0 q.0 r.1 q.1 fired).1

    -- histories of as many reactions hold the same at each tick
    same_history : {xs ys : List State} {x y : State} → IsHistory n i until limit xs x → IsHistory n i until limit ys y → x.fired ≡ y.fired → (t : ℕ) → AreHeldAlike n (memory_at (first_memory n) xs t) (memory_at (first_memory n) ys t)
    same_history (history.start x seen reacts) (history.start y more reacts') fired t =
        held_either n t x y (first_memory n) (first_memory n) (alike (history.start x seen reacts) (history.start y more reacts') fired) (λ b block. refl)
    same_history (history.start x seen reacts) (history.event ys st y e more behind fires reacts') fired t =
        let none : x.fired ≡ 0 = ap (λ (a : State). a.fired) reacts.leads in
        let some : y.fired ≡ st.fired + 1 = ap (λ (a : State). a.fired) reacts'.leads in
        absurd (omega (arith, none, some, fired))
    same_history (history.event xs st x e more behind fires reacts) (history.start y seen reacts') fired t =
        let some : x.fired ≡ st.fired + 1 = ap (λ (a : State). a.fired) reacts.leads in
        let none : y.fired ≡ 0 = ap (λ (a : State). a.fired) reacts'.leads in
        absurd (omega (arith, none, some, fired))
    same_history (history.event xs st x e more behind fires reacts) (history.event ys st' y e' more' behind' fires' reacts') fired t =
        let ours : x.fired ≡ st.fired + 1 = ap (λ (a : State). a.fired) reacts.leads in
        let theirs : y.fired ≡ st'.fired + 1 = ap (λ (a : State). a.fired) reacts'.leads in
        let before = same_history behind behind' (omega (arith, ours, theirs, fired)) t in
        let one = alike (history.event xs st x e more behind fires reacts) (history.event ys st' y e' more' behind' fires' reacts') fired in
        let both = held_either n t x y (memory_at (first_memory n) xs t) (memory_at (first_memory n) ys t) one before in
        subst (λ (m : Memory). AreHeldAlike n m (memory_at (first_memory n) (ys ++ y ∷ []) t)) (sym (memory_push (first_memory n) xs x t))
        (subst (λ (m : Memory). AreHeldAlike n (if nat_le x.now t then x.memory else memory_at (first_memory n) xs t) m) (sym (memory_push (first_memory n) ys y t)) both)

    -- a stop behind some reaction is none at start
    no_start : (st : State) (date : ℕ) (s : Source) (block other : ℕ) (word way : StopWord) (seen : List Obs) → Reachable n i until limit st seen → seen ++ stop_seen date s block word ≡ stop_seen 0 Start other way → ⊥
    no_start st date s block other word way seen stands same =
        let a = counted n i until limit st seen stands in
        let p = reactions_joined seen (stop_seen date s block word) in
        let u = stop_counted date s block word in
        let v = stop_counted 0 Start other way in
        let r = ap reactions same in
        omega (arith, a, p, u, v, r)

    -- and so do those of a whole run
    pub same_whole : {xs ys : List State} → IsWholeHistory n i until limit xs → IsWholeHistory n i until limit ys → (t : ℕ) → AreHeldAlike n (memory_at (first_memory n) xs t) (memory_at (first_memory n) ys t)
    same_whole (history.ended xs x word h over) (history.ended ys y way g over') t =
        let r = reached h in
        let q = reached g in
        same_history h g (one_finish n i net free until limit (ended x word r.0 r.1 over) (ended y way q.0 q.1 over')).2.fired t
    same_whole (history.ended xs x word h over) (history.stopped ys y e block way g fires result) t =
        let r = reached h in
        let q = reached g in
        let one : ByEnd word ≡ ByStop block way = (one_finish n i net free until limit (ended x word r.0 r.1 over) (stopped y e block way q.0 q.1 fires result)).1 in
        absurd (cc one)
    same_whole (history.ended xs x word h over) (history.stopped_at_start block way result) t =
        let r = reached h in
        let one : ByEnd word ≡ ByStop block way = (one_finish n i net free until limit (ended x word r.0 r.1 over) (stopped_at_start block way result)).1 in
        absurd (cc one)
    same_whole (history.stopped xs x e block word h fires result) (history.ended ys y way g over) t =
        let r = reached h in
        let q = reached g in
        let one : ByStop block word ≡ ByEnd way = (one_finish n i net free until limit (stopped x e block word r.0 r.1 fires result) (ended y way q.0 q.1 over)).1 in
        absurd (cc one)
    same_whole (history.stopped xs x e block word h fires result) (history.stopped ys y e' other way g fires' result') t =
        let r = reached h in
        let q = reached g in
        same_history h g (one_finish n i net free until limit (stopped x e block word r.0 r.1 fires result) (stopped y e' other way q.0 q.1 fires' result')).2.fired t
    same_whole (history.stopped xs x e block word h fires result) (history.stopped_at_start other way result') t =
        let r = reached h in
        let one = (one_finish n i net free until limit (stopped x e block word r.0 r.1 fires result) (stopped_at_start other way result')).0 in
        absurd (no_start x e.date (source_of n e.source) block other word way r.0 r.1 one)
    same_whole (history.stopped_at_start block word result) (history.ended ys y way g over) t =
        let q = reached g in
        let one : ByStop block word ≡ ByEnd way = (one_finish n i net free until limit (stopped_at_start block word result) (ended y way q.0 q.1 over)).1 in
        absurd (cc one)
    same_whole (history.stopped_at_start block word result) (history.stopped ys y e other way g fires result') t =
        let q = reached g in
        let one = (one_finish n i net free until limit (stopped_at_start block word result) (stopped y e other way q.0 q.1 fires result')).0 in
        absurd (no_start y e.date (source_of n e.source) other block way word q.0 q.1 (sym one))
    same_whole (history.stopped_at_start block word result) (history.stopped_at_start other way result') t = λ b there. refl

-- ---- each signal is an element of an output

record IsElement (n : Parts) (k : ℕ) : Type 0 where
  block : ℕ
  element : ℕ
  there : IsBlock n block
  least : 1 ≤ element
  most : element ≤ total (spec_of n block).outs
  number : k ≡ number_of n block element

pub one_more : (ss : List Spec) (s : Spec) → all_elements (ss ++ s ∷ []) ≡ all_elements ss + total s.outs
one_more [] s = omega arith
one_more (x ∷ ss) s = let rest = one_more ss s in omega (arith, rest)

element_of : (n : Parts) (before : List Spec) (s : Spec) (ss : List Spec) (k : ℕ) → n.specs ≡ before ++ s ∷ ss → 1 ≤ k → k ≤ total s.outs → IsElement n (all_elements before + k)
element_of n before s ss k is least most =
    let spec : spec_of n (suc (length before)) ≡ s = ap (λ (l : List Spec). get_or l (length before) no_spec) is ∙ get_or-append_seam before s ss no_spec in
    let place : suc (length before) - 1 ≡ length before = omega arith in
    let front : take (suc (length before) - 1) n.specs ≡ before = ap (λ (j : ℕ). take j n.specs) place ∙ (ap (take (length before)) is ∙ take-append_seam before (s ∷ ss)) in
    let all = length-append before (s ∷ ss) in
    let size : total (spec_of n (suc (length before))).outs ≡ total s.outs = ap (λ (x : Spec). total x.outs) spec in
    record {
      block = suc (length before);
      element = k;
      there = record { least = omega arith; most = omega (arith, all, ap length is) };
      least = least;
      most = omega (arith, most, size);
      number = ap (λ (l : List Spec). all_elements l + k) (sym front);
    }

elements_behind : (n : Parts) (before ss : List Spec) (k : ℕ) → n.specs ≡ before ++ ss → 1 ≤ k → k ≤ all_elements ss → IsElement n (all_elements before + k)
elements_behind n before [] k is least most = absurd (omega (arith, least, most))
elements_behind n before (s ∷ ss) k is least most =
    elim (cases_lt (total s.outs) k) [
      | inl beyond ↦
          let more = one_more before s in
          let rest = elements_behind n (before ++ s ∷ []) ss (k - total s.outs) (is ∙ sym (append_assoc before (s ∷ []) ss)) (omega (arith, beyond)) (omega (arith, most, beyond)) in
          let same : all_elements (before ++ s ∷ []) + (k - total s.outs) ≡ all_elements before + k = omega (arith, more, beyond) in
          subst (λ (j : ℕ). IsElement n j) same rest
      | inr within ↦ element_of n before s ss k is least within
    ]

same_values : (n : Parts) (xs ys : List State) (v w : Waveforms) → ((t : ℕ) → AreHeldAlike n (memory_at (first_memory n) xs t) (memory_at (first_memory n) ys t)) → IsDumpOf n xs v → IsDumpOf n ys w
    → (k t : ℕ) → 1 ≤ k → k ≤ length v.signals → value_at v k t ≡ value_at w k t
same_values n xs ys v w held a b k t least most =
    let count = ap length a.signals in
    let all = block_signals_length 1 n.specs in
    let e = elements_behind n [] n.specs k refl least (omega (arith, most, count, all)) in
    let number : k ≡ number_of n e.block e.element = omega (arith, e.number) in
    ap (λ (j : ℕ). value_at v j t) number
    ∙ (a.values t e.block e.element e.there e.least e.most
    ∙ (ap (λ (vs : List ℤ). at vs (e.element - 1)) (held t e.block e.there)
    ∙ (sym (b.values t e.block e.element e.there e.least e.most) ∙ ap (λ (j : ℕ). value_at w j t) (sym number))))

pub one_run_dump : OneRunDump
one_run_dump n i until limit v w net free a b =
    one_waveform v w a.2.dump b.2.dump (a.2.signals ∙ sym b.2.signals) (same_values n a.0 b.0 v w (same_whole n i until limit net free a.1 b.1) a.2 b.2)
