-- A run is over in one way.
use Rattle.std.proofs.Common.{◌≡◌, ℕ, pos, List, [], ◌∷◌, ◌++◌, refl, sym, ap, ◌∙◌, append_assoc, arith}
use Rattle.sci_base.specs.declared.observation.Obs.{Obs}
use Rattle.sci_base.specs.declared.observation.Obs.TheVariants.{End, Stop}
use Rattle.sci_base.specs.declared.observation.EndWord.TheVariants.{Halt}
use Rattle.sci_base.specs.declared.observation.StopWord.{StopWord}
use Rattle.sci_net.specs.declared.Source.{Source}
use Rattle.sci_net.specs.declared.Source.TheVariants.{Start}
use Rattle.sci_net.specs.Parts.{Parts}
use Rattle.sci_net.specs.Net.{IsNet}
use Rattle.sci_net.specs.Sources.{source_of}
use Rattle.sci_reaction.specs.Memory.{Columns}
use Rattle.sci_run.specs.Observed.{header, stop_seen, reactions}
use Rattle.sci_run.specs.Run.{State, first_state}
use Rattle.sci_run.specs.Finish.{Ending, ByEnd, ByStop, Finish, ended, stopped, stopped_at_start}
use Rattle.sci_run.specs.Alike.{AreAlike}
use Rattle.sci_run.specs.Laws.{AreLoopFree}
use Rattle.sci_run.proofs.Reactions.{reactions_joined, stop_counted, counted}
use Rattle.sci_run.proofs.Finish.{trace_of}
use Rattle.sci_run.proofs.Unique.{one_trace, one_state, itself}

-- what is observed last tells how a run is over
last_of : Ending → Obs
last_of (ByEnd word) = End word
last_of (ByStop block word) = Stop word (pos block) (pos 0)

last_tells : (how way : Ending) → last_of how ≡ last_of way → how ≡ way
unfolding last_of
last_tells (ByEnd word) (ByEnd other) h = let same : word ≡ other = cc in ap (λ w. ByEnd w) same
last_tells (ByEnd word) (ByStop block other) h = absurd (cc)
last_tells (ByStop block word) (ByEnd other) h = absurd (cc)
last_tells (ByStop block word) (ByStop c other) h =
    let same : word ≡ other = cc in
    let numbers : pos block ≡ pos c = cc in
    let blocks : block ≡ c = cc in
    ap (λ w. ByStop block w) same ∙ ap (λ b. ByStop b other) blocks

-- the last of a list
last_or : Obs → List Obs → Obs
last_or o [] = o
last_or o (x ∷ xs) = last_or x xs

last_or-joined : (o x : Obs) (xs : List Obs) → last_or o (xs ++ x ∷ []) ≡ x
unfolding last_or
last_or-joined o x [] = refl
last_or-joined o x (y ∷ ys) = last_or-joined y x ys

last_or-stop : (o : Obs) (seen : List Obs) (date : ℕ) (s : Source) (b : ℕ) (word : StopWord) → last_or o (seen ++ stop_seen date s b word) ≡ Stop word (pos b) (pos 0)
last_or-stop o seen date s b word =
    ap (last_or o) (sym (append_assoc seen (header date s ∷ []) (Stop word (pos b) (pos 0) ∷ []))) ∙ last_or-joined o _ (seen ++ header date s ∷ [])

module _ (n : Parts) (i : Columns) (until limit : ℕ) where
  finish_last : (o : Obs) {st : State} {how : Ending} {os : List Obs} → Finish n i until limit st how os → last_or o os ≡ last_of how
  unfolding last_of
  finish_last o (ended st word seen stands is) = last_or-joined o (End word) seen
  finish_last o (stopped st e block word seen stands fires h) = last_or-stop o seen e.date (source_of n e.source) block word
  finish_last o (stopped_at_start block word h) = last_or-stop o [] 0 Start block word

  -- as many reactions are behind one another, and so as many events have fired
  pub one_last : (net : IsNet n) (free : AreLoopFree n) {st other : State} {how way : Ending} {os others : List Obs}
      → Finish n i until limit st how os → Finish n i until limit other way others → os ≡ others → how ≡ way → AreAlike n st other
  one_last net free (ended st word seen stands is) (ended st' word' seen' stands' is') same way =
      let a = counted n i until limit st seen stands in
      let b = counted n i until limit st' seen' stands' in
      let p = reactions_joined seen (End word ∷ []) in
      let q = reactions_joined seen' (End word' ∷ []) in
      let r = ap reactions same in
      (one_state n i net free until limit st st' seen seen' stands stands' (omega (arith, a, b, p, q, r))).1
  one_last net free (ended st word seen stands is) (stopped st' e' block' word' seen' stands' fires' h') same way = absurd (cc)
  one_last net free (ended st word seen stands is) (stopped_at_start block' word' h') same way = absurd (cc)
  one_last net free (stopped st e block word seen stands fires h) (ended st' word' seen' stands' is') same way = absurd (cc)
  one_last net free (stopped st e block word seen stands fires h) (stopped st' e' block' word' seen' stands' fires' h') same way =
      let a = counted n i until limit st seen stands in
      let b = counted n i until limit st' seen' stands' in
      let p = reactions_joined seen (stop_seen e.date (source_of n e.source) block word) in
      let q = reactions_joined seen' (stop_seen e'.date (source_of n e'.source) block' word') in
      let u = stop_counted e.date (source_of n e.source) block word in
      let v = stop_counted e'.date (source_of n e'.source) block' word' in
      let r = ap reactions same in
      (one_state n i net free until limit st st' seen seen' stands stands' (omega (arith, a, b, p, q, u, v, r))).1
  one_last net free (stopped st e block word seen stands fires h) (stopped_at_start block' word' h') same way =
      let a = counted n i until limit st seen stands in
      let p = reactions_joined seen (stop_seen e.date (source_of n e.source) block word) in
      let u = stop_counted e.date (source_of n e.source) block word in
      let v = stop_counted 0 Start block' word' in
      let r = ap reactions same in
      absurd (omega (arith, a, p, u, v, r))
  one_last net free (stopped_at_start block word h) (ended st' word' seen' stands' is') same way = absurd (cc)
  one_last net free (stopped_at_start block word h) (stopped st' e' block' word' seen' stands' fires' h') same way =
      let b = counted n i until limit st' seen' stands' in
      let q = reactions_joined seen' (stop_seen e'.date (source_of n e'.source) block' word') in
      let u = stop_counted 0 Start block word in
      let v = stop_counted e'.date (source_of n e'.source) block' word' in
      let r = ap reactions same in
      absurd (omega (arith, b, q, u, v, r))
  one_last net free (stopped_at_start block word h) (stopped_at_start block' word' h') same way = itself n i net free until (first_state n)

pub one_finish : (n : Parts) (i : Columns) (net : IsNet n) (free : AreLoopFree n) (until limit : ℕ) {st other : State} {how way : Ending} {os others : List Obs}
    → Finish n i until limit st how os → Finish n i until limit other way others → (os ≡ others) × (how ≡ way) × AreAlike n st other
one_finish n i net free until limit {how = how} {way = way} {os = os} {others = others} f g =
    let same : os ≡ others = one_trace n i net free until limit os others (trace_of n i until limit f) (trace_of n i until limit g) in
    let one : how ≡ way = last_tells how way (sym (finish_last n i until limit (End Halt) f) ∙ (ap (last_or (End Halt)) same ∙ finish_last n i until limit (End Halt) g)) in
    (same, one, one_last n i until limit net free f g same one)
