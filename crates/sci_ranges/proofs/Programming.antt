-- What is pending is of live sources.
use Rattle.std.proofs.Common.{◌≡◌, ℕ, zero, suc, ◌+◌, ◌==◌, not, Bool, ℤ, pos, negsuc, ◌≤ℤ◌, List, [], ◌∷◌, filter, slice_index_or, Contains, Some, refl, ap, subst, ◌∙◌, arith}
use Rattle.std.proofs.lemmas.Int.{ints}
use Rattle.sci_net.specs.declared.Feed.{Feed}
use Rattle.sci_net.specs.declared.Source.{Source}
use Rattle.sci_net.specs.declared.Source.TheVariants.{Start, Port}
use Rattle.sci_net.specs.Parts.{Parts}
use Rattle.sci_net.specs.Sources.{sources_of, source_of}
use Rattle.sci_reaction.specs.Links.{IsSource}
use Rattle.sci_reaction.proofs.Lists.{cons-Contains}
use Rattle.sci_reaction.proofs.Sources.{sources_are}
use Rattle.sci_pending.specs.Pending.{Event, Pending, is_earlier, earlier, next}
use Rattle.sci_run.specs.Programs.{with_delay, with_delays}
use Rattle.sci_run.proofs.Ordered.{by_cases}
use Rattle.sci_ranges_reads.specs.Live.{Dead, IsLive}

-- each event is that of a live source
abbrev pub AreLive : Parts → Dead → List Event → Type 0
AreLive n dead [] = Unit {0}
AreLive n dead (e ∷ es) = IsLive n dead (source_of n e.source) × AreLive n dead es

module _ (n : Parts) (dead : Dead) where
  pub kept_live : (keep : Event → Bool) (es : List Event) → AreLive n dead es → AreLive n dead (filter keep es)
  kept_live keep [] h = tt
  kept_live keep (e ∷ es) h =
      by_cases (keep e) (AreLive n dead) (e ∷ filter keep es) (filter keep es) (λ _. (h.0, kept_live keep es h.1)) (λ _. kept_live keep es h.1)

  among_live : (a : Event) (es : List Event) → IsLive n dead (source_of n a.source) → AreLive n dead es → IsLive n dead (source_of n (earlier a (next es)).source)
  among_live a [] h all = h
  among_live a (b ∷ bs) h all =
      let m : Event = earlier b (next bs) in
      by_cases (is_earlier a m) (λ (e : Event). IsLive n dead (source_of n e.source)) a m (λ _. h) (λ _. among_live b bs all.0 all.1)

  -- and so is the next
  pub next_live : (es : List Event) (e : Event) → next es ≡ Some e → AreLive n dead es → IsLive n dead (source_of n e.source)
  next_live [] e h all = cc
  next_live (a ∷ es) e h all =
      let same : earlier a (next es) ≡ e = cc in subst (λ (x : Event). IsLive n dead (source_of n x.source)) same (among_live a es all.0 all.1)

  one_delay : (date k : ℕ) (d : ℤ) (p : Pending) → (pos 0 ≤ℤ d → IsLive n dead (source_of n k)) → AreLive n dead p.events → AreLive n dead (with_delay date k d p).events
  one_delay date k (pos d) p h live = (h (omega (arith, ints)), kept_live (λ e. not (e.source == k)) p.events live)
  one_delay date k (negsuc d) p h live = live

  -- where the sources with delays of 0 or more are live
  pub delays_live : (date : ℕ) (delays : Feed → ℤ) (k : ℕ) (ss : List Source) (p : Pending)
      → ((i : ℕ) (q : Feed) → slice_index_or ss i Start ≡ Port q → pos 0 ≤ℤ delays q → IsLive n dead (source_of n (k + i))) → AreLive n dead p.events
      → AreLive n dead (with_delays date delays k ss p).events
  delays_live date delays k [] p h live = live
  delays_live date delays k (Start ∷ ss) p h live =
      delays_live date delays (k + 1) ss p
      (λ i q e d. let place : k + suc i ≡ (k + 1) + i = omega arith in subst (λ c. IsLive n dead (source_of n c)) place (h (suc i) q e d)) live
  delays_live date delays k (Port q ∷ ss) p h live =
      delays_live date delays (k + 1) ss (with_delay date k (delays q) p)
      (λ i r e d. let place : k + suc i ≡ (k + 1) + i = omega arith in subst (λ c. IsLive n dead (source_of n c)) place (h (suc i) r e d))
      (one_delay date k (delays q) p (λ d. let place : k + 0 ≡ k = omega arith in subst (λ c. IsLive n dead (source_of n c)) place (h 0 q refl d)) live)

-- a place of a list has this activation output
listed : (ss : List Source) (i : ℕ) (q : Feed) → slice_index_or ss i Start ≡ Port q → Contains ss (Port q)
listed [] i q e = cc
listed (s ∷ ss) zero q e = (0, omega arith, e)
listed (s ∷ ss) (suc i) q e = cons-Contains s ss (Port q) (listed ss i q e)

pub source_at : (n : Parts) (i : ℕ) (q : Feed) → source_of n i ≡ Port q → IsSource n (Port q)
source_at n i q e = (sources_are n (Port q)).0 (listed (sources_of n) i q e)

-- where no delay is 0 or more nothing changes
pub none_delays : (date : ℕ) (delays : Feed → ℤ) (k : ℕ) (ss : List Source) (p : Pending) → ((q : Feed) → Contains ss (Port q) → pos 0 ≤ℤ delays q → ⊥) → with_delays date delays k ss p ≡ p
none_delays date delays k [] p h = refl
none_delays date delays k (Start ∷ ss) p h = none_delays date delays (k + 1) ss p (λ q c d. h q (cons-Contains Start ss (Port q) c) d)
none_delays date delays k (Port q ∷ ss) p h =
    ap (with_delays date delays (k + 1) ss) (none (delays q) (h q (0, omega arith, refl))) ∙ none_delays date delays (k + 1) ss p (λ r c d. h r (cons-Contains (Port q) ss (Port r) c) d)
  where
    none : (d : ℤ) → (pos 0 ≤ℤ d → ⊥) → with_delay date k d p ≡ p
    none (pos d) g = absurd (g (omega (arith, ints)))
    none (negsuc d) g = refl
