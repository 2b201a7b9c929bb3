-- Which sources a net has.
use Rattle.std.proofs.Common.{◌≡◌, ℕ, zero, suc, ◌+◌, ◌<◌, ◌≤◌, Bool, true, false, cond, ⊎_elim, ◌↔◌, List, [], ◌∷◌, length, slice_index_or, Contains, refl, sym, ap₂, subst, arith}
use Rattle.std.proofs.lemmas.Bool.{cases_eq}
use Rattle.std.proofs.lemmas.List.Elements.{Contains-append_left, Contains-append_right, Contains-append_cases}
use Rattle.sci_forms.specs.declared.spec.Spec.{Spec}
use Rattle.sci_forms.specs.Form.{is_sync}
use Rattle.sci_net.specs.declared.Feed.{Feed}
use Rattle.sci_net.specs.declared.Source.{Source}
use Rattle.sci_net.specs.declared.Source.TheVariants.{Start, Port}
use Rattle.sci_net.specs.Parts.{Parts, IsActivationOutput, no_spec, spec_of}
use Rattle.sci_net.specs.Sources.{ports_to, block_sources, sources_from, sources_of}
use Rattle.sci_reaction.specs.Links.{IsSource}
use Rattle.sci_reaction.proofs.Lists.{Contains-cons, cons-Contains}

-- a port of one block
abbrev IsPortOf : ℕ → ℕ → Source → Type 0
IsPortOf b most Start = ⊥
IsPortOf b most (Port q) = (q.block ≡ b) × (1 ≤ q.port) × (q.port ≤ most)

port_here : (b k : ℕ) (s : Source) → Port (record { block = b; port = suc k }) ≡ s → IsPortOf b (suc k) s
port_here b k s e = subst (IsPortOf b (suc k)) e (refl, omega arith, omega arith)

port_wider : (b k : ℕ) (s : Source) → IsPortOf b k s → IsPortOf b (suc k) s
port_wider b k Start h = h
port_wider b k (Port q) h = (h.0, h.1, omega (arith, h.2))

ports_to-of : (b k : ℕ) (s : Source) → Contains (ports_to b k) s → IsPortOf b k s
ports_to-of b zero s h = absurd (omega (arith, h.1))
ports_to-of b (suc k) s h =
    ⊎_elim (λ old. port_wider b k s (ports_to-of b k s old))
    (λ new. ⊎_elim (λ same. port_here b k s same) (λ none. absurd (omega (arith, none.1))) (Contains-cons (Port (record { block = b; port = suc k })) [] s new))
    (Contains-append_cases (ports_to b k) (Port (record { block = b; port = suc k }) ∷ []) s h)

of-ports_to : (b k : ℕ) (q : Feed) → q.block ≡ b → 1 ≤ q.port → q.port ≤ k → Contains (ports_to b k) (Port q)
of-ports_to b zero q same least most = absurd (omega (arith, least, most))
of-ports_to b (suc k) q same least most =
    let last : Source = Port (record { block = b; port = suc k }) in
    ⊎_elim
    (λ here. Contains-append_right (ports_to b k) (last ∷ []) (Port q)
    (0, omega arith, ap₂ (λ i j. Port (record { block = i; port = j })) (sym same) (sym here)))
    (λ other. Contains-append_left (ports_to b k) (last ∷ []) (Port q) (of-ports_to b k q same least (omega (arith, most, other))))
    (cases_eq q.port (suc k))

-- a source among those of the blocks from b on
record IsAmong (b : ℕ) (ss : List Spec) (q : Feed) : Type 0 where
  at : ℕ
  within : at < length ss
  place : q.block ≡ b + at
  least : 1 ≤ q.port
  most : q.port ≤ (slice_index_or ss at no_spec).evtout
  not_sync : is_sync (slice_index_or ss at no_spec).kind ≡ false

no_start : (b : ℕ) (ss : List Spec) → Contains (sources_from b ss) Start → ⊥
no_start b [] h = omega (arith, h.1)
no_start b (s ∷ ss) h =
    ⊎_elim (λ here. none (is_sync s.kind) here) (λ later. no_start (b + 1) ss later) (Contains-append_cases (block_sources b s) (sources_from (b + 1) ss) Start h)
  where
    none : (t : Bool) → Contains (cond t [] (ports_to b s.evtout)) Start → ⊥
    none true h' = omega (arith, h'.1)
    none false h' = ports_to-of b s.evtout Start h'

among_of : (b : ℕ) (ss : List Spec) (q : Feed) → Contains (sources_from b ss) (Port q) → IsAmong b ss q
among_of b [] q h = absurd (omega (arith, h.1))
among_of b (s ∷ ss) q h =
    ⊎_elim (λ here. own (is_sync s.kind) refl here)
    (λ later. let r = among_of (b + 1) ss q later in
    record { at = suc r.at; within = omega (arith, r.within); place = let p = r.place in omega (arith, p); least = r.least; most = r.most; not_sync = r.not_sync })
    (Contains-append_cases (block_sources b s) (sources_from (b + 1) ss) (Port q) h)
  where
    own : (t : Bool) → is_sync s.kind ≡ t → Contains (cond t [] (ports_to b s.evtout)) (Port q) → IsAmong b (s ∷ ss) q
    own true e h' = absurd (omega (arith, h'.1))
    own false e h' =
        let p = ports_to-of b s.evtout (Port q) h' in
        record { at = 0; within = omega arith; place = let z : q.block ≡ b + 0 = omega (arith, p.0) in z; least = p.1; most = p.2; not_sync = e }

of_among : (b : ℕ) (ss : List Spec) (q : Feed) (at : ℕ) → at < length ss → q.block ≡ b + at → 1 ≤ q.port → q.port ≤ (slice_index_or ss at no_spec).evtout →
    is_sync (slice_index_or ss at no_spec).kind ≡ false → Contains (sources_from b ss) (Port q)
of_among b [] q at within place least most not_sync = absurd (omega (arith, within))
of_among b (s ∷ ss) q zero within place least most not_sync =
    Contains-append_left (block_sources b s) (sources_from (b + 1) ss) (Port q)
    (subst (λ t. Contains (cond t [] (ports_to b s.evtout)) (Port q)) (sym not_sync)
    (of-ports_to b s.evtout q (let z : q.block ≡ b = omega (arith, place) in z) least most))
of_among b (s ∷ ss) q (suc at) within place least most not_sync =
    Contains-append_right (block_sources b s) (sources_from (b + 1) ss) (Port q)
    (of_among (b + 1) ss q at (omega (arith, within)) (let z : q.block ≡ b + 1 + at = omega (arith, place) in z) least most not_sync)

start_or : (n : Parts) (s : Source) → Contains (sources_from 1 n.specs) s → IsSource n s
start_or n Start h = tt
start_or n (Port q) h =
    let r = among_of 1 n.specs q h in
    let at : q.block ≡ suc r.at = let p = r.place in omega (arith, p) in
    let here : IsActivationOutput n (suc r.at) q.port =
    record { block = record { least = omega arith; most = let w = r.within in omega (arith, w) }; least = r.least; most = r.most } in
    (subst (λ b. IsActivationOutput n b q.port) (sym at) here, subst (λ b. is_sync (spec_of n b).kind ≡ false) (sym at) r.not_sync)

-- the block's number, counted from 0
from_source : (n : Parts) (q : Feed) (b : ℕ) → q.block ≡ b → IsActivationOutput n b q.port → is_sync (spec_of n b).kind ≡ false → Contains (sources_from 1 n.specs) (Port q)
from_source n q zero e out not_sync = absurd (let l = out.block.least in omega (arith, l))
from_source n q (suc k) e out not_sync =
    of_among 1 n.specs q k (let m = out.block.most in omega (arith, m)) (let z : q.block ≡ 1 + k = omega (arith, e) in z) out.least out.most not_sync

pub sources_are : (n : Parts) (s : Source) → Contains (sources_of n) s ↔ IsSource n s
sources_are n s = (
  (λ h. ⊎_elim (λ same. subst (IsSource n) same tt) (λ later. start_or n s later) (Contains-cons Start (sources_from 1 n.specs) s h)),
  λ h. back s h,
)
  where
    back : (t : Source) → IsSource n t → Contains (sources_of n) t
    back Start h' = (0, omega arith, refl)
    back (Port q) h' = cons-Contains Start (sources_from 1 n.specs) (Port q) (from_source n q q.block refl h'.0 h'.1)
