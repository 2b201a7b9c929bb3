-- From the least sets of active blocks.
use Rattle.std.proofs.Common.{◌≡◌, ℕ, ◌+◌, ℤ, pos, negsuc, ◌≤ℤ◌, List, Bool, true, false, cond, refl, subst, arith, inl, inr, ⊎_elim}
use Rattle.std.proofs.lemmas.Int.{ints}
use Rattle.std.specs.Prelude.{Contains}
use Rattle.sci_base.proofs.FitLemmas.{int_le_yes}
use Rattle.sci_forms.specs.declared.Kind.{Kind}
use Rattle.sci_forms.specs.declared.Kind.TheVariants.{EvtDly, EvtVarDly}
use Rattle.sci_forms.specs.declared.spec.Spec.{Spec}
use Rattle.sci_forms.specs.Words.{param}
use Rattle.sci_kinds.specs.Table.{delay_of as kind_delay, delay}
use Rattle.sci_net.specs.declared.Feed.{Feed}
use Rattle.sci_net.specs.declared.Source.{Source}
use Rattle.sci_net.specs.declared.Source.TheVariants.{Port}
use Rattle.sci_net.specs.Parts.{Parts, IsActivationInput, spec_of, feeds_of}
use Rattle.sci_reaction.specs.Active.{IsSync, Reaches, seeded}
use Rattle.sci_reaction.specs.Equations.{Signals, Takes, Active, BranchFeeds, input_in, all_inputs}
use Rattle.sci_reaction.proofs.Spreading.{why, from_always, from_guard}
use Rattle.sci_ranges_reads.specs.Live.{Dead, AreKnown, IsLive, programmed, may_program_of}
use Rattle.sci_ranges_reads.specs.Reading.{MayBeTaken}
use Rattle.sci_ranges_reads.specs.Laws.{ActiveMayAct, ActsTooIsActive, FedTooIsActive, UnderIsTaken, MasksAreBetween, ProgrammedIsLive}

-- a branch that an active block takes and that reaches c is one that may be taken
reached : (n : Parts) (dead : Dead) (s : Source) (y : Signals) (c d p : ℕ) → AreKnown n dead s y c → Active n s y d → IsSync n d → Takes n y d p
    → Reaches n (record { block = d; port = p }) c → MayBeTaken n dead s (record { block = d; port = p })
reached n dead s y c d p known h sync t r =
    let k = known d p h (record { sync = sync; branch = p; reaches = r }) t in record { acts = k.0; sync = sync; alive = k.1 }

-- the same of one that feeds c
fed : (n : Parts) (dead : Dead) (s : Source) (y : Signals) (c p : ℕ) → AreKnown n dead s y c → IsActivationInput n c p → (g : BranchFeeds n s y c p)
    → MayBeTaken n dead s (record { block = g.block; port = g.port })
fed n dead s y c p known within g =
    reached n dead s y c g.block g.port known g.active g.sync g.takes (seeded c (record { input = p; within = within; fed = g.fed }))

pub active_may_act : ActiveMayAct
active_may_act n dead s y b known h =
    ⊎_elim (λ always. from_always n s (λ c p. dead c p ≡ false) always)
    (λ g.
    let m = reached n dead s y b g.block g.port known g.spread g.sync g.takes g.reaches in
    from_guard n s (λ c p. dead c p ≡ false) g.block g.port m.acts g.sync m.alive g.reaches)
    (why n s (Takes n y) h)

pub acts_too_is_active : ActsTooIsActive
acts_too_is_active n dead s y a c known (inl always) h = from_always n s (Takes n y) always
acts_too_is_active n dead s y a c known (inr under) h =
    ⊎_elim (λ always. absurd (under.0 always))
    (λ g.
    let m = reached n dead s y c g.block g.port known g.spread g.sync g.takes g.reaches in
    from_guard n s (Takes n y) g.block g.port g.spread g.sync g.takes (under.1 (record { block = g.block; port = g.port }) m g.reaches))
    (why n s (Takes n y) h)

pub fed_too_is_active : FedTooIsActive
fed_too_is_active n dead s y a c p known (inl always) h = from_always n s (Takes n y) always
fed_too_is_active n dead s y a c p known (inr under) h =
    ⊎_elim (λ source. absurd (under.0 source))
    (λ g. from_guard n s (Takes n y) g.block g.port g.active g.sync g.takes (under.1 (record { block = g.block; port = g.port }) (fed n dead s y c p known h.within g) g.fed))
    h.how

pub under_is_taken : UnderIsTaken
under_is_taken n dead s y c q known u h =
    ⊎_elim (λ always. absurd (u.not_always always))
    (λ g.
    let m = reached n dead s y c g.block g.port known g.spread g.sync g.takes g.reaches in
    subst (λ (r : Feed). Active n s y r.block × IsSync n r.block × Takes n y r.block r.port × Reaches n r c) (u.only (record { block = g.block; port = g.port }) m g.reaches)
    (g.spread, g.sync, g.takes, g.reaches))
    (why n s (Takes n y) h)

pub masks_are_between : MasksAreBetween
masks_are_between n dead s y c mask b known m is p = (
  λ e. let sure = m.certain p e in (is p).1 (record { within = sure.0; how = inl sure.1 }),
  λ e. let on = (is p).0 e in m.may p on.within (⊎_elim (λ source. inl source) (λ g. inr (branch on.within g)) on.how),
)
  where
    branch : IsActivationInput n c (p + 1) → BranchFeeds n s y c (p + 1) → (q : Feed) × MayBeTaken n dead s q × Contains (feeds_of n c (p + 1)) q
    branch within g = (record { block = g.block; port = g.port }, fed n dead s y c (p + 1) known within g, g.fed)

-- a kind with a delay of 0 or more is one that may program
pub programs : (k : Kind) (s : Spec) (p : ℕ) (u : List ℤ) → pos 0 ≤ℤ kind_delay k s p u → may_program_of k s ≡ true
programs EvtDly s p u h = int_le_yes (pos 0) (param s 0) h
programs EvtVarDly s p u h = refl
programs _ s p u h = absurd (omega (arith, ints, h))

pub programmed_is_live : ProgrammedIsLive
programmed_is_live n dead s y active q is live source may h = by_active (active q.block) refl h
  where
    by_active : (b : Bool) → active q.block ≡ b → pos 0 ≤ℤ cond b (delay (spec_of n q.block) q.port (all_inputs (spec_of n q.block) (input_in n y q.block))) (negsuc 0)
        → IsLive n dead (Port q)
    by_active true e h =
        programmed s q live source (may ((is q.block source.0.block).0 e))
        (programs (spec_of n q.block).kind (spec_of n q.block) q.port (all_inputs (spec_of n q.block) (input_in n y q.block)) h)
    by_active false e h = absurd (omega (arith, ints, h))
