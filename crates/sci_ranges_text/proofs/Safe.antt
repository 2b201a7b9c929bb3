-- Where a table is safe, no run stops by an overflow or a zero.
use Rattle.std.proofs.Common.{◌≡◌, ℕ, zero, suc, ◌+◌, ◌≤◌, true, ◌||◌, List, length, sym, subst, ◌∙◌, arith, inl, inr, ◌⊎◌, true≢false}
use Rattle.std.proofs.lemmas.Bool.{cases_lt}
use Rattle.sci_base.specs.declared.observation.Obs.{Obs}
use Rattle.sci_base.specs.declared.observation.StopWord.TheVariants.{Overflow, Zero}
use Rattle.sci_net.specs.Parts.{Parts, IsBlock}
use Rattle.sci_reaction.specs.Memory.{Columns}
use Rattle.sci_reaction.proofs.Lists.{or_left, or_right}
use Rattle.sci_reaction.proofs.Spreading.{Spread-block}
use Rattle.sci_run.specs.Finish.{Ending, ByEnd, ByStop, Finish, ended, stopped, stopped_at_start}
use Rattle.sci_run.specs.Run.{State}
use Rattle.sci_ranges.specs.Table.{Table}
use Rattle.sci_ranges.proofs.Running.{closed_holds}
use Rattle.sci_ranges_text.specs.Text.{may_stop}
use Rattle.sci_ranges_text.specs.Laws.{SafeNeverStops}

-- the block that stops is one of the net
abbrev StopsAt : Parts → Ending → Type 0
StopsAt n (ByEnd word) = Unit {0}
StopsAt n (ByStop b word) = IsBlock n b

stops_at : (n : Parts) (i : Columns) (until limit : ℕ) {st : State} {how : Ending} {seen : List Obs} → Finish n i until limit st how seen → StopsAt n how
stops_at n i until limit (ended st word seen reach over) = tt
stops_at n i until limit (stopped st e b word seen reach fires stop) = Spread-block n _ _ stop.2.active
stops_at n i until limit (stopped_at_start b word stop) = Spread-block n _ _ stop.2.active

-- a block that may stop is found among the first ones
pub found : (t : Table) (count b : ℕ) → 1 ≤ b → b ≤ count → (t.stops b Overflow || t.stops b Zero) ≡ true → may_stop t count ≡ true
found t zero b least most h = absurd (omega (arith, least, most))
found t (suc k) b least most h = elim (cases_lt k b) [
  | inl p ↦
      let same : b ≡ k + 1 = omega (arith, most, p) in
      or_right (may_stop t k) (t.stops (k + 1) Overflow || t.stops (k + 1) Zero) (subst (λ c. (t.stops c Overflow || t.stops c Zero) ≡ true) same h)
  | inr p ↦ or_left (may_stop t k) (t.stops (k + 1) Overflow || t.stops (k + 1) Zero) (found t k b least p h)
]

pub safe_never_stops : SafeNeverStops
safe_never_stops n i j t until limit st b word seen net free columns closed safe keeps f which =
    let lists = (closed_holds n i t net free columns closed).stops j until limit st b word seen keeps f in
    let block : IsBlock n b = stops_at n j until limit f in
    true≢false (sym (found t (length n.specs) b block.least block.most (either which lists)) ∙ safe)
  where
    either : (word ≡ Overflow) ⊎ (word ≡ Zero) → t.stops b word ≡ true → (t.stops b Overflow || t.stops b Zero) ≡ true
    either (inl e) h = or_left (t.stops b Overflow) (t.stops b Zero) (subst (λ w. t.stops b w ≡ true) e h)
    either (inr e) h = or_right (t.stops b Overflow) (t.stops b Zero) (subst (λ w. t.stops b w ≡ true) e h)
