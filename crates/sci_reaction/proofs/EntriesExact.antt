-- On any values, what the entries of a row say of activation.
use Rattle.std.proofs.Common.{◌≡◌, ℕ, ◌+◌, true, ◌⊎◌, inl, inr, ⊎_elim, ◌↔◌, Contains, sym, subst}
use Rattle.std.specs.Int.{bit_at}
use Rattle.sci_net.specs.declared.Feed.{Feed}
use Rattle.sci_net.specs.declared.Source.{Source}
use Rattle.sci_net.specs.declared.Source.TheVariants.{Start, Port}
use Rattle.sci_net.specs.Parts.{Parts, IsBlock, IsWired, IsActivationInput, feeds_of}
use Rattle.sci_reaction.specs.Links.{SourceFeeds}
use Rattle.sci_reaction.specs.Active.{seeded}
use Rattle.sci_reaction.specs.Equations.{Signals, Active, IsMaskOf}
use Rattle.sci_reaction.specs.Schedule.{Guard, Entry, branch_of}
use Rattle.sci_reaction.specs.Laws.{GuardApplies}
use Rattle.sci_reaction.proofs.Spreading.{possible, why, from_always, from_guard}
use Rattle.sci_reaction.proofs.Rows.{IsFit, feeds_within}

pub source_within : (n : Parts) → IsWired n → (s : Source) (b p : ℕ) → IsBlock n b → SourceFeeds n s b p → IsActivationInput n b p
source_within n ok Start b p inside h = absurd h
source_within n ok (Port q) b p inside h = feeds_within n ok b p q inside h

module _ (n : Parts) (s : Source) (ok : IsWired n) (e : Entry) (inside : IsBlock n e.block) (fit : IsFit n s e) (y : Signals) where
  abbrev pub Applied : Type 0
  Applied = (g : Guard) × Contains e.guards g × GuardApplies n s y g

  pub entry_exact : Active n s y e.block ↔ ((e.always ≡ true) ⊎ Applied)
  entry_exact = (
    (λ active. ⊎_elim (λ on. inl (fit.always_is.1 on))
        (λ g. let q : Feed = record { block = g.block; port = g.port } in
        let has = fit.has_guard q (possible n s _ g.spread) g.sync g.reaches in
        let P : Feed → Type 0 = λ v. GuardApplies n s y (record { block = v.block; port = v.port; mask = 0 }) in
        inr (has.0, has.1, subst P (sym has.2) (g.spread, g.takes)))
        (why n s _ active)),
    λ h. ⊎_elim (λ on. from_always n s _ (fit.always_is.0 on))
        (λ g. let is = fit.are_guards g.0 g.1 in from_guard n s _ g.0.block g.0.port g.2.0 is.sync g.2.1 is.reaches) h,
  )

  pub mask_exact : (mask p : ℕ) → IsMaskOf n s y e.block mask →
      (bit_at mask p ≡ 1) ↔ ((bit_at e.mask p ≡ 1) ⊎ ((g : Guard) × Contains e.guards g × GuardApplies n s y g × (bit_at g.mask p ≡ 1)))
  mask_exact mask p is = (
    (λ h. let a = (is p).0 h in
        ⊎_elim (λ fed. inl ((fit.mask_is p).1 fed))
        (λ f. let q : Feed = record { block = f.block; port = f.port } in
        let has = fit.has_guard q (possible n s _ f.active) f.sync (seeded e.block (record { input = p + 1; within = a.within; fed = f.fed })) in
        let P : Feed → Type 0 = λ v. GuardApplies n s y (record { block = v.block; port = v.port; mask = 0 }) in
        let Q : Feed → Type 0 = λ v. Contains (feeds_of n e.block (p + 1)) v in
        inr (has.0, has.1, subst P (sym has.2) (f.active, f.takes), ((fit.are_guards has.0 has.1).feeds p).1 (subst Q (sym has.2) f.fed)))
        a.how),
    λ h. (is p).1
        (⊎_elim
        (λ own. let fed = (fit.mask_is p).0 own in record { within = source_within n ok s e.block (p + 1) inside fed; how = inl fed })
        (λ g. let k = fit.are_guards g.0 g.1 in let fed = (k.feeds p).0 g.3 in
        record {
          within = feeds_within n ok e.block (p + 1) (branch_of g.0) inside fed;
          how = inr (record { block = g.0.block; port = g.0.port; active = g.2.0; sync = k.sync; takes = g.2.1; fed = fed });
        })
        h),
  )
