-- Rounds go by depth, and find all possible blocks.
use Rattle.std.proofs.Common.{ℕ, zero, suc, ◌+◌, ◌<◌, ◌≤◌, ◌⊎◌, ◌↔◌, inl, inr, ⊎_elim, List, [], Contains, sym, subst, arith, add-one}
use Rattle.std.proofs.lemmas.Bool.{cases_lt}
use Rattle.sci_loop.specs.Depth.{ChainTo}
use Rattle.sci_loop.specs.Grounded.{Grounded, grounded}
use Rattle.sci_loop.proofs.Depth.{shallow_more, depth_level}
use Rattle.sci_net.specs.declared.Source.{Source}
use Rattle.sci_net.specs.Parts.{Parts}
use Rattle.sci_reaction.specs.Active.{Possible}
use Rattle.sci_reaction.specs.Depends.{Depends, IsLoopFree, Precedes}
use Rattle.sci_reaction.proofs.Lists.{Has-cases}
use Rattle.sci_reaction.proofs.Spreading.{Spread-block}
use Rattle.sci_reaction.proofs.OneResult.{ground}
use Rattle.sci_reaction.proofs.Rows.{Contains-has, has-Contains}
use Rattle.sci_rounds.specs.Rounds.{IsReady, IsWithin, IsBehindRounds, IsInRound}

nothing : (c : ℕ) → Contains [] c → ⊥
nothing c h = omega (arith, h.1)

module _ (n : Parts) (s : Source) where
  pub rounds_begin : IsBehindRounds n s 0 []
  rounds_begin = record {
    possible = λ c h. absurd (nothing c h);
    within = λ c may. ((λ h. absurd (nothing c h)), λ h. absurd (h tt));
  }

  shorter : (k c : ℕ) → ChainTo (Depends n s) (suc k) c → ChainTo (Depends n s) k c
  shorter zero c ch = tt
  shorter (suc k) c ch = (ch.0, ch.1, shorter k ch.0 ch.2)

  within_more : (k c : ℕ) → IsWithin n s k c → IsWithin n s (suc k) c
  within_more k c h ch = h (shorter k c ch)

  -- in the list, or not
  cases_done : (done : List ℕ) (c : ℕ) → Contains done c ⊎ (Contains done c → ⊥)
  cases_done done c = ⊎_elim (λ there. inl (has-Contains done c there)) (λ out. inr (λ h. out (Contains-has done c h))) (Has-cases done c)

  module _ (k : ℕ) (begun : List ℕ) (behind : IsBehindRounds n s k begun) where
    ready_within : (c : ℕ) → IsReady n s begun c → IsWithin n s (suc k) c
    ready_within c ready = (shallow_more (Depends n s) k c).1 (λ d dep. (behind.within d dep.on_possible).0 (ready.needs d dep))

    within_ready : (c : ℕ) → Possible n s c → (Contains begun c → ⊥) → IsWithin n s (suc k) c → IsReady n s begun c
    within_ready c may out within = record {
      possible = may;
      fresh = out;
      needs = λ d dep. (behind.within d dep.on_possible).1 ((shallow_more (Depends n s) k c).0 within d dep);
    }

    module _ (done : List ℕ) (exactly : (c : ℕ) → Contains done c ↔ (Contains begun c ⊎ IsReady n s begun c)) where
      next_within : (c : ℕ) → Possible n s c → Contains done c ↔ IsWithin n s (suc k) c
      next_within c may = (
        (λ h. ⊎_elim (λ old. within_more k c ((behind.within c may).0 old)) (λ new. ready_within c new) ((exactly c).0 h)),
        λ within. (exactly c).1 (⊎_elim (λ old. inl old) (λ out. inr (within_ready c may out within)) (cases_done begun c)),
      )

      next_round : IsBehindRounds n s (suc k) done
      next_round = record { possible = λ c h. ⊎_elim (behind.possible c) (λ new. new.possible) ((exactly c).0 h); within = next_within }

      pub rounds_go_on : IsBehindRounds n s (k + 1) done
      rounds_go_on = subst (λ (j : ℕ). IsBehindRounds n s j done) (sym (add-one k)) next_round

    module _ (done : List ℕ) (b : ℕ) (ready : IsReady n s begun b) (round : IsInRound n s begun b done) (c : ℕ) (may : Possible n s c) (before : Precedes n s c b) where
      later_is : (k < before.later_depth) × (before.later_depth ≤ suc k)
      later_is = (
        ⊎_elim (λ deep. deep) (λ low. absurd (ready.fresh ((behind.within b ready.possible).1 ((depth_level (Depends n s) b before.later_depth k before.later_has).1 low))))
            (cases_lt k before.later_depth),
        (depth_level (Depends n s) b before.later_depth (suc k) before.later_has).0 (ready_within b ready),
      )

      -- a block of a lesser depth was done when the round began
      lesser : before.depth < before.later_depth → Contains done c
      lesser less =
          let l = later_is in
          round.kept c ((behind.within c may).1 ((depth_level (Depends n s) c before.depth k before.has).1 (omega (arith, l.1, less))))

      -- one of the same depth was ready then
      same_depth : before.depth ≤ suc k → c < b → Contains done c
      same_depth low less =
          ⊎_elim (λ old. round.kept c old)
          (λ out. round.earlier c (within_ready c may out ((depth_level (Depends n s) c before.depth (suc k) before.has).1 low)) less) (cases_done begun c)

      pub earlier_are_done : Contains done c
      earlier_are_done =
          ⊎_elim lesser (λ level. same_depth (let l = later_is in let is = level.0 in omega (arith, l.1, is)) level.1) before.less

  module _ (done : List ℕ) (none : (c : ℕ) → IsReady n s done c → ⊥) where
    found : {c : ℕ} → Grounded (Depends n s) c → Possible n s c → Contains done c
    found (grounded c below) may =
        ⊎_elim (λ there. there)
        (λ out. absurd (none c (record { possible = may; fresh = out; needs = λ d dep. found (below d dep) dep.on_possible }))) (cases_done done c)

    pub some_is_ready : IsLoopFree n s → (c : ℕ) → Possible n s c → Contains done c
    some_is_ready free c may = found (ground n s free c (Spread-block n s _ may)) may
