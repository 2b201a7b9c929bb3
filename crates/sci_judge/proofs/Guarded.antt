-- The guards of an entry, and what it tells of its block.
use Rattle.std.proofs.Common.{◌≡◌, ℕ, ◌+◌, ◌<◌, ◌⊎◌, ⊎_elim, List, [], ◌∷◌, ◌++◌, length, take, get_or, Contains, sym, subst, ◌∙◌, arith}
use Rattle.std.proofs.lemmas.List.{take_more}
use Rattle.std.proofs.lemmas.List.Elements.{Contains-append_left, Contains-push, Contains-push_cases, Contains-get_or}
use Rattle.sci_net.specs.declared.Feed.{Feed}
use Rattle.sci_net.specs.declared.Source.TheVariants.{Start}
use Rattle.sci_net.specs.Parts.{Parts, IsBlock, numbered}
use Rattle.sci_net.specs.Sources.{sources_of, source_of}
use Rattle.sci_reaction.specs.Active.{Possible, IsSync, Reaches}
use Rattle.sci_reaction.specs.Schedule.{Guard, branch_of}
use Rattle.sci_reaction.proofs.Spreading.{Spread-block}
use Rattle.sci_reaction.proofs.Sources.{sources_are}
use Rattle.sci_inherit.specs.Origins.{Origins, AreOrigins}
use Rattle.sci_rounds.specs.Rounds.{IsBranch}
use Rattle.sci_judge.specs.Entries.{AreBranches}

nothing : {X : Type 0} (c : X) → Contains [] c → ⊥
nothing c h = omega (arith, h.1)

pub branches_none : (n : Parts) (found : List ℕ) (b : ℕ) → AreBranches n found [] b []
branches_none n found b = record { reach = λ g h. absurd (nothing g h); all = λ q h there. absurd (nothing q h) }

module _ (n : Parts) (found : List ℕ) (bs : List Feed) (b i : ℕ) (d : Feed) (gs : List Guard) (less : i < length bs) (before : AreBranches n found (take i bs) b gs) where
  cases : (q : Feed) → Contains (take (i + 1) bs) q → Contains (take i bs) q ⊎ (get_or bs i d ≡ q)
  cases q h = Contains-push_cases (take i bs) (get_or bs i d) q (subst (λ xs. Contains xs q) (take_more bs i d less) h)

  pub branches_keep : (Contains found (get_or bs i d).block → ⊥) → AreBranches n found (take (i + 1) bs) b gs
  branches_keep off = record {
    reach = before.reach;
    all = λ q h there. ⊎_elim (λ old. before.all q old there)
        (λ here. absurd (off (subst (λ (v : Feed). Contains found v.block) (sym here) there))) (cases q h);
  }

  pub branches_more : (g : Guard) → branch_of g ≡ get_or bs i d → IsBranch n b g → AreBranches n found (take (i + 1) bs) b (gs ++ g ∷ [])
  branches_more g same is = record {
    reach = λ h c. ⊎_elim (λ old. before.reach h old) (λ new. subst (IsBranch n b) new is) (Contains-push_cases gs g h c);
    all = λ q h there. ⊎_elim (λ old. let r = before.all q old there in (r.0, Contains-append_left gs (g ∷ []) r.0 r.1, r.2))
        (λ here. (g, Contains-push gs g, same ∙ here)) (cases q h);
  }

-- ---- the branches that reach a block

module _ (n : Parts) (o : Origins) (are : AreOrigins n o) (b : ℕ) where
  pub branch_block : (q : Feed) → Contains (numbered [] o.branches b) q → IsBlock n q.block
  branch_block q h = Spread-block n ((are.branches_are b q).0 h).0.source _ ((are.branches_are b q).0 h).0.possible

  pub branch_sync : (q : Feed) → Contains (numbered [] o.branches b) q → IsSync n q.block × Reaches n q b
  branch_sync q h = let r = (are.branches_are b q).0 h in (r.1, r.2)

  pub branch_there : (k : ℕ) (q : Feed) → k < length (sources_of n) → Possible n (source_of n k) q.block → IsSync n q.block → Reaches n q b
      → Contains (numbered [] o.branches b) q
  branch_there k q l may sync reaches =
      (are.branches_are b q).1
      (record { source = source_of n k; is_source = (sources_are n (source_of n k)).0 (Contains-get_or (sources_of n) k Start l); possible = may }, sync, reaches)
