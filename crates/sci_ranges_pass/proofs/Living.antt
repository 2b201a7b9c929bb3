-- Marks that pass have each live source.
use Rattle.std.proofs.Common.{◌≡◌, ℕ, ◌<◌, true, ◌&&◌, pos, length, refl, sym, subst, arith}
use Rattle.std.specs.Prelude.{int_le}
use Rattle.sci_base.specs.Lists.{truth_at}
use Rattle.sci_base.proofs.FitLemmas.{int_le_yes}
use Rattle.sci_net.specs.declared.Source.{Source}
use Rattle.sci_net.specs.Net.{IsNet}
use Rattle.sci_net.specs.Parts.{Parts, spec_of}
use Rattle.sci_net.specs.Sources.{source_of}
use Rattle.sci_reaction.proofs.Lists.{and_both, and_true}
use Rattle.sci_run.specs.Laws.{AreLoopFree}
use Rattle.sci_run.specs.Programs.{firing_of}
use Rattle.sci_ranges_reads.specs.Live.{MayAct, IsLive, begins, dated, programmed, may_program}
use Rattle.sci_ranges_rows.specs.Marks.{Marks, AreActs, dead_of, acts_at, may_act}
use Rattle.sci_ranges_rows.specs.Tests.{all_below}
use Rattle.sci_ranges_rows.proofs.Placed.{live_source, source_place, acts_is}
use Rattle.sci_ranges_rows.proofs.Testing.{below_to, not_yes}
use Rattle.sci_ranges_pass.specs.Pass.{marks_dated, marks_programmed, marks_live}
use Rattle.sci_ranges_pass.specs.Laws.{LiveByTest}

module _ (n : Parts) (m : Marks) (net : IsNet n) (free : AreLoopFree n) (acts : AreActs n m) (passed : marks_live n m ≡ true) where
  at_place : (j : ℕ) → j < length m.rows
      → (marks_dated n m j (source_of n j) ≡ true) × (all_below (λ k. marks_programmed n m k j (source_of n j)) (length m.rows) ≡ true)
  at_place j l =
      and_both (marks_dated n m j (source_of n j)) (all_below (λ k. marks_programmed n m k j (source_of n j)) (length m.rows))
      (below_to (λ j. marks_dated n m j (source_of n j) && all_below (λ k. marks_programmed n m k j (source_of n j)) (length m.rows)) (length m.rows) j passed l)

  marked : {s : Source} → IsLive n (dead_of m.dead) s → (j : ℕ) → source_of n j ≡ s → j < length m.rows → truth_at m.live j ≡ true
  marked begins j e l = subst (λ s. marks_dated n m j s ≡ true) e (at_place j l).0
  marked (dated q source fires) j e l =
      not_yes (int_le (pos 0) (firing_of n q)) (truth_at m.live j) (subst (λ s. marks_dated n m j s ≡ true) e (at_place j l).0) (int_le_yes (pos 0) (firing_of n q) fires)
  marked (programmed s q live source may able) j e l =
      let p = source_place n s (live_source n (dead_of m.dead) live) in
      let within : p.0 < length m.rows = omega (arith, p.1, acts.rows.enough) in
      let on : truth_at m.live p.0 ≡ true = marked live p.0 p.2 within in
      let act : truth_at (acts_at m p.0) q.block ≡ true = (acts_is n m net free acts p.0 within q.block).1 (subst (λ t. MayAct n (dead_of m.dead) t q.block) (sym p.2) may) in
      let test = subst (λ t. marks_programmed n m p.0 j t ≡ true) e (below_to (λ k. marks_programmed n m k j (source_of n j)) (length m.rows) p.0 (at_place j l).1 within) in
      not_yes (may_act m p.0 q.block && may_program (spec_of n q.block)) (truth_at m.live j) test
      (and_true (may_act m p.0 q.block) (may_program (spec_of n q.block)) (and_true (truth_at m.live p.0) (truth_at (acts_at m p.0) q.block) on act) able)

pub live_by_test : LiveByTest
live_by_test n m net free acts passed k live l = marked n m net free acts passed live k refl l
