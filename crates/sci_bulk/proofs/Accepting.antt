-- A bulk diagram breaks no rule, and its run ends by the bound on events.
use Rattle.std.specs.Prelude.{nat_le}
use Rattle.std.proofs.lemmas.Bool.Decides.{nat_tests}
use Rattle.std.proofs.Common.{◌≡◌, ◌≤◌, ◌+◌, ◌*◌, ◌^◌, ◌++◌, inl, inr, true, ℕ, List, [], ◌∷◌, length, Ok, Err, refl, sym, ap, subst, arith}
use Rattle.sci_base.specs.Plain.{Violation}
use Rattle.sci_base.specs.declared.observation.Obs.{Obs}
use Rattle.sci_base.specs.declared.observation.Obs.TheVariants.{End}
use Rattle.sci_base.specs.declared.observation.EndWord.TheVariants.{Events}
use Rattle.sci_diagram.specs.Objects.{Objects, objects_of}
use Rattle.sci_diagram.specs.Count.{blocks_in, links_in, counted}
use Rattle.sci_net.specs.Parts.{Parts}
use Rattle.sci_net.specs.Sources.{sources_of, source_of}
use Rattle.sci_reaction.specs.Memory.{Columns}
use Rattle.sci_run.specs.Run.{IsRun}
use Rattle.sci_sched.specs.Answer.{IsPlanBreak}
use Rattle.sci_flat.specs.Flat.{IsFlatNet}
use Rattle.sci_infer.specs.Answer.{IsAnswer}
use Rattle.sci_bulk.specs.declared.data_block.DataBlock.{DataBlock}
use Rattle.sci_bulk.specs.Bulk.{data_blocks, drawing}
use Rattle.sci_bulk.specs.Laws.{IsRestless, IsAccepted, BulkIsAccepted, BulkEndsByEvents}
use Rattle.sci_bulk.proofs.Ready.{data_length, link_count}
use Rattle.sci_bulk.proofs.Ready.{block_count as object_count}
use Rattle.sci_bulk.proofs.Forward.{forward_is_free, forward_is_short}
use Rattle.sci_bulk.proofs.Restless.{restless_ends_by_events}
use Rattle.sci_bulk.proofs.Drawn.{AreDrawn, all_drawn}
use Rattle.sci_bulk.proofs.Feeding.{keeps_rules}
use Rattle.sci_bulk.proofs.Inferring.{own_answer}
use Rattle.sci_bulk.proofs.Running.{specs_are, block_count, source_count, forward, restless}

within_bounds : (t : Objects) → blocks_in t ≤ 2048 → links_in t ≤ 16384 → counted t ≡ Ok t
unfolding counted
within_bounds t blocks links =
    let few_blocks : nat_le (blocks_in t) 2048 ≡ true = grind (arith, nat_tests, blocks) in
    let few_links : nat_le (links_in t) 16384 ≡ true = grind (arith, nat_tests, links) in
    rw few_blocks (rw few_links refl)

module _ (ds : List DataBlock) (drawn : AreDrawn 1 ds) (most : length ds ≤ 2000) where
  same_net : (n m : Parts) → IsFlatNet (objects_of (drawing ds)) n → IsAnswer n (Ok m) → m ≡ n
  same_net n m flat a = let h = own_answer n ds most (specs_are ds drawn n flat) (Ok m) a in cc

  always_typed : (n : Parts) (v : Violation) → IsFlatNet (objects_of (drawing ds)) n → IsAnswer n (Err v) → ⊥
  always_typed n v flat a = let h = own_answer n ds most (specs_are ds drawn n flat) (Err v) a in cc

  no_plan_break : (n : Parts) (v : Violation) → IsFlatNet (objects_of (drawing ds)) n → IsPlanBreak n v → ⊥
  no_plan_break n v flat (inl h) = forward_is_free n (source_of n h.at) (forward ds drawn n flat) h.tells.found h.tells.is_loop
  no_plan_break n v flat (inr h) =
      let short = forward_is_short n h.rows (forward ds drawn n flat) h.schedule in
      let long = h.long in
      let same : (length n.specs + 1) * length (sources_of n) ≡ (length n.specs + 1) * 9 = ap (λ (k : ℕ). (length n.specs + 1) * k) (source_count ds drawn n flat) in
      let count = block_count ds drawn n flat in
      absurd (omega (arith, short, long, same, count, most))

  accepted : IsAccepted (objects_of (drawing ds))
  accepted = record {
    few = within_bounds (objects_of (drawing ds)) (omega (arith, object_count ds, most)) (omega (arith, link_count ds, most));
    flat = keeps_rules ds drawn;
    typed = always_typed;
    planned = λ n m v flat a h. no_plan_break n v flat (subst (λ (k : Parts). IsPlanBreak k v) (same_net n m flat a) h);
  }

  ends : (n m : Parts) (i : Columns) (limit : ℕ) (os : List Obs) → IsFlatNet (objects_of (drawing ds)) n → IsAnswer n (Ok m) → limit ≤ 1000000 → IsRun m i (2 ^ 62) limit os
      → (seen : List Obs) × (os ≡ seen ++ End Events ∷ [])
  ends n m i limit os flat a few run =
      restless_ends_by_events m 8 (2 ^ 62) limit i os (subst (λ (k : Parts). IsRestless k 8) (sym (same_net n m flat a)) (restless ds drawn n flat)) (omega (arith, few)) run

few_blocks : (seed size : ℕ) → 1 ≤ size → size ≤ 2000 → length (data_blocks seed size) ≤ 2000
few_blocks seed size least most = omega (arith, data_length seed size least, most)

pub bulk_is_accepted : BulkIsAccepted
bulk_is_accepted seed size least most = accepted (data_blocks seed size) (all_drawn seed size) (few_blocks seed size least most)

pub bulk_ends_by_events : BulkEndsByEvents
bulk_ends_by_events seed size n m i limit os least most few flat a run =
    ends (data_blocks seed size) (all_drawn seed size) (few_blocks seed size least most) n m i limit os flat a few run
