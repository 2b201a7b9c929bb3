-- Values written at a block's place.
use Rattle.std.proofs.Common.{◌≡◌, ◌≢◌, ℕ, zero, suc, ◌+◌, ◌-◌, ◌<◌, ◌≤◌, List, length, take, ℤ, ap, ◌∙◌, arith, inl, inr}
use Rattle.std.proofs.lemmas.Bool.{cases_lt}
use Rattle.sci_forms.specs.Ports.{total}
use Rattle.sci_net.specs.Parts.{Parts, IsBlock, spec_of}
use Rattle.sci_net.specs.Net.{IsNet, all_elements}
use Rattle.sci_places.specs.Flat.{start_of, values_at, IsWhole}
use Rattle.sci_span.specs.Values.{overwritten}
use Rattle.sci_places.specs.Laws.{OutputsAreWritten}
use Rattle.sci_places.proofs.Lists.{start_within, start_apart, written_at, written_length, kept_before, kept_behind}

pub block_within : (n : Parts) (b : ℕ) → IsBlock n b → start_of n b + total (spec_of n b).outs ≤ all_elements n.specs
block_within n zero h = absurd (omega (arith, h.least))
block_within n (suc k) h = let e : suc k - 1 ≡ k = omega arith in rw e (start_within n.specs k (omega (arith, h.most)))

pub blocks_apart : (n : Parts) (b c : ℕ) → IsBlock n b → IsBlock n c → b < c → start_of n b + total (spec_of n b).outs ≤ start_of n c
blocks_apart n zero c h k l = absurd (omega (arith, h.least))
blocks_apart n (suc i) zero h k l = absurd (omega (arith, k.least))
blocks_apart n (suc i) (suc j) h k l =
    let e : suc i - 1 ≡ i = omega arith in
    let f : suc j - 1 ≡ j = omega arith in
    rw (e, f) (start_apart n.specs i j (omega (arith, l)) (omega (arith, k.most)))

pub outs_small : (n : Parts) (b : ℕ) → IsNet n → IsBlock n b → total (spec_of n b).outs ≤ 65536
outs_small n b h k = let fits = block_within n b k in omega (arith, fits, h.small)

values_within : (n : Parts) (values : List ℤ) (b : ℕ) → IsWhole n values → IsBlock n b → start_of n b + total (spec_of n b).outs ≤ length values
values_within n values b w h = let fits = block_within n b h in omega (arith, fits, w)

kept : (n : Parts) (values vs : List ℤ) (b c : ℕ) → IsWhole n values → IsBlock n b → IsBlock n c → b ≢ c → length vs ≡ total (spec_of n b).outs
    → values_at n (overwritten values (start_of n b) vs) c ≡ values_at n values c
kept n values vs b c w hb hc ne e = elim (cases_lt c b) [
  | inl l ↦
      let apart = blocks_apart n c b hc hb l in
      let fits = values_within n values b w hb in
      kept_before values _ (start_of n b) (start_of n c) (total (spec_of n c).outs) apart (omega (arith, fits))
  | inr l ↦
      let less : b < c = omega (arith, l, ne) in
      let apart = blocks_apart n b c hb hc less in
      ap (take (total (spec_of n c).outs)) (kept_behind values vs (start_of n b) (total (spec_of n b).outs) (start_of n c) e apart (values_within n values b w hb))
]

pub outputs_law : OutputsAreWritten
outputs_law = record {
  within = values_within;
  whole = λ n values vs b w h e. written_length values vs (start_of n b) (total (spec_of n b).outs) e (values_within n values b w h) ∙ w;
  written = λ n values vs b w h e. written_at values vs (start_of n b) (total (spec_of n b).outs) e (values_within n values b w h);
  kept = kept;
}
