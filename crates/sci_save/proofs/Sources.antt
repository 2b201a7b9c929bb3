-- Where the activation outputs of a block stand among the sources.
use Rattle.std.proofs.Common.{◌≡◌, ℕ, zero, suc, ◌+◌, ◌-◌, ◌<◌, ◌≤◌, List, [], ◌∷◌, ◌++◌, length, get_or, take, drop, append_assoc, Bool, true, false, cond, refl, sym, ap, ◌∙◌, arith, inl, inr, length-append}
use Rattle.std.proofs.lemmas.Bool.{cases_lt}
use Rattle.std.proofs.lemmas.List.{drop_more, get_or_append_left, get_or-append_right, get_or_push}
use Rattle.sci_forms.specs.declared.spec.Spec.{Spec}
use Rattle.sci_forms.specs.Form.{is_sync}
use Rattle.sci_net.specs.declared.Source.{Source}
use Rattle.sci_net.specs.declared.Source.TheVariants.{Start, Port}
use Rattle.sci_net.specs.Parts.{Parts, no_spec, spec_of}
use Rattle.sci_net.specs.Net.{IsNet}
use Rattle.sci_net.specs.Sources.{ports_to, block_sources, sources_from, sources_of, source_of}
use Rattle.sci_net.proofs.Numbered.{numbered_next}
use Rattle.sci_net.proofs.TypedSpecs.{all_typed, sources_few}
use Rattle.sci_save.specs.Reading.{befores, place_of}

-- ---- the outputs of one block

pub ports_length : (b p : ℕ) → length (ports_to b p) ≡ p
ports_length b zero = refl
ports_length b (suc p) = let before = ports_length b p in simp length-append (omega (arith, before))

port_read : (b p i : ℕ) (d : Source) → i < p → get_or (ports_to b p) i d ≡ Port (record { block = b; port = suc i })
port_read b zero i d h = absurd (omega (arith, h))
port_read b (suc p) i d h = elim (cases_lt i p) [
  | inl l ↦ get_or_append_left (ports_to b p) (Port (record { block = b; port = suc p }) ∷ []) d i (omega (arith, l, ports_length b p)) ∙ port_read b p i d l
  | inr l ↦
      let e : p ≡ i = omega (arith, h, l) in
      get_or_push (ports_to b p) (Port (record { block = b; port = suc p })) d i (ports_length b p ∙ e) ∙ ap (λ k. Port (record { block = b; port = suc k })) e
]

by_sync : (t : Bool) (b p i : ℕ) → i < length (cond t [] (ports_to b p)) → get_or (cond t [] (ports_to b p)) i Start ≡ Port (record { block = b; port = suc i })
by_sync true b p i h = absurd (omega (arith, h))
by_sync false b p i h = port_read b p i Start (omega (arith, h, ports_length b p))

output_read : (b : ℕ) (s : Spec) (i : ℕ) → i < length (block_sources b s) → get_or (block_sources b s) i Start ≡ Port (record { block = b; port = suc i })
output_read b s i h = by_sync (is_sync s.kind) b s.evtout i h

-- ---- those of all blocks

-- the source at this place is an output of a block
pub record IsThere (b : ℕ) (ss : List Spec) (i : ℕ) : Type 0 where
  pub at : ℕ
  pub port : ℕ
  pub within : at < length ss
  pub least : 1 ≤ port
  pub source : get_or (sources_from b ss) i Start ≡ Port (record { block = b + at; port = port })
  pub place : length (sources_from b (take at ss)) + port ≡ suc i

same_block : (b : ℕ) → b ≡ b + 0
same_block b = omega arith

found : (b : ℕ) (ss : List Spec) (i : ℕ) → i < length (sources_from b ss) → IsThere b ss i
found b [] i h = absurd (omega (arith, h))
found b (s ∷ ss) i h = elim (cases_lt i (length (block_sources b s))) [
  | inl l ↦ record {
    at = 0;
    port = suc i;
    within = omega arith;
    least = omega arith;
    source = get_or_append_left (block_sources b s) (sources_from (b + 1) ss) Start i l ∙ output_read b s i l ∙ ap (λ (c : ℕ). Port (record { block = c; port = suc i })) (same_block b);
    place = omega arith;
  }
  | inr m ↦
      let long = length-append (block_sources b s) (sources_from (b + 1) ss) in
      let k = i - length (block_sources b s) in
      let r = found (b + 1) ss k (omega (arith, h, m, long)) in
      let e : b + 1 + r.at ≡ b + suc r.at = omega arith in
      record {
        at = suc r.at;
        port = r.port;
        within = let w = r.within in omega arith;
        least = r.least;
        source = get_or-append_right (block_sources b s) (sources_from (b + 1) ss) (length (block_sources b s)) i Start refl m ∙ r.source
            ∙ ap (λ (c : ℕ). Port (record { block = c; port = r.port })) e;
        place = let p = r.place in omega (arith, m, p, length-append (block_sources b s) (sources_from (b + 1) (take r.at ss)));
      }
]

-- of the net, by block and port
pub record IsOutput (n : Parts) (k : ℕ) : Type 0 where
  pub block : ℕ
  pub port : ℕ
  pub block_least : 1 ≤ block
  pub block_most : block ≤ length n.specs
  pub port_least : 1 ≤ port
  pub port_most : port ≤ k
  pub source : source_of n k ≡ Port (record { block = block; port = port })
  pub place : place_of n block port ≡ k

pub output_of : (n : Parts) (k : ℕ) → 1 ≤ k → k < length (sources_of n) → IsOutput n k
output_of n zero h l = absurd (omega arith)
output_of n (suc i) h l =
    let r = found 1 n.specs i (omega (arith, l)) in
    let e : 1 + r.at - 1 ≡ r.at = omega arith in
    let place : place_of n (1 + r.at) r.port ≡ suc i = ap (λ (j : ℕ). length (sources_from 1 (take j n.specs)) + r.port) e ∙ r.place in
    record {
      block = 1 + r.at;
      port = r.port;
      block_least = omega arith;
      block_most = let w = r.within in omega arith;
      port_least = r.least;
      port_most = omega (arith, place);
      source = r.source;
      place = place;
    }

-- ---- how many stand before

pub before_next : (n : Parts) (counts : List ℕ) (count k : ℕ) (total : List ℕ) → k < length n.specs → counts ++ befores count (k + 1) (drop k n.specs) ≡ total
    → (counts ++ count ∷ []) ++ befores (count + length (block_sources (k + 1) (spec_of n (k + 1)))) (k + 1 + 1) (drop (k + 1) n.specs) ≡ total
before_next n counts count k total h so_far =
    ap (λ (s : Spec). (counts ++ count ∷ []) ++ befores (count + length (block_sources (k + 1) s)) (k + 1 + 1) (drop (k + 1) n.specs)) (numbered_next no_spec n.specs k)
    ∙ append_assoc counts (count ∷ []) (befores (count + length (block_sources (k + 1) (get_or n.specs k no_spec))) (k + 1 + 1) (drop (k + 1) n.specs))
    ∙ ap (λ (l : List Spec). counts ++ befores count (k + 1) l) (sym (drop_more n.specs k no_spec h))
    ∙ so_far

pub befores_length : (count b : ℕ) (ss : List Spec) → length (befores count b ss) ≡ length ss
befores_length count b [] = refl
befores_length count b (s ∷ ss) = ap suc (befores_length (count + length (block_sources b s)) (b + 1) ss)

pub befores_read : (count b : ℕ) (ss : List Spec) (k : ℕ) → k < length ss → get_or (befores count b ss) k 0 ≡ count + length (sources_from b (take k ss))
befores_read count b [] k h = absurd (omega (arith, h))
befores_read count b (s ∷ ss) zero h = omega arith
befores_read count b (s ∷ ss) (suc k) h =
    let rest = befores_read (count + length (block_sources b s)) (b + 1) ss k (omega (arith, h)) in
    omega (arith, rest, length-append (block_sources b s) (sources_from (b + 1) (take k ss)))

sources_within : (b : ℕ) (ss : List Spec) (k : ℕ) → length (sources_from b (take k ss)) ≤ length (sources_from b ss)
sources_within b [] zero = omega arith
sources_within b [] (suc k) = omega arith
sources_within b (s ∷ ss) zero = omega arith
sources_within b (s ∷ ss) (suc k) =
    let rest = sources_within (b + 1) ss k in
    let one = length-append (block_sources b s) (sources_from (b + 1) (take k ss)) in
    let other = length-append (block_sources b s) (sources_from (b + 1) ss) in
    omega (arith, rest, one, other)

pub sources_small : (n : Parts) (k : ℕ) → IsNet n → length (sources_from 1 (take k n.specs)) ≤ 2048
sources_small n k net =
    let few = sources_few 1 n.specs (all_typed n net) in
    let within = sources_within 1 n.specs k in
    omega (arith, few, within, net.wired.few)

pub all_small : (n : Parts) → IsNet n → length (sources_of n) ≤ 2049
all_small n net = let few = sources_few 1 n.specs (all_typed n net) in omega (arith, few, net.wired.few)

pub not_sync : (b : ℕ) (s : Spec) → is_sync s.kind ≡ false → block_sources b s ≡ ports_to b s.evtout
not_sync b s h = ap (λ c. cond c [] (ports_to b s.evtout)) h

sources_more : (b : ℕ) (ss : List Spec) (k : ℕ) → k < length ss
    → length (sources_from b (take (suc k) ss)) ≡ length (sources_from b (take k ss)) + length (block_sources (b + k) (get_or ss k no_spec))
sources_more b [] k h = absurd (omega (arith, h))
sources_more b (s ∷ ss) zero h =
    let e : b + 0 ≡ b = omega arith in
    let joined = length-append (block_sources b s) (sources_from (b + 1) []) in
    let same = ap (λ c. length (block_sources c s)) e in
    omega (arith, joined, same)
sources_more b (s ∷ ss) (suc k) h =
    let e : b + 1 + k ≡ b + suc k = omega arith in
    let rest = sources_more (b + 1) ss k (omega (arith, h)) in
    let one = length-append (block_sources b s) (sources_from (b + 1) (take (suc k) ss)) in
    let other = length-append (block_sources b s) (sources_from (b + 1) (take k ss)) in
    let same = ap (λ c. length (block_sources c (get_or ss k no_spec))) e in
    omega (arith, rest, one, other, same)

pub sources_next : (n : Parts) (k : ℕ) → k < length n.specs
    → length (sources_from 1 (take (k + 1) n.specs)) ≡ length (sources_from 1 (take k n.specs)) + length (block_sources (k + 1) (spec_of n (k + 1)))
sources_next n k h =
    let e : k + 1 ≡ suc k = omega arith in
    let f : 1 + k ≡ k + 1 = omega arith in
    ap (λ j. length (sources_from 1 (take j n.specs))) e
    ∙ (sources_more 1 n.specs k h
    ∙ (ap (λ c. length (sources_from 1 (take k n.specs)) + length (block_sources c (get_or n.specs k no_spec))) f
    ∙ ap (λ (s : Spec). length (sources_from 1 (take k n.specs)) + length (block_sources (k + 1) s)) (sym (numbered_next no_spec n.specs k))))
