-- The sources that have delays, among all of a net.
use Rattle.std.proofs.Common.{◌≡◌, ℕ, ◌+◌, ◌<◌, ◌≤◌, ◌⊎◌, ◌↔◌, Bool, true, false, inl, inr, ⊎_elim, ℤ, List, [], ◌∷◌, ◌++◌, length, take, length-take-le, take_all, All, Contains, refl, sym, ap, subst, ◌∙◌, arith, length-append}
use Rattle.std.proofs.lemmas.List.{take_more}
use Rattle.std.proofs.lemmas.List.Elements.{All-push}
use Rattle.sci_forms.specs.Form.{has_delay}
use Rattle.sci_net.specs.declared.Feed.{Feed}
use Rattle.sci_net.specs.declared.Source.{Source}
use Rattle.sci_net.specs.declared.Source.TheVariants.{Start, Port}
use Rattle.sci_net.specs.Parts.{Parts, IsActivationOutput, spec_of}
use Rattle.sci_net.specs.Sources.{sources_of, source_of}
use Rattle.sci_pending.specs.Pending.{Pending}
use Rattle.sci_run.specs.Programs.{with_delays}
use Rattle.sci_judge.specs.Programming.{with_delay_of, with_source, with_sources, IsDelayed, AreQuiet, AreSourcesOf}
use Rattle.sci_judge.specs.Rows.{IsOfFound}
use Rattle.sci_judge.proofs.Programs.{with_more, port_at, sources_append}

one_of : (date k : ℕ) (f : Feed → ℤ) (s : Source) (p : Pending) → with_delays date f k (s ∷ []) p ≡ with_delay_of date f k s p
one_of date k f Start p = refl
one_of date k f (Port q) p = refl

delays_more : (n : Parts) (date k : ℕ) (f : Feed → ℤ) (p : Pending) → k < length (sources_of n)
    → with_source n date f k (with_delays date f 0 (take k (sources_of n)) p) ≡ with_delays date f 0 (take (k + 1) (sources_of n)) p
delays_more n date k f p l =
    let long : length (take k (sources_of n)) ≡ k = length-take-le k (sources_of n) (omega (arith, l)) in
    let before : Pending = with_delays date f 0 (take k (sources_of n)) p in
    sym (ap (λ (ss : List Source). with_delays date f 0 ss p) (take_more (sources_of n) k Start l)
    ∙ (with_more date f 0 (take k (sources_of n)) (source_of n k ∷ []) p
    ∙ (ap (λ (j : ℕ). with_delays date f j (source_of n k ∷ []) before) (let same : 0 + length (take k (sources_of n)) ≡ k = omega (arith, long) in same)
    ∙ one_of date k f (source_of n k) before)))

-- of the first k sources
pub record AreSourcesTo (n : Parts) (blocks : List ℕ) (k : ℕ) (ks : List ℕ) : Type 0 where
  pub delayed : All (IsDelayed n) ks
  pub few : length ks ≤ k
  pub all : (date : ℕ) (f : Feed → ℤ) (p : Pending) → AreQuiet n blocks f → with_sources n date f ks p ≡ with_delays date f 0 (take k (sources_of n)) p

pub sources_none : (n : Parts) (blocks : List ℕ) → AreSourcesTo n blocks 0 []
sources_none n blocks = record { delayed = λ k d l. absurd (omega (arith, l)); few = omega arith; all = λ date f p quiet. refl }

module _ (n : Parts) (blocks : List ℕ) (k : ℕ) (ks : List ℕ) (less : k < length (sources_of n)) (before : AreSourcesTo n blocks k ks) where
  pub sources_with : IsDelayed n k → AreSourcesTo n blocks (k + 1) (ks ++ k ∷ [])
  sources_with is = record {
    delayed = All-push (IsDelayed n) ks k before.delayed is;
    few = (let long = length-append ks (k ∷ []) in let l = before.few in omega (arith, long, l));
    all = λ date f p quiet.
        sources_append n date f ks (k ∷ []) p ∙ (ap (λ (q : Pending). with_source n date f k q) (before.all date f p quiet) ∙ delays_more n date k f p less);
  }

  pub sources_without : (IsDelayed n k × IsOfFound n blocks k → ⊥) → AreSourcesTo n blocks (k + 1) ks
  sources_without off = record {
    delayed = before.delayed;
    few = (let l = before.few in omega (arith, l));
    all = λ date f p quiet. before.all date f p quiet ∙ (sym (still (source_of n k) refl date f (with_delays date f 0 (take k (sources_of n)) p) quiet) ∙ delays_more n date k f p less);
  }
    where
      no_delay : (q : Feed) → Port q ≡ source_of n k → IsActivationOutput n q.block q.port → (t : Bool) → has_delay (spec_of n q.block).kind ≡ t
          → (Contains blocks q.block → ⊥) ⊎ (has_delay (spec_of n q.block).kind ≡ false)
      no_delay q is out true on =
          inl (λ there. off (record { within = less; output = q; is = sym is; known = out; delayed = on }, record { output = q; is = sym is; found_is = there }))
      no_delay q is out false none = inr none

      still : (s : Source) → s ≡ source_of n k → (date : ℕ) (f : Feed → ℤ) (p : Pending) → AreQuiet n blocks f → with_delay_of date f k (source_of n k) p ≡ p
      still Start is date f p quiet = ap (λ (t : Source). with_delay_of date f k t p) (sym is)
      still (Port q) is date f p quiet =
          let out = (port_at n k q less is).0 in
          ap (λ (t : Source). with_delay_of date f k t p) (sym is)
          ∙ ap (λ (d : ℤ). with_delay_of date (λ r. d) k (Port q) p) (quiet q out (no_delay q is out (has_delay (spec_of n q.block).kind) refl))

pub sources_all : (n : Parts) (blocks : List ℕ) (k : ℕ) (ks : List ℕ) → length (sources_of n) ≡ k → AreSourcesTo n blocks k ks → AreSourcesOf n blocks ks
sources_all n blocks k ks whole are = record {
  delayed = are.delayed;
  few = (let l = are.few in omega (arith, l, whole));
  all = λ date f p quiet. are.all date f p quiet ∙ ap (λ (ss : List Source). with_delays date f 0 ss p) (take_all k (sources_of n) (omega (arith, whole)));
}

-- where the same blocks are named by another list
pub sources_same : (n : Parts) (blocks others ks : List ℕ) → ((b : ℕ) → Contains blocks b → Contains others b) → AreSourcesOf n others ks → AreSourcesOf n blocks ks
sources_same n blocks others ks to are = record {
  delayed = are.delayed;
  few = are.few;
  all = λ date f p quiet. are.all date f p (λ q out none. quiet q out (⊎_elim (λ off. inl (λ h. off (to q.block h))) (λ still. inr still) none));
}

-- the tests of a source
pub found_delayed : (n : Parts) (found : List ℕ) (k : ℕ) (q : Feed) (in_found delayed : Bool) → k < length (sources_of n) → Port q ≡ source_of n k
    → (in_found ≡ true) ↔ Contains found q.block → delayed ≡ has_delay (spec_of n q.block).kind
    → ((in_found ≡ true) × (delayed ≡ true)) ↔ (IsDelayed n k × IsOfFound n found k)
found_delayed n found k q in_found delayed less is there same = (
  (λ on. (
    record { within = less; output = q; is = sym is; known = (port_at n k q less is).0; delayed = sym same ∙ on.1 },
    record { output = q; is = sym is; found_is = there.0 on.0 },
  )),
  λ h. (
    there.1 (subst (λ (r : Feed). Contains found r.block) (one h.1.output q (sym h.1.is ∙ sym is)) h.1.found_is),
    same ∙ subst (λ (r : Feed). has_delay (spec_of n r.block).kind ≡ true) (one h.0.output q (sym h.0.is ∙ sym is)) h.0.delayed,
  ),
)
  where
    one : (a b : Feed) → Port a ≡ Port b → a ≡ b
    one a b e = cc

pub start_not : (n : Parts) (found : List ℕ) (k : ℕ) → Start ≡ source_of n k → IsDelayed n k × IsOfFound n found k → ⊥
start_not n found k is h = other h.0.output (is ∙ h.0.is)
  where
    other : (q : Feed) → Start ≡ Port q → ⊥
    other q e = cc
