-- The values that the blocks hold before the run.
use Rattle.std.proofs.Common.{◌≡◌, ℕ, zero, suc, ◌+◌, ◌-◌, ◌<◌, ◌≤◌, ℤ, List, [], ◌∷◌, ◌++◌, length, get_or, take, drop, refl, ap, sym, ◌∙◌, subst, arith, inl, inr, length-append, length-drop, append_assoc}
use Rattle.std.proofs.Math.ListN.{replicate}
use Rattle.std.proofs.lemmas.Bool.{cases_lt}
use Rattle.std.proofs.lemmas.List.{drop_at, take_all, take-append-le, drop-append-le, get_or-replicate}
use Rattle.sci_base.specs.Lists.{listed}
use Rattle.sci_forms.specs.declared.spec.Spec.{Spec}
use Rattle.sci_forms.specs.Ports.{total}
use Rattle.sci_kinds.specs.Table.{first_held}
use Rattle.sci_forms.specs.Words.{held_of}
use Rattle.sci_kinds.proofs.Elements.{listed_at}
use Rattle.sci_net.specs.Parts.{Parts, IsBlock, numbered, spec_of}
use Rattle.sci_net.specs.Net.{all_elements}
use Rattle.sci_reaction.specs.Memory.{first_memory}
use Rattle.sci_places.specs.Flat.{start_in, start_of, values_at, IsWhole}
use Rattle.sci_places.proofs.Lists.{start_apart}
use Rattle.sci_places.proofs.Placed.{start_after}

pub start_all : (ss : List Spec) → start_in ss (length ss) ≡ all_elements ss
start_all [] = refl
start_all (s ∷ ss) = ap (λ m. total s.outs + m) (start_all ss)

-- the values that the first k blocks hold
pub record AreHeldTo (n : Parts) (k : ℕ) (values : List ℤ) : Type 0 where
  pub long : length values ≡ start_in n.specs k
  pub held : (b : ℕ) → 1 ≤ b → b ≤ k → values_at n values b ≡ first_held (spec_of n b)

pub held_none : (n : Parts) (values : List ℤ) → values ≡ [] → AreHeldTo n 0 values
held_none n values e = record { long = ap length e; held = λ b h l. absurd (omega (arith, h, l)) }

-- a block ends before the next begins
ends : (n : Parts) (b k : ℕ) → 1 ≤ b → b ≤ k → k < length n.specs → start_of n b + total (spec_of n b).outs ≤ start_in n.specs k
ends n zero k h l m = absurd (omega (arith, h))
ends n (suc j) k h l m = let e : suc j - 1 ≡ j = omega arith in rw e (start_apart n.specs j k (omega (arith, l)) m)

pub held_more : (n : Parts) (k count : ℕ) (values new : List ℤ) (s : Spec) → AreHeldTo n k values → k < length n.specs → s ≡ spec_of n (k + 1)
    → count ≡ total (spec_of n (k + 1)).outs
    → new ≡ values ++ listed (held_of s.kind s) count → AreHeldTo n (k + 1) new
held_more n k count values new s h m e c w = record {
  long =
      let joined = ap length is ∙ length-append values vs in
      let next = start_after n k m in
      omega (arith, joined, next, h.long, long);
  held = λ b least most. elim (cases_lt b (k + 1)) [
    | inl l ↦ ap (λ (xs : List ℤ). values_at n xs b) is ∙ (earlier b least (omega (arith, l)) ∙ h.held b least (omega (arith, l)))
    | inr l ↦
        let q : b ≡ k + 1 = omega (arith, l, most) in
        subst (λ i. values_at n new i ≡ first_held (spec_of n i)) (sym q) (ap (λ (xs : List ℤ). values_at n xs (k + 1)) is ∙ last)
  ];
}
  where
    t : Spec
    t = spec_of n (k + 1)

    vs : List ℤ
    vs = first_held (spec_of n (k + 1))

    is : new ≡ values ++ vs
    is = w ∙ (ap (λ i. values ++ listed (held_of s.kind s) i) c ∙ ap (λ (r : Spec). values ++ listed (held_of r.kind r) (total (spec_of n (k + 1)).outs)) e)

    long : length vs ≡ total (spec_of n (k + 1)).outs
    long = (listed_at (held_of (spec_of n (k + 1)).kind (spec_of n (k + 1))) (total (spec_of n (k + 1)).outs)).0

    earlier : (b : ℕ) → 1 ≤ b → b ≤ k → values_at n (values ++ vs) b ≡ values_at n values b
    earlier b least most =
        let fits = ends n b k least most m in
        let l = length-drop (start_of n b) values in
        ap (take (total (spec_of n b).outs)) (drop-append-le (start_of n b) values vs (omega (arith, fits, h.long)))
        ∙ take-append-le (total (spec_of n b).outs) (drop (start_of n b) values) vs (omega (arith, fits, h.long, l))

    last : values_at n (values ++ vs) (k + 1) ≡ vs
    last =
        let f : k + 1 - 1 ≡ k = omega arith in
        ap (take (total (spec_of n (k + 1)).outs)) (drop_at values vs (start_of n (k + 1)) (h.long ∙ ap (start_in n.specs) (sym f)))
        ∙ take_all (total (spec_of n (k + 1)).outs) vs (omega (arith, long))

pub held_whole : (n : Parts) (k : ℕ) (values : List ℤ) → k ≡ length n.specs → AreHeldTo n k values → IsWhole n values
held_whole n k values e h = h.long ∙ (ap (start_in n.specs) e ∙ start_all n.specs)

pub held_all : (n : Parts) (k : ℕ) (values : List ℤ) → k ≡ length n.specs → AreHeldTo n k values → (b : ℕ) → IsBlock n b
    → values_at n values b ≡ (first_memory n).held b
held_all n k values e h b block = h.held b block.least (omega (arith, block.most, e))

-- one more value of a block
pub listed_more : (f : ℕ → ℤ) (front xs new : List ℤ) (k : ℕ) (v : ℤ) → xs ≡ front ++ listed f k → v ≡ f k → new ≡ xs ++ v ∷ [] → new ≡ front ++ listed f (k + 1)
listed_more f front xs new k v e g w =
    let h : k + 1 ≡ suc k = omega arith in
    w
    ∙ (ap (λ ys. ys ++ v ∷ []) e
    ∙ (ap (λ x. (front ++ listed f k) ++ x ∷ []) g ∙ (append_assoc front (listed f k) (f k ∷ []) ∙ ap (λ m. front ++ listed f m) (sym h))))

pub numbered_replicate : {A : Type 0} (d x : A) (n b : ℕ) → 1 ≤ b → b ≤ n → numbered d (replicate n x) b ≡ x
numbered_replicate d x n zero h l = absurd (omega (arith, h))
numbered_replicate d x n (suc k) h l = get_or-replicate n k x d (omega (arith, l))
