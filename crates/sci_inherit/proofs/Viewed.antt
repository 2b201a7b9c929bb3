-- All origins together, by source and by block.
use Rattle.std.proofs.Common.{replicate, ◌≡◌, ◌≢◌, ◌∙◌, ◌<◌, ◌+◌, ◌↔◌, ℕ, zero, suc, Bool, true, false, true≢false, List, [], ◌∷◌, ◌++◌, ⊎_elim, sym, ap, subst, arith, length, get_or}
use Rattle.std.specs.Prelude.{Contains, nat_eq}
use Rattle.std.specs.List.{IsDistinct}
use Rattle.std.proofs.Math.Seq.{get_or-append_seam}
use Rattle.std.proofs.lemmas.Bool.{cases_eq, cases_lt}
use Rattle.std.proofs.lemmas.List.{get_or-replicate, get_or_past, get_or_append_left, length-append}
use Rattle.sci_loop.specs.Lists.{list_at}
use Rattle.sci_net.specs.declared.Feed.{Feed}
use Rattle.sci_net.specs.declared.Source.TheVariants.{Start}
use Rattle.sci_net.specs.Parts.{Parts, IsBlock, numbered, AreRising}
use Rattle.sci_net.specs.Net.{IsNet}
use Rattle.sci_net.specs.Sources.{sources_of, source_of}
use Rattle.sci_reaction.specs.Links.{SetOff}
use Rattle.sci_reaction.specs.Active.{Reaches, IsAlways, IsSync}
use Rattle.sci_reaction.specs.Depends.{Conditions}
use Rattle.sci_inherit.specs.declared.Fed.{Fed}
use Rattle.sci_inherit.specs.declared.gather.Senders.TheVariants.{Each, Synchronous}
use Rattle.sci_loop.specs.Walk.{IsMarked}
use Rattle.sci_inherit.specs.Followers.{AreInOrder}
use Rattle.sci_inherit.specs.Live.{IsLive, AreWanted}
use Rattle.sci_inherit.specs.Gather.{AreEach, AreFeeding, AreAlways, AreOnward, IsSender, Gathered, OfBlocks}
use Rattle.sci_inherit.specs.Origins.{AreOrigins}
use Rattle.sci_inherit.specs.ByBlock.{AreByBlock, AreMarksOf, AreAtStart}
use Rattle.sci_inherit.proofs.Gathering.{reaches_block, reaches_output, inherited_block}
use Rattle.sci_inherit.proofs.Sourced.{set_off_block, none_twice}

-- ---- the lists by block

module _ (n : Parts) (w : ℕ → Type 0) (bs : List (List Feed)) (net : IsNet n) (g : Gathered n (OfBlocks w (length n.specs)) bs) where
  done : (q : Feed) {b : ℕ} → w q.block → Reaches n q b → OfBlocks w (length n.specs) q
  done q sender r = record { sender = sender; below = let m = (reaches_output n q net r).block.most in omega (arith, m) }

  rise : (b : ℕ) → AreRising (numbered [] bs b)
  rise zero = λ i j d l m. absurd (omega (arith, m))
  rise (suc p) = g.rising p

  are : (b : ℕ) (q : Feed) → Contains (numbered [] bs b) q ↔ (w q.block × Reaches n q b)
  are zero q = ((λ (k, h, e). absurd (omega arith)), λ r. let l = (reaches_block n q r.1).least in absurd (omega (arith, l)))
  are (suc p) q = ((λ h. let t = (g.exactly p q).0 h in (t.0.sender, t.1)), λ r. (g.exactly p q).1 (done q r.0 r.1, r.1))

-- ---- what a reach keeps

-- by number, what is reached from each block
module _ (n : Parts) (os : List (List ℕ)) (net : IsNet n) (are_onward : AreEach (AreOnward n) os) (long : length os ≡ length n.specs + 1) where
  past : (c b : ℕ) → length n.specs < c → Conditions n c b → ⊥
  past c b far h = let m = (reaches_output n (record { block = c; port = h.branch }) net h.reaches).block.most in omega (arith, m, far)

  pub leads : (c b : ℕ) → Contains (list_at os c) b ↔ Conditions n c b
  leads c b = ⊎_elim
      (λ l. (are_onward c l).exactly b)
      (λ l. (
        (λ has. let h = subst (λ (bs' : List ℕ). Contains bs' b) (get_or_past os c [] l) has in absurd (omega (arith, h.1))),
        λ h. absurd (past c b (omega (arith, long, l)) h),
      ))
      (cases_lt c (length os))

-- the branches that are gathered are of blocks that some source may activate
pub branches_live : (n : Parts) (w : List Bool) (q : Feed) {b : ℕ} → IsNet n → AreWanted n w
    → (IsSender n w Synchronous q.block × Reaches n q b) ↔ (IsLive n q.block × IsSync n q.block × Reaches n q b)
branches_live n w q net wanted = (
  (λ h. ((wanted.live q.block (reaches_output n q net h.1).block h.0.1).0 h.0.0, h.0.1, h.1)),
  λ h. (((wanted.live q.block (reaches_output n q net h.2).block h.1).1 h.0, h.1), h.2),
)

module _ (n : Parts) (w : List Bool) (always : List (List ℕ)) (feeding : List (List Fed)) (bs : List (List Feed)) (os : List (List ℕ)) (net : IsNet n) (wanted : AreWanted n w)
    (are_always : AreEach (λ k l. AreAlways n (source_of n k) l) always) (are_feeding : AreEach (λ k l. AreFeeding n (source_of n k) l) feeding) (in_order : AreEach (λ k l. AreInOrder l) feeding)
    (g : Gathered n (OfBlocks (IsSender n w Synchronous) (length n.specs)) bs) (are_onward : AreEach (AreOnward n) os) where
  pub origins_are : length always ≡ length (sources_of n) → length feeding ≡ length (sources_of n) → length os ≡ length n.specs + 1
      → AreOrigins n (record { always = always; feeding = feeding; branches = bs; onward = os })
  origins_are always_long feeding_long onward_long = record {
    one_each = record { always = always_long; feeding = feeding_long; branches = g.long; onward = onward_long };
    always_once = λ k h. (are_always k (omega (arith, h, always_long))).once;
    always_are = λ k b h. (are_always k (omega (arith, h, always_long))).exactly b;
    feeding_are = λ k f h. are_feeding k (omega (arith, h, feeding_long)) f;
    feeding_in_order = λ k h. in_order k (omega (arith, h, feeding_long));
    branches_rise = rise n (IsSender n w Synchronous) bs net g;
    branches_are = λ b q.
        let is = are n (IsSender n w Synchronous) bs net g b q in
        let told = branches_live n w q {b = b} net wanted in
        ((λ h. told.0 (is.0 h)), λ h. is.1 (told.1 h));
    onward_once = λ c. ⊎_elim
        (λ l. (are_onward c l).once)
        (λ l. subst (IsDistinct nat_eq) (sym (get_or_past os c [] l)) none_twice)
        (cases_lt c (length os));
    onward_are = leads n os net are_onward onward_long;
  }

-- ---- what is kept by block

always_block : (n : Parts) (b : ℕ) → IsAlways n Start b → IsBlock n b
always_block n b h = inherited_block n (SetOff n Start) (set_off_block n Start) h

-- marks of what a walk from the constants has found
pub at_start_are : (n : Parts) (found : List ℕ) (marks : List Bool) → ((b : ℕ) → Contains found b ↔ IsAlways n Start b) → AreMarksOf found (length n.specs) marks → AreAtStart n marks
at_start_are n found marks always m = record {
  long = m.long;
  exactly = λ p. (
    (λ h. (always (suc p)).0 ((m.exactly p).0 h).1),
    λ h. (m.exactly p).1 (let most = (always_block n (suc p) h).most in omega (arith, most), (always (suc p)).1 h),
  );
}

-- marks that are all set
pub all_marked : (n : Parts) (count : ℕ) (w : List Bool) → w ≡ replicate count true → count ≡ length n.specs + 1 → (c : ℕ) → IsBlock n c → IsMarked w c
all_marked n count w e long c is =
    ap (λ (l : List Bool). get_or l c false) e ∙ get_or-replicate count c true false (let m = is.most in omega (arith, m, long))

pub by_block_are : (n : Parts) (w : List Bool) (bs : List (List Feed)) (marks : List Bool) → IsNet n → ((c : ℕ) → IsBlock n c → IsMarked w c) → Gathered n (OfBlocks (IsSender n w Each) (length n.specs)) bs
    → AreAtStart n marks → AreByBlock n (record { reaching = bs; at_start = marks })
by_block_are n w bs marks net all g start = record {
  reaching_long = g.long;
  at_start_long = start.long;
  reaching_rise = rise n (IsSender n w Each) bs net g;
  reaching_are = λ b q. let is = are n (IsSender n w Each) bs net g b q in ((λ h. (is.0 h).1), λ r. is.1 (all q.block (reaches_output n q net r).block, r));
  at_start_is = at;
}
  where
    at : (b : ℕ) → (numbered false marks b ≡ true) ↔ IsAlways n Start b
    at zero = ((λ h. absurd (true≢false (sym h))), λ h. let l = (always_block n zero h).least in absurd (omega (arith, l)))
    at (suc p) = start.exactly p

-- ---- marks

pub marks_none : (found : List ℕ) (ms : List Bool) → ms ≡ [] → AreMarksOf found 0 ms
marks_none found ms e = record {
  long = ap length e;
  exactly = λ p. ((λ h. absurd (true≢false (sym h ∙ ap (λ (l : List Bool). get_or l p false) e))), λ h. let l = h.0 in absurd (omega (arith, l)));
}

pub marks_next : (found : List ℕ) (k : ℕ) (mark : Bool) (old new : List Bool) → (mark ≡ true) ↔ Contains found (k + 1) → new ≡ old ++ mark ∷ [] → AreMarksOf found k old
    → AreMarksOf found (k + 1) new
marks_next found k mark old new is e before = record {
  long = let a = ap length e in let b = length-append old (mark ∷ []) in omega (arith, a, b, before.long);
  exactly = λ p. ⊎_elim (λ s. here p s) (λ d. there p d) (cases_eq p k);
}
  where
    at : (p : ℕ) → get_or new p false ≡ get_or (old ++ mark ∷ []) p false
    at p = ap (λ (l : List Bool). get_or l p false) e

    number : k + 1 ≡ suc k
    number = omega arith

    last : get_or new k false ≡ mark
    last = at k ∙ (ap (λ (j : ℕ). get_or (old ++ mark ∷ []) j false) (sym before.long) ∙ get_or-append_seam old mark [] false)

    here : (p : ℕ) → p ≡ k → (get_or new p false ≡ true) ↔ ((p < k + 1) × Contains found (suc p))
    here p s = subst (λ (j : ℕ). (get_or new j false ≡ true) ↔ ((j < k + 1) × Contains found (suc j))) (sym s)
        ((λ h. (omega arith, subst (Contains found) number (is.0 (sym last ∙ h)))), λ h. last ∙ is.1 (subst (Contains found) (sym number) h.1))

    same : (p : ℕ) → p ≢ k → get_or new p false ≡ get_or old p false
    same p d = ⊎_elim
        (λ l. at p ∙ get_or_append_left old (mark ∷ []) false p l)
        (λ l. at p ∙ (get_or_past (old ++ mark ∷ []) p false (let m = length-append old (mark ∷ []) in omega (arith, m, l, d, before.long)) ∙ sym (get_or_past old p false l)))
        (cases_lt p (length old))

    there : (p : ℕ) → p ≢ k → (get_or new p false ≡ true) ↔ ((p < k + 1) × Contains found (suc p))
    there p d = (
      (λ h. let t = (before.exactly p).0 (sym (same p d) ∙ h) in let l = t.0 in (omega (arith, l), t.1)),
      λ h. same p d ∙ (before.exactly p).1 (let l = h.0 in omega (arith, l, d), h.1),
    )
