-- What the tests over marks show.
use Rattle.std.proofs.Common.{◌≡◌, ℕ, zero, suc, ◌+◌, ◌<◌, Bool, true, false, not, ◌||◌, ◌&&◌, ◌⊎◌, inl, inr, ⊎_elim, List, [], ◌∷◌, length, nat_eq, slice_index_or, Contains, Option, Some, None, refl, sym, ap, subst, ◌∙◌, arith, true≢false, cond, max}
use Rattle.std.proofs.lemmas.Bool.{or_cases, cases_lt}
use Rattle.std.proofs.lemmas.Bool.Decides.{nat_tests}
use Rattle.std.proofs.lemmas.List.Elements.{Contains-append_left, Contains-append_right}
use Rattle.std.proofs.lemmas.Nat.Bits.{bit_at_or, bit_at-lt}
use Rattle.std.specs.Prelude.{bit_or}
use Rattle.std.specs.List.{list_any, list_all}
use Rattle.std.specs.Int.{bit_at}
use Rattle.sci_base.specs.Lists.{truth_at}
use Rattle.sci_forms.specs.declared.Kind.{Kind}
use Rattle.sci_forms.specs.declared.Kind.TheVariants.{Select}
use Rattle.sci_forms.proofs.TestLemmas.{nat_same}
use Rattle.sci_net.specs.declared.Feed.{Feed}
use Rattle.sci_net.specs.declared.Source.{Source}
use Rattle.sci_net.specs.declared.Source.TheVariants.{Start, Port}
use Rattle.sci_net.specs.Net.{IsNet}
use Rattle.sci_net.specs.Parts.{Parts, IsBlock, spec_of, wire_of, feeds_of}
use Rattle.sci_net.specs.Sources.{source_of}
use Rattle.sci_reaction.specs.Active.{IsAlways, Reaches, seeded}
use Rattle.sci_reaction.specs.Links.{SourceFeeds}
use Rattle.sci_reaction.specs.Schedule.{Guard, Entry, branch_of}
use Rattle.sci_reaction.proofs.EntriesExact.{source_within}
use Rattle.sci_reaction.proofs.Lists.{and_both, and_true, any_to}
use Rattle.sci_reaction.proofs.Rows.{IsFit, feeds_within}
use Rattle.sci_reaction.proofs.Spreading.{possible, Spread-block}
use Rattle.sci_run.specs.Laws.{AreLoopFree}
use Rattle.sci_ranges_base.specs.declared.masks.Masks.{Masks}
use Rattle.sci_ranges_reads.specs.Live.{MayAct}
use Rattle.sci_ranges_reads.specs.Reading.{MayBeTaken, ActsToo, FedToo, ActsWith, HasActed, IsUnder, AreMasksAt}
use Rattle.sci_ranges_rows.specs.Marks.{Marks, AreMarks, dead_of, lets, acts_at, entry_of, entry_at, may_act}
use Rattle.sci_ranges_rows.specs.Tests.{same_branch, covers, feeds_port, acts_too, fed_too, is_always, same_feed, is_port, acted_first, has_acted, acts_by_entry, shows_at, all_below, is_shown, acts_by_entries, along_at, is_along, is_branch, under_by_entry, under_at, is_under, fed_by, mask_at, masks_below}
use Rattle.sci_ranges_rows.specs.Laws.{ShownByTest, AlongByTest, UnderByTest, MasksByTest}
use Rattle.sci_ranges_rows.proofs.Marking.{not_true, not_of}
use Rattle.sci_ranges_rows.proofs.Placed.{place_of, acts_is, entry_here, entry_fit, always_here}

-- ---- tests of lists and of places

all_to : {A : Type 0} (test : A → Bool) (xs : List A) (x : A) → list_all test xs ≡ true → Contains xs x → test x ≡ true
all_to test [] x h c = absurd (omega (arith, c.1))
all_to test (y ∷ ys) x h (zero, l, e) = subst (λ z. test z ≡ true) e (and_both (test y) (list_all test ys) h).0
all_to test (y ∷ ys) x h (suc k, l, e) = all_to test ys x (and_both (test y) (list_all test ys) h).1 (k, omega (arith, l), e)

pub below_to : (f : ℕ → Bool) (count k : ℕ) → all_below f count ≡ true → k < count → f k ≡ true
below_to f zero k h l = absurd (omega (arith, l))
below_to f (suc count) k h l = elim (cases_lt k count) [
  | inl p ↦ below_to f count k (and_both (all_below f count) (f count) h).0 p
  | inr p ↦ let e : count ≡ k = omega (arith, l, p) in subst (λ c. f c ≡ true) e (and_both (all_below f count) (f count) h).1
]

-- what is left where the first of two doesn't hold
rest_of : (a b : Bool) → (a || b) ≡ true → a ≡ false → b ≡ true
rest_of true b h e = cc
rest_of false b h e = h

pub not_yes : (a b : Bool) → (not a || b) ≡ true → a ≡ true → b ≡ true
not_yes true b h e = h
not_yes false b h e = cc

abbrev feed : ℕ → ℕ → Feed
feed b p = record { block = b; port = p }

same_parts : (a b p q : ℕ) → a ≡ b → p ≡ q → feed a p ≡ feed b q
same_parts a b p q e f = λ i. record { block = e i; port = f i }

module _ (n : Parts) (m : Marks) (net : IsNet n) (free : AreLoopFree n) (marks : AreMarks n m) (k : ℕ) (within : k < length m.rows) where
  -- the guard of a branch that may be taken
  lets_branch : (q : Feed) → MayBeTaken n (dead_of m.dead) (source_of n k) q → (g : Guard) → branch_of g ≡ q → lets (dead_of m.dead) (acts_at m k) g ≡ true
  lets_branch q t g e =
      let P : Feed → Type 0 = λ v. lets (dead_of m.dead) (acts_at m k) (record { block = v.block; port = v.port; mask = 0 }) ≡ true in
      let there : P q = and_true (truth_at (acts_at m k) q.block) (not (dead_of m.dead q.block q.port)) ((acts_is n m net free marks.acts k within q.block).1 t.acts)
      (not_of (dead_of m.dead q.block q.port) t.alive) in
      subst P (sym e) there

  -- and that of one that reaches the block of an entry
  guard_of : (c : Entry) → IsFit n (source_of n k) c → (q : Feed) → MayBeTaken n (dead_of m.dead) (source_of n k) q → Reaches n q c.block
      → (g : Guard) × Contains c.guards g × (branch_of g ≡ q) × (lets (dead_of m.dead) (acts_at m k) g ≡ true)
  guard_of c fit q t reach =
      let has = fit.has_guard q (possible n (source_of n k) _ t.acts) t.sync reach in
      (has.0, has.1, has.2, lets_branch q t has.0 has.2)

  -- a guard that is covered is a branch that reaches the other block
  covered : (a : Entry) → IsFit n (source_of n k) a → (g : Guard) (q : Feed) → covers m k a.guards g ≡ true → lets (dead_of m.dead) (acts_at m k) g ≡ true → branch_of g ≡ q
      → Reaches n q a.block
  covered a fit g q h on e =
      let r = any_to (same_branch g) a.guards (not_yes (lets (dead_of m.dead) (acts_at m k) g) (list_any (same_branch g) a.guards) h on) in
      let both = and_both (nat_eq g.block r.0.block) (nat_eq g.port r.0.port) r.2 in
      let same : branch_of g ≡ branch_of r.0 = same_parts g.block r.0.block g.port r.0.port (nat_same g.block r.0.block both.0) (nat_same g.port r.0.port both.1) in
      subst (λ v. Reaches n v a.block) (sym same ∙ e) (fit.are_guards r.0 r.1).reaches

  -- ---- acting together

  -- both entries, and that of c where c may act
  acts_too_holds : (a c : ℕ) (d e : Entry) → IsFit n (source_of n k) d → IsFit n (source_of n k) e → d.block ≡ a → e.block ≡ c → acts_too m k (Some d) e ≡ true
      → ActsToo n (dead_of m.dead) (source_of n k) a c
  acts_too_holds a c d e fa fc p q h =
      ⊎_elim (λ always. inl (subst (IsAlways n (source_of n k)) p (fa.always_is.0 always)))
      (λ under. let both = and_both (not e.always) (list_all (covers m k d.guards) e.guards) under in
      inr (
        (λ always. true≢false (sym (fc.always_is.1 (subst (IsAlways n (source_of n k)) (sym q) always)) ∙ not_true e.always both.0)),
        λ r t reach. let g = guard_of e fc r t (subst (Reaches n r) (sym q) reach) in
            subst (Reaches n r) p (covered d fa g.0 r (all_to (covers m k d.guards) e.guards g.0 both.1 g.1) g.3 g.2),
      ))
      (or_cases d.always (not e.always && list_all (covers m k d.guards) e.guards) h)

  fed_too_holds : (a c p : ℕ) (d e : Entry) → IsFit n (source_of n k) d → IsFit n (source_of n k) e → d.block ≡ a → e.block ≡ c → IsBlock n c → fed_too m k (Some d) e p ≡ true
      → FedToo n (dead_of m.dead) (source_of n k) a c (p + 1)
  fed_too_holds a c p d e fa fc same also block h =
      ⊎_elim (λ always. inl (subst (IsAlways n (source_of n k)) same (fa.always_is.0 always)))
      (λ under. let both = and_both (not (nat_eq (bit_at e.mask p) 1)) (list_all (λ g. not (feeds_port p g) || covers m k d.guards g) e.guards) under in
      inr (
        (λ fed. let bit : bit_at e.mask p ≡ 1 = (fc.mask_is p).1 (subst (λ b. SourceFeeds n (source_of n k) b (p + 1)) (sym also) fed) in
            true≢false (sym (one_yes (bit_at e.mask p) bit) ∙ not_true (nat_eq (bit_at e.mask p) 1) both.0)),
        λ r t fed.
            let fed_there : Contains (feeds_of n e.block (p + 1)) r = subst (λ b. Contains (feeds_of n b (p + 1)) r) (sym also) fed in
            let block_there : IsBlock n e.block = subst (IsBlock n) (sym also) block in
            let reach : Reaches n r e.block = seeded e.block (record { input = p + 1; within = feeds_within n net.wired e.block (p + 1) r block_there fed_there; fed = fed_there }) in
            let g = guard_of e fc r t reach in
            let on : feeds_port p g.0 ≡ true = one_yes (bit_at g.0.mask p) (((fc.are_guards g.0 g.1).feeds p).1 (subst (Contains (feeds_of n e.block (p + 1))) (sym g.2) fed_there)) in
            let all = all_to (λ g. not (feeds_port p g) || covers m k d.guards g) e.guards g.0 both.1 g.1 in
            subst (Reaches n r) same (covered d fa g.0 r (not_yes (feeds_port p g.0) (covers m k d.guards g.0) all on) g.3 g.2),
      ))
      (or_cases d.always (not (nat_eq (bit_at e.mask p) 1) && list_all (λ g. not (feeds_port p g) || covers m k d.guards g) e.guards) h)
    where
      one_yes : (b : ℕ) → b ≡ 1 → nat_eq b 1 ≡ true
      one_yes b e = grind (arith, nat_tests)

  acts_with_holds : (kind : Kind) (a c p : ℕ) → IsBlock n c → acts_by_entry kind m k (entry_at m k a) (entry_at m k c) p ≡ true
      → ActsWith kind n (dead_of m.dead) (source_of n k) a c (p + 1)
  acts_with_holds kind a c p block h = by_entries kind (entry_at m k a) (entry_at m k c) refl refl h
    where
      by_entries : (kind : Kind) (o r : Option Entry) → entry_at m k a ≡ o → entry_at m k c ≡ r → acts_by_entry kind m k o r p ≡ true
          → ActsWith kind n (dead_of m.dead) (source_of n k) a c (p + 1)
      by_entries kind o None e f h = absurd (true≢false (sym h))
      by_entries Select None (Some d) e f h = absurd (true≢false (sym h))
      by_entries _ None (Some d) e f h = absurd (true≢false (sym h))
      by_entries Select (Some d) (Some x) e f h =
          let fa = entry_fit n m net free marks.acts k within a d e in
          let fc = entry_fit n m net free marks.acts k within c x f in fed_too_holds a c p d x fa.0 fc.0 fa.1 fc.1 block h
      by_entries _ (Some d) (Some x) e f h =
          let fa = entry_fit n m net free marks.acts k within a d e in
          let fc = entry_fit n m net free marks.acts k within c x f in acts_too_holds a c d x fa.0 fc.0 fa.1 fc.1 h

  acts_by_entries_holds : (a c : ℕ) → acts_by_entries m k (entry_at m k a) (entry_at m k c) ≡ true → ActsToo n (dead_of m.dead) (source_of n k) a c
  acts_by_entries_holds a c h = by_entries (entry_at m k a) (entry_at m k c) refl refl h
    where
      by_entries : (o r : Option Entry) → entry_at m k a ≡ o → entry_at m k c ≡ r → acts_by_entries m k o r ≡ true → ActsToo n (dead_of m.dead) (source_of n k) a c
      by_entries o None e f h = absurd (true≢false (sym h))
      by_entries None (Some d) e f h = absurd (true≢false (sym h))
      by_entries (Some d) (Some x) e f h =
          let fa = entry_fit n m net free marks.acts k within a d e in
          let fc = entry_fit n m net free marks.acts k within c x f in acts_too_holds a c d x fa.0 fc.0 fa.1 fc.1 h

  -- ---- under a branch

  under_holds : (q : Feed) (c : ℕ) → under_by_entry m k q (entry_at m k c) ≡ true → IsUnder n (dead_of m.dead) (source_of n k) c q
  under_holds q c h = by_entry (entry_at m k c) refl h
    where
      by_entry : (o : Option Entry) → entry_at m k c ≡ o → under_by_entry m k q o ≡ true → IsUnder n (dead_of m.dead) (source_of n k) c q
      by_entry None e h = absurd (true≢false (sym h))
      by_entry (Some d) e h =
          let f = entry_fit n m net free marks.acts k within c d e in
          let both = and_both (not d.always) (list_all (is_branch m k q) d.guards) h in
          record {
            not_always = λ always. true≢false (sym (f.0.always_is.1 (subst (IsAlways n (source_of n k)) (sym f.1) always)) ∙ not_true d.always both.0);
            only = λ r t reach.
                let g = guard_of d f.0 r t (subst (Reaches n r) (sym f.1) reach) in
                let one = not_yes (lets (dead_of m.dead) (acts_at m k) g.0) (nat_eq g.0.block q.block && nat_eq g.0.port q.port)
                (all_to (is_branch m k q) d.guards g.0 both.1 g.1) g.3 in
                let parts = and_both (nat_eq g.0.block q.block) (nat_eq g.0.port q.port) one in
                sym g.2 ∙ same_parts g.0.block q.block g.0.port q.port (nat_same g.0.block q.block parts.0) (nat_same g.0.port q.port parts.1);
          }

  -- ---- masks

  or_bit : (x y p : ℕ) → (bit_at x p ≡ 1) ⊎ (bit_at y p ≡ 1) → bit_at (bit_or x y) p ≡ 1
  or_bit x y p h = bit_at_or x y p ∙ most (bit_at x p) (bit_at y p) (bit_at-lt x p) (bit_at-lt y p) h
    where
      most : (a b : ℕ) → a < 2 → b < 2 → (a ≡ 1) ⊎ (b ≡ 1) → max a b ≡ 1
      most a b l r (inl e) = omega (arith, l, r, e)
      most a b l r (inr e) = omega (arith, l, r, e)

  fed_by_has : (gs : List Guard) (g : Guard) (p : ℕ) → Contains gs g → lets (dead_of m.dead) (acts_at m k) g ≡ true → bit_at g.mask p ≡ 1 → bit_at (fed_by m k gs) p ≡ 1
  fed_by_has [] g p c on b = absurd (omega (arith, c.1))
  fed_by_has (h ∷ hs) g p (zero, l, e) on b =
      let same : lets (dead_of m.dead) (acts_at m k) h ≡ true = subst (λ (x : Guard). lets (dead_of m.dead) (acts_at m k) x ≡ true) (sym e) on in
      let bit : bit_at h.mask p ≡ 1 = subst (λ (x : Guard). bit_at x.mask p ≡ 1) (sym e) b in
      subst (λ t. bit_at (cond t (bit_or h.mask (fed_by m k hs)) (fed_by m k hs)) p ≡ 1) (sym same) (or_bit h.mask (fed_by m k hs) p (inl bit))
  fed_by_has (h ∷ hs) g p (suc i, l, e) on b =
      let rest = fed_by_has hs g p (i, omega (arith, l), e) on b in by_test (lets (dead_of m.dead) (acts_at m k) h) rest
    where
      by_test : (t : Bool) → bit_at (fed_by m k hs) p ≡ 1 → bit_at (cond t (bit_or h.mask (fed_by m k hs)) (fed_by m k hs)) p ≡ 1
      by_test true r = or_bit h.mask (fed_by m k hs) p (inr r)
      by_test false r = r

  mask_holds : (c : ℕ) (e : Entry) → IsBlock n c → entry_at m k c ≡ Some e
      → AreMasksAt n (dead_of m.dead) (source_of n k) c (record { certain = e.mask; may = bit_or e.mask (fed_by m k e.guards) })
  mask_holds c e block h =
      let f = entry_fit n m net free marks.acts k within c e h in
      record {
        certain = λ p bit.
            let fed : SourceFeeds n (source_of n k) c (p + 1) = subst (λ b. SourceFeeds n (source_of n k) b (p + 1)) f.1 ((f.0.mask_is p).0 bit) in
            (source_within n net.wired (source_of n k) c (p + 1) block fed, fed);
        may = λ p inside how. or_bit e.mask (fed_by m k e.guards) p
            (⊎_elim (λ source. inl ((f.0.mask_is p).1 (subst (λ b. SourceFeeds n (source_of n k) b (p + 1)) (sym f.1) source)))
            (λ w. let fed : Contains (feeds_of n e.block (p + 1)) w.0 = subst (λ b. Contains (feeds_of n b (p + 1)) w.0) (sym f.1) w.2 in
            let own : IsBlock n e.block = subst (IsBlock n) (sym f.1) block in
            let reach : Reaches n w.0 e.block = seeded e.block (record { input = p + 1; within = feeds_within n net.wired e.block (p + 1) w.0 own fed; fed = fed }) in
            let g = guard_of e f.0 w.0 w.1 reach in
            inr (fed_by_has e.guards g.0 p g.1 g.3 (((f.0.are_guards g.0 g.1).feeds p).1 (subst (Contains (feeds_of n e.block (p + 1))) (sym g.2) fed)))) how);
      }

-- ---- the laws

-- the mask of an entry, and those of the source of a place
abbrev mask : Marks → ℕ → Entry → Masks
mask m k e = record { certain = e.mask; may = bit_or e.mask (fed_by m k e.guards) }

abbrev last : Marks → ℕ → ℕ → List Masks
last m c k = cond (may_act m k c) (mask_at m k (entry_at m k c)) []

module _ (n : Parts) (m : Marks) (net : IsNet n) (free : AreLoopFree n) (marks : AreMarks n m) where
  first_within : 0 < length m.rows
  first_within = omega (arith, marks.acts.rows.enough)

  -- a place with an entry is that of a row
  within_of : (f a : ℕ) → is_always (entry_at m f a) ≡ true → f < length m.rows
  within_of f a h = by_rows m.rows f h
    where
      by_rows : (rows : List (List Entry)) (f : ℕ) → is_always (entry_of (slice_index_or rows f []) a) ≡ true → f < length rows
      by_rows [] f h = absurd (true≢false (sym h))
      by_rows (r ∷ rows) zero h = omega arith
      by_rows (r ∷ rows) (suc f) h = let l = by_rows rows f h in omega (arith, l)

  -- it is the same branch
  same_yes : (q r : Feed) → q ≡ r → same_feed r q ≡ true
  same_yes q r e = subst (λ v. same_feed v q ≡ true) e (and_true (nat_eq q.block q.block) (nat_eq q.port q.port) (one q.block) (one q.port))
    where
      one : (x : ℕ) → nat_eq x x ≡ true
      one x = grind (arith, nat_tests)

  acted_first_holds : (f a : ℕ) (q : Feed) → m.first ≡ Some f → acted_first n m (Some f) q a ≡ true → HasActed n (dead_of m.dead) (Port q) a
  acted_first_holds f a q e h = by_source (source_of n f) refl
    where
      both : (not (is_port (source_of n f) q) ≡ true) × (is_always (entry_at m f a) ≡ true)
      both = and_both (not (is_port (source_of n f) q)) (is_always (entry_at m f a)) h

      always : IsAlways n (source_of n f) a
      always = always_here n m net free marks.acts f (within_of f a both.1) a both.1

      by_source : (s : Source) → source_of n f ≡ s → HasActed n (dead_of m.dead) (Port q) a
      by_source Start same = inl (subst (λ s. IsAlways n s a) same always)
      by_source (Port r) same =
          let event = marks.first f e in
          inr (record {
            first = r;
            is_first = record { event = event.0; is_next = event.1; source = ap (source_of n) event.2 ∙ same };
            other = λ z.
                let off : is_port (Port r) q ≡ false = subst (λ s. is_port s q ≡ false) same (not_true (is_port (source_of n f) q) both.0) in
                true≢false (sym (same_yes q r z) ∙ off);
            quiet = marks.quiet f e;
            acts = subst (λ s. IsAlways n s a) same always;
          })

  acted_holds : (s : Source) (a : ℕ) → has_acted n m s a ≡ true → HasActed n (dead_of m.dead) s a
  acted_holds Start a h = true≢false (sym h)
  acted_holds (Port q) a h =
      ⊎_elim (λ at_start. inl (always_here n m net free marks.acts 0 first_within a at_start)) (λ at_first. by_first m.first refl at_first)
      (or_cases (is_always (entry_at m 0 a)) (acted_first n m m.first q a) h)
    where
      by_first : (o : Option ℕ) → m.first ≡ o → acted_first n m o q a ≡ true → HasActed n (dead_of m.dead) (Port q) a
      by_first None e h = absurd (true≢false (sym h))
      by_first (Some f) e h = acted_first_holds f a q e h

  -- at the place of a live source that may activate c
  pub may_here : (k c : ℕ) → (within : k < length m.rows) → truth_at m.live k ≡ true → MayAct n (dead_of m.dead) (source_of n k) c → may_act m k c ≡ true
  may_here k c within live may = and_true (truth_at m.live k) (truth_at (acts_at m k) c) live ((acts_is n m net free marks.acts k within c).1 may)

  shown_here : (c p k : ℕ) → is_shown n m c p ≡ true → k < length m.rows → truth_at m.live k ≡ true → MayAct n (dead_of m.dead) (source_of n k) c
      → HasActed n (dead_of m.dead) (source_of n k) (wire_of n c (p + 1)).block ⊎ ActsWith (spec_of n c).kind n (dead_of m.dead) (source_of n k) (wire_of n c (p + 1)).block c (p + 1)
  shown_here c p k h within live may =
      let a = (wire_of n c (p + 1)).block in
      let test = below_to (λ k. shows_at n m k c p) (length m.rows) k h within in
      let rest = not_yes (may_act m k c) (has_acted n m (source_of n k) a || acts_by_entry (spec_of n c).kind m k (entry_at m k a) (entry_at m k c) p) test (may_here k c within live may) in
      ⊎_elim (λ acted. inl (acted_holds (source_of n k) a acted))
      (λ too. inr (acts_with_holds n m net free marks k within (spec_of n c).kind a c p (Spread-block n (source_of n k) _ may) too))
      (or_cases (has_acted n m (source_of n k) a) (acts_by_entry (spec_of n c).kind m k (entry_at m k a) (entry_at m k c) p) rest)

  along_here : (a c k : ℕ) → is_along m a c ≡ true → k < length m.rows → truth_at m.live k ≡ true → MayAct n (dead_of m.dead) (source_of n k) c
      → ActsToo n (dead_of m.dead) (source_of n k) a c
  along_here a c k h within live may =
      let test = below_to (λ k. along_at m k a c) (length m.rows) k h within in
      acts_by_entries_holds n m net free marks k within a c
      (not_yes (may_act m k c) (acts_by_entries m k (entry_at m k a) (entry_at m k c)) test (may_here k c within live may))

  under_here : (q : Feed) (c k : ℕ) → is_under m q c ≡ true → k < length m.rows → truth_at m.live k ≡ true → MayAct n (dead_of m.dead) (source_of n k) c
      → IsUnder n (dead_of m.dead) (source_of n k) c q
  under_here q c k h within live may =
      let test = below_to (λ k. under_at m q k c) (length m.rows) k h within in
      under_holds n m net free marks k within q c (not_yes (may_act m k c) (under_by_entry m k q (entry_at m k c)) test (may_here k c within live may))

  masks_in : (c k count : ℕ) (e : Entry) → k < count → may_act m k c ≡ true → entry_at m k c ≡ Some e
      → Contains (masks_below m c count) (record { certain = e.mask; may = bit_or e.mask (fed_by m k e.guards) })
  masks_in c k zero e l on h = absurd (omega (arith, l))
  masks_in c k (suc count) e l on h = elim (cases_lt k count) [
    | inl p ↦ Contains-append_left (masks_below m c count) (last m c count) (mask m k e) (masks_in c k count e p on h)
    | inr p ↦ let same : k ≡ count = omega (arith, l, p) in Contains-append_right (masks_below m c count) (last m c count) (mask m k e) (subst (λ j. Contains (last m c j) (mask m k e)) same here)
  ]
    where
      here : Contains (last m c k) (mask m k e)
      here = rw (on, h) (0, omega arith, refl)

pub shown_by_test : ShownByTest
shown_by_test n m c p net free marks h s live may =
    let r = place_of n m marks live in
    subst (λ t. HasActed n (dead_of m.dead) t (wire_of n c (p + 1)).block ⊎ ActsWith (spec_of n c).kind n (dead_of m.dead) t (wire_of n c (p + 1)).block c (p + 1)) r.2
    (shown_here n m net free marks c p r.0 h r.1 r.3 (subst (λ t. MayAct n (dead_of m.dead) t c) (sym r.2) may))

pub along_by_test : AlongByTest
along_by_test n m a c s net free marks h live may =
    let r = place_of n m marks live in
    subst (λ t. ActsToo n (dead_of m.dead) t a c) r.2 (along_here n m net free marks a c r.0 h r.1 r.3 (subst (λ t. MayAct n (dead_of m.dead) t c) (sym r.2) may))

pub under_by_test : UnderByTest
under_by_test n m q c s net free marks h live may =
    let r = place_of n m marks live in
    subst (λ t. IsUnder n (dead_of m.dead) t c q) r.2 (under_here n m net free marks q c r.0 h r.1 r.3 (subst (λ t. MayAct n (dead_of m.dead) t c) (sym r.2) may))

pub masks_by_test : MasksByTest
masks_by_test n m c s net free marks live may =
    let r = place_of n m marks live in
    let here = subst (λ t. MayAct n (dead_of m.dead) t c) (sym r.2) may in
    let e = entry_here n m net free marks.acts r.0 r.1 c (possible n (source_of n r.0) _ here) in
    let b : Masks = record { certain = e.0.mask; may = bit_or e.0.mask (fed_by m r.0 e.0.guards) } in (
      b,
      masks_in n m net free marks c r.0 (length m.rows) e.0 r.1 (may_here n m net free marks r.0 c r.1 r.3 here) e.1,
      subst (λ t. AreMasksAt n (dead_of m.dead) t c b) r.2 (mask_holds n m net free marks r.0 r.1 c e.0 (Spread-block n (source_of n r.0) _ here) e.1),
    )
