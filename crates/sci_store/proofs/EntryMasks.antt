-- The mask of an entry that applies is one that its block may be called on, whatever the marks are.
use Rattle.std.proofs.Common.{◌≡◌, ℕ, zero, suc, ◌+◌, ◌-◌, ◌^◌, ◌<◌, ◌≤◌, Bool, true, false, cond, eqb, ◌⊎◌, ◌↔◌, inl, inr, ⊎_elim, List, [], ◌∷◌, length, get_or, Contains, refl, sym, subst, ◌∙◌, arith, true≢false}
use Rattle.std.proofs.lemmas.Bool.{or_cases, eqb-true, eq-eqb}
use Rattle.std.proofs.lemmas.Nat.Bits.{same_from_bits, bit_at-lt, bit_at-zero}
use Rattle.std.specs.List.{list_any}
use Rattle.std.specs.Int.{bit_at}
use Rattle.std.specs.Int.Bits.{bit_or}
use Rattle.sci_forms.specs.declared.Kind.{Kind}
use Rattle.sci_forms.specs.declared.Kind.TheVariants.{Select}
use Rattle.sci_forms.specs.declared.form.Mask.TheVariants.{Needed}
use Rattle.sci_forms.specs.declared.spec.Spec.{Spec}
use Rattle.sci_forms.specs.Form.{form, is_sync}
use Rattle.sci_kinds.specs.Asks.{Asks, IsMask}
use Rattle.sci_kinds.proofs.LawProofs.{asks}
use Rattle.sci_net.specs.declared.Source.{Source}
use Rattle.sci_net.specs.declared.Source.TheVariants.{Start, Port}
use Rattle.sci_net.specs.Parts.{Parts, IsBlock, IsActivationInput, spec_of, no_spec, feeds_of}
use Rattle.sci_net.specs.Net.{IsNet}
use Rattle.sci_reaction.specs.Links.{SetOff, SourceFeeds, Feeds, Inherits}
use Rattle.sci_reaction.specs.Active.{IsSync, IsAlways, Reaches, seeded, passed}
use Rattle.sci_reaction.specs.Schedule.{Guard, Entry, branch_of}
use Rattle.sci_reaction.proofs.Bits.{bits_of, bits_of-at, bits_below, bit_or-at}
use Rattle.sci_reaction.proofs.Lists.{any_to, cons-Contains, Contains-cons}
use Rattle.sci_reaction.proofs.Rows.{feeds_within}
use Rattle.sci_rounds.specs.Rounds.{TellsActivation}
use Rattle.sci_store.specs.declared.marks.Mark.{Mark}
use Rattle.sci_store.specs.Entries.{is_taken, applies, with_guards, mask_in}

-- ---- synchronous blocks are blocks of the net

sync_at : (ss : List Spec) (k : ℕ) → is_sync (get_or ss k no_spec).kind ≡ true → k < length ss
sync_at [] k h = absurd (true≢false (sym h))
sync_at (s ∷ ss) zero h = omega arith
sync_at (s ∷ ss) (suc k) h = let l = sync_at ss k h in omega (arith, l)

pub sync_block : (n : Parts) (b : ℕ) → IsSync n b → IsBlock n b
sync_block n zero h = absurd (true≢false (sym h))
sync_block n (suc k) h = let l = sync_at n.specs k h in record { least = omega arith; most = omega (arith, l) }

-- ---- bits

few_bits : (mask k : ℕ) → ((p : ℕ) → bit_at mask p ≡ 1 → p < k) → mask < 2 ^ k
few_bits mask k below =
    let t = λ (p : ℕ). eqb (bit_at mask p) 1 in
    let same : mask ≡ bits_of t k =
    same_from_bits mask (bits_of t k) (λ p.
    let made = bits_of-at t k p in
    let one : bit_at mask p ≡ 1 → bit_at (bits_of t k) p ≡ 1 = λ h. made.1 (below p h, eq-eqb (bit_at mask p) 1 h) in
    let two : bit_at (bits_of t k) p ≡ 1 → bit_at mask p ≡ 1 = λ h. eqb-true (bit_at mask p) 1 (made.0 h).1 in
    bits (bit_at mask p) (bit_at (bits_of t k) p) (bit_at-lt mask p) (bit_at-lt (bits_of t k) p) one two) in
    subst (λ v. v < 2 ^ k) (sym same) (bits_below t k)
  where
    bits : (a c : ℕ) → a < 2 → c < 2 → (a ≡ 1 → c ≡ 1) → (c ≡ 1 → a ≡ 1) → a ≡ c
    bits a c ha hc f g = grind arith

-- a guard of the list is taken whose mask has the bit
abbrev Among : List Mark → List Guard → ℕ → Type 0
Among marks gs p = (g : Guard) × Contains gs g × (is_taken marks g ≡ true) × (bit_at g.mask p ≡ 1)

one_guard : (marks : List Mark) (g : Guard) (mask p : ℕ) (t : Bool) → is_taken marks g ≡ t
    → (bit_at (cond t (bit_or mask g.mask) mask) p ≡ 1) ↔ ((bit_at mask p ≡ 1) ⊎ ((is_taken marks g ≡ true) × (bit_at g.mask p ≡ 1)))
one_guard marks g mask p true e = (
  (λ h. ⊎_elim (λ l. inl l) (λ r. inr (e, r)) ((bit_or-at mask g.mask p).0 h)),
  λ h. (bit_or-at mask g.mask p).1 (⊎_elim (λ l. inl l) (λ r. inr r.1) h),
)
one_guard marks g mask p false e = ((λ h. inl h), λ h. ⊎_elim (λ l. l) (λ r. absurd (true≢false (sym r.0 ∙ e))) h)

guards_bits : (marks : List Mark) (gs : List Guard) (mask p : ℕ) → (bit_at (with_guards marks mask gs) p ≡ 1) ↔ ((bit_at mask p ≡ 1) ⊎ Among marks gs p)
guards_bits marks [] mask p = ((λ h. inl h), λ h. ⊎_elim (λ l. l) (λ r. absurd (omega (arith, r.1.1))) h)
guards_bits marks (g ∷ gs) mask p =
    let rest = guards_bits marks gs (cond (is_taken marks g) (bit_or mask g.mask) mask) p in
    let one = one_guard marks g mask p (is_taken marks g) refl in (
      (λ h. ⊎_elim
          (λ l. ⊎_elim (λ old. inl old) (λ new. inr (g, (0, omega arith, refl), new.0, new.1)) (one.0 l))
          (λ r. inr (r.0, cons-Contains g gs r.0 r.1, r.2, r.3))
          (rest.0 h)),
      λ h. rest.1 (⊎_elim
          (λ l. inl (one.1 (inl l)))
          (λ r. ⊎_elim
          (λ same. inl (one.1 (inr (subst (λ (v : Guard). is_taken marks v ≡ true) (sym same) r.2, subst (λ (v : Guard). bit_at v.mask p ≡ 1) (sym same) r.3))))
          (λ there. inr (r.0, there, r.2, r.3))
          (Contains-cons g gs r.0 r.1))
          h),
    )

-- ---- a block whose entry applies is called on some activation input, where its kind wants one

needed_inputs : (k : Kind) (s : Spec) → (form k).mask ≡ Needed → Asks k s → 1 ≤ s.evtin
needed_inputs Select s e a = omega (arith, a.2)
needed_inputs _ s e a = cc

module _ (n : Parts) (s : Source) (net : IsNet n) (e : Entry) (block : IsBlock n e.block) (tells : TellsActivation n s e) (marks : List Mark) where
  from_source : (t : Source) (p : ℕ) → SourceFeeds n t e.block p → IsActivationInput n e.block p
  from_source Start p h = absurd h
  from_source (Port q) p h = feeds_within n net.wired e.block p q block h

  bit_within : (p : ℕ) → bit_at (mask_in marks e) p ≡ 1 → p < (spec_of n e.block).evtin
  bit_within p h = ⊎_elim
      (λ own. let w = (from_source s (p + 1) ((tells.mask_is p).0 own)).most in omega (arith, w))
      (λ g. let b = tells.branches g.0 g.1 in
      let w = (feeds_within n net.wired e.block (p + 1) (branch_of g.0) block ((b.feeds p).0 g.3)).most in omega (arith, w))
      ((guards_bits marks e.guards e.mask p).0 h)

  at_input : (input : ℕ) → 1 ≤ input → input - 1 + 1 ≡ input
  at_input input l = omega (arith, l)

  set_off_bit : (t : Source) → s ≡ t → SetOff n t e.block → 1 ≤ (spec_of n e.block).evtin → (p : ℕ) × (bit_at e.mask p ≡ 1)
  set_off_bit Start same h some = absurd (let none = h.no_activation_input in omega (arith, none, some))
  set_off_bit (Port q) same h some = (
    h.input - 1,
    (tells.mask_is (h.input - 1)).1
        (subst (λ t. SourceFeeds n t e.block (h.input - 1 + 1)) (sym same)
        (subst (λ p. Contains (feeds_of n e.block p) q) (sym (at_input h.input h.within.least)) h.fed)),
  )

  always_bit : {c : ℕ} → IsAlways n s c → c ≡ e.block → 1 ≤ (spec_of n e.block).evtin → (p : ℕ) × (bit_at e.mask p ≡ 1)
  always_bit (seeded b h) same some = set_off_bit s refl (subst (SetOff n s) same h) some
  always_bit (passed a b w i u) same some = absurd (let none = (subst (Inherits n) same i).no_activation_input in omega (arith, none, some))

  fed_bit : (g : Guard) → Contains e.guards g → Feeds n (branch_of g) e.block → (p : ℕ) × (bit_at g.mask p ≡ 1)
  fed_bit g there h = (
    h.input - 1,
    ((tells.branches g there).feeds (h.input - 1)).1
        (subst (λ p. Contains (feeds_of n e.block p) (branch_of g)) (sym (at_input h.input h.within.least)) h.fed),
  )

  guard_bit : {c : ℕ} (g : Guard) → Contains e.guards g → Reaches n (branch_of g) c → c ≡ e.block → 1 ≤ (spec_of n e.block).evtin → (p : ℕ) × (bit_at g.mask p ≡ 1)
  guard_bit g there (seeded b h) same some = fed_bit g there (subst (Feeds n (branch_of g)) same h)
  guard_bit g there (passed a b w i u) same some = absurd (let none = (subst (Inherits n) same i).no_activation_input in omega (arith, none, some))

  some_bit : applies marks e ≡ true → 1 ≤ (spec_of n e.block).evtin → (p : ℕ) × (bit_at (mask_in marks e) p ≡ 1)
  some_bit on some = ⊎_elim
      (λ always. let p = always_bit (tells.always_is.0 always) refl some in (p.0, (guards_bits marks e.guards e.mask p.0).1 (inl p.1)))
      (λ any. let g = any_to (is_taken marks) e.guards any in
      let p = guard_bit g.0 g.1 (tells.branches g.0 g.1).reaches refl some in
      (p.0, (guards_bits marks e.guards e.mask p.0).1 (inr (g.0, g.1, g.2, p.1))))
      (or_cases e.always (list_any (is_taken marks) e.guards) on)

  pub entry_mask : applies marks e ≡ true → IsMask (spec_of n e.block) (mask_in marks e)
  entry_mask on = record {
    few = few_bits (mask_in marks e) (spec_of n e.block).evtin bit_within;
    some = λ needed zero'.
        let some = needed_inputs (spec_of n e.block).kind (spec_of n e.block) needed (asks (spec_of n e.block) (net.typed_specs e.block block)) in
        let p = some_bit on some in
        let off : bit_at (mask_in marks e) p.0 ≡ 0 = subst (λ v. bit_at v p.0 ≡ 0) (sym zero') (bit_at-zero p.0) in
        omega (arith, p.1, off);
  }
