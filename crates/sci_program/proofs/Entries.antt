-- The entries of a row: their guards, and the place of each in the row.
use Rattle.std.proofs.Common.{◌≡◌, ℕ, ◌+◌, ◌^◌, ◌<◌, ◌≤◌, List, [], ◌∷◌, ◌++◌, Contains, true, eqb, sym, ap, ◌∙◌, subst, arith, eq-eqb, eqb-true, true≢false}
use Rattle.std.specs.Int.{bit_at}
use Rattle.std.proofs.lemmas.List.{map-append}
use Rattle.std.proofs.lemmas.Nat.Bits.{same_from_bits, bit_at-lt}
use Rattle.sci_forms.specs.declared.Kind.{Kind}
use Rattle.sci_forms.specs.declared.Kind.TheVariants.{Select, AndLog}
use Rattle.sci_forms.specs.declared.spec.Spec.{Spec}
use Rattle.sci_forms.specs.Typed.{typed}
use Rattle.sci_kinds.specs.Asks.{Asks}
use Rattle.sci_kinds.proofs.LawProofs.{asks}
use Rattle.sci_net.specs.declared.Feed.{Feed}
use Rattle.sci_net.specs.declared.Source.{Source}
use Rattle.sci_net.specs.declared.Source.TheVariants.{Start, Port}
use Rattle.sci_net.specs.Parts.{Parts, IsBlock, IsWired, spec_of, feeds_of}
use Rattle.sci_net.specs.Net.{IsNet}
use Rattle.sci_reaction.specs.Links.{SourceFeeds}
use Rattle.sci_reaction.specs.Active.{seeded, passed, Reaches, Possible}
use Rattle.sci_reaction.specs.Depends.{IsLoopFree}
use Rattle.sci_reaction.specs.Equations.{HasBits}
use Rattle.sci_reaction.specs.Schedule.{Guard, Entry, blocks_of, branch_of, IsRow}
use Rattle.sci_reaction.proofs.Bits.{bits_of, bits_of-at, bits_below}
use Rattle.sci_reaction.proofs.Spreading.{Spread-block}
use Rattle.sci_reaction.proofs.Rows.{Contains-mid, Contains-has, Sorted, once, block_in, row_plan, feeds_within, IsPlan, IsFit}
use Rattle.sci_forms.specs.Form.{reads_mask}
use Rattle.sci_program.proofs.Marks.{IsGuarding}

-- a number without bits from k on
few_bits : (mask k : ℕ) → ((p : ℕ) → bit_at mask p ≡ 1 → p < k) → mask < 2 ^ k
few_bits mask k below =
    let t = λ (p : ℕ). eqb (bit_at mask p) 1 in
    let same : mask ≡ bits_of t k =
    same_from_bits mask (bits_of t k) (λ p.
    let made = bits_of-at t k p in
    let one : bit_at mask p ≡ 1 → bit_at (bits_of t k) p ≡ 1 = λ h. made.1 (below p h, eq-eqb (bit_at mask p) 1 h) in
    let two : bit_at (bits_of t k) p ≡ 1 → bit_at mask p ≡ 1 = λ h. eqb-true (bit_at mask p) 1 (made.0 h).1 in
    bits (bit_at mask p) (bit_at (bits_of t k) p) (bit_at-lt mask p) (bit_at-lt (bits_of t k) p) one two) in
    subst (λ v. v < 2 ^ k) (sym same) (bits_below t k)
  where
    bits : (a c : ℕ) → a < 2 → c < 2 → (a ≡ 1 → c ≡ 1) → (c ≡ 1 → a ≡ 1) → a ≡ c
    bits a c ha hc f g = grind arith

-- the mask of an output that feeds activation inputs of b
feed_mask : (n : Parts) → IsWired n → (b mask : ℕ) (q : Feed) → IsBlock n b → HasBits mask (λ p. Contains (feeds_of n b p) q) → mask < 2 ^ (spec_of n b).evtin
feed_mask n ok b mask q inside bits =
    few_bits mask (spec_of n b).evtin (λ p h. let w = (feeds_within n ok b (p + 1) q inside ((bits p).0 h)).most in omega (arith, w))

pub source_mask : (n : Parts) → IsWired n → (b mask : ℕ) (s : Source) → IsBlock n b → HasBits mask (SourceFeeds n s b) → mask < 2 ^ (spec_of n b).evtin
source_mask n ok b mask Start inside bits = few_bits mask (spec_of n b).evtin (λ p h. absurd ((bits p).0 h))
source_mask n ok b mask (Port q) inside bits = feed_mask n ok b mask q inside bits

-- what reaches a block is an activation output
pub reached : (n : Parts) → IsWired n → (q : Feed) {b : ℕ} → Reaches n q b → 1 ≤ q.port
reached n ok q (seeded b f) = (ok.feeds_lead b f.input q f.within f.fed).least
reached n ok q (passed a b r i u) = reached n ok q r

few_inputs_of : (k : Kind) (s : Spec) → Asks k s → reads_mask k ≡ true → s.evtin ≤ 8
few_inputs_of Select s a h = a.3
few_inputs_of AndLog s a h = omega (arith, a.2)
few_inputs_of _ s a h = absurd (true≢false (sym h))

-- a kind that reads its mask has few activation inputs
pub few_inputs : (s : Spec) → typed s ≡ true → reads_mask s.kind ≡ true → s.evtin ≤ 8
few_inputs s t h = few_inputs_of s.kind s (asks s t) h

-- ---- an entry of a row

module _ (n : Parts) (s : Source) (net : IsNet n) (free : IsLoopFree n s) (row : List Entry) (is : IsRow n s row) (pre post : List Entry) (e : Entry)
    (split : row ≡ pre ++ e ∷ post) where
  plan : IsPlan n s row
  plan = row_plan n s net.wired row is

  there : Contains row e
  there = subst (λ es. Contains es e) (sym split) (Contains-mid pre post e)

  fits : IsFit n s e
  fits = plan.entries e there

  pub here_in_row : Contains (blocks_of row) e.block
  here_in_row = block_in row e there

  pub block_here : IsBlock n e.block
  block_here = Spread-block n s _ ((is.exactly e.block).0 here_in_row)

  pub mask_few : e.mask < 2 ^ (spec_of n e.block).evtin
  mask_few = source_mask n net.wired e.block e.mask s block_here fits.mask_is

  pub guarding : (q : Guard) → Contains e.guards q → IsGuarding n e.block q
  guarding q c =
      let h = fits.are_guards q c in
      record {
        block = Spread-block n s _ h.possible;
        sync = h.sync;
        port = reached n net.wired (branch_of q) h.reaches;
        few = feed_mask n net.wired e.block q.mask (branch_of q) block_here h.feeds;
      }

  pub guard_possible : (q : Guard) → Contains e.guards q → Possible n s q.block
  guard_possible q c = (fits.are_guards q c).possible

  in_blocks : blocks_of row ≡ blocks_of pre ++ e.block ∷ blocks_of post
  in_blocks = ap blocks_of split ∙ map-append (λ (x : Entry). x.block) pre (e ∷ post)

  -- its block isn't done before
  pub fresh : Contains (blocks_of pre) e.block → ⊥
  fresh h =
      once n s free (blocks_of pre) (blocks_of post) e.block (subst (Sorted n s) in_blocks plan.sorted) (Contains-has (blocks_of pre) e.block h)

  pub done_next : blocks_of (pre ++ e ∷ []) ≡ blocks_of pre ++ e.block ∷ []
  done_next = map-append (λ (x : Entry). x.block) pre (e ∷ [])
