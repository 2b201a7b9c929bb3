-- Two assignments of values that meet the equations agree.
use Rattle.std.proofs.Common.{◌≡◌, ℕ, ◌+◌, ◌<◌, true, inl, inr, ⊎_elim, ℤ, List, Result, Ok, refl, sym, ap, subst, ◌∙◌, arith}
use Rattle.std.proofs.lemmas.Nat.Bits.{same_from_bits, bit_at-lt}
use Rattle.std.specs.Int.{bit_at}
use Rattle.sci_base.specs.declared.observation.StopWord.{StopWord}
use Rattle.sci_loop.specs.Grounded.{Grounded, grounded}
use Rattle.sci_net.specs.declared.Source.{Source}
use Rattle.sci_net.specs.Parts.{Parts, IsBlock, IsInput, IsWired, spec_of, wire_of}
use Rattle.sci_reaction.specs.Links.{SuppliesThrough, has_feedthrough}
use Rattle.sci_reaction.specs.Active.{Possible, seeded}
use Rattle.sci_reaction.specs.Depends.{Depends}
use Rattle.sci_reaction.specs.Memory.{Memory, Columns}
use Rattle.sci_reaction.specs.Equations.{Signals, input_in, output_among, branch_on, answer, Takes, Active, BranchFeeds, IsActivated, IsMaskOf, Gives, Meets}
use Rattle.sci_reaction.proofs.Spreading.{possible, why, from_always, from_guard, Spread-block}

-- the inputs are the same where they have feedthrough
abbrev pub AgreeThrough : Parts → ℕ → (ℕ → List ℤ) → (ℕ → List ℤ) → Type 0
AgreeThrough n b xs ys = (k : ℕ) → IsInput n b k → has_feedthrough (spec_of n b) k ≡ true → xs k ≡ ys k

-- what a block gives and the branch that it takes are the same where these inputs are
pub record IsFair (n : Parts) (m : Memory) (i : Columns) : Type 0 where
  pub answers : (b mask : ℕ) (xs ys : ℕ → List ℤ) → IsBlock n b → AgreeThrough n b xs ys → answer n m i b mask xs ≡ answer n m i b mask ys
  pub branches : (b : ℕ) (xs ys : ℕ → List ℤ) → IsBlock n b → AgreeThrough n b xs ys → branch_on (spec_of n b) xs ≡ branch_on (spec_of n b) ys

-- what is known of a block once its needs are settled
pub record Agrees (n : Parts) (s : Source) (y z : Signals) (b : ℕ) : Type 0 where
  pub inputs : Possible n s b → AgreeThrough n b (input_in n y b) (input_in n z b)
  pub there : Active n s y b → Active n s z b
  pub back : Active n s z b → Active n s y b
  pub value : IsBlock n b → y b ≡ z b

pub Agrees-flip : (n : Parts) (s : Source) (y z : Signals) {b : ℕ} → Agrees n s y z b → Agrees n s z y b
Agrees-flip n s y z a = record { inputs = λ p k w t. sym (a.inputs p k w t); there = a.back; back = a.there; value = λ h. sym (a.value h) }

-- what supplies an input is a block of the net
pub supply_block : (n : Parts) → IsWired n → (a b : ℕ) → SuppliesThrough n a b → IsBlock n a
supply_block n ok a b u = subst (IsBlock n) u.from (ok.wires_lead b u.input u.within).block

module _ (n : Parts) (m : Memory) (i : Columns) (s : Source) (ok : IsWired n) (fair : IsFair n m i) where
  -- the needs of b are settled
  abbrev pub Settled : Signals → Signals → ℕ → Type 0
  Settled y z b = (c : ℕ) → Depends n s b c → Agrees n s y z c

  pub Settled-flip : (y z : Signals) (b : ℕ) → Settled y z b → Settled z y b
  Settled-flip y z b h c d = Agrees-flip n s y z (h c d)

  -- a guard takes the same branch on both
  pub takes_there : (y z : Signals) (c q : ℕ) → Agrees n s y z c → Active n s y c → Takes n y c q → Takes n z c q
  takes_there y z c q a active takes =
      sym (fair.branches c _ _ (Spread-block n s _ active) (a.inputs (possible n s _ active))) ∙ takes

  pub active_there : (y z : Signals) (b : ℕ) → Settled y z b → Active n s y b → Active n s z b
  active_there y z b settled active =
      ⊎_elim
      (λ always. from_always n s _ always)
      (λ g. let a = settled g.block (record { possible = possible n s _ active; on_possible = possible n s _ g.spread; waits = inr (record { sync = g.sync; branch = g.port; reaches = g.reaches }) }) in
      from_guard n s _ g.block g.port (a.there g.spread) g.sync (takes_there y z g.block g.port a g.spread g.takes) g.reaches)
      (why n s _ active)

  branch_there : (y z : Signals) (b p : ℕ) → Possible n s b → Settled y z b → IsActivated n s y b p → BranchFeeds n s y b p → BranchFeeds n s z b p
  branch_there y z b p may settled here g =
      let a = settled g.block (record { possible = may; on_possible = possible n s _ g.active; waits = inr (record { sync = g.sync; branch = g.port; reaches = seeded b (record { input = p; within = here.within; fed = g.fed }) }) }) in
      record { block = g.block; port = g.port; active = a.there g.active; sync = g.sync; takes = takes_there y z g.block g.port a g.active g.takes; fed = g.fed }

  pub activated_there : (y z : Signals) (b p : ℕ) → Possible n s b → Settled y z b → IsActivated n s y b p → IsActivated n s z b p
  activated_there y z b p may settled h =
      record { within = h.within; how = ⊎_elim (λ fed. inl fed) (λ g. inr (branch_there y z b p may settled h g)) h.how }

  pub same_mask : (y z : Signals) (b k l : ℕ) → Possible n s b → Settled y z b → IsMaskOf n s y b k → IsMaskOf n s z b l → k ≡ l
  same_mask y z b k l may settled my mz =
      same_from_bits k l (λ p.
      let one : bit_at k p ≡ 1 → bit_at l p ≡ 1 = λ h. (mz p).1 (activated_there y z b (p + 1) may settled ((my p).0 h)) in
      let two : bit_at l p ≡ 1 → bit_at k p ≡ 1 = λ h. (my p).1 (activated_there z y b (p + 1) may (Settled-flip y z b settled) ((mz p).0 h)) in
      bits (bit_at k p) (bit_at l p) (bit_at-lt k p) (bit_at-lt l p) one two)
    where
      bits : (a c : ℕ) → a < 2 → c < 2 → (a ≡ 1 → c ≡ 1) → (c ≡ 1 → a ≡ 1) → a ≡ c
      bits a c ha hc f g = grind arith

  -- Values that meet the equations of a set of blocks that is closed under what they depend on, and of all that are not possible, agree there.
  module _ (S : ℕ → Type 0) (closed : (c d : ℕ) → S c → Depends n s c d → S d) (y z : Signals)
      (my : (b : ℕ) → IsBlock n b → (Possible n s b → S b) → Meets n m i s y b) (mz : (b : ℕ) → IsBlock n b → (Possible n s b → S b) → Meets n m i s z b) where
    -- the source block of an input with feedthrough is settled, whether it may be active or not
    same_supply : (b : ℕ) → Possible n s b → ((d : ℕ) → Depends n s b d → S d) → Settled y z b → (a : ℕ) → SuppliesThrough n a b → y a ≡ z a
    same_supply b may needs settled a u =
        let inside = supply_block n ok a b u in
        let dep : Possible n s a → Depends n s b a = λ p. record { possible = may; on_possible = p; waits = inl u } in
        let by_need : Possible n s a → y a ≡ z a = λ p. (settled a (dep p)).value inside in
        ⊎_elim (λ on. by_need (possible n s _ on.active))
        (λ off. ⊎_elim (λ on. by_need (possible n s _ on.active)) (λ too. off.held ∙ sym too.held) (mz a inside (λ p. needs a (dep p))))
        (my a inside (λ p. needs a (dep p)))

    same_inputs : (b : ℕ) → Possible n s b → ((d : ℕ) → Depends n s b d → S d) → Settled y z b → AgreeThrough n b (input_in n y b) (input_in n z b)
    same_inputs b may needs settled k within through =
        ap (λ v. output_among (spec_of n (wire_of n b k).block).outs v (wire_of n b k).port)
        (same_supply b may needs settled (wire_of n b k).block (record { input = k; within = within; from = refl; through = through }))

    -- what is given is the same
    pub same_given : (b : ℕ) (f g : Result (List ℤ) StopWord) → ((d : ℕ) → Depends n s b d → S d) → Settled y z b → Gives n m i s y b f → Gives n m i s z b g → f ≡ g
    same_given b f g needs settled on too =
        let may = possible n s _ on.active in
        let mask = same_mask y z b on.mask too.mask may settled on.mask_is too.mask_is in
        sym on.answer_is ∙ (ap (λ k. answer n m i b k (input_in n y b)) mask
        ∙ (fair.answers b too.mask _ _ (Spread-block n s _ on.active) (same_inputs b may needs settled) ∙ too.answer_is))

    same_value : (b : ℕ) → (Possible n s b → S b) → Settled y z b → IsBlock n b → y b ≡ z b
    same_value b within settled inside =
        ⊎_elim
        (λ on. ⊎_elim
        (λ too. let same = same_given b (Ok (y b)) (Ok (z b)) (λ d dep. closed b d (within (possible n s _ on.active)) dep) settled on too in cc)
        (λ off. absurd (off.idle (active_there y z b settled on.active))) (mz b inside within))
        (λ off. ⊎_elim (λ on. absurd (off.idle (active_there z y b (Settled-flip y z b settled) on.active))) (λ too. off.held ∙ sym too.held) (mz b inside within))
        (my b inside within)

    pub agrees : {b : ℕ} → Grounded (Depends n s) b → (Possible n s b → S b) → Agrees n s y z b
    agrees (grounded b needs) within =
        let settled : Settled y z b = λ c d. agrees (needs c d) (λ may. closed b c (within d.possible) d) in
        record {
          inputs = λ may. same_inputs b may (λ d dep. closed b d (within may) dep) settled;
          there = active_there y z b settled;
          back = active_there z y b (Settled-flip y z b settled);
          value = same_value b within settled;
        }
