-- The possible blocks of a source.
use Rattle.std.proofs.Common.{◌≡◌, ◌<◌, ◌+◌, ◌↔◌, ℕ, List, arith, length, get_or}
use Rattle.std.specs.Prelude.{Contains, All}
use Rattle.std.proofs.lemmas.List.Elements.{Contains-get_or}
use Rattle.sci_loop.specs.Lists.{list_at}
use Rattle.sci_loop.specs.Reached.{IsReached, start, onward}
use Rattle.sci_net.specs.declared.Source.{Source}
use Rattle.sci_net.specs.Parts.{Parts, IsBlock}
use Rattle.sci_reaction.specs.Links.{Inherits, Supplies}
use Rattle.sci_reaction.specs.Active.{seeded, passed, IsAlways, Possible}
use Rattle.sci_reaction.specs.Depends.{Conditions}
use Rattle.sci_reaction.proofs.Spreading.{Spread-least, from_always, from_guard, SetOff-block}
use Rattle.sci_inherit.proofs.Gathering.{reaches_block}

-- ---- what the source activates by itself

always_block : (n : Parts) (s : Source) → {b : ℕ} → IsAlways n s b → IsBlock n b
always_block n s (seeded b h) = SetOff-block n s b h
always_block n s (passed a b d i u) = u.within.block

pub always_inside : (n : Parts) (s : Source) (bs : List ℕ) (m : ℕ) → ((b : ℕ) → Contains bs b ↔ IsAlways n s b) → m ≡ length n.specs + 1 → All (λ b. b < m) bs
always_inside n s bs m are count j d h =
    let l = (always_block n s ((are (get_or bs j d)).0 (Contains-get_or bs j d h))).most in omega (arith, l, count)

-- ---- and from there along branches

pub onward_inside : (n : Parts) (os : List (List ℕ)) (m : ℕ) → ((c b : ℕ) → Contains (list_at os c) b ↔ Conditions n c b) → m ≡ length n.specs + 1 → (c : ℕ) → All (λ b. b < m) (list_at os c)
onward_inside n os m are count c j d h =
    let k = (are c (get_or (list_at os c) j d)).0 (Contains-get_or (list_at os c) j d h) in
    let l = (reaches_block n (record { block = c; port = k.branch }) k.reaches).most in omega (arith, l, count)

module _ (n : Parts) (s : Source) (os : List (List ℕ)) (bs : List ℕ) (always : (b : ℕ) → Contains bs b ↔ IsAlways n s b)
    (are : (c b : ℕ) → Contains (list_at os c) b ↔ Conditions n c b) where
  to : {b : ℕ} → IsReached os bs b → Possible n s b
  to (start b h) = from_always n s _ ((always b).0 h)
  to (onward a b r h) = let k = (are a b).0 h in from_guard n s _ a k.branch (to r) k.sync tt k.reaches

  -- what is reached is closed under inheritance
  inherit : (a b : ℕ) → IsReached os bs a → Inherits n b → Supplies n a b → IsReached os bs b
  inherit a b (start c h) i u = start b ((always b).1 (passed c b ((always c).0 h) i u))
  inherit a b (onward c d r h) i u = let k = (are c d).0 h in onward c b r ((are c b).1 (record { sync = k.sync; branch = k.branch; reaches = passed d b k.reaches i u }))

  from : {b : ℕ} → Possible n s b → IsReached os bs b
  from p = Spread-least n s _ (IsReached os bs)
      (λ b h. start b ((always b).1 (seeded b h)))
      (λ c q b r y t f. onward c b r ((are c b).1 (record { sync = y; branch = q; reaches = seeded b f })))
      inherit p

  pub possible_are : (b : ℕ) → IsReached os bs b ↔ Possible n s b
  possible_are b = (to, from)
