-- Least sets of blocks: what they have, and why a block is in one.
use Rattle.std.proofs.Common.{ℕ, ◌⊎◌, inl, inr, ⊎_elim}
use Rattle.sci_net.specs.declared.Source.{Source}
use Rattle.sci_net.specs.declared.Source.TheVariants.{Start, Port}
use Rattle.sci_net.specs.Parts.{Parts, IsBlock}
use Rattle.sci_reaction.specs.Links.{Supplies, Feeds, Inherits, SetOff}
use Rattle.sci_reaction.specs.Active.{seeded, passed, Reaches, IsAlways, IsSync, Spread, set_off, taken, inherited, Possible}

-- every set that is closed under the rules contains the least one
pub Spread-least : (n : Parts) (s : Source) (t : ℕ → ℕ → Type 0) (P : ℕ → Type 0) →
    ((b : ℕ) → SetOff n s b → P b) →
    ((c p b : ℕ) → P c → IsSync n c → t c p → Feeds n (record { block = c; port = p }) b → P b) →
    ((a b : ℕ) → P a → Inherits n b → Supplies n a b → P b) → {b : ℕ} → Spread n s t b → P b
Spread-least n s t P first branch inherit (set_off b h) = first b h
Spread-least n s t P first branch inherit (taken c p b d y h f) = branch c p b (Spread-least n s t P first branch inherit d) y h f
Spread-least n s t P first branch inherit (inherited a b d i u) = inherit a b (Spread-least n s t P first branch inherit d) i u

-- more branches, more blocks
pub Spread-more : (n : Parts) (s : Source) (t u : ℕ → ℕ → Type 0) → ((c p : ℕ) → t c p → u c p) → {b : ℕ} → Spread n s t b → Spread n s u b
Spread-more n s t u more (set_off b h) = set_off b h
Spread-more n s t u more (taken c p b d y h f) = taken c p b (Spread-more n s t u more d) y (more c p h) f
Spread-more n s t u more (inherited a b d i v) = inherited a b (Spread-more n s t u more d) i v

pub possible : (n : Parts) (s : Source) (t : ℕ → ℕ → Type 0) → {b : ℕ} → Spread n s t b → Possible n s b
possible n s t d = Spread-more n s t _ (λ c p h. tt) d

-- the synchronous block whose taken branch reaches b
pub record Guarded (n : Parts) (s : Source) (t : ℕ → ℕ → Type 0) (b : ℕ) : Type 0 where
  pub block : ℕ
  pub port : ℕ
  pub spread : Spread n s t block
  pub sync : IsSync n block
  pub takes : t block port
  pub reaches : Reaches n (record { block = block; port = port }) b

-- a block of the least set is set off whatever is taken, or a taken branch reaches it
pub why : (n : Parts) (s : Source) (t : ℕ → ℕ → Type 0) → {b : ℕ} → Spread n s t b → IsAlways n s b ⊎ Guarded n s t b
why n s t (set_off b h) = inl (seeded b h)
why n s t (taken c p b d y h f) = inr (record { block = c; port = p; spread = d; sync = y; takes = h; reaches = seeded b f })
why n s t (inherited a b d i u) =
    ⊎_elim (λ w. inl (passed a b w i u))
    (λ g. inr (record { block = g.block; port = g.port; spread = g.spread; sync = g.sync; takes = g.takes; reaches = passed a b g.reaches i u }))
    (why n s t d)

pub from_always : (n : Parts) (s : Source) (t : ℕ → ℕ → Type 0) → {b : ℕ} → IsAlways n s b → Spread n s t b
from_always n s t (seeded b h) = set_off b h
from_always n s t (passed a b d i u) = inherited a b (from_always n s t d) i u

pub from_guard : (n : Parts) (s : Source) (t : ℕ → ℕ → Type 0) (c p : ℕ) → Spread n s t c → IsSync n c → t c p → {b : ℕ} → Reaches n (record { block = c; port = p }) b → Spread n s t b
from_guard n s t c p d y h (seeded b f) = taken c p b d y h f
from_guard n s t c p d y h (passed a b e i u) = inherited a b (from_guard n s t c p d y h e) i u

-- all of these are blocks of the net
pub SetOff-block : (n : Parts) (s : Source) (b : ℕ) → SetOff n s b → IsBlock n b
SetOff-block n Start b h = h.block
SetOff-block n (Port q) b h = h.within.block

pub Spread-block : (n : Parts) (s : Source) (t : ℕ → ℕ → Type 0) → {b : ℕ} → Spread n s t b → IsBlock n b
Spread-block n s t (set_off b h) = SetOff-block n s b h
Spread-block n s t (taken c p b d y h f) = f.within.block
Spread-block n s t (inherited a b d i u) = u.within.block
