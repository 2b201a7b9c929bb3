-- What a block needs: what it depends on, and what that needs.
use Rattle.std.proofs.Common.{ℕ}
use Rattle.sci_loop.specs.Grounded.{Grounded, grounded}
use Rattle.sci_net.specs.declared.Source.{Source}
use Rattle.sci_net.specs.Parts.{Parts}
use Rattle.sci_reaction.specs.Active.{Possible}
use Rattle.sci_reaction.specs.Depends.{Depends}

pub data Needs (n : Parts) (s : Source) (b : ℕ) : ℕ → Type 0 where
  direct : (c : ℕ) → Depends n s b c → Needs n s b c
  further : (a c : ℕ) → Needs n s b a → Depends n s a c → Needs n s b c

pub need_possible : (n : Parts) (s : Source) (b : ℕ) → {c : ℕ} → Needs n s b c → Possible n s c
need_possible n s b (direct c w) = w.on_possible
need_possible n s b (further a c h w) = w.on_possible

-- what is needed by what b depends on
pub needs_from : (n : Parts) (s : Source) (b a : ℕ) → Depends n s b a → {c : ℕ} → Needs n s a c → Needs n s b c
needs_from n s b a w (direct c v) = further a c (direct a w) v
needs_from n s b a w (further d c h v) = further d c (needs_from n s b a w h) v

-- what holds of a block and is handed on to what a block depends on holds of all that it needs
pub handed_on : (n : Parts) (s : Source) (b : ℕ) (P : ℕ → Type 0) → ((c : ℕ) → Depends n s b c → P c) → ((a c : ℕ) → P a → Depends n s a c → P c) → {c : ℕ} → Needs n s b c → P c
handed_on n s b P first more (direct c w) = first c w
handed_on n s b P first more (further a c h w) = more a c (handed_on n s b P first more h) w

-- ---- chains of needs end where those of dependencies do

below : (n : Parts) (s : Source) {a : ℕ} → Grounded (Needs n s) a → (c : ℕ) → Needs n s a c → Grounded (Needs n s) c
below n s (grounded a f) c need = f c need

pub needs_end : (n : Parts) (s : Source) → {b : ℕ} → Grounded (Depends n s) b → Grounded (Needs n s) b
needs_end n s (grounded b f) =
    grounded b (λ c need. handed_on n s b (Grounded (Needs n s)) (λ a w. needs_end n s (f a w)) (λ a d h w. below n s h d (direct d w)) need)
