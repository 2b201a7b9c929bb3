-- Laws of relations that a test decides.
use Rattle.std.specs.Prelude.{◌≡◌, ℕ, ◌<◌, Bool, true, List, ◌++◌}
use Rattle.sci_loop.specs.Loops.{IsLoop, HasNoLoop}
use Rattle.sci_loop.specs.Depth.{ChainTo, IsDepth}
use Rattle.sci_loop.specs.Grounded.{Grounded}

-- c needs b where the test says so
abbrev pub Tests : (ℕ → ℕ → Bool) → ℕ → ℕ → Type 0
Tests test c b = test c b ≡ true

-- what is needed is below the size
abbrev pub IsBelow : (ℕ → ℕ → Bool) → ℕ → Type 0
IsBelow test size = (c b : ℕ) → Tests test c b → b < size

abbrev pub NoLoopIsGrounded : Type 0
NoLoopIsGrounded =
    (test : ℕ → ℕ → Bool) (size c : ℕ) → IsBelow test size → HasNoLoop (Tests test) → c < size → Grounded (Tests test) c

-- no chain has as many needs as there are numbers
abbrev pub ChainsAreShort : Type 0
ChainsAreShort =
    (test : ℕ → ℕ → Bool) (size c : ℕ) → IsBelow test size → HasNoLoop (Tests test) → c < size → ChainTo (Tests test) size c → ⊥

abbrev pub GroundedHasNoLoop : Type 0
GroundedHasNoLoop = (test : ℕ → ℕ → Bool) → ((c b : ℕ) → Tests test c b → Grounded (Tests test) c) → HasNoLoop (Tests test)

abbrev pub HasDepth : Type 0
HasDepth =
    (test : ℕ → ℕ → Bool) (size c : ℕ) → IsBelow test size → HasNoLoop (Tests test) → c < size → (d : ℕ) × IsDepth (Tests test) c d

abbrev pub OneDepth : Type 0
OneDepth = (test : ℕ → ℕ → Bool) (c d e : ℕ) → IsDepth (Tests test) c d → IsDepth (Tests test) c e → d ≡ e

-- what a number needs has a smaller depth
abbrev pub DepthRises : Type 0
DepthRises =
    (test : ℕ → ℕ → Bool) (c b d e : ℕ) → Tests test c b → IsDepth (Tests test) c d → IsDepth (Tests test) b e → e < d

abbrev pub LoopsTurn : Type 0
LoopsTurn = (test : ℕ → ℕ → Bool) (xs ys : List ℕ) → IsLoop (Tests test) (xs ++ ys) → IsLoop (Tests test) (ys ++ xs)
