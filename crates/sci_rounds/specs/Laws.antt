-- The laws of a reaction by rounds.
use Rattle.std.specs.Prelude.{◌≡◌, ℕ, ◌+◌, ◌⊎◌, ◌↔◌, List, [], Contains}
use Rattle.sci_net.specs.declared.Source.{Source}
use Rattle.sci_net.specs.Parts.{Parts, IsBlock}
use Rattle.sci_net.specs.Net.{IsNet}
use Rattle.sci_reaction.specs.Active.{Possible}
use Rattle.sci_reaction.specs.Depends.{IsLoopFree, Precedes}
use Rattle.sci_reaction.specs.Memory.{Memory, Columns}
use Rattle.sci_reaction.specs.Equations.{Signals}
use Rattle.sci_reaction.specs.Result.{Whole, IsResult}
use Rattle.sci_reaction.specs.Pass.{Progress, IsFront}
use Rattle.sci_rounds.specs.Rounds.{IsClosed, IsReady, IsNextDone, IsAlikeOn, IsBehindRounds, IsInRound}

-- a ready block is the next that may be done, whichever it is
abbrev pub ReadyIsNext : Type 0
ReadyIsNext =
    (n : Parts) (m : Memory) (i : Columns) (s : Source) (done : List ℕ) (w : Progress) (b : ℕ) → IsNet n → IsLoopFree n s → IsClosed n s done →
    IsFront n m i s done w → IsReady n s done b → IsNextDone n m i s done w b

-- and the values are those of the reaction once all possible blocks are done
abbrev pub AllDoneIsWhole : Type 0
AllDoneIsWhole =
    (n : Parts) (m : Memory) (i : Columns) (s : Source) (done : List ℕ) (w : Progress) → IsFront n m i s done w → ((c : ℕ) → Possible n s c → Contains done c) →
    IsResult n m i s (Whole w.values)

-- a ready block comes to the same on values that are the same at the blocks that are done and at those that aren't possible
abbrev pub ReadyIsAlike : Type 0
ReadyIsAlike =
    (n : Parts) (m : Memory) (i : Columns) (s : Source) (done : List ℕ) (b : ℕ) (y z : Signals) → IsNet n → IsLoopFree n s → IsClosed n s done →
    IsReady n s done b → ((a : ℕ) → IsBlock n a → (Possible n s a → Contains done a) → y a ≡ z a) → IsAlikeOn n m i s b y z

-- before the first round nothing is done
abbrev pub RoundsBegin : Type 0
RoundsBegin = (n : Parts) (s : Source) → IsBehindRounds n s 0 []

-- a round does all blocks that were ready when it began
abbrev pub RoundsGoOn : Type 0
RoundsGoOn =
    (n : Parts) (s : Source) (k : ℕ) (begun done : List ℕ) → IsBehindRounds n s k begun →
    ((c : ℕ) → Contains done c ↔ (Contains begun c ⊎ IsReady n s begun c)) → IsBehindRounds n s (k + 1) done

-- in a round that goes by number, what stands before a ready block by depth and number is done
abbrev pub EarlierAreDone : Type 0
EarlierAreDone =
    (n : Parts) (s : Source) (k : ℕ) (begun done : List ℕ) (b : ℕ) → IsBehindRounds n s k begun → IsReady n s begun b → IsInRound n s begun b done →
    (c : ℕ) → Possible n s c → Precedes n s c b → Contains done c

-- where no block is ready all possible blocks are done
abbrev pub SomeIsReady : Type 0
SomeIsReady =
    (n : Parts) (s : Source) (done : List ℕ) → IsLoopFree n s → ((c : ℕ) → IsReady n s done c → ⊥) → (c : ℕ) → Possible n s c → Contains done c
