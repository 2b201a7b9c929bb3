-- What holds of the blocks that may act.
use Rattle.std.specs.Prelude.{ℕ, pos, ◌≤ℤ◌}
use Rattle.sci_net.specs.declared.Feed.{Feed}
use Rattle.sci_net.specs.declared.Source.{Source}
use Rattle.sci_net.specs.declared.Source.TheVariants.{Port}
use Rattle.sci_net.specs.Parts.{Parts}
use Rattle.sci_reaction.specs.Links.{IsSource}
use Rattle.sci_reaction.specs.Active.{IsSync, Reaches}
use Rattle.sci_reaction.specs.Equations.{Signals, Takes, Active, IsActivated, IsMaskOf}
use Rattle.sci_run.specs.Activity.{Activity, IsActivity}
use Rattle.sci_run.specs.Programs.{delay_of}
use Rattle.sci_ranges_base.specs.declared.masks.Masks.{Masks}
use Rattle.sci_ranges_base.specs.Masks.{IsBetween}
use Rattle.sci_ranges_reads.specs.Live.{Dead, MayAct, AreKnown, IsLive}
use Rattle.sci_ranges_reads.specs.Reading.{ActsToo, FedToo, IsUnder, AreMasksAt}

-- an active block is one that may act
abbrev pub ActiveMayAct : Type 0
ActiveMayAct = (n : Parts) (dead : Dead) (s : Source) (y : Signals) (b : ℕ) → AreKnown n dead s y b → Active n s y b → MayAct n dead s b

abbrev pub ActsTooIsActive : Type 0
ActsTooIsActive =
    (n : Parts) (dead : Dead) (s : Source) (y : Signals) (a c : ℕ) → AreKnown n dead s y c → ActsToo n dead s a c → Active n s y c → Active n s y a

abbrev pub FedTooIsActive : Type 0
FedTooIsActive =
    (n : Parts) (dead : Dead) (s : Source) (y : Signals) (a c p : ℕ) → AreKnown n dead s y c → FedToo n dead s a c p → IsActivated n s y c p → Active n s y a

-- the one branch is taken by an active block, which decides on c
abbrev pub UnderIsTaken : Type 0
UnderIsTaken =
    (n : Parts) (dead : Dead) (s : Source) (y : Signals) (c : ℕ) (q : Feed) → AreKnown n dead s y c → IsUnder n dead s c q → Active n s y c →
    Active n s y q.block × IsSync n q.block × Takes n y q.block q.port × Reaches n q c

abbrev pub MasksAreBetween : Type 0
MasksAreBetween =
    (n : Parts) (dead : Dead) (s : Source) (y : Signals) (c mask : ℕ) (b : Masks) → AreKnown n dead s y c → AreMasksAt n dead s c b → IsMaskOf n s y c mask →
    IsBetween b mask

-- the source of an event that a block of a live source's reaction programs is live
abbrev pub ProgrammedIsLive : Type 0
ProgrammedIsLive =
    (n : Parts) (dead : Dead) (s : Source) (y : Signals) (active : Activity) (q : Feed) → IsActivity n s y active → IsLive n dead s → IsSource n (Port q) →
    (Active n s y q.block → MayAct n dead s q.block) → pos 0 ≤ℤ delay_of n y active q → IsLive n dead (Port q)
