-- What the tests over marks say of the net.
use Rattle.std.specs.Prelude.{◌≡◌, ℕ, ◌+◌, ◌↔◌, true, List, length, Contains}
use Rattle.sci_base.specs.Lists.{truth_at}
use Rattle.sci_net.specs.declared.Feed.{Feed}
use Rattle.sci_net.specs.declared.Source.{Source}
use Rattle.sci_net.specs.Net.{IsNet}
use Rattle.sci_net.specs.Parts.{Parts}
use Rattle.sci_reaction.specs.Depends.{IsLoopFree}
use Rattle.sci_reaction.specs.Schedule.{Entry, IsRow}
use Rattle.sci_run.specs.Laws.{AreLoopFree}
use Rattle.sci_ranges_base.specs.declared.masks.Masks.{Masks}
use Rattle.sci_ranges_reads.specs.Live.{Dead, MayAct, IsLive}
use Rattle.sci_ranges_reads.specs.Reading.{ActsToo, IsShown, IsUnder, AreMasksAt}
use Rattle.sci_ranges_rows.specs.Marks.{Marks, AreMarks, dead_of, acts_in}
use Rattle.sci_ranges_rows.specs.Tests.{is_shown, is_along, is_under, masks_of}

-- the marks of a row are those of the blocks that its source may activate
abbrev pub MarkedMayAct : Type 0
MarkedMayAct =
    (n : Parts) (dead : Dead) (s : Source) (row : List Entry) (b : ℕ) → IsNet n → IsLoopFree n s → IsRow n s row →
    (truth_at (acts_in dead (length n.specs) row) b ≡ true) ↔ MayAct n dead s b

-- a test that holds of input p of block c, counted from 0, shows that it is shown
abbrev pub ShownByTest : Type 0
ShownByTest =
    (n : Parts) (m : Marks) (c p : ℕ) → IsNet n → AreLoopFree n → AreMarks n m → is_shown n m c p ≡ true → IsShown n (dead_of m.dead) c (p + 1)

-- and one that holds of blocks a and c, that a acts wherever c does
abbrev pub AlongByTest : Type 0
AlongByTest =
    (n : Parts) (m : Marks) (a c : ℕ) (s : Source) → IsNet n → AreLoopFree n → AreMarks n m → is_along m a c ≡ true → IsLive n (dead_of m.dead) s →
    MayAct n (dead_of m.dead) s c → ActsToo n (dead_of m.dead) s a c

abbrev pub UnderByTest : Type 0
UnderByTest =
    (n : Parts) (m : Marks) (q : Feed) (c : ℕ) (s : Source) → IsNet n → AreLoopFree n → AreMarks n m → is_under m q c ≡ true → IsLive n (dead_of m.dead) s →
    MayAct n (dead_of m.dead) s c → IsUnder n (dead_of m.dead) s c q

abbrev pub MasksByTest : Type 0
MasksByTest =
    (n : Parts) (m : Marks) (c : ℕ) (s : Source) → IsNet n → AreLoopFree n → AreMarks n m → IsLive n (dead_of m.dead) s → MayAct n (dead_of m.dead) s c →
    (b : Masks) × Contains (masks_of m c) b × AreMasksAt n (dead_of m.dead) s c b
