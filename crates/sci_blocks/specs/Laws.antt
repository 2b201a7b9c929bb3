-- What holds of diagrams that are read, and of those that break no rule.
use Rattle.std.specs.Prelude.{◌≡◌, ℕ, ◌≤◌, ◌<◌, ◌≢◌, List, length, is_some, if◌then◌else◌, nat_le, Some, Ok}
use Rattle.sci_base.specs.declared.limits.TheConstants.{DIAGRAM_BYTES}
use Rattle.sci_diagram.specs.Objects.{Objects}
use Rattle.sci_diagram.specs.Reading.{Accepts}
use Rattle.sci_diagram.specs.Tree.{is_pass_through}
use Rattle.sci_blocks.specs.Blocks.{Placed, parts_of}
use Rattle.sci_blocks.specs.Kept.{AreBlocksKept, AreLinksKept}
use Rattle.sci_blocks.specs.Ports.{times, first_broken}
use Rattle.sci_blocks.specs.Rows.{pass_through}
use Rattle.sci_blocks.specs.Sizes.{AreListsShort}
use Rattle.sci_blocks.specs.Wiring.{links_of}

-- a diagram that is read has fewer than 2^32 objects in each list
abbrev pub ReadLaw : Type 0
ReadLaw = (bytes : List ℕ) (d : Objects) → length bytes ≤ DIAGRAM_BYTES → Accepts bytes d → AreListsShort d

-- where no object breaks a rule, and where no link does
abbrev pub BlocksLaw : Type 0
BlocksLaw = (d : Objects) (ps : List Placed) → parts_of d ≡ Ok ps → AreBlocksKept d

abbrev pub LinksLaw : Type 0
LinksLaw = (d : Objects) → links_of d ≡ Ok tt → AreLinksKept d

-- the pass-through objects are those that the reader takes for such
abbrev pub NamesLaw : Type 0
NamesLaw = (gui : List ℕ) → is_some (pass_through gui) ≡ is_pass_through gui

-- how often number n has to occur where there are so many ports
abbrev pub wanted : ℕ → ℕ → ℕ
wanted count n = if nat_le n count then 1 else 0

-- n is the first number from 1 on that doesn't occur as often as it has to
pub record IsFirstBroken (count : ℕ) (ns : List ℕ) (n : ℕ) : Type 0 where
  pub from_one : 1 ≤ n
  pub broken : times n ns ≢ wanted count n
  pub first : (m : ℕ) → 1 ≤ m → m < n → times m ns ≡ wanted count m

abbrev pub NumbersLaw : Type 0
NumbersLaw = (count : ℕ) (ns : List ℕ) (n : ℕ) → first_broken count ns ≡ Some n → IsFirstBroken count ns n
