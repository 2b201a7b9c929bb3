use Rattle.std.proofs.Common.{◌≡◌, length}
use Rattle.serde_json.specs.Data.{Members}
use Rattle.sci_json.specs.View.{members_view, put_all}
use Rattle.sci_diagram.specs.Names.{AreFound}
use Rattle.sci_diagram.proofs.table.fill.Given as goal

abbrev pub invariant-loop-name : goal.invariant-loop-name
invariant-loop-name l =
    (fields : Members) → AreFound l.initial.found fields
    → (now : Members) × AreFound l.found now × (put_all (members_view l.members) now ≡ put_all (members_view l.initial.members) fields)

abbrev pub decreases-loop-name : goal.decreases-loop-name
decreases-loop-name l = length l.members
