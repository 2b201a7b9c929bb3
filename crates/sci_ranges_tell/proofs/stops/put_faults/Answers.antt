use Rattle.std.proofs.Common.{rules, ap, ℕ, List}
use Rattle.sci_base.specs.declared.observation.StopWord.TheVariants.{Overflow, Zero}
use Rattle.sci_base.specs.Lists.{truth_at}
use Rattle.sci_io.proofs.Advance.{then_writes, stopped, same_text}
use Rattle.sci_ranges_find.specs.View.{ranges_of}
use Rattle.sci_ranges_tell.specs.Told.{listed_line}
use Rattle.sci_ranges_tell.proofs.stops.put_faults.Goals as goal

pub returns-in_err-put_stop : goal.returns-in_err-put_stop
returns-in_err-put_stop g c =
    let r = ranges_of c.args.table.now in
    let b = c.args.block in
    let overflow : List ℕ = listed_line b Overflow (truth_at r.overflows b) in
    let zero : List ℕ = listed_line b Zero (truth_at r.zeros b) in
    stopped overflow zero c.put_stop.result c.from_residual.result _ _ c.in_err-put_stop.was (search rules)
    (same_text (ap (listed_line b Overflow) c.may_overflow.ensures) c.put_stop.ensures)

pub returns : goal.returns
returns g c =
    let r = ranges_of c.args.table.now in
    let b = c.args.block in
    let overflow : List ℕ = listed_line b Overflow (truth_at r.overflows b) in
    let zero : List ℕ = listed_line b Zero (truth_at r.zeros b) in
    then_writes overflow zero c.put_stop.result c.put_stop-2.result _ c.in_ok-put_stop.was
    (same_text (ap (listed_line b Overflow) c.may_overflow.ensures) c.put_stop.ensures)
    (same_text (ap (listed_line b Zero) c.may_divide_by_zero.ensures) c.put_stop-2.ensures)
