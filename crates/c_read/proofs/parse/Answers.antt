use Rattle.std.proofs.Common.{◌≡◌, Some, Ok, Err, get_or, rules}
use Rattle.c_ast.specs.View.{whole_of}
use Rattle.c_ast.specs.Events.{program_events}
use Rattle.c_ast.specs.Rules.{blamed_event}
use Rattle.c_ast.specs.Rules.{KeepsRules}
use Rattle.c_read.specs.declared.ProgramStop.TheVariants as stops
use Rattle.c_read.proofs.Uniqueness.{accepts, blames, read_failed}
use Rattle.c_read.proofs.Blaming.{place_within, unruly}
use Rattle.c_read.proofs.parse.Goals as goal

pub index-requires : goal.index-requires
index-requires c =
    let read = c.in_ok-read.read in
    let blamed : blamed_event (program_events (whole_of read.program)) ≡ Some c.in-Some.event = cc (c.in_ok-fault.ensures) in
    let within = place_within (whole_of read.program) read.places.items c.in-Some.event c.in_ok-read.ensures.1 blamed in
    search (rules, within)

pub returns-in-Some-clause-answer : goal.returns-in-Some-clause-answer
returns-in-Some-clause-answer c =
    let read = c.in_ok-read.read in
    let blamed : blamed_event (program_events (whole_of read.program)) ≡ Some c.in-Some.event = cc (c.in_ok-fault.ensures) in
    let byte : c.index.result.now ≡ get_or read.places.items c.in-Some.event c.index.result.now = search rules in
    unruly c.args.bytes.now (whole_of read.program) read.places.items c.in-Some.event c.index.result.now c.in_ok-read.ensures.0 c.in_ok-read.ensures.1 blamed byte

pub returns-in_err-read-clause-byte : goal.returns-in_err-read-clause-byte
returns-in_err-read-clause-byte c = blames c.args.bytes.now c.from_residual.result (read_failed c.args.bytes.now c.read.result c.from_residual.result _ c.in_err-read.was (search rules) c.read.ensures)

pub returns-in-None-clause-program : goal.returns-in-None-clause-program
returns-in-None-clause-program c =
    let keeps : KeepsRules (whole_of c.in_ok-read.read.program) = cc (c.in_ok-fault.ensures) in
    accepts c.args.bytes.now (Ok c.in_ok-read.read.program) (c.in_ok-read.ensures.0, keeps)

pub returns-in-None-clause-byte : goal.returns-in-None-clause-byte
returns-in-None-clause-byte c =
    let keeps : KeepsRules (whole_of c.in_ok-read.read.program) = cc (c.in_ok-fault.ensures) in
    blames c.args.bytes.now (Ok c.in_ok-read.read.program) (c.in_ok-read.ensures.0, keeps)

pub returns-in-Some-clause-program : goal.returns-in-Some-clause-program
returns-in-Some-clause-program c = accepts c.args.bytes.now (Err (stops.NotC c.index.result.now)) (returns-in-Some-clause-answer c)

pub returns-in-Some-clause-byte : goal.returns-in-Some-clause-byte
returns-in-Some-clause-byte c = blames c.args.bytes.now (Err (stops.NotC c.index.result.now)) (returns-in-Some-clause-answer c)
