use Rattle.sci_vcd.specs.Draft.{waveforms_of}
use Rattle.sci_vcd.proofs.Standing.{at_signals, at_ticks, at_tick, dump_few}
use Rattle.sci_vcd.proofs.machine.pass.Goals as goal

pub next_signal-requires-clause-unchanged : goal.next_signal-requires-clause-unchanged
next_signal-requires-clause-unchanged c = at_signals c.args.reader.stage (waveforms_of c.args.reader.draft) c.in-Signals.is c.requires.stands

pub next_tick-requires-clause-few : goal.next_tick-requires-clause-few
next_tick-requires-clause-few c = dump_few (waveforms_of c.args.reader.draft) (at_ticks c.args.reader.stage (waveforms_of c.args.reader.draft) c.in-Ticks.is c.requires.stands)

pub next_tick-requires-clause-one_each : goal.next_tick-requires-clause-one_each
next_tick-requires-clause-one_each c = (at_ticks c.args.reader.stage (waveforms_of c.args.reader.draft) c.in-Ticks.is c.requires.stands).one_each

pub next_change-requires-clause-few : goal.next_change-requires-clause-few
next_change-requires-clause-few c = dump_few (waveforms_of c.args.reader.draft) (at_tick c.args.reader.stage (waveforms_of c.args.reader.draft) c.in-Tick.tick c.in-Tick.is c.requires.stands)

pub next_change-requires-clause-one_each : goal.next_change-requires-clause-one_each
next_change-requires-clause-one_each c = (at_tick c.args.reader.stage (waveforms_of c.args.reader.draft) c.in-Tick.tick c.in-Tick.is c.requires.stands).one_each
