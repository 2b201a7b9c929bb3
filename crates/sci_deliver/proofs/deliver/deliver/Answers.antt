use Rattle.std.proofs.Common.{refl, inl}
use Rattle.sci_base.specs.Plain.{violation_of}
use Rattle.sci_answers.specs.Answer.{usage, refused, read_fault, no_memory}
use Rattle.sci_deliver.proofs.Giving.{said_written, trace_written, dump_written, c_written}
use Rattle.sci_deliver.proofs.Counted.{done_counts}
use Rattle.sci_deliver.proofs.Rests.{rest_written}
use Rattle.sci_deliver.proofs.deliver.deliver.Goals as goal

pub returns-in-Usage-clause-delivered : goal.returns-in-Usage-clause-delivered
returns-in-Usage-clause-delivered g c = rw c.in-Usage.is (inl (usage, refl, said_written _ _ _ _ _ _ c.say_usage.ensures))

pub returns-in-Refused-clause-delivered : goal.returns-in-Refused-clause-delivered
returns-in-Refused-clause-delivered g c = rw c.in-Refused.is (inl (refused (violation_of c.in-Refused.refusal), refl, said_written _ _ _ _ _ _ c.refuse.ensures))

pub returns-in-ReadFault-clause-delivered : goal.returns-in-ReadFault-clause-delivered
returns-in-ReadFault-clause-delivered g c = rw c.in-ReadFault.is (inl (read_fault, refl, said_written _ _ _ _ _ _ c.say_read_fault.ensures))

pub returns-in-Memory-clause-delivered : goal.returns-in-Memory-clause-delivered
returns-in-Memory-clause-delivered g c = rw c.in-Memory.is (inl (no_memory, refl, said_written _ _ _ _ _ _ c.say_no_memory.ensures))

pub returns-in-Simulate-clause-delivered : goal.returns-in-Simulate-clause-delivered
returns-in-Simulate-clause-delivered g c =
    rw c.in-Simulate.is (inl (trace_written c.in-Simulate.simulation _ _ _ _ _ c.print_trace.result c.print_trace.ensures.printed c.finish.ensures))

pub returns-in-RunC-clause-delivered : goal.returns-in-RunC-clause-delivered
returns-in-RunC-clause-delivered g c = rw c.in-RunC.is (c_written _ _ _ _ _ _ c.print_run.result c.print_run.ensures c.finish_run.ensures)

pub returns-in-Simulate-clause-left : goal.returns-in-Simulate-clause-left
returns-in-Simulate-clause-left g c =
    rw c.in-Simulate.is (done_counts c.in-Simulate.simulation _ _ _ _ c.print_trace.result c.finish.ensures c.print_trace.ensures.counts_run)

pub returns-in-Dump-clause-delivered : goal.returns-in-Dump-clause-delivered
returns-in-Dump-clause-delivered g c =
    rw c.in-Dump.is (inl (dump_written c.in-Dump.simulation _ _ _ _ _ c.print_dump.result c.print_dump.ensures.printed c.finish-in-Dump.ensures))

pub returns-in-Dump-clause-left : goal.returns-in-Dump-clause-left
returns-in-Dump-clause-left g c =
    rw c.in-Dump.is (done_counts c.in-Dump.simulation _ _ _ _ c.print_dump.result c.finish-in-Dump.ensures c.print_dump.ensures.counts_run)

pub returns-in-Resume-clause-delivered : goal.returns-in-Resume-clause-delivered
returns-in-Resume-clause-delivered g c =
    rw c.in-Resume.is (inl (rest_written c.in-Resume.resumed _ _ _ _ _ c.print_rest.result c.print_rest.ensures.printed c.finish-in-Resume.ensures))
