use Rattle.std.proofs.Common.{refl}
use Rattle.sci_base.specs.Plain.{violation_of}
use Rattle.sci_answers.specs.Answer.{refused, prints, read_fault, no_memory}
use Rattle.sci_range_commands.specs.Due.{usage}
use Rattle.sci_range_commands.specs.Prepared.{ranged_text}
use Rattle.sci_range_commands.proofs.Giving.{said_written}
use Rattle.sci_range_commands.proofs.deliver.deliver.Goals as goal

pub returns-in-Usage : goal.returns-in-Usage
returns-in-Usage g c = rw c.in-Usage.is (usage, refl, said_written _ _ _ _ _ _ c.say_usage.ensures)

pub returns-in-Refused : goal.returns-in-Refused
returns-in-Refused g c = rw c.in-Refused.is (refused (violation_of c.in-Refused.refusal), refl, said_written _ _ _ _ _ _ c.refuse.ensures)

pub returns-in-ReadFault : goal.returns-in-ReadFault
returns-in-ReadFault g c = rw c.in-ReadFault.is (read_fault, refl, said_written _ _ _ _ _ _ c.say_read_fault.ensures)

pub returns-in-Memory : goal.returns-in-Memory
returns-in-Memory g c = rw c.in-Memory.is (no_memory, refl, said_written _ _ _ _ _ _ c.say_no_memory.ensures)

pub returns-in-Ranges : goal.returns-in-Ranges
returns-in-Ranges g c = rw c.in-Ranges.is (prints (ranged_text c.in-Ranges.ranged), refl, c.print_table.ensures)
