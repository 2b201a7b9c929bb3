-- The variables that a memory holds.
use Rattle.std.specs.Prelude.{List, map}
use Rattle.c_ast.specs.View.{declared_of}
use Rattle.c_run.specs.declared.memory.Memory.{Memory}
use Rattle.c_mean.specs.Meaning.{Slot}
use Rattle.c_run.specs.Spans.{cut}

abbrev pub slots : Memory → List Slot
slots m = cut (map declared_of m.decls.now) m.cells.items
