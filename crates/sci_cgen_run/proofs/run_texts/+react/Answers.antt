use Rattle.std.proofs.Common.{arith}
use Rattle.sci_cgen_run.proofs.run_texts.+react.Goals as goal

pub react-requires : goal.react-requires
react-requires t c = (omega arith, (omega arith, omega (arith, c.requires.few)))

pub react-requires-2 : goal.react-requires-2
react-requires-2 t c = (omega arith, (omega arith, omega (arith, c.requires.few)))

pub react-requires-3 : goal.react-requires-3
react-requires-3 t c = (omega arith, (omega arith, omega (arith, c.requires.few)))
