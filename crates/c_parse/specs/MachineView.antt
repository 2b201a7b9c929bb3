-- What was read, without where it lies in memory.
use Rattle.std.specs.Prelude.{ℕ, List, map}
use Rattle.c_ast.specs.View.{exp_of, statements_of, declared_of, function_of, whole_of}
use Rattle.c_parse.specs.declared.machine.BlockHead.{BlockHead}
use Rattle.c_parse.specs.declared.machine.BlockHead.TheVariants as heads
use Rattle.c_parse.specs.declared.machine.Stack.{Stack}
use Rattle.c_parse.specs.declared.machine.Stack.TheVariants as stacks
use Rattle.c_parse.specs.declared.parser.Parser.{Parser}
use Rattle.c_parse.specs.declared.parser.Parser.TheVariants as parsers
use Rattle.c_parse.specs.Machine.{Opened, first, second, turn, Open, bottom, inner, State, heading, outside, body, over}

abbrev pub opened_of : BlockHead → Opened
opened_of (heads.First e) = first (exp_of e)
opened_of (heads.Second e l) = second (exp_of e) (statements_of l.items)
opened_of (heads.Turn x n) = turn x n

abbrev pub open_of : Stack → Open
open_of (stacks.Bottom l) = bottom (statements_of l.items)
open_of (stacks.Inner' l h p rest) = inner (statements_of l.items) (opened_of h) (open_of rest)

abbrev pub state_of : Parser → State
state_of (parsers.Heading t) = heading t.now
state_of (parsers.Outside ds fs) = outside (map declared_of ds.items) (map function_of fs.items)
state_of (parsers.Body ds fs owner s) = body (map declared_of ds.items) (map function_of fs.items) owner (open_of s)
state_of (parsers.Over p) = over (whole_of p)
