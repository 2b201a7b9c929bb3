use Rattle.std.proofs.Common.{◌≡◌, drop}
use Rattle.c_trim.proofs.Marking.{in_functions}
use Rattle.c_trim.proofs.texts.functions.Given as goal

-- what the functions to come name is noted, and then all that functions name is
abbrev pub invariant-loop-func : goal.invariant-loop-func
invariant-loop-func l = in_functions (drop l.func-index l.funcs) l.candidates ≡ in_functions l.funcs l.initial.candidates
