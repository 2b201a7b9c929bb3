-- The end of a block in memory.
use Rattle.std.proofs.Common.{◌≡◌, ℕ, ◌<◌, List, [], length, Option, Some, None, refl, sym, ap, ◌∙◌, subst, arith, Result}
use Rattle.std.specs.declared.vec.Vec.{Vec}
use Rattle.std.specs.declared.alloc.Global.{Global}
use Rattle.c_ast.specs.declared.Name.{Name}
use Rattle.c_ast.specs.declared.Bound.{Bound}
use Rattle.c_ast.specs.declared.Expr.{Expr}
use Rattle.c_ast.specs.declared.Stmt.{Stmt, If, For}
use Rattle.c_ast.specs.Syntax.{Statement, choice, loop, Block}
use Rattle.c_ast.specs.View.{exp_of, statement_of, statements_of}
use Rattle.c_ast.proofs.Views.{choice_is, loop_is}
use Rattle.sci_text.specs.declared.stop.TextStop.{TextStop}
use Rattle.c_parse.specs.declared.machine.BlockHead.{BlockHead}
use Rattle.c_parse.specs.declared.machine.BlockHead.TheVariants as heads
use Rattle.c_parse.specs.declared.machine.Stack.{Stack}
use Rattle.sci_text.specs.Stops.{Gives}
use Rattle.c_parse.specs.Machine.{Opened, Open, add, closes}
use Rattle.c_parse.specs.MachineView.{opened_of, open_of}
use Rattle.c_parse.proofs.MemoryLaws.{closes_second, closes_none}

abbrev Ends : Result Stack TextStop → List Stmt → BlockHead → Stack → Type 0
Ends r list head rest = Gives open_of r (closes (statements_of list) (opened_of head) (open_of rest))

abbrev Adds : Result Stack TextStop → Stmt → Stack → Type 0
Adds r s rest = Gives open_of r (Some (add (statement_of s) (open_of rest)))

ends_as : (r : Result Stack TextStop) (list : List Stmt) (head : BlockHead) (rest : Stack) (s : Stmt) → closes (statements_of list) (opened_of head) (open_of rest) ≡ Some (add (statement_of s) (open_of rest)) → Adds r s rest → Ends r list head rest
ends_as r list head rest s e a = subst (λ (o : Option Open). Gives open_of r o) (sym e) a

pub ended_first : (r : Result Stack TextStop) (e : Expr) (list v : Vec Stmt Global) (head : BlockHead) (rest : Stack) → head ≡ heads.First e → v.items ≡ [] → Adds r (If e list v) rest → Ends r list.items head rest
ended_first r e list v head rest is none a =
    ends_as r list.items head rest (If e list v)
    (ap (λ (h : BlockHead). closes (statements_of list.items) (opened_of h) (open_of rest)) is
    ∙ ap (λ (s : Statement). Some (add s (open_of rest))) (sym (choice_is e list v ∙ ap (λ (l : List Stmt). choice (exp_of e) (statements_of list.items) (statements_of l)) none))) a

pub ended_second : (r : Result Stack TextStop) (e : Expr) (part list : Vec Stmt Global) (head : BlockHead) (rest : Stack) → head ≡ heads.Second e part → 0 < length list.items → Adds r (If e part list) rest → Ends r list.items head rest
ended_second r e part list head rest is some a =
    ends_as r list.items head rest (If e part list)
    (ap (λ (h : BlockHead). closes (statements_of list.items) (opened_of h) (open_of rest)) is ∙ closes_second list.items (exp_of e) (statements_of part.items) (open_of rest) some
    ∙ ap (λ (s : Statement). Some (add s (open_of rest))) (sym (choice_is e part list))) a

pub ended_empty : (e : Expr) (part list : Vec Stmt Global) (head : BlockHead) (rest : Stack) → head ≡ heads.Second e part → length list.items ≡ 0 → closes (statements_of list.items) (opened_of head) (open_of rest) ≡ None
ended_empty e part list head rest is none = ap (λ (h : BlockHead). closes (statements_of list.items) (opened_of h) (open_of rest)) is ∙ closes_none list.items (exp_of e) (statements_of part.items) (open_of rest) none

pub ended_turn : (r : Result Stack TextStop) (x : Name) (n : Bound) (list : Vec Stmt Global) (head : BlockHead) (rest : Stack) → head ≡ heads.Turn x n → Adds r (For x n list) rest → Ends r list.items head rest
ended_turn r x n list head rest is a =
    ends_as r list.items head rest (For x n list)
    (ap (λ (h : BlockHead). closes (statements_of list.items) (opened_of h) (open_of rest)) is
    ∙ ap (λ (s : Statement). Some (add s (open_of rest))) (sym (loop_is x n list))) a
