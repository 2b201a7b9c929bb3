-- The events of statements with lists in them.
use Rattle.std.proofs.Common.{◌≡◌, List, [], ◌∷◌, ◌++◌, sym, ap, ◌∙◌, append_assoc}
use Rattle.std.specs.declared.vec.Vec.{Vec}
use Rattle.std.specs.declared.alloc.Global.{Global}
use Rattle.c_ast.specs.declared.Name.{Name}
use Rattle.c_ast.specs.declared.Bound.{Bound}
use Rattle.c_ast.specs.declared.Expr.{Expr}
use Rattle.c_ast.specs.declared.Stmt.{Stmt, If, For}
use Rattle.c_ast.specs.declared.events.TextEvent.{TextEvent}
use Rattle.c_ast.specs.declared.events.TextEvent.TheVariants as events
use Rattle.c_ast.specs.Syntax.{Statement}
use Rattle.c_ast.specs.View.{exp_of, statement_of, statements_of}
use Rattle.c_ast.specs.Events.{exp_events, bound_events, statement_events, block_events}
use Rattle.c_ast.proofs.Views.{choice_is, loop_is}

regroup : (l e i a b c : List TextEvent) → ((((l ++ e) ++ i) ++ a) ++ b) ++ c ≡ l ++ (e ++ (i ++ (a ++ (b ++ c))))
regroup l e i a b c = simp append_assoc

regroup_three : (l e a c : List TextEvent) → ((l ++ e) ++ a) ++ c ≡ l ++ (e ++ (a ++ c))
regroup_three l e a c = simp append_assoc

abbrev of_list : List Stmt → List TextEvent
of_list l = block_events (statements_of l)

pub if_listed : (l0 l1 l2 l3 l4 l5 : List TextEvent) (s : Stmt) (e : Expr) (a b : Vec Stmt Global) (la lb : List Stmt) → s ≡ If e a b → la ≡ a.items → lb ≡ b.items
    → l1 ≡ l0 ++ exp_events (exp_of e) → l2 ≡ l1 ++ (events.If ∷ []) → l3 ≡ l2 ++ of_list la → l4 ≡ l3 ++ of_list lb → l5 ≡ l4 ++ (events.Close ∷ [])
    → l5 ≡ l0 ++ statement_events (statement_of s)
if_listed l0 l1 l2 l3 l4 l5 s e a b la lb is ia ib e1 e2 e3 e4 e5 =
    let a' : l3 ≡ l2 ++ of_list a.items = e3 ∙ ap (λ (m : List Stmt). l2 ++ of_list m) ia in
    let b' : l4 ≡ l3 ++ of_list b.items = e4 ∙ ap (λ (m : List Stmt). l3 ++ of_list m) ib in
    let end = events.Close ∷ [] in
    let all : l5 ≡ ((((l0 ++ exp_events (exp_of e)) ++ (events.If ∷ [])) ++ of_list a.items) ++ of_list b.items) ++ end =
    e5 ∙ ap (λ (l : List TextEvent). l ++ end) (b' ∙ ap (λ (l : List TextEvent). l ++ of_list b.items) (a' ∙ ap (λ (l : List TextEvent). l ++ of_list a.items) (e2 ∙ ap (λ (l : List TextEvent). l ++ (events.If ∷ [])) e1))) in
    all ∙ regroup l0 (exp_events (exp_of e)) (events.If ∷ []) (of_list a.items) (of_list b.items) end ∙ ap (λ (t : Statement). l0 ++ statement_events t) (sym (ap statement_of is ∙ choice_is e a b))

pub for_listed : (l0 l1 l2 l3 : List TextEvent) (s : Stmt) (x : Name) (n : Bound) (a : Vec Stmt Global) (la : List Stmt) → s ≡ For x n a → la ≡ a.items
    → l1 ≡ l0 ++ (events.Loop x n ∷ bound_events n) → l2 ≡ l1 ++ of_list la → l3 ≡ l2 ++ (events.Close ∷ [])
    → l3 ≡ l0 ++ statement_events (statement_of s)
for_listed l0 l1 l2 l3 s x n a la is ia e1 e2 e3 =
    let a' : l2 ≡ l1 ++ of_list a.items = e2 ∙ ap (λ (m : List Stmt). l1 ++ of_list m) ia in
    let end = events.Close ∷ [] in
    let all : l3 ≡ ((l0 ++ (events.Loop x n ∷ bound_events n)) ++ of_list a.items) ++ end =
    e3 ∙ ap (λ (l : List TextEvent). l ++ end) (a' ∙ ap (λ (l : List TextEvent). l ++ of_list a.items) e1) in
    all ∙ regroup_three l0 (events.Loop x n ∷ bound_events n) (of_list a.items) end ∙ ap (λ (t : Statement). l0 ++ statement_events t) (sym (ap statement_of is ∙ loop_is x n a))
