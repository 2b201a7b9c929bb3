use Rattle.std.proofs.Common.{◌≡◌, ap, sym, ◌∙◌, List, drop, arith, length, ℕ, ◌<◌, ◌≤◌, ◌^◌}
use Rattle.std.proofs.lemmas.List.{drop_all}
use Rattle.c_ast.specs.declared.Stmt.{Stmt}
use Rattle.c_ast.specs.View.{statement_of, statements_of}
use Rattle.c_ast.proofs.Views.{choice_is, loop_is}
use Rattle.c_mean.specs.Meaning.{statement_count, block_count, later}
use Rattle.c_run.proofs.Counts.{later_none, later_zero}
use Rattle.c_run.proofs.steps.+count.Goals as goal

pub count-returns-in-If : goal.count-returns-in-If
count-returns-in-If t c =
    let e = ap (λ (s : Stmt). statement_count (statement_of s)) c.in-If.is ∙ ap statement_count (choice_is c.in-If.field-0 c.in-If.yes c.in-If.no) in
    let a = c.count_all.ensures ∙ ap (λ (l : List Stmt). block_count (statements_of l)) c.deref.ensures.value in
    let b = c.count_all-in-If.ensures ∙ ap (λ (l : List Stmt). block_count (statements_of l)) c.deref-in-If.ensures.value in
    cc

pub count-returns-in-For : goal.count-returns-in-For
count-returns-in-For t c =
    let e = ap (λ (s : Stmt). statement_count (statement_of s)) c.in-For.is ∙ ap statement_count (loop_is c.in-For.field-0 c.in-For.field-1 c.in-For.body) in
    let a = c.count_all-in-For.ensures ∙ ap (λ (l : List Stmt). block_count (statements_of l)) c.deref-in-For.ensures.value in
    cc

pub count_all-loop-s-init : goal.count_all-loop-s-init
count_all-loop-s-init t c = (omega arith, later_none (statements_of c.args.list.now))

-- nothing is left behind the end
count_done : (n i : ℕ) (list : List Stmt) → length list ≤ i → n < 2 ^ 64 → later n (block_count (statements_of (drop i list))) ≡ block_count (statements_of list) → n ≡ block_count (statements_of list)
count_done n i list far small e = sym (later_zero n small) ∙ ap (λ (l : List Stmt). later n (block_count (statements_of l))) (sym (drop_all i list far)) ∙ e

pub count_all-returns : goal.count_all-returns
count_all-returns t c = count_done c.loop-s.n c.loop-s.s-index c.args.list.now (omega arith) c.loop-s.invariant.0 c.loop-s.invariant.1
