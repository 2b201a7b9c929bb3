-- What the table of so many ports keeps.
use Rattle.std.proofs.Common.{arith, ◌≡◌, ◌≤◌, ℕ, Bool, true, false, nat_lt, if◌then◌else◌, ltb-true, ltb-false, refl, ap, ◌∙◌}
use Rattle.c_ast.specs.declared.Op.TheVariants.{Add}
use Rattle.c_ast.specs.Syntax.{Exp, num, var, bin, cell, set, done, next}
use Rattle.c_mean.specs.Texts.{joined}
use Rattle.std.specs.Prelude.{pos}
use Rattle.sci_due.specs.declared.due_table.DueTable.TheVariants.{Dates, Orders, Groups}
use Rattle.sci_due.specs.Due.{are_grouped, due_table, keeps_orders, keeps_groups, dates, now}
use Rattle.sci_due.specs.Texts.{order_text, stale_text, entry_text}

-- orders of several ports
pub orders_kept : (n : ℕ) → keeps_orders (due_table n) ≡ nat_lt 1 n
orders_kept n = by_tests (are_grouped n) (nat_lt 1 n) refl refl
  where
    by_tests : (many several : Bool) → are_grouped n ≡ many → nat_lt 1 n ≡ several
        → keeps_orders (if many then Groups else (if several then Orders else Dates)) ≡ several
    by_tests true true p q = refl
    by_tests true false p q =
        let grouped : 17 ≤ n = ltb-true 16 n p in
        let few : n ≤ 1 = ltb-false 1 n q in
        absurd (omega (arith, grouped, few))
    by_tests false true p q = refl
    by_tests false false p q = refl

-- and of many what is known of groups
pub groups_kept : (n : ℕ) → keeps_groups (due_table n) ≡ are_grouped n
groups_kept n = by_tests (are_grouped n) (nat_lt 1 n)
  where
    by_tests : (many several : Bool) → keeps_groups (if many then Groups else (if several then Orders else Dates)) ≡ many
    by_tests true several = refl
    by_tests false true = refl
    by_tests false false = refl

pub entry_is : (n i : ℕ) (e : Exp) → entry_text (due_table n) i e
    ≡ next (set (cell dates (num (pos i))) (bin Add (var now) e)) (joined (if nat_lt 1 n then order_text i else done) (if are_grouped n then stale_text i else done))
entry_is n i e =
    ap (λ (several : Bool). next (set (cell dates (num (pos i))) (bin Add (var now) e))
    (joined (if several then order_text i else done) (if keeps_groups (due_table n) then stale_text i else done))) (orders_kept n)
    ∙ ap (λ (many : Bool). next (set (cell dates (num (pos i))) (bin Add (var now) e))
    (joined (if nat_lt 1 n then order_text i else done) (if many then stale_text i else done))) (groups_kept n)
