-- The C texts on the table of due dates.
use Rattle.std.specs.Prelude.{ℕ, suc, ◌+◌, ◌-◌, ◌*◌, ◌/◌, min, pos, Bool, true, false, nat_lt, if◌then◌else◌}
use Rattle.c_ast.specs.declared.Bound.TheVariants as bounds
use Rattle.c_ast.specs.declared.Op.TheVariants.{Add, Div, Lt, Le, Ge, Eq, Ne, And, Or}
use Rattle.c_ast.specs.Syntax.{Exp, num, var, element, neg, bin, scalar, cell, set, choice, loop, Block, done, next}
use Rattle.c_mean.specs.Texts.{joined, upto}
use Rattle.sci_due.specs.Due.{dates, orders, best, coming, scan, fresh, firsts, now, last, delay, are_grouped, group_count, keeps_orders, keeps_groups}
use Rattle.sci_due.specs.declared.due_table.TheConstants.{GROUP, TURNS}
use Rattle.sci_due.specs.declared.due_table.DueTable.{DueTable}

-- the date at a place isn't later than that of the chosen event, or no event is chosen
abbrev pub not_later_exp : Exp → Exp
not_later_exp at = bin Or (bin Lt (var coming) (num (pos 0))) (bin Le (element dates at) (var coming))

-- nor is it the same date with a later order
abbrev pub sooner_exp : Exp → Exp
sooner_exp at = bin Or (bin Ne (element dates at) (var coming)) (bin Lt (element orders at) (element orders (var best)))

-- The event of the port at a place comes first so far. A later date is told by the first two tests.
abbrev pub better_exp : Exp → Exp
better_exp at = bin And (not_later_exp at) (bin And (bin Ge (element dates at) (num (pos 0))) (sooner_exp at))

-- if it is better { b1 = it; d2 = its date; }
abbrev pub choose_turn : Exp → Block
choose_turn at = next (choice (better_exp at) (next (set (scalar best) at) (next (set (scalar coming) (element dates at)) done)) done) done

-- a loop's counter counts from a number on
abbrev pub counted_from : ℕ → Exp
counted_from k = bin Add (var scan) (num (pos k))

-- m turns, from number k on, over places that numbers tell: each a statement of its own, or many in a loop
abbrev pub turns_text : (Exp → Exp) → (k m : ℕ) → Block
turns_text place k m =
    if nat_lt TURNS m then next (loop scan (bounds.Num (pos m)) (choose_turn (place (counted_from k)))) done
    else upto (λ j. choose_turn (place (num (pos (k + j))))) m

-- Port k is chosen, and then of the m ports behind it each that is better.
abbrev pub span_text : (k m : ℕ) → Block
span_text k m =
    next (set (scalar best) (num (pos k))) (next (set (scalar coming) (element dates (num (pos k)))) (turns_text (λ e. e) (suc k) m))

-- how many ports stand in group g beside its first
abbrev pub others_in : (n g : ℕ) → ℕ
others_in n g = min (GROUP - 1) (n - 1 - GROUP * g)

-- the first of group g isn't known
abbrev pub unknown_exp : ℕ → Exp
unknown_exp g = bin Eq (element fresh (num (pos g))) (num (pos 0))

-- it is worked out
abbrev pub worked_text : (n g : ℕ) → Block
worked_text n g =
    joined (span_text (GROUP * g) (others_in n g))
    (next (set (cell firsts (num (pos g))) (var best)) (next (set (cell fresh (num (pos g))) (num (pos 1))) done))

-- the same, unless it is known
abbrev pub group_text : (n g : ℕ) → Block
group_text n g = next (choice (unknown_exp g) (worked_text n g) done) done

-- the first port of a group
abbrev pub first_of : Exp → Exp
first_of e = element firsts e

-- that of all groups
abbrev pub groups_text : ℕ → Block
groups_text n =
    joined (upto (group_text n) (group_count n))
    (next (set (scalar best) (first_of (num (pos 0)))) (next (set (scalar coming) (element dates (var best)))
    (turns_text first_of 1 (group_count n - 1))))

-- of n ports the one whose event comes first, and its date
abbrev pub choose_text : ℕ → Block
choose_text n = if are_grouped n then groups_text n else span_text 0 (n - 1)

-- the first of a port's group isn't known any more
abbrev pub stale_at : (n : ℕ) → Exp → Block
stale_at n e = if are_grouped n then next (set (cell fresh e) (num (pos 0))) done else done

-- The event of the port at a place is taken: its date is the date of the reaction, and its port's entry is free.
abbrev pub take_text : ℕ → Exp → Block → Block
take_text n at rest =
    next (set (scalar now) (element dates at)) (next (set (cell dates at) (neg (num (pos 1)))) (joined (stale_at n (bin Div at (num (pos GROUP)))) rest))

-- the order of port i's event, and the next order
abbrev pub order_text : ℕ → Block
order_text i = next (set (cell orders (num (pos i))) (var last)) (next (set (scalar last) (bin Add (var last) (num (pos 1)))) done)

-- Where ports are grouped, port i's group isn't known any more.
abbrev pub stale_text : ℕ → Block
stale_text i = next (set (cell fresh (num (pos (i / GROUP)))) (num (pos 0))) done

-- The entry of port i, for a delay of 0 or more.
abbrev pub entry_text : DueTable → ℕ → Exp → Block
entry_text table i e =
    next (set (cell dates (num (pos i))) (bin Add (var now) e))
    (joined (if keeps_orders table then order_text i else done) (if keeps_groups table then stale_text i else done))

-- Port i is programmed with a delay, unless the delay is -1.
abbrev pub program_text : DueTable → ℕ → Exp → Block → Block
program_text table i e rest =
    next (set (scalar delay) e) (next (choice (bin Ge (var delay) (num (pos 0))) (entry_text table i (var delay)) done) rest)

-- a delay that is a number of 0 or more
abbrev pub is_ticks : Exp → Bool
is_ticks (num (pos d)) = true
is_ticks _ = false

-- The same, where nothing is asked of such a delay.
abbrev pub delayed_text : DueTable → ℕ → Exp → Block
delayed_text table i e = if is_ticks e then entry_text table i e else program_text table i e done
