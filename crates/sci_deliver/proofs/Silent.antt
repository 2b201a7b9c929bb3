-- What is told is some text, but for the map of a diagram without blocks.
use Rattle.std.proofs.Common.{◌≡◌, ◌≢◌, ◌<◌, ℕ, zero, suc, List, [], ◌∷◌, ◌++◌, length, codes, decimal, refl, sym, ap, subst, arith}
use Rattle.sci_net.specs.declared.Source.{Source}
use Rattle.sci_net.specs.declared.Source.TheVariants.{Start}
use Rattle.sci_net.specs.Parts.{Parts, spec_of, path_of}
use Rattle.sci_net.specs.Sources.{sources_of, sources_from}
use Rattle.sci_reaction.specs.Schedule.{Entry}
use Rattle.sci_sched.specs.Text.{source_text, row_text, plan_text}
use Rattle.sci_print.specs.Map.{number_text, block_line, lines_from, map_text}
use Rattle.c_ast.specs.Syntax.{Whole}
use Rattle.c_ast.specs.Spelling.{spelling}
use Rattle.sci_print.specs.Numbers.{numbers_line}
use Rattle.sci_answers.specs.Report.{counts_line}

pub counts_some : (blocks sources entries guards : ℕ) → counts_line blocks sources entries guards ≢ []
unfolding counts_line numbers_line
counts_some blocks sources entries guards = λ e. absurd (cc e)

pub numbers_some : (word ns : List ℕ) → 0 < length word → numbers_line word ns ≢ []
unfolding numbers_line
numbers_some [] ns h = λ e. absurd (omega (arith, h))
numbers_some (c ∷ word) ns h = λ e. absurd (cc e)

-- each program has the header
pub code_some : (p : Whole) → spelling p ≢ []
code_some p = λ e. absurd (cc e)

-- a schedule tells its sources, of which start is the first
schedules_some : (ss : List Source) (rows : List (List Entry)) → length rows ≡ suc (length ss) → plan_text (Start ∷ ss) rows ≢ []
unfolding row_text source_text
schedules_some ss [] h = λ e. absurd (omega (arith, h))
schedules_some ss (row ∷ rows) h = λ e. absurd (cc e)

pub schedule_some : (n : Parts) (rows : List (List Entry)) → length rows ≡ length (sources_of n) → plan_text (sources_of n) rows ≢ []
schedule_some n rows h = schedules_some (sources_from 1 n.specs) rows h

left_none : {A : Type 0} (xs ys : List A) → xs ++ ys ≡ [] → xs ≡ []
left_none [] ys e = refl
left_none (x ∷ xs) ys e = absurd (cc e)

right_none : {A : Type 0} (xs ys : List A) → xs ++ ys ≡ [] → ys ≡ []
right_none [] ys e = e
right_none (x ∷ xs) ys e = absurd (cc e)

number_some : (b : ℕ) → number_text b ≢ []
unfolding number_text
number_some b = λ e. let none : codes " " ≡ [] = right_none (decimal b) (codes " ") e in absurd (cc none)

line_some : (n : Parts) (b : ℕ) → block_line b (path_of n b) (spec_of n b) ≢ []
unfolding block_line
line_some n b = λ e. number_some b (left_none (number_text b) _ e)

lines_some : (n : Parts) (b k : ℕ) → lines_from n b k ≡ [] → k ≡ 0
lines_some n b zero e = refl
lines_some n b (suc k) e = absurd (line_some n b (left_none (block_line b (path_of n b) (spec_of n b)) (lines_from n (suc b) k) e))

pub map_some : (n : Parts) → length n.specs ≢ 0 → map_text n ≢ []
map_some n some = λ e. some (lines_some n 1 (length n.specs) e)

pub map_none : (n : Parts) → length n.specs ≡ 0 → map_text n ≡ []
map_none n none = ap (lines_from n 1) none
