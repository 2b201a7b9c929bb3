-- The verdict on a text, and what is answered of it, worked out by hand.
use Rattle.std.proofs.Common.{◌≡◌, ℕ, zero, suc, ◌≤◌, true, false, inl, inr, ⊎_elim, pos, List, [], ◌∷◌, length, slice_index, codes, Option, Some, None, refl, sym, ap, ◌∙◌, lit≤, arith}
use Rattle.std.specs.Fmt.{digits}
use Rattle.sci_base.specs.Plain.{Violation}
use Rattle.sci_base.specs.declared.observation.Obs.TheVariants.{Start, Stop}
use Rattle.sci_base.specs.declared.observation.StopWord.TheVariants.{Zero}
use Rattle.sci_base.specs.declared.refusal.Rule.TheVariants.{RunEnded}
use Rattle.sci_agree.specs.declared.verdict.Verdict.TheVariants.{Yes, No}
use Rattle.sci_agree.specs.Lines.{lines_of, first_lines, AgreeOn, IsAgreement, first_line, behind_lines}
use Rattle.sci_agree.specs.Verdict.{IsVerdict}
use Rattle.sci_agree.specs.Compared.{Compared, taken_by, WasGiven}
use Rattle.c_run.specs.declared.start.CEnd.TheVariants as ends
use Rattle.sci_answers.specs.Answer.{usage}
use Rattle.sci_answers.specs.RunC.{c_status}
use Rattle.sci_answers.specs.Simulate.{ran}
use Rattle.sci_answers.specs.Report.{counts_line}
use Rattle.sci_answers.specs.Course.{Slot, Passes, Fails}
use Rattle.sci_answers.specs.Judge.{verdict_line, verdict_status}
use Rattle.sci_print.specs.Numbers.{spaced, numbers_line}
use Rattle.sci_print.specs.Line.{step_text, detail_text, head_text, refused_line}
use Rattle.sci_answers.specs.Save.{run_ended}
use Rattle.sci_words.specs.Words.{save, simulate, InBounds, spelled}

-- ---- lines: of "ab", "cd" and an unfinished one

abbrev lines : List ℕ
lines = codes "ab\ncd\ne"

two_lines : lines_of lines ≡ 2
two_lines = refl

first_two : first_lines lines 2 ≡ Some (codes "ab\ncd\n")
first_two = refl

-- an unfinished line is none
no_third : first_lines lines 3 ≡ None
no_third = refl

first_one : first_line lines ≡ codes "ab\n"
first_one = refl

behind_one : behind_lines lines 1 ≡ codes "cd\ne"
behind_one = refl

-- ---- agreement: the first of two lines is equal, the second isn't

abbrev due : List ℕ
due = codes "a\nb\n"

abbrev other : List ℕ
other = codes "a\nc\n"

third_of : Option (List ℕ) → ℕ
third_of None = 0
third_of (Some xs) = slice_index xs 2

lists_in : Option (List ℕ) → ℕ
lists_in None = 0
lists_in (Some xs) = 1

not_two : (j : ℕ) → AgreeOn (suc (suc j)) other due → ⊥
unfolding third_of lists_in
not_two zero h = let e = ap third_of (h.in_text ∙ sym h.in_other) in omega (arith, e)
not_two (suc j) h = let e = ap lists_in h.in_text in omega (arith, e)

at_most_one : (j : ℕ) → AgreeOn j other due → j ≤ 1
at_most_one zero h = lit≤ tt
at_most_one (suc zero) h = lit≤ tt
at_most_one (suc (suc j)) h = absurd (not_two j h)

one_agrees : IsAgreement other due 1
one_agrees = record { agree = record { front = codes "a\n"; in_text = refl; in_other = refl }; most = at_most_one }

differ : other ≡ due → ⊥
differ e = let third = ap (λ (xs : List ℕ). slice_index xs 2) e in omega (arith, third)

-- the second line is the first that differs, counted from 1
no_at_two : IsVerdict due other (No 2)
no_at_two = (differ, (1, one_agrees, refl))

-- the beginning of a text is none: it lacks the second line
beginning : IsVerdict due (codes "a\n") (Yes 1) → ⊥
beginning h = let short = ap length h.0 in omega (arith, short)

-- two bytes agreed, and the third was another
abbrev compared : Compared
compared = record { text = due; at = 2; lines = 1; wrong = Some 99; faults = 1; failing = true }

three_taken : taken_by compared ≡ codes "a\nc"
three_taken = refl

-- a whole text was given, and no call failed
whole_given : WasGiven due (record compared { at = 4; lines = 2; wrong = None; faults = 0; failing = false })
whole_given = inl (refl, refl)

-- what was given up to a fault isn't the whole
cut_short : WasGiven due (record compared { at = 2; wrong = None; faults = 1 })
cut_short = inr (codes "b\n", refl, lit≤ tt)

-- ---- what is answered

yes_line : verdict_line (Yes 12) ≡ codes "yes 12\n"
unfolding verdict_line digits
yes_line = refl

no_line : verdict_line (No 3) ≡ codes "no 3\n"
unfolding verdict_line digits
no_line = refl

yes_status : verdict_status (Yes 12) ≡ 0
yes_status = refl

no_status : verdict_status (No 3) ≡ 8
no_status = refl

stop_status : (ran (Start ∷ Stop Zero (pos 3) (pos 0) ∷ [])).status ≡ 6
stop_status = refl

undefined_status : c_status (ends.Undefined 4) ≡ 7
undefined_status = refl

usage_status : usage.status ≡ 2
usage_status = refl

-- blocks, sources, entries, guards
counts : counts_line 1 2 3 4 ≡ codes "ok 1 2 3 4\n"
unfolding counts_line numbers_line spaced digits
counts = refl

-- the reaction that was asked for, and how many there are
ended_line : refused_line (run_ended 5 3) ≡ codes "refused 35 RunEnded at - 5 3\n"
unfolding refused_line head_text detail_text digits
ended_line = refl

placed_line : refused_line (record (run_ended 5 3) { place = 1 ∷ 2 ∷ [] }) ≡ codes "refused 35 RunEnded at 1/2 5 3\n"
unfolding refused_line head_text detail_text step_text digits
placed_line = refl

-- ---- words and files

-- the first reaction is 1
no_reaction_0 : InBounds (save [] [] 1 1 0) → ⊥
no_reaction_0 h = let l = h.2 in omega (arith, l)

too_many_events : InBounds (simulate [] [] 1 1000001) → ⊥
too_many_events h = let l = h.1 in omega (arith, l)

-- the date comes before the count of events
date_first : spelled (simulate (codes "d") (codes "i") 7 9) ≡ codes "simulate" ∷ codes "d" ∷ codes "i" ∷ codes "7" ∷ codes "9" ∷ []
unfolding digits
date_first = refl

-- a file of two bytes at a limit of two
abbrev slot : Slot
slot = record { which = 3; longest = 2 }

passes_at_limit : Passes (λ (bytes : List ℕ) (n : ℕ). n ≡ 5) slot (1 ∷ 2 ∷ []) 5
passes_at_limit = (lit≤ tt, refl)

fails_not : (v : Violation) → Fails (λ bytes w. ⊥) slot (1 ∷ 2 ∷ []) v → ⊥
fails_not v h = ⊎_elim (λ t. let l = t.0 in omega (arith, l)) (λ p. p.1) h
