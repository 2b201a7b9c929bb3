-- Texts that are written piece by piece.
use Rattle.std.proofs.Common.{◌≡◌, ◌<◌, ◌+◌, ℕ, List, ◌++◌, drop, get_or, length, sym, ◌∙◌, ap, ap₂, add-one, Vec}
use Rattle.std.proofs.Math.Seq.{drop-cons}
use Rattle.std.specs.declared.alloc.Global.{Global}
use Rattle.sci_net.specs.declared.Source.{Source}
use Rattle.sci_reaction.specs.declared.entry.Guard.{Guard}
use Rattle.sci_reaction.specs.declared.entry.Entry.{Entry}
use Rattle.sci_sched.specs.Plain.{row_of, lists_of}
use Rattle.sci_reaction.specs.Kept.{guard_of, guards_of, entry_of}
use Rattle.sci_sched.specs.Text.{guard_text, guards_text, entry_text, entries_text, row_text, plan_text}

pub guards-drop : (gs : List Guard) (i : ℕ) (d : Guard) → i < length gs → guards_text (guards_of (drop i gs)) ≡ guard_text (guard_of (get_or gs i d)) ++ guards_text (guards_of (drop (i + 1) gs))
guards-drop gs i d h =
    ap (λ xs. guards_text (guards_of xs)) (drop-cons gs i d h) ∙ ap (λ (n : ℕ). guard_text (guard_of (get_or gs i d)) ++ guards_text (guards_of (drop n gs))) (sym (add-one i))

pub entries-drop : (es : List Entry) (i : ℕ) (d : Entry) → i < length es → entries_text (row_of (drop i es)) ≡ entry_text (entry_of (get_or es i d)) ++ entries_text (row_of (drop (i + 1) es))
entries-drop es i d h =
    ap (λ xs. entries_text (row_of xs)) (drop-cons es i d h) ∙ ap (λ (n : ℕ). entry_text (entry_of (get_or es i d)) ++ entries_text (row_of (drop n es))) (sym (add-one i))

pub plan-drop : (ss : List Source) (rows : List (Vec Entry Global)) (i : ℕ) (s : Source) (v : Vec Entry Global) → i < length ss → i < length rows →
    plan_text (drop i ss) (lists_of (drop i rows)) ≡ row_text (get_or ss i s) (row_of (get_or rows i v).items) ++ plan_text (drop (i + 1) ss) (lists_of (drop (i + 1) rows))
plan-drop ss rows i s v h k =
    ap₂ (λ xs ys. plan_text xs (lists_of ys)) (drop-cons ss i s h) (drop-cons rows i v k)
    ∙ ap (λ (n : ℕ). row_text (get_or ss i s) (row_of (get_or rows i v).items) ++ plan_text (drop n ss) (lists_of (drop n rows))) (sym (add-one i))
