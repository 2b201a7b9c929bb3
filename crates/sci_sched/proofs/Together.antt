-- The lines of entries without guards, which are made from the last to the first.
use Rattle.std.proofs.Common.{◌≡◌, ◌<◌, ◌+◌, ◌-◌, ℕ, List, [], ◌∷◌, ◌++◌, Bool, codes, decimal, take, drop, get_or, length, refl, sym, ◌∙◌, ap, ap₂, append_assoc, ⊎_elim, subst, arith}
use Rattle.std.proofs.lemmas.Bool.{cases_lt}
use Rattle.std.proofs.lemmas.List.{drop_all, get_or_default, take-append-drop}
use Rattle.sci_reaction.specs.declared.entry.Guard.{Guard}
use Rattle.sci_reaction.specs.declared.entry.Entry.{Entry}
use Rattle.sci_sched.specs.Plain.{row_of}
use Rattle.sci_reaction.specs.Kept.{guards_of, entry_of}
use Rattle.sci_sched.specs.Text.{always_text, block_text, guards_text, entry_text, entries_text}
use Rattle.sci_sched.proofs.Steps.{entries-drop}

-- ---- one line

-- the line of an entry without guards, before a text
pub alone_text : (block : ℕ) (always : Bool) (guards : List Guard) (tail : List ℕ) → guards ≡ []
    → decimal block ++ ((always_text always ++ codes "\n") ++ tail) ≡ (block_text block always ++ (guards_text (guards_of guards) ++ codes "\n")) ++ tail
alone_text block always guards tail none =
    ap (λ (l : List ℕ). decimal block ++ l) (append_assoc (always_text always) (codes "\n") tail)
    ∙ (sym (append_assoc (decimal block) (always_text always) (codes "\n" ++ tail))
    ∙ (sym (append_assoc (block_text block always) (codes "\n") tail)
    ∙ ap (λ (gs : List Guard). (block_text block always ++ (guards_text (guards_of gs) ++ codes "\n")) ++ tail) (sym none)))

-- ---- from the last to the first

pub none_left : (es : List Entry) → entries_text (row_of (drop (length es - 0) es)) ≡ []
none_left es = ap (λ (xs : List Entry). entries_text (row_of xs)) (drop_all (length es - 0) es (omega arith))

pub line_more : (es : List Entry) (turn : ℕ) (e : Entry) (new old : List ℕ) → turn < length es → e ≡ get_or es (length es - 1 - turn) e → new ≡ entry_text (entry_of e) ++ old
    → old ≡ entries_text (row_of (drop (length es - turn) es)) → new ≡ entries_text (row_of (drop (length es - (turn + 1)) es))
line_more es turn e new old more is put before =
    let i : ℕ = length es - 1 - turn in
    let low : i < length es = omega (arith, more) in
    let next : i + 1 ≡ length es - turn = omega (arith, more) in
    let here : length es - (turn + 1) ≡ i = omega (arith, more) in
    let behind : old ≡ entries_text (row_of (drop (i + 1) es)) = before ∙ ap (λ (n : ℕ). entries_text (row_of (drop n es))) (sym next) in
    put
    ∙ (ap₂ (λ (x : Entry) (l : List ℕ). entry_text (entry_of x) ++ l) is behind
    ∙ sym (ap (λ (n : ℕ). entries_text (row_of (drop n es))) here ∙ entries-drop es i e low))

-- ---- whether there are guards

pub none_more : (es : List Entry) (i : ℕ) (e : Entry) → i < length es → e ≡ get_or es i e → e.guards.items ≡ [] → ((k : ℕ) (d : Entry) → k < i → (get_or es k d).guards.items ≡ [])
    → (k : ℕ) (d : Entry) → k < i + 1 → (get_or es k d).guards.items ≡ []
none_more es i e low is none before k d h =
    ⊎_elim
    (λ less. before k d less)
    (λ over.
    let same : i ≡ k = omega (arith, h, over) in
    subst (λ (n : ℕ). (get_or es n d).guards.items ≡ []) same (ap (λ (x : Entry). x.guards.items) (get_or_default es i d e low ∙ sym is) ∙ none))
    (cases_lt k i)

-- ---- a front, and what stands behind it

entries-append : (xs ys : List Entry) → entries_text (row_of (xs ++ ys)) ≡ entries_text (row_of xs) ++ entries_text (row_of ys)
entries-append [] ys = refl
entries-append (x ∷ xs) ys =
    ap (λ (l : List ℕ). entry_text (entry_of x) ++ l) (entries-append xs ys) ∙ sym (append_assoc (entry_text (entry_of x)) (entries_text (row_of xs)) (entries_text (row_of ys)))

pub entries_parts : (es front behind : List Entry) (k : ℕ) → front ≡ take k es → behind ≡ drop k es → entries_text (row_of es) ≡ entries_text (row_of front) ++ entries_text (row_of behind)
entries_parts es front behind k in_front at_back =
    ap (λ (xs : List Entry). entries_text (row_of xs)) (sym (take-append-drop k es) ∙ ap₂ (λ (xs ys : List Entry). xs ++ ys) (sym in_front) (sym at_back))
    ∙ entries-append front behind
