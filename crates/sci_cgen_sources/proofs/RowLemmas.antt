-- The text of a row, put together.
use Rattle.std.proofs.Common.{arith, ◌≡◌, ◌+◌, ◌^◌, ◌<◌, ◌≤◌, ℕ, true, List, [], ◌∷◌, All, map, drop, get_or, length, sym, ap, subst, ◌∙◌}
use Rattle.std.proofs.lemmas.List.{length-map, get_or-map}
use Rattle.c_ast.specs.declared.Stmt.{Stmt}
use Rattle.c_ast.specs.Syntax.{Block}
use Rattle.c_ast.specs.View.{statements_of}
use Rattle.c_mean.specs.Texts.{joined}
use Rattle.sci_forms.specs.declared.spec.Spec.{Spec}
use Rattle.sci_forms.specs.Typed.{typed}
use Rattle.sci_reaction.specs.Schedule.{Guard, Entry}
use Rattle.sci_reaction.specs.declared.entry.Guard.{Guard as KeptGuard}
use Rattle.sci_reaction.specs.declared.entry.Entry.{Entry as KeptEntry}
use Rattle.sci_sched.specs.Plain.{row_of}
use Rattle.sci_reaction.specs.Kept.{guard_of, guards_of, entry_of}
use Rattle.sci_cgen_blocks.proofs.Written.{joined_assoc, joined_done, all_dropped}
use Rattle.sci_program.specs.Program.{texts}
use Rattle.sci_forms.specs.Form.{reads_mask}
use Rattle.sci_program.proofs.Marks.{few_small}
use Rattle.sci_program.proofs.Entries.{few_inputs}
use Rattle.sci_due_texts.proofs.TextLemmas.{joined_more}

-- ---- texts behind one another

pub joined_four : (old first second third new a b c d : Block)
    → first ≡ joined old a → second ≡ joined first b → third ≡ joined second c → new ≡ joined third d → new ≡ joined old (joined a (joined b (joined c d)))
joined_four old first second third new a b c d one two three four =
    joined_more old first new a (joined b (joined c d)) one (joined_more first second new b (joined c d) two (joined_more second third new c d three four))

-- two texts in a new list
pub joined_new : (xs : List Stmt) (mid new a b : Block) → xs ≡ [] → mid ≡ joined (statements_of xs) a → new ≡ joined mid b → new ≡ joined a b
joined_new xs mid new a b none first second = second ∙ ap (λ t. joined t b) (first ∙ ap (λ ys. joined (statements_of ys) a) none)

-- one text more of those of a list that is gone through
pub texts_pushed : {A B : Type 0} → (f : B → Block) (g : A → B) (l : List A) (i : ℕ) (x : A) (mid new all : Block)
    → drop i l ≡ x ∷ drop (i + 1) l → new ≡ joined mid (f (g x)) → joined mid (texts f (map g (drop i l))) ≡ all
    → joined new (texts f (map g (drop (i + 1) l))) ≡ all
texts_pushed f g l i x mid new all cut e so_far =
    let rest : Block = texts f (map g (drop (i + 1) l)) in
    ap (λ t. joined t rest) e ∙ joined_assoc mid (f (g x)) rest ∙ ap (λ xs. joined mid (texts f (map g xs))) (sym cut) ∙ so_far

pub all_pushed : {A B : Type 0} → (f : B → Block) (g : A → B) (l : List A) (i : ℕ) (last all : Block)
    → length l ≤ i → joined last (texts f (map g (drop i l))) ≡ all → last ≡ all
all_pushed f g l i last all most so_far = sym (joined_done last) ∙ ap (λ xs. joined last (texts f (map g xs))) (sym (all_dropped l i most)) ∙ so_far

-- ---- what holds of all guards of an entry, and of all entries of a row

pub of_guard : (P : Guard → Type 0) (gs : List KeptGuard) (i : ℕ) (d : KeptGuard) → All P (guards_of gs) → i < length gs → P (guard_of (get_or gs i d))
of_guard P gs i d h l =
    let long = length-map gs guard_of in
    subst P (get_or-map guard_of gs i d (guard_of d) l) (h i (guard_of d) (omega (arith, l, long)))

pub of_entry : (P : Entry → Type 0) (es : List KeptEntry) (i : ℕ) (e : KeptEntry) → All P (row_of es) → i < length es → e ≡ get_or es i e → P (entry_of e)
of_entry P es i e h l is =
    let long = length-map es entry_of in
    subst P (get_or-map entry_of es i e (entry_of e) l ∙ ap entry_of (sym is)) (h i (entry_of e) (omega (arith, l, long)))

-- ---- masks

-- the mask of a kind that reads it
pub mask_fits : (s t : Spec) (mask : ℕ) → s ≡ t → typed s ≡ true → reads_mask s.kind ≡ true → mask < 2 ^ t.evtin → mask < 2 ^ 8
mask_fits s t mask same is reads within =
    let most = few_small s.evtin (few_inputs s is reads) in
    let below : mask < 2 ^ s.evtin = subst (λ (u : Spec). mask < 2 ^ u.evtin) (sym same) within in
    omega (arith, most, below)
