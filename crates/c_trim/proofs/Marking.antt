-- What texts name, one behind the other.
use Rattle.std.proofs.Common.{◌≡◌, ℕ, ◌+◌, ◌<◌, ◌≤◌, List, [], ◌∷◌, ◌++◌, length, get_or, set, take, drop, map, filter, Bool, true, false, ◌||◌, if◌then◌else◌, refl, sym, ap, ◌∙◌, arith, append_assoc, append-nil}
use Rattle.std.specs.List.{flat_map}
use Rattle.std.specs.declared.vec.Vec.{Vec}
use Rattle.std.specs.declared.alloc.Global.{Global}
use Rattle.std.proofs.Math.Bool.{or_assoc}
use Rattle.std.proofs.lemmas.List.{drop_more, drop_all, take_all, take_at, take_more_set, drop-set-lt}
use Rattle.std.proofs.lemmas.List.Folds.{list_any-append}
use Rattle.c_ast.specs.declared.Name.{Name}
use Rattle.c_ast.specs.declared.Bound.{Bound}
use Rattle.c_ast.specs.declared.Expr.{Expr}
use Rattle.c_ast.specs.declared.Func.{Func}
use Rattle.c_ast.specs.declared.Stmt.{Stmt, If, For}
use Rattle.c_ast.specs.declared.events.NameKind.{NameKind}
use Rattle.c_ast.specs.declared.events.NameKind.TheVariants as kinds
use Rattle.c_ast.specs.declared.events.TextEvent.{TextEvent}
use Rattle.c_ast.specs.declared.events.TextEvent.TheVariants as events
use Rattle.c_ast.specs.Rules.{same_name}
use Rattle.c_ast.specs.Syntax.{Statement, Declared, Whole}
use Rattle.c_ast.specs.View.{exp_of, statement_of, statements_of, function_of}
use Rattle.c_ast.specs.Events.{exp_events, bound_events, statement_events, block_events, declared_event, function_events, main_events, program_events}
use Rattle.c_ast.proofs.Views.{choice_is, loop_is}
use Rattle.c_trim.specs.declared.texts.Candidate.{Candidate}
use Rattle.c_trim.specs.Trim.{names_event, is_named}
use Rattle.c_trim.specs.Candidates.{candidate_of, noted_one, noted, marked_one, marked, kept_of}

or_none : (t : Bool) → t || false ≡ t
or_none true = refl
or_none false = refl

abbrev with_named : Candidate → Bool → Candidate
with_named c t = record { name = c.name; size = c.size; named = t }

-- ---- texts

named_both : (es fs : List TextEvent) (x : Name) (t : Bool) → (t || is_named es x) || is_named fs x ≡ t || is_named (es ++ fs) x
named_both es fs x t = or_assoc t (is_named es x) (is_named fs x) ∙ ap (λ (u : Bool). t || u) (sym (list_any-append (names_event x) es fs))

-- a text and the one behind it
pub marked_both : (es fs : List TextEvent) (cs : List Candidate) → marked fs (marked es cs) ≡ marked (es ++ fs) cs
unfolding marked
marked_both es fs [] = refl
marked_both es fs (c ∷ cs) =
    ap (λ (t : Bool). with_named c t ∷ map (marked_one fs) (map (marked_one es) cs)) (named_both es fs c.name c.named)
    ∙ ap (λ (l : List Candidate). marked_one (es ++ fs) c ∷ l) (marked_both es fs cs)

-- texts without names
pub marked_none : (cs : List Candidate) → marked [] cs ≡ cs
unfolding marked
marked_none [] = refl
marked_none (c ∷ cs) =
    ap (λ (t : Bool). with_named c t ∷ map (marked_one []) cs) (or_none c.named) ∙ ap (λ (l : List Candidate). c ∷ l) (marked_none cs)

close_none : (cs : List Candidate) → marked (events.Close ∷ []) cs ≡ cs
unfolding marked
close_none cs = marked_none cs

closed : (es : List TextEvent) (cs : List Candidate) → marked es cs ≡ marked (es ++ events.Close ∷ []) cs
closed es cs = sym (close_none (marked es cs)) ∙ marked_both es (events.Close ∷ []) cs

if_none : (es : List TextEvent) (cs : List Candidate) → marked es cs ≡ marked (events.If ∷ es) cs
unfolding marked
if_none es cs = refl

main_none : (es : List TextEvent) (cs : List Candidate) → marked es cs ≡ marked (events.Main ∷ es) cs
unfolding marked
main_none es cs = refl

function_none : (f : Name) (es : List TextEvent) (cs : List Candidate) → marked es cs ≡ marked (events.Function f ∷ es) cs
unfolding marked
function_none f es cs = refl

pub call_none : (f : Name) (cs : List Candidate) → marked (events.Call f ∷ []) cs ≡ cs
unfolding marked
call_none f cs = marked_none cs

declared_none : (ds : List Declared) (es : List TextEvent) (cs : List Candidate) → marked es cs ≡ marked (map declared_event ds ++ es) cs
unfolding marked
declared_none [] es cs = refl
declared_none (d ∷ ds) es cs = declared_none ds es cs

-- ---- one name

noted_as : (e : TextEvent) (x : Name) (cs : List Candidate) → ((y : Name) → names_event y e ≡ same_name x y) → noted x cs ≡ marked (e ∷ []) cs
unfolding noted marked
noted_as e x [] h = refl
noted_as e x (c ∷ cs) h =
    ap (λ (t : Bool). with_named c (c.named || t) ∷ map (noted_one x) cs) (sym (h c.name) ∙ sym (or_none (names_event c.name e)))
    ∙ ap (λ (l : List Candidate). marked_one (e ∷ []) c ∷ l) (noted_as e x cs h)

pub noted_read : (x : Name) (k : NameKind) (cs : List Candidate) → noted x cs ≡ marked (events.Read x k ∷ []) cs
noted_read x k cs = noted_as (events.Read x k) x cs (λ y. refl)

pub noted_assign : (x : Name) (k : NameKind) (cs : List Candidate) → noted x cs ≡ marked (events.Assign x k ∷ []) cs
noted_assign x k cs = noted_as (events.Assign x k) x cs (λ y. refl)

-- a name before others
pub noted_array : (x : Name) (es : List TextEvent) (cs : List Candidate) → marked es (noted x cs) ≡ marked (events.Read x kinds.Array ∷ es) cs
noted_array x es cs = ap (marked es) (noted_read x kinds.Array cs) ∙ marked_both (events.Read x kinds.Array ∷ []) es cs

pub noted_cell : (x : Name) (es : List TextEvent) (cs : List Candidate) → marked es (noted x cs) ≡ marked (events.Assign x kinds.Array ∷ es) cs
noted_cell x es cs = ap (marked es) (noted_assign x kinds.Array cs) ∙ marked_both (events.Assign x kinds.Array ∷ []) es cs

noted_loop : (x : Name) (n : Bound) (cs : List Candidate) → noted x cs ≡ marked (events.Loop x n ∷ []) cs
noted_loop x n cs = noted_as (events.Loop x n) x cs (λ y. refl)

module _ (f : Candidate → Candidate) (cs : List Candidate) (i : ℕ) where
  pub noted_more : (d v : Candidate) (all : List Candidate) → i < length cs → v ≡ f (get_or cs i d) → take i cs ++ map f (drop i cs) ≡ all
      → take (i + 1) (set cs i v) ++ map f (drop (i + 1) (set cs i v)) ≡ all
  noted_more d v all less is so_far =
      ap (λ (l : List Candidate). l ++ map f (drop (i + 1) (set cs i v))) (take_more_set cs i v less)
      ∙ (ap (λ (l : List Candidate). (take i cs ++ v ∷ []) ++ map f l) (drop-set-lt (i + 1) cs i v (omega arith))
      ∙ (append_assoc (take i cs) (v ∷ []) (map f (drop (i + 1) cs))
      ∙ (ap (λ (c : Candidate). take i cs ++ (c ∷ map f (drop (i + 1) cs))) is
      ∙ (ap (λ (l : List Candidate). take i cs ++ map f l) (sym (drop_more cs i d less)) ∙ so_far))))

  pub noted_done : (all : List Candidate) → length cs ≤ i → take i cs ++ map f (drop i cs) ≡ all → cs ≡ all
  noted_done all most so_far =
      sym (append-nil cs)
      ∙ (ap (λ (l : List Candidate). l ++ []) (sym (take_all i cs most))
      ∙ (ap (λ (l : List Candidate). take i cs ++ map f l) (sym (drop_all i cs most)) ∙ so_far))

-- ---- statements

abbrev pub in_list : List Stmt → List Candidate → List Candidate
in_list l cs = marked (block_events (statements_of l)) cs

pub if_marked : (s : Stmt) (e : Expr) (a b : Vec Stmt Global) (la lb : List Stmt) (c0 c1 c2 c3 : List Candidate) → s ≡ If e a b → la ≡ a.items → lb ≡ b.items
    → c1 ≡ marked (exp_events (exp_of e)) c0 → c2 ≡ in_list la c1 → c3 ≡ in_list lb c2 → c3 ≡ marked (statement_events (statement_of s)) c0
if_marked s e a b la lb c0 c1 c2 c3 is ia ib e1 e2 e3 =
    let begun : List Candidate = marked (exp_events (exp_of e)) c0 in
    let ends : List TextEvent = block_events (statements_of b.items) ++ events.Close ∷ [] in
    let first : c2 ≡ in_list a.items begun = e2 ∙ (ap (λ (l : List Stmt). in_list l c1) ia ∙ ap (in_list a.items) e1) in
    e3 ∙ (ap (λ (l : List Stmt). in_list l c2) ib ∙ (ap (in_list b.items) first
    ∙ (closed (block_events (statements_of b.items)) (in_list a.items begun)
    ∙ (marked_both (block_events (statements_of a.items)) ends begun
    ∙ (if_none (block_events (statements_of a.items) ++ ends) begun
    ∙ (marked_both (exp_events (exp_of e)) (events.If ∷ (block_events (statements_of a.items) ++ ends)) c0
    ∙ ap (λ (t : Statement). marked (statement_events t) c0) (sym (ap statement_of is ∙ choice_is e a b))))))))

pub for_marked : (s : Stmt) (x : Name) (n : Bound) (a : Vec Stmt Global) (la : List Stmt) (c0 c1 c2 c3 : List Candidate) → s ≡ For x n a → la ≡ a.items
    → c1 ≡ noted x c0 → c2 ≡ marked (bound_events n) c1 → c3 ≡ in_list la c2 → c3 ≡ marked (statement_events (statement_of s)) c0
for_marked s x n a la c0 c1 c2 c3 is ia e1 e2 e3 =
    let begun : List Candidate = marked (events.Loop x n ∷ []) c0 in
    let ends : List TextEvent = block_events (statements_of a.items) ++ events.Close ∷ [] in
    let first : c2 ≡ marked (bound_events n) begun = e2 ∙ ap (marked (bound_events n)) (e1 ∙ noted_loop x n c0) in
    e3 ∙ (ap (λ (l : List Stmt). in_list l c2) ia ∙ (ap (in_list a.items) first
    ∙ (closed (block_events (statements_of a.items)) (marked (bound_events n) begun)
    ∙ (marked_both (bound_events n) ends begun
    ∙ (marked_both (events.Loop x n ∷ []) (bound_events n ++ ends) c0
    ∙ ap (λ (t : Statement). marked (statement_events t) c0) (sym (ap statement_of is ∙ loop_is x n a)))))))

pub block_more : (ss : List Stmt) (i : ℕ) (s : Stmt) (old new all : List Candidate) → i < length ss → s ≡ get_or ss i s
    → new ≡ marked (statement_events (statement_of s)) old → in_list (drop i ss) old ≡ all → in_list (drop (i + 1) ss) new ≡ all
block_more ss i s old new all less is e so_far =
    ap (in_list (drop (i + 1) ss)) e
    ∙ (marked_both (statement_events (statement_of s)) (block_events (statements_of (drop (i + 1) ss))) old
    ∙ (sym (ap (λ (l : List Stmt). in_list l old) (drop_more ss i s less ∙ ap (λ (t : Stmt). t ∷ drop (i + 1) ss) (sym is))) ∙ so_far))

pub block_done : (ss : List Stmt) (i : ℕ) (cs all : List Candidate) → length ss ≤ i → in_list (drop i ss) cs ≡ all → cs ≡ all
block_done ss i cs all most so_far = sym (marked_none cs) ∙ (sym (ap (λ (l : List Stmt). in_list l cs) (drop_all i ss most)) ∙ so_far)

-- ---- functions

abbrev pub in_functions : List Func → List Candidate → List Candidate
in_functions fs cs = marked (flat_map function_events (map function_of fs)) cs

pub functions_more : (fs : List Func) (i : ℕ) (f : Func) (body : List Stmt) (old new all : List Candidate) → i < length fs → f ≡ get_or fs i f → body ≡ f.body.items
    → new ≡ in_list body old → in_functions (drop i fs) old ≡ all → in_functions (drop (i + 1) fs) new ≡ all
functions_more fs i f body old new all less is own e so_far =
    let text : List TextEvent = block_events (statements_of f.body.items) in
    ap (in_functions (drop (i + 1) fs)) (e ∙ (ap (λ (l : List Stmt). in_list l old) own ∙ (closed text old ∙ function_none f.name (text ++ events.Close ∷ []) old)))
    ∙ (marked_both (function_events (function_of f)) (flat_map function_events (map function_of (drop (i + 1) fs))) old
    ∙ (sym (ap (λ (l : List Func). in_functions l old) (drop_more fs i f less ∙ ap (λ (g : Func). g ∷ drop (i + 1) fs) (sym is))) ∙ so_far))

pub functions_done : (fs : List Func) (i : ℕ) (cs all : List Candidate) → length fs ≤ i → in_functions (drop i fs) cs ≡ all → cs ≡ all
functions_done fs i cs all most so_far = sym (marked_none cs) ∙ (sym (ap (λ (l : List Func). in_functions l cs) (drop_all i fs most)) ∙ so_far)

-- its functions, and main behind them
pub program_marked : (p : Whole) (cs : List Candidate) → marked (block_events p.main) (marked (flat_map function_events p.funcs) cs) ≡ marked (program_events p) cs
program_marked p cs =
    let texts : List TextEvent = flat_map function_events p.funcs in
    closed (block_events p.main) (marked texts cs)
    ∙ (main_none (block_events p.main ++ events.Close ∷ []) (marked texts cs)
    ∙ (marked_both texts (main_events p.main) cs ∙ declared_none p.decls (texts ++ main_events p.main) cs))

-- ---- those that stay

pub all_kept : (es : List TextEvent) (ds : List Declared) → kept_of (marked es (map candidate_of ds)) ≡ filter (λ (d : Declared). is_named es d.name) ds
unfolding marked
all_kept es [] = refl
all_kept es (d ∷ ds) =
    ap (λ (l : List Declared). (if is_named es d.name then d ∷ [] else []) ++ l) (all_kept es ds)
    ∙ by_test (is_named es d.name) (filter (λ (d : Declared). is_named es d.name) ds)
  where
    by_test : (t : Bool) (rest : List Declared) → (if t then d ∷ [] else []) ++ rest ≡ (if t then d ∷ rest else rest)
    by_test true rest = refl
    by_test false rest = refl

-- what is written through a slice of a list in memory
pub written_back : (cs new : List Candidate) (len : ℕ) → len ≡ length cs → length new ≡ length cs → take len (new ++ drop (length new) cs) ≡ new
written_back cs new len e h = take_at new (drop (length new) cs) len (h ∙ sym e)
