-- What is read as a line is spelled so, within its bounds.
use Rattle.std.proofs.Common.{◌≡◌, ℕ, zero, suc, ◌+◌, ◌*◌, ◌/◌, ◌%◌, ◌^◌, ◌<◌, ◌≤◌, ℤ, pos, negsuc, List, [], ◌∷◌, ◌++◌, Option, Some, None, Bool, true, false, cond, ◌⊎◌, inl, inr, refl, sym, ap, ◌∙◌, subst, arith, append_assoc, append-nil, ⊎_elim}
use Rattle.std.specs.Prelude.{nat_eq, nat_le, codes, decimal, replicate, if◌then◌else◌}
use Rattle.std.proofs.lemmas.Bool.{leb-true, eqb-true, and_parts}
use Rattle.c_ast.specs.declared.Name.{Name}
use Rattle.c_ast.specs.declared.Bound.{Bound}
use Rattle.c_ast.specs.declared.Bound.TheVariants as bounds
use Rattle.c_ast.specs.Syntax.{Exp, Place, scalar, cell, Asked, more, input, until, limit, Told, start, event, value, finish, stop}
use Rattle.c_ast.specs.Spelling.{name_text, exp_text, place_text, asked_text, told_text, bound_text, line_text, Line, IndentedLine, row_of, header_line, scalar_line, array_line, function_line, main_line, set_line, ask_line, if_line, else_line, for_line, call_line, tell_line, close_line}
use Rattle.c_ast.specs.Rules.{same_name}
use Rattle.c_ast.specs.Bounds.{IsName, IsExp, IsPlace, IsAsked, IsTold, IsBound, Fits}
use Rattle.sci_text.specs.Reading.{◌>>=◌, or_else, after, ended}
use Rattle.sci_text.specs.Numbers.{number_at}
use Rattle.sci_text.proofs.Parts.{bind_some, else_cases, guarded, after_takes, some_is, ended_takes}
use Rattle.sci_text.proofs.Numbers.{number_takes}
use Rattle.c_parse.specs.Reading.{closed, name_at, exp_at}
use Rattle.c_parse.specs.LineReading.{ending, full_at, next_at, target_at, asked_at, assigned_at, named_at, three_at, four_at, told_at, tell_at, bound_at, same_at, counted_at, for_at, size_at, declared_at, static_at, closing_at, if_at, line_at, blanks, unindented, row_at}
use Rattle.c_parse.specs.LineBounds.{IsLine, row_bytes}
use Rattle.c_parse.proofs.Parts.{closed_takes}
use Rattle.c_parse.proofs.Expressions.{name_takes, exp_takes}

ending_takes : {A : Type 0} (x : A) (text bytes : List ℕ) (y : A) → ending x text bytes ≡ Some y → (bytes ≡ text) × (x ≡ y)
ending_takes x text bytes y e =
    let b = bind_some (after text bytes) (ended x) y e in
    let w = ended_takes x b.0 y b.2 in
    (after_takes text bytes b.0 b.1 ∙ ap (λ (l : List ℕ). text ++ l) w.0 ∙ append-nil text, w.1)

full_takes : (bytes : List ℕ) (y : Exp × List ℕ) → full_at bytes ≡ Some y → (bytes ≡ exp_text y.0 ++ y.1) × IsExp y.0
unfolding full_at IsExp
full_takes bytes y e = exp_takes 64 bytes y e

next_takes : (bytes : List ℕ) (y : Exp × List ℕ) → next_at bytes ≡ Some y → (bytes ≡ codes ", " ++ (exp_text y.0 ++ y.1)) × IsExp y.0
unfolding next_at
next_takes bytes y e =
    let b = bind_some (after (codes ", ") bytes) full_at y e in
    let t = full_takes b.0 y b.2 in
    (after_takes (codes ", ") bytes b.0 b.1 ∙ ap (λ (l : List ℕ). codes ", " ++ l) t.0, t.1)

made_text : (front key e close rest : List ℕ) → front ++ (key ++ (e ++ (close ++ rest))) ≡ ((front ++ key) ++ (e ++ close)) ++ rest
made_text front key e close rest = simp append_assoc

-- something made of one expression, between texts
made_takes : {B : Type 0} (make : Exp → B) (text : B → List ℕ) (Fit : B → Type 0) (front key close bytes r0 : List ℕ) (y : B × List ℕ) → bytes ≡ key ++ r0
    → ((e : Exp) → text (make e) ≡ (front ++ key) ++ (exp_text e ++ close)) → ((e : Exp) → IsExp e → Fit (make e)) → (full_at r0 >>= λ a. closed (make a.0) close a.1) ≡ Some y
    → (front ++ bytes ≡ text y.0 ++ y.1) × Fit y.0
made_takes {B = B} make text Fit front key close bytes r0 y begins spelled fit e =
    let a = bind_some (full_at r0) (λ a. closed (make a.0) close a.1) y e in
    let c = closed_takes (make a.0.0) close a.0.1 y a.2 in
    let t = full_takes r0 a.0 a.1 in
    let all : front ++ bytes ≡ text (make a.0.0) ++ y.1 =
    ap (λ (l : List ℕ). front ++ l) (begins ∙ ap (λ (l : List ℕ). key ++ l) (t.0 ∙ ap (λ (l : List ℕ). exp_text a.0.0 ++ l) c.0))
    ∙ made_text front key (exp_text a.0.0) close y.1 ∙ ap (λ (l : List ℕ). l ++ y.1) (sym (spelled a.0.0)) in
    subst (λ (q : B). (front ++ bytes ≡ text q ++ y.1) × Fit q) c.1 (all, fit a.0.0 t.1)

target_takes : (bytes : List ℕ) (y : Place × List ℕ) → target_at bytes ≡ Some y → (bytes ≡ place_text y.0 ++ y.1) × IsPlace y.0
unfolding target_at
target_takes bytes y e =
    let x = bind_some (name_at bytes) _ y e in
    let t = name_takes bytes x.0 x.1 in
    ⊎_elim
    (λ w. made_takes (cell x.0.0) place_text IsPlace [] (name_text x.0.0 ++ codes "[") (codes "]") bytes w.0 y
    (t.0 ∙ ap (λ (l : List ℕ). name_text x.0.0 ++ l) (after_takes (codes "[") x.0.1 w.0 w.1) ∙ sym (append_assoc (name_text x.0.0) (codes "[") w.0))
    (λ a. sym (append_assoc (name_text x.0.0) (codes "[") (exp_text a ++ codes "]"))) (λ a f. (t.1, f)) w.2)
    (λ w. let p : (scalar x.0.0, x.0.1) ≡ y = some_is w.1 in subst (λ (q : Place × List ℕ). (bytes ≡ place_text q.0 ++ q.1) × IsPlace q.0) p t)
    (else_cases (after (codes "[") x.0.1) (λ rest. full_at rest >>= λ a. closed (cell x.0.0 a.0) (codes "]") a.1) (Some (scalar x.0.0, x.0.1)) (Some y) x.2)

-- a fixed text
fixed_takes : {B : Type 0} (x : B) (text : B → List ℕ) (Fit : B → Type 0) (front key bytes : List ℕ) (y : B × List ℕ) → bytes ≡ key ++ y.1 → text x ≡ front ++ key → Fit x → x ≡ y.0 → (front ++ bytes ≡ text y.0 ++ y.1) × Fit y.0
fixed_takes {B = B} x text Fit front key bytes y begins spelled fit is =
    subst (λ (q : B). (front ++ bytes ≡ text q ++ y.1) × Fit q) is
    (ap (λ (l : List ℕ). front ++ l) begins ∙ sym (append_assoc front key y.1) ∙ ap (λ (l : List ℕ). l ++ y.1) (sym spelled), fit)

asked_takes : (bytes : List ℕ) (y : Asked × List ℕ) → asked_at bytes ≡ Some y → (codes "sci_" ++ bytes ≡ asked_text y.0 ++ y.1) × IsAsked y.0
unfolding asked_at
asked_takes bytes y e =
    let sci = codes "sci_" in
    ⊎_elim
    (λ w. made_takes more asked_text IsAsked sci (codes "more(") (codes ")") bytes w.0 y (after_takes (codes "more(") bytes w.0 w.1) (λ a. refl) (λ a f. f) w.2)
    (λ u. ⊎_elim
    (λ w. made_takes input asked_text IsAsked sci (codes "input(") (codes ")") bytes w.0 y (after_takes (codes "input(") bytes w.0 w.1) (λ a. refl) (λ a f. f) w.2)
    (λ u. ⊎_elim
    (λ w. let p : (until, w.0) ≡ y = some_is w.2 in fixed_takes until asked_text IsAsked sci (codes "until()") bytes y (after_takes (codes "until()") bytes w.0 w.1 ∙ ap (λ (q : Asked × List ℕ). codes "until()" ++ q.1) p) refl tt (ap (λ (q : Asked × List ℕ). q.0) p))
    (λ w. let c = closed_takes limit (codes "limit()") bytes y w.1 in fixed_takes limit asked_text IsAsked sci (codes "limit()") bytes y c.0 refl tt c.1)
    (else_cases (after (codes "until()") bytes) (λ rest. Some (until, rest)) (closed limit (codes "limit()") bytes) (Some y) u.1))
    (else_cases (after (codes "input(") bytes) (λ rest. full_at rest >>= λ a. closed (input a.0) (codes ")") a.1) _ (Some y) u.1))
    (else_cases (after (codes "more(") bytes) (λ rest. full_at rest >>= λ a. closed (more a.0) (codes ")") a.1) _ (Some y) e)

-- A line is spelled so, within its bounds.
abbrev Spells : List ℕ → Line → Type 0
Spells bytes l = (bytes ≡ line_text l) × IsLine l

-- what is assigned to a place
assigned_takes : (p : Place) (bytes : List ℕ) (l : Line) → IsPlace p → assigned_at p bytes ≡ Some l → Spells (place_text p ++ (codes " = " ++ bytes)) l
unfolding assigned_at
assigned_takes p bytes l fit e =
    ⊎_elim
    (λ w.
    let a = bind_some (asked_at w.0) (λ a. ending (ask_line p a.0) (codes ";") a.1) l w.2 in
    let t = asked_takes w.0 a.0 a.1 in
    let s = ending_takes (ask_line p a.0.0) (codes ";") a.0.1 l a.2 in
    subst (Spells (place_text p ++ (codes " = " ++ bytes))) s.1
    (ap (λ (m : List ℕ). place_text p ++ (codes " = " ++ m)) (after_takes (codes "sci_") bytes w.0 w.1 ∙ t.0 ∙ ap (λ (m : List ℕ). asked_text a.0.0 ++ m) s.0), (fit, t.1)))
    (λ w.
    let a = bind_some (full_at bytes) (λ e. ending (set_line p e.0) (codes ";") e.1) l w.1 in
    let t = full_takes bytes a.0 a.1 in
    let s = ending_takes (set_line p a.0.0) (codes ";") a.0.1 l a.2 in
    subst (Spells (place_text p ++ (codes " = " ++ bytes))) s.1
    (ap (λ (m : List ℕ). place_text p ++ (codes " = " ++ m)) (t.0 ∙ ap (λ (m : List ℕ). exp_text a.0.0 ++ m) s.0), (fit, t.1)))
    (else_cases (after (codes "sci_") bytes) (λ rest. asked_at rest >>= λ a. ending (ask_line p a.0) (codes ";") a.1) _ (Some l) e)

named_takes : (bytes : List ℕ) (l : Line) → named_at bytes ≡ Some l → Spells bytes l
unfolding named_at
named_takes bytes l e =
    let x = bind_some (name_at bytes) _ l e in
    let t = name_takes bytes x.0 x.1 in
    ⊎_elim
    (λ w.
    let s = ended_takes (call_line x.0.0) w.0 l w.2 in
    subst (Spells bytes) s.1
    (t.0 ∙ ap (λ (m : List ℕ). name_text x.0.0 ++ m) (after_takes (codes "();") x.0.1 w.0 w.1 ∙ ap (λ (m : List ℕ). codes "();" ++ m) s.0), t.1))
    (λ w.
    let p = bind_some (target_at bytes) (λ p. after (codes " = ") p.1 >>= assigned_at p.0) l w.1 in
    let q = bind_some (after (codes " = ") p.0.1) (assigned_at p.0.0) l p.2 in
    let u = target_takes bytes p.0 p.1 in
    let s = assigned_takes p.0.0 q.0 l u.1 q.2 in
    (u.0 ∙ ap (λ (m : List ℕ). place_text p.0.0 ++ m) (after_takes (codes " = ") p.0.1 q.0 q.1) ∙ s.0, s.1))
    (else_cases (after (codes "();") x.0.1) (ended (call_line x.0.0)) (target_at bytes >>= λ p. after (codes " = ") p.1 >>= assigned_at p.0) (Some l) x.2)

abbrev Tells : List ℕ → Told × List ℕ → Type 0
Tells bytes y = (codes "sci_" ++ bytes ≡ told_text y.0 ++ y.1) × IsTold y.0

three_regroup : (front key a b c rest : List ℕ) → front ++ (key ++ (a ++ (codes ", " ++ (b ++ (codes ", " ++ (c ++ (codes ")" ++ rest))))))) ≡ ((front ++ key) ++ (a ++ (codes ", " ++ (b ++ (codes ", " ++ (c ++ codes ")")))))) ++ rest
three_regroup front key a b c rest = simp append_assoc

three_takes : (make : Exp → Exp → Exp → Told) (key bytes r0 : List ℕ) (y : Told × List ℕ) → bytes ≡ key ++ r0
    → ((a b c : Exp) → told_text (make a b c) ≡ (codes "sci_" ++ key) ++ (exp_text a ++ (codes ", " ++ (exp_text b ++ (codes ", " ++ (exp_text c ++ codes ")"))))))
    → ((a b c : Exp) → IsExp a → IsExp b → IsExp c → IsTold (make a b c)) → three_at make r0 ≡ Some y → Tells bytes y
unfolding three_at
three_takes make key bytes r0 y begins spelled fit e =
    let a = bind_some (full_at r0) _ y e in
    let b = bind_some (next_at a.0.1) _ y a.2 in
    let c = bind_some (next_at b.0.1) _ y b.2 in
    let d = closed_takes (make a.0.0 b.0.0 c.0.0) (codes ")") c.0.1 y c.2 in
    let ta = full_takes r0 a.0 a.1 in
    let tb = next_takes a.0.1 b.0 b.1 in
    let tc = next_takes b.0.1 c.0 c.1 in
    let all : codes "sci_" ++ bytes ≡ told_text (make a.0.0 b.0.0 c.0.0) ++ y.1 =
    ap (λ (l : List ℕ). codes "sci_" ++ l) (begins ∙ ap (λ (l : List ℕ). key ++ l) (ta.0 ∙ ap (λ (l : List ℕ). exp_text a.0.0 ++ l) (tb.0 ∙ ap (λ (l : List ℕ). codes ", " ++ (exp_text b.0.0 ++ l)) (tc.0 ∙ ap (λ (l : List ℕ). codes ", " ++ (exp_text c.0.0 ++ l)) d.0))))
    ∙ three_regroup (codes "sci_") key (exp_text a.0.0) (exp_text b.0.0) (exp_text c.0.0) y.1 ∙ ap (λ (l : List ℕ). l ++ y.1) (sym (spelled a.0.0 b.0.0 c.0.0)) in
    subst (λ (q : Told). (codes "sci_" ++ bytes ≡ told_text q ++ y.1) × IsTold q) d.1 (all, fit a.0.0 b.0.0 c.0.0 ta.1 tb.1 tc.1)

four_regroup : (key a b c d rest : List ℕ) → key ++ (a ++ (codes ", " ++ (b ++ (codes ", " ++ (c ++ (codes ", " ++ (d ++ (codes ")" ++ rest)))))))) ≡ (key ++ (a ++ (codes ", " ++ (b ++ (codes ", " ++ (c ++ (codes ", " ++ (d ++ codes ")")))))))) ++ rest
four_regroup key a b c d rest = simp append_assoc

four_takes : (bytes r0 : List ℕ) (y : Told × List ℕ) → bytes ≡ codes "val(" ++ r0 → four_at r0 ≡ Some y → Tells bytes y
unfolding four_at
four_takes bytes r0 y begins e =
    let a = bind_some (full_at r0) _ y e in
    let b = bind_some (next_at a.0.1) _ y a.2 in
    let c = bind_some (next_at b.0.1) _ y b.2 in
    let d = bind_some (next_at c.0.1) _ y c.2 in
    let last = closed_takes (value a.0.0 b.0.0 c.0.0 d.0.0) (codes ")") d.0.1 y d.2 in
    let ta = full_takes r0 a.0 a.1 in
    let tb = next_takes a.0.1 b.0 b.1 in
    let tc = next_takes b.0.1 c.0 c.1 in
    let td = next_takes c.0.1 d.0 d.1 in
    let all : codes "sci_" ++ bytes ≡ told_text (value a.0.0 b.0.0 c.0.0 d.0.0) ++ y.1 =
    ap (λ (l : List ℕ). codes "sci_" ++ l) (begins ∙ ap (λ (l : List ℕ). codes "val(" ++ l) (ta.0 ∙ ap (λ (l : List ℕ). exp_text a.0.0 ++ l) (tb.0 ∙ ap (λ (l : List ℕ). codes ", " ++ (exp_text b.0.0 ++ l)) (tc.0 ∙ ap (λ (l : List ℕ). codes ", " ++ (exp_text c.0.0 ++ l)) (td.0 ∙ ap (λ (l : List ℕ). codes ", " ++ (exp_text d.0.0 ++ l)) last.0)))))
    ∙ four_regroup (codes "sci_val(") (exp_text a.0.0) (exp_text b.0.0) (exp_text c.0.0) (exp_text d.0.0) y.1 in
    subst (λ (q : Told). (codes "sci_" ++ bytes ≡ told_text q ++ y.1) × IsTold q) last.1 (all, (ta.1, tb.1, tc.1, td.1))

told_takes : (bytes : List ℕ) (y : Told × List ℕ) → told_at bytes ≡ Some y → Tells bytes y
unfolding told_at
told_takes bytes y e =
    ⊎_elim
    (λ w. let p : (start, w.0) ≡ y = some_is w.2 in fixed_takes start told_text IsTold (codes "sci_") (codes "start()") bytes y (after_takes (codes "start()") bytes w.0 w.1 ∙ ap (λ (q : Told × List ℕ). codes "start()" ++ q.1) p) refl tt (ap (λ (q : Told × List ℕ). q.0) p))
    (λ u. ⊎_elim
    (λ w. three_takes event (codes "event(") bytes w.0 y (after_takes (codes "event(") bytes w.0 w.1) (λ a b c. refl) (λ a b c f g h. (f, g, h)) w.2)
    (λ u. ⊎_elim
    (λ w. four_takes bytes w.0 y (after_takes (codes "val(") bytes w.0 w.1) w.2)
    (λ u. ⊎_elim
    (λ w. made_takes finish told_text IsTold (codes "sci_") (codes "end(") (codes ")") bytes w.0 y (after_takes (codes "end(") bytes w.0 w.1) (λ a. refl) (λ a f. f) w.2)
    (λ u. let w = bind_some (after (codes "stop(") bytes) (three_at stop) y u.1 in three_takes stop (codes "stop(") bytes w.0 y (after_takes (codes "stop(") bytes w.0 w.1) (λ a b c. refl) (λ a b c f g h. (f, g, h)) w.2)
    (else_cases (after (codes "end(") bytes) (λ rest. full_at rest >>= λ a. closed (finish a.0) (codes ")") a.1) _ (Some y) u.1))
    (else_cases (after (codes "val(") bytes) four_at _ (Some y) u.1))
    (else_cases (after (codes "event(") bytes) (three_at event) _ (Some y) u.1))
    (else_cases (after (codes "start()") bytes) (λ rest. Some (start, rest)) _ (Some y) e)

tell_takes : (bytes : List ℕ) (l : Line) → tell_at bytes ≡ Some l → Spells (codes "sci_" ++ bytes) l
unfolding tell_at
tell_takes bytes l e =
    let t = bind_some (told_at bytes) (λ t. ending (tell_line t.0) (codes ";") t.1) l e in
    let s = ending_takes (tell_line t.0.0) (codes ";") t.0.1 l t.2 in
    let u = told_takes bytes t.0 t.1 in
    subst (Spells (codes "sci_" ++ bytes)) s.1 (u.0 ∙ ap (λ (m : List ℕ). told_text t.0.0 ++ m) s.0, u.1)

bound_takes : (bytes : List ℕ) (y : Bound × List ℕ) → bound_at bytes ≡ Some y → (bytes ≡ bound_text y.0 ++ y.1) × IsBound y.0
unfolding bound_at
bound_takes bytes y e =
    ⊎_elim
    (λ w.
    let n = bind_some (number_at (2 ^ 63) w.0) (λ n. closed (bounds.Num (pos n.0)) (codes ")") n.1) y w.2 in
    let c = closed_takes (bounds.Num (pos n.0.0)) (codes ")") n.0.1 y n.2 in
    let t = number_takes (2 ^ 63) w.0 n.0 (omega arith) n.1 in
    subst (λ (q : Bound). (bytes ≡ bound_text q ++ y.1) × IsBound q) c.1
    (after_takes (codes "INT64_C(") bytes w.0 w.1 ∙ ap (λ (l : List ℕ). codes "INT64_C(" ++ l) (t.0 ∙ ap (λ (l : List ℕ). decimal n.0.0 ++ l) c.0 ∙ sym (append_assoc (decimal n.0.0) (codes ")") y.1)), t.1))
    (λ w.
    let x = bind_some (name_at bytes) (λ x. Some (bounds.Var x.0, x.1)) y w.1 in
    let p : (bounds.Var x.0.0, x.0.1) ≡ y = some_is x.2 in
    subst (λ (q : Bound × List ℕ). (bytes ≡ bound_text q.0 ++ q.1) × IsBound q.0) p (name_takes bytes x.0 x.1))
    (else_cases (after (codes "INT64_C(") bytes) (λ rest. number_at (2 ^ 63) rest >>= λ n. closed (bounds.Num (pos n.0)) (codes ")") n.1) _ (Some y) e)

same_is : (x y : Name) → same_name x y ≡ true → x ≡ y
same_is x y h =
    let p = and_parts (nat_eq x.letter y.letter) (nat_eq x.number y.number) h in
    let l = eqb-true x.letter y.letter p.0 in
    let n = eqb-true x.number y.number p.1 in
    names x.letter x.number y.letter y.number l n
  where
    names : (a b c d : ℕ) → a ≡ c → b ≡ d → (let p : Name = record { letter = a; number = b } in p) ≡ (let q : Name = record { letter = c; number = d } in q)
    names a b c d e f = cc

same_takes : (x : Name) (bytes rest : List ℕ) → same_at x bytes ≡ Some rest → bytes ≡ name_text x ++ rest
unfolding same_at
same_takes x bytes rest e =
    let y = bind_some (name_at bytes) (λ y. if same_name x y.0 then Some y.1 else None) rest e in
    let g = guarded (same_name x y.0.0) (Some y.0.1) rest y.2 in
    let t = name_takes bytes y.0 y.1 in
    let r : y.0.1 ≡ rest = some_is g.1 in
    t.0 ∙ ap (λ (n : Name). name_text n ++ y.0.1) (sym (same_is x y.0.0 g.0)) ∙ ap (λ (l : List ℕ). name_text x ++ l) r

counted_takes : (x : Name) (b : Bound) (bytes : List ℕ) (l : Line) → counted_at x b bytes ≡ Some l → (bytes ≡ codes "; " ++ (name_text x ++ (codes " = " ++ (name_text x ++ codes " + INT64_C(1)) {")))) × (for_line x b ≡ l)
unfolding counted_at
counted_takes x b bytes l e =
    let k4 = bind_some (after (codes "; ") bytes >>= same_at x >>= after (codes " = ") >>= same_at x) (ending (for_line x b) (codes " + INT64_C(1)) {")) l e in
    let k3 = bind_some (after (codes "; ") bytes >>= same_at x >>= after (codes " = ")) (same_at x) k4.0 k4.1 in
    let k2 = bind_some (after (codes "; ") bytes >>= same_at x) (after (codes " = ")) k3.0 k3.1 in
    let k1 = bind_some (after (codes "; ") bytes) (same_at x) k2.0 k2.1 in
    let s = ending_takes (for_line x b) (codes " + INT64_C(1)) {") k4.0 l k4.2 in
    (after_takes (codes "; ") bytes k1.0 k1.1 ∙ ap (λ (m : List ℕ). codes "; " ++ m) (same_takes x k1.0 k2.0 k1.2 ∙ ap (λ (m : List ℕ). name_text x ++ m) (after_takes (codes " = ") k2.0 k3.0 k2.2 ∙ ap (λ (m : List ℕ). codes " = " ++ m) (same_takes x k3.0 k4.0 k3.2 ∙ ap (λ (m : List ℕ). name_text x ++ m) s.0))), s.1)

for_takes : (bytes : List ℕ) (l : Line) → for_at bytes ≡ Some l → Spells (codes "for (" ++ bytes) l
unfolding for_at
for_takes bytes l e =
    let x = bind_some (name_at bytes) _ l e in
    let n = x.0.0 in
    let k4 = bind_some (after (codes " = INT64_C(0); ") x.0.1 >>= same_at n >>= after (codes " < ") >>= bound_at) (λ b. counted_at n b.0 b.1) l x.2 in
    let k3 = bind_some (after (codes " = INT64_C(0); ") x.0.1 >>= same_at n >>= after (codes " < ")) bound_at k4.0 k4.1 in
    let k2 = bind_some (after (codes " = INT64_C(0); ") x.0.1 >>= same_at n) (after (codes " < ")) k3.0 k3.1 in
    let k1 = bind_some (after (codes " = INT64_C(0); ") x.0.1) (same_at n) k2.0 k2.1 in
    let t = name_takes bytes x.0 x.1 in
    let b = bound_takes k3.0 k4.0 k3.2 in
    let c = counted_takes n k4.0.0 k4.0.1 l k4.2 in
    subst (Spells (codes "for (" ++ bytes)) c.1
    (ap (λ (m : List ℕ). codes "for (" ++ m) (t.0 ∙ ap (λ (m : List ℕ). name_text n ++ m) (after_takes (codes " = INT64_C(0); ") x.0.1 k1.0 k1.1 ∙ ap (λ (m : List ℕ). codes " = INT64_C(0); " ++ m) (same_takes n k1.0 k2.0 k1.2 ∙ ap (λ (m : List ℕ). name_text n ++ m) (after_takes (codes " < ") k2.0 k3.0 k2.2 ∙ ap (λ (m : List ℕ). codes " < " ++ m) (b.0 ∙ ap (λ (m : List ℕ). bound_text k4.0.0 ++ m) c.0))))), (t.1, b.1))

size_takes : (x : Name) (bytes : List ℕ) (l : Line) → IsName x → size_at x bytes ≡ Some l → Spells (codes "static int64_t " ++ (name_text x ++ (codes "[" ++ bytes))) l
unfolding size_at
size_takes x bytes l f e =
    let n = bind_some (number_at 1048577 bytes) _ l e in
    let g = guarded (nat_le 1 n.0.0) (ending (array_line x n.0.0) (codes "];") n.0.1) l n.2 in
    let t = number_takes 1048577 bytes n.0 (omega arith) n.1 in
    let s = ending_takes (array_line x n.0.0) (codes "];") n.0.1 l g.1 in
    let high : n.0.0 ≤ 1048576 = omega (arith, t.1) in
    subst (Spells (codes "static int64_t " ++ (name_text x ++ (codes "[" ++ bytes)))) s.1
    (ap (λ (m : List ℕ). codes "static int64_t " ++ (name_text x ++ (codes "[" ++ m))) (t.0 ∙ ap (λ (m : List ℕ). decimal n.0.0 ++ m) s.0), (f, (leb-true 1 n.0.0 g.0, high)))

declared_takes : (bytes : List ℕ) (l : Line) → declared_at bytes ≡ Some l → Spells (codes "static int64_t " ++ bytes) l
unfolding declared_at
declared_takes bytes l e =
    let x = bind_some (name_at bytes) _ l e in
    let t = name_takes bytes x.0 x.1 in
    ⊎_elim
    (λ w. let s = size_takes x.0.0 w.0 l t.1 w.2 in (ap (λ (m : List ℕ). codes "static int64_t " ++ m) (t.0 ∙ ap (λ (m : List ℕ). name_text x.0.0 ++ m) (after_takes (codes "[") x.0.1 w.0 w.1)) ∙ s.0, s.1))
    (λ w.
    let s = ending_takes (scalar_line x.0.0) (codes ";") x.0.1 l w.1 in
    subst (Spells (codes "static int64_t " ++ bytes)) s.1 (ap (λ (m : List ℕ). codes "static int64_t " ++ m) (t.0 ∙ ap (λ (m : List ℕ). name_text x.0.0 ++ m) s.0), t.1))
    (else_cases (after (codes "[") x.0.1) (size_at x.0.0) (ending (scalar_line x.0.0) (codes ";") x.0.1) (Some l) x.2)

static_takes : (bytes : List ℕ) (l : Line) → static_at bytes ≡ Some l → Spells (codes "static " ++ bytes) l
unfolding static_at
static_takes bytes l e =
    ⊎_elim
    (λ w. let s = declared_takes w.0 l w.2 in (ap (λ (m : List ℕ). codes "static " ++ m) (after_takes (codes "int64_t ") bytes w.0 w.1) ∙ s.0, s.1))
    (λ w.
    let k2 = bind_some (after (codes "void ") bytes >>= name_at) (λ f. ending (function_line f.0) (codes "(void) {") f.1) l w.1 in
    let k1 = bind_some (after (codes "void ") bytes) name_at k2.0 k2.1 in
    let t = name_takes k1.0 k2.0 k1.2 in
    let s = ending_takes (function_line k2.0.0) (codes "(void) {") k2.0.1 l k2.2 in
    subst (Spells (codes "static " ++ bytes)) s.1 (ap (λ (m : List ℕ). codes "static " ++ m) (after_takes (codes "void ") bytes k1.0 k1.1 ∙ ap (λ (m : List ℕ). codes "void " ++ m) (t.0 ∙ ap (λ (m : List ℕ). name_text k2.0.0 ++ m) s.0)), t.1))
    (else_cases (after (codes "int64_t ") bytes) declared_at _ (Some l) e)

closing_takes : (bytes : List ℕ) (l : Line) → closing_at bytes ≡ Some l → Spells (codes "}" ++ bytes) l
unfolding closing_at
closing_takes bytes l e =
    ⊎_elim
    (λ w. let s = ended_takes else_line w.0 l w.2 in subst (Spells (codes "}" ++ bytes)) s.1 (ap (λ (m : List ℕ). codes "}" ++ m) (after_takes (codes " else {") bytes w.0 w.1 ∙ ap (λ (m : List ℕ). codes " else {" ++ m) s.0), tt))
    (λ w. let s = ended_takes close_line bytes l w.1 in subst (Spells (codes "}" ++ bytes)) s.1 (ap (λ (m : List ℕ). codes "}" ++ m) s.0, tt))
    (else_cases (after (codes " else {") bytes) (ended else_line) (ended close_line bytes) (Some l) e)

if_takes : (bytes : List ℕ) (l : Line) → if_at bytes ≡ Some l → Spells (codes "if (" ++ bytes) l
unfolding if_at
if_takes bytes l e =
    let a = bind_some (full_at bytes) (λ e. ending (if_line e.0) (codes ") {") e.1) l e in
    let t = full_takes bytes a.0 a.1 in
    let s = ending_takes (if_line a.0.0) (codes ") {") a.0.1 l a.2 in
    subst (Spells (codes "if (" ++ bytes)) s.1 (ap (λ (m : List ℕ). codes "if (" ++ m) (t.0 ∙ ap (λ (m : List ℕ). exp_text a.0.0 ++ m) s.0), t.1)

-- a line behind the text with which it begins
begun : (key bytes rest : List ℕ) (l : Line) → after key bytes ≡ Some rest → Spells (key ++ rest) l → Spells bytes l
begun key bytes rest l e s = (after_takes key bytes rest e ∙ s.0, s.1)

pub line_takes : (bytes : List ℕ) (l : Line) → line_at bytes ≡ Some l → Spells bytes l
unfolding line_at
line_takes bytes l e =
    ⊎_elim
    (λ w. begun (codes "}") bytes w.0 l w.1 (closing_takes w.0 l w.2))
    (λ u. ⊎_elim
    (λ w. begun (codes "if (") bytes w.0 l w.1 (if_takes w.0 l w.2))
    (λ u. ⊎_elim
    (λ w. begun (codes "for (") bytes w.0 l w.1 (for_takes w.0 l w.2))
    (λ u. ⊎_elim
    (λ w. begun (codes "sci_") bytes w.0 l w.1 (tell_takes w.0 l w.2))
    (λ u. ⊎_elim
    (λ w. begun (codes "static ") bytes w.0 l w.1 (static_takes w.0 l w.2))
    (λ u. ⊎_elim
    (λ w. let s = ended_takes main_line w.0 l w.2 in subst (Spells bytes) s.1 (after_takes (codes "void sci_main(void) {") bytes w.0 w.1 ∙ ap (λ (m : List ℕ). codes "void sci_main(void) {" ++ m) s.0, tt))
    (λ w. named_takes bytes l w.1)
    (else_cases (after (codes "void sci_main(void) {") bytes) (ended main_line) (named_at bytes) (Some l) u.1))
    (else_cases (after (codes "static ") bytes) static_at _ (Some l) u.1))
    (else_cases (after (codes "sci_") bytes) tell_at _ (Some l) u.1))
    (else_cases (after (codes "for (") bytes) for_at _ (Some l) u.1))
    (else_cases (after (codes "if (") bytes) if_at _ (Some l) u.1))
    (else_cases (after (codes "}") bytes) closing_at _ (Some l) e)

blank_step : (b : Bool) (c : ℕ) (cs front tail : List ℕ) (n : ℕ) → (b ≡ true → c ≡ 32) → cs ≡ replicate n 32 ++ tail → c ∷ cs ≡ replicate {A = ℕ} (cond b (suc n) 0) 32 ++ cond b tail (c ∷ cs)
blank_step true c cs front tail n is e = let k = is refl in ap (λ (x : ℕ). x ∷ cs) k ∙ ap (λ (l : List ℕ). 32 ∷ l) e
blank_step false c cs front tail n is e = refl

blanks_split : (bytes : List ℕ) → bytes ≡ replicate (blanks bytes) 32 ++ unindented bytes
blanks_split [] = refl
blanks_split (c ∷ cs) = blank_step (nat_eq c 32) c cs [] (unindented cs) (blanks cs) (eqb-true c 32) (blanks_split cs)

-- a line with its depth
pub row_takes : (bytes : List ℕ) (r : IndentedLine) → row_at bytes ≡ Some r → (bytes ≡ row_bytes r) × IsLine r.line
unfolding row_at
row_takes bytes r e =
    let g = guarded (nat_eq (blanks bytes % 2) 0) (line_at (unindented bytes) >>= λ l. Some (row_of (blanks bytes / 2) l)) r e in
    let l = bind_some (line_at (unindented bytes)) (λ l. Some (row_of (blanks bytes / 2) l)) r g.1 in
    let p : row_of (blanks bytes / 2) l.0 ≡ r = some_is l.2 in
    let t = line_takes (unindented bytes) l.0 l.1 in
    let even = eqb-true (blanks bytes % 2) 0 g.0 in
    let twice : blanks bytes ≡ 2 * (blanks bytes / 2) = omega arith in
    subst (λ (q : IndentedLine). (bytes ≡ row_bytes q) × IsLine q.line) p
    (blanks_split bytes ∙ ap (λ (n : ℕ). replicate n 32 ++ unindented bytes) twice ∙ ap (λ (m : List ℕ). replicate (2 * (blanks bytes / 2)) 32 ++ m) t.0, t.1)
