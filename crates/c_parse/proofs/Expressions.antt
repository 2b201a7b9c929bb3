-- Expressions are read as they are spelled.
use Rattle.std.proofs.Common.{◌≡◌, ℕ, zero, suc, ◌+◌, ◌*◌, ◌-◌, ◌^◌, ◌<◌, ◌≤◌, ℤ, pos, negsuc, List, [], ◌∷◌, ◌++◌, length, get_or, Option, Some, None, Bool, true, false, cond, ◌⊎◌, inl, inr, refl, sym, ap, ◌∙◌, subst, arith, append_assoc, ⊎_elim, rules}
use Rattle.std.specs.Prelude.{nat_eq, nat_lt, nat_le, codes, decimal, if◌then◌else◌}
use Rattle.std.specs.Fmt.{signed_decimal}
use Rattle.std.specs.Char.{is_ascii_digit}
use Rattle.std.specs.Str.{all_ascii_digits}
use Rattle.std.proofs.lemmas.Bool.{eqb-true, ne_eqb, lt-ltb, leb-true, leb-false, cases_lt, and_parts, and_from, cond-true, cond-false}
use Rattle.std.proofs.lemmas.Fmt.{digits_decimal, decimal_nonempty}
use Rattle.c_ast.specs.declared.Name.{Name}
use Rattle.c_ast.specs.declared.Op.{Op}
use Rattle.c_ast.specs.declared.Op.TheVariants.{Add, Sub, Mul, Div, Rem, Lt, Le, Gt, Ge, Eq, Ne, And, Or}
use Rattle.c_ast.specs.Syntax.{Exp, num, var, element, neg, not, bin}
use Rattle.c_ast.specs.Spelling.{name_text, op_text, op_open, is_arithmetic, exp_text}
use Rattle.sci_text.specs.Reading.{◌>>=◌, or_else, after}
use Rattle.sci_text.specs.Numbers.{number_at}
use Rattle.sci_text.proofs.Parts.{bind_some, else_cases, chosen, guarded, after_takes, after_again, some_is}
use Rattle.sci_text.proofs.Numbers.{own, no_digit, number_again, number_takes}
use Rattle.c_parse.specs.Reading.{closed, name_at, arithmetic, comparisons, family, op_at, Reader, sides_at, cast_at, bracket_at, place_at, literal_at, level_at, exp_at, ends}
use Rattle.c_ast.specs.Bounds.{is_letter, IsName, IsNumber, Fits}
use Rattle.c_parse.proofs.Parts.{closed_takes}

-- what a reader gives of this text, and what must follow
abbrev Again : Reader → List ℕ → Exp → List ℕ → Type 0
Again read text e rest = read (text ++ rest) ≡ Some (e, rest)

ends_cases : (b d : Bool) → cond b false (cond d false true) ≡ true → (b ≡ false) × (d ≡ false)
ends_cases true d e = absurd cc
ends_cases false true e = absurd cc
ends_cases false false e = (refl, refl)

pub no_digit_from : (rest : List ℕ) → ends rest ≡ true → no_digit rest ≡ true
no_digit_from [] e = refl
no_digit_from (c ∷ cs) e = cond-false (is_ascii_digit c) _ _ (ends_cases (is_ascii_digit c) (nat_eq c 91) e).0

pub no_bracket : (rest : List ℕ) → ends rest ≡ true → after (codes "[") rest ≡ None
no_bracket [] e = refl
no_bracket (c ∷ cs) e = cond-false (nat_eq c 91) _ _ (ends_cases (is_ascii_digit c) (nat_eq c 91) e).1

pub name_again : (x : Name) (rest : List ℕ) → IsName x → no_digit rest ≡ true → name_at (name_text x ++ rest) ≡ Some (x, rest)
unfolding name_at
name_again x rest f n =
    let m = number_again (2 ^ 32) x.number rest f.1 (omega arith) n in
    cond-true (is_letter x.letter) _ _ f.0 ∙ ap (λ o. o >>= (λ n. Some (record { letter = x.letter; number = n.0 }, n.1))) m

pub letter_range : (c : ℕ) → is_letter c ≡ true → 97 ≤ c
letter_range c h = leb-true 97 c (guarded_bool (nat_le 97 c) (nat_le c 122) h)
  where
    guarded_bool : (a b : Bool) → cond a b false ≡ true → a ≡ true
    guarded_bool true b e = refl
    guarded_bool false b e = absurd cc

level_name : (read : Reader) (c : ℕ) (bytes : List ℕ) → is_letter c ≡ true → level_at read (c ∷ bytes) ≡ place_at read (c ∷ bytes)
unfolding level_at
level_name read c bytes h =
    let l = letter_range c h in
    let bracket : after (codes "(") (c ∷ bytes) ≡ None = cond-false (nat_eq c 40) _ _ (ne_eqb c 40 (λ e. omega arith)) in
    let literal : after (codes "INT64_C(") (c ∷ bytes) ≡ None = cond-false (nat_eq c 73) _ _ (ne_eqb c 73 (λ e. omega arith)) in
    ap (λ o. or_else o (bracket_at read) (or_else (after (codes "INT64_C(") (c ∷ bytes)) literal_at (place_at read (c ∷ bytes)))) bracket
    ∙ ap (λ o. or_else o literal_at (place_at read (c ∷ bytes))) literal

var_again : (read : Reader) (x : Name) (rest : List ℕ) → IsName x → ends rest ≡ true → level_at read (name_text x ++ rest) ≡ Some (var x, rest)
unfolding place_at
var_again read x rest f n =
    level_name read x.letter (decimal x.number ++ rest) f.0
    ∙ rw (name_again x rest f (no_digit_from rest n), no_bracket rest n) refl

element_again : (read : Reader) (x : Name) (e : Exp) (text rest : List ℕ) → IsName x → Again read text e (93 ∷ rest) → level_at read (name_text x ++ (91 ∷ (text ++ 93 ∷ rest))) ≡ Some (element x e, rest)
unfolding place_at
element_again read x e text rest f h =
    level_name read x.letter (decimal x.number ++ (91 ∷ (text ++ 93 ∷ rest))) f.0
    ∙ rw (name_again x (91 ∷ (text ++ 93 ∷ rest)) f refl, h) refl

num_again : (read : Reader) (n : ℕ) (rest : List ℕ) → n < 2 ^ 63 → level_at read (codes "INT64_C(" ++ (decimal n ++ 41 ∷ rest)) ≡ Some (num (pos n), rest)
unfolding level_at literal_at
num_again read n rest h = rw (number_again (2 ^ 63) n (41 ∷ rest) h (omega arith) refl) refl

neg_again : (read : Reader) (e : Exp) (text rest : List ℕ) → Again read text e (41 ∷ rest) → level_at read (codes "(-" ++ (text ++ 41 ∷ rest)) ≡ Some (neg e, rest)
unfolding level_at bracket_at
neg_again read e text rest h = rw h refl

not_again : (read : Reader) (e : Exp) (text rest : List ℕ) → Again read text e (41 ∷ rest) → level_at read (codes "(int64_t)(!" ++ (text ++ 41 ∷ rest)) ≡ Some (not e, rest)
unfolding level_at bracket_at cast_at
not_again read e text rest h = rw h refl

op_again : (op : Op) (rest : List ℕ) → op_at (family (is_arithmetic op)) (op_text op ++ rest) ≡ Some (op, rest)
op_again Add rest = refl
op_again Sub rest = refl
op_again Mul rest = refl
op_again Div rest = refl
op_again Rem rest = refl
op_again Lt rest = refl
op_again Le rest = refl
op_again Gt rest = refl
op_again Ge rest = refl
op_again Eq rest = refl
op_again Ne rest = refl
op_again And rest = refl
op_again Or rest = refl

op_ends : (op : Op) (rest : List ℕ) → ends (op_text op ++ rest) ≡ true
op_ends Add rest = refl
op_ends Sub rest = refl
op_ends Mul rest = refl
op_ends Div rest = refl
op_ends Rem rest = refl
op_ends Lt rest = refl
op_ends Le rest = refl
op_ends Gt rest = refl
op_ends Ge rest = refl
op_ends Eq rest = refl
op_ends Ne rest = refl
op_ends And rest = refl
op_ends Or rest = refl

sides_again : (read : Reader) (ops : List Op) (op : Op) (a b : Exp) (ta tb to rest : List ℕ) → Again read ta a (to ++ (tb ++ 41 ∷ rest)) → op_at ops (to ++ (tb ++ 41 ∷ rest)) ≡ Some (op, tb ++ 41 ∷ rest) → Again read tb b (41 ∷ rest) → sides_at read ops (ta ++ (to ++ (tb ++ 41 ∷ rest))) ≡ Some (bin op a b, rest)
unfolding sides_at
sides_again read ops op a b ta tb to rest ha ho hb = rw (ha, ho, hb) refl

-- neither a minus nor a cast stands in front of an expression
abbrev Plain : List ℕ → Type 0
Plain text = (after (codes "-") text ≡ None) × (after (codes "int64_t)(") text ≡ None) × (after (codes "!") text ≡ None)

bin_again : (k : Bool) (read : Reader) (op : Op) (a b : Exp) (ta tb to rest : List ℕ) → Plain (ta ++ (to ++ (tb ++ 41 ∷ rest))) → sides_at read (family k) (ta ++ (to ++ (tb ++ 41 ∷ rest))) ≡ Some (bin op a b, rest) → level_at read ((if k then codes "(" else codes "(int64_t)(") ++ (ta ++ (to ++ (tb ++ 41 ∷ rest)))) ≡ Some (bin op a b, rest)
unfolding level_at bracket_at cast_at
bin_again true read op a b ta tb to rest p h = rw (p.0, p.1) h
bin_again false read op a b ta tb to rest p h = rw p.2 h

-- a digit in front is no other byte
pub not_digit : (c : ℕ) (cs ds rest : List ℕ) → is_ascii_digit c ≡ false → 0 < length ds → all_ascii_digits ds ≡ true → after (c ∷ cs) (ds ++ rest) ≡ None
not_digit c cs [] rest n some e = absurd (omega arith)
not_digit c cs (d ∷ ds) rest n some e =
    let p = and_parts (is_ascii_digit d) (all_ascii_digits ds) e in
    cond-false (nat_eq d c) _ _ (ne_eqb d c (λ s. let h : is_ascii_digit c ≡ true = subst (λ v. is_ascii_digit v ≡ true) s p.0 in cc))

name_plain : (x : Name) (rest : List ℕ) → IsName x → Plain (name_text x ++ rest)
name_plain x rest f =
    let l = letter_range x.letter f.0 in
    let small : x.number < 2 ^ 64 = omega (arith, f.1) in
    let d = not_digit 110 (codes "t64_t)(") (decimal x.number) rest refl (decimal_nonempty x.number small) (digits_decimal own x.number small) in
    (cond-false (nat_eq x.letter 45) _ _ (ne_eqb x.letter 45 (λ e. omega arith)), either (nat_eq x.letter 105) (after (codes "nt64_t)(") (decimal x.number ++ rest)) d, cond-false (nat_eq x.letter 33) _ _ (ne_eqb x.letter 33 (λ e. omega arith)))
  where
    either : (b : Bool) (o : Option (List ℕ)) → o ≡ None → cond b o None ≡ None
    either true o e = e
    either false o e = refl

bin_plain : (k : Bool) (rest : List ℕ) → Plain ((if k then codes "(" else codes "(int64_t)(") ++ rest)
bin_plain true rest = (refl, refl, refl)
bin_plain false rest = (refl, refl, refl)

plain : (e : Exp) (d : ℕ) (rest : List ℕ) → Fits d e → Plain (exp_text e ++ rest)
plain e zero rest f = absurd f
plain (num z) (suc d) rest f = (refl, refl, refl)
plain (var x) (suc d) rest f = name_plain x rest f
plain (element x e) (suc d) rest f = subst Plain (sym (append_assoc (name_text x) _ rest)) (name_plain x _ f.0)
plain (neg e) (suc d) rest f = (refl, refl, refl)
plain (not e) (suc d) rest f = (refl, refl, refl)
plain (bin op a b) (suc d) rest f = subst Plain (sym (append_assoc (op_open op) _ rest)) (bin_plain (is_arithmetic op) _)

pub exp_again : (e : Exp) (d : ℕ) (rest : List ℕ) → Fits d e → ends rest ≡ true → exp_at d (exp_text e ++ rest) ≡ Some (e, rest)
unfolding exp_at
exp_again e zero rest f n = absurd f
exp_again (num (pos m)) (suc d) rest f n = ap (λ l. level_at (exp_at d) (codes "INT64_C(" ++ l)) (append_assoc (decimal m) (41 ∷ []) rest) ∙ num_again (exp_at d) m rest f
exp_again (num (negsuc m)) (suc d) rest f n = absurd f
exp_again (var x) (suc d) rest f n = var_again (exp_at d) x rest f n
exp_again (element x e) (suc d) rest f n =
    let regroup : exp_text (element x e) ++ rest ≡ name_text x ++ (91 ∷ (exp_text e ++ 93 ∷ rest)) = simp append_assoc in
    ap (level_at (exp_at d)) regroup ∙ element_again (exp_at d) x e (exp_text e) rest f.0 (exp_again e d (93 ∷ rest) f.1 refl)
exp_again (neg e) (suc d) rest f n =
    ap (λ l. level_at (exp_at d) (codes "(-" ++ l)) (append_assoc (exp_text e) (41 ∷ []) rest) ∙ neg_again (exp_at d) e (exp_text e) rest (exp_again e d (41 ∷ rest) f refl)
exp_again (not e) (suc d) rest f n =
    ap (λ l. level_at (exp_at d) (codes "(int64_t)(!" ++ l)) (append_assoc (exp_text e) (41 ∷ []) rest) ∙ not_again (exp_at d) e (exp_text e) rest (exp_again e d (41 ∷ rest) f refl)
exp_again (bin op a b) (suc d) rest f n =
    let tail = exp_text b ++ 41 ∷ rest in
    let regroup : exp_text (bin op a b) ++ rest ≡ op_open op ++ (exp_text a ++ (op_text op ++ (exp_text b ++ 41 ∷ rest))) = simp append_assoc in
    let sides = sides_again (exp_at d) (family (is_arithmetic op)) op a b (exp_text a) (exp_text b) (op_text op) rest (exp_again a d (op_text op ++ tail) f.0 (op_ends op tail)) (op_again op tail) (exp_again b d (41 ∷ rest) f.1 refl) in
    ap (level_at (exp_at d)) regroup ∙ bin_again (is_arithmetic op) (exp_at d) op a b (exp_text a) (exp_text b) (op_text op) rest (plain a d (op_text op ++ tail) f.0) sides

-- What a reader gives is spelled so, up to the rest, and fits.
abbrev pub Takes : Reader → (Exp → Type 0) → Type 0
Takes read Fit = (bytes : List ℕ) (y : Exp × List ℕ) → read bytes ≡ Some y → (bytes ≡ exp_text y.0 ++ y.1) × Fit y.0

-- the value under another name
renamed : (Fit : Exp → Type 0) (bytes rest : List ℕ) (x y : Exp) → x ≡ y → bytes ≡ exp_text x ++ rest → Fit x → (bytes ≡ exp_text y ++ rest) × Fit y
renamed Fit bytes rest x y e s f = subst (λ q. (bytes ≡ exp_text q ++ rest) × Fit q) e (s, f)

pub name_takes : (bytes : List ℕ) (y : Name × List ℕ) → name_at bytes ≡ Some y → (bytes ≡ name_text y.0 ++ y.1) × IsName y.0
unfolding name_at
name_takes [] y e = absurd cc
name_takes (c ∷ bytes) y e =
    let g = guarded (is_letter c) _ y e in
    let b = bind_some (number_at (2 ^ 32) bytes) (λ n. Some (record { letter = c; number = n.0 }, n.1)) y g.1 in
    let t = number_takes (2 ^ 32) bytes b.0 (omega arith) b.1 in
    let x : Name = record { letter = c; number = b.0.0 } in
    let p : (x, b.0.1) ≡ y = some_is b.2 in
    subst (λ q. (c ∷ bytes ≡ name_text q.0 ++ q.1) × IsName q.0) p (ap (λ l. c ∷ l) t.0, (g.0, t.1))

op_takes : (ops : List Op) (bytes : List ℕ) (y : Op × List ℕ) → op_at ops bytes ≡ Some y → bytes ≡ op_text y.0 ++ y.1
op_takes [] bytes y e = absurd cc
op_takes (op ∷ ops) bytes y e =
    ⊎_elim
    (λ w. let t = after_takes (op_text op) bytes w.0 w.1 in let p : (op, w.0) ≡ y = some_is w.2 in subst (λ q. bytes ≡ op_text q.0 ++ q.1) p t)
    (λ w. op_takes ops bytes y w.1)
    (else_cases (after (op_text op) bytes) (λ rest. Some (op, rest)) (op_at ops bytes) (Some y) e)

abbrev AllKind : Bool → List Op → Type 0
AllKind k [] = Unit {0}
AllKind k (op ∷ ops) = (is_arithmetic op ≡ k) × AllKind k ops

all_kind : (k : Bool) → AllKind k (family k)
all_kind true = (refl, (refl, (refl, (refl, (refl, tt)))))
all_kind false = (refl, (refl, (refl, (refl, (refl, (refl, (refl, (refl, tt))))))))

-- the operator is one of the list
op_kind : (k : Bool) (ops : List Op) (bytes : List ℕ) (y : Op × List ℕ) → AllKind k ops → op_at ops bytes ≡ Some y → is_arithmetic y.0 ≡ k
op_kind k [] bytes y all e = absurd cc
op_kind k (op ∷ ops) bytes y all e =
    ⊎_elim
    (λ w. let p : (op, w.0) ≡ y = some_is w.2 in subst (λ q. is_arithmetic q.0 ≡ k) p all.0)
    (λ w. op_kind k ops bytes y all.1 w.1)
    (else_cases (after (op_text op) bytes) (λ rest. Some (op, rest)) (op_at ops bytes) (Some y) e)

-- text, a value's text and a closing bracket
closed_text : (front : List ℕ) (bytes r1 r2 rest : List ℕ) (a : Exp) (close : List ℕ) → bytes ≡ front ++ r1 → r1 ≡ exp_text a ++ r2 → r2 ≡ close ++ rest → bytes ≡ front ++ ((exp_text a ++ close) ++ rest)
closed_text front bytes r1 r2 rest a close e1 e2 e3 =
    e1 ∙ ap (λ l. front ++ l) (e2 ∙ ap (λ l. exp_text a ++ l) e3 ∙ sym (append_assoc (exp_text a) close rest))

module _ (read : Reader) (d : ℕ) (h : Takes read (Fits d)) where
  sides_takes : (k : Bool) (bytes : List ℕ) (y : Exp × List ℕ) → sides_at read (family k) bytes ≡ Some y → ((if k then codes "(" else codes "(int64_t)(") ++ bytes ≡ exp_text y.0 ++ y.1) × Fits (suc d) y.0
  unfolding sides_at
  sides_takes k bytes y e =
      let a = bind_some (read bytes) _ y e in
      let o = bind_some (op_at (family k) a.0.1) _ y a.2 in
      let b = bind_some (read o.0.1) _ y o.2 in
      let c = closed_takes (bin o.0.0 a.0.0 b.0.0) (codes ")") b.0.1 y b.2 in
      let ta = h bytes a.0 a.1 in
      let to = op_takes (family k) a.0.1 o.0 o.1 in
      let tb = h o.0.1 b.0 b.1 in
      let kind = op_kind k (family k) a.0.1 o.0 (all_kind k) o.1 in
      let text : (if k then codes "(" else codes "(int64_t)(") ++ bytes ≡ exp_text (bin o.0.0 a.0.0 b.0.0) ++ y.1 =
      ap (λ (q : Bool). (if q then codes "(" else codes "(int64_t)(") ++ bytes) (sym kind)
      ∙ ap (λ l. op_open o.0.0 ++ l) (ta.0 ∙ ap (λ l. exp_text a.0.0 ++ l) (to ∙ ap (λ l. op_text o.0.0 ++ l) (tb.0 ∙ ap (λ l. exp_text b.0.0 ++ l) c.0)))
      ∙ sym (simp append_assoc) in
      renamed (Fits (suc d)) _ y.1 (bin o.0.0 a.0.0 b.0.0) y.0 c.1 text (ta.1, tb.1)

  -- one value between brackets, behind what was there
  one_takes : (make : Exp → Exp) (front close bytes r0 : List ℕ) (y : Exp × List ℕ) → bytes ≡ front ++ r0 → ((a : Exp) → Fits d a → Fits (suc d) (make a)) → ((a : Exp) → exp_text (make a) ≡ front ++ (exp_text a ++ close)) → (read r0 >>= λ a. closed (make a.0) close a.1) ≡ Some y → (bytes ≡ exp_text y.0 ++ y.1) × Fits (suc d) y.0
  one_takes make front close bytes r0 y e0 fit spell e =
      let a = bind_some (read r0) _ y e in
      let c = closed_takes (make a.0.0) close a.0.1 y a.2 in
      let t = h r0 a.0 a.1 in
      renamed (Fits (suc d)) bytes y.1 (make a.0.0) y.0 c.1 (closed_text front bytes r0 a.0.1 y.1 a.0.0 close e0 t.0 c.0 ∙ sym (append_assoc front (exp_text a.0.0 ++ close) y.1) ∙ ap (λ l. l ++ y.1) (sym (spell a.0.0))) (fit a.0.0 t.1)

  cast_takes : (bytes : List ℕ) (y : Exp × List ℕ) → cast_at read bytes ≡ Some y → (codes "(int64_t)(" ++ bytes ≡ exp_text y.0 ++ y.1) × Fits (suc d) y.0
  unfolding cast_at
  cast_takes bytes y e =
      ⊎_elim
      (λ w. one_takes not (codes "(int64_t)(!") (codes ")") _ w.0 y (ap (λ l. codes "(int64_t)(" ++ l) (after_takes (codes "!") bytes w.0 w.1)) (λ a f. f) (λ a. refl) w.2)
      (λ w. sides_takes false bytes y w.1)
      (else_cases (after (codes "!") bytes) _ _ (Some y) e)

  bracket_takes : (bytes : List ℕ) (y : Exp × List ℕ) → bracket_at read bytes ≡ Some y → (codes "(" ++ bytes ≡ exp_text y.0 ++ y.1) × Fits (suc d) y.0
  unfolding bracket_at
  bracket_takes bytes y e =
      ⊎_elim
      (λ w. one_takes neg (codes "(-") (codes ")") _ w.0 y (ap (λ l. codes "(" ++ l) (after_takes (codes "-") bytes w.0 w.1)) (λ a f. f) (λ a. refl) w.2)
      (λ w. ⊎_elim
      (λ v. let c = cast_takes v.0 y v.2 in (ap (λ l. codes "(" ++ l) (after_takes (codes "int64_t)(") bytes v.0 v.1) ∙ c.0, c.1))
      (λ v. sides_takes true bytes y v.1)
      (else_cases (after (codes "int64_t)(") bytes) (cast_at read) (sides_at read arithmetic bytes) (Some y) w.1))
      (else_cases (after (codes "-") bytes) _ _ (Some y) e)

  place_takes : (bytes : List ℕ) (y : Exp × List ℕ) → place_at read bytes ≡ Some y → (bytes ≡ exp_text y.0 ++ y.1) × Fits (suc d) y.0
  unfolding place_at
  place_takes bytes y e =
      let x = bind_some (name_at bytes) _ y e in
      let t = name_takes bytes x.0 x.1 in
      ⊎_elim
      (λ w. one_takes (element x.0.0) (name_text x.0.0 ++ codes "[") (codes "]") bytes w.0 y (t.0 ∙ ap (λ l. name_text x.0.0 ++ l) (after_takes (codes "[") x.0.1 w.0 w.1) ∙ sym (append_assoc (name_text x.0.0) (codes "[") w.0)) (λ a f. (t.1, f)) (λ a. sym (append_assoc (name_text x.0.0) (codes "[") (exp_text a ++ codes "]"))) w.2)
      (λ w. let p : (var x.0.0, x.0.1) ≡ y = some_is w.1 in subst (λ q. (bytes ≡ exp_text q.0 ++ q.1) × Fits (suc d) q.0) p t)
      (else_cases (after (codes "[") x.0.1) _ _ (Some y) x.2)

  literal_takes : (bytes : List ℕ) (y : Exp × List ℕ) → literal_at bytes ≡ Some y → (codes "INT64_C(" ++ bytes ≡ exp_text y.0 ++ y.1) × Fits (suc d) y.0
  unfolding literal_at
  literal_takes bytes y e =
      let n = bind_some (number_at (2 ^ 63) bytes) _ y e in
      let c = closed_takes (num (pos n.0.0)) (codes ")") n.0.1 y n.2 in
      let t = number_takes (2 ^ 63) bytes n.0 (omega arith) n.1 in
      renamed (Fits (suc d)) (codes "INT64_C(" ++ bytes) y.1 (num (pos n.0.0)) y.0 c.1 (ap (λ l. codes "INT64_C(" ++ l) (t.0 ∙ ap (λ l. decimal n.0.0 ++ l) c.0 ∙ sym (append_assoc (decimal n.0.0) (codes ")") y.1))) t.1

  level_takes : Takes (level_at read) (Fits (suc d))
  unfolding level_at
  level_takes bytes y e =
      ⊎_elim
      (λ w. let b = bracket_takes w.0 y w.2 in (after_takes (codes "(") bytes w.0 w.1 ∙ b.0, b.1))
      (λ w. ⊎_elim
      (λ v. let b = literal_takes v.0 y v.2 in (after_takes (codes "INT64_C(") bytes v.0 v.1 ∙ b.0, b.1))
      (λ v. place_takes bytes y v.1)
      (else_cases (after (codes "INT64_C(") bytes) literal_at (place_at read bytes) (Some y) w.1))
      (else_cases (after (codes "(") bytes) (bracket_at read) _ (Some y) e)

pub exp_takes : (d : ℕ) → Takes (exp_at d) (Fits d)
unfolding exp_at
exp_takes zero bytes y e = absurd cc
exp_takes (suc d) bytes y e = level_takes (exp_at d) d (exp_takes d) bytes y e

-- No text of an expression begins another.
pub one_expression : (a b : Exp) (d : ℕ) (x y : List ℕ) → Fits d a → Fits d b → ends x ≡ true → ends y ≡ true → exp_text a ++ x ≡ exp_text b ++ y → (a ≡ b) × (x ≡ y)
one_expression a b d x y fa fb ex ey e =
    let p : (a, x) ≡ (b, y) = some_is (sym (exp_again a d x fa ex) ∙ ap (exp_at d) e ∙ exp_again b d y fb ey) in
    (ap (λ (q : Exp × List ℕ). q.0) p, ap (λ (q : Exp × List ℕ). q.1) p)
