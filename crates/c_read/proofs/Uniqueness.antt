-- A text spells one program, and one byte of it is blamed.
use Rattle.std.proofs.Common.{◌≡◌, ℕ, zero, suc, ◌+◌, ◌-◌, ◌<◌, ◌≤◌, List, [], ◌∷◌, ◌++◌, length, take, drop, Option, Some, None, Bool, true, false, ◌⊎◌, inl, inr, ⊎_elim, refl, sym, ap, ◌∙◌, subst, arith, append_assoc, append-nil, length-append}
use Rattle.std.specs.Prelude.{nat_eq, ◌||◌, codes, Result, Ok, Err}
use Rattle.std.proofs.lemmas.Bool.{eqb-true, cases_lt, or_parts}
use Rattle.std.proofs.lemmas.List.{take-append-drop, take-append-le, length-take-le, length-drop}
use Rattle.std.proofs.Math.Seq.{take-append-add}
use Rattle.c_ast.specs.declared.Program.{Program}
use Rattle.c_ast.specs.Syntax.{Whole}
use Rattle.c_ast.specs.View.{whole_of}
use Rattle.c_ast.specs.Spelling.{spelling}
use Rattle.c_ast.specs.Bounds.{IsWhole}
use Rattle.c_parse.specs.Machine.{over}
use Rattle.sci_text.specs.Lines.{has_lf, with_lf}
use Rattle.sci_text.proofs.Parts.{some_is}
use Rattle.c_parse.specs.Blame.{Spells, Unspelled, Reached}
use Rattle.c_parse.proofs.TextLaws.{lines_of, lines_clear, program_passes, spelling_joined, spelled_ends}
use Rattle.c_read.specs.declared.ProgramStop.{ProgramStop}
use Rattle.c_read.specs.declared.reader.Placed.{Placed}
use Rattle.c_read.specs.Lines.{Reads}
use Rattle.c_read.specs.declared.ProgramStop.TheVariants as stops
use Rattle.c_read.specs.Answers.{place_of, blamed_byte, IsRefused, IsAccepted, Answers, Accepts, Blames}

reached_whole : (bytes : List ℕ) (p : Whole) → Spells bytes p → Reached bytes (over p)
reached_whole bytes p s = record { lines = lines_of p; split = s.1 ∙ spelling_joined p; clear = lines_clear p s.0; ran = program_passes p s.0 }

same_over : (p q : Whole) → over p ≡ over q → p ≡ q
same_over p q e = cc

pub one_spelled : (bytes : List ℕ) (p q : Whole) → Spells bytes p → Spells bytes q → p ≡ q
one_spelled bytes p q s t = same_over p q (spelled_ends bytes bytes [] (over p) q (sym (append-nil bytes)) (reached_whole bytes p s) refl t).1

pub one_program : (p q : Whole) → IsWhole p → IsWhole q → spelling p ≡ spelling q → p ≡ q
one_program p q f g e = one_spelled (spelling p) p q (f, refl) (g, e)

no_some : (n : ℕ) (o : Option ℕ) → o ≡ None → o ≡ Some n → ⊥
no_some n o e f = cc

pub not_both : (bytes : List ℕ) (p : Whole) (n : ℕ) → IsAccepted bytes p → IsRefused bytes n → ⊥
not_both bytes p n a (inl u) = u.none p a.0
not_both bytes p n a (inr u) =
    let same = one_spelled bytes u.program p u.spells a.0 in
    no_some n (blamed_byte u.program) (ap blamed_byte same ∙ ap (place_of p) a.1) u.blamed

-- a line at the beginning, or no LF at all
data Begun (bytes : List ℕ) : Type 0 where
  no_line : has_lf bytes ≡ false → Begun bytes
  a_line : (front rest : List ℕ) → has_lf front ≡ false → bytes ≡ with_lf front ++ rest → Begun bytes

begun_cons : (c : ℕ) (bytes : List ℕ) (t : Bool) → nat_eq 10 c ≡ t → Begun bytes → Begun (c ∷ bytes)
begun_cons c bytes true e b = a_line [] bytes refl (ap (λ (k : ℕ). k ∷ bytes) (sym (eqb-true 10 c e)))
begun_cons c bytes false e (no_line h) = no_line (ap (λ (b : Bool). b || has_lf bytes) e ∙ h)
begun_cons c bytes false e (a_line front rest h is) = a_line (c ∷ front) rest (ap (λ (b : Bool). b || has_lf front) e ∙ h) (ap (λ (l : List ℕ). c ∷ l) is)

begun : (bytes : List ℕ) → Begun bytes
begun [] = no_line refl
begun (c ∷ bytes) = begun_cons c bytes (nat_eq 10 c) refl (begun bytes)

front_clear : (k : ℕ) (l : List ℕ) → has_lf l ≡ false → has_lf (take k l) ≡ false
front_clear zero l e = refl
front_clear (suc k) [] e = refl
front_clear (suc k) (c ∷ l) e = let p = or_parts (nat_eq 10 c) (has_lf l) e in ap (λ (b : Bool). b || has_lf (take k l)) p.0 ∙ front_clear k l p.1

-- a text up to a later byte
take_later : (bytes : List ℕ) (n k : ℕ) → n ≤ length bytes → take (n + k) bytes ≡ take n bytes ++ take k (drop n bytes)
take_later bytes n k h =
    let len : length (take n bytes) ≡ n = length-take-le n bytes h in
    ap (take (n + k)) (sym (take-append-drop n bytes)) ∙ ap (λ (m : ℕ). take (m + k) (take n bytes ++ drop n bytes)) (sym len) ∙ take-append-add (take n bytes) (drop n bytes) k

take_some : (k : ℕ) (l : List ℕ) → 0 < k → 0 < length l → take k l ≡ [] → ⊥
take_some zero l h g e = absurd (omega arith)
take_some (suc k) [] h g e = absurd (omega arith)
take_some (suc k) (c ∷ l) h g e = cc

-- a part of one line is no whole line
in_line : (bytes : List ℕ) (m n k : ℕ) → Unspelled bytes m → n < m → take m bytes ≡ take n bytes ++ take k (drop n bytes) → 0 < k → has_lf (take k (drop n bytes)) ≡ false → ⊥
in_line bytes m n k u less cut some clear =
    let within = u.within in
    let left : 0 < length (drop n bytes) = omega (arith, length-drop n bytes) in
    take_some k (drop n bytes) some left (u.lines (take k (drop n bytes)) (take n bytes) cut clear)

line_passed : (bytes : List ℕ) (m n k : ℕ) (front rest : List ℕ) → Unspelled bytes n → Unspelled bytes m → take m bytes ≡ take n bytes ++ take (length (with_lf front) + k) (drop n bytes) → has_lf front ≡ false → drop n bytes ≡ with_lf front ++ rest → ⊥
line_passed bytes m n k front rest u v cut clear is =
    let f = v.front in
    let text : take m bytes ≡ (take n bytes ++ with_lf front) ++ take k rest =
    cut ∙ ap (λ (l : List ℕ). take n bytes ++ take (length (with_lf front) + k) l) is ∙ ap (λ (l : List ℕ). take n bytes ++ l) (take-append-add (with_lf front) rest k) ∙ sym (append_assoc (take n bytes) (with_lf front) (take k rest)) in
    u.next front rest clear is (f.0, take k rest ++ f.1, f.2, f.3 ∙ ap (λ (l : List ℕ). l ++ f.1) text ∙ append_assoc (take n bytes ++ with_lf front) (take k rest) f.1)

part_clear : (k : ℕ) (front rest l : List ℕ) → k ≤ length front → has_lf front ≡ false → l ≡ with_lf front ++ rest → has_lf (take k l) ≡ false
part_clear k front rest l h clear is =
    let e : take k l ≡ take k front = ap (take k) (is ∙ append_assoc front (codes "\n") rest) ∙ take-append-le k front (codes "\n" ++ rest) h in
    ap has_lf e ∙ front_clear k front clear

from_line : (bytes : List ℕ) (m n k : ℕ) (front rest : List ℕ) → Unspelled bytes n → Unspelled bytes m → n < m → take m bytes ≡ take n bytes ++ take k (drop n bytes) → 0 < k → has_lf front ≡ false → drop n bytes ≡ with_lf front ++ rest
    → (length front < k) ⊎ (k ≤ length front) → ⊥
from_line bytes m n k front rest u v less cut some clear is (inr h) = in_line bytes m n k v less cut some (part_clear k front rest (drop n bytes) h clear is)
from_line bytes m n k front rest u v less cut some clear is (inl h) =
    let more = k - (length front + 1) in
    let e : k ≡ length (with_lf front) + more = omega (arith, length-append front (codes "\n")) in
    line_passed bytes m n more front rest u v (cut ∙ ap (λ (j : ℕ). take n bytes ++ take j (drop n bytes)) e) clear is

from_begun : (bytes : List ℕ) (m n k : ℕ) → Unspelled bytes n → Unspelled bytes m → n < m → take m bytes ≡ take n bytes ++ take k (drop n bytes) → 0 < k → Begun (drop n bytes) → ⊥
from_begun bytes m n k u v less cut some (no_line h) = in_line bytes m n k v less cut some (front_clear k (drop n bytes) h)
from_begun bytes m n k u v less cut some (a_line front rest h is) = from_line bytes m n k front rest u v less cut some h is (cases_lt (length front) k)

not_earlier : (bytes : List ℕ) (m n : ℕ) → Unspelled bytes n → Unspelled bytes m → n < m → ⊥
not_earlier bytes m n u v less =
    let within = u.within in
    let k = m - n in
    let e : m ≡ n + k = omega arith in
    from_begun bytes m n k u v less (ap (λ (j : ℕ). take j bytes) e ∙ take_later bytes n k within) (omega arith) (begun (drop n bytes))

at_least : (m n : ℕ) → (m < n → ⊥) → n ≤ m
at_least m n f = ⊎_elim (λ h. absurd (f h)) (λ h. h) (cases_lt m n)

same_byte : (m n : ℕ) → (n < m → ⊥) → (m < n → ⊥) → m ≡ n
same_byte m n f g = let a = at_least m n g in let b = at_least n m f in omega arith

pub one_blamed : (bytes : List ℕ) (m n : ℕ) → IsRefused bytes m → IsRefused bytes n → m ≡ n
one_blamed bytes m n (inl u) (inl v) = same_byte m n (not_earlier bytes m n v u) (not_earlier bytes n m u v)
one_blamed bytes m n (inl u) (inr v) = absurd (u.none v.program v.spells)
one_blamed bytes m n (inr u) (inl v) = absurd (v.none u.program u.spells)
one_blamed bytes m n (inr u) (inr v) = let same = one_spelled bytes u.program v.program u.spells v.spells in some_is (sym u.blamed ∙ ap blamed_byte same ∙ v.blamed)

pub accepts : (bytes : List ℕ) (r : Result Program ProgramStop) → Answers bytes r → (p : Whole) → IsAccepted bytes p → Accepts r p
accepts bytes (Ok q) a p due = one_spelled bytes (whole_of q) p a.0 due.0
accepts bytes (Err (stops.NotC n)) a p due = not_both bytes p n due a
accepts bytes (Err stops.Memory) a p due = tt

pub blames : (bytes : List ℕ) (r : Result Program ProgramStop) → Answers bytes r → (n : ℕ) → IsRefused bytes n → Blames r n
blames bytes (Ok q) a n due = not_both bytes (whole_of q) n a due
blames bytes (Err (stops.NotC m)) a n due = one_blamed bytes m n a due
blames bytes (Err stops.Memory) a n due = tt

failed : (bytes : List ℕ) (e : ProgramStop) → Reads bytes (Err e) → Answers bytes (Err e)
failed bytes (stops.NotC n) a = inl a
failed bytes stops.Memory a = tt

pub read_failed : (bytes : List ℕ) (s : Result Placed ProgramStop) (r : Result Program ProgramStop) (e : ProgramStop) → s ≡ Err e → r ≡ Err e → Reads bytes s → Answers bytes r
read_failed bytes s r e is same a = subst (Answers bytes) (sym same) (failed bytes e (subst (Reads bytes) is a))
