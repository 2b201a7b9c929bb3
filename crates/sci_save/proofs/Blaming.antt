-- Which answer is due for a text.
use Rattle.std.proofs.Common.{◌≡◌, ◌⊎◌, inl, inr, ℕ, ◌+◌, ◌-◌, ◌≤◌, List, [], ◌∷◌, ◌++◌, length, take, Result, Ok, Err, Bool, false, cond, refl, sym, ap, ap₂, ◌∙◌, subst, arith, append_assoc, append-nil, length-append}
use Rattle.std.specs.Prelude.{nat_eq, codes, count_by}
use Rattle.std.specs.List.{sum_by}
use Rattle.std.proofs.lemmas.Bool.{or_parts}
use Rattle.std.proofs.lemmas.List.{take_at}
use Rattle.std.proofs.lemmas.List.Sums.{sum_by-cons, sum_by-append}
use Rattle.sci_net.specs.Parts.{Parts}
use Rattle.sci_net.specs.Net.{IsNet}
use Rattle.sci_reaction.specs.Memory.{Columns}
use Rattle.sci_save.specs.declared.image.Image.{Image}
use Rattle.sci_save.specs.declared.stop.SaveStop.{SaveStop}
use Rattle.sci_save.specs.declared.stop.SaveStop.TheVariants as stops
use Rattle.sci_save.specs.Saved.{Saved, saved_of}
use Rattle.sci_save.specs.Bounds.{AreShort}
use Rattle.sci_save.specs.Valid.{IsValid}
use Rattle.sci_save.specs.Text.{saved_text}
use Rattle.sci_text.specs.Lines.{has_lf, with_lf, joined, AllClear}
use Rattle.sci_text.proofs.FirstWrong.{one_first_wrong}
use Rattle.sci_save.specs.Blame.{Spells, IsFront, IsBlamed}
use Rattle.sci_save.specs.Reading.{Read, saved_at}
use Rattle.sci_save.specs.Answers.{Answers, Accepts, Blames}
use Rattle.sci_save.proofs.Readers.{AreLines, SameLine, not_both, same_value, IsReader}
use Rattle.sci_save.proofs.Whole.{saved_read}

-- ---- line feeds

abbrev one_lf : ℕ → ℕ
one_lf c = cond (nat_eq 10 c) 1 0

clear_none : (l : List ℕ) → has_lf l ≡ false → sum_by one_lf l ≡ 0
clear_none [] e = refl
clear_none (c ∷ cs) e =
    let p = or_parts (nat_eq 10 c) (has_lf cs) e in
    sum_by-cons one_lf c cs ∙ ap₂ (λ (t : Bool) (m : ℕ). cond t 1 0 + m) p.0 (clear_none cs p.1)

lines_count : (ls : List (List ℕ)) → AllClear ls → sum_by one_lf (joined ls) ≡ length ls
lines_count [] c = refl
lines_count (l ∷ ls) c =
    let whole = sum_by-append one_lf (with_lf l) (joined ls) in
    let here = sum_by-append one_lf l (codes "\n") in
    let none = clear_none l c.0 in
    let rest = lines_count ls c.1 in
    let last : sum_by one_lf (codes "\n") ≡ 1 = refl in
    omega (arith, whole, here, none, rest, last)

-- the lines of a front of the bytes
pub front_count : (bytes before left : List ℕ) (count : ℕ) → bytes ≡ before ++ left → count ≡ length left → (w : AreLines before)
    → count_by (nat_eq 10) (take (length bytes - count) bytes) + 1 ≡ length w.lines + 1
front_count bytes before left count split is w =
    let long : length bytes - count ≡ length before = omega (arith, ap length split, length-append before left, is) in
    let front : take (length bytes - count) bytes ≡ before = ap₂ (λ (k : ℕ) (l : List ℕ). take k l) long split ∙ take_at before left (length before) refl in
    ap (λ (l : List ℕ). sum_by one_lf l + 1) (front ∙ w.text_is) ∙ ap (λ (m : ℕ). m + 1) (lines_count w.lines w.clear)

-- ---- the answers

nothing_left : (line more : List ℕ) → [] ≡ with_lf line ++ more → ⊥
nothing_left [] more e = cc
nothing_left (c ∷ cs) more e = cc

module _ (n : Parts) (i : Columns) (net : IsNet n) (short : AreShort i) where
  r : IsReader (saved_text n) (IsValid n i) (saved_at n i)
  r = saved_read n i net short

  read_whole : (m : Saved) → IsValid n i m → saved_at n i (saved_text n m) ≡ Ok (m, [])
  read_whole m v = ap (saved_at n i) (sym (append-nil (saved_text n m))) ∙ r.again m [] v

  read_spelled : (bytes : List ℕ) (m : Saved) → Spells n i bytes m → saved_at n i bytes ≡ Ok (m, [])
  read_spelled bytes m s = ap (saved_at n i) s.text ∙ read_whole m s.valid

  pub spelled : (bytes : List ℕ) (m : Saved) → saved_at n i bytes ≡ Ok (m, []) → Spells n i bytes m
  spelled bytes m e = let t = r.takes bytes (m, []) e in record { valid = t.1; text = t.0 ∙ append-nil (saved_text n m) }

  pub one_spelled : (bytes : List ℕ) (m o : Saved) → Spells n i bytes m → Spells n i bytes o → m ≡ o
  one_spelled bytes m o s t = ap (λ (x : Saved × List ℕ). x.0) (same_value (saved_at n i bytes) (m, []) (o, []) (read_spelled bytes m s) (read_spelled bytes o t))

  -- a line isn't as it has to be
  pub broken : (bytes : List ℕ) (count : ℕ) → saved_at n i bytes ≡ Err count → IsBlamed n i bytes (count_by (nat_eq 10) (take (length bytes - count) bytes) + 1)
  broken bytes count e =
      let w = r.fails bytes count e in
      record {
        before = w.lines.lines;
        clear = w.lines.clear;
        number = front_count bytes w.before w.left count w.split w.count_is w.lines;
        rest = w.left;
        split = w.split ∙ ap (λ (l : List ℕ). l ++ w.left) w.lines.text_is;
        front = record { saved = w.value; valid = w.fitting; more = w.more; text = w.front ∙ ap (λ (l : List ℕ). l ++ w.more) w.lines.text_is };
        next = λ line more clear is f.
            let other = with_lf line ++ f.more in
            let same : SameLine w.left other = record { line = line; clear = clear; rest = more; more = f.more; left_is = is; other_is = refl } in
            let text : saved_text n f.saved ≡ w.before ++ other = f.text ∙ append_assoc (joined w.lines.lines) (with_lf line) f.more ∙ ap (λ (l : List ℕ). l ++ other) (sym w.lines.text_is) in
            not_both (saved_at n i (saved_text n f.saved)) (f.saved, []) (length other) (read_whole f.saved f.valid) (ap (saved_at n i) text ∙ w.alone other same);
        none = λ m s. not_both (saved_at n i bytes) (m, []) count (read_spelled bytes m s) e;
      }

  -- something stands behind the last line
  pub left_over : (bytes : List ℕ) (m : Saved) (rest : List ℕ) → saved_at n i bytes ≡ Ok (m, rest) → (rest ≡ [] → ⊥)
      → IsBlamed n i bytes (count_by (nat_eq 10) (take (length bytes - length rest) bytes) + 1)
  left_over bytes m rest e some =
      let t = r.takes bytes (m, rest) e in
      let w = r.lines m t.1 in
      record {
        before = w.lines;
        clear = w.clear;
        number = front_count bytes (saved_text n m) rest (length rest) t.0 refl w;
        rest = rest;
        split = t.0 ∙ ap (λ (l : List ℕ). l ++ rest) w.text_is;
        front = record { saved = m; valid = t.1; more = []; text = w.text_is ∙ sym (append-nil (joined w.lines)) };
        next = λ line more clear is f.
            let other = with_lf line ++ f.more in
            let text : saved_text n f.saved ≡ saved_text n m ++ other = f.text ∙ append_assoc (joined w.lines) (with_lf line) f.more ∙ ap (λ (l : List ℕ). l ++ other) (sym w.text_is) in
            let same = same_value (saved_at n i (saved_text n f.saved)) (f.saved, []) (m, other) (read_whole f.saved f.valid) (ap (saved_at n i) text ∙ r.again m other t.1) in
            nothing_left line f.more (ap (λ (x : Saved × List ℕ). x.1) same);
        none = λ o s. some (ap (λ (x : Saved × List ℕ). x.1) (same_value (saved_at n i bytes) (m, rest) (o, []) e (read_spelled bytes o s)));
      }

-- ---- one line is blamed

front_shorter : (n : Parts) (i : Columns) (a b : List ℕ) → IsFront n i (a ++ b) → IsFront n i a
front_shorter n i a b f = record { saved = f.saved; valid = f.valid; more = b ++ f.more; text = f.text ∙ append_assoc a b f.more }

pub one_blamed : (n : Parts) (i : Columns) (bytes : List ℕ) (j k : ℕ) → IsBlamed n i bytes j → IsBlamed n i bytes k → j ≡ k
one_blamed n i bytes j k p q =
    p.number
    ∙ ap (λ (m : ℕ). m + 1) (one_first_wrong (IsFront n i) (front_shorter n i) p.before q.before p.rest q.rest p.clear q.clear (sym p.split ∙ q.split) p.front q.front p.next q.next)
    ∙ sym q.number

-- ---- what is answered

pub accepts : (n : Parts) (i : Columns) (bytes : List ℕ) (o : Result Image SaveStop) → IsNet n → AreShort i → Answers n i bytes o → (m : Saved) → Spells n i bytes m → Accepts o m
accepts n i bytes (Ok x) net short a m s = one_spelled n i net short bytes (saved_of x) m a s
accepts n i bytes (Err (stops.NotSave k)) net short a m s = a.none m s
accepts n i bytes (Err stops.Memory) net short a m s = tt

pub blames : (n : Parts) (i : Columns) (bytes : List ℕ) (o : Result Image SaveStop) → Answers n i bytes o → (k : ℕ) → IsBlamed n i bytes k → Blames o k
blames n i bytes (Ok x) a k b = b.none (saved_of x) a
blames n i bytes (Err (stops.NotSave j)) a k b = one_blamed n i bytes j k a b
blames n i bytes (Err stops.Memory) a k b = tt

-- ---- what the reader knows

module _ (n : Parts) (i : Columns) (net : IsNet n) (short : AreShort i) (bytes : List ℕ) where
  no_length : (l : List ℕ) → length l ≡ 0 → l ≡ []
  no_length [] h = refl
  no_length (c ∷ cs) h = absurd (omega (arith, h))

  pub all_read : (m : Saved) (rest : List ℕ) → saved_at n i bytes ≡ Ok (m, rest) → length rest ≡ 0 → Spells n i bytes m
  all_read m rest e h = spelled n i net short bytes m (e ∙ ap (λ (l : List ℕ). Ok (m, l)) (no_length rest h))

  pub some_left : (m : Saved) (rest : List ℕ) (k : ℕ) → saved_at n i bytes ≡ Ok (m, rest) → (length rest ≡ 0 → ⊥) → k ≡ count_by (nat_eq 10) (take (length bytes - length rest) bytes) + 1 → IsBlamed n i bytes k
  some_left m rest k e h is = subst (IsBlamed n i bytes) (sym is) (left_over n i net short bytes m rest e (λ z. h (ap length z)))

  pub line_broken : (count k : ℕ) → saved_at n i bytes ≡ Err count → k ≡ count_by (nat_eq 10) (take (length bytes - count) bytes) + 1 → IsBlamed n i bytes k
  line_broken count k e is = subst (IsBlamed n i bytes) (sym is) (broken n i net short bytes count e)

  pub rest_within : (m : Saved) (rest : List ℕ) → saved_at n i bytes ≡ Ok (m, rest) → length rest ≤ length bytes
  rest_within m rest e =
      let t = (saved_read n i net short).takes bytes (m, rest) e in
      omega (arith, ap length t.0, length-append (saved_text n m) rest)

  pub left_within : (count : ℕ) → saved_at n i bytes ≡ Err count → count ≤ length bytes
  left_within count e =
      let w = (saved_read n i net short).fails bytes count e in
      omega (arith, w.count_is, ap length w.split, length-append w.before w.left)

  pub one_is_due : ((m : Saved) × Spells n i bytes m) ⊎ ((k : ℕ) × IsBlamed n i bytes k)
  one_is_due = by_result (saved_at n i bytes) refl
    where
      by_rest : (m : Saved) (rest : List ℕ) → saved_at n i bytes ≡ Ok (m, rest) → ((o : Saved) × Spells n i bytes o) ⊎ ((k : ℕ) × IsBlamed n i bytes k)
      by_rest m [] e = inl (m, all_read m [] e refl)
      by_rest m (c ∷ cs) e = inr (_, some_left m (c ∷ cs) _ e (λ h. absurd (omega (arith, h))) refl)

      by_result : (o : Read Saved) → saved_at n i bytes ≡ o → ((m : Saved) × Spells n i bytes m) ⊎ ((k : ℕ) × IsBlamed n i bytes k)
      by_result (Ok x) e = by_rest x.0 x.1 e
      by_result (Err count) e = inr (_, line_broken count _ e refl)
