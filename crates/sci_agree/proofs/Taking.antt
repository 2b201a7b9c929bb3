-- What a comparing sink comes to.
use Rattle.std.proofs.Common.{◌≡◌, ℕ, zero, suc, ◌+◌, ◌-◌, ◌≤◌, ◌<◌, ⊎_elim, List, [], ◌∷◌, ◌++◌, append_assoc, append-nil, take, drop, length, get_or, Option, Some, None, slice_get, slice_index, cond, option_to_list, refl, sym, ap, subst, ◌∙◌, arith}
use Rattle.std.proofs.lemmas.List.{take_more, take-append-drop, length-append, length-drop, length-take-le, take_all}
use Rattle.std.proofs.Math.Seq.{take-append-add, take-append_seam, take-length}
use Rattle.std.proofs.lemmas.Option.{none-some, same_Some, slice_get_within, get_or_from_slice_get}
use Rattle.sci_io.specs.Taken.{TakesFront}
use Rattle.sci_agree.specs.declared.verdict.Verdict.TheVariants.{Yes, No}
use Rattle.sci_agree.specs.Lines.{is_line_feed, lines_of, IsAgreement}
use Rattle.sci_agree.specs.Verdict.{IsVerdict}
use Rattle.sci_agree.specs.Compared.{Compared, IsCompared, WasGiven}
use Rattle.sci_agree.proofs.Lines.{DifferHere, lines-append, lines-within, agreement_of}

-- ---- bytes of a list

pub get_drop : (n : ℕ) (xs : List ℕ) → slice_get (drop n xs) 0 ≡ slice_get xs n
get_drop zero [] = refl
get_drop zero (x ∷ xs) = refl
get_drop (suc n) [] = refl
get_drop (suc n) (x ∷ xs) = get_drop n xs

get_behind : (p : List ℕ) (y : ℕ) (ys : List ℕ) → slice_get (p ++ y ∷ ys) (length p) ≡ Some y
get_behind [] y ys = refl
get_behind (x ∷ p) y ys = get_behind p y ys

-- ---- one byte and one piece

-- a byte that agrees, behind those that agree
pub one_more : (text : List ℕ) (at byte : ℕ) → at < length text → byte ≡ get_or text at byte → take (at + 1) text ≡ take at text ++ byte ∷ []
one_more text at byte within read = take_more text at byte within ∙ ap (λ (b : ℕ). take at text ++ b ∷ []) (sym read)

-- the next byte of a piece, behind those before it
pub next_byte : (before piece : List ℕ) (i byte : ℕ) → i < length piece → byte ≡ get_or piece i byte → (before ++ take i piece) ++ byte ∷ [] ≡ before ++ take (i + 1) piece
next_byte before piece i byte within read =
    append_assoc before (take i piece) (byte ∷ []) ∙ ap (λ (l : List ℕ). before ++ l) (sym (one_more piece i byte within read))

-- what was taken, with a byte that agrees or doesn't
pub took_right : (text : List ℕ) (at byte : ℕ) → at < length text → slice_index text at ≡ byte → take (at + 1) text ++ [] ≡ (take at text ++ []) ++ byte ∷ []
took_right text at byte within is =
    append-nil (take (at + 1) text)
    ∙ (take_more text at 0 within ∙ (ap (λ (b : ℕ). take at text ++ b ∷ []) is ∙ ap (λ (l : List ℕ). l ++ byte ∷ []) (sym (append-nil (take at text)))))

pub took_wrong : (text : List ℕ) (at byte : ℕ) → take at text ++ byte ∷ [] ≡ (take at text ++ []) ++ byte ∷ []
took_wrong text at byte = ap (λ (l : List ℕ). l ++ byte ∷ []) (sym (append-nil (take at text)))

lines_more : (text : List ℕ) (at byte : ℕ) → at < length text → slice_index text at ≡ byte
    → lines_of (take (at + 1) text) ≡ lines_of (take at text) + cond (is_line_feed byte) 1 0
lines_more text at byte within is =
    ap lines_of (take_more text at 0 within ∙ ap (λ (b : ℕ). take at text ++ b ∷ []) is)
    ∙ (lines-append (take at text) (byte ∷ []) ∙ ap (λ (n : ℕ). lines_of (take at text) + n) (alone (cond (is_line_feed byte) 1 0)))
  where
    alone : (n : ℕ) → n + 0 ≡ n
    alone n = omega arith

-- a byte more agrees
pub right_on : (c : Compared) (byte lines : ℕ) → IsCompared c → c.wrong ≡ None → c.at < length c.text → slice_index c.text c.at ≡ byte
    → lines ≡ c.lines + cond (is_line_feed byte) 1 0 → IsCompared (record c { at = c.at + 1; lines = lines })
right_on c byte lines ok none within is more = record {
  within = omega (arith, within);
  lines_are = more ∙ (ap (λ (n : ℕ). n + cond (is_line_feed byte) 1 0) ok.lines_are ∙ sym (lines_more c.text c.at byte within is));
  wrong_is = λ b e. absurd (none-some b (sym none ∙ e));
  failed = λ b e. absurd (none-some b (sym none ∙ e));
  sound = ok.sound;
}

-- ---- a piece that agrees

-- the lines that the first bytes of a piece end, and those of one byte more
pub lines_next : (piece : List ℕ) (i byte : ℕ) → i < length piece → byte ≡ get_or piece i byte
    → lines_of (take i piece) + cond (is_line_feed byte) 1 0 ≡ lines_of (take (i + 1) piece)
lines_next piece i byte within read =
    sym (ap lines_of (one_more piece i byte within read)
    ∙ (lines-append (take i piece) (byte ∷ []) ∙ ap (λ (n : ℕ). lines_of (take i piece) + n) (alone (cond (is_line_feed byte) 1 0))))
  where
    alone : (n : ℕ) → n + 0 ≡ n
    alone n = omega arith

pub few_within : (i : ℕ) (piece : List ℕ) → i ≤ length piece → lines_of (take i piece) ≤ i
few_within i piece within = let few = lines-within (take i piece) in let long = length-take-le i piece within in omega (arith, few, long)

-- the lines of a front were counted, and those of what stands behind it are left
pub counted_on : (piece rest front behind : List ℕ) (k lines few : ℕ) → front ≡ take k rest → behind ≡ drop k rest → lines + lines_of rest ≡ lines_of piece → few ≡ lines_of front
    → (lines + few) + lines_of behind ≡ lines_of piece
counted_on piece rest front behind k lines few in_front at_back so_far is =
    let both = lines-append (take k rest) (drop k rest) in
    let whole = ap lines_of (take-append-drop k rest) in
    let one = ap lines_of in_front in
    let two = ap lines_of at_back in omega (arith, both, whole, one, two, so_far, is)

-- what was taken, with a piece that stands there
took_piece : (text piece : List ℕ) (at : ℕ) → at ≤ length text → (rest : List ℕ) → drop at text ≡ piece ++ rest → take (at + length piece) text ≡ take at text ++ piece
took_piece text piece at within rest is =
    let long : length (take at text) ≡ at = length-take-le at text within in
    let whole : text ≡ take at text ++ (piece ++ rest) = sym (take-append-drop at text) ∙ ap (λ (l : List ℕ). take at text ++ l) is in
    ap (λ (l : List ℕ). take (at + length piece) l) whole
    ∙ (ap (λ (n : ℕ). take (n + length piece) (take at text ++ (piece ++ rest))) (sym long)
    ∙ (take-append-add (take at text) (piece ++ rest) (length piece) ∙ ap (λ (l : List ℕ). take at text ++ l) (take-append_seam piece rest)))

module _ (c : Compared) (piece rest : List ℕ) (ok : IsCompared c) (none : c.wrong ≡ None)
    (begins : take (length c.text - c.at) (drop c.at c.text) ≡ piece ++ rest) where
  is : drop c.at c.text ≡ piece ++ rest
  is = sym (ap (λ (n : ℕ). take n (drop c.at c.text)) (sym (length-drop c.at c.text)) ∙ take-length (drop c.at c.text)) ∙ begins

  pub piece_within : c.at + length piece ≤ length c.text
  piece_within =
      let left = length-drop c.at c.text in
      let both = ap length is ∙ length-append piece rest in
      let within = ok.within in omega (arith, left, both, within)

  taken : take (c.at + length piece) c.text ≡ take c.at c.text ++ piece
  taken = took_piece c.text piece c.at ok.within rest is

  pub piece_on : (lines : ℕ) → lines ≡ c.lines + lines_of piece → IsCompared (record c { at = c.at + length piece; lines = lines })
  piece_on lines more = record {
    within = piece_within;
    lines_are = more ∙ (ap (λ (n : ℕ). n + lines_of piece) ok.lines_are ∙ sym (ap lines_of taken ∙ lines-append (take c.at c.text) piece));
    wrong_is = λ b e. absurd (none-some b (sym none ∙ e));
    failed = λ b e. absurd (none-some b (sym none ∙ e));
    sound = ok.sound;
  }

  pub piece_taken : (wrong : Option ℕ) → wrong ≡ None → take (c.at + length piece) c.text ++ option_to_list wrong ≡ (take c.at c.text ++ option_to_list c.wrong) ++ piece
  piece_taken wrong still =
      ap (λ (w : Option ℕ). take (c.at + length piece) c.text ++ option_to_list w) still
      ∙ (append-nil (take (c.at + length piece) c.text) ∙ (taken ∙ ap (λ (l : List ℕ). l ++ piece) (sym (ap (λ (w : Option ℕ). take c.at c.text ++ option_to_list w) none ∙ append-nil (take c.at c.text)))))

-- the first byte that doesn't
pub wrong_at : (c : Compared) (byte faults : ℕ) → IsCompared c → ((c.at < length c.text) × (slice_index c.text c.at ≡ byte) → ⊥) → 1 ≤ faults
    → IsCompared (record c { wrong = Some byte; faults = faults })
wrong_at c byte faults ok not_next some = record {
  within = ok.within;
  lines_are = ok.lines_are;
  wrong_is = λ b e there.
      let read : slice_get c.text c.at ≡ Some byte = there ∙ ap Some (sym (same_Some byte b e)) in
      not_next (slice_get_within c.text c.at byte read, get_or_from_slice_get c.text c.at byte 0 read);
  failed = λ b e. some;
  sound = λ e. absurd (none-some byte (sym e));
}

pub few_lines : (c : Compared) → IsCompared c → c.lines ≤ length c.text
few_lines c ok =
    let few = lines-within (take c.at c.text) in let long = length-take-le c.at c.text ok.within in
    let is = ok.lines_are in let within = ok.within in omega (arith, few, long, is, within)

-- so many bytes of a piece are a front of it
pub front_of : (old new piece : List ℕ) (i : ℕ) → new ≡ old ++ take i piece → TakesFront (Some old) (Some new) piece
front_of old new piece i is = (drop i piece, record { front = take i piece; split = sym (take-append-drop i piece); taken = is })

-- ---- the verdict

module _ (c : Compared) (ok : IsCompared c) (due : List ℕ) (given : WasGiven due c) where
  all_right : c.wrong ≡ None → due ≡ take c.at c.text
  all_right none =
      ⊎_elim
      (λ w. sym w.0 ∙ (ap (λ (o : Option ℕ). take c.at c.text ++ option_to_list o) none ∙ append-nil (take c.at c.text)))
      (λ w. absurd (let z = ok.sound none in let f = w.2 in omega (arith, z, f))) given

  wrong_here : (byte : ℕ) → c.wrong ≡ Some byte → (rest : List ℕ) × (due ≡ take c.at c.text ++ byte ∷ rest)
  wrong_here byte is =
      ⊎_elim
      (λ w. absurd (let f = ok.failed byte is in let z = w.1 in omega (arith, f, z)))
      (λ w. (w.0, w.1 ∙ (ap (λ (o : Option ℕ). (take c.at c.text ++ option_to_list o) ++ w.0) is ∙ append_assoc (take c.at c.text) (byte ∷ []) w.0))) given

  text_is : c.text ≡ take c.at c.text ++ drop c.at c.text
  text_is = sym (take-append-drop c.at c.text)

  counted : (other xs ys : List ℕ) → c.text ≡ take c.at c.text ++ xs → other ≡ take c.at c.text ++ ys → DifferHere xs ys → IsAgreement c.text other c.lines
  counted other xs ys one two part =
      subst (λ (n : ℕ). IsAgreement c.text other n) (sym ok.lines_are) (agreement_of c.text other (take c.at c.text) xs ys one two part)

  pub yes : c.wrong ≡ None → c.at ≡ length c.text → IsVerdict due c.text (Yes c.lines)
  yes none end =
      let whole : take c.at c.text ≡ c.text = take_all c.at c.text (omega (arith, end)) in
      let same : c.text ≡ due = sym whole ∙ sym (all_right none) in (
        same,
        subst (λ (d : List ℕ). IsAgreement c.text d c.lines) same
            (counted c.text [] [] (sym whole ∙ sym (append-nil (take c.at c.text))) (sym whole ∙ sym (append-nil (take c.at c.text))) (λ y e o. none-some y e)),
      )

  pub no_end : c.wrong ≡ None → (c.at ≡ length c.text → ⊥) → IsVerdict due c.text (No (c.lines + 1))
  no_end none short = (
    (λ same. short (sym (length-take-le c.at c.text ok.within) ∙ ap length (sym (same ∙ all_right none)))),
    (c.lines, counted due (drop c.at c.text) [] text_is (all_right none ∙ sym (append-nil (take c.at c.text))) (λ y e o. none-some y o), refl),
  )

  pub no_byte : (byte : ℕ) → c.wrong ≡ Some byte → IsVerdict due c.text (No (c.lines + 1))
  no_byte byte is =
      let w = wrong_here byte is in (
        (λ same. ok.wrong_is byte is
            (ap (λ (l : List ℕ). slice_get l c.at) (same ∙ w.1)
            ∙ (ap (λ (k : ℕ). slice_get (take c.at c.text ++ byte ∷ w.0) k) (sym (length-take-le c.at c.text ok.within)) ∙ get_behind (take c.at c.text) byte w.0))),
        (
          c.lines,
          counted due (drop c.at c.text) (byte ∷ w.0) text_is w.1 (λ y e o. ok.wrong_is byte is (sym (get_drop c.at c.text) ∙ (e ∙ sym o))),
          refl,
        ),
      )

  no_of : (o : Option ℕ) → c.wrong ≡ o → ((c.wrong ≡ None) × (c.at ≡ length c.text) → ⊥) → IsVerdict due c.text (No (c.lines + 1))
  no_of None is not_whole = no_end is (λ end. not_whole (is, end))
  no_of (Some byte) is not_whole = no_byte byte is

  pub no : ((c.wrong ≡ None) × (c.at ≡ length c.text) → ⊥) → IsVerdict due c.text (No (c.lines + 1))
  no not_whole = no_of c.wrong refl not_whole
