-- The first lines of texts, and on how many two texts agree.
use Rattle.std.proofs.Common.{◌≡◌, ℕ, zero, suc, ◌+◌, ◌≤◌, Bool, true, false, cond, ◌⊎◌, inl, inr, ⊎_elim, List, [], ◌∷◌, ◌++◌, append-nil, length, drop, get_or, Option, Some, None, option_map, slice_get, refl, sym, ap, subst, ◌∙◌, arith}
use Rattle.std.proofs.lemmas.Option.{none-some, same_Some}
use Rattle.sci_agree.specs.Lines.{is_line_feed, lines_of, left_behind, first_lines, AgreeOn, IsAgreement, first_line, behind_lines, line_behind}

-- ---- lists and options

pub nil_cons : (y : ℕ) (ys : List ℕ) → [] ≡ y ∷ ys → ⊥
nil_cons y ys e = let l : 0 ≡ suc (length ys) = ap length e in omega (arith, l)

pub head_same : (x y : ℕ) (xs ys : List ℕ) → x ∷ xs ≡ y ∷ ys → x ≡ y
head_same x y xs ys e = ap (λ (l : List ℕ). get_or l 0 0) e

pub tail_same : (x y : ℕ) (xs ys : List ℕ) → x ∷ xs ≡ y ∷ ys → xs ≡ ys
tail_same x y xs ys e = ap (λ (l : List ℕ). drop 1 l) e

abbrev with_byte : ℕ → Option (List ℕ) → Option (List ℕ)
with_byte x o = option_map (λ ys. x ∷ ys) o

map_some : (x : ℕ) (o : Option (List ℕ)) (f : List ℕ) → with_byte x o ≡ Some f → (g : List ℕ) × (o ≡ Some g) × (x ∷ g ≡ f)
map_some x None f e = absurd (none-some f e)
map_some x (Some g) f e = (g, refl, same_Some (x ∷ g) f e)

-- ---- how many lines there are

one_more : (t : Bool) (n m : ℕ) → n ≤ m → cond t 1 0 + n ≤ suc m
one_more true n m l = omega (arith, l)
one_more false n m l = omega (arith, l)

pub lines-within : (xs : List ℕ) → lines_of xs ≤ length xs
lines-within [] = omega arith
lines-within (x ∷ xs) = one_more (is_line_feed x) (lines_of xs) (length xs) (lines-within xs)

add_later : (a b c : ℕ) → a + (b + c) ≡ (a + b) + c
add_later a b c = omega arith

pub lines-append : (xs ys : List ℕ) → lines_of (xs ++ ys) ≡ lines_of xs + lines_of ys
lines-append [] ys = omega arith
lines-append (x ∷ xs) ys =
    ap (λ (n : ℕ). cond (is_line_feed x) 1 0 + n) (lines-append xs ys) ∙ add_later (cond (is_line_feed x) 1 0) (lines_of xs) (lines_of ys)

counted : (t : Bool) (k n : ℕ) → cond t k (suc k) ≤ n → suc k ≤ cond t 1 0 + n
counted true k n l = omega (arith, l)
counted false k n l = omega (arith, l)

left_within : (t : Bool) (k n : ℕ) → suc k ≤ cond t 1 0 + n → cond t k (suc k) ≤ n
left_within true k n l = omega (arith, l)
left_within false k n l = omega (arith, l)

-- ---- the first lines

no_lines : (xs : List ℕ) → first_lines xs 0 ≡ Some []
no_lines [] = refl
no_lines (x ∷ xs) = refl

some_lines : (xs : List ℕ) (k : ℕ) → k ≤ lines_of xs → (f : List ℕ) × (first_lines xs k ≡ Some f)
some_lines [] zero l = ([], refl)
some_lines [] (suc k) l = absurd (omega (arith, l))
some_lines (x ∷ xs) zero l = ([], refl)
some_lines (x ∷ xs) (suc k) l =
    let r = some_lines xs (left_behind x k) (left_within (is_line_feed x) k (lines_of xs) l) in (x ∷ r.0, ap (with_byte x) r.1)

-- those of a front that has enough
lines_of_front : (front : List ℕ) (k : ℕ) (xs : List ℕ) → k ≤ lines_of front → first_lines (front ++ xs) k ≡ first_lines front k
lines_of_front [] zero xs l = no_lines xs
lines_of_front [] (suc k) xs l = absurd (omega (arith, l))
lines_of_front (x ∷ front) zero xs l = refl
lines_of_front (x ∷ front) (suc k) xs l =
    ap (with_byte x) (lines_of_front front (left_behind x k) xs (left_within (is_line_feed x) k (lines_of front) l))

-- ---- texts that agree on a front and no longer

-- the two have no first byte in common
abbrev pub DifferHere : List ℕ → List ℕ → Type 0
DifferHere xs ys = (y : ℕ) → slice_get xs 0 ≡ Some y → slice_get ys 0 ≡ Some y → ⊥

no_line : (xs ys : List ℕ) (k : ℕ) (f : List ℕ) → DifferHere xs ys → first_lines xs (suc k) ≡ Some f → first_lines ys (suc k) ≡ Some f → ⊥
no_line [] ys k f part e o = none-some f e
no_line (x ∷ xs) [] k f part e o = none-some f o
no_line (x ∷ xs) (y ∷ ys) k f part e o =
    let m = map_some x (first_lines xs (left_behind x k)) f e in
    let n = map_some y (first_lines ys (left_behind y k)) f o in
    part x refl (ap Some (head_same y x n.0 m.0 (n.2 ∙ sym m.2)))

no_more : (front : List ℕ) (k : ℕ) (xs ys : List ℕ) → DifferHere xs ys → AgreeOn k (front ++ xs) (front ++ ys) → k ≤ lines_of front
no_more [] zero xs ys part a = omega arith
no_more [] (suc k) xs ys part a = absurd (no_line xs ys k a.front part a.in_text a.in_other)
no_more (x ∷ front) zero xs ys part a = omega arith
no_more (x ∷ front) (suc k) xs ys part a =
    let m = map_some x (first_lines (front ++ xs) (left_behind x k)) a.front a.in_text in
    let n = map_some x (first_lines (front ++ ys) (left_behind x k)) a.front a.in_other in
    let fewer : AgreeOn (left_behind x k) (front ++ xs) (front ++ ys) =
    record { front = m.0; in_text = m.1; in_other = n.1 ∙ ap Some (tail_same x x n.0 m.0 (n.2 ∙ sym m.2)) } in
    counted (is_line_feed x) k (lines_of front) (no_more front (left_behind x k) xs ys part fewer)

agreement : (front xs ys : List ℕ) → DifferHere xs ys → IsAgreement (front ++ xs) (front ++ ys) (lines_of front)
agreement front xs ys part =
    let f = some_lines front (lines_of front) (omega arith) in
    record {
      agree = record {
        front = f.0;
        in_text = lines_of_front front (lines_of front) xs (omega arith) ∙ f.1;
        in_other = lines_of_front front (lines_of front) ys (omega arith) ∙ f.1;
      };
      most = λ j a. no_more front j xs ys part a;
    }

-- two texts with this front agree on its lines
pub agreement_of : (text other front xs ys : List ℕ) → text ≡ front ++ xs → other ≡ front ++ ys → DifferHere xs ys → IsAgreement text other (lines_of front)
agreement_of text other front xs ys one two part =
    subst (λ (t : List ℕ). IsAgreement t other (lines_of front)) (sym one)
    (subst (λ (t : List ℕ). IsAgreement (front ++ xs) t (lines_of front)) (sym two) (agreement front xs ys part))

-- a text agrees with itself on all its lines
pub own_agreement : (text : List ℕ) → IsAgreement text text (lines_of text)
own_agreement text = agreement_of text text text [] [] (sym (append-nil text)) (sym (append-nil text)) (λ y e o. none-some y e)

pub one_agreement : (text other : List ℕ) (j k : ℕ) → IsAgreement text other j → IsAgreement text other k → j ≡ k
one_agreement text other j k a b = let up = b.most j a.agree in let down = a.most k b.agree in omega (arith, up, down)

-- ---- the line behind those on which two texts agree

left_more : (t : Bool) (k : ℕ) → cond t (suc k) (suc (suc k)) ≡ suc (cond t k (suc k))
left_more true k = refl
left_more false k = refl

same_more : (x k : ℕ) (xs f : List ℕ) → first_lines xs (suc (left_behind x k)) ≡ Some f → first_lines (x ∷ xs) (suc (suc k)) ≡ Some (x ∷ f)
same_more x k xs f e = ap (with_byte x) (ap (λ (j : ℕ). first_lines xs j) (left_more (is_line_feed x) k) ∙ e)

longer : (x k : ℕ) (xs ys : List ℕ) → (xs ≡ ys) ⊎ AgreeOn (suc (left_behind x k)) xs ys → (x ∷ xs ≡ x ∷ ys) ⊎ AgreeOn (suc (suc k)) (x ∷ xs) (x ∷ ys)
longer x k xs ys h =
    ⊎_elim (λ same. inl (ap (λ (l : List ℕ). x ∷ l) same))
    (λ a. inr (record { front = x ∷ a.front; in_text = same_more x k xs a.front a.in_text; in_other = same_more x k ys a.front a.in_other })) h

-- a byte of the first line, which may be its line feed
first_byte : (x : ℕ) (xs ys : List ℕ) → (first_line xs ≡ first_line ys → (xs ≡ ys) ⊎ AgreeOn 1 xs ys) → (t : Bool) → is_line_feed x ≡ t →
    cond t [] (first_line xs) ≡ cond t [] (first_line ys) → (x ∷ xs ≡ x ∷ ys) ⊎ AgreeOn 1 (x ∷ xs) (x ∷ ys)
first_byte x xs ys rest true e same =
    inr (record {
      front = x ∷ [];
      in_text = ap (λ (b : Bool). with_byte x (first_lines xs (cond b 0 1))) e ∙ ap (with_byte x) (no_lines xs);
      in_other = ap (λ (b : Bool). with_byte x (first_lines ys (cond b 0 1))) e ∙ ap (with_byte x) (no_lines ys);
    })
first_byte x xs ys rest false e same =
    ⊎_elim (λ all. inl (ap (λ (l : List ℕ). x ∷ l) all))
    (λ a. inr (record {
      front = x ∷ a.front;
      in_text = ap (λ (b : Bool). with_byte x (first_lines xs (cond b 0 1))) e ∙ ap (with_byte x) a.in_text;
      in_other = ap (λ (b : Bool). with_byte x (first_lines ys (cond b 0 1))) e ∙ ap (with_byte x) a.in_other;
    }))
    (rest same)

one_line : (xs ys : List ℕ) → first_line xs ≡ first_line ys → (xs ≡ ys) ⊎ AgreeOn 1 xs ys
one_line [] [] same = inl refl
one_line [] (y ∷ ys) same = absurd (nil_cons y (cond (is_line_feed y) [] (first_line ys)) same)
one_line (x ∷ xs) [] same = absurd (nil_cons x (cond (is_line_feed x) [] (first_line xs)) (sym same))
one_line (x ∷ xs) (y ∷ ys) same =
    let byte : x ≡ y = head_same x y (cond (is_line_feed x) [] (first_line xs)) (cond (is_line_feed y) [] (first_line ys)) same in
    subst (λ (z : ℕ). first_line (x ∷ xs) ≡ first_line (z ∷ ys) → (x ∷ xs ≡ z ∷ ys) ⊎ AgreeOn 1 (x ∷ xs) (z ∷ ys)) byte
    (λ alike. first_byte x xs ys (one_line xs ys) (is_line_feed x) refl
    (tail_same x x (cond (is_line_feed x) [] (first_line xs)) (cond (is_line_feed x) [] (first_line ys)) alike))
    same

none_behind : (xs : List ℕ) → behind_lines xs 0 ≡ xs
none_behind [] = refl
none_behind (x ∷ xs) = refl

-- where it is the same, the texts are equal or agree on it too
pub next_line : (xs ys : List ℕ) (k : ℕ) → AgreeOn k xs ys → line_behind xs k ≡ line_behind ys k → (xs ≡ ys) ⊎ AgreeOn (suc k) xs ys
next_line [] ys zero a same = one_line [] ys (same ∙ ap first_line (none_behind ys))
next_line [] ys (suc k) a same = absurd (none-some a.front a.in_text)
next_line (x ∷ xs) ys zero a same = one_line (x ∷ xs) ys (same ∙ ap first_line (none_behind ys))
next_line (x ∷ xs) [] (suc k) a same = absurd (none-some a.front a.in_other)
next_line (x ∷ xs) (y ∷ ys) (suc k) a same =
    let m = map_some x (first_lines xs (left_behind x k)) a.front a.in_text in
    let n = map_some y (first_lines ys (left_behind y k)) a.front a.in_other in
    let byte : x ≡ y = head_same x y m.0 n.0 (m.2 ∙ sym n.2) in
    subst
    (λ (z : ℕ). first_lines ys (left_behind z k) ≡ Some n.0 → line_behind (x ∷ xs) (suc k) ≡ line_behind (z ∷ ys) (suc k) →
    (x ∷ xs ≡ z ∷ ys) ⊎ AgreeOn (suc (suc k)) (x ∷ xs) (z ∷ ys))
    byte
    (λ other alike.
    let fewer : AgreeOn (left_behind x k) xs ys =
    record { front = m.0; in_text = m.1; in_other = other ∙ ap Some (sym (tail_same x y m.0 n.0 (m.2 ∙ sym n.2))) } in
    longer x k xs ys (next_line xs ys (left_behind x k) fewer alike))
    n.1 same
