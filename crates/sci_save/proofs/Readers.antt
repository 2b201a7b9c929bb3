-- Readers of whole lines: what is read is spelled so, what is spelled so is read, and where reading fails.
use Rattle.std.proofs.Common.{◌≡◌, ℕ, List, [], ◌∷◌, ◌++◌, length, Result, Ok, Err, false, refl, sym, ap, ap₂, ◌∙◌, subst, append_assoc, append-nil}
use Rattle.sci_text.specs.Lines.{has_lf, with_lf, joined, AllClear}
use Rattle.sci_text.proofs.Splits.{first_line, joined-append, clear_append}
use Rattle.sci_save.specs.Reading.{Read, ◌>>=◌}

-- ---- lines

-- whole lines
pub record AreLines (text : List ℕ) : Type 0 where
  pub lines : List (List ℕ)
  pub clear : AllClear lines
  pub text_is : text ≡ joined lines

pub no_lines : AreLines []
no_lines = record { lines = []; clear = tt; text_is = refl }

pub lines_append : (a b : List ℕ) → AreLines a → AreLines b → AreLines (a ++ b)
lines_append a b p q = record {
  lines = p.lines ++ q.lines;
  clear = clear_append p.lines q.lines p.clear q.clear;
  text_is = ap₂ (λ (x : List ℕ) (y : List ℕ). x ++ y) p.text_is q.text_is ∙ sym (joined-append p.lines q.lines);
}

-- one line, with its LF
pub record IsOneLine (text : List ℕ) : Type 0 where
  pub line : List ℕ
  pub clear : has_lf line ≡ false
  pub text_is : text ≡ with_lf line

pub one_line : (text : List ℕ) → IsOneLine text → AreLines text
one_line text p = record { lines = p.line ∷ []; clear = (p.clear, tt); text_is = p.text_is ∙ sym (append-nil (with_lf p.line)) }

-- two texts whose first line is the same
pub record SameLine (left other : List ℕ) : Type 0 where
  pub line : List ℕ
  pub clear : has_lf line ≡ false
  pub rest : List ℕ
  pub more : List ℕ
  pub left_is : left ≡ with_lf line ++ rest
  pub other_is : other ≡ with_lf line ++ more

-- ---- readers

-- the value of a step that did not fail
pub bind_ok : {A B : Type 0} (r : Result A ℕ) (f : A → Result B ℕ) (y : B) → (r >>= f) ≡ Ok y → (x : A) × (r ≡ Ok x) × (f x ≡ Ok y)
bind_ok (Ok x) f y e = (x, refl, e)
bind_ok (Err c) f y e = absurd cc

-- what is read is not both
pub not_both : {A : Type 0} (r : Result A ℕ) (x : A) (c : ℕ) → r ≡ Ok x → r ≡ Err c → ⊥
not_both r x c e f = cc

pub same_value : {A : Type 0} (r : Result A ℕ) (x y : A) → r ≡ Ok x → r ≡ Ok y → x ≡ y
same_value r x y e f = cc

pub same_count : {A : Type 0} (r : Result A ℕ) (c d : ℕ) → r ≡ Err c → r ≡ Err d → c ≡ d
same_count r c d e f = cc

-- So many bytes are left where reading fails: the lines before are those of some value, and with each text that has the same next line reading
-- fails there.
pub record FailsAt {A : Type 0} (text : A → List ℕ) (fits : A → Type 0) (read : List ℕ → Read A) (bytes : List ℕ) (count : ℕ) : Type 0 where
  pub before : List ℕ
  pub left : List ℕ
  pub split : bytes ≡ before ++ left
  pub lines : AreLines before
  pub count_is : count ≡ length left
  pub value : A
  pub fitting : fits value
  pub more : List ℕ
  pub front : text value ≡ before ++ more
  pub alone : (other : List ℕ) → SameLine left other → read (before ++ other) ≡ Err (length other)

-- The reader reads exactly the texts of the values that fit, of which there is one.
pub record IsReader {A : Type 0} (text : A → List ℕ) (fits : A → Type 0) (read : List ℕ → Read A) : Type 0 where
  pub takes : (bytes : List ℕ) (x : A × List ℕ) → read bytes ≡ Ok x → (bytes ≡ text x.0 ++ x.1) × fits x.0
  pub again : (a : A) (rest : List ℕ) → fits a → read (text a ++ rest) ≡ Ok (a, rest)
  pub lines : (a : A) → fits a → AreLines (text a)
  pub some : A
  pub some_fits : fits some
  pub fails : (bytes : List ℕ) (count : ℕ) → read bytes ≡ Err count → FailsAt text fits read bytes count

-- The same of one line, but that there may be no value that fits.
pub record IsLineReader {A : Type 0} (text : A → List ℕ) (fits : A → Type 0) (read : List ℕ → Read A) : Type 0 where
  pub takes : (bytes : List ℕ) (x : A × List ℕ) → read bytes ≡ Ok x → (bytes ≡ text x.0 ++ x.1) × fits x.0
  pub again : (a : A) (rest : List ℕ) → fits a → read (text a ++ rest) ≡ Ok (a, rest)
  pub line : (a : A) → fits a → IsOneLine (text a)
  pub fails : (bytes : List ℕ) (count : ℕ) → read bytes ≡ Err count → count ≡ length bytes

-- where a line isn't read, no text that begins with it is
pub line_alone : {A : Type 0} {text : A → List ℕ} {fits : A → Type 0} {read : List ℕ → Read A} → IsLineReader text fits read → (left other : List ℕ) (count : ℕ)
    → read left ≡ Err count → SameLine left other → read other ≡ Err (length other)
line_alone {A} {text} {fits} {read} r left other count e s = by_result (read other) refl
  where
    by_result : (o : Read A) → read other ≡ o → read other ≡ Err (length other)
    by_result (Ok y) f =
        let t = r.takes other y f in
        let l = r.line y.0 t.1 in
        let whole : with_lf l.line ++ y.1 ≡ with_lf s.line ++ s.more = ap (λ (x : List ℕ). x ++ y.1) (sym l.text_is) ∙ sym t.0 ∙ s.other_is in
        let same = first_line l.line s.line y.1 s.more l.clear s.clear whole in
        let left_is : left ≡ text y.0 ++ s.rest = s.left_is ∙ ap (λ (x : List ℕ). x ++ s.rest) (ap with_lf (sym same.0) ∙ sym l.text_is) in
        absurd (not_both (read left) (y.0, s.rest) count (ap read left_is ∙ r.again y.0 s.rest t.1) e)
    by_result (Err c) f = f ∙ ap Err (r.fails other c f)

pub line_reader : {A : Type 0} {text : A → List ℕ} {fits : A → Type 0} {read : List ℕ → Read A} → IsLineReader text fits read → (some : A) → fits some → IsReader text fits read
line_reader {A} {text} {fits} {read} r some fitting = record {
  takes = r.takes;
  again = r.again;
  lines = λ a f. one_line (text a) (r.line a f);
  some = some;
  some_fits = fitting;
  fails = λ bytes count e. record {
    before = [];
    left = bytes;
    split = refl;
    lines = no_lines;
    count_is = r.fails bytes count e;
    value = some;
    fitting = fitting;
    more = text some;
    front = refl;
    alone = λ other s. line_alone r bytes other count e s;
  };
}

-- ---- one reader behind another

abbrev pub both : {A B : Type 0} → (List ℕ → Read A) → (A → List ℕ → Read B) → List ℕ → Read (A × B)
both first second bytes = first bytes >>= λ x. second x.0 x.1 >>= λ y. Ok ((x.0, y.0), y.1)

abbrev pub both_text : {A B : Type 0} → (A → List ℕ) → (A → B → List ℕ) → A × B → List ℕ
both_text text next x = text x.0 ++ next x.0 x.1

abbrev pub both_fit : {A B : Type 0} → (A → Type 0) → (A → B → Type 0) → A × B → Type 0
both_fit fits goes x = fits x.0 × goes x.0 x.1

module _ {A B : Type 0} (text : A → List ℕ) (fits : A → Type 0) (first : List ℕ → Read A) (next : A → B → List ℕ) (goes : A → B → Type 0) (second : A → List ℕ → Read B)
    (r : IsReader text fits first) (q : (a : A) → fits a → IsReader (next a) (goes a) (second a)) where
  both_take : (bytes : List ℕ) (x : (A × B) × List ℕ) → both first second bytes ≡ Ok x → (bytes ≡ both_text text next x.0 ++ x.1) × both_fit fits goes x.0
  both_take bytes x e =
      let a = bind_ok (first bytes) (λ (p : A × List ℕ). second p.0 p.1 >>= λ y. Ok ((p.0, y.0), y.1)) x e in
      let b = bind_ok (second a.0.0 a.0.1) (λ (y : B × List ℕ). Ok ((a.0.0, y.0), y.1)) x a.2 in
      let t = r.takes bytes a.0 a.1 in
      let u = (q a.0.0 t.1).takes a.0.1 b.0 b.1 in
      let made : (A × B) × List ℕ = ((a.0.0, b.0.0), b.0.1) in
      let p : made ≡ x = let h = b.2 in cc in
      subst (λ (z : (A × B) × List ℕ). (bytes ≡ both_text text next z.0 ++ z.1) × both_fit fits goes z.0) p
      (t.0 ∙ ap (λ (l : List ℕ). text a.0.0 ++ l) u.0 ∙ sym (append_assoc (text a.0.0) (next a.0.0 b.0.0) b.0.1), (t.1, u.1))

  -- behind the text of the first
  both_behind : (a : A) (f : fits a) (bytes : List ℕ) (o : Read B) → second a bytes ≡ o → both first second (text a ++ bytes) ≡ (o >>= λ y. Ok ((a, y.0), y.1))
  both_behind a f bytes o e = rw (r.again a bytes f, e) refl

  both_again : (x : A × B) (rest : List ℕ) → both_fit fits goes x → both first second (both_text text next x ++ rest) ≡ Ok (x, rest)
  both_again x rest f =
      ap (both first second) (append_assoc (text x.0) (next x.0 x.1) rest) ∙ both_behind x.0 f.0 (next x.0 x.1 ++ rest) (Ok (x.1, rest)) ((q x.0 f.0).again x.1 rest f.1)

  both_fail : (bytes : List ℕ) (count : ℕ) → both first second bytes ≡ Err count → FailsAt (both_text text next) (both_fit fits goes) (both first second) bytes count
  both_fail bytes count e = by_first (first bytes) refl
    where
      by_second : (a : A) (left : List ℕ) → first bytes ≡ Ok (a, left) → (o : Read B) → second a left ≡ o → FailsAt (both_text text next) (both_fit fits goes) (both first second) bytes count
      by_second a left is (Ok y) f =
          let t = r.takes bytes (a, left) is in
          absurd (not_both (both first second bytes) ((a, y.0), y.1) count (ap (both first second) t.0 ∙ both_behind a t.1 left (Ok y) f) e)
      by_second a left is (Err c) f =
          let t = r.takes bytes (a, left) is in
          let w = (q a t.1).fails left c f in
          let c-is = same_count (both first second bytes) c count (ap (both first second) t.0 ∙ both_behind a t.1 left (Err c) f) e in
          record {
            before = text a ++ w.before;
            left = w.left;
            split = t.0 ∙ ap (λ (l : List ℕ). text a ++ l) w.split ∙ sym (append_assoc (text a) w.before w.left);
            lines = lines_append (text a) w.before (r.lines a t.1) w.lines;
            count_is = sym c-is ∙ w.count_is;
            value = (a, w.value);
            fitting = (t.1, w.fitting);
            more = w.more;
            front = ap (λ (l : List ℕ). text a ++ l) w.front ∙ sym (append_assoc (text a) w.before w.more);
            alone = λ other s. ap (both first second) (append_assoc (text a) w.before other) ∙ both_behind a t.1 (w.before ++ other) (Err (length other)) (w.alone other s);
          }

      by_first : (o : Read A) → first bytes ≡ o → FailsAt (both_text text next) (both_fit fits goes) (both first second) bytes count
      by_first (Ok x) is = by_second x.0 x.1 is (second x.0 x.1) refl
      by_first (Err c) is =
          let w = r.fails bytes c is in
          let c-is = same_count (both first second bytes) c count (ap (λ (o : Read A). o >>= λ x. second x.0 x.1 >>= λ y. Ok ((x.0, y.0), y.1)) is) e in
          let b = q w.value w.fitting in
          record {
            before = w.before;
            left = w.left;
            split = w.split;
            lines = w.lines;
            count_is = sym c-is ∙ w.count_is;
            value = (w.value, b.some);
            fitting = (w.fitting, b.some_fits);
            more = w.more ++ next w.value b.some;
            front = ap (λ (l : List ℕ). l ++ next w.value b.some) w.front ∙ append_assoc w.before w.more (next w.value b.some);
            alone = λ other s. ap (λ (o : Read A). o >>= λ x. second x.0 x.1 >>= λ y. Ok ((x.0, y.0), y.1)) (w.alone other s);
          }

  pub both_read : IsReader (both_text text next) (both_fit fits goes) (both first second)
  both_read = record {
    takes = both_take;
    again = both_again;
    lines = λ x f. lines_append (text x.0) (next x.0 x.1) (r.lines x.0 f.0) ((q x.0 f.0).lines x.1 f.1);
    some = (r.some, (q r.some r.some_fits).some);
    some_fits = (r.some_fits, (q r.some r.some_fits).some_fits);
    fails = both_fail;
  }

-- the steps on what was read
abbrev pub pair_with : {A B : Type 0} → A → Read B → Read (A × B)
pair_with a o = o >>= λ y. Ok ((a, y.0), y.1)

abbrev pub pairs : {A B : Type 0} → Read A → (A → List ℕ → Read B) → Read (A × B)
pairs o second = o >>= λ x. pair_with x.0 (second x.0 x.1)

abbrev pub viewed : {A B : Type 0} → (A → B) → Read A → Read B
viewed f o = o >>= λ x. Ok (f x.0, x.1)

-- ---- the same value, seen otherwise

abbrev pub seen : {A B : Type 0} → (A → B) → (List ℕ → Read A) → List ℕ → Read B
seen f read bytes = read bytes >>= λ x. Ok (f x.0, x.1)

-- what fits in one way and in the other, and has the same text
pub record AreSame {A B : Type 0} (f : A → B) (g : B → A) (text : A → List ℕ) (fits : A → Type 0) (other : B → List ℕ) (goes : B → Type 0) : Type 0 where
  pub forth : (a : A) → fits a → goes (f a)
  pub back : (b : B) → goes b → fits (g b)
  pub again : (b : B) → goes b → f (g b) ≡ b
  pub text_is : (a : A) → fits a → other (f a) ≡ text a

module _ {A B : Type 0} (f : A → B) (g : B → A) (text : A → List ℕ) (fits : A → Type 0) (other : B → List ℕ) (goes : B → Type 0) (read : List ℕ → Read A)
    (s : AreSame f g text fits other goes) (r : IsReader text fits read) where
  seen_text : (b : B) → goes b → text (g b) ≡ other b
  seen_text b h = sym (s.text_is (g b) (s.back b h)) ∙ ap other (s.again b h)

  seen_take : (bytes : List ℕ) (x : B × List ℕ) → seen f read bytes ≡ Ok x → (bytes ≡ other x.0 ++ x.1) × goes x.0
  seen_take bytes x e =
      let a = bind_ok (read bytes) (λ (y : A × List ℕ). Ok (f y.0, y.1)) x e in
      let t = r.takes bytes a.0 a.1 in
      let made : B × List ℕ = (f a.0.0, a.0.1) in
      let p : made ≡ x = let h = a.2 in cc in
      subst (λ (z : B × List ℕ). (bytes ≡ other z.0 ++ z.1) × goes z.0) p (t.0 ∙ ap (λ (l : List ℕ). l ++ a.0.1) (sym (s.text_is a.0.0 t.1)), s.forth a.0.0 t.1)

  seen_again : (b : B) (rest : List ℕ) → goes b → seen f read (other b ++ rest) ≡ Ok (b, rest)
  seen_again b rest h =
      let one : read (other b ++ rest) ≡ Ok (g b, rest) = ap (λ (l : List ℕ). read (l ++ rest)) (sym (seen_text b h)) ∙ r.again (g b) rest (s.back b h) in
      ap (λ (o : Read A). o >>= λ x. Ok (f x.0, x.1)) one ∙ ap (λ (y : B). Ok (y, rest)) (s.again b h)

  seen_fail : (bytes : List ℕ) (count : ℕ) → seen f read bytes ≡ Err count → FailsAt other goes (seen f read) bytes count
  seen_fail bytes count e = by_result (read bytes) refl
    where
      by_result : (o : Read A) → read bytes ≡ o → FailsAt other goes (seen f read) bytes count
      by_result (Ok x) is = absurd (not_both (seen f read bytes) (f x.0, x.1) count (ap (λ (o : Read A). o >>= λ y. Ok (f y.0, y.1)) is) e)
      by_result (Err c) is =
          let w = r.fails bytes c is in
          let c-is = same_count (seen f read bytes) c count (ap (λ (o : Read A). o >>= λ y. Ok (f y.0, y.1)) is) e in
          record {
            before = w.before;
            left = w.left;
            split = w.split;
            lines = w.lines;
            count_is = sym c-is ∙ w.count_is;
            value = f w.value;
            fitting = s.forth w.value w.fitting;
            more = w.more;
            front = s.text_is w.value w.fitting ∙ w.front;
            alone = λ x h. ap (λ (o : Read A). o >>= λ y. Ok (f y.0, y.1)) (w.alone x h);
          }

  pub seen_read : IsReader other goes (seen f read)
  seen_read = record {
    takes = seen_take;
    again = seen_again;
    lines = λ b h. subst AreLines (seen_text b h) (r.lines (g b) (s.back b h));
    some = f r.some;
    some_fits = s.forth r.some r.some_fits;
    fails = seen_fail;
  }

-- a reader that reads the same
pub same_read : {A : Type 0} {text : A → List ℕ} {fits : A → Type 0} {read : List ℕ → Read A} (other : List ℕ → Read A) → ((bytes : List ℕ) → other bytes ≡ read bytes) → IsReader text fits read → IsReader text fits other
same_read {A} {text} {fits} {read} other e r = record {
  takes = λ bytes x h. r.takes bytes x (sym (e bytes) ∙ h);
  again = λ a rest f. e (text a ++ rest) ∙ r.again a rest f;
  lines = r.lines;
  some = r.some;
  some_fits = r.some_fits;
  fails = λ bytes count h.
      let w = r.fails bytes count (sym (e bytes) ∙ h) in
      record {
        before = w.before;
        left = w.left;
        split = w.split;
        lines = w.lines;
        count_is = w.count_is;
        value = w.value;
        fitting = w.fitting;
        more = w.more;
        front = w.front;
        alone = λ x s. e (w.before ++ x) ∙ w.alone x s;
      };
}

-- the text written otherwise
pub other_text : {A : Type 0} {text : A → List ℕ} {fits : A → Type 0} {read : List ℕ → Read A} (other : A → List ℕ) → ((a : A) → fits a → other a ≡ text a) → IsReader text fits read → IsReader other fits read
other_text {A} {text} {fits} {read} other e r = record {
  takes = λ bytes x h. let t = r.takes bytes x h in (t.0 ∙ ap (λ (l : List ℕ). l ++ x.1) (sym (e x.0 t.1)), t.1);
  again = λ a rest f. ap (λ (l : List ℕ). read (l ++ rest)) (e a f) ∙ r.again a rest f;
  lines = λ a f. subst AreLines (sym (e a f)) (r.lines a f);
  some = r.some;
  some_fits = r.some_fits;
  fails = λ bytes count h.
      let w = r.fails bytes count h in
      record {
        before = w.before;
        left = w.left;
        split = w.split;
        lines = w.lines;
        count_is = w.count_is;
        value = w.value;
        fitting = w.fitting;
        more = w.more;
        front = e w.value w.fitting ∙ w.front;
        alone = w.alone;
      };
}
