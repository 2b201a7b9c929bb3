-- Spans copied one behind the other.
use Rattle.std.proofs.Common.{◌≡◌, ℕ, ◌+◌, ◌<◌, ◌≤◌, List, [], ◌∷◌, ◌++◌, length, take, drop, get_or, set, ℤ, ap, sym, ◌∙◌, add-one, arith, append_assoc}
use Rattle.std.proofs.Math.Seq.{paste, drop-cons}
use Rattle.std.proofs.lemmas.List.{append-nil, take_more, take_at, length-take-le, length-append, length-drop, get_or-drop, set_split}
use Rattle.std.proofs.lemmas.List.Edits.{paste_more}
use Rattle.sci_span.specs.declared.span.Span.{Span}
use Rattle.sci_span.specs.Values.{gathered, read_at, span_end}
use Rattle.sci_span.proofs.Runs.{read_length}

-- one more value of a span
pub paste_next : (values ins : List ℤ) (start at e : ℕ) (d : ℤ) → at + e < length ins → start + e < length values
    → set (paste ins at (drop start values) e) (at + e) (get_or values (start + e) d) ≡ paste ins at (drop start values) (e + 1)
paste_next values ins start at e d to from =
    let long = length-drop start values in
    ap (set (paste ins at (drop start values) e) (at + e)) (sym (get_or-drop start values e d))
    ∙ paste_more ins at (drop start values) e d to (omega (arith, long, from))

-- the only value of a span
pub paste_one : (values ins : List ℤ) (start at len : ℕ) (d : ℤ) → len ≡ 1 → at < length ins → start < length values
    → set ins at (get_or values start d) ≡ take at ins ++ (take len (drop start values) ++ drop (at + len) ins)
paste_one values ins start at len d one to from = rw (one, drop-cons values start d from, add-one at) (set_split ins at (get_or values start d) to)

gathered_push : (values : List ℤ) (ss : List Span) (s : Span) → gathered values (ss ++ (s ∷ [])) ≡ gathered values ss ++ read_at values s
gathered_push values [] s = append-nil (read_at values s)
gathered_push values (t ∷ ss) s =
    ap (λ vs. read_at values t ++ vs) (gathered_push values ss s) ∙ sym (append_assoc (read_at values t) (gathered values ss) (read_at values s))

-- one more span
pub gathered_more : (values : List ℤ) (spans : List Span) (i : ℕ) (d : Span) → i < length spans
    → gathered values (take (i + 1) spans) ≡ gathered values (take i spans) ++ read_at values (get_or spans i d)
gathered_more values spans i d h = ap (gathered values) (take_more spans i d h) ∙ gathered_push values (take i spans) (get_or spans i d)

-- what is copied to a place stands behind what stood before it
pub copied_more : (values ins : List ℤ) (s : Span) (count : ℕ) → count + s.len ≤ length ins → span_end s ≤ length values
    → take (count + s.len) (take count ins ++ (read_at values s ++ drop (count + s.len) ins)) ≡ take count ins ++ read_at values s
copied_more values ins s count to from =
    let front = length-take-le count ins (omega (arith, to)) in
    let back = read_length values s.start s.len from in
    let both = length-append (take count ins) (read_at values s) in
    ap (take (count + s.len)) (sym (append_assoc (take count ins) (read_at values s) (drop (count + s.len) ins)))
    ∙ take_at (take count ins ++ read_at values s) (drop (count + s.len) ins) (count + s.len) (omega (arith, front, back, both))
