-- Values that are noted, and the marks of their pages.
use Rattle.std.proofs.Common.{◌≡◌, ℕ, ◌+◌, ◌-◌, ◌/◌, ◌<◌, ◌≤◌, ℤ, pos, List, ◌++◌, take, drop, length, get_or, Bool, true, false, inl, inr, refl, sym, ap, ◌∙◌, subst, arith}
use Rattle.std.specs.Prelude.{replicate}
use Rattle.std.proofs.Math.Seq.{get_or-append_right}
use Rattle.std.proofs.lemmas.List.{length-append, length-drop, length-replicate, length-take-le, get_or-drop, get_or-replicate, get_or-take, get_or_append_left, get_or_past, take_at}
use Rattle.std.proofs.lemmas.Bool.{cases_lt}
use Rattle.sci_base.specs.declared.Ty.{Ty}
use Rattle.sci_base.specs.declared.Ty.TheVariants.{I32, I16, I8, U32, U16, U8}
use Rattle.sci_base.specs.Fit.{in_range}
use Rattle.sci_vcd.specs.Waveforms.{AreSignals, type_of, first_of}
use Rattle.sci_vcd.specs.Writing.{Writing, IsKept, with_notes}

zero_fits : (t : Ty) → in_range t (pos 0) ≡ true
zero_fits I32 = refl
zero_fits I16 = refl
zero_fits I8 = refl
zero_fits U32 = refl
zero_fits U16 = refl
zero_fits U8 = refl

pub all_zero : (count k : ℕ) → first_of (replicate count (pos 0)) k ≡ pos 0
all_zero count k = elim (cases_lt (k - 1) count) [
  | inl l ↦ get_or-replicate count (k - 1) (pos 0) (pos 0) l
  | inr r ↦ let h = length-replicate count (pos 0) in get_or_past (replicate count (pos 0)) (k - 1) (pos 0) (omega (arith, h, r))
]

-- nothing was noted yet
pub kept_outset : (o : Writing) (marked : List Bool) → AreSignals o.signals → 1 ≤ length o.starts → length o.starts ≤ 2049 → o.written ≡ replicate (length o.signals) (pos 0) → o.noted ≡ replicate (length o.signals) (pos 0)
    → marked ≡ replicate (length o.signals / 32 + 1) false → IsKept o marked
kept_outset o marked signals some few written noted marks =
    let count = length o.signals in
    let lw : length o.written ≡ count = ap length written ∙ length-replicate count (pos 0) in
    let ln : length o.noted ≡ count = ap length noted ∙ length-replicate count (pos 0) in
    record {
      writing = record {
        signals = signals;
        some = some;
        few = few;
        written = lw;
        noted = record {
          one_each = ln;
          fit = λ k h g. subst (λ (v : ℤ). in_range (type_of o.signals k) v ≡ true) (sym (ap (λ (l : List ℤ). first_of l k) noted ∙ all_zero count k)) (zero_fits (type_of o.signals k));
        };
      };
      marks = record {
        pages = ap length marks ∙ length-replicate (count / 32 + 1) false ∙ ap (λ (n : ℕ). n / 32 + 1) (sym lw);
        same = λ k h e. ap (λ (l : List ℤ). get_or l k (pos 0)) (written ∙ sym noted);
      };
    }

pub both : true ≡ false → ⊥
both e = cc e

-- ---- values that stand in place of others, from place k on

abbrev placed : (k : ℕ) → List ℤ → List ℤ → List ℤ
placed k vs xs = take k xs ++ (vs ++ drop (k + length vs) xs)

placed_length : (k : ℕ) (vs xs : List ℤ) → k + length vs ≤ length xs → length (placed k vs xs) ≡ length xs
placed_length k vs xs h =
    let front = length-take-le k xs (omega (arith, h)) in
    let rest = drop (k + length vs) xs in
    let back = length-drop (k + length vs) xs in
    let all = length-append (take k xs) (vs ++ rest) in
    let more = length-append vs rest in
    omega (arith, front, back, all, more, h)

placed_before : (k : ℕ) (vs xs : List ℤ) (i : ℕ) → k + length vs ≤ length xs → i < k → get_or (placed k vs xs) i (pos 0) ≡ get_or xs i (pos 0)
placed_before k vs xs i h below =
    let front = length-take-le k xs (omega (arith, h)) in
    get_or_append_left (take k xs) (vs ++ drop (k + length vs) xs) (pos 0) i (omega (arith, front, below)) ∙ get_or-take k xs i (pos 0) below

placed_from : (k : ℕ) (vs xs : List ℤ) (i : ℕ) → k + length vs ≤ length xs → k ≤ i → get_or (placed k vs xs) i (pos 0) ≡ get_or (vs ++ drop (k + length vs) xs) (i - k) (pos 0)
placed_from k vs xs i h from =
    let front = length-take-le k xs (omega (arith, h)) in
    let e : i - length (take k xs) ≡ i - k = omega (arith, front) in
    get_or-append_right (take k xs) (vs ++ drop (k + length vs) xs) i (pos 0) (omega (arith, front, from)) ∙ ap (λ (j : ℕ). get_or (vs ++ drop (k + length vs) xs) j (pos 0)) e

placed_there : (k : ℕ) (vs xs : List ℤ) (i : ℕ) → k + length vs ≤ length xs → k ≤ i → i < k + length vs → get_or (placed k vs xs) i (pos 0) ≡ get_or vs (i - k) (pos 0)
placed_there k vs xs i h from until = placed_from k vs xs i h from ∙ get_or_append_left vs (drop (k + length vs) xs) (pos 0) (i - k) (omega (arith, from, until))

placed_behind : (k : ℕ) (vs xs : List ℤ) (i : ℕ) → k + length vs ≤ length xs → k + length vs ≤ i → get_or (placed k vs xs) i (pos 0) ≡ get_or xs i (pos 0)
placed_behind k vs xs i h from =
    let e : k + length vs + ((i - k) - length vs) ≡ i = omega (arith, from) in
    placed_from k vs xs i h (omega (arith, from))
    ∙ get_or-append_right vs (drop (k + length vs) xs) (i - k) (pos 0) (omega (arith, from))
    ∙ get_or-drop (k + length vs) xs ((i - k) - length vs) (pos 0) ∙ ap (λ (j : ℕ). get_or xs j (pos 0)) e

-- what is written through a reference to a list is the list
pub written_back : {A : Type 0} (xs new : List A) (len : ℕ) → len ≡ length xs → length new ≡ length xs → take len (new ++ drop (length new) xs) ≡ new
written_back xs new len e h = take_at new (drop (length new) xs) len (h ∙ sym e)

-- some values more are noted, and their pages are marked
pub kept_notes : (o : Writing) (marked new : List Bool) (k : ℕ) (vs : List ℤ) → IsKept o marked → k + length vs ≤ length o.signals
    → ((j : ℕ) → j < length vs → in_range (type_of o.signals (k + j + 1)) (get_or vs j (pos 0)) ≡ true)
    → ((i : ℕ) → k ≤ i → i < k + length vs → get_or new (i / 32) false ≡ true) → ((p : ℕ) → get_or new p false ≡ false → get_or marked p false ≡ false) → length new ≡ length marked
    → IsKept (with_notes o k vs) new
kept_notes o marked new k vs h within fits on off long =
    let w = h.writing in
    let ln = w.noted.one_each in
    let lw = w.written in
    let room : k + length vs ≤ length o.noted = omega (arith, within, ln) in
    record {
      writing = record {
        signals = w.signals;
        some = w.some;
        few = w.few;
        written = lw;
        noted = record {
          one_each = placed_length k vs o.noted room ∙ ln;
          fit = λ j j1 j2. elim (cases_lt (j - 1) k) [
            | inl before ↦ subst (λ (x : ℤ). in_range (type_of o.signals j) x ≡ true) (sym (placed_before k vs o.noted (j - 1) room before)) (w.noted.fit j j1 j2)
            | inr from ↦ elim (cases_lt (j - 1) (k + length vs)) [
              | inl until ↦
                  let here : k + ((j - 1) - k) + 1 ≡ j = omega (arith, from, j1) in
                  subst (λ (x : ℤ). in_range (type_of o.signals j) x ≡ true) (sym (placed_there k vs o.noted (j - 1) room from until))
                  (subst (λ (i : ℕ). in_range (type_of o.signals i) (get_or vs ((j - 1) - k) (pos 0)) ≡ true) here (fits ((j - 1) - k) (omega (arith, from, until))))
              | inr behind ↦ subst (λ (x : ℤ). in_range (type_of o.signals j) x ≡ true) (sym (placed_behind k vs o.noted (j - 1) room behind)) (w.noted.fit j j1 j2)
            ]
          ];
        };
      };
      marks = record {
        pages = long ∙ h.marks.pages;
        same = λ i inside e. elim (cases_lt i k) [
          | inl before ↦ h.marks.same i inside (off (i / 32) e) ∙ sym (placed_before k vs o.noted i room before)
          | inr from ↦ elim (cases_lt i (k + length vs)) [
            | inl until ↦ absurd (both (sym (on i from until) ∙ e))
            | inr behind ↦ h.marks.same i inside (off (i / 32) e) ∙ sym (placed_behind k vs o.noted i room behind)
          ]
        ];
      };
    }
