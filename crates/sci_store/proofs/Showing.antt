-- Values that are shown, block by block, in pieces.
use Rattle.std.proofs.Common.{◌≡◌, ℕ, ◌+◌, Bool, true, false, ◌&&◌, List, [], ◌∷◌, ◌++◌, Contains, ◌↔◌, Option, Some, None, is_none, refl, sym, ap, ◌∙◌, eqb}
use Rattle.std.specs.Prelude.{if◌then◌else◌}
use Rattle.std.specs.Set.{is_member}
use Rattle.std.proofs.lemmas.Bool.Decides.{Decides-eqb}
use Rattle.std.proofs.lemmas.Map.Made.{is_member-Decides}
use Rattle.sci_span.specs.declared.span.Span.{Span}
use Rattle.sci_places.specs.Layout.{place_at}
use Rattle.sci_store.specs.declared.row.Show.{Show}
use Rattle.sci_store.specs.declared.row.Member.{Member}
use Rattle.sci_store.specs.Frame.{Fixed}
use Rattle.sci_store.specs.Rows.{then_block, show_of}
use Rattle.sci_store.proofs.Choices.{seen_if, seen_unless}

-- ---- a block behind the pieces before

-- a block without values shows nothing
pub then_none : (before : List Show) (s : Show) → eqb s.start s.end ≡ true → then_block before s ≡ before
then_none [] s e = seen_if (eqb s.start s.end) [] (s ∷ []) e
then_none (t ∷ []) s e =
    seen_if (eqb s.start s.end) (t ∷ []) (if eqb t.end s.start && (is_none t.asked && is_none s.asked) then record t { end = s.end } ∷ [] else t ∷ s ∷ []) e
then_none (t ∷ u ∷ us) s e = ap (λ (l : List Show). t ∷ l) (then_none (u ∷ us) s e)

pub then_first : (s : Show) → eqb s.start s.end ≡ false → then_block [] s ≡ s ∷ []
then_first s e = seen_unless (eqb s.start s.end) [] (s ∷ []) e

-- it adjoins the last piece
pub then_joined : (front : List Show) (t s : Show) → eqb s.start s.end ≡ false → eqb t.end s.start && (is_none t.asked && is_none s.asked) ≡ true
    → then_block (front ++ t ∷ []) s ≡ front ++ record t { end = s.end } ∷ []
then_joined [] t s e h =
    seen_unless (eqb s.start s.end) (t ∷ []) (if eqb t.end s.start && (is_none t.asked && is_none s.asked) then record t { end = s.end } ∷ [] else t ∷ s ∷ []) e
    ∙ seen_if (eqb t.end s.start && (is_none t.asked && is_none s.asked)) (record t { end = s.end } ∷ []) (t ∷ s ∷ []) h
then_joined (x ∷ []) t s e h = ap (λ (l : List Show). x ∷ l) (then_joined [] t s e h)
then_joined (x ∷ y ∷ ys) t s e h = ap (λ (l : List Show). x ∷ l) (then_joined (y ∷ ys) t s e h)

-- it is a piece of its own
pub then_apart : (front : List Show) (t s : Show) → eqb s.start s.end ≡ false → eqb t.end s.start && (is_none t.asked && is_none s.asked) ≡ false
    → then_block (front ++ t ∷ []) s ≡ (front ++ t ∷ []) ++ s ∷ []
then_apart [] t s e h =
    seen_unless (eqb s.start s.end) (t ∷ []) (if eqb t.end s.start && (is_none t.asked && is_none s.asked) then record t { end = s.end } ∷ [] else t ∷ s ∷ []) e
    ∙ seen_unless (eqb t.end s.start && (is_none t.asked && is_none s.asked)) (record t { end = s.end } ∷ []) (t ∷ s ∷ []) h
then_apart (x ∷ []) t s e h = ap (λ (l : List Show). x ∷ l) (then_apart [] t s e h)
then_apart (x ∷ y ∷ ys) t s e h = ap (λ (l : List Show). x ∷ l) (then_apart (y ∷ ys) t s e h)

-- ---- the piece of a member

same_answer : (a b : Bool) → (a ≡ true → b ≡ true) → (b ≡ true → a ≡ true) → a ≡ b
same_answer false false h k = refl
same_answer true true h k = refl
same_answer true false h k = sym (h refl)
same_answer false true h k = k refl

asked_is : (guarded : List ℕ) (m : Member) → (m.guarded ≡ true) ↔ Contains guarded m.block → m.guarded ≡ is_member eqb guarded m.block
asked_is guarded m h =
    let d = is_member-Decides Decides-eqb guarded m.block in
    same_answer m.guarded (is_member eqb guarded m.block) (λ on. d.1 (h.0 on)) (λ is. h.1 (d.0 is))

pub show_is : (f : Fixed) (guarded : List ℕ) (m : Member) (p : Span) (s : Show) → (m.guarded ≡ true) ↔ Contains guarded m.block → p ≡ (place_at f.layout m.block).outs
    → s.start ≡ p.start → s.end ≡ p.start + p.len → s.asked ≡ (if m.guarded then Some m.block else None) → s ≡ show_of f guarded m.block
show_is f guarded m p s h e first last asked =
    ap (λ (i : ℕ). record s { start = i }) (first ∙ ap (λ (q : Span). q.start) e)
    ∙ (ap (λ (i : ℕ). let t : Show = record { start = (place_at f.layout m.block).outs.start; end = i; asked = s.asked } in t) (last ∙ ap (λ (q : Span). q.start + q.len) e)
    ∙ ap (λ (o : Option ℕ). let t : Show = record { start = (place_at f.layout m.block).outs.start; end = (place_at f.layout m.block).outs.start + (place_at f.layout m.block).outs.len; asked = o } in t)
    (asked ∙ ap (λ (b : Bool). if b then Some m.block else None) (asked_is guarded m h)))
