-- Lines that wait before a sink, and the pieces of a line.
use Rattle.std.proofs.Common.{◌≡◌, ℕ, ◌+◌, ◌<◌, ◌≤◌, pos, get_or, ap₂, true, false, is_ok, ℤ, List, [], ◌∷◌, ◌++◌, take, drop, length, refl, sym, ap, subst, ◌∙◌, append_assoc, arith, Ok, Err, codes}
use Rattle.std.specs.Prelude.{Result, OnOk, OnErr}
use Rattle.std.specs.Fmt.{decimal, signed_decimal}
use Rattle.std.proofs.Math.ListN.{drop_of_length-le}
use Rattle.std.proofs.lemmas.List.{append-nil, length-append, take-append-drop, take-append-le, length-take-le, drop_more}
use Rattle.std.proofs.Math.Seq.{take-append_seam, take-append-add}
use Rattle.sci_base.specs.declared.observation.Obs.TheVariants.{Event}
use Rattle.sci_io.specs.Taken.{SinkState, Writes, UnderWay}
use Rattle.sci_io.proofs.Advance.{begins, next_front, cut_off, finished, stays, due_is, front_is}
use Rattle.sci_trace.specs.Lines.{line}
use Rattle.sci_lines.specs.Lines.{Named, start_text, value_of, value_lines}
use Rattle.sci_lines.specs.Paged.{paged, IsKeptBack}

-- ---- the line of a value

pub line_is : (n : Named) (v : ℤ) → line (value_of n v) ≡ start_text n ++ (signed_decimal v ++ codes "\n")
unfolding line
line_is n v =
    let tail = signed_decimal v ++ codes "\n" in
    let third = append_assoc (decimal n.element) (codes " ") tail in
    let second = append_assoc (decimal n.port) (codes " " ++ (decimal n.element ++ codes " ")) tail
    ∙ ap (λ (l : List ℕ). decimal n.port ++ (codes " " ++ l)) third in
    let first = append_assoc (decimal n.block) (codes " " ++ (decimal n.port ++ (codes " " ++ (decimal n.element ++ codes " ")))) tail
    ∙ ap (λ (l : List ℕ). decimal n.block ++ (codes " " ++ l)) second in
    sym (ap (λ (l : List ℕ). codes "val" ++ (codes " " ++ l)) first)

-- ---- the line of an event

spaced_then : (x y z : List ℕ) → (x ++ (codes " " ++ y)) ++ z ≡ x ++ (codes " " ++ (y ++ z))
spaced_then x y z = append_assoc x (codes " " ++ y) z

pub event_is : (date block port : ℤ) (a b c d e : List ℕ) → a ≡ codes "event" → b ≡ a ++ (codes " " ++ signed_decimal date)
    → c ≡ b ++ (codes " " ++ signed_decimal block) → d ≡ c ++ (codes " " ++ signed_decimal port) → e ≡ d ++ codes "\n" → e ≡ line (Event date block port)
unfolding line
event_is date block port a b c d e word first second third end =
    let last = signed_decimal port ++ codes "\n" in
    let middle = signed_decimal block ++ (codes " " ++ last) in
    end
    ∙ (ap (λ (l : List ℕ). l ++ codes "\n") third
    ∙ (spaced_then c (signed_decimal port) (codes "\n")
    ∙ (ap (λ (l : List ℕ). l ++ (codes " " ++ last)) second
    ∙ (spaced_then b (signed_decimal block) (codes " " ++ last)
    ∙ (ap (λ (l : List ℕ). l ++ (codes " " ++ middle)) first
    ∙ (spaced_then a (signed_decimal date) (codes " " ++ middle)
    ∙ ap (λ (l : List ℕ). l ++ (codes " " ++ (signed_decimal date ++ (codes " " ++ middle)))) word))))))

-- ---- a piece behind what stands before it

-- from a place on stands this piece, and what is before it is as before
pub put_behind : (old new piece rest : List ℕ) (at : ℕ) → at ≤ length old → take at new ≡ take at old → drop at new ≡ piece ++ rest
    → take (at + length piece) new ≡ take at old ++ piece
put_behind old new piece rest at within before written =
    let whole : new ≡ take at old ++ (piece ++ rest) =
    sym (take-append-drop at new) ∙ (ap (λ (l : List ℕ). l ++ drop at new) before ∙ ap (λ (l : List ℕ). take at old ++ l) written) in
    let long : length (take at old) ≡ at = length-take-le at old within in
    ap (λ (l : List ℕ). take (at + length piece) l) whole
    ∙ (ap (λ (k : ℕ). take (k + length piece) (take at old ++ (piece ++ rest))) (sym long)
    ∙ (take-append-add (take at old) (piece ++ rest) (length piece)
    ∙ ap (λ (l : List ℕ). take at old ++ l) (take-append_seam piece rest)))

-- the front of a piece that was put there
pub front_put : (xs ys rest : List ℕ) (at count : ℕ) → at ≤ length xs → count ≤ length ys → take (at + count) (take at xs ++ (ys ++ rest)) ≡ take at xs ++ take count ys
front_put xs ys rest at count within enough =
    ap (λ (k : ℕ). take (k + count) (take at xs ++ (ys ++ rest))) (sym (length-take-le at xs within))
    ∙ (take-append-add (take at xs) (ys ++ rest) count ∙ ap (λ (l : List ℕ). take at xs ++ l) (take-append-le count ys rest enough))

-- ---- a sink before which lines wait

pub none_waits : (s : SinkState) → paged s [] ≡ s
none_waits s = ap (λ (h : List ℕ). let t : SinkState = record { taken = s.taken; held = h; faults = s.faults; failing = s.failing } in t) (append-nil s.held)

-- one more line waits
pub waits : {T E : Type 0} (s : SinkState) (bytes l : List ℕ) (x : T) → Writes {T = T} {E = E} (paged s bytes) (paged s (bytes ++ l)) l (Ok x)
waits s bytes l x = record {
  ok = due_is _ _ (sym (append_assoc s.held bytes l)) (stays s.taken (s.held ++ (bytes ++ l)));
  quiet = refl;
  works = λ h. h;
  cut = tt;
  dropped = tt;
  cause = tt;
  fails = tt;
  later = omega arith;
}

pub line_waits : {T E : Type 0} (s : SinkState) (bytes new l : List ℕ) (x : T) → new ≡ bytes ++ l → Writes {T = T} {E = E} (paged s bytes) (paged s new) l (Ok x)
line_waits {T} {E} s bytes new l x h = subst (λ (b : List ℕ). Writes {T = T} {E = E} (paged s bytes) (paged s b) l (Ok x)) (sym h) (waits s bytes l x)

-- what waits is given on
pub gives : {T E : Type 0} (s t : SinkState) (bytes : List ℕ) (r : Result T E) → Writes s t bytes r → Writes (paged s bytes) (paged t []) [] r
gives {T} {E} s t bytes (Ok x) h = subst (λ (u : SinkState). Writes {T = T} {E = E} (paged s bytes) u [] (Ok x)) (sym (none_waits t)) (record {
  ok = due_is _ _ (sym (append-nil (s.held ++ bytes))) h.ok;
  quiet = h.quiet;
  works = h.works;
  cut = tt;
  dropped = tt;
  cause = tt;
  fails = tt;
  later = h.later;
})
gives {T} {E} s t bytes (Err e) h = subst (λ (u : SinkState). Writes {T = T} {E = E} (paged s bytes) u [] (Err e)) (sym (none_waits t)) (record {
  ok = tt;
  quiet = tt;
  works = tt;
  cut = front_is _ _ (sym (append-nil (s.held ++ bytes))) h.cut;
  dropped = h.dropped;
  cause = h.cause;
  fails = h.fails;
  later = h.later;
})

pub gives_nothing : {T E : Type 0} (s : SinkState) (x : T) → Writes {T = T} {E = E} s s [] (Ok x)
gives_nothing s x = finished x (begins s [])

-- nothing, and then a piece
pub piece_behind : {T E : Type 0} {old mid new : SinkState} {U F : Type 0} (piece : List ℕ) (r : Result T E) (x : T) (q : Result U F) → r ≡ Ok x → Writes old mid [] r
    → Writes mid new piece q → Writes old new piece q
piece_behind {old = old} {mid = mid} piece r x (Ok y) is first second =
    let started = next_front [] piece r x is (begins old piece) first in
    finished y (next_front piece [] (Ok y) y refl (subst (λ (l : List ℕ). UnderWay old mid piece l) (sym (append-nil piece)) started) second)
piece_behind {old = old} {mid = mid} piece r x (Err e) is first second =
    let started = next_front [] piece r x is (begins old piece) first in
    cut_off piece [] (Err e) (Err e) e e refl refl (subst (λ (l : List ℕ). UnderWay old mid piece l) (sym (append-nil piece)) started) second

-- a piece is cut off before it
pub none_given : {T E U F : Type 0} {old new : SinkState} (piece : List ℕ) (r : Result T E) (q : Result U F) (e : E) (f : F) → r ≡ Err e → q ≡ Err f → Writes old new [] r
    → Writes old new piece q
none_given {old = old} piece r q e f is was h = cut_off [] piece r q e f is was (begins old piece) h

-- a text of which all is on the page, which is then given on
pub last_given : {T E : Type 0} {old mid new : SinkState} {text : List ℕ} (r : Result T E) → UnderWay old mid text [] → Writes mid new [] r → Writes old new text r
last_given (Ok x) w h = finished x (next_front [] [] (Ok x) x refl w h)
last_given (Err e) w h = cut_off [] [] (Err e) (Err e) e e refl refl w h

pub on_ok : {T E A : Type 0} (r : Result T E) → A → OnOk r A
on_ok (Ok x) h = h
on_ok (Err e) h = tt

empty_behind : (a b : List ℕ) → a ++ b ≡ [] → b ≡ []
empty_behind [] b h = h
empty_behind (x ∷ a) b h = absurd (omega (arith, ap (λ (l : List ℕ). length l) h))

none_left : (s : SinkState) (bytes : List ℕ) → bytes ≡ [] → paged s bytes ≡ s
none_left s bytes h = ap (λ (l : List ℕ). paged s l) h ∙ none_waits s

-- where a call failed no line waits
pub none_kept : {T E : Type 0} {old : SinkState} (s : SinkState) (bytes text : List ℕ) (r : Result T E) (e : E) → r ≡ Err e → Writes old (paged s bytes) text r
    → Writes old s text r
none_kept {old = old} s bytes text r e is h =
    let held : s.held ++ bytes ≡ [] = subst (λ q. OnErr q (s.held ++ bytes ≡ [])) is h.dropped in
    subst (λ (u : SinkState). Writes old u text r) (none_left s bytes (empty_behind s.held bytes held)) h

-- to a page without lines, and from one
pub none_left_behind : {T E : Type 0} {old : SinkState} (t : SinkState) (bytes text : List ℕ) (r : Result T E) → bytes ≡ [] → Writes old (paged t bytes) text r → Writes old t text r
none_left_behind {old = old} t bytes text r none h = subst (λ (u : SinkState). Writes old u text r) (none_left t bytes none) h

pub from_none : {T E : Type 0} (s t : SinkState) (text : List ℕ) (r : Result T E) → Writes (paged s []) t text r → Writes s t text r
from_none s t text r h = subst (λ (u : SinkState). Writes u t text r) (none_waits s) h

-- the next line of values
pub lines_next : (hs : List (List ℕ)) (vs : List ℤ) (k : ℕ) (h : List ℕ) → k < length hs → k < length vs → h ≡ get_or hs k h
    → value_lines (drop k hs) (drop k vs) ≡ (h ++ (signed_decimal (get_or vs k (pos 0)) ++ codes "\n")) ++ value_lines (drop (k + 1) hs) (drop (k + 1) vs)
lines_next hs vs k h l m is =
    ap₂ value_lines (drop_more hs k h l ∙ ap (λ (x : List ℕ). x ∷ drop (k + 1) hs) (sym is)) (drop_more vs k (pos 0) m)

-- behind the last of them there is none
pub lines_over : (hs : List (List ℕ)) (vs : List ℤ) (k : ℕ) → length hs ≤ k → value_lines (drop k hs) (drop k vs) ≡ []
lines_over hs vs k h = ap (λ (x : List (List ℕ)). value_lines x (drop k vs)) (drop_of_length-le hs h)

-- ---- lines that all wait

-- of a text all but this rest waits behind the bytes that waited before, and nothing was given on
pub record WaitSoFar (old new : SinkState) (bytes bytes' text rest : List ℕ) : Type 0 where
  pub sink : new ≡ old
  pub waits : bytes' ++ rest ≡ bytes ++ text

-- so there is room for one line more
room_left : (bytes bytes' text rest : List ℕ) → length bytes + length text ≤ 4050 → bytes' ++ rest ≡ bytes ++ text → length bytes' ≤ 4050
room_left bytes bytes' text rest room same =
    let front = length-append bytes' rest in
    let all = length-append bytes text in
    let long = ap (λ (l : List ℕ). length l) same in
    omega (arith, front, all, long, room)

pub wait_next : {T E : Type 0} {old mid new : SinkState} {bytes bytes' bytes'' text : List ℕ} (piece rest : List ℕ) (r : Result T E) → length bytes + length text ≤ 4050
    → WaitSoFar old mid bytes bytes' text (piece ++ rest) → (length bytes' ≤ 4050 → IsKeptBack mid new bytes' bytes'' piece r) → WaitSoFar old new bytes bytes'' text rest
wait_next {bytes = bytes} {bytes' = bytes'} {text = text} piece rest r room w kept =
    let next = kept (room_left bytes bytes' text (piece ++ rest) room w.waits) in
    record {
      sink = next.sink ∙ w.sink;
      waits = ap (λ (l : List ℕ). l ++ rest) next.waits ∙ (append_assoc bytes' piece rest ∙ w.waits);
    }

-- and it can't fail
pub wait_fails : {T E : Type 0} {old mid new : SinkState} {bytes bytes' bytes'' text : List ℕ} (piece rest : List ℕ) (r : Result T E) (e : E) → r ≡ Err e
    → length bytes + length text ≤ 4050 → WaitSoFar old mid bytes bytes' text (piece ++ rest) → (length bytes' ≤ 4050 → IsKeptBack mid new bytes' bytes'' piece r) → ⊥
wait_fails {bytes = bytes} {bytes' = bytes'} {text = text} piece rest r e is room w kept =
    let next = kept (room_left bytes bytes' text (piece ++ rest) room w.waits) in
    let no : false ≡ true = subst (λ q. is_ok q ≡ true) is next.fine in
    cc no

pub wait_all : {T E : Type 0} {old new : SinkState} {bytes bytes' text : List ℕ} (rest : List ℕ) (x : T) → rest ≡ [] → WaitSoFar old new bytes bytes' text rest
    → IsKeptBack {T = T} {E = E} old new bytes bytes' text (Ok x)
wait_all {bytes' = bytes'} rest x none w = record {
  fine = refl;
  sink = w.sink;
  waits = sym (append-nil bytes') ∙ (ap (λ (l : List ℕ). bytes' ++ l) (sym none) ∙ w.waits);
}

-- there was room for a line
pub had_room : (text bytes : List ℕ) (len : ℕ) → take len text ≡ bytes → (length text ≡ 4096) × (len ≤ 4096) → length bytes ≤ 4050 → 4050 < len → ⊥
had_room text bytes len is whole room full =
    let long = length-take-le len text (omega (arith, whole.0, whole.1)) in
    let same = ap (λ (l : List ℕ). length l) is in
    omega (arith, long, same, room, full)
