-- The lines of the pieces that are shown, and what is counted of them.
use Rattle.std.proofs.Common.{◌≡◌, ℕ, ◌+◌, ◌<◌, Bool, true, false, ◌||◌, ⊎_elim, ℤ, List, [], ◌∷◌, ◌++◌, length, get_or, drop, All, Ok, refl, sym, ap, subst, ◌∙◌, arith}
use Rattle.std.specs.Prelude.{if◌then◌else◌}
use Rattle.std.specs.Io.KnownBytes.{Appends}
use Rattle.std.proofs.Math.Bool.{or-true}
use Rattle.std.proofs.lemmas.Bool.{cases_Bool}
use Rattle.std.proofs.lemmas.List.{drop_more, length-append}
use Rattle.std.proofs.lemmas.List.Elements.{All-head, All-tail}
use Rattle.sci_base.specs.declared.observation.Obs.{Obs}
use Rattle.sci_base.specs.declared.observation.Obs.TheVariants.{Start, Event, Val, End, Stop}
use Rattle.sci_io.specs.Taken.{SinkState, TakesUnseen, Writes, Advances}
use Rattle.sci_io.proofs.Advance.{gave_all}
use Rattle.sci_trace.specs.Lines.{line, text}
use Rattle.sci_places.specs.Flat.{IsWhole}
use Rattle.sci_store.specs.declared.row.Show.{Show}
use Rattle.sci_store.specs.Heads.{named_blocks}
use Rattle.sci_lines.specs.Lines.{start_text, value_lines, IsHeader}
use Rattle.sci_store.specs.Tally.{lines_after, sum_after, sum_with}
use Rattle.sci_store.specs.Frame.{Fixed, IsFrame}
use Rattle.sci_store.specs.Store.{Standing}
use Rattle.sci_store.specs.Written.{tallied, tallied_values}
use Rattle.sci_store.specs.Rows.{between, is_shown, IsShowOf, shown_values}
use Rattle.sci_store.specs.Runs.{lines_of}
use Rattle.sci_store.proofs.LineStarts.{blocks_length}
use Rattle.sci_store.proofs.Writing.{seen_if, seen_unless, lines_twice, tallied_twice}
use Rattle.sci_store.proofs.Observing.{lines_named, tallied_named, between_map, between_length, seen_between}
use Rattle.sci_store.proofs.ShownPieces.{piece_seen, pieces_seen}

-- ---- one piece

pub show_lines : (f : Fixed) (s : Standing) (w : Show) → IsFrame f → lines_of f s w ≡ text (seen_between f.net s.values w.start w.end)
show_lines f s w frame =
    ap (λ (hs : List (List ℕ)). value_lines hs (between s.values w.start w.end))
    (ap (λ (hs : List (List ℕ)). between hs w.start w.end) frame.heads ∙ between_map start_text (named_blocks 1 f.net.specs) w.start w.end)
    ∙ lines_named (between (named_blocks 1 f.net.specs) w.start w.end) (between s.values w.start w.end)

pub show_tallied : (f : Fixed) (s t : Standing) (w : Show) → IsWhole f.net s.values → IsShowOf s w
    → tallied_values t (between s.values w.start w.end) ≡ tallied t (seen_between f.net s.values w.start w.end)
show_tallied f s t w whole is =
    let names = blocks_length 1 f.net.specs in
    tallied_named t (between (named_blocks 1 f.net.specs) w.start w.end) (between s.values w.start w.end)
    (between_length (named_blocks 1 f.net.specs) w.start w.end is.order (omega (arith, names, is.within, whole)) ∙ sym (between_length s.values w.start w.end is.order is.within))

-- ---- all pieces

pub piece_on : (f : Fixed) (s : Standing) (w : Show) → is_shown s.marks w ≡ true → seen_between f.net s.values w.start w.end ≡ piece_seen f s w
piece_on f s w on = sym (seen_if (is_shown s.marks w) (seen_between f.net s.values w.start w.end) [] on)

pub piece_off : (f : Fixed) (s : Standing) (w : Show) → is_shown s.marks w ≡ false → piece_seen f s w ≡ []
piece_off f s w off = seen_unless (is_shown s.marks w) (seen_between f.net s.values w.start w.end) [] off

pub pieces_next : (f : Fixed) (s : Standing) (ws : List Show) (k : ℕ) (d : Show) → k < length ws
    → pieces_seen f s (drop k ws) ≡ piece_seen f s (get_or ws k d) ++ pieces_seen f s (drop (k + 1) ws)
pieces_next f s ws k d l = ap (pieces_seen f s) (drop_more ws k d l)

-- ---- values that are counted

sum_both : (sum : ℕ) (us vs : List ℤ) → sum_with (sum_with sum us) vs ≡ sum_with sum (us ++ vs)
sum_both sum [] vs = refl
sum_both sum (u ∷ us) vs = sum_both (sum_after sum u) us vs

pub values_twice : (s : Standing) (us vs : List ℤ) → tallied_values (tallied_values s us) vs ≡ tallied_values s (us ++ vs)
values_twice s us vs =
    ap (λ (l : ℕ). record s { lines = l; sum = sum_with (sum_with s.sum us) vs })
    (lines_twice s.lines (length us) (length vs) ∙ ap (lines_after s.lines) (sym (length-append us vs)))
    ∙ ap (λ (n : ℕ). record s { lines = lines_after s.lines (length (us ++ vs)); sum = n }) (sum_both s.sum us vs)

-- one value more is counted
pub sum_next : (sum : ℕ) (vs : List ℤ) (k : ℕ) (d : ℤ) → k < length vs → sum_with sum (drop k vs) ≡ sum_with (sum_after sum (get_or vs k d)) (drop (k + 1) vs)
sum_next sum vs k d l = ap (sum_with sum) (drop_more vs k d l)

pub shown_next : (s : Standing) (ws : List Show) (k : ℕ) (d : Show) → k < length ws
    → shown_values s (drop k ws) ≡ (if is_shown s.marks (get_or ws k d) then between s.values (get_or ws k d).start (get_or ws k d).end else []) ++ shown_values s (drop (k + 1) ws)
shown_next s ws k d l = ap (shown_values s) (drop_more ws k d l)

-- the values that are shown count as what is observed of them
pub shown_tallied : (f : Fixed) (s : Standing) → IsWhole f.net s.values → (ws : List Show) (t : Standing) → All (IsShowOf s) ws
    → tallied_values t (shown_values s ws) ≡ tallied t (pieces_seen f s ws)
shown_tallied f s whole [] t h = refl
shown_tallied f s whole (w ∷ ws) t h =
    let rest = All-tail (IsShowOf s) w ws h in
    ⊎_elim
    (λ on.
    ap (λ (vs : List ℤ). tallied_values t (vs ++ shown_values s ws)) (seen_if (is_shown s.marks w) (between s.values w.start w.end) [] on)
    ∙ (sym (values_twice t (between s.values w.start w.end) (shown_values s ws))
    ∙ (shown_tallied f s whole ws (tallied_values t (between s.values w.start w.end)) rest
    ∙ (ap (λ (u : Standing). tallied u (pieces_seen f s ws)) (show_tallied f s t w whole (All-head (IsShowOf s) w ws h))
    ∙ (tallied_twice t (seen_between f.net s.values w.start w.end) (pieces_seen f s ws)
    ∙ ap (λ (os : List Obs). tallied t (os ++ pieces_seen f s ws)) (piece_on f s w on))))))
    (λ off.
    ap (λ (vs : List ℤ). tallied_values t (vs ++ shown_values s ws)) (seen_unless (is_shown s.marks w) (between s.values w.start w.end) [] off)
    ∙ (shown_tallied f s whole ws t rest ∙ ap (λ (os : List Obs). tallied t (os ++ pieces_seen f s ws)) (sym (piece_off f s w off))))
    (cases_Bool (is_shown s.marks w))

-- ---- a sink that takes the lines unseen

pub unseen : {T E : Type 0} (old new : SinkState) (due : List ℕ) (x : T) → TakesUnseen old new → Writes {T = T} {E = E} old new due (Ok x)
unseen old new due x h = record {
  ok = subst (Advances old.taken new.taken (old.held ++ due)) (sym (ap (λ (s : SinkState). s.held) h.same ∙ h.holds_nothing))
      (gave_all (old.held ++ due) (subst (λ o. Appends o new.taken (old.held ++ due)) (sym h.tells_nothing) tt));
  quiet = ap (λ (s : SinkState). s.faults) h.same;
  works = λ works. ap (λ (s : SinkState). s.failing) h.same ∙ works;
  cut = tt;
  dropped = tt;
  cause = tt;
  fails = tt;
  later = let same = ap (λ (s : SinkState). s.faults) h.same in omega (arith, same);
}

-- the header is counted, and then the rest
pub header_counted : (o : Obs) (s t : Standing) (os : List Obs) → IsHeader o → t ≡ record s { lines = lines_after s.lines 1 } → tallied t os ≡ tallied s (o ∷ os)
header_counted Start s t os h e = ap (λ (u : Standing). tallied u os) e ∙ tallied_twice s (Start ∷ []) os
header_counted (Event d b p) s t os h e = ap (λ (u : Standing). tallied u os) e ∙ tallied_twice s (Event d b p ∷ []) os
header_counted (Val b p e v) s t os h _ = absurd h
header_counted (End w) s t os h _ = absurd h
header_counted (Stop w b p) s t os h _ = absurd h
