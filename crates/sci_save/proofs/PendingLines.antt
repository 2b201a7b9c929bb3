-- The lines of pending events.
use Rattle.std.proofs.Common.{◌≡◌, ◌≢◌, ℕ, zero, suc, ◌+◌, ◌^◌, ◌<◌, ◌≤◌, ℤ, pos, negsuc, List, [], ◌∷◌, ◌++◌, length, get_or, set, Option, Some, None, Ok, Err, Bool, true, false, not, cond, refl, sym, ap, ap₂, ◌∙◌, subst, arith, append_assoc, length-append, inl, inr}
use Rattle.std.specs.Prelude.{nat_eq, codes, unsigned_abs, option_map}
use Rattle.std.specs.List.{AllByRecursion}
use Rattle.std.proofs.lemmas.Int.{ints}
use Rattle.std.proofs.lemmas.Bool.{and_parts, and_from, not-true, eqb-true, eq-eqb, cases_lt, true≢false}
use Rattle.std.proofs.lemmas.List.{length-set, get_or-set_same, get_or-set_other, get_or_past, get_or-replicate, length-replicate}
use Rattle.sci_net.specs.declared.Source.{Source}
use Rattle.sci_net.specs.declared.Source.TheVariants.{Start, Port}
use Rattle.sci_net.specs.Parts.{Parts}
use Rattle.sci_net.specs.Net.{IsNet}
use Rattle.sci_net.specs.Sources.{sources_of, source_of}
use Rattle.sci_run.specs.Anew.{Rises}
use Rattle.sci_trace.specs.Lines.{numbers}
use Rattle.sci_text.specs.Reading.{after}
use Rattle.sci_text.specs.Lines.{with_lf}
use Rattle.sci_text.proofs.Parts.{guarded, after_takes, after_again}
use Rattle.sci_text.proofs.Splits.{first_line}
use Rattle.sci_save.specs.declared.bounds.Bounds.{Bounds}
use Rattle.sci_save.specs.Bounds.{from_to, IsWithin, AreWithin}
use Rattle.sci_save.specs.Text.{port_numbers, event_text, events_text}
use Rattle.sci_save.specs.Valid.{IsNear, AreOnce, ArePending}
use Rattle.sci_save.specs.Reading.{Read, ◌>>=◌, told, line_at, place_of, is_port, is_free, free_place, event_of, event_bounds, event_at, or_over, events_at, unmarked, pending_at}
use Rattle.sci_save.proofs.Numbers.{AreSmall}
use Rattle.sci_save.proofs.Readers.{AreLines, lines_append, no_lines, IsOneLine, one_line, SameLine, bind_ok, not_both, same_count, IsReader, IsLineReader, line_alone}
use Rattle.sci_save.proofs.BlockLines.{line_text, line_is_read, told_ok}
use Rattle.sci_save.proofs.Sources.{IsOutput, output_of, all_small}

-- ---- one event

-- an event that may come next: from the last date on and near, of a source that is an output and isn't marked
pub record IsNext (n : Parts) (near last : ℕ) (marks : List Bool) (d : ℕ × ℕ) : Type 0 where
  pub rises : last ≤ d.0
  pub in_time : d.0 ≤ near
  pub not_start : 1 ≤ d.1
  pub source : d.1 < length (sources_of n)
  pub free : get_or marks d.1 true ≡ false

pub natural : (l h : ℕ) (z : ℤ) → IsWithin (from_to (pos l) (pos h)) z → (z ≡ pos (unsigned_abs z)) × (l ≤ unsigned_abs z) × (unsigned_abs z ≤ h)
natural l h (pos n) w = let a = w.above in let b = w.below in (refl, omega (arith, ints), omega (arith, ints))
natural l h (negsuc n) w = let a = w.above in absurd (omega (arith, ints))

-- three numbers
pub record AreThree (a b c : Bounds) (ns : List ℤ) : Type 0 where
  pub first : ℤ
  pub second : ℤ
  pub third : ℤ
  pub are : ns ≡ first ∷ second ∷ third ∷ []
  pub in_first : IsWithin a first
  pub in_second : IsWithin b second
  pub in_third : IsWithin c third

pub three : (a b c : Bounds) (ns : List ℤ) → AreWithin (a ∷ b ∷ c ∷ []) ns → AreThree a b c ns
three a b c [] w = absurd w
three a b c (x ∷ []) w = absurd w.1
three a b c (x ∷ y ∷ []) w = absurd w.1.1
three a b c (x ∷ y ∷ z ∷ []) w = record { first = x; second = y; third = z; are = refl; in_first = w.0; in_second = w.1.0; in_third = w.1.1.0 }
three a b c (x ∷ y ∷ z ∷ v ∷ vs) w = absurd w.1.1.1

map_some : (o : Option ℕ) (f : ℕ → ℕ × ℕ) (y : ℕ × ℕ) → option_map f o ≡ Some y → (k : ℕ) × (o ≡ Some k) × (f k ≡ y)
map_some (Some k) f y e = (k, refl, cc)
map_some None f y e = absurd cc

port_told : (b p : ℕ) (s : Source) → is_port b p s ≡ true → s ≡ Port (record { block = b; port = p })
port_told b p Start e = absurd cc
port_told b p (Port q) e =
    let h = and_parts (nat_eq q.block b) (nat_eq q.port p) e in
    ap₂ (λ i j. Port (record { block = i; port = j })) (eqb-true q.block b h.0) (eqb-true q.port p h.1)

port_same : (b p : ℕ) → is_port b p (Port (record { block = b; port = p })) ≡ true
port_same b p = and_from _ _ (eq-eqb b b refl) (eq-eqb p p refl)

marked_within : (marks : List Bool) (k : ℕ) → get_or marks k true ≡ false → k < length marks
marked_within marks k e = elim (cases_lt k (length marks)) [
  | inl l ↦ l
  | inr m ↦ absurd (true≢false (sym (get_or_past marks k true m) ∙ e))
]

bounds_small : (n : Parts) (near last : ℕ) → length n.specs ≤ 2048 → near < 2 ^ 63 → last < 2 ^ 63 → AreSmall (event_bounds n near last)
bounds_small n near last few a b = (record { low = b; high = a }, (record { low = omega arith; high = omega arith }, (record { low = omega arith; high = omega arith }, tt)))

module _ (n : Parts) (net : IsNet n) (near last : ℕ) (early : near < 2 ^ 63) (before : last < 2 ^ 63) (marks : List Bool) (long : length marks ≡ length (sources_of n)) where
  pend_line : IsLineReader (line_text (codes "pend")) (AreWithin (event_bounds n near last)) (line_at (codes "pend") (event_bounds n near last))
  pend_line = line_is_read (codes "pend") (event_bounds n near last) refl (bounds_small n near last net.wired.few early before)

  event_made : (ns : List ℤ) (d : ℕ × ℕ) → AreWithin (event_bounds n near last) ns → event_of n marks ns ≡ Some d → (line_text (codes "pend") ns ≡ event_text n d) × IsNext n near last marks d
  event_made ns d w e =
      let t = three (from_to (pos last) (pos near)) (from_to (pos 1) (pos (length n.specs))) (from_to (pos 1) (pos 4294967295)) ns w in
      let date = natural last near t.first t.in_first in
      let block = natural 1 (length n.specs) t.second t.in_second in
      let port = natural 1 4294967295 t.third t.in_third in
      let b = unsigned_abs t.second in
      let p = unsigned_abs t.third in
      let m : option_map (λ k. (unsigned_abs t.first, k)) (free_place n marks b p) ≡ Some d = subst (λ (l : List ℤ). event_of n marks l ≡ Some d) t.are e in
      let s = map_some (free_place n marks b p) (λ k. (unsigned_abs t.first, k)) d m in
      let g = guarded (is_free n marks b p) (Some (place_of n b p)) s.0 s.1 in
      let k-is : place_of n b p ≡ s.0 = let h = g.1 in cc in
      let h = and_parts (not (get_or marks (place_of n b p) true)) (is_port b p (source_of n (place_of n b p))) g.0 in
      let made : (unsigned_abs t.first, place_of n b p) ≡ d = ap (λ (k : ℕ). (unsigned_abs t.first, k)) k-is ∙ s.2 in
      let source = port_told b p (source_of n (place_of n b p)) h.1 in
      let free : get_or marks (place_of n b p) true ≡ false = not-true (get_or marks (place_of n b p) true) h.0 in
      let within = marked_within marks (place_of n b p) free in
      let text : line_text (codes "pend") ns ≡ event_text n (unsigned_abs t.first, place_of n b p) =
      ap (line_text (codes "pend")) t.are
      ∙ ap (λ (l : List ℤ). codes "pend" ++ numbers l) (ap (λ (z : ℤ). z ∷ t.second ∷ t.third ∷ []) date.0 ∙ ap₂ (λ (y : ℤ) (z : ℤ). pos (unsigned_abs t.first) ∷ y ∷ z ∷ []) block.0 port.0)
      ∙ ap (λ (o : Source). codes "pend" ++ numbers (pos (unsigned_abs t.first) ∷ port_numbers o)) (sym source) in
      subst (λ (q : ℕ × ℕ). (line_text (codes "pend") ns ≡ event_text n q) × IsNext n near last marks q) made
      (text, record { rises = date.1; in_time = date.2; not_start = let l = port.1 in omega arith; source = omega (arith, within, long); free = free })

  event_takes : (bytes : List ℕ) (x : (ℕ × ℕ) × List ℕ) → event_at n near last marks bytes ≡ Ok x → (bytes ≡ event_text n x.0 ++ x.1) × IsNext n near last marks x.0
  unfolding event_at
  event_takes bytes x e =
      let a = bind_ok (line_at (codes "pend") (event_bounds n near last) bytes) (λ (y : List ℤ × List ℕ). told (length bytes) (event_of n marks y.0) >>= λ v. Ok (v, y.1)) x e in
      let b = bind_ok (told (length bytes) (event_of n marks a.0.0)) (λ (v : ℕ × ℕ). Ok (v, a.0.1)) x a.2 in
      let t = pend_line.takes bytes a.0 a.1 in
      let m = event_made a.0.0 b.0 t.1 (told_ok (length bytes) (event_of n marks a.0.0) b.0 b.1) in
      let made : (ℕ × ℕ) × List ℕ = (b.0, a.0.1) in
      let p : made ≡ x = let h = b.2 in cc in
      subst (λ (z : (ℕ × ℕ) × List ℕ). (bytes ≡ event_text n z.0 ++ z.1) × IsNext n near last marks z.0) p (t.0 ∙ ap (λ (l : List ℕ). l ++ a.0.1) m.0, m.1)

  numbers_within : (d : ℕ × ℕ) (f : IsNext n near last marks d) (o : IsOutput n d.1) → AreWithin (event_bounds n near last) (pos d.0 ∷ pos o.block ∷ pos o.port ∷ [])
  numbers_within d f o =
      let small = all_small n net in
      let a = f.rises in let b = f.in_time in let c = o.block_least in let e = o.block_most in let g = o.port_least in let h = o.port_most in let k = f.source in
      (record { above = omega (arith, ints); below = omega (arith, ints) }, (record { above = omega (arith, ints); below = omega (arith, ints) }, (record { above = omega (arith, ints); below = omega (arith, ints, small) }, tt)))

  event_is : (d : ℕ × ℕ) (o : IsOutput n d.1) → event_text n d ≡ line_text (codes "pend") (pos d.0 ∷ pos o.block ∷ pos o.port ∷ [])
  event_is d o = ap (λ (s : Source). codes "pend" ++ numbers (pos d.0 ∷ port_numbers s)) o.source

  event_found : (d : ℕ × ℕ) (f : IsNext n near last marks d) (o : IsOutput n d.1) → event_of n marks (pos d.0 ∷ pos o.block ∷ pos o.port ∷ []) ≡ Some d
  event_found d f o =
      let unmarked_is : not (get_or marks (place_of n o.block o.port) true) ≡ true = ap (λ (k : ℕ). not (get_or marks k true)) o.place ∙ ap not f.free in
      let port_is : is_port o.block o.port (source_of n (place_of n o.block o.port)) ≡ true =
      ap (λ (k : ℕ). is_port o.block o.port (source_of n k)) o.place ∙ ap (is_port o.block o.port) o.source ∙ port_same o.block o.port in
      let free : is_free n marks o.block o.port ≡ true = and_from _ _ unmarked_is port_is in
      ap (λ (t : Bool). option_map (λ k. (d.0, k)) (cond t (Some (place_of n o.block o.port)) None)) free ∙ ap (λ (k : ℕ). Some (d.0, k)) o.place

  event_again : (d : ℕ × ℕ) (rest : List ℕ) → IsNext n near last marks d → event_at n near last marks (event_text n d ++ rest) ≡ Ok (d, rest)
  unfolding event_at
  event_again d rest f =
      let o = output_of n d.1 f.not_start f.source in
      let ns : List ℤ = pos d.0 ∷ pos o.block ∷ pos o.port ∷ [] in
      let read : line_at (codes "pend") (event_bounds n near last) (event_text n d ++ rest) ≡ Ok (ns, rest) =
      ap (λ (l : List ℕ). line_at (codes "pend") (event_bounds n near last) (l ++ rest)) (event_is d o) ∙ pend_line.again ns rest (numbers_within d f o) in
      ap (λ (r : Read (List ℤ)). r >>= λ x. told (length (event_text n d ++ rest)) (event_of n marks x.0) >>= λ v. Ok (v, x.1)) read
      ∙ ap (λ (v : Option (ℕ × ℕ)). told (length (event_text n d ++ rest)) v >>= λ w. Ok (w, rest)) (event_found d f o)

  event_line : (d : ℕ × ℕ) → IsNext n near last marks d → IsOneLine (event_text n d)
  event_line d f =
      let o = output_of n d.1 f.not_start f.source in
      subst IsOneLine (sym (event_is d o)) (pend_line.line (pos d.0 ∷ pos o.block ∷ pos o.port ∷ []) (numbers_within d f o))

  event_fails : (bytes : List ℕ) (count : ℕ) → event_at n near last marks bytes ≡ Err count → count ≡ length bytes
  unfolding event_at
  event_fails bytes count e = by_line (line_at (codes "pend") (event_bounds n near last) bytes) refl
    where
      by_line : (r : Read (List ℤ)) → line_at (codes "pend") (event_bounds n near last) bytes ≡ r → count ≡ length bytes
      by_line (Err c) is =
          let given = ap (λ (o : Read (List ℤ)). o >>= λ x. told (length bytes) (event_of n marks x.0) >>= λ v. Ok (v, x.1)) is in
          same_count (event_at n near last marks bytes) count c e given ∙ pend_line.fails bytes c is
      by_line (Ok x) is = by_event (event_of n marks x.0) refl
        where
          by_event : (v : Option (ℕ × ℕ)) → event_of n marks x.0 ≡ v → count ≡ length bytes
          by_event None f =
              let given = ap (λ (o : Read (List ℤ)). o >>= λ y. told (length bytes) (event_of n marks y.0) >>= λ v. Ok (v, y.1)) is ∙ ap (λ (v : Option (ℕ × ℕ)). told (length bytes) v >>= λ w. Ok (w, x.1)) f in
              same_count (event_at n near last marks bytes) count (length bytes) e given
          by_event (Some d) f =
              let given = ap (λ (o : Read (List ℤ)). o >>= λ y. told (length bytes) (event_of n marks y.0) >>= λ v. Ok (v, y.1)) is ∙ ap (λ (v : Option (ℕ × ℕ)). told (length bytes) v >>= λ w. Ok (w, x.1)) f in
              absurd (not_both (event_at n near last marks bytes) (d, x.1) count given e)

  pub event_read : IsLineReader (event_text n) (IsNext n near last marks) (event_at n near last marks)
  event_read = record { takes = event_takes; again = event_again; line = event_line; fails = event_fails }

-- ---- all events, and the end

abbrev pub AreNext : Parts → (near last : ℕ) → List Bool → List (ℕ × ℕ) → Type 0
AreNext n near last marks [] = Unit {0}
AreNext n near last marks (d ∷ ds) = IsNext n near last marks d × AreNext n near d.0 (set marks d.1 true) ds

abbrev pub ended_text : Parts → List (ℕ × ℕ) → List ℕ
ended_text n ds = events_text n ds ++ codes "done\n"

ended_cons : (n : Parts) (d : ℕ × ℕ) (ds : List (ℕ × ℕ)) → ended_text n (d ∷ ds) ≡ event_text n d ++ ended_text n ds
ended_cons n d ds = append_assoc (event_text n d) (events_text n ds) (codes "done\n")

done_line : IsOneLine (codes "done\n")
done_line = record { line = codes "done"; clear = refl; text_is = refl }

-- where the end isn't read, no text that begins with that line ends there
done_alone : (left other : List ℕ) → after (codes "done\n") left ≡ None → SameLine left other → after (codes "done\n") other ≡ None
done_alone left other e s = by_result (after (codes "done\n") other) refl
  where
    none_some : (o : Option (List ℕ)) (x : List ℕ) → o ≡ None → o ≡ Some x → ⊥
    none_some o x a b = cc

    by_result : (o : Option (List ℕ)) → after (codes "done\n") other ≡ o → after (codes "done\n") other ≡ None
    by_result None f = f
    by_result (Some rest) f =
        let whole : with_lf (codes "done") ++ rest ≡ with_lf s.line ++ s.more = sym (after_takes (codes "done\n") other rest f) ∙ s.other_is in
        let same = first_line (codes "done") s.line rest s.more refl s.clear whole in
        let left_is : left ≡ codes "done\n" ++ s.rest = s.left_is ∙ ap (λ (l : List ℕ). with_lf l ++ s.rest) (sym same.0) in
        absurd (none_some (after (codes "done\n") left) s.rest e (ap (after (codes "done\n")) left_is ∙ after_again (codes "done\n") s.rest))

-- a line has bytes
event_long : (text rest : List ℕ) (most : ℕ) → IsOneLine text → length (text ++ rest) ≤ suc most → length rest ≤ most
event_long text rest most l h =
    let a = length-append text rest in
    let b = ap length l.text_is in
    let c = length-append l.line (codes "\n") in
    omega (arith, h, a, b, c)

no_length : (bytes : List ℕ) → length bytes ≤ 0 → bytes ≡ []
no_length [] h = refl
no_length (c ∷ cs) h = absurd (omega arith)

no_line_left : (other : List ℕ) → SameLine [] other → ⊥
no_line_left other s = empty s.line s.rest s.left_is
  where
    empty : (line rest : List ℕ) → [] ≡ with_lf line ++ rest → ⊥
    empty [] rest e = cc
    empty (c ∷ cs) rest e = cc

-- where reading fails, as long as it may go on through the text
record Fail (n : Parts) (near last : ℕ) (marks : List Bool) (bytes : List ℕ) (count : ℕ) : Type 0 where
  before : List ℕ
  left : List ℕ
  split : bytes ≡ before ++ left
  lines : AreLines before
  count_is : count ≡ length left
  value : List (ℕ × ℕ)
  fitting : AreNext n near last marks value
  more : List ℕ
  front : ended_text n value ≡ before ++ more
  alone : (other : List ℕ) → SameLine left other → (most : ℕ) → length (before ++ other) ≤ most → events_at n near most last marks (before ++ other) ≡ Err (length other)

-- behind an event
abbrev tail : Parts → (near most : ℕ) → List Bool → (ℕ × ℕ) × List ℕ → Read (List (ℕ × ℕ))
tail n near most marks y = events_at n near most y.0.0 (set marks y.0.1 true) y.1 >>= λ ys. Ok (y.0 ∷ ys.0, ys.1)

events_turn : (n : Parts) (near most last : ℕ) (marks : List Bool) (bytes : List ℕ)
    → events_at n near (suc most) last marks bytes ≡ or_over (after (codes "done\n") bytes) (event_at n near last marks bytes >>= tail n near most marks)
unfolding events_at
events_turn n near most last marks bytes = refl

events_none : (n : Parts) (near last : ℕ) (marks : List Bool) (bytes : List ℕ) → events_at n near zero last marks bytes ≡ Err (length bytes)
unfolding events_at
events_none n near last marks bytes = refl

module _ (n : Parts) (net : IsNet n) (near : ℕ) (early : near < 2 ^ 63) where
  event_reads : (last : ℕ) (marks : List Bool) → last ≤ near → length marks ≡ length (sources_of n) → IsLineReader (event_text n) (IsNext n near last marks) (event_at n near last marks)
  event_reads last marks before long = event_read n net near last early (omega arith) marks long

  -- ---- what is read is spelled so

  take_turn : (most last : ℕ) (marks : List Bool) (bytes : List ℕ) (x : List (ℕ × ℕ) × List ℕ) → last ≤ near → length marks ≡ length (sources_of n)
      → ((y : (ℕ × ℕ) × List ℕ) (ys : List (ℕ × ℕ) × List ℕ) → y.0.0 ≤ near → events_at n near most y.0.0 (set marks y.0.1 true) y.1 ≡ Ok ys
      → (y.1 ≡ ended_text n ys.0 ++ ys.1) × AreNext n near y.0.0 (set marks y.0.1 true) ys.0)
      → (o : Option (List ℕ)) → after (codes "done\n") bytes ≡ o → or_over o (event_at n near last marks bytes >>= tail n near most marks) ≡ Ok x
      → (bytes ≡ ended_text n x.0 ++ x.1) × AreNext n near last marks x.0
  take_turn most last marks bytes x before long more (Some rest) is e =
      let made : List (ℕ × ℕ) × List ℕ = ([], rest) in
      let p : made ≡ x = cc in
      subst (λ (z : List (ℕ × ℕ) × List ℕ). (bytes ≡ ended_text n z.0 ++ z.1) × AreNext n near last marks z.0) p (after_takes (codes "done\n") bytes rest is, tt)
  take_turn most last marks bytes x before long more None is e =
      let a = bind_ok (event_at n near last marks bytes) (tail n near most marks) x e in
      let b = bind_ok (events_at n near most a.0.0.0 (set marks a.0.0.1 true) a.0.1) (λ (ys : List (ℕ × ℕ) × List ℕ). Ok (a.0.0 ∷ ys.0, ys.1)) x a.2 in
      let t = (event_reads last marks before long).takes bytes a.0 a.1 in
      let u = more a.0 b.0 t.1.in_time b.1 in
      let made : List (ℕ × ℕ) × List ℕ = (a.0.0 ∷ b.0.0, b.0.1) in
      let p : made ≡ x = let h = b.2 in cc in
      let split : bytes ≡ ended_text n (a.0.0 ∷ b.0.0) ++ b.0.1 =
      t.0 ∙ ap (λ (l : List ℕ). event_text n a.0.0 ++ l) u.0 ∙ sym (append_assoc (event_text n a.0.0) (ended_text n b.0.0) b.0.1) ∙ ap (λ (l : List ℕ). l ++ b.0.1) (sym (ended_cons n a.0.0 b.0.0)) in
      subst (λ (z : List (ℕ × ℕ) × List ℕ). (bytes ≡ ended_text n z.0 ++ z.1) × AreNext n near last marks z.0) p (split, (t.1, u.1))

  events_take : (most last : ℕ) (marks : List Bool) (bytes : List ℕ) (x : List (ℕ × ℕ) × List ℕ) → last ≤ near → length marks ≡ length (sources_of n)
      → events_at n near most last marks bytes ≡ Ok x → (bytes ≡ ended_text n x.0 ++ x.1) × AreNext n near last marks x.0
  events_take zero last marks bytes x before long e = absurd (not_both (events_at n near zero last marks bytes) x (length bytes) e (events_none n near last marks bytes))
  events_take (suc most) last marks bytes x before long e =
      take_turn most last marks bytes x before long (λ y ys b f. events_take most y.0.0 (set marks y.0.1 true) y.1 ys b (length-set marks y.0.1 true ∙ long) f)
      (after (codes "done\n") bytes) refl (sym (events_turn n near most last marks bytes) ∙ e)

  -- ---- what is spelled so is read

  -- behind the line of an event
  events_behind : (most last : ℕ) (marks : List Bool) (d : ℕ × ℕ) (bytes : List ℕ) (o : Read (List (ℕ × ℕ))) → last ≤ near → length marks ≡ length (sources_of n) → IsNext n near last marks d
      → events_at n near most d.0 (set marks d.1 true) bytes ≡ o → events_at n near (suc most) last marks (event_text n d ++ bytes) ≡ (o >>= λ ys. Ok (d ∷ ys.0, ys.1))
  events_behind most last marks d bytes o before long f e =
      events_turn n near most last marks (event_text n d ++ bytes)
      ∙ ap (λ (p : Read (ℕ × ℕ)). p >>= tail n near most marks) ((event_reads last marks before long).again d bytes f)
      ∙ ap (λ (p : Read (List (ℕ × ℕ))). p >>= λ ys. Ok (d ∷ ys.0, ys.1)) e

  events_again : (ds : List (ℕ × ℕ)) (most last : ℕ) (marks : List Bool) (rest : List ℕ) → last ≤ near → length marks ≡ length (sources_of n) → length (ended_text n ds ++ rest) ≤ most
      → AreNext n near last marks ds → events_at n near most last marks (ended_text n ds ++ rest) ≡ Ok (ds, rest)
  events_again [] zero last marks rest before long h f = absurd (omega arith)
  events_again [] (suc most) last marks rest before long h f =
      events_turn n near most last marks (codes "done\n" ++ rest) ∙ ap (λ (o : Option (List ℕ)). or_over o (event_at n near last marks (codes "done\n" ++ rest) >>= tail n near most marks)) (after_again (codes "done\n") rest)
  events_again (d ∷ ds) zero last marks rest before long h f = absurd (omega arith)
  events_again (d ∷ ds) (suc most) last marks rest before long h f =
      let regrouped : ended_text n (d ∷ ds) ++ rest ≡ event_text n d ++ (ended_text n ds ++ rest) =
      ap (λ (l : List ℕ). l ++ rest) (ended_cons n d ds) ∙ append_assoc (event_text n d) (ended_text n ds) rest in
      let line = (event_reads last marks before long).line d f.0 in
      let less = event_long (event_text n d) (ended_text n ds ++ rest) most line (subst (λ (l : List ℕ). length l ≤ suc most) regrouped h) in
      ap (events_at n near (suc most) last marks) regrouped
      ∙ events_behind most last marks d (ended_text n ds ++ rest) (Ok (ds, rest)) before long f.0 (events_again ds most d.0 (set marks d.1 true) rest f.0.in_time (length-set marks d.1 true ∙ long) less f.1)

  events_lines : (ds : List (ℕ × ℕ)) (last : ℕ) (marks : List Bool) → last ≤ near → length marks ≡ length (sources_of n) → AreNext n near last marks ds → AreLines (ended_text n ds)
  events_lines [] last marks before long f = one_line (codes "done\n") done_line
  events_lines (d ∷ ds) last marks before long f =
      subst AreLines (sym (ended_cons n d ds))
      (lines_append (event_text n d) (ended_text n ds) (one_line (event_text n d) ((event_reads last marks before long).line d f.0))
      (events_lines ds d.0 (set marks d.1 true) f.0.in_time (length-set marks d.1 true ∙ long) f.1))

  -- ---- where reading fails

  -- neither the end nor an event
  no_event : (last : ℕ) (marks : List Bool) (left other : List ℕ) (count : ℕ) → last ≤ near → length marks ≡ length (sources_of n) → after (codes "done\n") left ≡ None
      → event_at n near last marks left ≡ Err count → SameLine left other → (most : ℕ) → length other ≤ most → events_at n near most last marks other ≡ Err (length other)
  no_event last marks left other count before long is e s zero h = events_none n near last marks other
  no_event last marks left other count before long is e s (suc most) h =
      events_turn n near most last marks other
      ∙ ap (λ (o : Option (List ℕ)). or_over o (event_at n near last marks other >>= tail n near most marks)) (done_alone left other is s)
      ∙ ap (λ (p : Read (ℕ × ℕ)). p >>= tail n near most marks) (line_alone (event_reads last marks before long) left other count e s)

  -- behind the lines of an event, and those before the line that fails
  fails_later : (last : ℕ) (marks : List Bool) (y : (ℕ × ℕ) × List ℕ) (c : ℕ) → last ≤ near → length marks ≡ length (sources_of n) → IsNext n near last marks y.0
      → (w : Fail n near y.0.0 (set marks y.0.1 true) y.1 c) → (other : List ℕ) → SameLine w.left other → (m : ℕ) → length ((event_text n y.0 ++ w.before) ++ other) ≤ m
      → events_at n near m last marks ((event_text n y.0 ++ w.before) ++ other) ≡ Err (length other)
  fails_later last marks y c before long f w other s zero l = absurd (omega arith)
  fails_later last marks y c before long f w other s (suc m) l =
      let regrouped = append_assoc (event_text n y.0) w.before other in
      let line = (event_reads last marks before long).line y.0 f in
      let fewer = event_long (event_text n y.0) (w.before ++ other) m line (subst (λ (q : List ℕ). length q ≤ suc m) regrouped l) in
      ap (events_at n near (suc m) last marks) regrouped
      ∙ events_behind m last marks y.0 (w.before ++ other) (Err (length other)) before long f (w.alone other s m fewer)

  fail_behind : (most last : ℕ) (marks : List Bool) (bytes : List ℕ) (count : ℕ) → last ≤ near → length marks ≡ length (sources_of n) → length bytes ≤ suc most
      → ((y : (ℕ × ℕ) × List ℕ) (c : ℕ) → y.0.0 ≤ near → length y.1 ≤ most → events_at n near most y.0.0 (set marks y.0.1 true) y.1 ≡ Err c → Fail n near y.0.0 (set marks y.0.1 true) y.1 c)
      → (y : (ℕ × ℕ) × List ℕ) → event_at n near last marks bytes ≡ Ok y → (o : Read (List (ℕ × ℕ))) → events_at n near most y.0.0 (set marks y.0.1 true) y.1 ≡ o
      → (event_at n near last marks bytes >>= tail n near most marks) ≡ Err count → Fail n near last marks bytes count
  fail_behind most last marks bytes count before long h more y f (Ok ys) g e =
      absurd (not_both (event_at n near last marks bytes >>= tail n near most marks) (y.0 ∷ ys.0, ys.1) count
      (ap (λ (o : Read (ℕ × ℕ)). o >>= tail n near most marks) f ∙ ap (λ (o : Read (List (ℕ × ℕ))). o >>= λ zs. Ok (y.0 ∷ zs.0, zs.1)) g) e)
  fail_behind most last marks bytes count before long h more y f (Err c) g e =
      let r = event_reads last marks before long in
      let t = r.takes bytes y f in
      let c-is = same_count (event_at n near last marks bytes >>= tail n near most marks) count c e
      (ap (λ (o : Read (ℕ × ℕ)). o >>= tail n near most marks) f ∙ ap (λ (o : Read (List (ℕ × ℕ))). o >>= λ zs. Ok (y.0 ∷ zs.0, zs.1)) g) in
      let less = event_long (event_text n y.0) y.1 most (r.line y.0 t.1) (subst (λ (l : List ℕ). length l ≤ suc most) t.0 h) in
      let w = more y c t.1.in_time less g in
      record {
        before = event_text n y.0 ++ w.before;
        left = w.left;
        split = t.0 ∙ ap (λ (l : List ℕ). event_text n y.0 ++ l) w.split ∙ sym (append_assoc (event_text n y.0) w.before w.left);
        lines = lines_append (event_text n y.0) w.before (one_line (event_text n y.0) (r.line y.0 t.1)) w.lines;
        count_is = c-is ∙ w.count_is;
        value = y.0 ∷ w.value;
        fitting = (t.1, w.fitting);
        more = w.more;
        front = ended_cons n y.0 w.value ∙ ap (λ (l : List ℕ). event_text n y.0 ++ l) w.front ∙ sym (append_assoc (event_text n y.0) w.before w.more);
        alone = λ other s m l. fails_later last marks y c before long t.1 w other s m l;
      }

  fail_event : (most last : ℕ) (marks : List Bool) (bytes : List ℕ) (count : ℕ) → last ≤ near → length marks ≡ length (sources_of n) → length bytes ≤ suc most
      → ((y : (ℕ × ℕ) × List ℕ) (c : ℕ) → y.0.0 ≤ near → length y.1 ≤ most → events_at n near most y.0.0 (set marks y.0.1 true) y.1 ≡ Err c → Fail n near y.0.0 (set marks y.0.1 true) y.1 c)
      → after (codes "done\n") bytes ≡ None → (o : Read (ℕ × ℕ)) → event_at n near last marks bytes ≡ o → (event_at n near last marks bytes >>= tail n near most marks) ≡ Err count
      → Fail n near last marks bytes count
  fail_event most last marks bytes count before long h more is (Ok y) f e = fail_behind most last marks bytes count before long h more y f (events_at n near most y.0.0 (set marks y.0.1 true) y.1) refl e
  fail_event most last marks bytes count before long h more is (Err c) f e =
      let c-is = same_count (event_at n near last marks bytes >>= tail n near most marks) count c e (ap (λ (o : Read (ℕ × ℕ)). o >>= tail n near most marks) f) in
      record {
        before = [];
        left = bytes;
        split = refl;
        lines = no_lines;
        count_is = c-is ∙ (event_reads last marks before long).fails bytes c f;
        value = [];
        fitting = tt;
        more = codes "done\n";
        front = refl;
        alone = λ other s m l. no_event last marks bytes other c before long is f s m l;
      }

  fail_turn : (most last : ℕ) (marks : List Bool) (bytes : List ℕ) (count : ℕ) → last ≤ near → length marks ≡ length (sources_of n) → length bytes ≤ suc most
      → ((y : (ℕ × ℕ) × List ℕ) (c : ℕ) → y.0.0 ≤ near → length y.1 ≤ most → events_at n near most y.0.0 (set marks y.0.1 true) y.1 ≡ Err c → Fail n near y.0.0 (set marks y.0.1 true) y.1 c)
      → (o : Option (List ℕ)) → after (codes "done\n") bytes ≡ o → or_over o (event_at n near last marks bytes >>= tail n near most marks) ≡ Err count → Fail n near last marks bytes count
  fail_turn most last marks bytes count before long h more (Some rest) is e = absurd (no_err rest e)
    where
      no_err : (rest : List ℕ) → or_over (Some rest) (event_at n near last marks bytes >>= tail n near most marks) ≡ Err count → ⊥
      no_err rest f = cc
  fail_turn most last marks bytes count before long h more None is e = fail_event most last marks bytes count before long h more is (event_at n near last marks bytes) refl e

  events_fail : (most last : ℕ) (marks : List Bool) (bytes : List ℕ) (count : ℕ) → last ≤ near → length marks ≡ length (sources_of n) → length bytes ≤ most
      → events_at n near most last marks bytes ≡ Err count → Fail n near last marks bytes count
  events_fail zero last marks bytes count before long h e =
      let none : bytes ≡ [] = no_length bytes h in
      let c-is = same_count (events_at n near zero last marks bytes) count (length bytes) e (events_none n near last marks bytes) in
      record {
        before = [];
        left = [];
        split = none;
        lines = no_lines;
        count_is = c-is ∙ ap length none;
        value = [];
        fitting = tt;
        more = codes "done\n";
        front = refl;
        alone = λ other s most l. absurd (no_line_left other s);
      }
  events_fail (suc most) last marks bytes count before long h e =
      fail_turn most last marks bytes count before long h (λ y c b l f. events_fail most y.0.0 (set marks y.0.1 true) y.1 c b (length-set marks y.0.1 true ∙ long) l f)
      (after (codes "done\n") bytes) refl (sym (events_turn n near most last marks bytes) ∙ e)

-- ---- the events that may come next are those that may be pending

set_free : (marks : List Bool) (k i : ℕ) → get_or (set marks k true) i true ≡ false → (i ≢ k) × (get_or marks i true ≡ false)
set_free marks k i e = (differ, sym (get_or-set_other marks k i true true differ) ∙ e)
  where
    differ : i ≡ k → ⊥
    differ same = elim (cases_lt k (length marks)) [
      | inl l ↦ absurd (true≢false (sym (get_or-set_same marks k true true l) ∙ ap (λ (j : ℕ). get_or (set marks k true) j true) (sym same) ∙ e))
      | inr m ↦ absurd (true≢false (sym (get_or_past (set marks k true) i true (omega (arith, m, same, length-set marks k true))) ∙ e))
    ]

-- what the marks leave
abbrev AreFree : List Bool → List (ℕ × ℕ) → Type 0
AreFree marks [] = Unit {0}
AreFree marks (d ∷ ds) = (get_or marks d.1 true ≡ false) × AreFree marks ds

free_others : (marks : List Bool) (k : ℕ) (ds : List (ℕ × ℕ)) → AreFree (set marks k true) ds → AllByRecursion (λ (e : ℕ × ℕ). e.1 ≢ k) ds × AreFree marks ds
free_others marks k [] f = (tt, tt)
free_others marks k (d ∷ ds) f =
    let here = set_free marks k d.1 f.0 in
    let rest = free_others marks k ds f.1 in
    ((here.0, rest.0), (here.1, rest.1))

others_free : (marks : List Bool) (k : ℕ) (ds : List (ℕ × ℕ)) → AllByRecursion (λ (e : ℕ × ℕ). e.1 ≢ k) ds → AreFree marks ds → AreFree (set marks k true) ds
others_free marks k [] a f = tt
others_free marks k (d ∷ ds) a f = (get_or-set_other marks k d.1 true true a.0 ∙ f.0, others_free marks k ds a.1 f.1)

-- all that holds of events that come next
pub record AreListed (n : Parts) (near last : ℕ) (marks : List Bool) (ds : List (ℕ × ℕ)) : Type 0 where
  pub rises : Rises last ds
  pub each : AllByRecursion (λ (d : ℕ × ℕ). (1 ≤ d.1) × (d.1 < length (sources_of n)) × (d.0 ≤ near)) ds
  pub once : AreOnce ds
  pub free : AreFree marks ds

listed : (n : Parts) (near last : ℕ) (marks : List Bool) (ds : List (ℕ × ℕ)) → AreNext n near last marks ds → AreListed n near last marks ds
listed n near last marks [] f = record { rises = tt; each = tt; once = tt; free = tt }
listed n near last marks (d ∷ ds) f =
    let w = listed n near d.0 (set marks d.1 true) ds f.1 in
    let o = free_others marks d.1 ds w.free in
    record {
      rises = (f.0.rises, w.rises);
      each = ((f.0.not_start, f.0.source, f.0.in_time), w.each);
      once = (o.0, w.once);
      free = (f.0.free, o.1);
    }

come_next : (n : Parts) (near last : ℕ) (marks : List Bool) (ds : List (ℕ × ℕ)) → AreListed n near last marks ds → AreNext n near last marks ds
come_next n near last marks [] w = tt
come_next n near last marks (d ∷ ds) w = (
  record { rises = w.rises.0; in_time = w.each.0.2; not_start = w.each.0.0; source = w.each.0.1; free = w.free.0 },
  come_next n near d.0 (set marks d.1 true) ds (record { rises = w.rises.1; each = w.each.1; once = w.once.1; free = others_free marks d.1 ds w.once.0 w.free.1 }),
)

near_each : (n : Parts) (now : ℕ) (ds : List (ℕ × ℕ)) → AllByRecursion (λ (d : ℕ × ℕ). (1 ≤ d.1) × (d.1 < length (sources_of n)) × (d.0 ≤ now + 2147483647)) ds → AllByRecursion (IsNear n now) ds
near_each n now [] f = tt
near_each n now (d ∷ ds) f = (record { not_start = f.0.0; source = f.0.1; near = let l = f.0.2 in omega arith }, near_each n now ds f.1)

each_near : (n : Parts) (now : ℕ) (ds : List (ℕ × ℕ)) → AllByRecursion (IsNear n now) ds → AllByRecursion (λ (d : ℕ × ℕ). (1 ≤ d.1) × (d.1 < length (sources_of n)) × (d.0 ≤ now + 2147483647)) ds
each_near n now [] f = tt
each_near n now (d ∷ ds) f = ((f.0.not_start, f.0.source, let l = f.0.near in omega arith), each_near n now ds f.1)

all_free : (n : Parts) (now : ℕ) (ds : List (ℕ × ℕ)) → AllByRecursion (IsNear n now) ds → AreFree (unmarked n) ds
all_free n now [] f = tt
all_free n now (d ∷ ds) f = (get_or-replicate (length (sources_of n)) d.1 false true f.0.source, all_free n now ds f.1)

next_pending : (n : Parts) (now : ℕ) (ds : List (ℕ × ℕ)) → AreNext n (now + 2147483647) now (unmarked n) ds → ArePending n now ds
next_pending n now ds f = let w = listed n (now + 2147483647) now (unmarked n) ds f in record { rises = w.rises; near = near_each n now ds w.each; once = w.once }

pending_next : (n : Parts) (now : ℕ) (ds : List (ℕ × ℕ)) → ArePending n now ds → AreNext n (now + 2147483647) now (unmarked n) ds
pending_next n now ds p =
    come_next n (now + 2147483647) now (unmarked n) ds (record { rises = p.rises; each = each_near n now ds p.near; once = p.once; free = all_free n now ds p.near })

unmarked_long : (n : Parts) → length (unmarked n) ≡ length (sources_of n)
unmarked_long n = length-replicate (length (sources_of n)) false

pub pending_read : (n : Parts) → IsNet n → (now : ℕ) → now ≤ 4611686018427387904 → IsReader (ended_text n) (ArePending n now) (pending_at n now)
unfolding pending_at
pending_read n net now early =
    let near = now + 2147483647 in
    let small : near < 2 ^ 63 = omega arith in
    let before : now ≤ near = omega arith in
    let long = unmarked_long n in
    record {
      takes = λ bytes x e.
          let t = events_take n net near small (length bytes) now (unmarked n) bytes x before long e in
          (t.0, next_pending n now x.0 t.1);
      again = λ ds rest p.
          let all : length (ended_text n ds ++ rest) ≤ length (ended_text n ds ++ rest) = omega arith in
          events_again n net near small ds (length (ended_text n ds ++ rest)) now (unmarked n) rest before long all (pending_next n now ds p);
      lines = λ ds p. events_lines n net near small ds now (unmarked n) before long (pending_next n now ds p);
      some = [];
      some_fits = record { rises = tt; near = tt; once = tt };
      fails = λ bytes count e.
          let all : length bytes ≤ length bytes = omega arith in
          let w = events_fail n net near small (length bytes) now (unmarked n) bytes count before long all e in
          record {
            before = w.before;
            left = w.left;
            split = w.split;
            lines = w.lines;
            count_is = w.count_is;
            value = w.value;
            fitting = next_pending n now w.value w.fitting;
            more = w.more;
            front = w.front;
            alone = λ other s.
                let whole : length (w.before ++ other) ≤ length (w.before ++ other) = omega arith in
                w.alone other s (length (w.before ++ other)) whole;
          };
    }
