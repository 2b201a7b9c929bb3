-- Reading one thing after another, as loops do.
use Rattle.std.proofs.Common.{◌≡◌, ℕ, suc, ◌+◌, ◌-◌, ◌<◌, ◌≤◌, ℤ, List, [], ◌∷◌, ◌++◌, length, get_or, set, drop, Option, Some, None, Ok, Err, Bool, true, refl, sym, ap, ◌∙◌, append_assoc, append-nil, arith}
use Rattle.std.specs.Prelude.{codes}
use Rattle.std.proofs.lemmas.List.{drop_more, drop_all}
use Rattle.sci_forms.specs.declared.spec.Spec.{Spec}
use Rattle.sci_net.specs.Parts.{Parts}
use Rattle.sci_reaction.specs.Memory.{Columns}
use Rattle.sci_text.specs.Reading.{after}
use Rattle.sci_save.specs.declared.bounds.BlockLine.{BlockLine}
use Rattle.sci_save.specs.declared.stop.LineStop.{LineStop}
use Rattle.sci_save.specs.declared.stop.LineStop.TheVariants as stops
use Rattle.sci_save.specs.Bounds.{word_of, bounds_of}
use Rattle.sci_save.specs.Reading.{Read, ◌>>=◌, Fails, row_at, rows_at, event_at, or_over, events_at}

-- ---- a line for each block

abbrev pub front_rows : List (List ℤ) → Read (List (List ℤ)) → Read (List (List ℤ))
front_rows front read = read >>= λ x. Ok (front ++ x.0, x.1)

front_row : (front : List (List ℤ)) (row : List ℤ) (read : Read (List (List ℤ))) → front_rows front (read >>= λ xs. Ok (row ∷ xs.0, xs.1)) ≡ front_rows (front ++ row ∷ []) read
front_row front row (Ok x) = ap (λ (l : List (List ℤ)). Ok (l, x.1)) (simp append_assoc)
front_row front row (Err left) = refl

rows_next : (part : BlockLine) (i : Columns) (b : ℕ) (ss : List Spec) (k : ℕ) (s : Spec) (bytes : List ℕ) → k < length ss
    → rows_at part i b (drop k ss) bytes ≡ (row_at (word_of part) b (bounds_of part i (get_or ss k s)) bytes >>= λ x. rows_at part i (b + 1) (drop (k + 1) ss) x.1 >>= λ xs. Ok (x.0 ∷ xs.0, xs.1))
unfolding rows_at
rows_next part i b ss k s bytes h = ap (λ (l : List Spec). rows_at part i b l bytes) (drop_more ss k s h)

pub rows_go_on : (front : List (List ℤ)) (part : BlockLine) (i : Columns) (b : ℕ) (ss : List Spec) (k : ℕ) (s : Spec) (bytes : List ℕ) (row : List ℤ) (behind : List ℕ) (total : Read (List (List ℤ))) → k < length ss
    → row_at (word_of part) b (bounds_of part i (get_or ss k s)) bytes ≡ Ok (row, behind) → front_rows front (rows_at part i b (drop k ss) bytes) ≡ total
    → front_rows (front ++ row ∷ []) (rows_at part i (b + 1) (drop (k + 1) ss) behind) ≡ total
rows_go_on front part i b ss k s bytes row behind total h e so_far =
    sym (front_row front row (rows_at part i (b + 1) (drop (k + 1) ss) behind))
    ∙ ap (λ (o : Read (List ℤ)). front_rows front (o >>= λ x. rows_at part i (b + 1) (drop (k + 1) ss) x.1 >>= λ xs. Ok (x.0 ∷ xs.0, xs.1))) (sym e)
    ∙ ap (front_rows front) (sym (rows_next part i b ss k s bytes h)) ∙ so_far

pub rows_break : (e : LineStop) (front : List (List ℤ)) (part : BlockLine) (i : Columns) (b : ℕ) (ss : List Spec) (k : ℕ) (s : Spec) (bytes : List ℕ) (total : Read (List (List ℤ))) → k < length ss
    → Fails e (row_at (word_of part) b (bounds_of part i (get_or ss k s)) bytes) → front_rows front (rows_at part i b (drop k ss) bytes) ≡ total → Fails e total
rows_break stops.Memory front part i b ss k s bytes total h f so_far = tt
rows_break (stops.Broken left) front part i b ss k s bytes total h f so_far =
    sym so_far ∙ ap (front_rows front) (rows_next part i b ss k s bytes h)
    ∙ ap (λ (o : Read (List ℤ)). front_rows front (o >>= λ x. rows_at part i (b + 1) (drop (k + 1) ss) x.1 >>= λ xs. Ok (x.0 ∷ xs.0, xs.1))) f

rows_last : (part : BlockLine) (i : Columns) (b : ℕ) (ss : List Spec) (k : ℕ) (bytes : List ℕ) → length ss ≤ k → rows_at part i b (drop k ss) bytes ≡ Ok ([], bytes)
unfolding rows_at
rows_last part i b ss k bytes h = ap (λ (l : List Spec). rows_at part i b l bytes) (drop_all k ss h)

pub rows_end : (front : List (List ℤ)) (part : BlockLine) (i : Columns) (b : ℕ) (ss : List Spec) (k : ℕ) (bytes : List ℕ) (total : Read (List (List ℤ))) → length ss ≤ k
    → front_rows front (rows_at part i b (drop k ss) bytes) ≡ total → total ≡ Ok (front, bytes)
rows_end front part i b ss k bytes total h so_far =
    sym so_far ∙ ap (front_rows front) (rows_last part i b ss k bytes h) ∙ ap (λ (l : List (List ℤ)). Ok (l, bytes)) (append-nil front)

-- ---- pending events

abbrev pub front_events : List (ℕ × ℕ) → Read (List (ℕ × ℕ)) → Read (List (ℕ × ℕ))
front_events front read = read >>= λ x. Ok (front ++ x.0, x.1)

front_event : (front : List (ℕ × ℕ)) (d : ℕ × ℕ) (read : Read (List (ℕ × ℕ))) → front_events front (read >>= λ xs. Ok (d ∷ xs.0, xs.1)) ≡ front_events (front ++ d ∷ []) read
front_event front d (Ok x) = ap (λ (l : List (ℕ × ℕ)). Ok (l, x.1)) (simp append_assoc)
front_event front d (Err left) = refl

module _ (n : Parts) (near : ℕ) where
  events_turn : (most i last : ℕ) (marks : List Bool) (bytes : List ℕ) → i < most
      → events_at n near (most - i) last marks bytes
      ≡ or_over (after (codes "done\n") bytes) (event_at n near last marks bytes >>= λ x. events_at n near (most - (i + 1)) x.0.0 (set marks x.0.1 true) x.1 >>= λ xs. Ok (x.0 ∷ xs.0, xs.1))
  unfolding events_at
  events_turn most i last marks bytes h = let e : most - i ≡ suc (most - (i + 1)) = omega arith in ap (λ (k : ℕ). events_at n near k last marks bytes) e

  pub events_over : (front : List (ℕ × ℕ)) (most i last : ℕ) (marks : List Bool) (bytes end : List ℕ) (total : Read (List (ℕ × ℕ))) → i < most → after (codes "done\n") bytes ≡ Some end
      → front_events front (events_at n near (most - i) last marks bytes) ≡ total → total ≡ Ok (front, end)
  events_over front most i last marks bytes end total h e so_far =
      sym so_far ∙ ap (front_events front) (events_turn most i last marks bytes h ∙ ap (λ (o : Option (List ℕ)). or_over o (event_at n near last marks bytes >>= λ x. events_at n near (most - (i + 1)) x.0.0 (set marks x.0.1 true) x.1 >>= λ xs. Ok (x.0 ∷ xs.0, xs.1))) e)
      ∙ ap (λ (l : List (ℕ × ℕ)). Ok (l, end)) (append-nil front)

  pub events_go_on : (front : List (ℕ × ℕ)) (most i last : ℕ) (marks : List Bool) (bytes : List ℕ) (d : ℕ × ℕ) (behind : List ℕ) (total : Read (List (ℕ × ℕ))) → i < most → after (codes "done\n") bytes ≡ None
      → event_at n near last marks bytes ≡ Ok (d, behind) → front_events front (events_at n near (most - i) last marks bytes) ≡ total
      → front_events (front ++ d ∷ []) (events_at n near (most - (i + 1)) d.0 (set marks d.1 true) behind) ≡ total
  events_go_on front most i last marks bytes d behind total h none e so_far =
      sym (front_event front d (events_at n near (most - (i + 1)) d.0 (set marks d.1 true) behind))
      ∙ ap (λ (o : Read (ℕ × ℕ)). front_events front (o >>= λ x. events_at n near (most - (i + 1)) x.0.0 (set marks x.0.1 true) x.1 >>= λ xs. Ok (x.0 ∷ xs.0, xs.1))) (sym e)
      ∙ ap (λ (o : Option (List ℕ)). front_events front (or_over o (event_at n near last marks bytes >>= λ x. events_at n near (most - (i + 1)) x.0.0 (set marks x.0.1 true) x.1 >>= λ xs. Ok (x.0 ∷ xs.0, xs.1)))) (sym none)
      ∙ ap (front_events front) (sym (events_turn most i last marks bytes h)) ∙ so_far

  pub events_break : (e : LineStop) (front : List (ℕ × ℕ)) (most i last : ℕ) (marks : List Bool) (bytes : List ℕ) (total : Read (List (ℕ × ℕ))) → i < most → after (codes "done\n") bytes ≡ None
      → Fails e (event_at n near last marks bytes) → front_events front (events_at n near (most - i) last marks bytes) ≡ total → Fails e total
  events_break stops.Memory front most i last marks bytes total h none f so_far = tt
  events_break (stops.Broken left) front most i last marks bytes total h none f so_far =
      sym so_far ∙ ap (front_events front) (events_turn most i last marks bytes h)
      ∙ ap (λ (o : Option (List ℕ)). front_events front (or_over o (event_at n near last marks bytes >>= λ x. events_at n near (most - (i + 1)) x.0.0 (set marks x.0.1 true) x.1 >>= λ xs. Ok (x.0 ∷ xs.0, xs.1)))) none
      ∙ ap (λ (o : Read (ℕ × ℕ)). front_events front (o >>= λ x. events_at n near (most - (i + 1)) x.0.0 (set marks x.0.1 true) x.1 >>= λ xs. Ok (x.0 ∷ xs.0, xs.1))) f

  pub events_missing : (front : List (ℕ × ℕ)) (most i last : ℕ) (marks : List Bool) (bytes : List ℕ) (total : Read (List (ℕ × ℕ))) → most ≤ i
      → front_events front (events_at n near (most - i) last marks bytes) ≡ total → total ≡ Err (length bytes)
  unfolding events_at
  events_missing front most i last marks bytes total h so_far =
      let e : most - i ≡ 0 = omega arith in
      sym so_far ∙ ap (λ (k : ℕ). front_events front (events_at n near k last marks bytes)) e
