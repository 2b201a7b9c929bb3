-- What is observed of the pieces that are shown.
use Rattle.std.proofs.Common.{◌≡◌, ℕ, ◌+◌, ◌≤◌, Bool, true, false, ◌&&◌, ⊎_elim, List, [], ◌∷◌, ◌++◌, length, All, Contains, Option, Some, None, is_none, IfSome, refl, sym, ap, ap₂, subst, ◌∙◌, append_assoc, arith, eqb, true≢false}
use Rattle.std.specs.Prelude.{if◌then◌else◌, flat_map}
use Rattle.std.specs.Set.{is_member}
use Rattle.std.proofs.lemmas.Bool.{cases_Bool, eqb-true}
use Rattle.std.proofs.lemmas.List.{append-nil}
use Rattle.std.proofs.lemmas.List.Elements.{All-nil, All-cons, All-head, All-tail, All-push}
use Rattle.sci_base.specs.declared.observation.Obs.{Obs}
use Rattle.sci_forms.specs.Ports.{total}
use Rattle.sci_net.specs.Parts.{IsBlock, spec_of}
use Rattle.sci_reaction.proofs.Lists.{and_both, cons-Contains}
use Rattle.sci_run.specs.Observed.{outputs_seen}
use Rattle.sci_span.specs.declared.place.Place.{Place}
use Rattle.sci_places.specs.Layout.{place_at}
use Rattle.sci_places.specs.Flat.{start_of, values_at, IsWhole}
use Rattle.sci_places.proofs.Outputs.{block_within}
use Rattle.sci_store.specs.declared.marks.Mark.{Mark}
use Rattle.sci_store.specs.declared.row.Show.{Show}
use Rattle.sci_store.specs.Heads.{named_blocks}
use Rattle.sci_lines.specs.Lines.{Named}
use Rattle.sci_store.specs.Marks.{mark_at}
use Rattle.sci_store.specs.Frame.{Fixed, IsFrame}
use Rattle.sci_store.specs.Store.{Standing, IsStore}
use Rattle.sci_store.specs.Rows.{between, then_block, show_of, shows_from, is_shown, is_shown_by, IsShowOf}
use Rattle.sci_store.proofs.LineStarts.{blocks_length}
use Rattle.sci_store.proofs.Choices.{seen_if}
use Rattle.sci_store.proofs.Writing.{seen_at}
use Rattle.sci_store.proofs.Showing.{then_none, then_first, then_joined, then_apart}
use Rattle.sci_store.proofs.Observing.{named_values, named-append, between_none, between_length, between_joined, seen_between, block_seen_between}

-- ---- what is observed of pieces

abbrev pub piece_seen : Fixed → Standing → Show → List Obs
piece_seen f s w = if is_shown s.marks w then seen_between f.net s.values w.start w.end else []

abbrev pub pieces_seen : Fixed → Standing → List Show → List Obs
pieces_seen f s ws = flat_map (piece_seen f s) ws

either_none : {A : Type 0} (t : Bool) (xs : List A) → xs ≡ [] → (if t then xs else []) ≡ []
either_none true xs h = h
either_none false xs h = refl

none_seen : (f : Fixed) (s : Standing) (w : Show) → w.start ≡ w.end → piece_seen f s w ≡ []
none_seen f s w e =
    either_none (is_shown s.marks w) (seen_between f.net s.values w.start w.end)
    (ap (λ (ns : List Named). named_values ns (between s.values w.start w.end)) (between_none (named_blocks 1 f.net.specs) w.start w.end (omega (arith, e))))

unasked : (marks : List Mark) (o : Option ℕ) → is_none o ≡ true → is_shown_by marks o ≡ true
unasked marks None h = refl
unasked marks (Some b) h = absurd (true≢false (sym h))

module _ (f : Fixed) (s : Standing) (whole : IsWhole f.net s.values) where
  within : (end : ℕ) → end ≤ length s.values → end ≤ length (named_blocks 1 f.net.specs)
  within end h = let long = blocks_length 1 f.net.specs in omega (arith, long, h, whole)

  -- two pieces that adjoin
  seen_joined : (start mid end : ℕ) → start ≤ mid → mid ≤ end → end ≤ length s.values
      → seen_between f.net s.values start end ≡ seen_between f.net s.values start mid ++ seen_between f.net s.values mid end
  seen_joined start mid end l m h =
      ap₂ named_values (between_joined (named_blocks 1 f.net.specs) start mid end l m) (between_joined s.values start mid end l m)
      ∙ named-append (between (named_blocks 1 f.net.specs) start mid) (between (named_blocks 1 f.net.specs) mid end) (between s.values start mid) (between s.values mid end)
      (between_length (named_blocks 1 f.net.specs) start mid l (within mid (omega (arith, m, h))) ∙ sym (between_length s.values start mid l (omega (arith, m, h))))

  -- the last piece, with values that adjoin it
  pieces_joined : (t w : Show) → IsShowOf s t → IsShowOf s w → eqb t.end w.start && (is_none t.asked && is_none w.asked) ≡ true
      → piece_seen f s (record t { end = w.end }) ≡ piece_seen f s t ++ piece_seen f s w
  pieces_joined t w h k e =
      let first = and_both (eqb t.end w.start) (is_none t.asked && is_none w.asked) e in
      let second = and_both (is_none t.asked) (is_none w.asked) first.1 in
      let adjoin : t.end ≡ w.start = eqb-true t.end w.start first.0 in
      let on = unasked s.marks t.asked second.0 in
      let also = unasked s.marks w.asked second.1 in
      seen_if (is_shown_by s.marks t.asked) (seen_between f.net s.values t.start w.end) [] on
      ∙ (seen_joined t.start t.end w.end h.order (omega (arith, adjoin, k.order)) k.within
      ∙ (ap (λ (i : ℕ). seen_between f.net s.values t.start t.end ++ seen_between f.net s.values i w.end) adjoin
      ∙ ap₂ (λ (x y : List Obs). x ++ y) (sym (seen_if (is_shown_by s.marks t.asked) (seen_between f.net s.values t.start t.end) [] on))
      (sym (seen_if (is_shown_by s.marks w.asked) (seen_between f.net s.values w.start w.end) [] also))))

  show_joined : (t w : Show) → IsShowOf s t → IsShowOf s w → eqb t.end w.start && (is_none t.asked && is_none w.asked) ≡ true → IsShowOf s (record t { end = w.end })
  show_joined t w h k e =
      let adjoin : t.end ≡ w.start = eqb-true t.end w.start (and_both (eqb t.end w.start) (is_none t.asked && is_none w.asked) e).0 in
      record { order = omega (arith, h.order, adjoin, k.order); within = k.within; asked = h.asked }

  -- one block more
  pieces_then : (ws : List Show) (w : Show) → All (IsShowOf s) ws → IsShowOf s w
      → (pieces_seen f s (then_block ws w) ≡ pieces_seen f s ws ++ piece_seen f s w) × All (IsShowOf s) (then_block ws w)
  pieces_then [] w all h = ⊎_elim
      (λ none. (ap (pieces_seen f s) (then_none [] w none) ∙ sym (none_seen f s w (eqb-true w.start w.end none)), subst (All (IsShowOf s)) (sym (then_none [] w none)) all))
      (λ some. (
        ap (pieces_seen f s) (then_first w some) ∙ append-nil (piece_seen f s w),
        subst (All (IsShowOf s)) (sym (then_first w some)) (All-cons (IsShowOf s) w [] h (All-nil (IsShowOf s))),
      ))
      (cases_Bool (eqb w.start w.end))
  pieces_then (t ∷ []) w all h = ⊎_elim
      (λ none. (
        ap (pieces_seen f s) (then_none (t ∷ []) w none)
            ∙ (sym (append-nil (pieces_seen f s (t ∷ []))) ∙ ap (λ (l : List Obs). pieces_seen f s (t ∷ []) ++ l) (sym (none_seen f s w (eqb-true w.start w.end none)))),
        subst (All (IsShowOf s)) (sym (then_none (t ∷ []) w none)) all,
      ))
      (λ some. ⊎_elim
      (λ joins. (
        ap (pieces_seen f s) (then_joined [] t w some joins)
            ∙ (append-nil (piece_seen f s (record t { end = w.end }))
            ∙ (pieces_joined t w (All-head (IsShowOf s) t [] all) h joins
            ∙ ap (λ (l : List Obs). l ++ piece_seen f s w) (sym (append-nil (piece_seen f s t))))),
        subst (All (IsShowOf s)) (sym (then_joined [] t w some joins))
            (All-cons (IsShowOf s) (record t { end = w.end }) [] (show_joined t w (All-head (IsShowOf s) t [] all) h joins) (All-nil (IsShowOf s))),
      ))
      (λ apart. (
        ap (pieces_seen f s) (then_apart [] t w some apart)
            ∙ (ap (λ (l : List Obs). piece_seen f s t ++ l) (append-nil (piece_seen f s w))
            ∙ ap (λ (l : List Obs). l ++ piece_seen f s w) (sym (append-nil (piece_seen f s t)))),
        subst (All (IsShowOf s)) (sym (then_apart [] t w some apart)) (All-push (IsShowOf s) (t ∷ []) w all h),
      ))
      (cases_Bool (eqb t.end w.start && (is_none t.asked && is_none w.asked))))
      (cases_Bool (eqb w.start w.end))
  pieces_then (t ∷ u ∷ us) w all h =
      let rest = pieces_then (u ∷ us) w (All-tail (IsShowOf s) t (u ∷ us) all) h in (
        ap (λ (l : List Obs). piece_seen f s t ++ l) rest.0 ∙ sym (append_assoc (piece_seen f s t) (pieces_seen f s (u ∷ us)) (piece_seen f s w)),
        All-cons (IsShowOf s) t (then_block (u ∷ us) w) (All-head (IsShowOf s) t (u ∷ us) all) rest.1,
      )

  -- and more
  pub pieces_from : (guarded : List ℕ) (ws : List Show) (bs : List ℕ) → All (IsShowOf s) ws → ((b : ℕ) → Contains bs b → IsShowOf s (show_of f guarded b))
      → (pieces_seen f s (shows_from f guarded ws bs) ≡ pieces_seen f s ws ++ flat_map (λ b. piece_seen f s (show_of f guarded b)) bs) × All (IsShowOf s) (shows_from f guarded ws bs)
  pieces_from guarded ws [] all h = (sym (append-nil (pieces_seen f s ws)), all)
  pieces_from guarded ws (b ∷ bs) all h =
      let one = pieces_then ws (show_of f guarded b) all (h b (0, omega arith, refl)) in
      let rest = pieces_from guarded (then_block ws (show_of f guarded b)) bs one.1 (λ c there. h c (cons-Contains b bs c there)) in (
        rest.0 ∙ (ap (λ (l : List Obs). l ++ flat_map (λ c. piece_seen f s (show_of f guarded c)) bs) one.0
            ∙ append_assoc (pieces_seen f s ws) (piece_seen f s (show_of f guarded b)) (flat_map (λ c. piece_seen f s (show_of f guarded c)) bs)),
        rest.1,
      )

-- ---- the piece of a block

module _ (f : Fixed) (s : Standing) (frame : IsFrame f) (store : IsStore f s) (guarded : List ℕ) (b : ℕ) (block : IsBlock f.net b) where
  start_is : (place_at f.layout b).outs.start ≡ start_of f.net b
  start_is = ap (λ (p : Place). p.outs.start) (frame.layout.places b block)

  len_is : (place_at f.layout b).outs.len ≡ total (spec_of f.net b).outs
  len_is = ap (λ (p : Place). p.outs.len) (frame.layout.places b block)

  asked_within : (t : Bool) → IfSome (if t then Some b else None) (λ c. (1 ≤ c) × (c ≤ length s.marks))
  asked_within true = (block.least, omega (arith, block.most, store.marks))
  asked_within false = tt

  pub block_show : IsShowOf s (show_of f guarded b)
  block_show = record {
    order = omega arith;
    within = let fits = block_within f.net b block in omega (arith, fits, start_is, len_is, store.values);
    asked = asked_within (is_member eqb guarded b);
  }

  seen_by : (t : Bool) (os : List Obs) → (t ≡ false → (mark_at s.marks b).active ≡ true)
      → (if is_shown_by s.marks (if t then Some b else None) then os else []) ≡ (if (mark_at s.marks b).active then os else [])
  seen_by true os h = refl
  seen_by false os h = sym (seen_if (mark_at s.marks b).active os [] (h refl))

  pub block_piece : (is_member eqb guarded b ≡ false → (mark_at s.marks b).active ≡ true) → piece_seen f s (show_of f guarded b) ≡ seen_at f s b
  block_piece h =
      let values : seen_between f.net s.values (place_at f.layout b).outs.start ((place_at f.layout b).outs.start + (place_at f.layout b).outs.len)
      ≡ outputs_seen b 1 (spec_of f.net b).outs (values_at f.net s.values b) =
      ap₂ (λ (i n : ℕ). seen_between f.net s.values i (i + n)) start_is len_is ∙ block_seen_between f.net s.values b store.values block in
      ap (λ (os : List Obs). if is_shown_by s.marks (if is_member eqb guarded b then Some b else None) then os else []) values
      ∙ seen_by (is_member eqb guarded b) (outputs_seen b 1 (spec_of f.net b).outs (values_at f.net s.values b)) h
