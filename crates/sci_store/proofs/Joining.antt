-- Ranks that follow one another, joined into runs.
use Rattle.std.proofs.Common.{◌≡◌, ℕ, zero, suc, ◌+◌, ◌-◌, ◌<◌, ◌≤◌, ◌≢◌, Bool, true, false, not, cond, ◌&&◌, ◌||◌, ◌⊎◌, inl, inr, ⊎_elim, List, [], ◌∷◌, ◌++◌, length, get_or, take, drop, All, ◌↔◌, refl, sym, ap, subst, ◌∙◌, arith, true≢false, eqb, subst₂}
use mathlib.Core.Bool.{beq}
use Rattle.std.specs.List.{filter}
use Rattle.std.proofs.lemmas.Bool.{eqb-true, eq-eqb, ne_eqb, cases_eq, cases_lt}
use Rattle.std.proofs.lemmas.List.{get_or-map, get_or-take, get_or-drop, get_or_default}
use Rattle.std.proofs.lemmas.List.Filters.{length-filter_more}
use Rattle.sci_forms.specs.Numbers.{number_of}
use Rattle.sci_reaction.specs.declared.entry.Entry.{Entry}
use Rattle.sci_reaction.proofs.Lists.{and_both, or_left, or_right}
use Rattle.sci_store.specs.declared.row.CallRank.{CallRank}
use Rattle.sci_store.specs.declared.row.Run.{Run}
use Rattle.sci_store.specs.Frame.{Fixed, seat_of}
use Rattle.sci_store.specs.Rows.{is_guarded, IsAlone, IsRun, Join, between, depth_at}
use Rattle.sci_store.specs.Ranks.{are_alike, IsRankOf, AreRanksOf}
use Rattle.sci_store.proofs.KindNumbers.{same_kind}

abbrev pub no_rank : CallRank
no_rank = record { depth = 0; guarded = false; alone = false; kind = 0; block = 0; at = 0 }

-- ---- pieces of a list

-- what holds from one place to before another
pub between_all : {A : Type 0} (P : A → Type 0) (xs : List A) (start end : ℕ) → end ≤ length xs → ((j : ℕ) (d : A) → start ≤ j → j < end → P (get_or xs j d))
    → All P (between xs start end)
between_all P xs start end within h k d l =
    let short : length (between xs start end) ≤ end - start = long_at_most (end - start) (drop start xs) in
    let less : k < end - start = omega (arith, l, short) in
    subst P (sym (get_or-take (end - start) (drop start xs) k d less ∙ get_or-drop start xs k d)) (h (start + k) d (omega arith) (omega (arith, less)))
  where
    long_at_most : {A : Type 0} (n : ℕ) (xs : List A) → length (take n xs) ≤ n
    long_at_most zero xs = omega arith
    long_at_most (suc n) [] = omega arith
    long_at_most (suc n) (x ∷ xs) = let h = long_at_most n xs in omega (arith, h)

-- one run more behind the runs that join
pub joined_more : (at mid : ℕ) (runs : List Run) (r : Run) → Join at mid runs → r.start ≡ mid → Join at r.end (runs ++ r ∷ [])
joined_more at mid [] r h e = (e ∙ sym h, refl)
joined_more at mid (q ∷ qs) r h e = (h.0, joined_more q.end mid qs r h.1 e)

-- ---- ranks of one run

pub record IsAlike (r q : CallRank) : Type 0 where
  pub depth : r.depth ≡ q.depth
  pub guarded : r.guarded ≡ q.guarded
  pub alone : r.alone ≡ q.alone
  pub kind : r.kind ≡ q.kind

same_flags : (a b : Bool) → beq a b ≡ true → a ≡ b
same_flags false false h = refl
same_flags true true h = refl
same_flags true false h = absurd (true≢false (sym h))
same_flags false true h = absurd (true≢false (sym h))

pub alike_by : (r q : CallRank) → are_alike r q ≡ true → IsAlike r q
alike_by r q h =
    let first = and_both (eqb r.depth q.depth) (beq r.guarded q.guarded && (beq r.alone q.alone && eqb r.kind q.kind)) h in
    let second = and_both (beq r.guarded q.guarded) (beq r.alone q.alone && eqb r.kind q.kind) first.1 in
    let third = and_both (beq r.alone q.alone) (eqb r.kind q.kind) second.1 in
    record {
      depth = eqb-true r.depth q.depth first.0;
      guarded = same_flags r.guarded q.guarded second.0;
      alone = same_flags r.alone q.alone third.0;
      kind = eqb-true r.kind q.kind third.1;
    }

alike_itself : (r : CallRank) → IsAlike r r
alike_itself r = record { depth = refl; guarded = refl; alone = refl; kind = refl }

alike_then : (r q p : CallRank) → IsAlike r q → IsAlike q p → IsAlike r p
alike_then r q p h k = record { depth = h.depth ∙ k.depth; guarded = h.guarded ∙ k.guarded; alone = h.alone ∙ k.alone; kind = h.kind ∙ k.kind }

-- each of the ranks from one place to before another is alike with the next
abbrev pub AreAlikeTo : List CallRank → ℕ → ℕ → Type 0
AreAlikeTo order start at = (j : ℕ) (r : CallRank) → start ≤ j → j < at → IsAlike (get_or order j r) (get_or order (j + 1) r)

-- and so with that at the end
pub alike_to : (order : List CallRank) (start at : ℕ) (r : CallRank) (n j : ℕ) → AreAlikeTo order start at → start ≤ j → j + n ≡ at → IsAlike (get_or order j r) (get_or order at r)
alike_to order start at r zero j h l e = let same : j ≡ at = omega (arith, e) in subst (λ (i : ℕ). IsAlike (get_or order j r) (get_or order i r)) same (alike_itself (get_or order j r))
alike_to order start at r (suc n) j h l e =
    alike_then (get_or order j r) (get_or order (j + 1) r) (get_or order at r) (h j r l (omega (arith, e)))
    (alike_to order start at r n (j + 1) h (omega (arith, l)) (omega (arith, e)))

-- ---- guarded ranks

-- how many of the first k ranks are guarded
abbrev pub guarded_count : List CallRank → ℕ → ℕ
guarded_count order k = length (filter (λ (r : CallRank). r.guarded) (take k order))

flagged : (order : List CallRank) (k : ℕ) (r : CallRank) (t : Bool) → k < length order → (get_or order k r).guarded ≡ t → guarded_count order (k + 1) ≡ guarded_count order k + cond t 1 0
flagged order k r t l e = length-filter_more (λ (q : CallRank). q.guarded) order k r l ∙ ap (λ (b : Bool). guarded_count order k + cond b 1 0) e

-- of ranks that are alike all are counted, or none
pub count_alike : (order : List CallRank) (start : ℕ) (r : CallRank) (t : Bool) (n : ℕ) → start + n ≤ length order
    → ((j : ℕ) → start ≤ j → j < start + n → (get_or order j r).guarded ≡ t) → guarded_count order (start + n) ≡ guarded_count order start + cond t n 0
count_alike order start r true zero l h = let e : start + 0 ≡ start = omega arith in ap (guarded_count order) e ∙ omega arith
count_alike order start r false zero l h = let e : start + 0 ≡ start = omega arith in ap (guarded_count order) e ∙ omega arith
count_alike order start r true (suc n) l h =
    let e : start + suc n ≡ start + n + 1 = omega arith in
    let before = count_alike order start r true n (omega arith) (λ j m k. h j m (omega (arith, k))) in
    let step = flagged order (start + n) r true (omega (arith, l)) (h (start + n) (omega arith) (omega arith)) in
    ap (guarded_count order) e ∙ (step ∙ (ap (λ (k : ℕ). k + 1) before ∙ omega arith))
count_alike order start r false (suc n) l h =
    let e : start + suc n ≡ start + n + 1 = omega arith in
    let before = count_alike order start r false n (omega arith) (λ j m k. h j m (omega (arith, k))) in
    let step = flagged order (start + n) r false (omega (arith, l)) (h (start + n) (omega arith) (omega arith)) in
    ap (guarded_count order) e ∙ (step ∙ (ap (λ (k : ℕ). k + 0) before ∙ omega arith))

one_if : (t : Bool) (r : CallRank) (rs : List CallRank) (k : ℕ) → length rs ≤ k → length (cond t (r ∷ rs) rs) ≤ suc k
one_if true r rs k h = omega (arith, h)
one_if false r rs k h = omega (arith, h)

pub count_most : (order : List CallRank) (k : ℕ) → guarded_count order k ≤ k
count_most order zero = omega arith
count_most [] (suc k) = omega arith
count_most (r ∷ rs) (suc k) = one_if r.guarded r (filter (λ (q : CallRank). q.guarded) (take k rs)) k (count_most rs k)

-- ---- the entries of the ranks

module _ (f : Fixed) (depth : Entry → ℕ) (order : List CallRank) where
  -- as many of the first entries are guarded as of their ranks
  entries_by : (es : List Entry) (d : Entry) (r : CallRank) → AreRanksOf f depth es order → (k : ℕ) → k ≤ length es → length (filter is_guarded (take k es)) ≡ guarded_count order k
  entries_by es d r h zero l = refl
  entries_by es d r h (suc k) l =
      let e : suc k ≡ k + 1 = omega arith in
      let before = entries_by es d r h k (omega (arith, l)) in
      let same : (get_or order k r).guarded ≡ is_guarded (get_or es k d) = (h.ranks_are k d r (omega (arith, l))).guarded_is in
      let step = length-filter_more is_guarded es k d (omega (arith, l)) in
      ap (λ (n : ℕ). length (filter is_guarded (take n es))) e
      ∙ (step ∙ (ap (λ (n : ℕ). n + cond (is_guarded (get_or es k d)) 1 0) before
      ∙ (sym (flagged order k r (is_guarded (get_or es k d)) (omega (arith, l, h.one_each)) same) ∙ ap (guarded_count order) (sym e))))

  pub entries_count : (es : List Entry) (r : CallRank) → AreRanksOf f depth es order → (k : ℕ) → k ≤ length es → length (filter is_guarded (take k es)) ≡ guarded_count order k
  entries_count [] r h zero l = refl
  entries_count [] r h (suc k) l = absurd (omega (arith, l))
  entries_count (e ∷ es) r h k l = entries_by (e ∷ es) e r h k l

  -- the depth of an entry by its rank
  depth_there : (es : List Entry) (r : CallRank) → AreRanksOf f depth es order → (k : ℕ) → k < length order → depth_at depth es k ≡ (get_or order k r).depth
  depth_there es r h k l = ap (λ (ns : List ℕ). get_or ns k 0) (sym h.depths) ∙ get_or-map (λ (q : CallRank). q.depth) order k r 0 l

  depth_here : (es : List Entry) (d : Entry) (r : CallRank) → AreRanksOf f depth es order → (k : ℕ) → k < length order → depth (get_or es k d) ≡ (get_or order k r).depth
  depth_here es d r h k l = sym (get_or-map depth es k d 0 (omega (arith, l, h.one_each))) ∙ depth_there es r h k l

-- ---- one run

or_either : (x y : Bool) → (x || y) ≡ true → (x ≡ true) ⊎ (y ≡ true)
or_either true y h = inl refl
or_either false y h = inr h

not_true : (x : Bool) → not x ≡ true → x ≡ false
not_true false h = refl
not_true true h = absurd (true≢false (sym h))

not_off : (x : Bool) → not x ≡ false → x ≡ true
not_off true h = refl
not_off false h = absurd (true≢false h)

not_false : (x : Bool) → x ≡ false → not x ≡ true
not_false x h = ap not h

-- what is told of a run that ends behind the rank at a place
pub record IsEndedBy (f : Fixed) (order : List CallRank) (start at entries : ℕ) (d : CallRank) (run : Run) : Type 0 where
  pub kind : run.kind ≡ (seat_of f (get_or order at d).block).kind
  pub together : run.together ≡ not (get_or order at d).alone
  pub guarded : run.guarded ≡ (get_or order at d).guarded
  pub begins : run.start ≡ start
  pub ends : run.end ≡ at + 1
  pub entries_are : run.entries ≡ entries
  pub last : run.last ≡ (eqb (at + 1) (length order) || not (eqb (get_or order at d).depth (get_or order (at + 1) d).depth))

-- the guarded ones of its ranks are counted behind it
pub counted_behind : (order : List CallRank) (start at entries next : ℕ) (d : CallRank) → start ≤ at → at < length order → AreAlikeTo order start at → entries ≡ guarded_count order start
    → next ≡ entries + cond (get_or order at d).guarded (at + 1 - start) 0 → next ≡ guarded_count order (at + 1)
counted_behind order start at entries next d begun within alike counted h =
    let e : start + (at + 1 - start) ≡ at + 1 = omega (arith, begun) in
    let flags : (j : ℕ) → start ≤ j → j < start + (at + 1 - start) → (get_or order j d).guarded ≡ (get_or order at d).guarded =
    λ j l m. (alike_to order start at d (at - j) j alike l (omega (arith, m, begun))).guarded in
    h ∙ (ap (λ (k : ℕ). k + cond (get_or order at d).guarded (at + 1 - start) 0) counted
    ∙ (sym (count_alike order start d (get_or order at d).guarded (at + 1 - start) (omega (arith, begun, within)) flags) ∙ ap (guarded_count order) e))

module _ (f : Fixed) (depth : Entry → ℕ) (es : List Entry) (order : List CallRank) (start at entries : ℕ) (run : Run) (ranks : AreRanksOf f depth es order) (begun : start ≤ at)
    (within : at < length order) (alike : AreAlikeTo order start at) (counted : entries ≡ guarded_count order start) where
  module _ (d : CallRank) (told : IsEndedBy f order start at entries d run) where
    abbrev r : CallRank
    r = get_or order at d

    abbrev after : CallRank
    after = get_or order (at + 1) d

    one : (j : ℕ) → start ≤ j → j ≤ at → IsAlike (get_or order j d) (get_or order at d)
    one j l m = alike_to order start at d (at - j) j alike l (omega (arith, m))

    rank_of : (j : ℕ) (e : Entry) → j ≤ at → IsRankOf f (get_or es j e) (get_or order j d)
    rank_of j e m = ranks.ranks_are j e d (omega (arith, m, within, ranks.one_each))

    depth_first : depth_at depth es start ≡ (get_or order at d).depth
    depth_first = depth_there f depth order es d ranks start (omega (arith, begun, within)) ∙ (one start (omega arith) begun).depth

    depth_after : (at + 1 ≡ length order → ⊥) → depth_at depth es (at + 1) ≡ (get_or order (at + 1) d).depth
    depth_after ne = depth_there f depth order es d ranks (at + 1) (omega (arith, within, ne))

    abbrev level : Bool
    level = eqb (get_or order at d).depth (get_or order (at + 1) d).depth

    last_to : run.last ≡ true → (run.end ≡ length es) ⊎ (depth_at depth es start ≢ depth_at depth es run.end)
    last_to h = ⊎_elim
        (λ (same : at + 1 ≡ length order). inl (told.ends ∙ (same ∙ ranks.one_each)))
        (λ ne. ⊎_elim (λ whole. absurd (ne (eqb-true (at + 1) (length order) whole)))
        (λ other. inr (λ e. true≢false (sym (eq-eqb (get_or order at d).depth (get_or order (at + 1) d).depth
        (sym depth_first ∙ (e ∙ (ap (depth_at depth es) told.ends ∙ depth_after ne)))) ∙ not_true level other)))
        (or_either (eqb (at + 1) (length order)) (not level) (sym told.last ∙ h)))
        (cases_eq (at + 1) (length order))

    last_from : (run.end ≡ length es) ⊎ (depth_at depth es start ≢ depth_at depth es run.end) → run.last ≡ true
    last_from h = told.last ∙ ⊎_elim
        (λ (same : at + 1 ≡ length order). or_left (eqb (at + 1) (length order)) (not level) (eq-eqb (at + 1) (length order) same))
        (λ ne. or_right (eqb (at + 1) (length order)) (not level)
        (⊎_elim (λ whole. absurd (ne (sym told.ends ∙ (whole ∙ sym ranks.one_each))))
        (λ other. not_false level (ne_eqb (get_or order at d).depth (get_or order (at + 1) d).depth
        (λ e. other (depth_first ∙ (e ∙ (sym (depth_after ne) ∙ ap (depth_at depth es) (sym told.ends)))))))
        h))
        (cases_eq (at + 1) (length order))

    all_of : (P : Entry → Type 0) → ((j : ℕ) (e : Entry) → start ≤ j → j ≤ at → P (get_or es j e)) → All P (between es run.start run.end)
    all_of P h = between_all P es run.start run.end (omega (arith, told.ends, within, ranks.one_each))
        (λ j e l m. h j e (omega (arith, l, told.begins)) (omega (arith, m, told.ends)))

    -- the kind of the run by its number
    number_is : (e : Entry) → number_of run.kind ≡ (get_or order at d).kind
    number_is e =
        ap number_of told.kind
        ∙ (ap (λ (b : ℕ). number_of (seat_of f b).kind) (rank_of at e (omega arith)).block_is ∙ sym (rank_of at e (omega arith)).kind_is)

    pub is_run : IsRun f depth es run
    is_run = record {
      some = omega (arith, told.begins, told.ends, begun);
      within = omega (arith, told.ends, within, ranks.one_each);
      of_kind = all_of (λ (e : Entry). (seat_of f e.block).kind ≡ run.kind)
          (λ j e l m. same_kind (seat_of f (get_or es j e).block).kind run.kind (sym (rank_of j e m).kind_is ∙ ((one j l m).kind ∙ sym (number_is e))));
      guarded_is = all_of (λ (e : Entry). is_guarded e ≡ run.guarded)
          (λ j e l m. sym (rank_of j e m).guarded_is ∙ ((one j l m).guarded ∙ sym told.guarded));
      alone_is = all_of (λ (e : Entry). (run.together ≡ false) ↔ IsAlone f e.block) (λ j e l m. (
        λ off. (rank_of j e m).alone_is.0 ((one j l m).alone ∙ not_off (get_or order at d).alone (sym told.together ∙ off)),
        λ alone. told.together ∙ ap not (sym (one j l m).alone ∙ (rank_of j e m).alone_is.1 alone),
      ));
      one_depth = all_of (λ (e : Entry). depth e ≡ depth_at depth es run.start)
          (λ j e l m. depth_here f depth order es e d ranks j (omega (arith, m, within)) ∙ ((one j l m).depth ∙ (sym depth_first ∙ ap (depth_at depth es) (sym told.begins))));
      last_is = (
        λ h. ⊎_elim (λ e. inl e) (λ ne. inr (λ e. ne (ap (depth_at depth es) (sym told.begins) ∙ e))) (last_to h),
        λ h. last_from (⊎_elim (λ e. inl e) (λ ne. inr (λ e. ne (ap (depth_at depth es) told.begins ∙ e))) h),
      );
      entries_are = told.entries_are ∙ (counted ∙ (sym (entries_count f depth order es d ranks start (omega (arith, begun, within, ranks.one_each)))
          ∙ ap (λ (n : ℕ). length (filter is_guarded (take n es))) (sym told.begins)));
    }

-- ---- the runs so far

-- the runs of the ranks before start; those from there on are of one run so far, and none where no rank is left
pub record IsJoinedTo (order : List CallRank) (at start entries : ℕ) (runs : List Run) : Type 0 where
  pub begun : start ≤ at
  pub some_left : (at ≡ start) ⊎ (at < length order)
  pub alike : AreAlikeTo order start at
  pub joined : Join 0 start runs
  pub counted : entries ≡ guarded_count order start

pub joined_none : (order : List CallRank) → IsJoinedTo order 0 0 0 []
joined_none order = record { begun = omega arith; some_left = inl refl; alike = λ j r l m. absurd (omega (arith, m)); joined = refl; counted = refl }

-- the next rank is of the same run
pub joined_on : {order : List CallRank} {at start entries : ℕ} {runs : List Run} (d : CallRank) → IsJoinedTo order at start entries runs → at + 1 < length order
    → are_alike (get_or order at d) (get_or order (at + 1) d) ≡ true → IsJoinedTo order (at + 1) start entries runs
joined_on {order} {at} {start} d h l same = record {
  begun = omega (arith, h.begun);
  some_left = inr l;
  alike = λ j q m n. ⊎_elim (λ earlier. h.alike j q m earlier) (λ late. alike_here j q (omega (arith, n, late))) (cases_lt j at);
  joined = h.joined;
  counted = h.counted;
}
  where
    alike_here : (j : ℕ) (q : CallRank) → j ≡ at → IsAlike (get_or order j q) (get_or order (j + 1) q)
    alike_here j q e =
        let first : get_or order at d ≡ get_or order at q = get_or_default order at d q (omega (arith, l)) in
        let second : get_or order (at + 1) d ≡ get_or order (at + 1) q = get_or_default order (at + 1) d q l in
        subst (λ (i : ℕ). IsAlike (get_or order i q) (get_or order (i + 1) q)) (sym e)
        (subst₂ IsAlike first second (alike_by (get_or order at d) (get_or order (at + 1) d) same))

-- the run ends
pub joined_behind : {order : List CallRank} {at start entries : ℕ} {runs : List Run} (run : Run) (next : ℕ) → IsJoinedTo order at start entries runs → run.start ≡ start → run.end ≡ at + 1
    → next ≡ guarded_count order (at + 1) → IsJoinedTo order (at + 1) (at + 1) next (runs ++ run ∷ [])
joined_behind {order} {at} {start} {entries} {runs} run next h begins ends counted = record {
  begun = omega arith;
  some_left = inl refl;
  alike = λ j r l m. absurd (omega (arith, l, m));
  joined = subst (λ (n : ℕ). Join 0 n (runs ++ run ∷ [])) ends (joined_more 0 start runs run h.joined begins);
  counted = counted;
}

-- all runs
pub joined_all : {order : List CallRank} {at start entries : ℕ} {runs : List Run} → IsJoinedTo order at start entries runs → at ≡ length order → Join 0 (length order) runs
joined_all {order} {at} {start} {entries} {runs} h e =
    ⊎_elim (λ same. let whole : start ≡ length order = sym same ∙ e in subst (λ (n : ℕ). Join 0 n runs) whole h.joined) (λ less. absurd (omega (arith, less, e))) h.some_left
