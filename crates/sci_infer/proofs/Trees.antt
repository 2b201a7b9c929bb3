-- Trees of parents, and the classes that they stand for.
use Rattle.std.proofs.Common.{ℕ, ◌≡◌, ◌≢◌, ◌+◌, ◌<◌, ◌≤◌, List, length, get_or, set, ⊎_elim, subst, sym, refl, ap, ◌∙◌, arith, get_or-set_same, get_or-set_other, length-set}
use Rattle.std.proofs.lemmas.Bool.{cases_eq}
use Rattle.std.proofs.Common.{inl, inr, ◌⊎◌, below_more}
use Rattle.std.proofs.Common.{take, [], ◌∷◌, ◌++◌}
use Rattle.std.proofs.lemmas.List.{set-get_or, take_more}
use Rattle.std.proofs.lemmas.List.Elements.{Contains-push, Contains-push_cases, Contains-append_left}
use Rattle.sci_infer.specs.declared.classes.Tie.{Tie}
use Rattle.sci_infer.specs.Classes.{Tied, same, forth, back, Points, IsForest, IsRenewed, IsLinked, Also, AreFlat, IsAcross, Joins, IsFlattened, AreClasses}

pub Tied-trans : (joins : ℕ → ℕ → Type 0) {i j k : ℕ} → Tied joins i j → Tied joins j k → Tied joins i k
Tied-trans joins h same = h
Tied-trans joins h (forth d s) = forth (Tied-trans joins h d) s
Tied-trans joins h (back d s) = back (Tied-trans joins h d) s

pub Tied-sym : (joins : ℕ → ℕ → Type 0) {i j : ℕ} → Tied joins i j → Tied joins j i
Tied-sym joins same = same
Tied-sym joins (forth d s) = Tied-trans joins (back same s) (Tied-sym joins d)
Tied-sym joins (back d s) = Tied-trans joins (forth same s) (Tied-sym joins d)

pub Tied-one : (joins : ℕ → ℕ → Type 0) {i j : ℕ} → joins i j → Tied joins i j
Tied-one joins s = forth same s

-- what is tied by pairs that are tied otherwise
pub Tied-by : (P Q : ℕ → ℕ → Type 0) → ((i j : ℕ) → P i j → Tied Q i j) → {i j : ℕ} → Tied P i j → Tied Q i j
Tied-by P Q down same = same
Tied-by P Q down (forth {j = j} {k = k} d s) = Tied-trans Q (Tied-by P Q down d) (down j k s)
Tied-by P Q down (back {j = j} {k = k} d s) = Tied-trans Q (Tied-by P Q down d) (Tied-sym Q (down k j s))

-- what is equal at each pair is equal at what they tie
pub Tied-equal : {A : Type 0} (joins : ℕ → ℕ → Type 0) (f : ℕ → A) → ((i j : ℕ) → joins i j → f i ≡ f j) → {i j : ℕ} → Tied joins i j → f i ≡ f j
Tied-equal joins f each same = refl
Tied-equal joins f each (forth {j = j} {k = k} d s) = Tied-equal joins f each d ∙ each j k s
Tied-equal joins f each (back {j = j} {k = k} d s) = Tied-equal joins f each d ∙ sym (each k j s)

pub renewed_refl : (ps : List ℕ) → IsForest ps → IsRenewed ps ps
renewed_refl ps forest = record { same_length = refl; forest = forest; forth = λ i j p. Tied-one (Points ps) p; back = λ i j p. Tied-one (Points ps) p; roots = λ i h. h }

pub renewed_trans : (x y z : List ℕ) → IsRenewed x y → IsRenewed y z → IsRenewed x z
renewed_trans x y z p q =
    record {
      same_length = q.same_length ∙ p.same_length;
      forest = q.forest;
      forth = λ i j h. Tied-by (Points y) (Points z) q.forth (p.forth i j h);
      back = λ i j h. Tied-by (Points y) (Points x) p.back (q.back i j h);
      roots = λ i h. q.roots i (p.roots i h);
    }

-- after a write at `at`
points_same : (ps : List ℕ) (at v : ℕ) → at < length ps → Points (set ps at v) at v
points_same ps at v h = record { within = subst (λ n. at < n) (sym (length-set ps at v)) h; is = get_or-set_same ps at v 0 h }

points_kept : (ps : List ℕ) (at v i j : ℕ) → (i ≡ at → ⊥) → Points ps i j → Points (set ps at v) i j
points_kept ps at v i j other p =
    record { within = subst (λ n. i < n) (sym (length-set ps at v)) p.within; is = get_or-set_other ps at i v 0 other ∙ p.is }

points_old : (ps : List ℕ) (at v i j : ℕ) → (i ≡ at → ⊥) → Points (set ps at v) i j → Points ps i j
points_old ps at v i j other p =
    record { within = subst (λ n. i < n) (length-set ps at v) p.within; is = sym (get_or-set_other ps at i v 0 other) ∙ p.is }

points_there : (ps : List ℕ) (i : ℕ) → i < length ps → Points ps i (get_or ps i 0)
points_there ps i h = record { within = h; is = refl }

pub forest_set : (ps : List ℕ) (at v : ℕ) → IsForest ps → v ≤ at → IsForest (set ps at v)
forest_set ps at v forest low i h =
    let n = length-set ps at v in
    let inside : i < length ps = omega (arith, h, n) in
    ⊎_elim (λ e. subst (λ k. get_or (set ps at v) k 0 ≤ k) (sym e) (let same_there : get_or (set ps at v) at 0 ≡ v = get_or-set_same ps at v 0 (subst (λ k. k < length ps) e inside) in omega (arith, same_there, low)))
    (λ other. let kept : get_or (set ps at v) i 0 ≡ get_or ps i 0 = get_or-set_other ps at i v 0 other in let low : get_or ps i 0 ≤ i = forest i inside in omega (arith, kept, low))
    (cases_eq i at)

-- a thing that isn't a root is hung one higher
pub halved : (ps : List ℕ) (at up above : ℕ) → IsForest ps → at < length ps → get_or ps at 0 ≡ up → (up ≡ at → ⊥) → get_or ps up 0 ≡ above → IsRenewed ps (set ps at above)
halved ps at up above forest inside is_up moved is_above =
    let new : List ℕ = set ps at above in
    let low : up ≤ at = subst (λ k. k ≤ at) is_up (forest at inside) in
    let up_inside : up < length ps = omega (arith, low, inside) in
    let low_above : above ≤ up = subst (λ k. k ≤ up) is_above (forest up up_inside) in
    let first : Points ps at up = record { within = inside; is = is_up } in
    let second : Points ps up above = record { within = up_inside; is = is_above } in
    let there : Points new at above = points_same ps at above inside in
    record {
      same_length = length-set ps at above;
      forest = forest_set ps at above forest (omega (arith, low, low_above));
      forth = λ i j p. ⊎_elim
          (λ e. let is_j : up ≡ j = sym is_up ∙ (ap (λ k. get_or ps k 0) (sym e) ∙ p.is) in
          subst (λ k. Tied (Points new) k j) (sym e) (subst (λ k. Tied (Points new) at k) is_j
          (back (Tied-one (Points new) there) (points_kept ps at above up above moved second))))
          (λ other. Tied-one (Points new) (points_kept ps at above i j other p)) (cases_eq i at);
      back = λ i j p. ⊎_elim
          (λ e. let is_j : above ≡ j = sym there.is ∙ (ap (λ k. get_or new k 0) (sym e) ∙ p.is) in
          subst (λ k. Tied (Points ps) k j) (sym e) (subst (λ k. Tied (Points ps) at k) is_j (forth (Tied-one (Points ps) first) second)))
          (λ other. Tied-one (Points ps) (points_old ps at above i j other p)) (cases_eq i at);
      roots = λ i h. get_or-set_other ps at i above 0 (λ e. moved (sym is_up ∙ (ap (λ k. get_or ps k 0) (sym e) ∙ (h ∙ e)))) ∙ h;
    }

-- a root is hung at a lesser thing
pub linked : (old z : List ℕ) (left right a b at v : ℕ) → IsRenewed old z → Tied (Points z) left a → Tied (Points z) right b →
    get_or z at 0 ≡ at → at < length z → v ≤ at → ((at ≡ b) × (v ≡ a)) ⊎ ((at ≡ a) × (v ≡ b)) → IsLinked old (set z at v) left right
linked old z left right a b at v renewed to_a to_b is_root inside low which =
    let new : List ℕ = set z at v in
    let More : ℕ → ℕ → Type 0 = Also (Points old) left right in
    let there : Points new at v = points_same z at v inside in
    let kept : (i j : ℕ) → Points z i j → Tied (Points new) i j = λ i j p. ⊎_elim
    (λ e. let is_j : at ≡ j = sym is_root ∙ (ap (λ k. get_or z k 0) (sym e) ∙ p.is) in
    subst (λ k. Tied (Points new) k j) (sym e) (subst (λ k. Tied (Points new) at k) is_j same))
    (λ other. Tied-one (Points new) (points_kept z at v i j other p)) (cases_eq i at) in
    let up : (i j : ℕ) → Tied (Points z) i j → Tied (Points new) i j = λ i j d. Tied-by (Points z) (Points new) kept d in
    let down : (i j : ℕ) → Tied (Points z) i j → Tied More i j = λ i j d.
    Tied-by (Points old) More (λ p q h. Tied-one More (inl h)) (Tied-by (Points z) (Points old) renewed.back d) in
    let across : Tied More a b = Tied-trans More (Tied-sym More (down left a to_a)) (Tied-trans More (Tied-one More (inr (refl, refl))) (down right b to_b)) in
    let link : Tied More at v = ⊎_elim
    (λ h. subst (λ k. Tied More k v) (sym h.0) (subst (λ k. Tied More b k) (sym h.1) (Tied-sym More across)))
    (λ h. subst (λ k. Tied More k v) (sym h.0) (subst (λ k. Tied More a k) (sym h.1) across)) which in
    let ends : Tied (Points new) a b = ⊎_elim
    (λ h. Tied-sym (Points new) (subst (λ k. Tied (Points new) k a) h.0 (subst (λ k. Tied (Points new) at k) h.1 (Tied-one (Points new) there))))
    (λ h. subst (λ k. Tied (Points new) k b) h.0 (subst (λ k. Tied (Points new) at k) h.1 (Tied-one (Points new) there))) which in
    record {
      same_length = length-set z at v ∙ renewed.same_length;
      forest = forest_set z at v renewed.forest low;
      kept = λ i j p. up i j (renewed.forth i j p);
      joined = Tied-trans (Points new) (up left a to_a) (Tied-trans (Points new) ends (Tied-sym (Points new) (up right b to_b)));
      sound = λ i j p. ⊎_elim
          (λ e. let is_j : v ≡ j = sym there.is ∙ (ap (λ k. get_or new k 0) (sym e) ∙ p.is) in
          subst (λ k. Tied More k j) (sym e) (subst (λ k. Tied More at k) is_j link))
          (λ other. down i j (Tied-one (Points z) (points_old z at v i j other p))) (cases_eq i at);
    }

unmoved : (ps : List ℕ) (i v : ℕ) → i < length ps → get_or ps i 0 ≡ v → set ps i v ≡ ps
unmoved ps i v inside e = ap (set ps i) (sym e) ∙ set-get_or ps i 0

-- one turn of the last pass
pub flatten_one : (ps : List ℕ) (i above : ℕ) → IsForest ps → i < length ps → AreFlat ps i → above ≡ get_or ps (get_or ps i 0) 0 →
    IsRenewed ps (set ps i above) × AreFlat (set ps i above) (i + 1)
flatten_one ps i above forest inside flat is =
    let new : List ℕ = set ps i above in
    ⊎_elim
    (λ root. let same_list : get_or ps i 0 ≡ above = sym (is ∙ (ap (λ k. get_or ps k 0) root)) in
    let whole : new ≡ ps = unmoved ps i above inside same_list in
    let still : AreFlat ps (i + 1) = below_more _ _ flat (ap (λ k. get_or ps k 0) root) in
    (subst (IsRenewed ps) (sym whole) (renewed_refl ps forest), subst (λ xs. AreFlat xs (i + 1)) (sym whole) still))
    (λ moved. let low : get_or ps i 0 ≤ i = forest i inside in
    let lower : get_or ps i 0 < i = omega (arith, low, moved) in
    let low_above : above ≤ get_or ps i 0 = subst (λ k. k ≤ get_or ps i 0) (sym is) (forest (get_or ps i 0) (omega (arith, low, inside))) in
    let above_root : get_or ps above 0 ≡ above = ap (λ k. get_or ps k 0) is ∙ (flat (get_or ps i 0) lower ∙ sym is) in
    let other : above ≢ i = omega (arith, lower, low_above) in
    let at_above : get_or new above 0 ≡ above = get_or-set_other ps i above above 0 other ∙ above_root in
    let at_i : get_or new i 0 ≡ above = get_or-set_same ps i above 0 inside in (
      halved ps i (get_or ps i 0) above forest inside refl moved (sym is),
      below_more _ _ (λ k h.
          let apart : k ≢ i = omega (arith, h) in
          let low_k : get_or ps k 0 ≤ k = forest k (omega (arith, h, inside)) in
          let apart_up : get_or ps k 0 ≢ i = omega (arith, h, low_k) in
          let e : get_or new k 0 ≡ get_or ps k 0 = get_or-set_other ps i k above 0 apart in
          ap (λ m. get_or new m 0) e ∙ (get_or-set_other ps i (get_or ps k 0) above 0 apart_up ∙ (flat k h ∙ sym e)))
          (ap (λ m. get_or new m 0) at_i ∙ (at_above ∙ sym at_i)),
    ))
    (cases_eq (get_or ps i 0) i)

-- one turn of the walk to a root
pub turned : (old ps : List ℕ) (from at above : ℕ) → IsRenewed old ps → at < length ps → Tied (Points ps) from at → (get_or ps at 0 ≡ at → ⊥) → above ≡ get_or ps (get_or ps at 0) 0 →
    IsRenewed old (set ps at above) × (above < length (set ps at above)) × Tied (Points (set ps at above)) from above
turned old ps from at above renewed inside leads moved is =
    let forest : IsForest ps = renewed.forest in
    let once = halved ps at (get_or ps at 0) above forest inside refl moved (sym is) in
    let low : get_or ps at 0 ≤ at = forest at inside in
    let low_above : above ≤ get_or ps at 0 = subst (λ k. k ≤ get_or ps at 0) (sym is) (forest (get_or ps at 0) (omega (arith, low, inside))) in
    let n : length (set ps at above) ≡ length ps = length-set ps at above in (
      renewed_trans old ps (set ps at above) renewed once,
      omega (arith, low, low_above, inside, n),
      Tied-trans (Points (set ps at above)) (Tied-by (Points ps) (Points (set ps at above)) once.forth leads) (Tied-one (Points (set ps at above)) (points_same ps at above inside)),
    )

-- from the start: each thing hangs at itself
pub across_none : (ps : List ℕ) (ties : List Tie) → IsForest ps → ((i j : ℕ) → Joins ties i j → ⊥) → IsAcross ps ps ties
across_none ps ties forest none = record { same_length = refl; forest = forest; complete = λ i j h. absurd (none i j h); sound = λ i j p. Tied-one (λ a b. Points ps a b ⊎ Joins ties a b) (inl p) }

-- one more tie
pub across_more : (old ps new : List ℕ) (before after : List Tie) (left right : ℕ) → IsAcross old ps before → IsLinked ps new left right →
    ((i j : ℕ) → Joins after i j → Joins before i j ⊎ ((i ≡ left) × (j ≡ right))) → ((i j : ℕ) → Joins before i j → Joins after i j) → Joins after left right → IsAcross old new after
across_more old ps new before after left right a l split more here =
    let All : ℕ → ℕ → Type 0 = λ i j. Points old i j ⊎ Joins after i j in
    let down : (i j : ℕ) → Points ps i j → Tied All i j = λ i j p.
    Tied-by (λ b c. Points old b c ⊎ Joins before b c) All (λ b c h. Tied-one All (⊎_elim (λ o. inl o) (λ t. inr (more b c t)) h)) (a.sound i j p) in
    record {
      same_length = l.same_length ∙ a.same_length;
      forest = l.forest;
      complete = λ i j h. ⊎_elim (λ t. Tied-by (Points ps) (Points new) l.kept (a.complete i j t))
          (λ e. subst (λ k. Tied (Points new) k j) (sym e.0) (subst (λ k. Tied (Points new) left k) (sym e.1) l.joined)) (split i j h);
      sound = λ i j p. Tied-by (Also (Points ps) left right) All
          (λ b c h. ⊎_elim (λ o. down b c o) (λ e. subst (λ k. Tied All k c) (sym e.0) (subst (λ k. Tied All left k) (sym e.1) (Tied-one All (inr here)))) h) (l.sound i j p);
    }

tied_label : (ps : List ℕ) → AreFlat ps (length ps) → (i j : ℕ) → Points ps i j → get_or ps i 0 ≡ get_or ps j 0
tied_label ps flat i j p = sym (flat i p.within) ∙ ap (λ k. get_or ps k 0) p.is

-- what the whole gives, where at first each thing hung at itself
pub all_classes : (start ps labels : List ℕ) (ties : List Tie) (n : ℕ) → length start ≡ n → ((i : ℕ) → i < n → get_or start i 0 ≡ i) →
    IsAcross start ps ties → IsFlattened ps labels → AreClasses (Joins ties) n labels
all_classes start ps labels ties n long self across flattened =
    let renewed = flattened.renewed in
    let same_n : length labels ≡ n = renewed.same_length ∙ (across.same_length ∙ long) in
    record {
      same_length = same_n;
      within = λ i h. let low : get_or labels i 0 ≤ i = renewed.forest i (omega (arith, h, same_n)) in omega (arith, low, h);
      sound = λ i h.
          let here : Points labels i (get_or labels i 0) = points_there labels i (omega (arith, h, same_n)) in
          let in_ps : Tied (Points ps) i (get_or labels i 0) = renewed.back i (get_or labels i 0) here in
          Tied-by (λ b c. Points start b c ⊎ Joins ties b c) (Joins ties)
          (λ b c e. ⊎_elim (λ o. let inside : b < n = omega (arith, o.within, long) in
          subst (λ k. Tied (Joins ties) b k) (sym (self b inside) ∙ o.is) same) (λ t. Tied-one (Joins ties) t) e)
          (Tied-by (Points ps) (λ b c. Points start b c ⊎ Joins ties b c) across.sound in_ps);
      complete = λ i j h. Tied-equal (Points labels) (λ k. get_or labels k 0) (tied_label labels flattened.flat)
          (Tied-by (Points ps) (Points labels) renewed.forth (across.complete i j h));
    }

-- the same, for the next tie of a list
pub across_next : (old ps new : List ℕ) (ties : List Tie) (k : ℕ) (d : Tie) → k < length ties → IsAcross old ps (take k ties) →
    IsLinked ps new (get_or ties k d).left (get_or ties k d).right → IsAcross old new (take (k + 1) ties)
across_next old ps new ties k d inside a l =
    let tie : Tie = get_or ties k d in
    subst (IsAcross old new) (sym (take_more ties k d inside))
    (across_more old ps new (take k ties) (take k ties ++ tie ∷ []) tie.left tie.right a l
    (λ i j h. ⊎_elim (λ before. inl before) (λ e. inr (ap (λ (t : Tie). t.left) (sym e), ap (λ (t : Tie). t.right) (sym e)))
    (Contains-push_cases (take k ties) tie (record { left = i; right = j }) h))
    (λ i j h. Contains-append_left (take k ties) (tie ∷ []) (record { left = i; right = j }) h)
    (Contains-push (take k ties) tie))
