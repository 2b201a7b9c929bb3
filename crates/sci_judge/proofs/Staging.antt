-- A block is done: what is ready then.
use Rattle.std.proofs.Common.{◌≡◌, ℕ, ◌+◌, ◌<◌, ◌==◌, Bool, true, false, ⊎_elim, List, [], ◌∷◌, ◌++◌, length, get_or, Contains, All, eqb, refl, sym, ap, subst, ◌∙◌, arith, append_assoc}
use Rattle.std.specs.List.{IsDistinct, filter}
use Rattle.std.proofs.lemmas.Bool.{cases_Bool, eqb-true, eq-eqb}
use Rattle.std.proofs.lemmas.List.Elements.{Contains-append_left, Contains-append_right, Contains-append_cases, Contains-get_or}
use Rattle.sci_loop.specs.declared.table.DepTable.{DepTable}
use Rattle.sci_loop.specs.Table.{IsTable}
use Rattle.sci_loop.specs.Lists.{list_at}
use Rattle.sci_reaction.proofs.Lists.{once}
use Rattle.sci_reaction.proofs.Rows.{Contains-has, has-Contains}
use Rattle.sci_judge.specs.Rounds.{AreWaiting, IsReleased, IsStage, needs_at, open_among, count_at}
use Rattle.sci_judge.proofs.Members.{has, hasnt, append_distinct, filter_distinct, filter_from, filter_to, needs_distinct, needs_of_place, needs_member, place}
use Rattle.sci_judge.proofs.Releasing.{one_if, open_step}

has_same : (xs ys : List ℕ) (p q : ℕ) → (Contains xs p → Contains ys q) → (Contains ys q → Contains xs p) → has xs p ≡ has ys q
has_same xs ys p q to from =
    ⊎_elim (λ on. on ∙ sym (Contains-has ys q (to (has-Contains xs p on))))
    (λ off. off ∙ sym (hasnt ys q (λ h. absurd_of off (Contains-has xs p (from h))))) (cases_Bool (has xs p))
  where
    absurd_of : {x : Bool} → x ≡ false → x ≡ true → ⊥
    absurd_of off on = let e = sym on ∙ off in cc

all_from : (P : ℕ → Type 0) (xs : List ℕ) → ((x : ℕ) → Contains xs x → P x) → All P xs
all_from P xs h k d l = h (get_or xs k d) (Contains-get_or xs k d l)

module _ (t : DepTable) (ok : IsTable t) (count : ℕ) (below : All (λ b. b < count) t.members.items) (lists : List (List ℕ)) (waiting : AreWaiting t count lists)
    (done rest counts : List ℕ) (b : ℕ) (stage : IsStage t done (b ∷ rest) counts) where
  abbrev ws : List ℕ
  ws = list_at lists b

  fresh : has done b ≡ false
  fresh = hasnt done b (λ h. once done rest b stage.once (Contains-has done b h))

  -- a member waits for b where it needs it
  same_test : (i : ℕ) → i < length t.members.items → has ws (get_or t.members.items i 0) ≡ has (needs_at t i) b
  same_test i l =
      let n = needs_of_place t ok i l (get_or t.members.items i 0) b refl in
      has_same ws (needs_at t i) (get_or t.members.items i 0) b (λ h. n.1 ((waiting.exactly b (get_or t.members.items i 0)).0 h))
      (λ h. (waiting.exactly b (get_or t.members.items i 0)).1 (n.0 h))

  open_less : (i : ℕ) → i < length t.members.items
      → open_among (done ++ b ∷ []) (needs_at t i) + one_if (has ws (get_or t.members.items i 0)) ≡ count_at counts (get_or t.members.items i 0)
  open_less i l =
      ap (λ u. open_among (done ++ b ∷ []) (needs_at t i) + one_if u) (same_test i l)
      ∙ open_step done b (needs_at t i) (needs_distinct t ok i l) fresh ∙ sym (stage.counts_are i l)

  waits_member : (w : ℕ) → Contains ws w → Contains t.members.items w
  waits_member w h = needs_member t w b ((waiting.exactly b w).0 h)

  some_here : (w : ℕ) → Contains ws w → (i : ℕ) × (i < length t.members.items) × (get_or t.members.items i 0 ≡ w) → 0 < count_at counts w
  some_here w h p =
      let less = open_less p.0 p.1 in
      let on : one_if (has ws (get_or t.members.items p.0 0)) ≡ 1 = ap (λ u. one_if u) (Contains-has ws (get_or t.members.items p.0 0) (subst (Contains ws) (sym p.2) h)) in
      let some : 0 < count_at counts (get_or t.members.items p.0 0) = omega (arith, less, on) in
      subst (λ v. 0 < count_at counts v) p.2 some

  pub release_some : All (λ w. 0 < count_at counts w) ws
  release_some = all_from (λ w. 0 < count_at counts w) ws (λ w h. some_here w h (place t.members.items w (waits_member w h)))

  pub release_within : All (λ w. w < count) ws
  release_within = all_from (λ w. w < count) ws (λ w h. within w (place t.members.items w (waits_member w h)))
    where
      within : (w : ℕ) → (i : ℕ) × (i < length t.members.items) × (get_or t.members.items i 0 ≡ w) → w < count
      within w p = subst (λ v. v < count) p.2 (below p.0 0 p.1)

  module _ (after : List ℕ) (released : IsReleased ws counts after) where
    abbrev new : List ℕ
    new = filter (λ w. count_at counts w == 1) ws

    new_one : (w : ℕ) → Contains new w → Contains ws w × (count_at counts w ≡ 1)
    new_one w h = let r = filter_from (λ v. count_at counts v == 1) ws w h in (r.0, eqb-true (count_at counts w) 1 r.1)

    queue : (done ++ b ∷ rest) ++ new ≡ (done ++ b ∷ []) ++ (rest ++ new)
    queue = ap (λ xs. xs ++ new) (sym (append_assoc done (b ∷ []) rest)) ∙ append_assoc (done ++ b ∷ []) rest new

    old_zero : (m : ℕ) → Contains (done ++ b ∷ rest) m → count_at counts m ≡ 0
    old_zero m h = (stage.ready_are m (stage.members m h)).0 h

    zero_to : (m : ℕ) → Contains ((done ++ b ∷ rest) ++ new) m → count_at after m ≡ 0
    zero_to m h =
        ⊎_elim (λ old. let z = old_zero m old in let e = released.each m in omega (arith, z, e))
        (λ fresh_one. let one = new_one m fresh_one in let e = released.each m in
        let on : one_if (has ws m) ≡ 1 = ap (λ u. one_if u) (Contains-has ws m one.0) in
        let is = one.1 in omega (arith, is, e, on))
        (Contains-append_cases (done ++ b ∷ rest) new m h)

    zero_from : (m : ℕ) → Contains t.members.items m → count_at after m ≡ 0 → Contains ((done ++ b ∷ rest) ++ new) m
    zero_from m member none =
        ⊎_elim
        (λ on. let x : one_if (has ws m) ≡ 1 = ap (λ u. one_if u) on in let e = released.each m in
        Contains-append_right (done ++ b ∷ rest) new m
        (filter_to (λ v. count_at counts v == 1) ws m (has-Contains ws m on) (eq-eqb (count_at counts m) 1 (omega (arith, x, e, none)))))
        (λ off. let x : one_if (has ws m) ≡ 0 = ap (λ u. one_if u) off in let e = released.each m in
        Contains-append_left (done ++ b ∷ rest) new m ((stage.ready_are m member).1 (omega (arith, x, e, none))))
        (cases_Bool (has ws m))

    pub stage_more : IsStage t (done ++ b ∷ []) (rest ++ new) after
    stage_more = record {
      counts_are = λ i l. let e = released.each (get_or t.members.items i 0) in let o = open_less i l in omega (arith, e, o);
      members = λ m h. ⊎_elim (stage.members m) (λ one. waits_member m (new_one m one).0)
          (Contains-append_cases (done ++ b ∷ rest) new m (subst (λ xs. Contains xs m) (sym queue) h));
      ready_are = λ m member. (
        (λ h. zero_to m (subst (λ xs. Contains xs m) (sym queue) h)),
        λ none. subst (λ xs. Contains xs m) queue (zero_from m member none),
      );
      once = subst (IsDistinct eqb) queue
          (append_distinct (done ++ b ∷ rest) new stage.once (filter_distinct (λ w. count_at counts w == 1) ws (waiting.once b))
          (λ q old one. let z = old_zero q old in let o = (new_one q one).1 in omega (arith, z, o)));
    }
