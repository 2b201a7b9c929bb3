-- Lists that several activation inputs share.
use Rattle.std.proofs.Common.{◌≡◌, ◌<◌, ◌+◌, ℕ, List, [], ◌∷◌, ◌++◌, length, map, get_or, Bool, Vec, inl, inr, sym, ap, ◌∙◌, subst, arith}
use Rattle.std.specs.Prelude.{Contains, All, AllPairs, ◌↔◌}
use Rattle.std.specs.declared.alloc.Global.{Global}
use Rattle.std.proofs.lemmas.Bool.{cases_lt}
use Rattle.std.proofs.lemmas.Bool.Decides.{eqb_tells}
use Rattle.std.proofs.lemmas.List.{length-map, get_or-map, map_push, length_push, get_or_push, get_or_append_left}
use Rattle.std.proofs.lemmas.List.Elements.{Contains-get_or}
use Rattle.sci_net.specs.declared.Feed.{Feed}
use Rattle.sci_net.specs.Parts.{rows_of, feed_lists, HaveLists}
use Rattle.sci_blocks.specs.declared.class.PortClass.TheVariants.{ActivationInput, ActivationOutput}
use Rattle.sci_flat.specs.declared.steps.port_numbers.PortNumbers.{PortNumbers}
use Rattle.sci_flat.specs.PortNumbers.{start, count}
use Rattle.sci_flat.specs.Chain.{Chain}
use Rattle.sci_flat.specs.Lists.{list_at}
use Rattle.sci_flat.specs.Reached.{IsWanted, AreReached}
use Rattle.sci_flat.specs.Ends.{numbers_of, ends_of, AreFeeding}
use Rattle.sci_flat.specs.Origins.{AreOrigins, shared}
use Rattle.sci_flat.specs.Sharing.{AreNumbers, AllNumbers}
use Rattle.sci_flat.specs.Wired.{feed_at, seat_of, AreFeeds, AllFed}
use Rattle.sci_flat.proofs.Reaching.{length_ends}
use Rattle.sci_flat.proofs.Origins.{list_shared, list_past}

pub map_has : (f : ℕ → ℕ) (xs : List ℕ) (x : ℕ) → Contains xs x → Contains (map f xs) (f x)
map_has f xs x (k, l, e) = (k, omega (arith, l, length-map xs f), get_or-map f xs k x (f x) l ∙ ap f e)

shared_rises : (lists : List (List ℕ)) (os : List ℕ) → ((q : ℕ) → AllPairs (λ (i : ℕ) (j : ℕ). i < j) (list_at lists q)) → (q : ℕ) → AllPairs (λ (i : ℕ) (j : ℕ). i < j) (list_at (shared lists os) q)
shared_rises lists os rising q =
    let P : List ℕ → Type 0 = AllPairs (λ (i : ℕ) (j : ℕ). i < j) in
    elim (cases_lt q (length os)) [
      | inl l ↦ subst P (sym (list_shared lists os q l)) (rising (get_or os q 0))
      | inr g ↦ subst P (sym (list_past lists os q g)) (λ i j d h l. absurd (omega (arith, l)))
    ]

pub shared_feeding : (ss : List PortNumbers) (es : List (ℕ × ℕ)) (ports : ℕ) (feeds : List Feed) (lists : List (List ℕ)) (os sources : List ℕ) (wanted : List Bool) (targets ends : List ℕ) → feeds ≡ ends_of ActivationOutput 1 ss → sources ≡ numbers_of ActivationOutput ss
    → targets ≡ numbers_of ActivationInput ss → All (λ n. n < ports) (numbers_of ActivationInput ss) → ends ≡ map (λ q. get_or os q 0) targets → ((q : ℕ) → Contains ends q → IsWanted wanted q) → AreOrigins es sources ports os → AreReached es sources wanted lists
    → AreFeeding ss es ports ActivationOutput ActivationInput feeds (shared lists os)
shared_feeding ss es ports feeds lists os sources wanted targets ends f s t low e marks o r = record {
  ends = f;
  long = length-map os (list_at lists) ∙ o.long;
  rising = shared_rises lists os r.rising;
  exactly = λ q i has.
      let inside : q < ports = within q has in
      let is = list_shared lists os q (omega (arith, inside, o.long)) in
      let want = marks (get_or os q 0) (subst (λ (x : List ℕ). Contains x (get_or os q 0)) (sym e) (map_has (λ (x : ℕ). get_or os x 0) targets q (subst (λ (x : List ℕ). Contains x q) (sym t) has))) in
      let S : List ℕ → Type 0 = λ x. Contains (list_at (shared lists os) q) i ↔ ((i < length feeds) × Chain es (get_or x i 0) q) in
      subst S s (
        λ c. let x = (r.exactly (get_or os q 0) i want).0 (subst (λ (l : List ℕ). Contains l i) is c) in (omega (arith, x.0, same), (o.alike q inside (get_or sources i 0) (Contains-get_or sources i 0 x.0)).1 x.1),
        λ x. let l : i < length sources = omega (arith, x.0, same) in
            subst (λ (l : List ℕ). Contains l i) (sym is) ((r.exactly (get_or os q 0) i want).1 (l, (o.alike q inside (get_or sources i 0) (Contains-get_or sources i 0 l)).0 x.1)),
      );
}
  where
    same : length sources ≡ length feeds
    same = ap length s ∙ (length_ends ActivationOutput 1 ss ∙ sym (ap length f))

    within : (q : ℕ) → Contains (numbers_of ActivationInput ss) q → q < ports
    within q (k, l, e) = subst (λ (x : ℕ). x < ports) e (low k q l)

pub ends_within : (ports : ℕ) (os targets ends : List ℕ) → All (λ n. n < ports) targets → ((q : ℕ) → q < ports → get_or os q 0 < ports) → ends ≡ map (λ q. get_or os q 0) targets → All (λ n. n < ports) ends
ends_within ports os targets ends low within e =
    let P : List ℕ → Type 0 = All (λ n. n < ports) in
    subst P (sym e) (λ k d l.
    let h : k < length targets = omega (arith, l, length-map targets (λ (q : ℕ). get_or os q 0)) in
    subst (λ (x : ℕ). x < ports) (sym (get_or-map (λ (q : ℕ). get_or os q 0) targets k 0 d h)) (within (get_or targets k 0) (low k 0 h)))

pub under_all : (ss : List PortNumbers) (es : List (ℕ × ℕ)) (feeds : List Feed) (lists : List (List ℕ)) (sources : List ℕ) (wanted : List Bool) → feeds ≡ ends_of ActivationOutput 1 ss → sources ≡ numbers_of ActivationOutput ss → AreReached es sources wanted lists
    → (q : ℕ) → All (λ i. i < length feeds) (list_at lists q)
under_all ss es feeds lists sources wanted f s r q k d l =
    let same : length sources ≡ length feeds = ap length s ∙ (length_ends ActivationOutput 1 ss ∙ sym (ap length f)) in
    omega (arith, same, r.under q (get_or (list_at lists q) k d) (Contains-get_or (list_at lists q) k d l))

-- ---- the numbers of the lists

pub numbers_more : (os : List ℕ) (s : PortNumbers) (p x : ℕ) (row new : List ℕ) → x ≡ get_or os (start s ActivationInput + p) 0 → new ≡ row ++ x ∷ [] → AreNumbers os s p row → AreNumbers os s (p + 1) new
numbers_more os s p x row new is e t = rw e (record {
  long = length_push row x ∙ omega (arith, t.long);
  each = λ k l. elim (eqb_tells k p) [
    | inl g ↦ ap (λ (y : ℕ). get_or (row ++ x ∷ []) y 0) g.1 ∙ (get_or_push row x 0 p t.long ∙ (is ∙ ap (λ (y : ℕ). get_or os (start s ActivationInput + y) 0) (sym g.1)))
    | inr g ↦ get_or_append_left row (x ∷ []) 0 k (omega (arith, t.long, l, g.1)) ∙ t.each k (omega (arith, l, g.1))
  ];
})

pub all_numbers_more : (os : List ℕ) (ss : List PortNumbers) (b : ℕ) (row : List ℕ) (rows new : List (List ℕ)) → AreNumbers os (seat_of ss b) (count (seat_of ss b) ActivationInput) row → new ≡ rows ++ row ∷ [] → AllNumbers os ss b rows → AllNumbers os ss (b + 1) new
all_numbers_more os ss b row rows new one e t = rw e (record {
  long = length_push rows row ∙ omega (arith, t.long);
  each = λ k l. elim (eqb_tells k b) [
    | inl g ↦
        let P : ℕ → Type 0 = λ x. AreNumbers os (seat_of ss x) (count (seat_of ss x) ActivationInput) (get_or (rows ++ row ∷ []) x []) in
        let Q : List ℕ → Type 0 = AreNumbers os (seat_of ss b) (count (seat_of ss b) ActivationInput) in
        subst P (sym g.1) (subst Q (sym (get_or_push rows row [] b t.long)) one)
    | inr g ↦
        let Q : List ℕ → Type 0 = AreNumbers os (seat_of ss k) (count (seat_of ss k) ActivationInput) in
        subst Q (sym (get_or_append_left rows (row ∷ []) [] k (omega (arith, t.long, l, g.1)))) (t.each k (omega (arith, l, g.1)))
  ];
})

pub number_rows_push : (rows new : List (Vec ℕ Global)) (row : Vec ℕ Global) → new ≡ rows ++ row ∷ [] → rows_of new ≡ rows_of rows ++ row.items ∷ []
number_rows_push rows new row e = ap (rows_of {A = ℕ}) e ∙ map_push (λ (v : Vec ℕ Global). v.items) rows row

-- ---- the feeds as a whole

module _ (feeds : List Feed) (lists : List (List ℕ)) (os : List ℕ) (ss : List PortNumbers) (rows : List (List ℕ)) (all : AllNumbers os ss (length ss) rows)
    (inside : (b p : ℕ) → b < length ss → p < count (seat_of ss b) ActivationInput → start (seat_of ss b) ActivationInput + p < length os) (within : All (λ o. o < length lists) os) where
  low : (b p : ℕ) → b < length ss → p < count (seat_of ss b) ActivationInput → get_or os (start (seat_of ss b) ActivationInput + p) 0 < length lists
  low b p h l = within (start (seat_of ss b) ActivationInput + p) 0 (inside b p h l)

  number_is : (b p : ℕ) → b < length ss → p < count (seat_of ss b) ActivationInput → get_or (get_or rows b []) p 0 ≡ get_or os (start (seat_of ss b) ActivationInput + p) 0
  number_is b p h l = (all.each b h).each p l

  pub have_lists : (n : ℕ) → n ≡ length lists → HaveLists n rows
  have_lists n e b p h l =
      let hb : b < length ss = omega (arith, h, all.long) in
      let hp : p < count (seat_of ss b) ActivationInput = omega (arith, l, (all.each b hb).long) in
      omega (arith, number_is b p hb hp, low b p hb hp, e)

  pub all_fed : (found : List (List Feed)) → found ≡ map (map (feed_at feeds)) lists → AllFed feeds (shared lists os) ss (length ss) (feed_lists found rows)
  all_fed found e = record {
    long = length-map rows _ ∙ all.long;
    each = λ b h.
        let row_is : get_or (feed_lists found rows) b [] ≡ map (λ (k : ℕ). get_or found k []) (get_or rows b []) = get_or-map (λ (ks : List ℕ). map (λ (k : ℕ). get_or found k []) ks) rows b [] [] (omega (arith, h, all.long)) in
        let P : List (List Feed) → Type 0 = AreFeeds feeds (shared lists os) (seat_of ss b) (count (seat_of ss b) ActivationInput) in
        subst P (sym row_is) (record { long = length-map (get_or rows b []) _ ∙ (all.each b h).long; each = λ p l. one b p h l });
  }
    where
      one : (b p : ℕ) → b < length ss → p < count (seat_of ss b) ActivationInput → get_or (map (λ (k : ℕ). get_or found k []) (get_or rows b [])) p [] ≡ map (feed_at feeds) (list_at (shared lists os) (start (seat_of ss b) ActivationInput + p))
      one b p h l =
          let o = get_or os (start (seat_of ss b) ActivationInput + p) 0 in
          get_or-map (λ (k : ℕ). get_or found k []) (get_or rows b []) p 0 [] (omega (arith, l, (all.each b h).long))
          ∙ (ap (λ (k : ℕ). get_or found k []) (number_is b p h l)
          ∙ (ap (λ (x : List (List Feed)). get_or x o []) e
          ∙ (get_or-map (map (feed_at feeds)) lists o [] [] (low b p h l)
          ∙ ap (map (feed_at feeds)) (sym (list_shared lists os (start (seat_of ss b) ActivationInput + p) (inside b p h l))))))
