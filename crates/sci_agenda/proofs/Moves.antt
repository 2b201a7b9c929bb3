-- Nodes that are moved as now moves.
use Rattle.std.proofs.Common.{◌≡◌, ◌≢◌, ◌<◌, ◌≤◌, ◌+◌, ◌/◌, ◌%◌, ◌==◌, ◌⊎◌, inl, inr, ℕ, true, false, List, [], ◌∷◌, ◌++◌, length, Some, None, refl, sym, ◌∙◌, ap, subst, arith, append_assoc, append-nil, length-set}
use Rattle.sci_links.specs.Table.{Table, IsTable, Distinct, chain, list_of, has, counted, pushed, popped, first as first_node, rest}
use Rattle.sci_links.proofs.TestLemmas.{known, eq_true, eq_false, has_here, has_there}
use Rattle.sci_agenda.specs.Chained.{date_at, events_of}
use Rattle.sci_agenda.specs.Wheel.{in_order, all_nodes, weight, place, at_date, Moving, Turned, Placed}
use Rattle.sci_agenda.proofs.Sorting.{Event, AllFrom, from-sorted, at-append, at_here, at_other, same_sorted}
use Rattle.sci_agenda.proofs.Chains.{events_push}
use Rattle.sci_agenda.proofs.Places.{stays, falls, steady, alone, place_now}
use Rattle.sci_agenda.proofs.Wheels.{none_at, sorted_order, at_order, chain_here, chain_other, has-push, has-rest, in_changed}
use Rattle.sci_agenda.proofs.WheelSteps.{weight_less, weight_more, first_has, first_cons, unique}
use Rattle.sci_agenda.proofs.ChainSteps.{option_cases}

module _ (t u w v : Table) (ds : List ℕ) (pl : ℕ → ℕ) (p q x : ℕ) (m : Moving t u ds pl p) (f : first_node (chain u p) ≡ Some x)
    (hp : p < length u.lists) (hq : q < length u.lists) (lower : q / 256 < p / 256) (pq : q ≡ pl (date_at ds x)) (ew : w ≡ popped u p) (ev : v ≡ pushed w q x) where
  ne_qp : q ≢ p
  ne_qp e = absurd (let g : q / 256 ≡ p / 256 = ap (λ (j : ℕ). j / 256) e in omega arith)

  len_w : length w.lists ≡ length u.lists
  len_w = ap (λ (r : Table). length r.lists) ew ∙ length-set u.lists p (rest (chain u p))

  w_here : chain w p ≡ rest (chain u p)
  w_here = ap (λ (r : Table). chain r p) ew ∙ chain_here u p (rest (chain u p)) hp

  w_other : (k : ℕ) → k ≢ p → chain w k ≡ chain u k
  w_other k ne = ap (λ (r : Table). chain r k) ew ∙ chain_other u p k (rest (chain u p)) ne

  v_here : chain v q ≡ chain u q ++ x ∷ []
  v_here = ap (λ (r : Table). chain r q) ev ∙ (chain_here w q (chain w q ++ x ∷ []) (let g = len_w in omega arith) ∙ ap (λ (l : List ℕ). l ++ x ∷ []) (w_other q ne_qp))

  v_other : (k : ℕ) → k ≢ q → chain v k ≡ chain w k
  v_other k ne = ap (λ (r : Table). chain r k) ev ∙ chain_other w q k (chain w q ++ x ∷ []) ne

  v_left : chain v p ≡ rest (chain u p)
  v_left = v_other p (λ e. ne_qp (sym e)) ∙ w_here

  v_rest : (k : ℕ) → k ≢ q → k ≢ p → chain v k ≡ chain u k
  v_rest k nq np = v_other k nq ∙ w_other k np

  -- where a node of v was in u
  back : (k z : ℕ) → has z (chain v k) ≡ true → ((k ≡ q) × (z ≡ x)) ⊎ (has z (chain u k) ≡ true)
  back k z h = elim (known (k == q)) [
    | inl a ↦ (let e : k ≡ q = eq_true k q a in
        elim (has-push z x (chain u q) (sym (ap (has z) v_here) ∙ (ap (λ (j : ℕ). has z (chain v j)) (sym e) ∙ h))) [
          | inl b ↦ inr (ap (λ (j : ℕ). has z (chain u j)) e ∙ b)
          | inr b ↦ inl (e, b)
        ])
    | inr a ↦ elim (known (k == p)) [
      | inl b ↦ (let e : k ≡ p = eq_true k p b in
          inr (ap (λ (j : ℕ). has z (chain u j)) e ∙ has-rest z (chain u p) (sym (ap (has z) v_left) ∙ (ap (λ (j : ℕ). has z (chain v j)) (sym e) ∙ h))))
      | inr b ↦ inr (sym (ap (has z) (v_rest k (eq_false k q a) (eq_false k p b))) ∙ h)
    ]
  ]

  kept_here : (d : ℕ) → pl d ≢ p → at_date d (events_of ds (chain v (pl d))) ++ at_date d (events_of ds (chain v p))
      ≡ at_date d (events_of ds (chain u (pl d))) ++ at_date d (events_of ds (chain u p))
  kept_here d ne =
      let e : Event = (date_at ds x, x + 1) in
      let xs : List ℕ = rest (chain u p) in
      let up : at_date d (events_of ds (chain u p)) ≡ at_date d (e ∷ events_of ds xs) = ap (λ (l : List ℕ). at_date d (events_of ds l)) (first_cons (chain u p) x f) in
      let vp : at_date d (events_of ds (chain v p)) ≡ at_date d (events_of ds xs) = ap (λ (l : List ℕ). at_date d (events_of ds l)) v_left in
      elim (known (pl d == q)) [
        | inl a ↦ (let g : pl d ≡ q = eq_true (pl d) q a in
            let vq : at_date d (events_of ds (chain v (pl d))) ≡ at_date d (events_of ds (chain u (pl d))) ++ at_date d (e ∷ []) =
            ap (λ (j : ℕ). at_date d (events_of ds (chain v j))) g ∙ (ap (λ (l : List ℕ). at_date d (events_of ds l)) v_here
            ∙ (ap (at_date d) (events_push ds (chain u q) (x ∷ [])) ∙ (at-append d (events_of ds (chain u q)) (e ∷ [])
            ∙ ap (λ (j : ℕ). at_date d (events_of ds (chain u j)) ++ at_date d (e ∷ [])) (sym g)))) in
            ap (λ (l : List Event). l ++ at_date d (events_of ds (chain v p))) vq
            ∙ (ap (λ (l : List Event). (at_date d (events_of ds (chain u (pl d))) ++ at_date d (e ∷ [])) ++ l) vp
            ∙ (append_assoc (at_date d (events_of ds (chain u (pl d)))) (at_date d (e ∷ [])) (at_date d (events_of ds xs))
            ∙ ap (λ (l : List Event). at_date d (events_of ds (chain u (pl d))) ++ l) (sym (at-append d (e ∷ []) (events_of ds xs)) ∙ sym up))))
        | inr a ↦ (let g : pl d ≢ q = eq_false (pl d) q a in
            let other : date_at ds x ≢ d = λ r. g (sym (pq ∙ ap pl r)) in
            ap (λ (l : List ℕ). at_date d (events_of ds l) ++ at_date d (events_of ds (chain v p))) (v_rest (pl d) g ne)
            ∙ ap (λ (l : List Event). at_date d (events_of ds (chain u (pl d))) ++ l) (vp ∙ (sym (at_other d e (events_of ds xs) other) ∙ sym up)))
      ]

  spent_here : v.work + weight 0 v.lists ≤ u.work + weight 0 u.lists
  spent_here =
      let wl = weight_less u p (rest (chain u p)) hp (let g = ap length (first_cons (chain u p) x f) in omega arith) in
      let ww : weight 0 w.lists ≡ weight 0 (popped u p).lists = ap (λ (r : Table). weight 0 r.lists) ew in
      let vw : weight 0 v.lists ≡ weight 0 (pushed w q x).lists = ap (λ (r : Table). weight 0 r.lists) ev in
      let vm = weight_more w q x (let g = len_w in omega arith) in
      let wk : w.work ≡ counted u.work = ap (λ (r : Table). r.work) ew in
      let vk : v.work ≡ counted w.work = ap (λ (r : Table). r.work) ev in
      omega arith

  pub moved_one : Moving t v ds pl p
  moved_one = record {
    lists = ap (λ (r : Table). length r.lists) ev ∙ (length-set w.lists q (chain w q ++ x ∷ []) ∙ (len_w ∙ m.lists));
    nodes = ap (λ (r : Table). r.nodes) ev ∙ (ap (λ (r : Table). r.nodes) ew ∙ m.nodes);
    spent = (let a = spent_here in let b = m.spent in omega arith);
    before = λ k z h. elim (back k z h) [
      | inl a ↦ m.before p z (ap (λ (j : ℕ). has j (chain u p)) a.1 ∙ first_has (chain u p) x f)
      | inr a ↦ m.before k z a
    ];
    left = λ z h. m.left z (has-rest z (chain u p) (sym (ap (has z) v_left) ∙ h));
    placed = λ k z ne h. elim (back k z h) [
      | inl a ↦ inr (ap (λ (j : ℕ). pl (date_at ds j)) a.1 ∙ (sym pq ∙ sym a.0))
      | inr a ↦ m.placed k z ne a
    ];
    kept = λ d ne. kept_here d ne ∙ m.kept d ne;
  }

  pub moved_smaller : length (chain v p) < length (chain u p)
  moved_smaller = let a = ap length v_left in let b = ap length (first_cons (chain u p) x f) in omega arith

-- the whole turn
module _ (t u : Table) (ds : List ℕ) (now d : ℕ) (table : IsTable u) (k : Placed t ds (place now)) (from : now ≤ d)
    (least : (l x : ℕ) → has x (chain t l) ≡ true → d ≤ date_at ds x) (until : (l x : ℕ) → has x (chain t l) ≡ true → date_at ds x < now + 2147483648)
    (far : 256 ≤ place now d) (m : Moving t u ds (place d) (place now d)) (empty : chain u (place now d) ≡ []) where
  turn_placed : Placed u ds (place d)
  turn_placed l x h = elim (known (l == place now d)) [
    | inl a ↦ (let e : l ≡ place now d = eq_true l (place now d) a in
        let g : false ≡ true = sym (ap (has x) empty) ∙ (ap (λ (j : ℕ). has x (chain u j)) (sym e) ∙ h) in absurd (cc))
    | inr a ↦ (let ne : l ≢ place now d = eq_false l (place now d) a in
        elim (m.placed l x ne h) [
          | inl b ↦ (let s : place now (date_at ds x) ≡ l = k l x b in
              stays now d (date_at ds x) from (least l x b) (until l x b) (λ r. ne (sym s ∙ r)) ∙ s)
          | inr b ↦ b
        ])
  ]

  turn_at : (q : ℕ) → at_date q (events_of ds (chain u (place d q))) ≡ at_date q (events_of ds (chain t (place now q)))
  turn_at q = elim (known (place d q == place now d)) [
    | inl a ↦ (let e : place d q ≡ place now d = eq_true (place d q) (place now d) a in
        ap (λ (l : List ℕ). at_date q (events_of ds l)) (ap (chain u) e ∙ empty)
        ∙ sym (none_at ds (chain t (place now q)) q (λ z h r.
        let lo : d ≤ q = subst (λ (j : ℕ). d ≤ j) r (least (place now q) z h) in
        let hi : q < now + 2147483648 = subst (λ (j : ℕ). j < now + 2147483648) r (until (place now q) z h) in
        elim (known (place now q == place now d)) [
          | inl b ↦ (let g = falls now d q from lo hi far (eq_true (place now q) (place now d) b) in
              let e2 : place d q / 256 ≡ place now d / 256 = ap (λ (j : ℕ). j / 256) e in absurd (omega arith))
          | inr b ↦ (let ne = eq_false (place now q) (place now d) b in ne (sym (stays now d q from lo hi ne) ∙ e))
        ])))
    | inr a ↦ (let ne : place d q ≢ place now d = eq_false (place d q) (place now d) a in
        let start : at_date q (events_of ds (chain u (place d q))) ≡ at_date q (events_of ds (chain t (place d q))) ++ at_date q (events_of ds (chain t (place now d))) =
        sym (append-nil (at_date q (events_of ds (chain u (place d q)))))
        ∙ (ap (λ (l : List ℕ). at_date q (events_of ds (chain u (place d q))) ++ at_date q (events_of ds l)) (sym empty) ∙ m.kept q ne) in
        start ∙ elim (known (place now q == place now d)) [
          | inl b ↦ (let e : place now q ≡ place now d = eq_true (place now q) (place now d) b in
              let none : at_date q (events_of ds (chain t (place d q))) ≡ [] = none_at ds (chain t (place d q)) q (λ z h r. ne (sym (sym (ap (place now) r) ∙ k (place d q) z h) ∙ e)) in
              ap (λ (l : List Event). l ++ at_date q (events_of ds (chain t (place now d)))) none ∙ ap (λ (j : ℕ). at_date q (events_of ds (chain t j))) (sym e))
          | inr b ↦ (let nd : place now q ≢ place now d = eq_false (place now q) (place now d) b in
              let none : at_date q (events_of ds (chain t (place now d))) ≡ [] = none_at ds (chain t (place now d)) q (λ z h r. nd (sym (ap (place now) r) ∙ k (place now d) z h)) in
              ap (λ (l : List Event). at_date q (events_of ds (chain t (place d q))) ++ l) none ∙ (append-nil (at_date q (events_of ds (chain t (place d q))))
              ∙ elim (known (place d q == place now q)) [
                | inl c ↦ ap (λ (j : ℕ). at_date q (events_of ds (chain t j))) (eq_true (place d q) (place now q) c)
                | inr c ↦ (let nc : place d q ≢ place now q = eq_false (place d q) (place now q) c in
                    none_at ds (chain t (place d q)) q (λ z h r. nc (sym (sym (ap (place now) r) ∙ k (place d q) z h)))
                    ∙ sym (none_at ds (chain t (place now q)) q (λ z h r.
                    let lo : d ≤ q = subst (λ (j : ℕ). d ≤ j) r (least (place now q) z h) in
                    let hi : q < now + 2147483648 = subst (λ (j : ℕ). j < now + 2147483648) r (until (place now q) z h) in
                    nc (stays now d q from lo hi nd))))
              ]))
        ])
  ]

  pub turned : Turned t u ds d
  turned = record {
    table = table;
    lists = m.lists;
    nodes = m.nodes;
    spent = m.spent;
    before = m.before;
    placed = turn_placed;
    order = same_sorted (in_order ds u.lists) (in_order ds t.lists) (sorted_order ds u.lists) (sorted_order ds t.lists)
        (λ q. at_order u ds (place d) turn_placed q ∙ (turn_at q ∙ sym (at_order t ds (place now) k q)));
  }

pub not_turned : (t : Table) (ds : List ℕ) (now d : ℕ) → IsTable t → Placed t ds (place now) → now ≤ d → place now d < 256 → Turned t t ds d
not_turned t ds now d table k from near = record {
  table = table;
  lists = refl;
  nodes = refl;
  spent = omega arith;
  before = λ l x h. (l, h);
  placed = λ l x h. steady now d (date_at ds x) from near ∙ k l x h;
  order = refl;
}

pub all_from : (ds xs : List ℕ) (d : ℕ) → ((x : ℕ) → has x xs ≡ true → d ≤ date_at ds x) → AllFrom d (events_of ds xs)
all_from ds [] d f = tt
all_from ds (x ∷ xs) d f = (f x (has_here x x xs refl), all_from ds xs d (λ z h. f z (has_there z x xs h)))

-- the first of the list of now is the first of all
module _ (t u : Table) (ds : List ℕ) (d x : ℕ) (k : Placed t ds (place d)) (f : first_node (chain t (d % 256)) ≡ Some x) (hl : d % 256 < length t.lists) (eu : u ≡ popped t (d % 256))
    (low : (z : ℕ) → has z (all_nodes u.lists) ≡ true → d ≤ date_at ds z) where
  stood : (l z : ℕ) → has z (chain u l) ≡ true → has z (chain t l) ≡ true
  stood l z h = elim (in_changed t (d % 256) (rest (chain t (d % 256))) l z hl (sym (ap (λ (r : Table). has z (chain r l)) eu) ∙ h)) [
    | inl a ↦ ap (λ (j : ℕ). has z (chain t j)) a.0 ∙ has-rest z (chain t (d % 256)) a.1
    | inr a ↦ a.1
  ]

  pub take_placed : Placed u ds (place d)
  take_placed l z h = k l z (stood l z h)

  pub take_date : date_at ds x ≡ d
  take_date = alone d (date_at ds x) (k (d % 256) x (first_has (chain t (d % 256)) x f))

  rest_from : AllFrom d (in_order ds u.lists)
  unfolding in_order
  rest_from = from-sorted d (events_of ds (all_nodes u.lists)) (all_from ds (all_nodes u.lists) d low)

  pub take_order : in_order ds t.lists ≡ (d, x + 1) ∷ in_order ds u.lists
  take_order = same_sorted (in_order ds t.lists) ((d, x + 1) ∷ in_order ds u.lists) (sorted_order ds t.lists) (rest_from, sorted_order ds u.lists)
      (λ q. at_order t ds (place d) k q ∙ elim (known (d == q)) [
        | inl a ↦ (let e : d ≡ q = eq_true d q a in
            subst (λ (j : ℕ). at_date j (events_of ds (chain t (place d j))) ≡ at_date j ((d, x + 1) ∷ in_order ds u.lists)) e
            (ap (λ (l : List ℕ). at_date d (events_of ds l)) (ap (chain t) (place_now d) ∙ first_cons (chain t (d % 256)) x f)
            ∙ (at_here d (date_at ds x, x + 1) (events_of ds (rest (chain t (d % 256)))) take_date
            ∙ (ap (λ (v : ℕ). (v, x + 1) ∷ at_date d (events_of ds (rest (chain t (d % 256))))) take_date
            ∙ (ap (λ (l : List ℕ). (d, x + 1) ∷ at_date d (events_of ds l)) (sym (ap (chain u) (place_now d) ∙ (ap (λ (r : Table). chain r (d % 256)) eu ∙ chain_here t (d % 256) (rest (chain t (d % 256))) hl)))
            ∙ sym (at_here d (d, x + 1) (in_order ds u.lists) refl ∙ ap (λ (l : List Event). (d, x + 1) ∷ l) (at_order u ds (place d) take_placed d)))))))
        | inr a ↦ (let ne : d ≢ q = eq_false d q a in
            let other : place d q ≢ d % 256 = λ r. ne (sym (alone d q r)) in
            ap (λ (l : List ℕ). at_date q (events_of ds l)) (sym (ap (λ (r : Table). chain r (place d q)) eu ∙ chain_other t (d % 256) (place d q) (rest (chain t (d % 256))) other))
            ∙ sym (at_other q (d, x + 1) (in_order ds u.lists) ne ∙ at_order u ds (place d) take_placed q))
      ])

pub popped_free : (t u : Table) (l x : ℕ) → IsTable t → IsTable u → l < length t.lists → first_node (chain t l) ≡ Some x → u ≡ popped t l → list_of u x ≡ None
popped_free t u l x k j hl f e = elim (option_cases (list_of u x)) [
  | inl a ↦ a
  | inr a ↦ (let h = (j.held a.0 x a.1).0 in
      let no : has x (rest (chain t l)) ≡ false = (subst Distinct (first_cons (chain t l) x f) (k.distinct l)).0 in
      elim (in_changed t l (rest (chain t l)) a.0 x hl (sym (ap (λ (r : Table). has x (chain r a.0)) e) ∙ h)) [
        | inl b ↦ (let g : false ≡ true = sym no ∙ b.1 in absurd (cc))
        | inr b ↦ absurd (b.0 (unique t k x a.0 l b.1 (first_has (chain t l) x f)))
      ])
]
