-- A search, step by step.
use Rattle.std.proofs.Common.{◌≡◌, ◌≢◌, ◌<◌, ◌+◌, ℕ, zero, suc, List, [], ◌∷◌, ◌++◌, length, Bool, true, false, not, ◌&&◌, inl, inr, refl, sym, ap, ◌∙◌, subst, arith, Vec, get_or, get_or-set_same, get_or-set_other, length-set, length-append, true≢false}
use Rattle.std.proofs.Math.ListN.{set}
use Rattle.std.specs.Prelude.{Contains, ◌==◌, Option, Some, None, MatchOption}
use Rattle.std.specs.declared.alloc.Global.{Global}
use Rattle.std.proofs.lemmas.Bool.Decides.{eqb_tells, nat_tests}
use Rattle.std.proofs.lemmas.List.{append-nil, length-map}
use Rattle.std.proofs.lemmas.List.Elements.{Contains-append_left, Contains-push, Contains-push_cases}
use Rattle.sci_flat.specs.declared.reach.search.FeedSearch.{FeedSearch}
use Rattle.sci_flat.specs.Lists.{Lists, plain, lists_of, list_at}
use Rattle.sci_flat.specs.Search.{Path, stay, onward, IsStamped, is_stamped, is_wanted, one_if, unstamped, Enters, Visits, Walking, Walks, IsReady}

eq_true : (a b : ℕ) → a ≡ b → (a == b) ≡ true
eq_true a b e = grind (arith, nat_tests)

eq_false : (a b : ℕ) → a ≢ b → (a == b) ≡ false
eq_false a b e = grind (arith, nat_tests)

true_eq : (a b : ℕ) → (a == b) ≡ true → a ≡ b
true_eq a b e = grind (arith, nat_tests)

plain_long : (v : Lists) → length (lists_of v) ≡ length v.items
plain_long v = length-map v.items _

-- a stamp is put only on ports that are there
pub stamped_inside : (ts : List ℕ) (s q : ℕ) → 0 < s → IsStamped ts s q → q < length ts
stamped_inside [] s q h e = absurd (omega arith)
stamped_inside (t ∷ ts) s zero h e = omega arith
stamped_inside (t ∷ ts) s (suc q) h e = omega (arith, stamped_inside ts s q h e)

-- one more has the stamp
count_set : (s : ℕ) (ts : List ℕ) (q : ℕ) → q < length ts → get_or ts q 0 ≢ s → suc (unstamped s (set ts q s)) ≡ unstamped s ts
count_set s [] q h differs = absurd (omega arith)
count_set s (t ∷ ts) zero h differs = rw (eq_true s s refl, eq_false t s differs) (omega arith)
count_set s (t ∷ ts) (suc q) h differs = let r = count_set s ts q (omega arith) differs in omega (arith, r)

-- ---- visiting one port after another

fresh_none : (b w : Bool) (n : ℕ) → one_if ((b && not b) && w) n ≡ []
fresh_none true w n = refl
fresh_none false w n = refl

pub visits_none : (wanted : List Bool) (source : ℕ) (old : FeedSearch) → Visits wanted source [] old old
visits_none wanted source old = record {
  stamps_long = refl;
  lists_long = refl;
  from = λ q e. inl e;
  all = λ q has. absurd (omega (arith, has.1));
  kept = λ q e. e;
  below = λ q h. h;
  waits = λ q e. inl e;
  pending_kept = λ q has. has;
  pending_from = λ q has. inl has;
  lists = λ q. sym (ap (λ (x : List ℕ). list_at (lists_of old.lists) q ++ x) (fresh_none (is_stamped old.stamps.items (source + 1) q) (is_wanted wanted q) source) ∙ append-nil _);
  count = refl;
}

-- a port that has the stamp already
pub visits_again : (wanted : List Bool) (source : ℕ) (ps : List ℕ) (p : ℕ) (old mid new : FeedSearch) → IsStamped mid.stamps.items (source + 1) p → new ≡ mid → Visits wanted source ps old mid → Visits wanted source (ps ++ p ∷ []) old new
visits_again wanted source ps p old mid new has same v = let P : FeedSearch → Type 0 = λ s. Visits wanted source (ps ++ p ∷ []) old s in subst P (sym same) here
  where
    here : Visits wanted source (ps ++ p ∷ []) old mid
    here = record {
      stamps_long = v.stamps_long;
      lists_long = v.lists_long;
      from = λ q e. elim (v.from q e) [ inl a ↦ inl a | inr b ↦ inr (Contains-append_left ps (p ∷ []) q b) ];
      all = λ q c. elim (Contains-push_cases ps p q c) [ inl a ↦ v.all q a | inr e ↦ subst (IsStamped mid.stamps.items (source + 1)) e has ];
      kept = v.kept;
      below = v.below;
      waits = v.waits;
      pending_kept = v.pending_kept;
      pending_from = v.pending_from;
      lists = v.lists;
      count = v.count;
    }

-- a list through two visits
lists_twice : (a b c w : Bool) (n : ℕ) (xs ys zs : List ℕ) → (a ≡ true → b ≡ true) → (b ≡ true → c ≡ true) → ys ≡ xs ++ one_if ((b && not a) && w) n → zs ≡ ys ++ one_if ((c && not b) && w) n
    → zs ≡ xs ++ one_if ((c && not a) && w) n
lists_twice true false c w n xs ys zs ab bc e f = absurd (true≢false (sym (ab refl)))
lists_twice a true false w n xs ys zs ab bc e f = absurd (true≢false (sym (bc refl)))
lists_twice true true true w n xs ys zs ab bc e f = f ∙ (append-nil ys ∙ e)
lists_twice false true true w n xs ys zs ab bc e f = f ∙ (append-nil ys ∙ e)
lists_twice false false c w n xs ys zs ab bc e f = f ∙ ap (λ (l : List ℕ). l ++ one_if ((c && true) && w) n) (e ∙ append-nil xs)

-- a port that gets the stamp
pub visits_first : (wanted : List Bool) (source : ℕ) (ps : List ℕ) (p : ℕ) (old mid new : FeedSearch) → p < length mid.stamps.items → length mid.lists.items ≡ length mid.stamps.items → get_or mid.stamps.items p 0 ≢ source + 1
    → Enters wanted source p mid new → Visits wanted source ps old mid → Visits wanted source (ps ++ p ∷ []) old new
visits_first wanted source ps p old mid new inside even differs e v = record {
  stamps_long = ap length e.stamps ∙ (length-set mid.stamps.items p (source + 1) ∙ v.stamps_long);
  lists_long = lists_long;
  from = λ q s. elim (eqb_tells q p) [
    | inl t ↦ inr (rw t.1 (Contains-push ps p))
    | inr t ↦ elim (v.from q (other q t.1 s)) [ inl a ↦ inl a | inr b ↦ inr (Contains-append_left ps (p ∷ []) q b) ]
  ];
  all = λ q c. elim (Contains-push_cases ps p q c) [ inl a ↦ grows q (v.all q a) | inr d ↦ subst (IsStamped new.stamps.items (source + 1)) d here ];
  kept = λ q s. grows q (v.kept q s);
  below = λ q h. elim (eqb_tells q p) [
    | inl t ↦ let is : get_or new.stamps.items q 0 ≡ source + 1 = rw t.1 here in omega arith
    | inr t ↦ let low = v.below q h in let is = same q t.1 in omega arith
  ];
  waits = λ q s. elim (eqb_tells q p) [
    | inl t ↦ inr (rw (e.pending, t.1) (Contains-push mid.pending.items p))
    | inr t ↦ elim (v.waits q (other q t.1 s)) [ inl a ↦ inl a | inr b ↦ inr (rw e.pending (Contains-append_left mid.pending.items (p ∷ []) q b)) ]
  ];
  pending_kept = λ q c. rw e.pending (Contains-append_left mid.pending.items (p ∷ []) q (v.pending_kept q c));
  pending_from = λ q c. elim (Contains-push_cases mid.pending.items p q (subst (λ (x : List ℕ). Contains x q) e.pending c)) [
    | inl a ↦ elim (v.pending_from q a) [ inl b ↦ inl b | inr s ↦ inr (grows q s) ]
    | inr d ↦ inr (subst (IsStamped new.stamps.items (source + 1)) d here)
  ];
  lists = lists;
  count = count;
}
  where
    here : IsStamped new.stamps.items (source + 1) p
    here = ap (λ (x : List ℕ). get_or x p 0) e.stamps ∙ get_or-set_same mid.stamps.items p (source + 1) 0 inside

    same : (q : ℕ) → q ≢ p → get_or new.stamps.items q 0 ≡ get_or mid.stamps.items q 0
    same q d = ap (λ (x : List ℕ). get_or x q 0) e.stamps ∙ get_or-set_other mid.stamps.items p q (source + 1) 0 d

    other : (q : ℕ) → q ≢ p → IsStamped new.stamps.items (source + 1) q → IsStamped mid.stamps.items (source + 1) q
    other q d s = sym (same q d) ∙ s

    grows : (q : ℕ) → IsStamped mid.stamps.items (source + 1) q → IsStamped new.stamps.items (source + 1) q
    grows q s = elim (eqb_tells q p) [ inl t ↦ rw t.1 here | inr t ↦ same q t.1 ∙ s ]

    lists_long : length new.lists.items ≡ length old.lists.items
    lists_long = sym (plain_long new.lists) ∙ (ap length e.lists ∙ (length-set (lists_of mid.lists) p _ ∙ (plain_long mid.lists ∙ v.lists_long)))

    -- the list of the port itself, which had not the stamp
    list_here : list_at (lists_of new.lists) p ≡ list_at (lists_of mid.lists) p ++ one_if (is_wanted wanted p) source
    list_here = ap (λ (x : List (List ℕ)). list_at x p) e.lists ∙ get_or-set_same (lists_of mid.lists) p _ [] (omega (arith, plain_long mid.lists))

    list_other : (q : ℕ) → q ≢ p → list_at (lists_of new.lists) q ≡ list_at (lists_of mid.lists) q
    list_other q d = ap (λ (x : List (List ℕ)). list_at x q) e.lists ∙ get_or-set_other (lists_of mid.lists) p q _ [] d

    once : (q : ℕ) → list_at (lists_of new.lists) q
        ≡ list_at (lists_of mid.lists) q ++ one_if ((is_stamped new.stamps.items (source + 1) q && not (is_stamped mid.stamps.items (source + 1) q)) && is_wanted wanted q) source
    once q = elim (eqb_tells q p) [
      | inl t ↦ rw (t.1, eq_true (get_or new.stamps.items p 0) (source + 1) here, eq_false (get_or mid.stamps.items p 0) (source + 1) differs) list_here
      | inr t ↦ list_other q t.1 ∙ (sym (append-nil (list_at (lists_of mid.lists) q)) ∙ ap (λ (l : List ℕ). list_at (lists_of mid.lists) q ++ l) (sym (ap (λ (x : ℕ). one_if (((x == source + 1) && not (is_stamped mid.stamps.items (source + 1) q)) && is_wanted wanted q) source) (same q t.1) ∙ fresh_none (is_stamped mid.stamps.items (source + 1) q) (is_wanted wanted q) source)))
    ]

    lists : (q : ℕ) → list_at (lists_of new.lists) q
        ≡ list_at (lists_of old.lists) q ++ one_if ((is_stamped new.stamps.items (source + 1) q && not (is_stamped old.stamps.items (source + 1) q)) && is_wanted wanted q) source
    lists q = lists_twice (is_stamped old.stamps.items (source + 1) q) (is_stamped mid.stamps.items (source + 1) q) (is_stamped new.stamps.items (source + 1) q) (is_wanted wanted q) source _ _ _
        (λ t. eq_true (get_or mid.stamps.items q 0) (source + 1) (v.kept q (true_eq _ _ t))) (λ t. eq_true (get_or new.stamps.items q 0) (source + 1) (grows q (true_eq _ _ t))) (v.lists q) (once q)

    count : unstamped (source + 1) new.stamps.items + length new.pending.items ≡ unstamped (source + 1) old.stamps.items + length old.pending.items
    count =
        let one = count_set (source + 1) mid.stamps.items p inside differs in
        let stamps = ap (unstamped (source + 1)) e.stamps in
        let pending = ap length e.pending ∙ length-append mid.pending.items (p ∷ []) in
        let before = v.count in
        omega arith

-- ---- a walk

pub walking_begins : (ls : ℕ → List ℕ) (wanted : List Bool) (source start : ℕ) (old new : FeedSearch) → start < length wanted → IsReady old (length wanted) source → Enters wanted source start old new → Walking ls wanted source start old new
walking_begins ls wanted source start old new inside ready e =
    let v = visits_first wanted source [] start old old new (omega (arith, ready.stamps_long)) (omega (arith, ready.stamps_long, ready.lists_long)) (λ s. absurd (omega (arith, s, ready.below start))) e (visits_none wanted source old) in
    let begun : IsStamped new.stamps.items (source + 1) start = v.all start (0, omega arith, refl) in
    record {
      stamps_long = v.stamps_long;
      lists_long = v.lists_long;
      reach = λ q s. elim (v.from q s) [
        | inl a ↦ absurd (omega (arith, a, ready.below q))
        | inr c ↦ subst (λ (x : ℕ). Path ls start x) (only start q c) stay
      ];
      begun = begun;
      pending_in = λ q c. elim (v.pending_from q c) [
        | inl a ↦ absurd (no_element q (subst (λ (x : List ℕ). Contains x q) ready.pending a))
        | inr s ↦ s
      ];
      «open» = λ q r s c. elim (v.waits q s) [ inl a ↦ absurd (omega (arith, a, ready.below q)) | inr w ↦ inr w ];
      lists = λ q. v.lists q ∙ ap (λ (b : Bool). list_at (lists_of old.lists) q ++ one_if b source) (none_before (is_stamped new.stamps.items (source + 1) q) (is_stamped old.stamps.items (source + 1) q) (is_wanted wanted q) (eq_false (get_or old.stamps.items q 0) (source + 1) (λ s. absurd (omega (arith, s, ready.below q)))));
      below = λ q. v.below q (omega (arith, ready.below q));
    }
  where
    no_element : (q : ℕ) → Contains [] q → ⊥
    no_element q c = absurd (omega (arith, c.1))

    only : (p q : ℕ) → Contains (p ∷ []) q → p ≡ q
    only p q (zero, h, e) = e
    only p q (suc k, h, e) = absurd (omega arith)

    none_before : (b a w : Bool) → a ≡ false → ((b && not a) && w) ≡ (b && w)
    none_before true a w e = rw e refl
    none_before false a w e = refl

-- the last port that is pending is visited: all ports to which a step leads from it
pub walking_more : (ls : ℕ → List ℕ) (wanted : List Bool) (source start port : ℕ) (old now new : FeedSearch) (rest : Vec ℕ Global) → now.pending.items ≡ rest.items ++ port ∷ [] → Walking ls wanted source start old now
    → Visits wanted source (ls port) (record { stamps = now.stamps; lists = now.lists; pending = rest }) new → Walking ls wanted source start old new
walking_more ls wanted source start port old now new rest popped w v = record {
  stamps_long = v.stamps_long ∙ w.stamps_long;
  lists_long = v.lists_long ∙ w.lists_long;
  reach = λ q s. elim (v.from q s) [ inl a ↦ w.reach q a | inr c ↦ onward (w.reach port was_stamped) c ];
  begun = v.kept start w.begun;
  pending_in = λ q c. elim (v.pending_from q c) [ inl a ↦ v.kept q (w.pending_in q (rw popped (Contains-append_left rest.items (port ∷ []) q a))) | inr s ↦ s ];
  «open» = λ q r s c. elim (v.waits q s) [
    | inl a ↦ elim (w.«open» q r a c) [
      | inl b ↦ inl (v.kept r b)
      | inr d ↦ elim (Contains-push_cases rest.items port q (subst (λ (x : List ℕ). Contains x q) popped d)) [
        | inl f ↦ inr (v.pending_kept q f)
        | inr is ↦ inl (v.all r (subst (λ (x : ℕ). Contains (ls x) r) (sym is) c))
      ]
    ]
    | inr d ↦ inr d
  ];
  lists = λ q. whole (is_stamped now.stamps.items (source + 1) q) (is_stamped new.stamps.items (source + 1) q) (is_wanted wanted q) _ _ _
      (λ t. eq_true (get_or new.stamps.items q 0) (source + 1) (v.kept q (true_eq _ _ t))) (w.lists q) (v.lists q);
  below = λ q. v.below q (w.below q);
}
  where
    was_stamped : IsStamped now.stamps.items (source + 1) port
    was_stamped = w.pending_in port (rw popped (Contains-push rest.items port))

    whole : (b c w : Bool) (xs ys zs : List ℕ) → (b ≡ true → c ≡ true) → ys ≡ xs ++ one_if (b && w) source → zs ≡ ys ++ one_if ((c && not b) && w) source → zs ≡ xs ++ one_if (c && w) source
    whole true true w xs ys zs bc e f = f ∙ (append-nil ys ∙ e)
    whole true false w xs ys zs bc e f = absurd (true≢false (sym (bc refl)))
    whole false true w xs ys zs bc e f = f ∙ ap (λ (l : List ℕ). l ++ one_if w source) (e ∙ append-nil xs)
    whole false false w xs ys zs bc e f = f ∙ ap (λ (l : List ℕ). l ++ []) (e ∙ append-nil xs)

-- with nothing pending all that the source reaches has its stamp
pub walking_ends : (ls : ℕ → List ℕ) (wanted : List Bool) (source start : ℕ) (old now new : FeedSearch) → now.pending.items ≡ [] → new.pending.items ≡ [] → new.stamps.items ≡ now.stamps.items → new.lists.items ≡ now.lists.items
    → Walking ls wanted source start old now → Walks ls wanted source start old new
walking_ends ls wanted source start old now new none none' stamps lists w = record {
  stamps_long = ap length stamps ∙ w.stamps_long;
  lists_long = ap length lists ∙ w.lists_long;
  pending = none';
  reach = λ q s. w.reach q (subst (λ (x : List ℕ). IsStamped x (source + 1) q) stamps s);
  all = λ q p. subst (λ (x : List ℕ). IsStamped x (source + 1) q) (sym stamps) (all q p);
  lists = λ q. ap (λ (x : List (Vec ℕ Global)). list_at (plain x) q) lists ∙ (w.lists q ∙ ap (λ (x : List ℕ). list_at (lists_of old.lists) q ++ one_if (is_stamped x (source + 1) q && is_wanted wanted q) source) (sym stamps));
  below = λ q. let is = ap (λ (x : List ℕ). get_or x q 0) stamps in omega (arith, w.below q, is);
}
  where
    all : (q : ℕ) → Path ls start q → IsStamped now.stamps.items (source + 1) q
    all q stay = w.begun
    all q (onward {q = p} {r = r} before c) = elim (w.«open» p r (all p before) c) [
      | inl s ↦ s
      | inr d ↦ let e = subst (λ (x : List ℕ). Contains x p) none d in absurd (omega (arith, e.1))
    ]

pub popped_inside : (ls : ℕ → List ℕ) (wanted : List Bool) (source start port n : ℕ) (old now : FeedSearch) (rest : List ℕ) → now.pending.items ≡ rest ++ port ∷ [] → Walking ls wanted source start old now → IsReady old (length wanted) source → n ≡ length wanted → port < n
popped_inside ls wanted source start port n old now rest popped w ready long =
    let inside = stamped_inside now.stamps.items (source + 1) port (omega arith) (w.pending_in port (rw popped (Contains-push rest port))) in
    omega (arith, inside, w.stamps_long, ready.stamps_long)

pub nothing_left : (r : Option ℕ) (m n : ℕ) → ((x : ℕ) → r ≡ Some x → ⊥) → MatchOption r ((m ≡ 0) × (n ≡ 0)) (λ _. n + 1 ≡ m) → (m ≡ 0) × (n ≡ 0)
nothing_left None m n h q = q
nothing_left (Some x) m n h q = absurd (h x refl)
