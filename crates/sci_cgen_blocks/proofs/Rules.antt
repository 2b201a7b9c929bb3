-- No name is blamed in a text that keeps the static rules.
use Rattle.std.proofs.Common.{◌≡◌, ℕ, suc, ◌+◌, ◌<◌, ◌≤◌, ◌⊎◌, inl, inr, List, [], ◌∷◌, ◌++◌, length, take, Option, Some, None, Bool, true, false, refl, sym, ap, ◌∙◌, subst, arith, append_assoc, length-append, if◌then◌else◌, nat_lt, true≢false}
use Rattle.std.specs.Prelude.{max, nat_le, not, ◌||◌, is_some}
use Rattle.std.proofs.lemmas.Bool.Decides.{nat_tests}
use Rattle.std.proofs.lemmas.Bool.{cond-true, cond-false}
use Rattle.std.specs.List.{list_any}
use Rattle.std.proofs.lemmas.List.{append-nil}
use Rattle.std.proofs.lemmas.List.Folds.{list_any-append}
use Rattle.c_ast.specs.declared.Name.{Name}
use Rattle.c_mean.proofs.Memory.{name_eq}
use Rattle.c_ast.specs.declared.Bound.{Bound}
use Rattle.c_ast.specs.declared.Bound.TheVariants as bounds
use Rattle.c_ast.specs.declared.events.NameKind.{NameKind}
use Rattle.c_ast.specs.declared.events.NameKind.TheVariants as kinds
use Rattle.c_ast.specs.declared.events.TextEvent.{TextEvent}
use Rattle.c_ast.specs.declared.events.TextEvent.TheVariants as events
use Rattle.c_ast.specs.declared.events.Opened.{Opened}
use Rattle.c_ast.specs.declared.events.Opened.TheVariants.{Branch, Turn}
use Rattle.c_ast.specs.Syntax.{Exp, num, var, element, neg, not as denied, bin, Place, scalar, cell, Asked, more, input, until, limit, Told, start, event, value, finish, stop, Statement, set, ask, choice, loop, call, tell, Block, done, next, Function}
use Rattle.c_ast.specs.Events.{exp_events, place_events, asked_events, told_events, bound_events, statement_events, block_events, function_events, main_events}
use Rattle.c_ast.specs.Rules.{same_name, Routine, Scope, kind_in, routine_in, is_scalar, is_array, is_hit, is_bound, is_guarded, is_among, breaks_loop, assigns_of, depth_of, around, closed, blamed_at, behind, first_blamed, ended, too_deep, is_last, opens_body}
use Rattle.sci_cgen_blocks.specs.Keeping.{Scene, IsScalar, IsArray, ReadsWell, AssignsWell, AsksWell, TellsWell, IsBoundWell, StatementKeeps, BlockKeeps, StandsIn}

-- from here on nothing is blamed
abbrev pub IsBlameless : Scope → List TextEvent → Type 0
IsBlameless s es = (i : ℕ) → first_blamed i s es ≡ None

-- The same scope, but for what the body assigns, and how deep its calls are.
pub record GoesOnAs (c : Scene) (s s' : Scope) : Type 0 where
  pub declared : s'.declared ≡ s.declared
  pub elements : s'.elements ≡ s.elements
  pub routines : s'.routines ≡ s.routines
  pub blocks : s'.blocks ≡ s.blocks
  pub owner : s'.owner ≡ s.owner
  pub assigns : (x : Name) → is_among s'.assigns x ≡ true → (is_among s.assigns x ≡ true) ⊎ (c.may x ≡ true)
  pub depth : s.depth ≤ c.depth → s'.depth ≤ c.depth

-- ---- scopes

goes_same : (c : Scene) (s : Scope) → GoesOnAs c s s
goes_same c s = record {
  declared = refl;
  elements = refl;
  routines = refl;
  blocks = refl;
  owner = refl;
  assigns = λ x h. inl h;
  depth = λ h. h;
}

goes_then : (c : Scene) (s t u : Scope) → GoesOnAs c s t → GoesOnAs c t u → GoesOnAs c s u
goes_then c s t u g h = record {
  declared = h.declared ∙ g.declared;
  elements = h.elements ∙ g.elements;
  routines = h.routines ∙ g.routines;
  blocks = h.blocks ∙ g.blocks;
  owner = h.owner ∙ g.owner;
  assigns = λ x q. elim (h.assigns x q) [ inl a ↦ g.assigns x a | inr b ↦ inr b ];
  depth = λ q. h.depth (g.depth q);
}

stands_on : (c : Scene) (opens : List Opened) (s s' : Scope) → StandsIn c opens s → GoesOnAs c s s' → StandsIn c opens s'
stands_on c opens s s' h g = record {
  scalars = λ x q. ap (λ (d : List (Name × NameKind)). is_scalar (kind_in d x)) g.declared ∙ h.scalars x q;
  arrays = λ x q. ap (λ (d : List (Name × NameKind)). is_array (kind_in d x)) g.declared ∙ h.arrays x q;
  routines = λ f r q. ap (λ (d : List Routine). routine_in d f) g.routines ∙ h.routines f r q;
  blocks = g.blocks ∙ h.blocks;
  within = h.within;
}

-- one event that isn't blamed
pub unblamed : (s : Scope) (e : TextEvent) (es : List TextEvent) → ((i : ℕ) → blamed_at i s e ≡ None) → ((i : ℕ) → first_blamed (i + 1) (behind i s e) es ≡ None)
    → IsBlameless s (e ∷ es)
unblamed s e es h k i = rw (h i, k i) refl

pub some_if : (i : ℕ) (b : Bool) → b ≡ false → (if b then Some i else None) ≡ None
some_if i b h = rw h refl

-- ---- reads

module _ (c : Scene) (opens : List Opened) (s : Scope) (stands : StandsIn c opens s) where
  scalar_read : (x : Name) (rest : List TextEvent) → IsScalar c x → IsBlameless s rest → IsBlameless s (events.Read x kinds.Scalar ∷ rest)
  scalar_read x rest h go = unblamed s (events.Read x kinds.Scalar) rest (λ i. some_if i _ (ap not (stands.scalars x h))) (λ i. go (i + 1))

  array_read : (x : Name) (rest : List TextEvent) → IsArray c x → IsBlameless s rest → IsBlameless s (events.Read x kinds.Array ∷ rest)
  array_read x rest h go = unblamed s (events.Read x kinds.Array) rest (λ i. some_if i _ (ap not (stands.arrays x h))) (λ i. go (i + 1))

  reads : (e : Exp) (rest : List TextEvent) → ReadsWell c e → IsBlameless s rest → IsBlameless s (exp_events e ++ rest)
  reads (num z) rest h go = go
  reads (var x) rest h go = scalar_read x rest h go
  reads (element x e) rest h go = array_read x (exp_events e ++ rest) h.0 (reads e rest h.1 go)
  reads (neg e) rest h go = reads e rest h go
  reads (denied e) rest h go = reads e rest h go
  reads (bin op a b) rest h go =
      subst (IsBlameless s) (sym (append_assoc (exp_events a) (exp_events b) rest)) (reads a (exp_events b ++ rest) h.0 (reads b rest h.1 go))

  reads_two : (a b : Exp) (rest : List TextEvent) → ReadsWell c a → ReadsWell c b → IsBlameless s rest → IsBlameless s ((exp_events a ++ exp_events b) ++ rest)
  reads_two a b rest h k go =
      subst (IsBlameless s) (sym (append_assoc (exp_events a) (exp_events b) rest)) (reads a (exp_events b ++ rest) h (reads b rest k go))

  asks : (a : Asked) (rest : List TextEvent) → AsksWell c a → IsBlameless s rest → IsBlameless s (asked_events a ++ rest)
  asks (more e) rest h go = reads e rest h go
  asks (input e) rest h go = reads e rest h go
  asks until rest h go = go
  asks limit rest h go = go

  reads_three : (x y z : Exp) (rest : List TextEvent) → ReadsWell c x → ReadsWell c y → ReadsWell c z → IsBlameless s rest
      → IsBlameless s ((exp_events x ++ (exp_events y ++ exp_events z)) ++ rest)
  reads_three x y z rest h k l go =
      subst (IsBlameless s) (sym (append_assoc (exp_events x) (exp_events y ++ exp_events z) rest))
      (reads x ((exp_events y ++ exp_events z) ++ rest) h (reads_two y z rest k l go))

  tells : (t : Told) (rest : List TextEvent) → TellsWell c t → IsBlameless s rest → IsBlameless s (told_events t ++ rest)
  tells start rest h go = go
  tells (event x y z) rest h go = reads_three x y z rest h.0 h.1 h.2 go
  tells (value x y z v) rest h go =
      subst (IsBlameless s) (sym (append_assoc (exp_events x) (exp_events y ++ (exp_events z ++ exp_events v)) rest))
      (reads x ((exp_events y ++ (exp_events z ++ exp_events v)) ++ rest) h.0 (reads_three y z v rest h.1 h.2 h.3 go))
  tells (finish x) rest h go = reads x rest h go
  tells (stop x y z) rest h go = reads_three x y z rest h.0 h.1 h.2 go

  bound_read : (x : Name) (n : Bound) (rest : List TextEvent) → IsBoundWell c x n → IsBlameless s rest → IsBlameless s (bound_events n ++ rest)
  bound_read x (bounds.Num z) rest h go = go
  bound_read x (bounds.Var y) rest h go = scalar_read y rest h.0 go

-- ---- assignments

-- behind an assignment
abbrev assigned : Name → Scope → Scope
assigned x s = record s { assigns = x ∷ s.assigns }

name_is : (x y : Name) → same_name x y ≡ true → (f : Name → Bool) → f x ≡ true → f y ≡ true
name_is x y h f q = subst (λ (z : Name). f z ≡ true) (name_eq x y h) q

goes_assigned : (c : Scene) (s : Scope) (x : Name) → c.may x ≡ true → GoesOnAs c s (assigned x s)
goes_assigned c s x m = record {
  declared = refl;
  elements = refl;
  routines = refl;
  blocks = refl;
  owner = refl;
  assigns = λ y h. by_name y (same_name x y) refl h;
  depth = λ h. h;
}
  where
    by_name : (y : Name) (b : Bool) → same_name x y ≡ b → b || is_among s.assigns y ≡ true → (is_among s.assigns y ≡ true) ⊎ (c.may y ≡ true)
    by_name y true e h = inr (name_is x y e c.may m)
    by_name y false e h = inl h

pub either_false : (a b : Bool) → a ≡ false → b ≡ false → a || b ≡ false
either_false a b h k = rw (h, k) refl

module _ (c : Scene) (opens : List Opened) (s : Scope) (stands : StandsIn c opens s) where
  guarded_not : (x : Name) → is_guarded opens x ≡ false → is_guarded s.blocks x ≡ false
  guarded_not x h = ap (λ (b : List Opened). is_guarded b x) stands.blocks ∙ h

  places : (p : Place) (rest : List TextEvent) → AssignsWell c opens p → ((s' : Scope) → GoesOnAs c s s' → IsBlameless s' rest)
      → IsBlameless s (place_events p ++ rest)
  places (scalar x) rest h go =
      unblamed s (events.Assign x kinds.Scalar) rest (λ i. some_if i _ (either_false _ _ (ap not (stands.scalars x h.0)) (guarded_not x h.1.1)))
      (λ i. go (assigned x s) (goes_assigned c s x h.1.0) (i + 1))
  places (cell x e) rest h go =
      unblamed s (events.Assign x kinds.Array) (exp_events e ++ rest)
      (λ i. some_if i _ (either_false _ _ (ap not (stands.arrays x h.0)) (guarded_not x h.1.1)))
      (λ i. let g = goes_assigned c s x h.1.0 in
      reads c opens (assigned x s) (stands_on c opens s (assigned x s) stands g) e rest h.2 (go (assigned x s) g) (i + 1))

-- ---- calls

abbrev called : Option Routine → Scope → Scope
called r s = record s { assigns = assigns_of r ++ s.assigns; depth = max s.depth (suc (depth_of r)) }

either_true : (a b : Bool) → a || b ≡ true → (a ≡ true) ⊎ (b ≡ true)
either_true true b h = inl refl
either_true false b h = inr h

goes_called : (c : Scene) (s : Scope) (r : Routine) → ((x : Name) → is_among r.assigns x ≡ true → c.may x ≡ true) → r.depth < c.depth
    → GoesOnAs c s (called (Some r) s)
goes_called c s r h d = record {
  declared = refl;
  elements = refl;
  routines = refl;
  blocks = refl;
  owner = refl;
  assigns = λ x q. elim (either_true (is_among r.assigns x) (is_among s.assigns x) (sym (list_any-append (λ y. same_name y x) r.assigns s.assigns) ∙ q)) [
    | inl a ↦ inr (h x a)
    | inr b ↦ inl b
  ];
  depth = λ q. omega (arith, q, d);
}

-- ---- blocks that open and close

abbrev opened : Scope → Opened → Scope
opened s b = record s { blocks = s.blocks ++ b ∷ [] }

around_behind : (bs : List Opened) (b : Opened) → around (bs ++ b ∷ []) ≡ bs
around_behind bs b = ap (λ (n : ℕ). take n (bs ++ b ∷ [])) (simp length-append (omega arith)) ∙ first_part bs
  where
    first_part : (bs : List Opened) → take (length bs) (bs ++ b ∷ []) ≡ bs
    first_part [] = refl
    first_part (x ∷ bs) = ap (λ (l : List Opened). x ∷ l) (first_part bs)

not_last : (bs : List Opened) (b : Opened) → 1 ≤ length bs → is_last (bs ++ b ∷ []) ≡ false
not_last bs b h = by_length (length (bs ++ b ∷ [])) (simp length-append (omega (arith, h)))
  where
    by_length : (n : ℕ) → 2 ≤ n → nat_le n 1 ≡ false
    by_length n h = grind (arith, nat_tests)

stands_opened : (c : Scene) (opens : List Opened) (s : Scope) (b : Opened) → StandsIn c opens s → StandsIn c (opens ++ b ∷ []) (opened s b)
stands_opened c opens s b h = record {
  scalars = h.scalars;
  arrays = h.arrays;
  routines = h.routines;
  blocks = ap (λ (l : List Opened). l ++ b ∷ []) h.blocks;
  within = simp length-append (omega arith);
}

module _ (c : Scene) (opens : List Opened) (s : Scope) (b : Opened) (stands : StandsIn c opens s) (t : Scope) (g : GoesOnAs c (opened s b) t) where
  are_blocks : t.blocks ≡ s.blocks ++ b ∷ []
  are_blocks = g.blocks

  isnt_last : is_last t.blocks ≡ false
  isnt_last = ap is_last are_blocks ∙ not_last s.blocks b (subst (λ (l : List Opened). 1 ≤ length l) (sym stands.blocks) stands.within)

  goes_closed : GoesOnAs c s (closed t)
  goes_closed = record {
    declared = g.declared;
    elements = g.elements;
    routines = cond-false (is_last t.blocks) (ended t t.owner) t.routines isnt_last ∙ g.routines;
    blocks = ap around are_blocks ∙ around_behind s.blocks b;
    owner = g.owner;
    assigns = λ x q. g.assigns x (ap (λ (l : List Name). is_among l x) (sym (cond-false (is_last t.blocks) [] t.assigns isnt_last)) ∙ q);
    depth = g.depth;
  }

  close_runs : (rest : List TextEvent) → ((s' : Scope) → GoesOnAs c s s' → IsBlameless s' rest) → IsBlameless t (events.Close ∷ rest)
  close_runs rest go =
      unblamed t events.Close rest (λ i. cond-false (is_last t.blocks) (too_deep t t.owner) None isnt_last) (λ i. go (closed t) goes_closed (i + 1))

-- ---- statements

module _ (c : Scene) where
  mutual
    statement_keeps : (t : Statement) (opens : List Opened) (s : Scope) → StatementKeeps c opens t → StandsIn c opens s → (rest : List TextEvent)
        → ((s' : Scope) → GoesOnAs c s s' → IsBlameless s' rest) → IsBlameless s (statement_events t ++ rest)
    statement_keeps (set p e) opens s k h rest go =
        subst (IsBlameless s) (sym (append_assoc (place_events p) (exp_events e) rest))
        (places c opens s h p (exp_events e ++ rest) k.0 (λ s' g. reads c opens s' (stands_on c opens s s' h g) e rest k.1 (go s' g)))
    statement_keeps (ask p a) opens s k h rest go =
        subst (IsBlameless s) (sym (append_assoc (place_events p) (asked_events a) rest))
        (places c opens s h p (asked_events a ++ rest) k.0 (λ s' g. asks c opens s' (stands_on c opens s s' h g) a rest k.1 (go s' g)))
    statement_keeps (choice e a b) opens s k h rest go =
        subst (IsBlameless s) (sym (append_assoc (exp_events e) (events.If ∷ (block_events a ++ (block_events b ++ events.Close ∷ []))) rest))
        (reads c opens s h e (events.If ∷ ((block_events a ++ (block_events b ++ events.Close ∷ [])) ++ rest)) k.0
        (unblamed s events.If ((block_events a ++ (block_events b ++ events.Close ∷ [])) ++ rest) (λ i. refl) (λ i.
        subst (IsBlameless (opened s Branch)) (sym (arranged (block_events a) (block_events b) rest))
        (block_keeps a (opens ++ Branch ∷ []) (opened s Branch) k.1 (stands_opened c opens s Branch h) (block_events b ++ events.Close ∷ rest) (λ t g.
        block_keeps b (opens ++ Branch ∷ []) t k.2 (stands_on c (opens ++ Branch ∷ []) (opened s Branch) t (stands_opened c opens s Branch h) g)
        (events.Close ∷ rest) (λ u q. close_runs c opens s Branch h u (goes_then c (opened s Branch) t u g q) rest go))) (i + 1))))
      where
        arranged : (x y z : List TextEvent) → (x ++ (y ++ events.Close ∷ [])) ++ z ≡ x ++ (y ++ events.Close ∷ z)
        arranged x y z = append_assoc x (y ++ events.Close ∷ []) z ∙ ap (λ (l : List TextEvent). x ++ l) (append_assoc y (events.Close ∷ []) z)
    statement_keeps (loop x n b) opens s k h rest go =
        unblamed s (events.Loop x n) ((bound_events n ++ (block_events b ++ events.Close ∷ [])) ++ rest)
        (λ i. some_if i _ (either_false _ _ (ap not (h.scalars x k.0)) (either_false _ _ (guarded_not c opens s h x k.1.1) (bound_apart n k.2))))
        (λ i. subst (IsBlameless (opened (assigned x s) (Turn x n))) (sym (arranged (bound_events n) (block_events b) rest))
        (bound_read c (opens ++ Turn x n ∷ []) (opened (assigned x s) (Turn x n)) within x n (block_events b ++ events.Close ∷ rest) k.2
        (block_keeps b (opens ++ Turn x n ∷ []) (opened (assigned x s) (Turn x n)) k.3 within (events.Close ∷ rest) (λ u q.
        close_runs c opens (assigned x s) (Turn x n) (stands_on c opens s (assigned x s) h first) u q rest
        (λ s' g. go s' (goes_then c s (assigned x s) s' first g)))))
        (i + 1))
      where
        first : GoesOnAs c s (assigned x s)
        first = goes_assigned c s x k.1.0

        within : StandsIn c (opens ++ Turn x n ∷ []) (opened (assigned x s) (Turn x n))
        within = stands_opened c opens (assigned x s) (Turn x n) (stands_on c opens s (assigned x s) h first)

        bound_apart : (n : Bound) → IsBoundWell c x n → is_bound (same_name x) n ≡ false
        bound_apart (bounds.Num z) q = refl
        bound_apart (bounds.Var y) q = q.1

        arranged : (x y z : List TextEvent) → (x ++ (y ++ events.Close ∷ [])) ++ z ≡ x ++ (y ++ events.Close ∷ z)
        arranged x y z = append_assoc x (y ++ events.Close ∷ []) z ∙ ap (λ (l : List TextEvent). x ++ l) (append_assoc y (events.Close ∷ []) z)
    statement_keeps (call f) opens s k h rest go =
        let is = h.routines f k.routine k.is in
        unblamed s (events.Call f) rest
        (λ i. some_if i _ (ap (breaks_loop s.blocks) is ∙ (ap (λ (l : List Opened). list_any (is_hit (is_among k.routine.assigns)) l) h.blocks ∙ k.apart)))
        (λ i. go (called (routine_in s.routines f) s)
        (subst (λ (r : Option Routine). GoesOnAs c s (called r s)) (sym is) (goes_called c s k.routine k.assigns k.depth)) (i + 1))
    statement_keeps (tell t) opens s k h rest go = tells c opens s h t rest k (go s (goes_same c s))

    -- A text that keeps the rules is not blamed, and what follows it goes on in the same scope.
    pub block_keeps : (b : Block) (opens : List Opened) (s : Scope) → BlockKeeps c opens b → StandsIn c opens s → (rest : List TextEvent)
        → ((s' : Scope) → GoesOnAs c s s' → IsBlameless s' rest) → IsBlameless s (block_events b ++ rest)
    block_keeps done opens s k h rest go = go s (goes_same c s)
    block_keeps (next t b) opens s k h rest go =
        subst (IsBlameless s) (sym (append_assoc (statement_events t) (block_events b) rest))
        (statement_keeps t opens s k.0 h (block_events b ++ rest) (λ s' g.
        block_keeps b opens s' k.1 (stands_on c opens s s' h g) rest (λ u q. go u (goes_then c s s' u g q))))

-- ---- bodies

-- Between bodies: a scope has what a text finds, and no block is open.
pub record StandsBefore (c : Scene) (s : Scope) : Type 0 where
  pub scalars : (x : Name) → IsScalar c x → is_scalar (kind_in s.declared x) ≡ true
  pub arrays : (x : Name) → IsArray c x → is_array (kind_in s.declared x) ≡ true
  pub routines : (f : Name) (r : Routine) → c.routines f ≡ Some r → routine_in s.routines f ≡ Some r
  pub blocks : s.blocks ≡ []

-- Behind a function it is declared, and it has ended; it assigns what it may.
pub record IsBehind (c : Scene) (f : Function) (s s' : Scope) : Type 0 where
  pub routine : Routine
  pub declared : s'.declared ≡ (f.name, kinds.Function) ∷ s.declared
  pub elements : s'.elements ≡ s.elements
  pub routines : s'.routines ≡ routine ∷ s.routines
  pub blocks : s'.blocks ≡ []
  pub named : routine.name ≡ f.name
  pub assigns : (x : Name) → is_among routine.assigns x ≡ true → c.may x ≡ true
  pub depth : routine.depth ≤ c.depth

-- the scope in a function's body
abbrev in_function : Name → ℕ → Scope → Scope
in_function f i s = opens_body (record s { declared = (f, kinds.Function) ∷ s.declared }) (Some (f, i))

abbrev in_main : Scope → Scope
in_main s = opens_body s None

-- one more name leaves those that were declared
kinds_stay : (f x : Name) (ds : List (Name × NameKind)) (test : Option NameKind → Bool) → kind_in ds f ≡ None → test None ≡ false → test (kind_in ds x) ≡ true
    → test (kind_in ((f, kinds.Function) ∷ ds) x) ≡ true
kinds_stay f x ds test none out h = by_name (same_name f x) refl
  where
    by_name : (b : Bool) → same_name f x ≡ b → test (if b then Some kinds.Function else kind_in ds x) ≡ true
    by_name true e = absurd (true≢false (sym h ∙ (ap test (subst (λ (y : Name). kind_in ds y ≡ None) (name_eq f x e) none) ∙ out)))
    by_name false e = h

module _ (c : Scene) (s : Scope) (stands : StandsBefore c s) where
  stands_in_function : (f : Name) (i : ℕ) → kind_in s.declared f ≡ None → StandsIn c (Branch ∷ []) (in_function f i s)
  stands_in_function f i none = record {
    scalars = λ x h. kinds_stay f x s.declared is_scalar none refl (stands.scalars x h);
    arrays = λ x h. kinds_stay f x s.declared is_array none refl (stands.arrays x h);
    routines = stands.routines;
    blocks = ap (λ (l : List Opened). l ++ Branch ∷ []) stands.blocks;
    within = omega arith;
  }

  stands_in_main : StandsIn c (Branch ∷ []) (in_main s)
  stands_in_main = record {
    scalars = stands.scalars;
    arrays = stands.arrays;
    routines = stands.routines;
    blocks = ap (λ (l : List Opened). l ++ Branch ∷ []) stands.blocks;
    within = omega arith;
  }

  shallow : (i n : ℕ) → n ≤ 64 → (if nat_lt 64 n then Some i else None) ≡ None
  shallow i n h = some_if i (nat_lt 64 n) (grind (arith, nat_tests))

  only_block : (t : Scope) → t.blocks ≡ s.blocks ++ Branch ∷ [] → t.blocks ≡ Branch ∷ []
  only_block t e = e ∙ ap (λ (l : List Opened). l ++ Branch ∷ []) stands.blocks

  ends_function : (f : Function) (i : ℕ) (t : Scope) → c.depth ≤ 64 → 1 ≤ c.depth → GoesOnAs c (in_function f.name i s) t → (rest : List TextEvent)
      → ((s' : Scope) → IsBehind c f s s' → IsBlameless s' rest) → IsBlameless t (events.Close ∷ rest)
  ends_function f i t most least g rest go =
      let last : is_last t.blocks ≡ true = ap is_last (only_block t g.blocks) in
      let deep : t.depth ≤ c.depth = g.depth least in
      unblamed t events.Close rest
      (λ j. cond-true (is_last t.blocks) (too_deep t t.owner) None last ∙ (ap (too_deep t) g.owner ∙ shallow i t.depth (omega (arith, deep, most))))
      (λ j. go (closed t) (record {
        routine = record { name = f.name; assigns = t.assigns; depth = t.depth };
        declared = g.declared;
        elements = g.elements;
        routines = cond-true (is_last t.blocks) (ended t t.owner) t.routines last
            ∙ (ap (ended t) g.owner ∙ ap (λ (l : List Routine). record { name = f.name; assigns = t.assigns; depth = t.depth } ∷ l) g.routines);
        blocks = ap around (only_block t g.blocks);
        named = refl;
        assigns = λ x h. elim (g.assigns x h) [ inl a ↦ absurd (true≢false (sym a)) | inr b ↦ b ];
        depth = deep;
      }) (j + 1))

  -- A function of a new name whose body keeps the rules is not blamed.
  pub function_keeps : (f : Function) → kind_in s.declared f.name ≡ None → BlockKeeps c (Branch ∷ []) f.body → c.depth ≤ 64 → 1 ≤ c.depth → (rest : List TextEvent)
      → ((s' : Scope) → IsBehind c f s s' → IsBlameless s' rest) → IsBlameless s (function_events f ++ rest)
  function_keeps f none k most least rest go =
      unblamed s (events.Function f.name) ((block_events f.body ++ events.Close ∷ []) ++ rest) (λ i. some_if i _ (ap is_some none)) (λ i.
      subst (IsBlameless (in_function f.name i s)) (sym (append_assoc (block_events f.body) (events.Close ∷ []) rest))
      (block_keeps c f.body (Branch ∷ []) (in_function f.name i s) k (stands_in_function f.name i none) (events.Close ∷ rest)
      (λ t g. ends_function f i t most least g rest go)) (i + 1))

  -- and sci_main, behind which the text ends
  pub main_keeps : (b : Block) → BlockKeeps c (Branch ∷ []) b → IsBlameless s (main_events b)
  main_keeps b k =
      unblamed s events.Main (block_events b ++ events.Close ∷ []) (λ i. refl) (λ i.
      block_keeps c b (Branch ∷ []) (in_main s) k stands_in_main (events.Close ∷ []) (λ t g.
      unblamed t events.Close [] (λ j. cond-true (is_last t.blocks) (too_deep t t.owner) None (ap is_last (only_block t g.blocks)) ∙ ap (too_deep t) g.owner)
      (λ j. refl)) (i + 1))

-- ---- the text alone

pub text_blameless : (c : Scene) (b : Block) (opens : List Opened) (s : Scope) (i : ℕ) → BlockKeeps c opens b → StandsIn c opens s
    → first_blamed i s (block_events b) ≡ None
text_blameless c b opens s i k h =
    ap (first_blamed i s) (sym (append-nil (block_events b))) ∙ block_keeps c b opens s k h [] (λ s' g j. refl) i
