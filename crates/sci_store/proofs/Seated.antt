-- Banks that are reset one kind after another, and the seats of the first blocks.
use Rattle.std.specs.declared.alloc.Global.{Global}
use Rattle.std.proofs.Common.{Vec, ℤ, ◌≡◌, ◌≢◌, ℕ, zero, suc, ◌+◌, ◌-◌, ◌<◌, ◌≤◌, List, [], ◌∷◌, ◌++◌, length, get_or, take, Some, false, cond, refl, ap, sym, ◌∙◌, subst, arith, inl, inr, length-append}
use Rattle.std.proofs.lemmas.Bool.{cases_lt, cases_eq}
use Rattle.std.proofs.lemmas.List.{get_or_append_left, get_or_push, get_or-set_other, length_push}
use Rattle.std.proofs.lemmas.Grind.{get_or-set_at}
use Rattle.sci_forms.specs.declared.Kind.{Kind}
use Rattle.sci_forms.specs.declared.spec.Spec.{Spec}
use Rattle.sci_forms.specs.Form.{is_sync}
use Rattle.sci_forms.specs.Numbers.{kind_at, kinds}
use Rattle.sci_net.specs.declared.Source.{Source}
use Rattle.sci_net.specs.declared.Source.TheVariants.{Start, Port}
use Rattle.sci_net.specs.Parts.{Parts, numbered, spec_of, no_spec, rows_of}
use Rattle.sci_net.specs.Net.{IsNet}
use Rattle.sci_net.specs.Sources.{ports_to, block_sources, sources_from, source_of}
use Rattle.sci_net.proofs.Numbered.{numbered_next, numbered_map}
use Rattle.sci_net.proofs.TypedSpecs.{all_typed, sources_few}
use Rattle.sci_bank.specs.declared.instance.Instance.{Instance}
use Rattle.sci_bank.specs.Bank.{Meaning, no_bank, row_at, first_row, no_row, after_reset, after_add}
use Rattle.sci_bank.specs.Library.{place_of, bank_of, with_bank, AreInOrder, IsFull}
use Rattle.sci_bank.proofs.LibraryLemmas.{kind_of-bank, Holds-full}
use Rattle.sci_store.specs.declared.seats.Seat.{Seat}
use Rattle.sci_store.specs.Frame.{IsSeat, no_seat}
use Rattle.sci_store.specs.Seating.{AreReset, IsSeatingBy, seat_in, begun}

-- ---- banks that are reset

-- the kinds before number n have no instance and no calls
pub record AreResetTo (n : ℕ) (banks : List Meaning) : Type 0 where
  pub full : IsFull banks
  pub in_order : AreInOrder banks
  pub empty : (k : Kind) → place_of k + 1 < n → (bank_of banks k).rows ≡ []
  pub counts : (k : Kind) → place_of k + 1 < n → (bank_of banks k).outs ≡ 0

pub reset_none : (banks : List Meaning) → IsFull banks → AreInOrder banks → AreResetTo 1 banks
reset_none banks f o = record { full = f; in_order = o; empty = λ k h. absurd (omega (arith, h)); counts = λ k h. absurd (omega (arith, h)) }

at_place : (banks : List Meaning) (k : Kind) → IsFull banks → AreInOrder banks → kind_at (place_of k + 1) ≡ Some k
at_place banks k f o = let h = Holds-full banks k f in o (place_of k) h ∙ ap Some (kind_of-bank banks k o h)

same : {a b : Kind} → Some a ≡ Some b → a ≡ b
same e = cc

-- the kind of number n has a place before the next
before_next : (banks : List Meaning) (n : ℕ) (kind k : Kind) → AreResetTo n banks → kind_at n ≡ Some kind → place_of k ≢ place_of kind
    → place_of k + 1 < n + 1 → place_of k + 1 < n
before_next banks n kind k h e ne l = elim (cases_lt (place_of k + 1) n) [
  | inl less ↦ less
  | inr more ↦
      let is : place_of k + 1 ≡ n = omega (arith, l, more) in
      absurd (ne (ap place_of (same (sym (at_place banks k h.full h.in_order) ∙ (ap kind_at is ∙ e)))))
]

pub reset_more : (banks new : List Meaning) (n : ℕ) (kind : Kind) → AreResetTo n banks → kind_at n ≡ Some kind
    → new ≡ with_bank banks kind (after_reset (bank_of banks kind))
    → (AreInOrder banks → AreInOrder new) → (IsFull banks → IsFull new) → AreResetTo (n + 1) new
reset_more banks new n kind h e w order full = record {
  full = full h.full;
  in_order = order h.in_order;
  empty = λ k l. elim (cases_eq (place_of k) (place_of kind)) [
    | inl q ↦ ap (λ (m : Meaning). m.rows) (here k q)
    | inr ne ↦ ap (λ (m : Meaning). m.rows) (other k ne) ∙ h.empty k (before_next banks n kind k h e ne l)
  ];
  counts = λ k l. elim (cases_eq (place_of k) (place_of kind)) [
    | inl q ↦ ap (λ (m : Meaning). m.outs) (here k q)
    | inr ne ↦ ap (λ (m : Meaning). m.outs) (other k ne) ∙ h.counts k (before_next banks n kind k h e ne l)
  ];
}
  where
    here : (k : Kind) → place_of k ≡ place_of kind → bank_of new k ≡ after_reset (bank_of banks kind)
    here k q =
        ap (λ (bs : List Meaning). bank_of bs k) w
        ∙ get_or-set_at banks (place_of kind) (place_of k) (after_reset (bank_of banks kind)) no_bank q (Holds-full banks kind h.full)

    other : (k : Kind) → place_of k ≢ place_of kind → bank_of new k ≡ bank_of banks k
    other k ne = ap (λ (bs : List Meaning). bank_of bs k) w ∙ get_or-set_other banks (place_of kind) (place_of k) (after_reset (bank_of banks kind)) no_bank ne

pub reset_past : (banks : List Meaning) (n : ℕ) → AreResetTo n banks → ((k : Kind) → kind_at n ≡ Some k → ⊥) → AreResetTo (n + 1) banks
reset_past banks n h e = record {
  full = h.full;
  in_order = h.in_order;
  empty = λ k l. h.empty k (less k l);
  counts = λ k l. h.counts k (less k l);
}
  where
    less : (k : Kind) → place_of k + 1 < n + 1 → place_of k + 1 < n
    less k l = elim (cases_lt (place_of k + 1) n) [
      | inl before ↦ before
      | inr more ↦
          let is : place_of k + 1 ≡ n = omega (arith, l, more) in
          absurd (e k (ap kind_at (sym is) ∙ at_place banks k h.full h.in_order))
    ]

pub reset_all : (banks : List Meaning) (n : ℕ) → AreResetTo n banks → kinds + 1 ≤ n → AreReset banks
reset_all banks n h l = record {
  full = h.full;
  in_order = h.in_order;
  empty = λ k. h.empty k (within k);
  counts = λ k. h.counts k (within k);
}
  where
    within : (k : Kind) → place_of k + 1 < n
    within k = let p = Holds-full banks k h.full in omega (arith, p, h.full, l)

-- ---- the sources of a block

pub ports_length : (b p : ℕ) → length (ports_to b p) ≡ p
ports_length b zero = refl
ports_length b (suc p) = let before = ports_length b p in simp length-append (omega (arith, before))

port_read : (b p i : ℕ) (d : Source) → i < p → get_or (ports_to b p) i d ≡ Port (record { block = b; port = suc i })
port_read b zero i d h = absurd (omega (arith, h))
port_read b (suc p) i d h = elim (cases_lt i p) [
  | inl l ↦ get_or_append_left (ports_to b p) (Port (record { block = b; port = suc p }) ∷ []) d i (omega (arith, l, ports_length b p)) ∙ port_read b p i d l
  | inr l ↦
      let e : p ≡ i = omega (arith, h, l) in
      get_or_push (ports_to b p) (Port (record { block = b; port = suc p })) d i (ports_length b p ∙ e) ∙ ap (λ k. Port (record { block = b; port = suc k })) e
]

append_right : {A : Type 0} (xs ys : List A) (i : ℕ) (d : A) → get_or (xs ++ ys) (length xs + i) d ≡ get_or ys i d
append_right [] ys i d = let e : 0 + i ≡ i = omega arith in ap (λ j. get_or ys j d) e
append_right (x ∷ xs) ys i d = let e : suc (length xs) + i ≡ suc (length xs + i) = omega arith in ap (λ j. get_or (x ∷ (xs ++ ys)) j d) e ∙ append_right xs ys i d

-- the sources of block b + k, behind those of the blocks before
source_read : (b : ℕ) (ss : List Spec) (k p : ℕ) (d : Source) → k < length ss → p < length (block_sources (b + k) (get_or ss k no_spec))
    → get_or (sources_from b ss) (length (sources_from b (take k ss)) + p) d ≡ get_or (block_sources (b + k) (get_or ss k no_spec)) p d
source_read b [] k p d h l = absurd (omega (arith, h))
source_read b (s ∷ ss) zero p d h l =
    let e : b + 0 ≡ b = omega arith in
    let f : 0 + p ≡ p = omega arith in
    let less : p < length (block_sources b s) = subst (λ c. p < length (block_sources c s)) e l in
    ap (λ j. get_or (block_sources b s ++ sources_from (b + 1) ss) j d) f
    ∙ (get_or_append_left (block_sources b s) (sources_from (b + 1) ss) d p less ∙ ap (λ c. get_or (block_sources c s) p d) (sym e))
source_read b (s ∷ ss) (suc k) p d h l =
    let e : b + 1 + k ≡ b + suc k = omega arith in
    let x = get_or ss k no_spec in
    let joined = length-append (block_sources b s) (sources_from (b + 1) (take k ss)) in
    let before = length (sources_from (b + 1) (take k ss)) in
    let f : length (block_sources b s ++ sources_from (b + 1) (take k ss)) + p ≡ length (block_sources b s) + (before + p) = omega (arith, joined) in
    ap (λ j. get_or (block_sources b s ++ sources_from (b + 1) ss) j d) f
    ∙ (append_right (block_sources b s) (sources_from (b + 1) ss) (length (sources_from (b + 1) (take k ss)) + p) d
    ∙ (source_read (b + 1) ss k p d (omega (arith, h)) (subst (λ c. p < length (block_sources c x)) (sym e) l)
    ∙ ap (λ c. get_or (block_sources c x) p d) e))

-- how many sources the first blocks are
sources_more : (b : ℕ) (ss : List Spec) (k : ℕ) → k < length ss
    → length (sources_from b (take (suc k) ss)) ≡ length (sources_from b (take k ss)) + length (block_sources (b + k) (get_or ss k no_spec))
sources_more b [] k h = absurd (omega (arith, h))
sources_more b (s ∷ ss) zero h =
    let e : b + 0 ≡ b = omega arith in
    let joined = length-append (block_sources b s) (sources_from (b + 1) []) in
    let same = ap (λ c. length (block_sources c s)) e in
    omega (arith, joined, same)
sources_more b (s ∷ ss) (suc k) h =
    let e : b + 1 + k ≡ b + suc k = omega arith in
    let rest = sources_more (b + 1) ss k (omega (arith, h)) in
    let one = length-append (block_sources b s) (sources_from (b + 1) (take (suc k) ss)) in
    let other = length-append (block_sources b s) (sources_from (b + 1) (take k ss)) in
    let same = ap (λ c. length (block_sources c (get_or ss k no_spec))) e in
    omega (arith, rest, one, other, same)

sources_within : (b : ℕ) (ss : List Spec) (k : ℕ) → length (sources_from b (take k ss)) ≤ length (sources_from b ss)
sources_within b [] zero = omega arith
sources_within b [] (suc k) = omega arith
sources_within b (s ∷ ss) zero = omega arith
sources_within b (s ∷ ss) (suc k) =
    let rest = sources_within (b + 1) ss k in
    let one = length-append (block_sources b s) (sources_from (b + 1) (take k ss)) in
    let other = length-append (block_sources b s) (sources_from (b + 1) ss) in
    omega (arith, rest, one, other)

abbrev pub sources_to : Parts → ℕ → ℕ
sources_to n k = length (sources_from 1 (take k n.specs))

pub sources_next : (n : Parts) (k : ℕ) → k < length n.specs → sources_to n (k + 1) ≡ sources_to n k + length (block_sources (k + 1) (spec_of n (k + 1)))
sources_next n k h =
    let e : k + 1 ≡ suc k = omega arith in
    let f : 1 + k ≡ k + 1 = omega arith in
    ap (λ j. sources_to n j) e
    ∙ (sources_more 1 n.specs k h
    ∙ (ap (λ c. sources_to n k + length (block_sources c (get_or n.specs k no_spec))) f
    ∙ ap (λ (s : Spec). sources_to n k + length (block_sources (k + 1) s)) (sym (numbered_next no_spec n.specs k))))

pub sources_small : (n : Parts) (k : ℕ) → IsNet n → sources_to n k ≤ 2048
sources_small n k net =
    let few = sources_few 1 n.specs (all_typed n net) in
    let within = sources_within 1 n.specs k in
    omega (arith, few, within, net.wired.few)

pub not_sync : (b : ℕ) (s : Spec) → is_sync s.kind ≡ false → block_sources b s ≡ ports_to b s.evtout
not_sync b s h = ap (λ c. cond c [] (ports_to b s.evtout)) h

-- ---- the seats of the first blocks

seat_for : (n : Parts) (k : ℕ) (x : Seat) → k < length n.specs → IsNet n → x.kind ≡ (spec_of n (k + 1)).kind → x.first_source ≡ sources_to n k + 1
    → IsSeat n (k + 1) x
seat_for n k x h net kind first = record {
  kind = kind;
  first = omega (arith, first);
  within = λ y. let l = long y in let next = sources_next n k h in let all = sources_within 1 n.specs (k + 1) in omega (arith, l, next, all, first);
  sources = λ p o y.
      let e : x.first_source + (p - 1) ≡ suc (sources_to n k + (p - 1)) = omega (arith, first, o.least) in
      let f : suc (p - 1) ≡ p = omega (arith, o.least) in
      let less : p - 1 < s.evtout = omega (arith, o.least, o.most) in
      ap (λ j. source_of n j) e
      ∙ (read (p - 1) (omega (arith, less, long y))
      ∙ (ap (λ (ss : List Source). get_or ss (p - 1) Start) (not_sync (k + 1) s (plain y))
      ∙ (port_read (k + 1) s.evtout (p - 1) Start less ∙ ap (λ j. Port (record { block = k + 1; port = j })) f)));
}
  where
    s : Spec
    s = spec_of n (k + 1)

    plain : is_sync x.kind ≡ false → is_sync s.kind ≡ false
    plain y = ap is_sync (sym kind) ∙ y

    long : is_sync x.kind ≡ false → length (block_sources (k + 1) s) ≡ s.evtout
    long y = ap length (not_sync (k + 1) s (plain y)) ∙ ports_length (k + 1) s.evtout

    is : block_sources (1 + k) (get_or n.specs k no_spec) ≡ block_sources (k + 1) s
    is =
        let f : 1 + k ≡ k + 1 = omega arith in
        ap (λ c. block_sources c (get_or n.specs k no_spec)) f ∙ ap (λ (t : Spec). block_sources (k + 1) t) (sym (numbered_next no_spec n.specs k))

    read : (p : ℕ) → p < length (block_sources (k + 1) s) → get_or (sources_from 1 n.specs) (sources_to n k + p) Start ≡ get_or (block_sources (k + 1) s) p Start
    read p l =
        source_read 1 n.specs k p Start h (subst (λ (ss : List Source). p < length ss) (sym is) l)
        ∙ ap (λ (ss : List Source). get_or ss p Start) is

pub record IsSeatingTo (n : Parts) (specs : ℕ → Spec) (k source : ℕ) (seats : List Seat) (banks : List Meaning) : Type 0 where
  pub full : IsFull banks
  pub in_order : AreInOrder banks
  pub first : source ≡ sources_to n k + 1
  pub one_each : length seats ≡ k
  pub seats_are : (b : ℕ) → 1 ≤ b → b ≤ k → IsSeat n b (seat_in seats b)
  pub known : (b : ℕ) → 1 ≤ b → b ≤ k → (seat_in seats b).slot < length (bank_of banks (seat_in seats b).kind).rows
  pub rows : (b : ℕ) → 1 ≤ b → b ≤ k → row_at (bank_of banks (seat_in seats b).kind) (seat_in seats b).slot ≡ first_row (specs b)
  pub apart : (b c : ℕ) → 1 ≤ b → b ≤ k → 1 ≤ c → c ≤ k → (seat_in seats b).kind ≡ (seat_in seats c).kind → (seat_in seats b).slot ≡ (seat_in seats c).slot
      → b ≡ c
  pub counts : (k : Kind) → (bank_of banks k).outs ≡ 0

pub seating_none : (n : Parts) (specs : ℕ → Spec) (seats : List Seat) (banks : List Meaning) → AreReset banks → seats ≡ [] → IsSeatingTo n specs 0 1 seats banks
seating_none n specs seats banks r e = record {
  full = r.full;
  in_order = r.in_order;
  first = omega arith;
  one_each = ap length e;
  seats_are = λ b h l. absurd (omega (arith, h, l));
  known = λ b h l. absurd (omega (arith, h, l));
  rows = λ b h l. absurd (omega (arith, h, l));
  apart = λ b c h l. absurd (omega (arith, h, l));
  counts = r.counts;
}

pub seating_all : (n : Parts) (specs : ℕ → Spec) (k first : ℕ) (seats : List Seat) (banks : List Meaning) → k ≡ length n.specs → IsSeatingTo n specs k first seats banks
    → IsSeatingBy n specs seats banks
seating_all n specs k first seats banks e h = record {
  one_each = h.one_each ∙ e;
  seats_are = λ b block. h.seats_are b block.least (omega (arith, block.most, e));
  known = λ b block. h.known b block.least (omega (arith, block.most, e));
  rows = λ b block. h.rows b block.least (omega (arith, block.most, e));
  apart = λ b c x y. h.apart b c x.least (omega (arith, x.most, e)) y.least (omega (arith, y.most, e));
  counts = h.counts;
}

-- an instance more
record IsAdded (banks new : List Meaning) (kind : Kind) (s : Spec) : Type 0 where
  kept : (q : Kind) (slot : ℕ) → slot < length (bank_of banks q).rows → row_at (bank_of new q) slot ≡ row_at (bank_of banks q) slot
  known : (q : Kind) (slot : ℕ) → slot < length (bank_of banks q).rows → slot < length (bank_of new q).rows
  row : row_at (bank_of new kind) (length (bank_of banks kind).rows) ≡ first_row s
  last : length (bank_of banks kind).rows < length (bank_of new kind).rows
  counts : (q : Kind) → (bank_of new q).outs ≡ (bank_of banks q).outs

added : (banks new : List Meaning) (kind : Kind) (s : Spec) → IsFull banks → new ≡ with_bank banks kind (after_add (bank_of banks kind) s)
    → IsAdded banks new kind s
added banks new kind s f w = record {
  kept = λ q slot l. elim (cases_eq (place_of q) (place_of kind)) [
    | inl e ↦
        ap (λ (m : Meaning). row_at m slot) (here q e)
        ∙ (get_or_append_left old (first_row s ∷ []) no_row slot (subst (λ (m : Meaning). slot < length m.rows) (same_bank q e) l)
        ∙ ap (λ (m : Meaning). row_at m slot) (sym (same_bank q e)))
    | inr ne ↦ ap (λ (m : Meaning). row_at m slot) (other q ne)
  ];
  known = λ q slot l. elim (cases_eq (place_of q) (place_of kind)) [
    | inl e ↦
        let a = ap (λ (m : Meaning). length m.rows) (here q e) in
        let b = length_push old (first_row s) in
        let c = ap (λ (m : Meaning). length m.rows) (same_bank q e) in
        omega (arith, a, b, c, l)
    | inr ne ↦ let a = ap (λ (m : Meaning). length m.rows) (other q ne) in omega (arith, a, l)
  ];
  row = ap (λ (m : Meaning). row_at m (length old)) (here kind refl) ∙ get_or_push old (first_row s) no_row (length old) refl;
  last = let a = ap (λ (m : Meaning). length m.rows) (here kind refl) in let b = length_push old (first_row s) in omega (arith, a, b);
  counts = λ q. elim (cases_eq (place_of q) (place_of kind)) [
    | inl e ↦ ap (λ (m : Meaning). m.outs) (here q e) ∙ ap (λ (m : Meaning). m.outs) (sym (same_bank q e))
    | inr ne ↦ ap (λ (m : Meaning). m.outs) (other q ne)
  ];
}
  where
    old : List Instance
    old = (bank_of banks kind).rows

    same_bank : (q : Kind) → place_of q ≡ place_of kind → bank_of banks q ≡ bank_of banks kind
    same_bank q e = ap (λ i. get_or banks i no_bank) e

    here : (q : Kind) → place_of q ≡ place_of kind → bank_of new q ≡ after_add (bank_of banks kind) s
    here q e =
        ap (λ (bs : List Meaning). bank_of bs q) w
        ∙ get_or-set_at banks (place_of kind) (place_of q) (after_add (bank_of banks kind) s) no_bank e (Holds-full banks kind f)

    other : (q : Kind) → place_of q ≢ place_of kind → bank_of new q ≡ bank_of banks q
    other q ne = ap (λ (bs : List Meaning). bank_of bs q) w ∙ get_or-set_other banks (place_of kind) (place_of q) (after_add (bank_of banks kind) s) no_bank ne

-- the seats of the blocks before stay, and the last is the new one
pub numbered_old : {A : Type 0} (d : A) (xs ys : List A) (b : ℕ) → b ≤ length xs → numbered d (xs ++ ys) b ≡ numbered d xs b
numbered_old d xs ys zero h = refl
numbered_old d xs ys (suc k) h = get_or_append_left xs ys d k (omega (arith, h))

pub numbered_new : {A : Type 0} (d : A) (xs : List A) (y : A) (b : ℕ) → b ≡ length xs + 1 → numbered d (xs ++ (y ∷ [])) b ≡ y
numbered_new d xs y zero h = absurd (omega (arith, h))
numbered_new d xs y (suc k) h = get_or_push xs y d k (omega (arith, h))

module _ (n : Parts) (specs : ℕ → Spec) (k first : ℕ) (seats : List Seat) (banks : List Meaning) (new_seats : List Seat) (new : List Meaning) (x : Seat) (s : Spec)
    (h : IsSeatingTo n specs k first seats banks) (net : IsNet n)
    (l : k < length n.specs) (kind : x.kind ≡ s.kind) (slot : x.slot ≡ length (bank_of banks x.kind).rows) (source : x.first_source ≡ first)
    (pushed : new_seats ≡ seats ++ x ∷ []) (w : new ≡ with_bank banks x.kind (after_add (bank_of banks x.kind) s)) (value : s ≡ specs (k + 1))
    (same_kind : s.kind ≡ (spec_of n (k + 1)).kind) where
  a : IsAdded banks new x.kind s
  a = added banks new x.kind s h.full w

  -- of the blocks before
  old : (b : ℕ) → b ≤ k → seat_in new_seats b ≡ seat_in seats b
  old b most = ap (λ ss. seat_in ss b) pushed ∙ numbered_old no_seat seats (x ∷ []) b (omega (arith, most, h.one_each))

  last : (b : ℕ) → b ≡ k + 1 → seat_in new_seats b ≡ x
  last b e = ap (λ ss. seat_in ss b) pushed ∙ numbered_new no_seat seats x b (omega (arith, e, h.one_each))

  here : (b : ℕ) → b ≤ k + 1 → k + 1 ≤ b → b ≡ k + 1
  here b most least = omega (arith, most, least)

  pub seating_next : (next : ℕ) → next ≡ first + length (block_sources (k + 1) (spec_of n (k + 1))) → (IsFull banks → IsFull new)
      → (AreInOrder banks → AreInOrder new)
      → IsSeatingTo n specs (k + 1) next new_seats new
  seating_next next e full order = record {
    full = full h.full;
    in_order = order h.in_order;
    first = let more = sources_next n k l in omega (arith, e, more, h.first);
    one_each = ap length pushed ∙ (length_push seats x ∙ ap (λ m. m + 1) h.one_each);
    seats_are = λ b least most. elim (cases_lt b (k + 1)) [
      | inl less ↦ subst (IsSeat n b) (sym (old b (omega (arith, less)))) (h.seats_are b least (omega (arith, less)))
      | inr more ↦
          let is = here b most more in
          let here = seat_for n k x l net (kind ∙ same_kind) (source ∙ h.first) in
          subst (λ c. IsSeat n c (seat_in new_seats b)) (sym is) (subst (IsSeat n (k + 1)) (sym (last b is)) here)
    ];
    known = λ b least most. elim (cases_lt b (k + 1)) [
      | inl less ↦
          let q : b ≤ k = omega (arith, less) in
          subst (λ (s : Seat). s.slot < length (bank_of new s.kind).rows) (sym (old b q))
          (a.known (seat_in seats b).kind (seat_in seats b).slot (h.known b least q))
      | inr more ↦
          subst (λ (s : Seat). s.slot < length (bank_of new s.kind).rows) (sym (last b (here b most more)))
          (subst (λ i. i < length (bank_of new x.kind).rows) (sym slot) a.last)
    ];
    rows = λ b least most. elim (cases_lt b (k + 1)) [
      | inl less ↦
          let q : b ≤ k = omega (arith, less) in
          ap (λ (s : Seat). row_at (bank_of new s.kind) s.slot) (old b q)
          ∙ (a.kept (seat_in seats b).kind (seat_in seats b).slot (h.known b least q) ∙ h.rows b least q)
      | inr more ↦
          let is = here b most more in
          ap (λ (s : Seat). row_at (bank_of new s.kind) s.slot) (last b is)
          ∙ (ap (λ i. row_at (bank_of new x.kind) i) slot ∙ (a.row ∙ (ap first_row value ∙ ap (λ c. first_row (specs c)) (sym is))))
    ];
    apart = λ b c b_least b_most c_least c_most kinds slots. elim (cases_lt b (k + 1)) [
      | inl less ↦ elim (cases_lt c (k + 1)) [
        | inl c_less ↦
            let p : b ≤ k = omega (arith, less) in
            let q : c ≤ k = omega (arith, c_less) in
            h.apart b c b_least p c_least q
            (ap (λ (s : Seat). s.kind) (sym (old b p)) ∙ (kinds ∙ ap (λ (s : Seat). s.kind) (old c q)))
            (ap (λ (s : Seat). s.slot) (sym (old b p)) ∙ (slots ∙ ap (λ (s : Seat). s.slot) (old c q)))
        | inr c_more ↦ absurd (never b c b_least (omega (arith, less)) (here c c_most c_more) kinds slots)
      ]
      | inr more ↦ elim (cases_lt c (k + 1)) [
        | inl c_less ↦ absurd (never c b c_least (omega (arith, c_less)) (here b b_most more) (sym kinds) (sym slots))
        | inr c_more ↦ omega (arith, b_most, c_most, more, c_more)
      ]
    ];
    counts = λ q. a.counts q ∙ h.counts q;
  }
    where
      never : (b c : ℕ) → 1 ≤ b → b ≤ k → c ≡ k + 1 → (seat_in new_seats b).kind ≡ (seat_in new_seats c).kind
          → (seat_in new_seats b).slot ≡ (seat_in new_seats c).slot → ⊥
      never b c least most is kinds slots =
          let known = h.known b least most in
          let kind_is = ap (λ (s : Seat). s.kind) (sym (old b most)) ∙ (kinds ∙ ap (λ (s : Seat). s.kind) (last c is)) in
          let slot_is = ap (λ (s : Seat). s.slot) (sym (old b most)) ∙ (slots ∙ ap (λ (s : Seat). s.slot) (last c is)) in
          let long = ap (λ q. length (bank_of banks q).rows) kind_is in
          omega (arith, known, slot_is, long, slot)

-- ---- states that are given

-- the spec of a block with its state among these
pub begun_is : (n : Parts) (rows : List (Vec ℤ Global)) (k : ℕ) (v : Vec ℤ Global) (s t : Spec) → k < length rows → v ≡ get_or rows k v → s ≡ spec_of n (k + 1)
    → t ≡ record s { state = v.items } → t ≡ begun n (rows_of rows) (k + 1)
begun_is n rows k v s t h there spec state =
    let e : k + 1 - 1 ≡ k = omega arith in
    let row : numbered [] (rows_of rows) (k + 1) ≡ v.items = numbered_map (λ (w : Vec ℤ Global). w.items) [] rows (k + 1) v (omega arith) (omega (arith, h)) (subst (λ j. v ≡ get_or rows j v) (sym e) there) in
    state ∙ (ap (λ (u : Spec). record u { state = v.items }) spec ∙ ap (λ (x : List ℤ). record (spec_of n (k + 1)) { state = x }) (sym row))
