-- Runs: what one call reads and writes, and what the calls that were made leave of the values and of the bank.
use Rattle.std.proofs.Common.{◌≡◌, ℕ, zero, suc, ◌+◌, ◌-◌, ◌<◌, ◌≤◌, min, ℤ, pos, List, [], ◌∷◌, ◌++◌, length, drop, take, get_or, set, refl, ap, sym, ◌∙◌, subst, arith, inl, inr, add-zero, add-one}
use Rattle.std.specs.Prelude.{All}
use Rattle.std.proofs.Math.Seq.{drop-cons}
use Rattle.std.proofs.lemmas.List.{take-append-drop, set_split, length-set, get_or-set_other, get_or_default, drop_all}
use Rattle.std.proofs.lemmas.Bool.{cases_eq}
use Rattle.std.proofs.lemmas.Grind.{get_or-set_at}
use Rattle.sci_base.specs.declared.Ty.{Ty}
use Rattle.sci_base.specs.declared.Ty.TheVariants.{I32}
use Rattle.sci_base.specs.Fit.{InRange}
use Rattle.sci_base.specs.Lists.{at}
use Rattle.sci_forms.specs.declared.Kind.{Kind}
use Rattle.sci_forms.specs.declared.ports.Port.{Port}
use Rattle.sci_forms.specs.declared.spec.Spec.{Spec}
use Rattle.sci_forms.specs.Ports.{port_at, elements, type_of, total, type_at, Fills}
use Rattle.sci_kinds.specs.declared.Cell.{Cell}
use Rattle.sci_kinds.specs.declared.Cell.TheVariants.{Value, Overflow, Zero}
use Rattle.sci_kinds.specs.Asks.{IsState, IsMask, entering, entering_of}
use Rattle.sci_kinds.specs.Table.{gathered as cells, then_cell, cell, cell_of, out, next, Answer, Values, NoFit, NoQuotient}
use Rattle.sci_kinds.proofs.Elements.{nat_lt_yes, nat_lt_no}
use Rattle.sci_kinds.proofs.LawLemmas.{out_in_range}
use Rattle.sci_kinds.proofs.LawProofs.{asks}
use Rattle.sci_span.specs.declared.span.Span.{Span}
use Rattle.sci_span.specs.declared.place.Place.{Place}
use Rattle.sci_span.specs.Values.{no_place, no_span, span_end, read_at, gathered, overwritten, AreWithin, IsLone}
use Rattle.sci_bank.specs.declared.Fate.{Fate}
use Rattle.sci_bank.specs.declared.Fate.TheVariants as Fates
use Rattle.sci_bank.specs.declared.instance.Instance.{Instance}
use Rattle.sci_bank.specs.declared.runs.Call.{Call}
use Rattle.sci_bank.specs.Bank.{Meaning, row_in, row_at, spec_at, no_row, IsOfKind, AreRows, counted, row_after_update, after_update}
use Rattle.sci_bank.specs.Runs.{place_in, answer_at, IsWritten, RunEnd, Went, StuckAt, later, behind, run_of, calls_made, after_outs, after_updates, AreOfTypes, HasTypes, IsPlaced, ArePlaced, MayRun}
use Rattle.sci_kind_bank.proofs.BankLemmas.{IsOfKind-row, AreRows-set}

-- ---- what one call writes

overwritten_none : (values : List ℤ) (start : ℕ) → overwritten values start [] ≡ values
overwritten_none values start = rw add-zero (take-append-drop start values)

overwritten_one : (values : List ℤ) (start : ℕ) (v : ℤ) → start < length values → overwritten values start (v ∷ []) ≡ set values start v
overwritten_one values start v h = rw add-one (sym (set_split values start v h))

-- a block without outputs writes nothing
pub none_written : (s : Spec) (x : List ℤ) (m : ℕ) (u : List ℤ) (start : ℕ) (values : List ℤ) → total s.outs ≡ 0 → IsWritten (out s x m u) start values values Fates.Done
none_written s x m u start values e =
    subst (λ n. IsWritten (cells (cell s x m u) n) start values values Fates.Done) (sym e) (refl, sym (overwritten_none values start))

-- the answer of a block with one element
one_answer : (k : Kind) (s : Spec) (x : List ℤ) (m : ℕ) (u : List ℤ) (c : Cell) → s.kind ≡ k → total s.outs ≡ 1 → c ≡ cell_of k s x m u 0 → out s x m u ≡ then_cell (Values []) c
one_answer k s x m u c e n h =
    ap (cells (cell s x m u)) n ∙ ap (λ q. then_cell (Values []) (cell_of q s x m u 0)) e ∙ ap (then_cell (Values [])) (sym h)

pub one_written : (k : Kind) (s : Spec) (x : List ℤ) (m : ℕ) (u : List ℤ) (start : ℕ) (values : List ℤ) (v : ℤ) → s.kind ≡ k → total s.outs ≡ 1 → Value v ≡ cell_of k s x m u 0 → start < length values
    → IsWritten (out s x m u) start values (set values start v) Fates.Done
one_written k s x m u start values v e n h l =
    subst (λ a. IsWritten a start values (set values start v) Fates.Done) (sym (one_answer k s x m u (Value v) e n h)) (refl, sym (overwritten_one values start v l))

pub overflow_written : (k : Kind) (s : Spec) (x : List ℤ) (m : ℕ) (u : List ℤ) (start : ℕ) (values : List ℤ) → s.kind ≡ k → total s.outs ≡ 1 → Overflow ≡ cell_of k s x m u 0
    → IsWritten (out s x m u) start values values Fates.Overflow
overflow_written k s x m u start values e n h =
    subst (λ a. IsWritten a start values values Fates.Overflow) (sym (one_answer k s x m u Overflow e n h)) (refl, refl)

pub zero_written : (k : Kind) (s : Spec) (x : List ℤ) (m : ℕ) (u : List ℤ) (start : ℕ) (values : List ℤ) → s.kind ≡ k → total s.outs ≡ 1 → Zero ≡ cell_of k s x m u 0
    → IsWritten (out s x m u) start values values Fates.Zero
zero_written k s x m u start values e n h =
    subst (λ a. IsWritten a start values values Fates.Zero) (sym (one_answer k s x m u Zero e n h)) (refl, refl)

-- ---- what goes in

first_or_rest : (p : Port) (ps : List Port) (v : ℤ) (vs : List ℤ) → elements p ≡ 1 → InRange (type_of p) v → Fills ps vs → (e : ℕ) → e < total (p ∷ ps) → InRange (type_at (p ∷ ps) e) (at (v ∷ vs) e)
first_or_rest p ps v vs one r f zero h = rw (nat_lt_yes 0 (elements p) (omega (arith, one))) r
first_or_rest p ps v vs one r f (suc e) h =
    let past : suc e - elements p ≡ e = omega (arith, one) in
    rw (nat_lt_no (suc e) (elements p) (omega (arith, one)), past) (f.in_range e (omega (arith, one, h)))

-- one more value, of a port with one element
Fills-cons : (p : Port) (ps : List Port) (v : ℤ) (vs : List ℤ) → elements p ≡ 1 → InRange (type_of p) v → Fills ps vs → Fills (p ∷ ps) (v ∷ vs)
Fills-cons p ps v vs one r f = record { enough = omega (arith, one, f.enough); in_range = first_or_rest p ps v vs one r f }

read_one : (values : List ℤ) (s : Span) → s.len ≡ 1 → s.start < length values → read_at values s ≡ at values s.start ∷ []
read_one values s one h = rw one (ap (take 1) (drop-cons values s.start (pos 0) h))

types_tail : (types : List Ty) (p : Port) (ps : List Port) (s : Span) (ss : List Span) → HasTypes types (p ∷ ps) (s ∷ ss) → HasTypes types ps ss
types_tail types p ps s ss h = record {
  one_each = omega (arith, h.one_each);
  within = λ k l. h.within (suc k) (omega (arith, l));
  sizes_are = λ k l. h.sizes_are (suc k) (omega (arith, l));
  types_are = λ k l. h.types_are (suc k) (omega (arith, l));
}

-- the values at places of one element each fill the ports
pub gathered_fills : (types : List Ty) (ps : List Port) (ss : List Span) (values : List ℤ) → AreOfTypes types values → HasTypes types ps ss → All (λ s. s.len ≡ 1) ss → Fills ps (gathered values ss)
gathered_fills types [] [] values a h lone = record { enough = refl; in_range = λ e l. absurd (omega (arith, l)) }
gathered_fills types [] (s ∷ ss) values a h lone = absurd (omega (arith, h.one_each))
gathered_fills types (p ∷ ps) [] values a h lone = absurd (omega (arith, h.one_each))
gathered_fills types (p ∷ ps) (s ∷ ss) values a h lone =
    let one : s.len ≡ 1 = lone 0 s (omega arith) in
    let here : s.start < length types = h.within 0 (omega arith) in
    let there : s.start < length values = omega (arith, here, a.one_each) in
    let size : s.len ≡ elements p = h.sizes_are 0 (omega arith) in
    let type_is : get_or types s.start I32 ≡ type_of p = h.types_are 0 (omega arith) in
    let rest = gathered_fills types ps ss values a (types_tail types p ps s ss h) (λ k d l. lone (suc k) d (omega (arith, l))) in
    subst (λ (vs : List ℤ). Fills (p ∷ ps) (vs ++ gathered values ss)) (sym (read_one values s one there))
    (Fills-cons p ps (at values s.start) (gathered values ss) (sym size ∙ one) (subst (λ t. InRange t (at values s.start)) type_is (a.in_range s.start there)) rest)

-- and they are there
gathered_within : (types : List Ty) (ps : List Port) (ss : List Span) (values : List ℤ) → AreOfTypes types values → HasTypes types ps ss → All (λ s. s.len ≡ 1) ss → AreWithin values ss
gathered_within types ps ss values a h lone = λ k d l.
    let here = h.within k l in
    let one : (get_or ss k no_span).len ≡ 1 = lone k no_span l in
    subst (λ (s : Span). span_end s ≤ length values) (get_or_default ss k no_span d l) (omega (arith, here, one, a.one_each))

-- ---- what a call asks

-- what a call of a row at a place asks
pub record MayCall (k : Kind) (r : Instance) (m : ℕ) (p : Place) (values : List ℤ) : Type 0 where
  pub typed : IsOfKind k r.spec
  pub state : IsState r.spec r.state
  pub masked : IsMask r.spec m
  pub lone : IsLone p
  pub within : AreWithin values p.ins
  pub there : 0 < p.outs.len → p.outs.start < length values
  pub ins : Fills (entering_of k r.spec) (gathered values p.ins)
  pub room : p.outs.len ≡ total r.spec.outs

-- the output of a block that has some is there
out_there : (b : Meaning) (places : List Place) (types : List Ty) (c : Call) (values : List ℤ) → IsPlaced b places types c → AreOfTypes types values → 0 < (place_in places c.block).outs.len → (place_in places c.block).outs.start < length values
out_there b places types c values i a h =
    let o = i.outs (omega (arith, h, i.long)) in
    let here = o.within 0 (omega arith) in
    omega (arith, here, a.one_each)

pub may_call : (k : Kind) (b : Meaning) (places : List Place) (types : List Ty) (c : Call) (values : List ℤ) (r : Instance) → spec_at b c.slot ≡ r.spec → IsOfKind k r.spec → IsState r.spec r.state
    → IsPlaced b places types c → AreOfTypes types values → MayCall k r c.mask (place_in places c.block) values
may_call k b places types c values r e t st i a = record {
  typed = t;
  state = st;
  masked = subst (λ s. IsMask s c.mask) e i.masked;
  lone = i.lone;
  within = gathered_within types (spec_at b c.slot).ins (place_in places c.block).ins values a i.ins i.lone.ins;
  there = out_there b places types c values i a;
  ins =
      let f : Fills (entering (spec_at b c.slot)) (gathered values (place_in places c.block).ins) = rw (i.takes_inputs) (gathered_fills types (spec_at b c.slot).ins (place_in places c.block).ins values a i.ins i.lone.ins) in
      subst (λ q. Fills (entering_of q r.spec) (gathered values (place_in places c.block).ins)) t.kind_is (subst (λ s. Fills (entering s) (gathered values (place_in places c.block).ins)) e f);
  room = i.long ∙ ap (λ (s : Spec). total s.outs) e;
}

-- ---- types

AreOfTypes-set : (types : List Ty) (values : List ℤ) (i : ℕ) (v : ℤ) → i < length values → InRange (get_or types i I32) v → AreOfTypes types values → AreOfTypes types (set values i v)
AreOfTypes-set types values i v h r a = record {
  one_each = a.one_each ∙ sym (length-set values i v);
  in_range = λ k l. elim (cases_eq k i) [
    | inl q ↦ subst (InRange (get_or types k I32)) (sym (get_or-set_at values i k v (pos 0) q h)) (subst (λ j. InRange (get_or types j I32) v) (sym q) r)
    | inr q ↦ subst (InRange (get_or types k I32)) (sym (get_or-set_other values i k v (pos 0) q)) (a.in_range k (subst (λ n. k < n) (length-set values i v) l))
  ];
}

type_first : (ps : List Port) → 0 < length ps → 0 < elements (port_at ps 0) → type_at ps 0 ≡ type_of (port_at ps 0)
type_first [] h l = absurd (omega arith)
type_first (p ∷ ps) h l = rw (nat_lt_yes 0 (elements p) l) refl

-- values are written that fill the one output, if there is one
filled_types : (types : List Ty) (ps : List Port) (p : Span) (values vs : List ℤ) → p.len ≤ 1 → p.len ≡ total ps → (0 < total ps → HasTypes types ps (p ∷ [])) → Fills ps vs → AreOfTypes types values
    → AreOfTypes types (overwritten values p.start vs)
filled_types types ps p values [] lone long outs f a = subst (AreOfTypes types) (sym (overwritten_none values p.start)) a
filled_types types ps p values (v ∷ []) lone long outs f a =
    let some : 0 < total ps = omega (arith, f.enough) in
    let o = outs some in
    let here : p.start < length types = o.within 0 (omega arith) in
    let there : p.start < length values = omega (arith, here, a.one_each) in
    let size : p.len ≡ elements (port_at ps 0) = o.sizes_are 0 (omega arith) in
    let type_is : get_or types p.start I32 ≡ type_of (port_at ps 0) = o.types_are 0 (omega arith) in
    let first : type_at ps 0 ≡ type_of (port_at ps 0) = type_first ps (omega (arith, o.one_each)) (omega (arith, size, long, some)) in
    subst (AreOfTypes types) (sym (overwritten_one values p.start v there))
    (AreOfTypes-set types values p.start v there (subst (λ t. InRange t v) (first ∙ sym type_is) (f.in_range 0 some)) a)
filled_types types ps p values (v ∷ w ∷ vs) lone long outs f a = absurd (omega (arith, f.enough, lone, long))

by_answer : (types : List Ty) (ps : List Port) (p : Span) (values new : List ℤ) (f : Fate) (a : Answer) → p.len ≤ 1 → p.len ≡ total ps → (0 < total ps → HasTypes types ps (p ∷ [])) → ((vs : List ℤ) → a ≡ Values vs → Fills ps vs)
    → IsWritten a p.start values new f → AreOfTypes types values → AreOfTypes types new
by_answer types ps p values new f (Values vs) lone long outs filled w o = subst (AreOfTypes types) (sym w.1) (filled_types types ps p values vs lone long outs (filled vs refl) o)
by_answer types ps p values new f NoFit lone long outs filled w o = subst (AreOfTypes types) (sym w.1) o
by_answer types ps p values new f NoQuotient lone long outs filled w o = subst (AreOfTypes types) (sym w.1) o

-- the values stay in range of their types
pub types_kept : (b : Meaning) (places : List Place) (types : List Ty) (c : Call) (values new : List ℤ) (f : Fate) → AreRows b.kind b.rows → IsPlaced b places types c → AreOfTypes types values
    → IsWritten (answer_at b places c values) (place_in places c.block).outs.start values new f → AreOfTypes types new
types_kept b places types c values new f rows i a w =
    let s = spec_at b c.slot in
    let x = (row_at b c.slot).state in
    let p = place_in places c.block in
    let u = gathered values p.ins in
    let t = IsOfKind-row b.kind b.rows c.slot rows i.known in
    let ins : Fills (entering s) u = rw (i.takes_inputs) (gathered_fills types s.ins p.ins values a i.ins i.lone.ins) in
    by_answer types s.outs p.outs values new f (out s x c.mask u) i.lone.outs i.long i.outs
    (out_in_range s (asks s t.is_typed) x c.mask u (rows.states c.slot i.known) i.masked ins) w a

-- ---- the calls that were made

-- so many calls were made before these
abbrev pub after : ℕ → RunEnd → RunEnd
after n (Went values) = Went values
after n (StuckAt values k block fate) = StuckAt values (n + k) block fate

after_none : (r : RunEnd) → after 0 r ≡ r
after_none (Went values) = refl
after_none (StuckAt values k block fate) = ap (λ n. StuckAt values n block fate) (omega arith)

after_later : (n : ℕ) (r : RunEnd) → after n (later r) ≡ after (n + 1) r
after_later n (Went values) = refl
after_later n (StuckAt values k block fate) = ap (λ n. StuckAt values n block fate) (omega arith)

-- a call whose block has values
went_on : (rest : List ℤ → RunEnd) (c : Call) (p : Place) (values new : List ℤ) (a : Answer) (f : Fate) → IsWritten a p.outs.start values new f → f ≡ Fates.Done → behind rest c p values a ≡ later (rest new)
went_on rest c p values new (Values vs) f w e = ap (λ vs. later (rest vs)) (sym w.1)
went_on rest c p values new NoFit f w e = let other = w.0 in cc
went_on rest c p values new NoQuotient f w e = let other = w.0 in cc

-- a call whose block has none
went_no_further : (rest : List ℤ → RunEnd) (c : Call) (p : Place) (values new : List ℤ) (a : Answer) (f : Fate) → IsWritten a p.outs.start values new f → (f ≡ Fates.Done → ⊥) → behind rest c p values a ≡ StuckAt new 0 c.block f
went_no_further rest c p values new (Values vs) f w e = absurd (e w.0)
went_no_further rest c p values new NoFit f w e = rw (w.0, w.1) refl
went_no_further rest c p values new NoQuotient f w e = rw (w.0, w.1) refl

-- the first n calls of a run were made, and have left the values so
pub record IsRanTo (b : Meaning) (places : List Place) (calls : List Call) (old : List ℤ) (n : ℕ) (values : List ℤ) : Type 0 where
  pub ends : run_of b places calls old ≡ after n (run_of b places (drop n calls) values)
  pub typed : (types : List Ty) → AreOfTypes types old → ArePlaced b places types calls → AreOfTypes types values

pub ran_none : (b : Meaning) (places : List Place) (calls : List Call) (old : List ℤ) → IsRanTo b places calls old 0 old
ran_none b places calls old = record { ends = sym (after_none (run_of b places calls old)); typed = λ types a p. a }

next_call : (b : Meaning) (places : List Place) (calls : List Call) (n : ℕ) (d : Call) (values : List ℤ) → n < length calls
    → run_of b places (drop n calls) values
    ≡ behind (run_of b places (drop (n + 1) calls)) (get_or calls n d) (place_in places (get_or calls n d).block) values (answer_at b places (get_or calls n d) values)
next_call b places calls n d values h = rw (add-one, drop-cons calls n d h) refl

-- one more call, whose block has values
pub ran_more : (b : Meaning) (places : List Place) (calls : List Call) (old : List ℤ) (n : ℕ) (values new : List ℤ) (d : Call) (f : Fate) → AreRows b.kind b.rows → n < length calls
    → IsRanTo b places calls old n values → IsWritten (answer_at b places (get_or calls n d) values) (place_in places (get_or calls n d).block).outs.start values new f → f ≡ Fates.Done
    → IsRanTo b places calls old (n + 1) new
ran_more b places calls old n values new d f rows h r w done = record {
  ends = r.ends ∙ ap (after n) (next_call b places calls n d values h
      ∙ went_on (run_of b places (drop (n + 1) calls)) (get_or calls n d) (place_in places (get_or calls n d).block) values new (answer_at b places (get_or calls n d) values) f w done)
      ∙ after_later n (run_of b places (drop (n + 1) calls) new);
  typed = λ types a p. types_kept b places types (get_or calls n d) values new f rows (p.each n d h) (r.typed types a p) w;
}

-- a run that ends at a block without values
pub ran_stuck : (b : Meaning) (places : List Place) (calls : List Call) (old : List ℤ) (n : ℕ) (values new : List ℤ) (d : Call) (f : Fate) → n < length calls
    → IsRanTo b places calls old n values → IsWritten (answer_at b places (get_or calls n d) values) (place_in places (get_or calls n d).block).outs.start values new f → (f ≡ Fates.Done → ⊥)
    → run_of b places calls old ≡ StuckAt new n (get_or calls n d).block f
ran_stuck b places calls old n values new d f h r w stuck =
    r.ends ∙ ap (after n) (next_call b places calls n d values h
    ∙ went_no_further (run_of b places (drop (n + 1) calls)) (get_or calls n d) (place_in places (get_or calls n d).block) values new (answer_at b places (get_or calls n d) values) f w stuck)
    ∙ ap (λ k. StuckAt new k (get_or calls n d).block f) (omega arith)

-- a run that ends behind all calls
pub ran_all : (b : Meaning) (places : List Place) (calls : List Call) (old : List ℤ) (n : ℕ) (values : List ℤ) → length calls ≤ n → IsRanTo b places calls old n values → run_of b places calls old ≡ Went values
ran_all b places calls old n values h r = r.ends ∙ ap (λ cs. after n (run_of b places cs values)) (drop_all n calls h)

-- ---- the states that were stepped

-- the states of the first n calls are stepped, and the bank is so
pub record IsSteppedTo (b : Meaning) (places : List Place) (values : List ℤ) (calls : List Call) (n : ℕ) (now : Meaning) : Type 0 where
  pub outs : now.outs ≡ b.outs
  pub long : length now.rows ≡ length b.rows
  pub specs : (k : ℕ) → spec_at now k ≡ spec_at b k
  pub rows : AreRows b.kind now.rows
  pub ends : after_updates b places values calls ≡ after_updates now places values (drop n calls)

pub stepped_none : (b : Meaning) (places : List Place) (values : List ℤ) (calls : List Call) → AreRows b.kind b.rows → IsSteppedTo b places values calls 0 b
stepped_none b places values calls rows = record { outs = refl; long = refl; specs = λ k. refl; rows = rows; ends = refl }

spec_stays : (rows : List Instance) (slot m k : ℕ) (u : List ℤ) → slot < length rows → (row_in (set rows slot (row_after_update (row_in rows slot) m u)) k).spec ≡ (row_in rows k).spec
spec_stays rows slot m k u h = elim (cases_eq k slot) [
  | inl q ↦ ap (λ (r : Instance). r.spec) (get_or-set_at rows slot k (row_after_update (row_in rows slot) m u) no_row q h) ∙ ap (λ j. (row_in rows j).spec) (sym q)
  | inr q ↦ ap (λ (r : Instance). r.spec) (get_or-set_other rows slot k (row_after_update (row_in rows slot) m u) no_row q)
]

-- what the next call asks
pub may_step : (b : Meaning) (places : List Place) (types : List Ty) (values : List ℤ) (calls : List Call) (n : ℕ) (now : Meaning) (c : Call) → IsSteppedTo b places values calls n now → IsPlaced b places types c → AreOfTypes types values
    → (c.slot < length now.rows) × MayCall b.kind (row_at now c.slot) c.mask (place_in places c.block) values
may_step b places types values calls n now c r i a =
    let known : c.slot < length now.rows = omega (arith, r.long, i.known) in
    (known, may_call b.kind b places types c values (row_at now c.slot) (sym (r.specs c.slot)) (IsOfKind-row b.kind now.rows c.slot r.rows known) (r.rows.states c.slot known) i a)

-- one more call
pub stepped_more : (b : Meaning) (places : List Place) (types : List Ty) (values : List ℤ) (calls : List Call) (n : ℕ) (now : Meaning) (d : Call) → n < length calls → AreOfTypes types values → ArePlaced b places types calls
    → IsSteppedTo b places values calls n now
    → IsSteppedTo b places values calls (n + 1) (after_update now (get_or calls n d).slot (get_or calls n d).mask (gathered values (place_in places (get_or calls n d).block).ins))
stepped_more b places types values calls n now d h a p r =
    let c = get_or calls n d in
    let u = gathered values (place_in places c.block).ins in
    let m = may_step b places types values calls n now c r (p.each n d h) a in
    let filled : Fills (entering (row_at now c.slot).spec) u = subst (λ q. Fills (entering_of q (row_at now c.slot).spec) u) (sym m.1.typed.kind_is) m.1.ins in
    record {
      outs = r.outs;
      long = length-set now.rows c.slot (row_after_update (row_at now c.slot) c.mask u) ∙ r.long;
      specs = λ k. spec_stays now.rows c.slot c.mask k u m.0 ∙ r.specs k;
      rows = AreRows-set b.kind now.rows c.slot c.mask u r.rows m.0 filled;
      ends = r.ends ∙ rw (add-one, drop-cons calls n d h) refl;
    }

pub stepped_all : (b : Meaning) (places : List Place) (values : List ℤ) (calls : List Call) (n : ℕ) (now : Meaning) → length calls ≤ n → IsSteppedTo b places values calls n now → after_updates b places values calls ≡ now
stepped_all b places values calls n now h r = r.ends ∙ ap (after_updates now places values) (drop_all n calls h)

-- ---- what a run finds

abbrev pub no_call : Call
no_call = record { slot = 0; block = 0; mask = 0 }

-- the row and the place of a call, as they were read
pub record IsFound (rows : List Instance) (places : List Place) (c : Call) (row : Instance) (p : Place) : Type 0 where
  pub known : c.slot < length rows
  pub row_is : row ≡ row_in rows c.slot
  pub place_is : p ≡ place_in places c.block

pub found : (b : Meaning) (places : List Place) (types : List Ty) (c : Call) (rows : List Instance) (row : Instance) (p : Place) → length rows ≡ length b.rows → IsPlaced b places types c → row ≡ get_or rows c.slot row
    → p ≡ get_or places (c.block - 1) p → IsFound rows places c row p
found b places types c rows row p long i er ep =
    let known : c.slot < length rows = omega (arith, long, i.known) in
    record {
      known = known;
      row_is = er ∙ get_or_default rows c.slot row no_row known;
      place_is = ep ∙ get_or_default places (c.block - 1) p no_place (omega (arith, i.first, i.last));
    }

-- what the next call of a run of outputs asks
pub may_run : (b : Meaning) (places : List Place) (calls : List Call) (old : List ℤ) (n : ℕ) (values : List ℤ) (rows : List Instance) (row : Instance) (p : Place) → n < length calls → MayRun b places old calls
    → IsRanTo b places calls old n values → rows ≡ b.rows → AreRows b.kind rows → row ≡ get_or rows (get_or calls n no_call).slot row → p ≡ get_or places ((get_or calls n no_call).block - 1) p
    → IsFound b.rows places (get_or calls n no_call) row p × MayCall b.kind row (get_or calls n no_call).mask p values
may_run b places calls old n values rows row p h may r whole inv er ep =
    let c = get_or calls n no_call in
    let types = may.0 in
    let i = may.1.1.each n no_call h in
    let kept = subst (AreRows b.kind) whole inv in
    let f = found b places types c b.rows row p refl i (subst (λ (xs : List Instance). row ≡ get_or xs c.slot row) whole er) ep in
    let typed : IsOfKind b.kind row.spec = subst (λ (x : Instance). IsOfKind b.kind x.spec) (sym f.row_is) (IsOfKind-row b.kind b.rows c.slot kept f.known) in
    let state : IsState row.spec row.state = subst (λ (x : Instance). IsState x.spec x.state) (sym f.row_is) (kept.states c.slot f.known) in (
      f,
      subst (λ (q : Place). MayCall b.kind row c.mask q values) (sym f.place_is)
          (may_call b.kind b places types c values row (ap (λ (x : Instance). x.spec) (sym f.row_is)) typed state i (r.typed types may.1.0 may.1.1)),
    )

-- what was written of the row and at the place that were found
pub written_at : (b : Meaning) (places : List Place) (c : Call) (row : Instance) (p : Place) (values new : List ℤ) (f : Fate) → IsFound b.rows places c row p → IsWritten (out row.spec row.state c.mask (gathered values p.ins)) p.outs.start values new f
    → IsWritten (answer_at b places c values) (place_in places c.block).outs.start values new f
written_at b places c row p values new f found w =
    subst (λ (q : Place). IsWritten (out (spec_at b c.slot) (row_at b c.slot).state c.mask (gathered values q.ins)) q.outs.start values new f) found.place_is
    (subst (λ (x : Instance). IsWritten (out x.spec x.state c.mask (gathered values p.ins)) p.outs.start values new f) found.row_is w)

-- what the next call of a run of next states asks
pub may_update : (b : Meaning) (places : List Place) (calls : List Call) (values : List ℤ) (n : ℕ) (now : Meaning) (row : Instance) (p : Place) → n < length calls → MayRun b places values calls → IsSteppedTo b places values calls n now
    → row ≡ get_or now.rows (get_or calls n no_call).slot row → p ≡ get_or places ((get_or calls n no_call).block - 1) p
    → IsFound now.rows places (get_or calls n no_call) row p × MayCall b.kind row (get_or calls n no_call).mask p values
may_update b places calls values n now row p h may r er ep =
    let c = get_or calls n no_call in
    let i = may.1.1.each n no_call h in
    let f = found b places may.0 c now.rows row p r.long i er ep in
    let m = may_step b places may.0 values calls n now c r i may.1.0 in (
      f,
      subst (λ (q : Place). MayCall b.kind row c.mask q values) (sym f.place_is)
          (subst (λ (x : Instance). MayCall b.kind x c.mask (place_in places c.block) values) (sym f.row_is) m.1),
    )

row_with : Instance → List ℤ → Instance
row_with r state = record { spec = r.spec; state = state }

-- one more call has stepped the state of the row that was found
pub stepped_next : (b : Meaning) (places : List Place) (calls : List Call) (values : List ℤ) (n : ℕ) (now : Meaning) (row : Instance) (p : Place) (state : List ℤ) → n < length calls → MayRun b places values calls
    → IsSteppedTo b places values calls n now → IsFound now.rows places (get_or calls n no_call) row p → state ≡ next row.spec row.state (get_or calls n no_call).mask (gathered values p.ins)
    → IsSteppedTo b places values calls (n + 1) (record now { rows = set now.rows (get_or calls n no_call).slot (record { spec = row.spec; state = state }) })
unfolding row_with
stepped_next b places calls values n now row p state h may r f e =
    let c = get_or calls n no_call in
    let is : row_with row state ≡ row_after_update (row_at now c.slot) c.mask (gathered values (place_in places c.block).ins) =
    ap (row_with row) e ∙ ap (λ (q : Place). row_after_update row c.mask (gathered values q.ins)) f.place_is
    ∙ ap (λ (x : Instance). row_after_update x c.mask (gathered values (place_in places c.block).ins)) f.row_is in
    subst (λ (y : Instance). IsSteppedTo b places values calls (n + 1) (record now { rows = set now.rows c.slot y })) (sym is)
    (stepped_more b places may.0 values calls n now no_call h may.1.0 may.1.1 r)

-- ---- what a run leaves of the bank

same_meaning : (a b : Meaning) → a.kind ≡ b.kind → a.rows ≡ b.rows → a.outs ≡ b.outs → a ≡ b
same_meaning a b k r o =
    let by_kind : Kind → Meaning = λ q. record { kind = q; rows = a.rows; outs = a.outs } in
    let by_rows : List Instance → Meaning = λ q. record { kind = b.kind; rows = q; outs = a.outs } in
    let by_outs : ℕ → Meaning = λ q. record { kind = b.kind; rows = b.rows; outs = q } in
    ap by_kind k ∙ ap by_rows r ∙ ap by_outs o

-- the bank behind so many calls more
pub counted_calls : (b next : Meaning) (n made : ℕ) → next.kind ≡ b.kind → next.rows ≡ b.rows → next.outs ≡ min (b.outs + n) 18446744073709551615 → n ≡ made → next ≡ after_outs b made
counted_calls b next n made kind rows more e = same_meaning next (after_outs b n) kind rows more ∙ ap (after_outs b) e
