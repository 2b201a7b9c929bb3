-- What the check gives is formed as its kind asks.
use Rattle.std.proofs.Common.{◌≡◌, ℕ, zero, suc, ℤ, pos, List, length, Bool, true, false, ◌&&◌, ◌||◌, not, cond, Option, Some, None, Ok, refl, arith, subst}
use Rattle.std.specs.Prelude.{nat_eq, is_none}
use Rattle.std.proofs.lemmas.List.{length-append}
use Rattle.sci_base.specs.Lists.{at}
use Rattle.sci_base.specs.Plain.{Fields, Feedthrough, all_inputs, each_input, Dependence}
use Rattle.sci_forms.specs.declared.Kind.{Kind}
use Rattle.sci_forms.specs.declared.broken.Broken.{Broken}
use Rattle.sci_forms.specs.declared.ports.Port.{Port}
use Rattle.sci_forms.specs.declared.spec.Spec.{Spec}
use Rattle.sci_forms.specs.Forms.{or_else, first_not, given, all_to, within, counts_of, fed, unfed, params_len_ok, param_ok, state_len_ok, state_ok, firing_ok}
use Rattle.sci_forms.specs.Form.{has_delay, has_state}
use Rattle.sci_names.specs.Names.{by_name}
use Rattle.sci_check.specs.Check.{counts_broken, lengths_broken, forms_broken, types_broken, active_broken, values_broken, params_broken, state_broken, events_broken, broken, feed_by, feed_of, part_broken, feed_broken, bad, bad_truth, date_ok, firing_len_ok, cols_ok, types_len_ok, bad_value, declared_ports, kept, spec_of, judged, checked_kind}
use Rattle.sci_forms.specs.Typed.{feed_ok, formed_of}
use Rattle.sci_forms.proofs.Feeds.{length_repeated, length_own, own_fed, all_fed, none_fed}
use Rattle.std.proofs.lemmas.Bool.Decides.{nat_tests}
use Rattle.sci_check.specs.Laws.{CheckedLaw}

both : (a b : Bool) → a ≡ true → b ≡ true → (a && b) ≡ true
both a b h k = rw (h, k) refl

step : (b : Bool) (x : Broken) (r : Option Broken) → cond (not b) (Some x) r ≡ None → (b ≡ true) × (r ≡ None)
step true x r h = (refl, h)
step false x r h = cc

none_both : (a b : Option Broken) → or_else a b ≡ None → (a ≡ None) × (b ≡ None)
none_both (Some x) b h = cc
none_both None b h = (refl, h)

none_given : (o : Option ℕ) (f : ℕ → Broken) → given o f ≡ None → is_none o ≡ true
none_given (Some k) f h = cc
none_given None f h = refl

length_ports : (rows cols types : List ℤ) (n : ℕ) → length (declared_ports rows cols types n) ≡ n
length_ports rows cols types zero = refl
length_ports rows cols types (suc n) = let before = length_ports rows cols types n in simp length-append (omega (arith, before))

kept_len : (b : Bool) (c : Kind) (xs : List ℤ) → state_len_ok c (length xs) ≡ true → cond b (state_len_ok c (length (kept b xs))) (nat_eq (length (kept b xs)) 0) ≡ true
kept_len true c xs h = h
kept_len false c xs h = refl

kept_all : (b : Bool) (c : Kind) (ps xs : List ℤ) → all_to (state_ok c ps xs) (length xs) ≡ true → all_to (state_ok c ps (kept b xs)) (length (kept b xs)) ≡ true
kept_all true c ps xs h = h
kept_all false c ps xs h = refl

kept_dates : (b : Bool) (xs : List ℤ) → (not b || nat_eq (length xs) 1) ≡ true → (not b || firing_ok (at xs 0)) ≡ true
    → cond b (nat_eq (length (kept b xs)) 1 && firing_ok (at (kept b xs) 0)) (nat_eq (length (kept b xs)) 0) ≡ true
kept_dates true xs h k = both _ _ h k
kept_dates false xs h k = refl

same_len : (a b : ℕ) → a ≡ b → nat_eq a b ≡ true
same_len a b h = grind (arith, nat_tests)

-- what is declared of the feedthrough and breaks no rule has a truth for each input, true where the kind has feedthrough
part_fed : (c : Kind) (p : Feedthrough) (n : ℕ) → part_broken c p n ≡ None → feed_ok c (feed_by p n) n ≡ true
part_fed c (all_inputs true) n h = both _ _ (same_len _ n (length_repeated true n)) (all_fed c n)
part_fed c (all_inputs false) n h = both _ _ (same_len _ n (length_repeated false n)) (none_fed c n (none_given (first_not (unfed c) n) (λ k. bad (pos 4) 1 (pos 0)) h))
part_fed c (each_input ts) n h =
    let l = step (nat_eq (length ts) n) (bad (pos 4) 0 (pos (length ts))) (given (first_not (fed c ts) n) bad_truth) h in
    both _ _ l.0 (none_given (first_not (fed c ts) n) bad_truth l.1)

declared_fed : (c : Kind) (d : Option Dependence) (n : ℕ) → feed_broken c d n ≡ None → feed_ok c (feed_of c d n) n ≡ true
declared_fed c None n h = both _ _ (same_len _ n (length_own c n)) (own_fed c n)
declared_fed c (Some d) n h = part_fed c d.part n h

formed : (c : Kind) (f : Fields) (ins outs : List Port) → length ins ≡ length f.ins → length outs ≡ length f.outs → broken c f ≡ None
    → formed_of c (record { kind = c; params = f.ipar; state = kept (has_state c) f.dstate; firing = kept (has_delay c) f.firing; ins = ins; outs = outs; evtin = f.evtin; evtout = f.evtout; feed = feed_of c f.dep (length f.ins) }) ≡ true
formed c f ins outs p q h =
    let b1 = none_both (forms_broken c f) (or_else (types_broken f) (or_else (active_broken f) (values_broken c f))) h in
    let b2 = none_both (types_broken f) (or_else (active_broken f) (values_broken c f)) b1.1 in
    let b3 = none_both (active_broken f) (values_broken c f) b2.1 in
    let b4 = none_both (params_broken c f) (or_else (state_broken c f) (events_broken c f)) b3.1 in
    let b5 = none_both (state_broken c f) (events_broken c f) b4.1 in
    let f1 = none_both (counts_broken c f) (lengths_broken c f) b1.0 in
    let c1 = step (within (counts_of c (length f.ins)).ins_least (counts_of c (length f.ins)).ins_most (length f.ins)) _ _ f1.0 in
    let c2 = step (within (counts_of c (length f.ins)).outs_least (counts_of c (length f.ins)).outs_most (length f.outs)) _ _ c1.1 in
    let c3 = step (within (counts_of c (length f.ins)).evtin_least (counts_of c (length f.ins)).evtin_most f.evtin) _ _ c2.1 in
    let c4 = step (within (counts_of c (length f.ins)).evtout_least (counts_of c (length f.ins)).evtout_most f.evtout) _ _ c3.1 in
    let l5 = step (cols_ok (length f.in2) (length f.ins)) _ _ f1.1 in
    let l6 = step (types_len_ok (length f.intyp) (length f.ins)) _ _ l5.1 in
    let l7 = step (cols_ok (length f.out2) (length f.outs)) _ _ l6.1 in
    let l8 = step (types_len_ok (length f.outtyp) (length f.outs)) _ _ l7.1 in
    let l9 = step (firing_len_ok c (length f.firing)) _ _ l8.1 in
    let p1 = step (params_len_ok c (length f.ins) (length f.outs) (length f.ipar)) _ _ b4.0 in
    let p2 = none_given (first_not (param_ok c (length f.ins) f.ipar) (length f.ipar)) (bad_value (pos 1) f.ipar) p1.1 in
    let s1 = step (state_len_ok c (length f.dstate)) _ _ b5.0 in
    let s2 = none_given (first_not (state_ok c f.ipar f.dstate) (length f.dstate)) (bad_value (pos 2) f.dstate) s1.1 in
    let e1 = step (date_ok c f.firing) _ _ b5.1 in
    rw (p, q)
    (both _ _ (both _ _ (both _ _ (both _ _ (both _ _ (both _ _
    (both _ _ (both _ _ (both _ _ c1.0 c2.0) c3.0) c4.0)
    p1.0) p2) (kept_len (has_state c) c f.dstate s1.0)) (kept_all (has_state c) c f.ipar f.dstate s2))
    (kept_dates (has_delay c) f.firing l9.0 e1.0)) (declared_fed c f.dep (length f.ins) e1.1))

judged_formed : (place : List ℕ) (c : Kind) (f : Fields) (o : Option Broken) → broken c f ≡ o → (s : Spec) → judged place c f o ≡ Ok s → formed_of s.kind s ≡ true
judged_formed place c f (Some b) e s h = cc
judged_formed place c f None e s h =
    let same : spec_of c f ≡ s = cc in
    subst (λ (s : Spec). formed_of s.kind s ≡ true) same
    (formed c f (declared_ports f.ins f.in2 f.intyp (length f.ins)) (declared_ports f.outs f.out2 f.outtyp (length f.outs))
    (length_ports f.ins f.in2 f.intyp (length f.ins)) (length_ports f.outs f.out2 f.outtyp (length f.outs)) e)

kind_formed : (place : List ℕ) (f : Fields) (o : Option Kind) (s : Spec) → checked_kind place f o ≡ Ok s → formed_of s.kind s ≡ true
kind_formed place f None s h = cc
kind_formed place f (Some c) s h = judged_formed place c f (broken c f) refl s h

pub checked_law : CheckedLaw
checked_law place gui f s h = kind_formed place f (by_name gui) s h
