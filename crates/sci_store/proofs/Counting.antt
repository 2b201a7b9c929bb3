-- How a reaction goes on by one more active block: its values, its mark, and the counts of the banks.
use Rattle.std.proofs.Common.{◌≡◌, ℕ, zero, suc, ◌+◌, ◌-◌, ◌<◌, ◌≤◌, min, Bool, true, false, cond, eqb, inl, inr, ⊎_elim, List, [], ◌∷◌, length, get_or, set, refl, sym, ap, ap₂, ◌∙◌, arith, true≢false}
use Rattle.std.proofs.lemmas.Bool.{cases_eq}
use Rattle.std.proofs.lemmas.Bool.Decides.{eqb_tells}
use Rattle.std.proofs.lemmas.List.{get_or-set_other}
use Rattle.std.proofs.lemmas.Grind.{get_or-set_at}
use Rattle.sci_forms.specs.declared.Kind.{Kind}
use Rattle.sci_forms.specs.declared.Kind.TheVariants.{Const}
use Rattle.sci_forms.specs.declared.spec.Spec.{Spec}
use Rattle.sci_forms.specs.Numbers.{number_of}
use Rattle.sci_net.specs.Parts.{Parts, IsBlock, spec_of, wire_of, no_spec}
use Rattle.sci_net.specs.Net.{IsNet}
use Rattle.sci_net.specs.declared.Source.{Source}
use Rattle.sci_reaction.specs.Active.{Possible}
use Rattle.sci_reaction.specs.Memory.{Memory, Columns, next_value}
use Rattle.sci_reaction.specs.Equations.{Signals, input_in, output_among, answer_of, answer}
use Rattle.sci_reaction.specs.Pass.{Progress, put}
use Rattle.sci_reaction.proofs.Lists.{put_same, put_other}
use Rattle.sci_reaction.proofs.Agreement.{AgreeThrough}
use Rattle.sci_reaction.proofs.Fair.{fair}
use Rattle.sci_run.specs.Counts.{activations_from}
use Rattle.sci_run.specs.Activity.{Activity}
use Rattle.sci_places.specs.Flat.{values_at}
use Rattle.sci_bank.specs.Bank.{Meaning, no_bank, after_out, counted}
use Rattle.sci_bank.specs.Library.{place_of, bank_of, with_bank, Holds}
use Rattle.sci_bank.proofs.LibraryLemmas.{Holds-full}
use Rattle.sci_store.specs.declared.marks.Mark.{Mark}
use Rattle.sci_store.specs.Marks.{mark_at}
use Rattle.sci_store.specs.Frame.{Fixed, IsFrame, AreSeated, seat_of}
use Rattle.sci_store.specs.Store.{Standing, cursor_at, state_of, is_kind, active_of, AreCounted, AreCountedWithin}
use Rattle.sci_store.specs.Passed.{given, called}
use Rattle.sci_store.proofs.Evaluating.{mark_here, mark_other}

-- ---- values that are the same at all blocks

pub inputs_same : (n : Parts) (net : IsNet n) (y z : Signals) → ((b : ℕ) → IsBlock n b → y b ≡ z b) → (b : ℕ) → AgreeThrough n b (input_in n y b) (input_in n z b)
inputs_same n net y z same b k within through =
    ap (λ v. output_among (spec_of n (wire_of n b k).block).outs v (wire_of n b k).port) (same (wire_of n b k).block (net.wired.wires_lead b k within).block)

-- what is given by the store is what is given by the memory and the values so far
pub given_same : (f : Fixed) (i : Columns) (m : Memory) (banks : List Meaning) (s : Standing) (w : Progress) (b mask : ℕ) → IsNet f.net → IsBlock f.net b
    → ((c : ℕ) → IsBlock f.net c → values_at f.net s.values c ≡ w.values c) → state_of f banks b ≡ m.state b → cursor_at s b ≡ m.cursor b
    → given f i banks s b mask ≡ answer f.net m i b mask (input_in f.net w.values b)
unfolding answer
given_same f i m banks s w b mask net block same state cursor =
    ap₂ (λ x k. answer_of (spec_of f.net b) x (next_value i (spec_of f.net b) k) mask (input_in f.net (values_at f.net s.values) b)) state cursor
    ∙ (fair f.net m i net.typed_specs).answers b mask (input_in f.net (values_at f.net s.values) b) (input_in f.net w.values b) block
    (inputs_same f.net net (values_at f.net s.values) w.values same b)

-- ---- counts

pub activations_same : (counts : Spec → Bool) (b : ℕ) (ss : List Spec) (p q : ℕ → ℕ) → ((c : ℕ) → b ≤ c → p c ≡ q c)
    → activations_from counts b ss p ≡ activations_from counts b ss q
activations_same counts b [] p q h = refl
activations_same counts b (s ∷ ss) p q h =
    ap₂ (λ x y. cond (counts s) x 0 + y) (h b (omega arith)) (activations_same counts (b + 1) ss p q (λ c l. h c (omega (arith, l))))

none_active : (counts : Spec → Bool) (b : ℕ) (ss : List Spec) → activations_from counts b ss (λ c. 0) ≡ 0
none_active counts b [] = refl
none_active counts b (s ∷ ss) = let rest = none_active counts (b + 1) ss in by_test (counts s) rest
  where
    by_test : (t : Bool) → activations_from counts (b + 1) ss (λ c. 0) ≡ 0 → cond t 0 0 + activations_from counts (b + 1) ss (λ c. 0) ≡ 0
    by_test true e = omega (arith, e)
    by_test false e = omega (arith, e)

abbrev pub one_if : Activity → ℕ → ℕ
one_if active c = cond (active c) 1 0

-- no more blocks are active than may be
few_active : (counts : Spec → Bool) (b : ℕ) (ss : List Spec) (active possible : Activity) → ((j : ℕ) → j < length ss → active (b + j) ≡ true → possible (b + j) ≡ true)
    → activations_from counts b ss (one_if active) ≤ activations_from counts b ss (one_if possible)
few_active counts b [] active possible h = omega arith
few_active counts b (s ∷ ss) active possible h =
    let here : b + 0 ≡ b = omega arith in
    by_test (counts s) (active b) (possible b) (λ on. ap possible (sym here) ∙ h 0 (omega arith) (ap active here ∙ on))
    (activations_from counts (b + 1) ss (one_if active)) (activations_from counts (b + 1) ss (one_if possible))
    (few_active counts (b + 1) ss active possible (λ j l on. let e : b + suc j ≡ b + 1 + j = omega arith in ap possible (sym e) ∙ h (suc j) (omega (arith, l)) (ap active e ∙ on)))
  where
    by_test : (t u v : Bool) → (u ≡ true → v ≡ true) → (x y : ℕ) → x ≤ y → cond t (cond u 1 0) 0 + x ≤ cond t (cond v 1 0) 0 + y
    by_test true true true i x y h = omega (arith, h)
    by_test true true false i x y h = absurd (true≢false (sym (i refl)))
    by_test true false true i x y h = omega (arith, h)
    by_test true false false i x y h = omega (arith, h)
    by_test false u v i x y h = omega (arith, h)

-- one more active block
pub one_more : (counts : Spec → Bool) (b : ℕ) (ss : List Spec) (active : Activity) (c j : ℕ) → active c ≡ false → c ≡ b + j → j < length ss
    → activations_from counts b ss (one_if (put active c true)) ≡ activations_from counts b ss (one_if active) + cond (counts (get_or ss j no_spec)) 1 0
one_more counts b [] active c j off at l = absurd (omega (arith, l))
one_more counts b (s ∷ ss) active c zero off at l =
    let here : one_if (put active c true) b ≡ 1 = ap (λ t. cond t 1 0) (put_same active c true b (omega (arith, at))) in
    let before : one_if active b ≡ 0 = ap (λ t. cond t 1 0) (let e : b ≡ c = omega (arith, at) in ap active e ∙ off) in
    let rest = activations_same counts (b + 1) ss (one_if (put active c true)) (one_if active)
    (λ d h. ap (λ t. cond t 1 0) (put_other active c true d (λ e. omega (arith, e, at, h)))) in
    ap₂ (λ x y. cond (counts s) x 0 + y) here rest ∙ (by_test (counts s)
    ∙ ap (λ x. cond (counts s) x 0 + activations_from counts (b + 1) ss (one_if active) + cond (counts s) 1 0) (sym before))
  where
    by_test : (t : Bool) → cond t 1 0 + activations_from counts (b + 1) ss (one_if active)
        ≡ cond t 0 0 + activations_from counts (b + 1) ss (one_if active) + cond t 1 0
    by_test true = omega arith
    by_test false = omega arith
one_more counts b (s ∷ ss) active c (suc j) off at l =
    let here : one_if (put active c true) b ≡ one_if active b = ap (λ t. cond t 1 0) (put_other active c true b (λ e. omega (arith, e, at))) in
    let rest = one_more counts (b + 1) ss active c j off (omega (arith, at)) (omega (arith, l)) in
    ap₂ (λ x y. cond (counts s) x 0 + y) here rest ∙ omega arith

pub number_positive : (k : Kind) → 1 ≤ number_of k
number_positive Const = omega arith
number_positive _ = omega arith

-- what a call leaves of the counts
pub call_counts : (banks : List Meaning) (k l : Kind) → Holds banks k
    → (bank_of (with_bank banks k (after_out (bank_of banks k))) l).outs
    ≡ cond (eqb (number_of k) (number_of l)) (counted (bank_of banks l).outs) (bank_of banks l).outs
call_counts banks k l there = ⊎_elim
    (λ on.
    let same : place_of l ≡ place_of k = ap (λ j. j - 1) (sym on.1) in
    ap (λ (m : Meaning). m.outs) (get_or-set_at banks (place_of k) (place_of l) (after_out (bank_of banks k)) no_bank same there)
    ∙ (ap (λ j. counted (get_or banks j no_bank).outs) (sym same) ∙ ap (λ t. cond t (counted (bank_of banks l).outs) (bank_of banks l).outs) (sym on.0)))
    (λ off.
    let least = number_positive k in
    let other = number_positive l in
    ap (λ (m : Meaning). m.outs) (get_or-set_other banks (place_of k) (place_of l) (after_out (bank_of banks k)) no_bank
    (λ e. off.1 (omega (arith, e, least, other))))
    ∙ ap (λ t. cond t (counted (bank_of banks l).outs) (bank_of banks l).outs) (sym off.0))
    (eqb_tells (number_of k) (number_of l))

module _ (f : Fixed) (frame : IsFrame f) (old banks : List Meaning) (seated : AreSeated f banks) where
  pub counts_begin : ((k : Kind) → (bank_of old k).outs ≤ 18446744073709551615) → AreCounted f.net (λ b. false) old old
  counts_begin small k = let none = none_active (is_kind k) 1 f.net.specs in omega (arith, none, small k)

  -- one more block is active, and its bank has counted a call
  pub counts_go_on : (active : Activity) (b : ℕ) → IsBlock f.net b → active b ≡ false → AreCounted f.net active old banks
      → AreCounted f.net (put active b true) old (called f banks b)
  counts_go_on active zero block off counts k = absurd (omega (arith, block.least))
  counts_go_on active (suc j) block off counts k =
      let b = suc j in
      let kind : (seat_of f b).kind ≡ (spec_of f.net b).kind = (frame.seated b block).kind in
      let calls = call_counts banks (seat_of f b).kind k (Holds-full banks (seat_of f b).kind seated.full)
      ∙ ap (λ l. cond (eqb (number_of l) (number_of k)) (counted (bank_of banks k).outs) (bank_of banks k).outs) kind in
      let more = one_more (is_kind k) 1 f.net.specs active b j off (omega arith) (omega (arith, block.most)) in
      by_test (is_kind k (spec_of f.net b)) (active_of f.net active k) (active_of f.net (put active b true) k) more calls (counts k)
    where
      by_test : (t : Bool) (before after : ℕ) → after ≡ before + cond t 1 0
          → (bank_of (called f banks (suc j)) k).outs ≡ cond t (counted (bank_of banks k).outs) (bank_of banks k).outs
          → (bank_of banks k).outs ≡ min ((bank_of old k).outs + before) 18446744073709551615
          → (bank_of (called f banks (suc j)) k).outs ≡ min ((bank_of old k).outs + after) 18446744073709551615
      by_test true before after e calls counts = omega (arith, e, calls, counts)
      by_test false before after e calls counts = omega (arith, e, calls, counts)

-- each block that may be active counts at most once
pub counts_within : (f : Fixed) (source : Source) (old banks : List Meaning) (active : Activity) → ((k : Kind) → (bank_of old k).outs ≤ 18446744073709551615)
    → ((b : ℕ) → IsBlock f.net b → active b ≡ true → Possible f.net source b) → AreCounted f.net active old banks → AreCountedWithin f.net source old banks
counts_within f source old banks active small may counts = record {
  least = λ k. omega (arith, counts k, small k);
  most = λ possible are k.
      let few = few_active (is_kind k) 1 f.net.specs active possible
      (λ j l on. let block : IsBlock f.net (1 + j) = record { least = omega arith; most = omega (arith, l) } in (are (1 + j) block).1 (may (1 + j) block on)) in
      omega (arith, counts k, few);
}

-- ---- marks

pub put_field : {A B : Type 0} (field : A → B) (g : ℕ → A) (b : ℕ) (x : A) (c : ℕ) → field (put g b x c) ≡ put (λ j. field (g j)) b (field x) c
put_field {A} {B} field g b x c = by_test (eqb c b)
  where
    by_test : (t : Bool) → field (cond t x (g c)) ≡ cond t (field x) (field (g c))
    by_test true = refl
    by_test false = refl

pub marks_put : (marks : List Mark) (b : ℕ) (m : Mark) (c : ℕ) → 1 ≤ b → b ≤ length marks → mark_at (set marks (b - 1) m) c ≡ put (mark_at marks) b m c
marks_put marks b m c h l = elim (cases_eq c b) [
  | inl e ↦ ap (mark_at (set marks (b - 1) m)) e ∙ (mark_here marks b m h l ∙ sym (put_same (mark_at marks) b m c e))
  | inr n ↦ mark_other marks b c m h n ∙ sym (put_other (mark_at marks) b m c n)
]
