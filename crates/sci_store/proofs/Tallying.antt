-- What the banks count where the blocks of a run are done.
use Rattle.std.proofs.Common.{◌≡◌, ◌≢◌, ℕ, zero, suc, ◌+◌, ◌-◌, ◌≤◌, min, Bool, true, false, cond, eqb, ◌⊎◌, inl, inr, ⊎_elim, List, [], ◌∷◌, length, Contains, refl, sym, ap, subst, ◌∙◌, arith}
use Rattle.std.proofs.lemmas.Bool.{cases_eq}
use Rattle.std.proofs.lemmas.Bool.Decides.{eqb_tells}
use Rattle.sci_forms.specs.declared.Kind.{Kind}
use Rattle.sci_forms.specs.Numbers.{number_of}
use Rattle.sci_net.specs.Parts.{Parts, IsBlock, spec_of}
use Rattle.sci_reaction.specs.Pass.{put}
use Rattle.sci_reaction.proofs.Lists.{Contains-cons, cons-Contains, put_same, put_other}
use Rattle.sci_run.specs.Activity.{Activity}
use Rattle.sci_rounds.proofs.Together.{Apart}
use Rattle.sci_bank.specs.Bank.{Meaning}
use Rattle.sci_bank.specs.Library.{place_of, bank_of}
use Rattle.sci_store.specs.Frame.{Fixed, IsFrame, AreSeated}
use Rattle.sci_store.specs.Store.{is_kind, active_of, AreCounted}
use Rattle.sci_store.proofs.Counting.{activations_same, one_more, number_positive, one_if}
use Rattle.sci_store.proofs.Updating.{same_kind}

-- these blocks are counted too
abbrev pub counted_with : List ℕ → Activity → Activity
counted_with [] active = active
counted_with (b ∷ bs) active = counted_with bs (put active b true)

put_true : (active : Activity) (b c : ℕ) → put active b true c ≡ true → (c ≡ b) ⊎ (active c ≡ true)
put_true active b c h = ⊎_elim (λ same. inl same) (λ other. inr (sym (put_other active b true c other) ∙ h)) (cases_eq c b)

keeps_true : (active : Activity) (b c : ℕ) → active c ≡ true → put active b true c ≡ true
keeps_true active b c h = ⊎_elim (λ same. put_same active b true c same) (λ other. put_other active b true c other ∙ h) (cases_eq c b)

pub counted_from : (bs : List ℕ) (active : Activity) (c : ℕ) → counted_with bs active c ≡ true → Contains bs c ⊎ (active c ≡ true)
counted_from [] active c h = inr h
counted_from (b ∷ bs) active c h = ⊎_elim
    (λ there. inl (cons-Contains b bs c there))
    (λ on. ⊎_elim (λ same. inl (0, omega arith, sym same)) (λ old. inr old) (put_true active b c on))
    (counted_from bs (put active b true) c h)

pub counted_old : (bs : List ℕ) (active : Activity) (c : ℕ) → active c ≡ true → counted_with bs active c ≡ true
counted_old [] active c h = h
counted_old (b ∷ bs) active c h = counted_old bs (put active b true) c (keeps_true active b c h)

pub counted_new : (bs : List ℕ) (active : Activity) (c : ℕ) → Contains bs c → counted_with bs active c ≡ true
counted_new [] active c h = absurd (omega (arith, h.1))
counted_new (b ∷ bs) active c h = ⊎_elim
    (λ same. counted_old bs (put active b true) c (put_same active b true c (sym same))) (λ there. counted_new bs (put active b true) c there) (Contains-cons b bs c h)

-- a block that isn't among them is counted as before
pub counted_other : (bs : List ℕ) (active : Activity) (c : ℕ) → (Contains bs c → ⊥) → counted_with bs active c ≡ active c
counted_other [] active c out = refl
counted_other (b ∷ bs) active c out =
    counted_other bs (put active b true) c (λ h. out (cons-Contains b bs c h)) ∙ put_other active b true c (λ same. out (0, omega arith, sym same))

more_here : (n : Parts) (k kind : Kind) (b : ℕ) (active : Activity) → IsBlock n b → (spec_of n b).kind ≡ kind → active b ≡ false
    → active_of n (put active b true) k ≡ active_of n active k + cond (is_kind k (spec_of n b)) 1 0
more_here n k kind zero active block same off = absurd (let a = block.least in omega (arith, a))
more_here n k kind (suc j) active block same off = one_more (is_kind k) 1 n.specs active (suc j) j off (omega arith) (let a = block.most in omega (arith, a))

-- so many blocks of a kind more
count_more : (n : Parts) (k kind : Kind) (bs : List ℕ) (active : Activity) → Apart bs → ((b : ℕ) → Contains bs b → IsBlock n b) → ((b : ℕ) → Contains bs b → (spec_of n b).kind ≡ kind)
    → ((b : ℕ) → Contains bs b → active b ≡ false) → active_of n (counted_with bs active) k ≡ active_of n active k + cond (eqb (number_of kind) (number_of k)) (length bs) 0
count_more n k kind [] active apart block same off = by_test (eqb (number_of kind) (number_of k))
  where
    by_test : (t : Bool) → active_of n active k ≡ active_of n active k + cond t 0 0
    by_test true = omega arith
    by_test false = omega arith
count_more n k kind (b ∷ bs) active apart block same off =
    let first : Contains (b ∷ bs) b = (0, omega arith, refl) in
    let one = more_here n k kind b active (block b first) (same b first) (off b first)
    ∙ ap (λ (x : Kind). active_of n active k + cond (eqb (number_of x) (number_of k)) 1 0) (same b first) in
    let rest = count_more n k kind bs (put active b true) apart.1 (λ c h. block c (cons-Contains b bs c h)) (λ c h. same c (cons-Contains b bs c h))
    (λ c h. put_other active b true c (λ is. apart.0 (subst (Contains bs) is h)) ∙ off c (cons-Contains b bs c h)) in
    by_test (eqb (number_of kind) (number_of k)) (active_of n active k) (active_of n (put active b true) k) (active_of n (counted_with bs (put active b true)) k) one rest
  where
    by_test : (t : Bool) (x y z : ℕ) → y ≡ x + cond t 1 0 → z ≡ y + cond t (length bs) 0 → z ≡ x + cond t (suc (length bs)) 0
    by_test true x y z e h = omega (arith, e, h)
    by_test false x y z e h = omega (arith, e, h)

-- the banks have counted these blocks more, which are all of one kind
pub counts_run : (f : Fixed) (old banks after : List Meaning) (kind : Kind) (bs : List ℕ) (active : Activity) → IsFrame f → AreSeated f banks → Apart bs
    → ((b : ℕ) → Contains bs b → IsBlock f.net b) → ((b : ℕ) → Contains bs b → (spec_of f.net b).kind ≡ kind) → ((b : ℕ) → Contains bs b → active b ≡ false)
    → AreCounted f.net active old banks
    → ((bank_of banks kind).outs ≤ 18446744073709551615 → (bank_of after kind).outs ≡ min ((bank_of banks kind).outs + length bs) 18446744073709551615)
    → ((k : Kind) → k ≢ kind → (bank_of after k).outs ≡ (bank_of banks k).outs) → AreCounted f.net (counted_with bs active) old after
counts_run f old banks after kind bs active frame seated apart block same off counts here others k = ⊎_elim
    (λ on.
    let least = number_positive k in
    let other = number_positive kind in
    let place : place_of k ≡ place_of kind = ap (λ j. j - 1) (sym on.1) in
    let is : k ≡ kind = same_kind banks kind k seated.in_order seated.full place in
    let more = count_more f.net k kind bs active apart block same off ∙ ap (λ t. active_of f.net active k + cond t (length bs) 0) on.0 in
    let old_count = counts k in
    let same_bank = ap (λ x. (bank_of banks x).outs) is in
    let new_count = ap (λ x. (bank_of after x).outs) is ∙ here (omega (arith, old_count, same_bank)) in
    omega (arith, more, old_count, same_bank, new_count))
    (λ off'.
    let ne : k ≢ kind = λ is. off'.1 (ap number_of (sym is)) in
    let more = count_more f.net k kind bs active apart block same off ∙ ap (λ t. active_of f.net active k + cond t (length bs) 0) off'.0 in
    let old_count = counts k in
    let new_count = others k ne in
    omega (arith, more, old_count, new_count))
    (eqb_tells (number_of kind) (number_of k))

-- the same blocks are counted, told otherwise
pub counts_same : (n : Parts) (active other : Activity) (old banks : List Meaning) → ((c : ℕ) → active c ≡ other c) → AreCounted n active old banks → AreCounted n other old banks
counts_same n active other old banks same counts k =
    let e = activations_same (is_kind k) 1 n.specs (one_if active) (one_if other) (λ c l. ap (λ t. cond t 1 0) (same c)) in
    let c = counts k in
    omega (arith, e, c)
