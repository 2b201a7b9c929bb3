-- What is observed of the values of some blocks, written one after the other.
use Rattle.std.proofs.Common.{◌≡◌, ℕ, zero, suc, ◌+◌, ◌<◌, ◌≤◌, Bool, true, false, ⊎_elim, ℤ, pos, List, [], ◌∷◌, ◌++◌, length, get_or, take, drop, refl, sym, ap, subst, ◌∙◌, append_assoc, arith, Contains, Ok, Err}
use Rattle.std.specs.Prelude.{Result, flat_map, AllPairs, min, if◌then◌else◌}
use Rattle.std.proofs.lemmas.Bool.{cases_Bool, cases_lt}
use Rattle.std.proofs.lemmas.List.{drop_more, length-append, get_or-take, get_or-drop, get_or_default}
use Rattle.sci_base.specs.declared.observation.Obs.{Obs}
use Rattle.sci_base.specs.declared.observation.Obs.TheVariants.{Start, Event, Val, End, Stop}
use Rattle.sci_io.specs.Taken.{SinkState, Writes, UnderWay}
use Rattle.sci_io.proofs.Advance.{begins, next_front, cut_off, finished}
use Rattle.sci_trace.specs.Lines.{line, text}
use Rattle.sci_forms.specs.declared.spec.Spec.{Spec}
use Rattle.sci_net.specs.Parts.{Parts, IsBlock, spec_of, no_spec}
use Rattle.sci_net.specs.declared.Source.{Source}
use Rattle.sci_reaction.specs.Equations.{Signals}
use Rattle.sci_reaction.proofs.Lists.{Contains-cons, cons-Contains}
use Rattle.sci_run.specs.Activity.{Activity}
use Rattle.sci_run.specs.Observed.{outputs_seen, blocks_seen}
use Rattle.sci_places.specs.Flat.{values_at}
use Rattle.sci_store.specs.Tally.{lines_after, sum_after}
use Rattle.sci_store.specs.Marks.{mark_at}
use Rattle.sci_store.specs.Blocks.{AreBlocksByNumber}
use Rattle.sci_store.specs.Frame.{Fixed}
use Rattle.sci_store.specs.Store.{Standing, ShowsValues}
use Rattle.sci_store.specs.Written.{AreAmong, sum_of, tallied}
pub use Rattle.sci_store.proofs.Choices.{seen_if, seen_unless}

-- ---- a list of observations behind another

pub text-append : (a b : List Obs) → text (a ++ b) ≡ text a ++ text b
text-append [] b = refl
text-append (o ∷ a) b = ap (λ l. line o ++ l) (text-append a b) ∙ sym (append_assoc (line o) (text a) (text b))

pub lines_twice : (lines a b : ℕ) → lines_after (lines_after lines a) b ≡ lines_after lines (a + b)
lines_twice lines a zero = let e : a ≡ a + 0 = omega arith in ap (lines_after lines) e
lines_twice lines a (suc b) =
    let e : suc (a + b) ≡ a + suc b = omega arith in ap (λ (n : ℕ). min (n + 1) 18446744073709551615) (lines_twice lines a b) ∙ ap (lines_after lines) e

pub sum_twice : (sum : ℕ) (a b : List Obs) → sum_of (sum_of sum a) b ≡ sum_of sum (a ++ b)
sum_twice sum [] b = refl
sum_twice sum (Val p q e v ∷ a) b = sum_twice (sum_after sum v) a b
sum_twice sum (Start ∷ a) b = sum_twice sum a b
sum_twice sum (Event d p q ∷ a) b = sum_twice sum a b
sum_twice sum (End w ∷ a) b = sum_twice sum a b
sum_twice sum (Stop w p q ∷ a) b = sum_twice sum a b

pub tallied_twice : (s : Standing) (a b : List Obs) → tallied (tallied s a) b ≡ tallied s (a ++ b)
tallied_twice s a b =
    let lines = lines_twice s.lines (length a) (length b) ∙ ap (lines_after s.lines) (sym (length-append a b)) in
    ap (λ (l : ℕ). record s { lines = l; sum = sum_of (sum_of s.sum a) b }) lines
    ∙ ap (λ (n : ℕ). record s { lines = lines_after s.lines (length (a ++ b)); sum = n }) (sum_twice s.sum a b)

pub same_tally : (t : Standing) (lines sum l n : ℕ) → lines ≡ l → sum ≡ n → record t { lines = lines; sum = sum } ≡ record t { lines = l; sum = n }
same_tally t lines sum l n e h = ap (λ (x : ℕ). record t { lines = x; sum = sum }) e ∙ ap (λ (x : ℕ). record t { lines = l; sum = x }) h

-- ---- observations that are written one after the other

-- the rest is still to be written and counted of all that is due from the start on
pub record IsLeft (old now : SinkState) (s t : Standing) (whole rest : List Obs) : Type 0 where
  pub written : UnderWay old now (text whole) (text rest)
  pub counted : tallied t rest ≡ tallied s whole

pub left_begin : (p : SinkState) (s : Standing) (whole : List Obs) → IsLeft p p s s whole whole
left_begin p s whole = record { written = begins p (text whole); counted = refl }

-- the same rest, told otherwise
pub left_as : {old now : SinkState} {s t : Standing} {whole rest : List Obs} (other : List Obs) → rest ≡ other → IsLeft old now s t whole rest
    → IsLeft old now s t whole other
left_as {old} {now} {s} {t} {whole} {rest} other same h = subst (IsLeft old now s t whole) same h

-- the next observation
pub left_one : {T E : Type 0} {old mid new : SinkState} {s t u : Standing} {whole : List Obs} (o : Obs) (rest : List Obs) (r : Result T E) (x : T) → r ≡ Ok x
    → IsLeft old mid s t whole (o ∷ rest) → Writes mid new (line o) r → u ≡ tallied t (o ∷ []) → IsLeft old new s u whole rest
left_one {s = s} {t = t} {whole = whole} o rest r x is h w same = record {
  written = next_front (line o) (text rest) r x is h.written w;
  counted = ap (λ (v : Standing). tallied v rest) same ∙ (tallied_twice t (o ∷ []) rest ∙ h.counted);
}

pub cut_at_one : {T E U F : Type 0} {old mid new : SinkState} {s t : Standing} {whole : List Obs} (o : Obs) (rest : List Obs) (r : Result T E) (q : Result U F)
    (e : E) (f : F) → r ≡ Err e → q ≡ Err f → IsLeft old mid s t whole (o ∷ rest) → Writes mid new (line o) r → Writes old new (text whole) q
cut_at_one o rest r q e f is was h w = cut_off (line o) (text rest) r q e f is was h.written w

-- the next observations
pub left_more : {T E : Type 0} {old mid new : SinkState} {s t u : Standing} {whole : List Obs} (a rest : List Obs) (r : Result T E) (x : T) → r ≡ Ok x
    → IsLeft old mid s t whole (a ++ rest) → Writes mid new (text a) r → u ≡ tallied t a → IsLeft old new s u whole rest
left_more {old = old} {mid = mid} {t = t} {whole = whole} a rest r x is h w same = record {
  written = next_front (text a) (text rest) r x is (subst (UnderWay old mid (text whole)) (text-append a rest) h.written) w;
  counted = ap (λ (v : Standing). tallied v rest) same ∙ (tallied_twice t a rest ∙ h.counted);
}

pub cut_in_more : {T E U F : Type 0} {old mid new : SinkState} {s t : Standing} {whole : List Obs} (a rest : List Obs) (r : Result T E) (q : Result U F)
    (e : E) (f : F) → r ≡ Err e → q ≡ Err f → IsLeft old mid s t whole (a ++ rest) → Writes mid new (text a) r → Writes old new (text whole) q
cut_in_more {old = old} {mid = mid} {whole = whole} a rest r q e f is was h w =
    cut_off (text a) (text rest) r q e f is was (subst (UnderWay old mid (text whole)) (text-append a rest) h.written) w

-- nothing is left
pub all_written : {T E : Type 0} {old new : SinkState} {s t : Standing} {whole : List Obs} (x : T) → IsLeft old new s t whole []
    → Writes {T = T} {E = E} old new (text whole) (Ok x)
all_written x h = finished x h.written

pub all_counted : {old new : SinkState} {s t : Standing} {whole : List Obs} → IsLeft old new s t whole [] → t ≡ tallied s whole
all_counted h = h.counted

-- only the counts have changed
pub left_same : {old now : SinkState} {s t : Standing} {whole rest : List Obs} → IsLeft old now s t whole rest → t ≡ record s { lines = t.lines; sum = t.sum }
left_same {t = t} h = ap (λ (v : Standing). record v { lines = t.lines; sum = t.sum }) h.counted

pub same_then : (s t u : Standing) → t ≡ record s { lines = t.lines; sum = t.sum } → u ≡ record t { lines = u.lines; sum = u.sum } → u ≡ record s { lines = u.lines; sum = u.sum }
same_then s t u e h = h ∙ ap (λ (v : Standing). record v { lines = u.lines; sum = u.sum }) e

-- ---- the values of a block

pub element_at : (values : List ℤ) (start count k : ℕ) → k < count → get_or (take count (drop start values)) k (pos 0) ≡ get_or values (start + k) (pos 0)
element_at values start count k h = get_or-take count (drop start values) k (pos 0) h ∙ get_or-drop start values k (pos 0)

-- the observations from k on
pub seen_next : (os : List Obs) (k : ℕ) → k < length os → drop k os ≡ get_or os k Start ∷ drop (k + 1) os
seen_next os k h = drop_more os k Start h

-- ---- blocks by number

-- rising numbers from lo on, below hi
abbrev pub AreRisingWithin : ℕ → ℕ → List ℕ → Type 0
AreRisingWithin lo hi [] = Unit {0}
AreRisingWithin lo hi (x ∷ xs) = (lo ≤ x) × (x < hi) × AreRisingWithin (x + 1) hi xs

none_lower : (lo hi : ℕ) (xs : List ℕ) (b : ℕ) → AreRisingWithin lo hi xs → b < lo → Contains xs b → ⊥
none_lower lo hi [] b h l c = absurd (omega (arith, c.1))
none_lower lo hi (x ∷ xs) b h l c = ⊎_elim (λ same. absurd (omega (arith, h.0, same))) (λ there. none_lower (x + 1) hi xs b h.2 (omega (arith, h.0)) there) (Contains-cons x xs b c)

rising_within : (lo hi : ℕ) (xs : List ℕ) → AllPairs (λ b c. b < c) xs → ((i : ℕ) → i < length xs → lo ≤ get_or xs i 0) → ((i : ℕ) → i < length xs → get_or xs i 0 < hi)
    → AreRisingWithin lo hi xs
rising_within lo hi [] pairs least most = tt
rising_within lo hi (x ∷ xs) pairs least most = (
  least 0 (omega arith),
  most 0 (omega arith),
  rising_within (x + 1) hi xs (λ i j d l m. pairs (suc i) (suc j) d (omega arith) (omega arith))
      (λ i l. let first : x < get_or xs i 0 = pairs 0 (suc i) 0 (omega arith) (omega arith) in omega (arith, first)) (λ i l. most (suc i) (omega arith)),
)

-- the specs of the blocks from k on
abbrev pub AreSpecsFrom : (ℕ → Spec) → ℕ → List Spec → Type 0
AreSpecsFrom spec k ss = (j : ℕ) → j < length ss → spec (k + j) ≡ get_or ss j no_spec

later_specs : (spec : ℕ → Spec) (k : ℕ) (s : Spec) (ss : List Spec) → AreSpecsFrom spec k (s ∷ ss) → AreSpecsFrom spec (k + 1) ss
later_specs spec k s ss h j l = let e : k + 1 + j ≡ k + suc j = omega arith in ap spec e ∙ h (suc j) (omega arith)

first_spec : (spec : ℕ → Spec) (k : ℕ) (s : Spec) (ss : List Spec) → AreSpecsFrom spec k (s ∷ ss) → spec k ≡ s
first_spec spec k s ss h = let e : k ≡ k + 0 = omega arith in ap spec e ∙ h 0 (omega arith)

pub specs_from_first : (n : Parts) → AreSpecsFrom (spec_of n) 1 n.specs
specs_from_first n j l = let e : 1 + j ≡ suc j = omega arith in ap (spec_of n) e

-- what one block gives
abbrev pub block_seen : Signals → Activity → ℕ → Spec → List Obs
block_seen y active b s = if active b then outputs_seen b 1 s.outs (y b) else []

module _ (y : Signals) (active : Activity) (spec : ℕ → Spec) where
  abbrev blocks_of_row : List ℕ → List Obs
  blocks_of_row xs = flat_map (λ b. block_seen y active b (spec b)) xs

  -- the active blocks from k on, as far as there are specs, stand in the list
  abbrev AreThere : ℕ → List Spec → List ℕ → Type 0
  AreThere k ss xs = (b : ℕ) → k ≤ b → b < k + length ss → active b ≡ true → Contains xs b

  later_there : (k : ℕ) (s : Spec) (ss : List Spec) (xs : List ℕ) → AreThere k (s ∷ ss) xs → AreThere (k + 1) ss xs
  later_there k s ss xs h b l m a = h b (omega arith) (omega arith) a

  idle_outside : (k : ℕ) (s : Spec) (ss : List Spec) (xs : List ℕ) → AreThere k (s ∷ ss) xs → (Contains xs k → ⊥) → active k ≡ false
  idle_outside k s ss xs h outside = ⊎_elim (λ on. absurd (outside (h k (omega arith) (omega arith) on))) (λ off. off) (cases_Bool (active k))

  skipped : (k : ℕ) (s : Spec) (os : List Obs) → active k ≡ false → os ≡ block_seen y active k s ++ os
  skipped k s os off = ap (λ (l : List Obs). l ++ os) (sym (seen_unless (active k) (outputs_seen k 1 s.outs (y k)) [] off))

  there_behind : (k x : ℕ) (s : Spec) (ss : List Spec) (xs : List ℕ) → x ≡ k → AreThere k (s ∷ ss) (x ∷ xs) → AreThere (k + 1) ss xs
  there_behind k x s ss xs same h b l m a =
      ⊎_elim (λ here. absurd (omega (arith, here, same, l))) (λ there. there) (Contains-cons x xs b (h b (omega arith) (omega arith) a))

  same_head : (k : ℕ) (s : Spec) (ss : List Spec) → AreSpecsFrom spec k (s ∷ ss) → block_seen y active k (spec k) ≡ block_seen y active k s
  same_head k s ss h = ap (λ (t : Spec). block_seen y active k t) (first_spec spec k s ss h)

  up_to_same : (k from : ℕ) (s : Spec) (ss : List Spec) (xs : List ℕ) → AreRisingWithin from (k + length (s ∷ ss)) xs → AreRisingWithin from (k + 1 + length ss) xs
  up_to_same k from s ss xs h = let e : k + length (s ∷ ss) ≡ k + 1 + length ss = omega arith in subst (λ (hi : ℕ). AreRisingWithin from hi xs) e h

  -- the walk over all blocks comes by the listed ones alone
  walk : (ss : List Spec) (k : ℕ) (xs : List ℕ) → AreSpecsFrom spec k ss → AreRisingWithin k (k + length ss) xs → AreThere k ss xs
      → blocks_of_row xs ≡ blocks_seen k ss y active
  walk [] k [] specs rising there = refl
  walk [] k (x ∷ xs) specs rising there = absurd (omega (arith, rising.0, rising.1))
  walk (s ∷ ss) k [] specs rising there =
      walk ss (k + 1) [] (later_specs spec k s ss specs) tt (later_there k s ss [] there)
      ∙ skipped k s (blocks_seen (k + 1) ss y active) (idle_outside k s ss [] there (λ c. absurd (omega (arith, c.1))))
  walk (s ∷ ss) k (x ∷ xs) specs rising there = ⊎_elim
      (λ later. walk ss (k + 1) (x ∷ xs) (later_specs spec k s ss specs)
      (up_to_same k (k + 1) s ss (x ∷ xs) (omega (arith, later), rising.1, rising.2)) (later_there k s ss (x ∷ xs) there)
      ∙ skipped k s (blocks_seen (k + 1) ss y active)
      (idle_outside k s ss (x ∷ xs) there (none_lower (k + 1) (k + length (s ∷ ss)) (x ∷ xs) k (omega (arith, later), rising.1, rising.2) (omega arith))))
      (λ first. let same : x ≡ k = omega (arith, first, rising.0) in
      ap (λ (l : List Obs). block_seen y active x (spec x) ++ l)
      (walk ss (k + 1) xs (later_specs spec k s ss specs)
      (up_to_same k (k + 1) s ss xs (subst (λ (b : ℕ). AreRisingWithin (b + 1) (k + length (s ∷ ss)) xs) same rising.2)) (there_behind k x s ss xs same there))
      ∙ ap (λ (l : List Obs). l ++ blocks_seen (k + 1) ss y active) (ap (λ (b : ℕ). block_seen y active b (spec b)) same ∙ same_head k s ss specs))
      (cases_lt k x)

-- ---- some blocks of a net

same_map : (f g : ℕ → List Obs) (xs : List ℕ) → ((b : ℕ) → Contains xs b → f b ≡ g b) → flat_map f xs ≡ flat_map g xs
same_map f g [] h = refl
same_map f g (x ∷ xs) h =
    ap (λ (l : List Obs). l ++ flat_map f xs) (h x (0, omega arith, refl)) ∙ ap (λ (l : List Obs). g x ++ l) (same_map f g xs (λ b c. h b (cons-Contains x xs b c)))

pub contains_at : (xs : List ℕ) (i : ℕ) → i < length xs → Contains xs (get_or xs i 0)
contains_at xs i l = (i, l, get_or_default xs i (get_or xs i 0) 0 l)

pub block_at : {n : Parts} {xs : List ℕ} → AreBlocksByNumber n xs → (k : ℕ) → k < length xs → IsBlock n (get_or xs k 0)
block_at {xs = xs} h k l = h.blocks _ (contains_at xs k l)

-- what is written of a block, by its mark
abbrev pub seen_at : Fixed → Standing → ℕ → List Obs
seen_at f s b = if (mark_at s.marks b).active then outputs_seen b 1 (spec_of f.net b).outs (values_at f.net s.values b) else []

abbrev pub row_seen : Fixed → Standing → List ℕ → List Obs
row_seen f s xs = flat_map (seen_at f s) xs

seen_there : (f : Fixed) (source : Source) (s : Standing) (y : Signals) (active : Activity) (b : ℕ) → ShowsValues f source s y active → IsBlock f.net b
    → seen_at f s b ≡ block_seen y active b (spec_of f.net b)
seen_there f source s y active b h block =
    let outs = (spec_of f.net b).outs in
    ap (λ (t : Bool). if t then outputs_seen b 1 outs (values_at f.net s.values b) else []) (h.active_are b block)
    ∙ ap (λ (vs : List ℤ). if active b then outputs_seen b 1 outs vs else []) (h.values b block)

-- where the active blocks are among these, what is written of these is what is observed of all blocks
pub row_is_seen : (f : Fixed) (source : Source) (s : Standing) (y : Signals) (active : Activity) (xs : List ℕ) → AreBlocksByNumber f.net xs
    → ShowsValues f source s y active → AreAmong f.net active xs → row_seen f s xs ≡ blocks_seen 1 f.net.specs y active
row_is_seen f source s y active xs by_number h among =
    same_map (seen_at f s) (λ b. block_seen y active b (spec_of f.net b)) xs (λ b c. seen_there f source s y active b h (by_number.blocks b c))
    ∙ walk y active (spec_of f.net) f.net.specs 1 xs (specs_from_first f.net)
    (rising_within 1 (1 + length f.net.specs) xs by_number.rising
    (λ i l. (by_number.blocks (get_or xs i 0) (contains_at xs i l)).least)
    (λ i l. let most = (by_number.blocks (get_or xs i 0) (contains_at xs i l)).most in omega (arith, most)))
    (λ b l m a. among b (record { least = l; most = omega (arith, m) }) a)

-- the next block
pub row_next : (f : Fixed) (s : Standing) (xs : List ℕ) (k : ℕ) → k < length xs → row_seen f s (drop k xs) ≡ seen_at f s (get_or xs k 0) ++ row_seen f s (drop (k + 1) xs)
row_next f s xs k h = ap (row_seen f s) (drop_more xs k 0 h)
