-- What the arrays hold before the run, put together text by text.
use Rattle.std.proofs.Common.{arith, w64, to_z, of_z, FitsSigned, ◌≡◌, ◌≢◌, ℕ, zero, suc, ◌+◌, ◌-◌, ◌<◌, ◌≤◌, ◌^◌, ℤ, pos, negsuc, Bool, true, false, true≢false, not, ◌&&◌, List, [], ◌∷◌, ◌++◌, length, get_or, if◌then◌else◌, refl, sym, ap, ◌∙◌, subst, nat_lt}
use Rattle.std.specs.Prelude.{◌≤ℤ◌, int_le, int_lt}
use Rattle.std.proofs.lemmas.Int.{ints, to_z-of_z}
use Rattle.std.proofs.lemmas.Bool.Decides.{nat_tests}
use Rattle.std.proofs.lemmas.List.{get_or_default}
use Rattle.sci_base.specs.Fit.{int_eq}
use Rattle.sci_base.specs.Lists.{at, listed, spread}
use Rattle.sci_forms.specs.declared.spec.Spec.{Spec}
use Rattle.sci_forms.specs.Ports.{total, type_at}
use Rattle.sci_forms.specs.Typed.{typed}
use Rattle.sci_forms.specs.Words.{out_type, state_len_of, held_of}
use Rattle.sci_kinds.specs.Table.{first_held, first_state}
use Rattle.sci_kinds.proofs.Elements.{listed_at}
use Rattle.sci_kinds.proofs.LawProofs.{first_held_law}
use Rattle.sci_net.specs.declared.Feed.{Feed}
use Rattle.sci_net.specs.declared.Source.TheVariants.{Start, Port}
use Rattle.sci_net.specs.Parts.{Parts, IsBlock, IsActivationOutput, numbered, spec_of}
use Rattle.sci_net.specs.Net.{IsNet}
use Rattle.sci_net.specs.Sources.{sources_of, source_of}
use Rattle.sci_reaction.proofs.Sources.{sources_are}
use Rattle.sci_places.specs.Flat.{start_of}
use Rattle.sci_places.proofs.Outputs.{block_within}
use Rattle.c_ast.specs.declared.Name.{Name}
use Rattle.c_ast.specs.Syntax.{Exp, Place, Block, scalar, cell, until, set, ask}
use Rattle.c_mean.specs.Texts.{number, joined, upto}
use Rattle.sci_cgen_blocks.specs.declared.block_layout.BlockLayout.{BlockLayout}
use Rattle.sci_cgen_blocks.specs.Plain.{plain_places}
use Rattle.sci_cgen_blocks.specs.Texts.{Places, values, states}
use Rattle.sci_cgen_blocks.proofs.Written.{joined_assoc, joined_done}
use Rattle.sci_due.specs.Due.{dates, orders, last as programmed_name}
use Rattle.sci_program.specs.Names.{until_name}
use Rattle.sci_program.specs.Program.{natural, one, text_where, each_block, each_port, port_count, places_of, begun_text, list_begun, held_begun, state_begun, firing_at, is_programmed, programmed_before, firing_begun, source_begun, outset_text}
use Rattle.sci_cgen_base.specs.Layouts.{AreLaid, laid_at}
use Rattle.sci_program.proofs.Sizes.{few_all_states, few_ports, state_within, is_spelled}
use Rattle.sci_program.proofs.Firings.{few_before}

-- ---- texts behind others

-- one text more of those that a count gives
pub behind_more : (f : ℕ → Block) (k : ℕ) (old mid new : Block) → new ≡ joined mid (f k) → mid ≡ joined old (upto f k) → new ≡ joined old (upto f (k + 1))
behind_more f k old mid new e so_far =
    let more : suc k ≡ k + 1 = omega arith in
    e ∙ (ap (λ b. joined b (f k)) so_far ∙ (joined_assoc old (upto f k) (f k) ∙ ap (λ j. joined old (upto f j)) more))

pub behind_all : (f : ℕ → Block) (k m : ℕ) (old new all : Block) → new ≡ joined old (upto f k) → k ≡ m → upto f m ≡ all → new ≡ joined old all
behind_all f k m old new all e same is = e ∙ (ap (λ j. joined old (upto f j)) same ∙ ap (joined old) is)

-- one text behind another
pub behind_two : (a b old mid new : Block) → mid ≡ joined old a → new ≡ joined mid b → new ≡ joined old (joined a b)
behind_two a b old mid new p q = q ∙ (ap (λ x. joined x b) p ∙ joined_assoc old a b)

-- ---- one number

-- a place that becomes a number
pub set_is : (p q : Place) (e f : Exp) → p ≡ q → e ≡ f → one (set p e) ≡ one (set q f)
set_is p q e f same value = ap (λ (p : Place). one (set p e)) same ∙ ap (λ (e : Exp). one (set q e)) value

pub begun_none : (a : Name) (k : ℕ) (z : ℤ) (old : Block) → z ≡ pos 0 → old ≡ joined old (begun_text a k z)
begun_none a k z old h = sym (joined_done old) ∙ ap (λ (z : ℤ). joined old (begun_text a k z)) (sym h)

not_zero : (z : ℤ) → z ≢ pos 0 → int_eq z (pos 0) ≡ false
not_zero z h = by_tests (int_le z (pos 0)) (int_le (pos 0) z) refl refl
  where
    by_tests : (x y : Bool) → int_le z (pos 0) ≡ x → int_le (pos 0) z ≡ y → x && y ≡ false
    by_tests true true p q = absurd (h (let same : z ≡ pos 0 = grind (arith, ints) in same))
    by_tests true false p q = refl
    by_tests false y p q = refl

pub begun_some : (a : Name) (k : ℕ) (z : ℤ) → z ≢ pos 0 → one (set (cell a (natural k)) (number z)) ≡ begun_text a k z
begun_some a k z h = ap (λ t. text_where (not t) (one (set (cell a (natural k)) (number z)))) (sym (not_zero z h))

pub begun_alike : (a b : Name) (k : ℕ) (y z : ℤ) → a ≡ b → y ≡ z → begun_text a k y ≡ begun_text b k z
begun_alike a b k y z same value = ap (λ x. begun_text x k y) same ∙ ap (λ (z : ℤ). begun_text b k z) value

-- a number is 0 where its bits are
pub zero_bits : (z : ℤ) → FitsSigned w64 z → of_z w64 z ≡ 0 → z ≡ pos 0
zero_bits z fits e = sym (to_z-of_z w64 z fits) ∙ ap (to_z w64) e

pub other_bits : (z : ℤ) → (of_z w64 z ≡ 0 → ⊥) → z ≢ pos 0
other_bits z h e = h (ap (of_z w64) e)

-- ---- lists of numbers

list_behind : (a : Name) (k : ℕ) (zs : List ℤ) (z : ℤ) → list_begun a k (zs ++ z ∷ []) ≡ joined (list_begun a k zs) (begun_text a (k + length zs) z)
list_behind a k [] z = joined_done (begun_text a k z) ∙ ap (λ i. begun_text a i z) (let e : k ≡ k + 0 = omega arith in e)
list_behind a k (y ∷ zs) z =
    ap (joined (begun_text a k y)) (list_behind a (k + 1) zs z)
    ∙ (sym (joined_assoc (begun_text a k y) (list_begun a (k + 1) zs) (begun_text a (k + 1 + length zs) z))
    ∙ ap (λ i. joined (list_begun a k (y ∷ zs)) (begun_text a i z)) (let e : k + 1 + length zs ≡ k + suc (length zs) = omega arith in e))

-- a list of numbers, number by number
pub list_is : (a : Name) (o : ℕ) (f : ℕ → ℤ) (n : ℕ) → upto (λ j. begun_text a (o + j) (f j)) n ≡ list_begun a o (listed f n)
list_is a o f zero = refl
list_is a o f (suc n) =
    ap (λ b. joined b (begun_text a (o + n) (f n))) (list_is a o f n)
    ∙ (ap (λ i. joined (list_begun a o (listed f n)) (begun_text a (o + i) (f n))) (sym (listed_at f n).0)
    ∙ sym (list_behind a o (listed f n) (f n)))

-- held values and first states are no less than C's numbers
pub held_least : (s : Spec) (e : ℕ) → typed s ≡ true → e < total s.outs → negsuc 9223372036854775806 ≤ℤ held_of s.kind s e
held_least s e h l =
    let spelled = is_spelled (type_at s.outs e) (at (first_held s) e) ((first_held_law s h).1.in_range e l) in
    subst (λ (z : ℤ). negsuc 9223372036854775806 ≤ℤ z) ((listed_at (held_of s.kind s) (total s.outs)).1 e l) (omega (arith, ints, spelled.0))

pub state_least : (s : Spec) (i : ℕ) → typed s ≡ true → i < state_len_of s.kind s → negsuc 9223372036854775806 ≤ℤ spread s.state i
state_least s i h l =
    let spelled = is_spelled (out_type s) (at (first_state s) i) ((first_held_law s h).0.in_range i l) in
    subst (λ (z : ℤ). negsuc 9223372036854775806 ≤ℤ z) ((listed_at (spread s.state) (state_len_of s.kind s)).1 i l) (omega (arith, ints, spelled.0))

-- ---- the places of a block

module _ (n : Parts) (net : IsNet n) (layouts : List BlockLayout) (laid : AreLaid n layouts) (k : ℕ) (l : k < length n.specs) (at : BlockLayout)
    (is : plain_places at ≡ laid_at layouts (k + 1)) (s : Spec) (own : s ≡ spec_of n (k + 1)) where
  pub block_is : IsBlock n (k + 1)
  block_is = record { least = omega arith; most = omega (arith, l) }

  places_are : plain_places at ≡ places_of n (k + 1)
  places_are = is ∙ laid.places (k + 1) block_is

  outs_are : at.outs ≡ start_of n (k + 1)
  outs_are = ap (λ (p : Places). p.outs) places_are

  state_is : at.state ≡ (places_of n (k + 1)).state
  state_is = ap (λ (p : Places). p.state) places_are

  pub outs_few : at.outs + total s.outs ≤ 2 ^ 20
  outs_few =
      let within = block_within n (k + 1) block_is in
      let size : total s.outs ≡ total (spec_of n (k + 1)).outs = ap (λ (s : Spec). total s.outs) own in
      omega (arith, outs_are, within, size, net.small)

  pub state_few : at.state + state_len_of s.kind s ≤ 2 ^ 20
  state_few =
      let within = state_within n net (k + 1) block_is in
      let size : state_len_of s.kind s ≡ state_len_of (spec_of n (k + 1)).kind (spec_of n (k + 1)) = ap (λ (s : Spec). state_len_of s.kind s) own in
      omega (arith, state_is, within, size, few_all_states n net)

  next_is : k + 1 ≡ suc k
  next_is = omega arith

  pub held_is : list_begun values at.outs (first_held s) ≡ held_begun n (suc k)
  held_is =
      ap (λ i. list_begun values i (first_held s)) outs_are
      ∙ (ap (λ (s : Spec). list_begun values (start_of n (k + 1)) (first_held s)) own ∙ ap (held_begun n) next_is)

  pub first_is : list_begun states at.state (first_state s) ≡ state_begun n (suc k)
  first_is =
      ap (λ i. list_begun states i (first_state s)) state_is
      ∙ (ap (λ (s : Spec). list_begun states (places_of n (k + 1)).state (first_state s)) own ∙ ap (state_begun n) next_is)

-- ---- events

pub port_at : (n : Parts) (k : ℕ) (q : Feed) → k < length (sources_of n) → Port q ≡ source_of n k → IsActivationOutput n q.block q.port
port_at n k q h e = ((sources_are n (Port q)).0 (k, h, get_or_default (sources_of n) k (Port q) Start h ∙ sym e)).0

pub numbered_is : {A : Type 0} (d e : A) (xs : List A) (p : ℕ) → 1 ≤ p → p ≤ length xs → get_or xs (p - 1) d ≡ numbered e xs p
numbered_is d e xs zero least most = absurd (omega arith)
numbered_is d e xs (suc p) least most = ap (λ (k : ℕ). get_or xs k d) (let same : suc p - 1 ≡ p = omega arith in same) ∙ get_or_default xs p d e (omega arith)

not_below : (d : ℕ) → int_lt (pos d) (pos 0) ≡ true → ⊥
not_below d h = let below : d < 0 = grind (arith, ints, nat_tests) in omega (arith, below)

-- a source without an event, and one with an event
pub firing_none : (i o : ℕ) (z : ℤ) → int_lt z (pos 0) ≡ true → one (set (cell dates (natural (i - 1))) (number (negsuc 0))) ≡ firing_begun i o z
firing_none i o (pos d) h = absurd (not_below d h)
firing_none i o (negsuc d) h = refl

pub firing_some : (i o : ℕ) (z : ℤ) → int_lt z (pos 0) ≡ false → joined (begun_text dates (i - 1) z) (begun_text orders (i - 1) (pos o)) ≡ firing_begun i o z
firing_some i o (pos d) h = refl
firing_some i o (negsuc d) h = absurd (true≢false h)

pub counted_none : (c : ℕ) (z : ℤ) → int_lt z (pos 0) ≡ true → c ≡ c + (if is_programmed z then 1 else 0)
counted_none c (pos d) h = absurd (not_below d h)
counted_none c (negsuc d) h = omega arith

pub counted_some : (c : ℕ) (z : ℤ) → int_lt z (pos 0) ≡ false → c + 1 ≡ c + (if is_programmed z then 1 else 0)
counted_some c (pos d) h = refl
counted_some c (negsuc d) h = absurd (true≢false h)

-- a source's event behind those of the sources before it
pub count_more : (n : Parts) (k count new : ℕ) (z : ℤ) → count ≡ programmed_before n k → z ≡ firing_at n (source_of n k)
    → new ≡ count + (if is_programmed z then 1 else 0) → new ≡ programmed_before n (k + 1)
count_more n k count new z c f e =
    let next_is : suc k ≡ k + 1 = omega arith in
    e ∙ (ap (λ i. i + (if is_programmed z then 1 else 0)) c
    ∙ (ap (λ (z : ℤ). programmed_before n k + (if is_programmed z then 1 else 0)) f ∙ ap (programmed_before n) next_is))

pub source_more : (n : Parts) (k count : ℕ) (z : ℤ) (old mid new : Block) → 1 ≤ k → count ≡ programmed_before n k → z ≡ firing_at n (source_of n k)
    → new ≡ joined mid (firing_begun k count z) → mid ≡ joined old (upto (λ j. source_begun n (suc j)) (k - 1))
    → new ≡ joined old (upto (λ j. source_begun n (suc j)) (k + 1 - 1))
source_more n zero count z old mid new least c f e so_far = absurd (omega (arith, least))
source_more n (suc j) count z old mid new least c f e so_far =
    let here : suc j - 1 ≡ j = omega arith in
    let past : j + 1 ≡ suc j + 1 - 1 = omega arith in
    behind_more (λ j. source_begun n (suc j)) j old mid new
    (e ∙ (ap (λ i. joined mid (firing_begun (suc j) i z)) c ∙ ap (λ (z : ℤ). joined mid (firing_begun (suc j) (programmed_before n (suc j)) z)) f))
    (so_far ∙ ap (λ i. joined old (upto (λ j. source_begun n (suc j)) i)) here)
    ∙ ap (λ i. joined old (upto (λ j. source_begun n (suc j)) i)) past

-- few events are programmed before the run
pub count_few : (n : Parts) → IsNet n → (k count : ℕ) → k < length (sources_of n) → count ≡ programmed_before n k → count < 2 ^ 31
count_few n net k count l c = omega (arith, few_before n k, few_ports n net, l, c)

-- ---- all of it

pub where_some : (m : ℕ) (b : Block) → 1 < m → b ≡ text_where (nat_lt 0 (m - 1)) b
where_some m b h = ap (λ t. text_where t b) (sym yes)
  where
    yes : nat_lt 0 (m - 1) ≡ true
    yes = grind (arith, nat_tests)

pub where_none : (m : ℕ) (b old : Block) → m ≤ 1 → old ≡ joined old (text_where (nat_lt 0 (m - 1)) b)
where_none m b old h = sym (joined_done old) ∙ ap (λ t. joined old (text_where t b)) (sym no)
  where
    no : nat_lt 0 (m - 1) ≡ false
    no = grind (arith, nat_tests)

-- the last texts go by how many events were programmed
pub outset_put : (n : Parts) (count : ℕ) (old a b c new : Block) → a ≡ joined old (each_block (held_begun n) n) → b ≡ joined a (each_block (state_begun n) n)
    → c ≡ joined b (each_port (source_begun n) n) → count ≡ programmed_before n (length (sources_of n))
    → new ≡ joined c (text_where (nat_lt 0 (port_count n))
    (joined (text_where (nat_lt 1 (port_count n)) (one (set (scalar programmed_name) (natural count)))) (one (ask (scalar until_name) until))))
    → new ≡ joined old (outset_text n)
outset_put n count old a b c new p q r s t =
    behind_two (each_block (held_begun n) n) _ old a new p
    (behind_two (each_block (state_begun n) n) _ a b new q
    (behind_two (each_port (source_begun n) n) _ b c new r
    (t ∙ ap (λ i. joined c (text_where (nat_lt 0 (port_count n))
    (joined (text_where (nat_lt 1 (port_count n)) (one (set (scalar programmed_name) (natural i)))) (one (ask (scalar until_name) until))))) s)))
