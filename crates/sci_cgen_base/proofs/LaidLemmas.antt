-- Where blocks lie, and what the entries of a schedule name.
use Rattle.std.proofs.Common.{◌≡◌, ℕ, zero, suc, ◌+◌, ◌-◌, ◌<◌, ◌≤◌, ◌^◌, List, [], ◌∷◌, ◌++◌, length, map, get_or, slice_index_or, Vec, Global, ap, sym, subst, ◌∙◌, arith, inl, inr}
use Rattle.std.proofs.lemmas.Bool.{cases_lt}
use Rattle.std.proofs.lemmas.List.{length-map, length_push, get_or-map, map_push}
use Rattle.std.proofs.lemmas.List.Elements.{All-weaker, All-contains, All-contains_itself, All-from_get_or, All-get_or}
use Rattle.std.specs.List.{All, Contains}
use Rattle.sci_forms.specs.declared.spec.Spec.{Spec}
use Rattle.sci_forms.specs.Words.{state_len_of}
use Rattle.sci_net.specs.declared.Source.{Source}
use Rattle.sci_net.specs.Parts.{Parts, IsBlock, IsInput, numbered, spec_of, wire_of, no_spec, no_wire}
use Rattle.sci_net.specs.Net.{IsNet}
use Rattle.sci_net.specs.Sources.{source_of}
use Rattle.sci_reaction.specs.Schedule.{Guard, Entry, IsEntry, IsGuard, IsRow, IsSchedule}
use Rattle.sci_reaction.proofs.Spreading.{Spread-block}
use Rattle.sci_reaction.proofs.Rows.{block_in}
use Rattle.sci_reaction.specs.declared.entry.Entry.{Entry as Kept}
use Rattle.sci_sched.specs.Plain.{row_of, lists_of}
use Rattle.sci_reaction.specs.Kept.{entry_of}
use Rattle.sci_sched.specs.Answer.{IsPlan}
use Rattle.sci_span.specs.declared.span.Span.{Span}
use Rattle.sci_places.specs.Flat.{start_of}
use Rattle.sci_places.specs.Layout.{output_span, input_spans}
use Rattle.sci_places.proofs.Inputs.{output_within}
use Rattle.sci_places.proofs.Laid.{numbered_old, numbered_new}
use Rattle.sci_places.proofs.Outputs.{block_within}
use Rattle.sci_cgen_blocks.specs.declared.block_layout.BlockLayout.{BlockLayout}
use Rattle.sci_cgen_blocks.specs.Texts.{Places, fixed}
use Rattle.sci_cgen_blocks.specs.Plain.{AreFew, plain_places}
use Rattle.sci_program.specs.Program.{places_of, states_before}
use Rattle.sci_cgen_base.specs.Layouts.{no_places, laid_at, AreLaid, IsNamed, AreNamed}
use Rattle.sci_program.proofs.Sizes.{input_within, few_all_states, state_within}
use Rattle.sci_program.proofs.Entries.{source_mask}

-- ---- places

pub few_places : (n : Parts) → IsNet n → (b : ℕ) → IsBlock n b → AreFew (spec_of n b) (places_of n b)
few_places n net b is = record {
  ins = λ k e l r. let within = input_within n net b k e is l r in omega (arith, within, net.small);
  outs = let within = block_within n b is in omega (arith, within, net.small);
  state = let within = state_within n net b is in omega (arith, within, few_all_states n net);
}

-- the same of a layout that is kept
pub few_laid : (n : Parts) (layouts : List BlockLayout) → IsNet n → AreLaid n layouts → (b : ℕ) → IsBlock n b → AreFew (spec_of n b) (laid_at layouts b)
few_laid n layouts net laid b is = subst (AreFew (spec_of n b)) (sym (laid.places b is)) (few_places n net b is)

-- and of a spec and places that are read for it
pub few_read : (n : Parts) (layouts : List BlockLayout) (b : ℕ) (s : Spec) (p : Places) → IsNet n → AreLaid n layouts → IsBlock n b → s ≡ spec_of n b
    → p ≡ laid_at layouts b → AreFew s p
few_read n layouts b s p net laid is e f =
    subst (λ (t : Spec). AreFew t p) (sym e) (subst (AreFew (spec_of n b)) (sym f) (few_laid n layouts net laid b is))

-- ---- entries

pub row_named : (n : Parts) → IsNet n → (s : Source) (row : List Entry) → IsRow n s row → AreNamed n row
row_named n net s row is = All-weaker (Contains row) (IsNamed n) named row (All-contains_itself row)
  where
    guarded : (e : Entry) → Contains row e → (g : Guard) → Contains e.guards g → IsBlock n g.block
    guarded e there g h =
        let entry = All-contains (IsEntry n s) row e is.entries there in
        let guard : IsGuard n s e.block g = (entry.guards_are g).0 h in
        Spread-block n s _ guard.possible

    block_here : (e : Entry) → Contains row e → IsBlock n e.block
    block_here e there = Spread-block n s _ ((is.exactly e.block).0 (block_in row e there))

    named : (e : Entry) → Contains row e → IsNamed n e
    named e there = record {
      block = block_here e there;
      mask = source_mask n net.wired e.block e.mask s (block_here e there) (All-contains (IsEntry n s) row e is.entries there).mask_is;
      guards = All-weaker (Contains e.guards) (λ (g : Guard). IsBlock n g.block) (guarded e there) e.guards (All-contains_itself e.guards);
    }

pub schedule_named : (n : Parts) (rows : List (List Entry)) → IsNet n → IsSchedule n rows → All (AreNamed n) rows
schedule_named n rows net is = All-from_get_or (AreNamed n) rows [] (λ k l. row_named n net (source_of n k) (slice_index_or rows k []) (is.each k l))

pub plan_named : (n : Parts) (rows : List (List Entry)) → IsNet n → IsPlan n rows → All (AreNamed n) rows
plan_named n rows net plan = schedule_named n rows net plan.schedule

-- ---- laying down

-- the outputs that feed a block begin below 2^32
pub spans_small : (n : Parts) (b : ℕ) → IsNet n → IsBlock n b → All (λ (s : Span). s.start < 2 ^ 32) (input_spans n b)
spans_small n b net block k d l =
    let ws = numbered [] n.wires b in
    let long = length-map ws (output_span n) in
    let each = net.wired.one_wire_each b block in
    let within : k < length ws = omega (arith, l, long) in
    let input : IsInput n b (suc k) = record { block = block; least = omega arith; most = omega (arith, within, each) } in
    let fits = output_within n (wire_of n b (suc k)) (net.wired.wires_lead b (suc k) input) in
    subst (λ (s : Span). s.start < 2 ^ 32) (sym (get_or-map (output_span n) ws k no_wire d within)) (omega (arith, fits, net.small))

-- a block's places, from the parts that differ
pub laid_block : (n : Parts) (b : ℕ) (ins : List ℕ) (outs state : ℕ) → ins ≡ map (λ (s : Span). s.start) (input_spans n b) → outs ≡ start_of n b
    → state ≡ states_before n.specs (b - 1)
    → (let p : Places = record { number = b; ins = ins; outs = outs; state = state; mask = b - 1; which = fixed 0 } in p) ≡ places_of n b
laid_block n b ins outs state e f g =
    let at = λ (is : List ℕ) (o s : ℕ). let p : Places = record { number = b; ins = is; outs = o; state = s; mask = b - 1; which = fixed 0 } in p in
    let first = places_of n b in
    ap (λ (is : List ℕ). at is outs state) e ∙ ap (λ (o : ℕ). at first.ins o state) f ∙ ap (λ (s : ℕ). at first.ins first.outs s) g

-- ---- states

states_suc : (ss : List Spec) (k : ℕ) → k < length ss
    → states_before ss (suc k) ≡ states_before ss k + state_len_of (slice_index_or ss k no_spec).kind (slice_index_or ss k no_spec)
states_suc [] k l = absurd (omega (arith, l))
states_suc (s ∷ ss) zero l = omega arith
states_suc (s ∷ ss) (suc k) l = omega (arith, states_suc ss k (omega (arith, l)))

-- the next state begins behind that of this block
pub states_next : (n : Parts) (k : ℕ) (s : Spec) → k < length n.specs → s ≡ spec_of n (k + 1)
    → states_before n.specs (k + 1) ≡ states_before n.specs k + state_len_of s.kind s
states_next n k s l e =
    let is : k + 1 ≡ suc k = omega arith in
    let read : s ≡ spec_of n (suc k) = subst (λ (b : ℕ). s ≡ spec_of n b) is e in
    subst (λ (b : ℕ). states_before n.specs b ≡ states_before n.specs k + state_len_of s.kind s) (sym is)
    (subst (λ (t : Spec). states_before n.specs (suc k) ≡ states_before n.specs k + state_len_of t.kind t) (sym read) (states_suc n.specs k l))

pub states_small : (n : Parts) (k : ℕ) (s : Spec) → IsNet n → k < length n.specs → s ≡ spec_of n (k + 1)
    → states_before n.specs k + state_len_of s.kind s ≤ 589824
states_small n k s net l e =
    let is : k + 1 ≡ suc k = omega arith in
    let read : s ≡ spec_of n (suc k) = subst (λ (b : ℕ). s ≡ spec_of n b) is e in
    let block : IsBlock n (suc k) = record { least = omega arith; most = omega (arith, l) } in
    let back : suc k - 1 ≡ k = omega arith in
    let all = states_before n.specs (length n.specs) in
    let own = spec_of n (suc k) in
    let here = subst (λ (j : ℕ). states_before n.specs j + state_len_of own.kind own ≤ all) back (state_within n net (suc k) block) in
    let most = subst (λ (t : Spec). states_before n.specs k + state_len_of t.kind t ≤ all) (sym read) here in
    omega (arith, most, few_all_states n net)

-- the first k blocks are laid down, and so many values have their states
pub record LaidTo (n : Parts) (k : ℕ) (layouts : List BlockLayout) (state : ℕ) : Type 0 where
  pub one_each : length layouts ≡ k
  pub places : (b : ℕ) → 1 ≤ b → b ≤ k → laid_at layouts b ≡ places_of n b
  pub within : k ≤ length n.specs
  pub states : state ≡ states_before n.specs k

-- one block more
pub laid_next : (n : Parts) (k : ℕ) (old : List BlockLayout) (state : ℕ) (one : BlockLayout) (new : List BlockLayout) (s : Spec) (len : ℕ) → LaidTo n k old state
    → k < length n.specs → plain_places one ≡ places_of n (k + 1) → new ≡ old ++ one ∷ [] → s ≡ spec_of n (k + 1) → len ≡ state_len_of s.kind s
    → LaidTo n (k + 1) new (state + len)
laid_next n k old state one new s len h l e f g is = record {
  one_each = ap length f ∙ (length_push old one ∙ ap (λ m. m + 1) h.one_each);
  places = λ b least most. ap (λ ls. laid_at ls b) f ∙ place_more b least most;
  within = omega (arith, l);
  states = let next = states_next n k s l g in omega (arith, next, is, h.states);
}
  where
    place_more : (b : ℕ) → 1 ≤ b → b ≤ k + 1 → laid_at (old ++ one ∷ []) b ≡ places_of n b
    place_more b least most =
        let long = length-map old plain_places in
        ap (λ ps. numbered no_places ps b) (map_push plain_places old one)
        ∙ elim (cases_lt b (k + 1)) as (λ _. numbered no_places (map plain_places old ++ plain_places one ∷ []) b ≡ places_of n b) [
          | inl less ↦
              let there : b ≤ length (map plain_places old) = omega (arith, less, long, h.one_each) in
              numbered_old no_places (map plain_places old) (plain_places one ∷ []) b there ∙ h.places b least (omega (arith, less))
          | inr last ↦
              let here : b ≡ k + 1 = omega (arith, last, most) in
              numbered_new no_places (map plain_places old) (plain_places one) b (omega (arith, here, long, h.one_each)) ∙ (e ∙ ap (places_of n) (sym here))
        ]

-- ---- rows that are kept

pub entries_within : (n : Parts) (row : List Kept) (count : ℕ) → AreNamed n (row_of row) → count ≡ length n.specs
    → All (λ (e : Kept). (1 ≤ e.block) × (e.block ≤ count)) row
entries_within n row count named e k d l =
    let long = length-map row entry_of in
    let is : IsNamed n (entry_of (get_or row k d)) =
    subst (IsNamed n) (get_or-map entry_of row k d (entry_of d) l) (named k (entry_of d) (omega (arith, l, long))) in
    (is.block.least, omega (arith, is.block.most, e))

-- the entries of a row that is read name blocks
pub row_read : (n : Parts) (rows : List (Vec Kept Global)) (i : ℕ) (row : Vec Kept Global) → All (AreNamed n) (lists_of rows) → i < length rows
    → row ≡ get_or rows i row → AreNamed n (row_of row.items)
row_read n rows i row named l e =
    let to = λ (v : Vec Kept Global). row_of v.items in
    let long = length-map rows to in
    let here = All-get_or (AreNamed n) (lists_of rows) i [] (omega (arith, l, long)) named in
    subst (λ (v : Vec Kept Global). AreNamed n (row_of v.items)) (sym e) (subst (AreNamed n) (get_or-map to rows i row [] l) here)
