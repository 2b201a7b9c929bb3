-- Lists by block, of what is kept of a net and of what was saved of it.
use Rattle.std.specs.declared.alloc.Global.{Global}
use Rattle.std.proofs.Common.{Vec, ◌≡◌, ℕ, zero, suc, ◌+◌, ◌-◌, ◌<◌, ◌≤◌, ℤ, pos, List, [], ◌∷◌, ◌++◌, length, get_or, take, drop, refl, ap, sym, ◌∙◌, subst, arith, inl, inr, length-append}
use Rattle.std.specs.Prelude.{flat_map}
use Rattle.std.proofs.lemmas.Bool.{cases_lt}
use Rattle.std.proofs.lemmas.List.{length_push, map-append, take_more}
use Rattle.std.proofs.Math.Seq.{take-append_seam, drop-append-add}
use Rattle.sci_forms.specs.declared.spec.Spec.{Spec}
use Rattle.sci_forms.specs.Ports.{total}
use Rattle.sci_net.specs.Parts.{Parts, IsBlock, no_spec, numbered, rows_of}
use Rattle.sci_net.specs.Net.{all_elements}
use Rattle.sci_places.specs.Flat.{start_in, values_at, IsWhole}
use Rattle.sci_save.specs.Bounds.{AreByBlock, held_bounds}
use Rattle.sci_save.specs.declared.bounds.Bounds.{Bounds}
use Rattle.sci_save.proofs.InRange.{within_length, ports_total}
use Rattle.sci_base.specs.Lists.{at}
use Rattle.sci_bank.specs.Bank.{Meaning, row_at as row_in_bank}
use Rattle.sci_bank.specs.Library.{bank_of}
use Rattle.sci_store.specs.declared.seats.Seat.{Seat}
use Rattle.sci_store.proofs.Seated.{numbered_old, numbered_new}
use Rattle.sci_sim.specs.Saving.{IsByBlock}

-- ---- the first blocks

pub record IsListedTo {A : Type 0} (none : A) (value : ℕ → A) (k : ℕ) (listed : List A) : Type 0 where
  pub one_each : length listed ≡ k
  pub each : (b : ℕ) → 1 ≤ b → b ≤ k → numbered none listed b ≡ value b

pub listed_none : {A : Type 0} (none : A) (value : ℕ → A) → IsListedTo none value 0 []
listed_none none value = record { one_each = refl; each = λ b l m. absurd (omega (arith, l, m)) }

pub listed_next : {A : Type 0} (none : A) (value : ℕ → A) (k : ℕ) (xs : List A) (x : A) → x ≡ value (k + 1) → IsListedTo none value k xs → IsListedTo none value (k + 1) (xs ++ x ∷ [])
listed_next none value k xs x is h = record {
  one_each = length_push xs x ∙ ap (λ m. m + 1) h.one_each;
  each = λ b l m. elim (cases_lt b (k + 1)) [
    | inl less ↦ numbered_old none xs (x ∷ []) b (let e = h.one_each in omega (arith, less, e)) ∙ h.each b l (omega (arith, less))
    | inr more ↦
        let here : b ≡ k + 1 = omega (arith, m, more) in
        let e = h.one_each in
        numbered_new none xs x b (omega (arith, here, e)) ∙ (is ∙ ap value (sym here))
  ];
}

pub listed_all : {A : Type 0} (n : Parts) (none : A) (value : ℕ → A) (k : ℕ) (xs : List A) → k ≡ length n.specs → IsListedTo none value k xs → IsByBlock n none value xs
listed_all n none value k xs e h = record { one_each = h.one_each ∙ e; each = λ b block. let m = block.most in h.each b block.least (omega (arith, m, e)) }

rows_push : (rows : List (Vec ℤ Global)) (v : Vec ℤ Global) → rows_of (rows ++ v ∷ []) ≡ rows_of rows ++ v.items ∷ []
rows_push rows v = map-append (λ (w : Vec ℤ Global). w.items) rows (v ∷ [])

pub row_next : (value : ℕ → List ℤ) (k : ℕ) (rows new : List (Vec ℤ Global)) (v : Vec ℤ Global) → v.items ≡ value (k + 1) → new ≡ rows ++ v ∷ [] → IsListedTo [] value k (rows_of rows)
    → IsListedTo [] value (k + 1) (rows_of new)
row_next value k rows new v is e h =
    subst (IsListedTo [] value (k + 1)) (sym (ap rows_of e ∙ rows_push rows v)) (listed_next [] value k (rows_of rows) v.items is h)

-- ---- one list for each block

-- lists of one length with the same at each block are the same
same_from : {A : Type 0} (none : A) (xs ys : List A) → length xs ≡ length ys → ((k : ℕ) → k < length xs → get_or xs k none ≡ get_or ys k none) → xs ≡ ys
same_from none [] [] e h = refl
same_from none [] (y ∷ ys) e h = absurd (omega (arith, e))
same_from none (x ∷ xs) [] e h = absurd (omega (arith, e))
same_from none (x ∷ xs) (y ∷ ys) e h =
    ap (λ z. z ∷ xs) (h 0 (omega arith)) ∙ ap (λ zs. y ∷ zs) (same_from none xs ys (omega (arith, e)) (λ k l. h (suc k) (omega (arith, l))))

pub same_by_block : {A : Type 0} (n : Parts) (none : A) (value : ℕ → A) (xs ys : List A) → IsByBlock n none value xs → length ys ≡ length n.specs
    → ((b : ℕ) → IsBlock n b → numbered none ys b ≡ value b) → xs ≡ ys
same_by_block n none value xs ys h e each =
    let long = h.one_each in
    same_from none xs ys (long ∙ sym e)
    (λ k l. let block : IsBlock n (suc k) = record { least = omega arith; most = omega (arith, l, long) } in h.each (suc k) block ∙ sym (each (suc k) block))

pub by_block_length : (f : Spec → List Bounds) (ss : List Spec) (rows : List (List ℤ)) → AreByBlock f ss rows → length rows ≡ length ss
by_block_length f [] [] w = refl
by_block_length f [] (row ∷ rows) w = absurd w
by_block_length f (s ∷ ss) [] w = absurd w
by_block_length f (s ∷ ss) (row ∷ rows) w = ap suc (by_block_length f ss rows w.1)

-- ---- one list of all

pub joined_rows : (rows : List (Vec ℤ Global)) → flat_map (λ (v : Vec ℤ Global). v.items) rows ≡ flat_map (λ (r : List ℤ). r) (rows_of rows)
joined_rows [] = refl
joined_rows (v ∷ rows) = ap (λ (l : List ℤ). v.items ++ l) (joined_rows rows)

joined_length : (ss : List Spec) (rows : List (List ℤ)) → AreByBlock held_bounds ss rows → length (flat_map (λ (r : List ℤ). r) rows) ≡ all_elements ss
joined_length [] [] w = refl
joined_length [] (row ∷ rows) w = absurd w
joined_length (s ∷ ss) [] w = absurd w
joined_length (s ∷ ss) (row ∷ rows) w =
    let one = within_length (held_bounds s) row w.0 ∙ ports_total s.outs in
    let joined = length-append row (flat_map (λ (r : List ℤ). r) rows) in
    let rest = joined_length ss rows w.1 in
    omega (arith, one, joined, rest)

row_at : (ss : List Spec) (rows : List (List ℤ)) (k : ℕ) → AreByBlock held_bounds ss rows → k < length ss
    → take (total (get_or ss k no_spec).outs) (drop (start_in ss k) (flat_map (λ (r : List ℤ). r) rows)) ≡ get_or rows k []
row_at [] rows k w h = absurd (omega (arith, h))
row_at (s ∷ ss) [] k w h = absurd w
row_at (s ∷ ss) (row ∷ rows) zero w h =
    let one : length row ≡ total s.outs = within_length (held_bounds s) row w.0 ∙ ports_total s.outs in
    subst (λ m. take m (row ++ flat_map (λ (r : List ℤ). r) rows) ≡ row) one (take-append_seam row (flat_map (λ (r : List ℤ). r) rows))
row_at (s ∷ ss) (row ∷ rows) (suc k) w h =
    let one : length row ≡ total s.outs = within_length (held_bounds s) row w.0 ∙ ports_total s.outs in
    ap (take (total (get_or ss k no_spec).outs))
    (subst (λ m. drop (m + start_in ss k) (row ++ flat_map (λ (r : List ℤ). r) rows) ≡ drop (start_in ss k) (flat_map (λ (r : List ℤ). r) rows)) one
    (drop-append-add row (flat_map (λ (r : List ℤ). r) rows) (start_in ss k)))
    ∙ row_at ss rows k w.1 (omega (arith, h))

module _ (n : Parts) (rows : List (Vec ℤ Global)) (w : AreByBlock held_bounds n.specs (rows_of rows)) where
  pub joined_whole : IsWhole n (flat_map (λ (v : Vec ℤ Global). v.items) rows)
  joined_whole = ap length (joined_rows rows) ∙ joined_length n.specs (rows_of rows) w

  pub joined_at : (b : ℕ) → IsBlock n b → values_at n (flat_map (λ (v : Vec ℤ Global). v.items) rows) b ≡ numbered [] (rows_of rows) b
  joined_at zero block = absurd (let l = block.least in omega (arith, l))
  joined_at (suc k) block =
      let e : suc k - 1 ≡ k = omega arith in
      let m = block.most in
      ap (λ j. take (total (get_or n.specs k no_spec).outs) (drop (start_in n.specs j) (flat_map (λ (v : Vec ℤ Global). v.items) rows))) e
      ∙ (ap (λ l. take (total (get_or n.specs k no_spec).outs) (drop (start_in n.specs k) l)) (joined_rows rows)
      ∙ row_at n.specs (rows_of rows) k w (omega (arith, m)))

-- ---- one value more of a list

pub value_next : (xs taken new : List ℤ) (i : ℕ) (v w : ℤ) → i < length xs → new ≡ taken ++ v ∷ [] → v ≡ w → w ≡ get_or xs i (pos 0) → taken ≡ take i xs → new ≡ take (i + 1) xs
value_next xs taken new i v w h pushed same is before =
    pushed ∙ (ap (λ (l : List ℤ). l ++ v ∷ []) before ∙ (ap (λ (z : ℤ). take i xs ++ z ∷ []) (same ∙ is) ∙ sym (take_more xs i (pos 0) h)))

-- a value of an instance's state, whose seat is known
pub state_value : (banks : List Meaning) (s t : Seat) (i : ℕ) (v : ℤ) → v ≡ at (row_in_bank (bank_of banks s.kind) s.slot).state i → s ≡ t → v ≡ at (row_in_bank (bank_of banks t.kind) t.slot).state i
state_value banks s t i v h e = h ∙ ap (λ (x : Seat). at (row_in_bank (bank_of banks x.kind) x.slot).state i) e
