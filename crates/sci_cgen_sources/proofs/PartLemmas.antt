-- How the blocks of a row take part, noted from its last entry on, and how many blocks and entries there are.
use Rattle.std.proofs.Common.{arith, ◌≡◌, ◌+◌, ◌-◌, ◌<◌, ◌≤◌, ℕ, zero, suc, inl, inr, List, [], ◌∷◌, length, drop, replicate, get_or, slice_index_or, nat_eq, nat_le, Bool, true, false, ◌&&◌, if◌then◌else◌, sym, ap, ◌∙◌, refl, eq-eqb, ne_eqb}
use Rattle.std.proofs.Math.ListN.{set}
use Rattle.std.proofs.lemmas.Bool.{cases_eq, cases_lt}
use Rattle.std.proofs.lemmas.Grind.{get_or-set_at}
use Rattle.std.proofs.lemmas.List.{drop_more, get_or-replicate, get_or_past, length-replicate, get_or-set_other}
use Rattle.sci_net.specs.Parts.{Parts, IsBlock, numbered}
use Rattle.sci_reaction.specs.declared.entry.Guard.{Guard as KeptGuard}
use Rattle.sci_reaction.specs.declared.entry.Entry.{Entry as Kept}
use Rattle.sci_reaction.specs.Kept.{guard_of, guards_of, entry_of}
use Rattle.sci_reaction.specs.Schedule.{Entry, branch_of}
use Rattle.sci_sched.specs.Plain.{row_of}
use Rattle.sci_cgen_blocks.proofs.Written.{drop_item, all_dropped}
use Rattle.sci_program.specs.declared.part.Part.{Part}
use Rattle.sci_program.specs.declared.part.Part.TheVariants.{Absent, Marked, Taken}
use Rattle.sci_program.specs.Program.{part_under, part_by, part_in, is_scheduled, rows_fit, scheduled_count}
use Rattle.sci_cgen_base.specs.Layouts.{AreMarked}

-- ---- how blocks take part

-- under one guard, and under none or more
pub under_one : (gs : List KeptGuard) (g : KeptGuard) → length gs ≡ 1 → g ≡ get_or gs 0 g → Taken (branch_of (guard_of g)) ≡ part_under (guards_of gs)
under_one [] g one is = absurd (omega (arith, one))
under_one (x ∷ []) g one is = ap (λ (q : KeptGuard). Taken (branch_of (guard_of q))) is
under_one (x ∷ (y ∷ ys)) g one is = absurd (omega (arith, one))

pub under_others : (gs : List KeptGuard) → (length gs ≡ 1 → ⊥) → Marked ≡ part_under (guards_of gs)
under_others [] many = refl
under_others (x ∷ []) many = absurd (many (omega arith))
under_others (x ∷ (y ∷ ys)) many = refl

pub none_said : (n : Parts) (row : List Kept) (k b : ℕ) → length row ≤ k → part_in n (row_of (drop k row)) b ≡ Absent
none_said n row k b most = ap (λ (es : List Kept). part_in n (row_of es) b) (all_dropped row k most)

pub none_noted : (m b : ℕ) → numbered Absent (replicate m Absent) b ≡ Absent
none_noted m zero = refl
none_noted m (suc k) = elim (cases_lt k m) [
  | inl l ↦ get_or-replicate m k Absent Absent l
  | inr g ↦ get_or_past (replicate m Absent) k Absent (omega (arith, g, length-replicate m Absent))
]

-- what the entries from one on say, where this one is the first
first_says : (n : Parts) (row : List Kept) (left : ℕ) (e : Kept) (b : ℕ) → 0 < left → left ≤ length row → e ≡ get_or row (left - 1) e
    → part_in n (row_of (drop (left - 1) row)) b ≡ (if nat_eq e.block b then part_by n (entry_of e) else part_in n (row_of (drop left row)) b)
first_says n row left e b more most is =
    let within : left - 1 < length row = omega (arith, more, most) in
    let next : left - 1 + 1 ≡ left = omega (arith, more) in
    ap (λ (es : List Kept). part_in n (row_of es) b) (drop_item row (left - 1) e within is)
    ∙ ap (λ (i : ℕ). part_in n (row_of (e ∷ drop i row)) b) next

-- a part was noted for a block
one_noted : (old : List Part) (at b : ℕ) (v rest : Part) → 1 ≤ at → at ≤ length old → numbered Absent old b ≡ rest
    → numbered Absent (set old (at - 1) v) b ≡ (if nat_eq at b then v else rest)
one_noted old at zero v rest lo hi so = so ∙ sym (ap (λ (t : Bool). if t then v else rest) (ne_eqb at 0 (λ z. omega (arith, z, lo))))
one_noted old at (suc k) v rest lo hi so = elim (cases_eq at (suc k)) [
  | inl e ↦
      get_or-set_at old (at - 1) k v Absent (omega (arith, e)) (omega (arith, lo, hi))
      ∙ sym (ap (λ (t : Bool). if t then v else rest) (eq-eqb at (suc k) e))
  | inr n ↦
      get_or-set_other old (at - 1) k v Absent (λ z. n (omega (arith, z, lo))) ∙ so
      ∙ sym (ap (λ (t : Bool). if t then v else rest) (ne_eqb at (suc k) n))
]

-- the part of one entry more was noted
pub part_noted : (n : Parts) (row : List Kept) (left : ℕ) (old new : List Part) (e : Kept) → 0 < left → left ≤ length row → e ≡ get_or row (left - 1) e
    → 1 ≤ e.block → e.block ≤ length old → new ≡ set old (e.block - 1) (part_by n (entry_of e))
    → ((b : ℕ) → numbered Absent old b ≡ part_in n (row_of (drop left row)) b)
    → (b : ℕ) → numbered Absent new b ≡ part_in n (row_of (drop (left - 1) row)) b
part_noted n row left old new e more most is lo hi put so_far b =
    ap (λ (ps : List Part). numbered Absent ps b) put
    ∙ one_noted old e.block b (part_by n (entry_of e)) (part_in n (row_of (drop left row)) b) lo hi (so_far b)
    ∙ sym (first_says n row left e b more most is)

-- ---- how many

-- one block more, where it is marked
pub scheduled_more : (n : Parts) (rows : List (List Entry)) (marks : List Bool) (k count here : ℕ) → AreMarked n rows marks → k < length n.specs
    → count ≡ scheduled_count rows k → here ≡ (if numbered false marks (k + 1) then 1 else 0) → count + here ≡ scheduled_count rows (k + 1)
scheduled_more n rows marks k count here are l so_far is =
    let next : k + 1 ≡ suc k = omega arith in
    let block : IsBlock n (k + 1) = record { least = omega arith; most = omega (arith, l) } in
    let marked : here ≡ (if is_scheduled rows (suc k) then 1 else 0)
    = is ∙ ap (λ (t : Bool). if t then 1 else 0) (are.each (k + 1) block) ∙ ap (λ (b : ℕ). if is_scheduled rows b then 1 else 0) next in
    ap (λ (m : ℕ). m + here) so_far ∙ ap (λ (m : ℕ). scheduled_count rows k + m) marked ∙ ap (scheduled_count rows) (sym next)

pub one_at_most : (v : ℕ) (t : Bool) → v ≡ (if t then 1 else 0) → v ≤ 1
one_at_most v true e = omega (arith, e)
one_at_most v false e = omega (arith, e)

-- one row more
pub fit_more : (rows : List (List Entry)) (i left entries rest : ℕ) (fits after all : Bool) (row : List Entry) → i < length rows
    → row ≡ slice_index_or rows i [] → entries ≡ length row → after ≡ (fits && nat_le entries left) → rest ≡ left - entries
    → (fits && rows_fit left (drop i rows)) ≡ all → (after && rows_fit rest (drop (i + 1) rows)) ≡ all
fit_more rows i left entries rest fits after all row l is count holds less so_far =
    let here = slice_index_or rows i [] in
    ap (λ (t : Bool). t && rows_fit rest (drop (i + 1) rows)) (holds ∙ ap (λ (m : ℕ). fits && nat_le m left) (count ∙ ap length is))
    ∙ ap (λ (m : ℕ). (fits && nat_le (length here) left) && rows_fit m (drop (i + 1) rows)) (less ∙ ap (λ (m : ℕ). left - m) (count ∙ ap length is))
    ∙ grouped fits (nat_le (length here) left) (rows_fit (left - length here) (drop (i + 1) rows))
    ∙ sym (ap (λ (rs : List (List Entry)). fits && rows_fit left rs) (drop_more rows i [] l)) ∙ so_far
  where
    grouped : (a b c : Bool) → ((a && b) && c) ≡ (a && (b && c))
    grouped true b c = refl
    grouped false b c = refl

pub all_fit : (rows : List (List Entry)) (i left : ℕ) (fits all : Bool) → length rows ≤ i → (fits && rows_fit left (drop i rows)) ≡ all → fits ≡ all
all_fit rows i left fits all most so_far =
    sym (kept fits) ∙ sym (ap (λ (rs : List (List Entry)). fits && rows_fit left rs) (all_dropped rows i most)) ∙ so_far
  where
    kept : (a : Bool) → (a && true) ≡ a
    kept true = refl
    kept false = refl
