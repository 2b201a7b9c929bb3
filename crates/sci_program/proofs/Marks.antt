-- The mark of a block that is active, and its mask: which guards are taken.
use Rattle.std.proofs.Common.{◌≡◌, ℕ, zero, suc, ◌+◌, ◌-◌, ◌*◌, ◌/◌, ◌%◌, ◌^◌, ◌<◌, ◌≤◌, inl, inr, List, [], ◌∷◌, Contains, Some, Bool, true, false, ◌&&◌, ◌||◌, not, nat_eq, if◌then◌else◌, refl, sym, ap, ◌∙◌, subst, arith, ℤ, pos, ne_eqb, true≢false, max, div-le_self, mod-eq_of_lt}
use Rattle.std.specs.Prelude.{bit_or}
use Rattle.std.specs.Int.{bit_at}
use Rattle.std.specs.List.{list_any}
use Rattle.std.proofs.lemmas.Int.{ints}
use Rattle.std.proofs.lemmas.Bool.{cases_lt}
use Rattle.std.proofs.lemmas.Nat.{pow_pos, pow_below, or_lt, or_shifted, or_comm, mod-pow-add}
use Rattle.std.proofs.lemmas.Nat.Bits.{bit_at_or, bit_at-lt, same_from_bits}
use Rattle.sci_base.specs.Bits.{set_bit}
use Rattle.sci_forms.specs.Form.{is_sync}
use Rattle.sci_net.specs.Parts.{Parts, IsBlock, spec_of}
use Rattle.sci_reaction.specs.Equations.{input_in, branch_on}
use Rattle.sci_reaction.specs.Schedule.{Guard, Entry}
use Rattle.sci_reaction.specs.Pass.{Progress, with_guards, applies, mask_in, is_taken as is_taken_in}
use Rattle.sci_reaction.proofs.Lists.{cons-Contains}
use Rattle.c_ast.specs.declared.Name.{Name}
use Rattle.c_ast.specs.declared.Op.TheVariants.{Add, Sub, Mul, Div, Rem}
use Rattle.c_ast.specs.Syntax.{Exp, bin, cell, set, Block, done}
use Rattle.c_mean.specs.Meaning.{World, Around, Ran, truth, run_block, then_run}
use Rattle.c_mean.specs.Places.{get, value_of, Has, Puts, same_place}
use Rattle.c_mean.specs.Laws.{Within}
use Rattle.c_mean.specs.Texts.{place, joined}
use Rattle.c_mean.specs.Runs.{Leads}
use Rattle.c_mean.proofs.Memory.{put_there, put_elsewhere, has_puts}
use Rattle.c_mean.proofs.Values.{add_is, sub_is, mul_is, div_is, rem_by, same_is, not_zero}
use Rattle.c_mean.proofs.Steps.{cell_runs, done_leads, joined_leads, test_runs, then_leads}
use Rattle.sci_cgen_blocks.specs.Texts.{masks}
use Rattle.sci_cgen_blocks.proofs.Patterns.{set_sum}
use Rattle.sci_program.specs.Names.{actives, branches}
use Rattle.sci_program.specs.declared.part.Part.TheVariants.{Sure, Marked as ByMark}
use Rattle.sci_program.specs.Program.{natural, one, texts, text_where, part_under, part_by, entry_part, is_marked, mark, mask_cell, with_bit, with_bits, is_taken, guard_text}
use Rattle.sci_forms.specs.Form.{reads_mask}
use Rattle.sci_program.specs.Shows.{ShowsBranches, branch_so_far}

-- ---- bits

-- x with those of the first k bits that g has
abbrev pub joined_bits : ℕ → ℕ → ℕ → ℕ
joined_bits x g zero = x
joined_bits x g (suc k) = if nat_eq (bit_at g k) 1 then set_bit (joined_bits x g k) k else joined_bits x g k

or_assoc : (a b c : ℕ) → bit_or (bit_or a b) c ≡ bit_or a (bit_or b c)
or_assoc a b c = same_from_bits (bit_or (bit_or a b) c) (bit_or a (bit_or b c)) (λ i.
    let l = bit_at_or (bit_or a b) c i in
    let ll = bit_at_or a b i in
    let r = bit_at_or a (bit_or b c) i in
    let rr = bit_at_or b c i in
    grind arith)

joined_is : (x g k : ℕ) → joined_bits x g k ≡ bit_or x (g % 2 ^ k)
joined_is x g zero =
    let none : g % 2 ^ 0 ≡ 0 = omega arith in
    rw none (same_from_bits x (bit_or x 0) (λ i. sym (bit_at_or x 0 i ∙ zeros i)))
  where
    zeros : (i : ℕ) → max (bit_at x i) (bit_at 0 i) ≡ bit_at x i
    zeros i = grind arith
joined_is x g (suc k) = by_bit (joined_is x g k) (bit_at g k) refl (bit_at-lt g k)
  where
    split : g % 2 ^ (1 + k) ≡ (g / 2 ^ k % 2 ^ 1) * 2 ^ k + g % 2 ^ k
    split = mod-pow-add g 1 k

    more : g % 2 ^ suc k ≡ bit_at g k * 2 ^ k + g % 2 ^ k
    more = let e : 1 + k ≡ suc k = omega arith in subst (λ (j : ℕ). g % 2 ^ j ≡ bit_at g k * 2 ^ k + g % 2 ^ k) e split

    by_bit : joined_bits x g k ≡ bit_or x (g % 2 ^ k) → (b : ℕ) → bit_at g k ≡ b → b < 2
        → (if nat_eq (bit_at g k) 1 then set_bit (joined_bits x g k) k else joined_bits x g k) ≡ bit_or x (g % 2 ^ suc k)
    by_bit is zero e l =
        let same : g % 2 ^ suc k ≡ g % 2 ^ k = more ∙ (ap (λ (b : ℕ). b * 2 ^ k + g % 2 ^ k) e ∙ omega arith) in
        rw (e, same) is
    by_bit is (suc zero) e l =
        let low : g % 2 ^ k < 2 ^ k = let p = pow_pos k in omega (arith, p) in
        let same : g % 2 ^ suc k ≡ bit_or (2 ^ k) (g % 2 ^ k) =
        more ∙ (ap (λ (b : ℕ). b * 2 ^ k + g % 2 ^ k) e ∙ (sym (or_shifted 1 k (g % 2 ^ k) low) ∙ ap (λ (b : ℕ). bit_or b (g % 2 ^ k)) (omega arith))) in
        rw (e, same) (ap (λ (v : ℕ). bit_or v (2 ^ k)) is ∙ (or_assoc x (g % 2 ^ k) (2 ^ k) ∙ ap (bit_or x) (or_comm (g % 2 ^ k) (2 ^ k))))
    by_bit is (suc (suc b)) e l = absurd (omega (arith, l))

-- bits below k alone are all there are
pub joined_all : (x g k : ℕ) → g < 2 ^ k → joined_bits x g k ≡ bit_or x g
joined_all x g k h = let same : g % 2 ^ k ≡ g = mod-eq_of_lt h in joined_is x g k ∙ ap (bit_or x) same

joined_below : (x g k c : ℕ) → k ≤ c → x < 2 ^ c → joined_bits x g k < 2 ^ c
joined_below x g zero c l h = h
joined_below x g (suc k) c l h = by_bit (nat_eq (bit_at g k) 1) (joined_below x g k c (omega (arith, l)) h)
  where
    by_bit : (t : Bool) → joined_bits x g k < 2 ^ c → (if t then set_bit (joined_bits x g k) k else joined_bits x g k) < 2 ^ c
    by_bit true r = or_lt c (joined_bits x g k) (2 ^ k) r (pow_below k c (omega (arith, l)))
    by_bit false r = r

-- ---- in the midst of an entry

-- Whether the block is marked, where its mark is asked for, and what its mask's place holds; all else is as it was.
pub record IsMarked (n : Parts) (asked : Bool) (b : ℕ) (t : Bool) (z : ℤ) (w w' : World) : Type 0 where
  pub active : asked ≡ true → get w' actives (b - 1) ≡ Some (truth t)
  pub mask : reads_mask (spec_of n b).kind ≡ true → get w' masks (b - 1) ≡ Some z
  pub same : (y : Name) (j : ℕ) → same_place actives (b - 1) y j ≡ false → (reads_mask (spec_of n b).kind ≡ true → same_place masks (b - 1) y j ≡ false)
      → get w' y j ≡ get w y j
  pub there : (y : Name) (j : ℕ) → Has w y j → Has w' y j
  pub left : w'.left ≡ w.left

-- of a kind that reads none, the mask is any
pub any_mask : (n : Parts) (asked : Bool) (b : ℕ) (t : Bool) (z z' : ℤ) (w w' : World) → reads_mask (spec_of n b).kind ≡ false → IsMarked n asked b t z w w'
    → IsMarked n asked b t z' w w'
any_mask n asked b t z z' w w' off m =
    record { active = m.active; mask = λ r. absurd (true≢false (sym r ∙ off)); same = m.same; there = m.there; left = m.left }

marked_put : (n : Parts) (asked : Bool) (b : ℕ) (t : Bool) (z : ℤ) (w v v' : World) → IsMarked n asked b t z w v → Puts v actives (b - 1) (pos 1) v'
    → IsMarked n asked b true z w v'
marked_put n asked b t z w v v' m p = record {
  active = λ a. put_there v v' actives (b - 1) (pos 1) p;
  mask = λ r. put_elsewhere v v' actives (b - 1) (pos 1) masks (b - 1) p refl ∙ m.mask r;
  same = λ y j a k. put_elsewhere v v' actives (b - 1) (pos 1) y j p a ∙ m.same y j a k;
  there = λ y j h. has_puts v v' actives (b - 1) (pos 1) y j p (m.there y j h);
  left = p.left ∙ m.left;
}

masked_put : (n : Parts) (asked : Bool) (b : ℕ) (t : Bool) (z u : ℤ) (w v v' : World) → reads_mask (spec_of n b).kind ≡ true → IsMarked n asked b t z w v
    → Puts v masks (b - 1) u v' → IsMarked n asked b t u w v'
masked_put n asked b t z u w v v' on m p = record {
  active = λ a. put_elsewhere v v' masks (b - 1) u actives (b - 1) p refl ∙ m.active a;
  mask = λ r. put_there v v' masks (b - 1) u p;
  same = λ y j a k. put_elsewhere v v' masks (b - 1) u y j p (k on) ∙ m.same y j a k;
  there = λ y j h. has_puts v v' masks (b - 1) u y j p (m.there y j h);
  left = p.left ∙ m.left;
}

module _ (env : Around) (n : Parts) (asked : Bool) (b : ℕ) (w : World) where
  pub mark_leads : (t : Bool) (z : ℤ) (k : ℕ) (v : World) → Has w actives (b - 1) → IsMarked n asked b t z w v
      → Leads (run_block env k (mark b) v) (IsMarked n asked b true z w)
  mark_leads t z k v there m =
      cell_runs (λ r. Leads r (IsMarked n asked b true z w)) env k actives (b - 1) (natural 1) done v (pos 1) refl (m.there actives (b - 1) there)
      (λ k' v' p. done_leads env k' v' (marked_put n asked b t z w v v' m p))

  pub mask_leads : (t : Bool) (z u : ℤ) (e : Exp) (k : ℕ) (v : World) → reads_mask (spec_of n b).kind ≡ true → IsMarked n asked b t z w v → value_of e v ≡ Some u
      → Leads (run_block env k (one (set (cell masks (natural (b - 1))) e)) v) (IsMarked n asked b t u w)
  mask_leads t z u e k v on m is =
      cell_runs (λ r. Leads r (IsMarked n asked b t u w)) env k masks (b - 1) e done v u is (record { holds = z; is = m.mask on })
      (λ k' v' p. done_leads env k' v' (masked_put n asked b t z u w v v' on m p))

  -- ---- bits of the mask

  word : (x : ℕ) → x < 2 ^ 16 → Within (pos x)
  word x h = record { above = omega (arith, ints); below = omega (arith, ints, h) }

  abbrev over : ℕ → Exp
  over p = bin Div (mask_cell b) (natural (2 ^ p))

  abbrev bit_of : ℕ → Exp
  bit_of p = bin Rem (over p) (natural 2)

  abbrev missing : ℕ → Exp
  missing p = bin Sub (natural 1) (bit_of p)

  -- the mask with bit p
  bit_value : (x p : ℕ) (v : World) → x < 2 ^ 8 → p < 8 → get v masks (b - 1) ≡ Some (pos x)
      → value_of (bin Add (mask_cell b) (bin Mul (missing p) (natural (2 ^ p)))) v ≡ Some (pos (set_bit x p))
  bit_value x p v h l is =
      let few : 2 ^ p < 2 ^ 8 = pow_below p 8 l in
      let half = div-le_self x (2 ^ p) in
      let all = joined_small x p h l in
      add_is (mask_cell b) (bin Mul (missing p) (natural (2 ^ p))) v (pos x) (pos ((1 - bit_at x p) * 2 ^ p)) is
      (mul_is (missing p) (natural (2 ^ p)) v (pos (1 - bit_at x p)) (pos (2 ^ p))
      (sub_of (bit_of p) (rem_by (over p) 2 v (pos (x / 2 ^ p))
      (div_is (mask_cell b) (natural (2 ^ p)) v (pos x) (pos (2 ^ p)) is refl (not_zero (2 ^ p) (pow_pos p)) (word (x / 2 ^ p) (omega (arith, half, h))))
      (omega arith) (word (x / 2 ^ p / 2) (omega (arith, half, h)))))
      refl (word ((1 - bit_at x p) * 2 ^ p) (part (bit_at x p) (bit_at-lt x p) few)))
      (word (x + (1 - bit_at x p) * 2 ^ p) (omega (arith, all, set_sum x p)))
      ∙ ap (λ (y : ℕ). Some (pos y)) (set_sum x p)
    where
      joined_small : (x p : ℕ) → x < 2 ^ 8 → p < 8 → set_bit x p < 2 ^ 8
      joined_small x p h l = or_lt 8 x (2 ^ p) h (pow_below p 8 l)

      part : (a : ℕ) → a < 2 → 2 ^ p < 2 ^ 8 → (1 - a) * 2 ^ p < 2 ^ 16
      part zero l few = omega (arith, few)
      part (suc zero) l few = omega arith
      part (suc (suc a)) l few = absurd (omega (arith, l))

      sub_of : (e : Exp) → value_of e v ≡ Some (pos (bit_at x p)) → value_of (bin Sub (natural 1) e) v ≡ Some (pos (1 - bit_at x p))
      sub_of e q = by_bit (bit_at x p) (bit_at-lt x p) q
        where
          by_bit : (a : ℕ) → a < 2 → value_of e v ≡ Some (pos a) → value_of (bin Sub (natural 1) e) v ≡ Some (pos (1 - a))
          by_bit zero l q = sub_is (natural 1) e v (pos 1) (pos 0) refl q (word 1 (omega arith))
          by_bit (suc zero) l q = sub_is (natural 1) e v (pos 1) (pos 1) refl q (word 0 (omega arith))
          by_bit (suc (suc a)) l q = absurd (omega (arith, l))

  pub bits_lead : (t : Bool) (x g c : ℕ) → reads_mask (spec_of n b).kind ≡ true → c ≤ 8 → x < 2 ^ 8 → (k : ℕ) (v : World) → IsMarked n asked b t (pos x) w v
      → Leads (run_block env k (with_bits b g c) v) (IsMarked n asked b t (pos (joined_bits x g c)) w)
  bits_lead t x g zero on l h k v m = done_leads env k v m
  bits_lead t x g (suc p) on l h k v m =
      joined_leads (λ r. Leads r (IsMarked n asked b t (pos (joined_bits x g (suc p))) w)) env k (with_bits b g p)
      (text_where (nat_eq (bit_at g p) 1) (with_bit b p)) v
      (bits_lead t x g p on (omega (arith, l)) h k v m)
      (λ k' v' m'. by_bit (nat_eq (bit_at g p) 1) k' v' m')
    where
      by_bit : (u : Bool) (k : ℕ) (v : World) → IsMarked n asked b t (pos (joined_bits x g p)) w v
          → Leads (run_block env k (text_where u (with_bit b p)) v) (IsMarked n asked b t (pos (if u then set_bit (joined_bits x g p) p else joined_bits x g p)) w)
      by_bit true k v m =
          mask_leads t (pos (joined_bits x g p)) (pos (set_bit (joined_bits x g p) p))
          (bin Add (mask_cell b) (bin Mul (missing p) (natural (2 ^ p)))) k v on m
          (bit_value (joined_bits x g p) p v (joined_below x g p 8 (omega (arith, l)) h) (omega (arith, l)) (m.mask on))
      by_bit false k v m = done_leads env k v m

-- ---- guards

-- what a guard of an entry of b is
pub record IsGuarding (n : Parts) (b : ℕ) (q : Guard) : Type 0 where
  pub block : IsBlock n q.block
  pub sync : is_sync (spec_of n q.block).kind ≡ true
  pub port : 1 ≤ q.port
  pub few : q.mask < 2 ^ (spec_of n b).evtin

pub few_small : (k : ℕ) → k ≤ 8 → 2 ^ k ≤ 2 ^ 8
few_small k h = elim (cases_lt k 8) [ inl l ↦ let p = pow_below k 8 l in omega (arith, p) | inr r ↦ let e : k ≡ 8 = omega (arith, h, r) in rw e (omega arith) ]

-- a branch that is 0 where its block doesn't apply is a port, which isn't 0, where the block applies and takes it
pub takes_port : (a : Bool) (x p : ℕ) → 1 ≤ p → nat_eq (if a then x else 0) p ≡ a && nat_eq x p
takes_port true x p h = refl
takes_port false x p h = ne_eqb 0 p (λ e. omega (arith, e, h))

-- the guard's test, where the branches so far are shown
taken_is : (n : Parts) (g : Progress) (q : Guard) (v : World) → get v branches (q.block - 1) ≡ Some (pos (branch_so_far n g q.block)) → 1 ≤ q.port
    → value_of (is_taken q) v ≡ Some (truth (is_taken_in n g q))
taken_is n g q v is some =
    same_is (place branches (q.block - 1)) (natural q.port) v (branch_so_far n g q.block) q.port is refl
    ∙ ap (λ (t : Bool). Some (truth t)) (takes_port (g.applied q.block) (branch_on (spec_of n q.block) (input_in n g.values q.block)) q.port some)

pub or_true : (t : Bool) → t || true ≡ true
or_true true = refl
or_true false = refl

pub or_false : (t : Bool) → t || false ≡ t
or_false true = refl
or_false false = refl

or_or : (a b c : Bool) → (a || b) || c ≡ a || (b || c)
or_or true b c = refl
or_or false b c = refl

-- whether an entry's mark is asked for
abbrev pub wants_mark : Bool → Parts → Entry → Bool
wants_mark own n e = not own || is_marked (part_by n e)

module _ (env : Around) (n : Parts) (own : Bool) (e : Entry) (told : ℕ → Bool) (g : Progress) (w : World) (shown : ShowsBranches n told g w)
    (small : reads_mask (spec_of n e.block).kind ≡ true → (spec_of n e.block).evtin ≤ 8) (place_there : Has w actives (e.block - 1)) where
  abbrev Marked : Bool → ℕ → World → Type 0
  Marked t x v = IsMarked n (wants_mark own n e) e.block t (pos x) w v

  -- marked where the entry doesn't apply always
  mark_where : (t : Bool) (x k : ℕ) (v : World) → (e.always ≡ true → t ≡ true) → Marked t x v
      → Leads (run_block env k (text_where (not e.always) (mark e.block)) v) (Marked (t || true) x)
  mark_where t x k v on m = by_always e.always refl
    where
      by_always : (a : Bool) → e.always ≡ a → Leads (run_block env k (text_where (not a) (mark e.block)) v) (Marked (t || true) x)
      by_always true a = done_leads env k v (subst (λ (u : Bool). Marked u x v) (on a ∙ sym (or_true t)) m)
      by_always false a =
          subst (λ (u : Bool). Leads (run_block env k (mark e.block) v) (Marked u x)) (sym (or_true t)) (mark_leads env n (wants_mark own n e) e.block w t (pos x) k v place_there m)

  -- and bits added where the kind reads them
  bits_where : (t : Bool) (x y k : ℕ) (v : World) → (reads_mask (spec_of n e.block).kind ≡ true → x < 2 ^ (spec_of n e.block).evtin)
      → y < 2 ^ (spec_of n e.block).evtin → Marked t x v
      → Leads (run_block env k (text_where (reads_mask (spec_of n e.block).kind) (with_bits e.block y (spec_of n e.block).evtin)) v) (Marked t (bit_or x y))
  bits_where t x y k v few less m = by_kind (reads_mask (spec_of n e.block).kind) refl
    where
      by_kind : (r : Bool) → reads_mask (spec_of n e.block).kind ≡ r
          → Leads (run_block env k (text_where r (with_bits e.block y (spec_of n e.block).evtin)) v) (Marked t (bit_or x y))
      by_kind true r =
          let at_most = few_small (spec_of n e.block).evtin (small r) in
          let below = few r in
          subst (λ (z : ℕ). Leads (run_block env k (with_bits e.block y (spec_of n e.block).evtin) v) (Marked t z))
          (joined_all x y (spec_of n e.block).evtin less)
          (bits_lead env n (wants_mark own n e) e.block w t x y (spec_of n e.block).evtin r (small r) (omega (arith, at_most, below)) k v m)
      by_kind false r = done_leads env k v (any_mask n (wants_mark own n e) e.block t (pos x) (pos (bit_or x y)) w v r m)

  abbrev body : Guard → Block
  body q = joined (text_where (not e.always) (mark e.block))
      (text_where (reads_mask (spec_of n e.block).kind) (with_bits e.block q.mask (spec_of n e.block).evtin))

  guard_leads : (q : Guard) → IsGuarding n e.block q → told q.block ≡ true → (t : Bool) (x k : ℕ) (v : World) → (e.always ≡ true → t ≡ true)
      → (reads_mask (spec_of n e.block).kind ≡ true → x < 2 ^ (spec_of n e.block).evtin) → Marked t x v
      → Leads (run_block env k (guard_text n e q) v) (Marked (t || is_taken_in n g q) (if is_taken_in n g q then bit_or x q.mask else x))
  guard_leads q is known t x k v on few m =
      test_runs (λ r. Leads r (Marked (t || is_taken_in n g q) (if is_taken_in n g q then bit_or x q.mask else x))) env k (is_taken q) (body q) done done v
      (is_taken_in n g q) (taken_is n g q v (m.same branches (q.block - 1) refl (λ r. refl) ∙ shown.each q.block is.block known is.sync) is.port)
      (λ i j l. by_taken i j l (is_taken_in n g q))
    where
      inside : (i : ℕ) → Leads (run_block env i (body q) v) (Marked (t || true) (bit_or x q.mask))
      inside i =
          joined_leads (λ r. Leads r (Marked (t || true) (bit_or x q.mask))) env i (text_where (not e.always) (mark e.block))
          (text_where (reads_mask (spec_of n e.block).kind) (with_bits e.block q.mask (spec_of n e.block).evtin)) v (mark_where t x i v on m)
          (λ k' v' m'. bits_where (t || true) x q.mask k' v' few is.few m')

      by_taken : (i j l : ℕ) (u : Bool) → Leads (then_run (if u then run_block env i (body q) v else run_block env j done v) (run_block env l done))
          (Marked (t || u) (if u then bit_or x q.mask else x))
      by_taken i j l true = then_leads (run_block env i (body q) v) (run_block env l done) (inside i) (λ v' m'. done_leads env l v' m')
      by_taken i j l false =
          then_leads (run_block env j done v) (run_block env l done) (done_leads env j v (subst (λ (u : Bool). Marked u x v) (sym (or_false t)) m))
          (λ v' m'. done_leads env l v' m')

  guards_lead : (qs : List Guard) → ((q : Guard) → Contains qs q → IsGuarding n e.block q) → ((q : Guard) → Contains qs q → told q.block ≡ true) → (t : Bool) (x k : ℕ) (v : World) → (e.always ≡ true → t ≡ true)
      → (reads_mask (spec_of n e.block).kind ≡ true → x < 2 ^ (spec_of n e.block).evtin) → Marked t x v
      → Leads (run_block env k (texts (guard_text n e) qs) v) (Marked (t || list_any (is_taken_in n g) qs) (with_guards n g x qs))
  guards_lead [] are known t x k v on few m = done_leads env k v (subst (λ (u : Bool). Marked u x v) (sym (or_false t)) m)
  guards_lead (q ∷ qs) are known t x k v on few m =
      let here = are q (0, omega arith, refl) in
      let u = is_taken_in n g q in
      subst (λ (a : Bool). Leads (run_block env k (texts (guard_text n e) (q ∷ qs)) v) (Marked a (with_guards n g x (q ∷ qs))))
      (or_or t u (list_any (is_taken_in n g) qs))
      (joined_leads (λ r. Leads r (Marked ((t || u) || list_any (is_taken_in n g) qs) (with_guards n g x (q ∷ qs)))) env k (guard_text n e q)
      (texts (guard_text n e) qs) v (guard_leads q here (known q (0, omega arith, refl)) t x k v on few m)
      (λ k' v' m'. guards_lead qs (λ p c. are p (cons-Contains q qs p c)) (λ p c. known p (cons-Contains q qs p c)) (t || u) (if u then bit_or x q.mask else x) k' v' (λ a. still t u (on a))
      (λ r. less u x q.mask (few r) here.few) m'))
    where
      still : (t u : Bool) → t ≡ true → t || u ≡ true
      still true u h = refl
      still false u h = absurd (true≢false (sym h))

      less : (u : Bool) (x y : ℕ) → x < 2 ^ (spec_of n e.block).evtin → y < 2 ^ (spec_of n e.block).evtin
          → (if u then bit_or x y else x) < 2 ^ (spec_of n e.block).evtin
      less true x y a b = or_lt (spec_of n e.block).evtin x y a b
      less false x y a b = a

  -- ---- the first part of an entry

  -- Marked where the entry applies, with the mask of the pass where the kind reads it.
  pub entry_marks : ((q : Guard) → Contains e.guards q → IsGuarding n e.block q) → ((q : Guard) → Contains e.guards q → told q.block ≡ true)
      → e.mask < 2 ^ (spec_of n e.block).evtin
      → (wants_mark own n e ≡ true → get w actives (e.block - 1) ≡ Some (pos 0)) → Has w masks (e.block - 1) → (Q : Ran → Type 0) (k : ℕ) (rest : Block)
      → ((k : ℕ) (v : World) → Marked (applies n g e) (mask_in n g e) v → Q (run_block env k rest v))
      → Q (run_block env k (joined (text_where (not own && e.always) (mark e.block))
      (joined (text_where (reads_mask (spec_of n e.block).kind) (one (set (cell masks (natural (e.block - 1))) (natural e.mask))))
      (joined (text_where (is_marked (entry_part own n e) || reads_mask (spec_of n e.block).kind) (texts (guard_text n e) e.guards)) rest))) w)
  entry_marks are known less idle room Q k rest go =
      joined_leads Q env k (text_where (not own && e.always) (mark e.block)) _ w (always_first own refl e.always refl) (λ k v m.
      joined_leads Q env k (text_where (reads_mask (spec_of n e.block).kind) (one (set (cell masks (natural (e.block - 1))) (natural e.mask)))) _ v
      (mask_first (reads_mask (spec_of n e.block).kind) refl k v m) (λ k v m.
      joined_leads Q env k (text_where (is_marked (entry_part own n e) || reads_mask (spec_of n e.block).kind) (texts (guard_text n e) e.guards)) rest v
      (guards_first (is_marked (entry_part own n e)) refl (reads_mask (spec_of n e.block).kind) refl k v m) go))
    where
      start : (q t : Bool) → (q ≡ true → get w actives (e.block - 1) ≡ Some (truth t)) → IsMarked n q e.block t room.holds w w
      start q t h = record { active = h; mask = λ r. room.is; same = λ y j a k. refl; there = λ y j h. h; left = refl }

      -- one that the source always activates is told of by a mark only where one text follows for all sources
      unmarked : own ≡ true → e.always ≡ true → wants_mark own n e ≡ true → ⊥
      unmarked o a h =
          true≢false (sym h ∙ (ap (λ (u : Bool). not u || is_marked (part_by n e)) o
          ∙ ap (λ (u : Bool). is_marked (if u then Sure else (if reads_mask (spec_of n e.block).kind then ByMark else part_under e.guards))) a))

      always_first : (o : Bool) → own ≡ o → (a : Bool) → e.always ≡ a
          → Leads (run_block env k (text_where (not o && a) (mark e.block)) w) (IsMarked n (wants_mark own n e) e.block a room.holds w)
      always_first false o true a =
          mark_leads env n (wants_mark own n e) e.block w false room.holds k w place_there (start (wants_mark own n e) false idle)
      always_first false o false a = done_leads env k w (start (wants_mark own n e) false idle)
      always_first true o true a = done_leads env k w (start (wants_mark own n e) true (λ h. absurd (unmarked o a h)))
      always_first true o false a = done_leads env k w (start (wants_mark own n e) false idle)

      mask_first : (r : Bool) → reads_mask (spec_of n e.block).kind ≡ r → (k : ℕ) (v : World) → IsMarked n (wants_mark own n e) e.block e.always room.holds w v
          → Leads (run_block env k (text_where r (one (set (cell masks (natural (e.block - 1))) (natural e.mask)))) v) (Marked e.always e.mask)
      mask_first true r k v m = mask_leads env n (wants_mark own n e) e.block w e.always room.holds (pos e.mask) (natural e.mask) k v r m refl
      mask_first false r k v m = done_leads env k v (any_mask n (wants_mark own n e) e.block e.always room.holds (pos e.mask) w v r m)

      -- without the guards' texts, where neither the mark nor the mask is asked for
      unguarded : is_marked (entry_part own n e) ≡ false → reads_mask (spec_of n e.block).kind ≡ false → (v : World) → Marked e.always e.mask v
          → Marked (applies n g e) (mask_in n g e) v
      unguarded a r v m = any_mask n (wants_mark own n e) e.block (applies n g e) (pos e.mask) (pos (mask_in n g e)) w v r (record {
        active = λ q. m.active q ∙ ap (λ (t : Bool). Some (truth t)) (by_own own q a);
        mask = m.mask;
        same = m.same;
        there = m.there;
        left = m.left;
      })
        where
          by_always : (t : Bool) → e.always ≡ t → is_marked (if t then Sure else ByMark) ≡ false → e.always ≡ applies n g e
          by_always true h a = h ∙ sym (ap (λ (u : Bool). u || list_any (is_taken_in n g) e.guards) h)
          by_always false h a = absurd (true≢false a)

          by_own : (o : Bool) → not o || is_marked (part_by n e) ≡ true → is_marked (entry_part o n e) ≡ false → e.always ≡ applies n g e
          by_own true q a = absurd (true≢false (sym q ∙ a))
          by_own false q a = by_always e.always refl a

      guards_first : (a : Bool) → is_marked (entry_part own n e) ≡ a → (r : Bool) → reads_mask (spec_of n e.block).kind ≡ r → (k : ℕ) (v : World)
          → Marked e.always e.mask v
          → Leads (run_block env k (text_where (a || r) (texts (guard_text n e) e.guards)) v) (Marked (applies n g e) (mask_in n g e))
      guards_first false a false r k v m = done_leads env k v (unguarded a r v m)
      guards_first false a true r k v m = guards_lead e.guards are known e.always e.mask k v (λ h. h) (λ h. less) m
      guards_first true a r q k v m = guards_lead e.guards are known e.always e.mask k v (λ h. h) (λ h. less) m
