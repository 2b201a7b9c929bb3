-- What a call of a block's function means where a source's function calls it: the text of the block's values.
use Rattle.std.proofs.Common.{◌≡◌, ℕ, zero, suc, ◌<◌, ◌≤◌, List, [], ◌∷◌, ◌++◌, length, Contains, Some, Bool, true, false, not, ◌||◌, if◌then◌else◌, nat_eq, nat_lt, inl, inr, refl, sym, ap, ◌∙◌, subst, arith, append_assoc, ℤ, slice_index_or, eq-eqb}
use Rattle.std.specs.List.{list_any}
use Rattle.std.proofs.Math.Nat.{le-max_left, le-max_right}
use Rattle.std.proofs.lemmas.Bool.{cases_lt}
use Rattle.sci_net.specs.Parts.{Parts, IsBlock, spec_of}
use Rattle.sci_reaction.specs.Schedule.{Entry, blocks_of}
use Rattle.sci_reaction.proofs.Lists.{any_from}
use Rattle.c_ast.specs.Syntax.{Function}
use Rattle.c_mean.specs.Meaning.{run_block}
use Rattle.c_mean.specs.Programs.{surroundings, is_defined}
use Rattle.c_mean.proofs.Memory.{other_number}
use Rattle.c_mean.proofs.Programs.{call_is, defined_joined}
use Rattle.sci_cgen_blocks.specs.Recipes.{scratch_of}
use Rattle.sci_cgen_blocks.specs.Texts.{body_text}
use Rattle.sci_program.specs.Names.{block_name}
use Rattle.sci_program.specs.Program.{has_own, port_count, text_where, places_of, is_scheduled, scratch_count, block_function, source_function, functions_upto, functions_where, other_functions, shared_text, clear_text, choose_text}
use Rattle.sci_program.specs.Names.{settle_name, clear_name, choose_name}
use Rattle.sci_program.specs.Passes.{RunsBody}
use Rattle.sci_program.proofs.Called.{Follows, follows, no_source, before_source}

-- ---- blocks that the schedule has

any_row : (test : List Entry → Bool) (rows : List (List Entry)) (k : ℕ) → k < length rows → test (slice_index_or rows k []) ≡ true → list_any test rows ≡ true
any_row test [] k l h = absurd (omega (arith, l))
any_row test (r ∷ rows) zero l h = ap (λ (t : Bool). t || list_any test rows) h
any_row test (r ∷ rows) (suc k) l h = by_first (test r) (any_row test rows k (omega (arith, l)) h)
  where
    by_first : (t : Bool) → list_any test rows ≡ true → t || list_any test rows ≡ true
    by_first true g = refl
    by_first false g = g

pub scheduled : (rows : List (List Entry)) (k b : ℕ) → k < length rows → Contains (blocks_of (slice_index_or rows k [])) b → is_scheduled rows b ≡ true
scheduled rows k b l c =
    any_row (λ row. list_any (nat_eq b) (blocks_of row)) rows k l (any_from (nat_eq b) (blocks_of (slice_index_or rows k [])) b c (eq-eqb b b refl))

-- there is as much scratch as such a block takes
enough_upto : (n : Parts) (rows : List (List Entry)) (m b : ℕ) → 1 ≤ b → b ≤ m → is_scheduled rows b ≡ true
    → scratch_of (spec_of n b).kind (spec_of n b) ≤ scratch_count n rows m
enough_upto n rows zero b lo hi h = absurd (omega (arith, lo, hi))
enough_upto n rows (suc m) b lo hi h = elim (cases_lt b (suc m)) [
  | inl q ↦ let before = enough_upto n rows m b lo (omega (arith, q)) h in let more = le-max_left (scratch_count n rows m) own in omega (arith, before, more)
  | inr q ↦ let same : b ≡ suc m = omega (arith, q, hi) in
      let here : scratch_of (spec_of n (suc m)).kind (spec_of n (suc m)) ≡ own =
      sym (ap (λ (t : Bool). if t then scratch_of (spec_of n (suc m)).kind (spec_of n (suc m)) else 0) (ap (is_scheduled rows) (sym same) ∙ h)) in
      let most = le-max_right (scratch_count n rows m) own in
      subst (λ (c : ℕ). scratch_of (spec_of n c).kind (spec_of n c) ≤ scratch_count n rows (suc m)) (sym same) (omega (arith, here, most))
]
  where
    own : ℕ
    own = if is_scheduled rows (suc m) then scratch_of (spec_of n (suc m)).kind (spec_of n (suc m)) else 0

pub enough_scratch : (n : Parts) (rows : List (List Entry)) (b : ℕ) → IsBlock n b → is_scheduled rows b ≡ true
    → scratch_of (spec_of n b).kind (spec_of n b) ≤ scratch_count n rows (length n.specs)
enough_scratch n rows b k h = enough_upto n rows (length n.specs) b k.least k.most h

-- ---- calls

module _ (n : Parts) (rows : List (List Entry)) (last most : ℤ) (k : ℕ) where
  abbrev function : ℕ → Function
  function j = block_function n rows (suc j)

  abbrev others : List Function
  others = other_functions (has_own n rows) n

  -- no function behind the blocks' has a block's name
  no_block : (j : ℕ) → is_defined (block_name (suc j)) (other_functions (has_own n rows) n ++ functions_upto (source_function n rows) k) ≡ false
  no_block j = by_tests (has_own n rows) (nat_lt 0 (port_count n))
    where
      by_tests : (o t : Bool) → is_defined (block_name (suc j)) ((functions_where (not o) (record { name = settle_name; body = shared_text n }
          ∷ functions_where t (record { name = clear_name; body = clear_text n } ∷ []))
          ++ functions_where t (record { name = choose_name; body = choose_text n } ∷ [])) ++ functions_upto (source_function n rows) k) ≡ false
      by_tests true true = no_source n rows (block_name (suc j)) (λ i. refl) k
      by_tests true false = no_source n rows (block_name (suc j)) (λ i. refl) k
      by_tests false true = no_source n rows (block_name (suc j)) (λ i. refl) k
      by_tests false false = no_source n rows (block_name (suc j)) (λ i. refl) k

  block_called : (j : ℕ) → j < length n.specs → (before : List Function) × (number : ℕ) ×
      ((surroundings (before_source n rows k) last most).calls (block_name (suc j))
      ≡ Some (run_block (surroundings before last most) number (text_where (is_scheduled rows (suc j)) (body_text (spec_of n (suc j)) (places_of n (suc j))))))
  block_called j l =
      let f = follows function j (length n.specs) l in
      let c = call_is (functions_upto function j) (function j) (f.rest ++ (others ++ functions_upto (source_function n rows) k)) last most
      (none_behind f) in (
        functions_upto function j,
        c.0,
        ap (λ (fs : List Function). (surroundings fs last most).calls (block_name (suc j))) (placed f) ∙ c.1,
      )
    where
      placed : (f : Follows function j (length n.specs)) → before_source n rows k
          ≡ functions_upto function j ++ function j ∷ (f.rest ++ (others ++ functions_upto (source_function n rows) k))
      placed f =
          ap (λ (fs : List Function). fs ++ (others ++ functions_upto (source_function n rows) k)) f.is
          ∙ append_assoc (functions_upto function j) (function j ∷ f.rest) (others ++ functions_upto (source_function n rows) k)

      both : (a b : Bool) → a ≡ false → b ≡ false → a || b ≡ false
      both a b p q = rw (p, q) refl

      none_behind : (f : Follows function j (length n.specs))
          → is_defined (block_name (suc j)) (f.rest ++ (others ++ functions_upto (source_function n rows) k)) ≡ false
      none_behind f =
          defined_joined (block_name (suc j)) f.rest (others ++ functions_upto (source_function n rows) k)
          ∙ both (is_defined (block_name (suc j)) f.rest) (is_defined (block_name (suc j)) (others ++ functions_upto (source_function n rows) k))
          (f.others (block_name (suc j)) (λ i q. other_number 102 (suc i) (suc j) (λ e. omega (arith, e, q)))) (no_block j)

  pub runs_body : (b : ℕ) → IsBlock n b → is_scheduled rows b ≡ true → RunsBody (surroundings (before_source n rows k) last most) n b
  runs_body zero block h = absurd (omega (arith, block.least))
  runs_body (suc j) block h =
      let c = block_called j (omega (arith, block.most)) in record {
        inner = surroundings c.0 last most;
        number = c.1;
        is =
            c.2 ∙ ap (λ (t : Bool). Some (run_block (surroundings c.0 last most) c.1 (text_where t (body_text (spec_of n (suc j)) (places_of n (suc j)))))) h;
      }
