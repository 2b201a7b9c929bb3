-- What calls mean in the program: each name has one function.
use Rattle.std.proofs.Common.{◌≡◌, ℕ, zero, suc, ◌<◌, ◌≤◌, List, [], ◌∷◌, ◌++◌, length, Option, Some, None, Bool, true, false, not, ◌||◌, nat_lt, inl, inr, refl, sym, ap, ◌∙◌, arith, append_assoc, lt-ltb, ℤ, slice_index_or}
use Rattle.std.proofs.lemmas.Bool.{cases_lt}
use Rattle.sci_net.specs.Parts.{Parts}
use Rattle.sci_net.specs.Sources.{sources_of, source_of}
use Rattle.sci_reaction.specs.Schedule.{Entry}
use Rattle.c_ast.specs.declared.Name.{Name}
use Rattle.c_ast.specs.Syntax.{Function}
use Rattle.c_mean.specs.Meaning.{World, Around, Ran, going, quietly, run_block, same_name}
use Rattle.c_mean.specs.Programs.{surroundings, is_defined}
use Rattle.c_mean.proofs.Memory.{other_number}
use Rattle.c_mean.proofs.Programs.{call_is, calls_stay, defined_joined}
use Rattle.sci_program.specs.Names.{source_name, settle_name, clear_name, choose_name, event_name}
use Rattle.sci_program.specs.Program.{has_own, port_count, block_function, source_function, row_text, shared_text, clear_text, choose_text, functions_upto, functions_where, shared_functions, other_functions, called_functions, event_function, turn_text, functions}

-- the functions of blocks, and those before the function of source k
abbrev pub block_functions : Parts → List (List Entry) → List Function
block_functions n rows = functions_upto (λ k. block_function n rows (suc k)) (length n.specs)

abbrev pub before_source : Parts → List (List Entry) → ℕ → List Function
before_source n rows k = block_functions n rows ++ (other_functions (has_own n rows) n ++ functions_upto (source_function n rows) k)

-- what a call means, where the name has a function
abbrev pub run_of : Option (World → Ran) → World → Ran
run_of (Some run) = run
run_of None = λ w. quietly (going w)

-- These are the runs of the functions of all sources.
pub record AreReactions (n : Parts) (rows : List (List Entry)) (last most : ℤ) (react : ℕ → World → Ran) : Type 0 where
  pub source : (k : ℕ) → k < length (sources_of n) → (number : ℕ) × (react k ≡ run_block (surroundings (before_source n rows k) last most) number
      (row_text (has_own n rows) n (source_of n k) (slice_index_or rows k [])))

-- ---- functions behind a function

-- what follows the function of source k
pub record Follows (f : ℕ → Function) (k m : ℕ) : Type 0 where
  pub rest : List Function
  pub is : functions_upto f m ≡ functions_upto f k ++ f k ∷ rest
  pub others : (x : Name) → ((j : ℕ) → k < j → same_name (f j).name x ≡ false) → is_defined x rest ≡ false

pub follows : (f : ℕ → Function) (k m : ℕ) → k < m → Follows f k m
follows f k zero l = absurd (omega (arith, l))
follows f k (suc m) l = elim (cases_lt k m) [
  | inl q ↦ let before = follows f k m q in record {
    rest = before.rest ++ f m ∷ [];
    is = ap (λ (fs : List Function). fs ++ f m ∷ []) before.is ∙ append_assoc (functions_upto f k) (f k ∷ before.rest) (f m ∷ []);
    others = λ x h. defined_joined x before.rest (f m ∷ []) ∙ both (is_defined x before.rest) (same_name (f m).name x) (before.others x h) (h m q);
  }
  | inr q ↦ let same : k ≡ m = omega (arith, q, l) in record {
    rest = [];
    is = ap (λ (j : ℕ). functions_upto f m ++ f j ∷ []) (sym same) ∙ ap (λ (j : ℕ). functions_upto f j ++ f k ∷ []) (sym same);
    others = λ x h. refl;
  }
]
  where
    both : (a b : Bool) → a ≡ false → b ≡ false → a || (b || false) ≡ false
    both a b p q = rw (p, q) refl

-- no source's function has another letter's name
pub no_source : (n : Parts) (rows : List (List Entry)) (x : Name) → ((j : ℕ) → same_name (source_name j) x ≡ false) → (m : ℕ)
    → is_defined x (functions_upto (source_function n rows) m) ≡ false
no_source n rows x h zero = refl
no_source n rows x h (suc m) =
    defined_joined x (functions_upto (source_function n rows) m) (source_function n rows m ∷ [])
    ∙ both (is_defined x (functions_upto (source_function n rows) m))
    (same_name (source_name m) x) (no_source n rows x h m) (h m)
  where
    both : (a b : Bool) → a ≡ false → b ≡ false → a || (b || false) ≡ false
    both a b p q = rw (p, q) refl

module _ (n : Parts) (rows : List (List Entry)) (last most : ℤ) where
  abbrev env : Around
  env = surroundings (called_functions n rows) last most

  abbrev sources : List Function
  sources = functions_upto (source_function n rows) (length (sources_of n))

  abbrev others : List Function
  others = other_functions (has_own n rows) n

  -- ---- sources

  source_called : (k : ℕ) → k < length (sources_of n)
      → (number : ℕ) × (env.calls (source_name k) ≡ Some (run_block (surroundings (before_source n rows k) last most) number
      (row_text (has_own n rows) n (source_of n k) (slice_index_or rows k []))))
  source_called k l =
      let f = follows (source_function n rows) k (length (sources_of n)) l in
      let c = call_is (before_source n rows k) (source_function n rows k) f.rest last most
      (f.others (source_name k) (λ j q. other_number 115 j k (λ e. omega (arith, e, q)))) in (
        c.0,
        ap (λ (fs : List Function). (surroundings fs last most).calls (source_name k)) (placed f.rest f.is) ∙ c.1,
      )
    where
      placed : (rest : List Function) → sources ≡ functions_upto (source_function n rows) k ++ source_function n rows k ∷ rest
          → called_functions n rows ≡ before_source n rows k ++ source_function n rows k ∷ rest
      placed rest e =
          append_assoc (block_functions n rows) others sources
          ∙ (ap (λ (fs : List Function). block_functions n rows ++ (others ++ fs)) e
          ∙ (ap (λ (fs : List Function). block_functions n rows ++ fs)
          (sym (append_assoc others (functions_upto (source_function n rows) k) (source_function n rows k ∷ rest)))
          ∙ sym (append_assoc (block_functions n rows) (others ++ functions_upto (source_function n rows) k) (source_function n rows k ∷ rest))))

  -- ---- the other functions

  abbrev settle_function : Function
  settle_function = record { name = settle_name; body = shared_text n }

  abbrev clear_function : Function
  clear_function = record { name = clear_name; body = clear_text n }

  abbrev choose_function : Function
  choose_function = record { name = choose_name; body = choose_text n }

  abbrev ports : Bool
  ports = nat_lt 0 (port_count n)

  -- where one text follows for all sources, their functions find the one that settles
  pub settle_called : has_own n rows ≡ false → (k : ℕ)
      → (number : ℕ) × ((surroundings (before_source n rows k) last most).calls settle_name
      ≡ Some (run_block (surroundings (block_functions n rows) last most) number (shared_text n)))
  settle_called one_for_all k =
      let earlier = functions_upto (source_function n rows) k in
      let c = call_is (block_functions n rows) settle_function
      ((functions_where ports (clear_function ∷ []) ++ functions_where ports (choose_function ∷ [])) ++ earlier) last most (by_ports ports) in (
        c.0,
        ap (λ (o : Bool). (surroundings (block_functions n rows ++ (other_functions o n ++ earlier)) last most).calls settle_name) one_for_all ∙ c.1,
      )
    where
      by_ports : (t : Bool)
          → is_defined settle_name ((functions_where t (clear_function ∷ []) ++ functions_where t (choose_function ∷ [])) ++ functions_upto (source_function n rows) k)
          ≡ false
      by_ports true = no_source n rows settle_name (λ j. refl) k
      by_ports false = no_source n rows settle_name (λ j. refl) k

  -- where events fire
  module _ (some : 1 ≤ port_count n) where
    some_ports : ports ≡ true
    some_ports = lt-ltb 0 (port_count n) (omega (arith, some))

    functions_are : has_own n rows ≡ false → called_functions n rows ≡ block_functions n rows ++ settle_function ∷ clear_function ∷ choose_function ∷ sources
    functions_are one_for_all =
        append_assoc (block_functions n rows) (other_functions (has_own n rows) n) sources
        ∙ (ap (λ (o : Bool). block_functions n rows ++ (other_functions o n ++ sources)) one_for_all
        ∙ ap (λ (t : Bool). block_functions n rows ++ (((settle_function ∷ functions_where t (clear_function ∷ []))
        ++ functions_where t (choose_function ∷ [])) ++ sources)) some_ports)

    clear_called : has_own n rows ≡ false
        → (before : List Function) × (number : ℕ) × (env.calls clear_name ≡ Some (run_block (surroundings before last most) number (clear_text n)))
    clear_called one_for_all =
        let c = call_is (block_functions n rows ++ settle_function ∷ []) clear_function (choose_function ∷ sources) last most
        (no_source n rows clear_name (λ j. refl) (length (sources_of n))) in (
          block_functions n rows ++ settle_function ∷ [],
          c.0,
          ap (λ (fs : List Function). (surroundings fs last most).calls clear_name)
              (functions_are one_for_all ∙ sym (append_assoc (block_functions n rows) (settle_function ∷ []) (clear_function ∷ choose_function ∷ sources))) ∙ c.1,
        )

    -- the functions before the one that chooses
    abbrev before_choose : List Function
    before_choose = block_functions n rows ++ functions_where (not (has_own n rows)) (shared_functions n)

    choose_last : called_functions n rows ≡ before_choose ++ choose_function ∷ sources
    choose_last =
        let a = functions_where (not (has_own n rows)) (shared_functions n) in
        let b = functions_where ports (choose_function ∷ []) in
        append_assoc (block_functions n rows) (a ++ b) sources
        ∙ (ap (λ (fs : List Function). block_functions n rows ++ fs) (append_assoc a b sources)
        ∙ (sym (append_assoc (block_functions n rows) a (b ++ sources))
        ∙ ap (λ (t : Bool). before_choose ++ (functions_where t (choose_function ∷ []) ++ sources)) some_ports))

    choose_called : (before : List Function) × (number : ℕ) × (env.calls choose_name ≡ Some (run_block (surroundings before last most) number (choose_text n)))
    choose_called =
        let c = call_is before_choose choose_function sources last most (no_source n rows choose_name (λ j. refl) (length (sources_of n))) in (
          before_choose,
          c.0,
          ap (λ (fs : List Function). (surroundings fs last most).calls choose_name) choose_last ∙ c.1,
        )

  -- ---- all of them

  abbrev pub react : ℕ → World → Ran
  react k = run_of (env.calls (source_name k))

  abbrev pub clear : World → Ran
  clear = run_of (env.calls clear_name)

  abbrev pub choose : World → Ran
  choose = run_of (env.calls choose_name)

  -- what is called is the run
  is_run : (o : Option (World → Ran)) (run : World → Ran) → o ≡ Some run → o ≡ Some (run_of o)
  is_run o run e = e ∙ ap (λ (p : Option (World → Ran)). Some (run_of p)) (sym e)

  pub react_is : (k : ℕ) → k < length (sources_of n) → env.calls (source_name k) ≡ Some (react k)
  react_is k l = is_run (env.calls (source_name k)) _ (source_called k l).1

  pub clear_is : 1 ≤ port_count n → has_own n rows ≡ false → env.calls clear_name ≡ Some clear
  clear_is some one_for_all = is_run (env.calls clear_name) _ (clear_called some one_for_all).2

  pub choose_is : 1 ≤ port_count n → env.calls choose_name ≡ Some choose
  choose_is some = is_run (env.calls choose_name) _ (choose_called some).2

  pub clear_runs : 1 ≤ port_count n → has_own n rows ≡ false
      → (before : List Function) × (number : ℕ) × (clear ≡ run_block (surroundings before last most) number (clear_text n))
  clear_runs some one_for_all = let c = clear_called some one_for_all in (c.0, c.1, ap run_of c.2)

  pub choose_runs : 1 ≤ port_count n → (before : List Function) × (number : ℕ) × (choose ≡ run_block (surroundings before last most) number (choose_text n))
  choose_runs some = let c = choose_called some in (c.0, c.1, ap run_of c.2)

  pub reactions_are : AreReactions n rows last most react
  reactions_are = record { source = λ k l. let c = source_called k l in (c.0, ap run_of c.1) }

  -- ---- in sci_main

  abbrev main : Around
  main = surroundings (functions n rows) last most

  -- other calls mean there what they do in the function of one event
  pub same_call : (f : Name) → same_name event_name f ≡ false → main.calls f ≡ env.calls f
  same_call f h = calls_stay f (called_functions n rows) (event_function (has_own n rows) n ∷ []) last most (ap (λ (t : Bool). t || false) h)

  pub event_called : (number : ℕ) × (main.calls event_name ≡ Some (run_block env number (turn_text (has_own n rows) n)))
  event_called = call_is (called_functions n rows) (event_function (has_own n rows) n) [] last most refl
