-- Blocks of a generated program work on places of their own, and do there what they do.
use Rattle.std.proofs.Common.{◌≡◌, ℕ, zero, suc, ◌+◌, List, [], ◌∷◌, length, filter, Contains, Bool, true, false, if◌then◌else◌, refl, sym, ap, ◌∙◌, subst, arith}
use Rattle.sci_net.specs.Parts.{Parts}
use Rattle.sci_net.specs.Net.{all_elements}
use Rattle.sci_reaction.specs.Schedule.{Entry}
use Rattle.sci_reaction.proofs.Lists.{cons-Contains}
use Rattle.sci_places.proofs.Outputs.{block_within}
use Rattle.c_ast.specs.declared.Name.{Name}
use Rattle.c_ast.specs.Syntax.{Declared}
use Rattle.c_trim.specs.Trim.{is_kept}
use Rattle.c_trim.proofs.Named.{kept_again}
use Rattle.sci_cgen_blocks.specs.Texts.{values, states, masks}
use Rattle.sci_program.specs.Program.{states_before, array, declarations, full_program, program}
use Rattle.sci_program.proofs.Sizes.{input_within, state_within}
use Rattle.sci_cgen_laws.specs.Laws.{ProgramHasPlaces}
use Rattle.sci_cgen_laws.specs.Places.{HasArray}
use Rattle.sci_cgen_laws.proofs.Places.{body_is, outs_of, states_of, masks_of, starts_at, fed_by_other}
use Rattle.sci_cgen_laws.proofs.Doing.{names_arrays, does_block}

-- what passes a test stays
passed_stays : {A : Type 0} (test : A → Bool) (xs : List A) (x : A) → Contains xs x → test x ≡ true → Contains (filter test xs) x
passed_stays test [] x (k, l, e) h = absurd (omega (arith, l))
passed_stays test (y ∷ ys) x (zero, l, e) h =
    subst (λ (t : Bool). Contains (if t then y ∷ filter test ys else filter test ys) x) (sym (ap test e ∙ h)) (0, omega arith, e)
passed_stays test (y ∷ ys) x (suc k, l, e) h = by_test (test y) (passed_stays test ys x (k, omega (arith, l), e) h)
  where
    by_test : (t : Bool) → Contains (filter test ys) x → Contains (if t then y ∷ filter test ys else filter test ys) x
    by_test true c = cons-Contains y (filter test ys) x c
    by_test false c = c

-- an array that the full program has, where a text names it
array_there : (n : Parts) (rows : List (List Entry)) (x : Name) (size : ℕ) → Contains (declarations n rows) (array x size) → HasArray (program n rows) x size
array_there n rows x size there named =
    passed_stays (λ (d : Declared). is_kept (full_program n rows) d.name) (declarations n rows) (array x size) there
    (sym (kept_again (full_program n rows) x) ∙ named)

pub program_has_places : ProgramHasPlaces
program_has_places n rows net free schedule = record {
  bodies = λ b f is has c. does_block n rows net b is has free schedule f.body (body_is n rows b f is has c);
  in_values = λ b is. block_within n b is;
  in_states = λ b is. state_within n net b is;
  in_masks = λ b is. omega (arith, is.least, is.most);
  in_ins = λ b k e is l r. input_within n net b k e is l r;
  arrays = (
    array_there n rows values (all_elements n.specs) (0, omega arith, refl),
    array_there n rows states (states_before n.specs (length n.specs)) (1, omega arith, refl),
    array_there n rows masks (length n.specs) (2, omega arith, refl),
  );
  named = λ b is has. names_arrays n rows net b is has;
  out_places = outs_of n;
  state_places = states_of n;
  mask_places = masks_of n;
  ins = λ b k e is l r. ap (λ (j : ℕ). j + e) (starts_at n net b k is l);
  fed = λ b k is has l through. fed_by_other n net rows free schedule b k is has l through;
}
