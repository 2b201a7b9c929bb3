-- What a memory shows of what is given, and the values that terms have in it.
use Rattle.std.proofs.Common.{◌≡◌, ℕ, zero, suc, ◌+◌, ◌^◌, ◌<◌, ◌≤◌, ◌+ℤ◌, Some, Bool, true, false, refl, ap, ◌∙◌, subst, arith, ℤ, pos, nat_eq, Option}
use Rattle.std.proofs.lemmas.Int.{ints}
use Rattle.c_ast.specs.Syntax.{num, var}
use Rattle.c_mean.specs.Meaning.{World, evaluate, operate}
use Rattle.c_mean.specs.Places.{get, value_of, Has, Puts, Keeps, is_scratch}
use Rattle.c_mean.specs.Laws.{Within}
use Rattle.c_mean.proofs.Memory.{other_number, put_other, keeps_then, keeps_spare}
use Rattle.c_mean.proofs.Values.{number_is, element_is, add_is}
use Rattle.sci_cgen_blocks.specs.Terms.{Given, Term, constant, input, along, state, state_along, state_behind, mask, scratch, both, Scratch, with_scratch, value, Readable, TermFits, IsScratch, IsSpelled}
use Rattle.sci_cgen_blocks.specs.Texts.{Which, fixed, counted_by, Places, values, states, masks, scratch_name, input_start, input_place, element_place, expression}

-- A scratch number that no recipe takes counts elements, and is at this one. Those of it that may be read lie at places that can be spelled.
pub record IsCounted (p : Places) (r : Readable) (c e : ℕ) (w : World) : Type 0 where
  pub behind : r.scratch < c
  pub is : get w (scratch_name c) 0 ≡ Some (pos e)
  pub input : (k : ℕ) → r.input k e → input_place p k e < 2 ^ 63
  pub state : r.state e → p.state + e < 2 ^ 63
  pub next : r.state (suc e) → suc (p.state + e) < 2 ^ 63

-- a text is written for this element
abbrev pub IsFor : Which → Places → Readable → ℕ → World → Type 0
IsFor (fixed i) p r e w = i ≡ e
IsFor (counted_by c) p r e w = IsCounted p r c e w

-- a memory shows what may be read
pub record ShowsGiven (p : Places) (r : Readable) (g : Given) (s : Scratch) (w : World) : Type 0 where
  pub input : (k e : ℕ) → r.input k e → get w values (input_place p k e) ≡ Some (g.input k e)
  pub state : (i : ℕ) → r.state i → get w states (p.state + i) ≡ Some (g.state i)
  pub mask : r.mask ≡ true → get w masks p.mask ≡ Some (pos g.mask)
  pub scratch : (n : ℕ) → 1 ≤ n → n ≤ r.scratch → get w (scratch_name n) 0 ≡ Some (s n)
  pub which : IsFor p.which p r g.element w
  pub same : r.element ≡ g.element

spelled_within : (z : ℤ) → IsSpelled z → Within z
spelled_within z h = record { above = omega (arith, ints, h.0); below = omega (arith, ints, h.1) }

-- the place of the element that is written for
pub place_is : (q : Which) (p : Places) (r : Readable) (e o : ℕ) (w : World) → IsFor q p r e w → ((c : ℕ) → IsCounted p r c e w → o + e < 2 ^ 63)
    → value_of (element_place q o) w ≡ Some (pos (o + e))
place_is (fixed i) p r e o w h small = ap (λ (j : ℕ). Some (pos (o + j))) h
place_is (counted_by c) p r e o w h small =
    let room = small c h in
    let sum : (pos e +ℤ pos o) ≡ pos (o + e) = omega (arith, ints) in
    let within : Within (pos e +ℤ pos o) = record { above = omega (arith, ints); below = omega (arith, ints, room) } in
    add_is (var (scratch_name c)) (num (pos o)) w (pos e) (pos o) h.is refl within ∙ ap Some sum

-- A term has in memory the value that it has without one.
pub expression_is : (p : Places) (r : Readable) (g : Given) (s : Scratch) (w : World) → ShowsGiven p r g s w → (d : ℕ) (t : Term) → TermFits r d t
    → value_of (expression p t) w ≡ value g s t
expression_is p r g s w h zero t f = absurd f
expression_is p r g s w h (suc d) (constant z) f = number_is z w (spelled_within z f)
expression_is p r g s w h (suc d) (input k e) f = h.input k e f
expression_is p r g s w h (suc d) (along k) f =
    let here : r.input k g.element = subst (r.input k) h.same f in
    element_is values (element_place p.which (input_start p k)) w (input_place p k g.element) (g.input k g.element)
    (place_is p.which p r g.element (input_start p k) w h.which (λ c n. n.input k here)) (h.input k g.element here)
expression_is p r g s w h (suc d) (state i) f = h.state i f
expression_is p r g s w h (suc d) state_along f =
    let here : r.state g.element = subst r.state h.same f in
    element_is states (element_place p.which p.state) w (p.state + g.element) (g.state g.element)
    (place_is p.which p r g.element p.state w h.which (λ c n. n.state here)) (h.state g.element here)
expression_is p r g s w h (suc d) state_behind f =
    let here : r.state (suc g.element) = subst (λ (e : ℕ). r.state (suc e)) h.same f in
    let far : suc p.state + g.element ≡ p.state + suc g.element = omega arith in
    element_is states (element_place p.which (suc p.state)) w (suc p.state + g.element) (g.state (suc g.element))
    (place_is p.which p r g.element (suc p.state) w h.which (λ c n. omega (arith, n.next here))) (ap (get w states) far ∙ h.state (suc g.element) here)
expression_is p r g s w h (suc d) mask f = h.mask f
expression_is p r g s w h (suc d) (scratch n) f = h.scratch n f.0 f.1
expression_is p r g s w h (suc d) (both op a b) f =
    ap (λ (o : Option ℤ). operate op o (evaluate (expression p b) w.slots)) (expression_is p r g s w h d a f.0)
    ∙ ap (operate op (value g s a)) (expression_is p r g s w h d b f.1)

-- a scratch number is there
pub scratch_there : (p : Places) (r : Readable) (g : Given) (s : Scratch) (w : World) (n : ℕ) → ShowsGiven p r g s w → IsScratch r n → Has w (scratch_name n) 0
scratch_there p r g s w n h f = record { holds = s n; is = h.scratch n f.0 f.1 }

-- where it is changed, all else is shown as before
pub shows_put : (p : Places) (r : Readable) (g : Given) (s : Scratch) (w w' : World) (n : ℕ) (v : ℤ) → n ≤ r.scratch → ShowsGiven p r g s w
    → Puts w (scratch_name n) 0 v w' → ShowsGiven p r g (with_scratch n v s) w'
shows_put p r g s w w' n v few h q = record {
  input = λ k e f. put_other w w' (scratch_name n) 0 v values (input_place p k e) q refl ∙ h.input k e f;
  state = λ i f. put_other w w' (scratch_name n) 0 v states (p.state + i) q refl ∙ h.state i f;
  mask = λ f. put_other w w' (scratch_name n) 0 v masks p.mask q refl ∙ h.mask f;
  scratch = λ k l m. by_number k (nat_eq n k) refl (h.scratch k l m);
  which = still p.which h.which;
  same = h.same;
}
  where
    still : (x : Which) → IsFor x p r g.element w → IsFor x p r g.element w'
    still (fixed i) e = e
    still (counted_by c) k = record {
      behind = k.behind;
      is = put_other w w' (scratch_name n) 0 v (scratch_name c) 0 q (other_number 116 n c (λ e. omega (arith, e, few, k.behind))) ∙ k.is;
      input = k.input;
      state = k.state;
      next = k.next;
    }

    by_number : (k : ℕ) (t : Bool) → nat_eq n k ≡ t → get w (scratch_name k) 0 ≡ Some (s k) → get w' (scratch_name k) 0 ≡ Some (with_scratch n v s k)
    by_number k true e is = q.places (scratch_name k) 0 ∙ rw e refl
    by_number k false e is = q.places (scratch_name k) 0 ∙ rw e is

-- Behind changes of scratch, and of n places of the values from o on: all else is as it was in memory w0.
pub record IsWorked (p : Places) (r : Readable) (g : Given) (o n : ℕ) (w0 : World) (s : Scratch) (w : World) : Type 0 where
  pub keeps : Keeps is_scratch values o n w0 w
  pub shows : ShowsGiven p r g s w

pub worked_put : (p : Places) (r : Readable) (g : Given) (o n : ℕ) (w0 : World) (s : Scratch) (w w' : World) (m : ℕ) (v : ℤ) → m ≤ r.scratch → IsWorked p r g o n w0 s w
    → Puts w (scratch_name m) 0 v w' → IsWorked p r g o n w0 (with_scratch m v s) w'
worked_put p r g o n w0 s w w' m v few h q = record {
  keeps = keeps_then h.keeps (keeps_spare is_scratch values o n w w' (scratch_name m) 0 v refl q);
  shows = shows_put p r g s w w' m v few h.shows q;
}
