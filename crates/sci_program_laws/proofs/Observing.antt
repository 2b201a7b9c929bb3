-- Behind a pass the values of the active blocks are observed.
use Rattle.std.proofs.Common.{◌≡◌, ℕ, zero, suc, ◌+◌, ◌-◌, ◌<◌, ◌≤◌, ◌^◌, ◌+ℤ◌, List, [], ◌∷◌, ◌++◌, length, take, drop, Some, Bool, true, false, if◌then◌else◌, nat_lt, refl, sym, ap, ◌∙◌, subst, arith, ℤ, pos, lt-ltb, slice_index_or}
use Rattle.std.proofs.lemmas.Int.{ints}
use Rattle.std.proofs.lemmas.List.{append-nil, get_or-take, get_or-drop, length-take-le, length-drop}
use Rattle.sci_base.specs.declared.observation.Obs.{Obs}
use Rattle.sci_base.specs.declared.observation.Obs.TheVariants.{Val}
use Rattle.sci_base.specs.Lists.{at}
use Rattle.c_ast.specs.declared.Name.{Name}
use Rattle.c_ast.specs.declared.Bound.TheVariants as bounds
use Rattle.c_ast.specs.Syntax.{num, var, element, value, tell, Block, done}
use Rattle.c_mean.specs.Meaning.{World, truth, Around, Ran, going, behind, then_run, later, turns, count_up, one_turn, run_block}
use Rattle.c_mean.specs.Places.{get, value_of, Has, Puts, is_scratch}
use Rattle.c_mean.specs.Texts.{place, joined, upto, assigns_only}
use Rattle.c_mean.specs.Runs.{LeftAlone}
use Rattle.c_mean.specs.Laws.{Within}
use Rattle.c_mean.proofs.Memory.{put_there}
use Rattle.c_mean.proofs.Steps.{number_after, run_joined, joined_done, joined_assoc, run_done, then_seen, value_runs, if_runs, skip_runs}
use Rattle.c_mean.proofs.Loops.{loop_runs, count_is}
use Rattle.c_mean.proofs.Frames.{alone_all, alone_then, puts_alone}
use Rattle.c_mean.proofs.Values.{add_is, element_is}
use Rattle.sci_forms.specs.declared.ports.Port.{Port as Output}
use Rattle.sci_forms.specs.declared.spec.Spec.{Spec}
use Rattle.sci_forms.specs.Ports.{elements, total}
use Rattle.sci_net.specs.Parts.{Parts, IsBlock, spec_of, no_spec}
use Rattle.sci_net.specs.Net.{IsNet}
use Rattle.sci_reaction.specs.Equations.{Signals}
use Rattle.sci_run.specs.Activity.{Activity}
use Rattle.sci_run.specs.Observed.{elements_seen, outputs_seen, blocks_seen}
use Rattle.sci_places.specs.Flat.{start_of}
use Rattle.sci_cgen_blocks.specs.Texts.{values, counted_by, scratch_name, element_place}
use Rattle.sci_program.specs.declared.part.Part.{Part}
use Rattle.sci_program.specs.declared.part.Part.TheVariants.{Absent, Sure, Marked, Taken}
use Rattle.sci_program.specs.Names.{actives}
use Rattle.sci_program.specs.Program.{natural, each_block, text_where, is_active, has_taken, where_part, elements_shown, outputs_shown, values_shown, one, looped_shown, output_shown, is_any_looped, counts_behind, has_loop}
use Rattle.sci_program.specs.Shows.{ShowsValues, Acts, ShowsActive}
use Rattle.sci_places.proofs.Outputs.{block_within}
use Rattle.sci_cgen_blocks.specs.Terms.{is_looped}
use Rattle.sci_program.proofs.Sizes.{first_any, other_any, some_block}
use Rattle.sci_program.proofs.Staying.{taken_test, values_stay, active_stays}

-- ---- runs that observe

-- It observes these, and goes on where nothing has changed but scratch.
pub record Tells (r : Ran) (seen : List Obs) (w : World) : Type 0 where
  pub to : World
  pub is : r ≡ record { seen = seen; how = going to }
  pub alone : LeftAlone (assigns_only is_scratch) w to

-- nothing has changed at all
tells_same : (r : Ran) (seen : List Obs) (w : World) → r ≡ record { seen = seen; how = going w } → Tells r seen w
tells_same r seen w e = record { to = w; is = e; alone = alone_all (assigns_only is_scratch) w }

-- one run behind another
tells_then : (r : Ran) (f : World → Ran) (s t : List Obs) (w : World) → Tells r s w
    → ((v : World) → LeftAlone (assigns_only is_scratch) w v → Tells (f v) t v) → Tells (then_run r f) (s ++ t) w
tells_then r f s t w a go =
    let b = go a.to a.alone in record {
      to = b.to;
      is = then_seen r s a.to f a.is ∙ ap (behind s) b.is;
      alone = alone_then (assigns_only is_scratch) w a.to b.to a.alone b.alone;
    }

-- nothing behind it
tells_done : (env : Around) (m : ℕ) (r : Ran) (s : List Obs) (w : World) → Tells r s w → Tells (then_run r (run_block env m done)) s w
tells_done env m r s w a =
    subst (λ (seen : List Obs). Tells (then_run r (run_block env m done)) seen w) (append-nil s)
    (tells_then r (run_block env m done) s [] w a (λ v same. tells_same (run_block env m done v) [] v (run_done env m v)))

-- behind what was observed before
tells_behind : (r : Ran) (s t : List Obs) (w : World) → Tells r t w → Tells (behind s r) (s ++ t) w
tells_behind r s t w a = record { to = a.to; is = ap (behind s) a.is; alone = a.alone }

tells_joined : (env : Around) (a b : Block) (n : ℕ) (w : World) (s t : List Obs) → Tells (run_block env n a w) s w
    → ((k : ℕ) (v : World) → LeftAlone (assigns_only is_scratch) w v → Tells (run_block env k b v) t v) → Tells (run_block env n (joined a b) w) (s ++ t) w
tells_joined env a b n w s t p q =
    subst (λ (r : Ran). Tells r (s ++ t) w) (sym (run_joined env a b n w))
    (tells_then (run_block env n a w) (run_block env (number_after a n) b) s t w p (q (number_after a n)))

-- texts of 0 to n, with the first of them in front
upto_front : (f : ℕ → Block) (n : ℕ) → upto f (suc n) ≡ joined (f 0) (upto (λ k. f (suc k)) n)
upto_front f zero = sym (joined_done (f 0))
upto_front f (suc n) =
    ap (λ (a : Block). joined a (f (suc n))) (upto_front f n) ∙ joined_assoc (f 0) (upto (λ k. f (suc k)) n) (f (suc n))

-- ---- values in memory

-- these values lie from a place on
abbrev LieAt : World → ℕ → List ℤ → Type 0
LieAt w o vs = (i : ℕ) → i < length vs → get w values (o + i) ≡ Some (at vs i)

lie_next : (w : World) (o : ℕ) (v : ℤ) (vs : List ℤ) → LieAt w o (v ∷ vs) → LieAt w (o + 1) vs
lie_next w o v vs h i l = subst (λ (j : ℕ). get w values j ≡ Some (at vs i)) (omega arith) (h (suc i) (omega (arith, l)))

lie_first : (w : World) (o : ℕ) (v : ℤ) (vs : List ℤ) → LieAt w o (v ∷ vs) → get w values o ≡ Some v
lie_first w o v vs h = subst (λ (j : ℕ). get w values j ≡ Some v) (omega arith) (h 0 (omega arith))

lie_take : (w : World) (o m : ℕ) (vs : List ℤ) → LieAt w o vs → length (take m vs) ≡ m → m ≤ length vs → LieAt w o (take m vs)
lie_take w o m vs h e fits i l =
    let less : i < m = omega (arith, l, e) in h i (omega (arith, less, fits)) ∙ ap Some (sym (get_or-take m vs i (pos 0) less))

lie_drop : (w : World) (o m : ℕ) (vs : List ℤ) → LieAt w o vs → LieAt w (o + m) (drop m vs)
lie_drop w o m vs h i l =
    let long = length-drop m vs in
    subst (λ (j : ℕ). get w values j ≡ Some (at (drop m vs) i)) (omega arith)
    (h (m + i) (omega (arith, l, long)) ∙ ap Some (sym (get_or-drop m vs i (pos 0))))

-- They stay where nothing but scratch has changed.
lie_stays : (w v : World) (o : ℕ) (vs : List ℤ) → LeftAlone (assigns_only is_scratch) w v → LieAt w o vs → LieAt v o vs
lie_stays w v o vs same h i l = same.same values (o + i) refl ∙ h i l

-- ---- a loop over the elements of an output

abbrev counter : Name
counter = scratch_name 1

-- the place that the counter is at, where the first one is o
counted_is : (w : World) (i o : ℕ) → get w counter 0 ≡ Some (pos i) → o + i < 2 ^ 63 → value_of (element_place (counted_by 1) o) w ≡ Some (pos (o + i))
counted_is w i o is small =
    let sum : (pos i +ℤ pos o) ≡ pos (o + i) = omega (arith, ints) in
    let within : Within (pos i +ℤ pos o) = record { above = omega (arith, ints); below = omega (arith, ints, small) } in
    add_is (var counter) (num (pos o)) w (pos i) (pos o) is refl within ∙ ap Some sum

module _ (env : Around) (b p o n : ℕ) (small : o + n < 2 ^ 63) where
  abbrev body : Block
  body = one (tell (value (natural b) (natural p) (element_place (counted_by 1) 1) (element values (element_place (counted_by 1) o))))

  abbrev turn : ℕ → World → Ran
  turn l w = one_turn env l counter body w

  -- A turn observes the element that the counter is at.
  turn_told : (l i : ℕ) (v : ℤ) (w : World) → i < n → get w counter 0 ≡ Some (pos i) → get w values (o + i) ≡ Some v
      → (u : World) × ((turn l w ≡ record { seen = Val (pos b) (pos p) (pos (i + 1)) v ∷ []; how = going u }) × Puts w counter 0 (pos (suc i)) u)
  turn_told l i v w less is there =
      let seen : List Obs = Val (pos b) (pos p) (pos (i + 1)) v ∷ [] in
      let number : 1 + i ≡ i + 1 = omega arith in
      let shown : run_block env (later l 1) body w ≡ record { seen = seen; how = going w } =
      value_runs (λ r. r ≡ record { seen = seen; how = going w }) env (later l 1) (natural b) (natural p) (element_place (counted_by 1) 1)
      (element values (element_place (counted_by 1) o)) done w (pos b) (pos p) (pos (i + 1)) v refl refl
      (counted_is w i 1 is (omega (arith, less, small)) ∙ ap (λ (j : ℕ). Some (pos j)) number)
      (element_is values (element_place (counted_by 1) o) w (o + i) v (counted_is w i o is (omega (arith, less, small))) there)
      (λ j. ap (behind seen) (run_done env j w)) in
      let up = count_is l counter w i is (omega (arith, less, small)) in
      (up.0, (then_seen (run_block env (later l 1) body w) seen w (count_up l counter) shown ∙ ap (behind seen) up.1.0, up.1.1))

  -- the elements behind the first i
  turns_told : (l : ℕ) (vs : List ℤ) (i : ℕ) (w : World) → i + length vs ≡ n → get w counter 0 ≡ Some (pos i) → LieAt w (o + i) vs
      → Tells (turns (length vs) (turn l) w) (elements_seen b p (i + 1) vs) w
  turns_told l [] i w e is lie = tells_same (turns 0 (turn l) w) [] w refl
  turns_told l (v ∷ vs) i w e is lie =
      let seen : List Obs = Val (pos b) (pos p) (pos (i + 1)) v ∷ [] in
      let first = turn_told l i v w (omega (arith, e)) is (lie_first w (o + i) v vs lie) in
      let same = puts_alone (assigns_only is_scratch) w first.0 counter 0 (pos (suc i)) refl first.1.1 in
      let far : o + i + 1 ≡ o + suc i = omega arith in
      let number : suc i + 1 ≡ i + 1 + 1 = omega arith in
      let rest = subst (λ (j : ℕ). Tells (turns (length vs) (turn l) first.0) (elements_seen b p j vs) first.0) number
      (turns_told l vs (suc i) first.0 (omega (arith, e)) (put_there w first.0 counter 0 (pos (suc i)) first.1.1)
      (lie_stays w first.0 (o + suc i) vs same (subst (λ (j : ℕ). LieAt w j vs) far (lie_next w (o + i) v vs lie)))) in record {
        to = rest.to;
        is = then_seen (turn l w) seen first.0 (turns (length vs) (turn l)) first.1.0 ∙ ap (behind seen) rest.is;
        alone = alone_then (assigns_only is_scratch) w first.0 rest.to same rest.alone;
      }

  -- The loop observes all elements.
  loop_told : (vs : List ℤ) (k : ℕ) (w : World) → length vs ≡ n → Has w counter 0 → LieAt w o vs
      → Tells (run_block env k (one (looped_shown b p o n)) w) (elements_seen b p 1 vs) w
  loop_told vs k w long there lie =
      loop_runs (λ r. Tells r (elements_seen b p 1 vs) w) env k counter (bounds.Num (pos n)) body done w (pos n) refl there (λ l m first q.
      tells_done env m (turns n (turn l) first) (elements_seen b p 1 vs) w (from_first l first q))
    where
      from_first : (l : ℕ) (first : World) → Puts w counter 0 (pos 0) first → Tells (turns n (turn l) first) (elements_seen b p 1 vs) w
      from_first l first q =
          let same = puts_alone (assigns_only is_scratch) w first counter 0 (pos 0) refl q in
          let start : o ≡ o + 0 = omega arith in
          let all = subst (λ (m : ℕ). Tells (turns m (turn l) first) (elements_seen b p 1 vs) first) long
          (turns_told l vs 0 first (omega (arith, long)) (put_there w first counter 0 (pos 0) q)
          (subst (λ (j : ℕ). LieAt first j vs) start (lie_stays w first o vs same lie))) in
          record { to = all.to; is = all.is; alone = alone_then (assigns_only is_scratch) w first all.to same all.alone }

-- ---- one block

module _ (env : Around) (b : ℕ) where
  elements_told : (p : ℕ) (vs : List ℤ) (e o k : ℕ) (w : World) → LieAt w o vs
      → Tells (run_block env k (elements_shown b p e o (length vs)) w) (elements_seen b p e vs) w
  elements_told p [] e o k w lie = tells_same (run_block env k done w) [] w (run_done env k w)
  elements_told p (v ∷ vs) e o k w lie =
      value_runs (λ r. Tells r (elements_seen b p e (v ∷ vs)) w) env k (natural b) (natural p) (natural e) (place values o)
      (elements_shown b p (e + 1) (o + 1) (length vs)) w (pos b) (pos p) (pos e) v refl refl refl
      (element_is values (num (pos o)) w o v refl (lie_first w o v vs lie)) (λ j.
      tells_behind (run_block env j (elements_shown b p (e + 1) (o + 1) (length vs)) w) (Val (pos b) (pos p) (pos e) v ∷ []) (elements_seen b p (e + 1) vs) w
      (elements_told p vs (e + 1) (o + 1) j w (lie_next w o v vs lie)))

  -- one after the other or in a loop
  output_told : (p o m : ℕ) (vs : List ℤ) (k : ℕ) (w : World) → length vs ≡ m → o + m < 2 ^ 63 → LieAt w o vs → (is_looped m ≡ true → Has w counter 0)
      → Tells (run_block env k (output_shown b p o m) w) (elements_seen b p 1 vs) w
  output_told p o m vs k w long small lie room = by_size (is_looped m) refl
    where
      by_size : (t : Bool) → is_looped m ≡ t
          → Tells (run_block env k (if t then one (looped_shown b p o m) else elements_shown b p 1 o m) w) (elements_seen b p 1 vs) w
      by_size true e = loop_told env b p o m small vs k w long (room e) lie
      by_size false e =
          subst (λ (j : ℕ). Tells (run_block env k (elements_shown b p 1 o j) w) (elements_seen b p 1 vs) w) long (elements_told p vs 1 o k w lie)

  outputs_told : (qs : List Output) (p o : ℕ) (vs : List ℤ) (k : ℕ) (w : World) → length vs ≡ total qs → o + total qs < 2 ^ 63 → LieAt w o vs
      → (is_any_looped qs ≡ true → Has w counter 0) → Tells (run_block env k (outputs_shown b p o qs) w) (outputs_seen b p qs vs) w
  outputs_told [] p o vs k w long small lie room = tells_same (run_block env k done w) [] w (run_done env k w)
  outputs_told (q ∷ qs) p o vs k w long small lie room =
      let fits : elements q ≤ length vs = omega (arith, long) in
      let size : length (take (elements q) vs) ≡ elements q = length-take-le (elements q) vs fits in
      let rest = length-drop (elements q) vs in
      let others = is_any_looped qs in
      tells_joined env (output_shown b p o (elements q)) (outputs_shown b (p + 1) (o + elements q) qs) k w
      (elements_seen b p 1 (take (elements q) vs)) (outputs_seen b (p + 1) qs (drop (elements q) vs))
      (output_told p o (elements q) (take (elements q) vs) k w size (omega (arith, small)) (lie_take w o (elements q) vs lie size fits)
      (λ h. room (first_any (is_looped (elements q)) others h)))
      (λ j v same. outputs_told qs (p + 1) (o + elements q) (drop (elements q) vs) j v (omega (arith, long, rest)) (omega (arith, small))
      (lie_drop v o (elements q) vs (lie_stays w v o vs same lie)) (λ h. same.there counter 0 (room (other_any (is_looped (elements q)) others h))))

  -- where the block is active
  active_told : (p : Part) (seen : List Obs) (a : Block) (t : Bool) (k : ℕ) (w : World) → Acts p t w b → ((k : ℕ) → Tells (run_block env k a w) seen w)
      → Tells (run_block env k (where_part p b a) w) (if t then seen else []) w
  active_told Absent seen a t k w is h =
      subst (λ (u : Bool). Tells (run_block env k done w) (if u then seen else []) w) (sym is) (tells_same (run_block env k done w) [] w (run_done env k w))
  active_told Sure seen a t k w is h = subst (λ (u : Bool). Tells (run_block env k a w) (if u then seen else []) w) (sym is) (h k)
  active_told Marked seen a true k w is h =
      if_runs (λ r. Tells r seen w) env k (is_active b) a done done w (element_is actives (num (pos (b - 1))) w (b - 1) (truth true) refl is) (λ l m.
      tells_done env m (run_block env l a w) seen w (h l))
  active_told Marked seen a false k w is h =
      skip_runs (λ r. Tells r [] w) env k (is_active b) a done w (element_is actives (num (pos (b - 1))) w (b - 1) (truth false) refl is) (λ m.
      tells_same (run_block env m done w) [] w (run_done env m w))
  active_told (Taken q) seen a true k w is h =
      if_runs (λ r. Tells r seen w) env k (has_taken q) a done done w (taken_test q true w is) (λ l m. tells_done env m (run_block env l a w) seen w (h l))
  active_told (Taken q) seen a false k w is h =
      skip_runs (λ r. Tells r [] w) env k (has_taken q) a done w (taken_test q false w is) (λ m. tells_same (run_block env m done w) [] w (run_done env m w))

  -- a block without outputs shows nothing
  shown_told : (p : Part) (qs : List Output) (o : ℕ) (vs : List ℤ) (t : Bool) (k : ℕ) (w : World) → Acts p t w b → length vs ≡ total qs
      → o + total qs < 2 ^ 63 → LieAt w o vs → (is_any_looped qs ≡ true → Has w counter 0)
      → Tells (run_block env k (text_where (nat_lt 0 (length qs)) (where_part p b (outputs_shown b 1 o qs))) w)
      (if t then outputs_seen b 1 qs vs else []) w
  shown_told p [] o vs true k w is long small lie room = tells_same (run_block env k done w) [] w (run_done env k w)
  shown_told p [] o vs false k w is long small lie room = tells_same (run_block env k done w) [] w (run_done env k w)
  shown_told p (q ∷ qs) o vs t k w is long small lie room =
      let some : nat_lt 0 (length (q ∷ qs)) ≡ true = lt-ltb 0 (length (q ∷ qs)) (omega arith) in
      subst (λ (u : Bool). Tells (run_block env k (text_where u (where_part p b (outputs_shown b 1 o (q ∷ qs)))) w)
      (if t then outputs_seen b 1 (q ∷ qs) vs else []) w) (sym some)
      (active_told p (outputs_seen b 1 (q ∷ qs) vs) (outputs_shown b 1 o (q ∷ qs)) t k w is (λ j. outputs_told (q ∷ qs) 1 o vs j w long small lie room))

-- ---- all blocks

abbrev block_seen : Signals → Activity → ℕ → Spec → List Obs
block_seen y active b s = if active b then outputs_seen b 1 s.outs (y b) else []

module _ (env : Around) (y : Signals) (part : ℕ → Part) (active : Activity) where
  -- of a list of blocks, of which the first has number b
  all_told : (ss : List Spec) (b : ℕ) (f : ℕ → Block) (k : ℕ) (w : World)
      → ((j : ℕ) → j < length ss → (k : ℕ) (v : World) → LeftAlone (assigns_only is_scratch) w v
      → Tells (run_block env k (f j) v) (block_seen y active (b + j) (slice_index_or ss j no_spec)) v)
      → Tells (run_block env k (upto f (length ss)) w) (blocks_seen b ss y active) w
  all_told [] b f k w h = tells_same (run_block env k done w) [] w (run_done env k w)
  all_told (s ∷ ss) b f k w h =
      subst (λ (t : Block). Tells (run_block env k t w) (blocks_seen b (s ∷ ss) y active) w) (sym (upto_front f (length ss)))
      (tells_joined env (f 0) (upto (λ j. f (suc j)) (length ss)) k w (block_seen y active b s) (blocks_seen (b + 1) ss y active)
      (subst (λ (c : ℕ). Tells (run_block env k (f 0) w) (block_seen y active c s) w) (omega arith)
      (h 0 (omega arith) k w (alone_all (assigns_only is_scratch) w)))
      (λ i u same. all_told ss (b + 1) (λ j. f (suc j)) i u (λ j l m v more.
      subst (λ (c : ℕ). Tells (run_block env m (f (suc j)) v) (block_seen y active c (slice_index_or ss j no_spec)) v) (omega arith)
      (h (suc j) (omega (arith, l)) m v (alone_then (assigns_only is_scratch) w u v same more)))))

  module _ (n : Parts) (net : IsNet n) (w : World) (long : (b : ℕ) → IsBlock n b → length (y b) ≡ total (spec_of n b).outs) (shows : ShowsValues n y w)
      (marked : ShowsActive n part active w) (room : has_loop n ≡ true → Has w counter 0) where
    block_told : (b : ℕ) → IsBlock n b → (k : ℕ) (v : World) → LeftAlone (assigns_only is_scratch) w v
        → Tells (run_block env k (values_shown n part b) v) (block_seen y active b (spec_of n b)) v
    block_told b block k v same =
        shown_told env b (part b) (spec_of n b).outs (start_of n b) (y b) (active b) k v ((active_stays is_scratch w v same n part active refl refl marked).each b block)
        (long b block) (omega (arith, block_within n b block, net.small))
        (λ i l. (values_stay is_scratch w v same n y refl shows).each b i block (omega (arith, l, long b block)))
        (λ h. same.there counter 0 (room (some_block n counts_behind b block (first_any (is_any_looped (spec_of n b).outs) _ h))))

    -- The values of the active blocks are observed, by block, port and element, and nothing changes but scratch.
    pub values_told : (k : ℕ) → Tells (run_block env k (each_block (values_shown n part) n) w) (blocks_seen 1 n.specs y active) w
    values_told k = all_told n.specs 1 (λ j. values_shown n part (suc j)) k w (λ j l m v same.
        subst (λ (b : ℕ). Tells (run_block env m (values_shown n part (suc j)) v) (block_seen y active b (spec_of n (suc j))) v) (omega arith)
        (block_told (suc j) (record { least = omega arith; most = omega (arith, l) }) m v same))
