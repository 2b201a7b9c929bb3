-- A run whose blocks are done one after the other: each has the values that it gives on those at the beginning.
use Rattle.std.proofs.Common.{◌≡◌, ◌≢◌, ℕ, zero, suc, ◌+◌, ◌-◌, ◌<◌, ◌≤◌, min, Bool, true, false, cond, eqb, ◌⊎◌, inl, inr, ⊎_elim, ℤ, List, [], ◌∷◌, ◌++◌, length, map, get_or, take, drop, Contains, All, Option, Some, None, Result, Ok, Err, refl, sym, ap, subst, ◌∙◌, arith}
use Rattle.std.proofs.lemmas.Bool.{eq-eqb}
use Rattle.std.proofs.lemmas.Bool.Decides.{eqb_tells}
use Rattle.std.proofs.lemmas.List.{get_or_default, get_or-take, length-take-le, take_more, take_all, get_or-drop, length-drop}
use Rattle.std.proofs.lemmas.List.Elements.{Contains-append_cases, Contains-append_left, Contains-append_right}
use Rattle.sci_base.specs.declared.observation.StopWord.{StopWord}
use Rattle.sci_forms.specs.declared.Kind.{Kind}
use Rattle.sci_forms.specs.Form.{is_sensor}
use Rattle.sci_forms.specs.declared.spec.Spec.{Spec}
use Rattle.sci_kinds.specs.Table.{Answer, Values, NoFit, NoQuotient, out}
use Rattle.sci_kinds.proofs.Elements.{gathered_values}
use Rattle.sci_forms.specs.Numbers.{number_of}
use Rattle.sci_forms.specs.Ports.{total}
use Rattle.sci_net.specs.Parts.{IsBlock, spec_of}
use Rattle.sci_reaction.specs.Memory.{Columns, next_value}
use Rattle.sci_reaction.specs.Equations.{input_in, all_inputs, sensed, values_or_word, answer_of}
use Rattle.sci_reaction.proofs.Lists.{Contains-cons, cons-Contains}
use Rattle.sci_places.specs.Flat.{values_at}
use Rattle.sci_places.proofs.Outputs.{outputs_law}
use Rattle.sci_bank.specs.declared.runs.Call.{Call}
use Rattle.sci_bank.specs.declared.instance.Instance.{Instance}
use Rattle.sci_bank.specs.Bank.{Meaning, counted}
use Rattle.sci_bank.specs.Library.{bank_of}
use Rattle.sci_bank.proofs.LibraryLemmas.{Holds-full}
use Rattle.sci_store.specs.declared.marks.Mark.{Mark}
use Rattle.sci_store.specs.Marks.{mark_at}
use Rattle.sci_store.specs.Frame.{Fixed, IsFrame, AreSeated, seat_of}
use Rattle.sci_store.specs.Store.{Standing, IsStore, state_of, cursor_at}
use Rattle.sci_store.specs.Passed.{given, branch_of, mark_of, valued, called, IsStopped, IsEvaluated}
use Rattle.sci_store.specs.Rows.{IsMarked}
use Rattle.sci_store.specs.Runs.{IsCallIn, AgreesBut, AreApart, AreOfKind, HasValues, AreValued, IsRunDone}
use Rattle.sci_store.proofs.Evaluating.{instance_behind, mark_here, mark_other}
use Rattle.sci_store.proofs.Counting.{call_counts}
use Rattle.sci_store.proofs.Updating.{same_kind}
use Rattle.sci_store.proofs.Calling.{map_contains, contains_map}

-- as many values as the outputs have elements
values_ok : (a : Answer) (vs : List ℤ) → values_or_word a ≡ Ok vs → a ≡ Values vs
values_ok (Values ws) vs h = cc
values_ok NoFit vs h = cc
values_ok NoQuotient vs h = cc

long_by : (s : Spec) (x : List ℤ) (mask : ℕ) (t : Bool) (next : Option ℤ) (us vs : List ℤ) → cond t (sensed s x mask next) (values_or_word (out s x mask us)) ≡ Ok vs
    → length vs ≡ total s.outs
long_by s x mask true None us vs h = cc
long_by s x mask true (Some v) us vs h = (gathered_values _ _ vs (values_ok (out s x mask (v ∷ [])) vs h)).0
long_by s x mask false next us vs h = (gathered_values _ _ vs (values_ok (out s x mask us) vs h)).0

pub given_long : (f : Fixed) (i : Columns) (banks : List Meaning) (s : Standing) (b mask : ℕ) (vs : List ℤ) → given f i banks s b mask ≡ Ok vs
    → length vs ≡ total (spec_of f.net b).outs
given_long f i banks s b mask vs h =
    long_by (spec_of f.net b) (state_of f banks b) mask (is_sensor (spec_of f.net b).kind) (next_value i (spec_of f.net b) (cursor_at s b))
    (all_inputs (spec_of f.net b) (input_in f.net (values_at f.net s.values) b)) vs h

abbrev blocks_to : List Call → ℕ → List ℕ
blocks_to calls k = map (λ (c : Call). c.block) (take k calls)

-- so many calls are done, and none of them stopped
pub record AreDoneTo (f : Fixed) (i : Columns) (calls : List Call) (k : ℕ) (s t : Standing) (old banks : List Meaning) : Type 0 where
  pub within : k ≤ length calls
  pub has : All (HasValues f i old s t) (take k calls)
  pub others : (b : ℕ) → IsBlock f.net b → (Contains (blocks_to calls k) b → ⊥)
      → (values_at f.net t.values b ≡ values_at f.net s.values b) × (mark_at t.marks b ≡ mark_at s.marks b)
  pub states : (b : ℕ) → IsBlock f.net b → state_of f banks b ≡ state_of f old b
  pub counted_to : (kind : Kind) → AreOfKind f kind calls → (bank_of old kind).outs ≤ 18446744073709551615
      → (bank_of banks kind).outs ≡ min ((bank_of old kind).outs + k) 18446744073709551615
  pub uncounted_to : (kind : Kind) → AreOfKind f kind calls → (l : Kind) → l ≢ kind → (bank_of banks l).outs ≡ (bank_of old l).outs
  pub kept : (t.cursors ≡ s.cursors) × (t.lines ≡ s.lines) × (t.sum ≡ s.sum)
  pub chosen : t.chosen ≡ s.chosen

pub done_none : (f : Fixed) (i : Columns) (calls : List Call) (s : Standing) (old : List Meaning) → AreDoneTo f i calls 0 s s old old
done_none f i calls s old = record {
  within = omega arith;
  has = λ j d l. absurd (omega (arith, l));
  others = λ b block out. (refl, refl);
  states = λ b block. refl;
  counted_to = λ kind of small. omega (arith, small);
  uncounted_to = λ kind of l ne. refl;
  kept = (refl, refl, refl);
  chosen = refl;
}

front_in : (xs : List Call) (k : ℕ) (c : Call) → Contains (take k xs) c → Contains xs c
front_in xs zero c h = absurd (omega (arith, h.1))
front_in [] (suc k) c h = absurd (omega (arith, h.1))
front_in (x ∷ xs) (suc k) c h = ⊎_elim (λ same. (0, omega arith, same)) (λ later. cons-Contains x xs c (front_in xs k c later)) (Contains-cons x (take k xs) c h)

module _ (f : Fixed) (frame : IsFrame f) (i : Columns) (calls : List Call) (in_net : All (IsCallIn f) calls) (apart : AreApart f calls) (k : ℕ) (s t : Standing) (old banks : List Meaning)
    (inv : AreDoneTo f i calls k s t old banks) (c : Call) (less : k < length calls) (read : c ≡ get_or calls k c) (store : IsStore f t) (seated : AreSeated f banks) where
  there : Contains calls c
  there = (k, less, sym read)

  pub call_of_net : IsCallIn f c
  call_of_net = subst (IsCallIn f) (sym read) (in_net k c less)

  block : IsBlock f.net c.block
  block = call_of_net.block

  -- none of those before is this block
  fresh : Contains (blocks_to calls k) c.block → ⊥
  fresh h =
      let d = map_contains (λ (x : Call). x.block) (take k calls) c.block h in
      let long = length-take-le k calls (omega (arith, less)) in
      let l = d.1.1 in
      let before : d.1.0 < k = omega (arith, l, long) in
      apart.once d.1.0 k c before less
      (ap (λ (x : Call). x.block) (sym (get_or-take k calls d.1.0 c before) ∙ (get_or_default (take k calls) d.1.0 c d.0 l ∙ d.1.2)) ∙ (d.2 ∙ ap (λ (x : Call). x.block) read))

  agree : AgreesBut f (map (λ (x : Call). x.block) calls) s t
  agree = record {
    cursors = inv.kept.0;
    values = λ b inside out. (inv.others b inside (λ h.
        let d = map_contains (λ (x : Call). x.block) (take k calls) b h in
        out (subst (Contains (map (λ (x : Call). x.block) calls)) d.2 (contains_map (λ (x : Call). x.block) calls d.0 (front_in calls k d.0 d.1))))).0;
  }

  -- what it gives now is what it gave at the beginning
  pub given_now : given f i old s c.block c.mask ≡ given f i banks t c.block c.mask
  given_now =
      apart.alike i old s t c there agree
      ∙ ap (λ x. answer_of (spec_of f.net c.block) x (next_value i (spec_of f.net c.block) (cursor_at t c.block)) c.mask (input_in f.net (values_at f.net t.values) c.block))
      (sym (inv.states c.block block))

  branch_now : branch_of f s c.block ≡ branch_of f t c.block
  branch_now = apart.branches s t c there agree

  next_front : take (k + 1) calls ≡ take k calls ++ c ∷ []
  next_front = take_more calls k c less ∙ ap (λ x. take k calls ++ x ∷ []) (sym read)

  push_cases : (b : ℕ) → Contains (map (λ (x : Call). x.block) (take k calls ++ c ∷ [])) b → Contains (blocks_to calls k) b ⊎ (c.block ≡ b)
  push_cases b h =
      let d = map_contains (λ (x : Call). x.block) (take k calls ++ c ∷ []) b h in
      ⊎_elim
      (λ old'. inl (subst (Contains (blocks_to calls k)) d.2 (contains_map (λ (x : Call). x.block) (take k calls) d.0 old')))
      (λ new. inr (let l = new.1 in
      let zero' : new.0 ≡ 0 = omega (arith, l) in
      ap (λ (x : Call). x.block) (subst (λ j. get_or (c ∷ []) j d.0 ≡ d.0) zero' new.2) ∙ d.2))
      (Contains-append_cases (take k calls) (c ∷ []) d.0 d.1)

  in_next_old : (b : ℕ) → Contains (blocks_to calls k) b → Contains (blocks_to calls (k + 1)) b
  in_next_old b h =
      let d = map_contains (λ (x : Call). x.block) (take k calls) b h in
      subst (λ xs. Contains (map (λ (x : Call). x.block) xs) b) (sym next_front)
      (subst (Contains (map (λ (x : Call). x.block) (take k calls ++ c ∷ []))) d.2
      (contains_map (λ (x : Call). x.block) (take k calls ++ c ∷ []) d.0 (Contains-append_left (take k calls) (c ∷ []) d.0 d.1)))

  in_next_new : Contains (blocks_to calls (k + 1)) c.block
  in_next_new =
      subst (λ xs. Contains (map (λ (x : Call). x.block) xs) c.block) (sym next_front)
      (contains_map (λ (x : Call). x.block) (take k calls ++ c ∷ []) c (Contains-append_right (take k calls) (c ∷ []) c (0, omega arith, refl)))

  -- one of those before keeps what it has, where only this block's values and mark change
  keep : (u : Standing) → ((b : ℕ) → IsBlock f.net b → c.block ≢ b → (values_at f.net u.values b ≡ values_at f.net t.values b) × (mark_at u.marks b ≡ mark_at t.marks b))
      → (d : Call) → Contains (take k calls) d → HasValues f i old s t d → HasValues f i old s u d
  keep u same d d_in h =
      let d_net = (let x = front_in calls k d d_in in subst (IsCallIn f) x.2 (in_net x.0 d x.1)) in
      let other : c.block ≢ d.block = λ e. fresh (subst (Contains (blocks_to calls k)) (sym e) (contains_map (λ (x : Call). x.block) (take k calls) d d_in)) in
      let kept' = same d.block d_net.block other in
      record {
        values = h.values ∙ ap Ok (sym kept'.0);
        marked = record { active = ap (λ (x : Mark). x.active) kept'.1 ∙ h.marked.active; mask = ap (λ (x : Mark). x.mask) kept'.1 ∙ h.marked.mask };
        branch = λ sync. ap (λ (x : Mark). x.branch) kept'.1 ∙ h.branch sync;
      }

  -- ---- one call more is counted

  kind_of_call : (kind : Kind) → AreOfKind f kind calls → (seat_of f c.block).kind ≡ kind
  kind_of_call kind of = subst (λ (x : Call). (seat_of f x.block).kind ≡ kind) (sym read) (of k c less)

  module _ (after : List Meaning) (call : after ≡ called f banks c.block) where
    counts_of_call : (l : Kind) → (bank_of after l).outs ≡ cond (eqb (number_of (seat_of f c.block).kind) (number_of l)) (counted (bank_of banks l).outs) (bank_of banks l).outs
    counts_of_call l = ap (λ bs. (bank_of bs l).outs) call ∙ call_counts banks (seat_of f c.block).kind l (Holds-full banks (seat_of f c.block).kind seated.full)

    counted_now : (kind : Kind) → AreOfKind f kind calls → (bank_of old kind).outs ≤ 18446744073709551615
        → (bank_of after kind).outs ≡ min ((bank_of old kind).outs + (k + 1)) 18446744073709551615
    counted_now kind of small =
        let before = inv.counted_to kind of small in
        let now = counts_of_call kind ∙ ap (λ t'. cond t' (counted (bank_of banks kind).outs) (bank_of banks kind).outs)
        (eq-eqb (number_of (seat_of f c.block).kind) (number_of kind) (ap number_of (kind_of_call kind of))) in
        omega (arith, before, now)

    uncounted_now : (kind : Kind) → AreOfKind f kind calls → (l : Kind) → l ≢ kind → (bank_of after l).outs ≡ (bank_of old l).outs
    uncounted_now kind of l ne =
        let off : number_of (seat_of f c.block).kind ≡ number_of l → ⊥ = λ e.
        ne (same_kind banks kind l seated.in_order seated.full
        (let x : number_of l ≡ number_of kind = sym e ∙ ap number_of (kind_of_call kind of) in ap (λ j. j - 1) x)) in
        counts_of_call l
        ∙ (⊎_elim (λ on. absurd (off on.1)) (λ n. ap (λ t'. cond t' (counted (bank_of banks l).outs) (bank_of banks l).outs) n.0)
        (eqb_tells (number_of (seat_of f c.block).kind) (number_of l))
        ∙ inv.uncounted_to kind of l ne)

    states_now : (b : ℕ) → IsBlock f.net b → state_of f after b ≡ state_of f old b
    states_now b inside = ap (λ bs. state_of f bs b) call ∙ (ap (λ (x : Instance). x.state) (instance_behind f banks seated c.block b) ∙ inv.states b inside)

  -- ---- it has values

  module _ (u : Standing) (after : List Meaning) (vs : List ℤ) (fills : length vs ≡ total (spec_of f.net c.block).outs)
      (gives : given f i banks t c.block c.mask ≡ Ok vs) (same : u ≡ record (valued f t c.block c.mask vs) { room = u.room }) (call : after ≡ called f banks c.block) where
    values_here : values_at f.net u.values c.block ≡ vs
    values_here = ap (λ (x : Standing). values_at f.net x.values c.block) same ∙ outputs_law.written f.net t.values vs c.block store.values block fills

    mark_now : mark_at u.marks c.block ≡ mark_of f t c.block c.mask
    mark_now = ap (λ (x : Standing). mark_at x.marks c.block) same ∙ mark_here t.marks c.block (mark_of f t c.block c.mask) block.least
        (let a = block.most in let b = store.marks in omega (arith, a, b))

    others_now : (b : ℕ) → IsBlock f.net b → c.block ≢ b → (values_at f.net u.values b ≡ values_at f.net t.values b) × (mark_at u.marks b ≡ mark_at t.marks b)
    others_now b inside ne = (
      ap (λ (x : Standing). values_at f.net x.values b) same ∙ outputs_law.kept f.net t.values vs c.block b store.values block inside ne fills,
      ap (λ (x : Standing). mark_at x.marks b) same ∙ mark_other t.marks c.block b (mark_of f t c.block c.mask) block.least (λ e. ne (sym e)),
    )

    has_now : HasValues f i old s u c
    has_now = record {
      values = given_now ∙ (gives ∙ ap Ok (sym values_here));
      marked = record { active = ap (λ (x : Mark). x.active) mark_now; mask = ap (λ (x : Mark). x.mask) mark_now };
      branch = λ sync. ap (λ (x : Mark). x.branch) mark_now ∙ sym branch_now;
    }

    pub done_more : AreDoneTo f i calls (k + 1) s u old after
    done_more = record {
      within = omega (arith, less);
      has = subst (All (HasValues f i old s u)) (sym next_front) (λ j d l.
          let xs = take k calls ++ c ∷ [] in
          let x = get_or xs j d in
          ⊎_elim
          (λ old'. keep u others_now x old' (let y = old'.1 in subst (HasValues f i old s t) old'.2 (inv.has old'.0 x y)))
          (λ new. let n = new.1 in
          let zero' : new.0 ≡ 0 = omega (arith, n) in
          subst (HasValues f i old s u) (subst (λ z. get_or (c ∷ []) z x ≡ x) zero' new.2) has_now)
          (Contains-append_cases (take k calls) (c ∷ []) x (j, l, get_or_default xs j x d l)));
      others = λ b inside out.
          let old' = inv.others b inside (λ h. out (in_next_old b h)) in
          let now = others_now b inside (λ e. out (subst (Contains (blocks_to calls (k + 1))) e in_next_new)) in
          (now.0 ∙ old'.0, now.1 ∙ old'.1);
      states = states_now after call;
      counted_to = counted_now after call;
      uncounted_to = uncounted_now after call;
      kept = (ap (λ (x : Standing). x.cursors) same ∙ inv.kept.0, ap (λ (x : Standing). x.lines) same ∙ inv.kept.1, ap (λ (x : Standing). x.sum) same ∙ inv.kept.2);
      chosen = ap (λ (x : Standing). x.chosen) same ∙ inv.chosen;
    }

  -- ---- it has none

  module _ (u : Standing) (after : List Meaning) (word : StopWord) (gives : given f i banks t c.block c.mask ≡ Err word) (stopped : IsStopped f banks after t u c.block) where
    valued_before : (cs : List Call) (j : ℕ) → All (HasValues f i old s u) (take j cs) → All (λ (d : Call). IsMarked s.marks d → IsMarked u.marks d) (drop j cs)
        → j < length cs → get_or cs j c ≡ c → AreValued f i old s u cs (Some (c.block, word))
    valued_before [] j h left l e = absurd (omega (arith, l))
    valued_before (x ∷ xs) zero h left l e = inr (
      record { word = word; is = ap (λ (y : Call). Some (y.block, word)) (sym e); gives = subst (λ (y : Call). given f i old s y.block y.mask ≡ Err word) (sym e) (given_now ∙ gives) },
      left,
    )
    valued_before (x ∷ xs) (suc j) h left l e =
        inl (h 0 x (omega arith), valued_before xs j (λ n d m. h (suc n) d (omega (arith, m))) left (omega (arith, l)) e)

    others_stopped : (b : ℕ) → IsBlock f.net b → c.block ≢ b → (values_at f.net u.values b ≡ values_at f.net t.values b) × (mark_at u.marks b ≡ mark_at t.marks b)
    others_stopped b inside ne = (stopped.others b inside (λ e. ne (sym e)), ap (λ ms. mark_at ms b) stopped.marks)

    has_before : All (HasValues f i old s u) (take k calls)
    has_before j d l = let x = get_or (take k calls) j d in keep u others_stopped x (j, l, get_or_default (take k calls) j x d l) (inv.has j d l)

    -- the mark of a call that is left is as at the beginning
    left_marks : All (λ (d : Call). IsMarked s.marks d → IsMarked u.marks d) (drop k calls)
    left_marks n d m old' =
        let x = get_or (drop k calls) n d in
        let long = length-drop k calls in
        let inside : k + n < length calls = omega (arith, m, long, less) in
        let is : x ≡ get_or calls (k + n) d = get_or-drop k calls n d in
        let x_net = in_net (k + n) d inside in
        let out : Contains (blocks_to calls k) x.block → ⊥ = λ h.
        let y = map_contains (λ (z : Call). z.block) (take k calls) x.block h in
        let front = length-take-le k calls (omega (arith, less)) in
        let yl = y.1.1 in
        let before : y.1.0 < k = omega (arith, yl, front) in
        apart.once y.1.0 (k + n) d (omega (arith, before)) inside
        (ap (λ (z : Call). z.block) (sym (get_or-take k calls y.1.0 d before) ∙ (get_or_default (take k calls) y.1.0 d y.0 yl ∙ y.1.2)) ∙ (y.2 ∙ ap (λ (z : Call). z.block) is)) in
        let same = ap (λ ms. mark_at ms x.block) stopped.marks
        ∙ (inv.others x.block (subst (λ (z : Call). IsBlock f.net z.block) (sym is) x_net.block) out).1 in
        record { active = ap (λ (z : Mark). z.active) same ∙ old'.active; mask = ap (λ (z : Mark). z.mask) same ∙ old'.mask }

    stop_valued : AreValued f i old s u calls (Some (c.block, word))
    stop_valued = valued_before calls k has_before left_marks less (sym read)

    stop_others : (b : ℕ) → IsBlock f.net b → (Contains (map (λ (x : Call). x.block) calls) b → ⊥)
        → (values_at f.net u.values b ≡ values_at f.net s.values b) × (mark_at u.marks b ≡ mark_at s.marks b)
    stop_others b inside out =
        let ne : c.block ≢ b = λ e. out (subst (Contains (map (λ (x : Call). x.block) calls)) e (contains_map (λ (x : Call). x.block) calls c there)) in
        let now = others_stopped b inside ne in
        let before = inv.others b inside (λ h.
        let d = map_contains (λ (x : Call). x.block) (take k calls) b h in
        out (subst (Contains (map (λ (x : Call). x.block) calls)) d.2 (contains_map (λ (x : Call). x.block) calls d.0 (front_in calls k d.0 d.1)))) in
        (now.0 ∙ before.0, now.1 ∙ before.1)

    stop_kept : (u.cursors ≡ s.cursors) × (u.lines ≡ s.lines) × (u.sum ≡ s.sum)
    stop_kept = (stopped.cursors ∙ inv.kept.0, stopped.lines ∙ inv.kept.1, stopped.sum ∙ inv.kept.2)

    pub done_stopped : (kind : Kind) → AreOfKind f kind calls → IsRunDone f i kind calls s u old after (Some (c.block, word))
    done_stopped kind of = ⊎_elim
        (λ same. record {
          valued = stop_valued;
          others = stop_others;
          states = λ b inside. ap (λ bs. state_of f bs b) same ∙ inv.states b inside;
          called = k;
          within = omega (arith, less);
          whole = λ none. cc;
          counted = λ small. ap (λ bs. (bank_of bs kind).outs) same ∙ inv.counted_to kind of small;
          uncounted = λ l ne. ap (λ bs. (bank_of bs l).outs) same ∙ inv.uncounted_to kind of l ne;
          kept = stop_kept;
        })
        (λ call. record {
          valued = stop_valued;
          others = stop_others;
          states = states_now after call;
          called = k + 1;
          within = omega (arith, less);
          whole = λ none. cc;
          counted = counted_now after call kind of;
          uncounted = uncounted_now after call kind of;
          kept = stop_kept;
        })
        stopped.calls

-- ---- all are done

valued_all : (f : Fixed) (i : Columns) (old : List Meaning) (s t : Standing) (cs : List Call) → All (HasValues f i old s t) cs → AreValued f i old s t cs None
valued_all f i old s t [] h = refl
valued_all f i old s t (c ∷ cs) h = inl (h 0 c (omega arith), valued_all f i old s t cs (λ k d l. h (suc k) d (omega (arith, l))))

pub done_all : (f : Fixed) (i : Columns) (calls : List Call) (k : ℕ) (s t : Standing) (old banks : List Meaning) → AreDoneTo f i calls k s t old banks → length calls ≤ k
    → (kind : Kind) → AreOfKind f kind calls → IsRunDone f i kind calls s t old banks None
done_all f i calls k s t old banks h all kind of =
    let within = h.within in
    let same : k ≡ length calls = omega (arith, within, all) in
    let front = take_all k calls all in
    record {
      valued = valued_all f i old s t calls (subst (All (HasValues f i old s t)) front h.has);
      others = λ b inside out. h.others b inside (λ x. out (subst (λ cs. Contains (map (λ (c : Call). c.block) cs) b) front x));
      states = h.states;
      called = k;
      within = within;
      whole = λ none. same;
      counted = h.counted_to kind of;
      uncounted = h.uncounted_to kind of;
      kept = h.kept;
    }

-- ---- by what the evaluation of a call tells

-- it has values: they are as many as its outputs have elements
pub done_valued : (f : Fixed) (frame : IsFrame f) (i : Columns) (calls : List Call) (in_net : All (IsCallIn f) calls) (apart : AreApart f calls) (k : ℕ) (s t : Standing) (old banks : List Meaning)
    (inv : AreDoneTo f i calls k s t old banks) (c : Call) (less : k < length calls) (read : c ≡ get_or calls k c) (store : IsStore f t) (seated : AreSeated f banks)
    (u : Standing) (after : List Meaning) → IsEvaluated f banks after t u c.block c.mask (given f i banks t c.block c.mask) None → AreDoneTo f i calls (k + 1) s u old after
done_valued f frame i calls in_net apart k s t old banks inv c less read store seated u after told = by_given (given f i banks t c.block c.mask) refl told
  where
    by_given : (r : Result (List ℤ) StopWord) → given f i banks t c.block c.mask ≡ r → IsEvaluated f banks after t u c.block c.mask r None → AreDoneTo f i calls (k + 1) s u old after
    by_given (Ok vs) gives h =
        done_more f frame i calls in_net apart k s t old banks inv c less read store seated u after vs (given_long f i banks t c.block c.mask vs gives) gives h.0 h.1
    by_given (Err word) gives h = absurd h

-- or none
pub done_stuck : (f : Fixed) (frame : IsFrame f) (i : Columns) (calls : List Call) (in_net : All (IsCallIn f) calls) (apart : AreApart f calls) (k : ℕ) (s t : Standing) (old banks : List Meaning)
    (inv : AreDoneTo f i calls k s t old banks) (c : Call) (less : k < length calls) (read : c ≡ get_or calls k c) (store : IsStore f t) (seated : AreSeated f banks)
    (u : Standing) (after : List Meaning) (word : StopWord) → IsEvaluated f banks after t u c.block c.mask (given f i banks t c.block c.mask) (Some word)
    → (kind : Kind) → AreOfKind f kind calls → IsRunDone f i kind calls s u old after (Some (c.block, word))
done_stuck f frame i calls in_net apart k s t old banks inv c less read store seated u after word told kind of = by_given (given f i banks t c.block c.mask) refl told
  where
    by_given : (r : Result (List ℤ) StopWord) → given f i banks t c.block c.mask ≡ r → IsEvaluated f banks after t u c.block c.mask r (Some word)
        → IsRunDone f i kind calls s u old after (Some (c.block, word))
    by_given (Ok vs) gives h = absurd h
    by_given (Err other) gives h =
        done_stopped f frame i calls in_net apart k s t old banks inv c less read store seated u after word (gives ∙ ap (λ x. Err x) (sym h.0)) h.1 kind of
