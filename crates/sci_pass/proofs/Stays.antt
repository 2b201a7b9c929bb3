-- The values of a block change nothing of what stands before it in a row.
use Rattle.std.proofs.Common.{◌≡◌, ℕ, ◌+◌, true, ◌⊎◌, inl, ⊎_elim, ◌↔◌, ℤ, List, [], ◌∷◌, ◌++◌, append_assoc, Contains, refl, sym, ap, subst, ◌∙◌, true≢false}
use Rattle.std.proofs.lemmas.Bool.{cases_eq}
use Rattle.std.proofs.lemmas.List.{map-append}
use Rattle.sci_loop.specs.Grounded.{Grounded, grounded}
use Rattle.sci_net.specs.declared.Source.{Source}
use Rattle.sci_net.specs.Parts.{Parts, spec_of, wire_of}
use Rattle.sci_net.specs.Net.{IsNet}
use Rattle.sci_reaction.specs.Links.{SuppliesThrough}
use Rattle.sci_reaction.specs.Active.{Possible, IsSync}
use Rattle.sci_reaction.specs.Depends.{Depends, IsLoopFree}
use Rattle.sci_reaction.specs.Memory.{Memory, Columns, first_memory}
use Rattle.sci_reaction.specs.Equations.{Signals, input_in, output_among, branch_on, Active, IsMaskOf}
use Rattle.sci_reaction.specs.Schedule.{Entry, blocks_of, IsRow}
use Rattle.sci_reaction.specs.Pass.{Progress, put, with_values, IsFront}
use Rattle.sci_pass.specs.Noted.{IsNoted}
use Rattle.sci_reaction.proofs.Lists.{Has, Has-left, Has-pushed, Has-split, Has-cases, put_same, put_other}
use Rattle.sci_reaction.proofs.Spreading.{possible, Spread-block}
use Rattle.sci_reaction.proofs.Agreement.{AgreeThrough, IsFair, Agrees, Settled, Settled-flip, active_there, activated_there}
use Rattle.sci_reaction.proofs.Fair.{fair}
use Rattle.sci_reaction.proofs.OneResult.{ground, need_precedes}
use Rattle.sci_reaction.proofs.Rows.{Sorted, once, stands_before, Contains-mid, Contains-has, has-Contains, row_plan, IsPlan}

-- ---- values that agree on what blocks need

module _ (n : Parts) (s : Source) (net : IsNet n) (free : IsLoopFree n s) where
  fair_here : IsFair n (first_memory n) []
  fair_here = fair n (first_memory n) [] net.typed_specs

  abbrev AreSettled : Signals → Signals → ℕ → Type 0
  AreSettled y z b = Settled n (first_memory n) [] s net.wired fair_here y z b

  -- a set of blocks with all that they depend on, and values that agree on it and on all that are not possible
  module _ (S : ℕ → Type 0) (closed : (c d : ℕ) → S c → Depends n s c d → S d) (y z : Signals) (same : (a : ℕ) → (Possible n s a → S a) → y a ≡ z a) where
    alike_inputs : (b : ℕ) → Possible n s b → ((d : ℕ) → Depends n s b d → S d) → AgreeThrough n b (input_in n y b) (input_in n z b)
    alike_inputs b may needs k within through =
        ap (λ v. output_among (spec_of n (wire_of n b k).block).outs v (wire_of n b k).port)
        (same (wire_of n b k).block
        (λ p. let supply : SuppliesThrough n (wire_of n b k).block b = record { input = k; within = within; from = refl; through = through } in
        needs (wire_of n b k).block (record { possible = may; on_possible = p; waits = inl supply })))

    alike : {c : ℕ} → Grounded (Depends n s) c → S c → Agrees n s y z c
    alike (grounded c below) h =
        let settled : AreSettled y z c = λ d dep. alike (below d dep) (closed c d h dep) in
        record {
          inputs = λ may. alike_inputs c may (λ d dep. closed c d h dep);
          there = active_there n (first_memory n) [] s net.wired fair_here y z c settled;
          back = active_there n (first_memory n) [] s net.wired fair_here z y c (Settled-flip n (first_memory n) [] s net.wired fair_here y z c settled);
          value = λ inside. same c (λ p. h);
        }

    module _ (b : ℕ) (may : Possible n s b) (needs : (d : ℕ) → Depends n s b d → S d) where
      settled_there : AreSettled y z b
      settled_there d dep = alike (ground n s free d (Spread-block n s _ dep.on_possible)) (needs d dep)

      settled_back : AreSettled z y b
      settled_back = Settled-flip n (first_memory n) [] s net.wired fair_here y z b settled_there

      pub same_branch : branch_on (spec_of n b) (input_in n z b) ≡ branch_on (spec_of n b) (input_in n y b)
      same_branch = sym (fair_here.branches b _ _ (Spread-block n s _ may) (alike_inputs b may needs))

      pub same_mask : (mask : ℕ) → IsMaskOf n s y b mask → IsMaskOf n s z b mask
      same_mask mask is p = (
        (λ h. activated_there n (first_memory n) [] s net.wired fair_here y z b (p + 1) may settled_there ((is p).0 h)),
        λ h. (is p).1 (activated_there n (first_memory n) [] s net.wired fair_here z y b (p + 1) may settled_back h),
      )

      pub same_activity : Active n s y b ↔ Active n s z b
      same_activity = (
        active_there n (first_memory n) [] s net.wired fair_here y z b settled_there,
        active_there n (first_memory n) [] s net.wired fair_here z y b settled_back,
      )

-- ---- a place in a row

module _ (n : Parts) (s : Source) (net : IsNet n) (free : IsLoopFree n s) (row : List Entry) (is : IsRow n s row) (pre post : List Entry) (e : Entry)
    (split : row ≡ pre ++ e ∷ post) where
  plan : IsPlan n s row
  plan = row_plan n s net.wired row is

  in_blocks : blocks_of row ≡ blocks_of pre ++ e.block ∷ blocks_of post
  in_blocks = ap blocks_of split ∙ map-append (λ (x : Entry). x.block) pre (e ∷ post)

  sorted_here : Sorted n s (blocks_of pre ++ e.block ∷ blocks_of post)
  sorted_here = subst (Sorted n s) in_blocks plan.sorted

  possible_in : (c : ℕ) → Has (blocks_of pre ++ e.block ∷ blocks_of post) c → Possible n s c
  possible_in c h = (plan.complete c).0 (subst (λ xs. Has xs c) (sym in_blocks) h)

  here_possible : Possible n s e.block
  here_possible =
      possible_in e.block (Contains-has (blocks_of pre ++ e.block ∷ blocks_of post) e.block (Contains-mid (blocks_of pre) (blocks_of post) e.block))

  before_possible : (c : ℕ) → Has (blocks_of pre) c → Possible n s c
  before_possible c h = possible_in c (Has-left (blocks_of pre) (e.block ∷ blocks_of post) c h)

  fresh_here : Has (blocks_of pre) e.block → ⊥
  fresh_here h = once n s free (blocks_of pre) (blocks_of post) e.block sorted_here h

  needs_before : (d : ℕ) → Depends n s e.block d → Has (blocks_of pre) d
  needs_before d dep =
      stands_before n s free (blocks_of pre) (blocks_of post) e.block d sorted_here (subst (λ xs. Has xs d) in_blocks ((plan.complete d).1 dep.on_possible))
      (need_precedes n s free e.block d dep)

  -- what stands before e is closed under what it depends on
  closed_before : (c d : ℕ) → Has (blocks_of pre) c → Depends n s c d → Has (blocks_of pre) d
  closed_before c d h dep =
      let k = Has-split (blocks_of pre) c h in
      let whole : blocks_of row ≡ k.0 ++ c ∷ (k.1 ++ e.block ∷ blocks_of post) =
      in_blocks ∙ (ap (λ xs. xs ++ e.block ∷ blocks_of post) k.2 ∙ append_assoc k.0 (c ∷ k.1) (e.block ∷ blocks_of post)) in
      let found : Has k.0 d =
      stands_before n s free k.0 (k.1 ++ e.block ∷ blocks_of post) c d (subst (Sorted n s) whole plan.sorted)
      (subst (λ xs. Has xs d) whole ((plan.complete d).1 dep.on_possible)) (need_precedes n s free c d dep) in
      subst (λ xs. Has xs d) (sym k.2) (Has-left k.0 (c ∷ k.1) d found)

  -- the values of all blocks but e's stay
  unchanged : (y : Signals) (vs : List ℤ) (a : ℕ) → (Possible n s a → Has (blocks_of pre) a) → y a ≡ put y e.block vs a
  unchanged y vs a within =
      sym (put_other y e.block vs a (λ same. fresh_here (subst (Has (blocks_of pre)) same (within (subst (Possible n s) (sym same) here_possible)))))

  module _ (c : ℕ) (among : Contains (blocks_of pre ++ e.block ∷ []) c) where
    old_or_here : Has (blocks_of pre) c ⊎ (c ≡ e.block)
    old_or_here = Has-pushed (blocks_of pre) e.block c (Contains-has (blocks_of pre ++ e.block ∷ []) c among)

    may : Possible n s c
    may = ⊎_elim (before_possible c) (λ same. subst (Possible n s) (sym same) here_possible) old_or_here

    needs : (d : ℕ) → Depends n s c d → Has (blocks_of pre) d
    needs d dep = ⊎_elim (λ old. closed_before c d old dep) (λ same. needs_before d (subst (λ v. Depends n s v d) same dep)) old_or_here

    module _ (y : Signals) (vs : List ℤ) where
      pub branch_stays : branch_on (spec_of n c) (input_in n (put y e.block vs) c) ≡ branch_on (spec_of n c) (input_in n y c)
      branch_stays = same_branch n s net free (Has (blocks_of pre)) closed_before y (put y e.block vs) (unchanged y vs) c may needs

      pub mask_stays : (mask : ℕ) → IsMaskOf n s y c mask → IsMaskOf n s (put y e.block vs) c mask
      mask_stays = same_mask n s net free (Has (blocks_of pre)) closed_before y (put y e.block vs) (unchanged y vs) c may needs

      pub activity_stays : Active n s y c ↔ Active n s (put y e.block vs) c
      activity_stays = same_activity n s net free (Has (blocks_of pre)) closed_before y (put y e.block vs) (unchanged y vs) c may needs

-- ---- what applies

pub applied_is_done : (n : Parts) (m : Memory) (i : Columns) (s : Source) (done : List ℕ) (w : Progress) (c : ℕ)
    → IsFront n m i s done w → w.applied c ≡ true → Contains done c
applied_is_done n m i s done w c front on =
    ⊎_elim (λ inside. has-Contains done c inside)
    (λ outside. absurd (true≢false (sym on ∙ (front.rests c (λ h. outside (Contains-has done c h))).0)))
    (Has-cases done c)

pub applied_are_active : (n : Parts) (m : Memory) (i : Columns) (s : Source) (row : List Entry) (w : Progress) (b : ℕ)
    → IsRow n s row → IsFront n m i s (blocks_of row) w → (w.applied b ≡ true) ↔ Active n s w.values b
applied_are_active n m i s row w b is front = (
  (λ on. (front.tells b (applied_is_done n m i s (blocks_of row) w b front on)).0 on),
  λ active. (front.tells b ((is.exactly b).1 (possible n s _ active))).1 active,
)

module _ (n : Parts) (m : Memory) (i : Columns) (s : Source) (net : IsNet n) (free : IsLoopFree n s) (row : List Entry) (is : IsRow n s row)
    (pre post : List Entry) (e : Entry) (split : row ≡ pre ++ e ∷ post) (w : Progress) (front : IsFront n m i s (blocks_of pre) w) (vs : List ℤ) where
  -- a block whose entry applied before e is another, and done
  applied_before : (b : ℕ) → (b ≡ e.block → ⊥) → put w.applied e.block true b ≡ true → (w.applied b ≡ true) × Contains (blocks_of pre ++ e.block ∷ []) b
  applied_before b other on =
      let old = sym (put_other w.applied e.block true b other) ∙ on in
      let done = Contains-has (blocks_of pre) b (applied_is_done n m i s (blocks_of pre) w b front old) in
      (old, has-Contains (blocks_of pre ++ e.block ∷ []) b (Has-left (blocks_of pre) (e.block ∷ []) b done))

  here_among : Contains (blocks_of pre ++ e.block ∷ []) e.block
  here_among = Contains-mid (blocks_of pre) [] e.block

  module _ (branch mask : ℕ → ℕ) (taken here : ℕ) (noted : IsNoted n s w branch mask) where
    branch_here : IsSync n e.block → branch_on (spec_of n e.block) (input_in n w.values e.block) ≡ taken →
        branch_on (spec_of n e.block) (input_in n (put w.values e.block vs) e.block) ≡ put branch e.block taken e.block
    branch_here sync takes =
        branch_stays n s net free row is pre post e split e.block here_among w.values vs ∙ takes ∙ sym (put_same branch e.block taken e.block refl)

    pub notes_go_on : (IsSync n e.block → branch_on (spec_of n e.block) (input_in n w.values e.block) ≡ taken) → IsMaskOf n s w.values e.block here →
        IsNoted n s (with_values w e.block vs) (put branch e.block taken) (put mask e.block here)
    notes_go_on takes mask_is = record {
      branches = λ b on sync. ⊎_elim
          (λ same. subst
          (λ v. branch_on (spec_of n v) (input_in n (put w.values e.block vs) v) ≡ put branch e.block taken v)
          (sym same) (branch_here (subst (IsSync n) same sync) (takes (subst (IsSync n) same sync))))
          (λ other. let old = applied_before b other on in
          branch_stays n s net free row is pre post e split b old.1 w.values vs ∙ noted.branches b old.0 sync ∙ sym (put_other branch e.block taken b other))
          (cases_eq b e.block);
      masks = λ b on. ⊎_elim
          (λ same. subst (λ v. IsMaskOf n s (put w.values e.block vs) v (put mask e.block here v)) (sym same)
          (subst (IsMaskOf n s (put w.values e.block vs) e.block) (sym (put_same mask e.block here e.block refl))
          (mask_stays n s net free row is pre post e split e.block here_among w.values vs here mask_is)))
          (λ other. let old = applied_before b other on in
          subst (IsMaskOf n s (put w.values e.block vs) b) (sym (put_other mask e.block here b other))
          (mask_stays n s net free row is pre post e split b old.1 w.values vs (mask b) (noted.masks b old.0)))
          (cases_eq b e.block);
    }
