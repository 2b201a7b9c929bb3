-- What a pass over a row answers is the result.
use Rattle.std.proofs.Common.{◌≡◌, ℕ, ◌+◌, Bool, true, false, ◌&&◌, cond, ◌⊎◌, ◌↔◌, inl, inr, ⊎_elim, ℤ, List, [], ◌∷◌, ◌++◌, append_assoc, append-nil, Contains, Result, Ok, Err, eqb, refl, sym, ap, subst, ◌∙◌, arith, true≢false}
use Rattle.std.proofs.lemmas.Bool.{cases_eq, or_cases, eqb-true, eq-eqb}
use Rattle.std.proofs.lemmas.List.{map-append}
use Rattle.std.specs.Int.{bit_at}
use Rattle.std.specs.Int.Bits.{bit_or}
use Rattle.std.specs.List.{list_any}
use Rattle.sci_base.specs.declared.observation.StopWord.{StopWord}
use Rattle.sci_loop.specs.Grounded.{Grounded, grounded}
use Rattle.sci_net.specs.declared.Feed.{Feed}
use Rattle.sci_net.specs.declared.Source.{Source}
use Rattle.sci_net.specs.declared.Source.TheVariants.{Start, Port}
use Rattle.sci_net.specs.Parts.{Parts, IsBlock, IsWired, IsActivationInput, spec_of, wire_of, feeds_of}
use Rattle.sci_reaction.specs.Links.{Feeds, SourceFeeds}
use Rattle.sci_reaction.specs.Active.{Possible, IsSync, seeded, Reaches}
use Rattle.sci_reaction.specs.Depends.{Depends, IsLoopFree, Precedes}
use Rattle.sci_reaction.specs.Memory.{Memory, Columns}
use Rattle.sci_reaction.specs.Equations.{Signals, input_in, output_among, branch_on, answer, Takes, Active, IsActivated, IsMaskOf, Gives, Meets}
use Rattle.sci_reaction.specs.Result.{Reaction, Stopped, IsResult}
use Rattle.sci_reaction.specs.Schedule.{Guard, Entry, blocks_of, branch_of}
use Rattle.sci_reaction.specs.Pass.{Progress, put, is_taken, applies, with_guards, mask_in, with_answer, step, pass, at_rest}
use Rattle.sci_reaction.proofs.Lists.{Has, and_both, and_true, or_left, or_right, any_to, any_from, Has-left, Has-push, Has-pushed, Has-split, Has-cases, Contains-cons, cons-Contains, put_same, put_other}
use Rattle.sci_reaction.proofs.Bits.{bit_or-at}
use Rattle.sci_reaction.proofs.Spreading.{possible, why, from_always, from_guard, Spread-block}
use Rattle.sci_reaction.proofs.Agreement.{AgreeThrough, IsFair, Agrees, Settled, Settled-flip, active_there, activated_there}
use Rattle.sci_reaction.proofs.OneResult.{ground, need_precedes}
use Rattle.sci_reaction.proofs.Rows.{Sorted, once, stands_before, Contains-mid, Contains-has, IsFit, IsPlan, feeds_within}

-- ---- the mask of a pass

module _ (n : Parts) (w : Progress) where
  abbrev pub Among : List Guard → ℕ → Type 0
  Among gs p = (g : Guard) × Contains gs g × (is_taken n w g ≡ true) × (bit_at g.mask p ≡ 1)

  one_guard : (g : Guard) (mask p : ℕ) (t : Bool) → is_taken n w g ≡ t →
      (bit_at (cond t (bit_or mask g.mask) mask) p ≡ 1) ↔ ((bit_at mask p ≡ 1) ⊎ ((is_taken n w g ≡ true) × (bit_at g.mask p ≡ 1)))
  one_guard g mask p true e = (
    (λ h. ⊎_elim (λ l. inl l) (λ r. inr (e, r)) ((bit_or-at mask g.mask p).0 h)),
    λ h. (bit_or-at mask g.mask p).1 (⊎_elim (λ l. inl l) (λ r. inr r.1) h),
  )
  one_guard g mask p false e = ((λ h. inl h), λ h. ⊎_elim (λ l. l) (λ r. absurd (true≢false (sym r.0 ∙ e))) h)

  -- the mask has the bits of the entry's own, and of the guards that are taken
  pub with_guards-at : (gs : List Guard) (mask p : ℕ) → (bit_at (with_guards n w mask gs) p ≡ 1) ↔ ((bit_at mask p ≡ 1) ⊎ Among gs p)
  with_guards-at [] mask p = ((λ h. inl h), λ h. ⊎_elim (λ l. l) (λ r. absurd (omega (arith, r.1.1))) h)
  with_guards-at (g ∷ gs) mask p =
      let rest = with_guards-at gs (cond (is_taken n w g) (bit_or mask g.mask) mask) p in
      let one = one_guard g mask p (is_taken n w g) refl in (
        (λ h. ⊎_elim
            (λ l. ⊎_elim (λ old. inl old) (λ new. inr (g, (0, omega arith, refl), new.0, new.1)) (one.0 l))
            (λ r. inr (r.0, cons-Contains g gs r.0 r.1, r.2, r.3))
            (rest.0 h)),
        λ h. rest.1 (⊎_elim
            (λ l. inl (one.1 (inl l)))
            (λ r. ⊎_elim
            (λ same. inl (one.1 (inr (subst (λ (v : Guard). is_taken n w v ≡ true) (sym same) r.2, subst (λ (v : Guard). bit_at v.mask p ≡ 1) (sym same) r.3))))
            (λ there. inr (r.0, there, r.2, r.3))
            (Contains-cons g gs r.0 r.1))
            h),
      )

-- ---- frames

module _ (n : Parts) (m : Memory) (i : Columns) (s : Source) (ok : IsWired n) (fair : IsFair n m i) (free : IsLoopFree n s) where
  -- Values that agree on a closed set of blocks, and on all that are not possible, are alike there.
  module _ (S : ℕ → Type 0) (closed : (c d : ℕ) → S c → Depends n s c d → S d) (y z : Signals)
      (same : (a : ℕ) → (Possible n s a → S a) → y a ≡ z a) where
    alike_inputs : (b : ℕ) → Possible n s b → ((d : ℕ) → Depends n s b d → S d) → AgreeThrough n b (input_in n y b) (input_in n z b)
    alike_inputs b may needs k within through =
        ap (λ v. output_among (spec_of n (wire_of n b k).block).outs v (wire_of n b k).port)
        (same (wire_of n b k).block
        (λ p. needs (wire_of n b k).block (record { possible = may; on_possible = p; waits = inl (record { input = k; within = within; from = refl; through = through }) })))

    alike : {c : ℕ} → Grounded (Depends n s) c → S c → Agrees n s y z c
    alike (grounded c below) h =
        let settled : Settled n m i s ok fair y z c = λ d dep. alike (below d dep) (closed c d h dep) in
        record {
          inputs = λ may. alike_inputs c may (λ d dep. closed c d h dep);
          there = active_there n m i s ok fair y z c settled;
          back = active_there n m i s ok fair z y c (Settled-flip n m i s ok fair y z c settled);
          value = λ inside. same c (λ p. h);
        }

    alike_settled : (b : ℕ) → ((d : ℕ) → Depends n s b d → S d) → Settled n m i s ok fair y z b
    alike_settled b needs d dep = alike (ground n s free d (Spread-block n s _ dep.on_possible)) (needs d dep)

    alike_answer : (b mask : ℕ) → Possible n s b → ((d : ℕ) → Depends n s b d → S d) → answer n m i b mask (input_in n y b) ≡ answer n m i b mask (input_in n z b)
    alike_answer b mask may needs = fair.answers b mask _ _ (Spread-block n s _ may) (alike_inputs b may needs)

    alike_mask : (b mask : ℕ) → Possible n s b → ((d : ℕ) → Depends n s b d → S d) → IsMaskOf n s y b mask → IsMaskOf n s z b mask
    alike_mask b mask may needs is p =
        let settled = alike_settled b needs in (
          (λ h. activated_there n m i s ok fair y z b (p + 1) may settled ((is p).0 h)),
          λ h. (is p).1 (activated_there n m i s ok fair z y b (p + 1) may (Settled-flip n m i s ok fair y z b settled) h),
        )

    alike_meets : (c : ℕ) → IsBlock n c → (Possible n s c → S c) → Meets n m i s y c → Meets n m i s z c
    alike_meets c inside within meets =
        let known : Possible n s c → Agrees n s y z c = λ may. alike (ground n s free c inside) (within may) in
        ⊎_elim
        (λ on. let may = possible n s _ on.active in let needs : (d : ℕ) → Depends n s c d → S d = λ d dep. closed c d (within may) dep in
        inl (record {
          active = (known may).there on.active;
          mask = on.mask;
          mask_is = alike_mask c on.mask may needs on.mask_is;
          answer_is = sym (alike_answer c on.mask may needs) ∙ (on.answer_is ∙ ap Ok (same c within));
        }))
        (λ off. inr (record { idle = λ h. off.idle ((known (possible n s _ h)).back h); held = sym (same c within) ∙ off.held }))
        meets

  module _ (row : List Entry) (plan : IsPlan n s row) where
    -- the blocks before this place have their values, and the others are at rest
    pub record Front (pre : List ℕ) (w : Progress) : Type 0 where
      pub meets : (c : ℕ) → IsBlock n c → (Possible n s c → Has pre c) → Meets n m i s w.values c
      pub tells : (c : ℕ) → Has pre c → (w.applied c ≡ true) ↔ Active n s w.values c
      pub later : (c : ℕ) → (Has pre c → ⊥) → (w.applied c ≡ false) × (w.values c ≡ m.held c)

    pub front_start : Front [] (at_rest m)
    front_start = record {
      meets = λ c inside h. inr (record { idle = λ a. true≢false (sym (h (possible n s _ a))); held = refl });
      tells = λ c h. absurd (true≢false (sym h));
      later = λ c h. (refl, refl);
    }

    module _ (pre post : List Entry) (e : Entry) (split : row ≡ pre ++ e ∷ post) (w : Progress) (front : Front (blocks_of pre) w) where
      in_blocks : blocks_of row ≡ blocks_of pre ++ e.block ∷ blocks_of post
      in_blocks = ap blocks_of split ∙ map-append (λ (x : Entry). x.block) pre (e ∷ post)

      sorted_here : Sorted n s (blocks_of pre ++ e.block ∷ blocks_of post)
      sorted_here = subst (Sorted n s) in_blocks plan.sorted

      fit : IsFit n s e
      fit = plan.entries e (subst (λ xs. Contains xs e) (sym split) (Contains-mid pre post e))

      here_possible : Possible n s e.block
      here_possible =
          (plan.complete e.block).0 (subst (λ xs. Has xs e.block) (sym in_blocks)
          (Contains-has (blocks_of pre ++ e.block ∷ blocks_of post) e.block (Contains-mid (blocks_of pre) (blocks_of post) e.block)))

      stands : (c : ℕ) → Possible n s c → Precedes n s c e.block → Has (blocks_of pre) c
      stands c may before =
          stands_before n s free (blocks_of pre) (blocks_of post) e.block c sorted_here (subst (λ xs. Has xs c) in_blocks ((plan.complete c).1 may)) before

      needs_before : (d : ℕ) → Depends n s e.block d → Has (blocks_of pre) d
      needs_before d dep = stands d dep.on_possible (need_precedes n s free e.block d dep)

      fresh_here : Has (blocks_of pre) e.block → ⊥
      fresh_here h = once n s free (blocks_of pre) (blocks_of post) e.block sorted_here h

      -- what stands before e is closed under what it depends on
      closed_before : (c d : ℕ) → Has (blocks_of pre) c → Depends n s c d → Has (blocks_of pre) d
      closed_before c d h dep =
          let k = Has-split (blocks_of pre) c h in
          let whole : blocks_of row ≡ k.0 ++ c ∷ (k.1 ++ e.block ∷ blocks_of post) =
          in_blocks ∙ (ap (λ xs. xs ++ e.block ∷ blocks_of post) k.2 ∙ append_assoc k.0 (c ∷ k.1) (e.block ∷ blocks_of post)) in
          let found : Has k.0 d =
          stands_before n s free k.0 (k.1 ++ e.block ∷ blocks_of post) c d (subst (Sorted n s) whole plan.sorted)
          (subst (λ xs. Has xs d) whole ((plan.complete d).1 dep.on_possible)) (need_precedes n s free c d dep) in
          subst (λ xs. Has xs d) (sym k.2) (Has-left k.0 (c ∷ k.1) d found)

      -- a guard is taken by an active block's choice
      taken_to : (g : Guard) → is_taken n w g ≡ true → Active n s w.values g.block × Takes n w.values g.block g.port
      taken_to g h =
          let x = and_both (w.applied g.block) (eqb (branch_on (spec_of n g.block) (input_in n w.values g.block)) g.port) h in
          let known : Has (blocks_of pre) g.block =
          ⊎_elim (λ inside. inside) (λ outside. absurd (true≢false (sym x.0 ∙ (front.later g.block outside).0))) (Has-cases (blocks_of pre) g.block) in
          ((front.tells g.block known).0 x.0, eqb-true _ _ x.1)

      abbrev is_taken_branch : Feed → Bool
      is_taken_branch q = w.applied q.block && eqb (branch_on (spec_of n q.block) (input_in n w.values q.block)) q.port

      taken_from : (q : Feed) → Reaches n q e.block → IsSync n q.block → Active n s w.values q.block → Takes n w.values q.block q.port → is_taken_branch q ≡ true
      taken_from q reach sync active takes =
          let known = needs_before q.block
          (record { possible = here_possible; on_possible = possible n s _ active; waits = inr (record { sync = sync; branch = q.port; reaches = reach }) }) in
          and_true (w.applied q.block) (eqb (branch_on (spec_of n q.block) (input_in n w.values q.block)) q.port) ((front.tells q.block known).1 active) (eq-eqb _ _ takes)

      pub applies_to : applies n w e ≡ true → Active n s w.values e.block
      applies_to h =
          ⊎_elim (λ on. from_always n s _ (fit.always_is.0 on))
          (λ on. let q = any_to (is_taken n w) e.guards on in let g = fit.are_guards q.0 q.1 in
          let t = taken_to q.0 q.2 in from_guard n s _ q.0.block q.0.port t.0 g.sync t.1 g.reaches)
          (or_cases e.always (list_any (is_taken n w) e.guards) h)

      pub applies_from : Active n s w.values e.block → applies n w e ≡ true
      applies_from active =
          ⊎_elim (λ on. or_left e.always (list_any (is_taken n w) e.guards) (fit.always_is.1 on))
          (λ g. let q : Feed = record { block = g.block; port = g.port } in
          let has = fit.has_guard q (possible n s _ g.spread) g.sync g.reaches in
          or_right e.always (list_any (is_taken n w) e.guards)
          (any_from (is_taken n w) e.guards has.0 has.1
          (subst (λ v. is_taken_branch v ≡ true) (sym has.2) (taken_from q g.reaches g.sync g.spread g.takes))))
          (why n s _ active)

      feeds_here : (p : ℕ) (q : Feed) → Contains (feeds_of n e.block p) q → Feeds n q e.block
      feeds_here p q has = record { input = p; within = feeds_within n ok e.block p q (Spread-block n s _ here_possible) has; fed = has }

      activated_to : (p : ℕ) → bit_at (mask_in n w e) p ≡ 1 → IsActivated n s w.values e.block (p + 1)
      activated_to p h =
          ⊎_elim
          (λ l. let fed = (fit.mask_is p).0 l in record { within = source_within s (p + 1) fed; how = inl fed })
          (λ r. let g = fit.are_guards r.0 r.1 in let t = taken_to r.0 r.2 in let fed = (g.feeds p).0 r.3 in
          record {
            within = feeds_within n ok e.block (p + 1) (branch_of r.0) (Spread-block n s _ here_possible) fed;
            how = inr (record { block = r.0.block; port = r.0.port; active = t.0; sync = g.sync; takes = t.1; fed = fed });
          })
          ((with_guards-at n w e.guards e.mask p).0 h)
        where
          source_within : (t : Source) (k : ℕ) → SourceFeeds n t e.block k → IsActivationInput n e.block k
          source_within Start k h' = absurd h'
          source_within (Port q) k h' = feeds_within n ok e.block k q (Spread-block n s _ here_possible) h'

      activated_from : (p : ℕ) → IsActivated n s w.values e.block (p + 1) → bit_at (mask_in n w e) p ≡ 1
      activated_from p h =
          (with_guards-at n w e.guards e.mask p).1
          (⊎_elim
          (λ fed. inl ((fit.mask_is p).1 fed))
          (λ f. let q : Feed = record { block = f.block; port = f.port } in
          let reach : Reaches n q e.block = seeded e.block (feeds_here (p + 1) q f.fed) in
          let has = fit.has_guard q (possible n s _ f.active) f.sync reach in
          inr (
            has.0,
            has.1,
            subst (λ v. is_taken_branch v ≡ true) (sym has.2) (taken_from q reach f.sync f.active f.takes),
            ((fit.are_guards has.0 has.1).feeds p).1 (subst (λ v. Contains (feeds_of n e.block (p + 1)) v) (sym has.2) f.fed),
          ))
          h.how)

      pub mask_is : IsMaskOf n s w.values e.block (mask_in n w e)
      mask_is p = (activated_to p, activated_from p)

      -- the block is active and has no value
      pub stops_here : (word : StopWord) → Active n s w.values e.block → answer n m i e.block (mask_in n w e) (input_in n w.values e.block) ≡ Err word →
          IsResult n m i s (Stopped e.block word)
      stops_here word active nothing = (
        w.values,
        (λ c inside within. front.meets c inside (λ may. stands c may (within may))),
        record { active = active; mask = mask_in n w e; mask_is = mask_is; answer_is = nothing },
      )

      abbrev front_next : Progress → Type 0
      front_next v = Front (blocks_of pre ++ e.block ∷ []) v

      -- the block isn't active
      pub front_kept : (Active n s w.values e.block → ⊥) → front_next w
      front_kept idle =
          record {
            meets = λ c inside within. ⊎_elim
                (λ same. subst (Meets n m i s w.values) (sym same) (inr (record { idle = idle; held = (front.later e.block fresh_here).1 })))
                (λ other. front.meets c inside (λ may. ⊎_elim (λ old. old) (λ new. absurd (other new)) (Has-pushed (blocks_of pre) e.block c (within may))))
                (cases_eq c e.block);
            tells = λ c h. ⊎_elim (front.tells c)
                (λ new. subst (λ v. (w.applied v ≡ true) ↔ Active n s w.values v) (sym new)
                ((λ on. absurd (true≢false (sym on ∙ (front.later e.block fresh_here).0))), λ on. absurd (idle on)))
                (Has-pushed (blocks_of pre) e.block c h);
            later = λ c h. front.later c (λ old. h (Has-left (blocks_of pre) (e.block ∷ []) c old));
          }

      -- the block is active and has a value
      module _ (vs : List ℤ) (active : Active n s w.values e.block) (gives : answer n m i e.block (mask_in n w e) (input_in n w.values e.block) ≡ Ok vs) where
        abbrev valued : Signals
        valued = put w.values e.block vs

        unchanged : (a : ℕ) → (Possible n s a → Has (blocks_of pre) a) → w.values a ≡ valued a
        unchanged a within =
            sym (put_other w.values e.block vs a (λ same. fresh_here (subst (Has (blocks_of pre)) same (within (subst (Possible n s) (sym same) here_possible)))))

        active_now : Active n s valued e.block
        active_now =
            active_there n m i s ok fair w.values valued e.block
            (alike_settled (Has (blocks_of pre)) closed_before w.values valued unchanged e.block needs_before) active

        gives_now : Gives n m i s valued e.block (Ok (valued e.block))
        gives_now = record {
          active = active_now;
          mask = mask_in n w e;
          mask_is = alike_mask (Has (blocks_of pre)) closed_before w.values valued unchanged e.block (mask_in n w e) here_possible needs_before mask_is;
          answer_is = sym (alike_answer (Has (blocks_of pre)) closed_before w.values valued unchanged e.block (mask_in n w e) here_possible needs_before)
              ∙ (gives ∙ ap Ok (sym (put_same w.values e.block vs e.block refl)));
        }

        apart : (c : ℕ) → Has (blocks_of pre) c → c ≡ e.block → ⊥
        apart c old same = fresh_here (subst (Has (blocks_of pre)) same old)

        possible_before : (c : ℕ) → Has (blocks_of pre) c → Possible n s c
        possible_before c old = (plan.complete c).0 (subst (λ xs. Has xs c) (sym in_blocks) (Has-left (blocks_of pre) (e.block ∷ blocks_of post) c old))

        meets_valued : (c : ℕ) → IsBlock n c → (Possible n s c → Has (blocks_of pre ++ e.block ∷ []) c) → Meets n m i s valued c
        meets_valued c inside within =
            ⊎_elim
            (λ same. subst (Meets n m i s valued) (sym same) (inl gives_now))
            (λ other. let old : Possible n s c → Has (blocks_of pre) c = λ may. ⊎_elim (λ h. h) (λ new. absurd (other new)) (Has-pushed (blocks_of pre) e.block c (within may)) in
            alike_meets (Has (blocks_of pre)) closed_before w.values valued unchanged c inside old (front.meets c inside old))
            (cases_eq c e.block)

        tells_valued : (c : ℕ) → Has (blocks_of pre ++ e.block ∷ []) c → (put w.applied e.block true c ≡ true) ↔ Active n s valued c
        tells_valued c h =
            ⊎_elim
            (λ old. let a = alike (Has (blocks_of pre)) closed_before w.values valued unchanged (ground n s free c (Spread-block n s _ (possible_before c old))) old in
            let flag = put_other w.applied e.block true c (apart c old) in
            ((λ on. a.there ((front.tells c old).0 (sym flag ∙ on))), λ on. flag ∙ (front.tells c old).1 (a.back on)))
            (λ new. subst (λ d. (put w.applied e.block true d ≡ true) ↔ Active n s valued d) (sym new)
            ((λ on. active_now), λ on. put_same w.applied e.block true e.block refl))
            (Has-pushed (blocks_of pre) e.block c h)

        pub front_valued : front_next (record { values = valued; applied = put w.applied e.block true })
        front_valued =
            record {
              meets = meets_valued;
              tells = tells_valued;
              later = λ c h.
                  let other : c ≡ e.block → ⊥ = λ same. h (subst (Has (blocks_of pre ++ e.block ∷ [])) (sym same) (Has-push (blocks_of pre) e.block)) in
                  let rest = front.later c (λ old. h (Has-left (blocks_of pre) (e.block ∷ []) c old)) in
                  (put_other w.applied e.block true c other ∙ rest.0, put_other w.values e.block vs c other ∙ rest.1);
            }

      -- one step of the pass
      module _ (more : Progress → Reaction) (rest : (v : Progress) → front_next v → IsResult n m i s (more v)) where
        answered : (o : Result (List ℤ) StopWord) → Active n s w.values e.block → answer n m i e.block (mask_in n w e) (input_in n w.values e.block) ≡ o →
            IsResult n m i s (with_answer e.block w o more)
        answered (Ok vs) active given = rest (record { values = put w.values e.block vs; applied = put w.applied e.block true }) (front_valued vs active given)
        answered (Err word) active given = stops_here word active given

        chosen : (t : Bool) → applies n w e ≡ t →
            IsResult n m i s (cond t (with_answer e.block w (answer n m i e.block (mask_in n w e) (input_in n w.values e.block)) more) (more w))
        chosen true on = answered (answer n m i e.block (mask_in n w e) (input_in n w.values e.block)) (applies_to on) refl
        chosen false off = rest w (front_kept (λ active. true≢false (sym (applies_from active) ∙ off)))

        steps : IsResult n m i s (step n m i w e more)
        steps = chosen (applies n w e) refl

    pass_from : (es pre : List Entry) (w : Progress) → row ≡ pre ++ es → Front (blocks_of pre) w → IsResult n m i s (pass n m i es w)
    pass_from [] pre w split front = λ b inside. front.meets b inside
        (λ may. subst (λ xs. Has (blocks_of xs) b) (split ∙ append-nil pre) ((plan.complete b).1 may))
    pass_from (e ∷ es) pre w split front =
        steps pre es e split w front (λ v. pass n m i es v)
        (λ v f. pass_from es (pre ++ e ∷ []) v (split ∙ sym (append_assoc pre (e ∷ []) es))
        (subst (λ xs. Front xs v) (sym (map-append (λ (x : Entry). x.block) pre (e ∷ []))) f))

    pub pass_is : IsResult n m i s (pass n m i row (at_rest m))
    pass_is = pass_from row [] (at_rest m) refl front_start
