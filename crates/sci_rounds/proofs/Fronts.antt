-- Which block may be done next, and what it comes to.
use Rattle.std.proofs.Common.{◌≡◌, ℕ, ◌+◌, Bool, true, false, ◌&&◌, ◌↔◌, inl, inr, ⊎_elim, ℤ, List, [], ◌∷◌, ◌++◌, Contains, Ok, Err, eqb, refl, sym, ap, subst, ◌∙◌, true≢false}
use Rattle.std.proofs.lemmas.Bool.{cases_eq, or_cases, eqb-true, eq-eqb}
use Rattle.std.specs.Int.{bit_at}
use Rattle.std.specs.List.{list_any}
use Rattle.sci_base.specs.declared.observation.StopWord.{StopWord}
use Rattle.sci_loop.specs.Grounded.{Grounded, grounded}
use Rattle.sci_net.specs.declared.Feed.{Feed}
use Rattle.sci_net.specs.declared.Source.{Source}
use Rattle.sci_net.specs.declared.Source.TheVariants.{Start, Port}
use Rattle.sci_net.specs.Parts.{Parts, IsBlock, IsWired, IsActivationInput, spec_of, wire_of, feeds_of}
use Rattle.sci_net.specs.Net.{IsNet}
use Rattle.sci_reaction.specs.Links.{Feeds, SourceFeeds}
use Rattle.sci_reaction.specs.Active.{Possible, IsSync, seeded, Reaches}
use Rattle.sci_reaction.specs.Depends.{Depends, IsLoopFree, Precedes}
use Rattle.sci_reaction.specs.Memory.{Memory, Columns}
use Rattle.sci_reaction.specs.Equations.{Signals, input_in, output_among, branch_on, answer, Takes, Active, IsActivated, IsMaskOf, Gives, Meets}
use Rattle.sci_reaction.specs.Result.{Whole, Stopped, IsResult}
use Rattle.sci_reaction.specs.Schedule.{Guard, Entry, branch_of}
use Rattle.sci_reaction.specs.Pass.{Progress, put, is_taken, applies, mask_in, with_values, IsFront}
use Rattle.sci_reaction.proofs.Lists.{Has, and_both, and_true, or_left, or_right, any_to, any_from, Has-left, Has-push, Has-pushed, Has-cases, put_same, put_other}
use Rattle.sci_reaction.proofs.Spreading.{possible, why, from_always, from_guard, Spread-block}
use Rattle.sci_reaction.proofs.Agreement.{AgreeThrough, IsFair, Agrees, Settled, Settled-flip, active_there, activated_there}
use Rattle.sci_reaction.proofs.Fair.{fair}
use Rattle.sci_reaction.proofs.OneResult.{ground}
use Rattle.sci_reaction.proofs.Rows.{Contains-has, has-Contains, feeds_within}
use Rattle.sci_reaction.proofs.PassMeets.{with_guards-at}
use Rattle.sci_pass.specs.Noted.{IsNoted}
use Rattle.sci_rounds.specs.Rounds.{IsClosed, IsReady, TellsActivation, IsNextDone, IsAlikeOn}

-- ---- frames

module _ (n : Parts) (m : Memory) (i : Columns) (s : Source) (ok : IsWired n) (fair : IsFair n m i) (free : IsLoopFree n s) where
  -- Values that agree on a closed set of blocks, and on all that are not possible, are alike there.
  module _ (S : ℕ → Type 0) (closed : (c d : ℕ) → S c → Depends n s c d → S d) (y z : Signals)
      (same : (a : ℕ) → IsBlock n a → (Possible n s a → S a) → y a ≡ z a) where
    alike_inputs : (b : ℕ) → Possible n s b → ((d : ℕ) → Depends n s b d → S d) → AgreeThrough n b (input_in n y b) (input_in n z b)
    alike_inputs b may needs k within through =
        ap (λ v. output_among (spec_of n (wire_of n b k).block).outs v (wire_of n b k).port)
        (same (wire_of n b k).block (ok.wires_lead b k within).block
        (λ p. needs (wire_of n b k).block (record { possible = may; on_possible = p; waits = inl (record { input = k; within = within; from = refl; through = through }) })))

    alike : {c : ℕ} → Grounded (Depends n s) c → S c → Agrees n s y z c
    alike (grounded c below) h =
        let settled : Settled n m i s ok fair y z c = λ d dep. alike (below d dep) (closed c d h dep) in
        record {
          inputs = λ may. alike_inputs c may (λ d dep. closed c d h dep);
          there = active_there n m i s ok fair y z c settled;
          back = active_there n m i s ok fair z y c (Settled-flip n m i s ok fair y z c settled);
          value = λ inside. same c inside (λ p. h);
        }

    alike_settled : (b : ℕ) → ((d : ℕ) → Depends n s b d → S d) → Settled n m i s ok fair y z b
    alike_settled b needs d dep = alike (ground n s free d (Spread-block n s _ dep.on_possible)) (needs d dep)

    alike_answer : (b mask : ℕ) → Possible n s b → ((d : ℕ) → Depends n s b d → S d) → answer n m i b mask (input_in n y b) ≡ answer n m i b mask (input_in n z b)
    alike_answer b mask may needs = fair.answers b mask _ _ (Spread-block n s _ may) (alike_inputs b may needs)

    alike_mask : (b mask : ℕ) → Possible n s b → ((d : ℕ) → Depends n s b d → S d) → IsMaskOf n s y b mask → IsMaskOf n s z b mask
    alike_mask b mask may needs is p =
        let settled = alike_settled b needs in (
          (λ h. activated_there n m i s ok fair y z b (p + 1) may settled ((is p).0 h)),
          λ h. (is p).1 (activated_there n m i s ok fair z y b (p + 1) may (Settled-flip n m i s ok fair y z b settled) h),
        )

    alike_meets : (c : ℕ) → IsBlock n c → (Possible n s c → S c) → Meets n m i s y c → Meets n m i s z c
    alike_meets c inside within meets =
        let known : Possible n s c → Agrees n s y z c = λ may. alike (ground n s free c inside) (within may) in
        ⊎_elim
        (λ on. let may = possible n s _ on.active in let needs : (d : ℕ) → Depends n s c d → S d = λ d dep. closed c d (within may) dep in
        inl (record {
          active = (known may).there on.active;
          mask = on.mask;
          mask_is = alike_mask c on.mask may needs on.mask_is;
          answer_is = sym (alike_answer c on.mask may needs) ∙ (on.answer_is ∙ ap Ok (same c inside within));
        }))
        (λ off. inr (record { idle = λ h. off.idle ((known (possible n s _ h)).back h); held = sym (same c inside within) ∙ off.held }))
        meets

  -- the blocks that are done have their values, and the others are at rest
  record Front (done : List ℕ) (w : Progress) : Type 0 where
    meets : (c : ℕ) → IsBlock n c → (Possible n s c → Has done c) → Meets n m i s w.values c
    tells : (c : ℕ) → Has done c → (w.applied c ≡ true) ↔ Active n s w.values c
    later : (c : ℕ) → (Has done c → ⊥) → (w.applied c ≡ false) × (w.values c ≡ m.held c)

  to_front : (done : List ℕ) (w : Progress) → IsFront n m i s done w → Front done w
  to_front done w f = record {
    meets = λ c inside within. f.meets c inside (λ may. has-Contains done c (within may));
    tells = λ c h. f.tells c (has-Contains done c h);
    later = λ c out. f.rests c (λ h. out (Contains-has done c h));
  }

  from_front : (done : List ℕ) (w : Progress) → Front done w → IsFront n m i s done w
  from_front done w f = record {
    meets = λ c inside within. f.meets c inside (λ may. Contains-has done c (within may));
    tells = λ c h. f.tells c (Contains-has done c h);
    rests = λ c out. f.later c (λ h. out (has-Contains done c h));
  }

  module _ (done : List ℕ) (w : Progress) (b : ℕ) (sound : (c : ℕ) → Has done c → Possible n s c) (closed_done : (c d : ℕ) → Has done c → Depends n s c d → Has done d)
      (front : Front done w) (here_possible : Possible n s b) (fresh_here : Has done b → ⊥) (needs_done : (d : ℕ) → Depends n s b d → Has done d) where
    -- a guard is taken by an active block's choice
    taken_to : (g : Guard) → is_taken n w g ≡ true → Active n s w.values g.block × Takes n w.values g.block g.port
    taken_to g h =
        let x = and_both (w.applied g.block) (eqb (branch_on (spec_of n g.block) (input_in n w.values g.block)) g.port) h in
        let known : Has done g.block =
        ⊎_elim (λ inside. inside) (λ outside. absurd (true≢false (sym x.0 ∙ (front.later g.block outside).0))) (Has-cases done g.block) in
        ((front.tells g.block known).0 x.0, eqb-true _ _ x.1)

    abbrev is_taken_branch : Feed → Bool
    is_taken_branch q = w.applied q.block && eqb (branch_on (spec_of n q.block) (input_in n w.values q.block)) q.port

    taken_from : (q : Feed) → Reaches n q b → IsSync n q.block → Active n s w.values q.block → Takes n w.values q.block q.port → is_taken_branch q ≡ true
    taken_from q reach sync active takes =
        let known = needs_done q.block
        (record { possible = here_possible; on_possible = possible n s _ active; waits = inr (record { sync = sync; branch = q.port; reaches = reach }) }) in
        and_true (w.applied q.block) (eqb (branch_on (spec_of n q.block) (input_in n w.values q.block)) q.port) ((front.tells q.block known).1 active) (eq-eqb _ _ takes)

    feeds_here : (p : ℕ) (q : Feed) → Contains (feeds_of n b p) q → Feeds n q b
    feeds_here p q has = record { input = p; within = feeds_within n ok b p q (Spread-block n s _ here_possible) has; fed = has }

    -- ---- what an entry tells

    module _ (e : Entry) (same : e.block ≡ b) (tells : TellsActivation n s e) where
      applies_to : applies n w e ≡ true → Active n s w.values b
      applies_to h =
          subst (Active n s w.values) same
          (⊎_elim (λ on. from_always n s _ (tells.always_is.0 on))
          (λ on. let q = any_to (is_taken n w) e.guards on in let g = tells.branches q.0 q.1 in
          let t = taken_to q.0 q.2 in from_guard n s _ q.0.block q.0.port t.0 g.sync t.1 g.reaches)
          (or_cases e.always (list_any (is_taken n w) e.guards) h))

      applies_from : Active n s w.values b → applies n w e ≡ true
      applies_from active =
          ⊎_elim (λ on. or_left e.always (list_any (is_taken n w) e.guards) (tells.always_is.1 on))
          (λ g. let q : Feed = record { block = g.block; port = g.port } in
          let has = tells.all q (possible n s _ g.spread) g.sync g.reaches in
          or_right e.always (list_any (is_taken n w) e.guards)
          (any_from (is_taken n w) e.guards has.0 has.1
          (subst (λ v. is_taken_branch v ≡ true) (sym has.2) (taken_from q (subst (Reaches n q) same g.reaches) g.sync g.spread g.takes))))
          (why n s _ (subst (Active n s w.values) (sym same) active))

      activated_to : (p : ℕ) → bit_at (mask_in n w e) p ≡ 1 → IsActivated n s w.values b (p + 1)
      activated_to p h =
          ⊎_elim
          (λ l. let fed = subst (λ v. SourceFeeds n s v (p + 1)) same ((tells.mask_is p).0 l) in record { within = source_within s (p + 1) fed; how = inl fed })
          (λ r. let g = tells.branches r.0 r.1 in let t = taken_to r.0 r.2 in let fed = subst (λ v. Contains (feeds_of n v (p + 1)) (branch_of r.0)) same ((g.feeds p).0 r.3) in
          record {
            within = feeds_within n ok b (p + 1) (branch_of r.0) (Spread-block n s _ here_possible) fed;
            how = inr (record { block = r.0.block; port = r.0.port; active = t.0; sync = g.sync; takes = t.1; fed = fed });
          })
          ((with_guards-at n w e.guards e.mask p).0 h)
        where
          source_within : (t : Source) (k : ℕ) → SourceFeeds n t b k → IsActivationInput n b k
          source_within Start k h' = absurd h'
          source_within (Port q) k h' = feeds_within n ok b k q (Spread-block n s _ here_possible) h'

      activated_from : (p : ℕ) → IsActivated n s w.values b (p + 1) → bit_at (mask_in n w e) p ≡ 1
      activated_from p h =
          (with_guards-at n w e.guards e.mask p).1
          (⊎_elim
          (λ fed. inl ((tells.mask_is p).1 (subst (λ v. SourceFeeds n s v (p + 1)) (sym same) fed)))
          (λ f. let q : Feed = record { block = f.block; port = f.port } in
          let reach : Reaches n q b = seeded b (feeds_here (p + 1) q f.fed) in
          let has = tells.all q (possible n s _ f.active) f.sync (subst (Reaches n q) (sym same) reach) in
          inr (
            has.0,
            has.1,
            subst (λ v. is_taken_branch v ≡ true) (sym has.2) (taken_from q reach f.sync f.active f.takes),
            ((tells.branches has.0 has.1).feeds p).1
                (subst (λ v. Contains (feeds_of n e.block (p + 1)) v) (sym has.2) (subst (λ v. Contains (feeds_of n v (p + 1)) q) (sym same) f.fed)),
          ))
          h.how)

      told : ((applies n w e ≡ true) ↔ Active n s w.values b) × IsMaskOf n s w.values b (mask_in n w e)
      told = ((applies_to, applies_from), λ p. (activated_to p, activated_from p))

    -- ---- what the block comes to

    abbrev front_next : Progress → Type 0
    front_next v = Front (done ++ b ∷ []) v

    -- it isn't active
    front_kept : (Active n s w.values b → ⊥) → front_next w
    front_kept idle =
        record {
          meets = λ c inside within. ⊎_elim
              (λ same. subst (Meets n m i s w.values) (sym same) (inr (record { idle = idle; held = (front.later b fresh_here).1 })))
              (λ other. front.meets c inside (λ may. ⊎_elim (λ old. old) (λ new. absurd (other new)) (Has-pushed done b c (within may))))
              (cases_eq c b);
          tells = λ c h. ⊎_elim (front.tells c)
              (λ new. subst (λ v. (w.applied v ≡ true) ↔ Active n s w.values v) (sym new)
              ((λ on. absurd (true≢false (sym on ∙ (front.later b fresh_here).0))), λ on. absurd (idle on)))
              (Has-pushed done b c h);
          later = λ c h. front.later c (λ old. h (Has-left done (b ∷ []) c old));
        }

    -- ---- with other values of the block

    module _ (vs : List ℤ) where
      abbrev valued : Signals
      valued = put w.values b vs

      unchanged : (a : ℕ) → IsBlock n a → (Possible n s a → Has done a) → w.values a ≡ valued a
      unchanged a inside within =
          sym (put_other w.values b vs a (λ same. fresh_here (subst (Has done) same (within (subst (Possible n s) (sym same) here_possible)))))

      apart : (c : ℕ) → Has done c → c ≡ b → ⊥
      apart c old same = fresh_here (subst (Has done) same old)

      module _ (c : ℕ) (among : Has (done ++ b ∷ []) c) where
        may_among : Possible n s c
        may_among = ⊎_elim (sound c) (λ new. subst (Possible n s) (sym new) here_possible) (Has-pushed done b c among)

        needs_among : (d : ℕ) → Depends n s c d → Has done d
        needs_among d dep = ⊎_elim (λ old. closed_done c d old dep) (λ new. needs_done d (subst (λ v. Depends n s v d) new dep)) (Has-pushed done b c among)

        branch_stays : branch_on (spec_of n c) (input_in n valued c) ≡ branch_on (spec_of n c) (input_in n w.values c)
        branch_stays =
            sym (fair.branches c _ _ (Spread-block n s _ may_among) (alike_inputs (Has done) closed_done w.values valued unchanged c may_among needs_among))

        mask_stays : (mask : ℕ) → IsMaskOf n s w.values c mask → IsMaskOf n s valued c mask
        mask_stays mask is = alike_mask (Has done) closed_done w.values valued unchanged c mask may_among needs_among is

      -- ---- notes

      -- a block of which an entry applied is another, and done
      applied_before : (c : ℕ) → (c ≡ b → ⊥) → put w.applied b true c ≡ true → (w.applied c ≡ true) × Has (done ++ b ∷ []) c
      applied_before c other on =
          let old = sym (put_other w.applied b true c other) ∙ on in
          let known : Has done c = ⊎_elim (λ inside. inside) (λ outside. absurd (true≢false (sym old ∙ (front.later c outside).0))) (Has-cases done c) in
          (old, Has-left done (b ∷ []) c known)

      module _ (branch mask : ℕ → ℕ) (taken here : ℕ) (notes : IsNoted n s w branch mask) where
        branch_here : IsSync n b → branch_on (spec_of n b) (input_in n w.values b) ≡ taken → branch_on (spec_of n b) (input_in n valued b) ≡ put branch b taken b
        branch_here sync takes = branch_stays b (Has-push done b) ∙ takes ∙ sym (put_same branch b taken b refl)

        noted : (IsSync n b → branch_on (spec_of n b) (input_in n w.values b) ≡ taken) → IsMaskOf n s w.values b here →
            IsNoted n s (with_values w b vs) (put branch b taken) (put mask b here)
        noted takes mask_is = record {
          branches = λ c on sync. ⊎_elim
              (λ same. subst
              (λ v. branch_on (spec_of n v) (input_in n valued v) ≡ put branch b taken v)
              (sym same) (branch_here (subst (IsSync n) same sync) (takes (subst (IsSync n) same sync))))
              (λ other. let old = applied_before c other on in
              branch_stays c old.1 ∙ notes.branches c old.0 sync ∙ sym (put_other branch b taken c other))
              (cases_eq c b);
          masks = λ c on. ⊎_elim
              (λ same. subst (λ v. IsMaskOf n s valued v (put mask b here v)) (sym same)
              (subst (IsMaskOf n s valued b) (sym (put_same mask b here b refl)) (mask_stays b (Has-push done b) here mask_is)))
              (λ other. let old = applied_before c other on in
              subst (IsMaskOf n s valued c) (sym (put_other mask b here c other)) (mask_stays c old.1 (mask c) (notes.masks c old.0)))
              (cases_eq c b);
        }

      -- ---- it is active and has these values

      module _ (mask : ℕ) (active : Active n s w.values b) (mask_is : IsMaskOf n s w.values b mask)
          (gives : answer n m i b mask (input_in n w.values b) ≡ Ok vs) where
        active_now : Active n s valued b
        active_now =
            active_there n m i s ok fair w.values valued b
            (alike_settled (Has done) closed_done w.values valued unchanged b needs_done) active

        gives_now : Gives n m i s valued b (Ok (valued b))
        gives_now = record {
          active = active_now;
          mask = mask;
          mask_is = mask_stays b (Has-push done b) mask mask_is;
          answer_is = sym (alike_answer (Has done) closed_done w.values valued unchanged b mask here_possible needs_done)
              ∙ (gives ∙ ap Ok (sym (put_same w.values b vs b refl)));
        }

        meets_valued : (c : ℕ) → IsBlock n c → (Possible n s c → Has (done ++ b ∷ []) c) → Meets n m i s valued c
        meets_valued c inside within =
            ⊎_elim
            (λ same. subst (Meets n m i s valued) (sym same) (inl gives_now))
            (λ other. let old : Possible n s c → Has done c = λ may. ⊎_elim (λ h. h) (λ new. absurd (other new)) (Has-pushed done b c (within may)) in
            alike_meets (Has done) closed_done w.values valued unchanged c inside old (front.meets c inside old))
            (cases_eq c b)

        tells_valued : (c : ℕ) → Has (done ++ b ∷ []) c → (put w.applied b true c ≡ true) ↔ Active n s valued c
        tells_valued c h =
            ⊎_elim
            (λ old. let a = alike (Has done) closed_done w.values valued unchanged (ground n s free c (Spread-block n s _ (sound c old))) old in
            let flag = put_other w.applied b true c (apart c old) in
            ((λ on. a.there ((front.tells c old).0 (sym flag ∙ on))), λ on. flag ∙ (front.tells c old).1 (a.back on)))
            (λ new. subst (λ d. (put w.applied b true d ≡ true) ↔ Active n s valued d) (sym new)
            ((λ on. active_now), λ on. put_same w.applied b true b refl))
            (Has-pushed done b c h)

        front_valued : front_next (with_values w b vs)
        front_valued =
            record {
              meets = meets_valued;
              tells = tells_valued;
              later = λ c h.
                  let other : c ≡ b → ⊥ = λ same. h (subst (Has (done ++ b ∷ [])) (sym same) (Has-push done b)) in
                  let rest = front.later c (λ old. h (Has-left done (b ∷ []) c old)) in
                  (put_other w.applied b true c other ∙ rest.0, put_other w.values b vs c other ∙ rest.1);
            }

    -- it is active and has none
    stops_here : (mask : ℕ) (word : StopWord) → ((c : ℕ) → Possible n s c → Precedes n s c b → Contains done c) → Active n s w.values b
        → IsMaskOf n s w.values b mask → answer n m i b mask (input_in n w.values b) ≡ Err word → IsResult n m i s (Stopped b word)
    stops_here mask word before active mask_is nothing = (
      w.values,
      (λ c inside within. front.meets c inside (λ may. Contains-has done c (before c may (within may)))),
      record { active = active; mask = mask; mask_is = mask_is; answer_is = nothing },
    )

-- ---- the law

module _ (n : Parts) (s : Source) (done : List ℕ) (b : ℕ) (closed : IsClosed n s done) (ready : IsReady n s done b) where
  sound_done : (c : ℕ) → Has done c → Possible n s c
  sound_done c h = closed.possible c (has-Contains done c h)

  closed_under : (c d : ℕ) → Has done c → Depends n s c d → Has done d
  closed_under c d h dep = Contains-has done d (closed.closed c d (has-Contains done c h) dep)

  grown : IsClosed n s (done ++ b ∷ [])
  grown = record {
    possible = λ c h. ⊎_elim (sound_done c) (λ new. subst (Possible n s) (sym new) ready.possible) (Has-pushed done b c (Contains-has (done ++ b ∷ []) c h));
    closed = λ c d h dep. has-Contains (done ++ b ∷ []) d (Has-left done (b ∷ []) d
        (⊎_elim (λ old. closed_under c d old dep) (λ new. Contains-has done d (ready.needs d (subst (λ v. Depends n s v d) new dep)))
        (Has-pushed done b c (Contains-has (done ++ b ∷ []) c h))));
  }

pub ready_is_next : (n : Parts) (m : Memory) (i : Columns) (s : Source) (done : List ℕ) (w : Progress) (b : ℕ) → IsNet n → IsLoopFree n s → IsClosed n s done →
    IsFront n m i s done w → IsReady n s done b → IsNextDone n m i s done w b
ready_is_next n m i s done w b net free closed front ready =
    let f = fair n m i net.typed_specs in
    let sound = sound_done n s done b closed ready in
    let under = closed_under n s done b closed ready in
    let here = to_front n m i s net.wired f free done w front in
    let fresh : Has done b → ⊥ = λ h. ready.fresh (has-Contains done b h) in
    let needs : (d : ℕ) → Depends n s b d → Has done d = λ d dep. Contains-has done d (ready.needs d dep) in
    record {
      told = λ e same tells. told n m i s net.wired f free done w b sound under here ready.possible fresh needs e same tells;
      closed = grown n s done b closed ready;
      idle = λ off. from_front n m i s net.wired f free (done ++ b ∷ []) w
          (front_kept n m i s net.wired f free done w b sound under here ready.possible fresh needs off);
      valued = λ mask vs active is gives. from_front n m i s net.wired f free (done ++ b ∷ []) (with_values w b vs)
          (front_valued n m i s net.wired f free done w b sound under here ready.possible fresh needs vs mask active is gives);
      noted = λ vs branch mask taken at notes takes is.
          noted n m i s net.wired f free done w b sound under here ready.possible fresh needs vs branch mask taken at notes takes is;
      stops = λ mask word before active is nothing.
          stops_here n m i s net.wired f free done w b sound under here ready.possible fresh needs mask word before active is nothing;
    }

pub ready_is_alike : (n : Parts) (m : Memory) (i : Columns) (s : Source) (done : List ℕ) (b : ℕ) (y z : Signals) → IsNet n → IsLoopFree n s → IsClosed n s done →
    IsReady n s done b → ((a : ℕ) → IsBlock n a → (Possible n s a → Contains done a) → y a ≡ z a) → IsAlikeOn n m i s b y z
ready_is_alike n m i s done b y z net free closed ready same =
    let f = fair n m i net.typed_specs in
    let under = closed_under n s done b closed ready in
    let needs : (d : ℕ) → Depends n s b d → Has done d = λ d dep. Contains-has done d (ready.needs d dep) in
    let agree : (a : ℕ) → IsBlock n a → (Possible n s a → Has done a) → y a ≡ z a = λ a inside within. same a inside (λ may. has-Contains done a (within may)) in
    record {
      active = active_there n m i s net.wired f y z b (alike_settled n m i s net.wired f free (Has done) under y z agree b needs);
      masks = λ mask is. alike_mask n m i s net.wired f free (Has done) under y z agree b mask ready.possible needs is;
      answers = λ mask. alike_answer n m i s net.wired f free (Has done) under y z agree b mask ready.possible needs;
      branches = f.branches b _ _ (Spread-block n s _ ready.possible) (alike_inputs n m i s net.wired f free (Has done) under y z agree b ready.possible needs);
    }

pub all_done : (n : Parts) (m : Memory) (i : Columns) (s : Source) (done : List ℕ) (w : Progress) → IsFront n m i s done w → ((c : ℕ) → Possible n s c → Contains done c) →
    IsResult n m i s (Whole w.values)
all_done n m i s done w front all b inside = front.meets b inside (λ may. all b may)
