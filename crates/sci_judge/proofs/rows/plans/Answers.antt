use Rattle.std.proofs.Common.{◌≡◌, ◌<◌, ◌+◌, ◌++◌, ◌∷◌, [], ℕ, List, length, get_or, ap, subst, sym, arith, ◌∙◌, ⊎_elim, length-append}
use Rattle.std.proofs.lemmas.Bool.{cases_lt}
use Rattle.std.proofs.lemmas.List.{get_or_append_left, get_or-append-add}
use Rattle.sci_net.specs.Sources.{source_of}
use Rattle.sci_store.specs.Frame.{Fixed}
use Rattle.sci_judge.specs.declared.rows.SourcePlan.{SourcePlan}
use Rattle.sci_judge.specs.Rows.{IsPlanOf}
use Rattle.sci_judge.proofs.rows.plans.Goals as goal

-- one source more
more : (f : Fixed) (plans : List SourcePlan) (p : SourcePlan) → ((k : ℕ) (d : SourcePlan) → k < length plans → IsPlanOf f (source_of f.net k) (get_or plans k d))
    → IsPlanOf f (source_of f.net (length plans)) p → (k : ℕ) (d : SourcePlan) → k < length (plans ++ p ∷ []) → IsPlanOf f (source_of f.net k) (get_or (plans ++ p ∷ []) k d)
more f plans p each is k d l =
    ⊎_elim (λ old. subst (IsPlanOf f (source_of f.net k)) (sym (get_or_append_left plans (p ∷ []) d k old)) (each k d old))
    (λ new. let long = length-append plans (p ∷ []) in
    let same : k ≡ length plans + 0 = omega (arith, new, l, long) in
    let last : k ≡ length plans = omega (arith, same) in
    let read : get_or (plans ++ p ∷ []) k d ≡ p = ap (λ j. get_or (plans ++ p ∷ []) j d) same ∙ get_or-append-add plans (p ∷ []) 0 d in
    subst (IsPlanOf f (source_of f.net k)) (sym read) (subst (λ j. IsPlanOf f (source_of f.net j) p) (sym last) is))
    (cases_lt k (length plans))

pub loop-source-preserved : goal.loop-source-preserved
loop-source-preserved c =
    let f = c.args.kept.now.fixed in
    let plans = c.loop-source.plans.items in
    let p = c.in_ok-plan_for.field-0 in
    let long = c.loop-source.invariant.long in
    let whole = length-append plans (p ∷ []) in
    let grown = ap length c.in_ok-push.ensures.items in
    record {
      end = c.loop-source.invariant.end;
      found = c.in_ok-plan_for.ensures.count ∙ c.loop-source.invariant.found;
      always = c.in_ok-plan_for.ensures.always_count ∙ c.loop-source.invariant.always;
      long = omega (arith, long, whole, grown);
      each = λ k d l. subst (λ (ps : List SourcePlan). IsPlanOf f (source_of f.net k) (get_or ps k d)) (sym c.in_ok-push.ensures.items)
          (more f plans p c.loop-source.invariant.each (subst (λ j. IsPlanOf f (source_of f.net j) p) (sym long) c.in_ok-plan_for.ensures.plan) k d
          (subst (λ (ps : List SourcePlan). k < length ps) c.in_ok-push.ensures.items l));
    }
