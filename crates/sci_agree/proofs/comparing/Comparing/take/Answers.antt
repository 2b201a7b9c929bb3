use Rattle.std.proofs.Common.{rules, ◌≡◌, ℕ, ◌+◌, ◌<◌, length, slice_index, sym, ap, subst, ◌∙◌, true≢false}
use Rattle.sci_agree.specs.Compared.{Compared}
use Rattle.sci_agree.proofs.Taking.{few_lines, right_on, wrong_at}
use Rattle.sci_agree.proofs.comparing.Comparing.take.Goals as goal

pub overflow_add-self-then-is_next : goal.overflow_add-self-then-is_next
overflow_add-self-then-is_next c = let few = few_lines _ c.self.invariant in search (rules, few)

pub invariant_of-self : goal.invariant_of-self
invariant_of-self c =
    let next = subst (λ (s : Compared). (s.at < length s.text) × (slice_index s.text s.at ≡ c.args.byte)) (sym c.self.view_is) (c.is_next.ensures.0 c.if-is_next.true) in
    right_on _ c.args.byte _ c.self.invariant (ap (λ (s : Compared). s.wrong) c.self.view_is ∙ c.requires) next.0 next.1
    (ap (λ (n : ℕ). c.self.inside.lines + n) c.lines_ended.ensures.value)

pub invariant_of-self-2 : goal.invariant_of-self-2
invariant_of-self-2 c =
    wrong_at _ c.args.byte _ c.self.invariant
    (λ next. true≢false
    (sym (c.is_next.ensures.1 (subst (λ (s : Compared). (s.at < length s.text) × (slice_index s.text s.at ≡ c.args.byte)) c.self.view_is next)) ∙ c.if-is_next.false))
    (search rules)
