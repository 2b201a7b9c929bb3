use Rattle.std.proofs.Common.{arith, refl, ◌≡◌, ◌≤◌, ◌∙◌, [], List, Option, Some, subst, sym, ap, cond, length}
use Rattle.c_ast.specs.declared.Name.{Name}
use Rattle.c_rules.specs.declared.rules.Past.{Past}
use Rattle.c_ast.specs.Rules.{same_name, routine_in, ended, Routine}
use Rattle.c_rules.specs.Naming.{by_name}
use Rattle.c_rules.specs.Knowing.{MayBeRoutine}
use Rattle.c_rules.proofs.Numbering.{put_new}
use Rattle.c_rules.proofs.Knowing.{routine_begun, routine_same, routine_renamed, kind_renamed, kind_named, routine_ended, assigned_none, assigned_last, earlier_kept, earlier_put, ended_none}
use Rattle.c_rules.proofs.Assigning.{on_either}
use Rattle.c_rules.proofs.rules.Knowledge.end_body.Goals as goal

pub invariant_of-self : goal.invariant_of-self
invariant_of-self c =
    let self = c.args.self.now in
    record {
      earlier = λ n past e. let low = self.earlier n past e in omega (arith, c.begin.ensures.last);
      kinds_named = omega (arith, self.kinds_named, ap length c.begin.ensures.names);
      routines_named = omega (arith, self.routines_named, ap length c.begin.ensures.names);
    }

pub returns-in_default : goal.returns-in_default
returns-in_default c = λ s a.
    let self = c.args.self.now in
    let none : ended s s.owner ≡ s.routines = ended_none s s.owner (λ x e. c.in_default.not-Some x (a.owner ∙ e)) in
    let Ended : List Routine → Type 0 = λ l. (q : Name) → MayBeRoutine c.begin.new.self (by_name c.begin.new.self.names self.routines.items q) (routine_in l q) in
    record {
      kinds = λ q. kind_renamed self.bodies.names c.begin.new.self.names self.kinds.items q c.begin.ensures.names ∙ a.kinds q;
      elements = a.elements;
      routines = subst Ended (sym none) (λ q. routine_renamed c.begin.new.self self.bodies.names c.begin.new.self.names self.routines.items q (routine_in s.routines q) c.begin.ensures.names (routine_begun self.bodies c.begin.new.self c.in_ok-begin.ensures.ok (by_name self.bodies.names self.routines.items q) (routine_in s.routines q) (a.routines q)));
      blocks = a.blocks;
      owner = a.owner;
      assigns = assigned_none self.bodies c.begin.new.self c.in_ok-begin.ensures.ok;
      depth = a.depth;
    }

pub returns-in_ok-put : goal.returns-in_ok-put
returns-in_ok-put c = λ s a.
    let self = c.args.self.now in
    let begun = c.begin.new.self in
    let new = c.number.new.self in
    let table = c.put.new.values.items in
    let grows = c.in_ok-number.ensures.names in
    let past : Past = record { body = self.bodies.last; depth = self.depth } in
    let owner : s.owner ≡ Some (c.in-Some.f, c.in-Some.field-0-1) = sym a.owner ∙ c.in-Some.is in
    let routines_named : length self.routines.items ≤ length begun.names = omega (arith, self.routines_named, ap length c.begin.ensures.names) in
    let kinds_named : length self.kinds.items ≤ length begun.names = omega (arith, self.kinds_named, ap length c.begin.ensures.names) in
    let put : (q : Name) → by_name new.names table q ≡ cond (same_name c.in-Some.f q) (Some past) (by_name self.bodies.names self.routines.items q) = λ q.
    put_new self.routines.items table begun.names new.names c.in-Some.f c.in_ok-number.number past grows routines_named c.in_ok-number.ensures.number c.in_ok-put.ensures.there c.put.ensures.others q
    ∙ ap (λ (l : List Name). cond (same_name c.in-Some.f q) (Some past) (by_name l self.routines.items q)) c.begin.ensures.names in
    let Ended : List Routine → Type 0 = λ l. (q : Name) → MayBeRoutine new (by_name new.names table q) (routine_in l q) in
    let routines : Ended (ended s s.owner) = subst Ended (sym (ap (ended s) owner)) (λ q. routine_same begun new c.number.ensures.same (by_name new.names table q) _ (routine_ended self.bodies begun (same_name c.in-Some.f q) past _ (by_name new.names table q) (by_name self.bodies.names self.routines.items q) (routine_in s.routines q)
    c.in_ok-begin.ensures.ok refl a.depth a.assigns (put q) (a.routines q))) in
    record {
      kinds = λ q. kind_named begun.names new.names c.in-Some.f self.kinds.items q grows kinds_named ∙ kind_renamed self.bodies.names begun.names self.kinds.items q c.begin.ensures.names ∙ a.kinds q;
      elements = a.elements;
      routines = routines;
      blocks = a.blocks;
      owner = a.owner;
      assigns = assigned_last begun new [] c.number.ensures.same (assigned_none self.bodies begun c.in_ok-begin.ensures.ok);
      depth = a.depth;
    }
