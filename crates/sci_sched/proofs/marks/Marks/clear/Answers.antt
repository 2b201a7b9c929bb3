use Rattle.std.proofs.Common.{◌≡◌, ℕ, List, [], All, Contains, Vec, length, subst, subst₂, sym, ap, ◌∙◌, arith}
use Rattle.std.specs.declared.alloc.Global.{Global}
use Rattle.std.proofs.lemmas.List.{with_items_is}
use Rattle.sci_loop.specs.Lists.{plain, list_at}
use Rattle.sci_inherit.specs.declared.Fed.{Fed}
use Rattle.sci_net.specs.Sources.{source_of}
use Rattle.sci_sched.specs.Marks.{IsFitting, HaveFed}
use Rattle.sci_sched.proofs.Marking.{feeding_fit, bits_fed, possible_below, reached_possible}
use Rattle.sci_sched.proofs.marks.Marks.clear.Goals as goal

pub empty-requires : goal.empty-requires
empty-requires c =
    let value = ap length c.deref_mut.ensures.value in
    possible_below c.args.net.now (source_of c.args.net.now c.args.at) c.args.blocks.now (length c.deref_mut.result.now) c.requires.blocks (omega (arith, value, c.args.self.now.conditions.ok.0, c.requires.sized.conditions))

pub clear_fed-requires-clause-fit : goal.clear_fed-requires-clause-fit
clear_fed-requires-clause-fit c =
    subst (λ (fs : List Fed). All (IsFitting (length c.deref_mut-2.result.now)) fs) (sym c.feeding.ensures)
    (feeding_fit c.args.net.now c.well_formed-2.ensures c.args.reach.now c.requires.reach c.args.at c.requires.at (length c.deref_mut-2.result.now) (ap length c.deref_mut-2.ensures.value ∙ c.requires.sized.masks))

pub clear_fed-requires-clause-fed : goal.clear_fed-requires-clause-fed
clear_fed-requires-clause-fed c =
    subst₂ HaveFed (sym c.feeding.ensures) (sym c.deref_mut-2.ensures.value)
    (bits_fed c.args.net.now c.well_formed-2.ensures c.args.reach.now c.requires.reach c.args.at c.requires.at c.args.self.now.masks.items c.requires.marks.masks)

pub returns-clause-clear : goal.returns-clause-clear
returns-clause-clear c =
    let n = c.args.net.now in let s = source_of n c.args.at in
    let lists = c.args.self.now.conditions in let masks = c.args.self.now.masks in
    let many : length c.empty.new.conditions ≡ lists.len = omega (arith, c.empty.auto.conditions, ap length c.deref_mut.ensures.value, lists.ok.0) in
    let long : length c.clear_fed.new.masks ≡ masks.len = omega (arith, c.clear_fed.auto.masks, ap length c.deref_mut-2.ensures.value, masks.ok.0) in
    record {
      conditions = subst (λ (vs : List (Vec ℕ Global)). (b x : ℕ) → Contains (list_at (plain vs) b) x → ⊥) (sym (with_items_is lists c.empty.new.conditions many)) (λ b x has.
          let was = subst (λ (vs : List (Vec ℕ Global)). Contains (list_at (plain vs) b) x) c.deref_mut.ensures.value (c.empty.ensures.left b x has) in
          let given = (c.requires.marks.conditions b x).0 was in
          c.empty.ensures.empty b x has ((c.requires.blocks b).1 (reached_possible n s x b given.0 given.1)));
      masks = subst (HaveFed []) (sym (with_items_is masks c.clear_fed.new.masks long)) c.clear_fed.ensures;
    }
