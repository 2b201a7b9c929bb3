use Rattle.std.proofs.Common.{◌≡◌, ℕ, List, All, Contains, ◌<◌, inl, inr, Vec, vec_len, get_or, length, arith, subst, sym, ap, ◌∙◌}
use Rattle.std.specs.declared.alloc.Global.{Global}
use Rattle.std.proofs.lemmas.List.{with_items_is, length-map}
use Rattle.sci_loop.specs.Lists.{list_at}
use Rattle.sci_dep.proofs.Walked.{onward_inside}
use Rattle.sci_inherit.specs.declared.Fed.{Fed}
use Rattle.sci_net.specs.Sources.{source_of}
use Rattle.sci_reaction.specs.Links.{SourceFeeds}
use Rattle.sci_reaction.specs.Equations.{HasBits}
use Rattle.sci_sched.specs.Marks.{IsFitting, HaveFed}
use Rattle.sci_sched.proofs.Marking.{feeding_fit, fed_bits, always_below, possible_below}
use Rattle.sci_sched.proofs.marks.Marks.mark.Goals as goal

pub take-requires : goal.take-requires
take-requires c =
    subst (All (λ b. b < c.args.self.now.always.count)) (sym c.always.ensures)
    (always_below c.args.net.now c.well_formed-2.ensures c.args.reach.now c.requires.reach c.args.at c.requires.at c.args.self.now.always.count c.requires.sized.always)

pub put_all-requires-clause-blocks : goal.put_all-requires-clause-blocks
put_all-requires-clause-blocks c =
    let long = length-map c.onward.result.now (λ (v : Vec ℕ Global). v.items) in
    let same = ap length c.onward.ensures in
    possible_below c.args.net.now (source_of c.args.net.now c.args.at) c.args.blocks.now (length c.onward.result.now) c.requires.blocks (omega (arith, long, same, c.requires.reach.one_each.onward))

pub put_all-requires-clause-reached : goal.put_all-requires-clause-reached
put_all-requires-clause-reached c =
    let count = vec_len c.args.self.now.conditions in
    subst (λ (ls : List (List ℕ)). (p : ℕ) → All (λ b. b < count) (list_at ls p)) (sym c.onward.ensures)
    (onward_inside c.args.net.now c.args.reach.now.onward count c.requires.reach.onward_are c.requires.sized.conditions)

pub set_fed-requires-clause-fit : goal.set_fed-requires-clause-fit
set_fed-requires-clause-fit c =
    subst (λ (fs : List Fed). All (IsFitting (length c.deref_mut.result.now)) fs) (sym c.feeding.ensures)
    (feeding_fit c.args.net.now c.well_formed-2.ensures c.args.reach.now c.requires.reach c.args.at c.requires.at (length c.deref_mut.result.now) (ap length c.deref_mut.ensures.value ∙ c.requires.sized.masks))

pub returns-clause-marks : goal.returns-clause-marks
returns-clause-marks c =
    let n = c.args.net.now in
    let always = c.requires.reach.always_are in
    let long : length c.set_fed.new.masks ≡ c.args.self.now.masks.len = omega (arith, c.set_fed.auto.masks, ap length c.deref_mut.ensures.value, c.args.self.now.masks.ok.0) in
    record {
      always = λ b. (
        λ h. (always c.args.at b c.requires.at).0 (subst (λ xs. Contains xs b) c.always.ensures ((c.in_ok-take.ensures.found b).0 h)),
        λ a. (c.in_ok-take.ensures.found b).1 (subst (λ xs. Contains xs b) (sym c.always.ensures) ((always c.args.at b c.requires.at).1 a)),
      );
      conditions = λ b x. (
        λ has. elim ((c.in_ok-put_all.ensures.adds.exactly b x).0 has) [
          | inl old ↦ absurd (c.requires.clear.conditions b x old)
          | inr put ↦ ((c.requires.blocks x).0 put.one, (c.requires.reach.onward_are x b).0 (subst (λ (ls : List (List ℕ)). Contains (list_at ls x) b) c.onward.ensures put.reaches))
        ],
        λ given. (c.in_ok-put_all.ensures.adds.exactly b x).1 (inr (record {
          one = (c.requires.blocks x).1 given.0;
          reaches = subst (λ (ls : List (List ℕ)). Contains (list_at ls x) b) (sym c.onward.ensures) ((c.requires.reach.onward_are x b).1 given.1);
        })),
      );
      masks = subst (λ xs. (b : ℕ) → HasBits (get_or xs b 0) (SourceFeeds n (source_of n c.args.at) b)) (sym (with_items_is c.args.self.now.masks c.set_fed.new.masks long)) (fed_bits n c.well_formed-2.ensures c.args.reach.now c.requires.reach c.args.at c.requires.at c.set_fed.new.masks (subst (λ (fs : List Fed). HaveFed fs c.set_fed.new.masks) c.feeding.ensures c.set_fed.ensures));
    }
