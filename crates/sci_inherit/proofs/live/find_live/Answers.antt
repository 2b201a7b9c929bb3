use Rattle.std.proofs.Common.{◌≡◌, ◌<◌, ◌↔◌, ◌∙◌, ℕ, List, Vec, sym, ap, subst, arith, length}
use Rattle.std.specs.Prelude.{Contains, All}
use Rattle.std.specs.declared.alloc.Global.{Global}
use Rattle.std.proofs.lemmas.Result.{on_ok_weaker}
use Rattle.std.proofs.lemmas.List.{length-map}
use Rattle.sci_loop.specs.Lists.{plain}
use Rattle.sci_reaction.specs.Active.{Inherited}
use Rattle.sci_inherit.specs.Followers.{AreHeirs}
use Rattle.sci_inherit.specs.Live.{SetOffUpto}
use Rattle.sci_inherit.proofs.Gathering.{heirs_inside, walked_is}
use Rattle.sci_inherit.proofs.Viewed.{leads}
use Rattle.sci_inherit.proofs.Living.{onward_inside, live_are}
use Rattle.sci_inherit.proofs.live.find_live.Goals as goal

pub walk-requires-clause-long : goal.walk-requires-clause-long
walk-requires-clause-long c = ap length c.deref.ensures.value ∙ (c.requires.links.heirs_long ∙ sym (c.find_set_off.ensures.count ∙ c.requires.walk))

pub walk-requires-clause-starts : goal.walk-requires-clause-starts
walk-requires-clause-starts c =
    let e : c.deref-2.result.now ≡ c.find_set_off.new.walk.found = c.deref-2.ensures.value ∙ (c.in_ok-set_off.ensures.items ∙ c.found.ensures.value) in
    subst (All (λ (q : ℕ). q < c.find_set_off.new.walk.count)) (sym e) c.found.ensures.within

pub walk-requires-clause-within : goal.walk-requires-clause-within
walk-requires-clause-within c =
    let n = c.args.net.now in
    let heirs = subst (λ (vs : List (Vec ℕ Global)). AreHeirs n (plain vs)) (sym c.deref.ensures.value) c.requires.links.heirs in
    heirs_inside n (plain c.deref.result.now) c.find_set_off.new.walk.count heirs (c.find_set_off.ensures.count ∙ c.requires.walk)

pub walk-requires-2-clause-long : goal.walk-requires-2-clause-long
walk-requires-2-clause-long c = c.requires.onward_long ∙ sym (c.walk.ensures.count ∙ (c.find_set_off.ensures.count ∙ c.requires.walk))

pub walk-requires-2-clause-starts : goal.walk-requires-2-clause-starts
walk-requires-2-clause-starts c =
    let e2 : c.deref-3.result.now ≡ c.walk.new.self.found = c.deref-3.ensures.value ∙ (c.in_ok-always.ensures.items ∙ c.found-2.ensures.value) in
    subst (All (λ (q : ℕ). q < c.walk.new.self.count)) (sym e2) c.found-2.ensures.within

pub walk-requires-2-clause-within : goal.walk-requires-2-clause-within
walk-requires-2-clause-within c =
    let n = c.args.net.now in
    let onward = leads n (plain c.args.onward.now) c.well_formed-2.ensures c.requires.onward (let long = length-map c.args.onward.now (λ (v : Vec ℕ Global). v.items) in omega (arith, long, c.requires.onward_long)) in
    onward_inside n (plain c.args.onward.now) c.walk.new.self.count onward (c.walk.ensures.count ∙ (c.find_set_off.ensures.count ∙ c.requires.walk))

pub returns-clause-live : goal.returns-clause-live
returns-clause-live c =
    let n = c.args.net.now in
    let e : c.deref-2.result.now ≡ c.find_set_off.new.walk.found = c.deref-2.ensures.value ∙ (c.in_ok-set_off.ensures.items ∙ c.found.ensures.value) in
    let heirs = subst (λ (vs : List (Vec ℕ Global)). AreHeirs n (plain vs)) (sym c.deref.ensures.value) c.requires.links.heirs in
    let e2 : c.deref-3.result.now ≡ c.walk.new.self.found = c.deref-3.ensures.value ∙ (c.in_ok-always.ensures.items ∙ c.found-2.ensures.value) in
    let onward = leads n (plain c.args.onward.now) c.well_formed-2.ensures c.requires.onward (let long = length-map c.args.onward.now (λ (v : Vec ℕ Global). v.items) in omega (arith, long, c.requires.onward_long)) in
    let Seeds : List ℕ → Type 0 = λ l. (b : ℕ) → Contains l b ↔ SetOffUpto n (length n.specs) b in
    let seeds : Seeds c.deref-2.result.now = subst Seeds (sym e) c.in_ok-find_set_off.ensures.found in
    let Always : List ℕ → Type 0 = λ l. (b : ℕ) → Contains l b ↔ Inherited n (SetOffUpto n (length n.specs)) b in
    let found : Always c.walk.new.self.found = λ b.
    let f = c.in_ok-walk.ensures.found b in
    let w = walked_is n (plain c.deref.result.now) c.deref-2.result.now (SetOffUpto n (length n.specs)) heirs seeds b in
    ((λ h. w.0 (f.0 h)), λ h. f.1 (w.1 h)) in
    let always : Always c.deref-3.result.now = subst Always (sym e2) found in
    on_ok_weaker c.walk-2.result
    (λ f b. let r = live_are n c.well_formed-2.ensures (plain c.args.onward.now) c.deref-3.result.now always onward b in ((λ h. r.0 ((f b).0 h)), λ h. (f b).1 (r.1 h)))
    c.walk-2.ensures.found
