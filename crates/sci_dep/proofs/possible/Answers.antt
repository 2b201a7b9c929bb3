use Rattle.std.proofs.Common.{◌<◌, ◌↔◌, ℕ, List, sym, subst}
use Rattle.std.specs.Prelude.{Contains, All, OnOk}
use Rattle.std.proofs.lemmas.Result.{on_ok_weaker}
use Rattle.sci_loop.specs.Lists.{plain, list_at}
use Rattle.sci_net.specs.Sources.{source_of}
use Rattle.sci_reaction.specs.Active.{IsAlways}
use Rattle.sci_reaction.specs.Depends.{Conditions}
use Rattle.sci_dep.specs.Tables.{ArePossible}
use Rattle.sci_dep.proofs.Tabled.{found_blocks}
use Rattle.sci_dep.proofs.Walked.{always_inside, onward_inside, possible_are}
use Rattle.sci_dep.proofs.possible.Goals as goal

pub walk-requires-clause-starts : goal.walk-requires-clause-starts
walk-requires-clause-starts c =
    let n = c.args.net.now in
    let k = c.args.source in
    let bs = list_at c.args.reach.now.always k in
    subst (All (λ q. q < c.args.walk.now.count)) (sym c.always.ensures)
    (always_inside n (source_of n k) bs c.args.walk.now.count (λ b. c.requires.origins.always_are k b c.requires.source) c.requires.count)

pub walk-requires-clause-within : goal.walk-requires-clause-within
walk-requires-clause-within c =
    let n = c.args.net.now in
    let Leads : List (List ℕ) → Type 0 = λ ls. (a b : ℕ) → Contains (list_at ls a) b ↔ Conditions n a b in
    onward_inside n (plain c.onward.result.now) c.args.walk.now.count (subst Leads (sym c.onward.ensures) c.requires.origins.onward_are) c.requires.count

pub returns-clause-possible : goal.returns-clause-possible
returns-clause-possible c =
    let n = c.args.net.now in
    let k = c.args.source in
    let Leads : List (List ℕ) → Type 0 = λ ls. (a b : ℕ) → Contains (list_at ls a) b ↔ Conditions n a b in
    let Begins : List ℕ → Type 0 = λ l. (b : ℕ) → Contains l b ↔ IsAlways n (source_of n k) b in
    let begins : Begins c.always.result.now = subst Begins (sym c.always.ensures) (λ b. c.requires.origins.always_are k b c.requires.source) in
    on_ok_weaker c.walk.result
    (λ f b.
    let p = possible_are n (source_of n k) (plain c.onward.result.now) c.always.result.now begins (subst Leads (sym c.onward.ensures) c.requires.origins.onward_are) b in
    ((λ h. p.0 ((f b).0 h)), λ h. (f b).1 (p.1 h)))
    c.walk.ensures.found

pub returns-clause-blocks : goal.returns-clause-blocks
returns-clause-blocks c =
    let n = c.args.net.now in
    let k = c.args.source in
    let found = c.walk.new.self.found in
    let Leads : List (List ℕ) → Type 0 = λ ls. (a b : ℕ) → Contains (list_at ls a) b ↔ Conditions n a b in
    let Begins : List ℕ → Type 0 = λ l. (b : ℕ) → Contains l b ↔ IsAlways n (source_of n k) b in
    let begins : Begins c.always.result.now = subst Begins (sym c.always.ensures) (λ b. c.requires.origins.always_are k b c.requires.source) in
    let are : OnOk c.walk.result (ArePossible n (source_of n k) found) =
    on_ok_weaker c.walk.result
    (λ f b.
    let p = possible_are n (source_of n k) (plain c.onward.result.now) c.always.result.now begins (subst Leads (sym c.onward.ensures) c.requires.origins.onward_are) b in
    ((λ h. p.0 ((f b).0 h)), λ h. (f b).1 (p.1 h)))
    c.walk.ensures.found in
    on_ok_weaker c.walk.result (found_blocks n (source_of n k) found) are
