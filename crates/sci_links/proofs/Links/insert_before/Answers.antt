use Rattle.std.proofs.Common.{◌≡◌, ℕ, sym, ◌∙◌, subst, ap, arith, Option, Some, None}
use Rattle.std.proofs.lemmas.List.{get_or_read}
use Rattle.sci_links.specs.Table.{Table, IsTable, list_of, inserted_in}
use Rattle.sci_links.proofs.TestLemmas.{or_right}
use Rattle.sci_links.proofs.Arrays.{in_bounds, is_table, holder_owner}
use Rattle.sci_links.proofs.Links.insert_before.Goals as goal
use Rattle.sci_links.proofs.Links.insert_before.Goals.{In-Some, After-index}

pub index-requires : goal.index-requires
index-requires c =
    let req : _ = subst (λ (t : Table). list_of t c.args.at ≡ Some c.requires.used.0) (sym c.self.view_is) c.requires.used.1 in
    let b = in_bounds _ _ _ _ _ c.self.inside.work c.self.invariant c.args.at c.requires.used.0 req in
    omega (arith, c.self.inside.owners.ok.0, c.self.invariant.owners_len)

-- the owner that was read is the list's number
read_owner : (c : After-index) → c.index.result.now ≡ list_of c.args.self.now c.args.at
read_owner c =
    let req : _ = subst (λ (t : Table). list_of t c.args.at ≡ Some c.requires.used.0) (sym c.self.view_is) c.requires.used.1 in
    let b = in_bounds _ _ _ _ _ c.self.inside.work c.self.invariant c.args.at c.requires.used.0 req in
    let len = c.self.invariant.owners_len in
    get_or_read c.self.inside.owners.items c.args.at c.index.result.now (omega arith) c.index.ensures None
    ∙ (sym (holder_owner _ _ _ _ _ c.args.at c.self.invariant) ∙ ap (λ (t : Table). list_of t c.args.at) c.self.view_is)

pub put-requires-clause-list : goal.put-requires-clause-list
put-requires-clause-list c =
    let e : list_of c.args.self.now c.args.at ≡ Some c.in-Some.list = sym (read_owner (goal.at.put-requires-clause-list c).After-index) ∙ c.in-Some.is in
    ((subst IsTable c.self.view_is (is_table _ _ _ _ _ c.self.inside.work c.self.invariant)).held c.in-Some.list c.args.at e).1

pub put-requires-clause-place : goal.put-requires-clause-place
put-requires-clause-place c =
    let e : list_of c.args.self.now c.args.at ≡ Some c.in-Some.list = sym (read_owner (goal.at.put-requires-clause-place c).After-index) ∙ c.in-Some.is in
    or_right _ _ ((subst IsTable c.self.view_is (is_table _ _ _ _ _ c.self.inside.work c.self.invariant)).held c.in-Some.list c.args.at e).0

pub returns-in-Some-clause-changed : goal.returns-in-Some-clause-changed
returns-in-Some-clause-changed c =
    let e : list_of c.args.self.now c.args.at ≡ Some c.in-Some.list = sym (read_owner (goal.at.returns-in-Some-clause-changed c).After-index) ∙ c.in-Some.is in
    c.put.ensures.changed ∙ ap (λ (o : Option ℕ). inserted_in c.args.self.now o c.args.at c.args.node) (sym e)

pub returns-in_default-clause-changed : goal.returns-in_default-clause-changed
returns-in_default-clause-changed c =
    let e = read_owner (goal.at.returns-in_default-clause-changed c).After-index in
    let f : c.index.result.now ≡ Some c.requires.used.0 = e ∙ c.requires.used.1 in
    let g : None ≡ Some c.requires.used.0 = sym c.in_default.is ∙ f in absurd (cc)

pub returns-in_default-clause-table : goal.returns-in_default-clause-table
returns-in_default-clause-table c = subst IsTable c.self.view_is (is_table _ _ _ _ _ c.self.inside.work c.self.invariant)
