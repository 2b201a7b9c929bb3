use Rattle.std.proofs.Common.{◌≡◌, ℕ, ◌<◌, ◌∙◌, List, All, sym, subst, subst₂, arith, Contains, get_or, length, Vec, vec_len}
use Rattle.std.specs.declared.alloc.Global.{Global}
use Rattle.std.specs.List.Sorted.{IsStrictlyIncreasing}
use Rattle.std.proofs.lemmas.List.{length-map, get_or_default}
use Rattle.sci_loop.specs.declared.table.DepTable.{DepTable}
use Rattle.sci_loop.specs.Table.{IsTable}
use Rattle.std.proofs.lemmas.List.Elements.{All-contains, All-weaker}
use Rattle.sci_loop.specs.Lists.{plain}
use Rattle.sci_loop.proofs.Adding.{list_at-plain}
use Rattle.sci_judge.specs.Rounds.{needs_at, IsPutTo}
use Rattle.sci_judge.proofs.Members.{needs_rise, needs_members}
use Rattle.sci_judge.proofs.Waiting.{waiting_begin, waiting_more, waiting_all}
use Rattle.sci_judge.proofs.rounds.waiting.Goals as goal

listed : (t : DepTable) (k : ℕ) (row : Vec ℕ Global) (ns : List ℕ) → IsTable t → k < length t.members.items → row ≡ get_or t.needs.items k row → ns ≡ row.items → needs_at t k ≡ ns
listed t k row ns ok less is same = list_at-plain t.needs.items k row (let long = ok.rows in omega (arith, long, less)) is ∙ sym same

pub loop-at-init : goal.loop-at-init
loop-at-init c =
    let long = length-map c.in_ok-lists.lists.items (λ (v : Vec ℕ Global). v.items) in
    let len = c.in_ok-lists.ensures.len in
    record {
      len = len;
      lists = waiting_begin c.args.table.now c.args.count (plain c.in_ok-lists.lists.items) c.in_ok-lists.ensures.empty (omega (arith, long, len, c.in_ok-lists.lists.ok.0));
    }

pub put-requires-clause-rising : goal.put-requires-clause-rising
put-requires-clause-rising c =
    let t = c.args.table.now in
    let k = c.loop-at.at in
    let less : k < length t.members.items = omega (arith, c.loop-at-test.true, c.len-at-end.ensures, c.args.table.now.members.ok.0) in
    subst IsStrictlyIncreasing (listed t k c.index-in-loop-at.result.now c.deref.result.now c.requires.table less c.index-in-loop-at.ensures c.deref.ensures.value) (needs_rise t c.requires.table k less)

pub put-requires-clause-within : goal.put-requires-clause-within
put-requires-clause-within c =
    let t = c.args.table.now in
    let k = c.loop-at.at in
    let less : k < length t.members.items = omega (arith, c.loop-at-test.true, c.len-at-end.ensures, c.args.table.now.members.ok.0) in
    let same = c.loop-at.invariant.len in
    subst (All (λ b. b < vec_len c.loop-at.lists)) (listed t k c.index-in-loop-at.result.now c.deref.result.now c.requires.table less c.index-in-loop-at.ensures c.deref.ensures.value)
    (All-weaker (Contains t.members.items) (λ b. b < vec_len c.loop-at.lists)
    (λ b h. let l = All-contains (λ (x : ℕ). x < c.args.count) t.members.items b c.requires.below h in omega (arith, l, same)) (needs_at t k) (needs_members t c.requires.table k less))

pub loop-at-preserved : goal.loop-at-preserved
loop-at-preserved c =
    let t = c.args.table.now in
    let k = c.loop-at.at in
    let less : k < length t.members.items = omega (arith, c.loop-at-test.true, c.len-at-end.ensures, c.args.table.now.members.ok.0) in
    let needs = listed t k c.index-in-loop-at.result.now c.deref.result.now c.requires.table less c.index-in-loop-at.ensures c.deref.ensures.value in
    let member : c.index.result.now ≡ get_or t.members.items k 0 = c.index.ensures ∙ get_or_default t.members.items k c.index.result.now 0 less in
    record {
      len = c.in_ok-put.ensures.len ∙ c.loop-at.invariant.len;
      lists = waiting_more t k c.args.count (plain c.loop-at.lists.items) (plain c.put.new.lists.items) c.requires.table less c.loop-at.invariant.lists
          (subst₂ (λ ns m. IsPutTo ns m (plain c.loop-at.lists.items) (plain c.put.new.lists.items)) (sym needs) member c.in_ok-put.ensures.put);
    }

pub returns : goal.returns
returns c =
    waiting_all c.args.table.now c.loop-at.at c.args.count (plain c.loop-at.lists.items) c.requires.table
    (omega (arith, c.loop-at-test.false, c.loop-at.auto.at-end, c.len-at-end.ensures, c.args.table.now.members.ok.0)) c.loop-at.invariant.lists
