use Rattle.std.proofs.Common.{◌≡◌, ap, sym, ◌∙◌, subst, arith, rules}
use denote.Enum.Bare.{differs_true, differs_false}
use Rattle.sci_bank.specs.contracts.Fate.{the_type}
use Rattle.sci_bank.specs.declared.Fate.TheVariants.{Done}
use Rattle.sci_bank.specs.Bank.{Held, Meaning, AreRows}
use Rattle.sci_kind_bank.proofs.RunLemmas.{ran_none, ran_more, may_run, written_at, no_call}
use Rattle.sci_kind_bank.proofs.kind_bank.KindBank.fill_run.Goals as goal

pub loop-at-init : goal.loop-at-init
loop-at-init g c =
    ran_none (record { kind = g.R.Rule.kind; rows = c.args.self.now.rows; outs = c.args.self.now.outs }) c.args.places.now c.args.calls.now c.args.values.now

pub fill_at-fate-requires-clause-typed : goal.fill_at-fate-requires-clause-typed
fill_at-fate-requires-clause-typed g c =
    let b : Meaning = record { kind = g.R.Rule.kind; rows = c.args.self.now.rows; outs = c.args.self.now.outs } in
    let whole : c.self.inside.rows.items ≡ c.args.self.now.rows = ap (λ (h : Held). h.rows) c.self.view_is in
    let may = may_run b c.args.places.now c.args.calls.now c.args.values.now c.loop-at.at c.loop-at.values c.self.inside.rows.items c.index-row.result.now c.index-places-call.result (omega arith) c.requires
    c.loop-at.invariant whole c.self.invariant c.index-row.ensures c.index-places-call.is in
    may.1.typed

pub fill_at-fate-requires-clause-within : goal.fill_at-fate-requires-clause-within
fill_at-fate-requires-clause-within g c =
    let b : Meaning = record { kind = g.R.Rule.kind; rows = c.args.self.now.rows; outs = c.args.self.now.outs } in
    let whole : c.self.inside.rows.items ≡ c.args.self.now.rows = ap (λ (h : Held). h.rows) c.self.view_is in
    let may = may_run b c.args.places.now c.args.calls.now c.args.values.now c.loop-at.at c.loop-at.values c.self.inside.rows.items c.index-row.result.now c.index-places-call.result (omega arith) c.requires
    c.loop-at.invariant whole c.self.invariant c.index-row.ensures c.index-places-call.is in
    may.1.within

pub fill_at-fate-requires-clause-there : goal.fill_at-fate-requires-clause-there
fill_at-fate-requires-clause-there g c =
    let b : Meaning = record { kind = g.R.Rule.kind; rows = c.args.self.now.rows; outs = c.args.self.now.outs } in
    let whole : c.self.inside.rows.items ≡ c.args.self.now.rows = ap (λ (h : Held). h.rows) c.self.view_is in
    let may = may_run b c.args.places.now c.args.calls.now c.args.values.now c.loop-at.at c.loop-at.values c.self.inside.rows.items c.index-row.result.now c.index-places-call.result (omega arith) c.requires
    c.loop-at.invariant whole c.self.invariant c.index-row.ensures c.index-places-call.is in
    may.1.there

pub fill_at-fate-requires-clause-ins : goal.fill_at-fate-requires-clause-ins
fill_at-fate-requires-clause-ins g c =
    let b : Meaning = record { kind = g.R.Rule.kind; rows = c.args.self.now.rows; outs = c.args.self.now.outs } in
    let whole : c.self.inside.rows.items ≡ c.args.self.now.rows = ap (λ (h : Held). h.rows) c.self.view_is in
    let may = may_run b c.args.places.now c.args.calls.now c.args.values.now c.loop-at.at c.loop-at.values c.self.inside.rows.items c.index-row.result.now c.index-places-call.result (omega arith) c.requires
    c.loop-at.invariant whole c.self.invariant c.index-row.ensures c.index-places-call.is in
    may.1.ins

pub loop-at-preserved : goal.loop-at-preserved
loop-at-preserved g c =
    let b : Meaning = record { kind = g.R.Rule.kind; rows = c.args.self.now.rows; outs = c.args.self.now.outs } in
    let whole : c.self.inside.rows.items ≡ c.args.self.now.rows = ap (λ (h : Held). h.rows) c.self.view_is in
    let may = may_run b c.args.places.now c.args.calls.now c.args.values.now c.loop-at.at c.loop-at.values c.self.inside.rows.items c.index-row.result.now c.index-places-call.result (omega arith) c.requires
    c.loop-at.invariant whole c.self.invariant c.index-row.ensures c.index-places-call.is in
    let done : c.fill_at-fate.result ≡ Done = differs_false the_type (search rules) c.fill_at-fate.result Done (sym c.ne.ensures ∙ c.if-ne.false) in
    let kept : AreRows g.R.Rule.kind c.args.self.now.rows = subst (AreRows g.R.Rule.kind) whole c.self.invariant in
    ran_more b c.args.places.now c.args.calls.now c.args.values.now c.loop-at.at c.loop-at.values c.fill_at-fate.new.values no_call c.fill_at-fate.result kept (omega arith) c.loop-at.invariant
    (written_at b c.args.places.now _ c.index-row.result.now c.index-places-call.result c.loop-at.values c.fill_at-fate.new.values c.fill_at-fate.result may.0 c.fill_at-fate.ensures.answer) done
