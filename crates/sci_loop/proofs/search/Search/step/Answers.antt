use Rattle.std.proofs.Common.{◌∙◌, sym, true≢false}
use Rattle.sci_loop.proofs.Steps.{last_read, settled_search, settled_in_order, settled_falls, looked_search, round_search, entered_search, entered_falls}
use Rattle.sci_loop.proofs.search.Search.step.Goals as goal

pub returns-then-is_at-clause-search : goal.returns-then-is_at-clause-search
returns-then-is_at-clause-search c =
    let is = last_read c.args.table.now c.args.self.now.trail.items c.len.result c.index-at.result.now (c.len.ensures ∙ c.args.self.now.trail.ok.0) c.requires.some c.index-at.ensures in
    let s = c.look.ensures in
    looked_search c.args.table.now c.args.self.now c.look.new.self c.index-at.result.now c.in-Some.need.index c.deref.result.now c.requires.search c.requires.some is
    c.deref.ensures.value c.in-Some.ensures.seen s.settled s.looked s.depths s.trail

pub returns-then-is_at-clause-round : goal.returns-then-is_at-clause-round
returns-then-is_at-clause-round c =
    let is = last_read c.args.table.now c.args.self.now.trail.items c.len.result c.index-at.result.now (c.len.ensures ∙ c.args.self.now.trail.ok.0) c.requires.some c.index-at.ensures in
    round_search c.args.table.now c.look.new.self c.args.self.now.trail.items c.index-at.result.now c.in-Some.need.place c.index-depth.result.now c.deref.result.now
    (returns-then-is_at-clause-search c) c.requires.some is c.look.ensures.trail c.in-Some.ensures.some (c.is_at.ensures.0 c.if-is_at.true)

pub returns-in_ok-settle-in-None-clause-search : goal.returns-in_ok-settle-in-None-clause-search
returns-in_ok-settle-in-None-clause-search c =
    let is = last_read c.args.table.now c.args.self.now.trail.items c.len.result c.index-at.result.now (c.len.ensures ∙ c.args.self.now.trail.ok.0) c.requires.some c.index-at.ensures in
    let s = c.in_ok-settle-in-None.ensures in
    settled_search c.args.table.now c.args.self.now c.settle.new.self c.index-at.result.now c.deref.result.now c.requires.table c.requires.search c.requires.some is
    c.deref.ensures.value c.in-None.ensures.none s.settled s.looked s.depths s.trail

pub returns-in_ok-settle-in-None-clause-falls : goal.returns-in_ok-settle-in-None-clause-falls
returns-in_ok-settle-in-None-clause-falls c =
    let is = last_read c.args.table.now c.args.self.now.trail.items c.len.result c.index-at.result.now (c.len.ensures ∙ c.args.self.now.trail.ok.0) c.requires.some c.index-at.ensures in
    settled_falls c.args.table.now c.args.self.now c.settle.new.self c.index-at.result.now c.requires.search c.requires.some is c.in_ok-settle-in-None.ensures.settled c.in_ok-settle-in-None.ensures.trail

pub returns-in_ok-settle-in-None-clause-order : goal.returns-in_ok-settle-in-None-clause-order
returns-in_ok-settle-in-None-clause-order c =
    let is = last_read c.args.table.now c.args.self.now.trail.items c.len.result c.index-at.result.now (c.len.ensures ∙ c.args.self.now.trail.ok.0) c.requires.some c.index-at.ensures in
    let s = c.in_ok-settle-in-None.ensures in
    settled_in_order c.args.table.now c.args.self.now c.settle.new.self c.index-at.result.now c.deref.result.now c.requires.table c.requires.search c.requires.order c.requires.some is
    c.deref.ensures.value c.in-None.ensures.none s.settled s.order

pub returns-in_ok-enter-in-Some-clause-search : goal.returns-in_ok-enter-in-Some-clause-search
returns-in_ok-enter-in-Some-clause-search c =
    let is = last_read c.args.table.now c.args.self.now.trail.items c.len.result c.index-at.result.now (c.len.ensures ∙ c.args.self.now.trail.ok.0) c.requires.some c.index-at.ensures in
    let s = c.look.ensures in
    let looked = looked_search c.args.table.now c.args.self.now c.look.new.self c.index-at.result.now c.in-Some.need.index c.deref.result.now c.requires.search c.requires.some is
    c.deref.ensures.value c.in-Some.ensures.seen s.settled s.looked s.depths s.trail in
    let e = c.in_ok-enter-in-Some.ensures in
    entered_search c.args.table.now c.look.new.self c.enter.new.self c.args.self.now.trail.items c.index-at.result.now c.in-Some.need.place c.index-depth.result.now c.deref.result.now
    looked c.requires.some is s.trail (c.deref.ensures.value ∙ sym s.settled) c.in-Some.ensures.some c.index-depth.ensures
    (λ on. true≢false (sym (c.is_at.ensures.1 on) ∙ c.if-is_at.false)) e.settled e.looked e.depths e.trail

pub returns-in_ok-enter-in-Some-clause-falls : goal.returns-in_ok-enter-in-Some-clause-falls
returns-in_ok-enter-in-Some-clause-falls c =
    let e = c.in_ok-enter-in-Some.ensures in
    entered_falls c.args.table.now c.args.self.now c.look.new.self c.enter.new.self c.in-Some.need.place (returns-in_ok-enter-in-Some-clause-search c) c.look.ensures.settled c.look.ensures.trail
    e.settled e.trail
