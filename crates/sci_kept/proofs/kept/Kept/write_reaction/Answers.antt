use Rattle.std.proofs.Common.{◌≡◌, ap, sym, subst, ◌∷◌, List}
use Rattle.std.specs.Prelude.{OnOk}
use Rattle.sci_base.specs.declared.observation.Obs.{Obs}
use Rattle.sci_io.specs.Taken.{Writes}
use Rattle.sci_trace.specs.Lines.{text}
use Rattle.sci_store.specs.Rows.{IsReadyRow, KeepsBegun}
use Rattle.sci_store.specs.Written.{tallied}
use Rattle.sci_store.proofs.Reacting.{store_alike, kept_counts}
use Rattle.sci_kept.specs.Kept.{Kept}
use Rattle.sci_store.specs.Reaction.{IfSeen}
use Rattle.sci_kept.proofs.kept.Kept.write_reaction.Goals as goal

pub write_reaction-requires-clause-row : goal.write_reaction-requires-clause-row
write_reaction-requires-clause-row g c = subst (λ (k : Kept). IsReadyRow k.fixed c.args.row.now) (sym c.self.view_is) c.requires.row

pub write_reaction-requires-clause-begun : goal.write_reaction-requires-clause-begun
write_reaction-requires-clause-begun g c = subst (λ (k : Kept). KeepsBegun k.fixed c.args.row.now k.store) (sym c.self.view_is) c.requires.begun

pub invariant_of-self : goal.invariant_of-self
invariant_of-self g c =
    let s = c.self.inside.store in
    let t = c.write_reaction.new.self in
    store_alike c.self.inside.frame s t (kept_counts s t c.write_reaction.ensures.same) c.self.invariant

pub returns-clause-written : goal.returns-clause-written
returns-clause-written g c =
    subst (λ (k : Kept). IfSeen k.fixed k.store c.args.row.now (λ (seen : List Obs). Writes (g.S.Sink.state c.args.out.now) (g.S.Sink.state c.write_reaction.new.out) (text (c.args.header.now ∷ seen)) c.write_reaction.result))
    c.self.view_is c.write_reaction.ensures.written

pub returns-clause-counted : goal.returns-clause-counted
returns-clause-counted g c =
    subst (λ (k : Kept). OnOk c.write_reaction.result (IfSeen k.fixed k.store c.args.row.now (λ (seen : List Obs). c.write_reaction.new.self ≡ tallied k.store (c.args.header.now ∷ seen))))
    c.self.view_is c.write_reaction.ensures.counted

pub returns-clause-same : goal.returns-clause-same
returns-clause-same g c =
    subst (λ (k : Kept). c.write_reaction.new.self ≡ record k.store { lines = c.write_reaction.new.self.lines; sum = c.write_reaction.new.self.sum }) c.self.view_is c.write_reaction.ensures.same

pub returns-clause-fixed : goal.returns-clause-fixed
returns-clause-fixed g c = ap (λ (k : Kept). k.fixed) c.self.view_is
