use Rattle.std.proofs.Common.{◌<◌, ◌+◌, length, ap, subst, sym, arith, true≢false, ◌∙◌}
use Rattle.sci_net.specs.Sources.{sources_of}
use Rattle.sci_judge.proofs.Delayed.{AreSourcesTo, sources_none, sources_with, sources_without, sources_all}
use Rattle.sci_judge.proofs.rows.delayed.Goals.{then-is_delayed+in_ok-push, else-is_delayed}
use Rattle.sci_judge.proofs.rows.delayed.Goals as goal

pub loop-source-init : goal.loop-source-init
loop-source-init c = record {
  end = c.source_count-source-end.ensures;
  sources = subst (AreSourcesTo c.args.net.now c.args.found.now.found 0) (sym c.new-sources.ensures.items) (sources_none c.args.net.now c.args.found.now.found);
}

pub loop-source-preserved : goal.loop-source-preserved
loop-source-preserved c =
    let n = c.args.net.now in
    let found = c.args.found.now.found in
    let k = c.loop-source.source in
    let ks = c.loop-source.sources.items in
    let less : k < length (sources_of n) = let e = c.loop-source.invariant.end in omega (arith, e, c.loop-source-test.true) in
    elim c.if-is_delayed.branch [
      | then-is_delayed+in_ok-push w ↦ record {
        end = c.loop-source.invariant.end;
        sources = subst (AreSourcesTo n found (k + 1)) (sym (ap (λ v. v.items) w.sources-is ∙ w.in_ok-push.ensures.items))
            (sources_with n found k ks less c.loop-source.invariant.sources (c.is_delayed.ensures.0 w.if-is_delayed.true).0);
      }
      | else-is_delayed w ↦ record {
        end = c.loop-source.invariant.end;
        sources = subst (AreSourcesTo n found (k + 1)) (ap (λ v. v.items) (sym w.sources-is))
            (sources_without n found k ks less c.loop-source.invariant.sources (λ h. true≢false (sym (c.is_delayed.ensures.1 h) ∙ w.if-is_delayed.false)));
      }
    ]

pub returns : goal.returns
returns c =
    let e = c.loop-source.invariant.end in
    sources_all c.args.net.now c.args.found.now.found c.loop-source.source c.loop-source.sources.items (omega (arith, e, c.loop-source-test.false, c.loop-source.auto.source-end)) c.loop-source.invariant.sources
