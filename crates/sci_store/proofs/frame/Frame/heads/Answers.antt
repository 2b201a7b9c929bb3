use Rattle.std.proofs.Common.{◌≤◌, ℕ, List, length, ap, arith}
use Rattle.sci_net.specs.Net.{all_elements}
use Rattle.sci_store.specs.Frame.{Fixed}
use Rattle.sci_store.proofs.LineStarts.{heads_length}
use Rattle.sci_store.proofs.frame.Frame.heads.Goals as goal

pub slice_bounds-result-end : goal.slice_bounds-result-end
slice_bounds-result-end c =
    let long = heads_length c.self.inside.net in
    let same = ap (λ (hs : List (List ℕ)). length hs) c.self.invariant.heads in
    let count = ap (λ (f : Fixed). all_elements f.net.specs) c.self.view_is in
    let here = ap (λ (hs : List (List ℕ)). length hs) c.deref.ensures.value in
    let within : c.args.end ≤ length c.deref.result.now = omega (arith, long, same, count, here, c.requires.within) in
    within
