use Rattle.std.proofs.Common.{◌≡◌, map, length, Ok, Err, ap, ◌∙◌, rules}
use Rattle.std.proofs.lemmas.List.{length-map}
use Rattle.sci_base.specs.Stops.{Stops, StopsBy}
use Rattle.sci_diagram.specs.Objects.{diagram_view}
use Rattle.sci_goto.specs.Phase.{few_enough, standing, tags_of}
use Rattle.sci_goto.specs.Placed.{standing_of}
use Rattle.sci_goto.proofs.Takers.{many_stop, ill_stop, served}
use Rattle.sci_goto.proofs.served.serve.Goals as goal

pub returns-in_err-few_enough : goal.returns-in_err-few_enough
returns-in_err-few_enough c =
    let d = diagram_view c.args.d.now in
    let ts = c.as_slice-tags.result.now in
    let is : map standing_of ts ≡ standing d = ap (map standing_of) c.as_slice-tags.ensures.value ∙ c.in_ok-placed.ensures in
    let e = c.in_err-few_enough.field-0.0 in
    let many : Stops (few_enough (length (map standing_of ts))) e = rw (length-map ts standing_of) c.in_err-few_enough.ensures.stop in
    let stops : StopsBy (λ v. tags_of d ≡ Err v) e = many_stop d (map standing_of ts) is e many in
    search (rules, stops)

pub returns-in_err-givers : goal.returns-in_err-givers
returns-in_err-givers c =
    let d = diagram_view c.args.d.now in
    let ts = c.as_slice-tags.result.now in
    let is : map standing_of ts ≡ standing d = ap (map standing_of) c.as_slice-tags.ensures.value ∙ c.in_ok-placed.ensures in
    let few : few_enough (length (map standing_of ts)) ≡ Ok tt = rw (length-map ts standing_of) c.in_ok-few_enough.ensures.ok in
    let e = c.in_err-givers.field-0.0 in
    let stops : StopsBy (λ v. tags_of d ≡ Err v) e = ill_stop d (map standing_of ts) is few e c.in_err-givers.ensures.stop in
    search (rules, stops)

pub returns : goal.returns
returns c =
    let d = diagram_view c.args.d.now in
    let ts = c.as_slice-tags.result.now in
    let is : map standing_of ts ≡ standing d = ap (map standing_of) c.as_slice-tags.ensures.value ∙ c.in_ok-placed.ensures in
    let few : few_enough (length (map standing_of ts)) ≡ Ok tt = rw (length-map ts standing_of) c.in_ok-few_enough.ensures.ok in
    served d (map standing_of ts) is few c.in_ok-givers.givers c.in_ok-givers.ensures.ok c.servings.result c.servings.ensures.ok c.servings.ensures.stop
