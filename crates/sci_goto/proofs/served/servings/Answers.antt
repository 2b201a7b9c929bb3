use Rattle.std.proofs.Common.{◌≡◌, ◌<◌, List, Option, Some, None, Vec, Global, ◌++◌, length, map, take, option_to_list, refl, sym, ap, ◌∙◌, append-nil, rules, arith}
use Rattle.std.proofs.lemmas.List.{length-map}
use Rattle.sci_base.specs.Stops.{Stops}
use Rattle.sci_goto.specs.declared.serving.Serving.{Serving}
use Rattle.sci_goto.specs.Phase.{all_served}
use Rattle.sci_goto.specs.Placed.{standing_of}
use Rattle.sci_goto.specs.Givers.{takings_as, takings, Serve}
use Rattle.sci_goto.proofs.Gathering.{take_standing, rest_standing, one_standing}
use Rattle.sci_goto.proofs.Takers.{served_more, served_stop}
use Rattle.sci_goto.proofs.served.servings.Goals as goal
use Rattle.sci_goto.proofs.served.servings.Goals.{in-Some+in_ok-push, in_default}

none_more : (old : List Serving) (o : Option Serving) → ((s : Serving) → o ≡ Some s → ⊥) → old ≡ old ++ option_to_list o
none_more old None h = sym (append-nil old)
none_more old (Some s) h = absurd (h s refl)

pub returns-in_err-serving-clause-stop : goal.returns-in_err-serving-clause-stop
returns-in_err-serving-clause-stop c = λ gs h.
    let ts = c.args.tags.now in
    let ss = map standing_of ts in
    let t = c.index-tags-n.result in
    let e = c.in_err-serving.field-0.0 in
    let stops : Stops (all_served gs (takings ss)) e =
    rw (rest_standing ts c.loop-n.n t c.loop-n-test.true c.index-tags-n.is)
    (served_stop ss gs (map standing_of (take c.loop-n.n ts)) _ (standing_of t) c.loop-n.servings.items e (c.loop-n.invariant gs h) (c.in_err-serving.ensures.stop ss gs h)) in
    search (rules, stops)

pub loop-n-preserved : goal.loop-n-preserved
loop-n-preserved c = λ gs h.
    let ts = c.args.tags.now in
    let ss = map standing_of ts in
    let t = c.index-tags-n.result in
    let there : c.loop-n.n < length ss = omega (arith, length-map ts standing_of, c.loop-n-test.true) in
    let at = one_standing ts c.loop-n.n t c.loop-n-test.true c.index-tags-n.is in
    let old = c.loop-n.servings.items in
    let o = c.in_ok-serving.field-0 in
    let one : Serve ss gs (takings_as (standing_of t) t.form) (option_to_list o) = c.in_ok-serving.ensures.ok ss gs h there at in
    let more = served_more ss gs (map standing_of (take c.loop-n.n ts)) (standing_of t) old (option_to_list o) (c.loop-n.invariant gs h) one in
    let pushed : c.match-branch-2.servings.items ≡ old ++ option_to_list o =
    elim c.match-branch-2.branch [
      | in-Some+in_ok-push w ↦ ap (λ (v : Vec Serving Global). v.items) w.servings-is ∙ w.in_ok-push.ensures.items ∙ ap (λ (r : Option Serving). old ++ option_to_list r) (sym w.in-Some.is)
      | in_default w ↦ ap (λ (v : Vec Serving Global). v.items) w.servings-is ∙ none_more old o w.in_default.not-Some
    ] in
    rw (take_standing ts c.loop-n.n t c.loop-n-test.true c.index-tags-n.is, pushed) more
