-- The takers in turn: what serves each.
use Rattle.std.proofs.Common.{◌≡◌, ℕ, zero, suc, ◌<◌, List, [], ◌∷◌, ◌++◌, length, Option, Some, None, Vec, Global, Result, IfOk, IfErr, Ok, Err, refl, sym, ap, ◌∙◌, subst, append-nil, arith}
use Rattle.sci_base.specs.Outcome.{Outcome, ◌>>=◌}
use Rattle.sci_base.specs.declared.refusal.Rule.TheVariants.{TagMissing}
use Rattle.sci_base.specs.declared.stop.Stop.{Stop}
use Rattle.sci_base.specs.declared.stop.Stop.TheVariants.{Refused, Memory}
use Rattle.sci_base.specs.Stops.{IsViolation, Stops, StopsBy}
use Rattle.sci_base.proofs.Stopping.{stops_then, stops_after, stops_violation}
use Rattle.sci_diagram.specs.Objects.{Objects}
use Rattle.sci_goto.specs.declared.givers.Givers.{Givers}
use Rattle.sci_goto.specs.declared.serving.Serving.{Serving}
use Rattle.sci_goto.specs.declared.tag.Tag.{Tag}
use Rattle.sci_goto.specs.declared.tag.TagForm.TheVariants.{Takes}
use Rattle.sci_goto.specs.Phase.{Standing, standing, Giving, Taking, no_tags, taking, server, by_tag, few_enough, gathered, served_by, all_served, tags_of}
use Rattle.sci_goto.specs.Serving.{standing_at, taking_at, serving_at, IsServing, AreServings, IsServed}
use Rattle.sci_goto.specs.Givers.{IsFirst, HoldsGivers, IsJoined, takings_as, takings, Serve}
use Rattle.sci_goto.proofs.Gathering.{takings-append, gathered_takers}

-- ---- one taker

pub one_serves : (ss : List Standing) (gs : List Giving) (s : Standing) (t : Tag) (giver n : ℕ) → n < length ss → standing_at ss n ≡ s → s.form ≡ Takes t
    → IsFirst ss (server gs (taking s t)) (Some giver) → IsServing ss gs (taking s t) (record { giver = giver; taker = n })
one_serves ss gs s t giver n there at says h = by_server (server gs (taking s t)) refl h
  where
    by_server : (o : Option Giving) → server gs (taking s t) ≡ o → IsFirst ss o (Some giver) → IsServing ss gs (taking s t) (record { giver = giver; taker = n })
    by_server None e k = absurd k
    by_server (Some g) e k = record {
      giver_there = k.0;
      taker_there = there;
      taker = rw at (refl, says);
      giver = (g, e, k.1);
    }

pub none_serves : (ss : List Standing) (gs : List Giving) (s : Standing) (t : Tag) (e : Stop) → IsFirst ss (server gs (taking s t)) None
    → IsViolation (by_tag TagMissing s.place t) e → Stops (all_served gs (taking s t ∷ [])) e
unfolding all_served
none_serves ss gs s t e h v = stops_violation (served_by (taking s t) (server gs (taking s t)) >>= λ _. all_served gs []) (by_tag TagMissing s.place t) e (by_server (server gs (taking s t)) h) v
  where
    by_server : (o : Option Giving) → IsFirst ss o None → (served_by (taking s t) o >>= λ _. all_served gs []) ≡ Err (by_tag TagMissing s.place t)
    by_server None k = refl
    by_server (Some g) k = absurd k

-- ---- several

module _ (ss : List Standing) (gs : List Giving) where
  pub serve-append : (ts us : List Taking) (v w : List Serving) → Serve ss gs ts v → Serve ss gs us w → Serve ss gs (ts ++ us) (v ++ w)
  serve-append [] us [] w h k = k
  serve-append [] us (s ∷ v) w h k = absurd h
  serve-append (t ∷ ts) us [] w h k = absurd h
  serve-append (t ∷ ts) us (s ∷ v) w h k = (h.0, serve-append ts us v w h.1 k)

  pub serve_long : (ts : List Taking) (v : List Serving) → Serve ss gs ts v → length v ≡ length ts
  serve_long [] [] h = refl
  serve_long [] (s ∷ v) h = absurd h
  serve_long (t ∷ ts) [] h = absurd h
  serve_long (t ∷ ts) (s ∷ v) h = ap suc (serve_long ts v h.1)

  pub serve_each : (ts : List Taking) (v : List Serving) → Serve ss gs ts v → (k : ℕ) → k < length ts → IsServing ss gs (taking_at ts k) (serving_at v k)
  serve_each [] v h k l = absurd (omega arith)
  serve_each (t ∷ ts) [] h k l = absurd h
  serve_each (t ∷ ts) (s ∷ v) h zero l = h.0
  serve_each (t ∷ ts) (s ∷ v) h (suc k) l = serve_each ts v h.1 k (omega arith)

  serve_all : (ts : List Taking) (v : List Serving) → Serve ss gs ts v → all_served gs ts ≡ Ok tt
  unfolding all_served
  serve_all [] v h = refl
  serve_all (t ∷ ts) [] h = absurd h
  serve_all (t ∷ ts) (s ∷ v) h = rw (h.0.giver.1) (serve_all ts v h.1)

  all_served-append : (ts us : List Taking) → all_served gs (ts ++ us) ≡ (all_served gs ts >>= λ _. all_served gs us)
  unfolding all_served
  all_served-append [] us = refl
  all_served-append (t ∷ ts) us = on (served_by t (server gs t)) (all_served-append ts us)
    where
      on : (o : Outcome (Unit {0})) → all_served gs (ts ++ us) ≡ (all_served gs ts >>= λ _. all_served gs us)
          → (o >>= λ _. all_served gs (ts ++ us)) ≡ ((o >>= λ _. all_served gs ts) >>= λ _. all_served gs us)
      on (Ok u) h = h
      on (Err v) h = refl

  -- after some that are served comes one that isn't
  pub served_stop : (xs rest : List Standing) (s : Standing) (v : List Serving) (e : Stop) → Serve ss gs (takings xs) v
      → Stops (all_served gs (takings_as s s.form)) e → Stops (all_served gs (takings (xs ++ s ∷ rest))) e
  served_stop xs rest s v e h k =
      let P : Outcome (Unit {0}) → Type 0 = λ o. Stops o e in
      let here = subst P (sym (all_served-append (takings_as s s.form) (takings rest))) (stops_then (all_served gs (takings_as s s.form)) (λ _. all_served gs (takings rest)) e k) in
      let there = subst P (sym (all_served-append (takings xs) (takings (s ∷ rest)))) (stops_after (all_served gs (takings xs)) tt (λ _. all_served gs (takings (s ∷ rest))) e (serve_all (takings xs) v h) here) in
      rw (takings-append xs (s ∷ rest)) there

  -- one more of the tag objects
  pub served_more : (xs : List Standing) (s : Standing) (v w : List Serving) → Serve ss gs (takings xs) v → Serve ss gs (takings_as s s.form) w
      → Serve ss gs (takings (xs ++ s ∷ [])) (v ++ w)
  served_more xs s v w h k =
      let last : takings (s ∷ []) ≡ takings_as s s.form = append-nil (takings_as s s.form) in
      rw (takings-append xs (s ∷ []), last) (serve-append (takings xs) (takings_as s s.form) v w h k)

-- ---- the whole tree

-- what stops the definition stops the call
stops_served : (d : Objects) (e : Stop) → Stops (tags_of d) e → StopsBy (λ v. tags_of d ≡ Err v) e
stops_served d (Refused r) h = h
stops_served d Memory h = tt

module _ (d : Objects) (ss : List Standing) (is : ss ≡ standing d) where
  pub many_stop : (e : Stop) → Stops (few_enough (length ss)) e → StopsBy (λ v. tags_of d ≡ Err v) e
  unfolding tags_of
  many_stop e h = stops_served d e (stops_then (few_enough (length (standing d))) _ e (rw is at h))

  module _ (few : few_enough (length ss) ≡ Ok tt) where
    on_gathered : tags_of d ≡ (gathered no_tags ss >>= λ tags. all_served tags.givers tags.takers >>= λ _. Ok tags)
    unfolding tags_of
    on_gathered = rw (← is, few) refl

    pub ill_stop : (e : Stop) → Stops (gathered no_tags ss) e → StopsBy (λ v. tags_of d ≡ Err v) e
    ill_stop e h = stops_served d e (rw on_gathered (stops_then (gathered no_tags ss) _ e h))

    module _ (m : Givers) (so : IsJoined m ss (gathered no_tags ss)) where
      in_order : so.more.takers ≡ takings ss
      in_order = gathered_takers no_tags so.more ss so.kept

      on_served : tags_of d ≡ (all_served so.more.givers (takings ss) >>= λ _. Ok so.more)
      on_served = on_gathered ∙ (rw (so.kept, in_order) refl)

      all_serve : (v : List Serving) → Serve ss so.more.givers (takings ss) v → (tags_of d ≡ Ok so.more) × AreServings (standing d) so.more v
      all_serve v h =
          let each : (k : ℕ) → k < length so.more.takers → IsServing ss so.more.givers (taking_at so.more.takers k) (serving_at v k) = rw in_order (serve_each ss so.more.givers (takings ss) v h) in
          let serve : AreServings ss so.more v = record { long = serve_long ss so.more.givers (takings ss) v h ∙ ap length (sym in_order); each = each } in
          (on_served ∙ (rw (serve_all ss so.more.givers (takings ss) v h) refl), rw (← is) serve)

      pub served : (r : Result (Vec Serving Global) Stop)
          → ((gs : List Giving) → HoldsGivers m ss gs → IfOk r (λ v. Serve ss gs (takings ss) v.items))
          → ((gs : List Giving) → HoldsGivers m ss gs → IfErr r (λ e. Stops (all_served gs (takings ss)) e))
          → IsServed d r
      served (Ok v) f g = let all = all_serve v.items (f so.more.givers so.holds) in (so.more, all.0, all.1)
      served (Err e) f g = stops_served d e (rw on_served (stops_then (all_served so.more.givers (takings ss)) _ e (g so.more.givers so.holds)))
