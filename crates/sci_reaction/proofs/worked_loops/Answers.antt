use Rattle.std.proofs.Common.{◌≡◌, ℕ, zero, suc, ◌<◌, ◌≤◌, true, cond, eqb, ◌⊎◌, inl, inr, ⊎_elim, [], ◌∷◌, length, Contains, refl, sym, ap, subst, lit≤, lit<, arith, true≢false}
use Rattle.sci_loop.proofs.Grounded.{IsDistinct-nil}
use Rattle.std.proofs.lemmas.Map.Keys.{IsDistinct-cons}
use Rattle.sci_net.specs.declared.Feed.{Feed}
use Rattle.sci_net.specs.declared.Source.{Source}
use Rattle.sci_net.specs.declared.Source.TheVariants.{Start, Port}
use Rattle.sci_net.specs.Parts.{spec_of, wire_of, feeds_of}
use Rattle.sci_reaction.specs.Links.{Feeds, IsConstant, has_feedthrough}
use Rattle.sci_reaction.specs.Active.{IsSync, Possible, seeded, set_off, taken, inherited}
use Rattle.sci_reaction.specs.Depends.{Depends}
use Rattle.sci_reaction.specs.Worked.{feed, delay_behind_condition, gain_around_sum, gain_at_other_times, sum_into_first, sum_into_second}
use Rattle.sci_reaction.proofs.Spreading.{Spread-least}
use Rattle.sci_reaction.proofs.Ranked.{ranked_no_loop}
use Rattle.sci_reaction.proofs.WorkedNet.{other_times_is_net}
use Rattle.sci_reaction.proofs.worked_loops.Goals as goal

-- the timer activates the condition, and the condition's first branch the delay
condition_possible : Possible delay_behind_condition (Port (feed 1)) 2
condition_possible =
    set_off 2 (record { input = 1; within = record { block = record { least = lit≤ tt; most = lit≤ tt }; least = lit≤ tt; most = lit≤ tt }; fed = (0, lit< tt, refl) })

branch_feeds : Feeds delay_behind_condition (record { block = 2; port = 1 }) 3
branch_feeds =
    record { input = 1; within = record { block = record { least = lit≤ tt; most = lit≤ tt }; least = lit≤ tt; most = lit≤ tt }; fed = (0, lit< tt, refl) }

delay_possible : Possible delay_behind_condition (Port (feed 1)) 3
delay_possible = taken 2 1 3 condition_possible refl tt branch_feeds

pub returns-clause-condition : goal.returns-clause-condition
returns-clause-condition c = (
  IsDistinct-cons eqb 2 (3 ∷ []) (refl, tt) (IsDistinct-cons eqb 3 [] tt IsDistinct-nil),
  (
    record { possible = delay_possible; on_possible = condition_possible; waits = inr (record { sync = refl; branch = 1; reaches = seeded 3 branch_feeds }) },
    record {
      possible = condition_possible;
      on_possible = delay_possible;
      waits = inl (record {
        input = 1;
        within = record { block = record { least = lit≤ tt; most = lit≤ tt }; least = lit≤ tt; most = lit≤ tt };
        from = refl;
        through = refl;
      });
    },
  ),
)

-- the sum inherits its activation from the counter, and the gain from the sum
sum_possible : Possible gain_around_sum (Port (feed 1)) 3
sum_possible =
    inherited 2 3
    (set_off 2 (record { input = 1; within = record { block = record { least = lit≤ tt; most = lit≤ tt }; least = lit≤ tt; most = lit≤ tt }; fed = (0, lit< tt, refl) }))
    (record { some_input = lit< tt; no_activation_input = refl })
    (record { input = 1; within = record { block = record { least = lit≤ tt; most = lit≤ tt }; least = lit≤ tt; most = lit≤ tt }; from = refl })

gain_possible : Possible gain_around_sum (Port (feed 1)) 4
gain_possible =
    inherited 3 4 sum_possible
    (record { some_input = lit< tt; no_activation_input = refl })
    (record { input = 1; within = record { block = record { least = lit≤ tt; most = lit≤ tt }; least = lit≤ tt; most = lit≤ tt }; from = refl })

pub returns-clause-feedthrough : goal.returns-clause-feedthrough
returns-clause-feedthrough c = (
  IsDistinct-cons eqb 3 (4 ∷ []) (refl, tt) (IsDistinct-cons eqb 4 [] tt IsDistinct-nil),
  (
    record {
      possible = gain_possible;
      on_possible = sum_possible;
      waits = inl (record {
        input = 1;
        within = record { block = record { least = lit≤ tt; most = lit≤ tt }; least = lit≤ tt; most = lit≤ tt };
        from = refl;
        through = refl;
      });
    },
    record {
      possible = sum_possible;
      on_possible = gain_possible;
      waits = inl (record {
        input = 2;
        within = record { block = record { least = lit≤ tt; most = lit≤ tt }; least = lit≤ tt; most = lit≤ tt };
        from = refl;
        through = refl;
      });
    },
  ),
)

-- ---- no loop where the sum and the gain are activated at different times

no_sync : (b : ℕ) → IsSync gain_at_other_times b → ⊥
no_sync zero h = true≢false (sym h)
no_sync (suc zero) h = true≢false (sym h)
no_sync (suc (suc zero)) h = true≢false (sym h)
no_sync (suc (suc (suc zero))) h = true≢false (sym h)
no_sync (suc (suc (suc (suc zero)))) h = true≢false (sym h)
no_sync (suc (suc (suc (suc (suc zero))))) h = true≢false (sym h)
no_sync (suc (suc (suc (suc (suc (suc b)))))) h = true≢false (sym h)

no_constant : (b : ℕ) → IsConstant gain_at_other_times b → ⊥
no_constant zero h = omega (arith, h.block.least)
no_constant (suc zero) h = omega (arith, h.no_activation_input)
no_constant (suc (suc zero)) h = omega (arith, h.no_activation_input)
no_constant (suc (suc (suc zero))) h = omega (arith, h.no_activation_input)
no_constant (suc (suc (suc (suc zero)))) h = omega (arith, h.no_activation_input)
no_constant (suc (suc (suc (suc (suc zero))))) h = omega (arith, h.no_activation_input)
no_constant (suc (suc (suc (suc (suc (suc b)))))) h = omega (arith, h.block.most)

only_fed : (p q : Feed) → Contains (p ∷ []) q → p ≡ q
only_fed p q (zero, l, e) = e
only_fed p q (suc k, l, e) = absurd (omega (arith, l))

-- the gain is fed by the second timer alone, the sum by the first
gain_fed : (k : ℕ) → Contains (feeds_of gain_at_other_times 4 k) (feed 1) → ⊥
gain_fed zero h = omega (arith, h.1)
gain_fed (suc zero) h = let e = ap (λ (v : Feed). v.block) (only_fed (feed 5) (feed 1) h) in omega (arith, e)
gain_fed (suc (suc k)) h = omega (arith, h.1)

sum_fed : (k : ℕ) → Contains (feeds_of gain_at_other_times 3 k) (feed 5) → ⊥
sum_fed zero h = omega (arith, h.1)
sum_fed (suc zero) h = let e = ap (λ (v : Feed). v.block) (only_fed (feed 1) (feed 5) h) in omega (arith, e)
sum_fed (suc (suc k)) h = omega (arith, h.1)

no_gain : Possible gain_at_other_times (Port (feed 1)) 4 → ⊥
no_gain may =
    let P : ℕ → Type 0 = λ b. b ≡ 4 → ⊥ in
    Spread-least gain_at_other_times (Port (feed 1)) _ P
    (λ b fed same. gain_fed fed.input (subst (λ v. Contains (feeds_of gain_at_other_times v fed.input) (feed 1)) same fed.fed))
    (λ a p b h sync t fed same. no_sync a sync)
    (λ a b h i u same. let e = subst (λ v. (spec_of gain_at_other_times v).evtin ≡ 0) same i.no_activation_input in omega (arith, e))
    may refl

no_sum : Possible gain_at_other_times (Port (feed 5)) 3 → ⊥
no_sum may =
    let P : ℕ → Type 0 = λ b. b ≡ 3 → ⊥ in
    Spread-least gain_at_other_times (Port (feed 5)) _ P
    (λ b fed same. sum_fed fed.input (subst (λ v. Contains (feeds_of gain_at_other_times v fed.input) (feed 5)) same fed.fed))
    (λ a p b h sync t fed same. no_sync a sync)
    (λ a b h i u same. let e = subst (λ v. (spec_of gain_at_other_times v).evtin ≡ 0) same i.no_activation_input in omega (arith, e))
    may refl

nothing_at_start : (b : ℕ) → Possible gain_at_other_times Start b → ⊥
nothing_at_start b may =
    Spread-least gain_at_other_times Start _ (λ v. ⊥) (λ v h. no_constant v h) (λ a p v h sync t fed. h) (λ a v h i u. h) may

-- of all inputs, those of the sum are fed by the counter and the gain, and that of the gain by the sum
abbrev Wired : ℕ → ℕ → Type 0
Wired c b = ((c ≡ 3) × ((b ≡ 2) ⊎ (b ≡ 4))) ⊎ ((c ≡ 4) × (b ≡ 3))

wires_are : (c k b : ℕ) → 1 ≤ k → k ≤ length (spec_of gain_at_other_times c).ins → (wire_of gain_at_other_times c k).block ≡ b → Wired c b
wires_are zero k b least most e = absurd (omega (arith, least, most))
wires_are (suc zero) k b least most e = absurd (omega (arith, least, most))
wires_are (suc (suc zero)) k b least most e = absurd (omega (arith, least, most))
wires_are (suc (suc (suc zero))) zero b least most e = absurd (omega (arith, least))
wires_are (suc (suc (suc zero))) (suc zero) b least most e = inl (refl, inl (sym e))
wires_are (suc (suc (suc zero))) (suc (suc zero)) b least most e = inl (refl, inr (sym e))
wires_are (suc (suc (suc zero))) (suc (suc (suc k))) b least most e = absurd (omega (arith, most))
wires_are (suc (suc (suc (suc zero)))) zero b least most e = absurd (omega (arith, least))
wires_are (suc (suc (suc (suc zero)))) (suc zero) b least most e = inr (refl, sym e)
wires_are (suc (suc (suc (suc zero)))) (suc (suc k)) b least most e = absurd (omega (arith, most))
wires_are (suc (suc (suc (suc (suc zero))))) k b least most e = absurd (omega (arith, least, most))
wires_are (suc (suc (suc (suc (suc (suc c)))))) k b least most e = absurd (omega (arith, least, most))

wired : (s : Source) (c b : ℕ) → Depends gain_at_other_times s c b → Wired c b
wired s c b dep =
    ⊎_elim (λ u. wires_are c u.input b u.within.least u.within.most u.from) (λ k. absurd (no_sync b k.sync)) dep.waits

-- at the first timer the sum depends on the counter, and nothing else depends on anything
rank : ℕ → ℕ
rank b = cond (eqb b 3) 1 0

rank_falls : (c b : ℕ) → Depends gain_at_other_times (Port (feed 1)) c b → rank b < rank c
unfolding rank
rank_falls c b dep =
    ⊎_elim
    (λ sum. ⊎_elim
    (λ two. subst (λ v. rank b < rank v) (sym sum.0) (subst (λ v. rank v < rank 3) (sym two) (lit< tt)))
    (λ four. absurd (no_gain (subst (Possible gain_at_other_times (Port (feed 1))) four dep.on_possible)))
    sum.1)
    (λ gain. absurd (no_gain (subst (Possible gain_at_other_times (Port (feed 1))) gain.0 dep.possible)))
    (wired (Port (feed 1)) c b dep)

-- at the second nothing does
none_depends : (c b : ℕ) → Depends gain_at_other_times (Port (feed 5)) c b → ⊥
none_depends c b dep =
    ⊎_elim
    (λ sum. no_sum (subst (Possible gain_at_other_times (Port (feed 5))) sum.0 dep.possible))
    (λ gain. no_sum (subst (Possible gain_at_other_times (Port (feed 5))) gain.1 dep.on_possible))
    (wired (Port (feed 5)) c b dep)

pub returns-clause-none : goal.returns-clause-none
returns-clause-none c = (
  ranked_no_loop (Depends gain_at_other_times Start) (λ b. 0) (λ d b dep. absurd (nothing_at_start d dep.possible)),
  ranked_no_loop (Depends gain_at_other_times (Port (feed 1))) rank rank_falls,
  ranked_no_loop (Depends gain_at_other_times (Port (feed 5))) (λ b. 0) (λ d b dep. absurd (none_depends d b dep)),
)

pub returns-clause-net : goal.returns-clause-net
returns-clause-net c = other_times_is_net

-- ---- a gated delay behind a sum of its own output

gate_possible : Possible sum_into_second (Port (feed 1)) 2
gate_possible =
    set_off 2 (record { input = 1; within = record { block = record { least = lit≤ tt; most = lit≤ tt }; least = lit≤ tt; most = lit≤ tt }; fed = (0, lit< tt, refl) })

gated_sum_possible : Possible sum_into_second (Port (feed 1)) 4
gated_sum_possible =
    inherited 2 4 gate_possible
    (record { some_input = lit< tt; no_activation_input = refl })
    (record { input = 1; within = record { block = record { least = lit≤ tt; most = lit≤ tt }; least = lit≤ tt; most = lit≤ tt }; from = refl })

pub returns-clause-second_input : goal.returns-clause-second_input
returns-clause-second_input c = (
  IsDistinct-cons eqb 2 (4 ∷ []) (refl, tt) (IsDistinct-cons eqb 4 [] tt IsDistinct-nil),
  (
    record {
      possible = gated_sum_possible;
      on_possible = gate_possible;
      waits = inl (record {
        input = 1;
        within = record { block = record { least = lit≤ tt; most = lit≤ tt }; least = lit≤ tt; most = lit≤ tt };
        from = refl;
        through = refl;
      });
    },
    record {
      possible = gate_possible;
      on_possible = gated_sum_possible;
      waits = inl (record {
        input = 2;
        within = record { block = record { least = lit≤ tt; most = lit≤ tt }; least = lit≤ tt; most = lit≤ tt };
        from = refl;
        through = refl;
      });
    },
  ),
)

gate_no_sync : (b : ℕ) → IsSync sum_into_first b → ⊥
gate_no_sync zero h = true≢false (sym h)
gate_no_sync (suc zero) h = true≢false (sym h)
gate_no_sync (suc (suc zero)) h = true≢false (sym h)
gate_no_sync (suc (suc (suc zero))) h = true≢false (sym h)
gate_no_sync (suc (suc (suc (suc zero)))) h = true≢false (sym h)
gate_no_sync (suc (suc (suc (suc (suc b))))) h = true≢false (sym h)

-- through inputs with feedthrough, the sum waits for the delay and the constant, and the delay for the constant
abbrev GateWaits : ℕ → ℕ → Type 0
GateWaits c b = ((c ≡ 4) × ((b ≡ 2) ⊎ (b ≡ 3))) ⊎ ((c ≡ 2) × (b ≡ 3))

gate_waits : (c k b : ℕ) → 1 ≤ k → k ≤ length (spec_of sum_into_first c).ins → (wire_of sum_into_first c k).block ≡ b → has_feedthrough (spec_of sum_into_first c) k ≡ true → GateWaits c b
gate_waits zero k b least most e on = absurd (omega (arith, least, most))
gate_waits (suc zero) k b least most e on = absurd (omega (arith, least, most))
gate_waits (suc (suc zero)) zero b least most e on = absurd (omega (arith, least))
gate_waits (suc (suc zero)) (suc zero) b least most e on = absurd (true≢false (sym on))
gate_waits (suc (suc zero)) (suc (suc zero)) b least most e on = inr (refl, sym e)
gate_waits (suc (suc zero)) (suc (suc (suc k))) b least most e on = absurd (omega (arith, most))
gate_waits (suc (suc (suc zero))) k b least most e on = absurd (omega (arith, least, most))
gate_waits (suc (suc (suc (suc zero)))) zero b least most e on = absurd (omega (arith, least))
gate_waits (suc (suc (suc (suc zero)))) (suc zero) b least most e on = inl (refl, inl (sym e))
gate_waits (suc (suc (suc (suc zero)))) (suc (suc zero)) b least most e on = inl (refl, inr (sym e))
gate_waits (suc (suc (suc (suc zero)))) (suc (suc (suc k))) b least most e on = absurd (omega (arith, most))
gate_waits (suc (suc (suc (suc (suc c))))) k b least most e on = absurd (omega (arith, least, most))

gate_rank : ℕ → ℕ
gate_rank b = cond (eqb b 4) 2 (cond (eqb b 2) 1 0)

gate_rank_falls : (c b : ℕ) → Depends sum_into_first (Port (feed 1)) c b → gate_rank b < gate_rank c
unfolding gate_rank
gate_rank_falls c b dep =
    ⊎_elim
    (λ u. ⊎_elim
    (λ of_sum. subst (λ v. gate_rank b < gate_rank v) (sym of_sum.0)
    (⊎_elim (λ two. subst (λ v. gate_rank v < gate_rank 4) (sym two) (lit< tt)) (λ three. subst (λ v. gate_rank v < gate_rank 4) (sym three) (lit< tt)) of_sum.1))
    (λ of_gate. subst (λ v. gate_rank b < gate_rank v) (sym of_gate.0) (subst (λ v. gate_rank v < gate_rank 2) (sym of_gate.1) (lit< tt)))
    (gate_waits c u.input b u.within.least u.within.most u.from u.through))
    (λ k. absurd (gate_no_sync b k.sync))
    dep.waits

pub returns-clause-first_input : goal.returns-clause-first_input
returns-clause-first_input c = ranked_no_loop (Depends sum_into_first (Port (feed 1))) gate_rank gate_rank_falls
