-- A small net is well formed.
use Rattle.std.proofs.Common.{◌≡◌, ℕ, zero, suc, ◌≤◌, true, [], ◌∷◌, length, Contains, refl, sym, subst, lit≤, arith, true≢false}
use Rattle.sci_forms.specs.Typed.{typed}
use Rattle.sci_net.specs.declared.Feed.{Feed}
use Rattle.sci_net.specs.Parts.{Parts, IsBlock, IsOutput, IsActivationOutput, AreRising, numbered, spec_of, wire_of, feeds_of, input_of, output_of}
use Rattle.sci_forms.specs.Form.{is_sensor}
use Rattle.sci_net.specs.Net.{IsNet}
use Rattle.sci_reaction.specs.Worked.{feed, gain_at_other_times}

abbrev net : Parts
net = gain_at_other_times

one_wire_each : (b : ℕ) → length (numbered [] net.wires b) ≡ length (spec_of net b).ins
one_wire_each zero = refl
one_wire_each (suc zero) = refl
one_wire_each (suc (suc zero)) = refl
one_wire_each (suc (suc (suc zero))) = refl
one_wire_each (suc (suc (suc (suc zero)))) = refl
one_wire_each (suc (suc (suc (suc (suc zero))))) = refl
one_wire_each (suc (suc (suc (suc (suc (suc b)))))) = refl

one_feed_list_each : (b : ℕ) → length (numbered [] net.feeds b) ≡ (spec_of net b).evtin
one_feed_list_each zero = refl
one_feed_list_each (suc zero) = refl
one_feed_list_each (suc (suc zero)) = refl
one_feed_list_each (suc (suc (suc zero))) = refl
one_feed_list_each (suc (suc (suc (suc zero)))) = refl
one_feed_list_each (suc (suc (suc (suc (suc zero))))) = refl
one_feed_list_each (suc (suc (suc (suc (suc (suc b)))))) = refl

-- the sum is fed by the counter and the gain, the gain by the sum
wires_lead : (b k : ℕ) → 1 ≤ k → k ≤ length (spec_of net b).ins → IsOutput net (wire_of net b k).block (wire_of net b k).port
wires_lead zero k least most = absurd (omega (arith, least, most))
wires_lead (suc zero) k least most = absurd (omega (arith, least, most))
wires_lead (suc (suc zero)) k least most = absurd (omega (arith, least, most))
wires_lead (suc (suc (suc zero))) zero least most = absurd (omega (arith, least))
wires_lead (suc (suc (suc zero))) (suc zero) least most = record { block = record { least = lit≤ tt; most = lit≤ tt }; least = lit≤ tt; most = lit≤ tt }
wires_lead (suc (suc (suc zero))) (suc (suc zero)) least most = record { block = record { least = lit≤ tt; most = lit≤ tt }; least = lit≤ tt; most = lit≤ tt }
wires_lead (suc (suc (suc zero))) (suc (suc (suc k))) least most = absurd (omega (arith, most))
wires_lead (suc (suc (suc (suc zero)))) zero least most = absurd (omega (arith, least))
wires_lead (suc (suc (suc (suc zero)))) (suc zero) least most = record { block = record { least = lit≤ tt; most = lit≤ tt }; least = lit≤ tt; most = lit≤ tt }
wires_lead (suc (suc (suc (suc zero)))) (suc (suc k)) least most = absurd (omega (arith, most))
wires_lead (suc (suc (suc (suc (suc zero))))) k least most = absurd (omega (arith, least, most))
wires_lead (suc (suc (suc (suc (suc (suc b)))))) k least most = absurd (omega (arith, least, most))

joined : (b k : ℕ) → 1 ≤ k → k ≤ length (spec_of net b).ins → output_of net (wire_of net b k).block (wire_of net b k).port ≡ input_of net b k
joined zero k least most = absurd (omega (arith, least, most))
joined (suc zero) k least most = absurd (omega (arith, least, most))
joined (suc (suc zero)) k least most = absurd (omega (arith, least, most))
joined (suc (suc (suc zero))) zero least most = absurd (omega (arith, least))
joined (suc (suc (suc zero))) (suc zero) least most = refl
joined (suc (suc (suc zero))) (suc (suc zero)) least most = refl
joined (suc (suc (suc zero))) (suc (suc (suc k))) least most = absurd (omega (arith, most))
joined (suc (suc (suc (suc zero)))) zero least most = absurd (omega (arith, least))
joined (suc (suc (suc (suc zero)))) (suc zero) least most = refl
joined (suc (suc (suc (suc zero)))) (suc (suc k)) least most = absurd (omega (arith, most))
joined (suc (suc (suc (suc (suc zero))))) k least most = absurd (omega (arith, least, most))
joined (suc (suc (suc (suc (suc (suc b)))))) k least most = absurd (omega (arith, least, most))

-- each activation input has one feed
one_each : (b p : ℕ) → length (feeds_of net b p) ≤ 1
one_each zero zero = omega arith
one_each zero (suc p) = omega arith
one_each (suc zero) zero = lit≤ tt
one_each (suc zero) (suc zero) = lit≤ tt
one_each (suc zero) (suc (suc p)) = omega arith
one_each (suc (suc zero)) zero = lit≤ tt
one_each (suc (suc zero)) (suc zero) = lit≤ tt
one_each (suc (suc zero)) (suc (suc p)) = omega arith
one_each (suc (suc (suc zero))) zero = lit≤ tt
one_each (suc (suc (suc zero))) (suc zero) = lit≤ tt
one_each (suc (suc (suc zero))) (suc (suc p)) = omega arith
one_each (suc (suc (suc (suc zero)))) zero = lit≤ tt
one_each (suc (suc (suc (suc zero)))) (suc zero) = lit≤ tt
one_each (suc (suc (suc (suc zero)))) (suc (suc p)) = omega arith
one_each (suc (suc (suc (suc (suc zero))))) zero = lit≤ tt
one_each (suc (suc (suc (suc (suc zero))))) (suc zero) = lit≤ tt
one_each (suc (suc (suc (suc (suc zero))))) (suc (suc p)) = omega arith
one_each (suc (suc (suc (suc (suc (suc b)))))) zero = omega arith
one_each (suc (suc (suc (suc (suc (suc b)))))) (suc p) = omega arith

feeds_rise : (b p : ℕ) → AreRising (feeds_of net b p)
feeds_rise b p i j d l h = absurd (let one = one_each b p in omega (arith, l, h, one))

only : (P : Feed → Type 0) (p q : Feed) → P p → Contains (p ∷ []) q → P q
only P p q h (zero, l, e) = subst P e h
only P p q h (suc k, l, e) = absurd (omega (arith, l))

abbrev IsOut : Feed → Type 0
IsOut q = IsActivationOutput net q.block q.port

-- the first timer feeds itself, the counter and the sum; the second the gain and itself
feeds_lead : (b p : ℕ) (q : Feed) → Contains (feeds_of net b p) q → IsOut q
feeds_lead zero zero q h = absurd (omega (arith, h.1))
feeds_lead zero (suc p) q h = absurd (omega (arith, h.1))
feeds_lead (suc zero) zero q h = absurd (omega (arith, h.1))
feeds_lead (suc zero) (suc zero) q h = only IsOut (feed 1) q (record { block = record { least = lit≤ tt; most = lit≤ tt }; least = lit≤ tt; most = lit≤ tt }) h
feeds_lead (suc zero) (suc (suc p)) q h = absurd (omega (arith, h.1))
feeds_lead (suc (suc zero)) zero q h = absurd (omega (arith, h.1))
feeds_lead (suc (suc zero)) (suc zero) q h = only IsOut (feed 1) q (record { block = record { least = lit≤ tt; most = lit≤ tt }; least = lit≤ tt; most = lit≤ tt }) h
feeds_lead (suc (suc zero)) (suc (suc p)) q h = absurd (omega (arith, h.1))
feeds_lead (suc (suc (suc zero))) zero q h = absurd (omega (arith, h.1))
feeds_lead (suc (suc (suc zero))) (suc zero) q h = only IsOut (feed 1) q (record { block = record { least = lit≤ tt; most = lit≤ tt }; least = lit≤ tt; most = lit≤ tt }) h
feeds_lead (suc (suc (suc zero))) (suc (suc p)) q h = absurd (omega (arith, h.1))
feeds_lead (suc (suc (suc (suc zero)))) zero q h = absurd (omega (arith, h.1))
feeds_lead (suc (suc (suc (suc zero)))) (suc zero) q h = only IsOut (feed 5) q (record { block = record { least = lit≤ tt; most = lit≤ tt }; least = lit≤ tt; most = lit≤ tt }) h
feeds_lead (suc (suc (suc (suc zero)))) (suc (suc p)) q h = absurd (omega (arith, h.1))
feeds_lead (suc (suc (suc (suc (suc zero))))) zero q h = absurd (omega (arith, h.1))
feeds_lead (suc (suc (suc (suc (suc zero))))) (suc zero) q h = only IsOut (feed 5) q (record { block = record { least = lit≤ tt; most = lit≤ tt }; least = lit≤ tt; most = lit≤ tt }) h
feeds_lead (suc (suc (suc (suc (suc zero))))) (suc (suc p)) q h = absurd (omega (arith, h.1))
feeds_lead (suc (suc (suc (suc (suc (suc b)))))) zero q h = absurd (omega (arith, h.1))
feeds_lead (suc (suc (suc (suc (suc (suc b)))))) (suc p) q h = absurd (omega (arith, h.1))

no_sensor : (b : ℕ) → is_sensor (spec_of net b).kind ≡ true → ⊥
no_sensor zero h = true≢false (sym h)
no_sensor (suc zero) h = true≢false (sym h)
no_sensor (suc (suc zero)) h = true≢false (sym h)
no_sensor (suc (suc (suc zero))) h = true≢false (sym h)
no_sensor (suc (suc (suc (suc zero)))) h = true≢false (sym h)
no_sensor (suc (suc (suc (suc (suc zero))))) h = true≢false (sym h)
no_sensor (suc (suc (suc (suc (suc (suc b)))))) h = true≢false (sym h)

all_typed : (b : ℕ) → IsBlock net b → typed (spec_of net b) ≡ true
all_typed zero h = absurd (omega (arith, h.least))
all_typed (suc zero) h = refl
all_typed (suc (suc zero)) h = refl
all_typed (suc (suc (suc zero))) h = refl
all_typed (suc (suc (suc (suc zero)))) h = refl
all_typed (suc (suc (suc (suc (suc zero))))) h = refl
all_typed (suc (suc (suc (suc (suc (suc b)))))) h = absurd (omega (arith, h.most))

pub other_times_is_net : IsNet gain_at_other_times
other_times_is_net =
    record {
      wired = record {
        few = lit≤ tt;
        one_path_each = refl;
        one_row_each = refl;
        one_wire_each = λ b h. one_wire_each b;
        one_feed_row_each = refl;
        one_feed_list_each = λ b h. one_feed_list_each b;
        wires_lead = λ b k h. wires_lead b k h.least h.most;
        feeds_rise = λ b p h. feeds_rise b p;
        feeds_lead = λ b p q h has. feeds_lead b p q has;
        own_columns = λ b c h g e. absurd (no_sensor b h.sensor);
      };
      typed_specs = all_typed;
      joined = λ b k h. joined b k h.least h.most;
      small = lit≤ tt;
    }
