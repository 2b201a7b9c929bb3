-- What a text leaves alone is shown as before.
use Rattle.std.proofs.Common.{◌≡◌, ℕ, ◌-◌, Bool, true, false, Some, refl, ap, ◌∙◌}
use Rattle.std.specs.Prelude.{◌||◌}
use Rattle.c_ast.specs.declared.Name.{Name}
use Rattle.c_mean.specs.Meaning.{World, truth}
use Rattle.c_mean.specs.Places.{value_of}
use Rattle.c_mean.specs.Texts.{place, assigns_only}
use Rattle.c_mean.specs.Runs.{LeftAlone}
use Rattle.c_mean.proofs.Values.{same_is}
use Rattle.sci_net.specs.declared.Feed.{Feed}
use Rattle.sci_net.specs.Parts.{Parts}
use Rattle.sci_reaction.specs.Equations.{Signals}
use Rattle.sci_run.specs.Activity.{Activity}
use Rattle.sci_pending.specs.Pending.{Pending}
use Rattle.sci_due.specs.Due.{dates, orders, last, fresh, firsts}
use Rattle.sci_due.specs.Laws.{ShowsPending}
use Rattle.sci_due.proofs.Shown.{pending_alone}
use Rattle.sci_cgen_blocks.specs.Texts.{values, states}
use Rattle.sci_program.specs.declared.part.Part.{Part}
use Rattle.sci_program.specs.declared.part.Part.TheVariants.{Absent, Sure, Marked, Taken}
use Rattle.sci_program.specs.Names.{actives, branches, limit_name, until_name}
use Rattle.sci_program.specs.Program.{natural, has_taken}
use Rattle.sci_program.specs.Shows.{ShowsValues, ShowsStates, TellsBranch, Acts, ShowsActive, ShowsBounds, HasRoom}

pub neither : (a b : Bool) → a || b ≡ false → (a ≡ false) × (b ≡ false)
neither true b h = cc
neither false b h = (refl, h)

-- the test of a branch, where memory tells of it
pub taken_test : (q : Feed) (a : Bool) (w : World) → TellsBranch q a w → value_of (has_taken q) w ≡ Some (truth a)
taken_test q a w t =
    same_is (place branches (q.block - 1)) (natural q.port) w t.taken q.port t.is refl ∙ ap (λ (u : Bool). Some (truth u)) t.same

module _ (names : Name → Bool) (w w' : World) (alone : LeftAlone (assigns_only names) w w') where
  pub values_stay : (n : Parts) (y : Signals) → names values ≡ false → ShowsValues n y w → ShowsValues n y w'
  values_stay n y h s = record { each = λ b e block l. alone.same values _ h ∙ s.each b e block l }

  pub states_stay : (n : Parts) (x : Signals) → names states ≡ false → ShowsStates n x w → ShowsStates n x w'
  states_stay n x h s = record { each = λ b i block l. alone.same states _ h ∙ s.each b i block l }

  pub acts_stay : (p : Part) (a : Bool) (b : ℕ) → names actives ≡ false → names branches ≡ false → Acts p a w b → Acts p a w' b
  acts_stay Absent a b h k s = s
  acts_stay Sure a b h k s = s
  acts_stay Marked a b h k s = alone.same actives _ h ∙ s
  acts_stay (Taken q) a b h k s = record { taken = s.taken; is = alone.same branches _ k ∙ s.is; same = s.same }

  pub active_stays : (n : Parts) (part : ℕ → Part) (active : Activity) → names actives ≡ false → names branches ≡ false → ShowsActive n part active w
      → ShowsActive n part active w'
  active_stays n part active h k s = record { each = λ b block. acts_stay (part b) (active b) b h k (s.each b block) }

  pub bounds_stay : (n : Parts) (until limit : ℕ) → names limit_name ≡ false → names until_name ≡ false → ShowsBounds n until limit w
      → ShowsBounds n until limit w'
  bounds_stay n until limit h k s = record { events = alone.same limit_name 0 h ∙ s.events; time = λ l. alone.same until_name 0 k ∙ s.time l }

  pub pending_stays : (ports : ℕ) (p : Pending) → names dates ≡ false → names orders ≡ false → names last ≡ false → names fresh ≡ false → names firsts ≡ false
      → ShowsPending ports p w → ShowsPending ports p w'
  pending_stays ports p d o l f q s = pending_alone names ports p w w' alone d o l f q s

  pub room_stays : (n : Parts) (scratch : ℕ) → HasRoom n scratch w → HasRoom n scratch w'
  room_stays n scratch r = record {
    masks = λ b block. alone.there _ _ (r.masks b block);
    scratch_names = λ k l m. alone.there _ _ (r.scratch_names k l m);
    actives = λ b block. alone.there _ _ (r.actives b block);
    branches = λ s b block. alone.there _ _ (r.branches s b block);
    scan = λ l. alone.there _ _ (r.scan l);
    chosen = λ l. alone.there _ _ (r.chosen l);
    delay = λ l. alone.there _ _ (r.delay l);
  }
