-- Feeding, worked out by hand.
use Rattle.std.specs.Prelude.{◌≡◌, ℕ, ℤ, pos, negsuc, List, [], ◌∷◌, codes, None}
use Rattle.sci_base.specs.Plain.{Fields}
use Rattle.sci_diagram.specs.Objects.{Object, block, link, Objects, no_objects, object, objects_of}
use Rattle.sci_blocks.specs.declared.class.PortClass.TheVariants.{Input, Output, ActivationInput, ActivationOutput}
use Rattle.sci_goto.specs.Phase.{tags_of}
use Rattle.sci_goto.specs.Worked.{goto, taken, clock_goto, clock_taken, wire, tag_7, local_7, global_7, counter, from_inside, both_scopes}
use Rattle.sci_flat.specs.Ports.{port}
use Rattle.sci_flat.specs.Tagged.{tag_steps}
use Rattle.sci_flat.specs.Feeds.{Feeds}

abbrev pub clocked : ℕ → ℕ → Fields
clocked evtin evtout = record { ins = []; in2 = []; intyp = []; outs = []; out2 = []; outtyp = []; evtin = evtin; evtout = evtout; dstate = []; ipar = []; firing = []; dep = None }

abbrev pub activation : ℤ → ℤ → ℤ → Object
activation from to p = link (record { block = from; port = pos 1; side = pos 0 }) (record { block = to; port = p; side = pos 1 }) (negsuc 0)

-- a timer whose event reaches its own input through a union, on two ways
abbrev pub timer_and_union : Objects
timer_and_union =
    object (block (codes "EVTDLY_c") (clocked 1 1)) (object (block (codes "CLKSOM_f") (clocked 2 1))
    (object (activation (pos 1) (pos 2) (pos 1)) (object (activation (pos 1) (pos 2) (pos 2)) (object (activation (pos 2) (pos 1) (pos 1)) no_objects))))

-- 1 gives tag 7 to 2, which feeds it
abbrev pub circle : List Object
circle = goto local_7 ∷ taken tag_7 ∷ wire 2 1 (pos 1) ∷ []

pub record WorkedFeeds : Type 0 where
  pub union : Feeds timer_and_union (port (1 ∷ []) ActivationOutput (pos 1)) (port (1 ∷ []) ActivationInput (pos 1))
  -- the sum feeds the delay, the constant inside the superblock the gain
  pub delay_fed : Feeds (objects_of (counter tag_7)) (port (3 ∷ []) Output (pos 1)) (port (4 ∷ []) Input (pos 1))
  pub gain_fed : Feeds (objects_of (from_inside global_7)) (port (1 ∷ 1 ∷ []) Output (pos 1)) (port (3 ∷ []) Input (pos 1))
  -- the local one is preferred
  pub preferred : tag_steps (tags_of (objects_of both_scopes))
      ≡ (port (2 ∷ 2 ∷ []) Input (pos 1), port (2 ∷ 1 ∷ []) Output (pos 1)) ∷ (port (1 ∷ []) Input (pos 1), port (3 ∷ []) Output (pos 1)) ∷ []
  -- activation tags lead from an activation input to an activation output
  pub clock : tag_steps (tags_of (objects_of (goto local_7 ∷ clock_goto local_7 ∷ clock_taken tag_7 ∷ [])))
      ≡ (port (2 ∷ []) ActivationInput (pos 1), port (3 ∷ []) ActivationOutput (pos 1)) ∷ []
  pub round : Feeds (objects_of circle) (port (1 ∷ []) Input (pos 1)) (port (2 ∷ []) Output (pos 1))
  pub back : Feeds (objects_of circle) (port (2 ∷ []) Output (pos 1)) (port (1 ∷ []) Input (pos 1))
