-- A net before its run.
use Rattle.std.proofs.Common.{◌≡◌, ℕ, ◌+◌, ◌<◌, Bool, true, false, cond, List, [], ◌∷◌, length, refl, ap, sym, subst, arith, true≢false}
use Rattle.std.specs.Prelude.{◌==◌}
use Rattle.sci_forms.specs.declared.spec.Spec.{Spec}
use Rattle.sci_forms.specs.Numbers.{number_of}
use Rattle.sci_net.specs.Parts.{Parts, IsBlock}
use Rattle.sci_reaction.specs.Memory.{first_memory}
use Rattle.sci_reaction.proofs.Next.{first_in_range}
use Rattle.sci_run.specs.Activity.{halts_from}
use Rattle.sci_run.specs.Counts.{activations_from}
use Rattle.sci_run.specs.Programs.{first_pending}
use Rattle.sci_places.specs.Flat.{values_at}
use Rattle.sci_agenda.specs.Wheel.{Wheel}
use Rattle.sci_bank.specs.declared.instance.Instance.{Instance}
use Rattle.sci_bank.specs.Bank.{Meaning}
use Rattle.sci_bank.specs.Library.{AreInOrder, IsFull}
use Rattle.sci_store.specs.declared.marks.Mark.{Mark}
use Rattle.sci_store.specs.Rows.{ReadyRow}
use Rattle.sci_sim.specs.Rows.{AreRowsOf}
use Rattle.sci_store.specs.Frame.{Fixed, IsFrame}
use Rattle.sci_store.specs.Seating.{IsSeating}
use Rattle.sci_store.specs.Store.{Standing, AreIdle, cursor_at}
use Rattle.sci_store.proofs.Starting.{seats_are}
use Rattle.sci_sim.specs.Programming.{Keeps}
use Rattle.sci_sim.specs.At.{Running, IsReady, IsAtStart}

-- the first source is start
pub first_row_within : (f : Fixed) (rows : List ReadyRow) → AreRowsOf f rows → 0 < length rows
first_row_within f rows h = omega (arith, h.enough)

-- ---- the state before the run

no_call : (t : Bool) → ◌≡◌ {A = ℕ} (cond t 0 0) 0
no_call true = refl
no_call false = refl

pub no_activations : (counts : Spec → Bool) (b : ℕ) (ss : List Spec) → activations_from counts b ss (λ c. 0) ≡ 0
no_activations counts b [] = refl
no_activations counts b (s ∷ ss) = let here = no_call (counts s) in let rest = no_activations counts (b + 1) ss in omega (arith, here, rest)

pub no_halt : (b : ℕ) (ss : List Spec) → false ≡ halts_from b ss (λ c. false)
no_halt b [] = refl
no_halt b (s ∷ ss) = no_halt (b + 1) ss

abbrev pub at_rest : Fixed → List ReadyRow → Standing → Wheel → Running
at_rest f rows s w = record { fixed = f; rows = rows; store = s; wheel = w; offset = 0; now = 0; fired = 0; row = 0; has_row = false; started = false; halted = false }

module _ (f : Fixed) (rows : List ReadyRow) (s : Standing) (w : Wheel) (frame : IsFrame f) (idle : AreIdle f s) where
  pub ready_is : AreRowsOf f rows → IsReady (at_rest f rows s w)
  ready_is are = record {
    frame = frame;
    rows = are;
    row = first_row_within f rows are;
    begun = λ has. absurd (true≢false (sym has));
    marked = λ b block out. idle b block;
  }

  pub start_is : (n : Parts) → f.net ≡ n → (banks : List Meaning) → IsFull banks → AreInOrder banks → IsSeating f.net f.seats banks
      → ((b : ℕ) → IsBlock f.net b → values_at f.net s.values b ≡ (first_memory f.net).held b) → ((b : ℕ) → IsBlock f.net b → cursor_at s b ≡ 0)
      → s.lines ≡ 0 → s.sum ≡ 0
      → Keeps n 0 0 w.meaning w.puts (first_pending n) → IsAtStart n (at_rest f rows s w) banks
  start_is n same banks full order seated held cursors lines sum keeps = subst (λ (m : Parts). IsAtStart m (at_rest f rows s w) banks) same (record {
    net = refl;
    not_started = refl;
    at = record {
      shown = record {
        seated = seats_are f banks full order seated;
        memory = record { held = held; cursor = cursors; state = λ b block. ap (λ (r : Instance). r.state) (seated.rows b block) };
        in_range = first_in_range f.net frame.net;
        pending = subst (λ (m : Parts). Keeps m 0 0 w.meaning w.puts (first_pending m)) (sym same) keeps;
        counts = λ k.
            let none = no_activations (λ (t : Spec). number_of t.kind == number_of k) 1 f.net.specs in
            let calls = seated.counts k in
            omega (arith, none, calls);
      };
      now = refl;
      fired = refl;
      active = λ b block. ap (λ (m : Mark). m.active) (idle b block);
      halted = no_halt 1 f.net.specs;
    };
    idle = idle;
    no_offset = refl;
    row = refl;
    lines = lines;
    sum = sum;
  })
