-- What the texts do to the pending events that memory shows. The texts count ports from 0: port i is source i + 1. Each law says what is known of the world
-- behind the text.
use Rattle.std.specs.Prelude.{◌≡◌, ℕ, suc, ◌+◌, ◌-◌, ◌<◌, ◌≤◌, ◌^◌, ℤ, pos, negsuc, List, Contains, Option, Some, None, false}
use Rattle.c_ast.specs.Syntax.{Exp, Block}
use Rattle.c_mean.specs.Meaning.{World, Around, run_block}
use Rattle.c_mean.specs.Places.{get, HasValue, Has}
use Rattle.c_mean.specs.Texts.{assigns_only}
use Rattle.c_mean.specs.Runs.{Leads, LeftAlone}
use Rattle.c_mean.specs.Laws.{Within, GoesOn}
use Rattle.sci_pending.specs.Pending.{Event, Pending, next, without, is_pending, replaced}
use Rattle.sci_pending.specs.Order.{IsNumbered}
use Rattle.sci_due.specs.Due.{dates, orders, best, coming, scan, now, last, delay, is_choosing, is_taking, is_programming, Table, ShowsGroup, due_table, group_count}
use Rattle.sci_due.specs.Texts.{choose_text, take_text, program_text}
use Rattle.sci_due.specs.declared.due_table.TheConstants.{GROUP}

-- what a place holds
abbrev pub held : Option ℤ → ℤ
held None = negsuc 0
held (Some z) = z

-- the dates and orders that memory holds
abbrev pub shown_table : World → Table
shown_table w = record { date = λ i. held (get w dates i); order = λ i. held (get w orders i) }

-- Memory shows the pending events, each at its source. Source k of ports 1 to n has place k - 1: source 0 is start, which is never programmed. Where there
-- are several ports, it shows the events' orders and how many were programmed; where there is one, at most one event is pending, and nothing is told by its
-- order. Where there are many, a port that is known as the first of its group is that.
pub record ShowsPending (n : ℕ) (p : Pending) (w : World) : Type 0 where
  pub there : (e : Event) → Contains p.events e → (get w dates (e.source - 1) ≡ Some (pos e.date)) × (2 ≤ n → get w orders (e.source - 1) ≡ Some (pos e.order))
  pub free : (k : ℕ) → 1 ≤ k → k ≤ n → is_pending k p.events ≡ false → get w dates (k - 1) ≡ Some (negsuc 0)
  pub orders_there : 2 ≤ n → (k : ℕ) → 1 ≤ k → k ≤ n → Has w orders (k - 1)
  pub programmed : 2 ≤ n → get w last 0 ≡ Some (pos p.programmed)
  pub groups : GROUP < n → (g : ℕ) → g < group_count n → ShowsGroup (shown_table w) n g w
  pub single : n ≤ 1 → (e f : Event) → Contains p.events e → Contains p.events f → e ≡ f

-- the events are those of ports 1 to n
abbrev pub AreOfPorts : ℕ → List Event → Type 0
AreOfPorts n es = (e : Event) → Contains es e → (1 ≤ e.source) × (e.source ≤ n)

-- the date of the next event, or -1 where none is pending
abbrev pub next_date : Option Event → ℤ
next_date None = negsuc 0
next_date (Some e) = pos e.date

-- the next event was taken from the pending ones
abbrev pub after_taking : Pending → Event → Pending
after_taking p e = record p { events = without e.order p.events }

pub record HasChosen (n : ℕ) (p : Pending) (w w' : World) : Type 0 where
  pub chosen : (e : Event) → next p.events ≡ Some e → get w' best 0 ≡ Some (pos (e.source - 1))
  pub date : get w' coming 0 ≡ Some (next_date (next p.events))
  pub pending : ShowsPending n p w'
  pub rest : LeftAlone (assigns_only is_choosing) w w'

pub record HasTaken (n : ℕ) (p : Pending) (e : Event) (w w' : World) : Type 0 where
  pub date : get w' now 0 ≡ Some (pos e.date)
  pub pending : ShowsPending n (after_taking p e) w'
  pub rest : LeftAlone (assigns_only is_taking) w w'

pub record HasProgrammed (n : ℕ) (p : Pending) (w w' : World) : Type 0 where
  pub pending : ShowsPending n p w'
  pub rest : LeftAlone (assigns_only is_programming) w w'

-- ---- the laws

-- of some ports the one of the next pending event is found, and its date, or that there is none
abbrev pub ChooseLaw : Type 0
ChooseLaw =
    (env : Around) (n : ℕ) (p : Pending) (k : ℕ) (w : World) → 1 ≤ n → n < 2 ^ 63 → IsNumbered p → AreOfPorts n p.events →
    ShowsPending n p w → Has w best 0 → Has w coming 0 → Has w scan 0 →
    Leads (run_block env k (choose_text n) w) (HasChosen n p w)

-- The next event is taken, where its port's place is told by an expression that only the choice may change: its date becomes the date of the reaction.
abbrev pub TakeLaw : Type 0
TakeLaw =
    (env : Around) (n : ℕ) (p : Pending) (e : Event) (at : Exp) (rest : Block) (k : ℕ) (w : World) → n < 2 ^ 63 → IsNumbered p → AreOfPorts n p.events →
    next p.events ≡ Some e → ShowsPending n p w → ((w' : World) → get w' best 0 ≡ get w best 0 → HasValue at w' (pos (e.source - 1))) →
    Has w now 0 → GoesOn env rest (HasTaken n p e w) (run_block env k (take_text n at rest) w)

-- A port is programmed at a date: its event is replaced by one that is a delay later.
abbrev pub ProgramLaw : Type 0
ProgramLaw =
    (env : Around) (n i date d : ℕ) (p : Pending) (e : Exp) (rest : Block) (k : ℕ) (w : World) → i < n → suc p.programmed < 2 ^ 63 → Within (pos (date + d)) →
    AreOfPorts n p.events → ShowsPending n p w → get w now 0 ≡ Some (pos date) → HasValue e w (pos d) → Has w delay 0 →
    GoesOn env rest (HasProgrammed n (replaced p (date + d) (suc i)) w) (run_block env k (program_text (due_table n) i e rest) w)

-- and with a delay below 0 nothing changes
abbrev pub NoDelayLaw : Type 0
NoDelayLaw =
    (env : Around) (n i z : ℕ) (p : Pending) (e : Exp) (rest : Block) (k : ℕ) (w : World) → ShowsPending n p w → HasValue e w (negsuc z) → Has w delay 0 →
    GoesOn env rest (HasProgrammed n p w) (run_block env k (program_text (due_table n) i e rest) w)
