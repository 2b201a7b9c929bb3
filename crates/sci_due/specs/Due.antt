-- The table of due dates of a C program, and the port whose event is next.
use Rattle.std.specs.Prelude.{◌≡◌, ℕ, suc, ◌+◌, ◌-◌, ◌*◌, ◌/◌, ◌<◌, ◌≤◌, ℤ, pos, negsuc, ◌<ℤ◌, ◌≤ℤ◌, List, Some, Bool, true, false, ◌&&◌, ◌||◌, ◌⊎◌, Contains, nat_eq, nat_lt, int_lt, int_le, if◌then◌else◌}
use Rattle.sci_base.specs.Fit.{int_eq}
use Rattle.sci_pending.specs.Pending.{Event}
use Rattle.c_ast.specs.declared.Name.{Name}
use Rattle.sci_due.specs.declared.due_table.TheConstants.{GROUP}
use Rattle.sci_due.specs.declared.due_table.DueTable.{DueTable}
use Rattle.sci_due.specs.declared.due_table.DueTable.TheVariants.{Dates, Orders, Groups}
use Rattle.c_mean.specs.Meaning.{World, same_name}
use Rattle.c_mean.specs.Places.{named, get, Has}

-- Of each port, counted from 0, the date of its pending event, or -1 where it has none, and the event's order.
pub record Table : Type 0 where
  pub date : ℕ → ℤ
  pub order : ℕ → ℤ

-- port i's event comes before port b's
abbrev pub sooner : Table → ℕ → ℕ → Bool
sooner t i b = int_lt (t.date i) (t.date b) || (int_eq (t.date i) (t.date b) && int_lt (t.order i) (t.order b))

-- port u has an event, and port b has none or one that comes later
abbrev pub better : Table → ℕ → ℕ → Bool
better t u b = int_le (pos 0) (t.date u) && (int_lt (t.date b) (pos 0) || sooner t u b)

-- port b's event doesn't come after port i's
abbrev pub AtMost : Table → ℕ → ℕ → Type 0
AtMost t b i = (t.date b <ℤ t.date i) ⊎ ((t.date b ≡ t.date i) × (t.order b ≤ℤ t.order i))

-- Port b is one of these. Where one of them has an event, b has one, and none comes before it.
pub record IsFirstOf (t : Table) (ports : ℕ → Type 0) (b : ℕ) : Type 0 where
  pub among : ports b
  pub first : (i : ℕ) → ports i → pos 0 ≤ℤ t.date i → (pos 0 ≤ℤ t.date b) × AtMost t b i

-- another date, or another order, at one port
abbrev pub with_date : Table → ℕ → ℤ → Table
with_date t i date = record { date = λ j. if nat_eq i j then date else t.date j; order = t.order }

abbrev pub with_order : Table → ℕ → ℤ → Table
with_order t i order = record { date = t.date; order = λ j. if nat_eq i j then order else t.order j }

-- the event of this date and order at one port
abbrev pub with_event : Table → ℕ → ℕ → ℕ → Table
with_event t i date order = with_order (with_date t i (pos date)) i (pos order)

-- no event at one port
abbrev pub freed : Table → ℕ → Table
freed t i = with_date t i (negsuc 0)

-- ---- the table and the pending events

-- The event stands in the table of n ports. Port i is source i + 1: source 0 is start, which is never programmed.
pub record Stands (t : Table) (n : ℕ) (e : Event) : Type 0 where
  pub port : ℕ
  pub is : e.source ≡ suc port
  pub within : port < n
  pub date : t.date port ≡ pos e.date
  pub order : t.order port ≡ pos e.order

-- an event of port i is pending
abbrev pub HasEvent : List Event → ℕ → Type 0
HasEvent es i = (e : Event) × (Contains es e × (e.source ≡ suc i))

-- The table of n ports shows exactly these events.
pub record IsTable (t : Table) (n : ℕ) (es : List Event) : Type 0 where
  pub there : (e : Event) → Contains es e → Stands t n e
  pub free : (i : ℕ) → i < n → (t.date i ≡ negsuc 0) ⊎ HasEvent es i

-- ---- groups of ports

-- more ports than one group has stand in groups, the last of which may have fewer
abbrev pub are_grouped : ℕ → Bool
are_grouped n = nat_lt GROUP n

abbrev pub group_count : ℕ → ℕ
group_count n = suc ((n - 1) / GROUP)

-- what the table of n ports keeps
abbrev pub due_table : ℕ → DueTable
due_table n = if are_grouped n then Groups else (if nat_lt 1 n then Orders else Dates)

abbrev pub keeps_orders : DueTable → Bool
keeps_orders Dates = false
keeps_orders Orders = true
keeps_orders Groups = true

abbrev pub keeps_groups : DueTable → Bool
keeps_groups Dates = false
keeps_groups Orders = false
keeps_groups Groups = true

-- the ports of group g
pub record InGroup (n g i : ℕ) : Type 0 where
  pub least : GROUP * g ≤ i
  pub most : i < GROUP * g + GROUP
  pub within : i < n

-- ---- the table in memory

abbrev pub dates : Name
dates = named 118 6

abbrev pub orders : Name
orders = named 118 7

-- the chosen port, and the date of its event, or -1 where no event is pending
abbrev pub best : Name
best = named 98 1

abbrev pub coming : Name
coming = named 100 2

-- of each group whether its first port is known, and the port
abbrev pub fresh : Name
fresh = named 118 8

abbrev pub firsts : Name
firsts = named 118 9

-- the counter of the scan
abbrev pub scan : Name
scan = named 107 1

-- the date of the reaction, the order of the next event that is programmed, and a delay
abbrev pub now : Name
now = named 100 1

abbrev pub last : Name
last = named 111 1

abbrev pub delay : Name
delay = named 101 1

-- the first port of a group is known
pub record KnowsGroup (t : Table) (n g : ℕ) (w : World) : Type 0 where
  pub flag : get w fresh g ≡ Some (pos 1)
  pub port : ℕ
  pub is : get w firsts g ≡ Some (pos port)
  pub first : IsFirstOf t (InGroup n g) port

-- or it isn't
abbrev pub ShowsGroup : Table → (n g : ℕ) → World → Type 0
ShowsGroup t n g w = Has w firsts g × ((get w fresh g ≡ Some (pos 0)) ⊎ KnowsGroup t n g w)

-- Memory shows the dates of n ports, of several the orders, and of many what is known of the groups.
pub record ShowsTable (t : Table) (n : ℕ) (w : World) : Type 0 where
  pub date : (i : ℕ) → i < n → get w dates i ≡ Some (t.date i)
  pub order : 2 ≤ n → (i : ℕ) → i < n → get w orders i ≡ Some (t.order i)
  pub group : GROUP < n → (g : ℕ) → g < group_count n → ShowsGroup t n g w

-- ---- what the texts assign

abbrev pub is_choosing : Name → Bool
is_choosing x = same_name best x || (same_name coming x || (same_name scan x || (same_name firsts x || same_name fresh x)))

abbrev pub is_taking : Name → Bool
is_taking x = same_name now x || (same_name dates x || same_name fresh x)

abbrev pub is_programming : Name → Bool
is_programming x = same_name delay x || (same_name last x || (same_name dates x || (same_name orders x || same_name fresh x)))
