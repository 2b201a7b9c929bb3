-- Tests over marks: which feeders act wherever a block does, under which branch it acts, and its masks.
use Rattle.std.specs.Prelude.{ℕ, zero, suc, ◌+◌, Bool, true, false, not, ◌&&◌, ◌||◌, nat_eq, if◌then◌else◌, List, [], ◌∷◌, ◌++◌, length, Option, Some, None, bit_or}
use Rattle.std.specs.List.{list_any, list_all}
use Rattle.std.specs.Int.{bit_at}
use Rattle.sci_forms.specs.declared.Kind.{Kind}
use Rattle.sci_forms.specs.declared.Kind.TheVariants.{Select}
use Rattle.sci_net.specs.declared.Feed.{Feed}
use Rattle.sci_net.specs.declared.Source.{Source}
use Rattle.sci_net.specs.declared.Source.TheVariants.{Start, Port}
use Rattle.sci_net.specs.Parts.{Parts, spec_of, wire_of}
use Rattle.sci_net.specs.Sources.{source_of}
use Rattle.sci_reaction.specs.Schedule.{Guard, Entry}
use Rattle.sci_ranges_base.specs.declared.masks.Masks.{Masks}
use Rattle.sci_ranges_rows.specs.Marks.{Marks, dead_of, lets, acts_at, entry_at, may_act}

-- ---- guards

abbrev pub same_branch : Guard → Guard → Bool
same_branch g h = nat_eq g.block h.block && nat_eq g.port h.port

-- a guard whose branch may be taken is one of these
abbrev pub covers : Marks → ℕ → List Guard → Guard → Bool
covers m k gs g = not (lets (dead_of m.dead) (acts_at m k) g) || list_any (same_branch g) gs

abbrev pub feeds_port : ℕ → Guard → Bool
feeds_port p g = nat_eq (bit_at g.mask p) 1

-- ---- acting together, at the source of this place

-- the feeder's entry is always activated, or the block's is so by branches alone, of which each is one of the feeder's
abbrev pub acts_too : Marks → ℕ → Option Entry → Entry → Bool
acts_too m k None c = false
acts_too m k (Some a) c = a.always || (not c.always && list_all (covers m k a.guards) c.guards)

-- the same of those that feed activation input p of the block, counted from 0
abbrev pub fed_too : Marks → ℕ → Option Entry → Entry → ℕ → Bool
fed_too m k None c p = false
fed_too m k (Some a) c p = a.always || (not (nat_eq (bit_at c.mask p) 1) && list_all (λ g. not (feeds_port p g) || covers m k a.guards g) c.guards)

-- of a SELECT_m by the activation input of this input, counted from 0
abbrev pub acts_with : Kind → Marks → ℕ → Option Entry → Entry → ℕ → Bool
acts_with Select m k a c p = fed_too m k a c p
acts_with _ m k a c p = acts_too m k a c

-- ---- having acted before

abbrev pub is_always : Option Entry → Bool
is_always None = false
is_always (Some e) = e.always

abbrev pub same_feed : Feed → Feed → Bool
same_feed q r = nat_eq q.block r.block && nat_eq q.port r.port

abbrev pub is_port : Source → Feed → Bool
is_port Start q = false
is_port (Port r) q = same_feed r q

-- by the first event, where the source isn't that one
abbrev pub acted_first : Parts → Marks → Option ℕ → Feed → ℕ → Bool
acted_first n m None q a = false
acted_first n m (Some f) q a = not (is_port (source_of n f) q) && is_always (entry_at m f a)

abbrev pub has_acted : Parts → Marks → Source → ℕ → Bool
has_acted n m Start a = false
has_acted n m (Port q) a = is_always (entry_at m 0 a) || acted_first n m m.first q a

-- ---- reading

abbrev pub acts_by_entry : Kind → Marks → ℕ → Option Entry → Option Entry → ℕ → Bool
acts_by_entry kind m k a None p = false
acts_by_entry kind m k a (Some c) p = acts_with kind m k a c p

-- input p of block c, counted from 0, is shown at the source of place k
abbrev pub shows_at : Parts → Marks → ℕ → ℕ → ℕ → Bool
shows_at n m k c p =
    let a = (wire_of n c (p + 1)).block in
    not (may_act m k c) || (has_acted n m (source_of n k) a || acts_by_entry (spec_of n c).kind m k (entry_at m k a) (entry_at m k c) p)

-- all sources of places less than k
abbrev pub all_below : (ℕ → Bool) → ℕ → Bool
all_below f zero = true
all_below f (suc k) = all_below f k && f k

abbrev pub is_shown : Parts → Marks → ℕ → ℕ → Bool
is_shown n m c p = all_below (λ k. shows_at n m k c p) (length m.rows)

-- ---- acting along

abbrev pub acts_by_entries : Marks → ℕ → Option Entry → Option Entry → Bool
acts_by_entries m k a None = false
acts_by_entries m k a (Some c) = acts_too m k a c

-- where the source of place k may activate c, it activates a
abbrev pub along_at : Marks → (k a c : ℕ) → Bool
along_at m k a c = not (may_act m k c) || acts_by_entries m k (entry_at m k a) (entry_at m k c)

-- wherever c acts, a acts too
abbrev pub is_along : Marks → (a c : ℕ) → Bool
is_along m a c = all_below (λ k. along_at m k a c) (length m.rows)

-- ---- under a branch

-- a guard whose branch may be taken is this branch
abbrev pub is_branch : Marks → ℕ → Feed → Guard → Bool
is_branch m k q g = not (lets (dead_of m.dead) (acts_at m k) g) || (nat_eq g.block q.block && nat_eq g.port q.port)

abbrev pub under_by_entry : Marks → ℕ → Feed → Option Entry → Bool
under_by_entry m k q None = false
under_by_entry m k q (Some e) = not e.always && list_all (is_branch m k q) e.guards

-- where the source may activate c, it does so by this branch alone
abbrev pub under_at : Marks → Feed → ℕ → ℕ → Bool
under_at m q k c = not (may_act m k c) || under_by_entry m k q (entry_at m k c)

abbrev pub is_under : Marks → Feed → ℕ → Bool
is_under m q c = all_below (λ k. under_at m q k c) (length m.rows)

-- ---- masks

-- the activation inputs that these guards may feed
abbrev pub fed_by : Marks → ℕ → List Guard → ℕ
fed_by m k [] = 0
fed_by m k (g ∷ gs) = if lets (dead_of m.dead) (acts_at m k) g then bit_or g.mask (fed_by m k gs) else fed_by m k gs

abbrev pub mask_at : Marks → ℕ → Option Entry → List Masks
mask_at m k None = []
mask_at m k (Some e) = record { certain = e.mask; may = bit_or e.mask (fed_by m k e.guards) } ∷ []

-- those of the sources of places less than k
abbrev pub masks_below : Marks → ℕ → ℕ → List Masks
masks_below m c zero = []
masks_below m c (suc k) = masks_below m c k ++ (if may_act m k c then mask_at m k (entry_at m k c) else [])

abbrev pub masks_of : Marks → ℕ → List Masks
masks_of m c = masks_below m c (length m.rows)
