-- When input k of a block takes what its feeder shows.
use Rattle.std.specs.Prelude.{◌≡◌, ℕ, ◌+◌, ◌⊎◌, false, Contains}
use Rattle.std.specs.Int.{bit_at}
use Rattle.sci_forms.specs.declared.Kind.{Kind}
use Rattle.sci_forms.specs.declared.Kind.TheVariants.{Select}
use Rattle.sci_net.specs.declared.Feed.{Feed}
use Rattle.sci_net.specs.declared.Source.{Source}
use Rattle.sci_net.specs.declared.Source.TheVariants.{Start, Port}
use Rattle.sci_net.specs.Parts.{Parts, IsActivationInput, spec_of, wire_of, feeds_of}
use Rattle.sci_reaction.specs.Links.{SourceFeeds}
use Rattle.sci_reaction.specs.Active.{IsSync, IsAlways, Reaches}
use Rattle.sci_ranges_base.specs.declared.masks.Masks.{Masks}
use Rattle.sci_ranges_reads.specs.Live.{Dead, MayAct, IsLive, IsQuiet, IsFirst}

-- ---- what may activate a block

-- branch q of a block that s may activate, which isn't dead
pub record MayBeTaken (n : Parts) (dead : Dead) (s : Source) (q : Feed) : Type 0 where
  pub acts : MayAct n dead s q.block
  pub sync : IsSync n q.block
  pub alive : dead q.block q.port ≡ false

-- ---- acting together

-- Where s activates c, it activates a: whatever the values are, or c is active by branches alone, of which each reaches a.
abbrev pub ActsToo : Parts → Dead → Source → ℕ → ℕ → Type 0
ActsToo n dead s a c = IsAlways n s a ⊎ ((IsAlways n s c → ⊥) × ((q : Feed) → MayBeTaken n dead s q → Reaches n q c → Reaches n q a))

-- the same where activation input p of c is activated
abbrev pub FedToo : Parts → Dead → Source → ℕ → ℕ → ℕ → Type 0
FedToo n dead s a c p = IsAlways n s a ⊎ ((SourceFeeds n s c p → ⊥) × ((q : Feed) → MayBeTaken n dead s q → Contains (feeds_of n c p) q → Reaches n q a))

-- a SELECT_m looks at input k only where its activation input k is activated
abbrev pub ActsWith : Kind → Parts → Dead → Source → ℕ → ℕ → ℕ → Type 0
ActsWith Select n dead s a c k = FedToo n dead s a c k
ActsWith _ n dead s a c k = ActsToo n dead s a c

-- ---- having acted before

-- by the first event: start programs none, s is another source, and that event activates a whatever the values are
pub record ActsAtFirst (n : Parts) (dead : Dead) (q : Feed) (a : ℕ) : Type 0 where
  pub first : Feed
  pub is_first : IsFirst n first
  pub other : q ≡ first → ⊥
  pub quiet : IsQuiet n dead
  pub acts : IsAlways n (Port first) a

-- behind start, and behind the first event, what these activate whatever the values are
abbrev pub HasActed : Parts → Dead → Source → ℕ → Type 0
HasActed n dead Start a = ⊥
HasActed n dead (Port q) a = IsAlways n Start a ⊎ ActsAtFirst n dead q a

-- ---- reading

-- wherever c acts, the feeder of its input k acts too, or has acted before
abbrev pub IsShown : Parts → Dead → (c k : ℕ) → Type 0
IsShown n dead c k =
    (s : Source) → IsLive n dead s → MayAct n dead s c →
    HasActed n dead s (wire_of n c k).block ⊎ ActsWith (spec_of n c).kind n dead s (wire_of n c k).block c k

-- ---- under a branch

-- c is active by branch q alone
pub record IsUnder (n : Parts) (dead : Dead) (s : Source) (c : ℕ) (q : Feed) : Type 0 where
  pub not_always : IsAlways n s c → ⊥
  pub only : (r : Feed) → MayBeTaken n dead s r → Reaches n r c → r ≡ q

-- ---- masks

-- where s activates c: the activation inputs that s feeds, and those that it or a branch may feed
pub record AreMasksAt (n : Parts) (dead : Dead) (s : Source) (c : ℕ) (b : Masks) : Type 0 where
  pub certain : (p : ℕ) → bit_at b.certain p ≡ 1 → IsActivationInput n c (p + 1) × SourceFeeds n s c (p + 1)
  pub may : (p : ℕ) → IsActivationInput n c (p + 1)
      → SourceFeeds n s c (p + 1) ⊎ ((q : Feed) × MayBeTaken n dead s q × Contains (feeds_of n c (p + 1)) q) → bit_at b.may p ≡ 1
