-- What a search from one source after another has come to.
use Rattle.std.specs.Prelude.{◌≡◌, ℕ, ◌+◌, ◌≤◌, ◌⊎◌, ◌==◌, ◌&&◌, not, Bool, false, List, [], ◌∷◌, ◌++◌, length, Contains, slice_index, slice_index_or, slice_set, if◌then◌else◌}
use Rattle.sci_flat.specs.declared.reach.search.FeedSearch.{FeedSearch}
use Rattle.sci_flat.specs.Lists.{lists_of, list_at}

-- along the lists of where steps lead from each port
pub data Path (ls : ℕ → List ℕ) : ℕ → ℕ → Type 0 where
  stay : {p : ℕ} → Path ls p p
  onward : {p q r : ℕ} → Path ls p q → Contains (ls q) r → Path ls p r

-- the last source that reached p has the stamp s
abbrev pub IsStamped : List ℕ → ℕ → ℕ → Type 0
IsStamped stamps s p = slice_index stamps p ≡ s

abbrev pub is_stamped : List ℕ → ℕ → ℕ → Bool
is_stamped stamps s p = slice_index stamps p == s

abbrev pub is_wanted : List Bool → ℕ → Bool
is_wanted wanted p = slice_index_or wanted p false

abbrev pub one_if : Bool → ℕ → List ℕ
one_if b n = if b then n ∷ [] else []

-- how many ports have not this stamp
abbrev pub one_not : Bool → ℕ
one_not b = if b then 0 else 1

abbrev pub unstamped : ℕ → List ℕ → ℕ
unstamped s [] = 0
unstamped s (t ∷ ts) = one_not (t == s) + unstamped s ts

-- a port that had not the stamp gets it, is pending, and where it is wanted has the source at the end of its list
pub record Enters (wanted : List Bool) (source port : ℕ) (old new : FeedSearch) : Type 0 where
  pub stamps : new.stamps.items ≡ slice_set old.stamps.items port (source + 1)
  pub lists : lists_of new.lists ≡ slice_set (lists_of old.lists) port (list_at (lists_of old.lists) port ++ one_if (is_wanted wanted port) source)
  pub pending : new.pending.items ≡ old.pending.items ++ port ∷ []

-- what visiting these ports does
pub record Visits (wanted : List Bool) (source : ℕ) (ports : List ℕ) (old new : FeedSearch) : Type 0 where
  pub stamps_long : length new.stamps.items ≡ length old.stamps.items
  pub lists_long : length new.lists.items ≡ length old.lists.items
  pub from : (q : ℕ) → IsStamped new.stamps.items (source + 1) q → IsStamped old.stamps.items (source + 1) q ⊎ Contains ports q
  pub all : (q : ℕ) → Contains ports q → IsStamped new.stamps.items (source + 1) q
  pub kept : (q : ℕ) → IsStamped old.stamps.items (source + 1) q → IsStamped new.stamps.items (source + 1) q
  pub below : (q : ℕ) → slice_index old.stamps.items q ≤ source + 1 → slice_index new.stamps.items q ≤ source + 1
  pub waits : (q : ℕ) → IsStamped new.stamps.items (source + 1) q → IsStamped old.stamps.items (source + 1) q ⊎ Contains new.pending.items q
  pub pending_kept : (q : ℕ) → Contains old.pending.items q → Contains new.pending.items q
  pub pending_from : (q : ℕ) → Contains new.pending.items q → Contains old.pending.items q ⊎ IsStamped new.stamps.items (source + 1) q
  pub lists : (q : ℕ) → list_at (lists_of new.lists) q
      ≡ list_at (lists_of old.lists) q ++ one_if ((is_stamped new.stamps.items (source + 1) q && not (is_stamped old.stamps.items (source + 1) q)) && is_wanted wanted q) source
  pub count : unstamped (source + 1) new.stamps.items + length new.pending.items ≡ unstamped (source + 1) old.stamps.items + length old.pending.items

-- what a walk from `start` has come to, the source's lists having been as in `old`
pub record Walking (ls : ℕ → List ℕ) (wanted : List Bool) (source start : ℕ) (old new : FeedSearch) : Type 0 where
  pub stamps_long : length new.stamps.items ≡ length old.stamps.items
  pub lists_long : length new.lists.items ≡ length old.lists.items
  pub reach : (q : ℕ) → IsStamped new.stamps.items (source + 1) q → Path ls start q
  pub begun : IsStamped new.stamps.items (source + 1) start
  pub pending_in : (q : ℕ) → Contains new.pending.items q → IsStamped new.stamps.items (source + 1) q
  pub «open» : (q r : ℕ) → IsStamped new.stamps.items (source + 1) q → Contains (ls q) r → IsStamped new.stamps.items (source + 1) r ⊎ Contains new.pending.items q
  pub lists : (q : ℕ) → list_at (lists_of new.lists) q ≡ list_at (lists_of old.lists) q ++ one_if (is_stamped new.stamps.items (source + 1) q && is_wanted wanted q) source
  pub below : (q : ℕ) → slice_index new.stamps.items q ≤ source + 1

-- what it has come to at its end
pub record Walks (ls : ℕ → List ℕ) (wanted : List Bool) (source start : ℕ) (old new : FeedSearch) : Type 0 where
  pub stamps_long : length new.stamps.items ≡ length old.stamps.items
  pub lists_long : length new.lists.items ≡ length old.lists.items
  pub pending : new.pending.items ≡ []
  pub reach : (q : ℕ) → IsStamped new.stamps.items (source + 1) q → Path ls start q
  pub all : (q : ℕ) → Path ls start q → IsStamped new.stamps.items (source + 1) q
  pub lists : (q : ℕ) → list_at (lists_of new.lists) q ≡ list_at (lists_of old.lists) q ++ one_if (is_stamped new.stamps.items (source + 1) q && is_wanted wanted q) source
  pub below : (q : ℕ) → slice_index new.stamps.items q ≤ source + 1

-- so many ports, one list for each, and no port has a stamp past this
pub record IsReady (s : FeedSearch) (ports last : ℕ) : Type 0 where
  pub stamps_long : length s.stamps.items ≡ ports
  pub lists_long : length s.lists.items ≡ ports
  pub pending : s.pending.items ≡ []
  pub below : (q : ℕ) → slice_index s.stamps.items q ≤ last
