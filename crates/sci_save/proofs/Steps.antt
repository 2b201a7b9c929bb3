-- A whole text, line by line, as the reader goes.
use Rattle.std.proofs.Common.{◌≡◌, ◌<◌, ℕ, ℤ, pos, length, get_or, to_z, of_z, List, [], Ok, refl, sym, ap, ◌∙◌}
use Rattle.std.specs.Prelude.{codes, unsigned_abs}
use Rattle.std.proofs.lemmas.Int.{to_z-of_z}
use Rattle.std.proofs.lemmas.List.{get_or_default}
use mir.Val.{SFits}
use mir.Syntax.{w64}
use Rattle.sci_base.specs.Lists.{at}
use Rattle.sci_net.specs.Parts.{Parts}
use Rattle.sci_reaction.specs.Memory.{Columns}
use Rattle.sci_save.specs.declared.bounds.BlockLine.TheVariants.{State, Held, Cursor}
use Rattle.sci_save.specs.declared.stop.LineStop.{LineStop}
use Rattle.sci_save.specs.declared.stop.LineStop.TheVariants as stops
use Rattle.sci_save.specs.Saved.{Saved}
use Rattle.sci_save.specs.Reading.{Read, Fails, line_at, rows_at, at_bounds, firsts_of, made, pending_at, saved_at}

-- a number at a place that is there
pub number_is : (ns : List ℤ) (k : ℕ) (v : ℤ) (a : ℕ) → SFits w64 v → k < length ns → v ≡ get_or ns k v → a ≡ unsigned_abs (to_z w64 (of_z w64 v)) → a ≡ unsigned_abs (at ns k)
number_is ns k v a fits within is e = e ∙ ap unsigned_abs (to_z-of_z w64 v fits ∙ (is ∙ get_or_default ns k v (pos 0) within))

abbrev given : Saved → List ℕ → Read Saved
given m rest = Ok (m, rest)

-- the parts as they were worked out
pub made_is : (s : List ℤ) (x y z : List (List ℤ)) (p : List (ℕ × ℕ)) (rest : List ℕ) (fired now : ℕ) (cs : List ℕ) → fired ≡ unsigned_abs (at s 0) → now ≡ unsigned_abs (at s 1) → cs ≡ firsts_of z
    → given (made s x y z p) rest ≡ given (record { fired = fired; now = now; states = x; held = y; cursors = cs; pending = p }) rest
made_is s x y z p rest fired now cs e f g =
    ap (λ (v : ℕ). given (record { fired = v; now = unsigned_abs (at s 1); states = x; held = y; cursors = firsts_of z; pending = p }) rest) (sym e)
    ∙ ap (λ (v : ℕ). given (record { fired = fired; now = v; states = x; held = y; cursors = firsts_of z; pending = p }) rest) (sym f)
    ∙ ap (λ (v : List ℕ). given (record { fired = fired; now = now; states = x; held = y; cursors = v; pending = p }) rest) (sym g)

module _ (n : Parts) (i : Columns) (bytes : List ℕ) where
  module _ (v : List ℤ) (a : List ℕ) (version : line_at (codes "save 1") [] bytes ≡ Ok (v, a)) where
    module _ (s : List ℤ) (b : List ℕ) (stands : line_at (codes "at") at_bounds a ≡ Ok (s, b)) where
      module _ (x : List (List ℤ)) (c : List ℕ) (states : rows_at State i 1 n.specs b ≡ Ok (x, c)) where
        module _ (y : List (List ℤ)) (d : List ℕ) (held : rows_at Held i 1 n.specs c ≡ Ok (y, d)) where
          module _ (z : List (List ℤ)) (g : List ℕ) (cursors : rows_at Cursor i 1 n.specs d ≡ Ok (z, g)) where
            pub pending_fails : (e : LineStop) → Fails e (pending_at n (unsigned_abs (at s 1)) g) → Fails e (saved_at n i bytes)
            unfolding saved_at
            pending_fails stops.Memory f = tt
            pending_fails (stops.Broken left) f = rw (version, stands, states, held, cursors, f) refl

            pub all_is_read : (p : List (ℕ × ℕ)) (rest : List ℕ) → pending_at n (unsigned_abs (at s 1)) g ≡ Ok (p, rest) → saved_at n i bytes ≡ Ok (made s x y z p, rest)
            unfolding saved_at
            all_is_read p rest e = rw (version, stands, states, held, cursors, e) refl
