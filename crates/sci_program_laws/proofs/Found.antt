-- What a memory shows of a pass behind an entry: where its block isn't active, and where it has its values.
use Rattle.std.proofs.Common.{◌≡◌, ℕ, ◌+◌, ◌-◌, ◌<◌, ◌≤◌, inl, inr, ◌⊎◌, List, [], Some, Bool, true, false, ◌&&◌, nat_eq, refl, sym, ap, ◌∙◌, subst, arith, ℤ, true≢false}
use Rattle.std.proofs.lemmas.Bool.{cases_eq, cases_lt, or_parts}
use Rattle.sci_base.specs.Lists.{at}
use Rattle.sci_forms.specs.Ports.{total}
use Rattle.sci_net.specs.Parts.{Parts, IsBlock, numbered, spec_of, column_of}
use Rattle.sci_reaction.specs.Memory.{Columns}
use Rattle.sci_reaction.specs.Equations.{Signals}
use Rattle.sci_reaction.specs.Pass.{Progress, put}
use Rattle.sci_reaction.proofs.Lists.{put_same, put_other}
use Rattle.sci_places.specs.Flat.{start_of}
use Rattle.sci_places.proofs.Outputs.{blocks_apart}
use Rattle.c_ast.specs.declared.Name.{Name}
use Rattle.c_mean.specs.Meaning.{World, same_name, truth}
use Rattle.c_mean.specs.Places.{get, Puts, is_scratch, same_place}
use Rattle.c_mean.proofs.Memory.{other_name, same_apart, put_elsewhere, has_puts}
use Rattle.sci_cgen_blocks.specs.Texts.{values, masks}
use Rattle.sci_program.specs.Names.{actives, branches}
use Rattle.sci_program.specs.Shows.{ShowsValues, ShowsMarks, ShowsBranches, ShowsColumns, HasRoom, ShowsPass, is_worked}
use Rattle.sci_program.specs.Passes.{HasCalled}
use Rattle.sci_program.proofs.Marks.{IsMarked}

-- all that is shown of a pass but the branches
pub record ShowsMost (n : Parts) (scratch : ℕ) (i : Columns) (asked : ℕ → Bool) (cursor : ℕ → ℕ) (y : Signals) (active : ℕ → Bool) (before w : World) : Type 0 where
  pub values : ShowsValues n y w
  pub active_are : ShowsMarks n asked active w
  pub columns : ShowsColumns n i cursor w
  pub room : HasRoom n scratch w
  pub kept : (x : Name) (k : ℕ) → is_worked x ≡ false → get w x k ≡ get before x k

pub with_branches : (n : Parts) (scratch : ℕ) (i : Columns) (asked told : ℕ → Bool) (cursor : ℕ → ℕ) (g : Progress) (before w : World)
    → ShowsMost n scratch i asked cursor g.values g.applied before w → ShowsBranches n told g w → ShowsPass n scratch i asked told cursor g before w
with_branches n scratch i asked told cursor g before w s b =
    record { values = s.values; marks = s.active_are; branches = b; columns = s.columns; room = s.room; kept = s.kept }

worked_apart : (x y : Name) (i j : ℕ) → is_worked x ≡ true → is_worked y ≡ false → same_place x i y j ≡ false
worked_apart x y i j p q = ap (λ (b : Bool). b && nat_eq i j) (other_name is_worked x y p q)

-- other blocks have other places
pub other_block : (n : Parts) (b c : ℕ) → IsBlock n b → IsBlock n c → (c ≡ b → ⊥) → b - 1 ≡ c - 1 → ⊥
other_block n b c h k d e = d (let l = h.least in let m = k.least in omega (arith, e, l, m))

module _ (n : Parts) (scratch : ℕ) (i : Columns) (asked told : ℕ → Bool) (b : ℕ) (block : IsBlock n b) where
  -- ---- behind the mark

  module _ (cursor : ℕ → ℕ) (g : Progress) (before w v : World) (s : ShowsPass n scratch i asked told cursor g before w) (t : Bool) (z : ℤ)
      (m : IsMarked n (asked b) b t z w v) where
    marked_room : HasRoom n scratch v
    marked_room = record {
      masks = λ c h. m.there masks (c - 1) (s.room.masks c h);
      scratch_names = λ k l r. m.there _ 0 (s.room.scratch_names k l r);
      actives = λ c h. m.there actives (c - 1) (s.room.actives c h);
      branches = λ sync c h. m.there branches (c - 1) (s.room.branches sync c h);
      scan = λ l. m.there _ 0 (s.room.scan l);
      chosen = λ l. m.there _ 0 (s.room.chosen l);
      delay = λ l. m.there _ 0 (s.room.delay l);
    }

    pub marked_shows : ShowsMost n scratch i asked cursor g.values (put g.applied b t) before v
    marked_shows = record {
      values = record { each = λ c e h l. m.same values (start_of n c + e) refl (λ r. refl) ∙ s.values.each c e h l };
      active_are = record {
        each = λ c h a. elim (cases_eq c b) [
          | inl e ↦ ap (λ d. get v actives (d - 1)) e
              ∙ (m.active (ap asked (sym e) ∙ a) ∙ ap (λ (u : Bool). Some (truth u)) (sym (put_same g.applied b t c e)))
          | inr d ↦ m.same actives (c - 1) (same_apart (b - 1) (c - 1) (other_block n b c block h d) true) (λ r. refl)
              ∙ (s.marks.each c h a ∙ ap (λ (u : Bool). Some (truth u)) (sym (put_other g.applied b t c d)))
        ];
      };
      columns = record { each = λ c h. ap (λ l. numbered [] l (column_of (spec_of n c))) m.left ∙ s.columns.each c h };
      room = marked_room;
      kept = λ x k h. m.same x k (worked_apart actives x (b - 1) k refl h) (λ r. worked_apart masks x (b - 1) k refl h) ∙ s.kept x k h;
    }

    pub marked_branches : ShowsBranches n told g v
    marked_branches = record { each = λ c h known sync. m.same branches (c - 1) refl (λ r. refl) ∙ s.branches.each c h known sync }

  -- a block that isn't active
  pub idle_shows : (cursor : ℕ → ℕ) (g : Progress) (before w v : World) → ShowsPass n scratch i asked told cursor g before w → (z : ℤ)
      → IsMarked n (asked b) b false z w v → g.applied b ≡ false → ShowsPass n scratch i asked told cursor g before v
  idle_shows cursor g before w v s z m off =
      let most = marked_shows cursor g before w v s false z m in
      with_branches n scratch i asked told cursor g before v (record {
        values = most.values;
        active_are = record { each = λ c h a. most.active_are.each c h a ∙ ap (λ (u : Bool). Some (truth u)) (back c) };
        columns = most.columns;
        room = most.room;
        kept = most.kept;
      }) (marked_branches cursor g before w v s false z m)
    where
      back : (c : ℕ) → put g.applied b false c ≡ g.applied c
      back c = elim (cases_eq c b) [ inl e ↦ put_same g.applied b false c e ∙ sym (ap g.applied e ∙ off) | inr d ↦ put_other g.applied b false c d ]

  -- ---- behind the call

  module _ (cursor : ℕ → ℕ) (y : Signals) (active : ℕ → Bool) (before v u : World) (s : ShowsMost n scratch i asked cursor y active before v) (vs : List ℤ)
      (k : HasCalled n i b vs cursor v u) where
    -- other names but scratch stay
    pub called_same : (x : Name) (j : ℕ) → is_scratch x ≡ false → same_name values x ≡ false → get u x j ≡ get v x j
    called_same x j p q = k.keeps.same x j (record { kept = p; apart = λ r. absurd (true≢false (sym r ∙ q)) })

    called_room : HasRoom n scratch u
    called_room = record {
      masks = λ c h. k.keeps.there masks (c - 1) (s.room.masks c h);
      scratch_names = λ j l r. k.keeps.there _ 0 (s.room.scratch_names j l r);
      actives = λ c h. k.keeps.there actives (c - 1) (s.room.actives c h);
      branches = λ sync c h. k.keeps.there branches (c - 1) (s.room.branches sync c h);
      scan = λ l. k.keeps.there _ 0 (s.room.scan l);
      chosen = λ l. k.keeps.there _ 0 (s.room.chosen l);
      delay = λ l. k.keeps.there _ 0 (s.room.delay l);
    }

    -- the values of another block
    apart_from : (c e : ℕ) → IsBlock n c → e < total (spec_of n c).outs → (c ≡ b → ⊥)
        → (start_of n c + e < start_of n b) ⊎ (start_of n b + total (spec_of n b).outs ≤ start_of n c + e)
    apart_from c e h l d = elim (cases_lt c b) [
      | inl q ↦ let far = blocks_apart n c b h block q in inl (omega (arith, far, l))
      | inr q ↦ let less : b < c = omega (arith, q, d) in let far = blocks_apart n b c block h less in inr (omega (arith, far))
    ]

    called_values : ShowsValues n (put y b vs) u
    called_values = record {
      each = λ c e h l. elim (cases_eq c b) [
        | inl q ↦ subst (λ d. e < total (spec_of n d).outs → get u values (start_of n d + e) ≡ Some (at vs e)) (sym q) (k.values e) l
            ∙ ap (λ (ws : List ℤ). Some (at ws e)) (sym (put_same y b vs c q))
        | inr d ↦ k.keeps.same values (start_of n c + e) (record { kept = refl; apart = λ r. apart_from c e h l d })
            ∙ (s.values.each c e h l ∙ ap (λ (ws : List ℤ). Some (at ws e)) (sym (put_other y b vs c d)))
      ];
    }

    pub called_shows : ShowsMost n scratch i asked (put cursor b (cursor b + 1)) (put y b vs) active before u
    called_shows = record {
      values = called_values;
      active_are = record { each = λ c h a. called_same actives (c - 1) refl refl ∙ s.active_are.each c h a };
      columns = k.columns;
      room = called_room;
      kept = λ x j h.
          let p = or_parts (is_scratch x) _ h in
          called_same x j p.0 (other_name is_worked values x refl h) ∙ s.kept x j h;
    }

  -- ---- behind the branch

  module _ (cursor : ℕ → ℕ) (y : Signals) (active : ℕ → Bool) (before u x : World) (s : ShowsMost n scratch i asked cursor y active before u) (z : ℤ)
      (p : Puts u branches (b - 1) z x) where
    branched_room : HasRoom n scratch x
    branched_room = record {
      masks = λ c h. has_puts u x branches (b - 1) z masks (c - 1) p (s.room.masks c h);
      scratch_names = λ j l r. has_puts u x branches (b - 1) z _ 0 p (s.room.scratch_names j l r);
      actives = λ c h. has_puts u x branches (b - 1) z actives (c - 1) p (s.room.actives c h);
      branches = λ sync c h. has_puts u x branches (b - 1) z branches (c - 1) p (s.room.branches sync c h);
      scan = λ l. has_puts u x branches (b - 1) z _ 0 p (s.room.scan l);
      chosen = λ l. has_puts u x branches (b - 1) z _ 0 p (s.room.chosen l);
      delay = λ l. has_puts u x branches (b - 1) z _ 0 p (s.room.delay l);
    }

    pub branched_shows : ShowsMost n scratch i asked cursor y active before x
    branched_shows = record {
      values = record { each = λ c e h l. put_elsewhere u x branches (b - 1) z values (start_of n c + e) p refl ∙ s.values.each c e h l };
      active_are = record { each = λ c h a. put_elsewhere u x branches (b - 1) z actives (c - 1) p refl ∙ s.active_are.each c h a };
      columns = record { each = λ c h. ap (λ l. numbered [] l (column_of (spec_of n c))) p.left ∙ s.columns.each c h };
      room = branched_room;
      kept = λ a j h. put_elsewhere u x branches (b - 1) z a j p (worked_apart branches a (b - 1) j refl h) ∙ s.kept a j h;
    }
