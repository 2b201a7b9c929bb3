-- A pass in steps.
use Rattle.std.proofs.Common.{◌≡◌, ℕ, List, [], ◌∷◌, ◌++◌, Contains, inr, refl, sym, ◌∙◌, true≢false, arith}
use Rattle.sci_net.specs.declared.Source.{Source}
use Rattle.sci_net.specs.Parts.{Parts, IsWired}
use Rattle.sci_net.specs.Net.{IsNet}
use Rattle.sci_reaction.specs.Depends.{IsLoopFree}
use Rattle.sci_reaction.specs.Memory.{Memory, Columns}
use Rattle.sci_reaction.specs.Result.{Whole, IsResult}
use Rattle.sci_reaction.specs.Schedule.{Entry, blocks_of, IsRow}
use Rattle.sci_reaction.specs.Pass.{Progress, at_rest, IsFront, IsNext}
use Rattle.sci_reaction.proofs.Spreading.{possible}
use Rattle.sci_reaction.proofs.Agreement.{IsFair}
use Rattle.sci_reaction.proofs.Fair.{fair}
use Rattle.sci_reaction.proofs.Rows.{Contains-has, has-Contains, row_plan, IsPlan}
use Rattle.sci_reaction.proofs.PassMeets.{Front, applies_to, applies_from, mask_is, front_kept, front_valued, stops_here}

module _ (n : Parts) (m : Memory) (i : Columns) (s : Source) (ok : IsWired n) (is_fair : IsFair n m i) (free : IsLoopFree n s) (row : List Entry) (plan : IsPlan n s row)
    (done : List ℕ) (w : Progress) where
  pub to_front : IsFront n m i s done w → Front n m i s ok is_fair free row plan done w
  to_front f = record {
    meets = λ c inside within. f.meets c inside (λ may. has-Contains done c (within may));
    tells = λ c h. f.tells c (has-Contains done c h);
    later = λ c out. f.rests c (λ h. out (Contains-has done c h));
  }

  pub from_front : Front n m i s ok is_fair free row plan done w → IsFront n m i s done w
  from_front f = record {
    meets = λ c inside within. f.meets c inside (λ may. Contains-has done c (within may));
    tells = λ c h. f.tells c (Contains-has done c h);
    rests = λ c out. f.later c (λ h. out (has-Contains done c h));
  }

pub pass_begins : (n : Parts) (m : Memory) (i : Columns) (s : Source) → IsFront n m i s [] (at_rest m)
pass_begins n m i s = record {
  meets = λ c inside within. inr (record { idle = λ a. nothing c (within (possible n s _ a)); held = refl });
  tells = λ c h. absurd (nothing c h);
  rests = λ c out. (refl, refl);
}
  where
    nothing : (c : ℕ) → Contains [] c → ⊥
    nothing c h = omega (arith, h.1)

module _ (n : Parts) (m : Memory) (i : Columns) (s : Source) (net : IsNet n) (free : IsLoopFree n s) (row : List Entry) (is : IsRow n s row) where
  pub pass_goes_on : (pre post : List Entry) (e : Entry) (w : Progress) → row ≡ pre ++ e ∷ post → IsFront n m i s (blocks_of pre) w → IsNext n m i s (blocks_of pre) w e
  pass_goes_on pre post e w split front =
      let f = fair n m i net.typed_specs in
      let plan = row_plan n s net.wired row is in
      let here = to_front n m i s net.wired f free row plan (blocks_of pre) w front in
      let to = applies_to n m i s net.wired f free row plan pre post e split w here in
      record {
        applies_is = (to, applies_from n m i s net.wired f free row plan pre post e split w here);
        mask_is = mask_is n m i s net.wired f free row plan pre post e split w here;
        idle = λ off. from_front n m i s net.wired f free row plan (blocks_of pre ++ e.block ∷ []) w
            (front_kept n m i s net.wired f free row plan pre post e split w here
            (λ active. true≢false (sym (applies_from n m i s net.wired f free row plan pre post e split w here active) ∙ off)));
        valued = λ vs on given. from_front n m i s net.wired f free row plan (blocks_of pre ++ e.block ∷ []) _
            (front_valued n m i s net.wired f free row plan pre post e split w here vs (to on) given);
        stops = λ word on given. stops_here n m i s net.wired f free row plan pre post e split w here word (to on) given;
      }

pub pass_ends : (n : Parts) (m : Memory) (i : Columns) (s : Source) (row : List Entry) (w : Progress) → IsRow n s row → IsFront n m i s (blocks_of row) w → IsResult n m i s (Whole w.values)
pass_ends n m i s row w is front b inside = front.meets b inside (λ may. (is.exactly b).1 may)
