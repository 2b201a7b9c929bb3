-- What a pass finds is the result.
use Rattle.std.proofs.Common.{List}
use Rattle.sci_net.specs.declared.Source.{Source}
use Rattle.sci_net.specs.Parts.{Parts}
use Rattle.sci_net.specs.Net.{IsNet}
use Rattle.sci_reaction.specs.Depends.{IsLoopFree}
use Rattle.sci_reaction.specs.Memory.{Memory, Columns}
use Rattle.sci_reaction.specs.Result.{Reaction, IsResult, IsTheResult}
use Rattle.sci_reaction.specs.Schedule.{Entry, IsRow}
use Rattle.sci_reaction.specs.Pass.{pass, at_rest}
use Rattle.sci_reaction.proofs.Fair.{fair}
use Rattle.sci_reaction.proofs.OneResult.{one_result}
use Rattle.sci_reaction.proofs.Rows.{row_plan}
use Rattle.sci_reaction.proofs.PassMeets.{pass_is}
use Rattle.sci_reaction.proofs.Exists.{some_row}

module _ (n : Parts) (m : Memory) (i : Columns) (s : Source) (net : IsNet n) (free : IsLoopFree n s) where
  pub pass_result : (row : List Entry) → IsRow n s row → IsTheResult n m i s (pass n m i row (at_rest m))
  pass_result row is =
      let x = pass_is n m i s net.wired (fair n m i net.typed_specs) free row (row_plan n s net.wired row is) in
      record { is = x; only = λ q h. one_result n m i s net.wired (fair n m i net.typed_specs) free (pass n m i row (at_rest m)) q x h }

  pub some_result : (x : Reaction) × IsResult n m i s x
  some_result = let row = some_row n s free net.wired in (pass n m i row.0 (at_rest m), (pass_result row.0 row.1).is)
