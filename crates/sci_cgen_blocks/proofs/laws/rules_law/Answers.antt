use Rattle.sci_cgen_blocks.proofs.Rules.{text_blameless}
use Rattle.sci_cgen_blocks.proofs.TextRules.{body_keeps, next_keeps, delay_keeps, branch_keeps}
use Rattle.sci_cgen_blocks.proofs.laws.rules_law.Goals as goal

pub returns : goal.returns
returns c = record {
  text = text_blameless;
  body = λ c s p opens is_typed names may. body_keeps c s p is_typed names opens may;
  next = λ c s p opens is_typed names may. next_keeps c s p is_typed names opens may;
  delay = λ c s p is_typed has names. delay_keeps c s p is_typed names has;
  branch = λ c s p is_typed sync names. branch_keeps c s p is_typed names sync;
}
