use Rattle.std.proofs.Common.{ap, sym, ◌∙◌}
use Rattle.sci_io.proofs.Advance.{same_text}
use Rattle.sci_ranges_text.specs.Text.{last_word}
use Rattle.sci_ranges_tell.proofs.table.put_word.Goals as goal

pub returns-then-stops : goal.returns-then-stops
returns-then-stops g c = same_text (c.as_bytes.ensures.value ∙ sym (ap last_word c.if-stops.true)) c.put.ensures.written

pub returns-else-stops : goal.returns-else-stops
returns-else-stops g c = same_text (c.as_bytes-else-stops.ensures.value ∙ sym (ap last_word c.if-stops.false)) c.put-else-stops.ensures.written
