use Rattle.std.proofs.Common.{◌≡◌, ◌++◌, take, None}
use Rattle.sci_agree.specs.Compared.{taken_by}
use Rattle.sci_agree.proofs.comparing.Comparing.compare_bytes.Given as goal

-- the bytes so far agree and were taken
abbrev pub invariant-loop-byte : goal.invariant-loop-byte
invariant-loop-byte l = record {
  taken : taken_by l.self ≡ taken_by l.fn.self ++ take l.byte-index l.piece;
  right : l.self.wrong ≡ None;
  faults : l.self.faults ≡ l.fn.self.faults;
  text : l.self.text ≡ l.fn.self.text;
}
