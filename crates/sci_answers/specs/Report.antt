-- `check`, `map`, `schedule`: what is told of a diagram.
use Rattle.std.specs.Prelude.{ℕ, ◌≡◌, List, [], ◌∷◌, length, codes}
use Rattle.sci_sched.specs.Size.{entry_count, guard_count}
use Rattle.sci_sched.specs.Text.{plan_text}
use Rattle.sci_print.specs.Map.{map_text}
use Rattle.sci_print.specs.Numbers.{numbers_line}
use Rattle.sci_verdict.specs.Verdict.{Plan, Accepts, Breaks}
use Rattle.sci_net.specs.Sources.{sources_of}
use Rattle.sci_words.specs.declared.command.Report.{Report}
use Rattle.sci_words.specs.declared.command.Report.TheVariants.{Check, Map, Schedule}
use Rattle.sci_answers.specs.Answer.{prints}
use Rattle.sci_answers.specs.Course.{diagram_slot, Course, gives, reads}

-- how many blocks, sources, schedule entries and guards there are
unfoldable pub counts_line : (blocks sources entries guards : ℕ) → List ℕ
counts_line blocks sources entries guards = numbers_line (codes "ok") (blocks ∷ sources ∷ entries ∷ guards ∷ [])

-- what is told of a diagram
abbrev pub report_text : Report → Plan → List ℕ
report_text Check p = counts_line (length p.net.specs) (length (sources_of p.net)) (entry_count p.rows) (guard_count p.rows)
report_text Map p = map_text p.net
report_text Schedule p = plan_text (sources_of p.net) p.rows

-- a diagram is read
abbrev pub report_course : Report → (d : List ℕ) → Course
report_course r d = reads Plan diagram_slot d Accepts Breaks (λ p. gives (λ a. a ≡ prints (report_text r p)))
