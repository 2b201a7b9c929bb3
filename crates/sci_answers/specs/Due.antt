-- What is due of the words and the files.
use Rattle.std.specs.Prelude.{ℕ, ◌≡◌, ◌⊎◌, List, []}
use Rattle.sci_io.specs.Files.{Files}
use Rattle.sci_words.specs.Words.{Request, report, simulate, judge, save, resume, code, run_c, host, bulk, dump, dump_at, Spells, NoCommand}
use Rattle.sci_answers.specs.Answer.{Answer, usage}
use Rattle.sci_answers.specs.Course.{Course, DueOn}
use Rattle.sci_answers.specs.Report.{report_course}
use Rattle.sci_answers.specs.Simulate.{simulate_course}
use Rattle.sci_answers.specs.Judge.{judge_course}
use Rattle.sci_answers.specs.Save.{save_course}
use Rattle.sci_answers.specs.Resume.{resume_course}
use Rattle.sci_answers.specs.Code.{code_course}
use Rattle.sci_answers.specs.RunC.{run_c_course}
use Rattle.sci_answers.specs.Host.{host_course}
use Rattle.sci_answers.specs.Bulk.{bulk_course}
use Rattle.sci_answers.specs.Dump.{dump_course}
use Rattle.sci_answers.specs.DumpAt.{dump_at_course}

-- the files of a command with their rules, in the order in which they are read, and what is due of them
abbrev pub course_of : Request → Course
course_of (report r d) = report_course r d
course_of (simulate d i until limit) = simulate_course d i until limit
course_of (judge d i v until limit) = judge_course d i v until limit
course_of (save d i until limit k) = save_course d i until limit k
course_of (resume d i s until limit) = resume_course d i s until limit
course_of (code d) = code_course d
course_of (run_c c i until limit) = run_c_course c i until limit
course_of host = host_course
course_of (bulk seed size) = bulk_course seed size
course_of (dump d i until limit) = dump_course d i until limit
course_of (dump_at v tick) = dump_at_course v tick

-- The answer that is due of these words where the command's files have these bytes, and the names that are read for it.
abbrev pub Due : Files → List (List ℕ) → (bytes names : List (List ℕ)) → Answer → Type 0
Due files words bytes names a = (NoCommand words × (a ≡ usage) × (names ≡ [])) ⊎ ((c : Request) × Spells words c × DueOn files (course_of c) bytes names a)
