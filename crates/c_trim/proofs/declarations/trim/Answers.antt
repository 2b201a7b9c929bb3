use Rattle.std.proofs.Common.{◌≡◌, List, length, map, ap, ◌∙◌}
use Rattle.c_ast.specs.declared.Decl.{Decl}
use Rattle.c_ast.specs.Events.{program_events}
use Rattle.c_ast.specs.Syntax.{Declared, Whole}
use Rattle.c_ast.specs.View.{declared_of, function_of, statements_of, whole_of}
use Rattle.c_trim.specs.declared.texts.Candidate.{Candidate}
use Rattle.c_trim.specs.Candidates.{candidate_of, marked, kept_of}
use Rattle.c_trim.proofs.Marking.{all_kept, written_back}
use Rattle.c_trim.proofs.declarations.trim.Goals as goal

pub returns : goal.returns
returns c =
    let p = c.args.program_with_all in
    let es = program_events (whole_of p) in
    let found = c.in_ok-found.found in
    let now : c.deref-2.result.now ≡ c.mark.new.candidates =
    c.deref-2.ensures.value ∙ written_back found.items c.mark.new.candidates found.len found.ok.0 (c.mark.auto.candidates ∙ ap length c.deref_mut.ensures.value) in
    let begun = c.deref_mut.ensures.value ∙ (c.in_ok-found.ensures ∙ ap (λ (l : List Decl). map candidate_of (map declared_of l)) c.deref.ensures.value) in
    ap (λ (ds : List Declared). let w : Whole = record { decls = ds; funcs = map function_of p.funcs.items; main = statements_of p.main.items } in w)
    (c.in_ok-decls.ensures ∙ (ap (λ (l : List Candidate). kept_of l) (now ∙ (c.mark.ensures ∙ ap (marked es) begun)) ∙ all_kept es (map declared_of p.decls.items)))
