use Rattle.std.proofs.Common.{rules, ◌≡◌, ◌∙◌, ◌++◌, List, ℕ, ℤ, subst, sym, ap, refl, [], Ok, codes, w64, to_z, of_z, arith}
use Rattle.std.proofs.lemmas.Int.{to_z-of_z}
use Rattle.std.specs.Fmt.{signed_decimal}
use Rattle.sci_io.specs.Taken.{Writes}
use Rattle.sci_io.specs.declared.sink.Failed.{Failed}
use Rattle.sci_lines.specs.Paged.{paged}
use Rattle.sci_lines.proofs.Paging.{line_waits, piece_behind, none_given, had_room}
use Rattle.sci_lines.proofs.lines.Lines.put.Goals as goal
use Rattle.sci_lines.proofs.lines.Lines.put.Goals.{then-self-gt-ONE_MORE+in_ok-give, else-self-gt-ONE_MORE}

pub returns-in_err-give-clause-written : goal.returns-in_err-give-clause-written
returns-in_err-give-clause-written g c = none_given _ c.give.result c.from_residual.result _ _ c.in_err-give.was (search rules) c.give.ensures.given

pub returns-clause-written : goal.returns-clause-written
returns-clause-written g c =
    let value : to_z w64 (of_z w64 c.args.value) ≡ c.args.value = grind (arith, to_z-of_z) in
    let mid = c.if-self-gt-ONE_MORE in
    let text = c.args.head.now ++ (signed_decimal c.args.value ++ codes "\n") in
    let after = paged (g.S.Sink.state mid.out) c.add.new.self in
    let added : Writes {T = Unit {0}} {E = Failed} (paged (g.S.Sink.state mid.out) mid.self) after text (Ok tt) =
    line_waits (g.S.Sink.state mid.out) mid.self c.add.new.self text tt
    (subst (λ (z : ℤ). c.add.new.self ≡ mid.self ++ (c.args.head.now ++ (signed_decimal z ++ codes "\n"))) value c.add.ensures) in
    elim c.if-self-gt-ONE_MORE.branch [
      | then-self-gt-ONE_MORE+in_ok-give w ↦ piece_behind text w.give.result w.in_ok-give.field-0 (Ok tt) w.in_ok-give.was
          (subst (λ (out : g.row.S.Denot). Writes (paged (g.S.Sink.state c.args.out.now) c.args.self.now) (paged (g.S.Sink.state out) mid.self) [] w.give.result) (sym w.out-is)
          (subst (λ (b : List ℕ). Writes (paged (g.S.Sink.state c.args.out.now) c.args.self.now) (paged (g.S.Sink.state w.give.new.out) b) [] w.give.result) (sym w.self-is) w.give.ensures.given))
          added
      | else-self-gt-ONE_MORE w ↦ subst (λ (out : g.row.S.Denot). Writes {T = Unit {0}} {E = Failed} (paged (g.S.Sink.state out) c.args.self.now) after text (Ok tt)) w.out-is
          (subst (λ (b : List ℕ). Writes {T = Unit {0}} {E = Failed} (paged (g.S.Sink.state mid.out) b) after text (Ok tt)) w.self-is added)
    ]

pub returns-in_err-give-clause-waits : goal.returns-in_err-give-clause-waits
returns-in_err-give-clause-waits g c room =
    absurd (had_room c.self.inside.text.items c.args.self.now c.self.inside.len c.self.view_is c.self.invariant room c.if-self-gt-ONE_MORE.true)

pub returns-clause-waits : goal.returns-clause-waits
returns-clause-waits g c room =
    let value : to_z w64 (of_z w64 c.args.value) ≡ c.args.value = grind (arith, to_z-of_z) in
    let mid = c.if-self-gt-ONE_MORE in
    let line = c.args.head.now ++ (signed_decimal c.args.value ++ codes "\n") in
    let added = subst (λ (z : ℤ). c.add.new.self ≡ mid.self ++ (c.args.head.now ++ (signed_decimal z ++ codes "\n"))) value c.add.ensures in
    elim c.if-self-gt-ONE_MORE.branch [
      | then-self-gt-ONE_MORE+in_ok-give w ↦ absurd (had_room c.self.inside.text.items c.args.self.now c.self.inside.len c.self.view_is c.self.invariant room w.if-self-gt-ONE_MORE.true)
      | else-self-gt-ONE_MORE w ↦ record {
        fine = refl;
        sink = ap (λ (out : g.row.S.Denot). g.S.Sink.state out) w.out-is;
        waits = added ∙ ap (λ (l : List ℕ). l ++ line) w.self-is;
      }
    ]
