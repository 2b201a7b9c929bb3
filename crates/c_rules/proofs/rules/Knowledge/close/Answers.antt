use Rattle.std.proofs.Common.{◌≡◌, rules, arith, ap, true, length}
use Rattle.std.proofs.lemmas.Bool.{le-leb}
use Rattle.c_ast.specs.Rules.{is_last, around}
use Rattle.c_rules.proofs.rules.Knowledge.close.Goals as goal

pub returns-then-is_last : goal.returns-then-is_last
returns-then-is_last c = λ i s a.
    let last : is_last s.blocks ≡ true = le-leb (length s.blocks) 1 (omega (arith, ap length a.blocks, c.args.self.now.blocks.ok)) in
    let blocks : c.pop.new.self.items ≡ around s.blocks = rw (← a.blocks) (search rules) in
    rw last (c.end_body.ensures (record s { blocks = around s.blocks }) (record {
      kinds = a.kinds;
      elements = a.elements;
      routines = a.routines;
      blocks = blocks;
      owner = a.owner;
      assigns = a.assigns;
      depth = a.depth;
    }))
