use Rattle.std.proofs.Common.{[], arith}
use Rattle.sci_json.specs.View.{view}
use Rattle.sci_diagram.specs.Objects.{diagram_view}
use Rattle.sci_diagram.proofs.Few.{few_objects}
use Rattle.sci_diagram.proofs.from_bytes.read_value.Goals as goal

pub within_counts-requires : goal.within_counts-requires
within_counts-requires c =
    let few = few_objects 16 [] (view c.args.v.now) (diagram_view c.in_ok-d.d) c.in_ok-d.ensures.ok in
    record { few = omega (arith, few, c.requires.light) }
