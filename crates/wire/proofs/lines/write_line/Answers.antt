use Rattle.wire.proofs.Writing.{falls_into}
use Rattle.wire.proofs.lines.write_line.Goals as goal

pub returns-clause-line_falls_into_its_fields : goal.returns-clause-line_falls_into_its_fields
returns-clause-line_falls_into_its_fields g c = falls_into c.args.number _ c.text-line.ensures.no_field_holds_a_comma
