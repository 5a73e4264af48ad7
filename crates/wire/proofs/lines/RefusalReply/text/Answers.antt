use Rattle.wire.proofs.Writing.{plain_refusal}
use Rattle.wire.proofs.lines.RefusalReply.text.Goals as goal

pub returns-clause-no_field_holds_a_comma : goal.returns-clause-no_field_holds_a_comma
returns-clause-no_field_holds_a_comma c = plain_refusal c.args.self.now
