use Rattle.wire.proofs.Writing.{plain_answer}
use Rattle.wire.proofs.lines.AnswerReply.text.Goals as goal

pub returns-clause-no_field_holds_a_comma : goal.returns-clause-no_field_holds_a_comma
returns-clause-no_field_holds_a_comma c = plain_answer c.args.self.now
