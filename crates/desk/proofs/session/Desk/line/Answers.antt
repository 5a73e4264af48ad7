use Rattle.std.proofs.Common.{length}
use Rattle.desk.specs.Lines.{book_of}
use Rattle.desk.proofs.Handling.{answered_short, smallest_due}
use Rattle.desk.proofs.session.Desk.line.Goals as goal

pub returns-then-buffer-lt-ANSWER_BYTES-clause-answered_or_refused_as_due : goal.returns-then-buffer-lt-ANSWER_BYTES-clause-answered_or_refused_as_due
returns-then-buffer-lt-ANSWER_BYTES-clause-answered_or_refused_as_due c = answered_short c.args.number c.args.line.now c.args.buffer.now (book_of c.args.self.now) c.if-buffer-lt-ANSWER_BYTES.true

pub returns-clause-smallest_number_is_due : goal.returns-clause-smallest_number_is_due
returns-clause-smallest_number_is_due c = smallest_due (length c.args.buffer.now) c.args.line.now (book_of c.args.self.now)
