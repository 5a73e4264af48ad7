use Rattle.std.proofs.Common.{sym, ◌∙◌}
use Rattle.book.specs.View.{state}
use Rattle.desk.specs.Lines.{book_of}
use Rattle.desk.proofs.Opening.{opened_command, seen_where_open}
use Rattle.desk.proofs.session.Desk.open.Goals as goal

pub returns-clause-done_or_refused : goal.returns-clause-done_or_refused
returns-clause-done_or_refused c =
    opened_command c.args.market c.args.terms (book_of c.args.self.now) c.into.result c.in_ok-open.field-0 (seen_where_open state c.args.self.now.book ∙ sym c.is_some.ensures ∙ c.if-is_some.false) c.into.ensures c.in_ok-open.ensures.empty_on_its_terms_or_refused
