use Rattle.std.proofs.Common.{Some, refl, ap, ◌∙◌}
use Rattle.std.proofs.lemmas.Result.{err_from_is_err_and}
use Rattle.desk.specs.declared.command.Command.TheVariants.{Open, Perform}
use Rattle.desk.specs.Lines.{book_of}
use Rattle.desk.proofs.Handling.{handled_form, handled_command}
use Rattle.desk.proofs.session.Desk.handle.Goals as goal

pub returns-in_err-market-clause-handled_as_due : goal.returns-in_err-market-clause-handled_as_due
returns-in_err-market-clause-handled_as_due c =
    let p = err_from_is_err_and c.from_residual.result c.from_residual.ensures.1 in
    let before = book_of c.args.self.now in
    rw (p.1, p.2) (handled_form c.args.line.now before before c.if-line-gt-MAX_LINE_BYTES.false c.in_err-market.field-0.0 c.in_err-market.ensures.fault_due_or_command refl)

pub returns-in-Open-clause-handled_as_due : goal.returns-in-Open-clause-handled_as_due
returns-in-Open-clause-handled_as_due c =
    handled_command c.args.line.now (book_of c.args.self.now) (book_of c.open.new.self) c.if-line-gt-MAX_LINE_BYTES.false (Open c.in-Open.market c.in-Open.terms) c.open.result
    c.in_ok-market.ensures.fault_due_or_command.0 (c.in_ok-market.ensures.fault_due_or_command.1 ∙ ap Some c.in-Open.is) c.open.ensures.done_or_refused

pub returns-in-Perform-clause-handled_as_due : goal.returns-in-Perform-clause-handled_as_due
returns-in-Perform-clause-handled_as_due c =
    handled_command c.args.line.now (book_of c.args.self.now) (book_of c.perform.new.self) c.if-line-gt-MAX_LINE_BYTES.false (Perform c.in-Perform.call) c.perform.result
    c.in_ok-market.ensures.fault_due_or_command.0 (c.in_ok-market.ensures.fault_due_or_command.1 ∙ ap Some c.in-Perform.is) c.perform.ensures.done_or_refused
