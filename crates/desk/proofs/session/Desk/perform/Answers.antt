use Rattle.std.proofs.Common.{Some, Err, sym, ap, subst}
use Rattle.std.specs.Option.{option_map}
use Rattle.std.proofs.lemmas.Result.{err_from_is_err_and}
use Rattle.book.specs.View.{state}
use Rattle.desk.specs.declared.fault.LineFault.TheVariants as line_fault
use Rattle.desk.specs.declared.command.Command.TheVariants.{Perform}
use Rattle.desk.specs.Lines.{Books, Commanded}
use Rattle.desk.proofs.Commanding.{refused_command}
use Rattle.desk.proofs.session.Desk.perform.Goals as goal

pub returns-in_err-call-in-Some-clause-done_or_refused : goal.returns-in_err-call-in-Some-clause-done_or_refused
returns-in_err-call-in-Some-clause-done_or_refused c =
    let p = err_from_is_err_and c.from_residual.result c.from_residual.ensures.1 in
    let done = refused_command c.args.call (state c.in-Some.book) (state c.call.new.self) c.in_err-call-in-Some.field-0.0 c.in_err-call-in-Some.ensures.performed_or_refused in
    rw (p.1, p.2) (subst (λ (b : Books). Commanded (Perform c.args.call) b (Err (line_fault.Book c.in_err-call-in-Some.field-0.0)) (Some (state c.call.new.self))) (sym (ap (option_map state) c.in-Some.is)) done)
