use Rattle.std.proofs.Common.{◌+◌, length, sym, refl, ap, ◌∙◌, arith}
use Rattle.std.proofs.lemmas.List.{take_rest}
use Rattle.wire.specs.Fields.{remaining}
use Rattle.wire.proofs.Splitting.{no_comma, next_handed}
use Rattle.wire.proofs.fields.ReaderIterator.next.Goals as goal

pub returns-in_err-comma-clause-steps : goal.returns-in_err-comma-clause-steps
unfolding remaining
returns-in_err-comma-clause-steps c =
    rw c.from_residual.ensures (no_comma c.args.self.now.rest.now (sym c.comma_at.ensures.first_comma ∙ c.in_err-comma.was), refl)

pub returns : goal.returns
unfolding remaining
returns c =
    let handed = next_handed c.args.self.now.rest.now _ c.in_ok-comma.comma c.unwrap_or-end.result (take_rest c.args.self.now.rest.now (c.in_ok-comma.comma + 1)) (sym c.comma_at.ensures.first_comma ∙ c.in_ok-comma.was)
    _ c.comma_at-2.ensures.first_comma c.unwrap_or-end.ensures in
    record { steps = (handed, c.saturating_add-self.ensures, refl); goes = record { on = λ _. (tt, tt, omega (arith, ap length handed)); keeps = tt; rests = λ _. tt } }
