use Rattle.std.proofs.Common.{◌≡◌, false, sym, ap, ◌∙◌, arith}
use Rattle.coverage.specs.Admission.{position_of}
use Rattle.coverage.specs.Allocation.{Position, total}
use Rattle.coverage.specs.Capacity.{excess, owes_in, periods}
use Rattle.coverage.proofs.Limits.{uncredited_le}
use Rattle.coverage.proofs.Periods.{periods_last}
use Rattle.coverage.proofs.admitted.Admitted.uncredited_from.Goals as goal

pub overflow_add-sum : goal.overflow_add-sum
overflow_add-sum c =
    let p : Position = position_of c.args.self.now.position in
    let last : owes_in c.in-Some.after.now c.in-Some.debt.now.period ≡ false = sym c.owes_in.ensures.some_debt_of_the_period ∙ c.if-not-owes_in.true in
    record {
      fits = omega (
        arith,
        ap (λ xs. total (excess p c.args.day) (periods xs)) c.in-Some.ensures.cases.0,
        ap (total (excess p c.args.day)) (periods_last c.in-Some.debt.now c.in-Some.after.now last),
        c.excess_in-sum.ensures.debts_above_credit,
        uncredited_le p c.args.day,
        c.args.self.now.debts_fit,
      );
    }

pub returns-clause-fits : goal.returns-clause-fits
returns-clause-fits c = omega (arith, uncredited_le (position_of c.args.self.now.position) c.args.day, c.args.self.now.debts_fit)
