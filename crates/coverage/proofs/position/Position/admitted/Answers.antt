use Rattle.std.proofs.Common.{arith}
use Rattle.coverage.specs.Admission.{Admissible, position_of}
use Rattle.coverage.proofs.Limits.{debts_limit, credits_limit, guarantees_limit}
use Rattle.coverage.proofs.position.Position.admitted.Goals as goal

pub invariant_of-result : goal.invariant_of-result
invariant_of-result c =
    let fit : Admissible (position_of c.args.self.now) = c.is_admissible.ensures.exactly_when_within_the_limits.0 c.if-is_admissible.true in
    record {
      days_in_order = fit.days_in_order;
      debts_fit = omega (arith, debts_limit (position_of c.args.self.now) fit);
      credits_fit = omega (arith, credits_limit (position_of c.args.self.now) fit);
      guarantees_fit = omega (arith, guarantees_limit (position_of c.args.self.now) fit);
    }
