use Rattle.std.proofs.Common.{◌≡◌, ◌<◌, ◌^◌, ◌==◌, sum_by, sym, ◌∙◌, arith, rules}
use Rattle.coverage.specs.Allocation.{amount_if}
use Rattle.coverage.proofs.Totals.{total_is, passing_le}
use Rattle.coverage.proofs.admitted.Admitted.credited_in.Goals as goal

pub sum-requires-clause-fits : goal.sum-requires-clause-fits
sum-requires-clause-fits c =
    let fits : sum_by (λ x. amount_if (x.period == c.args.period) x.grains) c.args.self.now.position.credits.now < 2 ^ 64 =
    omega (arith, passing_le (λ x. x.period == c.args.period) (λ x. x.grains) c.args.self.now.position.credits.now, c.args.self.now.credits_fit) in
    search rules

pub returns : goal.returns
returns c =
    let xs = c.args.self.now.position.credits.now in
    let sum : c.sum.result ≡ sum_by (λ x. amount_if (x.period == c.args.period) x.grains) xs = search rules in
    record { sum_of_the_period = sum ∙ sym (total_is (λ x. amount_if (x.period == c.args.period) x.grains) xs) }
