use Rattle.std.proofs.Common.{◌≡◌, ◌<◌, ◌^◌, sum_by, sym, ◌∙◌, arith, rules}
use Rattle.coverage.specs.Allocation.{valid, amount_if}
use Rattle.coverage.proofs.Totals.{total_is, passing_le}
use Rattle.coverage.proofs.admitted.Admitted.guaranteed_on.Goals as goal

pub sum-requires-clause-fits : goal.sum-requires-clause-fits
sum-requires-clause-fits c =
    let fits : sum_by (λ x. amount_if (valid x c.args.day) x.worth) c.args.self.now.position.guarantees.now < 2 ^ 64 =
    omega (arith, passing_le (λ x. valid x c.args.day) (λ x. x.worth) c.args.self.now.position.guarantees.now, c.args.self.now.guarantees_fit) in
    search rules

pub returns : goal.returns
returns c =
    let xs = c.args.self.now.position.guarantees.now in
    let sum : c.sum.result ≡ sum_by (λ x. amount_if (valid x c.args.day) x.worth) xs = search rules in
    let most = passing_le (λ x. valid x c.args.day) (λ x. x.worth) xs in
    record { sum_of_the_valid = sum ∙ sym (total_is (λ x. amount_if (valid x c.args.day) x.worth) xs); fits = omega (arith, c.args.self.now.guarantees_fit) }
