use Rattle.std.proofs.Common.{◌≡◌, sum_by, sym, ◌∙◌, arith, rules}
use Rattle.std.proofs.lemmas.Iterator.{YieldsList-from_slice}
use Rattle.std.proofs.lemmas.Iterator.Adapters.{serves_from_places}
use Rattle.records.specs.Capacity.{worth_on}
use Rattle.records.proofs.Ranges.{amount_at}
use Rattle.book.proofs.Positions.{guaranteed_sum, guaranteed_most}
use Rattle.book.proofs.tables.position.Valuation.worth_of_all.Goals as goal

pub sum-requires-clause-can : goal.sum-requires-clause-can
sum-requires-clause-can c =
    (tt, serves_from_places (YieldsList-from_slice c.args.guarantees.now cc) (λ x q r. search rules) (λ x k lt is. λ _ _ _ _ _. rw is (amount_at _ k x.now c.requires.amounts lt)))

pub returns : goal.returns
returns c =
    let v = c.args.self.now in
    let each : c.sum.result ≡ sum_by (worth_on v.margin v.share v.participant v.day) c.args.guarantees.now = search rules in
    let value = each ∙ sym (guaranteed_sum v.margin v.share v.participant v.day c.args.guarantees.now) in
    let most = guaranteed_most v.margin v.share v.participant v.day c.args.guarantees.now v.share_in_range c.requires.amounts in
    record { value = value; bound = omega arith }
