use Rattle.std.proofs.Common.{ap}
use Rattle.records.specs.Capacity.{capacity}
use Rattle.records.proofs.Capacities.{capacity_is_least}
use Rattle.book.specs.View.{state}
use Rattle.book.proofs.tables.Book.query.Goals as goal

pub returns-clause-capacity_is_least_since_the_first_day : goal.returns-clause-capacity_is_least_since_the_first_day
returns-clause-capacity_is_least_since_the_first_day g c =
    let s = state c.args.self.now in
    (capacity s c.args.participant, ap (λ a. a.capacity) c.position.ensures.as_the_definition, capacity_is_least s c.args.participant c.args.self.now.since_first_day)
