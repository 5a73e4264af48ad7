use Rattle.std.proofs.Common.{◌≡◌, rules}
use Rattle.records.specs.Capacity.{guaranteed}
use Rattle.reserved.specs.Reserved.{items}
use Rattle.book.specs.View.{state}
use Rattle.book.proofs.Positions.{position_today}
use Rattle.book.proofs.tables.Book.position.Goals as goal

pub returns : goal.returns
returns g c =
    let book = c.args.self.now in
    let worth : c.worth_of_all.result ≡ guaranteed book.terms.margin c.share_of.result c.args.participant (items book.guarantees) book.today = search rules in
    record { as_the_definition = position_today (state book) c.args.participant c.share_of.result c.worth_of_all.result book.since_first_day c.share_of.ensures.value worth c.worth_of_all.ensures.bound }
