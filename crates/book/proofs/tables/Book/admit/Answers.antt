use Rattle.std.proofs.Common.{rules}
use Rattle.records.specs.Calls.{admitted}
use Rattle.records.proofs.Ranges.{checked_share, shares_push}
use Rattle.reserved.specs.Reserved.{items}
use Rattle.book.proofs.tables.Book.admit.Goals as goal

pub invariant_of-self-clause-shares : goal.invariant_of-self-clause-shares
invariant_of-self-clause-shares g c =
    let share = checked_share c.args.participant c.args.vat c.args.share c.in_ok-check.ensures.fault_due_for_the_input in
    let kept = shares_push (items c.args.self.now.participants) (admitted c.args.participant c.args.vat c.args.share) c.args.self.now.shares share in
    search rules
