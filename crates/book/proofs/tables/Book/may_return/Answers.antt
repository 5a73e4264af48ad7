use Rattle.std.proofs.Common.{rules}
use Rattle.book.specs.View.{state}
use Rattle.book.proofs.Permitting.{guarantee_or_fault}
use Rattle.book.proofs.tables.Book.may_return.Goals as goal

pub returns : goal.returns
returns g c = record {
  fault_due_or_its_row =
      rw c.ok_or.ensures.value
      (guarantee_or_fault (state c.args.self.now) c.args.participant c.args.number c.position.result c.in_ok-known.ensures.fault_due_or_its_row.1 (search rules));
}
