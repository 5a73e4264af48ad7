use Rattle.std.proofs.Common.{rules}
use Rattle.records.specs.Rows.{is_participant}
use Rattle.reserved.specs.Reserved.{items}
use Rattle.book.proofs.Permitting.{found_where_placed}
use Rattle.book.proofs.tables.Book.participant_at.Goals as goal

pub returns-clause-where_known : goal.returns-clause-where_known
returns-clause-where_known g c = found_where_placed (is_participant c.args.participant) (items c.args.self.now.participants) c.position.result (search rules)
