-- What a book holds, and the memory that it has reserved for it. Assumes nothing.
use Rattle.std.specs.Prelude.{◌≡◌}
use Rattle.records.specs.State.{State}
use Rattle.reserved.specs.Reserved.{items, capacity}
use Rattle.book.specs.declared.tables.Book.{Book}

abbrev pub state : {R C : Type 0} → Book R C → State R C
state book = record {
  rule = book.rule;
  calendar = book.calendar;
  terms = book.terms;
  today = book.today;
  participants = items book.participants;
  guarantees = items book.guarantees;
}

-- a call takes no memory and gives none back: the tables have room for as many rows as before
pub record SameMemory {R C : Type 0} (before after : Book R C) : Type 0 where
  pub participants : capacity after.participants ≡ capacity before.participants
  pub guarantees : capacity after.guarantees ≡ capacity before.guarantees
