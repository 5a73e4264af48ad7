use Rattle.std.proofs.Common.{arith}
use Rattle.std.proofs.lemmas.Bool.Decides.{nat_tests}
use Rattle.book.proofs.Permitting.{nobody, row_found}
use Rattle.book.proofs.tables.Book.may_post.Goals as goal

pub returns-then-guarantee-as_slice : goal.returns-then-guarantee-as_slice
returns-then-guarantee-as_slice g c = let found = row_found c.in_ok-at.ensures.fault_due_or_its_row.1 nobody in record { fault_due_or_its_row = grind (arith, nat_tests) }

pub returns-then-not-is_valid_on : goal.returns-then-not-is_valid_on
returns-then-not-is_valid_on g c = let found = row_found c.in_ok-at.ensures.fault_due_or_its_row.1 nobody in record { fault_due_or_its_row = grind (arith, nat_tests) }

pub returns-then-is_full : goal.returns-then-is_full
returns-then-is_full g c = let found = row_found c.in_ok-at.ensures.fault_due_or_its_row.1 nobody in record { fault_due_or_its_row = grind (arith, nat_tests) }

pub returns : goal.returns
returns g c =
    let here = c.in_ok-at.ensures.fault_due_or_its_row.1 in
    let found = row_found here nobody in
    record { fault_due_or_its_row = (grind (arith, nat_tests), here) }
