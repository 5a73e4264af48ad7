use Rattle.std.proofs.Common.{arith, rules}
use Rattle.std.proofs.lemmas.Int.{ints}
use Rattle.records.proofs.Ranges.{checked_margin, checked_reference, shares_none, amounts_none}
use Rattle.records.proofs.Refusing.{none_due}
use Rattle.book.proofs.tables.Book.open.Goals as goal

pub overflow_cast-terms : goal.overflow_cast-terms
overflow_cast-terms g c = let r = checked_reference c.args.terms c.in_ok-check.ensures.fault_due_for_the_input in omega (arith, ints)

pub invariant_of-publish : goal.invariant_of-publish
invariant_of-publish g c =
    let r = checked_reference c.args.terms c.in_ok-check.ensures.fault_due_for_the_input in
    record { ranged = omega (arith, ints) }

pub invariant_of-result-clause-margin_in_range : goal.invariant_of-result-clause-margin_in_range
invariant_of-result-clause-margin_in_range g c = checked_margin c.args.terms c.in_ok-check.ensures.fault_due_for_the_input

pub invariant_of-result-clause-shares : goal.invariant_of-result-clause-shares
invariant_of-result-clause-shares g c = rw c.in_ok-participants.ensures.holds_nothing shares_none

pub invariant_of-result-clause-amounts : goal.invariant_of-result-clause-amounts
invariant_of-result-clause-amounts g c = rw c.in_ok-guarantees.ensures.holds_nothing amounts_none

pub returns : goal.returns
returns g c =
    let r = checked_reference c.args.terms c.in_ok-check.ensures.fault_due_for_the_input in
    record {
      empty_on_its_terms_or_refused = (
        none_due _ c.in_ok-check.ensures.fault_due_for_the_input,
        search rules,
        record { price = _; of_the_terms = omega (arith, ints); replaced = c.publish.ensures.replaces_the_reference },
      );
    }
