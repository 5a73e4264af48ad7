use Rattle.std.proofs.Common.{refl, ap, ◌∙◌, rules}
use Rattle.records.specs.declared.call.Call.TheVariants.{Return}
use Rattle.records.specs.Rows.{is_guarantee, amounts_in_range}
use Rattle.records.proofs.Ranges.{amounts_remove}
use Rattle.records.proofs.Performing.{performed}
use Rattle.reserved.specs.Reserved.{items}
use Rattle.book.specs.Permits.{StandsAt}
use Rattle.book.specs.View.{state}
use Rattle.book.proofs.Permitting.{row_taken}
use Rattle.book.proofs.Positions.{same_tables}
use Rattle.book.proofs.tables.Book.return_guarantee.Goals as goal

pub invariant_of-self-clause-amounts : goal.invariant_of-self-clause-amounts
invariant_of-self-clause-amounts g c =
    let rows = items c.args.self.now.guarantees in
    let fits = is_guarantee c.args.participant c.args.guarantee in
    let here : StandsAt fits rows c.in_ok-at.at = search rules in
    ap amounts_in_range (c.remove.ensures.others_stay ∙ row_taken here) ∙ amounts_remove fits rows c.args.self.now.amounts

pub returns-clause-performed_or_refused : goal.returns-clause-performed_or_refused
returns-clause-performed_or_refused g c =
    let s = state c.args.self.now in
    let permit = c.in_ok-at.ensures.fault_due_or_its_row in
    performed (Return c.args.participant c.args.guarantee) c.position.result s _
    c.in_ok-check.ensures.fault_due_for_the_input permit.0 (same_tables s refl (c.remove.ensures.others_stay ∙ row_taken permit.1)) c.position.ensures.as_the_definition
