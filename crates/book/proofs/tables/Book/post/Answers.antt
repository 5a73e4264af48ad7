use Rattle.std.proofs.Common.{◌≡◌, ◌∷◌, [], ◌++◌, get_or, refl, rules}
use Rattle.records.specs.declared.call.Call.TheVariants.{Post}
use Rattle.records.specs.declared.rows.Guarantee.{Guarantee}
use Rattle.records.specs.Rows.{is_participant}
use Rattle.records.specs.Calls.{having_posted}
use Rattle.records.proofs.Ranges.{checked_amount, shares_change, amounts_push}
use Rattle.records.proofs.Performing.{performed}
use Rattle.reserved.specs.Reserved.{items}
use Rattle.book.specs.View.{state}
use Rattle.book.proofs.Positions.{same_tables}
use Rattle.book.proofs.Permitting.{row_changed}
use Rattle.book.proofs.tables.Book.post.Goals as goal

pub invariant_of-self-clause-shares : goal.invariant_of-self-clause-shares
invariant_of-self-clause-shares g c =
    let book = c.args.self.now in
    let row : c.unwrap.result.now ≡ get_or (items book.participants) c.in_ok-at.at c.unwrap.result.now = search rules in
    let changed = row_changed c.in_ok-at.ensures.fault_due_or_its_row.1 (having_posted c.args.guarantee) c.unwrap.result.now row in
    let kept = shares_change (is_participant c.args.participant) (having_posted c.args.guarantee) (λ _. refl) (items book.participants) book.shares in
    search rules

pub invariant_of-self-clause-amounts : goal.invariant_of-self-clause-amounts
invariant_of-self-clause-amounts g c =
    let posted : Guarantee = record { participant = c.args.participant; number = c.args.guarantee; cents = c.args.cents; last_day = c.args.last_day } in
    let amount = checked_amount c.args.participant c.args.guarantee c.args.last_day c.args.cents c.in_ok-check.ensures.fault_due_for_the_input in
    let kept = amounts_push (items c.args.self.now.guarantees) posted c.args.self.now.amounts amount in
    search rules

pub returns-clause-performed_or_refused : goal.returns-clause-performed_or_refused
returns-clause-performed_or_refused g c =
    let book = c.args.self.now in
    let permit = c.in_ok-at.ensures.fault_due_or_its_row in
    let row : c.unwrap.result.now ≡ get_or (items book.participants) c.in_ok-at.at c.unwrap.result.now = search rules in
    let changed = row_changed permit.1 (having_posted c.args.guarantee) c.unwrap.result.now row in
    let posted : Guarantee = record { participant = c.args.participant; number = c.args.guarantee; cents = c.args.cents; last_day = c.args.last_day } in
    let pushed : items c.push.new.self ≡ items book.guarantees ++ (posted ∷ []) = search rules in
    performed (Post c.args.participant c.args.guarantee c.args.last_day c.args.cents) c.position.result (state book) _
    c.in_ok-check.ensures.fault_due_for_the_input permit.0 (same_tables (state book) changed pushed) c.position.ensures.as_the_definition
