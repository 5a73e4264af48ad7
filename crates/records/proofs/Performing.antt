-- How a call is shown to do what it promises. Assumes nothing.
use Rattle.std.proofs.Common.{◌≡◌, true, None, Ok, refl, ap, ◌∙◌}
use Rattle.records.specs.declared.answer.Answer.{Answer}
use Rattle.records.specs.declared.call.Call.{Call}
use Rattle.records.specs.declared.call.Call.TheVariants.{Admit, Post, Return, Query}
use Rattle.records.specs.Refusals.{rank, due, Smallest, cleared}
use Rattle.records.specs.State.{State}
use Rattle.records.specs.Capacity.{position}
use Rattle.records.specs.Calls.{input, against, causes, carried, participant_of, Performs}
use Rattle.records.proofs.Refusing.{due_smallest, due_second, rises, none_due}

module _ {R C : Type 0} where
  in_order : (call : Call) (s : State R C) → rises rank (causes call s) ≡ true
  in_order (Admit participant vat share) s = refl
  in_order (Post participant guarantee last_day cents) s = refl
  in_order (Return participant guarantee) s = refl
  in_order (Query participant) s = refl

  smallest_due : (call : Call) (s : State R C) → Smallest rank (causes call s) (due (causes call s))
  smallest_due call s = due_smallest rank (causes call s) (in_order call s)

  -- a call that is carried out
  pub performed : (call : Call) (a : Answer) (s t : State R C) → Ok tt ≡ cleared (due (input call)) → due (against call s) ≡ None → t ≡ carried call s →
      a ≡ position t (participant_of call) → Performs call s (Ok a) t
  performed call a s t ok e after answer = record {
    smallest = smallest_due call s;
    outcome = rw (due_second (input call) (against call s) (none_due _ ok) ∙ e) (ap Ok (answer ∙ ap (λ x. position x (participant_of call)) after), after);
  }
