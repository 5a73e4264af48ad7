-- The book's fault and answer, carried up into the line's. Assumes nothing.
use Rattle.std.proofs.Common.{◌≡◌, ℕ, Bool, true, false, cond, List, [], ◌∷◌, ◌++◌, Some, None, Err, Option, sym, refl, ap, ◌∙◌, subst, arith}
use Rattle.std.specs.Option.{option_map}
use Rattle.records.specs.declared.call.Call.{Call}
use Rattle.records.specs.declared.fault.Fault.{Fault}
use Rattle.records.specs.Refusals.{Cause, ◌when◌, due}
use Rattle.records.specs.State.{State}
use Rattle.records.specs.Calls.{input, against, causes, Performs, Outcome}
use Rattle.desk.specs.declared.command.Command.TheVariants.{Perform}
use Rattle.market.specs.declared.any.Market.{Market}
use Rattle.market.specs.declared.weeks.Weeks.{Weeks}
use Rattle.desk.specs.declared.fault.LineFault.{LineFault}
use Rattle.desk.specs.declared.fault.LineFault.TheVariants.{Book}
use Rattle.desk.specs.Lines.{Commanded, CommandedBy, against_book, of_book}

-- the line's fault due is the book's
due_by : (b : Bool) (f : Fault) (o : Option Fault) (p : Option LineFault) → p ≡ option_map Book o → cond b (Some (Book f)) p ≡ option_map Book (cond b (Some f) o)
due_by true f o p e = refl
due_by false f o p e = e

pub due_of_book : (xs : List (Cause Fault)) → due (of_book xs) ≡ option_map Book (due xs)
due_of_book [] = refl
due_of_book (x ∷ xs) = due_by x.present x.fault (due xs) (due (of_book xs)) (due_of_book xs)

of_book_append : (xs ys : List (Cause Fault)) → of_book xs ++ of_book ys ≡ of_book (xs ++ ys)
of_book_append [] ys = refl
of_book_append (x ∷ xs) ys = ap (λ zs. (Book x.fault when x.present) ∷ zs) (of_book_append xs ys)

module _ (call : Call) (s t : State Market Weeks) where
  due_with_book : due (against_book (Perform call) (Some s)) ≡ option_map Book (due (causes call s))
  due_with_book = ap due (of_book_append (input call) (against call s)) ∙ due_of_book (causes call s)

  refused_by : (o : Option Fault) (f : Fault) → Outcome call s o (Err f) t → CommandedBy (option_map Book o) (Perform call) (Some s) (Err (Book f)) (Some t)
  refused_by (Some g) f (e, same) = (let h : f ≡ g = cc in ap (λ x. Err (Book x)) h, ap Some same)
  refused_by None f (e, same) = absurd (let z : ◌≡◌ {A = ℕ} 0 1 = cc in omega arith)

  -- a call of the book is the command of the line
  pub refused_command : (f : Fault) → Performs call s (Err f) t → Commanded (Perform call) (Some s) (Err (Book f)) (Some t)
  refused_command f p = subst (λ o. CommandedBy o (Perform call) (Some s) (Err (Book f)) (Some t)) (sym due_with_book) (refused_by (due (causes call s)) f p.outcome)
