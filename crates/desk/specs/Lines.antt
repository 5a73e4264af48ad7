-- What a line does: all that it can be refused for, what it does to the book, and what is written. Assumes nothing.
use Rattle.std.specs.Prelude.{◌≡◌, ℕ, true, cond, ◌⊎◌, List, [], ◌∷◌, ◌++◌, map, length, pos, is_some, Some, None, Ok, Err, Option, Result, nat_lt}
use Rattle.std.specs.Option.{option_map}
use Rattle.market.specs.declared.any.Market.{Market}
use Rattle.market.specs.declared.weeks.Weeks.{Weeks}
use Rattle.market.specs.Rules.{any}
use Rattle.records.specs.declared.answer.Answer.{Answer}
use Rattle.records.specs.declared.answer.Status.TheVariants.{New}
use Rattle.records.specs.declared.call.Terms.{Terms}
use Rattle.records.specs.declared.fault.Fault.{Fault}
use Rattle.records.specs.declared.fault.Refusal.{Refusal}
use Rattle.records.specs.Refusals.{Cause, ◌when◌, due}
use Rattle.records.specs.State.{State, opened}
use Rattle.records.specs.Capacity.{position}
use Rattle.records.specs.Calls.{terms_input, input, against, carried, participant_of}
use Rattle.book.specs.View.{state}
use Rattle.wire.specs.Lines.{answer_fields, refusal_fields, line_of, fronted, line_room}
use Rattle.desk.specs.declared.command.Command.{Command}
use Rattle.desk.specs.declared.command.Command.TheVariants.{Open, Perform}
use Rattle.desk.specs.declared.command.MarketName.{MarketName}
use Rattle.desk.specs.declared.fault.LineFault.{LineFault}
use Rattle.desk.specs.declared.fault.LineFault.TheVariants.{BufferTooShort, LineTooLong, NotOpen, AlreadyOpen, Book, OutOfMemory}
use Rattle.desk.specs.declared.fault.Refused.{Refused}
use Rattle.desk.specs.declared.session.Desk.{Desk}
use Rattle.desk.specs.Faults.{refusal}
use Rattle.desk.specs.Commands.{Follows, line_form, command_of}

-- the book of a desk, if one is open
abbrev pub Books : Type 0
Books = Option (State Market Weeks)

abbrev pub book_of : Desk → Books
book_of desk = option_map state desk.book

-- the book's causes, as causes of the line
abbrev pub of_book : List (Cause Fault) → List (Cause LineFault)
of_book causes = map (λ cause. Book cause.fault when cause.present) causes

-- What a command can be refused for: first what it says by itself, then whether a book is open, then what the book says.
abbrev pub against_book : Command → Books → List (Cause LineFault)
against_book (Open market terms) book = of_book (terms_input terms) ++ ((AlreadyOpen when is_some book) ∷ [])
against_book (Perform call) None = of_book (input call) ++ ((NotOpen when true) ∷ [])
against_book (Perform call) (Some s) = of_book (input call) ++ of_book (against call s)

abbrev pub against_books : Option Command → Books → List (Cause LineFault)
against_books None book = []
against_books (Some c) book = against_book c book

-- all that a line can be refused for, apart from a short answer buffer
abbrev pub line_causes : List ℕ → Books → List (Cause LineFault)
line_causes line book =
    (LineTooLong when nat_lt 80 (length line)) ∷ (line_form line ++ against_books (command_of line) book)

-- all that a line can be refused for, given the bytes of the answer buffer
abbrev pub causes : ℕ → List ℕ → Books → List (Cause LineFault)
causes room line book = (BufferTooShort when nat_lt room line_room) ∷ line_causes line book

-- what opening the book answers
abbrev pub zeros : Answer
zeros = record { status = New; exposure = pos 0; credit_position = pos 0; capacity = pos 0 }

-- A book that was just opened: it follows the rule of the market named, with the reference price of the terms published, settles
-- by weeks, and is empty on its terms.
pub record Fresh (name : MarketName) (terms : Terms) (book : Books) : Type 0 where
  pub rule : Market
  pub follows : Follows name rule
  pub reference : (any.reference rule).cents ≡ terms.reference
  pub empty : book ≡ Some (opened rule (record {}) terms)

-- What a command that nothing is due against does to the book, and answers. Only opening can find no memory. Where nothing is due
-- there is a command, and a call meets an open book: the two other cases do not occur.
abbrev pub Done : Option Command → Books → Result Answer LineFault → Books → Type 0
Done None before reply after = ⊥
Done (Some (Open market terms)) before reply after =
    ((reply ≡ Ok zeros) × Fresh market terms after) ⊎ ((reply ≡ Err OutOfMemory) × (after ≡ before))
Done (Some (Perform call)) None reply after = ⊥
Done (Some (Perform call)) (Some s) reply after =
    (reply ≡ Ok (position (carried call s) (participant_of call))) × (after ≡ Some (carried call s))

-- the same by the fault due: with one the line is refused with it, and the book stays
abbrev pub Handled : Option LineFault → List ℕ → Books → Result Answer LineFault → Books → Type 0
Handled (Some fault) line before reply after = (reply ≡ Err fault) × (after ≡ before)
Handled None line before reply after = Done (command_of line) before reply after

-- what is written for a reply: its answer line or its refusal line, and nothing for want of memory
abbrev pub refused_text : ℕ → Option Refusal → List ℕ
refused_text number None = []
refused_text number (Some r) = line_of number (refusal_fields r)

abbrev pub text : ℕ → Result Answer LineFault → List ℕ
text number (Ok answer) = line_of number (answer_fields answer)
text number (Err fault) = refused_text number (refusal fault)

-- into a buffer that is too short nothing at all is written
abbrev pub text_in : ℕ → ℕ → Result Answer LineFault → List ℕ
text_in room number reply = cond (nat_lt room line_room) [] (text number reply)

-- what the line call answers: the length of what it wrote, and the fault where the line is refused
abbrev pub told : Result Answer LineFault → ℕ → Result ℕ Refused
told (Ok answer) length = Ok length
told (Err fault) length = Err (record { fault = fault; length = length })

-- how many bytes the line call says that it wrote
abbrev pub length_told : Result ℕ Refused → ℕ
length_told (Ok length) = length
length_told (Err refused) = refused.length

-- The line call, from the buffer and the book before it to those after it: the line is handled by the fault due, and what is
-- written for the reply stands at the buffer's front, with every byte after it as it was.
pub record Answered (number : ℕ) (line buffer : List ℕ) (before : Books) (r : Result ℕ Refused) (buffer' : List ℕ) (after : Books) : Type 0 where
  pub reply : Result Answer LineFault
  pub handled : Handled (due (causes (length buffer) line before)) line before reply after
  pub answered : r ≡ told reply (length (text_in (length buffer) number reply))
  pub written : buffer' ≡ fronted (text_in (length buffer) number reply) buffer

-- the line is refused with the fault due, or, with none due, its command is done
abbrev pub CommandedBy : Option LineFault → Command → Books → Result Answer LineFault → Books → Type 0
CommandedBy (Some fault) c before reply after = (reply ≡ Err fault) × (after ≡ before)
CommandedBy None c before reply after = Done (Some c) before reply after

abbrev pub Commanded : Command → Books → Result Answer LineFault → Books → Type 0
Commanded c before reply after = CommandedBy (due (against_book c before)) c before reply after
