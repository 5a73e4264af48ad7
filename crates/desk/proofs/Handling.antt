-- How a line is shown to be handled by the fault due. Assumes nothing.
use Rattle.std.proofs.Common.{◌≡◌, ℕ, ◌<◌, ◌≤◌, Bool, true, false, ltb, List, [], ◌∷◌, ◌++◌, length, Some, None, Err, Option, Result, sym, refl, ap, subst, arith}
use Rattle.std.proofs.lemmas.Bool.Decides.{nat_tests}
use Rattle.records.specs.declared.answer.Answer.{Answer}
use Rattle.records.specs.Refusals.{◌when◌, due, Smallest}
use Rattle.records.proofs.Refusing.{due_first, due_second, due_smallest, rises}
use Rattle.desk.specs.declared.command.Command.{Command}
use Rattle.desk.specs.declared.fault.LineFault.{LineFault}
use Rattle.desk.specs.declared.fault.LineFault.TheVariants.{BufferTooShort, LineTooLong}
use Rattle.desk.specs.Faults.{rank}
use Rattle.desk.specs.Commands.{Kind, opens, admits, posts, returns, queries, kind_of, form_after, command_after, line_form, command_of}
use Rattle.desk.specs.Lines.{Books, Done, Handled, Commanded, CommandedBy, Answered, line_causes, causes, against_books}

module _ (line : List ℕ) (before after : Books) where
  module _ (short : length line ≤ 80) where
    not_long : ltb 80 (length line) ≡ false
    not_long = grind (arith, nat_tests)

    -- a line whose form is at fault
    pub handled_form : (f : LineFault) → due (line_form line) ≡ Some f → after ≡ before → Handled (due (line_causes line before)) line before (Err f) after
    handled_form f e same = rw (not_long, due_first (line_form line) (against_books (command_of line) before) f e) (refl, same)

    by_command : (c : Command) (reply : Result Answer LineFault) (o : Option LineFault) → command_of line ≡ Some c → CommandedBy o c before reply after →
        Handled o line before reply after
    by_command c reply (Some f) e done = done
    by_command c reply None e done = subst (λ d. Done d before reply after) (sym e) done

    -- a line that gives a command
    pub handled_command : (c : Command) (reply : Result Answer LineFault) → due (line_form line) ≡ None → command_of line ≡ Some c →
        Commanded c before reply after → Handled (due (line_causes line before)) line before reply after
    handled_command c reply none e done =
        rw (not_long, due_second (line_form line) (against_books (command_of line) before) none, ap (λ d. due (against_books d before)) e)
        (by_command c reply _ e done)

-- the causes of every line rise
rises_kind : (short long : Bool) (k : Option Kind) (rest : List ℕ) (book : Books) →
    rises rank ((BufferTooShort when short) ∷ (LineTooLong when long) ∷ (form_after k rest ++ against_books (command_after k rest) book)) ≡ true
rises_kind short long None rest book = refl
rises_kind short long (Some opens) rest book = refl
rises_kind short long (Some admits) rest None = refl
rises_kind short long (Some admits) rest (Some s) = refl
rises_kind short long (Some posts) rest None = refl
rises_kind short long (Some posts) rest (Some s) = refl
rises_kind short long (Some returns) rest None = refl
rises_kind short long (Some returns) rest (Some s) = refl
rises_kind short long (Some queries) rest None = refl
rises_kind short long (Some queries) rest (Some s) = refl

rises_line : (room : ℕ) (line : List ℕ) (book : Books) → rises rank (causes room line book) ≡ true
rises_line room [] book = refl
rises_line room (letter ∷ rest) book = rises_kind (ltb room 96) (ltb 80 (length (letter ∷ rest))) (kind_of letter) rest book

pub smallest_due : (room : ℕ) (line : List ℕ) (book : Books) → Smallest rank (causes room line book) (due (causes room line book))
smallest_due room line book = due_smallest rank (causes room line book) (rises_line room line book)

module _ (number : ℕ) (line buffer : List ℕ) (before : Books) where
  -- a buffer that is too short
  pub answered_short : length buffer < 96 → Answered number line buffer before (Err (record { fault = BufferTooShort; length = 0 })) buffer before
  answered_short short =
      let t : ltb (length buffer) 96 ≡ true = grind (arith, nat_tests) in
      record {
        reply = Err BufferTooShort;
        handled = rw t (refl, refl);
        answered = rw t;
        written = rw t;
      }
