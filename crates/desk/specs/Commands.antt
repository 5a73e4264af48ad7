-- The commands: which letter chooses which, the fields that each has, and what can be wrong with a line by its form. Assumes nothing.
use Rattle.std.specs.Prelude.{◌≡◌, ℕ, ◌<◌, Bool, true, false, cond, not, ◌&&◌, List, [], ◌∷◌, length, pos, is_some, Some, None, Ok, Err, Option, Result, ◌==◌, nat_lt, slice_index_or}
use Rattle.std.specs.Borrow.{Bor}
use Rattle.std.specs.Option.{unwrap_or}
use Rattle.market.specs.declared.any.Market.{Market}
use Rattle.market.specs.declared.any.Market.TheVariants as market
use Rattle.records.specs.Refusals.{Cause, ◌when◌, due}
use Rattle.records.specs.declared.call.Call.TheVariants.{Admit, Post, Return, Query}
use Rattle.wire.specs.Fields.{comma, fields, remaining, place, next_place}
use Rattle.wire.specs.Numbers.{number_of, price_of, last_day_of}
use Rattle.wire.specs.declared.fields.Field.{Field}
use Rattle.wire.specs.declared.fields.Reader.{Reader}
use Rattle.desk.specs.declared.command.Command.{Command}
use Rattle.desk.specs.declared.command.Command.TheVariants.{Open, Perform}
use Rattle.desk.specs.declared.command.MarketName.{MarketName}
use Rattle.desk.specs.declared.command.MarketName.TheVariants.{Xbid, Mpeg, Pce}
use Rattle.desk.specs.declared.fault.LineFault.{LineFault}
use Rattle.desk.specs.declared.fault.LineFault.TheVariants.{UnknownLetter, WrongFieldCount, NotANumber}

-- The market that a field names: X is MI-XBID, M is MPEG, P is PCE.
abbrev pub market_of : List ℕ → Option MarketName
market_of [] = None
market_of (letter ∷ []) =
    cond (letter == 88) (Some Xbid) (cond (letter == 77) (Some Mpeg) (cond (letter == 80) (Some Pce) None))
market_of (letter ∷ next ∷ rest) = None

-- the letter that names a market
abbrev pub letter_for : MarketName → ℕ
letter_for Xbid = 88
letter_for Mpeg = 77
letter_for Pce = 80

-- a field that names a market: its letter alone
abbrev pub Names : List ℕ → MarketName → Type 0
Names bytes name = bytes ≡ letter_for name ∷ []

-- the rule of the market that is named
abbrev pub Follows : MarketName → Market → Type 0
Follows Xbid (market.Xbid rule) = Unit {0}
Follows Xbid (market.Mpeg rule) = ⊥
Follows Xbid (market.Pce rule) = ⊥
Follows Mpeg (market.Xbid rule) = ⊥
Follows Mpeg (market.Mpeg rule) = Unit {0}
Follows Mpeg (market.Pce rule) = ⊥
Follows Pce (market.Xbid rule) = ⊥
Follows Pce (market.Mpeg rule) = ⊥
Follows Pce (market.Pce rule) = Unit {0}

-- The fields of a command are counted from 0; the first stands at place 2, after the letter. One that is missing counts as empty.
abbrev pub field : List (List ℕ) → ℕ → List ℕ
field fs i = slice_index_or fs i []

-- Commands by their letters: O opens the book, A admits, G posts a guarantee, R returns one, Q queries.
pub data Kind : Type 0 where
  opens : Kind
  admits : Kind
  posts : Kind
  returns : Kind
  queries : Kind

abbrev pub kind_of : ℕ → Option Kind
kind_of letter =
    cond (letter == 79) (Some opens) (
    cond (letter == 65) (Some admits) (
    cond (letter == 71) (Some posts) (
    cond (letter == 82) (Some returns) (
    cond (letter == 81) (Some queries) None))))

-- a field that is there and names no market
abbrev pub unknown_market : List (List ℕ) → Bool
unknown_market fs = nat_lt 0 (length fs) && not (is_some (market_of (field fs 0)))

abbrev pub not_a_number : List (List ℕ) → ℕ → Bool
not_a_number fs i = not (is_some (number_of (field fs i)))

abbrev pub not_a_price : List (List ℕ) → ℕ → Bool
not_a_price fs i = not (is_some (price_of (field fs i)))

abbrev pub not_a_last_day : List (List ℕ) → ℕ → Bool
not_a_last_day fs i = not (is_some (last_day_of (field fs i)))

abbrev pub wrong_count : List (List ℕ) → ℕ → Bool
wrong_count fs n = not (length fs == n)

-- what can be wrong with the form of a command's fields
abbrev pub form : Kind → List (List ℕ) → List (Cause LineFault)
form opens fs =
    (UnknownLetter 2 when unknown_market fs) ∷
    (WrongFieldCount when wrong_count fs 4) ∷
    (NotANumber 3 when not_a_number fs 1) ∷
    (NotANumber 4 when not_a_number fs 2) ∷
    (NotANumber 5 when not_a_price fs 3) ∷ []
form admits fs =
    (WrongFieldCount when wrong_count fs 3) ∷
    (NotANumber 2 when not_a_number fs 0) ∷
    (NotANumber 3 when not_a_number fs 1) ∷
    (NotANumber 4 when not_a_number fs 2) ∷ []
form posts fs =
    (WrongFieldCount when wrong_count fs 4) ∷
    (NotANumber 2 when not_a_number fs 0) ∷
    (NotANumber 3 when not_a_number fs 1) ∷
    (NotANumber 4 when not_a_last_day fs 2) ∷
    (NotANumber 5 when not_a_number fs 3) ∷ []
form returns fs =
    (WrongFieldCount when wrong_count fs 2) ∷
    (NotANumber 2 when not_a_number fs 0) ∷
    (NotANumber 3 when not_a_number fs 1) ∷ []
form queries fs =
    (WrongFieldCount when wrong_count fs 1) ∷
    (NotANumber 2 when not_a_number fs 0) ∷ []

-- What the fields say, where their form is right; a field that is not in its form counts as 0, and its fault is due first.
abbrev pub number_in : List (List ℕ) → ℕ → ℕ
number_in fs i = unwrap_or (number_of (field fs i)) 0

abbrev pub command : Kind → List (List ℕ) → Command
command opens fs = Open (unwrap_or (market_of (field fs 0)) Xbid)
    (record { margin = number_in fs 1; first_day = number_in fs 2; reference = unwrap_or (price_of (field fs 3)) (pos 0) })
command admits fs = Perform (Admit (number_in fs 0) (number_in fs 1) (number_in fs 2))
command posts fs = Perform (Post (number_in fs 0) (number_in fs 1) (unwrap_or (last_day_of (field fs 2)) None) (number_in fs 3))
command returns fs = Perform (Return (number_in fs 0) (number_in fs 1))
command queries fs = Perform (Query (number_in fs 0))

-- a letter is followed by nothing or by a comma
abbrev pub led : List ℕ → Bool
led [] = true
led (b ∷ bs) = b == comma

abbrev pub form_after : Option Kind → List ℕ → List (Cause LineFault)
form_after None rest = (UnknownLetter 1 when true) ∷ []
form_after (Some kind) rest = (UnknownLetter 1 when not (led rest)) ∷ form kind (fields rest)

-- what can be wrong with the form of a line; an empty line has no letter
abbrev pub line_form : List ℕ → List (Cause LineFault)
line_form [] = (UnknownLetter 1 when true) ∷ []
line_form (letter ∷ rest) = form_after (kind_of letter) rest

abbrev pub command_after : Option Kind → List ℕ → Option Command
command_after None rest = None
command_after (Some kind) rest = Some (command kind (fields rest))

-- the command that a line gives
abbrev pub command_of : List ℕ → Option Command
command_of [] = None
command_of (letter ∷ rest) = command_after (kind_of letter) rest

-- what a reader of lines answers: the fault due for the form, or the command
abbrev pub Reads : List ℕ → Result Command LineFault → Type 0
Reads line (Err fault) = due (line_form line) ≡ Some fault
Reads line (Ok c) = (due (line_form line) ≡ None) × (command_of line ≡ Some c)

-- the same for the fields of one command, in the text after its letter
abbrev pub Takes : Kind → List ℕ → Result Command LineFault → Type 0
Takes kind rest (Err fault) = due (form kind (fields rest)) ≡ Some fault
Takes kind rest (Ok c) = (due (form kind (fields rest)) ≡ None) × (command kind (fields rest) ≡ c)

-- the text after a letter, where it is led by a comma or empty
abbrev pub Led : List ℕ → Result (Bor (List ℕ)) LineFault → Type 0
Led rest (Ok text) = (led rest ≡ true) × (text.now ≡ rest)
Led rest (Err fault) = (led rest ≡ false) × (fault ≡ UnknownLetter 1)

-- the next field that a reader hands out, which has to be there
abbrev pub NextField : Reader → Result Field LineFault → Reader → Type 0
NextField before (Ok f) after =
    (remaining before ≡ f.bytes.now ∷ remaining after) × (f.place ≡ next_place (place before)) × (place after ≡ f.place)
NextField before (Err fault) after = (remaining before ≡ []) × (fault ≡ WrongFieldCount)

-- that a reader has handed out every field
abbrev pub Ended : Reader → Result (Unit {0}) LineFault → Type 0
Ended reader (Ok u) = remaining reader ≡ []
Ended reader (Err fault) = (0 < length (remaining reader)) × (fault ≡ WrongFieldCount)
