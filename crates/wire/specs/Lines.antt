-- The text of answer lines and refusal lines, and a buffer over which text is written.
use Rattle.std.specs.Prelude.{◌≡◌, ℕ, ◌^◌, ◌<◌, ◌≤◌, List, [], ◌∷◌, ◌++◌, length, drop, ℤ, pos, Some, None, decimal, Option, unwrap_or, unsigned_abs}
use Rattle.std.specs.List.{flat_map}
use Rattle.std.specs.Fmt.{signed_decimal}
use Rattle.records.specs.declared.answer.Answer.{Answer}
use Rattle.records.specs.declared.answer.Status.{Status}
use Rattle.records.specs.declared.answer.Status.TheVariants.{New, CountedBefore}
use Rattle.records.specs.declared.fault.Layer.{Layer}
use Rattle.records.specs.declared.fault.Layer.TheVariants.{Line, Field, Book}
use Rattle.records.specs.declared.fault.Refusal.{Refusal}
use Rattle.wire.specs.Fields.{comma, before, fields}
use Rattle.wire.specs.Numbers.{number_of, price_of}

-- the byte that ends a line
abbrev pub line_feed : ℕ
line_feed = 10

-- fields, with a comma before each
abbrev pub after_commas : List (List ℕ) → List ℕ
after_commas fs = flat_map (λ f. comma ∷ f) fs

-- a line: its number, the fields after it with a comma before each, and a line feed
abbrev pub line_of : ℕ → List (List ℕ) → List ℕ
line_of number fs = (decimal number ++ after_commas fs) ++ line_feed ∷ []

-- the digit 0 for a call that was carried out, 1 for a confirmation that was counted before
abbrev pub status_digit : Status → ℕ
status_digit New = 48
status_digit CountedBefore = 49

-- L, F or B
abbrev pub layer_letter : Layer → ℕ
layer_letter Line = 76
layer_letter Field = 70
layer_letter Book = 66

-- what follows the line number in an answer line: status, exposure, credit position, capacity
abbrev pub answer_fields : Answer → List (List ℕ)
answer_fields a = (status_digit a.status ∷ []) ∷ signed_decimal a.exposure ∷ signed_decimal a.credit_position ∷ signed_decimal a.capacity ∷ []

-- what follows the line number in a refusal line: refusal number, layer, the field's place or 0 where no field is at fault
abbrev pub refusal_fields : Refusal → List (List ℕ)
refusal_fields r = decimal r.number ∷ (layer_letter r.layer ∷ []) ∷ decimal (unwrap_or r.place 0) ∷ []

-- a text is a line number, the fields fs and a line feed, and its fields by commas are no others
abbrev pub FallsInto : List ℕ → ℕ → List (List ℕ) → Type 0
FallsInto text number fs =
    (row : List ℕ) → row ++ line_feed ∷ [] ≡ text → (before row ≡ decimal number) × (fields row ≡ fs)

-- a buffer after a text was written over its front
abbrev pub fronted : List ℕ → List ℕ → List ℕ
fronted text buffer = text ++ drop (length text) buffer

-- the least bytes of a buffer for a line, and of one for a number
abbrev pub line_room : ℕ
line_room = 96

abbrev pub number_room : ℕ
number_room = 20

-- a buffer with too little room is refused and left as it is
abbrev pub LeavesShort : ℕ → List ℕ → Option ℕ → List ℕ → Type 0
LeavesShort room entry r exit = length entry < room → (r ≡ None) × (exit ≡ entry)

-- in any other the text stands at the front, the bytes after it stay, and the text's length is answered
abbrev pub WritesFront : ℕ → List ℕ → List ℕ → Option ℕ → List ℕ → Type 0
WritesFront room text entry r exit = room ≤ length entry → (r ≡ Some (length text)) × (exit ≡ fronted text entry)

-- what was written of a number is read as that number, in the form of prices and, from 0 on, of numbers
pub record ReadsBack (z : ℤ) (bytes : List ℕ) : Type 0 where
  pub as_price : unsigned_abs z < 10 ^ 12 → price_of bytes ≡ Some z
  pub as_number : (n : ℕ) → z ≡ pos n → n < 10 ^ 12 → number_of bytes ≡ Some n
