-- What a look at the book's state answers before a call changes it. Assumes nothing.
use Rattle.std.specs.Prelude.{◌≡◌, ℕ, ◌<◌, Bool, List, length, Some, None, Ok, Err, Option, Result}
use Rattle.records.specs.declared.fault.Fault.{Fault}
use Rattle.records.specs.Tables.{place}

-- the fault due, or, with none due, something that is known to hold
abbrev pub Permits : {X : Type 0} → Option Fault → (X → Type 0) → Result X Fault → Type 0
Permits due P (Ok x) = (due ≡ None) × P x
Permits due P (Err fault) = due ≡ Some fault

-- where the first row that fits stands
pub record StandsAt {X : Type 0} (fits : X → Bool) (rows : List X) (at : ℕ) : Type 0 where
  pub first : place fits rows ≡ Some at
  pub within : at < length rows
