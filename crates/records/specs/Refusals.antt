-- The numbers of the refusals, and which of several is due. Assumes nothing.
use Rattle.std.specs.Prelude.{◌≡◌, ℕ, ◌+◌, ◌*◌, ◌≤◌, Bool, true, false, cond, ◌||◌, ◌⊎◌, List, [], ◌∷◌, Some, None, Ok, Err, Option, Result, unwrap_or, nat_lt}
use Rattle.std.specs.List.{AllByRecursion}
use Rattle.market.specs.declared.listed.ListFault.{ListFault}
use Rattle.records.specs.declared.fault.Fault.{Fault}
use Rattle.records.specs.declared.fault.Fault.TheVariants.{NumberOutOfRange, PriceOutOfRange, RateOutOfRange, AmountOutOfRange, DayOutOfRange, UnknownParticipant, AlreadyAdmitted, UnknownGuarantee, NumberUsed, DayPast, TableFull}
use Rattle.records.specs.declared.fault.Layer.TheVariants.{Book}
use Rattle.records.specs.declared.fault.Refusal.{Refusal}

-- a refusal of the book: its number, and the place of the field at fault if one is
abbrev pub of_book : ℕ → Option ℕ → Refusal
of_book number place = record { number = number; layer = Book; place = place }

-- how each fault is answered
abbrev pub refusal : Fault → Refusal
refusal (NumberOutOfRange place) = of_book 105 (Some place)
refusal (PriceOutOfRange place) = of_book 107 (Some place)
refusal (RateOutOfRange place) = of_book 108 (Some place)
refusal (AmountOutOfRange place) = of_book 109 (Some place)
refusal (DayOutOfRange place) = of_book 110 place
refusal UnknownParticipant = of_book 211 None
refusal AlreadyAdmitted = of_book 212 None
refusal UnknownGuarantee = of_book 213 None
refusal NumberUsed = of_book 214 None
refusal DayPast = of_book 215 None
refusal TableFull = of_book 216 None

-- a calendar list that is refused, for whatever reason, is a day out of range at no field
abbrev pub of_list : ListFault → Fault
of_list fault = DayOutOfRange None

-- A reason to refuse a call: the fault, and whether its condition holds.
pub record Cause (F : Type 0) : Type 0 where
  pub fault : F
  pub present : Bool

infix 4 ◌when◌
abbrev pub ◌when◌ : {F : Type 0} → F → Bool → Cause F
fault when present = record { fault = fault; present = present }

-- the order in which refusals are answered: by number, then by place, with no field first
abbrev pub order : Refusal → ℕ
order r = r.number * 256 + unwrap_or r.place 0

abbrev pub rank : Fault → ℕ
rank fault = order (refusal fault)

module _ {F : Type 0} where
  -- The fault due: the first whose condition holds. Every table of causes lists its numbers rising, and the fields of one
  -- number from left to right, so that this is the smallest number with its leftmost place (`Smallest`).
  abbrev pub due : List (Cause F) → Option F
  due [] = None
  due (cause ∷ causes) = cond cause.present (Some cause.fault) (due causes)

  -- the fault is in the table, and its condition holds
  abbrev pub Present : F → List (Cause F) → Type 0
  Present fault [] = ⊥
  Present fault (cause ∷ causes) = (cause ≡ (fault when true)) ⊎ Present fault causes

  -- A fault is the right one to answer when its condition holds, and every other whose condition holds has a larger number,
  -- or the same number at a place further right; none is right only when no condition holds.
  abbrev pub Smallest : (F → ℕ) → List (Cause F) → Option F → Type 0
  Smallest rank causes None = AllByRecursion (λ cause. cause.present ≡ false) causes
  Smallest rank causes (Some fault) =
      Present fault causes × AllByRecursion (λ cause. cause.present ≡ true → rank fault ≤ rank cause.fault) causes

  -- what a check answers: nothing, or the fault due
  abbrev pub cleared : Option F → Result (Unit {0}) F
  cleared None = Ok tt
  cleared (Some fault) = Err fault

  -- the check of one condition
  abbrev pub fault_if : Bool → F → Result (Unit {0}) F
  fault_if true fault = Err fault
  fault_if false fault = Ok tt

-- a number outside least to most
unfoldable pub outside : ℕ → ℕ → ℕ → Bool
outside least most n = nat_lt n least || nat_lt most n
