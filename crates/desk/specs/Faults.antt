-- The numbers with which lines are refused. Assumes nothing.
use Rattle.std.specs.Prelude.{ℕ, Some, None, Option}
use Rattle.records.specs.declared.fault.Fault.{Fault}
use Rattle.records.specs.declared.fault.Layer.{Layer}
use Rattle.records.specs.declared.fault.Layer.TheVariants.{Line, Field}
use Rattle.records.specs.declared.fault.Refusal.{Refusal}
use Rattle.records.specs.Refusals.{order}
use Rattle.records.specs.Refusals as records
use Rattle.book.specs.declared.fault.OpenFault.{OpenFault}
use Rattle.book.specs.declared.fault.OpenFault.TheVariants as open_fault
use Rattle.desk.specs.declared.fault.LineFault.{LineFault}
use Rattle.desk.specs.declared.fault.LineFault.TheVariants.{BufferTooShort, LineTooLong, UnknownLetter, WrongFieldCount, NotANumber, NotOpen, AlreadyOpen, Book, OutOfMemory}

abbrev pub numbered : ℕ → Layer → Option ℕ → Option Refusal
numbered number layer place = Some (record { number = number; layer = layer; place = place })

-- How each fault is answered. Want of memory is no refusal of a rule, and has no number.
abbrev pub refusal : LineFault → Option Refusal
refusal BufferTooShort = numbered 100 Line None
refusal LineTooLong = numbered 101 Line None
refusal (UnknownLetter place) = numbered 102 Field (Some place)
refusal WrongFieldCount = numbered 103 Field None
refusal (NotANumber place) = numbered 104 Field (Some place)
refusal NotOpen = numbered 201 Line None
refusal AlreadyOpen = numbered 201 Line None
refusal (Book fault) = Some (records.refusal fault)
refusal OutOfMemory = None

abbrev pub rank_of : Option Refusal → ℕ
rank_of None = 0
rank_of (Some r) = order r

-- the order in which faults are answered: by number, then by place
abbrev pub rank : LineFault → ℕ
rank fault = rank_of (refusal fault)

-- the book's fault, carried whole
abbrev pub of_book : Fault → LineFault
of_book fault = Book fault

abbrev pub of_open : OpenFault → LineFault
of_open (open_fault.Refused fault) = Book fault
of_open open_fault.OutOfMemory = OutOfMemory
