-- What open promises. Assumes nothing.
use Rattle.std.specs.Prelude.{◌≡◌, Some, None, Ok, Err, Result}
use Rattle.market.specs.declared.units.Price.{Price}
use Rattle.market.specs.Rule.{Meaning}
use Rattle.records.specs.declared.call.Terms.{Terms}
use Rattle.records.specs.declared.fault.Fault.{Fault}
use Rattle.records.specs.Refusals.{rank, due, Smallest}
use Rattle.records.specs.State.{opened}
use Rattle.records.specs.Calls.{terms_input}
use Rattle.book.specs.declared.fault.OpenFault.{OpenFault}
use Rattle.book.specs.declared.fault.OpenFault.TheVariants.{Refused, OutOfMemory}
use Rattle.book.specs.declared.tables.Book.{Book}
use Rattle.book.specs.View.{state}

abbrev pub refused : Fault → OpenFault
refused fault = Refused fault

abbrev pub out_of_memory : OpenFault
out_of_memory = OutOfMemory

-- The rule has the reference price of the terms published.
pub record Published {R : Type 0} (meaning : Meaning R) (rule : R) (terms : Terms) (after : R) : Type 0 where
  pub price : Price
  pub of_the_terms : price.cents ≡ terms.reference
  pub replaced : after ≡ meaning.published rule price

module _ {R C : Type 0} (meaning : Meaning R) where
  -- With a fault due, the one of the smallest number is answered. With none, the book is empty and stands on its terms,
  -- unless there is no memory for its tables.
  abbrev pub Opens : R → C → Terms → Result (Book R C) OpenFault → Type 0
  Opens rule calendar terms (Ok book) =
      (due (terms_input terms) ≡ None) × (state book ≡ opened book.rule calendar terms) × Published meaning rule terms book.rule
  Opens rule calendar terms (Err (Refused fault)) =
      (due (terms_input terms) ≡ Some fault) × Smallest rank (terms_input terms) (Some fault)
  Opens rule calendar terms (Err OutOfMemory) = due (terms_input terms) ≡ None
