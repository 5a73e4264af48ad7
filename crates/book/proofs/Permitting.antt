-- Where a row stands, and what the table says of it. Assumes nothing.
use Rattle.std.proofs.Common.{◌≡◌, ℕ, Bool, List, [], ◌∷◌, get_or, set, is_some, Some, None, Option, sym, ap, ◌∙◌, arith}
use Rattle.std.specs.List.{remove as removed}
use Rattle.std.specs.Option.{ok_or}
use Rattle.records.specs.declared.fault.Fault.TheVariants.{UnknownGuarantee}
use Rattle.records.specs.declared.rows.Participant.{Participant}
use Rattle.records.specs.Refusals.{due}
use Rattle.records.specs.Rows.{is_participant, is_guarantee}
use Rattle.records.specs.Tables.{find, change, remove, place}
use Rattle.records.specs.State.{State}
use Rattle.records.specs.Calls.{not_returnable}
use Rattle.records.proofs.Searches.{stands, nowhere}
use Rattle.book.specs.Permits.{Permits, StandsAt}

-- what a read past the end of the table would show
abbrev pub nobody : Participant
nobody = record { number = 0; vat = 0; share = 0; last_proposal = 0; last_guarantee = 0 }

-- a row is found exactly where it has a place
pub found_where_placed : {X : Type 0} (fits : X → Bool) (xs : List X) (o : Option ℕ) → o ≡ place fits xs → is_some (find fits xs) ≡ is_some o
found_where_placed fits xs None e = ap is_some (nowhere fits xs (sym e))
found_where_placed fits [] (Some i) e = absurd (let z : ◌≡◌ {A = ℕ} 0 1 = cc in omega arith)
found_where_placed fits (x ∷ xs) (Some i) e = ap is_some ((stands fits (x ∷ xs) i (sym e)).found x)

module _ {X : Type 0} {fits : X → Bool} {rows : List X} {at : ℕ} (here : StandsAt fits rows at) where
  -- the row that is read where it stands is the row found, whatever a read past the end would show
  pub row_found : (past : X) → find fits rows ≡ Some (get_or rows at past)
  row_found past = (stands fits rows at here.first).found past

  -- the row read where it stands, changed there, is the first row that fits changed
  pub row_changed : (f : X → X) (row : X) → row ≡ get_or rows at row → set rows at (f row) ≡ change fits f rows
  row_changed f row is = ap (λ x. set rows at (f x)) is ∙ sym ((stands fits rows at here.first).changed f row)

  -- the table without what stands there is the table without the first row that fits
  pub row_taken : removed rows at ≡ remove fits rows
  row_taken = sym (stands fits rows at here.first).taken

-- where a guarantee's row stands, or the fault due, for a participant that is known
pub guarantee_or_fault : {R C : Type 0} (s : State R C) (participant guarantee : ℕ) {at : ℕ} (o : Option ℕ) → StandsAt (is_participant participant) s.participants at →
    o ≡ place (is_guarantee participant guarantee) s.guarantees →
    Permits (due (not_returnable s participant guarantee)) (StandsAt (is_guarantee participant guarantee) s.guarantees) (ok_or o UnknownGuarantee)
guarantee_or_fault s participant guarantee None here e =
    let found = row_found here nobody in
    let none = nowhere (is_guarantee participant guarantee) s.guarantees (sym e) in
    rw (found, none)
guarantee_or_fault s participant guarantee (Some i) here e =
    let found = row_found here nobody in
    let there = found_where_placed (is_guarantee participant guarantee) s.guarantees (Some i) e in
    (rw (found, there), record { first = sym e; within = (stands (is_guarantee participant guarantee) s.guarantees i (sym e)).within })
