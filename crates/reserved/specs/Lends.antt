-- What a reserved vector ends as, where a `&mut` to one of its items is handed out. Assumes nothing.
use Rattle.std.specs.Prelude.{ℕ, Option}
use Rattle.std.specs.Borrow.{LendsIf, Fml, RattleType, MutBor}
use Rattle.std.specs.Vec.{with_item as with_vec_item}
use Rattle.reserved.specs.declared.Reserved.{Reserved}
use Rattle.reserved.specs.contracts.Reserved.{the_row}

-- the vector with another item at a place
abbrev pub with_item : {T : Type 0} {CAP : ℕ} → Reserved T CAP → ℕ → T → Reserved T CAP
with_item table at item = record table { items = with_vec_item table.items at item }

module _ (T CAP : RattleType) where
  -- once the borrow r ends, the place has the last value written through r; at `None` nothing changes
  abbrev pub lends_item : MutBor (the_row T CAP).Denot → ℕ → Option (MutBor T.Denot) → Fml
  lends_item v at r = LendsIf (the_row T CAP) T v r (with_item v.now at) v.now
