-- What a reserved vector holds. Assumes nothing.
use Rattle.std.specs.Prelude.{ℕ, List, vec_items, vec_capacity}
use Rattle.reserved.specs.declared.Reserved.{Reserved}

module _ {T : Type 0} {CAP : ℕ} where
  -- the items in their order
  abbrev pub items : Reserved T CAP → List T
  items table = vec_items table.items

  -- for how many items there is memory
  abbrev pub capacity : Reserved T CAP → ℕ
  capacity table = vec_capacity table.items
