-- Tables as lists of rows: the first row that passes a test is found, changed or removed. Assumes nothing.
use Rattle.std.specs.Prelude.{ℕ, Bool, cond, List, [], ◌∷◌, Option}
use Rattle.std.specs.List.{position_from}
pub use Rattle.std.specs.List.{find}

module _ {X : Type 0} (fits : X → Bool) where
  -- the table with its first row that fits changed
  abbrev pub change : (X → X) → List X → List X
  change f [] = []
  change f (x ∷ xs) = cond (fits x) (f x ∷ xs) (x ∷ change f xs)

  -- the table without its first row that fits
  abbrev pub remove : List X → List X
  remove [] = []
  remove (x ∷ xs) = cond (fits x) xs (x ∷ remove xs)

  -- where the first row that fits stands
  abbrev pub place : List X → Option ℕ
  place xs = position_from fits 0 xs
