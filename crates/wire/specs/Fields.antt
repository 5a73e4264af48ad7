-- How the text after a command's letter falls into fields, and what a reader of it has left.
use Rattle.std.specs.Prelude.{◌≡◌, ℕ, ◌+◌, min, cond, List, [], ◌∷◌, ◌++◌, Some, None, Option, ◌==◌, ◌≢◌}
use Rattle.std.specs.List.{flat_map, AllByRecursion}
use Rattle.wire.specs.declared.fields.Field.{Field}
use Rattle.wire.specs.declared.fields.Reader.{Reader}

-- the byte that begins a field
abbrev pub comma : ℕ
comma = 44

-- the bytes before the first comma; all of them where there is none
unfoldable pub before : List ℕ → List ℕ
before [] = []
before (b ∷ bs) = cond (b == comma) [] (b ∷ before bs)

-- each comma begins a field, which goes up to the next comma or to the end;
-- what stands before the first comma belongs to no field
unfoldable pub fields : List ℕ → List (List ℕ)
fields [] = []
fields (b ∷ bs) = cond (b == comma) (before bs ∷ fields bs) (fields bs)

-- no byte is a comma
abbrev pub Plain : List ℕ → Type 0
Plain bs = AllByRecursion (λ b. b ≢ comma) bs

-- a text is a lead and then fields, each after a comma, with no comma inside any of them
pub record Split (text lead : List ℕ) (fs : List (List ℕ)) : Type 0 where
  pub whole : lead ++ flat_map (λ f. comma ∷ f) fs ≡ text
  pub plain_lead : Plain lead
  pub plain_fields : AllByRecursion Plain fs

-- a text splits by commas in exactly one way, and that is into its fields
abbrev pub OneSplit : List ℕ → Type 0
OneSplit text =
    Split text (before text) (fields text)
    × ((lead : List ℕ) (fs : List (List ℕ)) → Split text lead fs → (lead ≡ before text) × (fs ≡ fields text))

-- the fields that a reader has yet to hand out
unfoldable pub remaining : Reader → List (List ℕ)
remaining r = fields r.rest.now

-- the place of what a reader handed out last; the command's letter has place 1
abbrev pub place : Reader → ℕ
place r = r.place

-- one place further; the places past 255, which no line of 80 bytes has, all count as 255
abbrev pub next_place : ℕ → ℕ
next_place p = min (p + 1) 255

-- what a reader hands out, and what it has left then
abbrev pub HandsOut : Reader → Option Field → Reader → Type 0
HandsOut r None s = (remaining r ≡ []) × (s ≡ r)
HandsOut r (Some f) s =
    (remaining r ≡ f.bytes.now ∷ remaining s) × (f.place ≡ next_place (place r)) × (place s ≡ f.place)
