-- How a stream of bytes falls into lines. Assumes nothing.
use Rattle.std.specs.Prelude.{◌≡◌, ℕ, ◌<◌, List, ◌∷◌, ◌++◌, length, Some, None, Option, ◌≢◌, slice_index}
use Rattle.std.specs.Borrow.{Bor}
use Rattle.reserved.specs.Reserved.{items}
use Rattle.wire.specs.declared.stream.LineStart.{LineStart}
use Rattle.wire.specs.Lines.{line_feed}

-- no byte is a line feed
abbrev pub Unbroken : List ℕ → Type 0
Unbroken text = (k : ℕ) → k < length text → slice_index text k ≢ line_feed

-- the first line of a text and what follows its line feed, if it has one
abbrev pub FirstLine : List ℕ → Option (Bor (List ℕ) × Bor (List ℕ)) → Type 0
FirstLine text None = Unbroken text
FirstLine text (Some (line, rest)) = (text ≡ line.now ++ line_feed ∷ rest.now) × Unbroken line.now

-- the bytes that are kept of a line's beginning
abbrev pub kept : LineStart → List ℕ
kept start = items start.bytes
