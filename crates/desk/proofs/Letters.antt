-- A line by its letter and the text after it. Assumes nothing.
use Rattle.std.proofs.Common.{◌≡◌, ℕ, ◌-◌, ◌<◌, true, List, [], ◌∷◌, length, get_or, take, drop, Some, Ok, Err, Result, ap, ◌∙◌, subst, arith}
use Rattle.std.proofs.lemmas.Slice.{between_to_end}
use Rattle.desk.specs.declared.command.Command.{Command}
use Rattle.desk.specs.declared.fault.LineFault.{LineFault}
use Rattle.desk.specs.Commands.{Kind, kind_of, led, Reads, Takes}

-- the command of its kind, once nothing but a comma follows the letter
taken : (k : Kind) (letter : ℕ) (rest : List ℕ) (r : Result Command LineFault) → kind_of letter ≡ Some k → led rest ≡ true → Takes k rest r → Reads (letter ∷ rest) r
taken k letter rest (Ok c) kind ok t = rw (kind, ok) (t.0, ap Some t.1)
taken k letter rest (Err f) kind ok t = rw (kind, ok) t

-- what is read by the letter of a line, of the part after it
pub reads_kind : (k : Kind) (letter : ℕ) (line text : List ℕ) (r : Result Command LineFault) → kind_of letter ≡ Some k → 0 < letter → get_or line 0 0 ≡ letter →
    led (take (length line - 1) (drop 1 line)) ≡ true → text ≡ take (length line - 1) (drop 1 line) → Takes k text r → Reads line r
reads_kind k letter [] text r kind some first ok same t = absurd (omega arith)
reads_kind k letter (x ∷ xs) text r kind some first ok same t =
    let rest : take (length (x ∷ xs) - 1) (drop 1 (x ∷ xs)) ≡ xs = between_to_end (x ∷ xs) 1 (length (x ∷ xs)) (omega arith) in
    let named : kind_of x ≡ Some k = ap kind_of first ∙ kind in
    taken k x xs r named (rw rest at ok) (subst (λ y. Takes k y r) (same ∙ rest) t)
