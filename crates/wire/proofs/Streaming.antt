-- A text at its first line feed, and the bytes that are kept of a line's beginning. Assumes nothing.
use Rattle.std.proofs.Common.{◌≡◌, ℕ, ◌+◌, ◌-◌, ◌<◌, ◌≤◌, List, [], ◌∷◌, ◌++◌, length, get_or, take, drop, sym, ap, ◌∙◌, append_assoc, append-nil, add-one, arith, take-append-drop, length-take, take_all, drop-cons}
use lib.Seq.{take-append_seam}
use Rattle.std.proofs.lemmas.List.{drop_all, get_or-take}
use Rattle.std.proofs.lemmas.Slice.{between_to_end}
use Rattle.wire.specs.Lines.{line_feed}
use Rattle.wire.specs.Stream.{Unbroken}

-- a text is what stands before a byte, the byte, and what follows it
pub around : (xs : List ℕ) (i : ℕ) → i < length xs → get_or xs i 0 ≡ line_feed → xs ≡ take (i - 0) xs ++ line_feed ∷ take (length xs - (i + 1)) (drop (i + 1) xs)
around xs i h e =
    let front : i - 0 ≡ i = omega arith in
    let rest : take (length xs - (i + 1)) (drop (i + 1) xs) ≡ drop (i + 1) xs = between_to_end xs (i + 1) (length xs) (omega arith) in
    let more : drop i xs ≡ get_or xs i 0 ∷ drop (i + 1) xs = rw add-one (drop-cons xs i 0 h) in
    sym (take-append-drop i xs) ∙ rw (front, rest) (ap (λ ys. take i xs ++ ys) (more ∙ ap (λ b. b ∷ drop (i + 1) xs) e))

-- nothing before the first line feed is one
pub unbroken_before : (xs : List ℕ) (i : ℕ) → i ≤ length xs → ((k : ℕ) → k < i → get_or xs k 0 ≡ line_feed → ⊥) → Unbroken (take (i - 0) xs)
unbroken_before xs i h none k lt e =
    let front : i - 0 ≡ i = omega arith in
    let size = length-take (i - 0) xs in
    let within : k < i = omega arith in
    none k within (sym (get_or-take (i - 0) xs k 0 (omega arith)) ∙ e)

-- one more byte kept
pub kept_more : (kept part : List ℕ) (i b : ℕ) → i < length part → b ≡ get_or part i 0 → (kept ++ (b ∷ [])) ++ drop (i + 1) part ≡ kept ++ drop i part
kept_more kept part i b h e =
    append_assoc kept (b ∷ []) (drop (i + 1) part) ∙ ap (λ ys. kept ++ ys) (ap (λ x. x ∷ drop (i + 1) part) e ∙ sym (rw add-one (drop-cons part i 0 h)))

-- all that can be kept is kept, or all that came is
pub kept_full : (kept rest : List ℕ) → length kept ≡ 81 → take 81 (kept ++ rest) ≡ kept
kept_full kept rest e = ap (λ n. take n (kept ++ rest)) (sym e) ∙ take-append_seam kept rest

pub kept_all : (kept part : List ℕ) (i : ℕ) → length kept ≤ 81 → length part ≤ i → take 81 (kept ++ drop i part) ≡ kept
kept_all kept part i few end = ap (λ ys. take 81 (kept ++ ys)) (drop_all i part end) ∙ ap (take 81) (append-nil kept) ∙ take_all 81 kept few
