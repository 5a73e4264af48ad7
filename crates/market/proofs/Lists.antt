-- Lists of last days.
use Rattle.std.proofs.Common.{◌≡◌, ℕ, zero, suc, ◌+◌, ◌≤◌, Bool, true, false, List, [], ◌∷◌, length, ltb, ap, arith}
use Rattle.std.specs.Bool.{MatchBool}
use Rattle.std.specs.List.{IsAllAdjacentAnswer, filter}
use Rattle.std.specs.List.Sorted.{IsPartitionPoint, IsPartitionedBy}
use Rattle.std.proofs.lemmas.Bool.Decides.{nat_tests}
use Rattle.std.proofs.lemmas.List.Sorted.{IsNonDecreasingBy-from_all_adjacent, IsPartitionedBy-ltb}
use Rattle.std.proofs.lemmas.Grind.{get_or_default_zero}
use Rattle.market.specs.Calendars.{Rising}

-- what `is_sorted_by` answers at the test for less
pub tells_rising : (days : List ℕ) (r : Bool) → IsAllAdjacentAnswer (λ x y b. b ≡ ltb x y) days r → MatchBool r (Rising days) (Rising days → ⊥)
tells_rising days true h = λ k l. grind (arith, nat_tests, h k 0)
tells_rising days false h = λ rising. grind (arith, nat_tests, h.2 0, rising h.0)

-- a test that passes the elements below i alone passes i of them
pub passes_below : (p : ℕ → Bool) (xs : List ℕ) (i : ℕ) → i ≤ length xs → IsPartitionPoint (λ x. p x ≡ true) (λ x. p x ≡ false) xs i → length (filter p xs) ≡ i
passes_below p [] i l h = omega arith
passes_below p (x ∷ xs) zero l h =
    let e : p x ≡ false = h.1 0 0 (omega arith) (omega arith) in
    rw e (passes_below p xs 0 (omega arith) ((λ k d m n. h.0 (suc k) d (omega arith) (omega arith)), λ k d m n. h.1 (suc k) d (omega arith) (omega arith)))
passes_below p (x ∷ xs) (suc i) l h =
    let e : p x ≡ true = h.0 0 0 (omega arith) (omega arith) in
    rw e (ap suc (passes_below p xs i (omega arith) ((λ k d m n. h.0 (suc k) d (omega arith) (omega arith)), λ k d m n. h.1 (suc k) d (omega arith) (omega arith))))

-- what `partition_point` asks of days that rise
pub parted : (days : List ℕ) (day : ℕ) → Rising days → IsPartitionedBy (λ last. ltb last day) days
parted days day rising = IsPartitionedBy-ltb (λ x. x) days day (IsNonDecreasingBy-from_all_adjacent (λ x. x) days (λ k d h. grind (arith, get_or_default_zero days k d, get_or_default_zero days (k + 1) d, rising k)))
