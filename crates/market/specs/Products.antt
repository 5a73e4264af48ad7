-- Products of a signed number with a natural one.
use Rattle.std.specs.Prelude.{◌≡◌, ℕ, zero, suc, ◌+◌, ◌*◌, ◌≤◌, ℤ, pos, ◌+ℤ◌, ◌*ℤ◌, ◌≤ℤ◌, unsigned_abs}
use Rattle.std.proofs.Common.{arith, mul-suc, mul-add, mul-le-mul}
use borrow.Author.Differences.{ints, up, down}
use Rattle.std.proofs.lemmas.Int.{unsigned_abs-mul}

pub times_suc : (r : ℤ) (n : ℕ) → r *ℤ pos (suc n) ≡ r +ℤ r *ℤ pos n
times_suc r n = omega (arith, ints, mul-suc (up r) n, mul-suc (down r) n)

pub times_add : (r : ℤ) (m n : ℕ) → r *ℤ pos (m + n) ≡ r *ℤ pos m +ℤ r *ℤ pos n
times_add r m n = omega (arith, ints, mul-add (up r) m n, mul-add (down r) m n)

pub times_mono : (k : ℕ) (a b : ℤ) → a ≤ℤ b → (a *ℤ pos k) ≤ℤ (b *ℤ pos k)
times_mono zero a b h = omega (arith, ints)
times_mono (suc k) a b h = omega (arith, ints, times_suc a k, times_suc b k, times_mono k a b h)

pub abs_times : (z : ℤ) (k m n : ℕ) → unsigned_abs z ≤ m → k ≤ n → unsigned_abs (z *ℤ pos k) ≤ m * n
abs_times z k m n h l = omega (arith, unsigned_abs-mul z (pos k), mul-le-mul h l)

pub times_both : (a b : ℤ) (k : ℕ) → (a +ℤ b) *ℤ pos k ≡ a *ℤ pos k +ℤ b *ℤ pos k
times_both a b zero = omega (arith, ints)
times_both a b (suc k) = omega (arith, ints, times_suc a k, times_suc b k, times_suc (a +ℤ b) k, times_both a b k)
