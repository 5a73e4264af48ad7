-- The forms in which numbers, prices, last days and letters stand in a field.
use Rattle.std.specs.Prelude.{◌≡◌, ℕ, ◌+◌, ◌-◌, ◌*◌, ◌^◌, ◌<◌, Bool, cond, not, ◌&&◌, List, [], ◌∷◌, length, drop, ℤ, pos, neg_ℤ, Some, None, decimal, Option, ◌==◌, nat_lt, slice_index, unsigned_abs}
use Rattle.std.specs.Option.{option_map}
use Rattle.std.specs.Fmt.{signed_decimal}
use Rattle.std.specs.Str.{all_ascii_digits}

-- a number in the form: it is written in decimal, with no leading zero, in at most 12 digits
abbrev pub Number : List ℕ → ℕ → Type 0
Number bytes n = (n < 10 ^ 12) × (bytes ≡ decimal n)

-- a price in the form: the same, with a minus in front where it is below 0
abbrev pub Price : List ℕ → ℤ → Type 0
Price bytes z = (unsigned_abs z < 10 ^ 12) × (bytes ≡ signed_decimal z)

-- the byte of the minus, which also stands for a missing last day
abbrev pub hyphen : ℕ
hyphen = 45

-- what digits are worth, after those that were worth n
abbrev pub value_after : ℕ → List ℕ → ℕ
value_after n [] = n
value_after n (c ∷ cs) = value_after (n * 10 + (c - 48)) cs

-- 1 to 12 digits, of which the first is no zero unless it is the only one
abbrev pub in_form : List ℕ → Bool
in_form bs = nat_lt 0 (length bs) && (nat_lt (length bs) 13 && (all_ascii_digits bs && not (slice_index bs 0 == 48 && nat_lt 1 (length bs))))

-- the number that a field holds, if it holds one in the form
unfoldable pub number_of : List ℕ → Option ℕ
number_of bs = cond (in_form bs) (Some (value_after 0 bs)) None

-- a number below 0; none is written for 0
abbrev pub negative : Option ℕ → Option ℤ
negative None = None
negative (Some n) = cond (n == 0) None (Some (neg_ℤ (pos n)))

-- the price that a field holds, if it holds one in the form
unfoldable pub price_of : List ℕ → Option ℤ
price_of bs = cond (slice_index bs 0 == hyphen) (negative (number_of (drop 1 bs))) (option_map pos (number_of bs))

-- the last day that a field holds: none for a hyphen, else a number in the form
unfoldable pub last_day_of : List ℕ → Option (Option ℕ)
last_day_of bs = cond (length bs == 1 && slice_index bs 0 == hyphen) (Some None) (option_map Some (number_of bs))

-- the letter that a field holds: its only byte
unfoldable pub letter_of : List ℕ → Option ℕ
letter_of bs = cond (length bs == 1) (Some (slice_index bs 0)) None

-- a last day in the form: a hyphen where there is none
abbrev pub LastDay : List ℕ → Option ℕ → Type 0
LastDay bytes None = bytes ≡ hyphen ∷ []
LastDay bytes (Some day) = Number bytes day

-- a letter in the form: that letter alone
abbrev pub Letter : List ℕ → ℕ → Type 0
Letter bytes letter = bytes ≡ letter ∷ []

-- a field holds a value exactly where it is that value's writing
abbrev pub ReadsExactly : {X : Type 0} → (List ℕ → Option X) → (List ℕ → X → Type 0) → List ℕ → Type 0
ReadsExactly {X} value_of IsWriting bytes =
    (x : X) → (value_of bytes ≡ Some x → IsWriting bytes x) × (IsWriting bytes x → value_of bytes ≡ Some x)
