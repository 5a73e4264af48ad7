-- Lemmas on the forms of numbers: a field holds a number exactly where it is the number's writing.
use Rattle.std.proofs.Common.{◌≡◌, ℕ, zero, suc, ◌-◌, ◌^◌, ◌<◌, ◌≤◌, true, false, eqb, List, [], ◌∷◌, length, get_or, take, drop, ℤ, pos, negsuc, neg_ℤ, Some, None, decimal, Option, sym, refl, ap, ◌∙◌, subst, ⊎_elim, arith, rules}
use native.Mathlib.Nat.{pow-le-pow_right}
use Rattle.std.specs.Option.{option_map}
use Rattle.std.specs.Str.{all_ascii_digits}
use Rattle.std.proofs.lemmas.Fmt.{decimal-digits_value, digits_value-decimal, digits_decimal, decimal_nonempty, length-decimal-le, first_decimal, decimal_digit}
use Rattle.std.proofs.lemmas.List.{take_rest}
use Rattle.std.proofs.lemmas.Str.Parse.{IsNumeralModel, numerals_by_fold, tells_all_ascii_digits, digits_value_short}
use Rattle.std.proofs.lemmas.Bool.{cases_Bool, cases_eq}
use Rattle.std.proofs.lemmas.Bool.Decides.{nat_tests}
use Rattle.wire.specs.Numbers.{Number, Price, hyphen, value_after, in_form, number_of, negative, price_of, last_day_of, letter_of, LastDay, Letter, ReadsExactly}

-- the worth of up to 12 digits
pub ten_below : (v i : ℕ) → v < 10 ^ i → i ≤ 12 → v < 10 ^ 12
ten_below v i h l = let b : 0 < 10 = omega arith in let p : 10 ^ i ≤ 10 ^ 12 = pow-le-pow_right b l in omega arith

-- digits in std's words
pub own : IsNumeralModel (λ ds. all_ascii_digits ds ≡ true) (value_after 0)
own = numerals_by_fold _ tells_all_ascii_digits value_after (search rules)

-- what it takes to be in the form
record Formed (bs : List ℕ) : Type 0 where
  some : 0 < length bs
  short : length bs ≤ 12
  digits : all_ascii_digits bs ≡ true
  lead : get_or bs 0 0 ≡ 48 → length bs ≡ 1

formed : (bs : List ℕ) → in_form bs ≡ true → Formed bs
formed bs h = record { some = grind (arith, nat_tests); short = grind (arith, nat_tests); digits = grind (arith, nat_tests); lead = λ z. grind (arith, nat_tests) }

in_formed : (bs : List ℕ) → Formed bs → in_form bs ≡ true
in_formed bs f = let l = f.lead in let d = f.digits in let s = f.some in let t = f.short in grind (arith, nat_tests)

decimal_formed : (n : ℕ) → n < 10 ^ 12 → Formed (decimal n)
decimal_formed n h =
    let w : n < 2 ^ 64 = omega arith in
    let p : 0 < 12 = omega arith in
    record {
      some = decimal_nonempty n w;
      short = length-decimal-le 12 n p h w;
      digits = digits_decimal own n w;
      lead = λ z. ⊎_elim
          (λ e. ap (λ k. length (decimal k)) e ∙ ap length (decimal_digit 0 (omega arith)))
          (λ ne. let f : 48 < get_or (decimal n) 0 0 = first_decimal n (omega arith) w in absurd (omega arith))
          (cases_eq n 0);
    }

number_formed : (bs : List ℕ) → Formed bs → (value_after 0 bs < 10 ^ 12) × (decimal (value_after 0 bs) ≡ bs)
number_formed bs f =
    let b : value_after 0 bs < 10 ^ 12 = digits_value_short own bs 12 f.digits f.short in
    (b, decimal-digits_value own bs f.digits f.some f.lead (omega arith))

pub reads_numbers : (bs : List ℕ) → ReadsExactly number_of Number bs
unfolding number_of
reads_numbers bs n = (
  λ e. ⊎_elim
      (λ t. let f = number_formed bs (formed bs t) in let s : value_after 0 bs ≡ n = grind (arith, nat_tests) in subst (λ k. Number bs k) s (f.0, sym f.1))
      (λ t. let z : ◌≡◌ {A = ℕ} 0 1 = grind (arith, nat_tests) in absurd (omega arith))
      (cases_Bool (in_form bs)),
  λ p. let e : in_form bs ≡ true = subst (λ cs. in_form cs ≡ true) (sym p.1) (in_formed (decimal n) (decimal_formed n p.0)) in
      let v : value_after 0 bs ≡ n = ap (value_after 0) p.1 ∙ digits_value-decimal own n (omega arith) in
      rw e (ap Some v),
)

-- a list of one
only : (bs : List ℕ) → length bs ≡ 1 → bs ≡ get_or bs 0 0 ∷ []
only [] h = absurd (omega arith)
only (b ∷ []) h = refl
only (b ∷ c ∷ bs) h = absurd (omega arith)

pub reads_letters : (bs : List ℕ) → ReadsExactly letter_of Letter bs
unfolding letter_of
reads_letters bs b = (λ e. grind (arith, nat_tests, only bs), λ e. grind (arith, nat_tests))

-- the first byte of a number is a digit
first_digit : (bs : List ℕ) (n : ℕ) → Number bs n → (48 ≤ get_or bs 0 0) × (get_or bs 0 0 ≤ 57)
first_digit [] n p = let f = (decimal_formed n p.0).some in let e : length (decimal n) ≡ 0 = sym (ap length p.1) in absurd (omega arith)
first_digit (b ∷ bs) n p =
    let d : all_ascii_digits (b ∷ bs) ≡ true = subst (λ cs. all_ascii_digits cs ≡ true) (sym p.1) (decimal_formed n p.0).digits in
    (grind (arith, nat_tests), grind (arith, nat_tests))

-- what an outer `Some` tells of the number in it
no_day : (o : Option ℕ) → option_map Some o ≡ Some None → ⊥
no_day None e = grind arith
no_day (Some n) e = grind arith

some_day : (o : Option ℕ) (n : ℕ) → option_map Some o ≡ Some (Some n) → o ≡ Some n
some_day None n e = grind arith
some_day (Some m) n e = grind arith

pub reads_last_days : (bs : List ℕ) → ReadsExactly last_day_of LastDay bs
unfolding last_day_of
reads_last_days bs None = (λ e. grind (arith, nat_tests, only bs, no_day (number_of bs)), λ e. grind (arith, nat_tests))
reads_last_days bs (Some n) = (
  λ e. (reads_numbers bs n).0 (grind (arith, nat_tests, some_day (number_of bs) n)),
  λ p. let d = first_digit bs n p in let r = (reads_numbers bs n).1 p in grind (arith, nat_tests),
)

-- what a price below 0, or one not below 0, tells of the number in it
negative_some : (o : Option ℕ) (z : ℤ) → negative o ≡ Some z → (n : ℕ) × (o ≡ Some (suc n)) × (z ≡ negsuc n)
negative_some None z e = absurd (grind arith)
negative_some (Some zero) z e = absurd (grind arith)
negative_some (Some (suc n)) z e = let t : eqb (suc n) 0 ≡ false = grind (arith, nat_tests) in let d : Some (negsuc n) ≡ Some z = rw t at e in (n, refl, grind arith)

plain_some : (o : Option ℕ) (z : ℤ) → option_map pos o ≡ Some z → (n : ℕ) × (o ≡ Some n) × (z ≡ pos n)
plain_some None z e = absurd (grind arith)
plain_some (Some n) z e = (n, refl, grind arith)

-- a text by its first byte
begins : (bs : List ℕ) (k : ℕ) → get_or bs 0 0 ≡ k → 0 < k → bs ≡ k ∷ drop 1 bs
begins [] k e h = absurd (omega arith)
begins (b ∷ bs) k e h = ap (λ x. x ∷ bs) e

-- the two ways of the price form
pub price_minus : (bs : List ℕ) (q : Option ℕ) → get_or bs 0 0 ≡ hyphen → q ≡ number_of (take (length bs - 1) (drop 1 bs)) → negative q ≡ price_of bs
unfolding price_of
price_minus bs q h e = grind (arith, nat_tests, take_rest bs 1)

pub price_plain : (bs : List ℕ) (q : Option ℕ) → (get_or bs 0 0 ≡ hyphen → ⊥) → q ≡ number_of bs → option_map pos q ≡ price_of bs
unfolding price_of
price_plain bs q h e = grind (arith, nat_tests)

written_price : (bs : List ℕ) (z : ℤ) → Price bs z → price_of bs ≡ Some z
unfolding price_of
written_price bs (pos n) p = let d = first_digit bs n p in let r = (reads_numbers bs n).1 p in grind (arith, nat_tests)
written_price bs (negsuc n) p =
    let b : get_or bs 0 0 ≡ hyphen = ap (λ xs. get_or xs 0 0) p.1 in
    let r = (reads_numbers (drop 1 bs) (suc n)).1 (p.0, ap (drop 1) p.1) in
    grind (arith, nat_tests)

-- a number other than 0 behind a minus
pub negative_is : (n : ℕ) (z : ℤ) → (n ≡ 0 → ⊥) → z ≡ neg_ℤ (pos n) → Some z ≡ negative (Some n)
negative_is n z h e = grind (arith, nat_tests)

-- an empty text has no first byte
pub no_first : (bs : List ℕ) → length bs < 1 → get_or bs 0 0 ≡ hyphen → ⊥
no_first [] h e = omega arith
no_first (b ∷ bs) h e = omega arith

pub reads_prices : (bs : List ℕ) → ReadsExactly price_of Price bs
unfolding price_of
reads_prices bs z = (
  λ e. ⊎_elim
      (λ t. let (n, o, s) = negative_some (number_of (drop 1 bs)) z (rw t at e) in
      let p = (reads_numbers (drop 1 bs) (suc n)).0 o in
      let b : get_or bs 0 0 ≡ hyphen = grind (arith, nat_tests) in
      subst (λ y. Price bs y) (sym s) (p.0, begins bs hyphen b (omega arith) ∙ ap (λ ds. hyphen ∷ ds) p.1))
      (λ t. let (n, o, s) = plain_some (number_of bs) z (rw t at e) in
      subst (λ y. Price bs y) (sym s) ((reads_numbers bs n).0 o))
      (cases_Bool (eqb (get_or bs 0 0) hyphen)),
  written_price bs z,
)
