-- The ranges that checked arguments and the rows of the tables keep. Assumes nothing.
use Rattle.std.proofs.Common.{◌≡◌, ℕ, ◌-◌, ◌*◌, ◌<◌, ◌≤◌, Bool, true, List, [], ◌∷◌, ◌++◌, length, get_or, nat_abs, Ok, Option, refl, mul-le-mul, arith}
use Rattle.std.proofs.lemmas.Bool.Decides.{nat_tests}
use Rattle.std.proofs.lemmas.List.Folds.{list_all-append, list_all_at}
use Rattle.std.specs.List.{list_all}
use Rattle.records.specs.declared.call.Terms.{Terms}
use Rattle.records.specs.declared.call.Call.TheVariants.{Admit, Post}
use Rattle.records.specs.declared.rows.Participant.{Participant}
use Rattle.records.specs.declared.rows.Guarantee.{Guarantee}
use Rattle.records.specs.Refusals.{due, cleared, outside}
use Rattle.records.specs.Tables.{change, remove}
use Rattle.records.specs.Rows.{worth, shares_in_range, amounts_in_range, share_in_range, amount_in_range}
use Rattle.records.specs.Calls.{input, terms_input, price_outside}

-- what a check that passed says of the arguments
pub checked_margin : (terms : Terms) → Ok tt ≡ cleared (due (terms_input terms)) → terms.margin ≤ 99
unfolding outside
checked_margin terms e = grind (arith, nat_tests)

pub checked_reference : (terms : Terms) → Ok tt ≡ cleared (due (terms_input terms)) → nat_abs terms.reference ≤ 400000
unfolding price_outside
checked_reference terms e = grind (arith, nat_tests)

pub checked_share : (participant vat share : ℕ) → Ok tt ≡ cleared (due (input (Admit participant vat share))) → share ≤ 1000
unfolding outside
checked_share participant vat share e = grind (arith, nat_tests)

pub checked_amount : (participant guarantee : ℕ) (last_day : Option ℕ) (cents : ℕ) →
    Ok tt ≡ cleared (due (input (Post participant guarantee last_day cents))) → cents ≤ 100000000000
unfolding outside
checked_amount participant guarantee last_day cents e = grind (arith, nat_tests)

-- what passes in every row still does after a row is changed and keeps it, or is removed
module _ {X : Type 0} (p : X → Bool) (fits : X → Bool) where
  kept_by_change : (f : X → X) → ((x : X) → p x ≡ true → p (f x) ≡ true) → (xs : List X) → list_all p xs ≡ true → list_all p (change fits f xs) ≡ true
  kept_by_change f keeps [] all = refl
  kept_by_change f keeps (x ∷ xs) all = let rest = kept_by_change f keeps xs in let first = keeps x in grind (arith, nat_tests)

  kept_by_remove : (xs : List X) → list_all p xs ≡ true → list_all p (remove fits xs) ≡ true
  kept_by_remove [] all = refl
  kept_by_remove (x ∷ xs) all = let rest = kept_by_remove xs in grind (arith, nat_tests)

-- the shares of a table
pub shares_none : shares_in_range [] ≡ true
unfolding shares_in_range
shares_none = refl

pub shares_push : (rows : List Participant) (row : Participant) → shares_in_range rows ≡ true → row.share ≤ 1000 → shares_in_range (rows ++ (row ∷ [])) ≡ true
unfolding shares_in_range
shares_push rows row all new = grind (arith, nat_tests, list_all-append)

pub share_at : (rows : List Participant) (i : ℕ) (d : Participant) → shares_in_range rows ≡ true → i < length rows → (get_or rows i d).share ≤ 1000
unfolding shares_in_range
share_at rows i d all lt = let unfit = list_all_at share_in_range rows i d lt in grind (arith, nat_tests)

pub shares_change : (fits : Participant → Bool) (f : Participant → Participant) → ((row : Participant) → (f row).share ≡ row.share) →
    (rows : List Participant) → shares_in_range rows ≡ true → shares_in_range (change fits f rows) ≡ true
unfolding shares_in_range
shares_change fits f same rows all = kept_by_change share_in_range fits f (λ row h. rw (same row) h) rows all

-- the amounts of a table
pub amounts_none : amounts_in_range [] ≡ true
unfolding amounts_in_range
amounts_none = refl

pub amounts_push : (rows : List Guarantee) (row : Guarantee) → amounts_in_range rows ≡ true → row.cents ≤ 100000000000 → amounts_in_range (rows ++ (row ∷ [])) ≡ true
unfolding amounts_in_range
amounts_push rows row all new = grind (arith, nat_tests, list_all-append)

pub amount_at : (rows : List Guarantee) (i : ℕ) (d : Guarantee) → amounts_in_range rows ≡ true → i < length rows → (get_or rows i d).cents ≤ 100000000000
unfolding amounts_in_range
amount_at rows i d all lt = let unfit = list_all_at amount_in_range rows i d lt in grind (arith, nat_tests)

pub amounts_remove : (fits : Guarantee → Bool) (rows : List Guarantee) → amounts_in_range rows ≡ true → amounts_in_range (remove fits rows) ≡ true
unfolding amounts_in_range
amounts_remove fits rows all = kept_by_remove amount_in_range fits rows all

-- the most that a guarantee can be worth
pub worth_bound : (margin share cents : ℕ) → share ≤ 1000 → cents ≤ 100000000000 → worth margin share cents ≤ 10000000000000000
worth_bound margin share cents s c =
    let a : cents * share ≤ 100000000000 * 1000 = mul-le-mul c s in
    let r : 100 - margin ≤ 100 = omega arith in mul-le-mul a r
