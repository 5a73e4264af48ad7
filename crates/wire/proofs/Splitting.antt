-- Lemmas on how a text falls into fields.
use Rattle.std.proofs.Common.{◌≡◌, ℕ, suc, ◌+◌, ◌-◌, ◌<◌, ◌==◌, not, List, [], ◌∷◌, ◌++◌, length, take, drop, Some, None, Option, sym, refl, ap, ◌∙◌, append-nil, arith}
use Rattle.std.specs.List.{flat_map, position, position_or_len, count_by, AllByRecursion}
use Rattle.std.specs.Option.{unwrap_or}
use Rattle.std.proofs.lemmas.List.{take_rest}
use Rattle.std.proofs.lemmas.List.Recursion.{is_count_by, is_position_or_len}
use Rattle.std.proofs.lemmas.List.Sums.{prefix_len-le-length}
use Rattle.std.proofs.lemmas.Bool.Decides.{nat_tests}
use Rattle.wire.specs.Fields.{comma, before, fields, Plain, OneSplit}

-- the first comma stands after the bytes before it
after_before : (xs : List ℕ) → length (before xs) ≡ position_or_len (λ b. b == comma) xs
unfolding before
after_before = is_position_or_len (λ xs. length (before xs)) (λ b. b == comma) refl (λ x xs. grind (arith, nat_tests))

-- what the place of the first comma tells
comma_found : (xs : List ℕ) (i : ℕ) → position (λ b. b == comma) xs ≡ Some i → (i ≡ length (before xs)) × (i < length xs)
comma_found xs i e = let n = after_before xs in grind (arith, nat_tests)

-- a field goes up to the next comma or to the end
field_end : (xs : List ℕ) → unwrap_or (position (λ b. b == comma) xs) (length xs) ≡ length (before xs)
field_end xs =
    let n = after_before xs in let l = prefix_len-le-length (λ b. not (b == comma)) xs in
    grind (arith, nat_tests)

-- each comma begins a field
pub count_commas : (xs : List ℕ) → length (fields xs) ≡ count_by (λ b. b == comma) xs
unfolding fields
count_commas = is_count_by (λ xs. length (fields xs)) (λ b. b == comma) refl (λ x xs. grind (arith, nat_tests))

-- the bytes before the first comma are the front of the text
pub take_before : (xs : List ℕ) → take (length (before xs)) xs ≡ before xs
unfolding before
take_before [] = refl
take_before (x ∷ xs) = grind (arith, nat_tests, take_before xs)

-- and no field begins in them
pub drop_before : (xs : List ℕ) → fields (drop (length (before xs)) xs) ≡ fields xs
unfolding before fields
drop_before [] = refl
drop_before (x ∷ xs) = grind (arith, nat_tests, drop_before xs)

-- where there is no comma there is no field
pub no_comma : (xs : List ℕ) → position (λ b. b == comma) xs ≡ None → fields xs ≡ []
unfolding fields
no_comma [] h = refl
no_comma (x ∷ xs) h = grind (arith, nat_tests, no_comma xs)

-- the first comma begins the first field
pub at_comma : (xs : List ℕ) → length (before xs) < length xs → fields xs ≡ before (drop (suc (length (before xs))) xs) ∷ fields (drop (suc (length (before xs))) xs)
unfolding before fields
at_comma [] h = absurd (omega arith)
at_comma (x ∷ xs) h = grind (arith, nat_tests, at_comma xs)

-- the fields, each after a comma, make the text again
whole_split : (xs : List ℕ) → before xs ++ flat_map (λ f. comma ∷ f) (fields xs) ≡ xs
unfolding before fields
whole_split [] = refl
whole_split (x ∷ xs) = grind (arith, nat_tests, whole_split xs)

plain_before : (xs : List ℕ) → Plain (before xs)
unfolding before
plain_before [] = tt
plain_before (x ∷ xs) = grind (arith, nat_tests, plain_before xs)

plain_fields : (xs : List ℕ) → AllByRecursion Plain (fields xs)
unfolding fields
plain_fields [] = tt
plain_fields (x ∷ xs) = grind (arith, nat_tests, plain_before xs, plain_fields xs)

-- a plain lead is what stands before the first comma, and the fields are those after it
before_lead : (lead rest : List ℕ) → Plain lead → before (lead ++ rest) ≡ lead ++ before rest
unfolding before
before_lead [] rest h = refl
before_lead (x ∷ xs) rest (n, h) = grind (arith, nat_tests, before_lead xs rest h)

fields_lead : (lead rest : List ℕ) → Plain lead → fields (lead ++ rest) ≡ fields rest
unfolding fields
fields_lead [] rest h = refl
fields_lead (x ∷ xs) rest (n, h) = grind (arith, nat_tests, fields_lead xs rest h)

before_joined : (fs : List (List ℕ)) → before (flat_map (λ f. comma ∷ f) fs) ≡ []
unfolding before
before_joined [] = refl
before_joined (f ∷ fs) = refl

before_split : (lead : List ℕ) (fs : List (List ℕ)) → Plain lead → before (lead ++ flat_map (λ f. comma ∷ f) fs) ≡ lead
before_split lead fs h = before_lead lead _ h ∙ ap (λ ys. lead ++ ys) (before_joined fs) ∙ append-nil lead

fields_split : (fs : List (List ℕ)) → AllByRecursion Plain fs → fields (flat_map (λ f. comma ∷ f) fs) ≡ fs
unfolding fields
fields_split [] h = refl
fields_split (f ∷ fs) (p, h) =
    grind (arith, nat_tests, before_split f fs p, fields_lead f (flat_map (λ g. comma ∷ g) fs) p, fields_split fs h)

pub one_split : (text : List ℕ) → OneSplit text
one_split text = (
  record { whole = whole_split text; plain_lead = plain_before text; plain_fields = plain_fields text },
  λ lead fs s. (
    sym (before_split lead fs s.plain_lead) ∙ ap before s.whole,
    sym (fields_split fs s.plain_fields) ∙ sym (fields_lead lead _ s.plain_lead) ∙ ap fields s.whole,
  ),
)

-- the part of the text after the comma, up to the next, is the first field, and the other fields begin where it ends
pub next_handed : (xs after : List ℕ) (n e : ℕ) → after ≡ drop (n + 1) xs → position (λ b. b == comma) xs ≡ Some n → (p : Option ℕ) → p ≡ position (λ b. b == comma) after → e ≡ unwrap_or p (length after) → fields xs ≡ take e after ∷ fields (take (length after - e) (drop e after))
next_handed xs after n e a found p next end =
    let f = comma_found xs n found in
    let m : suc (length (before xs)) ≡ n + 1 = omega arith in
    let s : drop (suc (length (before xs))) xs ≡ after = ap (λ i. drop i xs) m ∙ sym a in
    let d : e ≡ length (before after) = end ∙ ap (λ o. unwrap_or o (length after)) next ∙ field_end after in
    let h : take e after ≡ before after = ap (λ i. take i after) d ∙ take_before after in
    let t : fields (take (length after - e) (drop e after)) ≡ fields after = ap fields (take_rest after e) ∙ ap (λ i. fields (drop i after)) d ∙ drop_before after in
    at_comma xs (omega arith) ∙ ap (λ ys. before ys ∷ fields ys) s ∙ ap (λ ys. ys ∷ fields after) (sym h) ∙ ap (λ gs. take e after ∷ gs) (sym t)
