-- Lemmas on numbers and lines that are written into a buffer.
use Rattle.std.proofs.Common.{◌≡◌, ℕ, zero, suc, ◌+◌, ◌/◌, ◌%◌, Bool, true, false, cond, List, [], ◌∷◌, ◌++◌, unwrap_or, ℤ, pos, negsuc, sym, ap, ◌∙◌, arith}
use Rattle.std.specs.Prelude.{◌==◌, nat_lt}
use Rattle.std.specs.Fmt.{digits_onto, digits, digit_glyph, decimal, signed_decimal}
use Rattle.std.specs.List.{AllByRecursion}
use Rattle.std.proofs.lemmas.List.{append_cancel_right}
use Rattle.records.specs.declared.answer.Answer.{Answer}
use Rattle.records.specs.declared.answer.Status.{Status}
use Rattle.records.specs.declared.answer.Status.TheVariants.{New, CountedBefore}
use Rattle.records.specs.declared.fault.Layer.{Layer}
use Rattle.records.specs.declared.fault.Layer.TheVariants.{Line, Field, Book}
use Rattle.records.specs.declared.fault.Refusal.{Refusal}
use Rattle.wire.specs.Fields.{comma, Plain, Split}
use Rattle.wire.specs.Lines.{after_commas, line_feed, line_of, status_digit, layer_letter, answer_fields, refusal_fields, FallsInto, ReadsBack}
use Rattle.wire.proofs.Reading.{reads_numbers, reads_prices}
use Rattle.wire.proofs.Splitting.{one_split}

-- no comma is in a number, a digit or a layer's letter
glyph_is_no_comma : (t : Bool) (d : ℕ) → cond t (48 + d) (87 + d) ≡ comma → ⊥
glyph_is_no_comma true d e = omega arith
glyph_is_no_comma false d e = omega arith

plain_either : (t : Bool) (xs ys : List ℕ) → Plain xs → Plain ys → Plain (cond t xs ys)
plain_either true xs ys p q = p
plain_either false xs ys p q = q

plain_onto : (k n : ℕ) (ds : List ℕ) → Plain ds → Plain (digits_onto k 10 false n ds)
plain_onto zero n ds p = p
plain_onto (suc k) n ds p =
    let q : Plain (digit_glyph false (n % 10) ∷ ds) = (glyph_is_no_comma (nat_lt (n % 10) 10) (n % 10), p) in
    plain_either (n / 10 == 0) (digit_glyph false (n % 10) ∷ ds) (digits_onto k 10 false (n / 10) (digit_glyph false (n % 10) ∷ ds)) q (plain_onto k (n / 10) (digit_glyph false (n % 10) ∷ ds) q)

plain_decimal : (n : ℕ) → Plain (decimal n)
unfolding digits
plain_decimal n = plain_onto 64 n [] tt

plain_signed : (z : ℤ) → Plain (signed_decimal z)
plain_signed (pos n) = plain_decimal n
plain_signed (negsuc n) = ((λ e. omega arith), plain_decimal (suc n))

plain_status : (s : Status) → Plain (status_digit s ∷ [])
plain_status New = ((λ e. omega arith), tt)
plain_status CountedBefore = ((λ e. omega arith), tt)

plain_layer : (l : Layer) → Plain (layer_letter l ∷ [])
plain_layer Line = ((λ e. omega arith), tt)
plain_layer Field = ((λ e. omega arith), tt)
plain_layer Book = ((λ e. omega arith), tt)

pub plain_answer : (a : Answer) → AllByRecursion Plain (answer_fields a)
plain_answer a = (plain_status a.status, (plain_signed a.exposure, (plain_signed a.credit_position, (plain_signed a.capacity, tt))))

pub plain_refusal : (r : Refusal) → AllByRecursion Plain (refusal_fields r)
plain_refusal r = (plain_decimal r.number, (plain_layer r.layer, (plain_decimal (unwrap_or r.place 0), tt)))

-- so a line falls into the fields that were written
pub falls_into : (number : ℕ) (fs : List (List ℕ)) → AllByRecursion Plain fs → FallsInto (line_of number fs) number fs
falls_into number fs p row e =
    let r : row ≡ decimal number ++ after_commas fs = append_cancel_right row _ (line_feed ∷ []) e in
    let s : Split row (decimal number) fs = record { whole = sym r; plain_lead = plain_decimal number; plain_fields = p } in
    let o = (one_split row).1 (decimal number) fs s in
    (sym o.0, sym o.1)

-- what was written of a number is read as that number
pub reads_back : (z : ℤ) (bytes : List ℕ) → bytes ≡ signed_decimal z → ReadsBack z bytes
reads_back z bytes e =
    record {
      as_price = λ h. (reads_prices bytes z).1 (h, e);
      as_number = λ n d h. (reads_numbers bytes n).1 (h, e ∙ ap signed_decimal d);
    }
