use Rattle.std.proofs.Common.{◌≡◌, get_or, pos, Some, sym, ap, ◌∙◌, arith, rules}
use Rattle.std.proofs.lemmas.Bool.Decides.{nat_tests}
use Rattle.std.proofs.lemmas.Int.{ints}
use Rattle.std.specs.Option.{option_map}
use Rattle.wire.specs.Numbers.{hyphen, negative}
use Rattle.wire.proofs.Reading.{reads_prices, price_minus, price_plain, negative_is, no_first}
use Rattle.wire.proofs.numbers.I64Form.read.Goals as goal
use Rattle.wire.proofs.numbers.I64Form.read.Goals.{in_default-via-then-bytes-lt1, in_default-via-else-bytes-lt1+in_default-1}

pub returns-in_err-n-in-45 : goal.returns-in_err-n-in-45
returns-in_err-n-in-45 c =
    record { reads_the_form = c.from_residual.ensures ∙ ap negative (sym c.in_err-n-in-45.was) ∙ price_minus c.args.bytes.now c.read.result (omega arith) c.read.ensures.reads_the_form; reads_exactly_what_is_written = reads_prices c.args.bytes.now }

pub returns-in-0 : goal.returns-in-0
returns-in-0 c =
    record { reads_the_form = ap negative (sym (c.in_ok-n-in-45.was ∙ ap Some c.in-0.is)) ∙ price_minus c.args.bytes.now c.read.result (omega arith) c.read.ensures.reads_the_form; reads_exactly_what_is_written = reads_prices c.args.bytes.now }

pub returns-in_default-2 : goal.returns-in_default-2
returns-in_default-2 c =
    let b = c.in_ok-n-in-45.ensures.stays_below in
    record { reads_the_form = negative_is c.in_ok-n-in-45.n _ (λ e. omega arith) (omega (arith, ints)) ∙ ap negative (sym c.in_ok-n-in-45.was) ∙ price_minus c.args.bytes.now c.read.result (omega arith) c.read.ensures.reads_the_form; reads_exactly_what_is_written = reads_prices c.args.bytes.now }

pub returns-in_default : goal.returns-in_default
returns-in_default c =
    let h : get_or c.args.bytes.now 0 0 ≡ hyphen → ⊥ = elim c.in_default.branch [ in_default-via-then-bytes-lt1 w ↦ no_first c.args.bytes.now (grind (arith, nat_tests)) | in_default-via-else-bytes-lt1+in_default-1 w ↦ λ e. omega arith ] in
    let s : c.map.result ≡ option_map pos c.read-in_default.result = search (rules, ints) in
    record { reads_the_form = s ∙ price_plain c.args.bytes.now c.read-in_default.result h c.read-in_default.ensures.reads_the_form; reads_exactly_what_is_written = reads_prices c.args.bytes.now }
