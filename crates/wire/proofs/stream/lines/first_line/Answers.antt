use Rattle.std.proofs.Common.{◌≡◌, get_or, Some, subst, arith, rules}
use Rattle.std.proofs.lemmas.Bool.Decides.{nat_tests}
use Rattle.memchr.specs.Find.{IsFirstByte, is_byte}
use Rattle.wire.proofs.Streaming.{around, unbroken_before}
use Rattle.wire.proofs.stream.lines.first_line.Goals as goal

pub returns : goal.returns
returns c =
    let text = c.args.text.now in
    let end = c.in_ok-end.end in
    let first : IsFirstByte (is_byte 10) text (Some end) = subst (IsFirstByte (is_byte 10) text) c.in_ok-end.was c.line_end.ensures.first_line_feed in
    let within = first.0.high in
    let stands : get_or text end 0 ≡ 10 = grind (arith, nat_tests) in
    let splits = around text end within stands in
    let unbroken = unbroken_before text end (omega arith) (λ k lt e. let no = first.0.before k (omega arith) lt in grind (arith, nat_tests)) in
    record { splits_at_the_first_line_feed = search rules }
