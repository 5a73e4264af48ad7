use Rattle.std.proofs.Common.{◌≡◌, ◌+◌, ◌≤◌, ◌∷◌, [], ◌++◌, length, get_or, take, drop, sym, refl, ap, ◌∙◌, arith, rules}
use Rattle.wire.specs.Stream.{kept}
use Rattle.wire.proofs.Streaming.{kept_more, kept_full, kept_all}
use Rattle.wire.proofs.stream.LineStart.push.Goals as goal

pub returns-then-is_err : goal.returns-then-is_err
returns-then-is_err c =
    let full : length (kept c.loop-byte.self) ≡ 81 = grind arith in
    let f = kept_full (kept c.loop-byte.self) (drop c.loop-byte.byte-index c.args.part.now) full in
    let i = c.loop-byte.invariant in
    record { keeps_the_first_81_bytes = search rules }

pub loop-byte-preserved : goal.loop-byte-preserved
loop-byte-preserved c =
    let byte = get_or c.args.part.now c.loop-byte.byte-index 0 in
    let pushed : kept (record { bytes = c.push.new.self }) ≡ kept c.loop-byte.self ++ (byte ∷ []) = search rules in
    ap (λ items. take 81 (items ++ drop (c.loop-byte.byte-index + 1) c.args.part.now)) pushed
    ∙ ap (take 81) (kept_more (kept c.loop-byte.self) c.args.part.now c.loop-byte.byte-index byte c.loop-byte-test.true refl)
    ∙ c.loop-byte.invariant

pub returns : goal.returns
returns c =
    let few : length (kept c.loop-byte.self) ≤ 81 = omega arith in
    record { keeps_the_first_81_bytes = sym (kept_all (kept c.loop-byte.self) c.args.part.now c.loop-byte.byte-index few c.loop-byte-test.false) ∙ c.loop-byte.invariant }
