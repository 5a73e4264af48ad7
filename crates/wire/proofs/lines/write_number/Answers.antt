use Rattle.std.proofs.Common.{◌∙◌}
use Rattle.std.proofs.lemmas.Int.{to_z-of_z}
use Rattle.wire.proofs.Writing.{reads_back}
use Rattle.wire.proofs.lines.write_number.Goals as goal

pub returns-clause-reads_back : goal.returns-clause-reads_back
returns-clause-reads_back c =
    let f = c.ranges.value in
    let t = simp to_z-of_z at c.format.ensures.text in
    reads_back c.args.value _ (c.write_front.ensures.text_is_that_front ∙ c.as_bytes.ensures.value ∙ t)
