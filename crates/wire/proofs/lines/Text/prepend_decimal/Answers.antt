use Rattle.std.proofs.Common.{arith}
use Rattle.std.proofs.lemmas.Fmt.{length-decimal-le}
use Rattle.std.proofs.lemmas.Grind.{common_steps}
use Rattle.wire.proofs.lines.Text.prepend_decimal.Goals as goal

pub write_digits-self-inside-requires : goal.write_digits-self-inside-requires
write_digits-self-inside-requires c = grind (arith, common_steps, length-decimal-le 20)

pub returns-clause-at_most_twenty : goal.returns-clause-at_most_twenty
returns-clause-at_most_twenty c = grind (arith, common_steps, length-decimal-le 20)
