use Rattle.std.proofs.Common.{sym, ◌∙◌, rules}
use Rattle.memchr.specs.Find.{is_byte}
use Rattle.memchr.proofs.lemmas.CallerLemmas.{length-places}
use Rattle.wire.specs.Fields.{comma}
use Rattle.wire.proofs.Splitting.{count_commas}
use Rattle.wire.proofs.fields.count_fields.Goals as goal

pub returns : goal.returns
returns c = let e = count_commas c.args.text.now ∙ sym (length-places (is_byte comma) c.args.text.now) in rw e (search rules)
