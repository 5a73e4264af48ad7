use Rattle.std.proofs.Common.{refl}
use Rattle.wire.specs.Fields.{remaining}
use Rattle.wire.proofs.Splitting.{one_split}
use Rattle.wire.proofs.fields.Reader.new.Goals as goal

pub returns : goal.returns
unfolding remaining
returns c = record { all_fields_remain = refl; stands_at_the_letter = refl; splits_in_one_way = one_split c.args.text.now }
