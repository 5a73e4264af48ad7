use Rattle.std.proofs.Common.{◌≡◌, length, ◌<◌, ◌∙◌, rules}
use Rattle.std.specs.Prelude.{IfSome}
use Rattle.std.proofs.lemmas.Iterator.{YieldsList-from_slice}
use Rattle.std.proofs.lemmas.Iterator.Adapters.{position_from-zero}
use Rattle.std.proofs.lemmas.Iterator.Search.{position_from_yields_List}
use Rattle.records.specs.Tables.{place}
use Rattle.records.proofs.search.position.Goals as goal

pub returns : goal.returns
returns g c =
    let fits = g.T.Keyed.fits c.args.key.now in
    let first : c.position.result ≡ place fits c.args.rows.now =
    position_from_yields_List fits _ _ _ c.position.ensures.ran (YieldsList-from_slice c.args.rows.now cc) (λ x b q k. search rules) ∙ position_from-zero fits c.args.rows.now in
    let within : IfSome c.position.result (λ i. i < length c.args.rows.now) = search rules in
    record { first_match = search rules; within = search rules }
