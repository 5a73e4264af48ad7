use Rattle.coverage.specs.Admission.{position_of}
use Rattle.coverage.proofs.Meaning.{smaller_debts_stay_covered}
use Rattle.coverage.proofs.position.Position.is_covered.Goals as goal

pub returns-clause-smaller_debts_stay_covered : goal.returns-clause-smaller_debts_stay_covered
returns-clause-smaller_debts_stay_covered c = smaller_debts_stay_covered (position_of c.args.self.now)
