use Rattle.version_set.proofs.Agreeing.{hold_both, looks_hold}
use Rattle.version_set.proofs.laws.law_contents.Goals as goal

pub returns : goal.returns
returns g c = record { both = hold_both g.T.HasRow.the_row g.T.HasRow.holds; looks = looks_hold g.T.HasRow.the_row g.T.HasRow.holds }
