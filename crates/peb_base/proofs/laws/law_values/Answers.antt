use Rattle.peb_base.specs.KeyLaws.{other_key}
use Rattle.peb_base.specs.MapLaws.{value_after_put, value_after_delete, value_after_other}
use Rattle.peb_base.proofs.laws.law_values.Goals as goal

pub returns-clause-put : goal.returns-clause-put
returns-clause-put c = value_after_put

pub returns-clause-delete : goal.returns-clause-delete
returns-clause-delete c = value_after_delete

pub returns-clause-others : goal.returns-clause-others
returns-clause-others c = λ bs first op k above differ. value_after_other bs first op k above (other_key k op.key differ)
