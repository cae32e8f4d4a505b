use Rattle.std.proofs.Common.{◌++◌, [], ap}
use Rattle.manifest.proofs.EditKinds.{edits_apart}
use Rattle.manifest.proofs.laws.one_edit.Goals as goal

pub returns : goal.returns
returns c = λ a b is_a is_b same. (edits_apart a b [] [] is_a is_b (ap (λ l. l ++ []) same)).0
