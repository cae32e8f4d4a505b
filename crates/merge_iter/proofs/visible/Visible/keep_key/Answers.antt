use Rattle.std.proofs.Common.{sym, rules}
use Rattle.merge_iter.proofs.visible.Visible.keep_key.Goals as goal

pub put-requires-clause-fits : goal.put-requires-clause-fits
put-requires-clause-fits g c =
    let entry = g.met.C.Cursor.within c.args.self.now.inner _ (sym c.in-Some.ensures) in
    let short = entry.key in
    search rules
