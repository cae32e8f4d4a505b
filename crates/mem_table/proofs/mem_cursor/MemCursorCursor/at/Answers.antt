use Rattle.mem_table.proofs.mem_cursor.MemCursorCursor.at.Goals as goal

pub entry-requires : goal.entry-requires
entry-requires c = c.args.self.now.inside c.in-Some.spot c.in-Some.is
