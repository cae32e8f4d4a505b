use Rattle.std.proofs.Common.{◌≡◌, ◌≤◌, ◌+◌, ◌-◌, ◌++◌, ◌∷◌, ◌∙◌, ℕ, [], List, Option, None, Err, OnOk, ap, sym, subst, arith}
use Rattle.std.proofs.lemmas.Result.{on_ok_weaker}
use Rattle.peb_base.specs.Entries.{AreSorted}
use Rattle.peb_base.specs.EntryRefs.{entry_of}
use Rattle.std.specs.Prelude.{map}
use Rattle.std.specs.Arc.{arc_value}
use Rattle.peb_base.specs.declared.entry.Entry.{Entry}
use Rattle.table_file.specs.Pieces.{range_of}
use Rattle.table_file.specs.Limits.{IsRefused}
use Rattle.table_file.specs.Writing.{HasPushed}
use Rattle.table_file.specs.declared.put_fault.PutFault.{PutFault}
use Rattle.table_file.specs.PieceWriting.{PieceParts, Pushed, full_length, making, taken_by, with_more, piece_fault, AreTablesOf, HasCut}
use Rattle.table_file.specs.Taking.{pushed_length, rest_length, Takes, TakesAtMost}
use Rattle.table_file.specs.TakingLaws.{takes_then, takes_less}
use Rattle.table_file.proofs.PiecePushes.{Begun, at_below, cut_first, taken_first, next_fits, one_sorted, within, cut_same, taken_same, cut_next, taken_next, fault_first, fault_same, fault_next}
use Rattle.table_file.proofs.piece_writer.PieceWriter.push.Goals as goal

pub range_from-at-requires : goal.range_from-at-requires
range_from-at-requires g c =
    subst (λ (w : PieceParts g.row.F.Denot). w.at ≤ range_of c.args.entry.key.now c.args.keys.now) (sym c.self.view_is)
    (at_below g.F.TableHandle _ c.args.self.now c.args.keys.now c.requires.cut.0 (entry_of c.args.entry) c.requires.cut.1 c.requires.cut.2)

pub returns-then-not-self-clause-cut : goal.returns-then-not-self-clause-cut
returns-then-not-self-clause-cut g c =
    on_ok_weaker c.push_first.result
    (λ begun s cut sorted. cut_first g.F.TableHandle _ c.args.self.now c.args.keys.now s (entry_of c.args.entry) cut sorted
    (ap (λ (w : PieceParts g.row.F.Denot). w.is_open) (sym c.self.view_is) ∙ c.if-not-self.true)
    c.range_from-at.result c.range_from-at.ensures.place _ c.push_first.new.self c.push_first.ensures.tables
    (record { numbers = c.push_first.ensures.numbers; level = c.push_first.ensures.level; full = c.push_first.ensures.full }) begun)
    c.push_first.ensures.begun

pub returns-then-not-self-clause-taken : goal.returns-then-not-self-clause-taken
returns-then-not-self-clause-taken g c = λ s cut sorted.
    subst (λ (n : ℕ). Takes n (g.M.Maker.taken c.args.maker.now) (g.M.Maker.taken c.push_first.new.maker) c.push_first.result)
    (taken_first g.F.TableHandle _ c.args.self.now c.args.keys.now s (entry_of c.args.entry) cut sorted
    (ap (λ (w : PieceParts g.row.F.Denot). w.is_open) (sym c.self.view_is) ∙ c.if-not-self.true))
    c.push_first.ensures.taken

pub push-requires : goal.push-requires
push-requires g c =
    subst (λ (w : PieceParts g.row.F.Denot). (x : List Entry) × HasPushed g.F.TableHandle.tells (g.M.Maker.begun c.args.maker.now) (g.M.Maker.written c.args.maker.now) w.writer x × AreSorted (x ++ entry_of c.args.entry ∷ [])) (sym c.self.view_is)
    (next_fits g.F.TableHandle _ c.args.self.now c.args.keys.now c.requires.cut.0 (entry_of c.args.entry) c.requires.cut.1 c.requires.cut.2
    (ap (λ (w : PieceParts g.row.F.Denot). w.is_open) (sym c.self.view_is) ∙ c.if-not-self.false))

pub push_first-requires-in-Ok-clause-entry : goal.push_first-requires-in-Ok-clause-entry
push_first-requires-in-Ok-clause-entry g c =
    one_sorted g.F.TableHandle _ c.args.self.now c.args.keys.now c.requires.cut.0 (entry_of c.args.entry) c.requires.cut.1 c.requires.cut.2
    (ap (λ (w : PieceParts g.row.F.Denot). w.is_open) (sym c.self.view_is) ∙ c.if-not-self.false)

pub returns-in-Ok-clause-elsewhere : goal.returns-in-Ok-clause-elsewhere
returns-in-Ok-clause-elsewhere g c = λ told n outside.
    ap (λ f. f n) c.push_first-in-Ok.ensures.sealed
    ∙ c.in-Ok.ensures.elsewhere told n
    (within g.F.TableHandle _ c.args.self.now c.args.keys.now c.requires.cut.0 (entry_of c.args.entry) c.requires.cut.1 c.requires.cut.2
    (ap (λ (w : PieceParts g.row.F.Denot). w.is_open) (sym c.self.view_is) ∙ c.if-not-self.false) n outside)

pub returns-in-Err-clause-elsewhere : goal.returns-in-Err-clause-elsewhere
returns-in-Err-clause-elsewhere g c = λ told n outside.
    c.in-Err.ensures.elsewhere told n
    (within g.F.TableHandle _ c.args.self.now c.args.keys.now c.requires.cut.0 (entry_of c.args.entry) c.requires.cut.1 c.requires.cut.2
    (ap (λ (w : PieceParts g.row.F.Denot). w.is_open) (sym c.self.view_is) ∙ c.if-not-self.false) n outside)

pub returns-in-Ok-clause-cut : goal.returns-in-Ok-clause-cut
returns-in-Ok-clause-cut g c =
    on_ok_weaker c.push_first-in-Ok.result
    (λ begun s cut sorted. cut_next g.F.TableHandle _ c.args.self.now c.args.keys.now s (entry_of c.args.entry) cut sorted
    (ap (λ (w : PieceParts g.row.F.Denot). w.is_open) (sym c.self.view_is) ∙ c.if-not-self.false)
    c.range_from-at.result c.range_from-at.ensures.place (λ same. c.if-at-self.false (same ∙ ap (λ (w : PieceParts g.row.F.Denot). w.at) (sym c.self.view_is))) _ c.push_first-in-Ok.new.self
    (λ p ps writes some tables. subst (λ ts. AreTablesOf g.F.TableHandle (full_length c.args.self.now) c.args.self.now.level ts (ps ++ p ∷ [])) (sym c.push_first-in-Ok.ensures.tables)
    (c.in-Ok.ensures.tables p ps writes some tables))
    (record {
      numbers = c.push_first-in-Ok.ensures.numbers ∙ c.in-Ok.ensures.numbers;
      level = c.push_first-in-Ok.ensures.level ∙ c.in-Ok.ensures.level;
      full = c.push_first-in-Ok.ensures.full ∙ c.in-Ok.ensures.full;
    })
    (subst (λ n. Begun (making g.F.TableHandle.tells (g.M.Maker.begun c.push_first-in-Ok.new.maker) (g.M.Maker.written c.push_first-in-Ok.new.maker)) c.push_first-in-Ok.new.self n c.range_from-at.result (entry_of c.args.entry)) c.in-Ok.ensures.numbers begun))
    c.push_first-in-Ok.ensures.begun

pub returns-in-Ok-clause-taken : goal.returns-in-Ok-clause-taken
returns-in-Ok-clause-taken g c = λ s cut sorted.
    let e = entry_of c.args.entry in
    let full = full_length c.args.self.now in
    taken_next g.F.TableHandle _ c.args.self.now c.args.keys.now s e cut sorted
    (ap (λ (w : PieceParts g.row.F.Denot). w.is_open) (sym c.self.view_is) ∙ c.if-not-self.false)
    c.range_from-at.result c.range_from-at.ensures.place (λ same. c.if-at-self.false (same ∙ ap (λ (w : PieceParts g.row.F.Denot). w.at) (sym c.self.view_is)))
    (λ (n : ℕ). Takes n (g.M.Maker.taken c.args.maker.now) (g.M.Maker.taken c.push_first-in-Ok.new.maker) c.push_first-in-Ok.result)
    (λ p writes some. takes_then c.push_first-in-Ok.result (rest_length full p.number p.entries) (pushed_length full [] e) _ _ _
    (c.in-Ok.ensures.taken p writes some)
    (subst (λ (k : ℕ). Takes (pushed_length k [] e) (g.M.Maker.taken c.close.new.maker) (g.M.Maker.taken c.push_first-in-Ok.new.maker) c.push_first-in-Ok.result) c.in-Ok.ensures.full c.push_first-in-Ok.ensures.taken))

pub returns-in-Err-clause-taken : goal.returns-in-Err-clause-taken
returns-in-Err-clause-taken g c = λ s cut sorted.
    let e = entry_of c.args.entry in
    let full = full_length c.args.self.now in
    taken_next g.F.TableHandle _ c.args.self.now c.args.keys.now s e cut sorted
    (ap (λ (w : PieceParts g.row.F.Denot). w.is_open) (sym c.self.view_is) ∙ c.if-not-self.false)
    c.range_from-at.result c.range_from-at.ensures.place (λ same. c.if-at-self.false (same ∙ ap (λ (w : PieceParts g.row.F.Denot). w.at) (sym c.self.view_is)))
    (λ (n : ℕ). TakesAtMost n (g.M.Maker.taken c.args.maker.now) (g.M.Maker.taken c.close.new.maker))
    (λ p writes some. takes_less (rest_length full p.number p.entries) (rest_length full p.number p.entries + pushed_length full [] e) _ _ (omega arith)
    (c.in-Err.ensures.taken p writes some))

pub returns-then-at-self-clause-cut : goal.returns-then-at-self-clause-cut
returns-then-at-self-clause-cut g c =
    let now = making g.F.TableHandle.tells (g.M.Maker.begun c.args.maker.now) (g.M.Maker.written c.args.maker.now) in
    subst (λ (w : PieceParts g.row.F.Denot). OnOk c.push.result ((s : Pushed) → HasCut g.F.TableHandle now w c.args.keys.now s → AreSorted (s.entries ++ entry_of c.args.entry ∷ [])
    → HasCut g.F.TableHandle (making g.F.TableHandle.tells (g.M.Maker.begun c.push.new.maker) (g.M.Maker.written c.push.new.maker))
    (record { writer = c.push.new.self; level = c.self.inside.level; numbers = c.self.inside.numbers; at = c.self.inside.at; is_open = c.self.inside.is_open; tables = map arc_value c.self.inside.tables.items })
    c.args.keys.now (with_more s (entry_of c.args.entry)))) c.self.view_is
    (on_ok_weaker c.push.result
    (λ pushes s cut sorted. cut_same g.F.TableHandle now _ c.args.keys.now s (entry_of c.args.entry) cut sorted c.if-not-self.false
    (sym c.if-at-self.true ∙ c.range_from-at.ensures.place) _ c.push.new.self pushes c.push.ensures.number c.push.ensures.level c.push.ensures.block)
    c.push.ensures.pushed)

pub returns-then-at-self-clause-taken : goal.returns-then-at-self-clause-taken
returns-then-at-self-clause-taken g c =
    let now = making g.F.TableHandle.tells (g.M.Maker.begun c.args.maker.now) (g.M.Maker.written c.args.maker.now) in
    subst (λ (w : PieceParts g.row.F.Denot). (s : Pushed) → HasCut g.F.TableHandle now w c.args.keys.now s → AreSorted (s.entries ++ entry_of c.args.entry ∷ [])
    → Takes (taken_by w c.args.keys.now (with_more s (entry_of c.args.entry)) - taken_by w c.args.keys.now s) (g.M.Maker.taken c.args.maker.now) (g.M.Maker.taken c.push.new.maker) c.push.result) c.self.view_is
    (λ s cut sorted. taken_same g.F.TableHandle now _ c.args.keys.now s (entry_of c.args.entry) cut sorted c.if-not-self.false
    (sym c.if-at-self.true ∙ c.range_from-at.ensures.place)
    (λ (n : ℕ). Takes n (g.M.Maker.taken c.args.maker.now) (g.M.Maker.taken c.push.new.maker) c.push.result)
    c.push.ensures.taken)

pub returns-then-not-self-clause-limit : goal.returns-then-not-self-clause-limit
returns-then-not-self-clause-limit g c = λ s cut sorted.
    subst (λ (r : Option PutFault). IsRefused {T = Unit {0}} r c.push_first.result)
    (sym (fault_first g.F.TableHandle _ c.args.self.now c.args.keys.now s (entry_of c.args.entry) cut sorted (ap (λ (w : PieceParts g.row.F.Denot). w.is_open) (sym c.self.view_is) ∙ c.if-not-self.true)))
    c.push_first.ensures.limit

pub returns-in-Err-clause-limit : goal.returns-in-Err-clause-limit
returns-in-Err-clause-limit g c = λ s cut sorted.
    fault_next g.F.TableHandle _ c.args.self.now c.args.keys.now s (entry_of c.args.entry) cut sorted (ap (λ (w : PieceParts g.row.F.Denot). w.is_open) (sym c.self.view_is) ∙ c.if-not-self.false)
    c.range_from-at.result c.range_from-at.ensures.place (λ same. c.if-at-self.false (same ∙ ap (λ (w : PieceParts g.row.F.Denot). w.at) (sym c.self.view_is)))
    (λ (r : Option PutFault). IsRefused {T = Unit {0}} r (Err c.in-Err.fault))
    (λ p writes some. c.in-Err.ensures.limit p writes some)

pub returns-in-Ok-clause-limit : goal.returns-in-Ok-clause-limit
returns-in-Ok-clause-limit g c = λ s cut sorted.
    subst (λ (r : Option PutFault). IsRefused {T = Unit {0}} r c.push_first-in-Ok.result)
    (sym (fault_next g.F.TableHandle _ c.args.self.now c.args.keys.now s (entry_of c.args.entry) cut sorted (ap (λ (w : PieceParts g.row.F.Denot). w.is_open) (sym c.self.view_is) ∙ c.if-not-self.false)
    c.range_from-at.result c.range_from-at.ensures.place (λ same. c.if-at-self.false (same ∙ ap (λ (w : PieceParts g.row.F.Denot). w.at) (sym c.self.view_is)))
    (λ (r : Option PutFault). r ≡ None)
    (λ p writes some. c.in-Ok.ensures.limit p writes some)))
    c.push_first-in-Ok.ensures.limit

pub returns-then-at-self-clause-limit : goal.returns-then-at-self-clause-limit
returns-then-at-self-clause-limit g c =
    let now = making g.F.TableHandle.tells (g.M.Maker.begun c.args.maker.now) (g.M.Maker.written c.args.maker.now) in
    subst (λ (w : PieceParts g.row.F.Denot). (s : Pushed) → HasCut g.F.TableHandle now w c.args.keys.now s → AreSorted (s.entries ++ entry_of c.args.entry ∷ [])
    → IsRefused {T = Unit {0}} (piece_fault w c.args.keys.now s (entry_of c.args.entry)) c.push.result) c.self.view_is
    (λ s cut sorted. fault_same g.F.TableHandle now _ c.args.keys.now s (entry_of c.args.entry) cut sorted c.if-not-self.false
    (sym c.if-at-self.true ∙ c.range_from-at.ensures.place)
    (λ (r : Option PutFault). IsRefused {T = Unit {0}} r c.push.result)
    c.push.ensures.limit)
