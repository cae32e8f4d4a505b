-- One entry after another is pushed.
use Rattle.std.proofs.Common.{◌≡◌, ◌<◌, [], ◌∷◌, ◌++◌, None, length, refl, sym, ap, ◌∙◌, subst, arith, rules, append_assoc}
use Rattle.std.proofs.lemmas.List.{append-nil}
use Rattle.std.specs.Arc.{arc_value}
use Rattle.peb_base.specs.Cursors.{next_place}
use Rattle.peb_base.specs.EntryRefs.{entry_of}
use Rattle.peb_base.specs.SortedParts.{entry_within}
use Rattle.peb_base.specs.Tables.{IsRowOf}
use Rattle.peb_base.specs.declared.table_row.TableRow.{TableRow}
use Rattle.table_file.specs.PieceWriting.{full_length}
use Rattle.table_cursor.specs.Walking.{ReadInOrder}
use Rattle.table_cursor.specs.Views.{table_of, page_of, index_of, shown_by, StandsIn}
use Rattle.guard_commit.specs.Reading.{IsHeld, WasRead, IsPassedBy}
use Rattle.guard_commit.specs.Stopping.{cause_of, IsStoppedIn, IsUndamaged}
use Rattle.guard_commit.specs.Tallying.{IsCounted}
use Rattle.guard_commit.specs.Writing.{told_by, work, behind}
use Rattle.guard_commit.proofs.Chains.{reads_on, outside_of}
use Rattle.guard_commit.proofs.Pushing.{pushed_on, push_stops, stays_within, bound_same}
use Rattle.guard_commit.proofs.Readings.{counted, reaches, all_passed, passed_on, passed_sorted, passed_front_of, never_passed, passed_all, was_read}
use Rattle.guard_commit.proofs.Stops.{push_limited, leads_undamaged}
use Rattle.guard_commit.proofs.passing.push_all.Goals as goal

pub add-requires : goal.add-requires
add-requires g c =
    let cur = c.each.cursor in
    entry_within [] 0 (page_of cur).entries (page_of cur).place (entry_of c.in-Some.entry) cur.sorted
    (sym c.in-Some.ensures.lent)

pub returns-then-not-add-clause-bound : goal.returns-then-not-add-clause-bound
returns-then-not-add-clause-bound g c =
    λ from ps held has is.
    let cur = c.each.cursor in
    let inv = c.each.invariant in
    let w = inv.walk in
    let f = g.P.File.TableHandle in
    let e = entry_of c.in-Some.entry in
    let there = sym c.in-Some.ensures.lent in
    let a = work (told_by g.M.Maker f.tells c.each.maker) c.each.pieces c.args.keys.now in
    let here = subst (λ t. IsHeld f t held) inv.table is in
    let r = passed_front_of cur w.0 e w.1 there held here in
    bound_same (full_length c.args.pieces.now) (full_length c.each.pieces) c.args.pieces.now.numbers (c.each.pieces).numbers
    c.args.keys.now ps held from.taken _ inv.full inv.numbers
    (stays_within f from c.law_pieces.ensures.grows c.law_pieces.ensures.whole a ps w.0 (e ∷ r.0) held
    (w.3 from ps has) (sym (append_assoc w.0 (e ∷ []) r.0) ∙ r.1) is.1.table.sorted)

pub returns-then-not-add-clause-stopped : goal.returns-then-not-add-clause-stopped
returns-then-not-add-clause-stopped g c =
    let cur = c.each.cursor in
    let inv = c.each.invariant in
    let w = inv.walk in
    let f = g.P.File.TableHandle in
    let e = entry_of c.in-Some.entry in
    let there = sym c.in-Some.ensures.lent in
    let more : IsPassedBy (table_of cur).row (w.0 ++ e ∷ []) =
    subst (λ (r : TableRow). IsPassedBy r (w.0 ++ e ∷ [])) (c.row.ensures ∙ ap (λ t. t.row) inv.table)
    (c.add.ensures.passed c.if-not-add.true w.0 w.2) in
    subst (λ t. IsStoppedIn f (full_length c.args.pieces.now) c.args.keys.now t c.passed_at.result)
    (sym inv.table)
    (c.passed_at.ensures.damage (full_length c.args.pieces.now) c.args.keys.now w.0 e w.1.walks there more)

pub returns-then-not-add-clause-sound : goal.returns-then-not-add-clause-sound
returns-then-not-add-clause-sound g c =
    λ held is.
    let cur = c.each.cursor in
    let inv = c.each.invariant in
    let w = inv.walk in
    let f = g.P.File.TableHandle in
    let e = entry_of c.in-Some.entry in
    let there = sym c.in-Some.ensures.lent in
    let more : IsPassedBy (table_of cur).row (w.0 ++ e ∷ []) =
    subst (λ (r : TableRow). IsPassedBy r (w.0 ++ e ∷ [])) (c.row.ensures ∙ ap (λ t. t.row) inv.table)
    (c.add.ensures.passed c.if-not-add.true w.0 w.2) in
    let here = subst (λ t. IsHeld f t held) inv.table is in
    absurd (never_passed cur w.0 e w.1 there more held here)

pub push-requires-clause-cut : goal.push-requires-clause-cut
push-requires-clause-cut g c =
    let cur = c.each.cursor in
    let inv = c.each.invariant in
    let w = inv.walk in
    let f = g.P.File.TableHandle in
    let e = entry_of c.in-Some.entry in
    let there = sym c.in-Some.ensures.lent in
    let has = w.3 c.requires.cut.0 c.requires.cut.1 c.requires.cut.2 in
    (behind c.requires.cut.1 w.0, has.cut, passed_sorted cur w.0 e w.1 there)

pub returns-in-Err-clause-bound : goal.returns-in-Err-clause-bound
returns-in-Err-clause-bound g c =
    λ from ps held has is.
    let cur = c.each.cursor in
    let inv = c.each.invariant in
    let w = inv.walk in
    let f = g.P.File.TableHandle in
    let e = entry_of c.in-Some.entry in
    let there = sym c.in-Some.ensures.lent in
    let a = work (told_by g.M.Maker f.tells c.each.maker) c.each.pieces c.args.keys.now in
    let here = subst (λ t. IsHeld f t held) inv.table is in
    let r = passed_front_of cur w.0 e w.1 there held here in
    let now = w.3 from ps has in
    let sorted = passed_sorted cur w.0 e w.1 there in
    bound_same (full_length c.args.pieces.now) (full_length c.each.pieces) c.args.pieces.now.numbers (c.each.pieces).numbers
    c.args.keys.now ps held from.taken _ inv.full inv.numbers
    (push_stops f from c.law_pieces.ensures.grows c.law_pieces.ensures.whole a ps w.0 e r.0 held _ now r.1
    is.1.table.sorted sorted (c.in-Err.ensures.taken (behind ps w.0) now.cut sorted))

pub returns-in-Err-clause-stopped : goal.returns-in-Err-clause-stopped
returns-in-Err-clause-stopped g c =
    let cur = c.each.cursor in
    let inv = c.each.invariant in
    let w = inv.walk in
    let f = g.P.File.TableHandle in
    let e = entry_of c.in-Some.entry in
    let there = sym c.in-Some.ensures.lent in
    let ps = c.requires.cut.1 in
    let has = w.3 c.requires.cut.0 ps c.requires.cut.2 in
    let sorted = passed_sorted cur w.0 e w.1 there in
    let full = full_length c.args.pieces.now in
    subst (λ r. IsStoppedIn f full c.args.keys.now c.args.table.now r) (sym c.put_cause.ensures)
    (subst (λ t. IsStoppedIn f full c.args.keys.now t (cause_of c.in-Err.fault)) (sym inv.table)
    (push_limited f full c.args.keys.now (table_of cur) c.each.pieces ps w.0 e (index_of cur) c.in-Err.fault inv.full
    (reaches f (table_of cur) (index_of cur) (page_of cur) w.0 e cur.shown cur.sorted w.1.walks there)
    (c.in-Err.ensures.limit (behind ps w.0) has.cut sorted)))

pub returns-in-Err-clause-grows : goal.returns-in-Err-clause-grows
returns-in-Err-clause-grows g c =
    let cur = c.each.cursor in
    let inv = c.each.invariant in
    let w = inv.walk in
    let f = g.P.File.TableHandle in
    let e = entry_of c.in-Some.entry in
    let there = sym c.in-Some.ensures.lent in
    let ps = c.requires.cut.1 in
    let has = w.3 c.requires.cut.0 ps c.requires.cut.2 in
    let took = c.in-Err.ensures.taken (behind ps w.0) has.cut (passed_sorted cur w.0 e w.1 there) in
    let fits = g.met.M.Maker.taken_fits c.each.maker in
    omega (arith, inv.grows, took.counted, fits)

pub each-preserved : goal.each-preserved
each-preserved g c =
    let cur = c.each.cursor in
    let inv = c.each.invariant in
    let w = inv.walk in
    let f = g.P.File.TableHandle in
    let e = entry_of c.in-Some.entry in
    let there = sym c.in-Some.ensures.lent in
    let a = work (told_by g.M.Maker f.tells c.each.maker) c.each.pieces c.args.keys.now in
    let b = work (told_by g.M.Maker f.tells c.push.new.maker) c.push.new.self c.args.keys.now in
    let sorted = passed_sorted cur w.0 e w.1 there in
    let moves = c.in-Ok-next.ensures.moves in
    let table = ap arc_value moves.keeps.table in
    let took = c.in-Ok.ensures.taken (behind c.requires.cut.1 w.0)
    (w.3 c.requires.cut.0 c.requires.cut.1 c.requires.cut.2).cut sorted in
    let fits = g.met.M.Maker.taken_fits c.each.maker in
    record {
      walk = (
        w.0 ++ e ∷ [],
        passed_on cur c.next.new.self w.0 e w.1 there
            (c.in-Ok-next.ensures.walks w.0 e there w.1.walks) table
            (λ held place stands. c.in-Ok-next.ensures.goes held place stands),
        c.add.ensures.added c.if-not-add.false w.0 w.2,
        λ from ps has. pushed_on f from c.law_pieces.ensures.grows a b ps w.0 e
            (record { tells = refl; keys = refl; numbers = c.push.ensures.numbers; full = c.push.ensures.full })
            (w.3 from ps has) sorted (c.in-Ok.ensures.cut (behind ps w.0) ((w.3 from ps has)).cut sorted)
            (c.in-Ok.ensures.taken (behind ps w.0) ((w.3 from ps has)).cut sorted)
            (λ tells base same. c.in-Ok.ensures.sealed tells base same),
      );
      table = inv.table ∙ sym table;
      port = reads_on g.P.Port _ _ _ inv.port (record {
        files = moves.port.files;
        reads = moves.port.no_fewer;
        steady = moves.port.steady;
        later = moves.port.later;
      });
      later = omega (arith, inv.later, c.push.ensures.later);
      grows = omega (arith, inv.grows, took, fits);
      gone = c.push.ensures.gone ∙ inv.gone;
      elsewhere = λ tells n outside.
          c.push.ensures.elsewhere tells n (outside_of c.each.pieces.numbers c.args.pieces.now.numbers
          (length c.args.keys.now) n inv.numbers outside)
          ∙ inv.elsewhere tells n outside;
      numbers = c.push.ensures.numbers ∙ inv.numbers;
      level = c.push.ensures.level ∙ inv.level;
      full = c.push.ensures.full ∙ inv.full;
    }

pub returns-in-Err-next-clause-bound : goal.returns-in-Err-next-clause-bound
returns-in-Err-next-clause-bound g c =
    λ from ps held has is.
    let cur = c.each.cursor in
    let inv = c.each.invariant in
    let w = inv.walk in
    let f = g.P.File.TableHandle in
    let e = entry_of c.in-Some.entry in
    let there = sym c.in-Some.ensures.lent in
    let a = work (told_by g.M.Maker f.tells c.each.maker) c.each.pieces c.args.keys.now in
    let b = work (told_by g.M.Maker f.tells c.push.new.maker) c.push.new.self c.args.keys.now in
    let here = subst (λ t. IsHeld f t held) inv.table is in
    let sorted = passed_sorted cur w.0 e w.1 there in
    let r = passed_front_of cur w.0 e w.1 there held here in
    bound_same (full_length c.args.pieces.now) (full_length c.push.new.self) c.args.pieces.now.numbers (c.push.new.self).numbers
    c.args.keys.now ps held from.taken _ (c.push.ensures.full ∙ inv.full) (c.push.ensures.numbers ∙ inv.numbers)
    (stays_within f from c.law_pieces.ensures.grows c.law_pieces.ensures.whole b ps (w.0 ++ e ∷ []) r.0 held
    (pushed_on f from c.law_pieces.ensures.grows a b ps w.0 e
    (record { tells = refl; keys = refl; numbers = c.push.ensures.numbers; full = c.push.ensures.full })
    (w.3 from ps has) sorted (c.in-Ok.ensures.cut (behind ps w.0) ((w.3 from ps has)).cut sorted)
    (c.in-Ok.ensures.taken (behind ps w.0) ((w.3 from ps has)).cut sorted)
    (λ tells base same. c.in-Ok.ensures.sealed tells base same))
    r.1 is.1.table.sorted)

pub returns-in-Err-next-clause-sound : goal.returns-in-Err-next-clause-sound
returns-in-Err-next-clause-sound g c =
    λ held is.
    let cur = c.each.cursor in
    let inv = c.each.invariant in
    let w = inv.walk in
    let f = g.P.File.TableHandle in
    let here = subst (λ t. IsHeld f t held) inv.table is in
    let stands = w.1.told held here in
    subst IsUndamaged (sym c.read_cause.ensures)
    (leads_undamaged (StandsIn c.next.new.self held) (next_place held stands.0) c.in-Err-next.fault (c.in-Err-next.ensures.goes held stands.0 stands.1))

pub returns-in-Err-next-clause-grows : goal.returns-in-Err-next-clause-grows
returns-in-Err-next-clause-grows g c =
    let cur = c.each.cursor in
    let inv = c.each.invariant in
    let w = inv.walk in
    let f = g.P.File.TableHandle in
    let e = entry_of c.in-Some.entry in
    let there = sym c.in-Some.ensures.lent in
    let sorted = passed_sorted cur w.0 e w.1 there in
    let took = c.in-Ok.ensures.taken (behind c.requires.cut.1 w.0)
    (w.3 c.requires.cut.0 c.requires.cut.1 c.requires.cut.2).cut sorted in
    let fits = g.met.M.Maker.taken_fits c.each.maker in
    omega (arith, inv.grows, took, fits)

pub returns-then-not-is_of-clause-bound : goal.returns-then-not-is_of-clause-bound
returns-then-not-is_of-clause-bound g c =
    λ from ps held has is.
    let cur = c.each.cursor in
    let inv = c.each.invariant in
    let w = inv.walk in
    let f = g.P.File.TableHandle in
    let a = work (told_by g.M.Maker f.tells c.each.maker) c.each.pieces c.args.keys.now in
    let here = subst (λ t. IsHeld f t held) inv.table is in
    let none : shown_by cur ≡ None = search rules in
    let all = passed_all cur w.0 w.1 none held here in
    bound_same (full_length c.args.pieces.now) (full_length c.each.pieces) c.args.pieces.now.numbers (c.each.pieces).numbers
    c.args.keys.now ps held from.taken _ inv.full inv.numbers
    (stays_within f from c.law_pieces.ensures.grows c.law_pieces.ensures.whole a ps w.0 [] held
    (w.3 from ps has) (append-nil w.0 ∙ all) is.1.table.sorted)

pub returns-then-not-is_of-clause-stopped : goal.returns-then-not-is_of-clause-stopped
returns-then-not-is_of-clause-stopped g c =
    let cur = c.each.cursor in
    let inv = c.each.invariant in
    let w = inv.walk in
    let f = g.P.File.TableHandle in
    let none : shown_by cur ≡ None = search rules in
    let were = all_passed f (table_of cur) (index_of cur) (page_of cur) w.0 cur.shown w.1.walks none in
    let row : c.row-2.result.now ≡ c.args.table.now.row = c.row-2.ensures in
    c.false_at_end-damage.ensures.damage (full_length c.args.pieces.now) c.args.keys.now w.0
    (subst (λ t. ReadInOrder f t (length t.items) w.0) (sym inv.table) were)
    (λ is. c.is_of.ensures.other c.if-not-is_of.true w.0 w.2
    (subst (λ (r : TableRow). IsCounted r w.0) (sym row) (counted c.args.table.now.row w.0 is)))

pub returns-then-not-is_of-clause-sound : goal.returns-then-not-is_of-clause-sound
returns-then-not-is_of-clause-sound g c =
    λ held is.
    let cur = c.each.cursor in
    let inv = c.each.invariant in
    let w = inv.walk in
    let f = g.P.File.TableHandle in
    let here = subst (λ t. IsHeld f t held) inv.table is in
    let none : shown_by cur ≡ None = search rules in
    let all = passed_all cur w.0 w.1 none held here in
    let row : c.row-2.result.now ≡ c.args.table.now.row = c.row-2.ensures in
    absurd (c.is_of.ensures.other c.if-not-is_of.true w.0 w.2
    (subst (λ (r : TableRow). IsCounted r w.0) (sym row) (counted c.args.table.now.row w.0
    (subst (IsRowOf c.args.table.now.row) (sym all) is.1.table.row_is))))

pub returns-clause-read : goal.returns-clause-read
returns-clause-read g c =
    let cur = c.each.cursor in
    let inv = c.each.invariant in
    let w = inv.walk in
    let f = g.P.File.TableHandle in
    let none : shown_by cur ≡ None = search rules in
    let row : c.row-2.result.now ≡ c.args.table.now.row = c.row-2.ensures in
    let same = subst (λ (r : TableRow). IsCounted r w.0) (row ∙ ap (λ t. t.row) inv.table)
    (c.is_of.ensures.same c.if-not-is_of.false w.0 w.2) in
    let blocks = subst (λ t. 0 < length t.items) inv.table c.false_at_end-damage.ensures.some in (
      w.0,
      subst (λ t. WasRead f t w.0) (sym inv.table) (was_read cur w.0 w.1 none blocks same),
      w.3,
    )
