use Rattle.std.proofs.Common.{◌≡◌, ◌≤◌, ◌∙◌, ℕ, List, Some, refl, sym, subst}
use Rattle.table_file.specs.Form.{table_bytes}
use Rattle.table_cursor.specs.Trips.{TellsDamage, TellsOf, LimitsTrip}
use Rattle.table_cursor.proofs.Tripping.{opened_over, damage_opening, short_index, same_bytes, opening_unlimited, opening_told, damage_within, none_told, gone_or_there}
use Rattle.table_cursor.proofs.trips.walk_row.Goals as goal

pub returns-in-Err-clause-undamaged : goal.returns-in-Err-clause-undamaged
returns-in-Err-clause-undamaged g c = λ full es told w there tells.
    let row = c.args.row in
    let damage = damage_opening c.in-Err.why (subst TellsDamage c.from.ensures tells) in
    let none = c.in-Err.ensures.damaged damage told (table_bytes full row.number es) there in
    none _ _ (c.written_opens.ensures row full row.number es w.least w.most w.sorted w.row_is.some w.few (short_index _ w.short) refl w.row_is.entries w.row_bytes)

pub returns-clause-told : goal.returns-clause-told
returns-clause-told g c = λ full es told w found.
    let table = c.in-Ok.table in
    let opened = c.in-Ok.ensures in
    let bytes = found (g.P.File.TableHandle.bytes table.file) (opened.found told) in
    c.walk_table.ensures.told es told
    (c.law_holds.ensures.opened table full es (opened_over g.P.File.TableHandle table c.args.row full es w opened.row opened.number bytes (opened.opened told)))

pub returns-clause-undamaged : goal.returns-clause-undamaged
returns-clause-undamaged g c = λ full es told w there.
    let table = c.in-Ok.table in
    let opened = c.in-Ok.ensures in
    let bytes = same_bytes _ _ (sym (opened.found told) ∙ there) in
    c.walk_table.ensures.undamaged es told
    (c.law_holds.ensures.opened table full es (opened_over g.P.File.TableHandle table c.args.row full es w opened.row opened.number bytes (opened.opened told)))

pub returns-in-Err-clause-unlimited : goal.returns-in-Err-clause-unlimited
returns-in-Err-clause-unlimited g c = λ full es. subst (LimitsTrip full es) (sym c.from.ensures) (opening_unlimited full es c.in-Err.why)

pub returns-in-Err-clause-within : goal.returns-in-Err-clause-within
returns-in-Err-clause-within g c =
    let row = c.args.row in
    subst (TellsOf (λ number at. at ≤ row.bytes)) (sym c.from.ensures)
    (opening_told (λ at. at ≤ row.bytes) (λ number at. at ≤ row.bytes) c.in-Err.why
    (λ number at within. within) c.in-Err.ensures.by_row)

pub returns-clause-within : goal.returns-clause-within
returns-clause-within g c =
    damage_within g.P.File.TableHandle c.in-Ok.table c.args.row _ c.in-Ok.ensures.fits
    c.walk_table.ensures.damage

pub returns-in-Err-clause-absent : goal.returns-in-Err-clause-absent
returns-in-Err-clause-absent g c = λ full es told w found.
    let row = c.args.row in
    let none : (bytes : List ℕ)
    → (g.P.Port.table_files c.args.port).sealed row.number ≡ Some bytes
    → TellsDamage c.from.result → ⊥ = λ bytes there tells.
    c.in-Err.ensures.damaged (damage_opening c.in-Err.why (subst TellsDamage c.from.ensures tells))
    told (table_bytes full row.number es)
    (subst (λ l. (g.P.Port.table_files c.args.port).sealed row.number ≡ Some l)
    (found bytes there) there) _ _
    (c.written_opens.ensures row full row.number es w.least w.most w.sorted w.row_is.some w.few
    (short_index _ w.short) refl w.row_is.entries w.row_bytes) in
    gone_or_there ((g.P.Port.table_files c.args.port).sealed row.number) c.from.result none
    (λ gone. subst (TellsOf (λ number at. at ≡ 0)) (sym c.from.ensures)
    (opening_told (λ at. at ≡ 0) (λ number at. at ≡ 0) c.in-Err.why (λ number at is. is)
    (c.in-Err.ensures.absent told gone)))

pub returns-clause-absent : goal.returns-clause-absent
returns-clause-absent g c = λ full es told w found.
    let table = c.in-Ok.table in
    let opened = c.in-Ok.ensures in
    let bytes = found (g.P.File.TableHandle.bytes table.file) (opened.found told) in
    none_told _ (λ number at. at ≡ 0) (c.walk_table.ensures.undamaged es told
    (c.law_holds.ensures.opened table full es
    (opened_over g.P.File.TableHandle table c.args.row full es w opened.row opened.number bytes
    (opened.opened told))))
