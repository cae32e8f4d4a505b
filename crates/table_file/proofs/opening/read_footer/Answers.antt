use Rattle.std.proofs.Common.{◌≡◌, ◌≢◌, ◌-◌, ◌∙◌, length, take, drop, ap, sym, arith, length-drop}
use Rattle.std.specs.Prelude.{min}
use Rattle.table_file.specs.Damages.{IsPlaceOfDamage}
use Rattle.table_file.proofs.Openings.{tail_long, whole_tail}
use Rattle.table_file.proofs.Placing.{length_place, tail_count, footer_place, told_on}
use Rattle.table_file.proofs.Spelled.{length-footer}
use Rattle.table_file.proofs.opening.read_footer.Goals as goal

pub returns-then-bytes-ne48-clause-damaged : goal.returns-then-bytes-ne48-clause-damaged
returns-then-bytes-ne48-clause-damaged g c = λ damage told items filter o.
    let read = c.as_slice-bytes.ensures.value ∙ c.in-Ok.ensures.bytes told in
    c.if-bytes-ne48.true (ap length (read ∙ tail_long c.args.row.now items filter _ o) ∙ length-footer o.footer)

pub returns-in-Some-clause-long : goal.returns-in-Some-clause-long
returns-in-Some-clause-long g c = λ told.
    let bytes = g.P.File.TableHandle.bytes c.args.file.now in
    let tail = drop (c.args.row.now.bytes - 48) bytes in
    let read = c.as_slice-bytes.ensures.value ∙ c.in-Ok.ensures.bytes told in
    let whole : take 49 tail ≡ tail = whole_tail 48 tail (ap length (sym read) ∙ c.if-bytes-ne48.false) in
    omega (arith, c.requires, ap length read, c.if-bytes-ne48.false, ap length whole, length-drop (c.args.row.now.bytes - 48) bytes)

pub returns-in-Some-clause-spelled : goal.returns-in-Some-clause-spelled
returns-in-Some-clause-spelled g c = λ told.
    let tail = drop (c.args.row.now.bytes - 48) (g.P.File.TableHandle.bytes c.args.file.now) in
    let read = c.as_slice-bytes.ensures.value ∙ c.in-Ok.ensures.bytes told in
    sym (whole_tail 48 tail (ap length (sym read) ∙ c.if-bytes-ne48.false)) ∙ sym read ∙ c.in-Some.ensures.spelled

pub returns-clause-damaged : goal.returns-clause-damaged
returns-clause-damaged g c = λ damage told items filter o.
    let read = c.as_slice-bytes.ensures.value ∙ c.in-Ok.ensures.bytes told in
    c.in-None.ensures.none o.footer o.agrees (read ∙ tail_long c.args.row.now items filter _ o)

pub returns-then-bytes-ne48-clause-place : goal.returns-then-bytes-ne48-clause-place
returns-then-bytes-ne48-clause-place g c = λ told.
    let read = c.as_slice-bytes.ensures.value ∙ c.in-Ok.ensures.bytes told in
    let row = c.args.row.now in
    let bytes = g.P.File.TableHandle.bytes c.args.file.now in
    let count = tail_count row bytes c.as_slice-bytes.result.now read in
    let other : length bytes ≢ row.bytes = λ long. c.if-bytes-ne48.true (omega (arith, count, long, c.requires)) in
    told_on (λ at. at ≡ min (length bytes) row.bytes) (IsPlaceOfDamage row bytes) c.length_fault.result
    (λ at is. length_place row bytes at other is) (c.length_fault.ensures.place told count)

pub returns-clause-place : goal.returns-clause-place
returns-clause-place g c = λ told.
    let bytes = g.P.File.TableHandle.bytes c.args.file.now in
    let tail = drop (c.args.row.now.bytes - 48) bytes in
    let read = c.as_slice-bytes.ensures.value ∙ c.in-Ok.ensures.bytes told in
    let whole : take 49 tail ≡ tail = whole_tail 48 tail (ap length (sym read) ∙ c.if-bytes-ne48.false) in
    let long : length bytes ≡ c.args.row.now.bytes =
    omega (arith, c.requires, ap length read, c.if-bytes-ne48.false, ap length whole, length-drop (c.args.row.now.bytes - 48) bytes) in
    footer_place c.args.row.now bytes c.as_slice-bytes.result.now c.requires long (read ∙ whole) c.in-None.ensures.none

pub returns-clause-by_row : goal.returns-clause-by_row
returns-clause-by_row g c = omega arith
