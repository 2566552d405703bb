-- `map_check::map::check_event` meets its contract. Assumes nothing.
use mathlib.Core.Path.{refl, sym}
use Rattle.map_check.proofs.MapLaws.Links.{columned, fielded, too_many, columns_refuse, fields_refuse, keys_refuse, keys_pass, takes}
use Rattle.map_check.proofs.Handed.{handed_on}
use Rattle.map_check.proofs.map.check_event.Goals as goal

pub returns-then-types-gt-MOST_COLUMNS : goal.returns-then-types-gt-MOST_COLUMNS
returns-then-types-gt-MOST_COLUMNS c =
    let a = c.args in
    rw (too_many a.dialect a.event.now a.e _ c.part_of-types.ensures c.if-types-gt-MOST_COLUMNS.true, c.refuse.ensures)
    (record { result_value = refl; buf_after = refl })

pub returns-in_err-sizes : goal.returns-in_err-sizes
returns-in_err-sizes c =
    let a = c.args in
    rw (
      columns_refuse a.dialect a.event.now a.e _ _ _ c.part_of-types.ensures c.part_of-metadata.ensures
          c.if-types-gt-MOST_COLUMNS.false
          (sym c.in_err-sizes.ensures),
      handed_on c.from_residual.ensures.1,
    )
    (record { result_value = refl; buf_after = refl })

pub returns-in_err-kept : goal.returns-in_err-kept
returns-in_err-kept c =
    let a = c.args in
    let columns =
    columned a.dialect a.event.now a.e _ _ _ c.part_of-types.ensures c.part_of-metadata.ensures c.if-types-gt-MOST_COLUMNS.false
    (sym c.in_ok-sizes.ensures) in
    rw (
      fields_refuse _ _ columns c.new-fields.ensures (sym c.in_err-kept.ensures),
      handed_on c.from_residual-in_err-kept.ensures.1,
    )
    (record { result_value = refl; buf_after = refl })

pub returns-in_err-keys_checked : goal.returns-in_err-keys_checked
returns-in_err-keys_checked c =
    let a = c.args in
    let columns =
    columned a.dialect a.event.now a.e _ _ _ c.part_of-types.ensures c.part_of-metadata.ensures c.if-types-gt-MOST_COLUMNS.false
    (sym c.in_ok-sizes.ensures) in
    let fields = fielded columns c.new-fields.ensures (sym c.in_ok-kept.ensures) in
    rw (keys_refuse _ fields (sym c.in_err-keys_checked.ensures), handed_on c.from_residual-in_err-keys_checked.ensures.1)
    (record { result_value = refl; buf_after = refl })

pub write_record-requires : goal.write_record-requires
write_record-requires c =
    let a = c.args in
    let columns =
    columned a.dialect a.event.now a.e _ _ _ c.part_of-types.ensures c.part_of-metadata.ensures c.if-types-gt-MOST_COLUMNS.false
    (sym c.in_ok-sizes.ensures) in
    takes (fielded columns c.new-fields.ensures (sym c.in_ok-kept.ensures))

pub returns : goal.returns
returns c =
    let a = c.args in
    let columns =
    columned a.dialect a.event.now a.e _ _ _ c.part_of-types.ensures c.part_of-metadata.ensures c.if-types-gt-MOST_COLUMNS.false
    (sym c.in_ok-sizes.ensures) in
    let fields = fielded columns c.new-fields.ensures (sym c.in_ok-kept.ensures) in
    rw (keys_pass fields (sym c.in_ok-keys_checked.ensures))
    (record { result_value = c.write_record.ensures.result_value; buf_after = c.write_record.ensures.buf_after })
