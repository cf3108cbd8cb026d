use Rattle.std.proofs.Common.{◌≡◌, ◌∙◌, Some, List, subst, sym}
use Rattle.std.specs.List.{AllZip}
use Rattle.object_table.specs.declared.object_site.ObjectSite.{ObjectSite}
use Rattle.object_table.specs.declared.row.Row.{Row}
use Rattle.state_codec.specs.SnapshotLaws.{HasRow}
use Rattle.state_codec.specs.SnapshotSteps.{each_at, row_at}
use Rattle.state_codec.proofs.TablesRead.{rows_ascend, rows_are, rows_have}
use Rattle.state_codec.proofs.reading_state.take_table.Goals as goal

pub restore-requires-clause-ascending : goal.restore-requires-clause-ascending
restore-requires-clause-ascending c =
    rows_ascend c.args.site.now c.requires.site c.args.bytes.now.now c.octets_fit.ensures.below c.in_ok-rows.rows.items c.take_rows.new.bytes.now
    (subst (λ (sites : List ObjectSite). each_at row_at sites c.args.bytes.now.now ≡ Some (c.in_ok-rows.rows.items, c.take_rows.new.bytes.now)) (c.in_ok-sites.ensures.same ∙ c.as_slice.ensures.same) c.in_ok-rows.ensures.exact)

pub restore-requires-clause-allowed : goal.restore-requires-clause-allowed
restore-requires-clause-allowed c =
    rows_are c.args.site.now c.requires.site c.args.bytes.now.now c.octets_fit.ensures.below c.in_ok-rows.rows.items c.take_rows.new.bytes.now
    (subst (λ (sites : List ObjectSite). each_at row_at sites c.args.bytes.now.now ≡ Some (c.in_ok-rows.rows.items, c.take_rows.new.bytes.now)) (c.in_ok-sites.ensures.same ∙ c.as_slice.ensures.same) c.in_ok-rows.ensures.exact)

pub returns-clause-own : goal.returns-clause-own
returns-clause-own c =
    subst (λ (rows : List Row). AllZip HasRow c.args.site.now.objects rows) (sym c.restore.ensures.rows)
    (rows_have c.args.site.now c.requires.site c.args.bytes.now.now c.octets_fit.ensures.below c.in_ok-rows.rows.items c.take_rows.new.bytes.now
    (subst (λ (sites : List ObjectSite). each_at row_at sites c.args.bytes.now.now ≡ Some (c.in_ok-rows.rows.items, c.take_rows.new.bytes.now)) (c.in_ok-sites.ensures.same ∙ c.as_slice.ensures.same) c.in_ok-rows.ensures.exact))
