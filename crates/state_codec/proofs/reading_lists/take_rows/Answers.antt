use Rattle.std.proofs.Common.{rules, ◌≡◌, ◌++◌, ◌∷◌, [], length}
use Rattle.std.proofs.lemmas.List.{nil_from_length}
use Rattle.std.proofs.lemmas.Result.{err_from_is_err_and}
use Rattle.object_table.specs.declared.object_site.ObjectSite.{ObjectSite}
use Rattle.state_codec.specs.SnapshotSteps.{each_at, row_at}
use Rattle.state_codec.proofs.Loops.{each_goes_on, each_ends, each_is_done}
use Rattle.state_codec.proofs.reading_lists.take_rows.Goals as goal

pub returns-in_err-row : goal.returns-in_err-row
returns-in_err-row c =
    let it : ObjectSite = c.in-Some.site in
    let split : c.loop-site.left.rest.items ≡ it ∷ c.next.new.self.rest.items = c.in-Some.ensures.items in
    let p = err_from_is_err_and c.from_residual.result c.from_residual.ensures.1 in
    record { exact = rw (p.1, p.2) (each_ends row_at c.in_err-row.field-0.0 c.loop-site.rows.items c.loop-site.left.rest.items it c.next.new.self.rest.items c.loop-site.bytes.now (each_at row_at c.args.sites.items c.args.bytes.now.now) split c.in_err-row.ensures.exact c.loop-site.invariant) }

pub loop-site-preserved : goal.loop-site-preserved
loop-site-preserved c =
    let it : ObjectSite = c.in-Some.site in
    let split : c.loop-site.left.rest.items ≡ it ∷ c.next.new.self.rest.items = c.in-Some.ensures.items in
    let e : c.push.new.items.items ≡ c.loop-site.rows.items ++ c.in_ok-row.row ∷ [] = c.in_ok-push.ensures.added in
    rw e (each_goes_on row_at c.loop-site.rows.items c.loop-site.left.rest.items it c.next.new.self.rest.items c.loop-site.bytes.now c.in_ok-row.row c.take_row.new.bytes.now (each_at row_at c.args.sites.items c.args.bytes.now.now) split c.in_ok-row.ensures.exact c.loop-site.invariant)

pub returns : goal.returns
returns c =
    let empty : length c.loop-site.left.rest.items ≡ 0 = search rules in
    let none : c.loop-site.left.rest.items ≡ [] = nil_from_length c.loop-site.left.rest.items empty in
    record { exact = each_is_done row_at c.loop-site.rows.items c.loop-site.left.rest.items c.loop-site.bytes.now (each_at row_at c.args.sites.items c.args.bytes.now.now) none c.loop-site.invariant }
