use Rattle.std.proofs.Common.{rules, ◌≡◌}
use Rattle.object_table.specs.Rows.{rows_of}
use Rattle.enrollment.specs.References.{enrollments_of}
use Rattle.enrollment.proofs.Referrers.{known_at_first}
use Rattle.alarm_core.proofs.initial_state.first_objects.Goals as goal

pub new-objects-requires : goal.new-objects-requires
new-objects-requires c =
    let site = c.args.site.now in
    let known : c.in_ok-enrollments.enrollments ≡ enrollments_of site.objects site.enrollments = search rules in
    let first : c.in_ok-table.table ≡ rows_of site.objects = search rules in
    record { watchers = known_at_first site.objects site.enrollments c.in_ok-enrollments.enrollments c.in_ok-table.table known first }
