use Rattle.std.proofs.Common.{rules, ◌≡◌, ◌+◌, ◌++◌, sym, ◌∙◌, arith, drop}
use Rattle.std.specs.List.{flat_map}
use Rattle.bac_values.specs.declared.alarm_row.AlarmRow.{AlarmRow}
use Rattle.summaries.specs.Summaries.{enrollment_with}
use Rattle.summaries.proofs.Rows.{all_told, has_none, has_room, one_told, row_next}
use Rattle.summaries.proofs.enrollments.enrollment_summary.Goals as goal

pub returns-then-len-room : goal.returns-then-len-room
returns-then-len-room g c =
    let rows = g.C.Shown.rows c.args.shown.now in
    let classes = g.C.Shown.class_of c.args.shown.now in
    let filter = c.args.filter.now in
    let row = c.in-Some.row in
    let found = sym c.alarm_row.ensures.row ∙ c.in-Some.is in
    let more : c.write_with.new.out.items ≡ c.loop-row.out.items ++ enrollment_with filter row (classes row.class) = search rules in
    let told = one_told (λ (row : AlarmRow). enrollment_with filter row (classes row.class)) rows c.loop-row.place row _ _ found more c.loop-row.invariant.told in
    record { summary = has_none c.args.room c.write_with.new.out.items (flat_map (λ (row : AlarmRow). enrollment_with filter row (classes row.class)) (drop (c.loop-row.place + 1) rows)) (flat_map (λ (row : AlarmRow). enrollment_with filter row (classes row.class)) rows) told (search rules) }

pub overflow_add-place : goal.overflow_add-place
overflow_add-place g c =
    let rows = g.C.Shown.rows c.args.shown.now in
    let found = sym c.alarm_row.ensures.row ∙ c.in-Some.is in
    let here = (row_next rows c.loop-row.place c.in-Some.row found).0 in
    omega (arith, here, c.alarm_row.ensures.few)

pub loop-row-smaller : goal.loop-row-smaller
loop-row-smaller g c =
    let rows = g.C.Shown.rows c.args.shown.now in
    let found = sym c.alarm_row.ensures.row ∙ c.in-Some.is in
    let here = (row_next rows c.loop-row.place c.in-Some.row found).0 in
    omega (arith, here)

pub loop-row-preserved : goal.loop-row-preserved
loop-row-preserved g c =
    let rows = g.C.Shown.rows c.args.shown.now in
    let classes = g.C.Shown.class_of c.args.shown.now in
    let filter = c.args.filter.now in
    let row = c.in-Some.row in
    let found = sym c.alarm_row.ensures.row ∙ c.in-Some.is in
    let more : c.write_with.new.out.items ≡ c.loop-row.out.items ++ enrollment_with filter row (classes row.class) = search rules in
    let here = (row_next rows c.loop-row.place row found).0 in
    record {
      within = omega (arith, here);
      told = one_told (λ (row : AlarmRow). enrollment_with filter row (classes row.class)) rows c.loop-row.place row _ _ found more c.loop-row.invariant.told;
      fits = search rules;
    }

pub returns : goal.returns
returns g c =
    let rows = g.C.Shown.rows c.args.shown.now in
    let classes = g.C.Shown.class_of c.args.shown.now in
    let filter = c.args.filter.now in
    let all = all_told (λ (row : AlarmRow). enrollment_with filter row (classes row.class)) rows c.loop-row.place _ (sym c.alarm_row.ensures.row ∙ c.in_default.is) c.loop-row.invariant.told in
    record { summary = has_room c.args.room _ _ all c.loop-row.invariant.fits }
