use Rattle.std.proofs.Common.{rules, ◌≡◌, ◌∙◌, ℕ, true, false, true≢false, Option, Some, None, is_none, refl, sym}
use Rattle.std.specs.Option.{option_map}
use Rattle.object_table.specs.Rows.{is_object, row_of}
use Rattle.enrollment.specs.Enrollments.{site_of}
use Rattle.alarm_core.specs.Devices.{device_object}
use Rattle.alarm_core.specs.Logs.{kept_log}
use Rattle.alarm_core.proofs.ListShown.{shows_all}
use Rattle.alarm_core.proofs.state.Core.is_object_list.Goals as goal

none_found : {X Y : Type 0} (f : X → Y) (x : Option X) → is_none x ≡ true → option_map f x ≡ None
none_found f None e = refl
none_found f (Some x) e = absurd (true≢false (sym e))

pub returns : goal.returns
returns c =
    let state = c.args.self.now in
    let object = c.args.object in
    let number : c.args.property.0 ≡ 76 = search rules in
    let device : is_object object (device_object state.site) ≡ true = search rules in
    let no_enrollment : site_of object state.values.enrollments ≡ None = search rules in
    let no_row : row_of object state.values.rows ≡ None = search rules in
    record {
      list = λ none.
          let nothing : is_none c.kept_log.result ≡ true = search rules in
          let no_log : kept_log object state.logs ≡ None = search rules in
          shows_all state object c.args.property.0 number device no_enrollment no_row no_log;
    }
