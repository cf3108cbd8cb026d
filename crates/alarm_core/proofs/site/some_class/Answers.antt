use Rattle.std.proofs.Common.{◌∙◌, sym, ap}
use Rattle.std.specs.Option.{is_some}
use Rattle.notify_class.specs.declared.class_site.ClassSite.{ClassSite}
use Rattle.object_table.specs.Rows.{is_object}
use Rattle.alarm_core.specs.Devices.{class_object}
use Rattle.alarm_core.proofs.Halving.{found_any, some_copied}
use Rattle.alarm_core.proofs.site.some_class.Goals as goal

pub returns : goal.returns
returns c = record {
  some = c.is_some.ensures
      ∙ (sym (some_copied c.listed_class.result)
      ∙ (ap is_some c.listed_class.ensures.class
      ∙ found_any (λ (listed : ClassSite). is_object c.args.object (class_object listed)) c.args.classes.now));
}
