-- No object has more than 32 alarm values.
use Rattle.std.proofs.Common.{ℕ, ◌≤◌, Option, Some, None, length, ap, arith, List}
use Rattle.bac_values.specs.declared.object_kind.ObjectKind.{ObjectKind}
use Rattle.bac_values.specs.declared.value.Value.{Value}
use Rattle.object_table.specs.Objects.{IsObject, KeepsAlarmKeys}
use Rattle.object_table.specs.Properties.{kind_in}
use Rattle.object_table.specs.declared.object_site.ObjectSite.{ObjectSite}

few_of : (kind : Option ObjectKind) (class : Option ℕ) (site : ObjectSite) → KeepsAlarmKeys kind class site → length site.alarm_values ≤ 32
few_of kind (Some class) site keeps = keeps.few
few_of kind None site keeps = omega (arith, ap (λ (values : List Value). length values) keeps.alarm_values)

pub few_values : (site : ObjectSite) → IsObject site → length site.alarm_values ≤ 32
few_values site is = few_of (kind_in site) site.class site is.alarm
