-- The identifiers of a device and of notification classes.
use Rattle.std.specs.Prelude.{◌≤◌}
use Rattle.bac_values.specs.Identifier.{number_of_kind, ObjectIdData}
use Rattle.bac_values.specs.declared.object_kind.ObjectKind.TheVariants.{Device, NotificationClass}
use Rattle.notify_class.specs.declared.class_site.ClassSite.{ClassSite}
use Rattle.property_values.specs.declared.device_site.DeviceSite.{DeviceSite}

abbrev pub object_of_device : DeviceSite → ObjectIdData
object_of_device device = record { number = number_of_kind Device; instance = device.instance }

abbrev pub class_object : ClassSite → ObjectIdData
class_object listed = record { number = number_of_kind NotificationClass; instance = listed.class.instance }

-- the instance of a class is one that an object can have
abbrev pub HasInstance : ClassSite → Type 0
HasInstance listed = listed.class.instance ≤ 4194302
