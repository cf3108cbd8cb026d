-- The items of the sections: a key that an item doesn't have is its first fault.
use Rattle.std.specs.Prelude.{Result}
use Rattle.toml.specs.Data.{Members}
use Rattle.enrollment.specs.declared.enrollment_site.EnrollmentSite.{EnrollmentSite}
use Rattle.event_log.specs.declared.log_site.LogSite.{LogSite}
use Rattle.object_table.specs.declared.object_site.ObjectSite.{ObjectSite}
use Rattle.site_config.specs.declared.binding_item.BindingItem.{BindingItem}
use Rattle.site_config.specs.declared.class.ClassItem.{ClassItem}
use Rattle.site_config.specs.declared.destination.DestinationSite.{DestinationSite}
use Rattle.toml_items.specs.declared.item_fault.ItemFault.{ItemFault}
use Rattle.site_config.specs.declared.keys.Keys.TheVariants as keys
use Rattle.site_config.specs.Bindings.{binding_of}
use Rattle.site_config.specs.Classes.{class_of}
use Rattle.site_config.specs.Destinations.{destination_of}
use Rattle.site_config.specs.Enrollments.{keys_of_enrollment, enrollment_of}
use Rattle.site_config.specs.Keys.{has_key}
use Rattle.site_config.specs.Logs.{log_of}
use Rattle.toml_items.specs.Members.{with_keys}
use Rattle.site_config.specs.Objects.{keys_of_object, object_of}

abbrev pub class_item : Members → Result ClassItem ItemFault
class_item ms = with_keys (has_key keys.Class) class_of ms

abbrev pub destination_item : Members → Result DestinationSite ItemFault
destination_item ms = with_keys (has_key keys.Destination) destination_of ms

abbrev pub object_item : Members → Result ObjectSite ItemFault
object_item ms = with_keys (has_key (keys_of_object ms)) object_of ms

abbrev pub enrollment_item : Members → Result EnrollmentSite ItemFault
enrollment_item ms = with_keys (has_key (keys_of_enrollment ms)) enrollment_of ms

abbrev pub log_item : Members → Result LogSite ItemFault
log_item ms = with_keys (has_key keys.Log) log_of ms

abbrev pub binding_item : Members → Result BindingItem ItemFault
binding_item ms = with_keys (has_key keys.Binding) binding_of ms
