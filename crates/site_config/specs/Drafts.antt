-- What the sections of a document say, in the order of the text.
use Rattle.std.specs.Prelude.{Result, Ok}
use Rattle.toml.specs.Data.{Members}
use Rattle.site_config.specs.declared.draft.Draft.{Draft}
use Rattle.site_config.specs.declared.fault.Section.TheVariants.{Class, Destination, Object, Enrollment, Log, Binding}
use Rattle.site_config.specs.declared.fault.SiteFault.{SiteFault}
use Rattle.toml_items.specs.Answers.{◌>>=◌}
use Rattle.site_config.specs.Items.{class_item, destination_item, object_item, enrollment_item, log_item, binding_item}
use Rattle.site_config.specs.Sections.{device_section, section_of}

unfoldable pub draft_of : Members → Result Draft SiteFault
draft_of document = do
  device ← device_section document
  classes ← section_of class_item Class document
  destinations ← section_of destination_item Destination document
  objects ← section_of object_item Object document
  enrollments ← section_of enrollment_item Enrollment document
  logs ← section_of log_item Log document
  bindings ← section_of binding_item Binding document
  Ok (record { device = device; classes = classes; destinations = destinations; objects = objects; enrollments = enrollments; logs = logs; bindings = bindings })
