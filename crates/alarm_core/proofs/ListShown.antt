-- The Object_List of a site's device, whose identifier is that of no other object.
use Rattle.std.proofs.Common.{◌≡◌, ◌∙◌, ℕ, Bool, true, if◌then◌else◌, None, Ok, map, ap}
use Rattle.bac_values.specs.Identifier.{ObjectIdData}
use Rattle.bac_values.specs.Properties.{object_list_property}
use Rattle.bac_tags.specs.Writing.{written_object}
use Rattle.object_table.specs.Rows.{is_object, row_of}
use Rattle.enrollment.specs.Enrollments.{site_of}
use Rattle.property_values.specs.declared.content.Content.TheVariants.{Elements}
use Rattle.property_values.specs.DeviceProperties.{device_content, object_list, property_of}
use Rattle.alarm_core.specs.Contents.{class_or_other, content_by, content_of}
use Rattle.alarm_core.specs.Devices.{device_object, identifiers_of, listed_class}
use Rattle.alarm_core.specs.Logs.{kept_log}
use Rattle.alarm_core.specs.State.{CoreState}

pub shows_all : (state : CoreState) (object : ObjectIdData) (number : ℕ) → number ≡ object_list_property → is_object object (device_object state.site) ≡ true →
    site_of object state.values.enrollments ≡ None → row_of object state.values.rows ≡ None → kept_log object state.logs ≡ None →
    content_of state object number ≡ Ok (Elements (map (written_object None) (object_list (identifiers_of state.site))))
unfolding property_of
shows_all state object number list device no_enrollment no_row no_log =
    (λ k. content_by state object number (no_enrollment k) (no_row k) (no_log k))
    ∙ (ap (λ (b : Bool). if b then device_content state.site.device (identifiers_of state.site) number else class_or_other state.site state.classes object number (listed_class object state.site.classes)) device
    ∙ ap (device_content state.site.device (identifiers_of state.site)) list)
