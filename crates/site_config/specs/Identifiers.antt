-- The identifiers of a site, and the least of some.
use Rattle.std.specs.Prelude.{nat_lt, Bool, Option, Some, None, List, ◌++◌, map, filter, fold, count_by, if◌then◌else◌}
use Rattle.std.specs.Ordering.{is_lt}
use Rattle.bac_values.specs.Identifier.{ObjectIdData}
use Rattle.bac_values.specs.Orders.{identifier_order}
use Rattle.enrollment.specs.declared.enrollment_site.EnrollmentSite.{EnrollmentSite}
use Rattle.event_log.specs.declared.log_site.LogSite.{LogSite}
use Rattle.object_table.specs.Rows.{is_object}
use Rattle.object_table.specs.declared.object_site.ObjectSite.{ObjectSite}
use Rattle.site_config.specs.declared.binding_item.BindingItem.{BindingItem}
use Rattle.site_config.specs.declared.class.ClassItem.{ClassItem}
use Rattle.site_config.specs.declared.draft.Draft.{Draft}

abbrev pub id_of_class : ClassItem → ObjectIdData
id_of_class item = item.object

abbrev pub id_of_object : ObjectSite → ObjectIdData
id_of_object site = site.object

abbrev pub id_of_enrollment : EnrollmentSite → ObjectIdData
id_of_enrollment site = site.object

abbrev pub id_of_log : LogSite → ObjectIdData
id_of_log site = site.object

-- that of a device that is bound
abbrev pub id_of_binding : BindingItem → ObjectIdData
id_of_binding item = item.object

-- every identifier of the site but the device's own, as often as it is given; a binding gives that of a device
abbrev pub identifiers : Draft → List ObjectIdData
identifiers draft = map id_of_class draft.classes ++ map id_of_object draft.objects ++ map id_of_enrollment draft.enrollments ++ map id_of_log draft.logs ++ map id_of_binding draft.bindings

-- the lesser one, by number and then by instance
abbrev pub lesser : Option ObjectIdData → ObjectIdData → Option ObjectIdData
lesser None object = Some object
lesser (Some least) object = if is_lt (identifier_order object least) then Some object else Some least

-- the least of these and of one that was found before
abbrev pub least_with : Option ObjectIdData → List ObjectIdData → Option ObjectIdData
least_with found objects = fold lesser found objects

-- the least that is given twice
abbrev pub is_twice : List ObjectIdData → ObjectIdData → Bool
is_twice objects object = nat_lt 1 (count_by (is_object object) objects)

abbrev pub least_twice : List ObjectIdData → Option ObjectIdData
least_twice objects = least_with None (filter (is_twice objects) objects)
