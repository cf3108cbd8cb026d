-- The properties of devices, and what is read of them (ANSI/ASHRAE 135-2020, 12.11).
use Rattle.std.specs.Prelude.{ℕ, ◌==◌, Option, Some, None, Result, Ok, Err, List, [], ◌∷◌, map, filter, find}
use Rattle.std.specs.List.{flat_map}
use Rattle.bac_values.specs.Identifier.{known_kinds, number_of_kind, ObjectIdData}
use Rattle.bac_values.specs.Properties.{max_apdu_length_accepted_property, object_identifier_property, object_list_property, object_name_property, object_type_property, segmentation_supported_property, vendor_identifier_property}
use Rattle.bac_values.specs.Services.{longest_apdu, no_segmentation}
use Rattle.bac_values.specs.declared.object_kind.ObjectKind.TheVariants.{Device}
use Rattle.bac_values.specs.declared.value.Value.TheVariants as values
use Rattle.bac_tags.specs.Writing.{written_object}
use Rattle.property_values.specs.declared.content.Content.{Content}
use Rattle.property_values.specs.declared.content.Content.TheVariants.{Elements}
use Rattle.property_values.specs.declared.content.ReadFault.{ReadFault}
use Rattle.property_values.specs.declared.device_site.DeviceSite.{DeviceSite}
use Rattle.property_values.specs.declared.device_properties.DeviceProperty.{DeviceProperty}
use Rattle.property_values.specs.declared.device_properties.DeviceProperty.TheVariants.{ObjectIdentifier, ObjectName, ObjectType, ObjectList, MaxApduLengthAccepted, SegmentationSupported, VendorIdentifier}
use Rattle.property_values.specs.Devices.{object_of_device}
use Rattle.property_values.specs.Properties.{one, unknown_property}

-- the number of each property
abbrev pub number_of_property : DeviceProperty → ℕ
number_of_property ObjectIdentifier = object_identifier_property
number_of_property ObjectName = object_name_property
number_of_property ObjectType = object_type_property
number_of_property ObjectList = object_list_property
number_of_property MaxApduLengthAccepted = max_apdu_length_accepted_property
number_of_property SegmentationSupported = segmentation_supported_property
number_of_property VendorIdentifier = vendor_identifier_property

abbrev pub device_properties : List DeviceProperty
device_properties =
    ObjectIdentifier ∷ ObjectName ∷ ObjectType ∷ ObjectList ∷ MaxApduLengthAccepted ∷ SegmentationSupported ∷ VendorIdentifier ∷ []

-- the property with a number
unfoldable pub property_of : ℕ → Option DeviceProperty
property_of number = find (λ property. number_of_property property == number) device_properties

-- Object_List (12.11): type by type, by the numbers of the types
abbrev pub object_list : List ObjectIdData → List ObjectIdData
object_list identifiers = flat_map (λ kind. filter (λ (object : ObjectIdData). object.number == number_of_kind kind) identifiers) known_kinds

-- what a property of a device is, whose site has the objects with these identifiers: it takes and sends no segments
abbrev pub device_property : DeviceSite → List ObjectIdData → DeviceProperty → Content
device_property device identifiers ObjectIdentifier = one (values.Object (object_of_device device))
device_property device identifiers ObjectName = one (values.Text device.name)
device_property device identifiers ObjectType = one (values.Enumerated (number_of_kind Device))
device_property device identifiers ObjectList = Elements (map (written_object None) (object_list identifiers))
device_property device identifiers MaxApduLengthAccepted = one (values.Unsigned longest_apdu)
device_property device identifiers SegmentationSupported = one (values.Enumerated no_segmentation)
device_property device identifiers VendorIdentifier = one (values.Unsigned device.vendor)

abbrev pub known_device_content : DeviceSite → List ObjectIdData → Option DeviceProperty → Result Content ReadFault
known_device_content device identifiers (Some property) = Ok (device_property device identifiers property)
known_device_content device identifiers None = Err unknown_property

-- the property with a number, or that there is none
abbrev pub device_content : DeviceSite → List ObjectIdData → ℕ → Result Content ReadFault
device_content device identifiers number = known_device_content device identifiers (property_of number)
