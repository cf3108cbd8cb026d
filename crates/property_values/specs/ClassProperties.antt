-- The properties of notification classes, and what is read of them (ANSI/ASHRAE 135-2020, 12.21).
use Rattle.std.specs.Prelude.{ℕ, ◌==◌, ◌/◌, ◌%◌, Option, Some, None, Result, Ok, Err, List, [], ◌∷◌, ◌++◌, map, find}
use Rattle.std.specs.List.{flat_map}
use Rattle.bac_values.specs.BitString.{string_of_flags, BitsData}
use Rattle.bac_values.specs.Identifier.{number_of_kind}
use Rattle.bac_values.specs.Properties.{ack_required_property, notification_class_property, object_identifier_property, object_name_property, object_type_property, priority_property, recipient_list_property}
use Rattle.bac_values.specs.declared.object_kind.ObjectKind.TheVariants as kinds
use Rattle.bac_values.specs.declared.value.Value.TheVariants as values
use Rattle.bac_tags.specs.Writing.{written_bits, written_boolean, written_time, written_unsigned}
use Rattle.notify_class.specs.declared.class_site.ClassSite.{ClassSite}
use Rattle.notify_class.specs.Recipients.{DestinationData}
use Rattle.recipients.specs.Recipients.{written_peer}
use Rattle.property_values.specs.declared.class_properties.ClassProperty.{ClassProperty}
use Rattle.property_values.specs.declared.class_properties.ClassProperty.TheVariants.{ObjectIdentifier, ObjectName, ObjectType, NotificationClass, Priority, AckRequired, RecipientList}
use Rattle.property_values.specs.declared.content.Content.{Content}
use Rattle.property_values.specs.declared.content.Content.TheVariants.{Whole, Elements}
use Rattle.property_values.specs.declared.content.ReadFault.{ReadFault}
use Rattle.property_values.specs.Devices.{class_object}
use Rattle.property_values.specs.Properties.{flags, one, unknown_property}

-- the number of each property
abbrev pub number_of_property : ClassProperty → ℕ
number_of_property ObjectIdentifier = object_identifier_property
number_of_property ObjectName = object_name_property
number_of_property ObjectType = object_type_property
number_of_property NotificationClass = notification_class_property
number_of_property Priority = priority_property
number_of_property AckRequired = ack_required_property
number_of_property RecipientList = recipient_list_property

abbrev pub class_properties : List ClassProperty
class_properties =
    ObjectIdentifier ∷ ObjectName ∷ ObjectType ∷ NotificationClass ∷ Priority ∷ AckRequired ∷ RecipientList ∷ []

-- the property with a number
unfoldable pub property_of : ℕ → Option ClassProperty
property_of number = find (λ property. number_of_property property == number) class_properties

-- a Time (20.2.13): the hour, the minute, the second and the hundredth of a time of the day in hundredths of a second
abbrev pub clock_of : ℕ → List ℕ
clock_of time = time / 360000 ∷ time / 6000 % 60 ∷ time / 100 % 60 ∷ time % 100 ∷ []

abbrev pub written_clock : ℕ → List ℕ
written_clock time = written_time (clock_of time)

-- seven bits, Monday first
abbrev pub days_of : DestinationData → BitsData
days_of recipient = record { size = 7; bits = recipient.days }

-- a BACnetDestination: valid days, From Time, To Time, recipient, process identifier, Issue Confirmed Notifications, transitions
abbrev pub written_recipient : DestinationData → List ℕ
written_recipient recipient =
    written_bits None (days_of recipient)
    ++ (written_clock recipient.from
    ++ (written_clock recipient.to
    ++ (written_peer recipient.peer
    ++ (written_unsigned None recipient.process
    ++ (written_boolean None recipient.confirmed
    ++ written_bits None (string_of_flags recipient.transitions))))))

-- Recipient_List: its elements stand one after the other
abbrev pub list_of_recipients : List DestinationData → Content
list_of_recipients recipients = Whole (flat_map written_recipient recipients)

abbrev pub array_of_numbers : List ℕ → Content
array_of_numbers numbers = Elements (map (written_unsigned None) numbers)

-- what a property of a class of the site is, with the recipients that it has now
abbrev pub class_property : ClassSite → List DestinationData → ClassProperty → Content
class_property listed recipients ObjectIdentifier = one (values.Object (class_object listed))
class_property listed recipients ObjectName = one (values.Text listed.name)
class_property listed recipients ObjectType = one (values.Enumerated (number_of_kind kinds.NotificationClass))
class_property listed recipients NotificationClass = one (values.Unsigned listed.class.instance)
class_property listed recipients Priority = array_of_numbers listed.class.priority
class_property listed recipients AckRequired = flags listed.class.ack_required
class_property listed recipients RecipientList = list_of_recipients recipients

abbrev pub known_class_content : ClassSite → List DestinationData → Option ClassProperty → Result Content ReadFault
known_class_content listed recipients (Some property) = Ok (class_property listed recipients property)
known_class_content listed recipients None = Err unknown_property

-- the property with a number, or that there is none
abbrev pub class_content : ClassSite → List DestinationData → ℕ → Result Content ReadFault
class_content listed recipients number = known_class_content listed recipients (property_of number)
