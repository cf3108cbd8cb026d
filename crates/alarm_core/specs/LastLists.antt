-- The Recipient_List of a notification class after a history (ANSI/ASHRAE 135-2020, 12.21).
use Rattle.std.specs.Prelude.{◌≡◌, ℕ, ◌==◌, if◌then◌else◌, Some, None, Ok, List, [], ◌∷◌}
use Rattle.std.specs.List.{flat_map}
use Rattle.bac_values.specs.Identifier.{ObjectIdData}
use Rattle.bac_values.specs.Properties.{recipient_list_property}
use Rattle.notify_class.specs.Recipients.{DestinationData}
use Rattle.alarm_core.specs.declared.event.Act.{Act}
use Rattle.alarm_core.specs.declared.event.Act.TheVariants.{Edit}
use Rattle.alarm_core.specs.declared.event.Event.{Event}
use Rattle.notify_class.specs.declared.class_site.ClassSite.{ClassSite}
use Rattle.alarm_core.specs.declared.site.Site.{Site}
use Rattle.property_values.specs.ClassProperties.{written_recipient}
use Rattle.alarm_core.specs.Devices.{listed_class}
use Rattle.alarm_core.specs.Reading.{read_of}
use Rattle.alarm_core.specs.Sites.{IsSite}
use Rattle.alarm_core.specs.State.{state_of}

-- the list of a class after one more event
abbrev pub list_with : Act → ℕ → List DestinationData → List DestinationData
list_with (Edit number recipients) instance before = if instance == number then recipients else before
list_with act instance before = before

-- the list of the last edit of a class, and the site's where there was none
abbrev pub last_list : ClassSite → List Event → List DestinationData
last_list listed [] = listed.class.destinations
last_list listed (event ∷ older) = list_with event.act listed.class.instance (last_list listed older)

-- what is read of the Recipient_List of a class
pub record ReadsTheLastList : Type 0 where
  pub lists : (site : Site) → IsSite site → (history : List Event) (object : ObjectIdData) (listed : ClassSite) → listed_class object site.classes ≡ Some listed →
      read_of (state_of site history) object recipient_list_property None ≡ Ok (flat_map written_recipient (last_list listed history))
