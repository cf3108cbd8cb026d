-- The notification classes of a site after a history (ANSI/ASHRAE 135-2020, 12.21), and the peers that it knows.
use Rattle.std.specs.Prelude.{ℕ, ◌==◌, Bool, false, if◌then◌else◌, Option, Some, None, List, [], ◌∷◌, ◌++◌, map, find}
use Rattle.std.specs.List.{flat_map}
use Rattle.bac_values.specs.Address.{PeerData}
use Rattle.bac_values.specs.Orders.{peers_with}
use Rattle.notify_class.specs.declared.class.Class.{Class}
use Rattle.notify_class.specs.Edits.{recipient_peers}
use Rattle.notify_class.specs.Recipients.{DestinationData}
use Rattle.alarm_core.specs.declared.event.Act.{Act}
use Rattle.alarm_core.specs.declared.event.Act.TheVariants.{Edit}
use Rattle.alarm_core.specs.declared.event.Event.{Event}
use Rattle.notify_class.specs.declared.class_site.ClassSite.{ClassSite}
use Rattle.alarm_core.specs.declared.site.Site.{Site}

abbrev pub first_classes : Site → List Class
first_classes site = map (λ (listed : ClassSite). listed.class) site.classes

-- a class with another Recipient_List, where it is the one that is edited
abbrev pub edited : ℕ → List DestinationData → Class → Class
edited number recipients class = if class.instance == number then record class { destinations = recipients } else class

abbrev pub classes_with : Act → List Class → List Class
classes_with (Edit number recipients) classes = map (edited number recipients) classes
classes_with act classes = classes

-- the classes: the site's, each with the list of its last edit
abbrev pub classes_after : Site → List Event → List Class
classes_after site [] = first_classes site
classes_after site (event ∷ older) = classes_with event.act (classes_after site older)

-- whether a class that an object may have is the one with a number
abbrev pub is_member : Option ℕ → ℕ → Bool
is_member (Some class) number = class == number
is_member None number = false

-- the class with a number
abbrev pub class_in : ℕ → List Class → Option Class
class_in number classes = find (λ (class : Class). class.instance == number) classes

-- the peers of the lists of some classes
abbrev pub peers_in : List Class → List PeerData
peers_in classes = flat_map (λ (class : Class). recipient_peers class.destinations) classes

abbrev pub learned_with : Act → List PeerData → List PeerData
learned_with (Edit number recipients) known = peers_with (recipient_peers recipients) known
learned_with act known = known

-- the known peers, ascending: those of the site's lists, and those of every edit
abbrev pub known_peers_of : Site → List Event → List PeerData
known_peers_of site [] = peers_with (peers_in (first_classes site)) []
known_peers_of site (event ∷ older) = learned_with event.act (known_peers_of site older)

-- the peers of the list that an edit gives
abbrev pub peers_by : Act → List PeerData
peers_by (Edit number recipients) = recipient_peers recipients
peers_by act = []

-- the peers of the site's lists, and those of the lists of all edits
abbrev pub listed_peers : Site → List Event → List PeerData
listed_peers site history = peers_in (first_classes site) ++ flat_map (λ (event : Event). peers_by event.act) history
