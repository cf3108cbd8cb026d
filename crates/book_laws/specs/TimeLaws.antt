-- What the clock of a zone shows, and who is notified then, is what the book says (ANSI/ASHRAE 135-2020, 12.21, 20.2.12 and 20.2.13).
use Rattle.std.specs.Prelude.{◌≡◌, ℕ, List, ◌∷◌, map, filter, drop}
use Rattle.bac_values.specs.declared.stamp.Stamp.{Stamp}
use Rattle.bac_values.specs.declared.transition.Transition.{Transition}
use Rattle.civil_stamp.specs.LocalTime.{ZoneData, IsZonedStamp}
use Rattle.civil_stamp.specs.ZoneRules.{IsClockRule}
use Rattle.notify_class.specs.Chosen.{chosen_destinations}
use Rattle.notify_class.specs.Recipients.{DestinationData}
use Rattle.notify_class.specs.Windows.{is_in_window}
use Rattle.profile.specs.Sites.{Station}
use Rattle.profile.specs.Times as book
use Rattle.book_laws.specs.Times.{in_zone, destination_in_book}
use Rattle.book_laws.specs.Values.{transition_in_book}

-- the weekday, the hour, the minute, the second and the hundredth that the clock of a zone shows at a moment
abbrev pub HasTimesOfBook : Type 0
HasTimesOfBook = (device : Station) (zone : ZoneData) (moment : ℕ) (stamp : Stamp) → IsClockRule zone → IsZonedStamp zone moment stamp →
    drop 3 stamp.octets ≡ book.weekday (in_zone device zone) moment ∷ book.time_at (in_zone device zone) moment

-- whether a recipient is notified of a transition at a moment
abbrev pub HasWindowsOfBook : Type 0
HasWindowsOfBook = (device : Station) (zone : ZoneData) (moment : ℕ) (stamp : Stamp) (transition : Transition) (recipient : DestinationData) → IsClockRule zone → IsZonedStamp zone moment stamp →
    book.is_notified (in_zone device zone) (transition_in_book transition) moment (destination_in_book recipient) ≡ is_in_window recipient transition moment zone

-- who of a list is notified, in its order
abbrev pub HasRecipientsOfBook : Type 0
HasRecipientsOfBook = (device : Station) (zone : ZoneData) (moment : ℕ) (stamp : Stamp) (transition : Transition) (recipients : List DestinationData) → IsClockRule zone → IsZonedStamp zone moment stamp →
    map destination_in_book (chosen_destinations recipients transition moment zone)
    ≡ filter (book.is_notified (in_zone device zone) (transition_in_book transition) moment) (map destination_in_book recipients)
