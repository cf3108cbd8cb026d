-- The numbers of services (ANSI/ASHRAE 135-2020, clause 21).
use Rattle.std.specs.Prelude.{ℕ}

-- ---- services of Confirmed-Requests (BACnetConfirmedServiceChoice)

-- 13.5
abbrev pub acknowledge_alarm_service : ℕ
acknowledge_alarm_service = 0

-- 13.8
abbrev pub confirmed_event_notification_service : ℕ
confirmed_event_notification_service = 2

-- 13.10
abbrev pub get_alarm_summary_service : ℕ
get_alarm_summary_service = 3

-- 13.11
abbrev pub get_enrollment_summary_service : ℕ
get_enrollment_summary_service = 4

-- 15.1
abbrev pub add_list_element_service : ℕ
add_list_element_service = 8

-- 15.2
abbrev pub remove_list_element_service : ℕ
remove_list_element_service = 9

-- 15.5
abbrev pub read_property_service : ℕ
read_property_service = 12

-- 15.7
abbrev pub read_property_multiple_service : ℕ
read_property_multiple_service = 14

-- 15.9
abbrev pub write_property_service : ℕ
write_property_service = 15

-- 15.8
abbrev pub read_range_service : ℕ
read_range_service = 26

-- 13.12
abbrev pub get_event_information_service : ℕ
get_event_information_service = 29

-- ---- services of Unconfirmed-Requests (BACnetUnconfirmedServiceChoice)

-- 16.10
abbrev pub i_am_service : ℕ
i_am_service = 0

-- 13.9
abbrev pub unconfirmed_event_notification_service : ℕ
unconfirmed_event_notification_service = 3

-- 16.10
abbrev pub who_is_service : ℕ
who_is_service = 8

-- ---- what a device on BACnet/IP takes: the longest APDU, in octets, which fits a frame of Ethernet with its headers (20.1.2.5), and no segments (BACnetSegmentation)

abbrev pub longest_apdu : ℕ
longest_apdu = 1476

abbrev pub no_segmentation : ℕ
no_segmentation = 3
