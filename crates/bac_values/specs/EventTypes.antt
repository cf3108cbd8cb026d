-- The numbers of event types and notify types (ANSI/ASHRAE 135-2020, clause 21, BACnetEventType and BACnetNotifyType).
use Rattle.std.specs.Prelude.{ℕ}

-- ---- event types

abbrev pub change_of_bitstring_type : ℕ
change_of_bitstring_type = 0

abbrev pub change_of_state_type : ℕ
change_of_state_type = 1

abbrev pub command_failure_type : ℕ
command_failure_type = 3

abbrev pub unsigned_range_type : ℕ
unsigned_range_type = 11

abbrev pub signed_out_of_range_type : ℕ
signed_out_of_range_type = 15

abbrev pub unsigned_out_of_range_type : ℕ
unsigned_out_of_range_type = 16

abbrev pub change_of_characterstring_type : ℕ
change_of_characterstring_type = 17

abbrev pub change_of_reliability_type : ℕ
change_of_reliability_type = 19

-- ---- notify types

abbrev pub alarm_notify_type : ℕ
alarm_notify_type = 0

abbrev pub event_notify_type : ℕ
event_notify_type = 1

abbrev pub ack_notification_notify_type : ℕ
ack_notification_notify_type = 2
