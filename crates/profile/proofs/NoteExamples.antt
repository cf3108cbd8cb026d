-- Notes (13.2.5, 13.5, 13.8, 13.9): what is told of a transition and of an acknowledgement, and to whom.
use Rattle.std.specs.Prelude.{◌≡◌, refl, pos, true, false, Some, None, option_map, map, codes, [], ◌∷◌, slice_get}
use Rattle.profile.specs.Numbers.{identifier, Unsigned, Signed, Text, Bits, Enumerated, Normal, Fault, Offnormal, HighLimit, LowLimit, ToOffnormal, ToFault}
use Rattle.profile.specs.Numbers.{Device, EventEnrollment, IntegerValue, SignedOutOfRange, UnreliableOther}
use Rattle.profile.specs.Histories.{Acknowledge, Edit}
use Rattle.profile.specs.Notes.{Note, notes_by, notes_over}
use Rattle.profile.proofs.Samples.{settings_of, tank, quick, plain, flow, pump, mode, doors, note, range, command, class, desk, site_of, write, fault, tick}

pub an_alarm_is_told : notes_by (site_of (tank ∷ [])) (tick 10000) (write 0 tank (Signed (pos 90)) ∷ []) ≡ record { destination = desk; notification = record { device = identifier Device 1001; object = (identifier IntegerValue 1); time_stamp = 123 ∷ 11 ∷ 14 ∷ 2 ∷ 22 ∷ 13 ∷ 30 ∷ 0 ∷ []; notification_class = 7; priority = 100; event_type = 15; message_text = None; notify_type = 0; ack_required = Some true; from_state = Some Normal; to_state = HighLimit; event_values = Some ((Signed (pos 90)) ∷ (Bits (true ∷ false ∷ false ∷ false ∷ [])) ∷ (Unsigned 5) ∷ (Signed (pos 80)) ∷ []) } } ∷ []
an_alarm_is_told = refl

pub a_return_is_told : notes_by (site_of (tank ∷ [])) (tick 30000) (write 20000 tank (Signed (pos 50)) ∷ tick 10000 ∷ write 0 tank (Signed (pos 90)) ∷ []) ≡ record { destination = desk; notification = record { device = identifier Device 1001; object = (identifier IntegerValue 1); time_stamp = 123 ∷ 11 ∷ 14 ∷ 2 ∷ 22 ∷ 13 ∷ 50 ∷ 0 ∷ []; notification_class = 7; priority = 200; event_type = 15; message_text = None; notify_type = 0; ack_required = Some false; from_state = Some HighLimit; to_state = Normal; event_values = Some ((Signed (pos 50)) ∷ (Bits (false ∷ false ∷ false ∷ false ∷ [])) ∷ (Unsigned 5) ∷ (Signed (pos 80)) ∷ []) } } ∷ []
a_return_is_told = refl

pub a_low_value_is_told : notes_by (site_of (tank ∷ [])) (tick 10000) (write 0 tank (Signed (pos 10)) ∷ []) ≡ record { destination = desk; notification = record { device = identifier Device 1001; object = (identifier IntegerValue 1); time_stamp = 123 ∷ 11 ∷ 14 ∷ 2 ∷ 22 ∷ 13 ∷ 30 ∷ 0 ∷ []; notification_class = 7; priority = 100; event_type = 15; message_text = None; notify_type = 0; ack_required = Some true; from_state = Some Normal; to_state = LowLimit; event_values = Some ((Signed (pos 10)) ∷ (Bits (true ∷ false ∷ false ∷ false ∷ [])) ∷ (Unsigned 5) ∷ (Signed (pos 20)) ∷ []) } } ∷ []
a_low_value_is_told = refl

pub a_fault_is_told : notes_by (site_of (tank ∷ [])) (fault 20000 tank UnreliableOther) (tick 10000 ∷ write 0 tank (Signed (pos 90)) ∷ []) ≡ record { destination = desk; notification = record { device = identifier Device 1001; object = (identifier IntegerValue 1); time_stamp = 123 ∷ 11 ∷ 14 ∷ 2 ∷ 22 ∷ 13 ∷ 40 ∷ 0 ∷ []; notification_class = 7; priority = 90; event_type = 19; message_text = None; notify_type = 0; ack_required = Some true; from_state = Some HighLimit; to_state = Fault; event_values = Some (Enumerated 7 ∷ (Bits (true ∷ true ∷ false ∷ false ∷ [])) ∷ (Signed (pos 90)) ∷ []) } } ∷ []
a_fault_is_told = refl

pub an_acknowledgement_is_told : notes_by (site_of (tank ∷ [])) (record (tick 20000) { act = Acknowledge (identifier IntegerValue 1) ToOffnormal Offnormal }) (tick 10000 ∷ write 0 tank (Signed (pos 90)) ∷ []) ≡ record { destination = desk; notification = record { device = identifier Device 1001; object = (identifier IntegerValue 1); time_stamp = 123 ∷ 11 ∷ 14 ∷ 2 ∷ 22 ∷ 13 ∷ 40 ∷ 0 ∷ []; notification_class = 7; priority = 100; event_type = 15; message_text = None; notify_type = 2; ack_required = None; from_state = None; to_state = Offnormal; event_values = None } } ∷ []
an_acknowledgement_is_told = refl

pub an_acknowledgement_of_a_fault_is_told : notes_by (site_of (tank ∷ [])) (record (tick 20000) { act = Acknowledge (identifier IntegerValue 1) ToFault Fault }) (fault 0 tank UnreliableOther ∷ []) ≡ record { destination = desk; notification = record { device = identifier Device 1001; object = (identifier IntegerValue 1); time_stamp = 123 ∷ 11 ∷ 14 ∷ 2 ∷ 22 ∷ 13 ∷ 40 ∷ 0 ∷ []; notification_class = 7; priority = 90; event_type = 19; message_text = None; notify_type = 2; ack_required = None; from_state = None; to_state = Fault; event_values = None } } ∷ []
an_acknowledgement_of_a_fault_is_told = refl

pub a_text_is_told : notes_by (site_of (record tank { detection = Some (record (settings_of SignedOutOfRange) { message_texts = codes "High" ∷ [] ∷ [] ∷ [] }) } ∷ [])) (tick 10000) (write 0 tank (Signed (pos 90)) ∷ []) ≡ record { destination = desk; notification = record { device = identifier Device 1001; object = (identifier IntegerValue 1); time_stamp = 123 ∷ 11 ∷ 14 ∷ 2 ∷ 22 ∷ 13 ∷ 30 ∷ 0 ∷ []; notification_class = 7; priority = 100; event_type = 15; message_text = Some (codes "High"); notify_type = 0; ack_required = Some true; from_state = Some Normal; to_state = HighLimit; event_values = Some ((Signed (pos 90)) ∷ (Bits (true ∷ false ∷ false ∷ false ∷ [])) ∷ (Unsigned 5) ∷ (Signed (pos 80)) ∷ []) } } ∷ []
a_text_is_told = refl

pub what_isnt_enabled_isnt_told : notes_by (site_of (record tank { detection = Some (record (settings_of SignedOutOfRange) { event_enable = false ∷ true ∷ true ∷ [] }) } ∷ [])) (tick 10000) (write 0 tank (Signed (pos 90)) ∷ []) ≡ []
what_isnt_enabled_isnt_told = refl

pub nobody_is_told_behind_an_edit : notes_by (site_of (tank ∷ [])) (tick 10000) (record (tick 5000) { act = Edit 7 [] } ∷ write 0 tank (Signed (pos 90)) ∷ []) ≡ []
nobody_is_told_behind_an_edit = refl

pub a_tick_that_moves_nothing_tells_nothing : notes_by (site_of (tank ∷ [])) (tick 9999) (write 0 tank (Signed (pos 90)) ∷ []) ≡ []
a_tick_that_moves_nothing_tells_nothing = refl

pub an_enrollment_is_told : notes_by (site_of (range ∷ plain flow ∷ [])) (tick 5000) (write 0 flow (Unsigned 81) ∷ []) ≡ record { destination = desk; notification = record { device = identifier Device 1001; object = (identifier EventEnrollment 1); time_stamp = 123 ∷ 11 ∷ 14 ∷ 2 ∷ 22 ∷ 13 ∷ 25 ∷ 0 ∷ []; notification_class = 7; priority = 100; event_type = 11; message_text = None; notify_type = 0; ack_required = Some true; from_state = Some Normal; to_state = HighLimit; event_values = Some ((Unsigned 81) ∷ (Bits (false ∷ false ∷ false ∷ false ∷ [])) ∷ (Unsigned 80) ∷ []) } } ∷ []
an_enrollment_is_told = refl

pub the_fault_of_an_enrollment_is_told : notes_by (site_of (range ∷ plain flow ∷ [])) (fault 0 flow UnreliableOther) ([]) ≡ record { destination = desk; notification = record { device = identifier Device 1001; object = (identifier EventEnrollment 1); time_stamp = 123 ∷ 11 ∷ 14 ∷ 2 ∷ 22 ∷ 13 ∷ 20 ∷ 0 ∷ []; notification_class = 7; priority = 90; event_type = 19; message_text = None; notify_type = 0; ack_required = Some true; from_state = Some Normal; to_state = Fault; event_values = Some (Enumerated 14 ∷ (Bits (true ∷ true ∷ false ∷ false ∷ [])) ∷ []) } } ∷ []
the_fault_of_an_enrollment_is_told = refl

pub an_enrollment_tells_its_objects_flags : option_map (λ (told : Note). told.notification.event_values) (slice_get (notes_by (site_of (range ∷ quick flow ∷ [])) (tick 5000) (write 0 flow (Unsigned 81) ∷ [])) 0) ≡ Some (Some ((Unsigned 81) ∷ (Bits (true ∷ false ∷ false ∷ false ∷ [])) ∷ (Unsigned 80) ∷ []))
an_enrollment_tells_its_objects_flags = refl

pub what_a_mode_tells : map (λ (told : Note). told.notification.event_values) (notes_by (site_of (mode ∷ [])) (tick 5000) (write 0 mode (Unsigned 3) ∷ [])) ≡ Some ((Unsigned 3) ∷ (Bits (true ∷ false ∷ false ∷ false ∷ [])) ∷ []) ∷ []
what_a_mode_tells = refl

pub what_a_pump_tells : map (λ (told : Note). told.notification.event_values) (notes_by (site_of (pump ∷ [])) (tick 10000) (write 0 pump (Enumerated 1) ∷ [])) ≡ Some (Enumerated 1 ∷ (Bits (true ∷ false ∷ false ∷ false ∷ [])) ∷ []) ∷ []
what_a_pump_tells = refl

pub what_doors_tell : map (λ (told : Note). told.notification.event_values) (notes_by (site_of (doors ∷ [])) (tick 10000) (write 0 doors (Bits (false ∷ false ∷ true ∷ false ∷ [])) ∷ [])) ≡ Some ((Bits (false ∷ false ∷ true ∷ false ∷ [])) ∷ (Bits (true ∷ false ∷ false ∷ false ∷ [])) ∷ []) ∷ []
what_doors_tell = refl

pub what_a_text_tells : map (λ (told : Note). told.notification.event_values) (notes_by (site_of (note ∷ [])) (tick 10000) (write 0 note (Text (codes "a leak")) ∷ [])) ≡ Some ((Text (codes "a leak")) ∷ (Bits (true ∷ false ∷ false ∷ false ∷ [])) ∷ (Text (codes "leak")) ∷ []) ∷ []
what_a_text_tells = refl

pub what_a_text_tells_at_its_return : map (λ (told : Note). told.notification.event_values) (notes_by (site_of (note ∷ [])) (tick 30000) (write 20000 note (Text (codes "ok")) ∷ tick 10000 ∷ write 0 note (Text (codes "a leak")) ∷ [])) ≡ Some ((Text (codes "ok")) ∷ (Bits (false ∷ false ∷ false ∷ false ∷ [])) ∷ (Text (codes "leak")) ∷ []) ∷ []
what_a_text_tells_at_its_return = refl

pub what_a_flow_tells : map (λ (told : Note). told.notification.event_values) (notes_by (site_of (flow ∷ [])) (tick 10000) (write 0 flow (Unsigned 90) ∷ [])) ≡ Some ((Unsigned 90) ∷ (Bits (true ∷ false ∷ false ∷ false ∷ [])) ∷ (Unsigned 5) ∷ (Unsigned 80) ∷ []) ∷ []
what_a_flow_tells = refl

pub what_a_command_tells : map (λ (told : Note). told.notification.event_values) (notes_by (site_of (command ∷ plain tank ∷ plain (record tank { instance = 2 }) ∷ [])) (tick 5000) (write 0 tank (Signed (pos 7)) ∷ [])) ≡ Some ((Signed (pos 7)) ∷ (Bits (false ∷ false ∷ false ∷ false ∷ [])) ∷ (Signed (pos 50)) ∷ []) ∷ []
what_a_command_tells = refl

pub two_destinations_in_order : map (λ (told : Note). told.destination.process_identifier) (notes_by (record (site_of (tank ∷ [])) { classes = record class { recipient_list = record desk { process_identifier = 9 } ∷ desk ∷ [] } ∷ [] }) (tick 10000) (write 0 tank (Signed (pos 90)) ∷ [])) ≡ 9 ∷ 1 ∷ []
two_destinations_in_order = refl

pub all_notes_in_order : map (λ (told : Note). told.notification.to_state) (notes_over (site_of (tank ∷ [])) (tick 30000 ∷ write 20000 tank (Signed (pos 50)) ∷ tick 10000 ∷ write 0 tank (Signed (pos 90)) ∷ [])) ≡ HighLimit ∷ Normal ∷ []
all_notes_in_order = refl
