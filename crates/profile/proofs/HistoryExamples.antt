-- Histories (13.2.2): which objects move when, by looking back over writes, faults and ticks; reliabilities, stamps and acknowledgements.
use Rattle.std.specs.Prelude.{◌≡◌, refl, pos, negsuc, true, false, Some, option_map, codes, [], ◌∷◌}
use Rattle.profile.specs.Numbers.{identifier, Truth, Unsigned, Signed, Text, Enumerated, Normal, Fault, Offnormal, HighLimit, ToOffnormal, ToFault, ToNormal}
use Rattle.profile.specs.Numbers.{BinaryValue, EventEnrollment, MultiStateValue, IntegerValue, SignedOutOfRange}
use Rattle.profile.specs.Numbers.{NoFaultDetected, OverRange, UnderRange, UnreliableOther, MultiStateFault, CommunicationFailure}
use Rattle.profile.specs.Sites.{Detection}
use Rattle.profile.specs.Rules.{reliability_of}
use Rattle.profile.specs.Times.{no_stamp}
use Rattle.profile.specs.Histories.{Property, Write, Acknowledge, moment_after, stamp_of, is_acknowledged}
use Rattle.profile.proofs.Samples.{settings_of, tank, quick, plain, flow, pump, mode, note, range, command, site_of, write, fault, tick, told}

pub a_fault_goes_before_a_rule : told (site_of (quick tank ∷ [])) (fault 0 tank UnreliableOther ∷ write 1 tank (Signed (pos 90)) ∷ fault 2 tank NoFaultDetected ∷ []) ≡ (identifier IntegerValue 1, 1700000000000, Normal, Fault) ∷ (identifier IntegerValue 1, 1700000000002, Fault, Normal) ∷ (identifier IntegerValue 1, 1700000000002, Normal, HighLimit) ∷ []
a_fault_goes_before_a_rule = refl

pub a_write_has_a_point_before_it : told (site_of (quick tank ∷ record tank { instance = 2 } ∷ [])) (write 0 (record tank { instance = 2 }) (Signed (pos 90)) ∷ write 10000 tank (Signed (pos 90)) ∷ []) ≡ (identifier IntegerValue 2, 1700000010000, Normal, HighLimit) ∷ (identifier IntegerValue 1, 1700000010000, Normal, HighLimit) ∷ []
a_write_has_a_point_before_it = refl

pub a_tick_at_the_delay : told (site_of (tank ∷ [])) (write 0 tank (Signed (pos 90)) ∷ tick 10000 ∷ []) ≡ (identifier IntegerValue 1, 1700000010000, Normal, HighLimit) ∷ []
a_tick_at_the_delay = refl

pub a_tick_before_the_delay : told (site_of (tank ∷ [])) (write 0 tank (Signed (pos 90)) ∷ tick 9999 ∷ []) ≡ []
a_tick_before_the_delay = refl

pub an_inhibition_by_a_write : told (site_of (tank ∷ [])) (write 0 tank (Signed (pos 90)) ∷ tick 10000 ∷ record (tick 11000) { act = Write (identifier IntegerValue 1) (Property 354 (Truth true)) } ∷ record (tick 12000) { act = Write (identifier IntegerValue 1) (Property 354 (Truth false)) } ∷ tick 21999 ∷ tick 22000 ∷ []) ≡ (identifier IntegerValue 1, 1700000010000, Normal, HighLimit) ∷ (identifier IntegerValue 1, 1700000011000, HighLimit, Normal) ∷ (identifier IntegerValue 1, 1700000022000, Normal, HighLimit) ∷ []
an_inhibition_by_a_write = refl

pub an_inhibition_by_reference : told (site_of (plain pump ∷ (record tank { detection = Some (record (settings_of SignedOutOfRange) { inhibit_reference = Some (identifier BinaryValue 1) }) }) ∷ [])) (write 0 tank (Signed (pos 90)) ∷ tick 10000 ∷ write 11000 pump (Enumerated 1) ∷ write 12000 pump (Enumerated 0) ∷ tick 22000 ∷ []) ≡ (identifier IntegerValue 1, 1700000010000, Normal, HighLimit) ∷ (identifier IntegerValue 1, 1700000011000, HighLimit, Normal) ∷ (identifier IntegerValue 1, 1700000022000, Normal, HighLimit) ∷ []
an_inhibition_by_reference = refl

pub the_states_of_a_mode : told (site_of (mode ∷ [])) (write 0 mode (Unsigned 2) ∷ tick 5000 ∷ write 6000 mode (Unsigned 3) ∷ tick 11000 ∷ write 12000 mode (Unsigned 2) ∷ write 16000 mode (Unsigned 3) ∷ tick 21000 ∷ []) ≡ (identifier MultiStateValue 1, 1700000005000, Normal, Offnormal) ∷ (identifier MultiStateValue 1, 1700000011000, Offnormal, Offnormal) ∷ []
the_states_of_a_mode = refl

pub what_isnt_detected_stays : told (site_of (record tank { detection = option_map (λ (s : Detection). record s { event_detection_enable = false; time_delay = 0 }) tank.detection } ∷ [])) (write 0 tank (Signed (pos 90)) ∷ []) ≡ []
what_isnt_detected_stays = refl

pub without_a_class_nothing_moves : told (site_of (plain tank ∷ [])) (write 0 tank (Signed (pos 90)) ∷ tick 10000 ∷ []) ≡ []
without_a_class_nothing_moves = refl

pub an_enrollment_moves_with_its_object : told (site_of (range ∷ plain flow ∷ [])) (write 0 flow (Unsigned 81) ∷ tick 5000 ∷ []) ≡ (identifier EventEnrollment 1, 1700000005000, Normal, HighLimit) ∷ []
an_enrollment_moves_with_its_object = refl

pub an_enrollment_has_the_fault_of_its_object : told (site_of (range ∷ plain flow ∷ [])) (fault 0 flow UnreliableOther ∷ []) ≡ (identifier EventEnrollment 1, 1700000000000, Normal, Fault) ∷ []
an_enrollment_has_the_fault_of_its_object = refl

pub an_enrollment_has_the_fault_of_its_feedback : told (site_of (command ∷ plain tank ∷ plain (record tank { instance = 2 }) ∷ [])) (fault 0 (record tank { instance = 2 }) UnreliableOther ∷ []) ≡ (identifier EventEnrollment 2, 1700000000000, Normal, Fault) ∷ []
an_enrollment_has_the_fault_of_its_feedback = refl

pub objects_move_in_order : told (site_of (quick (record tank { instance = 1 }) ∷ quick (record tank { instance = 2 }) ∷ [])) (write 0 (record tank { instance = 2 }) (Signed (pos 90)) ∷ fault 1 tank UnreliableOther ∷ fault 2 (record tank { instance = 2 }) UnreliableOther ∷ []) ≡ (identifier IntegerValue 2, 1700000000000, Normal, HighLimit) ∷ (identifier IntegerValue 1, 1700000000001, Normal, Fault) ∷ (identifier IntegerValue 2, 1700000000002, HighLimit, Fault) ∷ []
objects_move_in_order = refl

pub a_fault_value_is_a_fault : told (site_of (mode ∷ [])) (write 0 mode (Unsigned 5) ∷ []) ≡ (identifier MultiStateValue 1, 1700000000000, Normal, Fault) ∷ []
a_fault_value_is_a_fault = refl

pub the_reliability_of_100 : reliability_of [] (record (record tank { fault_low_limit = Some (pos 0); fault_high_limit = Some (pos 100) }) { value = Some (Signed (pos 100)) }) ≡ NoFaultDetected
the_reliability_of_100 = refl

pub the_reliability_of_101 : reliability_of [] (record (record tank { fault_low_limit = Some (pos 0); fault_high_limit = Some (pos 100) }) { value = Some (Signed (pos 101)) }) ≡ OverRange
the_reliability_of_101 = refl

pub the_reliability_of_0 : reliability_of [] (record (record tank { fault_low_limit = Some (pos 0); fault_high_limit = Some (pos 100) }) { value = Some (Signed (pos 0)) }) ≡ NoFaultDetected
the_reliability_of_0 = refl

pub the_reliability_of_minus_1 : reliability_of [] (record (record tank { fault_low_limit = Some (pos 0); fault_high_limit = Some (pos 100) }) { value = Some (Signed (negsuc 0)) }) ≡ UnderRange
the_reliability_of_minus_1 = refl

pub the_field_counts_before_the_value : reliability_of [] (record (record tank { fault_low_limit = Some (pos 0); fault_high_limit = Some (pos 100) }) { value = Some (Signed (pos 101)); field_reliability = CommunicationFailure }) ≡ CommunicationFailure
the_field_counts_before_the_value = refl

pub where_inhibited_nothing_is_a_fault : reliability_of [] (record (record tank { fault_low_limit = Some (pos 0); fault_high_limit = Some (pos 100) }) { value = Some (Signed (pos 101)); field_reliability = CommunicationFailure; reliability_evaluation_inhibit = true }) ≡ NoFaultDetected
where_inhibited_nothing_is_a_fault = refl

pub a_fault_text_is_a_fault : reliability_of [] (record note { value = Some (Text (codes "it is broken")) }) ≡ MultiStateFault
a_fault_text_is_a_fault = refl

pub another_text_is_none : reliability_of [] (note) ≡ NoFaultDetected
another_text_is_none = refl

pub the_first_moment_is_not_before_the_start : moment_after (site_of []) [] 5 ≡ 1700000000000
the_first_moment_is_not_before_the_start = refl

pub no_moment_is_before_the_last_one : moment_after (site_of []) (tick 5000 ∷ []) 1700000001000 ≡ 1700000005000
no_moment_is_before_the_last_one = refl

pub a_later_moment_stays : moment_after (site_of []) (tick 5000 ∷ []) 1700000006000 ≡ 1700000006000
a_later_moment_stays = refl

pub the_stamp_of_tooffnormal : stamp_of (site_of (tank ∷ [])) (tick 10000 ∷ write 0 tank (Signed (pos 90)) ∷ []) (identifier IntegerValue 1) ToOffnormal ≡ 123 ∷ 11 ∷ 14 ∷ 2 ∷ 22 ∷ 13 ∷ 30 ∷ 0 ∷ []
the_stamp_of_tooffnormal = refl

pub the_stamp_of_tofault : stamp_of (site_of (tank ∷ [])) (tick 10000 ∷ write 0 tank (Signed (pos 90)) ∷ []) (identifier IntegerValue 1) ToFault ≡ no_stamp
the_stamp_of_tofault = refl

pub the_stamp_of_tonormal : stamp_of (site_of (tank ∷ [])) (tick 10000 ∷ write 0 tank (Signed (pos 90)) ∷ []) (identifier IntegerValue 1) ToNormal ≡ no_stamp
the_stamp_of_tonormal = refl

pub what_came_is_unacknowledged : is_acknowledged (site_of (tank ∷ [])) (identifier IntegerValue 1) ToOffnormal (tick 10000 ∷ write 0 tank (Signed (pos 90)) ∷ []) ≡ false
what_came_is_unacknowledged = refl

pub what_never_came_is_acknowledged : is_acknowledged (site_of (tank ∷ [])) (identifier IntegerValue 1) ToFault (tick 10000 ∷ write 0 tank (Signed (pos 90)) ∷ []) ≡ true
what_never_came_is_acknowledged = refl

pub what_is_acknowledged : is_acknowledged (site_of (tank ∷ [])) (identifier IntegerValue 1) ToOffnormal (record (tick 20000) { act = Acknowledge (identifier IntegerValue 1) ToOffnormal HighLimit } ∷ tick 10000 ∷ write 0 tank (Signed (pos 90)) ∷ []) ≡ true
what_is_acknowledged = refl

pub another_one_isnt_acknowledged_by_it : is_acknowledged (site_of (tank ∷ [])) (identifier IntegerValue 1) ToFault (record (tick 20000) { act = Acknowledge (identifier IntegerValue 1) ToOffnormal HighLimit } ∷ fault 11000 tank UnreliableOther ∷ tick 10000 ∷ write 0 tank (Signed (pos 90)) ∷ []) ≡ false
another_one_isnt_acknowledged_by_it = refl

pub what_comes_again_is_unacknowledged : is_acknowledged (site_of (tank ∷ [])) (identifier IntegerValue 1) ToOffnormal (tick 60000 ∷ write 50000 tank (Signed (pos 90)) ∷ tick 40000 ∷ write 30000 tank (Signed (pos 50)) ∷ record (tick 20000) { act = Acknowledge (identifier IntegerValue 1) ToOffnormal HighLimit } ∷ tick 10000 ∷ write 0 tank (Signed (pos 90)) ∷ []) ≡ false
what_comes_again_is_unacknowledged = refl

pub what_wants_none_is_acknowledged : is_acknowledged (site_of (tank ∷ [])) (identifier IntegerValue 1) ToNormal (tick 40000 ∷ write 30000 tank (Signed (pos 50)) ∷ tick 10000 ∷ write 0 tank (Signed (pos 90)) ∷ []) ≡ true
what_wants_none_is_acknowledged = refl

pub what_wants_one_stays_unacknowledged : is_acknowledged (site_of (tank ∷ [])) (identifier IntegerValue 1) ToOffnormal (tick 40000 ∷ write 30000 tank (Signed (pos 50)) ∷ tick 10000 ∷ write 0 tank (Signed (pos 90)) ∷ []) ≡ false
what_wants_one_stays_unacknowledged = refl
