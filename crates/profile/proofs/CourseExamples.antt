-- Courses of one object (13.2.2, 13.3): the states that are entered at the last of some points.
use Rattle.std.specs.Prelude.{◌≡◌, refl, map, pos, negsuc, true, false, Some, None, [], ◌∷◌}
use Rattle.profile.specs.Numbers.{Unsigned, Signed, Normal, Fault, Offnormal, HighLimit, LowLimit, SignedOutOfRange, ChangeOfState}
use Rattle.profile.specs.Numbers.{NoFaultDetected, OverRange, UnreliableOther}
use Rattle.profile.specs.Courses.{Move, moves_at}
use Rattle.profile.proofs.Samples.{settings_of, at, course, entered}

pub a_high_value_waits_for_the_delay_1 : entered (at (record (settings_of SignedOutOfRange) { time_delay = 10; time_delay_normal = Some 10; deadband = 5 }) 1000 (Signed (pos 20)) ∷ []) (at (record (settings_of SignedOutOfRange) { time_delay = 10; time_delay_normal = Some 10; deadband = 5 }) 0 (Signed (pos 20))) ≡ []
a_high_value_waits_for_the_delay_1 = refl

pub a_high_value_waits_for_the_delay_2 : entered (at (record (settings_of SignedOutOfRange) { time_delay = 10; time_delay_normal = Some 10; deadband = 5 }) 1000 (Signed (pos 20)) ∷ at (record (settings_of SignedOutOfRange) { time_delay = 10; time_delay_normal = Some 10; deadband = 5 }) 1000 (Signed (pos 90)) ∷ []) (at (record (settings_of SignedOutOfRange) { time_delay = 10; time_delay_normal = Some 10; deadband = 5 }) 0 (Signed (pos 20))) ≡ []
a_high_value_waits_for_the_delay_2 = refl

pub a_high_value_waits_for_the_delay_3 : entered (at (record (settings_of SignedOutOfRange) { time_delay = 10; time_delay_normal = Some 10; deadband = 5 }) 1000 (Signed (pos 20)) ∷ at (record (settings_of SignedOutOfRange) { time_delay = 10; time_delay_normal = Some 10; deadband = 5 }) 1000 (Signed (pos 90)) ∷ at (record (settings_of SignedOutOfRange) { time_delay = 10; time_delay_normal = Some 10; deadband = 5 }) 10999 (Signed (pos 90)) ∷ []) (at (record (settings_of SignedOutOfRange) { time_delay = 10; time_delay_normal = Some 10; deadband = 5 }) 0 (Signed (pos 20))) ≡ []
a_high_value_waits_for_the_delay_3 = refl

pub a_high_value_waits_for_the_delay_4 : entered (at (record (settings_of SignedOutOfRange) { time_delay = 10; time_delay_normal = Some 10; deadband = 5 }) 1000 (Signed (pos 20)) ∷ at (record (settings_of SignedOutOfRange) { time_delay = 10; time_delay_normal = Some 10; deadband = 5 }) 1000 (Signed (pos 90)) ∷ at (record (settings_of SignedOutOfRange) { time_delay = 10; time_delay_normal = Some 10; deadband = 5 }) 10999 (Signed (pos 90)) ∷ at (record (settings_of SignedOutOfRange) { time_delay = 10; time_delay_normal = Some 10; deadband = 5 }) 11000 (Signed (pos 90)) ∷ []) (at (record (settings_of SignedOutOfRange) { time_delay = 10; time_delay_normal = Some 10; deadband = 5 }) 0 (Signed (pos 20))) ≡ HighLimit ∷ []
a_high_value_waits_for_the_delay_4 = refl

pub it_returns_behind_the_same_delay_1 : entered (at (record (settings_of SignedOutOfRange) { time_delay = 10; time_delay_normal = Some 10; deadband = 5 }) 0 (Signed (pos 90)) ∷ []) (at (record (settings_of SignedOutOfRange) { time_delay = 10; time_delay_normal = Some 10; deadband = 5 }) 0 (Signed (pos 20))) ≡ []
it_returns_behind_the_same_delay_1 = refl

pub it_returns_behind_the_same_delay_2 : entered (at (record (settings_of SignedOutOfRange) { time_delay = 10; time_delay_normal = Some 10; deadband = 5 }) 0 (Signed (pos 90)) ∷ at (record (settings_of SignedOutOfRange) { time_delay = 10; time_delay_normal = Some 10; deadband = 5 }) 10000 (Signed (pos 90)) ∷ []) (at (record (settings_of SignedOutOfRange) { time_delay = 10; time_delay_normal = Some 10; deadband = 5 }) 0 (Signed (pos 20))) ≡ HighLimit ∷ []
it_returns_behind_the_same_delay_2 = refl

pub it_returns_behind_the_same_delay_3 : entered (at (record (settings_of SignedOutOfRange) { time_delay = 10; time_delay_normal = Some 10; deadband = 5 }) 0 (Signed (pos 90)) ∷ at (record (settings_of SignedOutOfRange) { time_delay = 10; time_delay_normal = Some 10; deadband = 5 }) 10000 (Signed (pos 90)) ∷ at (record (settings_of SignedOutOfRange) { time_delay = 10; time_delay_normal = Some 10; deadband = 5 }) 10000 (Signed (pos 50)) ∷ []) (at (record (settings_of SignedOutOfRange) { time_delay = 10; time_delay_normal = Some 10; deadband = 5 }) 0 (Signed (pos 20))) ≡ []
it_returns_behind_the_same_delay_3 = refl

pub it_returns_behind_the_same_delay_4 : entered (at (record (settings_of SignedOutOfRange) { time_delay = 10; time_delay_normal = Some 10; deadband = 5 }) 0 (Signed (pos 90)) ∷ at (record (settings_of SignedOutOfRange) { time_delay = 10; time_delay_normal = Some 10; deadband = 5 }) 10000 (Signed (pos 90)) ∷ at (record (settings_of SignedOutOfRange) { time_delay = 10; time_delay_normal = Some 10; deadband = 5 }) 10000 (Signed (pos 50)) ∷ at (record (settings_of SignedOutOfRange) { time_delay = 10; time_delay_normal = Some 10; deadband = 5 }) 19999 (Signed (pos 50)) ∷ []) (at (record (settings_of SignedOutOfRange) { time_delay = 10; time_delay_normal = Some 10; deadband = 5 }) 0 (Signed (pos 20))) ≡ []
it_returns_behind_the_same_delay_4 = refl

pub it_returns_behind_the_same_delay_5 : entered (at (record (settings_of SignedOutOfRange) { time_delay = 10; time_delay_normal = Some 10; deadband = 5 }) 0 (Signed (pos 90)) ∷ at (record (settings_of SignedOutOfRange) { time_delay = 10; time_delay_normal = Some 10; deadband = 5 }) 10000 (Signed (pos 90)) ∷ at (record (settings_of SignedOutOfRange) { time_delay = 10; time_delay_normal = Some 10; deadband = 5 }) 10000 (Signed (pos 50)) ∷ at (record (settings_of SignedOutOfRange) { time_delay = 10; time_delay_normal = Some 10; deadband = 5 }) 19999 (Signed (pos 50)) ∷ at (record (settings_of SignedOutOfRange) { time_delay = 10; time_delay_normal = Some 10; deadband = 5 }) 20000 (Signed (pos 50)) ∷ []) (at (record (settings_of SignedOutOfRange) { time_delay = 10; time_delay_normal = Some 10; deadband = 5 }) 0 (Signed (pos 20))) ≡ Normal ∷ []
it_returns_behind_the_same_delay_5 = refl

pub a_break_begins_the_delay_anew_1 : entered (at (record (settings_of SignedOutOfRange) { time_delay = 10; time_delay_normal = Some 10; deadband = 5 }) 0 (Signed (pos 90)) ∷ []) (at (record (settings_of SignedOutOfRange) { time_delay = 10; time_delay_normal = Some 10; deadband = 5 }) 0 (Signed (pos 20))) ≡ []
a_break_begins_the_delay_anew_1 = refl

pub a_break_begins_the_delay_anew_3 : entered (at (record (settings_of SignedOutOfRange) { time_delay = 10; time_delay_normal = Some 10; deadband = 5 }) 0 (Signed (pos 90)) ∷ at (record (settings_of SignedOutOfRange) { time_delay = 10; time_delay_normal = Some 10; deadband = 5 }) 5000 (Signed (pos 90)) ∷ at (record (settings_of SignedOutOfRange) { time_delay = 10; time_delay_normal = Some 10; deadband = 5 }) 5000 (Signed (pos 50)) ∷ []) (at (record (settings_of SignedOutOfRange) { time_delay = 10; time_delay_normal = Some 10; deadband = 5 }) 0 (Signed (pos 20))) ≡ []
a_break_begins_the_delay_anew_3 = refl

pub a_break_begins_the_delay_anew_5 : entered (at (record (settings_of SignedOutOfRange) { time_delay = 10; time_delay_normal = Some 10; deadband = 5 }) 0 (Signed (pos 90)) ∷ at (record (settings_of SignedOutOfRange) { time_delay = 10; time_delay_normal = Some 10; deadband = 5 }) 5000 (Signed (pos 90)) ∷ at (record (settings_of SignedOutOfRange) { time_delay = 10; time_delay_normal = Some 10; deadband = 5 }) 5000 (Signed (pos 50)) ∷ at (record (settings_of SignedOutOfRange) { time_delay = 10; time_delay_normal = Some 10; deadband = 5 }) 6000 (Signed (pos 50)) ∷ at (record (settings_of SignedOutOfRange) { time_delay = 10; time_delay_normal = Some 10; deadband = 5 }) 6000 (Signed (pos 90)) ∷ []) (at (record (settings_of SignedOutOfRange) { time_delay = 10; time_delay_normal = Some 10; deadband = 5 }) 0 (Signed (pos 20))) ≡ []
a_break_begins_the_delay_anew_5 = refl

pub a_break_begins_the_delay_anew_6 : entered (at (record (settings_of SignedOutOfRange) { time_delay = 10; time_delay_normal = Some 10; deadband = 5 }) 0 (Signed (pos 90)) ∷ at (record (settings_of SignedOutOfRange) { time_delay = 10; time_delay_normal = Some 10; deadband = 5 }) 5000 (Signed (pos 90)) ∷ at (record (settings_of SignedOutOfRange) { time_delay = 10; time_delay_normal = Some 10; deadband = 5 }) 5000 (Signed (pos 50)) ∷ at (record (settings_of SignedOutOfRange) { time_delay = 10; time_delay_normal = Some 10; deadband = 5 }) 6000 (Signed (pos 50)) ∷ at (record (settings_of SignedOutOfRange) { time_delay = 10; time_delay_normal = Some 10; deadband = 5 }) 6000 (Signed (pos 90)) ∷ at (record (settings_of SignedOutOfRange) { time_delay = 10; time_delay_normal = Some 10; deadband = 5 }) 15999 (Signed (pos 90)) ∷ []) (at (record (settings_of SignedOutOfRange) { time_delay = 10; time_delay_normal = Some 10; deadband = 5 }) 0 (Signed (pos 20))) ≡ []
a_break_begins_the_delay_anew_6 = refl

pub a_break_begins_the_delay_anew_7 : entered (at (record (settings_of SignedOutOfRange) { time_delay = 10; time_delay_normal = Some 10; deadband = 5 }) 0 (Signed (pos 90)) ∷ at (record (settings_of SignedOutOfRange) { time_delay = 10; time_delay_normal = Some 10; deadband = 5 }) 5000 (Signed (pos 90)) ∷ at (record (settings_of SignedOutOfRange) { time_delay = 10; time_delay_normal = Some 10; deadband = 5 }) 5000 (Signed (pos 50)) ∷ at (record (settings_of SignedOutOfRange) { time_delay = 10; time_delay_normal = Some 10; deadband = 5 }) 6000 (Signed (pos 50)) ∷ at (record (settings_of SignedOutOfRange) { time_delay = 10; time_delay_normal = Some 10; deadband = 5 }) 6000 (Signed (pos 90)) ∷ at (record (settings_of SignedOutOfRange) { time_delay = 10; time_delay_normal = Some 10; deadband = 5 }) 15999 (Signed (pos 90)) ∷ at (record (settings_of SignedOutOfRange) { time_delay = 10; time_delay_normal = Some 10; deadband = 5 }) 16000 (Signed (pos 90)) ∷ []) (at (record (settings_of SignedOutOfRange) { time_delay = 10; time_delay_normal = Some 10; deadband = 5 }) 0 (Signed (pos 20))) ≡ HighLimit ∷ []
a_break_begins_the_delay_anew_7 = refl

pub an_equal_value_goes_on_1 : entered (at (record (settings_of SignedOutOfRange) { time_delay = 10; time_delay_normal = Some 10; deadband = 5 }) 0 (Signed (pos 90)) ∷ []) (at (record (settings_of SignedOutOfRange) { time_delay = 10; time_delay_normal = Some 10; deadband = 5 }) 0 (Signed (pos 20))) ≡ []
an_equal_value_goes_on_1 = refl

pub an_equal_value_goes_on_3 : entered (at (record (settings_of SignedOutOfRange) { time_delay = 10; time_delay_normal = Some 10; deadband = 5 }) 0 (Signed (pos 90)) ∷ at (record (settings_of SignedOutOfRange) { time_delay = 10; time_delay_normal = Some 10; deadband = 5 }) 5000 (Signed (pos 90)) ∷ at (record (settings_of SignedOutOfRange) { time_delay = 10; time_delay_normal = Some 10; deadband = 5 }) 5000 (Signed (pos 90)) ∷ []) (at (record (settings_of SignedOutOfRange) { time_delay = 10; time_delay_normal = Some 10; deadband = 5 }) 0 (Signed (pos 20))) ≡ []
an_equal_value_goes_on_3 = refl

pub an_equal_value_goes_on_4 : entered (at (record (settings_of SignedOutOfRange) { time_delay = 10; time_delay_normal = Some 10; deadband = 5 }) 0 (Signed (pos 90)) ∷ at (record (settings_of SignedOutOfRange) { time_delay = 10; time_delay_normal = Some 10; deadband = 5 }) 5000 (Signed (pos 90)) ∷ at (record (settings_of SignedOutOfRange) { time_delay = 10; time_delay_normal = Some 10; deadband = 5 }) 5000 (Signed (pos 90)) ∷ at (record (settings_of SignedOutOfRange) { time_delay = 10; time_delay_normal = Some 10; deadband = 5 }) 10000 (Signed (pos 95)) ∷ []) (at (record (settings_of SignedOutOfRange) { time_delay = 10; time_delay_normal = Some 10; deadband = 5 }) 0 (Signed (pos 20))) ≡ HighLimit ∷ []
an_equal_value_goes_on_4 = refl

pub high_to_low_1 : entered (at (record (settings_of SignedOutOfRange) { time_delay = 10; time_delay_normal = Some 10; deadband = 5 }) 0 (Signed (pos 90)) ∷ []) (at (record (settings_of SignedOutOfRange) { time_delay = 10; time_delay_normal = Some 10; deadband = 5 }) 0 (Signed (pos 20))) ≡ []
high_to_low_1 = refl

pub high_to_low_2 : entered (at (record (settings_of SignedOutOfRange) { time_delay = 10; time_delay_normal = Some 10; deadband = 5 }) 0 (Signed (pos 90)) ∷ at (record (settings_of SignedOutOfRange) { time_delay = 10; time_delay_normal = Some 10; deadband = 5 }) 10000 (Signed (pos 90)) ∷ []) (at (record (settings_of SignedOutOfRange) { time_delay = 10; time_delay_normal = Some 10; deadband = 5 }) 0 (Signed (pos 20))) ≡ HighLimit ∷ []
high_to_low_2 = refl

pub high_to_low_3 : entered (at (record (settings_of SignedOutOfRange) { time_delay = 10; time_delay_normal = Some 10; deadband = 5 }) 0 (Signed (pos 90)) ∷ at (record (settings_of SignedOutOfRange) { time_delay = 10; time_delay_normal = Some 10; deadband = 5 }) 10000 (Signed (pos 90)) ∷ at (record (settings_of SignedOutOfRange) { time_delay = 10; time_delay_normal = Some 10; deadband = 5 }) 15000 (Signed (pos 90)) ∷ []) (at (record (settings_of SignedOutOfRange) { time_delay = 10; time_delay_normal = Some 10; deadband = 5 }) 0 (Signed (pos 20))) ≡ []
high_to_low_3 = refl

pub high_to_low_4 : entered (at (record (settings_of SignedOutOfRange) { time_delay = 10; time_delay_normal = Some 10; deadband = 5 }) 0 (Signed (pos 90)) ∷ at (record (settings_of SignedOutOfRange) { time_delay = 10; time_delay_normal = Some 10; deadband = 5 }) 10000 (Signed (pos 90)) ∷ at (record (settings_of SignedOutOfRange) { time_delay = 10; time_delay_normal = Some 10; deadband = 5 }) 15000 (Signed (pos 90)) ∷ at (record (settings_of SignedOutOfRange) { time_delay = 10; time_delay_normal = Some 10; deadband = 5 }) 15000 (Signed (pos 10)) ∷ []) (at (record (settings_of SignedOutOfRange) { time_delay = 10; time_delay_normal = Some 10; deadband = 5 }) 0 (Signed (pos 20))) ≡ []
high_to_low_4 = refl

pub high_to_low_5 : entered (at (record (settings_of SignedOutOfRange) { time_delay = 10; time_delay_normal = Some 10; deadband = 5 }) 0 (Signed (pos 90)) ∷ at (record (settings_of SignedOutOfRange) { time_delay = 10; time_delay_normal = Some 10; deadband = 5 }) 10000 (Signed (pos 90)) ∷ at (record (settings_of SignedOutOfRange) { time_delay = 10; time_delay_normal = Some 10; deadband = 5 }) 15000 (Signed (pos 90)) ∷ at (record (settings_of SignedOutOfRange) { time_delay = 10; time_delay_normal = Some 10; deadband = 5 }) 15000 (Signed (pos 10)) ∷ at (record (settings_of SignedOutOfRange) { time_delay = 10; time_delay_normal = Some 10; deadband = 5 }) 25000 (Signed (pos 10)) ∷ []) (at (record (settings_of SignedOutOfRange) { time_delay = 10; time_delay_normal = Some 10; deadband = 5 }) 0 (Signed (pos 20))) ≡ LowLimit ∷ []
high_to_low_5 = refl

pub without_delay_1 : entered (at (record (settings_of SignedOutOfRange) { time_delay = 0; deadband = 5 }) 0 (Signed (pos 80)) ∷ []) (at (record (settings_of SignedOutOfRange) { time_delay = 0; deadband = 5 }) 0 (Signed (pos 20))) ≡ []
without_delay_1 = refl

pub without_delay_2 : entered (at (record (settings_of SignedOutOfRange) { time_delay = 0; deadband = 5 }) 0 (Signed (pos 80)) ∷ at (record (settings_of SignedOutOfRange) { time_delay = 0; deadband = 5 }) 1 (Signed (pos 81)) ∷ []) (at (record (settings_of SignedOutOfRange) { time_delay = 0; deadband = 5 }) 0 (Signed (pos 20))) ≡ HighLimit ∷ []
without_delay_2 = refl

pub without_delay_3 : entered (at (record (settings_of SignedOutOfRange) { time_delay = 0; deadband = 5 }) 0 (Signed (pos 80)) ∷ at (record (settings_of SignedOutOfRange) { time_delay = 0; deadband = 5 }) 1 (Signed (pos 81)) ∷ at (record (settings_of SignedOutOfRange) { time_delay = 0; deadband = 5 }) 2 (Signed (pos 75)) ∷ []) (at (record (settings_of SignedOutOfRange) { time_delay = 0; deadband = 5 }) 0 (Signed (pos 20))) ≡ []
without_delay_3 = refl

pub without_delay_4 : entered (at (record (settings_of SignedOutOfRange) { time_delay = 0; deadband = 5 }) 0 (Signed (pos 80)) ∷ at (record (settings_of SignedOutOfRange) { time_delay = 0; deadband = 5 }) 1 (Signed (pos 81)) ∷ at (record (settings_of SignedOutOfRange) { time_delay = 0; deadband = 5 }) 2 (Signed (pos 75)) ∷ at (record (settings_of SignedOutOfRange) { time_delay = 0; deadband = 5 }) 3 (Signed (pos 74)) ∷ []) (at (record (settings_of SignedOutOfRange) { time_delay = 0; deadband = 5 }) 0 (Signed (pos 20))) ≡ Normal ∷ []
without_delay_4 = refl

pub over_all_numbers_1 : entered (at (record (settings_of SignedOutOfRange) { low_limit = negsuc 2147483646; high_limit = pos 2147483647; deadband = 4294967295; time_delay = 0 }) 0 (Signed (negsuc 2147483647)) ∷ []) (at (record (settings_of SignedOutOfRange) { low_limit = negsuc 2147483646; high_limit = pos 2147483647; deadband = 4294967295; time_delay = 0 }) 0 (Signed (negsuc 2147483646))) ≡ LowLimit ∷ []
over_all_numbers_1 = refl

pub over_all_numbers_2 : entered (at (record (settings_of SignedOutOfRange) { low_limit = negsuc 2147483646; high_limit = pos 2147483647; deadband = 4294967295; time_delay = 0 }) 0 (Signed (negsuc 2147483647)) ∷ at (record (settings_of SignedOutOfRange) { low_limit = negsuc 2147483646; high_limit = pos 2147483647; deadband = 4294967295; time_delay = 0 }) 1 (Signed (pos 2147483647)) ∷ []) (at (record (settings_of SignedOutOfRange) { low_limit = negsuc 2147483646; high_limit = pos 2147483647; deadband = 4294967295; time_delay = 0 }) 0 (Signed (negsuc 2147483646))) ≡ []
over_all_numbers_2 = refl

pub a_fault_comes_at_once_1 : entered (record (at (record (settings_of SignedOutOfRange) { time_delay = 10; time_delay_normal = Some 10; deadband = 5 }) 5 (Signed (pos 20))) { reliability = UnreliableOther; inhibited = false } ∷ []) (at (record (settings_of SignedOutOfRange) { time_delay = 10; time_delay_normal = Some 10; deadband = 5 }) 0 (Signed (pos 20))) ≡ Fault ∷ []
a_fault_comes_at_once_1 = refl

pub a_fault_comes_at_once_2 : entered (record (at (record (settings_of SignedOutOfRange) { time_delay = 10; time_delay_normal = Some 10; deadband = 5 }) 5 (Signed (pos 20))) { reliability = UnreliableOther; inhibited = false } ∷ record (at (record (settings_of SignedOutOfRange) { time_delay = 10; time_delay_normal = Some 10; deadband = 5 }) 6 (Signed (pos 20))) { reliability = UnreliableOther; inhibited = false } ∷ []) (at (record (settings_of SignedOutOfRange) { time_delay = 10; time_delay_normal = Some 10; deadband = 5 }) 0 (Signed (pos 20))) ≡ []
a_fault_comes_at_once_2 = refl

pub a_fault_comes_at_once_3 : entered (record (at (record (settings_of SignedOutOfRange) { time_delay = 10; time_delay_normal = Some 10; deadband = 5 }) 5 (Signed (pos 20))) { reliability = UnreliableOther; inhibited = false } ∷ record (at (record (settings_of SignedOutOfRange) { time_delay = 10; time_delay_normal = Some 10; deadband = 5 }) 6 (Signed (pos 20))) { reliability = UnreliableOther; inhibited = false } ∷ record (at (record (settings_of SignedOutOfRange) { time_delay = 10; time_delay_normal = Some 10; deadband = 5 }) 7 (Signed (pos 20))) { reliability = OverRange; inhibited = false } ∷ []) (at (record (settings_of SignedOutOfRange) { time_delay = 10; time_delay_normal = Some 10; deadband = 5 }) 0 (Signed (pos 20))) ≡ Fault ∷ []
a_fault_comes_at_once_3 = refl

pub a_fault_comes_at_once_4 : entered (record (at (record (settings_of SignedOutOfRange) { time_delay = 10; time_delay_normal = Some 10; deadband = 5 }) 5 (Signed (pos 20))) { reliability = UnreliableOther; inhibited = false } ∷ record (at (record (settings_of SignedOutOfRange) { time_delay = 10; time_delay_normal = Some 10; deadband = 5 }) 6 (Signed (pos 20))) { reliability = UnreliableOther; inhibited = false } ∷ record (at (record (settings_of SignedOutOfRange) { time_delay = 10; time_delay_normal = Some 10; deadband = 5 }) 7 (Signed (pos 20))) { reliability = OverRange; inhibited = false } ∷ at (record (settings_of SignedOutOfRange) { time_delay = 10; time_delay_normal = Some 10; deadband = 5 }) 8 (Signed (pos 20)) ∷ []) (at (record (settings_of SignedOutOfRange) { time_delay = 10; time_delay_normal = Some 10; deadband = 5 }) 0 (Signed (pos 20))) ≡ Normal ∷ []
a_fault_comes_at_once_4 = refl

pub behind_a_fault_a_rule_without_delay_1 : entered (record (at (record (settings_of SignedOutOfRange) { time_delay = 0; deadband = 5 }) 0 (Signed (pos 20))) { reliability = UnreliableOther; inhibited = false } ∷ []) (at (record (settings_of SignedOutOfRange) { time_delay = 0; deadband = 5 }) 0 (Signed (pos 20))) ≡ Fault ∷ []
behind_a_fault_a_rule_without_delay_1 = refl

pub behind_a_fault_a_rule_without_delay_2 : entered (record (at (record (settings_of SignedOutOfRange) { time_delay = 0; deadband = 5 }) 0 (Signed (pos 20))) { reliability = UnreliableOther; inhibited = false } ∷ record (at (record (settings_of SignedOutOfRange) { time_delay = 0; deadband = 5 }) 1 (Signed (pos 90))) { reliability = UnreliableOther; inhibited = false } ∷ []) (at (record (settings_of SignedOutOfRange) { time_delay = 0; deadband = 5 }) 0 (Signed (pos 20))) ≡ []
behind_a_fault_a_rule_without_delay_2 = refl

pub behind_a_fault_a_rule_without_delay_3 : entered (record (at (record (settings_of SignedOutOfRange) { time_delay = 0; deadband = 5 }) 0 (Signed (pos 20))) { reliability = UnreliableOther; inhibited = false } ∷ record (at (record (settings_of SignedOutOfRange) { time_delay = 0; deadband = 5 }) 1 (Signed (pos 90))) { reliability = UnreliableOther; inhibited = false } ∷ at (record (settings_of SignedOutOfRange) { time_delay = 0; deadband = 5 }) 2 (Signed (pos 90)) ∷ []) (at (record (settings_of SignedOutOfRange) { time_delay = 0; deadband = 5 }) 0 (Signed (pos 20))) ≡ Normal ∷ HighLimit ∷ []
behind_a_fault_a_rule_without_delay_3 = refl

pub inhibited_it_is_normal_1 : entered (at (record (settings_of SignedOutOfRange) { time_delay = 10; time_delay_normal = Some 10; deadband = 5 }) 0 (Signed (pos 90)) ∷ []) (at (record (settings_of SignedOutOfRange) { time_delay = 10; time_delay_normal = Some 10; deadband = 5 }) 0 (Signed (pos 20))) ≡ []
inhibited_it_is_normal_1 = refl

pub inhibited_it_is_normal_2 : entered (at (record (settings_of SignedOutOfRange) { time_delay = 10; time_delay_normal = Some 10; deadband = 5 }) 0 (Signed (pos 90)) ∷ at (record (settings_of SignedOutOfRange) { time_delay = 10; time_delay_normal = Some 10; deadband = 5 }) 10000 (Signed (pos 90)) ∷ []) (at (record (settings_of SignedOutOfRange) { time_delay = 10; time_delay_normal = Some 10; deadband = 5 }) 0 (Signed (pos 20))) ≡ HighLimit ∷ []
inhibited_it_is_normal_2 = refl

pub inhibited_it_is_normal_3 : entered (at (record (settings_of SignedOutOfRange) { time_delay = 10; time_delay_normal = Some 10; deadband = 5 }) 0 (Signed (pos 90)) ∷ at (record (settings_of SignedOutOfRange) { time_delay = 10; time_delay_normal = Some 10; deadband = 5 }) 10000 (Signed (pos 90)) ∷ record (at (record (settings_of SignedOutOfRange) { time_delay = 10; time_delay_normal = Some 10; deadband = 5 }) 11000 (Signed (pos 90))) { reliability = NoFaultDetected; inhibited = true } ∷ []) (at (record (settings_of SignedOutOfRange) { time_delay = 10; time_delay_normal = Some 10; deadband = 5 }) 0 (Signed (pos 20))) ≡ Normal ∷ []
inhibited_it_is_normal_3 = refl

pub inhibited_it_is_normal_4 : entered (at (record (settings_of SignedOutOfRange) { time_delay = 10; time_delay_normal = Some 10; deadband = 5 }) 0 (Signed (pos 90)) ∷ at (record (settings_of SignedOutOfRange) { time_delay = 10; time_delay_normal = Some 10; deadband = 5 }) 10000 (Signed (pos 90)) ∷ record (at (record (settings_of SignedOutOfRange) { time_delay = 10; time_delay_normal = Some 10; deadband = 5 }) 11000 (Signed (pos 90))) { reliability = NoFaultDetected; inhibited = true } ∷ at (record (settings_of SignedOutOfRange) { time_delay = 10; time_delay_normal = Some 10; deadband = 5 }) 12000 (Signed (pos 90)) ∷ []) (at (record (settings_of SignedOutOfRange) { time_delay = 10; time_delay_normal = Some 10; deadband = 5 }) 0 (Signed (pos 20))) ≡ []
inhibited_it_is_normal_4 = refl

pub inhibited_it_is_normal_5 : entered (at (record (settings_of SignedOutOfRange) { time_delay = 10; time_delay_normal = Some 10; deadband = 5 }) 0 (Signed (pos 90)) ∷ at (record (settings_of SignedOutOfRange) { time_delay = 10; time_delay_normal = Some 10; deadband = 5 }) 10000 (Signed (pos 90)) ∷ record (at (record (settings_of SignedOutOfRange) { time_delay = 10; time_delay_normal = Some 10; deadband = 5 }) 11000 (Signed (pos 90))) { reliability = NoFaultDetected; inhibited = true } ∷ at (record (settings_of SignedOutOfRange) { time_delay = 10; time_delay_normal = Some 10; deadband = 5 }) 12000 (Signed (pos 90)) ∷ at (record (settings_of SignedOutOfRange) { time_delay = 10; time_delay_normal = Some 10; deadband = 5 }) 20999 (Signed (pos 90)) ∷ []) (at (record (settings_of SignedOutOfRange) { time_delay = 10; time_delay_normal = Some 10; deadband = 5 }) 0 (Signed (pos 20))) ≡ []
inhibited_it_is_normal_5 = refl

pub inhibited_it_is_normal_6 : entered (at (record (settings_of SignedOutOfRange) { time_delay = 10; time_delay_normal = Some 10; deadband = 5 }) 0 (Signed (pos 90)) ∷ at (record (settings_of SignedOutOfRange) { time_delay = 10; time_delay_normal = Some 10; deadband = 5 }) 10000 (Signed (pos 90)) ∷ record (at (record (settings_of SignedOutOfRange) { time_delay = 10; time_delay_normal = Some 10; deadband = 5 }) 11000 (Signed (pos 90))) { reliability = NoFaultDetected; inhibited = true } ∷ at (record (settings_of SignedOutOfRange) { time_delay = 10; time_delay_normal = Some 10; deadband = 5 }) 12000 (Signed (pos 90)) ∷ at (record (settings_of SignedOutOfRange) { time_delay = 10; time_delay_normal = Some 10; deadband = 5 }) 20999 (Signed (pos 90)) ∷ at (record (settings_of SignedOutOfRange) { time_delay = 10; time_delay_normal = Some 10; deadband = 5 }) 21000 (Signed (pos 90)) ∷ []) (at (record (settings_of SignedOutOfRange) { time_delay = 10; time_delay_normal = Some 10; deadband = 5 }) 0 (Signed (pos 20))) ≡ HighLimit ∷ []
inhibited_it_is_normal_6 = refl

pub the_last_inhibited_point_counts_1 : entered (record (at (record (settings_of SignedOutOfRange) { time_delay = 10; time_delay_normal = Some 10; deadband = 5 }) 5000 (Signed (pos 90))) { reliability = NoFaultDetected; inhibited = true } ∷ []) (at (record (settings_of SignedOutOfRange) { time_delay = 10; time_delay_normal = Some 10; deadband = 5 }) 0 (Signed (pos 90))) ≡ []
the_last_inhibited_point_counts_1 = refl

pub the_last_inhibited_point_counts_2 : entered (record (at (record (settings_of SignedOutOfRange) { time_delay = 10; time_delay_normal = Some 10; deadband = 5 }) 5000 (Signed (pos 90))) { reliability = NoFaultDetected; inhibited = true } ∷ at (record (settings_of SignedOutOfRange) { time_delay = 10; time_delay_normal = Some 10; deadband = 5 }) 14999 (Signed (pos 90)) ∷ []) (at (record (settings_of SignedOutOfRange) { time_delay = 10; time_delay_normal = Some 10; deadband = 5 }) 0 (Signed (pos 90))) ≡ []
the_last_inhibited_point_counts_2 = refl

pub the_last_inhibited_point_counts_3 : entered (record (at (record (settings_of SignedOutOfRange) { time_delay = 10; time_delay_normal = Some 10; deadband = 5 }) 5000 (Signed (pos 90))) { reliability = NoFaultDetected; inhibited = true } ∷ at (record (settings_of SignedOutOfRange) { time_delay = 10; time_delay_normal = Some 10; deadband = 5 }) 14999 (Signed (pos 90)) ∷ at (record (settings_of SignedOutOfRange) { time_delay = 10; time_delay_normal = Some 10; deadband = 5 }) 15000 (Signed (pos 90)) ∷ []) (at (record (settings_of SignedOutOfRange) { time_delay = 10; time_delay_normal = Some 10; deadband = 5 }) 0 (Signed (pos 90))) ≡ HighLimit ∷ []
the_last_inhibited_point_counts_3 = refl

pub inhibited_a_fault_comes_1 : entered (record (at (record (settings_of SignedOutOfRange) { time_delay = 10; time_delay_normal = Some 10; deadband = 5 }) 1 (Signed (pos 20))) { reliability = UnreliableOther; inhibited = true } ∷ []) (at (record (settings_of SignedOutOfRange) { time_delay = 10; time_delay_normal = Some 10; deadband = 5 }) 0 (Signed (pos 20))) ≡ Fault ∷ []
inhibited_a_fault_comes_1 = refl

pub inhibited_a_fault_comes_2 : entered (record (at (record (settings_of SignedOutOfRange) { time_delay = 10; time_delay_normal = Some 10; deadband = 5 }) 1 (Signed (pos 20))) { reliability = UnreliableOther; inhibited = true } ∷ record (at (record (settings_of SignedOutOfRange) { time_delay = 10; time_delay_normal = Some 10; deadband = 5 }) 2 (Signed (pos 20))) { reliability = NoFaultDetected; inhibited = true } ∷ []) (at (record (settings_of SignedOutOfRange) { time_delay = 10; time_delay_normal = Some 10; deadband = 5 }) 0 (Signed (pos 20))) ≡ Normal ∷ []
inhibited_a_fault_comes_2 = refl

pub from_one_alarm_value_to_another_1 : entered (at (record (settings_of ChangeOfState) { time_delay = 5; alarm_values = Unsigned 2 ∷ Unsigned 3 ∷ [] }) 0 (Unsigned 2) ∷ []) (at (record (settings_of ChangeOfState) { time_delay = 5; alarm_values = Unsigned 2 ∷ Unsigned 3 ∷ [] }) 0 (Unsigned 1)) ≡ []
from_one_alarm_value_to_another_1 = refl

pub from_one_alarm_value_to_another_2 : entered (at (record (settings_of ChangeOfState) { time_delay = 5; alarm_values = Unsigned 2 ∷ Unsigned 3 ∷ [] }) 0 (Unsigned 2) ∷ at (record (settings_of ChangeOfState) { time_delay = 5; alarm_values = Unsigned 2 ∷ Unsigned 3 ∷ [] }) 5000 (Unsigned 2) ∷ []) (at (record (settings_of ChangeOfState) { time_delay = 5; alarm_values = Unsigned 2 ∷ Unsigned 3 ∷ [] }) 0 (Unsigned 1)) ≡ Offnormal ∷ []
from_one_alarm_value_to_another_2 = refl

pub from_one_alarm_value_to_another_3 : entered (at (record (settings_of ChangeOfState) { time_delay = 5; alarm_values = Unsigned 2 ∷ Unsigned 3 ∷ [] }) 0 (Unsigned 2) ∷ at (record (settings_of ChangeOfState) { time_delay = 5; alarm_values = Unsigned 2 ∷ Unsigned 3 ∷ [] }) 5000 (Unsigned 2) ∷ at (record (settings_of ChangeOfState) { time_delay = 5; alarm_values = Unsigned 2 ∷ Unsigned 3 ∷ [] }) 6000 (Unsigned 2) ∷ []) (at (record (settings_of ChangeOfState) { time_delay = 5; alarm_values = Unsigned 2 ∷ Unsigned 3 ∷ [] }) 0 (Unsigned 1)) ≡ []
from_one_alarm_value_to_another_3 = refl

pub from_one_alarm_value_to_another_4 : entered (at (record (settings_of ChangeOfState) { time_delay = 5; alarm_values = Unsigned 2 ∷ Unsigned 3 ∷ [] }) 0 (Unsigned 2) ∷ at (record (settings_of ChangeOfState) { time_delay = 5; alarm_values = Unsigned 2 ∷ Unsigned 3 ∷ [] }) 5000 (Unsigned 2) ∷ at (record (settings_of ChangeOfState) { time_delay = 5; alarm_values = Unsigned 2 ∷ Unsigned 3 ∷ [] }) 6000 (Unsigned 2) ∷ at (record (settings_of ChangeOfState) { time_delay = 5; alarm_values = Unsigned 2 ∷ Unsigned 3 ∷ [] }) 6000 (Unsigned 3) ∷ []) (at (record (settings_of ChangeOfState) { time_delay = 5; alarm_values = Unsigned 2 ∷ Unsigned 3 ∷ [] }) 0 (Unsigned 1)) ≡ []
from_one_alarm_value_to_another_4 = refl

pub from_one_alarm_value_to_another_5 : entered (at (record (settings_of ChangeOfState) { time_delay = 5; alarm_values = Unsigned 2 ∷ Unsigned 3 ∷ [] }) 0 (Unsigned 2) ∷ at (record (settings_of ChangeOfState) { time_delay = 5; alarm_values = Unsigned 2 ∷ Unsigned 3 ∷ [] }) 5000 (Unsigned 2) ∷ at (record (settings_of ChangeOfState) { time_delay = 5; alarm_values = Unsigned 2 ∷ Unsigned 3 ∷ [] }) 6000 (Unsigned 2) ∷ at (record (settings_of ChangeOfState) { time_delay = 5; alarm_values = Unsigned 2 ∷ Unsigned 3 ∷ [] }) 6000 (Unsigned 3) ∷ at (record (settings_of ChangeOfState) { time_delay = 5; alarm_values = Unsigned 2 ∷ Unsigned 3 ∷ [] }) 11000 (Unsigned 3) ∷ []) (at (record (settings_of ChangeOfState) { time_delay = 5; alarm_values = Unsigned 2 ∷ Unsigned 3 ∷ [] }) 0 (Unsigned 1)) ≡ Offnormal ∷ []
from_one_alarm_value_to_another_5 = refl

pub from_one_alarm_value_to_another_6 : entered (at (record (settings_of ChangeOfState) { time_delay = 5; alarm_values = Unsigned 2 ∷ Unsigned 3 ∷ [] }) 0 (Unsigned 2) ∷ at (record (settings_of ChangeOfState) { time_delay = 5; alarm_values = Unsigned 2 ∷ Unsigned 3 ∷ [] }) 5000 (Unsigned 2) ∷ at (record (settings_of ChangeOfState) { time_delay = 5; alarm_values = Unsigned 2 ∷ Unsigned 3 ∷ [] }) 6000 (Unsigned 2) ∷ at (record (settings_of ChangeOfState) { time_delay = 5; alarm_values = Unsigned 2 ∷ Unsigned 3 ∷ [] }) 6000 (Unsigned 3) ∷ at (record (settings_of ChangeOfState) { time_delay = 5; alarm_values = Unsigned 2 ∷ Unsigned 3 ∷ [] }) 11000 (Unsigned 3) ∷ at (record (settings_of ChangeOfState) { time_delay = 5; alarm_values = Unsigned 2 ∷ Unsigned 3 ∷ [] }) 12000 (Unsigned 3) ∷ []) (at (record (settings_of ChangeOfState) { time_delay = 5; alarm_values = Unsigned 2 ∷ Unsigned 3 ∷ [] }) 0 (Unsigned 1)) ≡ []
from_one_alarm_value_to_another_6 = refl

pub from_one_alarm_value_to_another_7 : entered (at (record (settings_of ChangeOfState) { time_delay = 5; alarm_values = Unsigned 2 ∷ Unsigned 3 ∷ [] }) 0 (Unsigned 2) ∷ at (record (settings_of ChangeOfState) { time_delay = 5; alarm_values = Unsigned 2 ∷ Unsigned 3 ∷ [] }) 5000 (Unsigned 2) ∷ at (record (settings_of ChangeOfState) { time_delay = 5; alarm_values = Unsigned 2 ∷ Unsigned 3 ∷ [] }) 6000 (Unsigned 2) ∷ at (record (settings_of ChangeOfState) { time_delay = 5; alarm_values = Unsigned 2 ∷ Unsigned 3 ∷ [] }) 6000 (Unsigned 3) ∷ at (record (settings_of ChangeOfState) { time_delay = 5; alarm_values = Unsigned 2 ∷ Unsigned 3 ∷ [] }) 11000 (Unsigned 3) ∷ at (record (settings_of ChangeOfState) { time_delay = 5; alarm_values = Unsigned 2 ∷ Unsigned 3 ∷ [] }) 12000 (Unsigned 3) ∷ at (record (settings_of ChangeOfState) { time_delay = 5; alarm_values = Unsigned 2 ∷ Unsigned 3 ∷ [] }) 12000 (Unsigned 2) ∷ []) (at (record (settings_of ChangeOfState) { time_delay = 5; alarm_values = Unsigned 2 ∷ Unsigned 3 ∷ [] }) 0 (Unsigned 1)) ≡ []
from_one_alarm_value_to_another_7 = refl

pub from_one_alarm_value_to_another_8 : entered (at (record (settings_of ChangeOfState) { time_delay = 5; alarm_values = Unsigned 2 ∷ Unsigned 3 ∷ [] }) 0 (Unsigned 2) ∷ at (record (settings_of ChangeOfState) { time_delay = 5; alarm_values = Unsigned 2 ∷ Unsigned 3 ∷ [] }) 5000 (Unsigned 2) ∷ at (record (settings_of ChangeOfState) { time_delay = 5; alarm_values = Unsigned 2 ∷ Unsigned 3 ∷ [] }) 6000 (Unsigned 2) ∷ at (record (settings_of ChangeOfState) { time_delay = 5; alarm_values = Unsigned 2 ∷ Unsigned 3 ∷ [] }) 6000 (Unsigned 3) ∷ at (record (settings_of ChangeOfState) { time_delay = 5; alarm_values = Unsigned 2 ∷ Unsigned 3 ∷ [] }) 11000 (Unsigned 3) ∷ at (record (settings_of ChangeOfState) { time_delay = 5; alarm_values = Unsigned 2 ∷ Unsigned 3 ∷ [] }) 12000 (Unsigned 3) ∷ at (record (settings_of ChangeOfState) { time_delay = 5; alarm_values = Unsigned 2 ∷ Unsigned 3 ∷ [] }) 12000 (Unsigned 2) ∷ at (record (settings_of ChangeOfState) { time_delay = 5; alarm_values = Unsigned 2 ∷ Unsigned 3 ∷ [] }) 16000 (Unsigned 2) ∷ []) (at (record (settings_of ChangeOfState) { time_delay = 5; alarm_values = Unsigned 2 ∷ Unsigned 3 ∷ [] }) 0 (Unsigned 1)) ≡ []
from_one_alarm_value_to_another_8 = refl

pub from_one_alarm_value_to_another_9 : entered (at (record (settings_of ChangeOfState) { time_delay = 5; alarm_values = Unsigned 2 ∷ Unsigned 3 ∷ [] }) 0 (Unsigned 2) ∷ at (record (settings_of ChangeOfState) { time_delay = 5; alarm_values = Unsigned 2 ∷ Unsigned 3 ∷ [] }) 5000 (Unsigned 2) ∷ at (record (settings_of ChangeOfState) { time_delay = 5; alarm_values = Unsigned 2 ∷ Unsigned 3 ∷ [] }) 6000 (Unsigned 2) ∷ at (record (settings_of ChangeOfState) { time_delay = 5; alarm_values = Unsigned 2 ∷ Unsigned 3 ∷ [] }) 6000 (Unsigned 3) ∷ at (record (settings_of ChangeOfState) { time_delay = 5; alarm_values = Unsigned 2 ∷ Unsigned 3 ∷ [] }) 11000 (Unsigned 3) ∷ at (record (settings_of ChangeOfState) { time_delay = 5; alarm_values = Unsigned 2 ∷ Unsigned 3 ∷ [] }) 12000 (Unsigned 3) ∷ at (record (settings_of ChangeOfState) { time_delay = 5; alarm_values = Unsigned 2 ∷ Unsigned 3 ∷ [] }) 12000 (Unsigned 2) ∷ at (record (settings_of ChangeOfState) { time_delay = 5; alarm_values = Unsigned 2 ∷ Unsigned 3 ∷ [] }) 16000 (Unsigned 2) ∷ at (record (settings_of ChangeOfState) { time_delay = 5; alarm_values = Unsigned 2 ∷ Unsigned 3 ∷ [] }) 16000 (Unsigned 3) ∷ []) (at (record (settings_of ChangeOfState) { time_delay = 5; alarm_values = Unsigned 2 ∷ Unsigned 3 ∷ [] }) 0 (Unsigned 1)) ≡ []
from_one_alarm_value_to_another_9 = refl

pub from_one_alarm_value_to_another_10 : entered (at (record (settings_of ChangeOfState) { time_delay = 5; alarm_values = Unsigned 2 ∷ Unsigned 3 ∷ [] }) 0 (Unsigned 2) ∷ at (record (settings_of ChangeOfState) { time_delay = 5; alarm_values = Unsigned 2 ∷ Unsigned 3 ∷ [] }) 5000 (Unsigned 2) ∷ at (record (settings_of ChangeOfState) { time_delay = 5; alarm_values = Unsigned 2 ∷ Unsigned 3 ∷ [] }) 6000 (Unsigned 2) ∷ at (record (settings_of ChangeOfState) { time_delay = 5; alarm_values = Unsigned 2 ∷ Unsigned 3 ∷ [] }) 6000 (Unsigned 3) ∷ at (record (settings_of ChangeOfState) { time_delay = 5; alarm_values = Unsigned 2 ∷ Unsigned 3 ∷ [] }) 11000 (Unsigned 3) ∷ at (record (settings_of ChangeOfState) { time_delay = 5; alarm_values = Unsigned 2 ∷ Unsigned 3 ∷ [] }) 12000 (Unsigned 3) ∷ at (record (settings_of ChangeOfState) { time_delay = 5; alarm_values = Unsigned 2 ∷ Unsigned 3 ∷ [] }) 12000 (Unsigned 2) ∷ at (record (settings_of ChangeOfState) { time_delay = 5; alarm_values = Unsigned 2 ∷ Unsigned 3 ∷ [] }) 16000 (Unsigned 2) ∷ at (record (settings_of ChangeOfState) { time_delay = 5; alarm_values = Unsigned 2 ∷ Unsigned 3 ∷ [] }) 16000 (Unsigned 3) ∷ at (record (settings_of ChangeOfState) { time_delay = 5; alarm_values = Unsigned 2 ∷ Unsigned 3 ∷ [] }) 21000 (Unsigned 3) ∷ []) (at (record (settings_of ChangeOfState) { time_delay = 5; alarm_values = Unsigned 2 ∷ Unsigned 3 ∷ [] }) 0 (Unsigned 1)) ≡ []
from_one_alarm_value_to_another_10 = refl

pub the_first_point_moves_nothing : (course [] (at (record (settings_of SignedOutOfRange) { time_delay = 0; deadband = 5 }) 0 (Signed (pos 90)))).state ≡ Normal
the_first_point_moves_nothing = refl

pub the_first_point_counts_for_a_delay : entered (at (record (settings_of SignedOutOfRange) { time_delay = 10; time_delay_normal = Some 10; deadband = 5 }) 10000 (Signed (pos 90)) ∷ []) (at (record (settings_of SignedOutOfRange) { time_delay = 10; time_delay_normal = Some 10; deadband = 5 }) 0 (Signed (pos 90))) ≡ HighLimit ∷ []
the_first_point_counts_for_a_delay = refl

pub a_delay_is_that_of_the_point : entered (at (record (settings_of SignedOutOfRange) { time_delay = 10; time_delay_normal = Some 10; deadband = 5 }) 5000 (Signed (pos 90)) ∷ at (record (record (settings_of SignedOutOfRange) { time_delay = 10; time_delay_normal = Some 10; deadband = 5 }) { time_delay = 6 }) 6000 (Signed (pos 90)) ∷ []) (at (record (settings_of SignedOutOfRange) { time_delay = 10; time_delay_normal = Some 10; deadband = 5 }) 0 (Signed (pos 90))) ≡ HighLimit ∷ []
a_delay_is_that_of_the_point = refl

pub the_cause_is_the_position : (course (at (record (settings_of ChangeOfState) { time_delay = 5; alarm_values = Unsigned 2 ∷ Unsigned 3 ∷ [] }) 0 (Unsigned 3) ∷ at (record (settings_of ChangeOfState) { time_delay = 5; alarm_values = Unsigned 2 ∷ Unsigned 3 ∷ [] }) 5000 (Unsigned 3) ∷ []) (at (record (settings_of ChangeOfState) { time_delay = 5; alarm_values = Unsigned 2 ∷ Unsigned 3 ∷ [] }) 0 (Unsigned 1))).cause ≡ Some 1
the_cause_is_the_position = refl

pub the_cause_stays_behind_a_return : (course (at (record (settings_of ChangeOfState) { time_delay = 5; alarm_values = Unsigned 2 ∷ Unsigned 3 ∷ [] }) 0 (Unsigned 3) ∷ at (record (settings_of ChangeOfState) { time_delay = 5; alarm_values = Unsigned 2 ∷ Unsigned 3 ∷ [] }) 5000 (Unsigned 3) ∷ at (record (settings_of ChangeOfState) { time_delay = 5; alarm_values = Unsigned 2 ∷ Unsigned 3 ∷ [] }) 5000 (Unsigned 1) ∷ at (record (settings_of ChangeOfState) { time_delay = 5; alarm_values = Unsigned 2 ∷ Unsigned 3 ∷ [] }) 10000 (Unsigned 1) ∷ []) (at (record (settings_of ChangeOfState) { time_delay = 5; alarm_values = Unsigned 2 ∷ Unsigned 3 ∷ [] }) 0 (Unsigned 1))).cause ≡ Some 1
the_cause_stays_behind_a_return = refl

pub there_is_no_cause_at_first : (course [] (at (record (settings_of ChangeOfState) { time_delay = 5; alarm_values = Unsigned 2 ∷ Unsigned 3 ∷ [] }) 0 (Unsigned 3))).cause ≡ None
there_is_no_cause_at_first = refl

pub a_fault_is_no_rule : map (λ (m : Move). m.by_reliability) (moves_at SignedOutOfRange (at (record (settings_of SignedOutOfRange) { time_delay = 0; deadband = 5 }) 0 (Signed (pos 20))) (at (record (settings_of SignedOutOfRange) { time_delay = 0; deadband = 5 }) 2 (Signed (pos 90)) ∷ record (at (record (settings_of SignedOutOfRange) { time_delay = 0; deadband = 5 }) 1 (Signed (pos 90))) { reliability = UnreliableOther } ∷ [])) ≡ true ∷ false ∷ []
a_fault_is_no_rule = refl
