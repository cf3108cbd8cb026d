-- Each row of the table of rules (13.3), at its condition and beside it: all rules of the state in their order, with their keys and seconds.
use Rattle.std.specs.Prelude.{◌≡◌, refl, pos, negsuc, true, false, Some, None, [], ◌∷◌, codes}
use Rattle.profile.specs.Numbers.{Null, Unsigned, Signed, Text, Bits, Enumerated, Named, Normal, Fault, Offnormal, HighLimit, LowLimit}
use Rattle.profile.specs.Numbers.{ChangeOfBitstring, ChangeOfState, CommandFailure, UnsignedRange, SignedOutOfRange, UnsignedOutOfRange, ChangeOfCharacterstring}
use Rattle.profile.proofs.Samples.{settings_of, seen, rules_in}

pub signed_normal_at_the_high_limit : rules_in SignedOutOfRange Normal None (seen (settings_of SignedOutOfRange) (Signed (pos 80))) ≡ (HighLimit, None, 10) ∷ (LowLimit, None, 10) ∷ []
signed_normal_at_the_high_limit = refl

pub signed_normal_above_the_high_limit : rules_in SignedOutOfRange Normal None (seen (settings_of SignedOutOfRange) (Signed (pos 81))) ≡ (HighLimit, Some 0, 10) ∷ (LowLimit, None, 10) ∷ []
signed_normal_above_the_high_limit = refl

pub signed_normal_at_the_low_limit : rules_in SignedOutOfRange Normal None (seen (settings_of SignedOutOfRange) (Signed (pos 20))) ≡ (HighLimit, None, 10) ∷ (LowLimit, None, 10) ∷ []
signed_normal_at_the_low_limit = refl

pub signed_normal_below_the_low_limit : rules_in SignedOutOfRange Normal None (seen (settings_of SignedOutOfRange) (Signed (pos 19))) ≡ (HighLimit, None, 10) ∷ (LowLimit, Some 0, 10) ∷ []
signed_normal_below_the_low_limit = refl

pub signed_normal_above_a_high_limit_that_is_off : rules_in SignedOutOfRange Normal None (seen (record (settings_of SignedOutOfRange) { high_limit_enable = false }) (Signed (pos 81))) ≡ (HighLimit, None, 10) ∷ (LowLimit, None, 10) ∷ []
signed_normal_above_a_high_limit_that_is_off = refl

pub signed_normal_below_a_low_limit_that_is_off : rules_in SignedOutOfRange Normal None (seen (record (settings_of SignedOutOfRange) { low_limit_enable = false }) (Signed (pos 19))) ≡ (HighLimit, None, 10) ∷ (LowLimit, None, 10) ∷ []
signed_normal_below_a_low_limit_that_is_off = refl

pub signed_high_limit_within_the_deadband : rules_in SignedOutOfRange HighLimit None (seen (settings_of SignedOutOfRange) (Signed (pos 75))) ≡ (Normal, None, 0) ∷ (LowLimit, None, 10) ∷ (Normal, None, 10) ∷ []
signed_high_limit_within_the_deadband = refl

pub signed_high_limit_below_the_deadband : rules_in SignedOutOfRange HighLimit None (seen (settings_of SignedOutOfRange) (Signed (pos 74))) ≡ (Normal, None, 0) ∷ (LowLimit, None, 10) ∷ (Normal, Some 0, 10) ∷ []
signed_high_limit_below_the_deadband = refl

pub signed_high_limit_below_the_low_limit : rules_in SignedOutOfRange HighLimit None (seen (settings_of SignedOutOfRange) (Signed (pos 19))) ≡ (Normal, None, 0) ∷ (LowLimit, Some 0, 10) ∷ (Normal, Some 0, 10) ∷ []
signed_high_limit_below_the_low_limit = refl

pub signed_high_limit_at_the_low_limit : rules_in SignedOutOfRange HighLimit None (seen (settings_of SignedOutOfRange) (Signed (pos 20))) ≡ (Normal, None, 0) ∷ (LowLimit, None, 10) ∷ (Normal, Some 0, 10) ∷ []
signed_high_limit_at_the_low_limit = refl

pub signed_high_limit_below_a_low_limit_that_is_off : rules_in SignedOutOfRange HighLimit None (seen (record (settings_of SignedOutOfRange) { low_limit_enable = false }) (Signed (pos 19))) ≡ (Normal, None, 0) ∷ (LowLimit, None, 10) ∷ (Normal, Some 0, 10) ∷ []
signed_high_limit_below_a_low_limit_that_is_off = refl

pub signed_high_limit_that_is_off : rules_in SignedOutOfRange HighLimit None (seen (record (settings_of SignedOutOfRange) { high_limit_enable = false }) (Signed (pos 90))) ≡ (Normal, Some 0, 0) ∷ (LowLimit, None, 10) ∷ (Normal, None, 10) ∷ []
signed_high_limit_that_is_off = refl

pub signed_high_limit_returns_by_its_own_delay : rules_in SignedOutOfRange HighLimit None (seen (record (settings_of SignedOutOfRange) { time_delay_normal = Some 3 }) (Signed (pos 74))) ≡ (Normal, None, 0) ∷ (LowLimit, None, 10) ∷ (Normal, Some 0, 3) ∷ []
signed_high_limit_returns_by_its_own_delay = refl

pub signed_low_limit_within_the_deadband : rules_in SignedOutOfRange LowLimit None (seen (settings_of SignedOutOfRange) (Signed (pos 25))) ≡ (Normal, None, 0) ∷ (HighLimit, None, 10) ∷ (Normal, None, 10) ∷ []
signed_low_limit_within_the_deadband = refl

pub signed_low_limit_above_the_deadband : rules_in SignedOutOfRange LowLimit None (seen (settings_of SignedOutOfRange) (Signed (pos 26))) ≡ (Normal, None, 0) ∷ (HighLimit, None, 10) ∷ (Normal, Some 0, 10) ∷ []
signed_low_limit_above_the_deadband = refl

pub signed_low_limit_above_the_high_limit : rules_in SignedOutOfRange LowLimit None (seen (settings_of SignedOutOfRange) (Signed (pos 81))) ≡ (Normal, None, 0) ∷ (HighLimit, Some 0, 10) ∷ (Normal, Some 0, 10) ∷ []
signed_low_limit_above_the_high_limit = refl

pub signed_low_limit_at_the_high_limit : rules_in SignedOutOfRange LowLimit None (seen (settings_of SignedOutOfRange) (Signed (pos 80))) ≡ (Normal, None, 0) ∷ (HighLimit, None, 10) ∷ (Normal, Some 0, 10) ∷ []
signed_low_limit_at_the_high_limit = refl

pub signed_low_limit_above_a_high_limit_that_is_off : rules_in SignedOutOfRange LowLimit None (seen (record (settings_of SignedOutOfRange) { high_limit_enable = false }) (Signed (pos 81))) ≡ (Normal, None, 0) ∷ (HighLimit, None, 10) ∷ (Normal, Some 0, 10) ∷ []
signed_low_limit_above_a_high_limit_that_is_off = refl

pub signed_low_limit_that_is_off : rules_in SignedOutOfRange LowLimit None (seen (record (settings_of SignedOutOfRange) { low_limit_enable = false }) (Signed (pos 10))) ≡ (Normal, Some 0, 0) ∷ (HighLimit, None, 10) ∷ (Normal, None, 10) ∷ []
signed_low_limit_that_is_off = refl

pub signed_low_limit_returns_by_its_own_delay : rules_in SignedOutOfRange LowLimit None (seen (record (settings_of SignedOutOfRange) { time_delay_normal = Some 3 }) (Signed (pos 26))) ≡ (Normal, None, 0) ∷ (HighLimit, None, 10) ∷ (Normal, Some 0, 3) ∷ []
signed_low_limit_returns_by_its_own_delay = refl

pub signed_fault_has_no_rules : rules_in SignedOutOfRange Fault None (seen (settings_of SignedOutOfRange) (Signed (pos 81))) ≡ []
signed_fault_has_no_rules = refl

pub signed_offnormal_has_no_rules : rules_in SignedOutOfRange Offnormal None (seen (settings_of SignedOutOfRange) (Signed (pos 81))) ≡ []
signed_offnormal_has_no_rules = refl

pub unsigned_normal_at_the_high_limit : rules_in UnsignedOutOfRange Normal None (seen (settings_of UnsignedOutOfRange) (Unsigned 80)) ≡ (HighLimit, None, 10) ∷ (LowLimit, None, 10) ∷ []
unsigned_normal_at_the_high_limit = refl

pub unsigned_normal_above_the_high_limit : rules_in UnsignedOutOfRange Normal None (seen (settings_of UnsignedOutOfRange) (Unsigned 81)) ≡ (HighLimit, Some 0, 10) ∷ (LowLimit, None, 10) ∷ []
unsigned_normal_above_the_high_limit = refl

pub unsigned_normal_at_the_low_limit : rules_in UnsignedOutOfRange Normal None (seen (settings_of UnsignedOutOfRange) (Unsigned 20)) ≡ (HighLimit, None, 10) ∷ (LowLimit, None, 10) ∷ []
unsigned_normal_at_the_low_limit = refl

pub unsigned_normal_below_the_low_limit : rules_in UnsignedOutOfRange Normal None (seen (settings_of UnsignedOutOfRange) (Unsigned 19)) ≡ (HighLimit, None, 10) ∷ (LowLimit, Some 0, 10) ∷ []
unsigned_normal_below_the_low_limit = refl

pub unsigned_normal_above_a_high_limit_that_is_off : rules_in UnsignedOutOfRange Normal None (seen (record (settings_of UnsignedOutOfRange) { high_limit_enable = false }) (Unsigned 81)) ≡ (HighLimit, None, 10) ∷ (LowLimit, None, 10) ∷ []
unsigned_normal_above_a_high_limit_that_is_off = refl

pub unsigned_normal_below_a_low_limit_that_is_off : rules_in UnsignedOutOfRange Normal None (seen (record (settings_of UnsignedOutOfRange) { low_limit_enable = false }) (Unsigned 19)) ≡ (HighLimit, None, 10) ∷ (LowLimit, None, 10) ∷ []
unsigned_normal_below_a_low_limit_that_is_off = refl

pub unsigned_high_limit_within_the_deadband : rules_in UnsignedOutOfRange HighLimit None (seen (settings_of UnsignedOutOfRange) (Unsigned 75)) ≡ (Normal, None, 0) ∷ (LowLimit, None, 10) ∷ (Normal, None, 10) ∷ []
unsigned_high_limit_within_the_deadband = refl

pub unsigned_high_limit_below_the_deadband : rules_in UnsignedOutOfRange HighLimit None (seen (settings_of UnsignedOutOfRange) (Unsigned 74)) ≡ (Normal, None, 0) ∷ (LowLimit, None, 10) ∷ (Normal, Some 0, 10) ∷ []
unsigned_high_limit_below_the_deadband = refl

pub unsigned_high_limit_below_the_low_limit : rules_in UnsignedOutOfRange HighLimit None (seen (settings_of UnsignedOutOfRange) (Unsigned 19)) ≡ (Normal, None, 0) ∷ (LowLimit, Some 0, 10) ∷ (Normal, Some 0, 10) ∷ []
unsigned_high_limit_below_the_low_limit = refl

pub unsigned_high_limit_at_the_low_limit : rules_in UnsignedOutOfRange HighLimit None (seen (settings_of UnsignedOutOfRange) (Unsigned 20)) ≡ (Normal, None, 0) ∷ (LowLimit, None, 10) ∷ (Normal, Some 0, 10) ∷ []
unsigned_high_limit_at_the_low_limit = refl

pub unsigned_high_limit_below_a_low_limit_that_is_off : rules_in UnsignedOutOfRange HighLimit None (seen (record (settings_of UnsignedOutOfRange) { low_limit_enable = false }) (Unsigned 19)) ≡ (Normal, None, 0) ∷ (LowLimit, None, 10) ∷ (Normal, Some 0, 10) ∷ []
unsigned_high_limit_below_a_low_limit_that_is_off = refl

pub unsigned_high_limit_that_is_off : rules_in UnsignedOutOfRange HighLimit None (seen (record (settings_of UnsignedOutOfRange) { high_limit_enable = false }) (Unsigned 90)) ≡ (Normal, Some 0, 0) ∷ (LowLimit, None, 10) ∷ (Normal, None, 10) ∷ []
unsigned_high_limit_that_is_off = refl

pub unsigned_high_limit_returns_by_its_own_delay : rules_in UnsignedOutOfRange HighLimit None (seen (record (settings_of UnsignedOutOfRange) { time_delay_normal = Some 3 }) (Unsigned 74)) ≡ (Normal, None, 0) ∷ (LowLimit, None, 10) ∷ (Normal, Some 0, 3) ∷ []
unsigned_high_limit_returns_by_its_own_delay = refl

pub unsigned_low_limit_within_the_deadband : rules_in UnsignedOutOfRange LowLimit None (seen (settings_of UnsignedOutOfRange) (Unsigned 25)) ≡ (Normal, None, 0) ∷ (HighLimit, None, 10) ∷ (Normal, None, 10) ∷ []
unsigned_low_limit_within_the_deadband = refl

pub unsigned_low_limit_above_the_deadband : rules_in UnsignedOutOfRange LowLimit None (seen (settings_of UnsignedOutOfRange) (Unsigned 26)) ≡ (Normal, None, 0) ∷ (HighLimit, None, 10) ∷ (Normal, Some 0, 10) ∷ []
unsigned_low_limit_above_the_deadband = refl

pub unsigned_low_limit_above_the_high_limit : rules_in UnsignedOutOfRange LowLimit None (seen (settings_of UnsignedOutOfRange) (Unsigned 81)) ≡ (Normal, None, 0) ∷ (HighLimit, Some 0, 10) ∷ (Normal, Some 0, 10) ∷ []
unsigned_low_limit_above_the_high_limit = refl

pub unsigned_low_limit_at_the_high_limit : rules_in UnsignedOutOfRange LowLimit None (seen (settings_of UnsignedOutOfRange) (Unsigned 80)) ≡ (Normal, None, 0) ∷ (HighLimit, None, 10) ∷ (Normal, Some 0, 10) ∷ []
unsigned_low_limit_at_the_high_limit = refl

pub unsigned_low_limit_above_a_high_limit_that_is_off : rules_in UnsignedOutOfRange LowLimit None (seen (record (settings_of UnsignedOutOfRange) { high_limit_enable = false }) (Unsigned 81)) ≡ (Normal, None, 0) ∷ (HighLimit, None, 10) ∷ (Normal, Some 0, 10) ∷ []
unsigned_low_limit_above_a_high_limit_that_is_off = refl

pub unsigned_low_limit_that_is_off : rules_in UnsignedOutOfRange LowLimit None (seen (record (settings_of UnsignedOutOfRange) { low_limit_enable = false }) (Unsigned 10)) ≡ (Normal, Some 0, 0) ∷ (HighLimit, None, 10) ∷ (Normal, None, 10) ∷ []
unsigned_low_limit_that_is_off = refl

pub unsigned_low_limit_returns_by_its_own_delay : rules_in UnsignedOutOfRange LowLimit None (seen (record (settings_of UnsignedOutOfRange) { time_delay_normal = Some 3 }) (Unsigned 26)) ≡ (Normal, None, 0) ∷ (HighLimit, None, 10) ∷ (Normal, Some 0, 3) ∷ []
unsigned_low_limit_returns_by_its_own_delay = refl

pub unsigned_fault_has_no_rules : rules_in UnsignedOutOfRange Fault None (seen (settings_of UnsignedOutOfRange) (Unsigned 81)) ≡ []
unsigned_fault_has_no_rules = refl

pub unsigned_offnormal_has_no_rules : rules_in UnsignedOutOfRange Offnormal None (seen (settings_of UnsignedOutOfRange) (Unsigned 81)) ≡ []
unsigned_offnormal_has_no_rules = refl

pub signed_limits_have_no_bounds : rules_in SignedOutOfRange LowLimit None (seen (record (settings_of SignedOutOfRange) { low_limit = pos 2147483647; high_limit = pos 2147483647; deadband = 4294967295 }) (Signed (pos 2147483647))) ≡ (Normal, None, 0) ∷ (HighLimit, None, 10) ∷ (Normal, None, 10) ∷ []
signed_limits_have_no_bounds = refl

pub unsigned_limits_go_below_nothing : rules_in UnsignedOutOfRange HighLimit None (seen (record (settings_of UnsignedOutOfRange) { high_limit = pos 3; low_limit = pos 0 }) (Unsigned 0)) ≡ (Normal, None, 0) ∷ (LowLimit, None, 10) ∷ (Normal, None, 10) ∷ []
unsigned_limits_go_below_nothing = refl

pub negative_values_are_below : rules_in SignedOutOfRange Normal None (seen (settings_of SignedOutOfRange) (Signed (negsuc 0))) ≡ (HighLimit, None, 10) ∷ (LowLimit, Some 0, 10) ∷ []
negative_values_are_below = refl

pub range_normal_at_the_high_limit : rules_in UnsignedRange Normal None (seen (record (settings_of UnsignedRange) { low_limit_enable = false; high_limit_enable = false; time_delay_normal = Some 3 }) (Unsigned 80)) ≡ (HighLimit, None, 10) ∷ (LowLimit, None, 10) ∷ []
range_normal_at_the_high_limit = refl

pub range_normal_above_the_high_limit : rules_in UnsignedRange Normal None (seen (record (settings_of UnsignedRange) { low_limit_enable = false; high_limit_enable = false; time_delay_normal = Some 3 }) (Unsigned 81)) ≡ (HighLimit, Some 0, 10) ∷ (LowLimit, None, 10) ∷ []
range_normal_above_the_high_limit = refl

pub range_normal_at_the_low_limit : rules_in UnsignedRange Normal None (seen (record (settings_of UnsignedRange) { low_limit_enable = false; high_limit_enable = false; time_delay_normal = Some 3 }) (Unsigned 20)) ≡ (HighLimit, None, 10) ∷ (LowLimit, None, 10) ∷ []
range_normal_at_the_low_limit = refl

pub range_normal_below_the_low_limit : rules_in UnsignedRange Normal None (seen (record (settings_of UnsignedRange) { low_limit_enable = false; high_limit_enable = false; time_delay_normal = Some 3 }) (Unsigned 19)) ≡ (HighLimit, None, 10) ∷ (LowLimit, Some 0, 10) ∷ []
range_normal_below_the_low_limit = refl

pub range_high_limit_still_above : rules_in UnsignedRange HighLimit None (seen (record (settings_of UnsignedRange) { low_limit_enable = false; high_limit_enable = false; time_delay_normal = Some 3 }) (Unsigned 81)) ≡ (LowLimit, None, 10) ∷ (Normal, None, 3) ∷ []
range_high_limit_still_above = refl

pub range_high_limit_at_the_high_limit : rules_in UnsignedRange HighLimit None (seen (record (settings_of UnsignedRange) { low_limit_enable = false; high_limit_enable = false; time_delay_normal = Some 3 }) (Unsigned 80)) ≡ (LowLimit, None, 10) ∷ (Normal, Some 0, 3) ∷ []
range_high_limit_at_the_high_limit = refl

pub range_high_limit_at_the_low_limit : rules_in UnsignedRange HighLimit None (seen (record (settings_of UnsignedRange) { low_limit_enable = false; high_limit_enable = false; time_delay_normal = Some 3 }) (Unsigned 20)) ≡ (LowLimit, None, 10) ∷ (Normal, Some 0, 3) ∷ []
range_high_limit_at_the_low_limit = refl

pub range_high_limit_below_the_low_limit : rules_in UnsignedRange HighLimit None (seen (record (settings_of UnsignedRange) { low_limit_enable = false; high_limit_enable = false; time_delay_normal = Some 3 }) (Unsigned 19)) ≡ (LowLimit, Some 0, 10) ∷ (Normal, None, 3) ∷ []
range_high_limit_below_the_low_limit = refl

pub range_low_limit_still_below : rules_in UnsignedRange LowLimit None (seen (record (settings_of UnsignedRange) { low_limit_enable = false; high_limit_enable = false; time_delay_normal = Some 3 }) (Unsigned 19)) ≡ (HighLimit, None, 10) ∷ (Normal, None, 3) ∷ []
range_low_limit_still_below = refl

pub range_low_limit_at_the_low_limit : rules_in UnsignedRange LowLimit None (seen (record (settings_of UnsignedRange) { low_limit_enable = false; high_limit_enable = false; time_delay_normal = Some 3 }) (Unsigned 20)) ≡ (HighLimit, None, 10) ∷ (Normal, Some 0, 3) ∷ []
range_low_limit_at_the_low_limit = refl

pub range_low_limit_at_the_high_limit : rules_in UnsignedRange LowLimit None (seen (record (settings_of UnsignedRange) { low_limit_enable = false; high_limit_enable = false; time_delay_normal = Some 3 }) (Unsigned 80)) ≡ (HighLimit, None, 10) ∷ (Normal, Some 0, 3) ∷ []
range_low_limit_at_the_high_limit = refl

pub range_low_limit_above_the_high_limit : rules_in UnsignedRange LowLimit None (seen (record (settings_of UnsignedRange) { low_limit_enable = false; high_limit_enable = false; time_delay_normal = Some 3 }) (Unsigned 81)) ≡ (HighLimit, Some 0, 10) ∷ (Normal, None, 3) ∷ []
range_low_limit_above_the_high_limit = refl

pub range_offnormal_has_no_rules : rules_in UnsignedRange Offnormal None (seen (record (settings_of UnsignedRange) { low_limit_enable = false; high_limit_enable = false; time_delay_normal = Some 3 }) (Unsigned 81)) ≡ []
range_offnormal_has_no_rules = refl

pub state_normal_without_a_match : rules_in ChangeOfState Normal None (seen (record (settings_of ChangeOfState) { time_delay_normal = Some 3; alarm_values = Unsigned 2 ∷ Unsigned 3 ∷ [] }) (Unsigned 1)) ≡ (Offnormal, None, 10) ∷ []
state_normal_without_a_match = refl

pub state_normal_with_the_first : rules_in ChangeOfState Normal None (seen (record (settings_of ChangeOfState) { time_delay_normal = Some 3; alarm_values = Unsigned 2 ∷ Unsigned 3 ∷ [] }) (Unsigned 2)) ≡ (Offnormal, Some 0, 10) ∷ []
state_normal_with_the_first = refl

pub state_normal_with_the_second : rules_in ChangeOfState Normal None (seen (record (settings_of ChangeOfState) { time_delay_normal = Some 3; alarm_values = Unsigned 2 ∷ Unsigned 3 ∷ [] }) (Unsigned 3)) ≡ (Offnormal, Some 0, 10) ∷ []
state_normal_with_the_second = refl

pub state_normal_with_another_datatype : rules_in ChangeOfState Normal None (seen (record (settings_of ChangeOfState) { time_delay_normal = Some 3; alarm_values = Unsigned 2 ∷ Unsigned 3 ∷ [] }) (Enumerated 2)) ≡ (Offnormal, None, 10) ∷ []
state_normal_with_another_datatype = refl

pub state_offnormal_with_the_cause : rules_in ChangeOfState Offnormal (Some 0) (seen (record (settings_of ChangeOfState) { time_delay_normal = Some 3; alarm_values = Unsigned 2 ∷ Unsigned 3 ∷ [] }) (Unsigned 2)) ≡ (Normal, None, 3) ∷ (Offnormal, None, 10) ∷ []
state_offnormal_with_the_cause = refl

pub state_offnormal_with_another : rules_in ChangeOfState Offnormal (Some 0) (seen (record (settings_of ChangeOfState) { time_delay_normal = Some 3; alarm_values = Unsigned 2 ∷ Unsigned 3 ∷ [] }) (Unsigned 3)) ≡ (Normal, None, 3) ∷ (Offnormal, Some 1, 10) ∷ []
state_offnormal_with_another = refl

pub state_offnormal_with_the_first_again : rules_in ChangeOfState Offnormal (Some 1) (seen (record (settings_of ChangeOfState) { time_delay_normal = Some 3; alarm_values = Unsigned 2 ∷ Unsigned 3 ∷ [] }) (Unsigned 2)) ≡ (Normal, None, 3) ∷ (Offnormal, Some 0, 10) ∷ []
state_offnormal_with_the_first_again = refl

pub state_offnormal_without_a_match : rules_in ChangeOfState Offnormal (Some 0) (seen (record (settings_of ChangeOfState) { time_delay_normal = Some 3; alarm_values = Unsigned 2 ∷ Unsigned 3 ∷ [] }) (Unsigned 1)) ≡ (Normal, Some 0, 3) ∷ (Offnormal, None, 10) ∷ []
state_offnormal_without_a_match = refl

pub state_in_a_limit_has_no_rules : rules_in ChangeOfState HighLimit None (seen (record (settings_of ChangeOfState) { time_delay_normal = Some 3; alarm_values = Unsigned 2 ∷ Unsigned 3 ∷ [] }) (Unsigned 2)) ≡ []
state_in_a_limit_has_no_rules = refl

pub binary_normal_inactive : rules_in ChangeOfState Normal None (seen (record (settings_of ChangeOfState) { time_delay_normal = Some 3; alarm_values = Enumerated 1 ∷ [] }) (Enumerated 0)) ≡ (Offnormal, None, 10) ∷ []
binary_normal_inactive = refl

pub binary_normal_active : rules_in ChangeOfState Normal None (seen (record (settings_of ChangeOfState) { time_delay_normal = Some 3; alarm_values = Enumerated 1 ∷ [] }) (Enumerated 1)) ≡ (Offnormal, Some 0, 10) ∷ []
binary_normal_active = refl

pub binary_offnormal_inactive : rules_in ChangeOfState Offnormal (Some 0) (seen (record (settings_of ChangeOfState) { time_delay_normal = Some 3; alarm_values = Enumerated 1 ∷ [] }) (Enumerated 0)) ≡ (Normal, Some 0, 3) ∷ (Offnormal, None, 10) ∷ []
binary_offnormal_inactive = refl

pub binary_offnormal_active : rules_in ChangeOfState Offnormal (Some 0) (seen (record (settings_of ChangeOfState) { time_delay_normal = Some 3; alarm_values = Enumerated 1 ∷ [] }) (Enumerated 1)) ≡ (Normal, None, 3) ∷ (Offnormal, None, 10) ∷ []
binary_offnormal_active = refl

pub bits_normal_without_a_match : rules_in ChangeOfBitstring Normal None (seen (record (settings_of ChangeOfBitstring) { time_delay_normal = Some 3; bit_mask = Some (false ∷ false ∷ true ∷ true ∷ []); alarm_values = (Bits (false ∷ false ∷ false ∷ true ∷ [])) ∷ (Bits (false ∷ false ∷ true ∷ false ∷ [])) ∷ [] }) (Bits (false ∷ false ∷ false ∷ false ∷ []))) ≡ (Offnormal, None, 10) ∷ []
bits_normal_without_a_match = refl

pub bits_normal_beside_the_mask : rules_in ChangeOfBitstring Normal None (seen (record (settings_of ChangeOfBitstring) { time_delay_normal = Some 3; bit_mask = Some (false ∷ false ∷ true ∷ true ∷ []); alarm_values = (Bits (false ∷ false ∷ false ∷ true ∷ [])) ∷ (Bits (false ∷ false ∷ true ∷ false ∷ [])) ∷ [] }) (Bits (true ∷ true ∷ false ∷ true ∷ []))) ≡ (Offnormal, Some 0, 10) ∷ []
bits_normal_beside_the_mask = refl

pub bits_normal_shorter : rules_in ChangeOfBitstring Normal None (seen (record (settings_of ChangeOfBitstring) { time_delay_normal = Some 3; bit_mask = Some (false ∷ false ∷ true ∷ true ∷ []); alarm_values = (Bits (false ∷ false ∷ false ∷ true ∷ [])) ∷ (Bits (false ∷ false ∷ true ∷ false ∷ [])) ∷ [] }) (Bits (false ∷ false ∷ true ∷ []))) ≡ (Offnormal, None, 10) ∷ []
bits_normal_shorter = refl

pub bits_offnormal_with_another : rules_in ChangeOfBitstring Offnormal (Some 0) (seen (record (settings_of ChangeOfBitstring) { time_delay_normal = Some 3; bit_mask = Some (false ∷ false ∷ true ∷ true ∷ []); alarm_values = (Bits (false ∷ false ∷ false ∷ true ∷ [])) ∷ (Bits (false ∷ false ∷ true ∷ false ∷ [])) ∷ [] }) (Bits (false ∷ false ∷ true ∷ false ∷ []))) ≡ (Normal, None, 3) ∷ (Offnormal, Some 1, 10) ∷ []
bits_offnormal_with_another = refl

pub bits_offnormal_with_the_cause : rules_in ChangeOfBitstring Offnormal (Some 1) (seen (record (settings_of ChangeOfBitstring) { time_delay_normal = Some 3; bit_mask = Some (false ∷ false ∷ true ∷ true ∷ []); alarm_values = (Bits (false ∷ false ∷ false ∷ true ∷ [])) ∷ (Bits (false ∷ false ∷ true ∷ false ∷ [])) ∷ [] }) (Bits (false ∷ true ∷ true ∷ false ∷ []))) ≡ (Normal, None, 3) ∷ (Offnormal, None, 10) ∷ []
bits_offnormal_with_the_cause = refl

pub bits_offnormal_without_a_match : rules_in ChangeOfBitstring Offnormal (Some 1) (seen (record (settings_of ChangeOfBitstring) { time_delay_normal = Some 3; bit_mask = Some (false ∷ false ∷ true ∷ true ∷ []); alarm_values = (Bits (false ∷ false ∷ false ∷ true ∷ [])) ∷ (Bits (false ∷ false ∷ true ∷ false ∷ [])) ∷ [] }) (Bits (false ∷ false ∷ true ∷ true ∷ []))) ≡ (Normal, Some 0, 3) ∷ (Offnormal, None, 10) ∷ []
bits_offnormal_without_a_match = refl

pub bits_without_a_mask_differ : rules_in ChangeOfBitstring Normal None (seen (record (settings_of ChangeOfBitstring) { time_delay_normal = Some 3; alarm_values = (Bits (false ∷ true ∷ [])) ∷ [] }) (Bits (true ∷ true ∷ []))) ≡ (Offnormal, None, 10) ∷ []
bits_without_a_mask_differ = refl

pub bits_without_a_mask_match : rules_in ChangeOfBitstring Normal None (seen (record (settings_of ChangeOfBitstring) { time_delay_normal = Some 3; alarm_values = (Bits (false ∷ true ∷ [])) ∷ [] }) (Bits (false ∷ true ∷ []))) ≡ (Offnormal, Some 0, 10) ∷ []
bits_without_a_mask_match = refl

pub an_empty_text_matches_the_empty_one : rules_in ChangeOfCharacterstring Normal None (seen (record (settings_of ChangeOfCharacterstring) { time_delay_normal = Some 3; alarm_values = (Text []) ∷ (Text (codes "fire")) ∷ [] }) (Text [])) ≡ (Offnormal, Some 0, 10) ∷ []
an_empty_text_matches_the_empty_one = refl

pub a_text_is_found_in_another : rules_in ChangeOfCharacterstring Offnormal (Some 0) (seen (record (settings_of ChangeOfCharacterstring) { time_delay_normal = Some 3; alarm_values = (Text []) ∷ (Text (codes "fire")) ∷ [] }) (Text (codes "no fire here"))) ≡ (Normal, None, 3) ∷ (Offnormal, Some 1, 10) ∷ []
a_text_is_found_in_another = refl

pub a_text_is_found_at_the_end : rules_in ChangeOfCharacterstring Offnormal (Some 0) (seen (record (settings_of ChangeOfCharacterstring) { time_delay_normal = Some 3; alarm_values = (Text []) ∷ (Text (codes "fire")) ∷ [] }) (Text (codes "a fire"))) ≡ (Normal, None, 3) ∷ (Offnormal, Some 1, 10) ∷ []
a_text_is_found_at_the_end = refl

pub a_text_is_not_found : rules_in ChangeOfCharacterstring Offnormal (Some 1) (seen (record (settings_of ChangeOfCharacterstring) { time_delay_normal = Some 3; alarm_values = (Text []) ∷ (Text (codes "fire")) ∷ [] }) (Text (codes "calm"))) ≡ (Normal, Some 0, 3) ∷ (Offnormal, None, 10) ∷ []
a_text_is_not_found = refl

pub a_part_of_a_text_is_not_found : rules_in ChangeOfCharacterstring Normal None (seen (record (settings_of ChangeOfCharacterstring) { time_delay_normal = Some 3; alarm_values = (Text []) ∷ (Text (codes "fire")) ∷ [] }) (Text (codes "fir"))) ≡ (Offnormal, None, 10) ∷ []
a_part_of_a_text_is_not_found = refl

pub the_empty_text_is_in_no_other : rules_in ChangeOfCharacterstring Normal None (seen (record (settings_of ChangeOfCharacterstring) { time_delay_normal = Some 3; alarm_values = (Text []) ∷ (Text (codes "fire")) ∷ [] }) (Text (codes "x"))) ≡ (Offnormal, None, 10) ∷ []
the_empty_text_is_in_no_other = refl

pub a_command_fails : rules_in CommandFailure Normal None (record { settings = record (settings_of CommandFailure) { time_delay_normal = Some 3 }; value = (Signed (pos 5)); feedback = Some (Signed (pos 6)) }) ≡ (Offnormal, Some 0, 10) ∷ []
a_command_fails = refl

pub a_command_is_followed : rules_in CommandFailure Normal None (record { settings = record (settings_of CommandFailure) { time_delay_normal = Some 3 }; value = (Signed (pos 5)); feedback = Some (Signed (pos 5)) }) ≡ (Offnormal, None, 10) ∷ []
a_command_is_followed = refl

pub a_failed_command_stays : rules_in CommandFailure Offnormal None (record { settings = record (settings_of CommandFailure) { time_delay_normal = Some 3 }; value = (Signed (pos 5)); feedback = Some (Signed (pos 6)) }) ≡ (Normal, None, 3) ∷ []
a_failed_command_stays = refl

pub a_failed_command_is_followed : rules_in CommandFailure Offnormal None (record { settings = record (settings_of CommandFailure) { time_delay_normal = Some 3 }; value = (Signed (pos 5)); feedback = Some (Signed (pos 5)) }) ≡ (Normal, Some 0, 3) ∷ []
a_failed_command_is_followed = refl

pub a_text_is_followed_by_itself_alone : rules_in CommandFailure Normal None (record { settings = record (settings_of CommandFailure) { time_delay_normal = Some 3 }; value = (Text (codes "on and on")); feedback = Some (Text (codes "on")) }) ≡ (Offnormal, Some 0, 10) ∷ []
a_text_is_followed_by_itself_alone = refl

pub an_empty_text_is_followed : rules_in CommandFailure Normal None (record { settings = record (settings_of CommandFailure) { time_delay_normal = Some 3 }; value = (Text []); feedback = Some (Text []) }) ≡ (Offnormal, None, 10) ∷ []
an_empty_text_is_followed = refl

pub bits_are_followed_whole : rules_in CommandFailure Normal None (record { settings = record (settings_of CommandFailure) { time_delay_normal = Some 3 }; value = (Bits (false ∷ true ∷ [])); feedback = Some (Bits (true ∷ true ∷ [])) }) ≡ (Offnormal, Some 0, 10) ∷ []
bits_are_followed_whole = refl

pub a_choice_is_followed : rules_in CommandFailure Normal None (record { settings = record (settings_of CommandFailure) { time_delay_normal = Some 3 }; value = (Enumerated 1); feedback = Some (Enumerated 1) }) ≡ (Offnormal, None, 10) ∷ []
a_choice_is_followed = refl

pub nothing_is_followed_by_nothing : rules_in CommandFailure Normal None (record { settings = settings_of CommandFailure; value = Null; feedback = Some Null }) ≡ (Offnormal, None, 10) ∷ []
nothing_is_followed_by_nothing = refl

pub an_identifier_is_followed : rules_in CommandFailure Normal None (record { settings = settings_of CommandFailure; value = Named (record { type = 5; instance = 7 }); feedback = Some (Named (record { type = 5; instance = 7 })) }) ≡ (Offnormal, None, 10) ∷ []
an_identifier_is_followed = refl

pub another_identifier_is_no_answer : rules_in CommandFailure Normal None (record { settings = settings_of CommandFailure; value = Named (record { type = 5; instance = 7 }); feedback = Some (Named (record { type = 5; instance = 8 })) }) ≡ (Offnormal, Some 0, 10) ∷ []
another_identifier_is_no_answer = refl

pub a_command_in_fault_has_no_rules : rules_in CommandFailure Fault None (record { settings = record (settings_of CommandFailure) { time_delay_normal = Some 3 }; value = (Signed (pos 5)); feedback = Some (Signed (pos 6)) }) ≡ []
a_command_in_fault_has_no_rules = refl
