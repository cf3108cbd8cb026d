-- The reasons of Rejects and Aborts (ANSI/ASHRAE 135-2020, clauses 18 and 21, BACnetRejectReason and BACnetAbortReason).
use Rattle.std.specs.Prelude.{ℕ}

-- ---- of a Reject

abbrev pub invalid_tag_reason : ℕ
invalid_tag_reason = 4

abbrev pub missing_required_parameter_reason : ℕ
missing_required_parameter_reason = 5

abbrev pub too_many_arguments_reason : ℕ
too_many_arguments_reason = 7

abbrev pub unrecognized_service_reason : ℕ
unrecognized_service_reason = 9

-- ---- of an Abort

abbrev pub other_reason : ℕ
other_reason = 0

abbrev pub segmentation_not_supported_reason : ℕ
segmentation_not_supported_reason = 4
