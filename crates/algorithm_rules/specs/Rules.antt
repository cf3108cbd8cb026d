-- The rules of each event algorithm, in the order in which they are tried (ANSI/ASHRAE 135-2020, 13.3).
use Rattle.std.specs.Prelude.{List, [], ◌∷◌}
use Rattle.bac_values.specs.declared.event_state.EventState.{EventState}
use Rattle.bac_values.specs.declared.event_state.EventState.TheVariants.{Normal, Offnormal, HighLimit, LowLimit}
use Rattle.algorithm_rules.specs.declared.table.Algorithm.{Algorithm}
use Rattle.algorithm_rules.specs.declared.table.Algorithm.TheVariants.{ChangeOfBitstring, ChangeOfState, CommandFailure, UnsignedRange, SignedOutOfRange, UnsignedOutOfRange, ChangeOfCharacterstring}
use Rattle.algorithm_rules.specs.declared.table.Rule.{Rule}
use Rattle.algorithm_rules.specs.declared.table.Test.{Test}
use Rattle.algorithm_rules.specs.declared.table.Test.TheVariants.{SomeMatch, NoMatch, OtherMatch, FeedbackDiffers, FeedbackEquals, AboveEnabledHigh, BelowEnabledLow, HighDisabled, LowDisabled, BelowHighLessDeadband, AboveLowPlusDeadband, AboveHigh, BelowLow, Within}
use Rattle.algorithm_rules.specs.declared.table.Waiting.{Waiting}
use Rattle.algorithm_rules.specs.declared.table.Waiting.TheVariants.{TimeDelay, NormalDelay, AtOnce}

-- a line of the table: where the rule leads, its condition, and how long it must last
abbrev pub to : EventState → Test → Waiting → Rule
to target test wait = record { target = target; test = test; wait = wait }

-- CHANGE_OF_STATE, CHANGE_OF_BITSTRING and CHANGE_OF_CHARACTERSTRING
abbrev pub match_rules : EventState → List Rule
match_rules Normal =
    to Offnormal SomeMatch TimeDelay ∷
    []
match_rules Offnormal =
    to Normal NoMatch NormalDelay ∷
    to Offnormal OtherMatch TimeDelay ∷
    []
match_rules _ = []

-- COMMAND_FAILURE
abbrev pub command_rules : EventState → List Rule
command_rules Normal =
    to Offnormal FeedbackDiffers TimeDelay ∷
    []
command_rules Offnormal =
    to Normal FeedbackEquals NormalDelay ∷
    []
command_rules _ = []

-- SIGNED_OUT_OF_RANGE and UNSIGNED_OUT_OF_RANGE
abbrev pub limit_rules : EventState → List Rule
limit_rules Normal =
    to HighLimit AboveEnabledHigh TimeDelay ∷
    to LowLimit BelowEnabledLow TimeDelay ∷
    []
limit_rules HighLimit =
    to Normal HighDisabled AtOnce ∷
    to LowLimit BelowEnabledLow TimeDelay ∷
    to Normal BelowHighLessDeadband NormalDelay ∷
    []
limit_rules LowLimit =
    to Normal LowDisabled AtOnce ∷
    to HighLimit AboveEnabledHigh TimeDelay ∷
    to Normal AboveLowPlusDeadband NormalDelay ∷
    []
limit_rules _ = []

-- UNSIGNED_RANGE
abbrev pub range_rules : EventState → List Rule
range_rules Normal =
    to HighLimit AboveHigh TimeDelay ∷
    to LowLimit BelowLow TimeDelay ∷
    []
range_rules HighLimit =
    to LowLimit BelowLow TimeDelay ∷
    to Normal Within NormalDelay ∷
    []
range_rules LowLimit =
    to HighLimit AboveHigh TimeDelay ∷
    to Normal Within NormalDelay ∷
    []
range_rules _ = []

-- the rules that are tried in a state
abbrev pub rules_of : Algorithm → EventState → List Rule
rules_of ChangeOfState = match_rules
rules_of ChangeOfBitstring = match_rules
rules_of ChangeOfCharacterstring = match_rules
rules_of CommandFailure = command_rules
rules_of SignedOutOfRange = limit_rules
rules_of UnsignedOutOfRange = limit_rules
rules_of UnsignedRange = range_rules
