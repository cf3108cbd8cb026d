-- Reliabilities (ANSI/ASHRAE 135-2020, clause 21, BACnetReliability) that the server knows.
use Rattle.std.specs.Prelude.{ℕ, ◌==◌, Option, List, [], ◌∷◌, find}
use Rattle.bac_values.specs.declared.reliability.Reliability.{Reliability}
use Rattle.bac_values.specs.declared.reliability.Reliability.TheVariants.{NoFaultDetected, OverRange, UnderRange, UnreliableOther, MultiStateFault, CommunicationFailure, MonitoredObjectFault}

-- the number of each reliability
abbrev pub number_of_reliability : Reliability → ℕ
number_of_reliability NoFaultDetected = 0
number_of_reliability OverRange = 2
number_of_reliability UnderRange = 3
number_of_reliability UnreliableOther = 7
number_of_reliability MultiStateFault = 9
number_of_reliability CommunicationFailure = 12
number_of_reliability MonitoredObjectFault = 14

abbrev pub reliabilities : List Reliability
reliabilities = NoFaultDetected ∷ OverRange ∷ UnderRange ∷ UnreliableOther ∷ MultiStateFault ∷ CommunicationFailure ∷ MonitoredObjectFault ∷ []

-- the reliability with a number
abbrev pub reliability_of_number : ℕ → Option Reliability
reliability_of_number number = find (λ reliability. number_of_reliability reliability == number) reliabilities
