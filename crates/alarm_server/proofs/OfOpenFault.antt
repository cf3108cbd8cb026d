-- The status where a journal isn't opened, and its counts of faults.
use Rattle.std.proofs.Common.{◌≡◌, ◌≢◌, ℕ, Err, IsErrOf, refl}
use Rattle.ground_io.specs.Counts.{HasCause}
use Rattle.alarm_journal.specs.declared.open_fault.OpenFault.{OpenFault}
use Rattle.alarm_journal.specs.declared.open_fault.OpenFault.TheVariants.{DiskFault, SmallDevice, Foreign, Damaged, NoMemory}
use Rattle.alarm_journal.specs.Press.{IsRefusal}
use Rattle.alarm_server.specs.declared.status.Status.TheVariants as status
use Rattle.alarm_server.specs.Status.{IsSessionFault, IsShippedFault, of_open_fault}

pub is_session_fault : (fault : OpenFault) → IsSessionFault (of_open_fault fault)
is_session_fault DiskFault = tt
is_session_fault (SmallDevice size need) = tt
is_session_fault (Foreign at) = tt
is_session_fault (Damaged at) = tt
is_session_fault NoMemory = tt

pub is_shipped_fault : (fault : OpenFault) → IsShippedFault (of_open_fault fault)
is_shipped_fault DiskFault = tt
is_shipped_fault (SmallDevice size need) = tt
is_shipped_fault (Foreign at) = tt
is_shipped_fault (Damaged at) = tt
is_shipped_fault NoMemory = tt

-- the journal is refused for what its octets are, and for nothing else
pub refusal_is : (fault refusal : OpenFault) → of_open_fault fault ≡ status.JournalRefused refusal → IsRefusal fault × (fault ≡ refusal)
refusal_is DiskFault refusal same = absurd cc
refusal_is (SmallDevice size need) refusal same = (tt, cc)
refusal_is (Foreign at) refusal same = (tt, cc)
refusal_is (Damaged at) refusal same = (tt, cc)
refusal_is NoMemory refusal same = absurd cc

-- its cause is that of the opening
pub disk_cause : {T : Type 0} (fault : OpenFault) (before after : ℕ) → HasCause before after (fault ≡ DiskFault) → HasCause before after (IsErrOf {T = T} (Err (of_open_fault fault)) status.DiskFault)
disk_cause DiskFault before after cause = record { later = cause.later; rose = λ same. cause.rose refl }
disk_cause (SmallDevice size need) before after cause = record { later = cause.later; rose = λ same. absurd cc }
disk_cause (Foreign at) before after cause = record { later = cause.later; rose = λ same. absurd cc }
disk_cause (Damaged at) before after cause = record { later = cause.later; rose = λ same. absurd cc }
disk_cause NoMemory before after cause = record { later = cause.later; rose = λ same. absurd cc }

-- a failed call is told as that
pub unhidden : (fault : OpenFault) (before after : ℕ) → (fault ≢ DiskFault → after ≡ before) → of_open_fault fault ≢ status.DiskFault → after ≡ before
unhidden DiskFault before after told other = absurd (other refl)
unhidden (SmallDevice size need) before after told other = told (λ same. absurd cc)
unhidden (Foreign at) before after told other = told (λ same. absurd cc)
unhidden (Damaged at) before after told other = told (λ same. absurd cc)
unhidden NoMemory before after told other = told (λ same. absurd cc)
