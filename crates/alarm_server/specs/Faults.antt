-- How a trial and a workload end before their end. Neither touches the disk.
use Rattle.alarm_server.specs.declared.status.Status.{Status}
use Rattle.alarm_server.specs.declared.status.Status.TheVariants.{Done, Usage, SiteRefused, ScriptRefused, ReadFault, EmitFault, DiskFault, JournalRefused, NoMemory, LinkFault}

-- an end of a trial, which has no site
abbrev pub IsTrialFault : Status → Type 0
IsTrialFault Done = ⊥
IsTrialFault Usage = ⊥
IsTrialFault (SiteRefused fault) = ⊥
IsTrialFault (ScriptRefused line) = Unit {0}
IsTrialFault ReadFault = Unit {0}
IsTrialFault EmitFault = Unit {0}
IsTrialFault DiskFault = ⊥
IsTrialFault (JournalRefused fault) = ⊥
IsTrialFault LinkFault = ⊥
IsTrialFault NoMemory = Unit {0}

-- an end of a workload, which reads nothing
abbrev pub IsWorkloadFault : Status → Type 0
IsWorkloadFault Done = ⊥
IsWorkloadFault Usage = ⊥
IsWorkloadFault (SiteRefused fault) = Unit {0}
IsWorkloadFault (ScriptRefused line) = Unit {0}
IsWorkloadFault ReadFault = ⊥
IsWorkloadFault EmitFault = Unit {0}
IsWorkloadFault DiskFault = ⊥
IsWorkloadFault (JournalRefused fault) = ⊥
IsWorkloadFault LinkFault = ⊥
IsWorkloadFault NoMemory = Unit {0}
