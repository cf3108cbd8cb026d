-- How a server's status tells of its disk.
use Rattle.std.proofs.Common.{◌≡◌, ◌≢◌, ◌<◌, ℕ, arith, refl, sym, ap, ◌∙◌, subst}
use Rattle.ground_io.specs.Counts.{HasCause, Rose}
use Rattle.alarm_journal.specs.declared.open_fault.OpenFault.{OpenFault}
use Rattle.alarm_journal.specs.declared.open_fault.OpenFault.TheVariants as open_fault
use Rattle.floor_desk.specs.Serving.{LeavesDisk}
use Rattle.floor_desk.specs.declared.serve.Closed.{Closed}
use Rattle.floor_desk.specs.declared.serve.End.{End}
use Rattle.floor_desk.specs.declared.serve.End.TheVariants as end
use Rattle.alarm_server.specs.declared.serve.Served.{Served}
use Rattle.alarm_server.specs.declared.status.Status.{Status}
use Rattle.alarm_server.specs.declared.status.Status.TheVariants as status
use Rattle.alarm_server.specs.ServedSites.{IsUnserved, of_end, served_of}
use Rattle.alarm_server.specs.Status.{of_open_fault}

disk_end : (ended : End) → of_end ended ≡ status.DiskFault → ended ≡ end.DiskFault
disk_end end.DiskFault same = refl
disk_end end.Done same = absurd cc
disk_end end.LinkFault same = absurd cc
disk_end end.NoMemory same = absurd cc

done_end : (ended : End) → of_end ended ≡ status.Done → ended ≢ end.DiskFault
done_end end.DiskFault same = absurd cc
done_end end.Done same = λ other. absurd cc
done_end end.LinkFault same = absurd cc
done_end end.NoMemory same = absurd cc

-- of a server that has served
pub rose_served : (before now : ℕ) (closed : Closed) (served : Served) → served ≡ served_of closed → LeavesDisk before now closed.end → served.status ≡ status.DiskFault → Rose before now
rose_served before now closed served is disk same = disk.rose (disk_end closed.end (sym (ap (λ (s : Served). s.status) is) ∙ same))

pub same_served : (before now : ℕ) (closed : Closed) (served : Served) → served ≡ served_of closed → LeavesDisk before now closed.end → served.status ≡ status.Done → now ≡ before
same_served before now closed served is disk same = disk.same (done_end closed.end (sym (ap (λ (s : Served). s.status) is) ∙ same))

disk_fault : (fault : OpenFault) → of_open_fault fault ≡ status.DiskFault → fault ≡ open_fault.DiskFault
disk_fault open_fault.DiskFault same = refl
disk_fault (open_fault.SmallDevice size need) same = absurd cc
disk_fault (open_fault.Foreign at) same = absurd cc
disk_fault (open_fault.Damaged at) same = absurd cc
disk_fault open_fault.NoMemory same = absurd cc

not_done : (fault : OpenFault) → of_open_fault fault ≡ status.Done → ⊥
not_done open_fault.DiskFault same = cc
not_done (open_fault.SmallDevice size need) same = cc
not_done (open_fault.Foreign at) same = cc
not_done (open_fault.Damaged at) same = cc
not_done open_fault.NoMemory same = cc

-- of one whose journal wasn't opened
pub rose_unopened : (before now : ℕ) (fault : OpenFault) (from : Status) (served : Served) → from ≡ of_open_fault fault → IsUnserved served from → HasCause before now (fault ≡ open_fault.DiskFault) → served.status ≡ status.DiskFault → Rose before now
rose_unopened before now fault from served is unserved cause same = cause.rose (disk_fault fault (sym is ∙ (sym (ap (λ (s : Served). s.status) unserved) ∙ same)))

pub unopened_not_done : (fault : OpenFault) (from : Status) (served : Served) → from ≡ of_open_fault fault → IsUnserved served from → served.status ≡ status.Done → ⊥
unopened_not_done fault from served is unserved same = not_done fault (sym is ∙ (sym (ap (λ (s : Served). s.status) unserved) ∙ same))

-- datagrams that were sent and lost, by the numbers of a server
pub lost_served : (before now : ℕ) (closed : Closed) (served : Served) → served ≡ served_of closed → HasCause before now (closed.received < closed.lost) → HasCause before now (served.received < served.lost)
lost_served before now closed served is cause = record { later = cause.later; rose = λ more. cause.rose (subst (λ (s : Served). s.received < s.lost) is more) }

pub none_served : (before now : ℕ) (closed : Closed) (served : Served) → served ≡ served_of closed → (closed.lost ≡ 0 → now ≡ before) → served.lost ≡ 0 → now ≡ before
none_served before now closed served is same none = same (sym (ap (λ (s : Served). s.lost) is) ∙ none)

-- where no desk was opened, none was sent
pub lost_unserved : (before now : ℕ) (from : Status) (served : Served) → IsUnserved served from → now ≡ before → HasCause before now (served.received < served.lost)
lost_unserved before now from served unserved same = record { later = omega (arith, same); rose = λ more. absurd (omega (arith, subst (λ (s : Served). s.received < s.lost) unserved more)) }
