-- A server whose site's text wasn't found, or is none.
use Rattle.std.proofs.Common.{◌≡◌, ℕ, List, Option, Some, None, refl}
use Rattle.site_config.specs.declared.fault.SiteFault.{SiteFault}
use Rattle.alarm_server.specs.declared.serve.Served.{Served}
use Rattle.alarm_server.specs.declared.status.Status.{Status}
use Rattle.alarm_server.specs.declared.status.Status.TheVariants.{Done, Usage, SiteRefused, ScriptRefused, ReadFault, EmitFault, DiskFault, JournalRefused, NoMemory, LinkFault}
use Rattle.alarm_server.specs.OnFile.{RefusesFile}
use Rattle.alarm_server.specs.ServedSites.{IsUnserved}
use Rattle.alarm_server.specs.Status.{IsSiteFault}

pub no_site : (P : Type 0) (file : Option (List ℕ)) (status : Status) (served : Served) → IsUnserved served status → IsSiteFault status → ((fault : SiteFault) → status ≡ SiteRefused fault → RefusesFile file fault)
    → ((fault : SiteFault) → RefusesFile file fault → IsUnserved served (SiteRefused fault) → P) → (IsUnserved served ReadFault → P) → (IsUnserved served NoMemory → P) → P
no_site P file (SiteRefused fault) served unserved is refused none unread memory = none fault (refused fault refl) unserved
no_site P file ReadFault served unserved is refused none unread memory = unread unserved
no_site P file NoMemory served unserved is refused none unread memory = memory unserved
no_site P file Done served unserved is refused none unread memory = absurd is
no_site P file Usage served unserved is refused none unread memory = absurd is
no_site P file (ScriptRefused line) served unserved is refused none unread memory = absurd is
no_site P file EmitFault served unserved is refused none unread memory = absurd is
no_site P file DiskFault served unserved is refused none unread memory = absurd is
no_site P file (JournalRefused fault) served unserved is refused none unread memory = absurd is
no_site P file LinkFault served unserved is refused none unread memory = absurd is
