-- A device that is smaller than the journal of its site has to be.
use Rattle.std.proofs.Common.{◌≡◌, ◌⊎◌, ◌<◌, ℕ, List, length, Option, Some, None, Result, Ok, Err, IfOk, refl, ap, inl, inr, ⊎_elim}
use Rattle.alarm_core.specs.declared.site.Site.{Site}
use Rattle.alarm_journal.specs.Press.{IsBelow}
use Rattle.alarm_journal.specs.declared.open_fault.OpenFault.{OpenFault}
use Rattle.state_codec.specs.Sizes.{need}
use Rattle.site_config.specs.declared.fault.SiteFault.{SiteFault}
use Rattle.site_config.specs.Sites.{site_of}
use Rattle.alarm_server.specs.declared.status.Status.{Status}
use Rattle.alarm_server.specs.declared.status.Status.TheVariants.{Done, Usage, SiteRefused, ScriptRefused, ReadFault, EmitFault, DiskFault, JournalRefused, NoMemory, LinkFault}
use Rattle.alarm_server.specs.OnFile.{RefusesFile}
use Rattle.alarm_server.specs.SmallDevices.{EndsSmall, RefusesSmall}
use Rattle.alarm_server.specs.Status.{IsSiteFault, of_open_fault}

pub small_end : (size most : ℕ) (fault : OpenFault) → IsBelow size most fault → EndsSmall size most (of_open_fault fault)
small_end size most fault below = ⊎_elim (λ same. inl (ap of_open_fault same)) (λ same. inr (ap of_open_fault same)) below

-- it ended before there was a site
ended_before : (size : ℕ) (octets : List ℕ) (says : Result Site SiteFault) (ended : Status) → site_of octets ≡ says → IsSiteFault ended → ((f : SiteFault) → ended ≡ SiteRefused f → RefusesFile (Some octets) f)
    → IfOk says (λ site. size < need site (length octets) → (ended ≡ ReadFault) ⊎ ((ended ≡ NoMemory) ⊎ EndsSmall size (need site (length octets)) ended))
ended_before size octets (Err fault) ended is early refused = tt
ended_before size octets (Ok site) ReadFault is early refused = λ low. inl refl
ended_before size octets (Ok site) NoMemory is early refused = λ low. inr (inl refl)
ended_before size octets (Ok site) (SiteRefused f) is early refused = λ low. let none : site_of octets ≡ Err f = (refused f refl).1 in absurd (cc)
ended_before size octets (Ok site) Done is early refused = absurd early
ended_before size octets (Ok site) Usage is early refused = absurd early
ended_before size octets (Ok site) (ScriptRefused line) is early refused = absurd early
ended_before size octets (Ok site) EmitFault is early refused = absurd early
ended_before size octets (Ok site) DiskFault is early refused = absurd early
ended_before size octets (Ok site) (JournalRefused why) is early refused = absurd early
ended_before size octets (Ok site) LinkFault is early refused = absurd early

pub small_unopened : (size : ℕ) (file : Option (List ℕ)) (ended : Status) → IsSiteFault ended → ((f : SiteFault) → ended ≡ SiteRefused f → RefusesFile file f) → RefusesSmall size file ended
small_unopened size None ended early refused = tt
small_unopened size (Some octets) ended early refused = ended_before size octets (site_of octets) ended refl early refused
