-- What a program over its real ends does: over readers, a file and a socket, for each text, script, disk and datagrams that these are supposed to have. Each clause speaks where the ends still tell, which is where what came was that.
use Rattle.std.specs.Prelude.{◌≡◌, ◌≢◌, ◌<◌, ℕ, List, Option, Some, IfSome}
use Rattle.bac_values.specs.Moments.{IsMoment}
use Rattle.bac_values.specs.declared.note.Send.{Send}
use Rattle.ground_io.specs.Counts.{HasCause, Rose}
use Rattle.ground_io.specs.InMemory.{FileGroundState, StdSourceState, file_size}
use Rattle.ground_io.specs.Record.{Supposed, begun, told_by, unasked}
use Rattle.ground_io.specs.Trace.{Told, still}
use Rattle.alarm_journal.specs.Press.{IsSmall}
use Rattle.alarm_journal.specs.declared.open_fault.OpenFault.{OpenFault}
use Rattle.ending_link.specs.declared.flag.SharedFlag.{SharedFlag as Raised}
use Rattle.site_config.specs.declared.fault.SiteFault.{SiteFault}
use Rattle.alarm_server.specs.declared.command.Command.{Command}
use Rattle.alarm_server.specs.declared.serve.Served.{Served}
use Rattle.alarm_server.specs.declared.status.Status.{Status}
use Rattle.alarm_server.specs.declared.status.Status.TheVariants.{Done, DiskFault, EmitFault, JournalRefused, LinkFault, ReadFault, ScriptRefused, SiteRefused, Usage}
use Rattle.alarm_server.specs.Causes.{HasCauseInEither}
use Rattle.alarm_server.specs.Dressed.{ServesDressed}
use Rattle.alarm_server.specs.Promises.{promise_of}

-- what the ends of a session or a standby are supposed to have: the text of the site's file, the script, and the disk of the journal's file
pub record RunEnds : Type 0 where
  pub site : List ℕ
  pub script : List ℕ
  pub disk : Supposed

-- what the ends of a server are supposed to have: the text of the site's file, the disk of the journal's file, and the datagrams that come
pub record ServerEnds : Type 0 where
  pub site : List ℕ
  pub disk : Supposed
  pub datagrams : List Send

-- a reader before its first call
abbrev pub unread : List ℕ → StdSourceState
unread octets = record { left = Some octets; faults = 0 }

-- what a ground over a device of so many octets tells at first: those contents, where they are as many, and that nothing has happened
abbrev pub first_told : ℕ → Supposed → Option Told
first_told bytes disk = told_by (begun bytes disk)

-- A program that ran over such ends, a device of so many octets among them: what its command promises of what they tell, and which of them failed.
pub record RunsReal (asked : Option Command) (supposed : RunEnds) (bytes : ℕ) (site script : StdSourceState) (device : FileGroundState) (status : Status) : Type 0 where
  pub ends : (promise_of asked).ends status (still (Some supposed.site) site.left) (still (Some supposed.script) script.left) (first_told bytes supposed.disk) device.told
  pub numbered : (promise_of asked).numbers (still (Some supposed.site) site.left) (still (Some supposed.script) script.left) (first_told bytes supposed.disk) device.told
  pub to_end : status ≡ Done → (promise_of asked).to_end script.left
  pub accepted : status ≡ Done → (promise_of asked).accepts (still (Some supposed.site) site.left) (still (Some supposed.script) script.left)
  pub refused : (line : ℕ) → status ≡ ScriptRefused line → (promise_of asked).refuses (still (Some supposed.script) script.left) line
  pub refuses_site : (fault : SiteFault) → status ≡ SiteRefused fault → (promise_of asked).refuses_site (still (Some supposed.site) site.left) fault
  pub refuses_journal : (fault : OpenFault) → status ≡ JournalRefused fault → (promise_of asked).refuses_journal (still (Some supposed.site) site.left) (first_told bytes supposed.disk) device.told fault
  pub small : (fault : OpenFault) → status ≡ JournalRefused fault → IsSmall bytes fault
  pub below : (promise_of asked).refuses_small bytes (still (Some supposed.site) site.left) status
  pub unplayed : (fault : OpenFault) → status ≡ JournalRefused fault → script ≡ unread supposed.script
  pub stops : status ≡ ReadFault → (promise_of asked).stops ((script ≡ unread supposed.script) × Rose 0 site.faults) (Rose 0 script.faults) (still (Some supposed.site) site.left) (Some supposed.script) script.left (first_told bytes supposed.disk) device.told
  pub keeps : (promise_of asked).keeps (still (Some supposed.site) site.left) (still (Some supposed.script) script.left) (first_told bytes supposed.disk) device.told
  pub opened : (promise_of asked).opens ((script ≡ unread supposed.script) × Rose 0 site.faults) status (still (Some supposed.site) site.left) (still (Some supposed.script) script.left) (first_told bytes supposed.disk) device.told
  pub read_cause : HasCauseInEither 0 site.faults 0 script.faults (status ≡ ReadFault)
  pub emit_cause : HasCause 0 device.emit_faults (status ≡ EmitFault)
  pub disk_cause : HasCause 0 device.disk_faults (status ≡ DiskFault)
  pub unhidden : status ≢ DiskFault → device.disk_faults ≡ 0
  pub no_fault : status ≡ Done → (script.faults ≡ 0) × ((device.disk_faults ≡ 0) × (device.emit_faults ≡ 0))
  pub site_read : status ≡ Done → site.faults ≡ 0
  pub unused : status ≡ Usage → device ≡ unasked bytes supposed.disk
  pub leaves_site : (promise_of asked).leaves_site (site ≡ unread supposed.site)
  pub leaves_script : (promise_of asked).leaves_script (still (Some supposed.site) site.left) (script ≡ unread supposed.script)
  pub leaves_disk : (promise_of asked).leaves_disk (device.disk_faults ≡ 0)
  pub outside : status ≢ LinkFault
  pub size : file_size device ≡ bytes

-- A server over such ends, a device of so many octets among them, whose words tell how many datagrams it takes, or are of no form: it is what a server does that begins with that ground and with a link from which those datagrams are to come, and that counts no fault.
pub record ServesReal {L : Type 0} (left : L → Option (List Send)) (faults : L → ℕ) (supposed : ServerEnds) (counted : Option ℕ) (bytes : ℕ) (site : StdSourceState) (device : FileGroundState) (link : L) (served : Served) : Type 0 where
  pub asked : L
  pub datagrams : left asked ≡ Some supposed.datagrams
  pub no_faults : faults asked ≡ 0
  pub serves : IfSome counted (λ count. ServesDressed Raised (λ d. d.told) file_size (λ d. d.disk_faults) (λ d. d.emit_faults) left faults IsMoment (still (Some supposed.site) site.left) count asked link (unasked bytes supposed.disk) device served)
  pub unused : served.status ≡ Usage → (device ≡ unasked bytes supposed.disk) × (link ≡ asked) × (site ≡ unread supposed.site)
  pub read_cause : HasCause 0 site.faults (served.status ≡ ReadFault)
  pub disk_cause : served.status ≡ DiskFault → Rose 0 device.disk_faults
  pub no_disk_fault : served.status ≡ Done → device.disk_faults ≡ 0
  pub emit_cause : HasCause 0 device.emit_faults (served.received < served.lost)
  pub no_emit_fault : served.lost ≡ 0 → device.emit_faults ≡ 0
  pub site_read : served.status ≡ Done → site.faults ≡ 0
  pub size : file_size device ≡ bytes
