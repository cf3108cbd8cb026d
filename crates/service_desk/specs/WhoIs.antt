-- What becomes of Who-Is (ANSI/ASHRAE 135-2020, 16.10).
use Rattle.std.specs.Prelude.{ℕ, nat_le, ◌&&◌, Bool, true, false, if◌then◌else◌, Option, Some, None, Result, Ok, Err, List}
use Rattle.bac_values.specs.Address.{PeerData}
use Rattle.bac_values.specs.Services.{i_am_service}
use Rattle.bac_values.specs.declared.note.Send.{Send}
use Rattle.apdu_frame.specs.Writing.{written_unconfirmed}
use Rattle.bac_tags.specs.declared.malformed.Malformed.{Malformed}
use Rattle.property_services.specs.ReadingSteps.{who_is_of}
use Rattle.property_services.specs.Writing.{written_i_am}
use Rattle.alarm_core.specs.declared.site.Site.{Site}
use Rattle.alarm_core.specs.Found.{device_object}
use Rattle.service_desk.specs.declared.decision.Decision.{Decision}
use Rattle.service_desk.specs.declared.decision.Decision.TheVariants.{Ignore, Reply}
use Rattle.service_desk.specs.Replies.{reply_to}

-- whether the devices that are asked include the site's
abbrev pub names_device : Result (Option (ℕ × ℕ)) Malformed → ℕ → Bool
names_device (Err refusal) instance = false
names_device (Ok None) instance = true
names_device (Ok (Some limits)) instance = nat_le limits.0 instance && nat_le instance limits.1

-- I-Am, to the peer that asked
abbrev pub i_am : Site → PeerData → Send
i_am site peer = reply_to peer (written_unconfirmed i_am_service (written_i_am (device_object site) site.device.vendor))

-- it is answered where they do
abbrev pub who_is_decision : Site → PeerData → List ℕ → Decision
who_is_decision site peer parameters = if names_device (who_is_of parameters) site.device.instance then Reply (i_am site peer) else Ignore
