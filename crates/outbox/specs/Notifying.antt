-- The datagram that carries an event notification (ANSI/ASHRAE 135-2020, 13.8 and 13.9).
use Rattle.std.specs.Prelude.{ℕ, List, if◌then◌else◌}
use Rattle.bac_values.specs.Address.{PeerData}
use Rattle.bac_values.specs.Services.{confirmed_event_notification_service, unconfirmed_event_notification_service}
use Rattle.bac_values.specs.declared.note.Note.{Note}
use Rattle.bac_values.specs.declared.note.Send.{Send}
use Rattle.apdu_frame.specs.Writing.{written_request, written_unconfirmed}
use Rattle.bvlc_npdu.specs.Writing.{written_frame}

-- a note that the recipient is to confirm goes out as a ConfirmedEventNotification with an invoke ID, any other as an UnconfirmedEventNotification
abbrev pub apdu_of : ℕ → Note → List ℕ
apdu_of invoke note =
    if note.confirmed then written_request invoke confirmed_event_notification_service note.body
    else written_unconfirmed unconfirmed_event_notification_service note.body

-- a reply is expected to a confirmed one alone
abbrev pub datagram_of : PeerData → ℕ → Note → Send
datagram_of peer invoke note = record { peer = peer; bytes = written_frame peer note.confirmed (apdu_of invoke note) }
