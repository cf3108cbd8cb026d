-- The limits of this server. None of them is the standard's.
use Rattle.std.specs.Prelude.{ℕ, ◌^◌}

-- ---- of a site

-- value objects and enrollments together
abbrev pub most_objects : ℕ
most_objects = 2_048

abbrev pub most_classes : ℕ
most_classes = 256

-- of a class
abbrev pub most_destinations : ℕ
most_destinations = 32

abbrev pub most_logs : ℕ
most_logs = 16

-- of all logs together, so of each as well
abbrev pub most_records : ℕ
most_records = 16_384

abbrev pub most_bindings : ℕ
most_bindings = 256

-- alarm values of an object, and fault values
abbrev pub most_listed_values : ℕ
most_listed_values = 32

-- ---- of what waits

-- peers of the site's destinations and of all that was entered since
abbrev pub most_peers : ℕ
most_peers = 8_192

-- the least and the greatest number of notifications for which a site may have room
abbrev pub least_outbox : ℕ
least_outbox = 64

abbrev pub most_outbox : ℕ
most_outbox = 16_384

-- calls with a record or a datagram that wait for a commit
abbrev pub most_pending_calls : ℕ
most_pending_calls = 1_024

-- events of a history
abbrev pub most_events : ℕ
most_events = 2 ^ 63

-- ---- of octets

abbrev pub most_text_octets : ℕ
most_text_octets = 256

-- bits of a string
abbrev pub most_bits : ℕ
most_bits = 64

-- of the parameters of a notification
abbrev pub most_note_octets : ℕ
most_note_octets = 1_024

abbrev pub most_datagram_octets : ℕ
most_datagram_octets = 1_497

abbrev pub most_site_octets : ℕ
most_site_octets = 1_048_576

-- of an event in a journal
abbrev pub most_record_octets : ℕ
most_record_octets = 2_048

-- of the events that one write takes
abbrev pub most_batch_octets : ℕ
most_batch_octets = 60_000

-- a snapshot has fewer
abbrev pub snapshot_octets_limit : ℕ
snapshot_octets_limit = 36_000_000
