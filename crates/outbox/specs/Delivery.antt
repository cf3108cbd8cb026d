-- The delivery of event notifications to one recipient (ANSI/ASHRAE 135-2020, 13.8 and 13.9), by looking back over all
-- that was done for this recipient, the newest first. The list of its notes loses what was given up before it was sent, and
-- nothing else.
use Rattle.std.specs.Prelude.{ℕ, ◌+◌, ◌%◌, Bool, ◌&&◌, nat_lt, nat_le, ◌==◌, List, [], ◌∷◌, ◌++◌, length, take, drop, map, count_by, slice_range, if◌then◌else◌}
use Rattle.std.specs.List.{position_or_len}
use Rattle.bac_values.specs.Address.{PeerData}
use Rattle.bac_values.specs.declared.note.Note.{Note}
use Rattle.bac_values.specs.declared.note.Send.{Send}
use Rattle.outbox.specs.Notifying.{datagram_of}

-- a note was queued for it, the device sent at a moment what was to be sent, or an answer with an invoke ID came from it
pub data Operation : Type 0 where
  NoteQueued : Note → Operation
  PumpedAt : ℕ → Operation
  AnswerCame : ℕ → Operation

-- 12.11: APDU_Timeout, in milliseconds, and Number_Of_APDU_Retries; and whether a note that is given up takes along all that
-- stands behind it, as the site chose
pub record Timing : Type 0 where
  pub timeout : ℕ
  pub retries : ℕ
  pub flush_silent : Bool

-- all notes that were queued for it, in this order, but for those that were given up before they were sent; how many of them,
-- from the first on, are finished; how often the next one was sent; and until when its answer is awaited, 0 where it was not
-- sent
pub record Delivery : Type 0 where
  pub all : List Note
  pub finished : ℕ
  pub attempts : ℕ
  pub deadline : ℕ

abbrev pub nothing_queued : Delivery
nothing_queued = record { all = []; finished = 0; attempts = 0; deadline = 0 }

abbrev pub is_confirmed : Note → Bool
is_confirmed note = note.confirmed

-- 5.4: the invoke ID of the confirmed note at a place, which is how many confirmed notes stand before it, modulo 256
abbrev pub invoke_id : List Note → ℕ → ℕ
invoke_id all place = count_by is_confirmed (take place all) % 256

-- the first place, from this one on, of a note that is to be confirmed; how many notes there are, where there is none
abbrev pub next_confirmed : List Note → ℕ → ℕ
next_confirmed all place = place + position_or_len is_confirmed (drop place all)

-- 5.4.4: a note was sent, and its answer is still awaited at the moment
abbrev pub is_awaited : ℕ → ℕ → ℕ → Bool
is_awaited moment attempts deadline = nat_lt 0 attempts && nat_lt moment deadline

-- 5.4.4: a note was sent, its deadline has come, and fewer than one more than the retries were made
abbrev pub is_repeated : ℕ → ℕ → Bool
is_repeated retries attempts = nat_lt 0 attempts && nat_le attempts retries

-- A note was sent, and neither is its answer awaited nor is it repeated. The site chose that the recipient counts as silent: the
-- note is given up with all that stands behind it.
abbrev pub gives_up : Bool → ℕ → Bool
gives_up flush_silent attempts = nat_lt 0 attempts && flush_silent

-- The note in flight is given up, and all that stands behind it: what was never sent is taken out of the list, and isn't counted
-- as finished.
abbrev pub given_up : Delivery → Delivery
given_up delivery = record { all = take (delivery.finished + 1) delivery.all; finished = delivery.finished + 1; attempts = 0; deadline = 0 }

-- the place of the first note that was never sent: one that was sent 1 + retries times, and whose last deadline has
-- come, is finished
abbrev pub first_unsent : Delivery → ℕ
first_unsent delivery = if nat_lt 0 delivery.attempts then delivery.finished + 1 else delivery.finished

-- The notes from a place on are sent for the first time. An unconfirmed one is finished by that. The first confirmed one is
-- in flight from then on, and the others wait behind it.
abbrev pub sent_from : Timing → ℕ → ℕ → Delivery → Delivery
sent_from timing moment place delivery =
    let next = next_confirmed delivery.all place in
    record {
      all = delivery.all;
      finished = next;
      attempts = if nat_lt next (length delivery.all) then 1 else 0;
      deadline = if nat_lt next (length delivery.all) then moment + timing.timeout else 0;
    }

-- after the device sent at a moment what was to be sent
abbrev pub pumped_at : Timing → ℕ → Delivery → Delivery
pumped_at timing moment delivery =
    if is_awaited moment delivery.attempts delivery.deadline then delivery
    else (if is_repeated timing.retries delivery.attempts then
    record delivery { attempts = delivery.attempts + 1; deadline = moment + timing.timeout }
    else (if gives_up timing.flush_silent delivery.attempts then given_up delivery
    else sent_from timing moment (first_unsent delivery) delivery))

-- the notes from one place up to another, as datagrams; each of them that is to be confirmed has this invoke ID
abbrev pub datagrams_between : PeerData → ℕ → List Note → ℕ → ℕ → List Send
datagrams_between peer invoke all from to = map (datagram_of peer invoke) (slice_range all from to)

-- what the device sent then, in this order: nothing while an answer is awaited, the note in flight where it is repeated, nothing
-- where all is given up, and else the notes that were never sent, up to and with the first that is to be confirmed
abbrev pub sent_at : Timing → ℕ → PeerData → Delivery → List Send
sent_at timing moment peer delivery =
    if is_awaited moment delivery.attempts delivery.deadline then []
    else (if is_repeated timing.retries delivery.attempts then
    datagrams_between peer (invoke_id delivery.all delivery.finished) delivery.all delivery.finished (delivery.finished + 1)
    else (if gives_up timing.flush_silent delivery.attempts then []
    else
    let place = first_unsent delivery in
    let next = next_confirmed delivery.all place in
    datagrams_between peer (invoke_id delivery.all next) delivery.all place (next + 1)))

-- after an answer: it finishes the note in flight, if it has its invoke ID, and else changes nothing
abbrev pub answered_with : ℕ → Delivery → Delivery
answered_with invoke delivery =
    if nat_lt 0 delivery.attempts && invoke == invoke_id delivery.all delivery.finished then
    record delivery { finished = delivery.finished + 1; attempts = 0; deadline = 0 }
    else delivery

abbrev pub queued_for : Note → Delivery → Delivery
queued_for note delivery = record delivery { all = delivery.all ++ note ∷ [] }

-- the delivery after some operations, the newest first
unfoldable pub delivery_after : Timing → List Operation → Delivery
delivery_after timing [] = nothing_queued
delivery_after timing (NoteQueued note ∷ older) = queued_for note (delivery_after timing older)
delivery_after timing (PumpedAt moment ∷ older) = pumped_at timing moment (delivery_after timing older)
delivery_after timing (AnswerCame invoke ∷ older) = answered_with invoke (delivery_after timing older)
