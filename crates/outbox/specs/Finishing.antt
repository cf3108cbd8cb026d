-- How the notes of one recipient come to be finished (ANSI/ASHRAE 135-2020, 5.4.4).
use Rattle.std.specs.Prelude.{◌≡◌, ◌⊎◌, ℕ, ◌+◌, ◌<◌, ◌≤◌, ◌==◌, nat_lt, nat_le, Bool, true, false, ◌&&◌, IsTrue, List, [], ◌∷◌, length, filter, slice_index_or, if◌then◌else◌}
use Rattle.std.specs.List.{flat_map, range_with_len}
use Rattle.bac_values.specs.Address.{PeerData}
use Rattle.bac_values.specs.declared.note.Note.{Note}
use Rattle.bac_values.specs.declared.note.Send.{Send}
use Rattle.outbox.specs.Delivery.{Operation, NoteQueued, PumpedAt, AnswerCame, Timing, Delivery, is_confirmed, invoke_id, next_confirmed, is_awaited, is_repeated, gives_up, first_unsent, datagrams_between, sent_at, delivery_after}

-- whether the note at a place is to be confirmed
abbrev pub IsConfirmedAt : List Note → ℕ → Bool → Type 0
IsConfirmedAt all place confirmed = (place < length all) × ((d : Note) → is_confirmed (slice_index_or all place d) ≡ confirmed)

-- the note at a place was sent, and isn't finished
abbrev pub IsInFlight : Delivery → ℕ → Type 0
IsInFlight delivery place = (place ≡ delivery.finished) × (0 < delivery.attempts)

-- its last deadline has come: it was sent once, and as often again as there are retries
abbrev pub IsGivenUpAt : Timing → ℕ → Delivery → Type 0
IsGivenUpAt timing moment delivery = (delivery.attempts ≡ 1 + timing.retries) × (delivery.deadline ≤ moment)

-- whether the note at a place is among those that a pump sends: none while an answer is awaited, the one in flight where it is
-- repeated, none where all is given up, and else those that were never sent, up to and with the first that is to be confirmed
abbrev pub is_sent_at : Timing → ℕ → Delivery → ℕ → Bool
is_sent_at timing moment delivery place =
    if is_awaited moment delivery.attempts delivery.deadline then false
    else (if is_repeated timing.retries delivery.attempts then place == delivery.finished
    else (if gives_up timing.flush_silent delivery.attempts then false
    else nat_le (first_unsent delivery) place && nat_le place (next_confirmed delivery.all (first_unsent delivery)) && nat_lt place (length delivery.all)))

-- What finishes the note at a place: while it is in flight an answer with its invoke ID, or a pump at its last deadline; and the
-- pump that sends it, where it isn't to be confirmed.
abbrev pub IsFinishedBy : Timing → Delivery → ℕ → Operation → Type 0
IsFinishedBy timing delivery place (NoteQueued note) = ⊥
IsFinishedBy timing delivery place (AnswerCame invoke) = IsInFlight delivery place × (invoke ≡ invoke_id delivery.all place)
IsFinishedBy timing delivery place (PumpedAt moment) =
    (IsInFlight delivery place × IsGivenUpAt timing moment delivery) ⊎ (IsTrue (is_sent_at timing moment delivery place) × IsConfirmedAt delivery.all place false)

-- Whatever is done: notes are finished in their order and for good, each by what may finish it; the one note in flight is to be
-- confirmed, is sent at most once more than there are retries, and keeps its invoke ID.
pub record FinishesInOrder : Type 0 where
  pub order : (timing : Timing) (older : List Operation) (operation : Operation) →
      (delivery_after timing older).finished ≤ (delivery_after timing (operation ∷ older)).finished
  pub cause : (timing : Timing) (older : List Operation) (operation : Operation) (place : ℕ) →
      (delivery_after timing older).finished ≤ place → place < (delivery_after timing (operation ∷ older)).finished →
      IsFinishedBy timing (delivery_after timing older) place operation
  pub in_flight : (timing : Timing) (older : List Operation) → 0 < (delivery_after timing older).attempts →
      IsConfirmedAt (delivery_after timing older).all (delivery_after timing older).finished true
  pub few : (timing : Timing) (older : List Operation) → (delivery_after timing older).attempts ≤ 1 + timing.retries
  pub one_number : (timing : Timing) (older : List Operation) (operation : Operation) (place : ℕ) → place ≤ (delivery_after timing older).finished →
      invoke_id (delivery_after timing (operation ∷ older)).all place ≡ invoke_id (delivery_after timing older).all place

-- one where it is so
abbrev pub as_number : Bool → ℕ
as_number so = if so then 1 else 0

-- how often the note at a place was sent
unfoldable pub transmissions : Timing → ℕ → List Operation → ℕ
transmissions timing place [] = 0
transmissions timing place (NoteQueued note ∷ older) = transmissions timing place older
transmissions timing place (PumpedAt moment ∷ older) = transmissions timing place older + as_number (is_sent_at timing moment (delivery_after timing older) place)
transmissions timing place (AnswerCame invoke ∷ older) = transmissions timing place older

-- never, where the notes before it aren't finished; as often as it was tried, where it is the next; and at least once, and at
-- most once more than there are retries, where it is finished
pub record IsSentSo (timing : Timing) (delivery : Delivery) (place times : ℕ) : Type 0 where
  pub waiting : delivery.finished < place → times ≡ 0
  pub current : place ≡ delivery.finished → times ≡ delivery.attempts
  pub finished : place < delivery.finished → (1 ≤ times) × (times ≤ 1 + timing.retries)

-- whatever is done, each note is sent so
abbrev pub SendsSeldom : Type 0
SendsSeldom = (timing : Timing) (place : ℕ) (operations : List Operation) → IsSentSo timing (delivery_after timing operations) place (transmissions timing place operations)

-- the places of the notes that a pump sends
abbrev pub places_sent : Timing → ℕ → Delivery → List ℕ
places_sent timing moment delivery = filter (is_sent_at timing moment delivery) (range_with_len 0 (length delivery.all))

-- the note at a place as a datagram; one that is to be confirmed has its own invoke ID
abbrev pub datagram_at : PeerData → List Note → ℕ → List Send
datagram_at peer all place = datagrams_between peer (invoke_id all place) all place (place + 1)

-- whatever was done, a pump sends the notes at these places, in their order, and nothing else
abbrev pub SendsThesePlaces : Type 0
SendsThesePlaces = (timing : Timing) (moment : ℕ) (peer : PeerData) (operations : List Operation) →
    (let delivery = delivery_after timing operations in sent_at timing moment peer delivery ≡ flat_map (datagram_at peer delivery.all) (places_sent timing moment delivery))
