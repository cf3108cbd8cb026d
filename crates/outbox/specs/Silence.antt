-- Recipients that are silent, and sites that chose to give up with a note all that stands behind it.
use Rattle.std.specs.Prelude.{◌≡◌, ⊤, ◌⊎◌, ℕ, ◌+◌, ◌-◌, ◌*◌, ◌<◌, ◌≤◌, ◌==◌, nat_le, nat_lt, true, false, ◌&&◌, List, [], ◌∷◌, ◌++◌, length, drop, if◌then◌else◌}
use Rattle.bac_values.specs.Address.{PeerData}
use Rattle.bac_values.specs.declared.note.Note.{Note}
use Rattle.outbox.specs.Delivery.{Operation, NoteQueued, PumpedAt, AnswerCame, Timing, Delivery, invoke_id, next_confirmed, is_awaited, is_repeated, first_unsent, sent_from, pumped_at, datagrams_between, sent_at, delivery_after}
use Rattle.outbox.specs.Finishing.{IsGivenUpAt, is_sent_at}

-- Where the site didn't choose it, a note in flight whose last deadline has come is finished alone, and the notes behind it are
-- sent.
pub record GivesUpOne : Type 0 where
  pub pumped : (timing : Timing) (moment : ℕ) (delivery : Delivery) → timing.flush_silent ≡ false →
      pumped_at timing moment delivery ≡ (if is_awaited moment delivery.attempts delivery.deadline then delivery
      else (if is_repeated timing.retries delivery.attempts then
      record delivery { attempts = delivery.attempts + 1; deadline = moment + timing.timeout }
      else sent_from timing moment (first_unsent delivery) delivery))
  pub sent : (timing : Timing) (moment : ℕ) (peer : PeerData) (delivery : Delivery) → timing.flush_silent ≡ false →
      sent_at timing moment peer delivery ≡ (if is_awaited moment delivery.attempts delivery.deadline then []
      else (if is_repeated timing.retries delivery.attempts then
      datagrams_between peer (invoke_id delivery.all delivery.finished) delivery.all delivery.finished (delivery.finished + 1)
      else
      let place = first_unsent delivery in
      let next = next_confirmed delivery.all place in
      datagrams_between peer (invoke_id delivery.all next) delivery.all place (next + 1)))
  pub places : (timing : Timing) (moment : ℕ) (delivery : Delivery) (place : ℕ) → timing.flush_silent ≡ false →
      is_sent_at timing moment delivery place ≡ (if is_awaited moment delivery.attempts delivery.deadline then false
      else (if is_repeated timing.retries delivery.attempts then place == delivery.finished
      else nat_le (first_unsent delivery) place && nat_le place (next_confirmed delivery.all (first_unsent delivery)) && nat_lt place (length delivery.all)))

-- One note is finished and none waits, none is in flight, and nothing was sent.
pub record IsEmptied (peer : PeerData) (timing : Timing) (moment : ℕ) (delivery : Delivery) : Type 0 where
  pub none_waits : length (pumped_at timing moment delivery).all ≡ (pumped_at timing moment delivery).finished
  pub one : (pumped_at timing moment delivery).finished ≡ delivery.finished + 1
  pub rests : (pumped_at timing moment delivery).attempts ≡ 0
  pub silent : sent_at timing moment peer delivery ≡ []

-- where the site chose it, a pump at the last deadline of a note leaves nothing that waits for the recipient
abbrev pub GivesUpAll : Type 0
GivesUpAll = (timing : Timing) (moment : ℕ) (peer : PeerData) (operations : List Operation) → timing.flush_silent ≡ true →
    IsGivenUpAt timing moment (delivery_after timing operations) → IsEmptied peer timing moment (delivery_after timing operations)

-- the notes that some operations queued, the newest operation first, and the newest note last
unfoldable pub queued_by : List Operation → List Note
queued_by [] = []
queued_by (NoteQueued note ∷ older) = queued_by older ++ note ∷ []
queued_by (PumpedAt moment ∷ older) = queued_by older
queued_by (AnswerCame invoke ∷ older) = queued_by older

-- a pump gives up all that waits, as the site chose
abbrev pub IsGivenUpBy : Timing → Delivery → Operation → Type 0
IsGivenUpBy timing delivery (NoteQueued note) = ⊥
IsGivenUpBy timing delivery (PumpedAt moment) = (timing.flush_silent ≡ true) × IsGivenUpAt timing moment delivery
IsGivenUpBy timing delivery (AnswerCame invoke) = ⊥

-- Behind each operation all notes are there that were there before it, and those that it queued; but for a pump that gives up all.
abbrev pub LosesNothingElse : Type 0
LosesNothingElse = (timing : Timing) (older : List Operation) (operation : Operation) →
    ((delivery_after timing (operation ∷ older)).all ≡ (delivery_after timing older).all ++ queued_by (operation ∷ [])) ⊎ IsGivenUpBy timing (delivery_after timing older) operation

-- no pump among the operations is later than the moment
unfoldable pub ArePumpedBy : ℕ → List Operation → Type 0
ArePumpedBy moment [] = ⊤
ArePumpedBy moment (NoteQueued note ∷ older) = ArePumpedBy moment older
ArePumpedBy moment (PumpedAt pumped ∷ older) = (pumped ≤ moment) × ArePumpedBy moment older
ArePumpedBy moment (AnswerCame invoke ∷ older) = ArePumpedBy moment older

-- From the start up to now no answer came, and no more than the gap went by without a pump.
unfoldable pub IsSilentFrom : ℕ → ℕ → List Operation → ℕ → Type 0
IsSilentFrom gap start [] now = (start ≤ now) × (now ≤ start + gap)
IsSilentFrom gap start (NoteQueued note ∷ older) now = IsSilentFrom gap start older now
IsSilentFrom gap start (PumpedAt moment ∷ older) now = (moment ≤ now) × (now ≤ moment + gap) × IsSilentFrom gap start older moment
IsSilentFrom gap start (AnswerCame invoke ∷ older) now = ⊥

-- the first notes are the last of the others, in the same order
pub record IsEndOf (notes all : List Note) : Type 0 where
  pub fewer : length notes ≤ length all
  pub last : notes ≡ drop (length all - length notes) all

-- Where the site chose it, and a recipient was silent for longer than all transmissions of a note may take, what waits for it
-- was queued since then.
abbrev pub ForgetsTheSilent : Type 0
ForgetsTheSilent = (timing : Timing) (gap start now : ℕ) (recent older : List Operation) → timing.flush_silent ≡ true →
    ArePumpedBy start older → IsSilentFrom gap start recent now → start + (timing.retries + 1) * (timing.timeout + gap) + gap < now →
    (let delivery = delivery_after timing (recent ++ older) in IsEndOf (drop delivery.finished delivery.all) (queued_by recent))
