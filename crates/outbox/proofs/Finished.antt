-- The notes of one recipient are finished in their order.
use Rattle.std.proofs.Common.{◌≡◌, ℕ, ◌+◌, ◌-◌, ◌%◌, ◌<◌, ◌≤◌, Bool, true, false, not, nat_lt, nat_le, ◌&&◌, ◌==◌, List, [], ◌∷◌, length, drop, get_or, refl, sym, ◌∙◌, ap, inl, inr, arith, rules}
use Rattle.std.specs.List.{position_or_len, count_by}
use Rattle.std.proofs.lemmas.Bool.{ltb-true, ltb-false, eqb-true, cases_lt}
use Rattle.std.proofs.lemmas.Bool.Decides.{nat_tests}
use Rattle.std.proofs.lemmas.List.{length-drop, get_or-drop, take-append-le, take-take}
use Rattle.std.proofs.lemmas.List.Sums.{fails_before_first, prefix_len-le-length}
use Rattle.bac_values.specs.declared.note.Note.{Note}
use Rattle.outbox.specs.Delivery.{Operation, NoteQueued, PumpedAt, AnswerCame, Timing, Delivery, is_confirmed, invoke_id, next_confirmed, is_awaited, is_repeated, gives_up, sent_from, pumped_at, answered_with, delivery_after}
use Rattle.outbox.specs.Finishing.{IsConfirmedAt, IsFinishedBy, FinishesInOrder}
use Rattle.outbox.proofs.Laws.{delivery_is}

le-true : (a b : ℕ) → nat_le a b ≡ true → a ≤ b
le-true a b e = search (rules, e)

pub le-false : (a b : ℕ) → nat_le a b ≡ false → b < a
le-false a b e = search (rules, e)

pub le_true : (a b : ℕ) → a ≤ b → nat_le a b ≡ true
le_true a b h = grind (arith, nat_tests)

pub le_false : (a b : ℕ) → b < a → nat_le a b ≡ false
le_false a b h = grind (arith, nat_tests)

pub lt_true : (a b : ℕ) → a < b → nat_lt a b ≡ true
lt_true a b h = grind (arith, nat_tests)

pub lt_false : (a b : ℕ) → b ≤ a → nat_lt a b ≡ false
lt_false a b h = grind (arith, nat_tests)

-- how often a note is sent
sent_few : (timing : Timing) (moment place : ℕ) (d : Delivery) → (sent_from timing moment place d).attempts ≤ 1 + timing.retries
sent_few timing moment place d = by_test (nat_lt (next_confirmed d.all place) (length d.all)) refl
  where
    by_test : (b : Bool) → nat_lt (next_confirmed d.all place) (length d.all) ≡ b → (sent_from timing moment place d).attempts ≤ 1 + timing.retries
    by_test true e = rw e (omega arith)
    by_test false e = rw e (omega arith)

pumped_few : (timing : Timing) (moment : ℕ) (d : Delivery) → d.attempts ≤ 1 + timing.retries → (pumped_at timing moment d).attempts ≤ 1 + timing.retries
pumped_few timing moment d few = by_test (is_awaited moment d.attempts d.deadline) (nat_lt 0 d.attempts) (nat_le d.attempts timing.retries) (gives_up timing.flush_silent d.attempts) refl refl refl refl
  where
    by_test : (a b c s : Bool) → is_awaited moment d.attempts d.deadline ≡ a → nat_lt 0 d.attempts ≡ b → nat_le d.attempts timing.retries ≡ c → gives_up timing.flush_silent d.attempts ≡ s → (pumped_at timing moment d).attempts ≤ 1 + timing.retries
    by_test true b c s e f g h = rw e few
    by_test false true true s e f g h = let most = le-true d.attempts timing.retries g in rw (e, f, g) (omega (arith, most))
    by_test false true false true e f g h = rw (e, h, f, g) (omega arith)
    by_test false true false false e f g h = rw (e, h, f, g) (sent_few timing moment (d.finished + 1) d)
    by_test false false c s e f g h = rw (e, f) (sent_few timing moment d.finished d)

answered_few : (retries invoke : ℕ) (d : Delivery) → d.attempts ≤ 1 + retries → (answered_with invoke d).attempts ≤ 1 + retries
answered_few retries invoke d few = by_test (nat_lt 0 d.attempts && invoke == invoke_id d.all d.finished) refl
  where
    by_test : (b : Bool) → (nat_lt 0 d.attempts && invoke == invoke_id d.all d.finished) ≡ b → (answered_with invoke d).attempts ≤ 1 + retries
    by_test true e = rw e (omega arith)
    by_test false e = rw e few

pub few_after : (timing : Timing) (older : List Operation) → (delivery_after timing older).attempts ≤ 1 + timing.retries
unfolding delivery_after
few_after timing [] = omega arith
few_after timing (NoteQueued note ∷ older) = few_after timing older
few_after timing (PumpedAt moment ∷ older) = pumped_few timing moment (delivery_after timing older) (few_after timing older)
few_after timing (AnswerCame invoke ∷ older) = answered_few timing.retries invoke (delivery_after timing older) (few_after timing older)

-- those before the first that is to be confirmed
pub unconfirmed_between : (all : List Note) (from place : ℕ) → from ≤ place → place < next_confirmed all from → IsConfirmedAt all place false
unconfirmed_between all from place above below =
    let size = length-drop from all in
    let most = prefix_len-le-length (λ (n : Note). not (is_confirmed n)) (drop from all) in
    let k = place - from in
    let within : k < position_or_len is_confirmed (drop from all) = omega (arith, above, below) in
    let at : from + k ≡ place = omega (arith, above) in
    (omega (arith, size, most, within, at), λ d. ap (λ n. is_confirmed (get_or all n d)) (sym at) ∙ ap is_confirmed (sym (get_or-drop from all k d)) ∙ fails_before_first is_confirmed (drop from all) k d within)

-- a pump
module _ (timing : Timing) (moment : ℕ) (d : Delivery) (few : d.attempts ≤ 1 + timing.retries) where
  pumped_order : d.finished ≤ (pumped_at timing moment d).finished
  pumped_order = by_test (is_awaited moment d.attempts d.deadline) (nat_lt 0 d.attempts) (nat_le d.attempts timing.retries) (gives_up timing.flush_silent d.attempts) refl refl refl refl
    where
      by_test : (a b c s : Bool) → is_awaited moment d.attempts d.deadline ≡ a → nat_lt 0 d.attempts ≡ b → nat_le d.attempts timing.retries ≡ c → gives_up timing.flush_silent d.attempts ≡ s → d.finished ≤ (pumped_at timing moment d).finished
      by_test true b c s e f g h = rw e (omega arith)
      by_test false true true s e f g h = rw (e, f, g) (omega arith)
      by_test false true false true e f g h = rw (e, h, f, g) (omega arith)
      by_test false true false false e f g h = rw (e, h, f, g) (omega arith)
      by_test false false c s e f g h = rw (e, f) (omega arith)

  same_none : {P : Type 0} (place : ℕ) → d.finished ≤ place → place < d.finished → P
  same_none place above below = absurd (omega (arith, above, below))

  -- a note before the first that is to be confirmed is sent
  sent_between : (from place : ℕ) → from ≤ place → place < next_confirmed d.all from → (nat_le from place && nat_le place (next_confirmed d.all from) && nat_lt place (length d.all)) ≡ true
  sent_between from place above below = rw (le_true from place above, le_true place (next_confirmed d.all from) (omega (arith, below)), lt_true place (length d.all) (unconfirmed_between d.all from place above below).0) refl

  pumped_cause : (place : ℕ) → d.finished ≤ place → place < (pumped_at timing moment d).finished → IsFinishedBy timing d place (PumpedAt moment)
  pumped_cause place above below = by_test (nat_lt 0 d.attempts) (nat_lt moment d.deadline) (nat_le d.attempts timing.retries) (gives_up timing.flush_silent d.attempts) refl refl refl refl
    where
      given_up_at : nat_lt 0 d.attempts ≡ true → nat_lt moment d.deadline ≡ false → nat_le d.attempts timing.retries ≡ false → place < d.finished + 1 → IsFinishedBy timing d place (PumpedAt moment)
      given_up_at e f g first =
          let sent : 0 < d.attempts = ltb-true 0 d.attempts e in
          let late : d.deadline ≤ moment = ltb-false moment d.deadline f in
          let many = le-false d.attempts timing.retries g in
          let last : d.attempts ≡ 1 + timing.retries = omega (arith, many, few) in
          inl ((omega (arith, above, first), sent), (last, late))

      by_test : (a b c s : Bool) → nat_lt 0 d.attempts ≡ a → nat_lt moment d.deadline ≡ b → nat_le d.attempts timing.retries ≡ c → gives_up timing.flush_silent d.attempts ≡ s → IsFinishedBy timing d place (PumpedAt moment)
      by_test true true c s e f g h = same_none place above (rw (e, f) at below)
      by_test true false true s e f g h = same_none place above (rw (e, f, g) at below)
      by_test true false false true e f g h = given_up_at e f g (rw (h, e, f, g) at below)
      by_test true false false false e f g h =
          let under : place < next_confirmed d.all (d.finished + 1) = rw (h, e, f, g) at below in
          elim (cases_lt place (d.finished + 1)) [
            | inl first ↦ given_up_at e f g first
            | inr behind ↦ inr (rw (h, e, f, g) (sent_between (d.finished + 1) place behind under), unconfirmed_between d.all (d.finished + 1) place behind under)
          ]
      by_test false b c s e f g h =
          let under : place < next_confirmed d.all d.finished = rw e at below in
          inr (rw e (sent_between d.finished place above under), unconfirmed_between d.all d.finished place above under)

-- an answer
module _ (timing : Timing) (invoke : ℕ) (d : Delivery) where
  answered_order : d.finished ≤ (answered_with invoke d).finished
  answered_order = by_test (nat_lt 0 d.attempts && invoke == invoke_id d.all d.finished) refl
    where
      by_test : (b : Bool) → (nat_lt 0 d.attempts && invoke == invoke_id d.all d.finished) ≡ b → d.finished ≤ (answered_with invoke d).finished
      by_test true e = rw e (omega arith)
      by_test false e = rw e (omega arith)

  answered_cause : (place : ℕ) → d.finished ≤ place → place < (answered_with invoke d).finished → IsFinishedBy timing d place (AnswerCame invoke)
  answered_cause place above below = by_test (nat_lt 0 d.attempts) (invoke == invoke_id d.all d.finished) refl refl
    where
      by_test : (a b : Bool) → nat_lt 0 d.attempts ≡ a → (invoke == invoke_id d.all d.finished) ≡ b → IsFinishedBy timing d place (AnswerCame invoke)
      by_test true true e f =
          let under : place < d.finished + 1 = rw (e, f) at below in
          let here : place ≡ d.finished = omega (arith, above, under) in
          ((here, ltb-true 0 d.attempts e), eqb-true invoke (invoke_id d.all d.finished) f ∙ ap (invoke_id d.all) (sym here))
      by_test true false e f = let under : place < d.finished = rw (e, f) at below in absurd (omega (arith, above, under))
      by_test false b e f = let under : place < d.finished = rw e at below in absurd (omega (arith, above, under))

order_after : (timing : Timing) (older : List Operation) (operation : Operation) → (delivery_after timing older).finished ≤ (delivery_after timing (operation ∷ older)).finished
unfolding delivery_after
order_after timing older (NoteQueued note) = omega arith
order_after timing older (PumpedAt moment) = pumped_order timing moment (delivery_after timing older) (few_after timing older)
order_after timing older (AnswerCame invoke) = answered_order timing invoke (delivery_after timing older)

cause_after : (timing : Timing) (older : List Operation) (operation : Operation) (place : ℕ) → (delivery_after timing older).finished ≤ place → place < (delivery_after timing (operation ∷ older)).finished → IsFinishedBy timing (delivery_after timing older) place operation
unfolding delivery_after
cause_after timing older (NoteQueued note) place above below = absurd (omega (arith, above, below))
cause_after timing older (PumpedAt moment) place above below = pumped_cause timing moment (delivery_after timing older) (few_after timing older) place above below
cause_after timing older (AnswerCame invoke) place above below = answered_cause timing invoke (delivery_after timing older) place above below

-- what is queued and what is given up change the list of notes, and only behind the next one
pumped_number : (timing : Timing) (moment : ℕ) (d : Delivery) (place : ℕ) → place ≤ d.finished → invoke_id (pumped_at timing moment d).all place ≡ invoke_id d.all place
pumped_number timing moment d place before = by_test (is_awaited moment d.attempts d.deadline) (is_repeated timing.retries d.attempts) (gives_up timing.flush_silent d.attempts) refl refl refl
  where
    by_test : (a b s : Bool) → is_awaited moment d.attempts d.deadline ≡ a → is_repeated timing.retries d.attempts ≡ b → gives_up timing.flush_silent d.attempts ≡ s → invoke_id (pumped_at timing moment d).all place ≡ invoke_id d.all place
    by_test true b s e f g = rw e refl
    by_test false true s e f g = rw (e, f) refl
    by_test false false true e f g = rw (e, f, g) (ap (λ ns. count_by is_confirmed ns % 256) (take-take place (d.finished + 1) d.all (omega (arith, before))))
    by_test false false false e f g = rw (e, f, g) refl

pub answered_all : (invoke : ℕ) (d : Delivery) → (answered_with invoke d).all ≡ d.all
answered_all invoke d = by_test (nat_lt 0 d.attempts && invoke == invoke_id d.all d.finished) refl
  where
    by_test : (b : Bool) → (nat_lt 0 d.attempts && invoke == invoke_id d.all d.finished) ≡ b → (answered_with invoke d).all ≡ d.all
    by_test true e = rw e refl
    by_test false e = rw e refl

one_number_after : (timing : Timing) (older : List Operation) (operation : Operation) (place : ℕ) → place ≤ (delivery_after timing older).finished →
    invoke_id (delivery_after timing (operation ∷ older)).all place ≡ invoke_id (delivery_after timing older).all place
unfolding delivery_after
one_number_after timing older (NoteQueued note) place before =
    let within = (delivery_is timing older).within in
    ap (λ ns. count_by is_confirmed ns % 256) (take-append-le place (delivery_after timing older).all (note ∷ []) (omega (arith, within, before)))
one_number_after timing older (PumpedAt moment) place before = pumped_number timing moment (delivery_after timing older) place before
one_number_after timing older (AnswerCame invoke) place before = ap (λ ns. invoke_id ns place) (answered_all invoke (delivery_after timing older))

pub finishes_in_order : FinishesInOrder
finishes_in_order = record {
  order = order_after;
  cause = cause_after;
  in_flight = λ timing older sent. (delivery_is timing older).in_flight sent;
  few = few_after;
  one_number = one_number_after;
}
