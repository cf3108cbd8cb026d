-- How often a note is sent.
use Rattle.std.proofs.Common.{◌≡◌, ℕ, ◌+◌, ◌<◌, ◌≤◌, Bool, true, false, not, nat_lt, nat_le, ◌&&◌, ◌==◌, List, [], ◌∷◌, length, drop, refl, ◌∙◌, inl, inr, arith}
use Rattle.std.proofs.lemmas.Bool.{ltb-true, ltb-false, eqb-true, cases_lt, cases_eq}
use Rattle.std.proofs.lemmas.Bool.Decides.{nat_tests}
use Rattle.std.proofs.lemmas.List.{length-drop}
use Rattle.std.proofs.lemmas.List.Sums.{prefix_len-le-length}
use Rattle.bac_values.specs.declared.note.Note.{Note}
use Rattle.outbox.specs.Delivery.{Operation, NoteQueued, PumpedAt, AnswerCame, Timing, Delivery, is_confirmed, invoke_id, next_confirmed, is_awaited, gives_up, given_up, sent_from, pumped_at, answered_with, delivery_after}
use Rattle.outbox.specs.Finishing.{as_number, is_sent_at, transmissions, IsSentSo, SendsSeldom}
use Rattle.outbox.proofs.Laws.{IsDelivery, delivery_is}
use Rattle.outbox.proofs.Finished.{few_after, le_true, le_false, lt_true, lt_false}

one_at : (place here : ℕ) → place ≡ here → as_number (place == here) ≡ 1
one_at place here e = grind (arith, nat_tests)

none_at : (place here : ℕ) → ((place ≡ here) → ⊥) → as_number (place == here) ≡ 0
none_at place here e = by_test (place == here) refl
  where
    by_test : (b : Bool) → (place == here) ≡ b → as_number (b) ≡ 0
    by_test true f = absurd (e (eqb-true place here f))
    by_test false f = refl

-- a note among those from one place up to another
within_one : (from to end place : ℕ) → from ≤ place → place ≤ to → place < end → as_number (nat_le from place && nat_le place to && nat_lt place end) ≡ 1
within_one from to end place a b c = rw (le_true from place a, le_true place to b, lt_true place end c) refl

before_none : (from to end place : ℕ) → place < from → as_number (nat_le from place && nat_le place to && nat_lt place end) ≡ 0
before_none from to end place a = rw (le_false from place a) refl

behind_none : (from to end place : ℕ) → from ≤ place → to < place → as_number (nat_le from place && nat_le place to && nat_lt place end) ≡ 0
behind_none from to end place a b = rw (le_true from place a, le_false place to b) refl

past_none : (from to end place : ℕ) → from ≤ place → place ≤ to → end ≤ place → as_number (nat_le from place && nat_le place to && nat_lt place end) ≡ 0
past_none from to end place a b c = rw (le_true from place a, le_true place to b, lt_false place end c) refl

module _ (timing : Timing) (place times : ℕ) where
  -- the notes from a place on are sent for the first time
  fresh : (moment first : ℕ) (d : Delivery) → IsDelivery d → d.attempts ≤ 1 + timing.retries → d.finished ≤ first → first ≤ length d.all →
      (d.finished < first → 0 < d.attempts) → (first ≡ d.finished → d.attempts ≡ 0) → first ≤ d.finished + 1 → IsSentSo timing d place times →
      IsSentSo timing (sent_from timing moment first d) place (times + as_number (nat_le first place && nat_le place (next_confirmed d.all first) && nat_lt place (length d.all)))
  fresh moment first d is few low within sent rests near so = elim (cases_lt place first) [
    | inl before ↦
        let none = before_none first next (length d.all) place before in
        elim (cases_lt place d.finished) [
          | inl old ↦
              let done = so.finished old in
              record {
                waiting = λ h. absurd (omega (arith, h, old, low));
                current = λ h. absurd (omega (arith, h, old, low));
                finished = λ h. (omega (arith, none, done.0), omega (arith, none, done.1));
              }
          | inr here ↦
              let now = so.current (omega (arith, here, before, near)) in
              let some = sent (omega (arith, here, before)) in
              record {
                waiting = λ h. absurd (omega (arith, h, before));
                current = λ h. absurd (omega (arith, h, before));
                finished = λ h. (omega (arith, none, now, some), omega (arith, none, now, few));
              }
        ]
    | inr from ↦
        let fresh : times ≡ 0 = none_yet from in
        elim (cases_lt next place) [
          | inl behind ↦
              let none = behind_none first next (length d.all) place from behind in
              record {
                waiting = λ h. omega (arith, none, fresh);
                current = λ h. absurd (omega (arith, h, behind));
                finished = λ h. absurd (omega (arith, h, behind));
              }
          | inr upto ↦ elim (cases_lt place (length d.all)) [
            | inl there ↦
                let one = within_one first next (length d.all) place from upto there in
                record {
                  waiting = λ h. absurd (omega (arith, h, upto));
                  current = λ h. let inside : next < length d.all = omega (arith, h, there) in let flight = lt_true next (length d.all) inside in rw flight (omega (arith, one, fresh));
                  finished = λ h. (omega (arith, one, fresh), omega (arith, one, fresh));
                }
            | inr past ↦
                let none = past_none first next (length d.all) place from upto past in
                record {
                  waiting = λ h. absurd (omega (arith, h, upto));
                  current = λ h. let outside : length d.all ≤ next = omega (arith, h, past) in let rest = lt_false next (length d.all) outside in rw rest (omega (arith, none, fresh));
                  finished = λ h. absurd (let most = next_within in omega (arith, h, past, most));
                }
          ]
        ]
  ]
    where
      next : ℕ
      next = next_confirmed d.all first

      next_within : next_confirmed d.all first ≤ length d.all
      next_within =
          let size = length-drop first d.all in
          let most = prefix_len-le-length (λ (n : Note). not (is_confirmed n)) (drop first d.all) in
          omega (arith, size, most, within)

      none_yet : first ≤ place → times ≡ 0
      none_yet from = elim (cases_lt d.finished place) [
        | inl behind ↦ so.waiting behind
        | inr upto ↦
            let here : place ≡ d.finished = omega (arith, upto, from, low) in
            so.current here ∙ rests (omega (arith, upto, from, low))
      ]

  -- all that waits is given up
  all_given_up : (d : Delivery) → d.attempts ≤ 1 + timing.retries → 0 < d.attempts → IsSentSo timing d place times → IsSentSo timing (given_up d) place (times + 0)
  all_given_up d few sent so = record {
    waiting = λ h. let t = so.waiting (omega (arith, h)) in omega (arith, t);
    current = λ h. let t = so.waiting (omega (arith, h)) in omega (arith, t);
    finished = λ h. elim (cases_lt place d.finished) [
      | inl old ↦ let t = so.finished old in (omega (arith, t.0), omega (arith, t.1))
      | inr here ↦ let t = so.current (omega (arith, h, here)) in (omega (arith, t, sent), omega (arith, t, few))
    ];
  }

  pump_sends : (moment : ℕ) (d : Delivery) → IsDelivery d → d.attempts ≤ 1 + timing.retries → IsSentSo timing d place times →
      IsSentSo timing (pumped_at timing moment d) place (times + as_number (is_sent_at timing moment d place))
  pump_sends moment d is few so = by_test (is_awaited moment d.attempts d.deadline) (nat_lt 0 d.attempts) (nat_le d.attempts timing.retries) (gives_up timing.flush_silent d.attempts) refl refl refl refl
    where
      by_test : (a b c s : Bool) → is_awaited moment d.attempts d.deadline ≡ a → nat_lt 0 d.attempts ≡ b → nat_le d.attempts timing.retries ≡ c → gives_up timing.flush_silent d.attempts ≡ s →
          IsSentSo timing (pumped_at timing moment d) place (times + as_number (is_sent_at timing moment d place))
      by_test true b c s e f g h = rw e (record {
        waiting = λ h. let t = so.waiting h in omega (arith, t);
        current = λ h. let t = so.current h in omega (arith, t);
        finished = λ h. let t = so.finished h in (omega (arith, t.0), omega (arith, t.1));
      })
      by_test false true true s e f g h = rw (e, f, g) (elim (cases_eq place d.finished) [
        | inl here ↦
            let one = one_at place d.finished here in
            let t = so.current here in
            record {
              waiting = λ h. absurd (omega (arith, h, here));
              current = λ h. omega (arith, one, t);
              finished = λ h. absurd (omega (arith, h, here));
            }
        | inr other ↦
            let none = none_at place d.finished other in
            record {
              waiting = λ h. let t = so.waiting h in omega (arith, none, t);
              current = λ h. absurd (other h);
              finished = λ h. let t = so.finished h in (omega (arith, none, t.0), omega (arith, none, t.1));
            }
      ])
      by_test false true false true e f g h = rw (e, h, f, g) (all_given_up d few (ltb-true 0 d.attempts f) so)
      by_test false true false false e f g h =
          let there = (is.in_flight (ltb-true 0 d.attempts f)).0 in
          let sent = ltb-true 0 d.attempts f in
          rw (e, h, f, g) (fresh moment (d.finished + 1) d is few (omega arith) (omega (arith, there)) (λ h. sent) (λ h. absurd (omega (arith, h))) (omega arith) so)
      by_test false false c s e f g h =
          let rests = ltb-false 0 d.attempts f in
          rw (e, f) (fresh moment d.finished d is few (omega arith) is.within (λ h. absurd (omega (arith, h))) (λ h. omega (arith, rests)) (omega arith) so)

  answer_sends : (invoke : ℕ) (d : Delivery) → d.attempts ≤ 1 + timing.retries → IsSentSo timing d place times → IsSentSo timing (answered_with invoke d) place times
  answer_sends invoke d few so = by_test (nat_lt 0 d.attempts) (invoke == invoke_id d.all d.finished) refl refl
    where
      by_test : (a b : Bool) → nat_lt 0 d.attempts ≡ a → (invoke == invoke_id d.all d.finished) ≡ b → IsSentSo timing (answered_with invoke d) place times
      by_test true true e f =
          let sent = ltb-true 0 d.attempts e in
          rw (e, f) (record {
            waiting = λ h. so.waiting (omega (arith, h));
            current = λ h. so.waiting (omega (arith, h));
            finished = λ h. elim (cases_lt place d.finished) [
              | inl old ↦ so.finished old
              | inr here ↦ let t = so.current (omega (arith, h, here)) in (omega (arith, t, sent), omega (arith, t, few))
            ];
          })
      by_test true false e f = rw (e, f) so
      by_test false b e f = rw e so

sends_so : (timing : Timing) (place : ℕ) (operations : List Operation) → IsSentSo timing (delivery_after timing operations) place (transmissions timing place operations)
unfolding delivery_after transmissions
sends_so timing place [] = record {
  waiting = λ h. refl;
  current = λ h. refl;
  finished = λ h. absurd (omega (arith, h));
}
sends_so timing place (NoteQueued note ∷ older) = let so = sends_so timing place older in record { waiting = so.waiting; current = so.current; finished = so.finished }
sends_so timing place (PumpedAt moment ∷ older) = pump_sends timing place (transmissions timing place older) moment (delivery_after timing older) (delivery_is timing older) (few_after timing older) (sends_so timing place older)
sends_so timing place (AnswerCame invoke ∷ older) = answer_sends timing place (transmissions timing place older) invoke (delivery_after timing older) (few_after timing older) (sends_so timing place older)

pub sends_seldom : SendsSeldom
sends_seldom = sends_so
