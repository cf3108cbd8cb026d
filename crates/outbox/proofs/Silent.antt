-- What comes of the notes of a recipient that is silent.
use Rattle.std.proofs.Common.{◌≡◌, ◌⊎◌, ℕ, ◌+◌, ◌-◌, ◌*◌, ◌<◌, ◌≤◌, Bool, true, false, nat_lt, nat_le, ◌&&◌, ◌==◌, List, [], ◌∷◌, ◌++◌, length, take, drop, refl, sym, ◌∙◌, ap, subst, inl, inr, arith, length-append}
use Rattle.std.proofs.Math.Nat.{add-mul, mul-le-mul_right}
use Rattle.std.proofs.lemmas.Bool.{ltb-true, ltb-false, cases_lt}
use Rattle.std.proofs.lemmas.List.{append-nil, drop-drop, drop_all, drop-append-le, length-drop, length-take, length-take-le}
use Rattle.bac_values.specs.Address.{PeerData}
use Rattle.bac_values.specs.declared.note.Note.{Note}
use Rattle.outbox.specs.Delivery.{Operation, NoteQueued, PumpedAt, AnswerCame, Timing, Delivery, invoke_id, next_confirmed, is_awaited, is_repeated, gives_up, first_unsent, pumped_at, answered_with, delivery_after}
use Rattle.outbox.specs.Finishing.{IsGivenUpAt}
use Rattle.outbox.specs.Silence.{GivesUpOne, IsEmptied, GivesUpAll, queued_by, LosesNothingElse, ArePumpedBy, IsSilentFrom, IsEndOf, ForgetsTheSilent}
use Rattle.outbox.proofs.Laws.{IsDelivery, delivery_is}
use Rattle.outbox.proofs.Finished.{few_after, answered_all, le-false, le_false, lt_true, lt_false}

-- ---- where the site didn't choose it

never_both : (sent flush_silent : Bool) → flush_silent ≡ false → (sent && flush_silent) ≡ false
never_both true flush_silent e = e
never_both false flush_silent e = refl

pub gives_up_one : GivesUpOne
gives_up_one = record {
  pumped = λ timing moment delivery off. let none = never_both (nat_lt 0 delivery.attempts) timing.flush_silent off in rw none refl;
  sent = λ timing moment peer delivery off. let none = never_both (nat_lt 0 delivery.attempts) timing.flush_silent off in rw none refl;
  places = λ timing moment delivery place off. let none = never_both (nat_lt 0 delivery.attempts) timing.flush_silent off in rw none refl;
}

-- ---- where it did, and the last deadline has come

emptied : (peer : PeerData) (timing : Timing) (moment : ℕ) (d : Delivery) → IsDelivery d → timing.flush_silent ≡ true → IsGivenUpAt timing moment d → IsEmptied peer timing moment d
emptied peer timing moment d is on given =
    let last = given.0 in
    let some : 0 < d.attempts = omega (arith, last) in
    let sent : nat_lt 0 d.attempts ≡ true = lt_true 0 d.attempts some in
    let late : nat_lt moment d.deadline ≡ false = lt_false moment d.deadline given.1 in
    let many : nat_le d.attempts timing.retries ≡ false = le_false d.attempts timing.retries (omega (arith, last)) in
    let there = (is.in_flight some).0 in
    let size : length (take (d.finished + 1) d.all) ≡ d.finished + 1 = length-take-le (d.finished + 1) d.all (omega (arith, there)) in
    record {
      none_waits = rw (sent, late, many, on) size;
      one = rw (sent, late, many, on) refl;
      rests = rw (sent, late, many, on) refl;
      silent = rw (sent, late, many, on) refl;
    }

pub gives_up_all : GivesUpAll
gives_up_all timing moment peer operations on given = emptied peer timing moment (delivery_after timing operations) (delivery_is timing operations) on given

-- ---- nothing else is lost

same_list : (before now : List Note) → now ≡ before → now ≡ before ++ []
same_list before now is = is ∙ sym (append-nil before)

loses_pumped : (timing : Timing) (moment : ℕ) (d : Delivery) → d.attempts ≤ 1 + timing.retries →
    ((pumped_at timing moment d).all ≡ d.all ++ []) ⊎ ((timing.flush_silent ≡ true) × IsGivenUpAt timing moment d)
loses_pumped timing moment d few = by_test (nat_lt 0 d.attempts) (nat_lt moment d.deadline) (nat_le d.attempts timing.retries) timing.flush_silent refl refl refl refl
  where
    by_test : (a b c s : Bool) → nat_lt 0 d.attempts ≡ a → nat_lt moment d.deadline ≡ b → nat_le d.attempts timing.retries ≡ c → timing.flush_silent ≡ s →
        ((pumped_at timing moment d).all ≡ d.all ++ []) ⊎ ((timing.flush_silent ≡ true) × IsGivenUpAt timing moment d)
    by_test true true c s e f g h = inl (rw (e, f) (same_list d.all d.all refl))
    by_test true false true s e f g h = inl (rw (e, f, g) (same_list d.all d.all refl))
    by_test true false false true e f g h = let many = le-false d.attempts timing.retries g in inr (h, (omega (arith, many, few), ltb-false moment d.deadline f))
    by_test true false false false e f g h = inl (rw (e, f, g, h) (same_list d.all d.all refl))
    by_test false b c s e f g h = inl (rw e (same_list d.all d.all refl))

pub loses_nothing_else : LosesNothingElse
unfolding delivery_after queued_by
loses_nothing_else timing older (NoteQueued note) = inl refl
loses_nothing_else timing older (PumpedAt moment) = loses_pumped timing moment (delivery_after timing older) (few_after timing older)
loses_nothing_else timing older (AnswerCame invoke) = inl (same_list (delivery_after timing older).all _ (answered_all invoke (delivery_after timing older)))

-- ---- ends of a list

end_none : (all : List Note) → IsEndOf [] all
end_none all = record { fewer = omega arith; last = sym (drop_all (length all - 0) all (omega arith)) }

end_more : (notes all : List Note) (note : Note) → IsEndOf notes all → IsEndOf (notes ++ note ∷ []) (all ++ note ∷ [])
end_more notes all note is =
    let few = is.fewer in
    let first : length (notes ++ note ∷ []) ≡ length notes + 1 = length-append notes (note ∷ []) in
    let second : length (all ++ note ∷ []) ≡ length all + 1 = length-append all (note ∷ []) in
    let apart : length (all ++ note ∷ []) - length (notes ++ note ∷ []) ≡ length all - length notes = omega (arith, first, second) in
    record {
      fewer = omega (arith, first, second, few);
      last = ap (λ ns. ns ++ note ∷ []) is.last ∙ sym (drop-append-le (length all - length notes) all (note ∷ []) (omega arith)) ∙ sym (ap (λ n. drop n (all ++ note ∷ [])) apart);
    }

end_less : (notes all : List Note) (count : ℕ) → IsEndOf notes all → IsEndOf (drop count notes) all
end_less notes all count is = elim (cases_lt (length notes) count) [
  | inl past ↦ subst (λ ns. IsEndOf ns all) (sym (drop_all count notes (omega (arith, past)))) (end_none all)
  | inr within ↦
      let few = is.fewer in
      let size : length (drop count notes) ≡ length notes - count = length-drop count notes in
      let apart : length all - length notes + count ≡ length all - length (drop count notes) = omega (arith, size, few, within) in
      record {
        fewer = omega (arith, size, few);
        last = ap (drop count) is.last ∙ drop-drop count (length all - length notes) all ∙ ap (λ n. drop n all) apart;
      }
]

-- ---- deadlines

deadline_pumped : (timing : Timing) (start moment : ℕ) (d : Delivery) → moment ≤ start → d.deadline ≤ start + timing.timeout → (pumped_at timing moment d).deadline ≤ start + timing.timeout
deadline_pumped timing start moment d before ends = by_test (is_awaited moment d.attempts d.deadline) (is_repeated timing.retries d.attempts) (gives_up timing.flush_silent d.attempts) (nat_lt (next_confirmed d.all (first_unsent d)) (length d.all)) refl refl refl refl
  where
    by_test : (a b s c : Bool) → is_awaited moment d.attempts d.deadline ≡ a → is_repeated timing.retries d.attempts ≡ b → gives_up timing.flush_silent d.attempts ≡ s → nat_lt (next_confirmed d.all (first_unsent d)) (length d.all) ≡ c →
        (pumped_at timing moment d).deadline ≤ start + timing.timeout
    by_test true b s c e f g h = rw e ends
    by_test false true s c e f g h = rw (e, f) (omega (arith, before))
    by_test false false true c e f g h = rw (e, f, g) (omega arith)
    by_test false false false true e f g h = rw (e, f, g, h) (omega (arith, before))
    by_test false false false false e f g h = rw (e, f, g, h) (omega arith)

deadline_answered : (invoke most : ℕ) (d : Delivery) → d.deadline ≤ most → (answered_with invoke d).deadline ≤ most
deadline_answered invoke most d ends = by_test (nat_lt 0 d.attempts && invoke == invoke_id d.all d.finished) refl
  where
    by_test : (b : Bool) → (nat_lt 0 d.attempts && invoke == invoke_id d.all d.finished) ≡ b → (answered_with invoke d).deadline ≤ most
    by_test true e = rw e (omega arith)
    by_test false e = rw e ends

deadline_by : (timing : Timing) (start : ℕ) (older : List Operation) → ArePumpedBy start older → (delivery_after timing older).deadline ≤ start + timing.timeout
unfolding delivery_after ArePumpedBy
deadline_by timing start [] by = omega arith
deadline_by timing start (NoteQueued note ∷ older) by = deadline_by timing start older by
deadline_by timing start (PumpedAt moment ∷ older) by = deadline_pumped timing start moment (delivery_after timing older) by.0 (deadline_by timing start older by.1)
deadline_by timing start (AnswerCame invoke ∷ older) by = deadline_answered invoke (start + timing.timeout) (delivery_after timing older) (deadline_by timing start older by)

-- ---- how far a recipient that is silent has come

-- a note is in flight, and so often it was sent within that time
record IsTried (timing : Timing) (gap start now : ℕ) (d : Delivery) : Type 0 where
  sent : 0 < d.attempts
  ends : d.deadline ≤ start + d.attempts * (timing.timeout + gap)
  near : now ≤ start + d.attempts * (timing.timeout + gap) + gap

-- none is, and no pump came since the start
record IsResting (gap start now : ℕ) (d : Delivery) : Type 0 where
  rests : d.attempts ≡ 0
  near : now ≤ start + gap

-- or what waits was queued since
abbrev HasCome : Timing → ℕ → ℕ → List Operation → ℕ → Delivery → Type 0
HasCome timing gap start recent now d = IsEndOf (drop d.finished d.all) (queued_by recent) ⊎ (IsTried timing gap start now d ⊎ IsResting gap start now d)

module _ (timing : Timing) (gap start : ℕ) where
  once_more : (n : ℕ) → (n + 1) * (timing.timeout + gap) ≡ n * (timing.timeout + gap) + (timing.timeout + gap)
  once_more n = let one : 1 * (timing.timeout + gap) ≡ timing.timeout + gap = omega arith in add-mul n 1 (timing.timeout + gap) ∙ ap (λ k. n * (timing.timeout + gap) + k) one

  at_least_once : (n : ℕ) → 0 < n → timing.timeout + gap ≤ n * (timing.timeout + gap)
  at_least_once n some =
      let more : 1 * (timing.timeout + gap) ≤ n * (timing.timeout + gap) = mul-le-mul_right (timing.timeout + gap) (omega (arith, some)) in
      let one : 1 * (timing.timeout + gap) ≡ timing.timeout + gap = omega arith in
      omega (arith, more, one)

  begins : (now : ℕ) (d : Delivery) → d.deadline ≤ start + timing.timeout → now ≤ start + gap → IsTried timing gap start now d ⊎ IsResting gap start now d
  begins now d ends near = elim (cases_lt 0 d.attempts) [
    | inl some ↦
        let more = at_least_once d.attempts some in
        inl (record { sent = some; ends = omega (arith, more, ends); near = omega (arith, more, near) })
    | inr none ↦ inr (record { rests = omega (arith, none); near = near })
  ]

  none_behind : (d : Delivery) (queued : List Note) → IsEndOf (drop (d.finished + 1) (take (d.finished + 1) d.all)) queued
  none_behind d queued =
      let size = length-take (d.finished + 1) d.all in
      subst (λ ns. IsEndOf ns queued) (sym (drop_all (d.finished + 1) (take (d.finished + 1) d.all) (omega (arith, size)))) (end_none queued)

  -- a pump of one for whom all that waits was queued since
  forgotten_pumped : (moment : ℕ) (d : Delivery) (queued : List Note) → IsEndOf (drop d.finished d.all) queued → IsEndOf (drop (pumped_at timing moment d).finished (pumped_at timing moment d).all) queued
  forgotten_pumped moment d queued end = by_test (is_awaited moment d.attempts d.deadline) (nat_lt 0 d.attempts) (nat_le d.attempts timing.retries) timing.flush_silent refl refl refl refl
    where
      behind : (place : ℕ) → d.finished ≤ place → IsEndOf (drop (next_confirmed d.all place) d.all) queued
      behind place above =
          let apart : d.finished + (next_confirmed d.all place - d.finished) ≡ next_confirmed d.all place = omega (arith, above) in
          subst (λ ns. IsEndOf ns queued) (drop-drop (next_confirmed d.all place - d.finished) d.finished d.all ∙ ap (λ n. drop n d.all) apart) (end_less (drop d.finished d.all) queued (next_confirmed d.all place - d.finished) end)

      by_test : (a b c s : Bool) → is_awaited moment d.attempts d.deadline ≡ a → nat_lt 0 d.attempts ≡ b → nat_le d.attempts timing.retries ≡ c → timing.flush_silent ≡ s →
          IsEndOf (drop (pumped_at timing moment d).finished (pumped_at timing moment d).all) queued
      by_test true b c s e f g h = rw e end
      by_test false true true s e f g h = rw (e, f, g) end
      by_test false true false true e f g h = rw (e, f, g, h) (none_behind d queued)
      by_test false true false false e f g h = rw (e, f, g, h) (behind (d.finished + 1) (omega arith))
      by_test false false c s e f g h = rw (e, f) (behind d.finished (omega arith))

  -- a pump of one of whom a note is in flight
  tried_pumped : (moment now : ℕ) (d : Delivery) (queued : List Note) → timing.flush_silent ≡ true → now ≤ moment + gap → IsTried timing gap start moment d →
      IsEndOf (drop (pumped_at timing moment d).finished (pumped_at timing moment d).all) queued ⊎ (IsTried timing gap start now (pumped_at timing moment d) ⊎ IsResting gap start now (pumped_at timing moment d))
  tried_pumped moment now d queued on near tried = by_test (nat_lt moment d.deadline) (nat_le d.attempts timing.retries) refl refl
    where
      sent : nat_lt 0 d.attempts ≡ true
      sent = lt_true 0 d.attempts tried.sent

      by_test : (a b : Bool) → nat_lt moment d.deadline ≡ a → nat_le d.attempts timing.retries ≡ b →
          IsEndOf (drop (pumped_at timing moment d).finished (pumped_at timing moment d).all) queued ⊎ (IsTried timing gap start now (pumped_at timing moment d) ⊎ IsResting gap start now (pumped_at timing moment d))
      by_test true b e f =
          let below = ltb-true moment d.deadline e in
          let ends = tried.ends in
          let here = sent in
          rw (here, e) (inr (inl (record { sent = tried.sent; ends = ends; near = omega (arith, near, below, ends) })))
      by_test false true e f =
          let more = once_more d.attempts in
          let last = tried.near in
          let here = sent in
          rw (here, e, f) (inr (inl (record { sent = omega arith; ends = omega (arith, more, last); near = omega (arith, more, last, near) })))
      by_test false false e f = let here = sent in rw (here, e, f, on) (inl (none_behind d queued))

  -- a pump of one of whom none is
  resting_pumped : (moment now : ℕ) (d : Delivery) (queued : List Note) → now ≤ moment + gap → IsResting gap start moment d →
      IsEndOf (drop (pumped_at timing moment d).finished (pumped_at timing moment d).all) queued ⊎ (IsTried timing gap start now (pumped_at timing moment d) ⊎ IsResting gap start now (pumped_at timing moment d))
  resting_pumped moment now d queued near resting = by_test (nat_lt (next_confirmed d.all d.finished) (length d.all)) refl
    where
      none : nat_lt 0 d.attempts ≡ false
      none = ap (nat_lt 0) resting.rests

      by_test : (a : Bool) → nat_lt (next_confirmed d.all d.finished) (length d.all) ≡ a →
          IsEndOf (drop (pumped_at timing moment d).finished (pumped_at timing moment d).all) queued ⊎ (IsTried timing gap start now (pumped_at timing moment d) ⊎ IsResting gap start now (pumped_at timing moment d))
      by_test true e =
          let last = resting.near in
          let one : 1 * (timing.timeout + gap) ≡ timing.timeout + gap = omega arith in
          let here = none in
          rw (here, e) (inr (inl (record { sent = omega arith; ends = omega (arith, one, last); near = omega (arith, one, last, near) })))
      by_test false e =
          let past = ltb-false (next_confirmed d.all d.finished) (length d.all) e in
          let here = none in
          rw (here, e) (inl (subst (λ ns. IsEndOf ns queued) (sym (drop_all (next_confirmed d.all d.finished) d.all past)) (end_none queued)))

  has_come : timing.flush_silent ≡ true → (older : List Operation) → ArePumpedBy start older → (recent : List Operation) (now : ℕ) → IsSilentFrom gap start recent now →
      HasCome timing gap start recent now (delivery_after timing (recent ++ older))
  unfolding delivery_after queued_by IsSilentFrom
  has_come on older by [] now silent = inr (begins now (delivery_after timing older) (deadline_by timing start older by) silent.1)
  has_come on older by (NoteQueued note ∷ recent) now silent = elim (has_come on older by recent now silent) [
    | inl end ↦
        let d = delivery_after timing (recent ++ older) in
        let within = (delivery_is timing (recent ++ older)).within in
        inl (subst (λ ns. IsEndOf ns (queued_by recent ++ note ∷ [])) (sym (drop-append-le d.finished d.all (note ∷ []) within)) (end_more (drop d.finished d.all) (queued_by recent) note end))
    | inr (inl tried) ↦ inr (inl (record { sent = tried.sent; ends = tried.ends; near = tried.near }))
    | inr (inr resting) ↦ inr (inr (record { rests = resting.rests; near = resting.near }))
  ]
  has_come on older by (PumpedAt moment ∷ recent) now silent = elim (has_come on older by recent moment silent.2) [
    | inl end ↦ inl (forgotten_pumped moment (delivery_after timing (recent ++ older)) (queued_by recent) end)
    | inr (inl tried) ↦ tried_pumped moment now (delivery_after timing (recent ++ older)) (queued_by recent) on silent.1 tried
    | inr (inr resting) ↦ resting_pumped moment now (delivery_after timing (recent ++ older)) (queued_by recent) silent.1 resting
  ]
  has_come on older by (AnswerCame invoke ∷ recent) now silent = absurd silent

pub forgets_the_silent : ForgetsTheSilent
forgets_the_silent timing gap start now recent older on by silent late = elim (has_come timing gap start on older by recent now silent) [
  | inl end ↦ end
  | inr (inl tried) ↦
      let few = few_after timing (recent ++ older) in
      let most : (delivery_after timing (recent ++ older)).attempts * (timing.timeout + gap) ≤ (timing.retries + 1) * (timing.timeout + gap) = mul-le-mul_right (timing.timeout + gap) (omega (arith, few)) in
      let last = tried.near in
      absurd (omega (arith, most, last, late))
  | inr (inr resting) ↦ let last = resting.near in absurd (omega (arith, last, late))
]
