-- What is kept of a delivery goes through the same operations as the delivery.
use Rattle.std.proofs.Common.{◌≡◌, ℕ, ◌+◌, ◌-◌, ◌*◌, ◌/◌, ◌%◌, ◌<◌, ◌≤◌, Bool, true, false, true≢false, not, nat_lt, nat_le, ◌&&◌, ◌==◌, List, [], ◌∷◌, ◌++◌, length, take, drop, map, reverse, get_or, refl, sym, ◌∙◌, ap, arith, append_assoc, length-append, if◌then◌else◌}
use Rattle.std.specs.List.{position_or_len, count_by}
use Rattle.std.proofs.Math.Nat.{mod-add-div, add-mul-mod_self_left}
use Rattle.std.proofs.lemmas.Bool.{ltb-true}
use Rattle.std.proofs.lemmas.Bool.Decides.{nat_tests}
use Rattle.std.proofs.lemmas.List.{drop-drop, drop-take, take-append-drop, take-take, length-drop, length-take-le, drop_all, drop-append-le, take-append-le, get_or_append_left, get_or-drop, append-nil, reverse-append}
use Rattle.std.proofs.lemmas.List.Sums.{count_by_more_yes, sum_by-append, prefix_len-le-length, passes_at_first}
use Rattle.bac_values.specs.Address.{PeerData}
use Rattle.bac_values.specs.declared.note.Note.{Note}
use Rattle.outbox.specs.Notifying.{datagram_of}
use Rattle.outbox.specs.Delivery.{Operation, NoteQueued, PumpedAt, AnswerCame, Timing, Delivery, is_confirmed, invoke_id, next_confirmed, is_awaited, is_repeated, gives_up, given_up, first_unsent, sent_from, pumped_at, datagrams_between, sent_at, answered_with, queued_for, delivery_after}
use Rattle.outbox.specs.Posts.{post_of, post_after, post_answered, post_given_up, unsent, post_sent, post_pumped, first_datagrams, post_sends, MailboxState}
use Rattle.outbox.proofs.Fronts.{none_before}

-- what is so of every delivery: a note in flight is there, and is to be confirmed
pub record IsDelivery (d : Delivery) : Type 0 where
  pub within : d.finished ≤ length d.all
  pub in_flight : 0 < d.attempts → (d.finished < length d.all) × ((n : Note) → is_confirmed (get_or d.all d.finished n) ≡ true)

was_sent : (sent flush_silent : Bool) → (sent && flush_silent) ≡ true → sent ≡ true
was_sent true flush_silent e = refl
was_sent false flush_silent e = absurd (true≢false (sym e))

mod_next : (a : ℕ) → (a + 1) % 256 ≡ (a % 256 + 1) % 256
mod_next a =
    let apart : a + 1 ≡ (a % 256 + 1) + 256 * (a / 256) = omega (arith, mod-add-div a 256) in
    ap (λ n. n % 256) apart ∙ add-mul-mod_self_left (a % 256 + 1) 256 (a / 256)

-- behind a confirmed note the invoke ID is the next one
invoke_behind : (all : List Note) (k : ℕ) → k < length all → ((n : Note) → is_confirmed (get_or all k n) ≡ true) → invoke_id all (k + 1) ≡ (invoke_id all k + 1) % 256
invoke_behind [] k h confirmed = absurd (omega arith)
invoke_behind (x ∷ xs) k h confirmed =
    ap (λ n. n % 256) (count_by_more_yes is_confirmed (x ∷ xs) k x h (confirmed x)) ∙ mod_next (count_by is_confirmed (take k (x ∷ xs)))

pub take_sum : {X : Type 0} (a b : ℕ) (xs : List X) → take (a + b) xs ≡ take a xs ++ take b (drop a xs)
take_sum a b xs =
    sym (take-append-drop a (take (a + b) xs)) ∙ ap (λ ys. ys ++ drop a (take (a + b) xs)) (take-take a (a + b) xs (omega arith)) ∙ ap (λ ys. take a xs ++ ys) (drop-take a b xs)

-- unconfirmed notes have no part in the invoke ID
invoke_past : (all : List Note) (place : ℕ) → invoke_id all (next_confirmed all place) ≡ invoke_id all place
invoke_past all place =
    let count = position_or_len is_confirmed (drop place all) in
    let none : count_by is_confirmed (take count (drop place all)) ≡ 0 = none_before is_confirmed (drop place all) in
    let both : count_by is_confirmed (take (place + count) all) ≡ count_by is_confirmed (take place all) + count_by is_confirmed (take count (drop place all)) =
    ap (count_by is_confirmed) (take_sum place count all) ∙ sum_by-append _ (take place all) (take count (drop place all)) in
    let same : count_by is_confirmed (take (place + count) all) ≡ count_by is_confirmed (take place all) = omega (arith, none, both) in
    ap (λ n. n % 256) same

lt_apart : (place count n : ℕ) → place ≤ n → nat_lt (place + count) n ≡ nat_lt count (n - place)
lt_apart place count n h = grind (arith, nat_tests)

-- the notes that were never sent, where they begin at this place
sent_by : (timing : Timing) (moment : ℕ) (peer : PeerData) (d : Delivery) (place : ℕ) (post : MailboxState) → place ≤ length d.all → post.peer ≡ peer → post.next_invoke ≡ invoke_id d.all place → post.notes ≡ drop place d.all →
    post_of peer (sent_from timing moment place d) ≡ post_sent timing moment post
sent_by timing moment peer d place post within own invoke notes =
    let count = position_or_len is_confirmed (drop place d.all) in
    let size : length (drop place d.all) ≡ length d.all - place = length-drop place d.all in
    let test : nat_lt (place + count) (length d.all) ≡ nat_lt (position_or_len is_confirmed post.notes) (length post.notes) =
    lt_apart place count (length d.all) within ∙ ap (nat_lt count) (sym size) ∙ ap (λ (ns : List Note). nat_lt (position_or_len is_confirmed ns) (length ns)) (sym notes) in
    let rest : drop (place + count) d.all ≡ drop (position_or_len is_confirmed post.notes) post.notes =
    sym (drop-drop count place d.all) ∙ ap (λ (ns : List Note). drop (position_or_len is_confirmed ns) ns) (sym notes) in
    let number : invoke_id d.all (place + count) ≡ post.next_invoke = invoke_past d.all place ∙ sym invoke in
    let own' : peer ≡ post.peer = sym own in
    λ k. record {
      peer = own' k;
      next_invoke = number k;
      attempts = if test k then 1 else 0;
      deadline = if test k then moment + timing.timeout else 0;
      notes = rest k;
    }

-- the same parts, whether there was a note in flight or not
unsent_number : (peer : PeerData) (d : Delivery) → IsDelivery d → (unsent (post_of peer d)).next_invoke ≡ invoke_id d.all (first_unsent d)
unsent_number peer d is = by_sent (nat_lt 0 d.attempts) refl
  where
    by_sent : (b : Bool) → nat_lt 0 d.attempts ≡ b → (unsent (post_of peer d)).next_invoke ≡ invoke_id d.all (first_unsent d)
    by_sent true e = let there = is.in_flight (ltb-true 0 d.attempts e) in rw e (sym (invoke_behind d.all d.finished there.0 there.1))
    by_sent false e = rw e refl

unsent_rest : (peer : PeerData) (d : Delivery) → (unsent (post_of peer d)).notes ≡ drop (first_unsent d) d.all
unsent_rest peer d = by_sent (nat_lt 0 d.attempts) refl
  where
    by_sent : (b : Bool) → nat_lt 0 d.attempts ≡ b → (unsent (post_of peer d)).notes ≡ drop (first_unsent d) d.all
    by_sent true e = rw e (drop-drop 1 d.finished d.all)
    by_sent false e = rw e refl

unsent_peer : (peer : PeerData) (d : Delivery) → (unsent (post_of peer d)).peer ≡ peer
unsent_peer peer d = by_sent (nat_lt 0 d.attempts) refl
  where
    by_sent : (b : Bool) → nat_lt 0 d.attempts ≡ b → (unsent (post_of peer d)).peer ≡ peer
    by_sent true e = rw e refl
    by_sent false e = rw e refl

pub first_unsent-le : (d : Delivery) → IsDelivery d → first_unsent d ≤ length d.all
first_unsent-le d is = by_sent (nat_lt 0 d.attempts) refl
  where
    by_sent : (b : Bool) → nat_lt 0 d.attempts ≡ b → first_unsent d ≤ length d.all
    by_sent true e = let there = is.in_flight (ltb-true 0 d.attempts e) in let first = there.0 in rw e (omega arith)
    by_sent false e = rw e is.within

-- what is left where a note is given up with all that stands behind it
given_up_law : (peer : PeerData) (d : Delivery) → IsDelivery d → nat_lt 0 d.attempts ≡ true → post_of peer (given_up d) ≡ post_given_up (post_of peer d)
given_up_law peer d is e =
    let there = is.in_flight (ltb-true 0 d.attempts e) in
    let place : ℕ = d.finished + 1 in
    let front : List Note = take place d.all in
    let number : invoke_id front place ≡ (invoke_id d.all d.finished + 1) % 256 =
    ap (λ ns. count_by is_confirmed ns % 256) (take-take place place d.all (omega arith)) ∙ invoke_behind d.all d.finished there.0 there.1 in
    let rest : drop place front ≡ [] = drop_all place front (let size = length-take-le place d.all (omega (arith, there.0)) in omega (arith, size)) in
    λ k. record { peer = peer; next_invoke = number k; attempts = 0; deadline = 0; notes = rest k }

-- a pump
module _ (timing : Timing) (moment : ℕ) (peer : PeerData) (d : Delivery) (is : IsDelivery d) where
  pumped_when : (b c s : Bool) → is_awaited moment d.attempts d.deadline ≡ b → is_repeated timing.retries d.attempts ≡ c → gives_up timing.flush_silent d.attempts ≡ s →
      post_of peer (pumped_at timing moment d) ≡ post_pumped timing moment (post_of peer d)
  pumped_when true c s e f g = rw e refl
  pumped_when false true s e f g = rw (e, f) refl
  pumped_when false false true e f g = rw (e, f, g) (given_up_law peer d is (was_sent (nat_lt 0 d.attempts) timing.flush_silent g))
  pumped_when false false false e f g = rw (e, f, g) (sent_by timing moment peer d (first_unsent d) (unsent (post_of peer d)) (first_unsent-le d is) (unsent_peer peer d) (unsent_number peer d is) (unsent_rest peer d))

  pub pumped_law : post_of peer (pumped_at timing moment d) ≡ post_pumped timing moment (post_of peer d)
  pumped_law = pumped_when _ _ _ refl refl refl

  sends_unsent : datagrams_between peer (invoke_id d.all (next_confirmed d.all (first_unsent d))) d.all (first_unsent d) (next_confirmed d.all (first_unsent d) + 1)
      ≡ first_datagrams (position_or_len is_confirmed (unsent (post_of peer d)).notes + 1) (unsent (post_of peer d))
  sends_unsent =
      let place = first_unsent d in
      let notes = drop place d.all in
      let post = unsent (post_of peer d) in
      let count : next_confirmed d.all place + 1 - place ≡ position_or_len is_confirmed notes + 1 = omega arith in
      let number : invoke_id d.all (next_confirmed d.all place) ≡ post.next_invoke = invoke_past d.all place ∙ sym (unsent_number peer d is) in
      let rest : notes ≡ post.notes = sym (unsent_rest peer d) in
      let own : peer ≡ post.peer = sym (unsent_peer peer d) in
      ap (λ n. map (datagram_of peer (invoke_id d.all (next_confirmed d.all place))) (take n notes)) count
      ∙ (λ k. map (datagram_of (own k) (number k)) (take (position_or_len is_confirmed (rest k) + 1) (rest k)))

  sent_when : (b c s : Bool) → is_awaited moment d.attempts d.deadline ≡ b → is_repeated timing.retries d.attempts ≡ c → gives_up timing.flush_silent d.attempts ≡ s →
      sent_at timing moment peer d ≡ post_sends timing moment (post_of peer d)
  sent_when true c s e f g = rw e refl
  sent_when false true s e f g =
      let one : d.finished + 1 - d.finished ≡ 1 = omega arith in
      rw (e, f) (ap (λ n. map (datagram_of peer (invoke_id d.all d.finished)) (take n (drop d.finished d.all))) one)
  sent_when false false true e f g = rw (e, f, g) refl
  sent_when false false false e f g = rw (e, f, g) sends_unsent

  pub sent_law : sent_at timing moment peer d ≡ post_sends timing moment (post_of peer d)
  sent_law = sent_when _ _ _ refl refl refl

-- an answer
pub answered_law : (invoke : ℕ) (peer : PeerData) (d : Delivery) → IsDelivery d → post_of peer (answered_with invoke d) ≡ post_answered invoke (post_of peer d)
answered_law invoke peer d is = by_test (nat_lt 0 d.attempts) (invoke == invoke_id d.all d.finished) refl refl
  where
    by_test : (b c : Bool) → nat_lt 0 d.attempts ≡ b → (invoke == invoke_id d.all d.finished) ≡ c → post_of peer (answered_with invoke d) ≡ post_answered invoke (post_of peer d)
    by_test true true e f =
        let there = is.in_flight (ltb-true 0 d.attempts e) in
        let number = invoke_behind d.all d.finished there.0 there.1 in
        let rest = sym (drop-drop 1 d.finished d.all) in
        rw (e, f) (λ k. record { peer = peer; next_invoke = number k; attempts = 0; deadline = 0; notes = rest k })
    by_test true false e f = rw (e, f) refl
    by_test false c e f = rw e refl

-- what is so of every delivery stays so
queued_keeps : (note : Note) (d : Delivery) → IsDelivery d → IsDelivery (queued_for note d)
queued_keeps note d is =
    let longer : length (d.all ++ note ∷ []) ≡ length d.all + 1 = length-append d.all (note ∷ []) in
    record {
      within = omega (arith, longer, is.within);
      in_flight = λ h. (omega (arith, longer, (is.in_flight h).0), λ n. ap is_confirmed (get_or_append_left d.all (note ∷ []) n d.finished (is.in_flight h).0) ∙ (is.in_flight h).1 n);
    }

sent_keeps : (timing : Timing) (moment place : ℕ) (d : Delivery) → place ≤ length d.all → IsDelivery (sent_from timing moment place d)
sent_keeps timing moment place d within =
    let count = position_or_len is_confirmed (drop place d.all) in
    let size = length-drop place d.all in
    let most = prefix_len-le-length (λ (n : Note). not (is_confirmed n)) (drop place d.all) in
    record {
      within = omega (arith, size, most, within);
      in_flight = λ h. by_test (nat_lt (place + count) (length d.all)) refl h;
    }
  where
    by_test : (b : Bool) → nat_lt (next_confirmed d.all place) (length d.all) ≡ b → 0 < (sent_from timing moment place d).attempts → (next_confirmed d.all place < length d.all) × ((n : Note) → is_confirmed (get_or d.all (next_confirmed d.all place) n) ≡ true)
    by_test true e h =
        let below : next_confirmed d.all place < length d.all = ltb-true _ _ e in
        let size = length-drop place d.all in
        (below, λ n. ap is_confirmed (sym (get_or-drop place d.all (position_or_len is_confirmed (drop place d.all)) n)) ∙ passes_at_first is_confirmed (drop place d.all) n (omega (arith, size, below)))
    by_test false e h = absurd (never (rw e at h))
      where
        never : 0 < 0 → ⊥
        never h = omega (arith, h)

given_up_keeps : (d : Delivery) → IsDelivery d → nat_lt 0 d.attempts ≡ true → IsDelivery (given_up d)
given_up_keeps d is e =
    let there = (is.in_flight (ltb-true 0 d.attempts e)).0 in
    let size : length (take (d.finished + 1) d.all) ≡ d.finished + 1 = length-take-le (d.finished + 1) d.all (omega (arith, there)) in
    record { within = omega (arith, size); in_flight = λ h. absurd (omega (arith, h)) }

pumped_keeps : (timing : Timing) (moment : ℕ) (d : Delivery) → IsDelivery d → IsDelivery (pumped_at timing moment d)
pumped_keeps timing moment d is = by_test (is_awaited moment d.attempts d.deadline) (nat_lt 0 d.attempts) (nat_le d.attempts timing.retries) (gives_up timing.flush_silent d.attempts) refl refl refl refl
  where
    by_test : (a b c s : Bool) → is_awaited moment d.attempts d.deadline ≡ a → nat_lt 0 d.attempts ≡ b → nat_le d.attempts timing.retries ≡ c → gives_up timing.flush_silent d.attempts ≡ s → IsDelivery (pumped_at timing moment d)
    by_test true b c s e f g h = rw e is
    by_test false true true s e f g h = rw (e, f, g) (record { within = is.within; in_flight = λ k. is.in_flight (ltb-true 0 d.attempts f) })
    by_test false true false true e f g h = rw (e, h, f, g) (given_up_keeps d is f)
    by_test false true false false e f g h = rw (e, h, f, g) (sent_keeps timing moment (d.finished + 1) d (let there = (is.in_flight (ltb-true 0 d.attempts f)).0 in omega arith))
    by_test false false c s e f g h = rw (e, f) (sent_keeps timing moment d.finished d is.within)

answered_keeps : (invoke : ℕ) (d : Delivery) → IsDelivery d → IsDelivery (answered_with invoke d)
answered_keeps invoke d is = by_test (nat_lt 0 d.attempts) (invoke == invoke_id d.all d.finished) refl refl
  where
    by_test : (b c : Bool) → nat_lt 0 d.attempts ≡ b → (invoke == invoke_id d.all d.finished) ≡ c → IsDelivery (answered_with invoke d)
    by_test true true e f =
        let first = (is.in_flight (ltb-true 0 d.attempts e)).0 in
        rw (e, f) (record { within = omega arith; in_flight = λ h. absurd (omega (arith, h)) })
    by_test true false e f = rw (e, f) is
    by_test false c e f = rw e is

pub delivery_is : (timing : Timing) (operations : List Operation) → IsDelivery (delivery_after timing operations)
unfolding delivery_after
delivery_is timing [] = record { within = omega arith; in_flight = λ h. absurd (omega (arith, h)) }
delivery_is timing (NoteQueued note ∷ older) = queued_keeps note (delivery_after timing older) (delivery_is timing older)
delivery_is timing (PumpedAt moment ∷ older) = pumped_keeps timing moment (delivery_after timing older) (delivery_is timing older)
delivery_is timing (AnswerCame invoke ∷ older) = answered_keeps invoke (delivery_after timing older) (delivery_is timing older)

-- the post after one more operation
module _ (timing : Timing) (peer : PeerData) (older : List Operation) where
  pub after_pump_law : (moment : ℕ) → post_after timing peer (PumpedAt moment ∷ older) ≡ post_pumped timing moment (post_after timing peer older)
  unfolding delivery_after
  after_pump_law moment = pumped_law timing moment peer (delivery_after timing older) (delivery_is timing older)

  pub after_answer_law : (invoke : ℕ) → post_after timing peer (AnswerCame invoke ∷ older) ≡ post_answered invoke (post_after timing peer older)
  unfolding delivery_after
  after_answer_law invoke = answered_law invoke peer (delivery_after timing older) (delivery_is timing older)

  pub after_sends_law : (moment : ℕ) → sent_at timing moment peer (delivery_after timing older) ≡ post_sends timing moment (post_after timing peer older)
  after_sends_law moment = sent_law timing moment peer (delivery_after timing older) (delivery_is timing older)

-- several notes were queued, one after the other
abbrev pub operations_of : List Note → List Operation → List Operation
operations_of notes older = reverse (map (λ note. NoteQueued note) notes) ++ older

all_queued : (timing : Timing) (notes : List Note) (older : List Operation) →
    delivery_after timing (operations_of notes older) ≡ record (delivery_after timing older) { all = (delivery_after timing older).all ++ notes }
unfolding delivery_after
all_queued timing [] older = let d = delivery_after timing older in ap (λ ns. record d { all = ns }) (sym (append-nil d.all))
all_queued timing (note ∷ notes) older =
    let d = delivery_after timing older in
    let turned : reverse (map (λ n. NoteQueued n) (note ∷ notes)) ++ older ≡ operations_of notes (NoteQueued note ∷ older) =
    ap (λ ns. ns ++ older) (reverse-append (NoteQueued note ∷ []) (map (λ n. NoteQueued n) notes)) ∙ append_assoc (reverse (map (λ n. NoteQueued n) notes)) (NoteQueued note ∷ []) older in
    ap (delivery_after timing) turned ∙ all_queued timing notes (NoteQueued note ∷ older) ∙ ap (λ ns. record d { all = ns }) (append_assoc d.all (note ∷ []) notes)

pub after_queue_law : (timing : Timing) (peer : PeerData) (notes : List Note) (older : List Operation) →
    (let post = post_after timing peer older in post_after timing peer (operations_of notes older) ≡ record post { notes = post.notes ++ notes })
after_queue_law timing peer notes older =
    let d = delivery_after timing older in
    let within = (delivery_is timing older).within in
    let number : invoke_id (d.all ++ notes) d.finished ≡ invoke_id d.all d.finished = ap (λ ns. count_by is_confirmed ns % 256) (take-append-le d.finished d.all notes within) in
    let rest : drop d.finished (d.all ++ notes) ≡ drop d.finished d.all ++ notes = drop-append-le d.finished d.all notes within in
    ap (post_of peer) (all_queued timing notes older)
    ∙ (λ k. record { peer = peer; next_invoke = number k; attempts = d.attempts; deadline = d.deadline; notes = rest k })
