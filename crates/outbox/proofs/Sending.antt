-- What a pump sends, place by place.
use Rattle.std.proofs.Common.{◌≡◌, ◌⊎◌, ℕ, zero, suc, ◌+◌, ◌-◌, ◌<◌, ◌≤◌, Bool, true, false, not, nat_lt, nat_le, ◌&&◌, ◌==◌, List, [], ◌∷◌, ◌++◌, length, take, drop, map, filter, get_or, min, refl, sym, ◌∙◌, ap, inl, inr, arith}
use Rattle.std.specs.List.{flat_map, range_with_len}
use Rattle.std.proofs.lemmas.Bool.{cases_lt, eq-eqb, ne_eqb, ltb-true}
use Rattle.std.proofs.lemmas.List.{append-nil, drop-drop, get_or-drop, length-drop, map-append, take_all}
use Rattle.std.proofs.lemmas.List.Elements.{filter-append}
use Rattle.std.proofs.lemmas.List.Sums.{prefix_len-le-length}
use Rattle.bac_values.specs.Address.{PeerData}
use Rattle.bac_values.specs.declared.note.Note.{Note}
use Rattle.outbox.specs.Notifying.{datagram_of}
use Rattle.outbox.specs.Delivery.{Timing, Delivery, is_confirmed, invoke_id, next_confirmed, is_awaited, is_repeated, gives_up, first_unsent, sent_at, delivery_after}
use Rattle.outbox.specs.Finishing.{is_sent_at, places_sent, datagram_at, SendsThesePlaces}
use Rattle.outbox.proofs.Finished.{le_true, le_false, lt_true, unconfirmed_between}
use Rattle.outbox.proofs.Laws.{IsDelivery, delivery_is, first_unsent-le, take_sum}

-- places, from one on, are so many and then the others
range_apart : (at m n : ℕ) → range_with_len at (m + n) ≡ range_with_len at m ++ range_with_len (at + m) n
range_apart at zero n =
    let none : 0 + n ≡ n = omega arith in
    let here : at ≡ at + 0 = omega arith in
    ap (range_with_len at) none ∙ ap (λ k. range_with_len k n) here
range_apart at (suc m) n =
    let next : suc m + n ≡ suc (m + n) = omega arith in
    let there : at + 1 + m ≡ at + suc m = omega arith in
    ap (range_with_len at) next ∙ ap (λ xs. at ∷ xs) (range_apart (at + 1) m n) ∙ ap (λ k. at ∷ (range_with_len (at + 1) m ++ range_with_len k n)) there

-- a test of places that passes from one place on, so often, and nowhere else
module _ (test : ℕ → Bool) where
  all_pass : (at n : ℕ) → ((place : ℕ) → at ≤ place → place < at + n → test place ≡ true) → filter test (range_with_len at n) ≡ range_with_len at n
  all_pass at zero passes = refl
  all_pass at (suc n) passes =
      let e : test at ≡ true = passes at (omega arith) (omega arith) in
      rw e (ap (λ xs. at ∷ xs) (all_pass (at + 1) n (λ place above below. passes place (omega (arith, above)) (omega (arith, below)))))

  none_pass : (at n : ℕ) → ((place : ℕ) → at ≤ place → place < at + n → test place ≡ false) → filter test (range_with_len at n) ≡ []
  none_pass at zero fails = refl
  none_pass at (suc n) fails =
      let e : test at ≡ false = fails at (omega arith) (omega arith) in
      rw e (none_pass (at + 1) n (λ place above below. fails place (omega (arith, above)) (omega (arith, below))))

  between_pass : (from count size : ℕ) → from + count ≤ size → ((place : ℕ) → place < from → test place ≡ false) → ((place : ℕ) → from ≤ place → place < from + count → test place ≡ true) →
      ((place : ℕ) → from + count ≤ place → place < size → test place ≡ false) → filter test (range_with_len 0 size) ≡ range_with_len from count
  between_pass from count size within before there behind =
      let rest : ℕ = size - (from + count) in
      let low : List ℕ = range_with_len 0 from in
      let middle : List ℕ = range_with_len from count in
      let high : List ℕ = range_with_len (from + count) rest in
      let parts : size ≡ from + (count + rest) = omega (arith, within) in
      let start : 0 + from ≡ from = omega arith in
      let apart : range_with_len 0 size ≡ low ++ (middle ++ high) =
      ap (range_with_len 0) parts ∙ range_apart 0 from (count + rest)
      ∙ ap (λ k. low ++ range_with_len k (count + rest)) start ∙ ap (λ xs. low ++ xs) (range_apart from count rest) in
      let none_low : filter test low ≡ [] = none_pass 0 from (λ place above below. before place (omega (arith, below))) in
      let all_middle : filter test middle ≡ middle = all_pass from count there in
      let none_high : filter test high ≡ [] = none_pass (from + count) rest (λ place above below. behind place above (omega (arith, below, within))) in
      ap (filter test) apart ∙ filter-append test low (middle ++ high) ∙ ap (λ xs. xs ++ filter test (middle ++ high)) none_low
      ∙ filter-append test middle high ∙ (λ k. all_middle k ++ none_high k) ∙ append-nil middle

-- an invoke ID is looked at where a note is to be confirmed alone
number_or_none : (peer : PeerData) (invoke own : ℕ) (note : Note) → (is_confirmed note ≡ false) ⊎ (invoke ≡ own) → datagram_of peer invoke note ≡ datagram_of peer own note
number_or_none peer invoke own note (inl e) = rw e refl
number_or_none peer invoke own note (inr e) = ap (λ n. datagram_of peer n note) e

module _ (peer : PeerData) (all : List Note) (invoke : ℕ) where
  -- the note at a place goes out with this invoke ID as with its own
  abbrev Suits : ℕ → Type 0
  Suits place = (note : Note) → (is_confirmed (get_or all place note) ≡ false) ⊎ (invoke ≡ invoke_id all place)

  one_by : (place : ℕ) → Suits place → (rest : List Note) → drop place all ≡ rest →
      map (datagram_of peer invoke) (take 1 rest) ≡ map (datagram_of peer (invoke_id all place)) (take 1 rest)
  one_by place suits [] e = refl
  one_by place suits (note ∷ rest) e =
      let here : place ≡ place + 0 = omega arith in
      let first : get_or all place note ≡ note = ap (λ n. get_or all n note) here ∙ sym (get_or-drop place all 0 note) ∙ ap (λ ns. get_or ns 0 note) e in
      let own : (is_confirmed note ≡ false) ⊎ (invoke ≡ invoke_id all place) = elim (suits note) [
        | inl f ↦ inl (ap is_confirmed (sym first) ∙ f)
        | inr f ↦ inr f
      ] in
      ap (λ s. s ∷ []) (number_or_none peer invoke (invoke_id all place) note own)

  one_sent : (place : ℕ) → Suits place → map (datagram_of peer invoke) (take 1 (drop place all)) ≡ datagram_at peer all place
  one_sent place suits =
      let one : 1 ≡ place + 1 - place = omega arith in
      one_by place suits (drop place all) refl ∙ ap (λ n. map (datagram_of peer (invoke_id all place)) (take n (drop place all))) one

  -- so many notes, from a place on
  many_sent : (from count : ℕ) → ((place : ℕ) → from ≤ place → place < from + count → Suits place) →
      map (datagram_of peer invoke) (take count (drop from all)) ≡ flat_map (datagram_at peer all) (range_with_len from count)
  many_sent from zero suits = refl
  many_sent from (suc count) suits =
      let next : suc count ≡ 1 + count = omega arith in
      let first : List Note = take 1 (drop from all) in
      let others : List Note = take count (drop (from + 1) all) in
      let apart : take (suc count) (drop from all) ≡ first ++ others =
      ap (λ n. take n (drop from all)) next ∙ take_sum 1 count (drop from all) ∙ ap (λ ns. first ++ take count ns) (drop-drop 1 from all) in
      let here = one_sent from (suits from (omega arith) (omega arith)) in
      let rest = many_sent (from + 1) count (λ place above below. suits place (omega (arith, above)) (omega (arith, below))) in
      ap (map (datagram_of peer invoke)) apart ∙ map-append (datagram_of peer invoke) first others ∙ (λ k. here k ++ rest k)

module _ (timing : Timing) (moment : ℕ) (peer : PeerData) (d : Delivery) (is : IsDelivery d) where
  -- nothing
  awaited : is_awaited moment d.attempts d.deadline ≡ true → sent_at timing moment peer d ≡ flat_map (datagram_at peer d.all) (places_sent timing moment d)
  awaited e =
      let none : places_sent timing moment d ≡ [] = none_pass (is_sent_at timing moment d) 0 (length d.all) (λ place above below. rw e refl) in
      let nothing : sent_at timing moment peer d ≡ [] = rw e refl in
      nothing ∙ sym (ap (flat_map (datagram_at peer d.all)) none)

  -- the note in flight
  repeated : is_awaited moment d.attempts d.deadline ≡ false → is_repeated timing.retries d.attempts ≡ true → d.finished < length d.all →
      sent_at timing moment peer d ≡ flat_map (datagram_at peer d.all) (places_sent timing moment d)
  repeated e f within =
      let test : (place : ℕ) → is_sent_at timing moment d place ≡ (place == d.finished) = λ place. rw (e, f) refl in
      let one : places_sent timing moment d ≡ range_with_len d.finished 1 = between_pass (is_sent_at timing moment d) d.finished 1 (length d.all) (omega (arith, within))
      (λ place below. test place ∙ ne_eqb place d.finished (λ same. omega (arith, below, same)))
      (λ place above below. test place ∙ eq-eqb place d.finished (omega (arith, above, below)))
      (λ place above below. test place ∙ ne_eqb place d.finished (λ same. omega (arith, above, same))) in
      let sent : sent_at timing moment peer d ≡ datagram_at peer d.all d.finished = rw (e, f) refl in
      sent ∙ sym (ap (flat_map (datagram_at peer d.all)) one ∙ append-nil (datagram_at peer d.all d.finished))

  -- nothing, where all is given up
  given_up : is_awaited moment d.attempts d.deadline ≡ false → is_repeated timing.retries d.attempts ≡ false → gives_up timing.flush_silent d.attempts ≡ true →
      sent_at timing moment peer d ≡ flat_map (datagram_at peer d.all) (places_sent timing moment d)
  given_up e f g =
      let none : places_sent timing moment d ≡ [] = none_pass (is_sent_at timing moment d) 0 (length d.all) (λ place above below. rw (e, f, g) refl) in
      let nothing : sent_at timing moment peer d ≡ [] = rw (e, f, g) refl in
      nothing ∙ sym (ap (flat_map (datagram_at peer d.all)) none)

  -- those that were never sent
  fresh : is_awaited moment d.attempts d.deadline ≡ false → is_repeated timing.retries d.attempts ≡ false → gives_up timing.flush_silent d.attempts ≡ false →
      sent_at timing moment peer d ≡ flat_map (datagram_at peer d.all) (places_sent timing moment d)
  fresh e f g =
      let from : ℕ = first_unsent d in
      let next : ℕ = next_confirmed d.all from in
      let size : ℕ = length d.all in
      let count : ℕ = min (next + 1) size - from in
      let begins : from ≤ size = first_unsent-le d is in
      let left : length (drop from d.all) ≡ size - from = length-drop from d.all in
      let most = prefix_len-le-length (λ (n : Note). not (is_confirmed n)) (drop from d.all) in
      let above_from : from ≤ next = omega arith in
      let test : (place : ℕ) → is_sent_at timing moment d place ≡ (nat_le from place && nat_le place next && nat_lt place size) = λ place. rw (e, f, g) refl in
      let places : places_sent timing moment d ≡ range_with_len from count = between_pass (is_sent_at timing moment d) from count size (omega (arith, begins))
      (λ place below. test place ∙ before place below)
      (λ place above below. test place ∙ between place above (omega (arith, below, begins)) (omega (arith, below, begins)))
      (λ place above below. test place ∙ behind place (omega (arith, above, begins)) (omega (arith, above, below, begins))) in
      let front : take (next + 1 - from) (drop from d.all) ≡ take count (drop from d.all) = elim (cases_lt next size) [
        | inl inside ↦ ap (λ n. take n (drop from d.all)) (omega (arith, inside))
        | inr past ↦ take_all (next + 1 - from) (drop from d.all) (omega (arith, left, past)) ∙ sym (take_all count (drop from d.all) (omega (arith, left, past)))
      ] in
      let sent : sent_at timing moment peer d ≡ map (datagram_of peer (invoke_id d.all next)) (take (next + 1 - from) (drop from d.all)) = rw (e, f, g) refl in
      sent ∙ ap (map (datagram_of peer (invoke_id d.all next))) front
      ∙ many_sent peer d.all (invoke_id d.all next) from count (λ place above below. suits place above (omega (arith, below, begins)))
      ∙ sym (ap (flat_map (datagram_at peer d.all)) places)
    where
      before : (place : ℕ) → place < first_unsent d → (nat_le (first_unsent d) place && nat_le place (next_confirmed d.all (first_unsent d)) && nat_lt place (length d.all)) ≡ false
      before place below = rw (le_false (first_unsent d) place below) refl

      between : (place : ℕ) → first_unsent d ≤ place → place ≤ next_confirmed d.all (first_unsent d) → place < length d.all →
          (nat_le (first_unsent d) place && nat_le place (next_confirmed d.all (first_unsent d)) && nat_lt place (length d.all)) ≡ true
      between place above upto inside = rw (le_true (first_unsent d) place above, le_true place (next_confirmed d.all (first_unsent d)) upto, lt_true place (length d.all) inside) refl

      behind : (place : ℕ) → first_unsent d ≤ place → next_confirmed d.all (first_unsent d) < place →
          (nat_le (first_unsent d) place && nat_le place (next_confirmed d.all (first_unsent d)) && nat_lt place (length d.all)) ≡ false
      behind place above past = rw (le_true (first_unsent d) place above, le_false place (next_confirmed d.all (first_unsent d)) past) refl

      suits : (place : ℕ) → first_unsent d ≤ place → place ≤ next_confirmed d.all (first_unsent d) → Suits peer d.all (invoke_id d.all (next_confirmed d.all (first_unsent d))) place
      suits place above upto note = elim (cases_lt place (next_confirmed d.all (first_unsent d))) [
        | inl below ↦ inl ((unconfirmed_between d.all (first_unsent d) place above below).1 note)
        | inr last ↦ inr (ap (invoke_id d.all) (omega (arith, upto, last)))
      ]

  sent_places : sent_at timing moment peer d ≡ flat_map (datagram_at peer d.all) (places_sent timing moment d)
  sent_places = by_test (is_awaited moment d.attempts d.deadline) (nat_lt 0 d.attempts) (nat_le d.attempts timing.retries) (gives_up timing.flush_silent d.attempts) refl refl refl refl
    where
      by_test : (a b c s : Bool) → is_awaited moment d.attempts d.deadline ≡ a → nat_lt 0 d.attempts ≡ b → nat_le d.attempts timing.retries ≡ c → gives_up timing.flush_silent d.attempts ≡ s →
          sent_at timing moment peer d ≡ flat_map (datagram_at peer d.all) (places_sent timing moment d)
      by_test true b c s e f g h = awaited e
      by_test false true true s e f g h = repeated e (rw (f, g) refl) (is.in_flight (ltb-true 0 d.attempts f)).0
      by_test false true false true e f g h = given_up e (rw (f, g) refl) h
      by_test false true false false e f g h = fresh e (rw (f, g) refl) h
      by_test false false c s e f g h = fresh e (rw f refl) (rw f refl)

pub sends_these_places : SendsThesePlaces
sends_these_places timing moment peer operations = sent_places timing moment peer (delivery_after timing operations) (delivery_is timing operations)
