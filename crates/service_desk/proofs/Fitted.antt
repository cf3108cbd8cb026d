-- How many leading records of a range a requester takes.
use Rattle.std.proofs.Common.{◌≡◌, ℕ, ◌+◌, ◌-◌, ◌<◌, ◌≤◌, Bool, false, List, [], ◌∷◌, ◌++◌, length, refl, sym, ◌∙◌, ap, arith, Option, Some}
use Rattle.std.specs.Prelude.{flat_map, nat_eq, nat_le, nat_lt}
use Rattle.std.proofs.lemmas.Bool.{eqb-true, le-leb, leb-true}
use Rattle.std.proofs.lemmas.List.{length-append}
use Rattle.bac_tags.specs.Writing.{unsigned_size, written_bits, written_tag, written_unsigned}
use Rattle.property_services.specs.declared.requests.RangeRequest.{RangeRequest}
use Rattle.bac_values.specs.BitString.{string_of_flags}
use Rattle.property_services.specs.Writing.{written_range_ack, written_reference}
use Rattle.bac_tags.specs.ParameterWriting.{written_if_given, written_enclosed}
use Rattle.event_log.specs.declared.log_range.LogRange.{LogRange}
use Rattle.event_log.specs.Log.{EventLogState}
use Rattle.service_desk.specs.Requesters.{RequesterData}
use Rattle.service_desk.specs.Ranges.{first_sequence, greatest, items_from, range_body, range_fits, range_flags, records_that_fit, written_item}
use Rattle.service_desk.proofs.Greatest.{by_case, greatest_same}
use Rattle.service_desk.proofs.Room.{has_room}

-- the octets of a result with some records, were their number 0 and they had no octets
abbrev pub octets_round : RangeRequest → EventLogState → LogRange → ℕ
octets_round request log range = length (written_range_ack request (false ∷ false ∷ false ∷ []) 0 [] (first_sequence request log range 1))

flags_length : (flags : List Bool) → length flags ≡ 3 → length (written_bits (Some 3) (string_of_flags flags)) ≡ 3
unfolding written_tag
flags_length flags three = rw three refl

count_length : (n : ℕ) → length (written_unsigned (Some 4) n) ≡ 1 + unsigned_size n
unfolding written_tag
count_length n =
    by_case (nat_lt n 256) (λ one. rw one refl) (λ more. rw more (by_case (nat_lt n 65536) (λ two. rw two refl) (λ much.
    rw much (by_case (nat_lt n 16777216) (λ three. rw three refl) (λ four. rw four refl)))))

list_length : (inside : List ℕ) → length (written_enclosed 5 inside) ≡ 2 + length inside
unfolding written_tag
list_length inside = omega (arith, length-append inside (95 ∷ []))

-- the parts of a result
parts : (a b c d e : List ℕ) → length (a ++ b ++ c ++ d ++ e) ≡ length a + length b + length c + length d + length e
parts a b c d e = omega (arith, length-append (a ++ b ++ c ++ d) e, length-append (a ++ b ++ c) d, length-append (a ++ b) c, length-append a b)

ack_length : (request : RangeRequest) (flags : List Bool) (count : ℕ) (items : List ℕ) (first : Option ℕ) → length flags ≡ 3 →
    length (written_range_ack request flags count items first) ≡ length (written_reference request.object request.property.0 request.index) + (6 + unsigned_size count) + length items + length (written_if_given (written_unsigned (Some 6)) first)
ack_length request flags count items first three =
    omega (arith, parts (written_reference request.object request.property.0 request.index) (written_bits (Some 3) (string_of_flags flags)) (written_unsigned (Some 4) count) (written_enclosed 5 items) (written_if_given (written_unsigned (Some 6)) first), flags_length flags three, count_length count, list_length items)

three_flags : (log : EventLogState) (range : LogRange) (sent : ℕ) → length (range_flags log range sent) ≡ 3
three_flags log range sent = by_case (nat_eq sent 0) (λ none. rw none refl) (λ some. rw some refl)

same_first : (request : RangeRequest) (log : EventLogState) (range : LogRange) (sent : ℕ) → 0 < sent → first_sequence request log range sent ≡ first_sequence request log range 1
same_first request log range sent some = by_case (nat_eq sent 0) (λ none. let zero = eqb-true sent 0 none in let no : ⊥ = omega (arith, some, zero) in absurd no) (λ more. rw more refl)

-- a result with some records
body_length : (request : RangeRequest) (log : EventLogState) (range : LogRange) (sent : ℕ) → 0 < sent →
    length (range_body request log range sent) + 1 ≡ octets_round request log range + (unsigned_size sent + length (flat_map written_item (items_from range.first sent log)))
body_length request log range sent some =
    let items = flat_map written_item (items_from range.first sent log) in
    let first = ap (λ o. length (written_if_given (written_unsigned (Some 6)) o)) (same_first request log range sent some) in
    omega (arith, ack_length request (range_flags log range sent) sent items (first_sequence request log range sent) (three_flags log range sent), ack_length request (false ∷ false ∷ false ∷ []) 0 [] (first_sequence request log range 1) refl, first)

some_octets : (n : ℕ) → 1 ≤ unsigned_size n
some_octets n = grind arith

-- two bounds that hold together
same_test : (a b c d : ℕ) → (a ≤ b → c ≤ d) → (c ≤ d → a ≤ b) → nat_le a b ≡ nat_le c d
same_test a b c d to back =
    by_case (nat_le a b) (λ yes. yes ∙ sym (le-leb c d (to (leb-true a b yes)))) (λ no. by_case (nat_le c d) (λ yes. le-leb a b (back (leb-true c d yes)) ∙ sym yes) (λ other. no ∙ sym other))

-- with the room for so many octets, as many leading records are sent as have room
sent_is : (requester : RequesterData) (request : RangeRequest) (log : EventLogState) (range : LogRange) →
    greatest (has_room (requester.max_apdu - octets_round request log range - 2) log range) range.count ≡ records_that_fit requester request log range
sent_is requester request log range =
    greatest_same (has_room (requester.max_apdu - octets_round request log range - 2) log range) (range_fits requester request log range) range.count (λ n some.
    let long = body_length request log range n some in
    let size = some_octets n in
    same_test _ _ _ _ (λ fits. omega (arith, long, size, fits)) (λ fits. omega (arith, long, size, fits)))

pub counted_is_sent : (requester : RequesterData) (request : RangeRequest) (log : EventLogState) (range : LogRange) (round room counted : ℕ) → round ≡ octets_round request log range → room ≡ requester.max_apdu - round - 2 →
    counted ≡ greatest (has_room room log range) range.count → counted ≡ records_that_fit requester request log range
counted_is_sent requester request log range round room counted round_is room_is counted_is =
    counted_is ∙ ap (λ r. greatest (has_room r log range) range.count) (room_is ∙ ap (λ r. requester.max_apdu - r - 2) round_is) ∙ sent_is requester request log range
