-- How many leading records of a range have room.
use Rattle.std.proofs.Common.{◌≡◌, ℕ, ◌+◌, ◌<◌, ◌≤◌, Bool, true, false, List, [], ◌∷◌, ◌++◌, length, drop, refl, sym, ◌∙◌, ap, arith, slice_get, Some, None}
use Rattle.std.specs.Prelude.{flat_map, nat_le}
use Rattle.std.proofs.lemmas.Bool.{le-leb, lt-leb}
use Rattle.std.proofs.lemmas.Option.{none-some, slice_get-get_or}
use Rattle.bac_tags.specs.Writing.{unsigned_size}
use Rattle.event_log.specs.declared.log_range.LogRange.{LogRange}
use Rattle.event_log.specs.declared.log_record.LogRecord.{LogRecord}
use Rattle.event_log.specs.Log.{EventLogState}
use Rattle.service_desk.specs.Ranges.{greatest, items_from, written_item}
use Rattle.service_desk.proofs.Greatest.{greatest_passes, greatest_stops, leading_grow, one_more, size_grows}

-- whether so many leading records and their number have room in so many octets
abbrev pub has_room : ℕ → EventLogState → LogRange → ℕ → Bool
has_room room log range sent = nat_le (unsigned_size sent + length (flat_map written_item (items_from range.first sent log))) room

pub no_number : (test : ℕ → Bool) → greatest test 0 ≡ 0
unfolding greatest
no_number test = refl

pub is_there : {X : Type 0} (xs : List X) (i : ℕ) → i < length xs → slice_get xs i ≡ None → ⊥
is_there [] i within none = omega (arith, within)
is_there (x ∷ xs) i within none = let there = slice_get-get_or (x ∷ xs) i x within in none-some _ (sym none ∙ there)

fails_of : (k room : ℕ) → room < k → nat_le k room ≡ false
fails_of k room more = lt-leb k room more

passes_of : (k room : ℕ) → k ≤ room → nat_le k room ≡ true
passes_of k room less = le-leb k room less

module _ (room : ℕ) (log : EventLogState) (range : LogRange) (sent : ℕ) (entry : LogRecord) (found : slice_get log.records (range.first + sent) ≡ Some entry) where
  pub with_one_more : flat_map written_item (items_from range.first (sent + 1) log) ≡ flat_map written_item (items_from range.first sent log) ++ written_item entry
  with_one_more = one_more written_item log.records range.first sent entry found

  pub one_more_passes : unsigned_size (sent + 1) + length (flat_map written_item (items_from range.first sent log) ++ written_item entry) ≤ room → greatest (has_room room log range) (sent + 1) ≡ sent + 1
  one_more_passes fits =
      let long = ap length with_one_more in
      greatest_passes (has_room room log range) sent (passes_of (unsigned_size (sent + 1) + length (flat_map written_item (items_from range.first (sent + 1) log))) room (omega (arith, fits, long)))

  pub one_more_fails : greatest (has_room room log range) sent ≡ sent → sent ≤ range.count →
      room < unsigned_size (sent + 1) + length (flat_map written_item (items_from range.first sent log) ++ written_item entry) → sent ≡ greatest (has_room room log range) range.count
  one_more_fails most within more =
      let long = ap length with_one_more in
      let fails : (n : ℕ) → sent < n → has_room room log range n ≡ false = λ n greater.
      fails_of (unsigned_size n + length (flat_map written_item (items_from range.first n log))) room (omega (arith, more, long, size_grows (sent + 1) n (omega (arith, greater)), leading_grow written_item (drop range.first log.records) (sent + 1) n (omega (arith, greater)))) in
      sym (greatest_stops (has_room room log range) sent range.count fails within ∙ most)
