-- The place of a record by its number.
use Rattle.std.proofs.Common.{◌≡◌, ◌⊎◌, inl, inr, ℕ, zero, suc, ◌+◌, ◌-◌, ◌^◌, ◌<◌, ◌≤◌, ◌==◌, Bool, true, false, length, refl, sym, ◌∙◌, ap, arith, slice_get, Some, None, nat_le, nat_lt, if◌then◌else◌}
use Rattle.std.proofs.lemmas.Bool.{leb-true, leb-false, ltb-true, ltb-false, eqb-true, eq-eqb, ne_eqb}
use Rattle.std.proofs.lemmas.Option.{slice_get_within}
use Rattle.event_log.specs.declared.log_record.LogRecord.{LogRecord}
use Rattle.event_log.specs.Log.{IsLog, number_back, EventLogState}
use Rattle.event_log.specs.Ranges.{back_of, place_of_sequence}
use Rattle.event_log.proofs.Places.{position_at, position_none}
use Rattle.event_log.proofs.Numbering.{same_back}

-- a number that lies so far back is that number
returns_by : (le lt : Bool) (total sequence : ℕ) → 0 < sequence → sequence < 2 ^ 32 → total < 2 ^ 32 → nat_le sequence total ≡ le → nat_lt (if le then total - sequence else total + (2 ^ 32 - 1 - sequence)) total ≡ lt →
    (if lt then total - (if le then total - sequence else total + (2 ^ 32 - 1 - sequence)) else total + (2 ^ 32 - 1) - (if le then total - sequence else total + (2 ^ 32 - 1 - sequence))) ≡ sequence
returns_by true true total sequence p h t e f = omega (arith, leb-true _ _ e, ltb-true _ _ f, p, h, t)
returns_by true false total sequence p h t e f = omega (arith, leb-true _ _ e, ltb-false _ _ f, p, h, t)
returns_by false true total sequence p h t e f = omega (arith, leb-false _ _ e, ltb-true _ _ f, p, h, t)
returns_by false false total sequence p h t e f = omega (arith, leb-false _ _ e, ltb-false _ _ f, p, h, t)

number_back-back_of : (total sequence : ℕ) → 0 < sequence → sequence < 2 ^ 32 → total < 2 ^ 32 → number_back total (back_of total sequence) ≡ sequence
number_back-back_of total sequence p h t = returns_by _ _ total sequence p h t refl refl

back_below_by : (le : Bool) (total sequence : ℕ) → 0 < sequence → sequence < 2 ^ 32 → total < 2 ^ 32 → nat_le sequence total ≡ le → (if le then total - sequence else total + (2 ^ 32 - 1 - sequence)) < 2 ^ 32 - 1
back_below_by true total sequence p h t e = omega (arith, leb-true _ _ e, p, h, t)
back_below_by false total sequence p h t e = omega (arith, leb-false _ _ e, p, h, t)

positive_by : (lt : Bool) (total back : ℕ) → back < 2 ^ 32 - 1 → total < 2 ^ 32 → nat_lt back total ≡ lt → 0 < (if lt then total - back else total + (2 ^ 32 - 1) - back)
positive_by true total back h t e = omega (arith, ltb-true _ _ e, h, t)
positive_by false total back h t e = omega (arith, ltb-false _ _ e, h, t)

-- the number of the record at a place, and how far back it lies
number_at : (log : EventLogState) → IsLog log → (place : ℕ) (x : LogRecord) → slice_get log.records place ≡ Some x → (x.sequence ≡ number_back log.total (length log.records - 1 - place)) × (place < length log.records) × (length log.records - 1 - place < 2 ^ 32 - 1)
number_at log is place x found =
    let below : place < length log.records = slice_get_within log.records place x found in
    (is.numbered place x found, below, omega (arith, below, is.short, is.size))

positive_or_zero : (n : ℕ) → (0 < n) ⊎ (n ≡ 0)
positive_or_zero zero = inr refl
positive_or_zero (suc n) = inl (omega arith)

only_at : (log : EventLogState) → IsLog log → (sequence : ℕ) → 0 < sequence → sequence < 2 ^ 32 → back_of log.total sequence < length log.records →
    (place : ℕ) (x : LogRecord) → slice_get log.records place ≡ Some x → (x.sequence == sequence) ≡ true → place ≡ length log.records - 1 - back_of log.total sequence
only_at log is sequence p h within place x found passes =
    let at = number_at log is place x found in
    let same : number_back log.total (length log.records - 1 - place) ≡ number_back log.total (back_of log.total sequence) =
    sym at.0 ∙ eqb-true x.sequence sequence passes ∙ sym (number_back-back_of log.total sequence p h is.total) in
    let back : length log.records - 1 - place ≡ back_of log.total sequence = same_back log.total _ _ at.2 (back_below_by _ log.total sequence p h is.total refl) is.total same in
    omega (arith, back, at.1)

passes_at : (log : EventLogState) → IsLog log → (sequence : ℕ) → 0 < sequence → sequence < 2 ^ 32 → back_of log.total sequence < length log.records →
    (place : ℕ) (x : LogRecord) → slice_get log.records place ≡ Some x → place ≡ length log.records - 1 - back_of log.total sequence → (x.sequence == sequence) ≡ true
passes_at log is sequence p h within place x found e =
    let at = number_at log is place x found in
    let back : length log.records - 1 - place ≡ back_of log.total sequence = omega (arith, e, within) in
    eq-eqb x.sequence sequence (at.0 ∙ ap (number_back log.total) back ∙ number_back-back_of log.total sequence p h is.total)

absent_at : (log : EventLogState) → IsLog log → (sequence : ℕ) → sequence < 2 ^ 32 → (sequence ≡ 0) ⊎ (length log.records ≤ back_of log.total sequence) → (0 < sequence) ⊎ (sequence ≡ 0) →
    (place : ℕ) (x : LogRecord) → slice_get log.records place ≡ Some x → x.sequence ≡ sequence → ⊥
absent_at log is sequence h why (inr none) place x found e =
    let at = number_at log is place x found in
    let positive : 0 < number_back log.total (length log.records - 1 - place) = positive_by _ log.total _ at.2 is.total refl in
    omega (arith, positive, at.0, e, none)
absent_at log is sequence h (inl none) (inl p) place x found e = omega (arith, none, p)
absent_at log is sequence h (inr far) (inl p) place x found e =
    let at = number_at log is place x found in
    let same : number_back log.total (length log.records - 1 - place) ≡ number_back log.total (back_of log.total sequence) =
    sym at.0 ∙ e ∙ sym (number_back-back_of log.total sequence p h is.total) in
    let back : length log.records - 1 - place ≡ back_of log.total sequence = same_back log.total _ _ at.2 (back_below_by _ log.total sequence p h is.total refl) is.total same in
    omega (arith, back, at.1, far)

pub place_found : (log : EventLogState) → IsLog log → (sequence : ℕ) → 0 < sequence → sequence < 2 ^ 32 → back_of log.total sequence < length log.records →
    place_of_sequence sequence log.records ≡ Some (length log.records - 1 - back_of log.total sequence)
place_found log is sequence p h within = position_at _ log.records (length log.records - 1 - back_of log.total sequence) (omega (arith, within)) (λ place x found. (λ passes. only_at log is sequence p h within place x found passes, λ e. passes_at log is sequence p h within place x found e))

pub place_absent : (log : EventLogState) → IsLog log → (sequence : ℕ) → sequence < 2 ^ 32 → (sequence ≡ 0) ⊎ (length log.records ≤ back_of log.total sequence) → place_of_sequence sequence log.records ≡ None
place_absent log is sequence h why = position_none _ log.records (λ place x found. ne_eqb x.sequence sequence (absent_at log is sequence h why (positive_or_zero sequence) place x found))
