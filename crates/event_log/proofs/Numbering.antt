-- Records stay in their numbers when one more comes.
use Rattle.std.proofs.Common.{◌≡◌, ℕ, zero, suc, ◌+◌, ◌-◌, ◌^◌, ◌≤◌, ◌<◌, ◌⊎◌, inl, inr, Bool, true, false, List, [], ◌∷◌, ◌++◌, length, drop, refl, sym, ◌∙◌, ap, subst, arith, rules, nat_lt, slice_get, Some, length-append, ◌==◌, if◌then◌else◌}
use Rattle.std.proofs.lemmas.List.{length-drop}
use Rattle.std.proofs.lemmas.Bool.{eqb-true, eqb-false, ltb-true, ltb-false, cond_below}
use Rattle.circular_buffer.proofs.Places.{slice_get-drop, slice_get-append_left, slice_get-append_right, below_or_not}
use Rattle.event_log.specs.declared.log_record.LogRecord.{LogRecord}
use Rattle.event_log.specs.Log.{IsLog, LoggedEvent, AreNumbered, number_after, number_back, entry_of, with_entry, EventLogState}

step_by : (same below below' : Bool) (total back : ℕ) → total < 2 ^ 32 → 0 < total → back < 2 ^ 32 - 1 →
    (total == 2 ^ 32 - 1) ≡ same → nat_lt back total ≡ below → nat_lt (back + 1) (if same then 1 else total + 1) ≡ below' →
    (if below' then (if same then 1 else total + 1) - (back + 1) else (if same then 1 else total + 1) + (2 ^ 32 - 1) - (back + 1)) ≡ (if below then total - back else total + (2 ^ 32 - 1) - back)
step_by true true true total back h begun short e f g = omega (arith, eqb-true _ _ e, ltb-true _ _ f, ltb-true _ _ g, h, begun, short)
step_by true true false total back h begun short e f g = omega (arith, eqb-true _ _ e, ltb-true _ _ f, ltb-false _ _ g, h, begun, short)
step_by true false true total back h begun short e f g = omega (arith, eqb-true _ _ e, ltb-false _ _ f, ltb-true _ _ g, h, begun, short)
step_by true false false total back h begun short e f g = omega (arith, eqb-true _ _ e, ltb-false _ _ f, ltb-false _ _ g, h, begun, short)
step_by false true true total back h begun short e f g = omega (arith, eqb-false _ _ e, ltb-true _ _ f, ltb-true _ _ g, h, begun, short)
step_by false true false total back h begun short e f g = omega (arith, eqb-false _ _ e, ltb-true _ _ f, ltb-false _ _ g, h, begun, short)
step_by false false true total back h begun short e f g = omega (arith, eqb-false _ _ e, ltb-false _ _ f, ltb-true _ _ g, h, begun, short)
step_by false false false total back h begun short e f g = omega (arith, eqb-false _ _ e, ltb-false _ _ f, ltb-false _ _ g, h, begun, short)

-- one record later, each record lies one further back
number_back-after : (total back : ℕ) → total < 2 ^ 32 → 0 < total → back < 2 ^ 32 - 1 → number_back (number_after total) (back + 1) ≡ number_back total back
number_back-after total back h begun short = step_by _ _ _ total back h begun short refl refl refl

newest_by : (same : Bool) (total : ℕ) → (total == 2 ^ 32 - 1) ≡ same → number_back (if same then 1 else total + 1) 0 ≡ (if same then 1 else total + 1)
newest_by true total e = refl
newest_by false total e = sym (cond_below 0 (total + 1) (total + 1 - 0) (total + 1 + (2 ^ 32 - 1) - 0) (omega arith)) ∙ omega arith

number_back-newest : (total : ℕ) → number_back (number_after total) 0 ≡ number_after total
number_back-newest total = newest_by _ total refl

-- numbers stay when records are dropped from the front
numbered-drop : (total k : ℕ) (records : List LogRecord) → k ≤ length records → AreNumbered total records → AreNumbered total (drop k records)
numbered-drop total k records h numbered place entry at =
    let found : slice_get records (k + place) ≡ Some entry = sym (slice_get-drop k records place (k + place) refl) ∙ at in
    let same : length records - 1 - (k + place) ≡ length (drop k records) - 1 - place = omega (arith, length-drop k records) in
    numbered (k + place) entry found ∙ ap (number_back total) same

-- a list of one element has it at place 0 alone
only : (k : ℕ) (entry found : LogRecord) → slice_get (entry ∷ []) k ≡ Some found → (k ≡ 0) × (found ≡ entry)
only zero entry found e = (refl, search rules)
only (suc k) entry found e = search rules

numbered_at : (total : ℕ) (records : List LogRecord) (entry : LogRecord) → total < 2 ^ 32 → (0 < length records → 0 < total) → length records ≤ 2 ^ 32 - 1 → entry.sequence ≡ number_after total →
    AreNumbered total records → (place : ℕ) (found : LogRecord) → slice_get (records ++ entry ∷ []) place ≡ Some found → (place < length records) ⊎ (length records ≤ place) → found.sequence ≡ number_back (number_after total) (length (records ++ entry ∷ []) - 1 - place)
numbered_at total records entry h begun short number numbered place found at (inl below) =
    let before : slice_get records place ≡ Some found = sym (slice_get-append_left records (entry ∷ []) place below) ∙ at in
    let back : (length records - 1 - place) + 1 ≡ length (records ++ entry ∷ []) - 1 - place = omega (arith, length-append records (entry ∷ []), below) in
    numbered place found before ∙ sym (number_back-after total (length records - 1 - place) h (begun (omega (arith, below))) (omega (arith, below, short))) ∙ ap (number_back (number_after total)) back
numbered_at total records entry h begun short number numbered place found at (inr above) =
    let last : slice_get (entry ∷ []) (place - length records) ≡ Some found = sym (slice_get-append_right records (entry ∷ []) place (place - length records) (omega (arith, above))) ∙ at in
    let same : (place - length records ≡ 0) × (found ≡ entry) = only (place - length records) entry found last in
    let newest : length (records ++ entry ∷ []) - 1 - place ≡ 0 = omega (arith, length-append records (entry ∷ []), above) in
    ap (λ (e : LogRecord). e.sequence) same.1 ∙ number ∙ sym (number_back-newest total) ∙ ap (number_back (number_after total)) (sym newest)

numbered-more : (total : ℕ) (records : List LogRecord) (entry : LogRecord) → total < 2 ^ 32 → (0 < length records → 0 < total) → length records ≤ 2 ^ 32 - 1 → entry.sequence ≡ number_after total →
    AreNumbered total records → AreNumbered (number_after total) (records ++ entry ∷ [])
numbered-more total records entry h begun short number numbered place found at = numbered_at total records entry h begun short number numbered place found at (below_or_not place (length records))

positive : (same : Bool) (total : ℕ) → (total == 2 ^ 32 - 1) ≡ same → 0 < (if same then 1 else total + 1)
positive true total e = omega arith
positive false total e = omega arith

small : (same : Bool) (total : ℕ) → (total == 2 ^ 32 - 1) ≡ same → total < 2 ^ 32 → (if same then 1 else total + 1) < 2 ^ 32
small true total e h = omega arith
small false total e h = omega (arith, eqb-false total (2 ^ 32 - 1) e, h)

-- no two records within 2 ^ 32 - 1 of one another have the same number
same_by : (below below' : Bool) (total a b : ℕ) → a < 2 ^ 32 - 1 → b < 2 ^ 32 - 1 → total < 2 ^ 32 → nat_lt a total ≡ below → nat_lt b total ≡ below' →
    (if below then total - a else total + (2 ^ 32 - 1) - a) ≡ (if below' then total - b else total + (2 ^ 32 - 1) - b) → a ≡ b
same_by true true total a b ha hb ht e f same = omega (arith, ltb-true _ _ e, ltb-true _ _ f, same, ha, hb, ht)
same_by true false total a b ha hb ht e f same = omega (arith, ltb-true _ _ e, ltb-false _ _ f, same, ha, hb, ht)
same_by false true total a b ha hb ht e f same = omega (arith, ltb-false _ _ e, ltb-true _ _ f, same, ha, hb, ht)
same_by false false total a b ha hb ht e f same = omega (arith, ltb-false _ _ e, ltb-false _ _ f, same, ha, hb, ht)

pub same_back : (total a b : ℕ) → a < 2 ^ 32 - 1 → b < 2 ^ 32 - 1 → total < 2 ^ 32 → number_back total a ≡ number_back total b → a ≡ b
same_back total a b ha hb ht same = same_by _ _ total a b ha hb ht refl refl same

pub is_log_with_entry : (event : LoggedEvent) (log : EventLogState) → IsLog log → IsLog (with_entry event log)
is_log_with_entry event log is =
    let entry : LogRecord = entry_of event (number_after log.total) in
    let more : List LogRecord = log.records ++ entry ∷ [] in
    let numbered : AreNumbered (number_after log.total) more = numbered-more log.total log.records entry is.total is.begun (omega (arith, is.short, is.size)) refl is.numbered in
    record {
      size = is.size;
      total = small _ log.total refl is.total;
      short = subst (λ n. n ≤ log.size) (sym (length-drop (length more - log.size) more)) (omega arith);
      begun = λ _. positive _ log.total refl;
      numbered = numbered-drop (number_after log.total) (length more - log.size) more (omega arith) numbered;
    }
