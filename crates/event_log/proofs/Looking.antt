-- A log after one more call is what the call makes of it.
use Rattle.std.proofs.Common.{◌≡◌, ℕ, ◌+◌, ◌-◌, Bool, true, false, List, [], ◌∷◌, ◌++◌, length, drop, refl, sym, ◌∙◌, ap, arith, rules, nat_le, min, ◌&&◌, not, if◌then◌else◌, length-append}
use Rattle.std.proofs.lemmas.List.{drop-append-le, length-drop, drop-drop, drop_all}
use Rattle.circular_buffer.specs.Buffer.{keep_last}
use Rattle.event_log.specs.declared.log_record.LogRecord.{LogRecord}
use Rattle.event_log.specs.Log.{LoggedEvent, number_after, entry_of, new_log, with_entry, EventLogState}
use Rattle.event_log.specs.History.{Call, Recorded, Cleared, Switched, Taken, taken_after, one_more, enabled_after, log_after, next_log, FollowsCall}

module _ {X : Type 0} where
  length-keep_last : (n : ℕ) (xs : List X) → length (keep_last n xs) ≡ min n (length xs)
  length-keep_last n xs = length-drop (length xs - n) xs ∙ (omega arith)

  -- to keep the last of what was kept, and one more, is to keep the last of all
  keep_last-again : (n : ℕ) (xs : List X) (x : X) → keep_last n (keep_last n xs ++ x ∷ []) ≡ keep_last n (xs ++ x ∷ [])
  keep_last-again n xs x =
      let together : drop (length xs - n) xs ++ x ∷ [] ≡ drop (length xs - n) (xs ++ x ∷ []) = sym (drop-append-le (length xs - n) xs (x ∷ []) (omega arith)) in
      let long : length (xs ++ x ∷ []) ≡ length xs + 1 = length-append xs (x ∷ []) in
      let less : length (drop (length xs - n) (xs ++ x ∷ [])) ≡ length (xs ++ x ∷ []) - (length xs - n) = length-drop (length xs - n) (xs ++ x ∷ []) in
      let count : (length xs - n) + (length (drop (length xs - n) (xs ++ x ∷ [])) - n) ≡ length (xs ++ x ∷ []) - n = omega (arith, long, less) in
      ap (keep_last n) together ∙ drop-drop (length (drop (length xs - n) (xs ++ x ∷ [])) - n) (length xs - n) (xs ++ x ∷ []) ∙ ap (λ m. drop m (xs ++ x ∷ [])) count

le-min : (a b : ℕ) → nat_le a (min a b) ≡ nat_le a b
le-min a b = search (rules, arith)

full-kept : (size : ℕ) {X : Type 0} (xs : List X) → nat_le size (length (keep_last size xs)) ≡ nat_le size (length xs)
full-kept size xs = ap (λ n. nat_le size n) (length-keep_last size xs) ∙ le-min size (length xs)

-- the log of what was taken
abbrev log_of : EventLogState → Bool → Taken → EventLogState
log_of first enabled taken = record { size = first.size; stops = first.stops; enabled = enabled; total = taken.total; records = keep_last first.size taken.records }

abbrev log_with : EventLogState → Bool → ℕ → List LogRecord → EventLogState
log_with first enabled total records = record { size = first.size; stops = first.stops; enabled = enabled; total = total; records = records }

recorded-taken : (first : EventLogState) (enabled : Bool) (taken : Taken) (event : LoggedEvent) →
    log_of first enabled (one_more event taken) ≡ with_entry event (log_of first enabled taken)
recorded-taken first enabled taken event =
    ap (log_with first enabled (number_after taken.total)) (sym (keep_last-again first.size taken.records (entry_of event (number_after taken.total))))

record_by : (taken kept : Bool) (first : EventLogState) (enabled : Bool) (t : Taken) (event : LoggedEvent) → kept ≡ taken →
    log_of first enabled (if taken then one_more event t else t) ≡ (if kept then with_entry event (log_of first enabled t) else log_of first enabled t)
record_by true true first enabled t event e = recorded-taken first enabled t event
record_by false false first enabled t event e = refl
record_by true false first enabled t event e = search rules
record_by false true first enabled t event e = search rules

pub log_after-next : (first : EventLogState) (call : Call) (calls : List Call) → log_after first (call ∷ calls) ≡ next_log call (log_after first calls)
unfolding taken_after
log_after-next first Cleared calls = ap (log_with first (enabled_after first calls) (taken_after first calls).total) (drop_all (0 - first.size) [] (omega arith))
log_after-next first (Switched on) calls = refl
log_after-next first (Recorded event) calls = record_by _ _ first (enabled_after first calls) (taken_after first calls) event (ap (λ full. enabled_after first calls && not (first.stops && full)) (full-kept first.size (taken_after first calls).records))

pub follows : (call : Call) (old new : EventLogState) → new ≡ next_log call old → FollowsCall call old new
follows call old new e = record { after = λ first calls h from. e ∙ ap (next_log call) from ∙ sym (log_after-next first call calls) }

-- no call was made of a new log
pub new_after : (size : ℕ) (stops enabled : Bool) → new_log size stops enabled ≡ log_after (new_log size stops enabled) []
unfolding taken_after
new_after size stops enabled = ap (log_with (new_log size stops enabled) enabled 0) (sym (drop_all (0 - size) [] (omega arith)))
