-- Each log takes the next of some lists of records.
use Rattle.std.proofs.Common.{◌≡◌, ℕ, ◌+◌, ◌<◌, List, [], ◌∷◌, ◌++◌, map, length, get_or, take, drop, set, Vec, Global, sym, ap, subst, refl, ◌∙◌, arith}
use Rattle.std.proofs.lemmas.List.{drop_more, get_or_at, length-map, length-take-le}
use Rattle.std.proofs.lemmas.List.Edits.{map_over_more}
use Rattle.event_log.specs.History.{Call}
use Rattle.alarm_core.specs.Logs.{SiteLogState}
use Rattle.alarm_core.specs.CoreSteps.{after_calls}

-- a log with its calls
abbrev pub taken_by : (SiteLogState → List Call) → SiteLogState → SiteLogState
taken_by calls kept = record kept { log = after_calls (calls kept) kept.log }

abbrev pub calls_in : Vec Call Global → List Call
calls_in list = list.items

-- a log takes the first of the lists, and the others are left
abbrev pub TakesNext : List (Vec Call Global) → List (Vec Call Global) → SiteLogState → SiteLogState → Type 0
TakesNext lists left old new = (list : Vec Call Global) (later : List (Vec Call Global)) → lists ≡ list ∷ later → (new ≡ record old { log = after_calls list.items old.log }) × (left ≡ later)

-- the logs up to a place have taken theirs, and the lists of the others are left
abbrev pub AreTaken : (SiteLogState → List Call) → List SiteLogState → ℕ → List SiteLogState → List (Vec Call Global) → Type 0
AreTaken calls logs place now left = (now ≡ map (taken_by calls) (take place logs) ++ drop place logs) × (map calls_in left ≡ map calls (drop place logs))

first_and_others : (calls : SiteLogState → List Call) (kept : SiteLogState) (others : List SiteLogState) (lists left : List (Vec Call Global)) (new : SiteLogState) →
    map calls_in lists ≡ calls kept ∷ map calls others → TakesNext lists left kept new →
    (new ≡ taken_by calls kept) × (map calls_in left ≡ map calls others)
first_and_others calls kept others [] left new lists takes = absurd (omega (arith, ap (λ l. length l) lists))
first_and_others calls kept others (list ∷ later) left new lists takes =
    let both = takes list later refl in (
      both.0 ∙ ap (λ cs. record kept { log = after_calls cs kept.log }) (ap (λ l. get_or l 0 []) lists),
      ap (map calls_in) both.1 ∙ ap (λ l. drop 1 l) lists,
    )

pub one_more_taken : (calls : SiteLogState → List Call) (logs now : List SiteLogState) (lists left : List (Vec Call Global)) (place : ℕ) (old new : SiteLogState) →
    place < length logs → old ≡ get_or now place old → AreTaken calls logs place now lists → TakesNext lists left (get_or now place old) new →
    AreTaken calls logs (place + 1) (set now place new) left
one_more_taken calls logs now lists left place old new within is taken takes =
    let f = taken_by calls in
    let front = map f (take place logs) in
    let long : length front ≡ place = length-map (take place logs) f ∙ length-take-le place logs (omega (arith, within)) in
    let parts = drop_more logs place old within in
    let read : old ≡ get_or logs place old = is ∙ ap (λ l. get_or l place old) (taken.0 ∙ ap (λ l. front ++ l) parts) ∙ get_or_at front _ _ old place long in
    let both = first_and_others calls old (drop (place + 1) logs) lists left new (taken.1 ∙ ap (map calls) parts ∙ ap (λ k. calls k ∷ map calls (drop (place + 1) logs)) (sym read)) (subst (λ k. TakesNext lists left k new) (sym is) takes) in
    (ap (λ k. set now place k) both.0 ∙ map_over_more f logs now place old within taken.0 is, both.1)
