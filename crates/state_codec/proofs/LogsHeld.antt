-- A log of a site that holds what was read is a log.
use Rattle.std.proofs.Common.{◌≡◌, ℕ, ◌^◌, ◌<◌, Bool, true, false, eqb, ltb, leb, ◌||◌, List, length, refl, arith}
use Rattle.std.proofs.lemmas.Bool.{leb-true, ltb-true, eqb-true}
use Rattle.event_log.specs.Log.{AreNumbered, IsLog}
use Rattle.event_log.specs.declared.log_record.LogRecord.{LogRecord}
use Rattle.state_codec.specs.SnapshotSteps.{may_hold}
use Rattle.state_codec.proofs.Behind.{both_true}

begun : (count total : ℕ) (test : Bool) → ltb 0 total ≡ test → (eqb count 0 || test) ≡ true → 0 < count → 0 < total
begun count total true is held lt = ltb-true 0 total is
begun count total false is held lt = absurd (omega (arith, lt, eqb-true count 0 (no_other (eqb count 0) held)))
  where
    no_other : (b : Bool) → (b || false) ≡ true → b ≡ true
    no_other true e = refl
    no_other false e = e

pub is_log : (size : ℕ) (stops enabled : Bool) (total : ℕ) (records : List LogRecord) → size < 2 ^ 32 → total < 2 ^ 32 → may_hold size total (length records) ≡ true → AreNumbered total records → IsLog (record { size = size; stops = stops; enabled = enabled; total = total; records = records })
is_log size stops enabled total records size_fits total_fits held numbered =
    let t = both_true (leb (length records) size) (eqb (length records) 0 || ltb 0 total) held in
    record { size = size_fits; total = total_fits; short = leb-true _ _ t.0; begun = begun (length records) total (ltb 0 total) refl t.1; numbered = numbered }
