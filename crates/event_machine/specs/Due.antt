-- When a rule of an object will be held, if nothing of what it sees changes.
use Rattle.std.specs.Prelude.{◌≡◌, ℕ, ◌+◌, ◌*◌, ◌≤◌, min, nat_le, Bool, false, Option, Some, None, slice_get, slice_index_or}
use Rattle.bac_values.specs.declared.reliability.Reliability.{Reliability}
use Rattle.algorithm_rules.specs.declared.table.Algorithm.{Algorithm}
use Rattle.algorithm_rules.specs.declared.table.Rule.{Rule}
use Rattle.algorithm_rules.specs.Facts.{Facts}
use Rattle.algorithm_rules.specs.Rules.{rules_of}
use Rattle.algorithm_rules.specs.Conditions.{delay_of}
use Rattle.event_machine.specs.declared.run.Run.{Run}
use Rattle.event_machine.specs.Points.{Point}
use Rattle.event_machine.specs.Summary.{AlarmState}

abbrev pub due_of_run : Rule → Facts → Option Run → Option ℕ
due_of_run rule facts None = None
due_of_run rule facts (Some run) = Some (run.start + 1000 * delay_of rule facts)

abbrev pub due_by : Option Rule → Facts → Option Run → Option ℕ
due_by None facts run = None
due_by (Some rule) facts run = due_of_run rule facts run

-- the moment at which the run of the rule at a place will have gone on for its delay, where there is a run
abbrev pub due_at : Algorithm → Facts → AlarmState → ℕ → Option ℕ
due_at algorithm facts alarm place = due_by (slice_get (rules_of algorithm alarm.state) place) facts (slice_index_or alarm.runs place None)

-- the earlier of two moments, where there are two
abbrev pub earlier : Option ℕ → Option ℕ → Option ℕ
earlier None other = other
earlier (Some one) None = Some one
earlier (Some one) (Some other) = Some (min one other)

-- the least of these moments over the rules of the state
abbrev pub next_due_of : Algorithm → Facts → AlarmState → Option ℕ
next_due_of algorithm facts alarm = earlier (due_at algorithm facts alarm 0) (earlier (due_at algorithm facts alarm 1) (due_at algorithm facts alarm 2))

-- whether there is a due moment, and it has come
abbrev pub has_come : Option ℕ → ℕ → Bool
has_come None moment = false
has_come (Some due) moment = nat_le due moment

-- One more point at which nothing is seen but what the newest one saw: the same facts and the same reliability, and the object is inhibited at neither. It isn't before the newest one.
pub record SeesTheSame (facts : Facts) (reliability : Reliability) (newest point : Point) : Type 0 where
  pub facts_before : newest.facts ≡ facts
  pub facts_then : point.facts ≡ facts
  pub reliability_then : point.reliability ≡ reliability
  pub free_before : newest.inhibited ≡ false
  pub free_then : point.inhibited ≡ false
  pub not_before : newest.moment ≤ point.moment
