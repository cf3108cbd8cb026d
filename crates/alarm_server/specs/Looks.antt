-- The points at which the object on trial is looked at (ANSI/ASHRAE 135-2020, 13.2.2; when a device looks is its own matter). A course lists its looks with the newest first.
use Rattle.std.specs.Prelude.{ℕ, max, false, replicate, List, [], ◌∷◌, ◌++◌}
use Rattle.bac_values.specs.declared.reliability.Reliability.TheVariants.{NoFaultDetected}
use Rattle.bac_values.specs.declared.value.Value.{Value}
use Rattle.bac_values.specs.declared.input.Input.{Input}
use Rattle.bac_values.specs.declared.input.Input.TheVariants.{Tick, Pump, Set, Fault, Datagram}
use Rattle.event_machine.specs.AlarmRecord.{never}
use Rattle.event_machine.specs.Points.{Point, Incident, Looked, newest_of}
use Rattle.alarm_server.specs.declared.settings.Settings.{Settings}
use Rattle.alarm_server.specs.Settings.{facts_with}

-- A point of the object with a value: it has no fault, it isn't inhibited, and no transition has to be acknowledged. Nothing that a trial reports shows the stamp of a point, so all have the same.
abbrev pub point_at : Settings → ℕ → Value → Point
point_at settings moment value = record {
  moment = moment;
  stamp = never;
  facts = facts_with settings value;
  reliability = NoFaultDetected;
  inhibited = false;
  ack_required = replicate 3 false;
}

-- the object as it was at the last point, at a moment, which is raised to that point's where it is earlier
abbrev pub seen_again : ℕ → Point → Point
seen_again moment last = record last { moment = max moment last.moment }

-- the object with another value, at the moment of the last point
abbrev pub seen_with : Value → Point → Point
seen_with value last = record last { facts = record last.facts { value = value } }

-- The looks that an event gives behind the last point, the newest first. A tick gives one; a write gives one at the value before it and one at the value after it; nothing else gives one.
abbrev pub looks_given : ℕ → Input → Point → List Incident
looks_given moment Tick last = Looked (seen_again moment last) ∷ []
looks_given moment (Set object value) last = Looked (seen_with value (seen_again moment last)) ∷ Looked (seen_again moment last) ∷ []
looks_given moment Pump last = []
looks_given moment (Fault object reliability) last = []
looks_given moment (Datagram peer octets) last = []

-- the course behind the first point, with the looks of an event
abbrev pub looks_after : ℕ → Input → Point → List Incident → List Incident
looks_after moment input first later = looks_given moment input (newest_of first later) ++ later
