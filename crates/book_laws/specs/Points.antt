-- What the code sees of an object at a moment, and the moves there, by the book's names. Nothing is decided here.
use Rattle.std.specs.Prelude.{List, [], ◌∷◌, map, option_map}
use Rattle.algorithm_rules.specs.Facts.{Facts}
use Rattle.algorithm_rules.specs.Matches.{alarms_among}
use Rattle.event_machine.specs.declared.moves.Move.{Move}
use Rattle.event_machine.specs.Detection.{Detection, since}
use Rattle.event_machine.specs.Points.{Point, Incident, Looked, Acknowledged}
use Rattle.book_laws.specs.Values.{value_in_book, bits_in_book, state_in_book, reliability_in_book}
use Rattle.profile.specs.Courses as book
use Rattle.profile.specs.Sites.{Detection as Settings}
use Rattle.profile.specs.Rules.{Seen}

-- settings of which those that an algorithm looks at are these; of the others it sees nothing
abbrev pub settings_in_book : Settings → Facts → Settings
settings_in_book others facts = record others {
  time_delay = facts.time_delay;
  time_delay_normal = facts.time_delay_normal;
  low_limit = facts.low;
  high_limit = facts.high;
  low_limit_enable = facts.low_enabled;
  high_limit_enable = facts.high_enabled;
  deadband = facts.deadband;
  alarm_values = map value_in_book (alarms_among facts.alarm_value facts.alarm_values);
  bit_mask = option_map bits_in_book facts.mask;
}

abbrev pub seen_in_book : Settings → Facts → Seen
seen_in_book others facts = record {
  settings = settings_in_book others facts;
  value = value_in_book facts.value;
  feedback = option_map value_in_book facts.feedback;
}

-- a point, where the settings that the algorithm doesn't look at are those
abbrev pub point_in_book : (Point → Settings) → Point → book.Point
point_in_book others point = record {
  moment = point.moment;
  seen = seen_in_book (others point) point.facts;
  reliability = reliability_in_book point.reliability;
  inhibited = point.inhibited;
}

abbrev pub course_in_book : (Point → Settings) → Detection → book.Course
course_in_book others d = record {
  state = state_in_book d.state;
  cause = d.cause;
  reliability = reliability_in_book d.reliability;
  since = map (point_in_book others) (since d);
}

abbrev pub move_in_book : Move → book.Move
move_in_book move = record { from = state_in_book move.from; to = state_in_book move.to; by_reliability = move.by_fault }

-- the points among what happens to an object
abbrev pub points_of : List Incident → List Point
points_of [] = []
points_of (Looked point ∷ older) = point ∷ points_of older
points_of (Acknowledged transition ∷ older) = points_of older

-- the points of a course in the book, behind its first one
abbrev pub points_in_book : (Point → Settings) → List Incident → List book.Point
points_in_book others incidents = map (point_in_book others) (points_of incidents)
