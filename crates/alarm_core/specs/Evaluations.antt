-- What the event-state detection of an object sees (ANSI/ASHRAE 135-2020, 13.2 and 13.3).
use Rattle.std.specs.Prelude.{ℕ, Bool, false, pos, Option, None, List, []}
use Rattle.std.specs.Option.{option_and_then, option_map, unwrap_or}
use Rattle.bac_values.specs.Identifier.{ObjectIdData}
use Rattle.bac_values.specs.declared.stamp.Stamp.{Stamp}
use Rattle.bac_values.specs.declared.value.Value.TheVariants.{Null}
use Rattle.algorithm_rules.specs.Facts.{Facts}
use Rattle.civil_stamp.specs.LocalTime.{ZoneData, LocalMomentData, fixed_zone, local_stamp, rule_zone}
use Rattle.event_machine.specs.Points.{Point}
use Rattle.enrollment.specs.declared.subject.Subject.{Subject}
use Rattle.enrollment.specs.Subjects.{is_inhibited}
use Rattle.enrollment.specs.Objects.{ObjectsState, facts_at, reliability_at}
use Rattle.alarm_core.specs.declared.site.Site.{Site}
use Rattle.alarm_core.specs.Subjects.{ack_required_of}
use Rattle.alarm_core.specs.Values.{first_values}

-- the local date and time of a moment in its zone
abbrev pub stamp_at : LocalMomentData → Stamp
stamp_at at = local_stamp at.zone at.moment

-- the point of an object that sees these facts, where its class wants these transitions acknowledged
abbrev pub point_with : LocalMomentData → List Bool → ObjectIdData → ObjectsState → Facts → Point
point_with at ack_required object values facts = record {
  moment = at.moment;
  stamp = stamp_at at;
  facts = facts;
  reliability = reliability_at object values;
  inhibited = is_inhibited object values;
  ack_required = ack_required;
}

-- the point of an object, if it is there
abbrev pub point_in : LocalMomentData → List Bool → ObjectIdData → ObjectsState → Option Point
point_in at ack_required object values = option_map (point_with at ack_required object values) (facts_at object values)

-- the zone of a site: that of its zone rule, if it has one, and otherwise the one that is so many minutes ahead of UTC all year
abbrev pub site_zone : Site → ZoneData
site_zone site = unwrap_or (option_and_then rule_zone site.device.zone_rule) (fixed_zone site.device.zone_minutes)

-- the local date and time of a moment at a site
abbrev pub site_stamp : Site → ℕ → Stamp
site_stamp site moment = local_stamp (site_zone site) moment

-- a moment at a site
abbrev pub site_moment : Site → ℕ → LocalMomentData
site_moment site moment = record { zone = site_zone site; moment = moment }

-- the point of a subject of a site
abbrev pub point_of : Site → Subject → ℕ → ObjectsState → Option Point
point_of site subject moment values = point_in (site_moment site moment) (ack_required_of site subject) subject.object values

-- nothing to look at; each subject of a site is there
abbrev pub no_facts : Facts
no_facts = record {
  value = Null;
  feedback = None;
  alarm_value = None;
  alarm_values = [];
  mask = None;
  low = pos 0;
  high = pos 0;
  low_enabled = false;
  high_enabled = false;
  deadband = 0;
  time_delay = 0;
  time_delay_normal = None;
}

-- the point of an object at the start
abbrev pub start_point : LocalMomentData → List Bool → ObjectIdData → ObjectsState → Point
start_point at ack_required object values = point_with at ack_required object values (unwrap_or (facts_at object values) no_facts)

abbrev pub first_point : Site → Subject → Point
first_point site subject = start_point (site_moment site site.device.start) (ack_required_of site subject) subject.object (first_values site)
