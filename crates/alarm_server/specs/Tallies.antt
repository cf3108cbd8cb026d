-- How many lines of each kind the report of a session has.
use Rattle.std.specs.Prelude.{◌+◌, Bool, true, false, List, count_by}
use Rattle.std.specs.List.{flat_map}
use Rattle.bac_values.specs.declared.report.ReportLine.{ReportLine}
use Rattle.bac_values.specs.declared.report.ReportLine.TheVariants.{Entered, Change, Sent, Full}
use Rattle.alarm_server.specs.declared.tally.Tally.{Tally}

abbrev pub is_entered : ReportLine → Bool
is_entered (Entered line event moment) = true
is_entered line = false

abbrev pub is_change : ReportLine → Bool
is_change (Change line moved) = true
is_change line = false

abbrev pub is_sent : ReportLine → Bool
is_sent (Sent line send) = true
is_sent line = false

abbrev pub is_full : ReportLine → Bool
is_full (Full line would limit) = true
is_full line = false

abbrev pub no_tally : Tally
no_tally = record { events = 0; changes = 0; sends = 0; full = 0 }

-- with so many more of each kind as there are among some lines
abbrev pub tally_with : List ReportLine → Tally → Tally
tally_with lines tally = record {
  events = tally.events + count_by is_entered lines;
  changes = tally.changes + count_by is_change lines;
  sends = tally.sends + count_by is_sent lines;
  full = tally.full + count_by is_full lines;
}

-- those of a report, which is given by its pieces
abbrev pub tally_of : List (List ReportLine) → Tally
tally_of pieces = tally_with (flat_map (λ piece. piece) pieces) no_tally
