-- The events of a session's report are numbered without a gap, as far as it went out.
use Rattle.std.specs.Prelude.{◌≡◌, ◌<◌, ◌+◌, ◌⊎◌, ℕ, ⊤, Option, Some, None, Result, Ok, Err, List, [], ◌∷◌, ◌++◌, length, slice_index, filter_map, flat_map, IfSome}
use Rattle.ground_io.specs.Trace.{Told}
use Rattle.bac_values.specs.declared.report.ReportLine.{ReportLine}
use Rattle.bac_values.specs.declared.report.ReportLine.TheVariants as say
use Rattle.alarm_core.specs.declared.site.Site.{Site}
use Rattle.site_config.specs.declared.fault.SiteFault.{SiteFault}
use Rattle.site_config.specs.Sites.{site_of}
use Rattle.alarm_server.specs.Emission.{Going, sent, lost}
use Rattle.alarm_server.specs.Pieces.{piece_text}

-- the number of the event that a line tells of as entered
abbrev pub event_told : ReportLine → Option ℕ
event_told (say.Entered line event moment) = Some event
event_told other = None

-- the numbers of the events that lines tell of, in the order of the lines
abbrev pub events_told : List ReportLine → List ℕ
events_told lines = filter_map event_told lines

-- behind a number these follow without a gap: the one that is 1 more, then the one that is 2 more, and so on
abbrev pub FollowOn : ℕ → List ℕ → Type 0
FollowOn before numbers = (place : ℕ) → place < length numbers → slice_index numbers place ≡ before + (place + 1)

-- the first line tells how many events there are, and those behind it tell of the next ones without a gap; where there is a line
abbrev pub AreNumbered : List ReportLine → Type 0
AreNumbered [] = ⊤
AreNumbered (say.Open before ∷ lines) = FollowOn before (events_told lines)
AreNumbered (other ∷ lines) = ⊥

-- the lines of pieces, one after the other
abbrev pub lines_in : List (List ReportLine) → List ReportLine
lines_in pieces = flat_map (λ piece. piece) pieces

-- these pieces went out; or all but the last of them, which was lost, in part or whole
abbrev pub WentOut : Going → List (List ReportLine) → Option Told → Option Told → Type 0
WentOut Goes pieces old new =
    Goes old new (sent piece_text pieces)
    ⊎ ((front : List (List ReportLine)) × (last : List ReportLine) × (pieces ≡ front ++ last ∷ []) × Goes old new (sent piece_text front ++ lost piece_text last))

-- what went out are pieces, and their lines are numbered so
abbrev pub GoesNumbered : Going → Option Told → Option Told → Type 0
GoesNumbered Goes old new = (pieces : List (List ReportLine)) × AreNumbered (lines_in pieces) × WentOut Goes pieces old new

-- the same of a session on a site's file; where the text is no site nothing went out
abbrev pub NumbersOnSite : Going → Result Site SiteFault → Option Told → Option Told → Type 0
NumbersOnSite Goes (Ok site) old new = GoesNumbered Goes old new
NumbersOnSite Goes (Err fault) old new = Goes old new []

abbrev pub NumbersOnFile : Going → Option (List ℕ) → Option (List ℕ) → Option Told → Option Told → Type 0
NumbersOnFile Goes site script old new = IfSome site (λ octets. IfSome script (λ text. NumbersOnSite Goes (site_of octets) old new))
