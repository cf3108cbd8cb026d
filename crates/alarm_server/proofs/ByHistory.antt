-- A session from a history on, by the history of its events in the place of its state.
use Rattle.std.proofs.Common.{◌≡◌, ℕ, Option, List, ap, ◌∙◌, subst}
use Rattle.ground_io.specs.Trace.{Told}
use Rattle.script_lines.specs.declared.line.Grammar.TheVariants.{Session}
use Rattle.script_lines.specs.Line.{line_says}
use Rattle.script_lines.specs.Script.{lines_of}
use Rattle.alarm_core.specs.declared.event.Event.{Event}
use Rattle.alarm_core.specs.declared.site.Site.{Site}
use Rattle.alarm_core.specs.Allowed.{IsHistory, Represents}
use Rattle.alarm_core.specs.Sites.{IsSite}
use Rattle.alarm_core.specs.State.{state_of, CoreState}
use Rattle.alarm_server.specs.Emission.{Going, sent}
use Rattle.alarm_server.specs.Report.{front_pieces, report_of}
use Rattle.alarm_server.specs.Sessions.{session_over, state_front}
use Rattle.alarm_server.specs.Pieces.{piece_text}
use Rattle.alarm_server.specs.Stopping.{StopsReading}
use Rattle.alarm_server.proofs.Played.{front_is, report_is}

module _ (site : Site) (is : IsSite site) (history : List Event) (core : CoreState) (stands : Represents core history) (own : core.site ≡ site) where
  -- the core is in the state that the history leaves
  shows : core ≡ state_of site history
  shows = stands.shows ∙ ap (λ (s : Site). state_of s history) own

  is_history : IsHistory site history
  is_history = subst (λ (s : Site). IsHistory s history) own stands.is_history

  pub reports : (script : List ℕ) → session_over core (lines_of script) ≡ report_of site history script
  reports script = ap (λ (s : CoreState). session_over s (lines_of script)) shows ∙ report_is site is history is_history script

  fronts : (whole : List ℕ) → state_front core whole ≡ front_pieces site history whole
  fronts whole = ap (λ (s : CoreState). state_front s whole) shows ∙ front_is site is history is_history whole

  pub stops_by_history : (Goes : Going) (script rest : List ℕ) (old new : Option Told) → StopsReading Goes piece_text (state_front core) (line_says Session) script rest old new → StopsReading Goes piece_text (front_pieces site history) (line_says Session) script rest old new
  stops_by_history Goes script rest old new h = record {
    whole = h.whole;
    begun = h.begun;
    read = h.read;
    whole_lines = h.whole_lines;
    accepted = h.accepted;
    no_line_feed = h.no_line_feed;
    emitted = subst (λ ps. Goes old new (sent piece_text ps)) (fronts h.whole) h.emitted;
  }
