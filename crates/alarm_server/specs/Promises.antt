-- What a program promises, by what its words ask for: one value a command. The site's source and the script's are seen by their octets, where they tell them.
use Rattle.std.specs.Prelude.{◌≡◌, ℕ, ⊤, Option, Some, None, List, [], IfSome, IsOk, OnErr}
use Rattle.std.specs.Io.KnownBytes.{IsAtEnd}
use Rattle.ground_io.specs.Trace.{Told, Adds, WhereTold}
use Rattle.alarm_journal.specs.declared.open_fault.OpenFault.{OpenFault}
use Rattle.script_lines.specs.declared.line.Grammar.TheVariants as grammar
use Rattle.script_lines.specs.Line.{line_says}
use Rattle.script_lines.specs.PacketLine.{packet_says}
use Rattle.script_lines.specs.Report.{report_text}
use Rattle.script_lines.specs.Script.{lines_of}
use Rattle.site_config.specs.declared.fault.SiteFault.{SiteFault}
use Rattle.site_config.specs.Sites.{site_of}
use Rattle.alarm_server.specs.declared.command.Command.{Command}
use Rattle.alarm_server.specs.declared.command.Command.TheVariants.{Trial, Session, Workload, Ship, Standby}
use Rattle.alarm_server.specs.declared.settings.Settings.{Settings}
use Rattle.alarm_server.specs.declared.status.Status.{Status}
use Rattle.state_codec.specs.Emission.{Emits}
use Rattle.alarm_server.specs.Emission.{Ends}
use Rattle.alarm_server.specs.Numbering.{NumbersOnFile}
use Rattle.alarm_server.specs.OnFile.{AcceptsOnFile, EndsOnFile, KeepsOnFile, RefusesFile, StopsOnFile}
use Rattle.alarm_server.specs.Openings.{OpensOnFile, RefusesJournal}
use Rattle.alarm_server.specs.Script.{refused_line}
use Rattle.alarm_server.specs.Shipping.{KeepsShipped, ShipsOnFile}
use Rattle.alarm_server.specs.SmallDevices.{RefusesSmall}
use Rattle.alarm_server.specs.StandingBy.{AcceptsPackets, FollowsOnFile, GoesOnFromFile, KeepsBehindFile, StopsStandingBy}
use Rattle.alarm_server.specs.Stopping.{StopsReading}
use Rattle.alarm_server.specs.Trial.{front_transitions, report_over}
use Rattle.alarm_server.specs.Workloads.{AcceptsGenerated, RefusesGenerated, summary_of}

-- What a command promises. `site` and `script` are the octets that its sources had at the beginning, `old` is what its ground told then, and `new` what it tells at the end.
pub record Promise : Type 1 where
  -- what went out, by how it ended, of the site, of the script, from `old` to `new`
  pub ends : Status → Option (List ℕ) → Option (List ℕ) → Option Told → Option Told → Type 0
  -- with Done: the script was read to its end, of what is left of it
  pub to_end : Option (List ℕ) → Type 0
  -- with Done: what was played is accepted, of the site and of the script
  pub accepts : Option (List ℕ) → Option (List ℕ) → Type 0
  -- with ScriptRefused: the line with this number is the first of the script outside the grammar
  pub refuses : Option (List ℕ) → ℕ → Type 0
  -- with SiteRefused: the site's text has this fault, which isn't want of memory
  pub refuses_site : Option (List ℕ) → SiteFault → Type 0
  -- with ReadFault: that the site's source failed, or that the script's did, and then what went out of what was read; of the site, of the script, of what is left of this, from `old` to `new`
  pub stops : Type 0 → Type 0 → Option (List ℕ) → Option (List ℕ) → Option (List ℕ) → Option Told → Option Told → Type 0
  -- whether the site's source is the same as before
  pub leaves_site : Type 0 → Type 0
  -- whether the script is the same as before, where the site is this
  pub leaves_script : Option (List ℕ) → Type 0 → Type 0
  -- whether no call of the disk failed
  pub leaves_disk : Type 0 → Type 0
  -- what a crash leaves of the disk at each moment, of the site, of the script, from `old` to `new`
  pub keeps : Option (List ℕ) → Option (List ℕ) → Option Told → Option Told → Type 0
  -- how the events are numbered of which it told, of the site, of the script, from `old` to `new`
  pub numbers : Option (List ℕ) → Option (List ℕ) → Option Told → Option Told → Type 0
  -- with JournalRefused: the journal of the site is refused for this, from `old` to `new`
  pub refuses_journal : Option (List ℕ) → Option Told → Option Told → OpenFault → Type 0
  -- how it ends where the device of this size is smaller than the journal of the site has to be, of the size and of the site
  pub refuses_small : ℕ → Option (List ℕ) → Status → Type 0
  -- what the journal opened to, and what went out from there: of that the site's source failed, by how it ended, of the site, of the script, from `old` to `new`
  pub opens : Type 0 → Status → Option (List ℕ) → Option (List ℕ) → Option Told → Option Told → Type 0

-- A trial reads the script alone. Its report is all that happens to the ground, and it tells of no event as entered.
abbrev pub trial_promise : Settings → Promise
trial_promise settings = record {
  ends = λ ended site script old new. IfSome script (λ text. Ends Adds report_text ended (report_over settings (lines_of text)) old new);
  to_end = λ left. IsAtEnd left;
  accepts = λ site script. IfSome script (λ text. refused_line (line_says grammar.Trial) text ≡ None);
  refuses = λ script line. IfSome script (λ text. refused_line (line_says grammar.Trial) text ≡ Some line);
  refuses_site = λ site fault. ⊥;
  stops = λ SiteFailed ScriptFailed site script rest old new.
      ScriptFailed × WhereTold script rest (λ text rest. StopsReading Adds report_text (front_transitions settings) (line_says grammar.Trial) text rest old new);
  leaves_site = λ Same. Same;
  leaves_script = λ site Same. ⊤;
  leaves_disk = λ Same. Same;
  keeps = λ site script old new. ⊤;
  numbers = λ site script old new. ⊤;
  refuses_journal = λ site old new fault. ⊥;
  refuses_small = λ size site ended. ⊤;
  opens = λ SiteFailed ended site script old new. ⊤;
}

-- A session reads the site's file, and the script where that is a site, and keeps its events in the journal.
abbrev pub session_promise : Promise
session_promise = record {
  ends = λ ended site script old new. EndsOnFile Emits ended site script old new;
  to_end = λ left. IsAtEnd left;
  accepts = λ site script. AcceptsOnFile site script;
  refuses = λ script line. IfSome script (λ text. refused_line (line_says grammar.Session) text ≡ Some line);
  refuses_site = λ site fault. RefusesFile site fault;
  stops = λ SiteFailed ScriptFailed site script rest old new. StopsOnFile Emits SiteFailed ScriptFailed site script rest old new;
  leaves_site = λ Same. ⊤;
  leaves_script = λ site Same. IfSome site (λ octets. OnErr (site_of octets) Same);
  leaves_disk = λ Same. ⊤;
  keeps = λ site script old new. KeepsOnFile site script old new;
  numbers = λ site script old new. NumbersOnFile Emits site script old new;
  refuses_journal = λ site old new fault. RefusesJournal site old new fault;
  refuses_small = λ size site ended. RefusesSmall size site ended;
  opens = λ SiteFailed ended site script old new. OpensOnFile SiteFailed site ended script old new;
}

-- A workload reads nothing. Its one line is all that happens to the ground.
abbrev pub workload_promise : ℕ → ℕ → Promise
workload_promise seed count = record {
  ends = λ ended site script old new. Ends Adds report_text ended (summary_of seed count) old new;
  to_end = λ left. ⊤;
  accepts = λ site script. AcceptsGenerated seed count;
  refuses = λ script line. RefusesGenerated seed count line;
  refuses_site = λ site fault. ⊥;
  stops = λ SiteFailed ScriptFailed site script rest old new. ⊥;
  leaves_site = λ Same. Same;
  leaves_script = λ site Same. Same;
  leaves_disk = λ Same. Same;
  keeps = λ site script old new. ⊤;
  numbers = λ site script old new. ⊤;
  refuses_journal = λ site old new fault. ⊥;
  refuses_small = λ size site ended. ⊤;
  opens = λ SiteFailed ended site script old new. ⊤;
}

-- What ships a journal reads the site's file, and no script. What the journal opened to is told with what went out, and no line of it tells of an event as entered.
abbrev pub ship_promise : ℕ → Promise
ship_promise from = record {
  ends = λ ended site script old new. ShipsOnFile from site ended old new;
  to_end = λ left. ⊤;
  accepts = λ site script. IfSome site (λ octets. IsOk (site_of octets));
  refuses = λ script line. ⊥;
  refuses_site = λ site fault. RefusesFile site fault;
  stops = λ SiteFailed ScriptFailed site script rest old new. SiteFailed × Adds old new [];
  leaves_site = λ Same. ⊤;
  leaves_script = λ site Same. Same;
  leaves_disk = λ Same. ⊤;
  keeps = λ site script old new. KeepsShipped site old new;
  numbers = λ site script old new. ⊤;
  refuses_journal = λ site old new fault. RefusesJournal site old new fault;
  refuses_small = λ size site ended. RefusesSmall size site ended;
  opens = λ SiteFailed ended site script old new. ⊤;
}

-- A standby reads the site's file, and packets as its script where that is a site, and takes them into its journal. No line of it tells of an event as entered.
abbrev pub standby_promise : Promise
standby_promise = record {
  ends = λ ended site script old new. FollowsOnFile ended site script old new;
  to_end = λ left. IsAtEnd left;
  accepts = λ site script. AcceptsPackets site script;
  refuses = λ script line. IfSome script (λ text. refused_line packet_says text ≡ Some line);
  refuses_site = λ site fault. RefusesFile site fault;
  stops = λ SiteFailed ScriptFailed site script rest old new. StopsStandingBy SiteFailed ScriptFailed site script rest old new;
  leaves_site = λ Same. ⊤;
  leaves_script = λ site Same. IfSome site (λ octets. OnErr (site_of octets) Same);
  leaves_disk = λ Same. ⊤;
  keeps = λ site script old new. KeepsBehindFile site script old new;
  numbers = λ site script old new. ⊤;
  refuses_journal = λ site old new fault. RefusesJournal site old new fault;
  refuses_small = λ size site ended. RefusesSmall size site ended;
  opens = λ SiteFailed ended site script old new. GoesOnFromFile SiteFailed ended site script old new;
}

-- Words of no form are refused, and nothing else comes of them.
abbrev pub usage_promise : Promise
usage_promise = record {
  ends = λ ended site script old new. Adds old new [];
  to_end = λ left. ⊥;
  accepts = λ site script. ⊥;
  refuses = λ script line. ⊥;
  refuses_site = λ site fault. ⊥;
  stops = λ SiteFailed ScriptFailed site script rest old new. ⊥;
  leaves_site = λ Same. Same;
  leaves_script = λ site Same. Same;
  leaves_disk = λ Same. Same;
  keeps = λ site script old new. ⊤;
  numbers = λ site script old new. ⊤;
  refuses_journal = λ site old new fault. ⊥;
  refuses_small = λ size site ended. ⊤;
  opens = λ SiteFailed ended site script old new. ⊤;
}

-- what the words ask for promises this
abbrev pub promise_of : Option Command → Promise
promise_of (Some (Trial settings)) = trial_promise settings
promise_of (Some Session) = session_promise
promise_of (Some (Workload seed count)) = workload_promise seed count
promise_of (Some (Ship from)) = ship_promise from
promise_of (Some Standby) = standby_promise
promise_of None = usage_promise
