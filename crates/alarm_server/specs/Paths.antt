-- Which words name files.
use Rattle.std.specs.Prelude.{ℕ, true, false, List, Option, Some, None}
use Rattle.std.specs.Option.{option_map}
use Rattle.alarm_server.specs.declared.command.Command.{Command}
use Rattle.alarm_server.specs.declared.command.Command.TheVariants.{Trial, Session, Workload, Ship, Standby}
use Rattle.alarm_server.specs.declared.paths.Paths.{Paths}
use Rattle.alarm_server.specs.Commands.{command_of}
use Rattle.alarm_server.specs.ServeWords.{count_in}

-- the words of a session, of what ships a journal, and of a standby name the site's file and the journal's, in this order; others name none; none of them serves anybody
abbrev pub paths_by : Command → Paths
paths_by Session = record { site = Some 1; journal = Some 2; serves = false }
paths_by (Trial settings) = record { site = None; journal = None; serves = false }
paths_by (Workload seed count) = record { site = None; journal = None; serves = false }
paths_by (Ship from) = record { site = Some 1; journal = Some 2; serves = false }
paths_by Standby = record { site = Some 1; journal = Some 2; serves = false }

-- so do those of a server, which serves its peers
abbrev pub paths_served : Option Paths → Option ℕ → Option Paths
paths_served others (Some count) = Some record { site = Some 1; journal = Some 2; serves = true }
paths_served others None = others

-- the paths of words of a form, and none of any others
abbrev pub paths_for : List (List ℕ) → Option Paths
paths_for words = paths_served (option_map paths_by (command_of words)) (count_in words)
