-- A line was in the way: its event wasn't kept, or its piece didn't go out.
use Rattle.std.proofs.Common.{ℕ, Option, Some, None, List, IfSome}
use Rattle.ground_io.specs.Trace.{Told}
use Rattle.alarm_server.specs.declared.emission.Unsent.{Unsent}
use Rattle.alarm_server.specs.declared.emission.Unsent.TheVariants as unsent
use Rattle.alarm_server.specs.declared.status.Status.{Status}
use Rattle.alarm_server.specs.declared.status.Status.TheVariants.{Done, Usage, SiteRefused, ScriptRefused, ReadFault, EmitFault, DiskFault, JournalRefused, NoMemory, LinkFault}
use Rattle.alarm_server.specs.Emission.{Ends, Going, SendsUpTo}
use Rattle.alarm_server.specs.Status.{IsKeepFault, IsLineFault, IsPlayFault, of_unsent}

-- what went out of its piece is as where it was lost, or where memory was refused
abbrev pub way_of : Status → Unsent
way_of EmitFault = unsent.Lost
way_of status = unsent.NoMemory

pub sends_by : {X : Type 0} (Goes : Going) (text : X → List ℕ) (ended : Status) (pieces : List X) (old new : Option Told) → IsLineFault ended → Ends Goes text ended pieces old new → SendsUpTo Goes text (way_of ended) pieces old new
sends_by Goes text Done pieces old new fault ends = absurd fault
sends_by Goes text Usage pieces old new fault ends = absurd fault
sends_by Goes text (SiteRefused why) pieces old new fault ends = absurd fault
sends_by Goes text (ScriptRefused line) pieces old new fault ends = absurd fault
sends_by Goes text ReadFault pieces old new fault ends = absurd fault
sends_by Goes text EmitFault pieces old new fault ends = ends
sends_by Goes text DiskFault pieces old new fault ends = ends
sends_by Goes text (JournalRefused why) pieces old new fault ends = absurd fault
sends_by Goes text LinkFault pieces old new fault ends = absurd fault
sends_by Goes text NoMemory pieces old new fault ends = ends

pub ends_as : {X : Type 0} (Goes : Going) (text : X → List ℕ) (ended : Status) (pieces : List X) (old new : Option Told) → IsLineFault ended → Ends Goes text (of_unsent (way_of ended)) pieces old new → Ends Goes text ended pieces old new
ends_as Goes text Done pieces old new fault ends = absurd fault
ends_as Goes text Usage pieces old new fault ends = absurd fault
ends_as Goes text (SiteRefused why) pieces old new fault ends = absurd fault
ends_as Goes text (ScriptRefused line) pieces old new fault ends = absurd fault
ends_as Goes text ReadFault pieces old new fault ends = absurd fault
ends_as Goes text EmitFault pieces old new fault ends = ends
ends_as Goes text DiskFault pieces old new fault ends = ends
ends_as Goes text (JournalRefused why) pieces old new fault ends = absurd fault
ends_as Goes text LinkFault pieces old new fault ends = absurd fault
ends_as Goes text NoMemory pieces old new fault ends = ends

-- it is an end of a play, and of a session; no refusal of a line, and no failed read
pub is_play_fault : (ended : Status) → IsLineFault ended → IsPlayFault ended
is_play_fault Done fault = absurd fault
is_play_fault Usage fault = absurd fault
is_play_fault (SiteRefused why) fault = absurd fault
is_play_fault (ScriptRefused line) fault = absurd fault
is_play_fault ReadFault fault = absurd fault
is_play_fault EmitFault fault = tt
is_play_fault DiskFault fault = tt
is_play_fault (JournalRefused why) fault = absurd fault
is_play_fault LinkFault fault = absurd fault
is_play_fault NoMemory fault = tt

pub is_line_fault : (ended : Status) → IsKeepFault ended → IsLineFault ended
is_line_fault Done fault = absurd fault
is_line_fault Usage fault = absurd fault
is_line_fault (SiteRefused why) fault = absurd fault
is_line_fault (ScriptRefused line) fault = absurd fault
is_line_fault ReadFault fault = absurd fault
is_line_fault EmitFault fault = absurd fault
is_line_fault DiskFault fault = tt
is_line_fault (JournalRefused why) fault = absurd fault
is_line_fault LinkFault fault = absurd fault
is_line_fault NoMemory fault = tt

-- the same of what goes out of a whole script's report
pub ends_script_as : {X : Type 0} (Goes : Going) (text : X → List ℕ) (ended : Status) (pieces : List ℕ → List X) (script : Option (List ℕ)) (old new : Option Told) → IsLineFault ended → IfSome script (λ t. Ends Goes text (of_unsent (way_of ended)) (pieces t) old new) → IfSome script (λ t. Ends Goes text ended (pieces t) old new)
ends_script_as Goes text ended pieces None old new fault ends = tt
ends_script_as Goes text ended pieces (Some t) old new fault ends = ends_as Goes text ended (pieces t) old new fault ends
