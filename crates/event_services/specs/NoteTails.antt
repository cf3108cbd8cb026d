-- The octets of a notification behind its process identifier, which are the same for each process that is told.
use Rattle.std.specs.Prelude.{ℕ, ◌+◌, ◌≤◌, Some, List, ◌++◌, length}
use Rattle.bac_values.specs.Limits.{most_note_octets}
use Rattle.bac_tags.specs.Writing.{written_object, written_stamp}
use Rattle.bac_tags.specs.ParameterWriting.{written_enclosed, written_if_given}
use Rattle.event_services.specs.declared.notification.Notification.{Notification}
use Rattle.event_services.specs.Notifications.{written_kind, written_states, written_text_in, written_values}

-- [1] and [2]: by whom is told, and of what
abbrev pub written_objects : Notification → List ℕ
written_objects note = written_object (Some 1) note.device ++ written_object (Some 2) note.object

-- from [1] to [6]
abbrev pub written_occurrence : Notification → List ℕ
written_occurrence note = written_objects note ++ written_enclosed 3 (written_enclosed 2 (written_stamp note.stamp)) ++ written_kind note

-- from [1] on
unfoldable pub written_tail : Notification → List ℕ
written_tail note =
    written_occurrence note ++ written_if_given (written_text_in 7) note.text ++ written_states note ++ written_if_given written_values note.values

-- an element of a process identifier fits before it
abbrev pub LeavesRoom : List ℕ → Type 0
LeavesRoom tail = length tail + 11 ≤ most_note_octets
