-- The octets of a notification are its process identifier and what stands behind it.
use Rattle.std.proofs.Common.{◌≡◌, ℕ, Some, List, ◌++◌, ap, sym, ◌∙◌, append_assoc}
use Rattle.bac_tags.specs.Writing.{written_object, written_stamp, written_unsigned}
use Rattle.bac_tags.specs.ParameterWriting.{written_enclosed, written_if_given}
use Rattle.event_services.specs.declared.notification.Notification.{Notification}
use Rattle.event_services.specs.Notifications.{told_to, written_kind, written_notification, written_states, written_text_in, written_values}
use Rattle.event_services.specs.NoteTails.{written_tail}

-- seven parts behind a first
behind : (p d o s k t q v : List ℕ) → p ++ (d ++ o ++ s ++ k ++ t ++ q ++ v) ≡ p ++ d ++ o ++ s ++ k ++ t ++ q ++ v
behind p d o s k t q v = simp append_assoc

-- as it is told to a process
pub told_behind : (process : ℕ) (note : Notification) → written_unsigned (Some 0) process ++ written_tail note ≡ written_notification (told_to process note)
unfolding written_tail written_notification
told_behind process note =
    behind (written_unsigned (Some 0) process) (written_object (Some 1) note.device) (written_object (Some 2) note.object) (written_enclosed 3 (written_enclosed 2 (written_stamp note.stamp))) (written_kind note)
    (written_if_given (written_text_in 7) note.text) (written_states note) (written_if_given written_values note.values)

-- and as it names its own
pub own_behind : (note : Notification) → written_unsigned (Some 0) note.process ++ written_tail note ≡ written_notification note
own_behind note = told_behind note.process note
