-- How many looks at objects an event is worth: one for each move of an object at a look, and for a write one for each object that it touches.
use Rattle.std.specs.Prelude.{ℕ, ◌+◌, Bool, true, false, List, [], ◌∷◌, filter, length}
use Rattle.enrollment.specs.Objects.{ObjectsState}
use Rattle.enrollment.specs.Watchers.{referrers_in, watchers}
use Rattle.enrollment.specs.declared.subject.Subject.{Subject}
use Rattle.alarm_core.specs.declared.event.Act.{Act}
use Rattle.alarm_core.specs.declared.event.Act.TheVariants.{Write}
use Rattle.alarm_core.specs.declared.event.Event.{Event}
use Rattle.alarm_core.specs.declared.site.Site.{Site}
use Rattle.alarm_core.specs.declared.transition.ObjectTransition.{ObjectTransition}
use Rattle.alarm_core.specs.Subjects.{detecting_subjects}
use Rattle.alarm_core.specs.History.{Occurrence, AllEvaluated, looks_of, object_transitions, occurrences_of, values_after}

-- whether there is a transition
abbrev pub is_any : List ObjectTransition → Bool
is_any [] = false
is_any (transition ∷ later) = true

-- whether an object moves at one more look
abbrev pub moves_at_look : Site → ℕ → ObjectsState → List Occurrence → Subject → Bool
moves_at_look site moment values older subject = is_any (object_transitions site moment values older subject)

-- the number of pairs of a look and an object that moves at it, over some looks at a moment, one after the other
abbrev pub moving_over : Site → ℕ → List ObjectsState → List Occurrence → ℕ
moving_over site moment [] older = 0
moving_over site moment (values ∷ later) older =
    length (filter (moves_at_look site moment values older) (detecting_subjects site)) + moving_over site moment later (AllEvaluated moment values ∷ older)

-- over the looks of an event behind a history
abbrev pub moving_of : Site → Event → List Event → ℕ
moving_of site event older = moving_over site event.moment (looks_of event.act (values_after site older)) (occurrences_of site older)

-- a write touches the written object, and each of its watchers: all objects and enrollments that refer to it
abbrev pub touched_with : Act → ObjectsState → ℕ
touched_with (Write change) values = 1 + length (watchers change.object (referrers_in values))
touched_with act values = 0

abbrev pub touched_of : Site → Event → List Event → ℕ
touched_of site event older = touched_with event.act (values_after site older)
