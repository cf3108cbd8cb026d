-- The alarms of the objects with a notification class are those of all objects, without those that have none.
use Rattle.std.proofs.Common.{◌≡◌, ℕ, Bool, true, false, cond, List, [], ◌∷◌, ◌++◌, filter, refl, sym, ap, ◌∙◌}
use Rattle.std.specs.List.{flat_map}
use Rattle.std.proofs.lemmas.List.Concat.{flat_map-cons}
use Rattle.enrollment.specs.declared.subject.Subject.{Subject}
use Rattle.alarm_core.specs.State.{CoreState}
use Rattle.alarm_core.specs.Subjects.{has_class}
use Rattle.state_codec.specs.Snapshots.{written_subject}
use Rattle.state_codec.specs.WritingSteps.{written_if_alarm}

one : (state : CoreState) (subject : Subject) (others : List Subject) (b : Bool) → cond b (written_subject state subject) [] ++ flat_map (written_subject state) others ≡ flat_map (written_subject state) (cond b (subject ∷ others) others)
one state subject others true = sym (flat_map-cons (written_subject state) subject others)
one state subject others false = refl

pub with_class : (state : CoreState) (subjects : List Subject) → flat_map (written_if_alarm state) subjects ≡ flat_map (written_subject state) (filter has_class subjects)
with_class state [] = refl
with_class state (subject ∷ others) =
    flat_map-cons (written_if_alarm state) subject others
    ∙ ap (λ (t : List ℕ). written_if_alarm state subject ++ t) (with_class state others)
    ∙ one state subject (filter has_class others) (has_class subject)
