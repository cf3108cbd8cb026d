-- The transitions of a look, as they are told with what is seen after it.
use Rattle.std.proofs.Common.{◌≡◌, List, map, ap, ◌∙◌}
use Rattle.std.specs.List.{flat_map}
use Rattle.civil_stamp.specs.LocalTime.{LocalMomentData}
use Rattle.enrollment.specs.Objects.{ObjectsState}
use Rattle.alarm_core.specs.declared.transition.ObjectTransition.{ObjectTransition}
use Rattle.alarm_core.specs.Evaluations.{site_moment}
use Rattle.alarm_core.specs.History.{transition_of}
use Rattle.alarm_core.specs.CoreSteps.{evaluated_all, states_of, transitions_all, transitions_by}
use Rattle.alarm_core.specs.State.{CoreState, DetectedObjectState}
use Rattle.alarm_core.specs.ViewSteps.{seen_in}

-- the transitions of one more look with these properties, as they are told after it
pub seen_all : (at : LocalMomentData) (values : ObjectsState) (before alarms : List DetectedObjectState) (transitions : List ObjectTransition) (state : CoreState) → at ≡ site_moment state.site at.moment →
    alarms ≡ evaluated_all at values before → transitions ≡ flat_map (transitions_by at values) before →
    seen_in at.moment (record state { values = values; alarms = alarms }) transitions ≡ transitions_all (site_moment state.site at.moment) values before
seen_all at values before alarms transitions state here a t =
    (λ k. map (transition_of at.moment values (states_of (a k))) (t k))
    ∙ ap (λ (m : LocalMomentData). map (transition_of at.moment values (states_of (evaluated_all m values before))) (flat_map (transitions_by m values) before)) here

-- the same where the properties are those from before
pub looked_at : (old view : CoreState) (at : LocalMomentData) (values : ObjectsState) (alarms : List DetectedObjectState) (transitions : List ObjectTransition) → view ≡ old → at ≡ site_moment old.site at.moment →
    values ≡ view.values → alarms ≡ evaluated_all at view.values view.alarms → transitions ≡ flat_map (transitions_by at view.values) view.alarms →
    seen_in at.moment (record view { values = values; alarms = alarms }) transitions ≡ transitions_all (site_moment old.site at.moment) old.values old.alarms
looked_at old view at values alarms transitions v here e a t =
    (λ k. seen_in at.moment (record (v k) { values = (e ∙ ap (λ (s : CoreState). s.values) v) k; alarms = alarms }) transitions)
    ∙ seen_all at old.values old.alarms alarms transitions old here (a ∙ ap (λ (s : CoreState). evaluated_all at s.values s.alarms) v)
    (t ∙ ap (λ (s : CoreState). flat_map (transitions_by at s.values) s.alarms) v)
