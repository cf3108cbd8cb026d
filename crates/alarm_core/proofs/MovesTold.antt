-- The moves that are reported are those of the event-state transitions, look by look.
use Rattle.std.proofs.Common.{◌≡◌, ◌↔◌, ℕ, List, [], ◌∷◌, ◌++◌, map, ap, ◌∙◌, sym}
use Rattle.std.specs.List.{flat_map}
use Rattle.std.proofs.lemmas.List.{append-nil, map-append}
use Rattle.std.proofs.lemmas.List.Concat.{flat_map-append}
use Rattle.std.proofs.lemmas.Simd.{map-map}
use Rattle.civil_stamp.specs.LocalTime.{LocalMomentData}
use Rattle.alarm_core.specs.declared.site.Site.{Site}
use Rattle.alarm_core.specs.Evaluations.{site_moment, site_zone}
use Rattle.alarm_core.specs.declared.transition.ObjectTransition.{ObjectTransition}
use Rattle.alarm_core.specs.History.{StateTransition, joined, moved_by}
use Rattle.alarm_core.specs.ViewSteps.{moved_of, transition_in, SiteViewData}
use Rattle.alarm_core.proofs.Still.{map-none}

-- those of one look
pub moved_all : (seen : SiteViewData) (transitions : List ObjectTransition) → map moved_of transitions ≡ map moved_by (map (transition_in seen) transitions)
moved_all seen transitions = sym (map-map moved_by (transition_in seen) transitions)

-- of one look, and of two
pub of_one_look : {A : Type 0} (f : StateTransition → A) (first : List StateTransition) → map f first ≡ map f (joined (first ∷ []))
of_one_look f first = ap (map f) (sym (append-nil first))

pub of_two_looks : {A : Type 0} (f : StateTransition → A) (first second : List StateTransition) → map f first ++ map f second ≡ map f (joined (first ∷ second ∷ []))
of_two_looks f first second = sym (map-append f first second) ∙ ap (λ ts. map f (first ++ ts)) (sym (append-nil second))

-- and what is made of each transition
pub each_of_one_look : {A : Type 0} (f : StateTransition → List A) (first : List StateTransition) → flat_map f first ≡ flat_map f (joined (first ∷ []))
each_of_one_look f first = ap (flat_map f) (sym (append-nil first))

pub each_of_two_looks : {A : Type 0} (f : StateTransition → List A) (first second : List StateTransition) → flat_map f first ++ flat_map f second ≡ flat_map f (joined (first ∷ second ∷ []))
each_of_two_looks f first second = sym (flat_map-append f first second) ∙ ap (λ ts. flat_map f (first ++ ts)) (sym (append-nil second))

-- no object moves exactly where a look has no transition
pub none_moved : (f : ObjectTransition → StateTransition) (transitions : List ObjectTransition) → (transitions ≡ []) ↔ (joined (map f transitions ∷ []) ≡ [])
none_moved f transitions = (
  λ e. append-nil (map f transitions) ∙ ap (map f) e,
  λ e. map-none f transitions (sym (append-nil (map f transitions)) ∙ e),
)

-- a moment in a site's zone
pub at_site : (at : LocalMomentData) (site : Site) (moment : ℕ) → at.zone ≡ site_zone site → at.moment ≡ moment → at ≡ site_moment site moment
at_site at site moment zone same = λ k. record { zone = zone k; moment = same k }
