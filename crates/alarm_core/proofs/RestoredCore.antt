-- A restored core shows what it was made of, and its objects ascend.
use Rattle.std.proofs.Common.{◌≡◌, suc, Bool, true, false, if◌then◌else◌, List, [], ◌∷◌, ◌++◌, filter, map, ap, ◌∙◌, arith}
use Rattle.std.specs.List.{All, AllPairs, flat_map, zip}
use Rattle.std.proofs.lemmas.List.Elements.{All-nil, All-cons, All-head, All-tail}
use Rattle.std.proofs.lemmas.List.Kept.{AllPairs-cons}
use Rattle.std.specs.declared.cmp.Ordering.TheVariants.{Less}
use Rattle.bac_values.specs.Identifier.{ObjectIdData}
use Rattle.bac_values.specs.Orders.{identifier_order}
use Rattle.event_log.specs.Log.{EventLogState}
use Rattle.event_machine.specs.Summary.{AlarmState}
use Rattle.notify_class.specs.declared.class.Class.{Class}
use Rattle.object_table.specs.Rows.{Ascends}
use Rattle.enrollment.specs.Objects.{ObjectsState}
use Rattle.enrollment.specs.Subjects.{is_detecting, object_of}
use Rattle.enrollment.specs.declared.subject.Subject.{Subject}
use Rattle.alarm_core.specs.declared.parts.Parts.{Parts}
use Rattle.alarm_core.specs.declared.site.Site.{Site}
use Rattle.alarm_core.specs.Logs.{SiteLogState}
use Rattle.alarm_core.specs.Parts.{detected_by, detected_with, kept_by, state_of_parts, values_of_parts}
use Rattle.alarm_core.specs.Sites.{IsSite}
use Rattle.alarm_core.specs.State.{DetectedObjectState}
use Rattle.alarm_core.specs.Subjects.{alarm_subjects, has_class, subjects_of}
use Rattle.alarm_core.proofs.Standing.{stands}

-- ---- lists of which some elements are left out

module _ {Y : Type 0} (R : Y → Y → Type 0) where
  pub pairs_head : (y : Y) (ys : List Y) → AllPairs R (y ∷ ys) → All (R y) ys
  pairs_head y ys h = λ k d within. h 0 (suc k) d (omega arith) (omega (arith, within))

  pub pairs_tail : (y : Y) (ys : List Y) → AllPairs R (y ∷ ys) → AllPairs R ys
  pairs_tail y ys h = λ i j d low within. h (suc i) (suc j) d (omega (arith, low)) (omega (arith, within))

module _ {X Y : Type 0} (f : X → Y) where
  -- one more, or not
  all_more : (P : Y → Type 0) (x : X) (rest : List X) (there : Bool) → P (f x) → All P (map f rest) → All P (map f (if there then x ∷ rest else rest))
  all_more P x rest true here later = All-cons P (f x) (map f rest) here later
  all_more P x rest false here later = later

  pairs_more : (R : Y → Y → Type 0) (x : X) (rest : List X) (there : Bool) → All (R (f x)) (map f rest) → AllPairs R (map f rest) → AllPairs R (map f (if there then x ∷ rest else rest))
  pairs_more R x rest true behind later = AllPairs-cons R (f x) (map f rest) behind later
  pairs_more R x rest false behind later = later

  module _ (test : X → Bool) where
    pub all_kept : (P : Y → Type 0) (xs : List X) → All P (map f xs) → All P (map f (filter test xs))
    all_kept P [] h = h
    all_kept P (x ∷ xs) h = all_more P x (filter test xs) (test x) (All-head P (f x) (map f xs) h) (all_kept P xs (All-tail P (f x) (map f xs) h))

    pub pairs_kept : (R : Y → Y → Type 0) (xs : List X) → AllPairs R (map f xs) → AllPairs R (map f (filter test xs))
    pairs_kept R [] h = h
    pairs_kept R (x ∷ xs) h = pairs_more R x (filter test xs) (test x) (all_kept (R (f x)) xs (pairs_head R (f x) (map f xs) h)) (pairs_kept R xs (pairs_tail R (f x) (map f xs) h))

-- ---- those whose event detection is enabled

abbrev object_in : DetectedObjectState → ObjectIdData
object_in detected = detected.object

-- one object, or none
none_or : Bool → DetectedObjectState → List DetectedObjectState → List ObjectIdData
none_or there detected rest = map object_in ((if there then detected ∷ [] else []) ++ rest)

all_with : (P : ObjectIdData → Type 0) (there : Bool) (detected : DetectedObjectState) (rest : List DetectedObjectState) → P detected.object → All P (map object_in rest) → All P (none_or there detected rest)
unfolding none_or
all_with P true detected rest here later = All-cons P detected.object (map object_in rest) here later
all_with P false detected rest here later = later

pairs_with : (R : ObjectIdData → ObjectIdData → Type 0) (there : Bool) (detected : DetectedObjectState) (rest : List DetectedObjectState) →
    All (R detected.object) (map object_in rest) → AllPairs R (map object_in rest) → AllPairs R (none_or there detected rest)
unfolding none_or
pairs_with R true detected rest behind later = AllPairs-cons R detected.object (map object_in rest) behind later
pairs_with R false detected rest behind later = later

module _ (site : Site) where
  -- the objects of some subjects whose event detection is enabled
  abbrev those : List Subject → List AlarmState → List ObjectIdData
  those subjects alarms = map object_in (flat_map (detected_by site) (zip subjects alarms))

  all_detected : (P : ObjectIdData → Type 0) (subjects : List Subject) (alarms : List AlarmState) → All P (map object_of subjects) → All P (those subjects alarms)
  unfolding none_or
  all_detected P [] alarms h = All-nil P
  all_detected P (subject ∷ subjects) [] h = All-nil P
  all_detected P (subject ∷ subjects) (alarm ∷ alarms) h =
      all_with P (is_detecting subject) (detected_with site subject alarm) (flat_map (detected_by site) (zip subjects alarms)) (All-head P subject.object (map object_of subjects) h)
      (all_detected P subjects alarms (All-tail P subject.object (map object_of subjects) h))

  pairs_detected : (R : ObjectIdData → ObjectIdData → Type 0) (subjects : List Subject) (alarms : List AlarmState) → AllPairs R (map object_of subjects) → AllPairs R (those subjects alarms)
  unfolding none_or
  pairs_detected R [] alarms h = h
  pairs_detected R (subject ∷ subjects) [] h = λ i j d low within. absurd (omega (arith, within))
  pairs_detected R (subject ∷ subjects) (alarm ∷ alarms) h =
      pairs_with R (is_detecting subject) (detected_with site subject alarm) (flat_map (detected_by site) (zip subjects alarms))
      (all_detected (R subject.object) subjects alarms (pairs_head R subject.object (map object_of subjects) h))
      (pairs_detected R subjects alarms (pairs_tail R subject.object (map object_of subjects) h))

-- each object of a restored core is below the later ones
pub restored_ascend : (site : Site) (alarms : List AlarmState) → IsSite site → Ascends (map object_in (flat_map (detected_by site) (zip (alarm_subjects site) alarms)))
restored_ascend site alarms is =
    let below : ObjectIdData → ObjectIdData → Type 0 = λ earlier later. identifier_order earlier later ≡ Less in
    pairs_detected site below (alarm_subjects site) alarms (pairs_kept object_of has_class below (subjects_of site) (stands.ascending site is))

-- ---- what it shows

pub restored_shows : (site copy : Site) (parts : Parts) (values : ObjectsState) (told : List AlarmState) (alarms : List DetectedObjectState) (classes : List Class) (held : List EventLogState) (logs : List SiteLogState) →
    copy ≡ site → values ≡ values_of_parts parts →
    told ≡ parts.alarms → alarms ≡ flat_map (detected_by site) (zip (alarm_subjects site) told) →
    classes ≡ parts.classes →
    held ≡ parts.logs → logs ≡ map kept_by (zip site.logs held) →
    record { site = copy; events = parts.events; last_moment = parts.last_moment; values = values; alarms = alarms; classes = classes; outbox = parts.outbox; logs = logs } ≡ state_of_parts site parts
restored_shows site copy parts values told alarms classes held logs same_site same_values same_told made_alarms same_classes same_held made_logs =
    let all_alarms = made_alarms ∙ ap (λ ts. flat_map (detected_by site) (zip (alarm_subjects site) ts)) same_told in
    let all_logs = made_logs ∙ ap (λ hs. map kept_by (zip site.logs hs)) same_held in
    λ k. record {
      site = same_site k;
      events = parts.events;
      last_moment = parts.last_moment;
      values = same_values k;
      alarms = all_alarms k;
      classes = same_classes k;
      outbox = parts.outbox;
      logs = all_logs k;
    }
