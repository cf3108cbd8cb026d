-- The alarms that are told of subjects: those of the objects whose event detection is enabled, of which each is found again.
use Rattle.std.proofs.Common.{◌≡◌, ◌&&◌, ℕ, suc, Bool, true, false, true≢false, cond, Some, List, [], ◌∷◌, ◌++◌, filter, map, refl, sym, ap, ◌∙◌, arith}
use Rattle.std.specs.List.{All, AllZip, flat_map, zip}
use Rattle.std.proofs.lemmas.Bool.Decides.{nat_tests}
use Rattle.std.proofs.lemmas.List.Elements.{All-nil, All-cons, All-head, All-tail}
use Rattle.std.specs.declared.cmp.Ordering.TheVariants.{Less}
use Rattle.bac_values.specs.Identifier.{ObjectIdData}
use Rattle.bac_values.specs.Orders.{identifier_order}
use Rattle.event_machine.specs.Summary.{AlarmState, new_alarm}
use Rattle.object_table.specs.Rows.{Ascends, is_object}
use Rattle.object_table.specs.declared.row.Row.{Row}
use Rattle.object_table.proofs.Order.{less_is_other}
use Rattle.enrollment.specs.Subjects.{is_detecting, object_of}
use Rattle.enrollment.specs.declared.subject.Subject.{Subject}
use Rattle.alarm_core.specs.declared.site.Site.{Site}
use Rattle.alarm_core.specs.Found.{alarm_or_new, detected_object_in}
use Rattle.alarm_core.specs.Parts.{MayHave, detected_by, detected_with}
use Rattle.alarm_core.specs.SiteStates.{IsDetectedOf}
use Rattle.alarm_core.specs.State.{CoreState, DetectedObjectState}
use Rattle.alarm_core.specs.Subjects.{has_class}
use Rattle.state_codec.specs.SnapshotSteps.{values_in}
use Rattle.state_codec.specs.Spelled.{FitsDetected}
use Rattle.state_codec.proofs.SubjectReads.{HasSubject, MayHaveAlarm}

is_itself : (object : ObjectIdData) → is_object object object ≡ true
is_itself object = grind (arith, nat_tests)

either_way : (a b : ObjectIdData) → is_object a b ≡ is_object b a
either_way a b = grind (arith, nat_tests)

abbrev Below : ObjectIdData → ObjectIdData → Type 0
Below earlier later = identifier_order earlier later ≡ Less

all_of_map : {X Y : Type 0} (P : Y → Type 0) (f : X → Y) (xs : List X) → All P (map f xs) → All (λ x. P (f x)) xs
all_of_map P f [] h = All-nil (λ x. P (f x))
all_of_map P f (x ∷ xs) h = All-cons (λ y. P (f y)) x xs (All-head P (f x) (map f xs) h) (all_of_map P f xs (All-tail P (f x) (map f xs) h))

pairs_head : (object : ObjectIdData) (others : List ObjectIdData) → Ascends (object ∷ others) → All (Below object) others
pairs_head object others is k d within = is 0 (suc k) d (omega arith) (omega (arith, within))

pairs_tail : (object : ObjectIdData) (others : List ObjectIdData) → Ascends (object ∷ others) → Ascends others
pairs_tail object others is i j d before within = is (suc i) (suc j) d (omega (arith, before)) (omega (arith, within))

abbrev found_of : List DetectedObjectState → ObjectIdData → AlarmState
found_of alarms object = alarm_or_new (detected_object_in object alarms)

-- an alarm that a subject may have
abbrev IsToldOf : List DetectedObjectState → Subject → AlarmState → Type 0
IsToldOf all subject alarm = found_of all subject.object ≡ alarm

module _ (site : Site) where
  abbrev pub told : List Subject → List AlarmState → List DetectedObjectState
  told subjects alarms = flat_map (detected_by site) (zip subjects alarms)

  -- none of those that are above has the object
  passed_one : (object : ObjectIdData) (subject : Subject) (alarm : AlarmState) (rest : List DetectedObjectState) (there : Bool) → Below object subject.object → found_of rest object ≡ new_alarm
      → found_of (cond there (detected_with site subject alarm ∷ []) [] ++ rest) object ≡ new_alarm
  passed_one object subject alarm rest true above later =
      ap (λ (b : Bool). alarm_or_new (cond b (Some (detected_with site subject alarm)) (detected_object_in object rest))) (either_way object subject.object ∙ less_is_other object subject.object above) ∙ later
  passed_one object subject alarm rest false above later = later

  not_told : (object : ObjectIdData) (subjects : List Subject) (alarms : List AlarmState) → All (λ (s : Subject). Below object s.object) subjects → found_of (told subjects alarms) object ≡ new_alarm
  not_told object [] alarms above = refl
  not_told object (subject ∷ subjects) [] above = refl
  not_told object (subject ∷ subjects) (alarm ∷ alarms) above =
      passed_one object subject alarm (told subjects alarms) (is_detecting subject) (All-head (λ (s : Subject). Below object s.object) subject subjects above)
      (not_told object subjects alarms (All-tail (λ (s : Subject). Below object s.object) subject subjects above))

  -- of the first of all its own is found
  first_found : (subject : Subject) (alarm : AlarmState) (rest : List DetectedObjectState) (there : Bool) → is_detecting subject ≡ there → MayHave subject alarm → found_of rest subject.object ≡ new_alarm
      → found_of (cond there (detected_with site subject alarm ∷ []) [] ++ rest) subject.object ≡ alarm
  first_found subject alarm rest true is may later = ap (λ (b : Bool). alarm_or_new (cond b (Some (detected_with site subject alarm)) (detected_object_in subject.object rest))) (is_itself subject.object)
  first_found subject alarm rest false is may later = later ∙ sym (may is)

  -- of a later one the first is passed
  later_found : (subject other : Subject) (alarm own : AlarmState) (rest : List DetectedObjectState) (there : Bool) → Below subject.object other.object → IsToldOf rest other own
      → IsToldOf (cond there (detected_with site subject alarm ∷ []) [] ++ rest) other own
  later_found subject other alarm own rest true above is =
      ap (λ (b : Bool). alarm_or_new (cond b (Some (detected_with site subject alarm)) (detected_object_in other.object rest))) (less_is_other subject.object other.object above) ∙ is
  later_found subject other alarm own rest false above is = is

  all_later : (subject : Subject) (alarm : AlarmState) (rest : List DetectedObjectState) (subjects : List Subject) (alarms : List AlarmState) → All (λ (s : Subject). Below subject.object s.object) subjects
      → AllZip (IsToldOf rest) subjects alarms → AllZip (IsToldOf (cond (is_detecting subject) (detected_with site subject alarm ∷ []) [] ++ rest)) subjects alarms
  all_later subject alarm rest [] [] above are = tt
  all_later subject alarm rest [] (a ∷ alarms) above are = absurd are
  all_later subject alarm rest (s ∷ subjects) [] above are = absurd are
  all_later subject alarm rest (s ∷ subjects) (a ∷ alarms) above are = (
    later_found subject s alarm a rest (is_detecting subject) (All-head (λ (s : Subject). Below subject.object s.object) s subjects above) are.0,
    all_later subject alarm rest subjects alarms (All-tail (λ (s : Subject). Below subject.object s.object) s subjects above) are.1,
  )

  -- each is found again
  pub found_again : (subjects : List Subject) (alarms : List AlarmState) → Ascends (map object_of subjects) → AllZip MayHave subjects alarms → AllZip (IsToldOf (told subjects alarms)) subjects alarms
  found_again [] [] ascending may = tt
  found_again [] (a ∷ alarms) ascending may = absurd may
  found_again (s ∷ subjects) [] ascending may = absurd may
  found_again (s ∷ subjects) (a ∷ alarms) ascending may =
      let above : All (λ (other : Subject). Below s.object other.object) subjects = all_of_map (Below s.object) object_of subjects (pairs_head s.object (map object_of subjects) ascending) in (
        first_found s a (told subjects alarms) (is_detecting s) refl may.0 (not_told s.object subjects alarms above),
        all_later s a (told subjects alarms) subjects alarms above (found_again subjects alarms (pairs_tail s.object (map object_of subjects) ascending) may.1),
      )

  -- ---- those that are told of

  pub may_of : (rows : List Row) (last : ℕ) (subject : Subject) (alarm : AlarmState) → HasSubject rows last subject alarm → MayHave subject alarm
  may_of rows last subject alarm has off = off_of (is_detecting subject) off has
    where
      off_of : (b : Bool) → b ≡ false → MayHaveAlarm b subject.algorithm (values_in subject.object rows) last alarm → alarm ≡ new_alarm
      off_of true e is = absurd (true≢false e)
      off_of false e is = is

  module _ (state : CoreState) where
    detected_one : (subject : Subject) (alarm : AlarmState) (subjects : List Subject) (rest : List DetectedObjectState) (there : Bool)
        → MayHaveAlarm there subject.algorithm (values_in subject.object state.values.rows) state.last_moment alarm
        → AllZip (IsDetectedOf site state) subjects rest × All FitsDetected rest
        → AllZip (IsDetectedOf site state) (cond there (subject ∷ subjects) subjects) (cond there (detected_with site subject alarm ∷ []) [] ++ rest) × All FitsDetected (cond there (detected_with site subject alarm ∷ []) [] ++ rest)
    detected_one subject alarm subjects rest true has later =
        ((record { object = refl; algorithm = refl; ack_required = refl; alarm = has.own }, later.0), All-cons FitsDetected (detected_with site subject alarm) rest has.fits later.1)
    detected_one subject alarm subjects rest false has later = later

    -- those whose event detection is enabled have the alarms of the state
    pub detected_all : (subjects : List Subject) (alarms : List AlarmState) → AllZip (HasSubject state.values.rows state.last_moment) subjects alarms
        → AllZip (IsDetectedOf site state) (filter is_detecting subjects) (told subjects alarms) × All FitsDetected (told subjects alarms)
    detected_all [] [] has = (tt, All-nil FitsDetected)
    detected_all [] (a ∷ alarms) has = absurd has
    detected_all (s ∷ subjects) [] has = absurd has
    detected_all (s ∷ subjects) (a ∷ alarms) has = detected_one s a (filter is_detecting subjects) (told subjects alarms) (is_detecting s) has.0 (detected_all subjects alarms has.1)

-- those whose event detection is enabled are among those with a class
among_more : (subject : Subject) (rest done : List Subject) (listed : Bool) → has_class subject ≡ listed → filter is_detecting rest ≡ done →
    filter is_detecting (cond listed (subject ∷ rest) rest) ≡ cond (listed && subject.detection) (subject ∷ done) done
among_more subject rest done true is same =
    ap (λ b. cond (b && subject.detection) (subject ∷ filter is_detecting rest) (filter is_detecting rest)) is ∙ ap (λ ds. cond subject.detection (subject ∷ ds) ds) same
among_more subject rest done false is same = same

pub detecting_among : (subjects : List Subject) → filter is_detecting (filter has_class subjects) ≡ filter is_detecting subjects
detecting_among [] = refl
detecting_among (subject ∷ subjects) = among_more subject (filter has_class subjects) (filter is_detecting subjects) (has_class subject) refl (detecting_among subjects)
