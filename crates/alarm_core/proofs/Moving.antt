-- As many looks are made as objects move, and as a write touches.
use Rattle.std.proofs.Common.{◌≡◌, ◌≢◌, ℕ, zero, suc, ◌+◌, ◌<◌, ◌≤◌, Bool, true, false, true≢false, ◌||◌, if◌then◌else◌, Option, Some, List, [], ◌∷◌, length, filter, get_or, map, refl, ap, ◌∙◌, sym, subst, arith}
use Rattle.std.specs.List.{All}
use Rattle.std.specs.Option.{option_map}
use Rattle.std.proofs.lemmas.List.Elements.{All-head, All-tail}
use Rattle.std.proofs.lemmas.Simd.{map-map}
use Rattle.bac_values.specs.Identifier.{ObjectIdData}
use Rattle.bac_values.specs.declared.reliability.Reliability.{Reliability}
use Rattle.algorithm_rules.specs.Facts.{Facts}
use Rattle.civil_stamp.specs.LocalTime.{LocalMomentData}
use Rattle.event_machine.specs.declared.moves.Move.{Move}
use Rattle.held_timers.specs.Dues.{is_due}
use Rattle.object_table.specs.declared.change.Change.{Change}
use Rattle.object_table.specs.Rows.{is_object}
use Rattle.enrollment.specs.Laws.{IsUntouched}
use Rattle.enrollment.specs.Objects.{ObjectsState, facts_at, reliability_at, written}
use Rattle.enrollment.specs.Subjects.{is_inhibited}
use Rattle.alarm_core.specs.declared.transition.ObjectTransition.{ObjectTransition}
use Rattle.event_machine.specs.Points.{IsCourse}
use Rattle.enrollment.specs.Subjects.{is_detecting, object_of as object_of_subject}
use Rattle.enrollment.specs.declared.subject.Subject.{Subject}
use Rattle.enrollment.proofs.Parted.{same_object}
use Rattle.object_table.specs.Rows.{Ascends}
use Rattle.object_table.proofs.Order.{less_is_other}
use Rattle.alarm_core.specs.declared.event.Act.{Act}
use Rattle.alarm_core.specs.declared.event.Act.TheVariants.{Tick, Write, Ack, Pump, Answer, Edit}
use Rattle.alarm_core.specs.declared.event.Event.{Event}
use Rattle.alarm_core.specs.declared.site.Site.{Site}
use Rattle.alarm_core.specs.Allowed.{Comes, Represents}
use Rattle.alarm_core.specs.CoreSteps.{change_at, change_by, evaluated_all, transitions_by}
use Rattle.alarm_core.specs.Evaluations.{first_point, point_with, site_moment}
use Rattle.alarm_core.specs.History.{AllEvaluated, Occurrence, incidents_of, looks_of, object_transition, occurrences_of, occurrences_with, values_after}
use Rattle.alarm_core.specs.Moving.{is_any, moves_at_look, moving_of, moving_over, touched_of, touched_with}
use Rattle.alarm_core.specs.Sites.{IsSite}
use Rattle.alarm_core.specs.State.{CoreState, DetectedObjectState, alarms_of, detected_object_of}
use Rattle.alarm_core.specs.Subjects.{detecting_subjects, subjects_of}
use Rattle.alarm_core.specs.DueSteps.{AscendByObject, DueOnesMove, all_once, detections_of, due_count, due_of, due_steps, is_among, object_of, touched_by}
use Rattle.alarm_core.proofs.Courses.{HaveCourses, courses_before, have_courses}
use Rattle.alarm_core.proofs.DueCounts.{at_most_one}
use Rattle.alarm_core.proofs.Firing.{AllStand, Stands, all_stand, fires, settles}
use Rattle.alarm_core.proofs.Places.{ascend_still, below, some_ascend}
use Rattle.alarm_core.proofs.Standing.{look_stands, stands, transitions_one}
use Rattle.alarm_core.proofs.Still.{map-none}
use Rattle.alarm_core.proofs.Untouched.{alike, all_once-cons, all_once-nil, one_once-is, sees_the_same, untouched_by}

-- whether an object moves at a look, and how many do
abbrev pub does_move : LocalMomentData → ObjectsState → DetectedObjectState → Bool
does_move at values detected = is_any (transitions_by at values detected)

abbrev pub movers : LocalMomentData → ObjectsState → List DetectedObjectState → ℕ
movers at values [] = 0
movers at values (detected ∷ alarms) = (if does_move at values detected then 1 else 0) + movers at values alarms

-- how many of some objects are touched
abbrev pub touched_in : List ObjectIdData → List DetectedObjectState → ℕ
touched_in touched [] = 0
touched_in touched (detected ∷ alarms) = (if is_among touched detected.object then 1 else 0) + touched_in touched alarms

some_move : (f : Move → ObjectTransition) (moves : List Move) → moves ≢ [] → is_any (map f moves) ≡ true
some_move f [] some = absurd (some refl)
some_move f (move ∷ moves) some = refl

pub due_moves : (at : LocalMomentData) (values : ObjectsState) (detected : DetectedObjectState) → Stands values detected → is_due at.moment (due_of values detected) ≡ true → does_move at values detected ≡ true
due_moves at values detected stands due = some_move (object_transition detected.object detected.alarm.cause) (change_at at values detected).moves (fires at values detected stands due)

-- so does each that is due, after a history
due_one_moves : (at : LocalMomentData) (values : ObjectsState) (alarms : List DetectedObjectState) → AllStand values alarms → (index : ℕ) (d : DetectedObjectState) → index < length alarms →
    is_due at.moment (due_of values (get_or alarms index d)) ≡ true → transitions_by at values (get_or alarms index d) ≢ []
due_one_moves at values [] all index d within due = absurd (omega (arith, within))
due_one_moves at values (detected ∷ alarms) all zero d within due =
    λ none. fires at values detected all.0 due (map-none (object_transition detected.object detected.alarm.cause) (change_at at values detected).moves none)
due_one_moves at values (detected ∷ alarms) all (suc i) d within due = due_one_moves at values alarms all.1 i d (omega (arith, within)) due

pub due_ones_move : (at : LocalMomentData) (history : List Event) (state : CoreState) → IsSite state.site → Represents state history → DueOnesMove at state.values state.alarms
due_ones_move at history state is r =
    let site = state.site in
    subst (λ (s : CoreState). DueOnesMove at s.values s.alarms) (sym r.shows)
    (due_one_moves at (values_after site history) (alarms_of site (occurrences_of site history)) (all_stand site is history r.is_history))

-- one that counts where another does counts no less
at_least : (one other : Bool) → (one ≡ true → other ≡ true) → (if one then 1 else 0) ≤ (if other then 1 else 0)
at_least true true follows = omega arith
at_least true false follows = absurd (true≢false (sym (follows refl)))
at_least false other follows = least other
  where
    least : (b : Bool) → 0 ≤ (if b then 1 else 0)
    least true = omega arith
    least false = omega arith

pub due_movers : (at : LocalMomentData) (values : ObjectsState) (alarms : List DetectedObjectState) → AllStand values alarms → due_count at.moment (map (due_of values) alarms) ≤ movers at values alarms
due_movers at values [] all = omega arith
due_movers at values (detected ∷ alarms) all =
    let first = at_least (is_due at.moment (due_of values detected)) (does_move at values detected) (due_moves at values detected all.0) in
    let rest = due_movers at values alarms all.1 in
    omega (arith, first, rest)

-- an object that a write doesn't touch does at a look what it did
pub looked_untouched : (at : LocalMomentData) (change : Change) (values : ObjectsState) (detected : DetectedObjectState) → IsUntouched change detected.object values →
    change_at at (written change values) detected ≡ change_at at values detected
looked_untouched at change values detected untouched =
    let same = sees_the_same change detected.object values untouched in
    let point = λ (reliability : Reliability) (inhibited : Bool) (facts : Facts). record (point_with at detected.ack_required detected.object values facts) { reliability = reliability; inhibited = inhibited } in
    let look = λ (reliability : Reliability) (inhibited : Bool) (facts : Option Facts). change_by detected.algorithm (option_map (point reliability inhibited) facts) detected.alarm in
    ap (λ r. look r (is_inhibited detected.object (written change values)) (facts_at detected.object (written change values))) same.reliability
    ∙ (ap (λ b. look (reliability_at detected.object values) b (facts_at detected.object (written change values))) same.inhibited
    ∙ ap (look (reliability_at detected.object values) (is_inhibited detected.object values)) same.facts)

second_one : (is : Bool) (at : LocalMomentData) (change : Change) (values : ObjectsState) (detected : DetectedObjectState) → Stands values detected →
    is_among (touched_by change.object values) detected.object ≡ is →
    (if is_due at.moment (if is then Some 0 else due_of values detected) then 1 else 0) ≤ (if does_move at (written change values) detected then 1 else 0) + (if is then 1 else 0)
second_one true at change values detected stands is =
    let most = at_most_one (is_due at.moment (Some 0)) in
    omega (arith, most)
second_one false at change values detected stands is =
    let same = looked_untouched at change values detected (untouched_by change detected values is) in
    let follows = λ (due : is_due at.moment (due_of values detected) ≡ true).
    ap (λ c. is_any (map (object_transition detected.object detected.alarm.cause) c.moves)) same ∙ due_moves at values detected stands due in
    let first = at_least (is_due at.moment (due_of values detected)) (does_move at (written change values) detected) follows in
    omega (arith, first)

pub second_movers : (at : LocalMomentData) (change : Change) (values : ObjectsState) (alarms : List DetectedObjectState) → AllStand values alarms →
    let touched = touched_by change.object values in
    due_count at.moment (all_once touched alarms (map (due_of values) alarms)) ≤ movers at (written change values) alarms + touched_in touched alarms
second_movers at change values [] all = subst (λ (timers : List (Option ℕ)). due_count at.moment timers ≤ 0 + 0) (sym (all_once-nil (touched_by change.object values))) (omega arith)
second_movers at change values (detected ∷ alarms) all =
    let touched = touched_by change.object values in
    let due = due_of values detected in
    let dues = map (due_of values) alarms in
    let one = second_one (is_among touched detected.object) at change values detected all.0 refl in
    let rest = second_movers at change values alarms all.1 in
    let first = ap {B = ℕ} (λ (d : Option ℕ). if is_due at.moment d then 1 else 0) (one_once-is touched detected.object due) in
    let whole = ap {B = ℕ} (due_count at.moment) (all_once-cons touched detected alarms due dues) in
    omega (arith, one, rest, first, whole)

-- of alarms that ascend one at most is an object's
abbrev count_is : ObjectIdData → List DetectedObjectState → ℕ
count_is object [] = 0
count_is object (detected ∷ alarms) = (if is_object object detected.object then 1 else 0) + count_is object alarms

none_is : (object : ObjectIdData) (alarms : List DetectedObjectState) → ((k : ℕ) (d : DetectedObjectState) → k < length alarms → is_object object (get_or alarms k d).object ≡ false) → count_is object alarms ≡ 0
none_is object [] none = refl
none_is object (detected ∷ alarms) none =
    let first = ap {B = ℕ} (λ (b : Bool). if b then 1 else 0) (none 0 detected (omega arith)) in
    let rest = none_is object alarms (λ k d lt. none (suc k) d (omega (arith, lt))) in
    omega (arith, first, rest)

others_later : (object : ObjectIdData) (detected : DetectedObjectState) (alarms : List DetectedObjectState) → AscendByObject (detected ∷ alarms) → is_object object detected.object ≡ true →
    (k : ℕ) (d : DetectedObjectState) → k < length alarms → is_object object (get_or alarms k d).object ≡ false
others_later object detected alarms ascending same k d lt =
    let later = get_or alarms k d in
    ap (λ (one : ObjectIdData). is_object one later.object) (sym (same_object object detected.object same))
    ∙ (alike detected.object later.object ∙ less_is_other detected.object later.object (below (detected ∷ alarms) ascending 0 (suc k) d (omega arith) (omega (arith, lt))))

one_at_most : (object : ObjectIdData) (detected : DetectedObjectState) (alarms : List DetectedObjectState) (is : Bool) → is_object object detected.object ≡ is → (is ≡ true → count_is object alarms ≡ 0) →
    count_is object alarms ≤ 1 → count_is object (detected ∷ alarms) ≤ 1
one_at_most object detected alarms true is none rest =
    let first = ap {B = ℕ} (λ (b : Bool). if b then 1 else 0) is in
    let others = none refl in
    omega (arith, first, others)
one_at_most object detected alarms false is none rest =
    let first = ap {B = ℕ} (λ (b : Bool). if b then 1 else 0) is in
    omega (arith, first, rest)

tail_ascends : (detected : DetectedObjectState) (alarms : List DetectedObjectState) → AscendByObject (detected ∷ alarms) → AscendByObject alarms
tail_ascends detected alarms ascending = λ i j d before low. ascending (suc i) (suc j) d (omega (arith, before)) (omega (arith, low))

is_once : (object : ObjectIdData) (alarms : List DetectedObjectState) → AscendByObject alarms → count_is object alarms ≤ 1
is_once object [] ascending = omega arith
is_once object (detected ∷ alarms) ascending =
    one_at_most object detected alarms (is_object object detected.object) refl (λ same. none_is object alarms (others_later object detected alarms ascending same))
    (is_once object alarms (tail_ascends detected alarms ascending))

or_at_most : (one other : Bool) → (if one || other then 1 else 0) ≤ (if one then 1 else 0) + (if other then 1 else 0)
or_at_most true true = omega arith
or_at_most true false = omega arith
or_at_most false true = omega arith
or_at_most false false = omega arith

touched_first : (object : ObjectIdData) (touched : List ObjectIdData) (alarms : List DetectedObjectState) → touched_in (object ∷ touched) alarms ≤ count_is object alarms + touched_in touched alarms
touched_first object touched [] = omega arith
touched_first object touched (detected ∷ alarms) =
    let one : (if is_among (object ∷ touched) detected.object then 1 else 0) ≤ (if is_object object detected.object then 1 else 0) + (if is_among touched detected.object then 1 else 0) =
    or_at_most (is_object object detected.object) (is_among touched detected.object) in
    let rest = touched_first object touched alarms in
    omega (arith, one, rest)

nobody_touched : (alarms : List DetectedObjectState) → touched_in [] alarms ≡ 0
nobody_touched [] = refl
nobody_touched (detected ∷ alarms) = let rest = nobody_touched alarms in omega (arith, rest)

pub touched_few : (touched : List ObjectIdData) (alarms : List DetectedObjectState) → AscendByObject alarms → touched_in touched alarms ≤ length touched
touched_few [] alarms ascending = let none = nobody_touched alarms in omega (arith, none)
touched_few (object ∷ touched) alarms ascending =
    let one = is_once object alarms ascending in
    let first = touched_first object touched alarms in
    let rest = touched_few touched alarms ascending in
    omega (arith, one, first, rest)

-- those that move are those whose course has a move
filter_first : {X : Type 0} (test : X → Bool) (x : X) (xs : List X) (is : Bool) → test x ≡ is → length (if is then x ∷ filter test xs else filter test xs) ≡ (if is then 1 else 0) + length (filter test xs)
filter_first test x xs true is = omega arith
filter_first test x xs false is = omega arith

movers_among : (site : Site) (moment : ℕ) (values : ObjectsState) (w : List Occurrence) (subjects : List Subject) →
    All (λ subject. IsCourse (first_point site subject) (incidents_of site subject (AllEvaluated moment values ∷ w))) subjects →
    movers (site_moment site moment) values (map (detected_object_of site w) subjects) ≡ length (filter (moves_at_look site moment values w) subjects)
movers_among site moment values w [] courses = refl
movers_among site moment values w (subject ∷ subjects) courses =
    let HasCourse = λ (s : Subject). IsCourse (first_point site s) (incidents_of site s (AllEvaluated moment values ∷ w)) in
    let same = ap {B = ℕ} (λ ts. if is_any ts then 1 else 0) (transitions_one site moment values w subject (All-head HasCourse subject subjects courses)) in
    let rest = movers_among site moment values w subjects (All-tail HasCourse subject subjects courses) in
    let first = filter_first (moves_at_look site moment values w) subject subjects (moves_at_look site moment values w subject) refl in
    omega (arith, same, rest, first)

pub movers_after : (site : Site) (moment : ℕ) (values : ObjectsState) (w : List Occurrence) → HaveCourses site (AllEvaluated moment values ∷ w) →
    movers (site_moment site moment) values (alarms_of site w) ≡ length (filter (moves_at_look site moment values w) (detecting_subjects site))
movers_after site moment values w courses = movers_among site moment values w (detecting_subjects site) courses

-- the objects of a site's alarms ascend, and are those from before a look
pub alarms_ascend : (site : Site) → IsSite site → (w : List Occurrence) → AscendByObject (alarms_of site w)
alarms_ascend site is w =
    subst Ascends (sym (map-map object_of (detected_object_of site w) (detecting_subjects site))) (some_ascend object_of_subject is_detecting (subjects_of site) (stands.ascending site is))

same_objects : (at : LocalMomentData) (values : ObjectsState) (alarms : List DetectedObjectState) → map object_of (evaluated_all at values alarms) ≡ map object_of alarms
same_objects at values [] = refl
same_objects at values (detected ∷ alarms) = ap (λ objects. detected.object ∷ objects) (same_objects at values alarms)

-- so an event's looks are as many at most as the moves and what it touches
counted_by : (site : Site) (moment : ℕ) (act : Act) (values : ObjectsState) (w : List Occurrence) → HaveCourses site (occurrences_with moment act values w) → AllStand values (alarms_of site w) →
    AscendByObject (alarms_of site w) → due_steps (site_moment site moment) act (record { values = values; alarms = alarms_of site w }) ≤ moving_over site moment (looks_of act values) w + touched_with act values
counted_by site moment Tick values w courses all ascending =
    let first = due_movers (site_moment site moment) values (alarms_of site w) all in
    let moving = movers_after site moment values w courses in
    omega (arith, first, moving)
counted_by site moment (Write change) values w courses all ascending =
    let at = site_moment site moment in
    let after = written change values in
    let now = AllEvaluated moment values ∷ w in
    let touched = touched_by change.object values in
    let between = evaluated_all at values (alarms_of site w) in
    let before = courses_before site moment (after ∷ []) now courses in
    let first = due_movers at values (alarms_of site w) all in
    let moving = movers_after site moment values w before in
    let second = second_movers at change values between (settles at values (alarms_of site w)) in
    let same = ap {B = ℕ} (movers at after) (look_stands site moment values w before) in
    let moving_then = movers_after site moment after now courses in
    let few = touched_few touched between (ascend_still (alarms_of site w) between (same_objects at values (alarms_of site w)) ascending) in
    omega (arith, first, moving, second, same, moving_then, few)
counted_by site moment (Ack object transition state) values w courses all ascending = omega arith
counted_by site moment Pump values w courses all ascending = omega arith
counted_by site moment (Answer peer invoke kind) values w courses all ascending = omega arith
counted_by site moment (Edit number recipients) values w courses all ascending = omega arith

pub counted : (history : List Event) (old : CoreState) (event : Event) → Comes old.site event history → Represents old history →
    due_steps (site_moment old.site event.moment) event.act (detections_of old) ≤ moving_of old.site event history + touched_of old.site event history
counted history old event comes r =
    let site = old.site in
    let w = occurrences_of site history in
    let values = values_after site history in
    let counts = counted_by site event.moment event.act values w (have_courses site event history comes) (all_stand site comes.is_site history comes.is_history) (alarms_ascend site comes.is_site w) in
    subst (λ (s : CoreState). due_steps (site_moment site event.moment) event.act (detections_of s) ≤ moving_of site event history + touched_of site event history) (sym r.shows) counts
