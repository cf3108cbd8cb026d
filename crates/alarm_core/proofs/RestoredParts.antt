-- A core that is made of the parts that a state tells has that state.
use Rattle.std.proofs.Common.{◌≡◌, ◌&&◌, Bool, true, false, true≢false, cond, Some, List, [], ◌∷◌, ◌++◌, length, filter, map, refl, sym, ap, subst, ◌∙◌, arith}
use Rattle.std.specs.List.{All, AllZip, flat_map, zip}
use Rattle.std.proofs.lemmas.Bool.Decides.{nat_tests}
use Rattle.std.proofs.lemmas.List.{length-map}
use Rattle.std.proofs.lemmas.List.Elements.{All-nil, All-cons, All-head, All-tail}
use Rattle.std.proofs.lemmas.Slice.Zip.{AllZip-long}
use Rattle.std.specs.declared.cmp.Ordering.TheVariants.{Less}
use Rattle.bac_values.specs.Identifier.{ObjectIdData}
use Rattle.bac_values.specs.Orders.{identifier_order}
use Rattle.event_log.specs.declared.log_site.LogSite.{LogSite}
use Rattle.event_machine.specs.Summary.{AlarmState, new_alarm}
use Rattle.object_table.specs.Rows.{Ascends, is_object}
use Rattle.object_table.proofs.Order.{less_is_other}
use Rattle.enrollment.specs.Subjects.{is_detecting, object_of}
use Rattle.enrollment.specs.declared.subject.Subject.{Subject}
use Rattle.alarm_core.specs.declared.site.Site.{Site}
use Rattle.alarm_core.specs.Found.{alarm_in, alarm_or_new, detected_object_in}
use Rattle.alarm_core.specs.Logs.{SiteLogState, log_of}
use Rattle.alarm_core.specs.Parts.{ArePartsOf, MayHave, RestoresWhatItTells, detected_by, detected_with, kept_by, parts_of, state_of_parts}
use Rattle.alarm_core.specs.Sites.{IsSite}
use Rattle.alarm_core.specs.SiteStates.{IsDetectedOf, IsLogOf, IsStateOf}
use Rattle.alarm_core.specs.State.{CoreState, DetectedObjectState}
use Rattle.alarm_core.specs.Subjects.{alarm_subjects, detecting_subjects, has_class, subjects_of}
use Rattle.alarm_core.proofs.Agreeing.{map_agree}
use Rattle.alarm_core.proofs.RestoredCore.{all_kept, pairs_head, pairs_kept, pairs_tail}
use Rattle.alarm_core.proofs.Standing.{stands}

-- ---- identifiers

is_itself : (object : ObjectIdData) → is_object object object ≡ true
is_itself object = grind (arith, nat_tests)

either_way : (a b : ObjectIdData) → is_object a b ≡ is_object b a
either_way a b = grind (arith, nat_tests)

abbrev Below : ObjectIdData → ObjectIdData → Type 0
Below earlier later = identifier_order earlier later ≡ Less

all_of_map : {X Y : Type 0} (P : Y → Type 0) (f : X → Y) (xs : List X) → All P (map f xs) → All (λ x. P (f x)) xs
all_of_map P f [] h = All-nil (λ x. P (f x))
all_of_map P f (x ∷ xs) h = All-cons (λ y. P (f y)) x xs (All-head P (f x) (map f xs) h) (all_of_map P f xs (All-tail P (f x) (map f xs) h))

-- ---- those whose event detection is enabled are among those with a class

among_more : (subject : Subject) (rest done : List Subject) (listed : Bool) → has_class subject ≡ listed → filter is_detecting rest ≡ done →
    filter is_detecting (cond listed (subject ∷ rest) rest) ≡ cond (listed && subject.detection) (subject ∷ done) done
among_more subject rest done true is same =
    ap (λ b. cond (b && subject.detection) (subject ∷ filter is_detecting rest) (filter is_detecting rest)) is ∙ ap (λ ds. cond subject.detection (subject ∷ ds) ds) same
among_more subject rest done false is same = same

detecting_among : (subjects : List Subject) → filter is_detecting (filter has_class subjects) ≡ filter is_detecting subjects
detecting_among [] = refl
detecting_among (subject ∷ subjects) = among_more subject (filter has_class subjects) (filter is_detecting subjects) (has_class subject) refl (detecting_among subjects)

module _ (site : Site) where
  -- ---- what is told of each of them

  told_more : (f : Subject → AlarmState) (subject : Subject) (told : List DetectedObjectState) (rest : List Subject) (there : Bool) →
      told ≡ map (λ s. detected_with site s (f s)) rest →
      (cond there (detected_with site subject (f subject) ∷ []) []) ++ told ≡ map (λ s. detected_with site s (f s)) (cond there (subject ∷ rest) rest)
  told_more f subject told rest true same = ap (λ ds. detected_with site subject (f subject) ∷ ds) same
  told_more f subject told rest false same = same

  told_with : (f : Subject → AlarmState) (subjects : List Subject) →
      flat_map (detected_by site) (zip subjects (map f subjects)) ≡ map (λ s. detected_with site s (f s)) (filter is_detecting subjects)
  told_with f [] = refl
  told_with f (subject ∷ subjects) =
      told_more f subject (flat_map (detected_by site) (zip subjects (map f subjects))) (filter is_detecting subjects) (is_detecting subject) (told_with f subjects)

  -- ---- the alarm that is found of each of them is its own

  alarm_with : List DetectedObjectState → Subject → AlarmState
  alarm_with alarms subject = alarm_or_new (detected_object_in subject.object alarms)

  -- the first one isn't another's
  passed : (subject other : Subject) (d : DetectedObjectState) (ds : List DetectedObjectState) → d.object ≡ subject.object → Below subject.object other.object →
      alarm_with (d ∷ ds) other ≡ alarm_with ds other
  unfolding alarm_with
  passed subject other d ds is above =
      ap (λ b. alarm_or_new (cond b (Some d) (detected_object_in other.object ds))) (ap (is_object other.object) is ∙ less_is_other subject.object other.object above)

  passed_by_all : (subject : Subject) (subjects : List Subject) (d : DetectedObjectState) (ds : List DetectedObjectState) → d.object ≡ subject.object → All (Below subject.object) (map object_of subjects) →
      map (alarm_with (d ∷ ds)) subjects ≡ map (alarm_with ds) subjects
  passed_by_all subject subjects d ds is above =
      map_agree (λ (other : Subject). Below subject.object other.object) (alarm_with (d ∷ ds)) (alarm_with ds) (λ other h. passed subject other d ds is h) subjects
      (all_of_map (Below subject.object) object_of subjects above)

  module _ (state : CoreState) where
    told_again : (subjects : List Subject) (alarms : List DetectedObjectState) → AllZip (IsDetectedOf site state) subjects alarms → Ascends (map object_of subjects) →
        map (λ s. detected_with site s (alarm_with alarms s)) subjects ≡ alarms
    unfolding alarm_with
    told_again [] [] told ascending = refl
    told_again [] (d ∷ ds) told ascending = absurd told
    told_again (subject ∷ subjects) [] told ascending = absurd told
    told_again (subject ∷ subjects) (d ∷ ds) told ascending =
        let one = told.0 in
        let here : is_object subject.object d.object ≡ true = ap (is_object subject.object) one.object ∙ is_itself subject.object in
        let found = ap (λ b. detected_with site subject (alarm_or_new (cond b (Some d) (detected_object_in subject.object ds)))) here in
        let own : detected_with site subject d.alarm ≡ d = λ k. record { object = sym one.object k; algorithm = sym one.algorithm k; ack_required = sym one.ack_required k; alarm = d.alarm } in
        let others =
        map_agree (λ (other : Subject). Below subject.object other.object) (λ s. detected_with site s (alarm_with (d ∷ ds) s)) (λ s. detected_with site s (alarm_with ds s))
        (λ other h. ap (detected_with site other) (passed subject other d ds one.object h)) subjects
        (all_of_map (Below subject.object) object_of subjects (pairs_head Below subject.object (map object_of subjects) ascending)) in
        ap (λ x. x ∷ map (λ s. detected_with site s (alarm_with (d ∷ ds) s)) subjects) (found ∙ own)
        ∙ ap (λ xs. d ∷ xs) (others ∙ told_again subjects ds told.1 (pairs_tail Below subject.object (map object_of subjects) ascending))

    -- one below all of them isn't found
    not_there : (subject : Subject) (others : List Subject) (alarms : List DetectedObjectState) → AllZip (IsDetectedOf site state) others alarms → All (Below subject.object) (map object_of others) →
        alarm_with alarms subject ≡ new_alarm
    unfolding alarm_with
    not_there subject [] [] told above = refl
    not_there subject [] (d ∷ ds) told above = absurd told
    not_there subject (other ∷ others) [] told above = absurd told
    not_there subject (other ∷ others) (d ∷ ds) told above =
        let apart = either_way subject.object other.object ∙ less_is_other subject.object other.object (All-head (Below subject.object) other.object (map object_of others) above) in
        ap (λ b. alarm_or_new (cond b (Some d) (detected_object_in subject.object ds))) (ap (is_object subject.object) told.0.object ∙ apart)
        ∙ not_there subject others ds told.1 (All-tail (Below subject.object) other.object (map object_of others) above)

    -- one more that has its alarm, or a new one where its event detection isn't enabled
    may_more : (subject : Subject) (subjects : List Subject) (alarms : List DetectedObjectState) (there : Bool) → is_detecting subject ≡ there →
        AllZip (IsDetectedOf site state) (cond there (subject ∷ filter is_detecting subjects) (filter is_detecting subjects)) alarms →
        All (Below subject.object) (map object_of subjects) →
        ((others : List DetectedObjectState) → AllZip (IsDetectedOf site state) (filter is_detecting subjects) others → AllZip MayHave subjects (map (alarm_with others) subjects)) →
        AllZip MayHave (subject ∷ subjects) (map (alarm_with alarms) (subject ∷ subjects))
    may_more subject subjects [] true is told above rest = absurd told
    may_more subject subjects (d ∷ ds) true is told above rest =
        (λ off. absurd (true≢false (sym is ∙ off)), subst (AllZip MayHave subjects) (sym (passed_by_all subject subjects d ds told.0.object above)) (rest ds told.1))
    may_more subject subjects alarms false is told above rest =
        (λ off. not_there subject (filter is_detecting subjects) alarms told (all_kept object_of is_detecting (Below subject.object) subjects above), rest alarms told)

    may_have : (subjects : List Subject) (alarms : List DetectedObjectState) → AllZip (IsDetectedOf site state) (filter is_detecting subjects) alarms → Ascends (map object_of subjects) →
        AllZip MayHave subjects (map (alarm_with alarms) subjects)
    may_have [] alarms told ascending = tt
    may_have (subject ∷ subjects) alarms told ascending =
        may_more subject subjects alarms (is_detecting subject) refl told (pairs_head Below subject.object (map object_of subjects) ascending)
        (λ others now. may_have subjects others now (pairs_tail Below subject.object (map object_of subjects) ascending))

  -- ---- logs

  logs_again : (listed : List LogSite) (logs : List SiteLogState) → AllZip (IsLogOf site) listed logs → map kept_by (zip listed (map log_of logs)) ≡ logs
  logs_again [] [] told = refl
  logs_again [] (kept ∷ logs) told = absurd told
  logs_again (log ∷ listed) [] told = absurd told
  logs_again (log ∷ listed) (kept ∷ logs) told =
      ap (λ s. record { site = s; log = kept.log } ∷ map kept_by (zip listed (map log_of logs))) (sym told.0.same) ∙ ap (λ ks. kept ∷ ks) (logs_again listed logs told.1)

-- ---- all of it

restores_state : (site : Site) (state : CoreState) → IsSite site → IsStateOf site state → state_of_parts site (parts_of state) ≡ state
unfolding alarm_with
restores_state site state is keeps =
    let same = keeps.site_is in
    let alarm : Subject → AlarmState = λ subject. alarm_in state subject.object in
    let ascending = pairs_kept object_of is_detecting Below (subjects_of site) (stands.ascending site is) in
    let alarms : flat_map (detected_by site) (zip (alarm_subjects site) (map alarm (alarm_subjects state.site))) ≡ state.alarms =
    ap (λ s. flat_map (detected_by site) (zip (alarm_subjects site) (map alarm (alarm_subjects s)))) same
    ∙ (told_with site alarm (alarm_subjects site)
    ∙ (ap (map (λ s. detected_with site s (alarm s))) (detecting_among (subjects_of site))
    ∙ told_again site state (detecting_subjects site) state.alarms keeps.alarms ascending)) in
    let logs = logs_again site site.logs state.logs keeps.logs in
    λ k. record {
      site = sym same k;
      events = state.events;
      last_moment = state.last_moment;
      values = state.values;
      alarms = alarms k;
      classes = state.classes;
      outbox = state.outbox;
      logs = logs k;
    }

restores_parts : (site : Site) (state : CoreState) → IsSite site → IsStateOf site state → ArePartsOf site (parts_of state)
unfolding alarm_with
restores_parts site state is keeps =
    let same = keeps.site_is in
    let alarm : Subject → AlarmState = λ subject. alarm_in state subject.object in
    let subjects = alarm_subjects site in
    let told = subst (λ those. AllZip (IsDetectedOf site state) those state.alarms) (sym (detecting_among (subjects_of site))) keeps.alarms in
    let ascending = pairs_kept object_of has_class Below (subjects_of site) (stands.ascending site is) in
    let logs : length (map log_of state.logs) ≡ length state.logs = length-map state.logs log_of in
    record {
      references = refl;
      alarms = subst (λ s. AllZip MayHave subjects (map alarm (alarm_subjects s))) (sym same) (may_have site state subjects state.alarms told ascending);
      logs = logs ∙ AllZip-long (IsLogOf site) site.logs state.logs keeps.logs;
      state = subst (IsStateOf site) (sym (restores_state site state is keeps)) keeps;
    }

pub restores_what_it_tells : RestoresWhatItTells
restores_what_it_tells = record {
  parts = restores_parts;
  state = restores_state;
}
