-- What an edit leaves of a list is read then, and elements that were added are removed by the same parameters.
use Rattle.std.proofs.Common.{◌≡◌, ℕ, ◌<◌, get_or, ◌==◌, ◌&&◌, Bool, true, false, true≢false, if◌then◌else◌, Option, Some, None, Ok, Err, List, [], ◌∷◌, map, refl, sym, ap, ◌∙◌, subst, arith, inl, inr}
use Rattle.std.specs.List.{All, flat_map}
use Rattle.std.proofs.lemmas.Bool.{cases_Bool, eqb-true}
use Rattle.std.proofs.lemmas.Bool.Decides.{Decides-eqb}
use Rattle.bac_values.specs.Identifier.{ObjectIdData}
use Rattle.bac_values.specs.Reasons.{other_reason}
use Rattle.bac_values.specs.declared.note.Send.{Send}
use Rattle.bac_values.specs.declared.service_error.ServiceError.{ServiceError}
use Rattle.notify_class.specs.Recipients.{DestinationData}
use Rattle.notify_class.specs.declared.class.Class.{Class}
use Rattle.notify_class.specs.declared.class_site.ClassSite.{ClassSite}
use Rattle.object_table.specs.Rows.{is_object, row_of}
use Rattle.object_table.specs.declared.row.Row.{Row}
use Rattle.enrollment.specs.Enrollments.{site_of}
use Rattle.enrollment.specs.declared.enrollment_site.EnrollmentSite.{EnrollmentSite}
use Rattle.property_services.specs.declared.requests.ReadRequest.{ReadRequest}
use Rattle.property_values.specs.ClassProperties.{written_recipient}
use Rattle.bac_tags.proofs.Standing.{IsBytes}
use Rattle.notify_class.specs.declared.binding.Binding.{Binding}
use Rattle.list_binding.specs.Edits.{EditAnswer, EditsTo, LimitsData, ReadsAs, are_same, is_in, list_with, list_without}
use Rattle.list_binding.specs.EditSteps.{destinations_of, edit_of}
use Rattle.list_binding.specs.Requests.{ListAsked}
use Rattle.list_binding.proofs.EditLaws.{edits_only, edits_told}
use Rattle.list_binding.proofs.Readings.{reads_only}
use Rattle.list_binding.proofs.SameLists.{same_decides}
use Rattle.alarm_core.specs.Allowed.{Comes, IsHistory, Represents}
use Rattle.alarm_core.specs.Classes.{class_in, edited}
use Rattle.alarm_core.specs.CoreSteps.{next_state}
use Rattle.alarm_core.specs.Devices.{class_object, device_object, listed_class}
use Rattle.alarm_core.specs.History.{raised}
use Rattle.alarm_core.specs.LastLists.{last_list}
use Rattle.alarm_core.specs.Logs.{SiteLogState, kept_log}
use Rattle.alarm_core.specs.Reading.{read_of}
use Rattle.alarm_core.specs.Sites.{IsSite}
use Rattle.alarm_core.specs.State.{CoreState, state_of}
use Rattle.alarm_core.specs.declared.event.Event.{Event}
use Rattle.alarm_core.specs.declared.site.Site.{Site}
use Rattle.alarm_core.specs.Verdicts.{step_verdict}
use Rattle.alarm_core.proofs.LastLists.{reads_the_last_list}
use Rattle.alarm_core.proofs.Searches.{passes as found_passes}
use Rattle.alarm_core.proofs.Standing.{stands}
use Rattle.service_desk.specs.Answers.{Entered, answer_of}
use Rattle.service_desk.specs.Requesters.{RequesterData, requester_of}
use Rattle.service_desk.specs.ListDecisions.{answer_unless, class_answer, edit_at, edited_decision, limits_in, list_answer, list_in, property_error, property_verdict}
use Rattle.service_desk.specs.Replies.{abort, simple_ack}
use Rattle.service_desk.specs.declared.decision.Decision.TheVariants.{Enter, Reply}
use Rattle.profile_laws.specs.ErrorTables.{decision_for}
use Rattle.profile_laws.specs.ListBack.{AsksForList, IsEditEntered, ReadsBackEdits, UndoesWhatWasAdded}
use Rattle.profile_laws.specs.ListErrors.{editing_service}
use Rattle.profile_laws.specs.PropertyErrors.{is_indexed_without_array, size_in}
use Rattle.profile_laws.specs.PropertyTables.{properties_by, property_in}
use Rattle.profile_laws.specs.ReadBack.{IsReadAs}
use Rattle.profile_laws.proofs.AddedLists.{are_added, as_before, each_found}
use Rattle.profile_laws.proofs.InTurn.{bytes}
use Rattle.profile_laws.proofs.ListTables.{IsThere, decided_is, element_bytes, errors_say, is_there}
use Rattle.profile_laws.proofs.ReadingBack.{entered_is, read_as}

abbrev Many : Type 0
Many = List DestinationData

-- ---- an edit that is entered

-- the list that it leaves, which is another one, and the event that it is
record Edits (state : CoreState) (adding : Bool) (asked : ListAsked) (event : Event) : Type 0 where
  left : Many
  moment : ℕ
  answer : list_answer state adding asked ≡ Ok left
  other : are_same left (list_in state asked.object.instance) ≡ false
  event_is : raised state.last_moment (edit_at moment asked.object.instance left) ≡ event

module _ (state : CoreState) (moment : ℕ) (requester : RequesterData) (adding : Bool) (asked : ListAsked) (event : Event) (acknowledgement : Option Send) where
  by_same : (left : Many) (same : Bool) → list_answer state adding asked ≡ Ok left → are_same left (list_in state asked.object.instance) ≡ same →
      answer_of state (if same then Reply (simple_ack requester) else Enter (edit_at moment asked.object.instance left) (Some (simple_ack requester)) (Some (abort requester other_reason))) ≡ Entered event acknowledgement →
      Edits state adding asked event
  by_same left true e s h = absurd cc
  by_same left false e s h =
      let happened = raised state.last_moment (edit_at moment asked.object.instance left) in
      record { left = left; moment = moment; answer = e; other = s; event_is = entered_is happened event (Some (simple_ack requester)) (Some (abort requester other_reason)) acknowledgement (step_verdict happened state) h }

  by_answer : (answer : EditAnswer) → list_answer state adding asked ≡ answer →
      answer_of state (edited_decision moment requester asked.object.instance (list_in state asked.object.instance) answer) ≡ Entered event acknowledgement → Edits state adding asked event
  by_answer (Err refused) e h = absurd cc
  by_answer (Ok left) e h = by_same left (are_same left (list_in state asked.object.instance)) e refl h

edits : (state : CoreState) (adding : Bool) (asked : ListAsked) (event : Event) → IsEditEntered state adding asked event → Edits state adding asked event
edits state adding asked event w =
    by_answer state w.moment (requester_of w.asker.peer w.asker.max_apdu w.asker.invoke (editing_service adding)) adding asked event w.acknowledgement (list_answer state adding asked) refl
    (sym (ap (answer_of state) (decided_is state w.moment w.asker adding w.parameters asked w.octets w.spelled)) ∙ w.entered)

none_first : (state : CoreState) (adding : Bool) (asked : ListAsked) (left : Many) (error : Option ServiceError) → answer_unless state asked.object.instance adding asked.elements error ≡ Ok left → error ≡ None
none_first state adding asked left None e = refl
none_first state adding asked left (Some error) e = absurd cc

some_is : {X : Type 0} (x y : X) → Some x ≡ Some y → x ≡ y
some_is x y e = cc

ok_is : (x y : Many) (f : EditAnswer) → f ≡ Ok x → f ≡ Ok y → x ≡ y
ok_is x y f e h = cc

both : (a b : Bool) → (a && b) ≡ true → (a ≡ true) × (b ≡ true)
both true b e = (refl, e)
both false b e = absurd cc

-- ---- a Recipient_List is no array

size_by : (site : Site) (object : ObjectIdData) (device : Bool) (listed : Option ClassSite) (enrollment : Option EnrollmentSite) (row : Option Row) (kept : Option SiteLogState) →
    is_object object (device_object site) ≡ device → listed_class object site.classes ≡ listed → size_in (property_in 102 (properties_by site object enrollment row kept)) ≡ None
size_by site object device listed (Some enrollment) row kept d l = refl
size_by site object device listed None (Some row) kept d l = refl
size_by site object device listed None None (Some kept) d l = refl
size_by site object true listed None None None d l = rw d refl
size_by site object false None None None None d l = rw (d, l) refl
size_by site object false (Some one) None None None d l = rw (d, l) refl

no_index : (size index : Option ℕ) → is_indexed_without_array size index ≡ false → size ≡ None → index ≡ None
no_index size None e s = refl
no_index None (Some index) e s = absurd cc
no_index (Some size) (Some index) e s = absurd cc

-- ---- the list behind it

edited_there : (number : ℕ) (left : Many) (classes : List Class) (class : Class) → class_in number classes ≡ Some class → class_in number (map (edited number left) classes) ≡ Some (record class { destinations = left })
edited_there number left [] class e = absurd cc
edited_there number left (one ∷ classes) class e =
    elim (cases_Bool (one.instance == number)) [
      | inl here ↦
          let same : one ≡ class = some_is one class (rw here at e) in
          rw here (rw here (ap (λ (c : Class). Some (record c { destinations = left })) same))
      | inr other ↦ rw other (rw other (edited_there number left classes class (rw other at e)))
    ]

module _ (site : Site) (is : IsSite site) (history : List Event) (h : IsHistory site history) (adding : Bool) (asked : ListAsked) (event : Event) (w : IsEditEntered (state_of site history) adding asked event)
    (class : Class) (there : class_in asked.object.instance (state_of site history).classes ≡ Some class) where
  abbrev state : CoreState
  state = state_of site history

  abbrev number : ℕ
  number = asked.object.instance

  represents : Represents state history
  represents = record { is_history = h; shows = refl }

  made : Edits state adding asked event
  made = edits state adding asked event w

  elements_are : (i : ℕ) → get_or asked.elements i 0 < 256
  elements_are = element_bytes w.parameters asked (bytes w.parameters w.octets) w.spelled

  first_is : property_error state asked.object asked.property asked.index ≡ None
  first_is = none_first state adding asked made.left (property_error state asked.object asked.property asked.index) made.answer

  placed : IsThere state asked
  placed = is_there state history represents asked (errors_say state history represents asked ∙ first_is)

  -- what the edit of the list comes to
  abbrev all : EditAnswer
  all = edit_of (limits_in state number) site.bindings class.destinations adding asked.elements

  all_is : all ≡ Ok made.left
  all_is =
      sym (ap (λ (p : Option ServiceError). answer_unless state number adding asked.elements p) first_is ∙ ap (class_answer state number adding asked.elements) there) ∙ made.answer

  left_is : (left : Many) → EditsTo (limits_in state number) site.bindings class.destinations adding asked.elements (Ok left) → left ≡ made.left
  left_is left e = ok_is left made.left all (sym (edits_only (limits_in state number) site.bindings class.destinations adding asked.elements elements_are (Ok left) e)) all_is

  list_is : list_in state number ≡ class.destinations
  list_is = rw there refl

  abbrev happened : Event
  happened = raised state.last_moment (edit_at made.moment number made.left)

  comes : Comes site happened history
  comes = record { is_site = is; is_history = h; not_before = omega arith }

  abbrev behind : CoreState
  behind = state_of site (happened ∷ history)

  next_is : next_state event state ≡ behind
  next_is = sym (ap (λ (e : Event). next_state e state) made.event_is) ∙ stands.state site happened history comes

  listed_number : placed.listed.class.instance ≡ number
  listed_number =
      let passes = found_passes (λ (one : ClassSite). is_object asked.object (class_object one)) placed.listed site.classes placed.found in
      eqb-true placed.listed.class.instance number (both _ _ passes).1

  same_number : (placed.listed.class.instance == number) ≡ true
  same_number = subst (λ (n : ℕ). (n == number) ≡ true) (sym listed_number) (number_itself number)
    where
      number_itself : (n : ℕ) → (n == n) ≡ true
      number_itself n = (Decides-eqb n n).1 refl

  read_then : read_of behind asked.object 102 None ≡ Ok (flat_map written_recipient made.left)
  read_then =
      reads_the_last_list.lists site is (happened ∷ history) asked.object placed.listed placed.found
      ∙ ap (λ (same : Bool). Ok (flat_map written_recipient (if same then made.left else last_list placed.listed history))) same_number

  same_read : (o : ObjectIdData) (n : ℕ) (i : Option ℕ) → o ≡ asked.object → n ≡ 102 → i ≡ None → read_of behind o n i ≡ read_of behind asked.object 102 None
  same_read o n i a b c = ap (λ (x : ObjectIdData). read_of behind x n i) a ∙ (ap (λ (x : ℕ). read_of behind asked.object x i) b ∙ ap (λ (x : Option ℕ). read_of behind asked.object 102 x) c)

  back : (left : Many) → EditsTo (limits_in state number) site.bindings class.destinations adding asked.elements (Ok left) → (reference : ReadRequest) → AsksForList asked reference →
      IsReadAs (next_state event state) reference (flat_map written_recipient left)
  back left e reference asks =
      let read = same_read reference.object reference.property.0 reference.index asks.0 asks.1 asks.2 ∙ (read_then ∙ ap (λ (l : Many). Ok (flat_map written_recipient l)) (sym (left_is left e))) in
      subst (λ (s : CoreState). IsReadAs s reference (flat_map written_recipient left)) (sym next_is) (read_as behind reference (flat_map written_recipient left) read)

  -- ---- behind it the same object and property have no error

  index_is : asked.index ≡ None
  index_is =
      let rules = λ (n : ℕ). size_in (property_in n (properties_by site asked.object (site_of asked.object state.values.enrollments) (row_of asked.object state.values.rows) (kept_log asked.object state.logs))) in
      let size : rules asked.property ≡ None = ap rules placed.recipients
      ∙ size_by site asked.object (is_object asked.object (device_object site)) (listed_class asked.object site.classes) (site_of asked.object state.values.enrollments) (row_of asked.object state.values.rows) (kept_log asked.object state.logs) refl refl in
      no_index (rules asked.property) asked.index placed.plain size

  no_error_then : property_error behind asked.object asked.property asked.index ≡ None
  no_error_then =
      ap (λ (n : ℕ). property_error behind asked.object n asked.index) placed.recipients
      ∙ (ap (λ (i : Option ℕ). property_error behind asked.object 102 i) index_is ∙ ap (property_verdict asked.object 102) read_then)

  class_then : class_in number behind.classes ≡ Some (record class { destinations = made.left })
  class_then = edited_there number made.left state.classes class there

  list_then : list_in behind number ≡ made.left
  list_then = rw class_then refl

  answer_then : list_answer behind false asked ≡ edit_of (limits_in behind number) site.bindings made.left false asked.elements
  answer_then =
      ap (λ (p : Option ServiceError). answer_unless behind number false asked.elements p) no_error_then ∙ ap (class_answer behind number false asked.elements) class_then

  removed : (elements : Many) → ReadsAs site.bindings asked.elements (Ok elements) → made.left ≡ list_with class.destinations elements → All (λ element. is_in class.destinations element ≡ false) elements →
      edit_of (limits_in behind number) site.bindings made.left false asked.elements ≡ Ok class.destinations
  removed elements read added new =
      let found = subst (λ (l : Many). All (λ element. is_in l element ≡ true) elements) (sym added) (are_added elements class.destinations) in
      let left : class.destinations ≡ list_without made.left elements = sym (ap (λ (l : Many). list_without l elements) added ∙ as_before elements class.destinations new) in
      sym (edits_only (limits_in behind number) site.bindings made.left false asked.elements elements_are (Ok class.destinations) (inr (elements, read, (left, each_found made.left elements found))))

  other_then : are_same class.destinations made.left ≡ false
  other_then =
      elim (cases_Bool (are_same class.destinations made.left)) [
        | inl same ↦
            let equal = (same_decides class.destinations made.left).0 same in
            let turned : are_same made.left (list_in state number) ≡ true = (same_decides made.left (list_in state number)).1 (sym equal ∙ sym list_is) in
            absurd (true≢false (sym turned ∙ made.other))
        | inr differs ↦ differs
      ]

pub reads_back_edits : ReadsBackEdits
reads_back_edits site is history h adding asked event w class there left e reference asks = back site is history h adding asked event w class there left e reference asks

-- adding leaves the list with the elements
added_is : (limits : LimitsData) (bindings : List Binding) (list left elements : Many) (octets : List ℕ) → IsBytes octets → ReadsAs bindings octets (Ok elements) → edit_of limits bindings list true octets ≡ Ok left → left ≡ list_with list elements
added_is limits bindings list left elements octets are read e =
    by_told (subst (EditsTo limits bindings list true octets) e (edits_told limits bindings list true octets are))
  where
    same_elements : (others : Many) → ReadsAs bindings octets (Ok others) → others ≡ elements
    same_elements others there = ok_is others elements (destinations_of bindings octets) (sym (reads_only bindings octets are (Ok others) there)) (sym (reads_only bindings octets are (Ok elements) read))

    by_told : EditsTo limits bindings list true octets (Ok left) → left ≡ list_with list elements
    by_told (inl (refused, wrong, told)) = absurd cc
    by_told (inr (others, there, told)) = told.0 ∙ ap (list_with list) (same_elements others there)

pub undoes_what_was_added : UndoesWhatWasAdded
undoes_what_was_added site is history h asked event w class there elements read new moment asker parameters octets spelled =
    let behind = behind site is history h true asked event w class there in
    let left = (made site is history h true asked event w class there).left in
    let requester = requester_of asker.peer asker.max_apdu asker.invoke (editing_service false) in
    let number = asked.object.instance in
    let added = added_is (limits_in (state_of site history) number) site.bindings class.destinations left elements asked.elements (elements_are site is history h true asked event w class there) read (all_is site is history h true asked event w class there) in
    let answer = answer_then site is history h true asked event w class there ∙ removed site is history h true asked event w class there elements read added new in
    ap (λ (s : CoreState). decision_for s moment asker (editing_service false) parameters) (next_is site is history h true asked event w class there)
    ∙ (decided_is behind moment asker false parameters asked octets spelled
    ∙ (ap (λ (l : Many). edited_decision moment requester number l (list_answer behind false asked)) (list_then site is history h true asked event w class there)
    ∙ (ap (edited_decision moment requester number left) answer
    ∙ ap (λ (same : Bool). if same then Reply (simple_ack requester) else Enter (edit_at moment number class.destinations) (Some (simple_ack requester)) (Some (abort requester other_reason))) (other_then site is history h true asked event w class there))))
