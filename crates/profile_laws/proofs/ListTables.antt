-- An edit of a list is answered with the first error of its object and its property, and else by its elements.
use Rattle.std.proofs.Common.{◌≡◌, ℕ, zero, suc, ◌==◌, ◌&&◌, ◌||◌, Bool, true, false, true≢false, not, if◌then◌else◌, Option, Some, None, Result, Ok, Err, List, [], ◌∷◌, ◌++◌, map, refl, sym, ap, ◌∙◌, subst, arith, inl, inr}
use Rattle.std.specs.List.{list_any}
use Rattle.std.proofs.lemmas.Bool.{cases_Bool, eqb-true, le-ltb}
use Rattle.bac_values.specs.Errors.{invalid_array_index_error, property_is_not_a_list_error, property_is_not_an_array_error, unknown_object_error, unknown_property_error, write_access_denied_error}
use Rattle.bac_values.specs.Identifier.{ObjectIdData}
use Rattle.bac_values.specs.declared.service_error.ServiceError.{ServiceError}
use Rattle.bac_tags.proofs.Standing.{IsBytes}
use Rattle.bac_tags.specs.declared.malformed.Malformed.{Malformed}
use Rattle.notify_class.specs.Recipients.{DestinationData}
use Rattle.notify_class.specs.declared.class.Class.{Class}
use Rattle.notify_class.specs.declared.class_site.ClassSite.{ClassSite}
use Rattle.object_table.specs.Rows.{is_object, row_of}
use Rattle.object_table.specs.declared.row.Row.{Row}
use Rattle.enrollment.specs.Enrollments.{site_of}
use Rattle.enrollment.specs.declared.enrollment_site.EnrollmentSite.{EnrollmentSite}
use Rattle.property_values.specs.declared.content.ReadFault.{ReadFault}
use Rattle.list_binding.specs.Edits.{EditAnswer, are_same}
use Rattle.list_binding.specs.EditSteps.{edit_of}
use Rattle.list_binding.specs.Requests.{ListAsked, SpellsListRequest}
use Rattle.list_binding.specs.RequestSteps.{list_request_of}
use Rattle.list_binding.proofs.EditLaws.{edits_only}
use Rattle.list_binding.proofs.Listing.{list_request_answers}
use Rattle.alarm_core.specs.Allowed.{Represents}
use Rattle.alarm_core.specs.Classes.{class_in}
use Rattle.alarm_core.specs.Devices.{class_object, device_object, identifiers_of, listed_class}
use Rattle.alarm_core.specs.ListLimits.{instances}
use Rattle.alarm_core.specs.Logs.{SiteLogState, kept_log}
use Rattle.alarm_core.specs.Reading.{read_of}
use Rattle.alarm_core.specs.Sites.{instance_of}
use Rattle.alarm_core.specs.State.{CoreState}
use Rattle.alarm_core.specs.declared.event.Event.{Event}
use Rattle.alarm_core.specs.declared.site.Site.{Site}
use Rattle.alarm_core.proofs.KeptClasses.{instances_after}
use Rattle.service_desk.specs.Requesters.{requester_of}
use Rattle.bac_values.specs.Reasons.{other_reason}
use Rattle.service_desk.specs.declared.decision.Decision.{Decision}
use Rattle.service_desk.specs.declared.decision.Decision.TheVariants.{Enter, Reply}
use Rattle.service_desk.specs.Replies.{abort, simple_ack}
use Rattle.service_desk.specs.ListDecisions.{any_index, answer_unless, class_answer, edit_at, edited_decision, is_list_of_values, limits_in, list_answer, list_in, list_verdict, list_with, property_error, property_verdict}
use Rattle.profile_laws.specs.ErrorTables.{AreOctets, Asker, HasNoError, decision_for, first_error}
use Rattle.profile_laws.specs.Laws.{AnswersListsInTurn}
use Rattle.profile_laws.specs.ListErrors.{IsAnsweredAs, IsListAnswered, editing_service, is_no_list, list_errors}
use Rattle.profile_laws.specs.PropertyErrors.{is_indexed_without_array, is_unknown_property, size_in}
use Rattle.profile_laws.specs.PropertyTables.{PropertyRow, properties_by, property_in, property_of}
use Rattle.profile_laws.proofs.InTurn.{bytes, identified}
use Rattle.profile_laws.proofs.NoErrors.{abort_is_none, simple_ack_is_none}
use Rattle.profile_laws.proofs.ReadTables.{ReadSays, first_of, read_says}
use Rattle.profile_laws.proofs.Tests.{Table, index_rows}

-- ---- the errors of the object and of the property

abbrev list_rows : Bool → Bool → Table
list_rows none values = (none, property_is_not_a_list_error) ∷ (values, write_access_denied_error) ∷ []

abbrev property_rows : Option PropertyRow → Option ℕ → Table → Table
property_rows rules index later = (is_unknown_property rules, unknown_property_error) ∷ (is_indexed_without_array (size_in rules) index, property_is_not_an_array_error) ∷ later

verdict_by : (recipients values : Bool) → (recipients ≡ true → values ≡ false) →
    first_error (list_rows (not (recipients || values)) values) ≡ (if recipients then None else (if values then Some write_access_denied_error else Some property_is_not_a_list_error))
verdict_by true true apart = absurd (true≢false (apart refl))
verdict_by true false apart = refl
verdict_by false true apart = refl
verdict_by false false apart = refl

and_false : (b : Bool) → (b && false) ≡ false
and_false true = refl
and_false false = refl

no_values : (object : ObjectIdData) (number : ℕ) → (number == 102) ≡ true → is_list_of_values object number ≡ false
no_values object number e = ap (is_list_of_values object) (eqb-true number 102 e) ∙ and_false (object.number == 19)

verdict_says : (object : ObjectIdData) (number : ℕ) → first_error (list_rows (is_no_list object number) (is_list_of_values object number)) ≡ list_verdict object number
verdict_says object number = verdict_by (number == 102) (is_list_of_values object number) (no_values object number)

module _ (object : ObjectIdData) (number : ℕ) (answer : Result (List ℕ) ReadFault) where
  abbrev rows : Table
  rows = list_rows (is_no_list object number) (is_list_of_values object number)

  by_octets : (octets : List ℕ) × (answer ≡ Ok octets) → first_error rows ≡ property_verdict object number answer
  by_octets h = verdict_says object number ∙ sym (ap (property_verdict object number) h.1)

  by_size : (size index : Option ℕ) → ReadSays (first_error (index_rows size (any_index index) [])) answer →
      first_error ((is_indexed_without_array size index, property_is_not_an_array_error) ∷ rows) ≡ property_verdict object number answer
  by_size None None h = by_octets h
  by_size (Some size) None h = by_octets h
  by_size None (Some index) h = sym (ap (property_verdict object number) h)
  by_size (Some size) (Some index) h = by_octets (subst (λ (b : Bool). ReadSays (if b then Some invalid_array_index_error else None) answer) (le-ltb size 0 (omega arith)) h)

  by_rules : (rules : Option PropertyRow) (index : Option ℕ) → ReadSays (first_of false rules (any_index index)) answer → first_error (property_rows rules index rows) ≡ property_verdict object number answer
  by_rules None index h = sym (ap (property_verdict object number) h)
  by_rules (Some rules) index h = by_size rules.size index h

  by_known : (unknown : Bool) (rules : Option PropertyRow) (index : Option ℕ) → ReadSays (first_of unknown rules (any_index index)) answer →
      first_error ((unknown, unknown_object_error) ∷ property_rows rules index rows) ≡ property_verdict object number answer
  by_known true rules index h = sym (ap (property_verdict object number) h)
  by_known false rules index h = by_rules rules index h

pub errors_say : (state : CoreState) (history : List Event) → Represents state history → (asked : ListAsked) → first_error (list_errors state asked) ≡ property_error state asked.object asked.property asked.index
errors_say state history represents asked =
    let is = identified state history represents asked.object in
    let known = list_any (is_object asked.object) (identifiers_of state.site) in
    let says = read_says state asked.object asked.property (any_index asked.index) (site_of asked.object state.values.enrollments) (row_of asked.object state.values.rows) (kept_log asked.object state.logs) known is.stamps is.known is.other in
    by_known asked.object asked.property (read_of state asked.object asked.property (any_index asked.index)) (not known) (property_of state asked.object asked.property) asked.index says

-- ---- the class is there

-- none of the five conditions holds: the property is there, and it is Recipient_List
record Passes (rules : Option PropertyRow) (index : Option ℕ) (object : ObjectIdData) (number : ℕ) : Type 0 where
  there : is_unknown_property rules ≡ false
  plain : is_indexed_without_array (size_in rules) index ≡ false
  recipients : number ≡ 102

no_row : (test : Bool) (error : ServiceError) (later : Table) → first_error ((test, error) ∷ later) ≡ None → (test ≡ false) × (first_error later ≡ None)
no_row true error later e = absurd cc
no_row false error later e = (refl, e)

either_false : (recipients values : Bool) → not (recipients || values) ≡ false → values ≡ false → recipients ≡ true
either_false true values e f = refl
either_false false true e f = absurd cc
either_false false false e f = absurd cc

passes : (unknown : Bool) (rules : Option PropertyRow) (index : Option ℕ) (object : ObjectIdData) (number : ℕ) →
    first_error ((unknown, unknown_object_error) ∷ property_rows rules index (list_rows (is_no_list object number) (is_list_of_values object number))) ≡ None → Passes rules index object number
passes unknown rules index object number e =
    let known = no_row unknown unknown_object_error (property_rows rules index (list_rows (is_no_list object number) (is_list_of_values object number))) e in
    let there = no_row (is_unknown_property rules) unknown_property_error ((is_indexed_without_array (size_in rules) index, property_is_not_an_array_error) ∷ list_rows (is_no_list object number) (is_list_of_values object number)) known.1 in
    let plain = no_row (is_indexed_without_array (size_in rules) index) property_is_not_an_array_error (list_rows (is_no_list object number) (is_list_of_values object number)) there.1 in
    let list = no_row (is_no_list object number) property_is_not_a_list_error ((is_list_of_values object number, write_access_denied_error) ∷ []) plain.1 in
    let values = no_row (is_list_of_values object number) write_access_denied_error [] list.1 in
    record { there = there.0; plain = plain.0; recipients = eqb-true number 102 (either_false (number == 102) (is_list_of_values object number) list.0 values.0) }

-- a class alone has a Recipient_List
listed_by : (site : Site) (object : ObjectIdData) (device : Bool) (listed : Option ClassSite) (enrollment : Option EnrollmentSite) (row : Option Row) (kept : Option SiteLogState) →
    is_object object (device_object site) ≡ device → listed_class object site.classes ≡ listed → is_unknown_property (property_in 102 (properties_by site object enrollment row kept)) ≡ false → (one : ClassSite) × (listed ≡ Some one)
listed_by site object device listed (Some enrollment) row kept d l e = absurd cc
listed_by site object device listed None (Some row) kept d l e = absurd cc
listed_by site object device listed None None (Some kept) d l e = absurd cc
listed_by site object true listed None None None d l e = absurd (let bad = rw d at e in cc)
listed_by site object false None None None None d l e = absurd (let bad = rw (d, l) at e in cc)
listed_by site object false (Some one) None None None d l e = (one, refl)

some_is : {X : Type 0} (x y : X) → Some x ≡ Some y → x ≡ y
some_is x y e = cc

both : (a b : Bool) → (a && b) ≡ true → (a ≡ true) × (b ≡ true)
both true b e = (refl, e)
both false b e = absurd cc

head_is : (x y : ℕ) (xs ys : List ℕ) → x ∷ xs ≡ y ∷ ys → x ≡ y
head_is x y xs ys e = cc

tail_is : (x y : ℕ) (xs ys : List ℕ) → x ∷ xs ≡ y ∷ ys → xs ≡ ys
tail_is x y xs ys e = cc

next_class : (number : ℕ) (class : Class) (classes : List Class) → (class.instance == number) ≡ false → class_in number (class ∷ classes) ≡ class_in number classes
next_class number class classes e = rw e refl

-- classes with the instances of the site's have one for each of these
class_there : (object : ObjectIdData) (sites : List ClassSite) (classes : List Class) (listed : ClassSite) → instances classes ≡ map instance_of sites → listed_class object sites ≡ Some listed →
    (class : Class) × (class_in object.instance classes ≡ Some class)
class_there object [] classes listed same e = absurd cc
class_there object (one ∷ sites) [] listed same e = absurd cc
class_there object (one ∷ sites) (class ∷ classes) listed same e =
    elim (cases_Bool (class.instance == object.instance)) [
      | inl here ↦ (class, rw here refl)
      | inr other ↦
          let equal : class.instance ≡ one.class.instance = head_is class.instance one.class.instance (instances classes) (map instance_of sites) same in
          let not_one : is_object object (class_object one) ≡ false = elsewhere (is_object object (class_object one)) refl (sym (ap (λ (n : ℕ). n == object.instance) equal) ∙ other) in
          let later = class_there object sites classes listed (tail_is class.instance one.class.instance (instances classes) (map instance_of sites) same) (rw not_one at e) in
          (later.0, next_class object.instance class classes other ∙ later.1)
    ]
  where
    elsewhere : (b : Bool) → is_object object (class_object one) ≡ b → (one.class.instance == object.instance) ≡ false → b ≡ false
    elsewhere true same differs = absurd (true≢false (sym (both _ _ same).1 ∙ differs))
    elsewhere false same differs = refl

pub record IsThere (state : CoreState) (asked : ListAsked) : Type 0 where
  pub listed : ClassSite
  pub found : listed_class asked.object state.site.classes ≡ Some listed
  pub class : Class
  pub there : class_in asked.object.instance state.classes ≡ Some class
  pub recipients : asked.property ≡ 102
  pub plain : is_indexed_without_array (size_in (property_of state asked.object asked.property)) asked.index ≡ false

pub is_there : (state : CoreState) (history : List Event) → Represents state history → (asked : ListAsked) → first_error (list_errors state asked) ≡ None → IsThere state asked
is_there state history represents asked none =
    let p = passes (not (list_any (is_object asked.object) (identifiers_of state.site))) (property_of state asked.object asked.property) asked.index asked.object asked.property none in
    let table = λ (number : ℕ). property_in number (properties_by state.site asked.object (site_of asked.object state.values.enrollments) (row_of asked.object state.values.rows) (kept_log asked.object state.logs)) in
    let known : is_unknown_property (table 102) ≡ false = subst (λ (n : ℕ). is_unknown_property (table n) ≡ false) p.recipients p.there in
    let listed = listed_by state.site asked.object (is_object asked.object (device_object state.site)) (listed_class asked.object state.site.classes) (site_of asked.object state.values.enrollments) (row_of asked.object state.values.rows) (kept_log asked.object state.logs) refl refl known in
    let same : instances state.classes ≡ map instance_of state.site.classes = ap (λ (s : CoreState). instances s.classes) represents.shows ∙ instances_after state.site history in
    let class = class_there asked.object state.site.classes state.classes listed.0 same listed.1 in
    record { listed = listed.0; found = listed.1; class = class.0; there = class.1; recipients = p.recipients; plain = p.plain }

-- ---- the octets of the elements

bytes_front : (a b : List ℕ) → IsBytes (a ++ b) → IsBytes a
bytes_front [] b h i = omega arith
bytes_front (x ∷ a) b h zero = h zero
bytes_front (x ∷ a) b h (suc i) = bytes_front a b (λ j. h (suc j)) i

bytes_back : (a b : List ℕ) → IsBytes (a ++ b) → IsBytes b
bytes_back [] b h = h
bytes_back (x ∷ a) b h = bytes_back a b (λ j. h (suc j))

pub element_bytes : (parameters : List ℕ) (asked : ListAsked) → IsBytes parameters → SpellsListRequest parameters asked → IsBytes asked.elements
element_bytes parameters asked are s =
    let e = s.elements in
    let all : IsBytes (s.object_octets ++ (s.property_octets ++ (s.index_octets ++ s.element_octets))) = subst IsBytes s.parts are in
    let behind = bytes_back s.index_octets s.element_octets (bytes_back s.property_octets (s.index_octets ++ s.element_octets) (bytes_back s.object_octets (s.property_octets ++ (s.index_octets ++ s.element_octets)) all)) in
    let enclosed : IsBytes (e.front ++ (e.inside ++ e.back)) = subst IsBytes e.parts behind in
    subst IsBytes (sym e.spelled.0) (bytes_front e.inside e.back (bytes_back e.front (e.inside ++ e.back) enclosed))

-- ---- the answer

module _ (state : CoreState) (moment : ℕ) (asker : Asker) (adding : Bool) (asked : ListAsked) where
  abbrev service : ℕ
  service = editing_service adding

  no_error_by : (number : ℕ) (left : List DestinationData) (same : Bool) →
      HasNoError asker service (if same then Reply (simple_ack (requester_of asker.peer asker.max_apdu asker.invoke service)) else Enter (edit_at moment number left) (Some (simple_ack (requester_of asker.peer asker.max_apdu asker.invoke service))) (Some (abort (requester_of asker.peer asker.max_apdu asker.invoke service) other_reason)))
  no_error_by number left true = simple_ack_is_none asker service
  no_error_by number left false = (simple_ack_is_none asker service, abort_is_none asker service 0)

  answered_as : (number : ℕ) (list : List DestinationData) (answer : EditAnswer) → IsAnsweredAs asker service answer (edited_decision moment (requester_of asker.peer asker.max_apdu asker.invoke service) number list answer)
  answered_as number list (Err refused) = refl
  answered_as number list (Ok left) = no_error_by number left (are_same left list)

  abbrev decided : EditAnswer → Decision
  decided answer = edited_decision moment (requester_of asker.peer asker.max_apdu asker.invoke service) asked.object.instance (list_in state asked.object.instance) answer

  in_turn : (first : Option ServiceError) → first ≡ property_error state asked.object asked.property asked.index → (first ≡ None → IsThere state asked) → IsBytes asked.elements →
      IsListAnswered state asker adding asked first (decided (list_answer state adding asked))
  in_turn (Some error) e there are = ap (λ (p : Option ServiceError). decided (answer_unless state asked.object.instance adding asked.elements p)) (sym e)
  in_turn None e there are =
      let t = there refl in
      let all = edit_of (limits_in state asked.object.instance) state.site.bindings t.class.destinations adding asked.elements in
      let same : list_answer state adding asked ≡ all =
      ap (λ (p : Option ServiceError). answer_unless state asked.object.instance adding asked.elements p) (sym e) ∙ ap (class_answer state asked.object.instance adding asked.elements) t.there in
      record {
        class = t.class;
        there = t.there;
        answered = λ answer edits.
            let is : list_answer state adding asked ≡ answer = same ∙ sym (edits_only (limits_in state asked.object.instance) state.site.bindings t.class.destinations adding asked.elements are answer edits) in
            subst (λ (a : EditAnswer). IsAnsweredAs asker service answer (decided a)) (sym is) (answered_as asked.object.instance (list_in state asked.object.instance) answer);
      }

by_service : (state : CoreState) (moment : ℕ) (asker : Asker) (adding : Bool) (parameters : List ℕ) →
    decision_for state moment asker (editing_service adding) parameters ≡ list_with state moment (requester_of asker.peer asker.max_apdu asker.invoke (editing_service adding)) adding (list_request_of parameters)
by_service state moment asker true parameters = refl
by_service state moment asker false parameters = refl

pub asked_is : (parameters : List ℕ) (asked : ListAsked) → AreOctets parameters → SpellsListRequest parameters asked → list_request_of parameters ≡ Ok asked
asked_is parameters asked octets spelled = (list_request_answers parameters (bytes parameters octets)).only asked spelled

pub decided_is : (state : CoreState) (moment : ℕ) (asker : Asker) (adding : Bool) (parameters : List ℕ) (asked : ListAsked) → AreOctets parameters → SpellsListRequest parameters asked →
    decision_for state moment asker (editing_service adding) parameters
    ≡ edited_decision moment (requester_of asker.peer asker.max_apdu asker.invoke (editing_service adding)) asked.object.instance (list_in state asked.object.instance) (list_answer state adding asked)
decided_is state moment asker adding parameters asked octets spelled =
    by_service state moment asker adding parameters
    ∙ ap (λ (r : Result ListAsked Malformed). list_with state moment (requester_of asker.peer asker.max_apdu asker.invoke (editing_service adding)) adding r) (asked_is parameters asked octets spelled)

pub lists_in_turn : AnswersListsInTurn
lists_in_turn state history represents moment asker adding parameters asked octets spelled =
    let first = first_error (list_errors state asked) in
    subst (IsListAnswered state asker adding asked first) (sym (decided_is state moment asker adding parameters asked octets spelled))
    (in_turn state moment asker adding asked first (errors_say state history represents asked) (is_there state history represents asked) (element_bytes parameters asked (bytes parameters octets) spelled))
