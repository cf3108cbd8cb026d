-- ReadPropertyMultiple is answered by reads.
use Rattle.std.proofs.Common.{◌≡◌, ◌≢◌, ℕ, Bool, true, false, not, cond, if◌then◌else◌, Option, Some, None, is_some, Result, List, [], ◌∷◌, ◌++◌, filter, refl, sym, ap, ◌∙◌, subst}
use Rattle.std.specs.List.{flat_map, list_any}
use Rattle.std.specs.Prelude.{◌↔◌, Contains, IsSome}
use Rattle.std.proofs.lemmas.Bool.{eq-eqb, ne_eqb}
use Rattle.bac_values.specs.Errors.{property_is_not_an_array_error, unknown_object_error}
use Rattle.bac_values.specs.Identifier.{ObjectIdData}
use Rattle.bac_values.specs.declared.service_error.ServiceError.{ServiceError}
use Rattle.bac_tags.specs.Parameters.{SpellsEach}
use Rattle.bac_tags.specs.declared.malformed.Malformed.{Malformed}
use Rattle.property_services.specs.declared.requests.ReadRequest.{ReadRequest}
use Rattle.object_table.specs.Rows.{is_object, row_of}
use Rattle.enrollment.specs.Enrollments.{site_of}
use Rattle.property_values.specs.declared.content.ReadFault.{ReadFault}
use Rattle.summaries.specs.declared.part.Part.{Part}
use Rattle.summaries.specs.declared.requested.PropertyAsked.{PropertyAsked}
use Rattle.summaries.specs.Many.{all_with, as_part, properties_of, readable_properties, results_of, written_group, written_if_read, written_result}
use Rattle.summaries.specs.ManyRequests.{ObjectAsked}
use Rattle.summaries.proofs.Grouped.{read_many_answers}
use Rattle.alarm_core.specs.declared.event.Event.{Event}
use Rattle.alarm_core.specs.Allowed.{Represents}
use Rattle.alarm_core.specs.Devices.{identifiers_of}
use Rattle.alarm_core.specs.Logs.{kept_log}
use Rattle.alarm_core.specs.Reading.{read_of}
use Rattle.alarm_core.specs.State.{CoreState}
use Rattle.service_desk.specs.Requesters.{requester_of}
use Rattle.service_desk.specs.SummaryDecisions.{many_with, part_read, reads_in}
use Rattle.profile_laws.specs.ErrorTables.{first_error}
use Rattle.profile_laws.specs.ManyLaws.{AllIsTheTable, EachPartIsARead, IsAll, IsResult, IsTold, IsToldOf, all_errors, read_of_one}
use Rattle.profile_laws.specs.PropertyErrors.{read_errors}
use Rattle.profile_laws.specs.PropertyTables.{property_of}
use Rattle.profile_laws.proofs.AllTables.{has_identifier, known_to_all, none_where_there, unknown_where_not}
use Rattle.profile_laws.proofs.InTurn.{identified, reads_say}
use Rattle.profile_laws.proofs.Listed.{contained_passes, contains_kept, each_of, still_rising}
use Rattle.profile_laws.proofs.ReadTables.{ReadSays}
use Rattle.profile_laws.proofs.ReadingBack.{read_as}
use Rattle.profile_laws.proofs.Tests.{table}

-- ALL of no object
all_unknown : (reads : ObjectIdData → ℕ → Option ℕ → Part) (object : ObjectIdData) (index : Option ℕ) (error : ServiceError) → all_with reads object index (as_part error) ≡ written_result 8 index (as_part error)
all_unknown reads object None error = refl
all_unknown reads object (Some index) error = refl

module _ (state : CoreState) (history : List Event) (represents : Represents state history) where
  abbrev reads : ObjectIdData → ℕ → Option ℕ → Part
  reads = reads_in state

  abbrev answer : ReadRequest → Result (List ℕ) ReadFault
  answer read = read_of state read.object read.property.0 read.index

  -- what is told of a read
  result_by : (read : ReadRequest) (first : Option ServiceError) → ReadSays first (answer read) → IsResult state read first (written_result read.property.0 read.index (part_read (answer read)))
  result_by read (Some error) says = ap (λ (a : Result (List ℕ) ReadFault). written_result read.property.0 read.index (part_read a)) says
  result_by read None says =
      (says.0, ap (λ (a : Result (List ℕ) ReadFault). written_result read.property.0 read.index (part_read a)) says.1, read_as state read says.0 says.1)

  one : (object : ObjectIdData) (asked : PropertyAsked) → asked.property ≢ 8 →
      IsResult state (read_of_one object asked.property asked.index) (first_error (read_errors state (read_of_one object asked.property asked.index))) (results_of reads object asked)
  one object asked other =
      let read = read_of_one object asked.property asked.index in
      let first = first_error (read_errors state read) in
      subst (λ (b : Bool). IsResult state read first (if b then all_with reads object asked.index (reads object 75 None) else written_result asked.property asked.index (reads object asked.property asked.index)))
      (sym (ne_eqb asked.property 8 other)) (result_by read first (reads_say state history represents read))

  -- ---- ALL

  module _ (object : ObjectIdData) where
    abbrev known : Bool
    known = list_any (is_object object) (identifiers_of state.site)

    abbrev has : ℕ → Bool
    has number = is_some (property_of state object number)

    abbrev read_whole : ℕ → ReadRequest
    read_whole number = read_of_one object number None

    -- what is read, by whether the object is there
    says_by : (is : Bool) → known ≡ is → (number : ℕ) → ReadSays (first_error (table (not is) (property_of state object number) None [])) (answer (read_whole number))
    says_by is e number =
        subst (λ (b : Bool). ReadSays (first_error (table (not b) (property_of state object number) None [])) (answer (read_whole number))) e (reads_say state history represents (read_whole number))

    says_where_there : known ≡ true → (number : ℕ) → has number ≡ true → ReadSays None (answer (read_whole number))
    says_where_there e number h = subst (λ (f : Option ServiceError). ReadSays f (answer (read_whole number))) (none_where_there (property_of state object number) h) (says_by true e number)

    nothing_where_not : known ≡ true → (number : ℕ) → has number ≡ false → written_if_read number (reads object number None) ≡ []
    nothing_where_not e number h =
        ap (λ (a : Result (List ℕ) ReadFault). written_if_read number (part_read a))
        (subst (λ (f : Option ServiceError). ReadSays f (answer (read_whole number))) (unknown_where_not (property_of state object number) h) (says_by true e number))

    abbrev IsValue : List ℕ → ℕ → Type 0
    IsValue octets number = IsResult state (read_whole number) None octets

    value_where_there : known ≡ true → (number : ℕ) → has number ≡ true → IsValue (written_if_read number (reads object number None)) number
    value_where_there e number h =
        let says = says_where_there e number h in
        (says.0, ap (λ (a : Result (List ℕ) ReadFault). written_if_read number (part_read a)) says.1, read_as state (read_whole number) says.0 says.1)

    one_more : known ≡ true → (number : ℕ) (rest : List ℕ) (numbers : List ℕ) → SpellsEach IsValue rest numbers → (b : Bool) → has number ≡ b →
        SpellsEach IsValue (written_if_read number (reads object number None) ++ rest) (cond b (number ∷ numbers) numbers)
    one_more e number rest numbers later true h = (written_if_read number (reads object number None), rest, refl, value_where_there e number h, later)
    one_more e number rest numbers later false h = subst (λ (octets : List ℕ). SpellsEach IsValue (octets ++ rest) numbers) (sym (nothing_where_not e number h)) later

    values : known ≡ true → (numbers : List ℕ) → SpellsEach IsValue (flat_map (λ number. written_if_read number (reads object number None)) numbers) (filter has numbers)
    values e [] = refl
    values e (number ∷ numbers) =
        one_more e number (flat_map (λ number. written_if_read number (reads object number None)) numbers) (filter has numbers) (values e numbers) (has number) refl

    in_table : (number : ℕ) → Contains (filter has readable_properties) number ↔ IsSome (property_of state object number)
    in_table number = (
      contained_passes has number readable_properties,
      λ h. contains_kept has number h readable_properties
          (known_to_all state.site object (site_of object state.values.enrollments) (row_of object state.values.rows) (kept_log object state.logs) number h),
    )

    whole : known ≡ true → AllIsTheTable state object (flat_map (λ number. written_if_read number (reads object number None)) readable_properties)
    whole e = record { numbers = filter has readable_properties; ascending = still_rising has readable_properties refl; table = in_table; each = values e readable_properties }

    -- its identifier can be read
    identifier_read : known ≡ true → ReadSays None (answer (read_whole 75))
    identifier_read e =
        let is = identified state history represents object in
        says_where_there e 75 (has_identifier state.site object (site_of object state.values.enrollments) (row_of object state.values.rows) (kept_log object state.logs) (sym is.known ∙ e))

    abbrev all_first : Bool → Option ℕ → Option ServiceError
    all_first is index = first_error ((not is, unknown_object_error) ∷ (is_some index, property_is_not_an_array_error) ∷ [])

    all_by : (is : Bool) → known ≡ is → (index : Option ℕ) → IsAll state object index (all_first is index) (all_with reads object index (reads object 75 None))
    all_by false e index =
        ap (λ (a : Result (List ℕ) ReadFault). all_with reads object index (part_read a)) (says_by false e 75) ∙ all_unknown reads object index unknown_object_error
    all_by true e (Some index) = ap (λ (a : Result (List ℕ) ReadFault). all_with reads object (Some index) (part_read a)) (identifier_read e).1
    all_by true e None =
        subst (λ (a : Result (List ℕ) ReadFault). AllIsTheTable state object (all_with reads object None (part_read a))) (sym (identifier_read e).1) (whole e)

    all : (asked : PropertyAsked) → asked.property ≡ 8 → IsAll state object asked.index (first_error (all_errors state object asked.index)) (results_of reads object asked)
    all asked is =
        let first = first_error (all_errors state object asked.index) in
        subst (λ (b : Bool). IsAll state object asked.index first (if b then all_with reads object asked.index (reads object 75 None) else written_result asked.property asked.index (reads object asked.property asked.index)))
        (sym (eq-eqb asked.property 8 is)) (subst (λ (b : Bool). IsAll state object asked.index (all_first b asked.index) (all_with reads object asked.index (reads object 75 None))) refl (all_by known refl asked.index))

  -- ---- the request

  told : (object : ObjectIdData) (asked : PropertyAsked) → IsTold state object (results_of reads object asked) asked
  told object asked = record { one = one object asked; all = all object asked }

  told_of : (asked : ObjectAsked) → IsToldOf state (written_group reads asked) asked
  told_of asked =
      record { inside = flat_map (results_of reads asked.object) asked.properties; parts = refl; each = each_of (IsTold state asked.object) (results_of reads asked.object) (told asked.object) asked.properties }

pub each_part_is_a_read : EachPartIsARead
each_part_is_a_read state history represents moment asker parameters asked octets spelled =
    let read = (read_many_answers parameters (λ i. octets i)).only asked spelled in (
      properties_of (reads_in state) asked,
      ap (λ (r : Result (List ObjectAsked) Malformed). many_with state (requester_of asker.peer asker.max_apdu asker.invoke 14) r) read,
      each_of (IsToldOf state) (written_group (reads_in state)) (told_of state history represents) asked,
    )
