-- The clauses of the reader of ReadPropertyMultiple.
use Rattle.std.proofs.Common.{◌≡◌, ◌≢◌, ℕ, ◌+◌, ◌<◌, ◌≤◌, Bool, true, false, true≢false, cond, Option, Some, None, List, [], ◌∷◌, ◌++◌, length, drop, Result, Ok, Err, refl, sym, ap, subst, ◌∙◌, arith, inl, inr, append_assoc}
use Rattle.std.specs.Prelude.{◌⊎◌, ◌↔◌, IfOk, slice_get}
use Rattle.std.proofs.lemmas.Bool.{cases_Bool, cases_lt, eq-eqb, eqb-true, le-ltb, lt-ltb}
use Rattle.std.proofs.lemmas.List.{append-nil, drop_all}
use Rattle.bac_values.specs.Identifier.{ObjectIdData}
use Rattle.bac_tags.specs.declared.fault.TagFault.{TagFault}
use Rattle.bac_tags.specs.declared.fault.TagFault.TheVariants.{BadLength, NoMemory, Truncated, WrongTag}
use Rattle.bac_tags.specs.declared.malformed.Malformed.{Malformed}
use Rattle.bac_tags.specs.declared.tag.Tag.{Tag}
use Rattle.bac_tags.specs.Contents.{IsObject, SpellsObject}
use Rattle.bac_tags.specs.Elements.{element_tag}
use Rattle.bac_tags.specs.EnclosingSteps.{closing_at, opening_at}
use Rattle.bac_tags.specs.EnclosingTags.{SpellsOnly, closing, opening}
use Rattle.bac_tags.specs.ParameterReadingSteps.{optional, or_invalid, required}
use Rattle.bac_tags.specs.Parameters.{IsAbsent, IsOptionalAt, IsThere, SpellsEach, SpellsIfGiven}
use Rattle.bac_tags.specs.Places.{IsSpelledAt}
use Rattle.bac_tags.specs.ReadingSteps.{◌>>=◌, identifier_of, object_at, unsigned_at}
use Rattle.bac_tags.specs.Refusals.{Behind, RefusesOptional, RefusesRequired, invalid_tag, missing_parameter, too_many_arguments}
use Rattle.bac_tags.specs.Tags.{SpellsTag}
use Rattle.bac_tags.proofs.Answered.{Spelled}
use Rattle.bac_tags.proofs.ElementAnswers.{Element, begins_before, ends_within, invalid_err, invalid_ok, object_required, optional_ends, unsigned_element, unsigned_optional}
use Rattle.bac_tags.proofs.ElementReaders.{closing_again, closing_found, object_reader, opening_again, opening_found, spelled_from, spelled_to, tag_some, unsigned_reader}
use Rattle.bac_tags.proofs.ParameterAnswers.{Answers, Both, Made, Whole, at_end, mapped, said, then, whole_said}
use Rattle.bac_tags.proofs.Numbers.{identifier_values}
use Rattle.bac_tags.proofs.Readers.{Reads, reads}
use Rattle.bac_tags.proofs.RequiredReaders.{required_inside, required_outside}
use Rattle.bac_tags.proofs.Standing.{IsBytes, Stands, Stands-back, Stands-from, Stands-front, Stands-then}
use Rattle.bac_tags.proofs.Steps.{bind_err, bind_ok, err_is, ok_is}
use Rattle.bac_tags.proofs.TagReaders.{reads_closing}
use Rattle.summaries.specs.declared.requested.PropertyAsked.{PropertyAsked}
use Rattle.summaries.specs.declared.requested.Spec.{Spec}
use Rattle.summaries.specs.ManyRefusals.{AreAt, AreListed, ArePropertiesAt, ClosesAt, EndsAt, IsGroupAt, IsOther, IsPropertyAt, Number, Opens, RefusesFurther, RefusesGroup, RefusesListed, RefusesProperties, RefusesProperty, RefusesReadMany}
use Rattle.summaries.specs.ManyRequests.{ObjectAsked, SpellsObjectAsked, SpellsProperty, SpellsReadMany, specs_in}
use Rattle.summaries.specs.ManySteps.{asked_of, closes_at, each_within, ends_at, entry_at, further_at, group_at, group_of, groups_of, if_closed, is_other, many_request_of, one_or_more, properties_at, property_at}
use Rattle.summaries.proofs.Each.{are_within, each_answers}

abbrev some_of : ℕ → Option ℕ
some_of n = Some n

some_is : (a b : ℕ) → some_of a ≡ some_of b → b ≡ a
some_is a b e = cc

module _ (input : List ℕ) (bytes : IsBytes input) where
  -- ---- a property

  invalid_answers : (place : ℕ) → place ≤ length input
      → Answers (IsSpelledAt (Number 0) input place) (λ fault. (fault ≡ invalid_tag place) × ¬ IsThere (Number 0) input place) (or_invalid place (unsigned_at input place (Some 0)))
  invalid_answers place le =
      let e = unsigned_element input place (Some 0) bytes le in
      record {
        found = λ x h. e.found x (invalid_ok place (unsigned_at input place (Some 0)) x h);
        only = λ x end h. ap (or_invalid place) (e.only x end h);
        refused = λ fault h.
            let why = invalid_err place (unsigned_at input place (Some 0)) fault h in
            (why.0, λ there. let bad = sym why.1.1 ∙ e.only there.value there.end there.spelled in cc);
        refuses = λ fault h. fails e (unsigned_at input place (Some 0)) refl h.1 ∙ ap (λ (f : Malformed). Err f) (sym h.0);
      }
    where
      fails : Element (Number 0) input place (unsigned_at input place (Some 0)) → (r : Result (ℕ × ℕ) TagFault) → unsigned_at input place (Some 0) ≡ r → ¬ IsThere (Number 0) input place → or_invalid place r ≡ Err (invalid_tag place)
      fails e (Ok x) same not = absurd (not (record { value = x.0; end = x.1; spelled = e.found x same }))
      fails e (Err why) same not = refl

  abbrev IsIndex : ℕ → ℕ → PropertyAsked → ℕ → Type 0
  IsIndex property place = Made (IsOptionalAt (Number 1) 1 input place) (asked_of property)

  property_chained : (place : ℕ) → place ≤ length input → Answers (Both (IsSpelledAt (Number 0) input place) IsIndex) (RefusesProperty input place) (property_at input place)
  unfolding property_at
  property_chained place le =
      then (IsSpelledAt (Number 0) input place) (λ fault. (fault ≡ invalid_tag place) × ¬ IsThere (Number 0) input place) (or_invalid place (unsigned_at input place (Some 0)))
      IsIndex (λ property place. RefusesOptional (Number 1) 1 input place) (λ property. optional input property.1 (unsigned_at input property.1 (Some 1)) >>= at_end (asked_of property.0))
      (invalid_answers place le)
      (λ property end there. mapped (IsOptionalAt (Number 1) 1 input end) (RefusesOptional (Number 1) 1 input end) (optional input end (unsigned_at input end (Some 1))) (asked_of property)
      (unsigned_optional input end 1 bytes (ends_within (Number 0) input place property end le there)))

  to_property : (place : ℕ) (x : PropertyAsked) (end : ℕ) → Both (IsSpelledAt (Number 0) input place) IsIndex x end → IsPropertyAt input place x end
  to_property place x end h = subst (λ (y : PropertyAsked). IsPropertyAt input place y end) h.is_next.made (record { index_at = h.place; property = h.is_first; index = h.is_next.is })

  from_property : (place : ℕ) (x : PropertyAsked) (end : ℕ) → IsPropertyAt input place x end → Both (IsSpelledAt (Number 0) input place) IsIndex x end
  from_property place x end h = record { first = x.property; place = h.index_at; is_first = h.property; is_next = record { value = x.index; is = h.index; made = refl } }

  property_answers : (place : ℕ) → place ≤ length input → Answers (IsPropertyAt input place) (RefusesProperty input place) (property_at input place)
  property_answers place le =
      said (Both (IsSpelledAt (Number 0) input place) IsIndex) (IsPropertyAt input place) (RefusesProperty input place) (RefusesProperty input place) (property_at input place) (property_chained place le)
      (to_property place) (from_property place) (λ fault h. h) (λ fault h. h)

  spelled_on : {X : Type 0} (Spells : List ℕ → X → Type 0) (place : ℕ) (x : X) (end : ℕ) → ((octets : List ℕ) → Spells octets x → 1 ≤ length octets) → IsSpelledAt Spells input place x end → place < end
  spelled_on Spells place x end some s = omega (arith, s.ends, some s.octets s.spelled)

  optional_on : (place : ℕ) (x : Option ℕ) (end : ℕ) → IsOptionalAt (Number 1) 1 input place x end → place ≤ end
  optional_on place None end h = omega (arith, h.0)
  optional_on place (Some x) end h = let on = spelled_on (Number 1) place x end (λ octets s. (unsigned_reader 1).some octets x s) h in omega (arith, on)

  property_grows : (place : ℕ) (x : PropertyAsked) (end : ℕ) → place ≤ length input → IsPropertyAt input place x end → (place < end) × (end ≤ length input)
  property_grows place x end le h =
      let first = spelled_on (Number 0) place x.property h.index_at (λ octets s. (unsigned_reader 0).some octets x.property s) h.property in
      let within = ends_within (Number 0) input place x.property h.index_at le h.property in
      let second = optional_on h.index_at x.index end h.index in
      (omega (arith, first, second), optional_ends (Number 1) 1 input h.index_at x.index end within h.index)

  -- ---- the closing tag

  closes_is : (place end : ℕ) → closes_at input place ≡ Some end → ClosesAt input place end
  unfolding closes_at
  closes_is place end e = go (closing_at input place 1) refl e
    where
      go : (r : Result ℕ TagFault) → closing_at input place 1 ≡ r → if_closed r ≡ Some end → ClosesAt input place end
      go (Ok found) same h =
          let t = closing_found 1 input place found bytes same in
          let here : found ≡ end = cc in
          subst (ClosesAt input place) here (spelled_to (SpellsOnly (closing 1)) input place tt found (record { octets = t.octets; stands = t.stands; spells = t.tagged }))
      go (Err fault) same h = absurd (let bad = h in cc)

  is_closed : (place end : ℕ) → ClosesAt input place end → closes_at input place ≡ Some end
  unfolding closes_at
  is_closed place end h =
      let s = spelled_from (SpellsOnly (closing 1)) input place tt end h in
      ap if_closed (closing_again 1 input place s.octets end s.spells s.stands)

  -- a closing tag is no property
  not_closing : (place x end : ℕ) → IsSpelledAt (Number 0) input place x end → (other : ℕ) → ¬ ClosesAt input place other
  not_closing place x end s other c =
      let p = spelled_from (SpellsOnly (closing 1)) input place tt other c in
      let closes = closing_again 1 input place p.octets other p.spells p.stands in
      let differs = (reads_closing 1 input place (closing_at input place 1) bytes refl).wrong_tag.1 (record { header = s.spelled.header; rest = s.spelled.content ++ s.rest; found = element_tag 2 (Some 0) (length s.spelled.content); parts = s.there ∙ (ap (λ (o : List ℕ). o ++ s.rest) s.spelled.parts ∙ append_assoc s.spelled.header s.spelled.content s.rest); tagged = s.spelled.tagged; other = λ e. let bad = ap (λ (t : Tag). t.number) e in cc }) in
      let bad = sym closes ∙ differs in cc

  property_differs : (place : ℕ) (x : PropertyAsked) (end : ℕ) → IsPropertyAt input place x end → (other : ℕ) → ¬ ClosesAt input place other
  property_differs place x end h other c = not_closing place x.property h.index_at h.property other c

  -- ---- the properties of an object

  listed_answers : (place : ℕ) → place ≤ length input → 0 < place
      → Answers (AreListed (IsPropertyAt input) (ClosesAt input) place) (RefusesListed (IsPropertyAt input) (ClosesAt input) (RefusesProperty input) place) (each_within (closes_at input) (property_at input) (length input) place)
  listed_answers place le some =
      each_answers input (closes_at input) (property_at input) (IsPropertyAt input) (RefusesProperty input) (ClosesAt input) property_answers property_grows closes_is is_closed property_differs (length input) place le (omega (arith, some))

  -- what is told of a list that has to have a property
  kept : (place : ℕ) (xs : List PropertyAsked) (end : ℕ) → xs ≢ [] → one_or_more place (xs, end) ≡ Ok (xs, end)
  kept place [] end some = absurd (some refl)
  kept place (x ∷ xs) end some = refl

  kept_is : (place : ℕ) (xs : List PropertyAsked) (end : ℕ) (y : List PropertyAsked × ℕ) → one_or_more place (xs, end) ≡ Ok y → ((xs, end) ≡ y) × (xs ≢ [])
  kept_is place [] end y e = absurd cc
  kept_is place (x ∷ xs) end y e = (ok_is (x ∷ xs, end) y e, λ none. cc)

  lacks_is : (place : ℕ) (xs : List PropertyAsked) (end : ℕ) (fault : Malformed) → one_or_more place (xs, end) ≡ Err fault → (fault ≡ missing_parameter place) × (xs ≡ [])
  lacks_is place [] end fault e = (cc, refl)
  lacks_is place (x ∷ xs) end fault e = absurd cc

  properties_answers : (place : ℕ) → place ≤ length input → 0 < place → Answers (ArePropertiesAt input place) (RefusesProperties input place) (properties_at input place)
  unfolding properties_at
  properties_answers place le some =
      let a = listed_answers place le some in
      record {
        found = λ y e.
            let s = bind_ok (each_within (closes_at input) (property_at input) (length input) place) (one_or_more place) y e in
            let k = kept_is place s.0.0 s.0.1 y s.2 in
            subst (λ (z : List PropertyAsked × ℕ). ArePropertiesAt input place z.0 z.1) k.0 (a.found s.0 s.1, k.1);
        only = λ xs end h. ap (λ (r : Result (List PropertyAsked × ℕ) Malformed). r >>= one_or_more place) (a.only xs end h.0) ∙ kept place xs end h.1;
        refused = λ fault e.
            elim (bind_err (each_within (closes_at input) (property_at input) (length input) place) (one_or_more place) fault e) [
              | inl here ↦ inr (a.refused fault here)
              | inr later ↦
                  let k = lacks_is place later.0.0 later.0.1 fault later.2 in
                  let there = a.found later.0 later.1 in
                  let stop : there.stop ≡ place = subst (λ (xs : List PropertyAsked). AreAt (IsPropertyAt input) place xs there.stop) k.1 there.are in
                  inl (k.0, (later.0.1, subst (λ (p : ℕ). ClosesAt input p later.0.1) stop there.ends))
            ];
        refuses = λ fault h. fails a fault h;
      }
    where
      fails : Answers (AreListed (IsPropertyAt input) (ClosesAt input) place) (RefusesListed (IsPropertyAt input) (ClosesAt input) (RefusesProperty input) place) (each_within (closes_at input) (property_at input) (length input) place)
          → (fault : Malformed) → RefusesProperties input place fault → (each_within (closes_at input) (property_at input) (length input) place >>= one_or_more place) ≡ Err fault
      fails a fault (inl h) =
          ap (λ (r : Result (List PropertyAsked × ℕ) Malformed). r >>= one_or_more place) (a.only [] h.1.0 (record { stop = place; are = refl; ends = h.1.1 })) ∙ ap (λ (f : Malformed). Err f) (sym h.0)
      fails a fault (inr h) = ap (λ (r : Result (List PropertyAsked × ℕ) Malformed). r >>= one_or_more place) (a.refuses fault h)

  closed_on : (place end : ℕ) → place ≤ length input → ClosesAt input place end → (place < end) × (end ≤ length input)
  closed_on place end le c = (spelled_on (SpellsOnly (closing 1)) place tt end (λ octets s. tag_some octets (closing 1) s) c, ends_within (SpellsOnly (closing 1)) input place tt end le c)

  properties_grow : (place : ℕ) (xs : List PropertyAsked) (end : ℕ) → place ≤ length input → ArePropertiesAt input place xs end → (place < end) × (end ≤ length input)
  properties_grow place xs end le h =
      let inside = are_within input (closes_at input) (property_at input) (IsPropertyAt input) (RefusesProperty input) (ClosesAt input) property_answers property_grows closes_is is_closed property_differs xs place h.0.stop le h.0.are in
      let on = closed_on h.0.stop end inside.1 h.0.ends in
      (omega (arith, inside.0, on.0), on.1)

  -- ---- an object with its properties

  abbrev IsEntered : ObjectIdData → ℕ → ObjectAsked → ℕ → Type 0
  IsEntered object place = Made (ArePropertiesAt input place) (group_of object)

  abbrev to_unit : ℕ → Result (Unit {0} × ℕ) Malformed
  to_unit start = Ok (tt, start)

  open_answers : (place : ℕ) → place ≤ length input → Answers (Opens input place) (RefusesRequired (SpellsOnly (opening 1)) input place) (required input place (opening_at input place 1) >>= to_unit)
  open_answers place le = record {
    found = λ x e.
        let s = bind_ok (required input place (opening_at input place 1)) to_unit x e in
        let o = opened s.0 s.1 in
        subst (λ (y : Unit {0} × ℕ). Opens input place y.0 y.1) (ok_is (tt, s.0) x s.2) o;
    only = λ x end s. ap (λ (r : Result ℕ Malformed). r >>= to_unit) (again end s);
    refused = λ fault e. elim (bind_err (required input place (opening_at input place 1)) to_unit fault e) [ inl here ↦ why fault here | inr never ↦ absurd (let bad = never.2 in cc) ];
    refuses = λ fault h. ap (λ (r : Result ℕ Malformed). r >>= to_unit) (fails fault h);
  }
    where
      again : (end : ℕ) → Opens input place tt end → required input place (opening_at input place 1) ≡ Ok end
      again end s =
          let p = spelled_from (SpellsOnly (opening 1)) input place tt end s in
          let lt = begins_before input place s.octets s.rest s.there (let some = tag_some s.octets (opening 1) s.spelled in omega (arith, some)) in
          required_inside input place (opening_at input place 1) lt ∙ ap (or_invalid place) (opening_again 1 input place p.octets end p.spells p.stands)

      opened : (end : ℕ) → required input place (opening_at input place 1) ≡ Ok end → Opens input place tt end
      opened end e =
          elim (cases_lt place (length input)) [
            | inl lt ↦
                let t = opening_found 1 input place end bytes (invalid_ok place (opening_at input place 1) end (sym (required_inside input place (opening_at input place 1) lt) ∙ e)) in
                spelled_to (SpellsOnly (opening 1)) input place tt end (record { octets = t.octets; stands = t.stands; spells = t.tagged })
            | inr past ↦ absurd (let bad = sym (required_outside input place (opening_at input place 1) past) ∙ e in cc)
          ]

      why : (fault : Malformed) → required input place (opening_at input place 1) ≡ Err fault → RefusesRequired (SpellsOnly (opening 1)) input place fault
      why fault e =
          elim (cases_lt place (length input)) [
            | inl lt ↦
                let w = invalid_err place (opening_at input place 1) fault (sym (required_inside input place (opening_at input place 1) lt) ∙ e) in
                inr (w.0, lt, λ there. let bad = sym e ∙ again there.end there.spelled in cc)
            | inr past ↦ inl (let both = sym e ∙ required_outside input place (opening_at input place 1) past in cc, omega arith)
          ]

      not_opened : (r : Result ℕ TagFault) → opening_at input place 1 ≡ r → ¬ IsThere (SpellsOnly (opening 1)) input place → or_invalid place r ≡ Err (invalid_tag place)
      not_opened (Ok end) same not =
          let t = opening_found 1 input place end bytes same in
          absurd (not (record { value = tt; end = end; spelled = spelled_to (SpellsOnly (opening 1)) input place tt end (record { octets = t.octets; stands = t.stands; spells = t.tagged }) }))
      not_opened (Err fault) same not = refl

      fails : (fault : Malformed) → RefusesRequired (SpellsOnly (opening 1)) input place fault → required input place (opening_at input place 1) ≡ Err fault
      fails fault (inl h) = required_outside input place (opening_at input place 1) (omega (arith, h.1)) ∙ ap (λ (f : Malformed). Err f) (sym h.0)
      fails fault (inr h) = required_inside input place (opening_at input place 1) h.1 ∙ not_opened (opening_at input place 1) refl h.2 ∙ ap (λ (f : Malformed). Err f) (sym h.0)

  opened_on : (place end : ℕ) → place ≤ length input → Opens input place tt end → (place < end) × (end ≤ length input)
  opened_on place end le s = (spelled_on (SpellsOnly (opening 1)) place tt end (λ octets t. tag_some octets (opening 1) t) s, ends_within (SpellsOnly (opening 1)) input place tt end le s)

  object_on : (place : ℕ) (x : ObjectIdData) (end : ℕ) → place ≤ length input → IsSpelledAt (SpellsObject (Some 0)) input place x end → (place < end) × (end ≤ length input)
  object_on place x end le s = (spelled_on (SpellsObject (Some 0)) place x end (λ octets t. (object_reader 0).some octets x t) s, ends_within (SpellsObject (Some 0)) input place x end le s)

  abbrev with_list : ObjectIdData → Unit {0} × ℕ → Result (ObjectAsked × ℕ) Malformed
  with_list object start = properties_at input start.1 >>= at_end (group_of object)

  abbrev with_object : ObjectIdData × ℕ → Result (ObjectAsked × ℕ) Malformed
  with_object object = (required input object.1 (opening_at input object.1 1) >>= to_unit) >>= with_list object.0

  abbrev IsOpened : ObjectIdData → ℕ → ObjectAsked → ℕ → Type 0
  IsOpened object place = Both (Opens input place) (λ nothing. IsEntered object)

  abbrev IsChain : ℕ → ObjectAsked → ℕ → Type 0
  IsChain place = Both (IsSpelledAt (SpellsObject (Some 0)) input place) IsOpened

  group_chained : (place : ℕ) → place ≤ length input → Answers (IsChain place) (RefusesGroup input place) (required input place (object_at input place (Some 0)) >>= with_object)
  group_chained place le =
      then (IsSpelledAt (SpellsObject (Some 0)) input place) (RefusesRequired (SpellsObject (Some 0)) input place) (required input place (object_at input place (Some 0)))
      IsOpened (λ object place fault. RefusesRequired (SpellsOnly (opening 1)) input place fault ⊎ Behind (Opens input place) (λ nothing place. RefusesProperties input place fault)) with_object
      (object_required input place 0 bytes le) (λ object list_at there.
      let first = object_on place object list_at le there in
      then (Opens input list_at) (RefusesRequired (SpellsOnly (opening 1)) input list_at) (required input list_at (opening_at input list_at 1) >>= to_unit)
      (λ nothing. IsEntered object) (λ nothing place. RefusesProperties input place) (with_list object)
      (open_answers list_at first.1) (λ nothing start there.
      let second = opened_on list_at start first.1 there in
      mapped (ArePropertiesAt input start) (RefusesProperties input start) (properties_at input start) (group_of object) (properties_answers start second.1 (omega (arith, second.0)))))

  to_group : (place : ℕ) (x : ObjectAsked) (end : ℕ) → IsChain place x end → IsGroupAt input place x end
  to_group place x end h =
      subst (λ (y : ObjectAsked). IsGroupAt input place y end) h.is_next.is_next.made (record { list_at = h.place; start = h.is_next.place; object = h.is_first; opened = h.is_next.is_first; properties = h.is_next.is_next.is })

  from_group : (place : ℕ) (x : ObjectAsked) (end : ℕ) → IsGroupAt input place x end → IsChain place x end
  from_group place x end h =
      record { first = x.object; place = h.list_at; is_first = h.object; is_next = record { first = tt; place = h.start; is_first = h.opened; is_next = record { value = x.properties; is = h.properties; made = refl } } }

  -- the steps of a group are those of the chain
  abbrev entered : ObjectIdData × ℕ → Result ℕ Malformed → Result (ObjectIdData × ℕ) Malformed
  entered object r = r >>= λ start. Ok (object.0, start)

  abbrev after_entry : ObjectIdData × ℕ → Result (ObjectAsked × ℕ) Malformed
  after_entry entry = properties_at input entry.1 >>= λ properties. Ok (group_of entry.0 properties.0, properties.1)

  abbrev with_unit : Result ℕ Malformed → Result (Unit {0} × ℕ) Malformed
  with_unit r = r >>= to_unit

  abbrev entry_with : ObjectIdData × ℕ → Result (ObjectIdData × ℕ) Malformed
  entry_with object = entered object (required input object.1 (opening_at input object.1 1))

  opened_steps : (object : ObjectIdData × ℕ) (r : Result ℕ Malformed) → (entered object r >>= after_entry) ≡ (with_unit r >>= with_list object.0)
  opened_steps object (Ok start) = refl
  opened_steps object (Err fault) = refl

  object_steps : (r : Result (ObjectIdData × ℕ) Malformed) → ((r >>= entry_with) >>= after_entry) ≡ (r >>= with_object)
  object_steps (Ok object) = opened_steps object (required input object.1 (opening_at input object.1 1))
  object_steps (Err fault) = refl

  same_steps : (place : ℕ) → group_at input place ≡ (required input place (object_at input place (Some 0)) >>= with_object)
  unfolding group_at entry_at
  same_steps place = object_steps (required input place (object_at input place (Some 0)))

  pub group_answers : (place : ℕ) → place ≤ length input → Answers (IsGroupAt input place) (RefusesGroup input place) (group_at input place)
  group_answers place le =
      subst (Answers (IsGroupAt input place) (RefusesGroup input place)) (sym (same_steps place))
      (said (IsChain place) (IsGroupAt input place) (RefusesGroup input place) (RefusesGroup input place) (required input place (object_at input place (Some 0)) >>= with_object) (group_chained place le)
      (to_group place) (from_group place) (λ fault h. h) (λ fault h. h))

  pub group_grows : (place : ℕ) (x : ObjectAsked) (end : ℕ) → place ≤ length input → IsGroupAt input place x end → (place < end) × (end ≤ length input)
  group_grows place x end le h =
      let one = object_on place x.object h.list_at le h.object in
      let two = opened_on h.list_at h.start one.1 h.opened in
      let three = properties_grow h.start x.properties end two.1 h.properties in
      (omega (arith, one.0, two.0, three.0), three.1)

  -- ---- a further object

  object_reads : (place : ℕ) → place ≤ length input → Reads 12 (Some 0) 4 4 IsObject input place (object_at input place (Some 0))
  unfolding object_at
  object_reads place le = reads 12 (Some 0) 4 4 identifier_of IsObject identifier_values input place (object_at input place (Some 0)) bytes le refl

  other_is : (place : ℕ) (r : Result (ObjectIdData × ℕ) TagFault) → is_other place r ≡ true → r ≡ Err (WrongTag place)
  other_is place (Ok x) e = absurd (true≢false (sym e))
  other_is place (Err (WrongTag other)) e = ap (λ (n : ℕ). Err (WrongTag n)) (eqb-true other place e)
  other_is place (Err (Truncated end)) e = absurd (true≢false (sym e))
  other_is place (Err (BadLength wrong)) e = absurd (true≢false (sym e))
  other_is place (Err NoMemory) e = absurd (true≢false (sym e))

  is_that : (place : ℕ) → is_other {X = ObjectIdData × ℕ} place (Err (WrongTag place)) ≡ true
  is_that place = eq-eqb place place refl

  other_tag : (place : ℕ) → place ≤ length input → is_other place (object_at input place (Some 0)) ≡ true → IsOther input place
  other_tag place le e = (object_reads place le).wrong_tag.0 (other_is place (object_at input place (Some 0)) e)

  tag_other : (place : ℕ) → place ≤ length input → IsOther input place → is_other place (object_at input place (Some 0)) ≡ true
  tag_other place le h = ap (is_other place) ((object_reads place le).wrong_tag.1 h) ∙ is_that place

  abbrev further : ℕ → Bool → Result (ObjectAsked × ℕ) Malformed
  further place other = cond other (Err (too_many_arguments place)) (group_at input place)

  further_is : (place : ℕ) (other : Bool) → is_other place (object_at input place (Some 0)) ≡ other → further_at input place ≡ further place other
  unfolding further_at
  further_is place other e = ap (further place) e

  -- where a group is there, no other element is
  group_not_other : (place : ℕ) (x : ObjectAsked) (end : ℕ) → place ≤ length input → IsGroupAt input place x end → is_other place (object_at input place (Some 0)) ≡ false
  group_not_other place x end le h = ap (is_other place) ((object_reads place le).only x.object h.list_at h.object)

  further_answers : (place : ℕ) → place ≤ length input → Answers (IsGroupAt input place) (RefusesFurther input place) (further_at input place)
  further_answers place le = record { found = found; only = only; refused = refused; refuses = refuses }
    where
      found : (x : ObjectAsked × ℕ) → further_at input place ≡ Ok x → IsGroupAt input place x.0 x.1
      found x e = elim (cases_Bool (is_other place (object_at input place (Some 0)))) [
        | inl other ↦ absurd (let bad = sym (further_is place true other) ∙ e in cc)
        | inr not ↦ (group_answers place le).found x (sym (further_is place false not) ∙ e)
      ]

      only : (x : ObjectAsked) (end : ℕ) → IsGroupAt input place x end → further_at input place ≡ Ok (x, end)
      only x end h = further_is place false (group_not_other place x end le h) ∙ (group_answers place le).only x end h

      refused : (fault : Malformed) → further_at input place ≡ Err fault → RefusesFurther input place fault
      refused fault e = elim (cases_Bool (is_other place (object_at input place (Some 0)))) [
        | inl other ↦ inl ((let both = sym (further_is place true other) ∙ e in sym (err_is {A = ObjectAsked × ℕ} (too_many_arguments place) fault both)), other_tag place le other)
        | inr not ↦ inr (λ there. true≢false (sym (tag_other place le there) ∙ not), (group_answers place le).refused fault (sym (further_is place false not) ∙ e))
      ]

      refuses : (fault : Malformed) → RefusesFurther input place fault → further_at input place ≡ Err fault
      refuses fault (inl h) = further_is place true (tag_other place le h.1) ∙ ap (λ (f : Malformed). Err f) (sym h.0)
      refuses fault (inr h) = elim (cases_Bool (is_other place (object_at input place (Some 0)))) [
        | inl other ↦ absurd (h.0 (other_tag place le other))
        | inr not ↦ further_is place false not ∙ (group_answers place le).refuses fault h.1
      ]

  -- ---- all objects

  end_is : (place end : ℕ) → ends_at input place ≡ Some end → EndsAt input place end
  unfolding ends_at
  end_is place end e = elim (cases_lt place (length input)) [
    | inl lt ↦ absurd (let bad = rw (lt-ltb place (length input) lt) at e in cc)
    | inr past ↦ (some_is place end (rw (le-ltb place (length input) past) at e), past)
  ]

  is_end : (place end : ℕ) → EndsAt input place end → ends_at input place ≡ Some end
  unfolding ends_at
  is_end place end h = rw (le-ltb place (length input) h.1) (ap (λ (n : ℕ). Some n) (sym h.0))

  group_differs : (place : ℕ) (x : ObjectAsked) (end : ℕ) → IsGroupAt input place x end → (other : ℕ) → ¬ EndsAt input place other
  group_differs place x end h other e =
      let lt = begins_before input place h.object.octets h.object.rest h.object.there (let some = (object_reader 0).some h.object.octets x.object h.object.spelled in omega (arith, some)) in
      omega (arith, lt, e.1)

  later_answers : (place : ℕ) → place ≤ length input → 0 < place
      → Answers (AreListed (IsGroupAt input) (EndsAt input) place) (RefusesListed (IsGroupAt input) (EndsAt input) (RefusesFurther input) place) (each_within (ends_at input) (further_at input) (length input) place)
  later_answers place le some =
      each_answers input (ends_at input) (further_at input) (IsGroupAt input) (RefusesFurther input) (EndsAt input) further_answers group_grows end_is is_end group_differs (length input) place le (omega (arith, some))

  -- ---- as octets one after the other

  spelled_at : {X : Type 0} (Spells : List ℕ → X → Type 0) (place : ℕ) (x : X) (end : ℕ) (octets : List ℕ) → Spells octets x → Stands input place octets end → IsSpelledAt Spells input place x end
  spelled_at Spells place x end octets s p = record { octets = octets; rest = drop end input; spelled = s; there = p.parts; ends = p.ends }

  stands : {X : Type 0} (Spells : List ℕ → X → Type 0) (place : ℕ) (x : X) (end : ℕ) (s : IsSpelledAt Spells input place x end) → Stands input place s.octets end
  stands Spells place x end s = subst (λ (e : ℕ). Stands input place s.octets e) (sym s.ends) (Stands-from input place s.octets s.rest s.there)

  record EachSpelled {X : Type 0} (Spells : List ℕ → X → Type 0) (place : ℕ) (xs : List X) (end : ℕ) : Type 0 where
    octets : List ℕ
    are : Stands input place octets end
    spelled : SpellsEach Spells octets xs

  each_spelled : {X : Type 0} (Spells : List ℕ → X → Type 0) (Is : ℕ → X → ℕ → Type 0) → ((place : ℕ) (x : X) (end : ℕ) → Is place x end → Spelled Spells input place x end)
      → (place : ℕ) (xs : List X) (end : ℕ) → AreAt Is place xs end → EachSpelled Spells place xs end
  each_spelled Spells Is one place [] end h = record { octets = []; are = record { parts = ap (λ (n : ℕ). drop n input) (sym h); ends = omega (arith, h) }; spelled = refl }
  each_spelled Spells Is one place (x ∷ xs) end h =
      let first = one place x h.0 h.1 in
      let later = each_spelled Spells Is one h.0 xs end h.2 in
      record {
        octets = first.octets ++ later.octets;
        are = Stands-then input place first.octets h.0 later.octets end first.stands later.are;
        spelled = (first.octets, later.octets, refl, first.spells, later.spelled);
      }

  -- and the other way, where it matters what follows each of them
  each_at : {X : Type 0} (Spells : List ℕ → X → Type 0) (Is : ℕ → X → ℕ → Type 0) (Follows : ℕ → Type 0)
      → ((place : ℕ) (octets : List ℕ) (x : X) (end : ℕ) → Spells octets x → Stands input place octets end → Follows end → Is place x end)
      → ((place : ℕ) (octets : List ℕ) (x : X) (end : ℕ) → Spells octets x → Stands input place octets end → Follows place)
      → (place : ℕ) (octets : List ℕ) (xs : List X) (end : ℕ) → SpellsEach Spells octets xs → Stands input place octets end → Follows end → (AreAt Is place xs end) × Follows place
  each_at Spells Is Follows one begins place octets [] end s p f =
      let here : end ≡ place = omega (arith, p.ends, ap length s) in
      (here, subst Follows here f)
  each_at Spells Is Follows one begins place octets (x ∷ xs) end s p f =
      let parts : Stands input place (s.0 ++ s.1) end = subst (λ (o : List ℕ). Stands input place o end) s.2 p in
      let front = Stands-front input place s.0 s.1 end parts in
      let back = Stands-back input place s.0 s.1 end parts in
      let next = place + length s.0 in
      let later = each_at Spells Is Follows one begins next s.1 xs end s.4 back f in
      ((next, one place s.0 x next s.3 front later.1, later.0), begins place s.0 x next s.3 front)

  -- a property

  given_of : (place : ℕ) (x : Option ℕ) (end : ℕ) → IsOptionalAt (Number 1) 1 input place x end → (octets : List ℕ) × Stands input place octets end × SpellsIfGiven (Number 1) octets x
  given_of place None end h = ([], record { parts = ap (λ (n : ℕ). drop n input) (sym h.0); ends = omega (arith, h.0) }, refl)
  given_of place (Some x) end h = (h.octets, stands (Number 1) place x end h, h.spelled)

  property_spelled : (place : ℕ) (x : PropertyAsked) (end : ℕ) → IsPropertyAt input place x end → Spelled SpellsProperty input place x end
  property_spelled place x end h =
      let first = stands (Number 0) place x.property h.index_at h.property in
      let second = given_of h.index_at x.index end h.index in
      record {
        octets = h.property.octets ++ second.0;
        stands = Stands-then input place h.property.octets h.index_at second.0 end first second.1;
        spells = record { property_octets = h.property.octets; index_octets = second.0; parts = refl; property = h.property.spelled; index = second.2 };
      }

  index_at : (place : ℕ) (octets : List ℕ) (x : Option ℕ) (end : ℕ) → SpellsIfGiven (Number 1) octets x → Stands input place octets end → IsAbsent 1 input end → IsOptionalAt (Number 1) 1 input place x end
  index_at place octets None end s p absent =
      let here : end ≡ place = omega (arith, p.ends, ap length s) in
      (here, subst (IsAbsent 1 input) here absent)
  index_at place octets (Some x) end s p absent = spelled_at (Number 1) place x end octets s p

  property_of_octets : (place : ℕ) (octets : List ℕ) (x : PropertyAsked) (end : ℕ) → SpellsProperty octets x → Stands input place octets end → IsAbsent 1 input end → IsPropertyAt input place x end
  property_of_octets place octets x end s p absent =
      let parts : Stands input place (s.property_octets ++ s.index_octets) end = subst (λ (o : List ℕ). Stands input place o end) s.parts p in
      let front = Stands-front input place s.property_octets s.index_octets end parts in
      let back = Stands-back input place s.property_octets s.index_octets end parts in
      let middle = place + length s.property_octets in
      record { index_at = middle; property = spelled_at (Number 0) place x.property middle s.property_octets s.property front; index = index_at middle s.index_octets x.index end s.index back absent }

  -- a property begins with another tag than an index
  property_begins : (place : ℕ) (octets : List ℕ) (x : PropertyAsked) (end : ℕ) → SpellsProperty octets x → Stands input place octets end → IsAbsent 1 input place
  property_begins place octets x end s p =
      let rest = s.property.content ++ (s.index_octets ++ drop end input) in
      inr (record {
        header = s.property.header;
        rest = rest;
        tag = element_tag 2 (Some 0) (length s.property.content);
        parts = p.parts ∙ (ap (λ (o : List ℕ). o ++ drop end input) (s.parts ∙ ap (λ (o : List ℕ). o ++ s.index_octets) s.property.parts) ∙ four s.property.header s.property.content s.index_octets (drop end input));
        tagged = s.property.tagged;
        other = λ n e. let bad = ap (λ (t : Tag). t.number) e in cc;
      })
    where
      four : (a b c d : List ℕ) → ((a ++ b) ++ c) ++ d ≡ a ++ (b ++ (c ++ d))
      four a b c d = append_assoc (a ++ b) c d ∙ append_assoc a b (c ++ d)

  -- so does the closing tag
  closing_begins : (place : ℕ) (octets rest : List ℕ) → drop place input ≡ octets ++ rest → SpellsTag octets (closing 1) → IsAbsent 1 input place
  closing_begins place octets rest e s =
      inr (record { header = octets; rest = rest; tag = closing 1; parts = e; tagged = s; other = λ n same. let bad = ap (λ (t : Tag). t.shape) same in cc })

  -- an object with its properties

  group_spelled : (place : ℕ) (x : ObjectAsked) (end : ℕ) → IsGroupAt input place x end → Spelled SpellsObjectAsked input place x end
  group_spelled place x end h =
      let object = stands (SpellsObject (Some 0)) place x.object h.list_at h.object in
      let opened = stands (SpellsOnly (opening 1)) h.list_at tt h.start h.opened in
      let properties = each_spelled SpellsProperty (IsPropertyAt input) property_spelled h.start x.properties h.properties.0.stop h.properties.0.are in
      let closed = stands (SpellsOnly (closing 1)) h.properties.0.stop tt end h.properties.0.ends in
      let inside = properties.octets ++ h.properties.0.ends.octets in
      let list = h.opened.octets ++ inside in
      let last = Stands-then input h.start properties.octets h.properties.0.stop h.properties.0.ends.octets end properties.are closed in
      record {
        octets = h.object.octets ++ list;
        stands = Stands-then input place h.object.octets h.list_at list end object (Stands-then input h.list_at h.opened.octets h.start inside end opened last);
        spells = record {
          object_octets = h.object.octets;
          list_octets = list;
          parts = refl;
          object = h.object.spelled;
          properties = record { front = h.opened.octets; inside = properties.octets; back = h.properties.0.ends.octets; parts = refl; opened = h.opened.spelled; spelled = (properties.spelled, h.properties.1); closed = h.properties.0.ends.spelled };
        };
      }

  group_of_octets : (place : ℕ) (octets : List ℕ) (x : ObjectAsked) (end : ℕ) → SpellsObjectAsked octets x → Stands input place octets end → Unit {0} → IsGroupAt input place x end
  group_of_octets place octets x end s p nothing =
      let parts : Stands input place (s.object_octets ++ s.list_octets) end = subst (λ (o : List ℕ). Stands input place o end) s.parts p in
      let object = Stands-front input place s.object_octets s.list_octets end parts in
      let list = Stands-back input place s.object_octets s.list_octets end parts in
      let list_at = place + length s.object_octets in
      let l = s.properties in
      let inner : Stands input list_at (l.front ++ (l.inside ++ l.back)) end = subst (λ (o : List ℕ). Stands input list_at o end) l.parts list in
      let opened = Stands-front input list_at l.front (l.inside ++ l.back) end inner in
      let rest = Stands-back input list_at l.front (l.inside ++ l.back) end inner in
      let start = list_at + length l.front in
      let inside = Stands-front input start l.inside l.back end rest in
      let closed = Stands-back input start l.inside l.back end rest in
      let stop = start + length l.inside in
      let absent = closing_begins stop l.back (drop end input) closed.parts l.closed in
      let properties = each_at SpellsProperty (IsPropertyAt input) (IsAbsent 1 input) property_of_octets property_begins start l.inside x.properties stop l.spelled.0 inside absent in
      record {
        list_at = list_at;
        start = start;
        object = spelled_at (SpellsObject (Some 0)) place x.object list_at s.object_octets s.object object;
        opened = spelled_at (SpellsOnly (opening 1)) list_at tt start l.front l.opened opened;
        properties = (record { stop = stop; are = properties.0; ends = spelled_at (SpellsOnly (closing 1)) stop tt end l.back l.closed closed }, l.spelled.1);
      }

  -- ---- the request

  abbrev IsAll : List ObjectAsked → Type 0
  IsAll groups = AreAt (IsGroupAt input) 0 groups (length input) × (groups ≢ [])

  all_to : (groups : List ObjectAsked) → IsAll groups → SpellsReadMany input groups
  all_to groups h =
      let s = each_spelled SpellsObjectAsked (IsGroupAt input) group_spelled 0 groups (length input) h.0 in
      let all : input ≡ s.octets = s.are.parts ∙ (ap (λ (r : List ℕ). s.octets ++ r) (drop_all (length input) input (omega arith)) ∙ append-nil s.octets) in
      (subst (λ (o : List ℕ). SpellsEach SpellsObjectAsked o groups) (sym all) s.spelled, h.1)

  pub all_from : (groups : List ObjectAsked) → SpellsReadMany input groups → IsAll groups
  all_from groups s =
      let stand : Stands input 0 input (length input) = record { parts = sym (ap (λ (r : List ℕ). input ++ r) (drop_all (length input) input (omega arith)) ∙ append-nil input); ends = omega arith } in
      ((each_at SpellsObjectAsked (IsGroupAt input) (λ place. Unit {0}) group_of_octets (λ place octets x end s p. tt) 0 input groups (length input) s.0 stand tt).0, s.1)

  abbrev with_first : ObjectAsked → List ObjectAsked × ℕ → Result (List ObjectAsked) Malformed
  with_first first later = Ok (first ∷ later.0)

  abbrev with_later : ObjectAsked × ℕ → Result (List ObjectAsked) Malformed
  with_later first = each_within (ends_at input) (further_at input) (length input) first.1 >>= with_first first.0

  chained : Whole IsAll (RefusesReadMany input) (groups_of input)
  unfolding groups_of
  chained = record { found = found; only = only; refused = refused; refuses = refuses }
    where
      first_on : (x : ObjectAsked) (end : ℕ) → IsGroupAt input 0 x end → (0 < end) × (end ≤ length input)
      first_on x end h = group_grows 0 x end (omega arith) h

      found : (groups : List ObjectAsked) → (group_at input 0 >>= with_later) ≡ Ok groups → IsAll groups
      found groups e =
          let a = bind_ok (group_at input 0) with_later groups e in
          let first = (group_answers 0 (omega arith)).found a.0 a.1 in
          let on = first_on a.0.0 a.0.1 first in
          let b = bind_ok (each_within (ends_at input) (further_at input) (length input) a.0.1) (with_first a.0.0) groups a.2 in
          let later = (later_answers a.0.1 on.1 on.0).found b.0 b.1 in
          let within = are_within input (ends_at input) (further_at input) (IsGroupAt input) (RefusesFurther input) (EndsAt input) further_answers group_grows end_is is_end group_differs b.0.0 a.0.1 later.stop on.1 later.are in
          let stop : later.stop ≡ length input = omega (arith, within.1, later.ends.1) in
          subst IsAll (ok_is (a.0.0 ∷ b.0.0) groups b.2) ((a.0.1, first, subst (AreAt (IsGroupAt input) a.0.1 b.0.0) stop later.are), λ none. cc)

      only : (groups : List ObjectAsked) → IsAll groups → (group_at input 0 >>= with_later) ≡ Ok groups
      only [] h = absurd (h.1 refl)
      only (x ∷ xs) h =
          let next = h.0.0 in
          let on = first_on x next h.0.1 in
          ap (λ (r : Result (ObjectAsked × ℕ) Malformed). r >>= with_later) ((group_answers 0 (omega arith)).only x next h.0.1)
          ∙ ap (λ (r : Result (List ObjectAsked × ℕ) Malformed). r >>= with_first x) ((later_answers next on.1 on.0).only xs (length input) (record { stop = length input; are = h.0.2; ends = (refl, omega arith) }))

      refused : (fault : Malformed) → (group_at input 0 >>= with_later) ≡ Err fault → RefusesReadMany input fault
      refused fault e =
          elim (bind_err (group_at input 0) with_later fault e) [
            | inl here ↦ inl ((group_answers 0 (omega arith)).refused fault here)
            | inr later ↦
                let first = (group_answers 0 (omega arith)).found later.0 later.1 in
                let on = first_on later.0.0 later.0.1 first in
                elim (bind_err (each_within (ends_at input) (further_at input) (length input) later.0.1) (with_first later.0.0) fault later.2) [
                  | inl there ↦ inr (record { value = later.0.0; end = later.0.1; there = first; holds = (later_answers later.0.1 on.1 on.0).refused fault there })
                  | inr never ↦ absurd (let bad = never.2 in cc)
                ]
          ]

      refuses : (fault : Malformed) → RefusesReadMany input fault → (group_at input 0 >>= with_later) ≡ Err fault
      refuses fault (inl h) = ap (λ (r : Result (ObjectAsked × ℕ) Malformed). r >>= with_later) ((group_answers 0 (omega arith)).refuses fault h)
      refuses fault (inr h) =
          let on = first_on h.value h.end h.there in
          ap (λ (r : Result (ObjectAsked × ℕ) Malformed). r >>= with_later) ((group_answers 0 (omega arith)).only h.value h.end h.there)
          ∙ ap (λ (r : Result (List ObjectAsked × ℕ) Malformed). r >>= with_first h.value) ((later_answers h.end on.1 on.0).refuses fault h.holds)

  pub read_many_answers : Whole (SpellsReadMany input) (RefusesReadMany input) (groups_of input)
  read_many_answers = whole_said IsAll (SpellsReadMany input) (RefusesReadMany input) (groups_of input) chained all_to all_from

-- ---- the property at an index

-- what the clauses of the reader say
pub record ReadsSpec (input : List ℕ) (index : ℕ) (answer : Result (Option Spec) Malformed) : Type 0 where
  pub found : IfOk answer (λ spec. (groups : List ObjectAsked) × SpellsReadMany input groups × (spec ≡ slice_get (specs_in groups) index))
  pub only : (groups : List ObjectAsked) → SpellsReadMany input groups → answer ≡ Ok (slice_get (specs_in groups) index)
  pub refused : (fault : Malformed) → (answer ≡ Err fault) ↔ RefusesReadMany input fault

abbrev at_index : ℕ → List ObjectAsked → Result (Option Spec) Malformed
at_index index groups = Ok (slice_get (specs_in groups) index)

pub reads_spec : (input : List ℕ) (index : ℕ) (answer : Result (Option Spec) Malformed) → answer ≡ many_request_of input index → Whole (SpellsReadMany input) (RefusesReadMany input) (groups_of input) → ReadsSpec input index answer
reads_spec input index answer e w =
    record {
      found = found answer e;
      only = λ groups s. e ∙ ap (λ (r : Result (List ObjectAsked) Malformed). r >>= at_index index) (w.only groups s);
      refused = λ fault. (λ h. refused fault (sym e ∙ h), λ h. e ∙ ap (λ (r : Result (List ObjectAsked) Malformed). r >>= at_index index) (w.refuses fault h));
    }
  where
    found : (r : Result (Option Spec) Malformed) → r ≡ many_request_of input index → IfOk r (λ spec. (groups : List ObjectAsked) × SpellsReadMany input groups × (spec ≡ slice_get (specs_in groups) index))
    found (Ok spec) same =
        let s = bind_ok (groups_of input) (at_index index) spec (sym same) in
        (s.0, w.found s.0 s.1, sym (ok_is (slice_get (specs_in s.0) index) spec s.2))
    found (Err fault) same = tt

    refused : (fault : Malformed) → many_request_of input index ≡ Err fault → RefusesReadMany input fault
    refused fault h = elim (bind_err (groups_of input) (at_index index) fault h) [ inl here ↦ w.refused fault here | inr never ↦ absurd (let bad = never.2 in cc) ]
