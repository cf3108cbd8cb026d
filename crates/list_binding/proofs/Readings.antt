-- Elements one after the other, as they are read.
use Rattle.std.proofs.Common.{◌≡◌, ◌≢◌, ℕ, zero, suc, ◌+◌, ◌<◌, ◌≤◌, Option, Some, None, List, [], ◌∷◌, ◌++◌, length, map, drop, Result, Ok, Err, refl, sym, ap, subst, ◌∙◌, append_assoc, append-nil, arith, inl, inr}
use Rattle.std.proofs.lemmas.Bool.{cases_lt, le-ltb, lt-ltb}
use Rattle.std.proofs.lemmas.List.{drop_all, length-append, length-drop}
use Rattle.bac_values.specs.Errors.{invalid_data_type_error, value_out_of_range_error}
use Rattle.bac_values.specs.declared.service_error.ServiceError.{ServiceError}
use Rattle.bac_tags.specs.declared.fault.TagFault.{TagFault}
use Rattle.bac_tags.specs.Parameters.{SpellsEach}
use Rattle.bac_tags.specs.ReadingSteps.{◌>>=◌}
use Rattle.bac_tags.proofs.Answered.{Spelled}
use Rattle.bac_tags.proofs.Standing.{IsBytes, Stands-from, Stands-within}
use Rattle.notify_class.specs.Recipients.{DestinationData}
use Rattle.notify_class.specs.declared.binding.Binding.{Binding}
use Rattle.list_binding.specs.declared.refusal.EditRefusal.{EditRefusal}
use Rattle.list_binding.specs.declared.refusal.EditRefusal.TheVariants.{Error, NoMemory}
use Rattle.list_binding.specs.Elements.{ElementData, SpellsDestination, destination_of}
use Rattle.list_binding.specs.Edits.{AreRead, EditAnswer, IsOutside, ListError, ReadsAs, RefusesElement, Tells, error_of}
use Rattle.list_binding.specs.EditSteps.{as_destination, at_element, destination_at, destinations_of, destinations_within, element_at, in_range}
use Rattle.list_binding.proofs.ElementParts.{element_again, element_found, element_grows}

abbrev One : Type 0
One = DestinationData

abbrev Many : Type 0
Many = List DestinationData

-- behind those that were read
abbrev pub prefixed : Many → EditAnswer → EditAnswer
prefixed read (Ok later) = Ok (read ++ later)
prefixed read (Err refused) = Err refused

abbrev with_one : One → Many → EditAnswer
with_one destination later = Ok (destination ∷ later)

abbrev with_later : List Binding → List ℕ → ℕ → ℕ → One × ℕ → EditAnswer
with_later bindings input more number x = destinations_within more bindings input (suc number) x.1 >>= with_one x.0

module _ (bindings : List Binding) (input : List ℕ) where
  none_within : (number place : ℕ) → destinations_within zero bindings input number place ≡ Ok []
  unfolding destinations_within
  none_within number place = refl

  pub past : (more number place : ℕ) → length input ≤ place → destinations_within more bindings input number place ≡ Ok []
  unfolding destinations_within
  past zero number place le = refl
  past (suc more) number place le = rw (le-ltb place (length input) le) refl

  one_within : (more number place : ℕ) → place < length input → destinations_within (suc more) bindings input number place ≡ (destination_at bindings input number place >>= with_later bindings input more number)
  unfolding destinations_within
  one_within more number place lt = rw (lt-ltb place (length input) lt) refl

  consed : (destination : One) (answer : EditAnswer) → (answer >>= with_one destination) ≡ prefixed (destination ∷ []) answer
  consed destination (Ok later) = refl
  consed destination (Err refused) = refl

  joined : (read : Many) (destination : One) (answer : EditAnswer) → prefixed read (prefixed (destination ∷ []) answer) ≡ prefixed (read ++ destination ∷ []) answer
  joined read destination (Ok later) = ap (λ (l : Many). Ok l) (sym (append_assoc read (destination ∷ []) later))
  joined read destination (Err refused) = refl

  goes_on : (more number place end : ℕ) (destination : One) → place < length input → destination_at bindings input number place ≡ Ok (destination, end) → destinations_within (suc more) bindings input number place ≡ prefixed (destination ∷ []) (destinations_within more bindings input (suc number) end)
  goes_on more number place end destination lt e =
      one_within more number place lt
      ∙ (ap (λ (r : Result (One × ℕ) ListError). r >>= with_later bindings input more number) e
      ∙ consed destination (destinations_within more bindings input (suc number) end))

  stops : (more number place : ℕ) (refused : ListError) → place < length input → destination_at bindings input number place ≡ Err refused → destinations_within (suc more) bindings input number place ≡ Err refused
  stops more number place refused lt e = one_within more number place lt ∙ ap (λ (r : Result (One × ℕ) ListError). r >>= with_later bindings input more number) e

  -- ---- a step of the whole, of which this is left

  pub one_more : (all : EditAnswer) (read : Many) (more number place end : ℕ) (destination : One) → all ≡ prefixed read (destinations_within (suc more) bindings input number place) → place < length input → destination_at bindings input number place ≡ Ok (destination, end)
      → all ≡ prefixed (read ++ destination ∷ []) (destinations_within more bindings input (suc number) end)
  one_more all read more number place end destination left lt e =
      left ∙ (ap (prefixed read) (goes_on more number place end destination lt e) ∙ joined read destination (destinations_within more bindings input (suc number) end))

  pub one_refused : (all : EditAnswer) (read : Many) (more number place : ℕ) (refused : ListError) → all ≡ prefixed read (destinations_within (suc more) bindings input number place) → place < length input → destination_at bindings input number place ≡ Err refused → all ≡ Err refused
  one_refused all read more number place refused left lt e = left ∙ ap (prefixed read) (stops more number place refused lt e)

  pub all_read : (all : EditAnswer) (read : Many) (more number place : ℕ) → all ≡ prefixed read (destinations_within more bindings input number place) → length input ≤ place → all ≡ Ok read
  all_read all read more number place left le = left ∙ (ap (prefixed read) (past more number place le) ∙ ap (λ (l : Many). Ok l) (append-nil read))

module _ (bindings : List Binding) (input : List ℕ) (bytes : IsBytes input) where
  abbrev some_of : One → Option One
  some_of destination = Some destination

  -- ---- one element

  read_at : (number place end : ℕ) (element : ElementData) (destination : One) → element_at input place ≡ Ok (element, end) → destination_of bindings element ≡ Some destination → destination_at bindings input number place ≡ Ok (destination, end)
  unfolding destination_at
  read_at number place end element destination e d = ap (as_destination bindings number) e ∙ ap (in_range number end) d

  outside_at : (number place end : ℕ) (element : ElementData) → element_at input place ≡ Ok (element, end) → destination_of bindings element ≡ None → destination_at bindings input number place ≡ Err (at_element value_out_of_range_error number)
  unfolding destination_at
  outside_at number place end element e d = ap (as_destination bindings number) e ∙ ap (in_range number end) d

  unread_at : (number place : ℕ) (fault : TagFault) → element_at input place ≡ Err fault → destination_at bindings input number place ≡ Err (at_element invalid_data_type_error number)
  unfolding destination_at
  unread_at number place fault e = ap (as_destination bindings number) e

  begins : (place : ℕ) → place < length input → drop place input ≢ []
  begins place lt none = let short = length-drop place input in absurd (omega (arith, ap length none))

  past_end : (place : ℕ) → drop place input ≡ [] → length input ≤ place
  past_end place none = omega (arith, ap length none, length-drop place input)

  not_past : (place : ℕ) → drop place input ≢ [] → place < length input
  not_past place some =
      elim (cases_lt place (length input)) [
        | inl lt ↦ lt
        | inr ge ↦ absurd (some (drop_all place input ge))
      ]

  -- ---- what is read is spelled so

  -- elements from a number on
  abbrev ReadsFrom : ℕ → List ℕ → EditAnswer → Type 0
  ReadsFrom number octets (Ok read) = AreRead bindings octets read []
  ReadsFrom number octets (Err refused) =
      (before : Many) × (rest : List ℕ) × AreRead bindings octets before rest × (refused.element ≡ number + length before) × RefusesElement bindings rest refused.error

  nothing_read : (octets : List ℕ) → AreRead bindings octets [] octets
  nothing_read octets = record { front = []; elements = []; parts = refl; spelled = refl; stand = refl }

  cons_is : (x y : Option One) (xs ys : List (Option One)) → x ≡ y → xs ≡ ys → x ∷ xs ≡ y ∷ ys
  cons_is x y xs ys e h = ap (λ (z : Option One). z ∷ xs) e ∙ ap (λ (zs : List (Option One)). y ∷ zs) h

  one_read : (place end : ℕ) (element : ElementData) (destination : One) (read : Many) (rest : List ℕ) → Spelled SpellsDestination input place element end → destination_of bindings element ≡ Some destination → AreRead bindings (drop end input) read rest → AreRead bindings (drop place input) (destination ∷ read) rest
  one_read place end element destination read rest s d r =
      record {
        front = s.octets ++ r.front;
        elements = element ∷ r.elements;
        parts = s.stands.parts ∙ (ap (λ (o : List ℕ). s.octets ++ o) r.parts ∙ sym (append_assoc s.octets r.front rest));
        spelled = (s.octets, r.front, refl, s.spells, r.spelled);
        stand = cons_is (destination_of bindings element) (Some destination) (map (destination_of bindings) r.elements) (map some_of read) d r.stand;
      }

  behind_one : (number place end : ℕ) (element : ElementData) (destination : One) (answer : EditAnswer) → Spelled SpellsDestination input place element end → destination_of bindings element ≡ Some destination → ReadsFrom (suc number) (drop end input) answer → ReadsFrom number (drop place input) (prefixed (destination ∷ []) answer)
  behind_one number place end element destination (Ok later) s d r = one_read place end element destination later [] s d r
  behind_one number place end element destination (Err refused) s d r = (destination ∷ r.0, r.1, one_read place end element destination r.0 r.1 s d r.2, omega (arith, r.3), r.4)

  none_spelled : (place : ℕ) (fault : TagFault) → place ≤ length input → element_at input place ≡ Err fault → (front behind : List ℕ) (element : ElementData) → drop place input ≡ front ++ behind → ¬ SpellsDestination front element
  none_spelled place fault le e front behind element parts s =
      let again = element_again input bytes place front element (place + length front) le s (Stands-from input place front behind parts) in
      let bad = sym e ∙ again in cc

  -- what is so behind an element
  abbrev LaterFrom : ℕ → ℕ → Type 0
  LaterFrom more number = (end : ℕ) → end ≤ length input → length input ≤ end + more → ReadsFrom (suc number) (drop end input) (destinations_within more bindings input (suc number) end)

  found : (more number place : ℕ) → place ≤ length input → length input ≤ place + more → ReadsFrom number (drop place input) (destinations_within more bindings input number place)
  found zero number place le enough =
      let end : drop place input ≡ [] = drop_all place input (omega (arith, enough)) in
      subst (ReadsFrom number (drop place input)) (sym (none_within bindings input number place)) (subst (λ (o : List ℕ). AreRead bindings (drop place input) [] o) end (nothing_read (drop place input)))
  found (suc more) number place le enough =
      elim (cases_lt place (length input)) [
        | inl lt ↦ go lt (element_at input place) refl (λ end within far. found more (suc number) end within far)
        | inr ge ↦ subst (ReadsFrom number (drop place input)) (sym (past bindings input (suc more) number place ge)) (subst (λ (o : List ℕ). AreRead bindings (drop place input) [] o) (drop_all place input ge) (nothing_read (drop place input)))
      ]
    where
      on : LaterFrom more number → place < length input → (element : ElementData) (end : ℕ) → element_at input place ≡ Ok (element, end) → (d : Option One) → destination_of bindings element ≡ d → ReadsFrom number (drop place input) (destinations_within (suc more) bindings input number place)
      on behind lt element end e (Some destination) d =
          let s = element_found input bytes place (element, end) le e in
          let within = Stands-within input place s.octets end le s.stands in
          let grows = element_grows input bytes s.octets element s.spells in
          let later = behind end within (omega (arith, enough, s.stands.ends, grows)) in
          subst (ReadsFrom number (drop place input)) (sym (goes_on bindings input more number place end destination lt (read_at number place end element destination e d)))
          (behind_one number place end element destination (destinations_within more bindings input (suc number) end) s d later)
      on behind lt element end e None d =
          let s = element_found input bytes place (element, end) le e in
          let outside : IsOutside bindings (drop place input) = record { front = s.octets; behind = drop end input; element = element; parts = s.stands.parts; spelled = s.spells; none = d } in
          subst (ReadsFrom number (drop place input)) (sym (stops bindings input more number place (at_element value_out_of_range_error number) lt (outside_at number place end element e d)))
          ([], drop place input, nothing_read (drop place input), omega arith, inr (refl, outside))

      go : place < length input → (r : Result (ElementData × ℕ) TagFault) → element_at input place ≡ r → LaterFrom more number → ReadsFrom number (drop place input) (destinations_within (suc more) bindings input number place)
      go lt (Ok x) e behind = on behind lt x.0 x.1 e (destination_of bindings x.0) refl
      go lt (Err fault) e behind =
          subst (ReadsFrom number (drop place input)) (sym (stops bindings input more number place (at_element invalid_data_type_error number) lt (unread_at number place fault e)))
          ([], drop place input, nothing_read (drop place input), omega arith, inl (refl, (begins place lt, none_spelled place fault le e)))

  -- ---- what is spelled so is read

  head_is : (x y : Option One) (xs ys : List (Option One)) → x ∷ xs ≡ y ∷ ys → x ≡ y
  head_is x y xs ys e = cc

  tail_is : (x y : Option One) (xs ys : List (Option One)) → x ∷ xs ≡ y ∷ ys → xs ≡ ys
  tail_is x y xs ys e = cc

  unprefixed : (answer : EditAnswer) → answer ≡ prefixed [] answer
  unprefixed (Ok later) = refl
  unprefixed (Err refused) = refl

  both_prefixed : (destination : One) (read : Many) (answer : EditAnswer) → prefixed (destination ∷ []) (prefixed read answer) ≡ prefixed (destination ∷ read) answer
  both_prefixed destination read (Ok later) = refl
  both_prefixed destination read (Err refused) = refl

  -- once they are read, what is left decides
  again : (elements : List ElementData) (read : Many) (front rest : List ℕ) (answer : EditAnswer) (more number place : ℕ) → place ≤ length input → length input ≤ place + more
      → drop place input ≡ front ++ rest → SpellsEach SpellsDestination front elements → map (destination_of bindings) elements ≡ map some_of read
      → ((left at : ℕ) → at ≤ length input → length input ≤ at + left → drop at input ≡ rest → destinations_within left bindings input (number + length read) at ≡ answer)
      → destinations_within more bindings input number place ≡ prefixed read answer
  again [] [] front rest answer more number place le enough parts spelled stand then =
      let here : drop place input ≡ rest = parts ∙ ap (λ (o : List ℕ). o ++ rest) spelled in
      let same : number + 0 ≡ number = omega arith in
      ap (λ (n : ℕ). destinations_within more bindings input n place) (sym same) ∙ (then more place le enough here ∙ unprefixed answer)
  again [] (d ∷ read) front rest answer more number place le enough parts spelled stand then = absurd cc
  again (element ∷ elements) [] front rest answer more number place le enough parts spelled stand then = absurd cc
  again (element ∷ elements) (d ∷ read) front rest answer more number place le enough parts spelled stand then =
      let f = spelled.0 in
      let r = spelled.1 in
      let here : drop place input ≡ f ++ (r ++ rest) = parts ∙ (ap (λ (o : List ℕ). o ++ rest) spelled.2 ∙ append_assoc f r rest) in
      let end = place + length f in
      let st = Stands-from input place f (r ++ rest) here in
      let within = Stands-within input place f end le st in
      let grows = element_grows input bytes f element spelled.3 in
      let read_here = element_again input bytes place f element end le spelled.3 st in
      let stands_for = head_is (destination_of bindings element) (Some d) (map (destination_of bindings) elements) (map some_of read) stand in
      let later = tail_is (destination_of bindings element) (Some d) (map (destination_of bindings) elements) (map some_of read) stand in
      let rest_here : drop end input ≡ r ++ rest = tail_of f (drop end input) (r ++ rest) (sym st.parts ∙ here) in
      go more enough within grows (read_at number place end element d read_here stands_for) rest_here
      (λ fuel far same. again elements read r rest answer fuel (suc number) end within far rest_here spelled.4 later same)
    where
      tail_of : (xs ys zs : List ℕ) → xs ++ ys ≡ xs ++ zs → ys ≡ zs
      tail_of [] ys zs e = e
      tail_of (x ∷ xs) ys zs e = let same : xs ++ ys ≡ xs ++ zs = cc in tail_of xs ys zs same

      end : ℕ
      end = place + length spelled.0

      go : (more : ℕ) → length input ≤ place + more → end ≤ length input → 1 ≤ length spelled.0 → destination_at bindings input number place ≡ Ok (d, end)
          → drop end input ≡ spelled.1 ++ rest
          → ((fuel : ℕ) → length input ≤ end + fuel → ((left at : ℕ) → at ≤ length input → length input ≤ at + left → drop at input ≡ rest → destinations_within left bindings input (suc number + length read) at ≡ answer) → destinations_within fuel bindings input (suc number) end ≡ prefixed read answer)
          → destinations_within more bindings input number place ≡ prefixed (d ∷ read) answer
      go zero enough within grows at_place rest_here behind = absurd (omega (arith, enough, within, grows))
      go (suc more) enough within grows at_place rest_here behind =
          let longer : suc number + length read ≡ number + length (d ∷ read) = omega arith in
          goes_on bindings input more number place end d (omega (arith, within, grows)) at_place
          ∙ (ap (prefixed (d ∷ [])) (behind more (omega (arith, enough, grows))
          (λ left at le enough here. subst (λ (n : ℕ). destinations_within left bindings input n at ≡ answer) (sym longer) (then left at le enough here)))
          ∙ both_prefixed d read answer)

  -- ---- all octets

  at_first : (answer : EditAnswer) → ReadsFrom 1 input answer → ReadsAs bindings input answer
  at_first (Ok read) h = h
  at_first (Err refused) h = (h.0, h.1, h.2, omega (arith, h.3), h.4)

  pub reads_told : ReadsAs bindings input (destinations_of bindings input)
  reads_told = at_first (destinations_of bindings input) (found (length input) 1 0 (omega arith) (omega arith))

  refused_at : (number : ℕ) (place : ℕ) (error : ServiceError) → place < length input → RefusesElement bindings (drop place input) error → destination_at bindings input number place ≡ Err (at_element error number)
  refused_at number place error lt (inl h) = go (element_at input place) refl
    where
      go : (r : Result (ElementData × ℕ) TagFault) → element_at input place ≡ r → destination_at bindings input number place ≡ Err (at_element error number)
      go (Ok x) e =
          let s = element_found input bytes place x (omega (arith, lt)) e in
          absurd (h.1.1 s.octets (drop x.1 input) x.0 s.stands.parts s.spells)
      go (Err fault) e = unread_at number place fault e ∙ ap (λ (why : ServiceError). Err (at_element why number)) (sym h.0)
  refused_at number place error lt (inr h) =
      let o = h.1 in
      let read = element_again input bytes place o.front o.element (place + length o.front) (omega (arith, lt)) o.spelled (Stands-from input place o.front o.behind o.parts) in
      outside_at number place (place + length o.front) o.element read o.none ∙ ap (λ (why : ServiceError). Err (at_element why number)) (sym h.0)

  -- octets that are refused are some
  some_left : (octets : List ℕ) (error : ServiceError) → RefusesElement bindings octets error → octets ≢ []
  some_left octets error (inl h) = h.1.0
  some_left octets error (inr h) = λ none.
      let o = h.1 in
      let grows = element_grows input bytes o.front o.element o.spelled in
      absurd (omega (arith, grows, ap length (sym o.parts ∙ none), length-append o.front o.behind))

  pub reads_only : (answer : EditAnswer) → ReadsAs bindings input answer → answer ≡ destinations_of bindings input
  reads_only (Ok read) r =
      sym (again r.elements read r.front [] (Ok []) (length input) 1 0 (omega arith) (omega arith) r.parts r.spelled r.stand (λ left at le enough none. past bindings input left (1 + length read) at (past_end at none))
      ∙ ap (λ (l : Many). Ok l) (append-nil read))
  reads_only (Err refused) h =
      sym (again h.2.elements h.0 h.2.front h.1 (Err refused) (length input) 1 0 (omega arith) (omega arith) h.2.parts h.2.spelled h.2.stand stop)
    where
      stop : (left at : ℕ) → at ≤ length input → length input ≤ at + left → drop at input ≡ h.1 → destinations_within left bindings input (1 + length h.0) at ≡ Err refused
      stop zero at le enough here =
          absurd (some_left h.1 refused.error h.4 (sym here ∙ drop_all at input (omega (arith, enough))))
      stop (suc left) at le enough here =
          let lt = not_past at (λ none. some_left h.1 refused.error h.4 (sym here ∙ none)) in
          let refuses : RefusesElement bindings (drop at input) refused.error = subst (λ (o : List ℕ). RefusesElement bindings o refused.error) (sym here) h.4 in
          let number : 1 + length h.0 ≡ refused.element = omega (arith, h.3) in
          stops bindings input left (1 + length h.0) at (at_element refused.error (1 + length h.0)) lt (refused_at (1 + length h.0) at refused.error lt refuses)
          ∙ ap (λ (n : ℕ). Err (at_element refused.error n)) number

-- ---- what a call that reads them tells

pub refused_told : {X : Type 0} (view : X → Many) (bindings : List Binding) (input : List ℕ) (all : EditAnswer) (read : Many) (more fuel number place : ℕ) (fault : EditRefusal) → all ≡ prefixed read (destinations_within fuel bindings input number place) → fuel ≡ suc more → place < length input
    → Tells (λ (x : One × ℕ). x) (λ answer. answer ≡ destination_at bindings input number place) (Err fault) → Tells view (λ answer. answer ≡ all) (Err fault)
refused_told view bindings input all read more fuel number place (Error class code element) left same lt h =
    sym (one_refused bindings input all read more number place (error_of class code element) (left ∙ ap (λ (n : ℕ). prefixed read (destinations_within n bindings input number place)) same) lt (sym h))
refused_told view bindings input all read more fuel number place NoMemory left same lt h = tt

pub more_told : (bindings : List Binding) (input : List ℕ) (all : EditAnswer) (read : Many) (more fuel number place end : ℕ) (destination : One) → all ≡ prefixed read (destinations_within fuel bindings input number place) → fuel ≡ suc more → place < length input
    → Ok (destination, end) ≡ destination_at bindings input number place → all ≡ prefixed (read ++ destination ∷ []) (destinations_within more bindings input (suc number) end)
more_told bindings input all read more fuel number place end destination left same lt h =
    one_more bindings input all read more number place end destination (left ∙ ap (λ (n : ℕ). prefixed read (destinations_within n bindings input number place)) same) lt (sym h)
