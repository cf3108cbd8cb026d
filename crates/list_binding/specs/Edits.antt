-- Edits of a Recipient_List (ANSI/ASHRAE 135-2020, 15.1 and 15.2): the list that is left, and the first error in the order of the profile.
use Rattle.std.specs.Prelude.{◌≡◌, ◌≢◌, ℕ, ◌+◌, ◌==◌, ◌&&◌, ◌⊎◌, if◌then◌else◌, Bool, true, false, not, Some, None, List, [], ◌∷◌, ◌++◌, length, map, filter, fold, Result, Ok, Err}
use Rattle.std.specs.Bool.{beq}
use lib.Pointwise.{pointwise}
use Rattle.std.specs.List.{list_any}
use Rattle.bac_values.specs.Address.{PeerData}
use Rattle.bac_values.specs.Errors.{invalid_data_type_error, list_element_not_found_error, no_space_to_add_list_element_error, value_out_of_range_error}
use Rattle.bac_values.specs.Orders.{is_same}
use Rattle.bac_values.specs.declared.service_error.ServiceError.{ServiceError}
use Rattle.bac_tags.specs.Parameters.{SpellsEach}
use Rattle.notify_class.specs.Edits.{edit_verdict}
use Rattle.notify_class.specs.Recipients.{DestinationData}
use Rattle.notify_class.specs.declared.binding.Binding.{Binding}
use Rattle.list_binding.specs.Elements.{ElementData, SpellsDestination, destination_of}
use Rattle.list_binding.specs.declared.limits.ListLimits.{ListLimits}
use Rattle.list_binding.specs.declared.refusal.EditRefusal.{EditRefusal}
use Rattle.list_binding.specs.declared.refusal.EditRefusal.TheVariants.{Error, NoMemory}

-- ---- the list that is left

-- two destinations are equal where all their parts are
abbrev pub is_equal : DestinationData → DestinationData → Bool
is_equal one other =
    (one.days == other.days && (one.from == other.from && one.to == other.to))
    && ((is_same one.peer other.peer && one.process == other.process)
    && (beq one.confirmed other.confirmed && pointwise beq one.transitions other.transitions))

abbrev pub is_in : List DestinationData → DestinationData → Bool
is_in list element = list_any (is_equal element) list

-- two lists are the same where their destinations are equal, one by one
abbrev pub are_same : List DestinationData → List DestinationData → Bool
are_same list others = pointwise is_equal list others

-- the list followed by an element, unless it is there
abbrev pub list_and : List DestinationData → DestinationData → List DestinationData
list_and list element = if is_in list element then list else list ++ element ∷ []

-- AddListElement: the list followed by the elements that aren't equal to one before them
abbrev pub list_with : List DestinationData → List DestinationData → List DestinationData
list_with list elements = fold list_and list elements

-- RemoveListElement: the list without those equal to an element
abbrev pub list_without : List DestinationData → List DestinationData → List DestinationData
list_without list elements = filter (λ one. not (is_in elements one)) list

-- ---- an answer

-- an error, and the number of the first element that failed, from 1
pub record ListError : Type 0 where
  pub error : ServiceError
  pub element : ℕ

-- the list that is left, or an error
abbrev pub EditAnswer : Type 0
EditAnswer = Result (List DestinationData) ListError

abbrev pub error_of : ℕ → ℕ → ℕ → ListError
error_of class code element = record { error = record { class = class; code = code }; element = element }

-- what a call told, seen by view, is an answer of which this is so, or it is want of memory, of which nothing is said
abbrev pub Tells : {X Y : Type 0} → (X → Y) → (Result Y ListError → Type 0) → Result X EditRefusal → Type 0
Tells view IsSo (Ok x) = IsSo (Ok (view x))
Tells view IsSo (Err (Error class code element)) = IsSo (Err (error_of class code element))
Tells view IsSo (Err NoMemory) = Unit {0}

-- ---- which element is the first that fails

-- none of them fails, of those before it and of itself
abbrev pub NoneFails : (List DestinationData → DestinationData → Type 0) → List DestinationData → Type 0
NoneFails Fails elements = (before : List DestinationData) (element : DestinationData) (later : List DestinationData) → elements ≡ before ++ element ∷ later → ¬ Fails before element

-- the one with a number fails, from 1, and none before it
pub record IsFirst (Fails : List DestinationData → DestinationData → Type 0) (elements : List DestinationData) (number : ℕ) : Type 0 where
  pub before : List DestinationData
  pub element : DestinationData
  pub later : List DestinationData
  pub parts : elements ≡ before ++ element ∷ later
  pub numbered : number ≡ length before + 1
  pub fails : Fails before element
  pub none_before : NoneFails Fails before

-- ---- reading the elements

-- elements stand at the front of octets, and each of them stands for a destination
pub record AreRead (bindings : List Binding) (octets : List ℕ) (read : List DestinationData) (rest : List ℕ) : Type 0 where
  pub front : List ℕ
  pub elements : List ElementData
  pub parts : octets ≡ front ++ rest
  pub spelled : SpellsEach SpellsDestination front elements
  pub stand : map (destination_of bindings) elements ≡ map (λ (destination : DestinationData). Some destination) read

-- octets that no element begins
abbrev pub IsNoElement : List ℕ → Type 0
IsNoElement octets = (octets ≢ []) × ((front behind : List ℕ) (element : ElementData) → octets ≡ front ++ behind → ¬ SpellsDestination front element)

-- an element that stands for no destination begins them
pub record IsOutside (bindings : List Binding) (octets : List ℕ) : Type 0 where
  pub front : List ℕ
  pub behind : List ℕ
  pub element : ElementData
  pub parts : octets ≡ front ++ behind
  pub spelled : SpellsDestination front element
  pub none : destination_of bindings element ≡ None

-- the first element that is none is an invalid data type, and one that stands for no destination a value out of range
abbrev pub RefusesElement : List Binding → List ℕ → ServiceError → Type 0
RefusesElement bindings octets error =
    ((error ≡ invalid_data_type_error) × IsNoElement octets) ⊎ ((error ≡ value_out_of_range_error) × IsOutside bindings octets)

-- all octets are elements that stand for these destinations; or behind some that do comes one that fails
abbrev pub ReadsAs : List Binding → List ℕ → EditAnswer → Type 0
ReadsAs bindings octets (Ok read) = AreRead bindings octets read []
ReadsAs bindings octets (Err refused) =
    (before : List DestinationData) × (rest : List ℕ) × AreRead bindings octets before rest × (refused.element ≡ length before + 1) × RefusesElement bindings rest refused.error

-- ---- adding and removing

-- the limits of the class's list
pub record LimitsData : Type 0 where
  pub known : List PeerData
  pub members : ℕ
  pub room : ℕ

abbrev pub limits_of : ListLimits → LimitsData
limits_of limits = record { known = limits.known.now; members = limits.members; room = limits.room }

abbrev pub HasRoom : LimitsData → List DestinationData → Type 0
HasRoom limits list = edit_verdict limits.known list limits.members limits.room ≡ Ok tt

-- with an element the list is longer, and above a limit
abbrev pub HasNoSpace : LimitsData → List DestinationData → List DestinationData → DestinationData → Type 0
HasNoSpace limits list before element =
    (is_in (list_with list before) element ≡ false) × ¬ HasRoom limits (list_with list before ++ element ∷ [])

-- an element isn't in the list as it was
abbrev pub IsNotFound : List DestinationData → List DestinationData → DestinationData → Type 0
IsNotFound list before element = is_in list element ≡ false

-- what adding comes to, and what removing does
abbrev pub AddsTo : LimitsData → List DestinationData → List DestinationData → EditAnswer → Type 0
AddsTo limits list elements (Ok left) = (left ≡ list_with list elements) × NoneFails (HasNoSpace limits list) elements
AddsTo limits list elements (Err refused) = (refused.error ≡ no_space_to_add_list_element_error) × IsFirst (HasNoSpace limits list) elements refused.element

abbrev pub RemovesTo : List DestinationData → List DestinationData → EditAnswer → Type 0
RemovesTo list elements (Ok left) = (left ≡ list_without list elements) × NoneFails (IsNotFound list) elements
RemovesTo list elements (Err refused) = (refused.error ≡ list_element_not_found_error) × IsFirst (IsNotFound list) elements refused.element

abbrev pub ChangesTo : LimitsData → List DestinationData → Bool → List DestinationData → EditAnswer → Type 0
ChangesTo limits list true elements answer = AddsTo limits list elements answer
ChangesTo limits list false elements answer = RemovesTo list elements answer

-- ---- the edit

-- all elements are read before any is added or removed
abbrev pub EditsTo : LimitsData → List Binding → List DestinationData → Bool → List ℕ → EditAnswer → Type 0
EditsTo limits bindings list adding octets answer =
    ((refused : ListError) × (answer ≡ Err refused) × ReadsAs bindings octets (Err refused))
    ⊎ ((elements : List DestinationData) × ReadsAs bindings octets (Ok elements) × ChangesTo limits list adding elements answer)
