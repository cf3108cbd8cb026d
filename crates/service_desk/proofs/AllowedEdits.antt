-- An edit that is entered after a history is allowed there: a list that grew is within the limits by its last test, and one out of which elements were taken since the list before it is.
use Rattle.std.proofs.Common.{◌≡◌, ◌⊎◌, ℕ, ◌*◌, ◌≤◌, ◌==◌, Bool, true, false, not, Option, Some, None, IsSome, Ok, List, [], ◌∷◌, length, refl, sym, ap, subst, ◌∙◌, arith, inl, inr, true≢false}
use Rattle.std.specs.List.{All, filter, find, sum_by}
use Rattle.std.proofs.Math.Nat.{mul-le-mul_left}
use Rattle.std.proofs.lemmas.Bool.{cases_Bool, eqb-true, le-ltb}
use Rattle.std.proofs.lemmas.List.{length-map}
use Rattle.std.proofs.lemmas.List.Elements.{All-head, All-tail}
use Rattle.std.proofs.lemmas.List.Filters.{length-filter_both, sum_by-filter_both}
use Rattle.std.proofs.lemmas.List.Sums.{sum_by-cons}
use Rattle.bac_values.specs.Address.{PeerData}
use Rattle.bac_values.specs.Limits.{most_destinations, most_peers}
use Rattle.bac_values.specs.declared.service_error.ServiceError.{ServiceError}
use Rattle.notify_class.specs.Edits.{edit_verdict, known_with, recipient_peers}
use Rattle.notify_class.specs.Recipients.{DestinationData}
use Rattle.notify_class.specs.declared.class.Class.{Class}
use Rattle.outbox.specs.Outboxes.{peers_of}
use Rattle.outbox.specs.Posts.{MailboxState}
use Rattle.list_binding.specs.Edits.{are_same, is_in}
use Rattle.list_binding.specs.EditSteps.{edit_of}
use Rattle.list_binding.specs.Requests.{ListAsked}
use Rattle.list_binding.proofs.EditLaws.{edit_kept, edit_part}
use Rattle.list_binding.proofs.SameLists.{same_decides}
use Rattle.alarm_core.specs.declared.event.Act.TheVariants.{Edit}
use Rattle.alarm_core.specs.declared.event.Event.{Event}
use Rattle.alarm_core.specs.declared.site.Site.{Site}
use Rattle.alarm_core.specs.Allowed.{IsAllowed, IsHistory, members_of, room_beside}
use Rattle.alarm_core.specs.Classes.{class_in, classes_after}
use Rattle.alarm_core.specs.Contents.{recipients_of}
use Rattle.alarm_core.specs.Deliveries.{outbox_after}
use Rattle.alarm_core.specs.Known.{Knows, KnowsClass}
use Rattle.alarm_core.specs.ListLimits.{HasFew}
use Rattle.alarm_core.specs.Room.{members_at, share_at}
use Rattle.alarm_core.specs.Sites.{IsSite}
use Rattle.alarm_core.specs.State.{CoreState, state_of}
use Rattle.alarm_core.proofs.KeptClasses.{lists_kept, peers_kept_few}
use Rattle.alarm_core.proofs.KeptOutbox.{recipients_known}
use Rattle.service_desk.specs.ListDecisions.{answer_unless, class_answer, limits_in, list_answer, list_in, property_error}

abbrev Many : Type 0
Many = List DestinationData

-- ---- a class that is there

find_by : (P : Class → Type 0) (test : Class → Bool) (class : Class) (classes : List Class) (found : Class) → find test (class ∷ classes) ≡ Some found →
    (test class ≡ true → class ≡ found → P found) → (test class ≡ false → find test classes ≡ Some found → P found) → P found
find_by P test class classes found e here later =
    elim (cases_Bool (test class)) [
      | inl hit ↦ here hit (let first : Some class ≡ Some found = rw hit at e in cc)
      | inr miss ↦ later miss (rw miss at e)
    ]

all_found : (P : Class → Type 0) (test : Class → Bool) (classes : List Class) (class : Class) → All P classes → find test classes ≡ Some class → P class
all_found P test [] class all e = absurd cc
all_found P test (one ∷ classes) class all e =
    find_by P test one classes class e (λ hit same. subst P same (All-head P one classes all)) (λ miss rest. all_found P test classes class (All-tail P one classes all) rest)

test_found : (test : Class → Bool) (classes : List Class) (class : Class) → find test classes ≡ Some class → test class ≡ true
test_found test [] class e = absurd cc
test_found test (one ∷ classes) class e = find_by (λ c. test c ≡ true) test one classes class e (λ hit same. subst (λ (c : Class). test c ≡ true) same hit) (λ miss rest. test_found test classes class rest)

share_found : (f : Class → ℕ) (test : Class → Bool) (classes : List Class) (class : Class) → find test classes ≡ Some class → f class ≤ sum_by f (filter test classes)
share_found f test [] class e = absurd cc
share_found f test (one ∷ classes) class e =
    find_by (λ c. f c ≤ sum_by f (filter test (one ∷ classes))) test one classes class e
    (λ hit same. rw hit (omega (arith, sum_by-cons f one (filter test classes), ap f same)))
    (λ miss rest. rw miss (share_found f test classes class rest))

-- ---- a list out of which elements were taken

known_still : (known : List PeerData) (test : DestinationData → Bool) (list : Many) → All (Knows known) (recipient_peers list) → known_with known (recipient_peers (filter test list)) ≡ known
known_still known test [] all = refl
known_still known test (one ∷ list) all =
    let later = known_still known test list (All-tail (Knows known) one.peer (recipient_peers list) all) in
    elim (cases_Bool (test one)) [
      | inl stays ↦ rw (stays, All-head (Knows known) one.peer (recipient_peers list) all) later
      | inr goes ↦ rw goes later
    ]

no_longer : (test : DestinationData → Bool) (list : Many) → length (filter test list) ≤ length list
no_longer test list = omega (arith, length-filter_both test (λ one. not (test one)) (λ one. refl) list)

verdict_within : (known : List PeerData) (recipients : Many) (members room : ℕ) → length recipients ≤ most_destinations → length (known_with known (recipient_peers recipients)) ≤ most_peers → members * length recipients ≤ room →
    edit_verdict known recipients members room ≡ Ok tt
verdict_within known recipients members room few peers notes =
    rw (le-ltb most_destinations (length recipients) few, le-ltb most_peers (length (known_with known (recipient_peers recipients))) peers, le-ltb room (members * length recipients) notes) refl

module _ (site : Site) (is : IsSite site) (history : List Event) (h : IsHistory site history) (number : ℕ) (class : Class) (there : class_in number (classes_after site history) ≡ Some class) where
  abbrev state : CoreState
  state = state_of site history

  is_number : Class → Bool
  is_number other = other.instance == number

  -- its own share and those of the others are no more than the outbox has
  own_room : members_of state number * length class.destinations ≤ room_beside state number
  unfolding is_number
  own_room =
      let classes = classes_after site history in
      let share = share_at site in
      let keep = lists_kept site is history h in
      let own = share_found share is_number classes class there in
      let parted = sum_by-filter_both is_number (λ other. not (is_number other)) (λ other. refl) share classes in
      let same : class.instance ≡ number = eqb-true class.instance number (test_found is_number classes class there) in
      let mine : share class ≡ members_at site number * length class.destinations = ap (λ (n : ℕ). members_at site n * length class.destinations) same in
      omega (arith, own, parted, mine, keep.room)

  removed_within : (test : DestinationData → Bool) → edit_verdict (peers_of (outbox_after site history).posts) (filter test class.destinations) (members_of state number) (room_beside state number) ≡ Ok tt
  unfolding is_number
  removed_within test =
      let known = peers_of (outbox_after site history).posts in
      let classes = classes_after site history in
      let left = filter test class.destinations in
      let few = all_found HasFew is_number classes class (lists_kept site is history h).few there in
      let knows = all_found (KnowsClass known) is_number classes class (recipients_known site history) there in
      let shorter = no_longer test class.destinations in
      let peers : length known ≤ most_peers = subst (λ (n : ℕ). n ≤ most_peers) (sym (length-map (outbox_after site history).posts (λ (post : MailboxState). post.peer))) (peers_kept_few site is history h) in
      verdict_within known left (members_of state number) (room_beside state number) (omega (arith, shorter, few)) (subst (λ (ps : List PeerData). length ps ≤ most_peers) (sym (known_still known test class.destinations knows)) peers)
      (omega (arith, mul-le-mul_left (members_of state number) shorter, own_room))

  within_by : (left : Many) → (left ≡ class.destinations) ⊎ (edit_verdict (peers_of (outbox_after site history).posts) left (members_of state number) (room_beside state number) ≡ Ok tt) → are_same left class.destinations ≡ false →
      edit_verdict (peers_of (outbox_after site history).posts) left (members_of state number) (room_beside state number) ≡ Ok tt
  within_by left (inl same) other = absurd (true≢false (sym ((same_decides left class.destinations).1 same) ∙ other))
  within_by left (inr within) other = within

  list_within : (adding : Bool) (elements : List ℕ) (left : Many) → edit_of (limits_in state number) site.bindings class.destinations adding elements ≡ Ok left → are_same left class.destinations ≡ false →
      edit_verdict (peers_of (outbox_after site history).posts) left (members_of state number) (room_beside state number) ≡ Ok tt
  list_within true elements left e other = within_by left (edit_kept (limits_in state number) site.bindings class.destinations left elements e) other
  list_within false elements left e other =
      let part = edit_part (limits_in state number) site.bindings class.destinations left elements e in
      subst (λ (l : Many). edit_verdict (peers_of (outbox_after site history).posts) l (members_of state number) (room_beside state number) ≡ Ok tt) (sym part.1) (removed_within (λ one. not (is_in part.0 one)))

  is_there : IsSome (class_in number (classes_after site history))
  is_there = rw there refl

-- what the edits of a state enter is allowed
abbrev pub AllowsEdits : CoreState → Type 0
AllowsEdits state = (adding : Bool) (asked : ListAsked) (left : Many) → list_answer state adding asked ≡ Ok left → are_same left (list_in state asked.object.instance) ≡ false → IsAllowed state (Edit asked.object.instance left)

module _ (site : Site) (is : IsSite site) (history : List Event) (h : IsHistory site history) (number : ℕ) (adding : Bool) (elements : List ℕ) (left : Many) where
  of_class : (class : Option Class) → class_in number (classes_after site history) ≡ class → class_answer (state_of site history) number adding elements class ≡ Ok left → are_same left (recipients_of class) ≡ false →
      IsAllowed (state_of site history) (Edit number left)
  of_class (Some class) there e other = (is_there site is history h number class there, list_within site is history h number class there adding elements left e other)
  of_class None there e other = absurd cc

  unless_refused : (error : Option ServiceError) → answer_unless (state_of site history) number adding elements error ≡ Ok left → are_same left (list_in (state_of site history) number) ≡ false → IsAllowed (state_of site history) (Edit number left)
  unless_refused (Some error) e other = absurd cc
  unless_refused None e other = of_class (class_in number (classes_after site history)) refl e other

pub edits_allowed : (site : Site) → IsSite site → (history : List Event) → IsHistory site history → AllowsEdits (state_of site history)
edits_allowed site is history h adding asked left e other =
    unless_refused site is history h asked.object.instance adding asked.elements left (property_error (state_of site history) asked.object asked.property asked.index) e other
