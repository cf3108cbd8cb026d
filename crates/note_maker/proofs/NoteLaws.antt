-- The notes of the first recipients of a list, and of one more; and to whom they go.
use Rattle.std.proofs.Common.{◌≡◌, ℕ, ◌+◌, ◌<◌, ◌≤◌, Bool, true, false, cond, List, [], ◌∷◌, ◌++◌, length, take, map, get_or, All, Contains, sym, ap, subst, ◌∙◌}
use Rattle.std.specs.Prelude.{filter}
use Rattle.std.proofs.lemmas.List.{append-nil, get_or-map, length-map, map-append, take_all}
use Rattle.std.proofs.lemmas.List.Elements.{All-filter, All-map, filter_more}
use Rattle.bac_values.specs.declared.note.Note.{Note}
use Rattle.bac_values.specs.declared.transition.Transition.{Transition}
use Rattle.civil_stamp.specs.LocalTime.{ZoneData}
use Rattle.notify_class.specs.Edits.{recipient_peers}
use Rattle.notify_class.specs.Recipients.{DestinationData}
use Rattle.notify_class.specs.Windows.{is_in_window}
use Rattle.event_services.specs.declared.notification.Notification.{Notification}
use Rattle.note_maker.specs.Notes.{note_to, notes_for}

-- one more recipient, that is to be notified or not
more : (facts : Notification) (recipients : List DestinationData) (transition : Transition) (moment : ℕ) (zone : ZoneData) (i : ℕ) (d : DestinationData) (test : Bool) → i < length recipients → is_in_window (get_or recipients i d) transition moment zone ≡ test
    → notes_for facts (take (i + 1) recipients) transition moment zone ≡ notes_for facts (take i recipients) transition moment zone ++ map (note_to facts) (cond test (get_or recipients i d ∷ []) [])
more facts recipients transition moment zone i d test lt e =
    ap (map (note_to facts)) (filter_more (λ recipient. is_in_window recipient transition moment zone) recipients i d lt)
    ∙ map-append (note_to facts) (filter (λ recipient. is_in_window recipient transition moment zone) (take i recipients)) (cond (is_in_window (get_or recipients i d) transition moment zone) (get_or recipients i d ∷ []) [])
    ∙ ap (λ (b : Bool). notes_for facts (take i recipients) transition moment zone ++ map (note_to facts) (cond b (get_or recipients i d ∷ []) [])) e

-- a recipient that is notified has its note behind the others
pub notified : (facts : Notification) (recipients : List DestinationData) (transition : Transition) (moment : ℕ) (zone : ZoneData) (i : ℕ) (recipient : DestinationData) (note : Note) (notes now : List Note)
    → i < length recipients → recipient ≡ get_or recipients i recipient → is_in_window recipient transition moment zone ≡ true → note ≡ note_to facts recipient
    → notes ≡ notes_for facts (take i recipients) transition moment zone → now ≡ notes ++ note ∷ [] → now ≡ notes_for facts (take (i + 1) recipients) transition moment zone
notified facts recipients transition moment zone i recipient note notes now lt there used is made added =
    added
    ∙ ap (λ (front : List Note). front ++ note ∷ []) made
    ∙ ap (λ (x : Note). notes_for facts (take i recipients) transition moment zone ++ x ∷ []) (is ∙ ap (note_to facts) there)
    ∙ sym (more facts recipients transition moment zone i recipient true lt (ap (λ (r : DestinationData). is_in_window r transition moment zone) (sym there) ∙ used))

-- and one that isn't has none
pub passed_over : (facts : Notification) (recipients : List DestinationData) (transition : Transition) (moment : ℕ) (zone : ZoneData) (i : ℕ) (recipient : DestinationData) (notes : List Note)
    → i < length recipients → recipient ≡ get_or recipients i recipient → is_in_window recipient transition moment zone ≡ false
    → notes ≡ notes_for facts (take i recipients) transition moment zone → notes ≡ notes_for facts (take (i + 1) recipients) transition moment zone
passed_over facts recipients transition moment zone i recipient notes lt there unused made =
    made
    ∙ sym (append-nil (notes_for facts (take i recipients) transition moment zone))
    ∙ sym (more facts recipients transition moment zone i recipient false lt (ap (λ (r : DestinationData). is_in_window r transition moment zone) (sym there) ∙ unused))

listed : (recipients : List DestinationData) → All (λ (recipient : DestinationData). Contains (recipient_peers recipients) recipient.peer) recipients
listed recipients k d lt =
    (k, rw length-map lt, get_or-map (λ (recipient : DestinationData). recipient.peer) recipients k d (get_or recipients k d).peer lt)

-- each note goes to the peer of a recipient
pub to_recipients : (facts : Notification) (recipients : List DestinationData) (transition : Transition) (moment : ℕ) (zone : ZoneData)
    → All (λ (note : Note). Contains (recipient_peers recipients) note.peer) (notes_for facts recipients transition moment zone)
to_recipients facts recipients transition moment zone =
    let test : DestinationData → Bool = λ recipient. is_in_window recipient transition moment zone in
    All-map (λ (note : Note). Contains (recipient_peers recipients) note.peer) (note_to facts) (filter test recipients)
    (All-filter test (λ (recipient : DestinationData). Contains (recipient_peers recipients) recipient.peer) recipients (listed recipients))

-- the same of notes that were made of all the recipients
pub all_to_recipients : (facts : Notification) (items recipients : List DestinationData) (transition : Transition) (moment : ℕ) (zone : ZoneData) (i : ℕ) (notes : List Note) → items ≡ recipients → length items ≤ i → notes ≡ notes_for facts (take i items) transition moment zone
    → All (λ (note : Note). Contains (recipient_peers recipients) note.peer) notes
all_to_recipients facts items recipients transition moment zone i notes same le made =
    subst (All (λ (note : Note). Contains (recipient_peers recipients) note.peer)) (sym (made ∙ ap (λ (rs : List DestinationData). notes_for facts rs transition moment zone) (take_all i items le ∙ same)))
    (to_recipients facts recipients transition moment zone)
