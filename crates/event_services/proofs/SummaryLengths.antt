-- How many octets the parts of a summary have.
use Rattle.std.proofs.Common.{◌≡◌, ℕ, suc, ◌+◌, ◌*◌, ◌<◌, Bool, true, false, Some, None, List, [], ◌∷◌, ◌++◌, length, take, drop, refl, ap, ◌∙◌, arith}
use Rattle.std.specs.Prelude.{flat_map}
use Rattle.std.proofs.lemmas.Bool.{lt-ltb}
use Rattle.std.proofs.lemmas.List.{length-append, length-take, length-drop}
use Rattle.bac_values.specs.EventStates.{number_of_state}
use Rattle.bac_values.specs.Identifier.{ObjectIdData}
use Rattle.bac_values.specs.declared.event_state.EventState.{EventState}
use Rattle.bac_values.specs.declared.event_state.EventState.TheVariants.{Normal, Fault, Offnormal, HighLimit, LowLimit}
use Rattle.bac_values.specs.declared.stamp.Stamp.{Stamp}
use Rattle.bac_tags.specs.Writing.{written_tag, written_element, written_unsigned, written_object, written_boolean, written_bits}
use Rattle.bac_tags.specs.EnclosingTags.{opening, closing}
use Rattle.event_services.specs.declared.information.EventSummary.{EventSummary}
use Rattle.bac_tags.specs.ParameterWriting.{written_enclosed}
use Rattle.bac_values.specs.BitString.{string_of_flags}
use Rattle.event_services.specs.Information.{written_moment, written_state, written_notifying, written_summary}

pub object_length : (id : ObjectIdData) → length (written_object (Some 0) id) ≡ 5
unfolding written_tag
object_length id = refl

pub state_length : (state : EventState) → length (written_unsigned (Some 1) (number_of_state state)) ≡ 2
unfolding written_tag
state_length Normal = refl
state_length Fault = refl
state_length Offnormal = refl
state_length HighLimit = refl
state_length LowLimit = refl

pub notify_length : (n : ℕ) → n < 256 → length (written_unsigned (Some 4) n) ≡ 2
unfolding written_tag
notify_length n lt = rw (lt-ltb n 256 lt) refl

pub number_length : (n : ℕ) → n < 256 → length (written_unsigned None n) ≡ 2
unfolding written_tag
number_length n lt = rw (lt-ltb n 256 lt) refl

pub acked_length : (flags : List Bool) → length flags ≡ 3 → length (written_bits (Some 2) (string_of_flags flags)) ≡ 3
unfolding written_tag
acked_length flags three = rw three refl

pub enable_length : (flags : List Bool) → length flags ≡ 3 → length (written_bits (Some 5) (string_of_flags flags)) ≡ 3
unfolding written_tag
enable_length flags three = rw three refl

date_length : (content : List ℕ) → length content ≡ 4 → length (written_element 10 None content) ≡ 5
unfolding written_tag
date_length content four = rw four (ap suc four)

time_length : (content : List ℕ) → length content ≡ 4 → length (written_element 11 None content) ≡ 5
unfolding written_tag
time_length content four = rw four (ap suc four)

tag_lengths : (length (written_tag (opening 2)) ≡ 1) × (length (written_tag (closing 2)) ≡ 1)
unfolding written_tag
tag_lengths = (refl, refl)

pub moment_length : (stamp : Stamp) → length stamp.octets ≡ 8 → length (written_moment stamp) ≡ 12
moment_length stamp eight =
    let date = date_length (take 4 stamp.octets) (omega (arith, length-take 4 stamp.octets, eight)) in
    let time = time_length (drop 4 stamp.octets) (omega (arith, length-drop 4 stamp.octets, eight)) in
    parts (written_tag (opening 2)) (written_element 10 None (take 4 stamp.octets)) (written_element 11 None (drop 4 stamp.octets)) (written_tag (closing 2)) tag_lengths.0 date time tag_lengths.1
  where
    parts : (a b c d : List ℕ) → length a ≡ 1 → length b ≡ 5 → length c ≡ 5 → length d ≡ 1 → length (a ++ (b ++ c) ++ d) ≡ 12
    parts a b c d la lb lc ld = omega (arith, length-append (a ++ (b ++ c)) d, length-append a (b ++ c), length-append b c)

enclosed_length : (inside : List ℕ) → (length (written_enclosed 3 inside) ≡ 2 + length inside) × (length (written_enclosed 6 inside) ≡ 2 + length inside) × (length (written_enclosed 0 inside) ≡ 2 + length inside)
unfolding written_tag
enclosed_length inside = (omega (arith, length-append inside (63 ∷ [])), omega (arith, length-append inside (111 ∷ [])), omega (arith, length-append inside (15 ∷ [])))

pub state_part : (summary : EventSummary) → length summary.acked ≡ 3 → length (written_state summary) ≡ 10
state_part summary three =
    omega (arith, length-append (written_object (Some 0) summary.object ++ written_unsigned (Some 1) (number_of_state summary.state)) (written_bits (Some 2) (string_of_flags summary.acked)), length-append (written_object (Some 0) summary.object) (written_unsigned (Some 1) (number_of_state summary.state)), object_length summary.object, state_length summary.state, acked_length summary.acked three)

pub notifying_part : (summary : EventSummary) → summary.notify < 256 → length summary.enable ≡ 3 → length (written_notifying summary) ≡ 5
notifying_part summary lt three =
    omega (arith, length-append (written_unsigned (Some 4) summary.notify) (written_bits (Some 5) (string_of_flags summary.enable)), notify_length summary.notify lt, enable_length summary.enable three)

pub stamps_part : (stamps : List Stamp) → length (flat_map written_moment stamps) ≡ 12 * length stamps → length (written_enclosed 3 (flat_map written_moment stamps)) ≡ 2 + 12 * length stamps
stamps_part stamps h = (enclosed_length (flat_map written_moment stamps)).0 ∙ ap (λ (n : ℕ). 2 + n) h

pub priorities_part : (priorities : List ℕ) → length (flat_map (written_unsigned None) priorities) ≡ 2 * length priorities → length (written_enclosed 6 (flat_map (written_unsigned None) priorities)) ≡ 2 + 2 * length priorities
priorities_part priorities h = (enclosed_length (flat_map (written_unsigned None) priorities)).1 ∙ ap (λ (n : ℕ). 2 + n) h

pub summary_part : (summary : EventSummary) → length (written_state summary) ≡ 10 → length (written_enclosed 3 (flat_map written_moment summary.stamps)) ≡ 2 + 12 * length summary.stamps → length (written_notifying summary) ≡ 5
    → length (written_enclosed 6 (flat_map (written_unsigned None) summary.priority)) ≡ 2 + 2 * length summary.priority → length summary.stamps ≡ 3 → length summary.priority ≡ 3 → length (written_summary summary) ≡ 61
summary_part summary a b c d stamps priorities = parts (written_state summary) (written_enclosed 3 (flat_map written_moment summary.stamps)) (written_notifying summary) (written_enclosed 6 (flat_map (written_unsigned None) summary.priority)) a (b ∙ ap (λ (n : ℕ). 2 + 12 * n) stamps) c (d ∙ ap (λ (n : ℕ). 2 + 2 * n) priorities)
  where
    parts : (a b c d : List ℕ) → length a ≡ 10 → length b ≡ 38 → length c ≡ 5 → length d ≡ 8 → length (a ++ b ++ c ++ d) ≡ 61
    parts a b c d la lb lc ld = omega (arith, length-append (a ++ b ++ c) d, length-append (a ++ b) c, length-append a b)

more_length : (more : Bool) → length (written_boolean (Some 1) more) ≡ 2
unfolding written_tag
more_length true = refl
more_length false = refl

pub information_part : (summaries : List EventSummary) (more : Bool) → length (flat_map written_summary summaries) ≡ 61 * length summaries → length (written_enclosed 0 (flat_map written_summary summaries) ++ written_boolean (Some 1) more) ≡ 4 + 61 * length summaries
information_part summaries more h =
    omega (arith, length-append (written_enclosed 0 (flat_map written_summary summaries)) (written_boolean (Some 1) more), more_length more, (enclosed_length (flat_map written_summary summaries)).2, h)
