-- The texts of transitions as they are read (ANSI/ASHRAE 135-2020, 12.12, Event_Message_Texts and Event_Message_Texts_Config): arrays of three, for to-offnormal, to-fault and to-normal.
use Rattle.std.specs.Prelude.{ℕ, Option, Some, None, List, [], map, slice_get, slice_index_or}
use Rattle.bac_values.specs.EventStates.{place_of_transition}
use Rattle.bac_values.specs.declared.event_state.EventState.{EventState}
use Rattle.bac_values.specs.declared.transition.Transition.{Transition}
use Rattle.bac_values.specs.declared.value.Value.TheVariants as values
use Rattle.bac_tags.specs.Writing.{written_value}
use Rattle.event_machine.specs.Summary.{transitions}
use Rattle.property_values.specs.declared.content.Content.{Content}
use Rattle.property_values.specs.declared.content.Content.TheVariants.{Elements}

-- the text for a kind of transition, which is empty where there is none
abbrev pub or_empty : Option (List ℕ) → List ℕ
or_empty (Some text) = text
or_empty None = []

abbrev pub text_for : List (List ℕ) → Transition → List ℕ
text_for texts transition = or_empty (slice_get texts (place_of_transition transition))

-- three texts as an array
abbrev pub written_text : List ℕ → List ℕ
written_text text = written_value (values.Text text)

abbrev pub array_of_texts : List (List ℕ) → Content
array_of_texts texts = Elements (map (λ transition. written_text (text_for texts transition)) transitions)

-- the text of a transition that came, for which the last state that it entered is known; an empty one of a transition that never came
abbrev pub text_if_came : Option EventState → List ℕ → List ℕ
text_if_came (Some state) text = text
text_if_came None text = []

abbrev pub texts_that_came : List (Option EventState) → List (List ℕ) → List (List ℕ)
texts_that_came last_states texts = map (λ transition. text_if_came (slice_index_or last_states (place_of_transition transition) None) (text_for texts transition)) transitions
