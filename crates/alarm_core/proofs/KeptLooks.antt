-- What is so of every transition at a moment and with the properties of that moment is so of each transition of an event.
use Rattle.std.proofs.Common.{ℕ, List, [], ◌∷◌, map}
use Rattle.std.specs.List.{All, flat_map}
use Rattle.std.proofs.lemmas.List.Elements.{All-nil, All-cons, All-head, All-tail, All-append}
use Rattle.enrollment.specs.Objects.{ObjectsState}
use Rattle.alarm_core.specs.declared.event.Act.{Act}
use Rattle.alarm_core.specs.declared.event.Act.TheVariants.{Tick, Write, Ack, Pump, Answer, Edit}
use Rattle.alarm_core.specs.declared.event.Event.{Event}
use Rattle.alarm_core.specs.declared.site.Site.{Site}
use Rattle.alarm_core.specs.declared.transition.ObjectTransition.{ObjectTransition}
use Rattle.alarm_core.specs.History.{ObjectState, Occurrence, StateTransition, AllEvaluated, event_looks, joined, look_transitions, looks_of, looks_transitions, object_transitions, occurrences_of, states_over, transition_of, values_after, values_with}
use Rattle.alarm_core.specs.Subjects.{detecting_subjects}

module _ (Such : StateTransition → Type 0) where
  pub joined_such : (looks : List (List StateTransition)) → All (All Such) looks → All Such (joined looks)
  joined_such [] all = All-nil Such
  joined_such (first ∷ later) all = All-append Such first (joined later) (All-head (All Such) first later all) (joined_such later (All-tail (All Such) first later all))

  -- any transition at a moment with these properties
  abbrev pub GivesSuch : ℕ → ObjectsState → Type 0
  GivesSuch moment values = (states : List ObjectState) (transition : ObjectTransition) → Such (transition_of moment values states transition)

  mapped_such : (moment : ℕ) (values : ObjectsState) (states : List ObjectState) (transitions : List ObjectTransition) → GivesSuch moment values → All Such (map (transition_of moment values states) transitions)
  mapped_such moment values states [] gives = All-nil Such
  mapped_such moment values states (transition ∷ transitions) gives =
      All-cons Such (transition_of moment values states transition) (map (transition_of moment values states) transitions) (gives states transition) (mapped_such moment values states transitions gives)

  looks_such : (site : Site) (moment : ℕ) (looks : List ObjectsState) (w : List Occurrence) → All (GivesSuch moment) looks → All (All Such) (looks_transitions site moment looks w)
  looks_such site moment [] w all = All-nil (All Such)
  looks_such site moment (values ∷ later) w all =
      let now = AllEvaluated moment values ∷ w in
      All-cons (All Such) (look_transitions site moment values w) (looks_transitions site moment later now)
      (mapped_such moment values (states_over site now) (flat_map (object_transitions site moment values w) (detecting_subjects site)) (All-head (GivesSuch moment) values later all))
      (looks_such site moment later now (All-tail (GivesSuch moment) values later all))

  act_looks : (moment : ℕ) (act : Act) (values : ObjectsState) → GivesSuch moment values → GivesSuch moment (values_with act values) → All (GivesSuch moment) (looks_of act values)
  act_looks moment Tick values before after = All-cons (GivesSuch moment) values [] before (All-nil (GivesSuch moment))
  act_looks moment (Write change) values before after =
      let now = values_with (Write change) values in
      All-cons (GivesSuch moment) values (now ∷ []) before (All-cons (GivesSuch moment) now [] after (All-nil (GivesSuch moment)))
  act_looks moment (Ack object transition named) values before after = All-nil (GivesSuch moment)
  act_looks moment Pump values before after = All-nil (GivesSuch moment)
  act_looks moment (Answer peer invoke kind) values before after = All-nil (GivesSuch moment)
  act_looks moment (Edit number recipients) values before after = All-nil (GivesSuch moment)

  pub event_such : (site : Site) (event : Event) (older : List Event) → GivesSuch event.moment (values_after site older) → GivesSuch event.moment (values_after site (event ∷ older)) →
      All (All Such) (event_looks site event older)
  event_such site event older before after =
      looks_such site event.moment (looks_of event.act (values_after site older)) (occurrences_of site older) (act_looks event.moment event.act (values_after site older) before after)
