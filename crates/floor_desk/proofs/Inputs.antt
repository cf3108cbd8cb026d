-- What an input makes of a floor, part by part.
use Rattle.std.proofs.Common.{◌≡◌, ℕ, ◌+◌, List, [], ◌∷◌, ◌++◌, refl, sym, ap, ◌∙◌, subst, arith, append_assoc}
use Rattle.std.specs.Prelude.{Option, Some, None, Result, Ok, Err, is_some, true, false}
use Rattle.std.specs.List.{flat_map}
use Rattle.std.proofs.lemmas.List.{append-nil}
use Rattle.std.proofs.lemmas.List.Concat.{flat_map-append}
use Rattle.std.proofs.lemmas.List.Elements.{All-cons, All-nil}
use Rattle.bac_values.specs.declared.input.SetFault.{SetFault}
use Rattle.bac_values.specs.declared.note.Send.{Send}
use Rattle.alarm_core.specs.Allowed.{Represents}
use Rattle.alarm_core.specs.CoreSteps.{next_sends, next_state}
use Rattle.alarm_core.specs.Fits.{FitsEvent}
use Rattle.alarm_core.specs.State.{CoreState}
use Rattle.alarm_core.specs.declared.event.Event.{Event}
use Rattle.alarm_core.specs.declared.event.StepFault.{StepFault}
use Rattle.alarm_core.specs.declared.event.StepFault.TheVariants as faults
use Rattle.service_desk.specs.Answers.{Refused, Replied, Unchanged, Ignored, entering, if_owed}
use Rattle.state_codec.specs.Records.{HasRecord, written_event}
use Rattle.floor_desk.specs.declared.entry.Kind.TheVariants as kinds
use Rattle.floor_desk.specs.declared.entry.Ticket.{Ticket}
use Rattle.floor_desk.specs.declared.faults.EnterFault.TheVariants as enters
use Rattle.floor_desk.specs.MovesSteps.{CameOf}
use Rattle.floor_desk.specs.Owed.{sends_of}
use Rattle.floor_desk.specs.declared.pending.Owed.{Owed}
use Rattle.floor_desk.specs.States.{FloorState}

-- what is owed, and more of it
pub one_more : (waiting : List Owed) (owed : Owed) → flat_map sends_of (waiting ++ owed ∷ []) ≡ flat_map sends_of waiting ++ sends_of owed
one_more waiting owed = flat_map-append sends_of waiting (owed ∷ []) ∙ ap (λ (l : List Send). flat_map sends_of waiting ++ l) (append-nil (sends_of owed))

pub two_more : (waiting : List Owed) (owed other : Owed) → flat_map sends_of ((waiting ++ owed ∷ []) ++ other ∷ []) ≡ flat_map sends_of waiting ++ (sends_of owed ++ sends_of other)
two_more waiting owed other = one_more (waiting ++ owed ∷ []) other ∙ (ap (λ (l : List Send). l ++ sends_of other) (one_more waiting owed) ∙ append_assoc (flat_map sends_of waiting) (sends_of owed) (sends_of other))

-- a call is counted where it owes a datagram
abbrev pub IsCounted : Option Send → ℕ → ℕ → Type 0
IsCounted None before now = now ≡ before
IsCounted (Some send) before now = now ≡ before + 1

-- whether something is owed
pub none_owed : (reply : Option Send) → is_some reply ≡ false → if_owed reply ≡ []
none_owed None none = refl
none_owed (Some send) none = cc

pub counted_none : (reply : Option Send) (before now : ℕ) → is_some reply ≡ false → now ≡ before → IsCounted reply before now
counted_none None before now none same = same
counted_none (Some send) before now none same = absurd cc

pub counted_some : (reply : Option Send) (before now : ℕ) → is_some reply ≡ true → now ≡ before + 1 → IsCounted reply before now
counted_some None before now some more = absurd cc
counted_some (Some send) before now some more = more

module _ {G : Type 0} where
  -- a floor with these parts
  abbrev pub with_parts : FloorState G → CoreState → List ℕ → List Send → ℕ → FloorState G
  with_parts floor core records sends calls = record floor { core = core; records = records; sends = sends; calls = calls }

  pub same_parts : (floor : FloorState G) (core core' : CoreState) (records records' : List ℕ) (sends sends' : List Send) (calls calls' : ℕ) → core ≡ core' → records ≡ records' → sends ≡ sends' → calls ≡ calls' → with_parts floor core records sends calls ≡ with_parts floor core' records' sends' calls'
  same_parts floor core core' records records' sends sends' calls calls' a b c d = λ i. with_parts floor (a i) (b i) (c i) (d i)

  -- nothing changes
  unchanged : (floor : FloorState G) → floor ≡ with_parts floor floor.core (floor.records ++ []) (floor.sends ++ []) (floor.calls + 0)
  unchanged floor = same_parts floor floor.core floor.core floor.records (floor.records ++ []) floor.sends (floor.sends ++ []) floor.calls (floor.calls + 0) refl (sym (append-nil floor.records)) (sym (append-nil floor.sends)) (omega arith)

  pub comes_ignored : (floor : FloorState G) → CameOf floor floor Ignored (Ok record { number = floor.core.events; kind = kinds.Ignored })
  comes_ignored floor = (record { with_it = unchanged floor; enters = record { recorded = All-nil HasRecord; fit = All-nil FitsEvent; stands = λ history stands. stands } }, refl)

  pub comes_unchanged : (floor : FloorState G) → CameOf floor floor Unchanged (Ok record { number = floor.core.events; kind = kinds.Idle })
  comes_unchanged floor = (record { with_it = unchanged floor; enters = record { recorded = All-nil HasRecord; fit = All-nil FitsEvent; stands = λ history stands. stands } }, refl)

  pub comes_refused : (floor : FloorState G) (why : SetFault) → CameOf floor floor (Refused why) (Ok record { number = floor.core.events; kind = kinds.Refused why })
  comes_refused floor why = (record { with_it = unchanged floor; enters = record { recorded = All-nil HasRecord; fit = All-nil FitsEvent; stands = λ history stands. stands } }, refl)

  -- a reply is owed
  pub comes_replied : (floor : FloorState G) (send : Send) (records : List ℕ) (sends : List Send) (calls : ℕ) → records ≡ floor.records → sends ≡ floor.sends ++ send ∷ [] → calls ≡ floor.calls + 1
      → CameOf floor (with_parts floor floor.core records sends calls) (Replied send) (Ok record { number = floor.core.events; kind = kinds.Replied })
  comes_replied floor send records sends calls a b c = (
    record {
      with_it = same_parts floor floor.core floor.core records (floor.records ++ []) sends (floor.sends ++ send ∷ []) calls (floor.calls + 1) refl (a ∙ sym (append-nil floor.records)) b c;
      enters = record { recorded = All-nil HasRecord; fit = All-nil FitsEvent; stands = λ history stands. stands };
    },
    refl,
  )

  -- an event is entered
  pub comes_entered : (floor : FloorState G) (event : Event) (reply full : Option Send) (verdict : Result (Unit {0}) StepFault) (core : CoreState) (records : List ℕ) (sends : List Send) (calls : ℕ) (ticket : Ticket) → verdict ≡ Ok tt
      → HasRecord event → FitsEvent event → ((history : List Event) → Represents floor.core history → Represents core (event ∷ history))
      → core ≡ next_state event floor.core → records ≡ floor.records ++ written_event event → sends ≡ floor.sends ++ (next_sends event floor.core ++ if_owed reply) → calls ≡ floor.calls + 1 → ticket ≡ record { number = core.events; kind = kinds.Entered }
      → CameOf floor (with_parts floor core records sends calls) (entering event reply full verdict) (Ok ticket)
  comes_entered floor event reply full verdict core records sends calls ticket fits has types stands a b c d of =
      subst (λ (v : Result (Unit {0}) StepFault). CameOf floor (with_parts floor core records sends calls) (entering event reply full v) (Ok ticket)) (sym fits) (
        record {
          with_it = same_parts floor core (next_state event floor.core) records (floor.records ++ (written_event event ++ [])) sends (floor.sends ++ (next_sends event floor.core ++ if_owed reply)) calls (floor.calls + 1) a (b ∙ ap (λ (l : List ℕ). floor.records ++ l) (sym (append-nil (written_event event)))) c d;
          enters = record {
            recorded = All-cons HasRecord event [] has (All-nil HasRecord);
            fit = All-cons FitsEvent event [] types (All-nil FitsEvent);
            stands = λ history before. subst (λ (s : CoreState). Represents s (event ∷ history)) a (stands history before);
          };
        },
        of ∙ ap (λ (s : CoreState). record { number = s.events; kind = kinds.Entered }) a,
      )

  -- its notifications don't fit, and the requester is told
  pub comes_full : (floor : FloorState G) (event : Event) (reply full : Option Send) (verdict : Result (Unit {0}) StepFault) (would limit : ℕ) (core : CoreState) (records : List ℕ) (sends : List Send) (calls : ℕ) → verdict ≡ Err (faults.Full would limit) → core ≡ floor.core
      → records ≡ floor.records → sends ≡ floor.sends ++ if_owed full → IsCounted full floor.calls calls → CameOf floor (with_parts floor core records sends calls) (entering event reply full verdict) (Err (enters.Full would limit))
  comes_full floor event reply None verdict would limit core records sends calls full a b c d =
      subst (λ (v : Result (Unit {0}) StepFault). CameOf floor (with_parts floor core records sends calls) (entering event reply None v) (Err (enters.Full would limit))) (sym full) (
        record {
          with_it = same_parts floor core floor.core records (floor.records ++ []) sends (floor.sends ++ []) calls (floor.calls + 0) a (b ∙ sym (append-nil floor.records)) c (omega (arith, d));
          enters = record { recorded = All-nil HasRecord; fit = All-nil FitsEvent; stands = λ history stands. stands };
        },
        None,
        refl,
      )
  comes_full floor event reply (Some send) verdict would limit core records sends calls full a b c d =
      subst (λ (v : Result (Unit {0}) StepFault). CameOf floor (with_parts floor core records sends calls) (entering event reply (Some send) v) (Err (enters.Full would limit))) (sym full) (
        record {
          with_it = same_parts floor core floor.core records (floor.records ++ []) sends (floor.sends ++ send ∷ []) calls (floor.calls + 1) a (b ∙ sym (append-nil floor.records)) c d;
          enters = record { recorded = All-nil HasRecord; fit = All-nil FitsEvent; stands = λ history stands. stands };
        },
        Some send,
        refl,
      )
