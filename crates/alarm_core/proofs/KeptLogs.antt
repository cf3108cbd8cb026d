-- The logs of a site keep to what it says of them, and each of their records to what a record of it may be.
use Rattle.std.proofs.Common.{ℕ, ◌/◌, ◌-◌, ◌<◌, ◌==◌, zero, Bool, true, false, if◌then◌else◌, Option, Some, None, List, [], ◌∷◌, ◌++◌, length, sym, subst, arith}
use Rattle.std.specs.List.{All, flat_map}
use Rattle.std.specs.Option.{option_to_list}
use Rattle.std.proofs.lemmas.List.Elements.{All-nil, All-cons, All-head, All-tail, All-append, All-drop}
use Rattle.bac_values.specs.Moments.{IsMoment}
use Rattle.event_log.specs.History.{Call, Recorded, Cleared, Switched, log_after, next_log}
use Rattle.event_log.specs.Log.{EventLogState, IsLog, LoggedEvent, entry_of, is_taken, new_log, number_after, with_entry}
use Rattle.event_log.specs.declared.log_record.LogRecord.{LogRecord}
use Rattle.event_log.specs.declared.log_site.LogSite.{LogSite}
use Rattle.event_log.proofs.Looking.{log_after-next, new_after}
use Rattle.event_log.proofs.Numbering.{is_log_with_entry}
use Rattle.event_services.specs.Notifications.{written_notification}
use Rattle.notify_class.specs.declared.class.Class.{Class}
use Rattle.object_table.specs.declared.change.What.{What}
use Rattle.object_table.specs.declared.change.What.TheVariants.{Property, FieldFault}
use Rattle.object_table.specs.Rows.{is_object}
use Rattle.bac_values.specs.Properties.{enable_property, record_count_property}
use Rattle.bac_values.specs.declared.value.Value.{Value}
use Rattle.bac_values.specs.declared.value.Value.TheVariants.{Bool as Truth, Unsigned}
use Rattle.enrollment.specs.declared.subject.Subject.{Subject}
use Rattle.alarm_core.specs.declared.event.Act.{Act}
use Rattle.alarm_core.specs.declared.event.Act.TheVariants.{Tick, Write, Ack, Pump, Answer, Edit}
use Rattle.alarm_core.specs.declared.event.Event.{Event}
use Rattle.alarm_core.specs.declared.site.Site.{Site}
use Rattle.alarm_core.specs.Allowed.{IsHistory}
use Rattle.alarm_core.specs.Classes.{classes_after}
use Rattle.alarm_core.specs.Evaluations.{site_stamp}
use Rattle.alarm_core.specs.Fits.{FitsEvent}
use Rattle.alarm_core.specs.History.{StateTransition, event_looks, joined, values_after}
use Rattle.alarm_core.specs.Logs.{behind, call_of_act, call_of_value, call_of_what, calls_by, calls_of, kept_log_of, record_of_transition, records_class, records_of}
use Rattle.alarm_core.specs.Notes.{addressed, notification_of}
use Rattle.alarm_core.specs.Sites.{IsLogSite}
use Rattle.alarm_core.proofs.KeptLooks.{GivesSuch, event_such, joined_such}

-- ---- one log

module _ (P : LogRecord → Type 0) where
  -- what is recorded makes such a record, whatever its number
  abbrev MakesSuch : Call → Type 0
  MakesSuch (Recorded event) = (number : ℕ) → P (entry_of event number)
  MakesSuch Cleared = Unit {0}
  MakesSuch (Switched on) = Unit {0}

  record HasSuch (log : EventLogState) : Type 0 where
    is : IsLog log
    all : All P log.records

  entry_kept : (event : LoggedEvent) (log : EventLogState) → MakesSuch (Recorded event) → HasSuch log → HasSuch (with_entry event log)
  entry_kept event log makes has =
      let more : List LogRecord = log.records ++ entry_of event (number_after log.total) ∷ [] in
      record {
        is = is_log_with_entry event log has.is;
        all = All-drop P (length more - log.size) more
            (All-append P log.records (entry_of event (number_after log.total) ∷ []) has.all (All-cons P (entry_of event (number_after log.total)) [] (makes (number_after log.total)) (All-nil P)));
      }

  recorded_kept : (taken : Bool) (event : LoggedEvent) (log : EventLogState) → MakesSuch (Recorded event) → HasSuch log → HasSuch (if taken then with_entry event log else log)
  recorded_kept true event log makes has = entry_kept event log makes has
  recorded_kept false event log makes has = has

  next_kept : (call : Call) (log : EventLogState) → MakesSuch call → HasSuch log → HasSuch (next_log call log)
  next_kept (Recorded event) log makes has = recorded_kept (is_taken log.enabled log.stops log.size (length log.records)) event log makes has
  next_kept Cleared log makes has = record {
    is = record { size = has.is.size; total = has.is.total; short = omega arith; begun = λ some. absurd (omega (arith, some)); numbered = λ place entry e. absurd cc };
    all = All-nil P;
  }
  next_kept (Switched on) log makes has = record {
    is = record { size = has.is.size; total = has.is.total; short = has.is.short; begun = has.is.begun; numbered = has.is.numbered };
    all = has.all;
  }

  new_has : (size : ℕ) (stops enabled : Bool) → size < 4294967296 → HasSuch (new_log size stops enabled)
  new_has size stops enabled low = record {
    is = record { size = low; total = omega arith; short = omega arith; begun = λ some. absurd (omega (arith, some)); numbered = λ place entry e. absurd cc };
    all = All-nil P;
  }

  log_kept : (size : ℕ) (stops enabled : Bool) → size < 4294967296 → (calls : List Call) → All MakesSuch calls → HasSuch (log_after (new_log size stops enabled) calls)
  log_kept size stops enabled low [] all = subst HasSuch (new_after size stops enabled) (new_has size stops enabled low)
  log_kept size stops enabled low (call ∷ calls) all =
      let first = new_log size stops enabled in
      subst HasSuch (sym (log_after-next first call calls))
      (next_kept call (log_after first calls) (All-head MakesSuch call calls all) (log_kept size stops enabled low calls (All-tail MakesSuch call calls all)))

  behind_such : (calls older : List Call) → All MakesSuch calls → All MakesSuch older → All MakesSuch (behind calls older)
  behind_such [] older some all = all
  behind_such (call ∷ later) older some all =
      behind_such later (call ∷ older) (All-tail MakesSuch call later some) (All-cons MakesSuch call older (All-head MakesSuch call later some) all)

  -- ---- what a write does makes no record

  one_such : (b : Bool) (call : Call) → MakesSuch call → All MakesSuch (if b then call ∷ [] else [])
  one_such true call such = All-cons MakesSuch call [] such (All-nil MakesSuch)
  one_such false call such = All-nil MakesSuch

  value_such : (number : ℕ) (value : Value) → All MakesSuch (call_of_value number value)
  value_such number (Truth on) = one_such (number == enable_property) (Switched on) tt
  value_such number (Unsigned zero) = one_such (number == record_count_property) Cleared tt
  value_such number _ = All-nil MakesSuch

  what_such : (what : What) → All MakesSuch (call_of_what what)
  what_such (Property property value) = value_such property.0 value
  what_such (FieldFault reliability) = All-nil MakesSuch

  change_by : (b : Bool) (what : What) → All MakesSuch (if b then call_of_what what else [])
  change_by true what = what_such what
  change_by false what = All-nil MakesSuch

  act_such : (listed : LogSite) (act : Act) → All MakesSuch (call_of_act listed act)
  act_such listed (Write change) = change_by (is_object change.object listed.object) change.what
  act_such listed Tick = All-nil MakesSuch
  act_such listed (Ack object transition named) = All-nil MakesSuch
  act_such listed Pump = All-nil MakesSuch
  act_such listed (Answer peer invoke kind) = All-nil MakesSuch
  act_such listed (Edit number recipients) = All-nil MakesSuch

  -- ---- what is recorded of transitions

  module _ (site : Site) where
    -- whatever is recorded of a transition makes such a record
    abbrev pub TellsSuch : StateTransition → Type 0
    TellsSuch transition = (subject : Subject) (class : Class) (number : ℕ) →
        P (entry_of (record { stamp = site_stamp site transition.moment; hundredths = transition.moment / 10; body = written_notification (notification_of site transition subject class) }) number)

    told_such : (classes : List Class) (listed : LogSite) (transition : StateTransition) (to : Option (Subject × Class)) → TellsSuch transition →
        All MakesSuch (flat_map (λ (to : Subject × Class). if records_class listed to.1 then Recorded (record { stamp = site_stamp site transition.moment; hundredths = transition.moment / 10; body = written_notification (notification_of site transition to.0 to.1) }) ∷ [] else []) (option_to_list to))
    told_such classes listed transition None tells = All-nil MakesSuch
    told_such classes listed transition (Some to) tells =
        let call = Recorded (record { stamp = site_stamp site transition.moment; hundredths = transition.moment / 10; body = written_notification (notification_of site transition to.0 to.1) }) in
        All-append MakesSuch (if records_class listed to.1 then call ∷ [] else []) [] (one_such (records_class listed to.1) call (tells to.0 to.1)) (All-nil MakesSuch)

    records_such : (classes : List Class) (listed : LogSite) (transitions : List StateTransition) → All TellsSuch transitions → All MakesSuch (records_of site classes listed transitions)
    records_such classes listed [] all = All-nil MakesSuch
    records_such classes listed (transition ∷ transitions) all =
        All-append MakesSuch (record_of_transition site classes listed transition) (records_of site classes listed transitions)
        (told_such classes listed transition (addressed classes transition) (All-head TellsSuch transition transitions all))
        (records_such classes listed transitions (All-tail TellsSuch transition transitions all))

    calls_such : (classes : List Class) (listed : LogSite) (act : Act) (looks : List (List StateTransition)) → All (All TellsSuch) looks → All MakesSuch (calls_by site classes listed act looks)
    calls_such classes listed act [] all = All-nil MakesSuch
    calls_such classes listed act (first ∷ later) all =
        All-append MakesSuch (records_of site classes listed first) (call_of_act listed act ++ records_of site classes listed (joined later))
        (records_such classes listed first (All-head (All TellsSuch) first later all))
        (All-append MakesSuch (call_of_act listed act) (records_of site classes listed (joined later)) (act_such listed act)
        (records_such classes listed (joined later) (joined_such TellsSuch later (All-tail (All TellsSuch) first later all))))

    -- ---- over a history

    module _ (gives : (moment : ℕ) → IsMoment moment → (history : List Event) → IsHistory site history → All FitsEvent history → GivesSuch TellsSuch moment (values_after site history)) where
      all_calls : (listed : LogSite) (history : List Event) → IsHistory site history → All FitsEvent history → All MakesSuch (calls_of site listed history)
      all_calls listed [] h fits = All-nil MakesSuch
      all_calls listed (event ∷ older) h fits =
          let older_fits = All-tail FitsEvent event older fits in
          let looks = event_such TellsSuch site event older (gives event.moment h.1 older h.4 older_fits) (gives event.moment h.1 (event ∷ older) h fits) in
          behind_such (calls_by site (classes_after site older) listed event.act (event_looks site event older)) (calls_of site listed older)
          (calls_such (classes_after site older) listed event.act (event_looks site event older) looks)
          (all_calls listed older h.4 older_fits)

      pub such_log : (listed : LogSite) → IsLogSite listed → (history : List Event) → IsHistory site history → All FitsEvent history →
          IsLog (kept_log_of site history listed).log × All P (kept_log_of site history listed).log.records
      such_log listed is history h fits =
          let kept = log_kept listed.size listed.stop_when_full listed.enable (omega (arith, is.most)) (calls_of site listed history) (all_calls listed history h fits) in
          (kept.is, kept.all)
