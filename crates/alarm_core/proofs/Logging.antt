-- The logs after one more event are those of the longer history.
use Rattle.std.proofs.Common.{◌≡◌, ◌-◌, List, [], ◌∷◌, ◌++◌, map, refl, ap, ◌∙◌, sym, arith}
use Rattle.std.proofs.Math.Path.{fun_ext}
use Rattle.std.proofs.lemmas.List.{drop_all}
use Rattle.std.proofs.lemmas.Simd.{map-map}
use Rattle.event_log.specs.History.{Call, log_after, next_log, taken_after}
use Rattle.event_log.specs.Log.{EventLogState}
use Rattle.event_log.proofs.Looking.{log_after-next}
use Rattle.object_table.specs.declared.change.Change.{Change}
use Rattle.alarm_core.specs.declared.event.Event.{Event}
use Rattle.event_log.specs.declared.log_site.LogSite.{LogSite}
use Rattle.alarm_core.specs.declared.site.Site.{Site}
use Rattle.alarm_core.specs.Classes.{classes_after}
use Rattle.alarm_core.specs.History.{event_looks}
use Rattle.alarm_core.specs.Logs.{behind, call_of_change, calls_by, calls_of, first_log, kept_log_of, logs_after, SiteLogState}
use Rattle.alarm_core.specs.CoreSteps.{after_calls, first_kept, logs_with}

-- calls behind older ones are made after those
behind_after : (first : EventLogState) (calls older : List Call) → log_after first (behind calls older) ≡ after_calls calls (log_after first older)
behind_after first [] older = refl
behind_after first (call ∷ later) older =
    behind_after first later (call ∷ older) ∙ ap (after_calls later) (log_after-next first call older)

-- some calls, and then others
pub after_both : (calls later : List Call) (log : EventLogState) → after_calls (calls ++ later) log ≡ after_calls later (after_calls calls log)
after_both [] later log = refl
after_both (call ∷ calls) later log = after_both calls later (next_log call log)

one_more : (site : Site) (event : Event) (history : List Event) (listed : LogSite) →
    let log = (kept_log_of site history listed).log in
    record { site = listed; log = after_calls (calls_by site (classes_after site history) listed event.act (event_looks site event history)) log } ≡ kept_log_of site (event ∷ history) listed
one_more site event history listed =
    let calls = calls_by site (classes_after site history) listed event.act (event_looks site event history) in
    ap (λ (log : EventLogState). record { site = listed; log = log }) (sym (behind_after (first_log listed) calls (calls_of site listed history)))

-- the logs of one more event
pub logs_more : (site : Site) (event : Event) (history : List Event) →
    logs_with site (classes_after site history) event.act (event_looks site event history) (logs_after site history) ≡ logs_after site (event ∷ history)
logs_more site event history =
    map-map (λ (kept : SiteLogState). record kept { log = after_calls (calls_by site (classes_after site history) kept.site event.act (event_looks site event history)) kept.log }) (kept_log_of site history) site.logs
    ∙ ap (λ f. map f site.logs) (fun_ext (one_more site event history))

-- a log that nothing was done to
kept_first : (site : Site) (listed : LogSite) → first_kept listed ≡ kept_log_of site [] listed
unfolding taken_after
kept_first site listed = ap (λ records. record { site = listed; log = record { size = listed.size; stops = listed.stop_when_full; enabled = listed.enable; total = 0; records = records } }) (sym (drop_all (0 - listed.size) [] (omega arith)))

pub first_logs_same : (site : Site) → map first_kept site.logs ≡ logs_after site []
first_logs_same site = ap (λ f. map f site.logs) (fun_ext (kept_first site))

-- ---- a log between two looks

-- a log that takes calls, and one to which a change comes
abbrev pub entered : (LogSite → List Call) → SiteLogState → SiteLogState
entered calls kept = record kept { log = after_calls (calls kept.site) kept.log }

abbrev pub changed_log : Change → SiteLogState → SiteLogState
changed_log change kept = record kept { log = after_calls (call_of_change kept.site change) kept.log }

module _ (change : Change) (first second : LogSite → List Call) where
  log_between : (kept : SiteLogState) → entered second (changed_log change (entered first kept)) ≡ entered (λ listed. first listed ++ (call_of_change listed change ++ second listed)) kept
  log_between kept =
      let calls = call_of_change kept.site change in
      ap (λ (log : EventLogState). record { site = kept.site; log = log })
      (sym (after_both (first kept.site) (calls ++ second kept.site) kept.log ∙ after_both calls (second kept.site) (after_calls (first kept.site) kept.log)))

  -- the records of the first look, the change, and the records of the second
  pub logs_between : (logs : List SiteLogState) → map (entered second) (map (changed_log change) (map (entered first) logs))
      ≡ map (λ (kept : SiteLogState). record kept { log = after_calls (first kept.site ++ (call_of_change kept.site change ++ second kept.site)) kept.log }) logs
  logs_between logs =
      ap (map (entered second)) (map-map (changed_log change) (entered first) logs)
      ∙ (map-map (entered second) (λ kept. changed_log change (entered first kept)) logs
      ∙ ap (λ f. map f logs) (fun_ext log_between))
