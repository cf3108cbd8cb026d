use Rattle.std.proofs.Common.{◌≡◌, ◌∙◌, Vec, Global, map, ap, rules}
use Rattle.std.specs.List.{flat_map}
use Rattle.event_log.specs.History.{Call}
use Rattle.alarm_core.specs.Evaluations.{site_zone}
use Rattle.alarm_core.specs.Logs.{SiteLogState}
use Rattle.alarm_core.specs.ViewSteps.{notes_to, record_to, SiteViewData}
use Rattle.alarm_core.proofs.MovesTold.{at_site, moved_all}
use Rattle.alarm_core.proofs.ToldBy.{all_notes, all_records}
use Rattle.alarm_core.proofs.transition_report.tell.Goals as goal

pub returns-clause-moves : goal.returns-clause-moves
returns-clause-moves c = c.in_ok-moves.ensures.moves ∙ moved_all c.args.view.now c.args.transitions.now

pub returns-clause-notes : goal.returns-clause-notes
returns-clause-notes c =
    let seen = c.args.view.now in
    let at = c.view.inside.at.now in
    let here = at_site at seen.site seen.moment (c.view.invariant.zone ∙ ap (λ (s : SiteViewData). site_zone s.site) c.view.view_is) (ap (λ (s : SiteViewData). s.moment) c.view.view_is) in
    let told = c.in_ok-addressed.addressed.items in
    let notes : c.in_ok-notes.notes.items ≡ flat_map (notes_to at) told = search rules in
    all_notes seen at here c.args.transitions.now told c.in_ok-notes.notes.items c.in_ok-addressed.ensures.addressed notes

pub returns-clause-records : goal.returns-clause-records
returns-clause-records c =
    let seen = c.args.view.now in
    let at = c.view.inside.at.now in
    let here = at_site at seen.site seen.moment (c.view.invariant.zone ∙ ap (λ (s : SiteViewData). site_zone s.site) c.view.view_is) (ap (λ (s : SiteViewData). s.moment) c.view.view_is) in
    let told = c.in_ok-addressed.addressed.items in
    let records : map (λ (list : Vec Call Global). list.items) c.in_ok-records.records.items ≡ map (λ (kept : SiteLogState). flat_map (record_to at kept.site) told) c.args.logs.now = search rules in
    records ∙ all_records seen at here c.args.transitions.now told c.args.logs.now c.in_ok-addressed.ensures.addressed
