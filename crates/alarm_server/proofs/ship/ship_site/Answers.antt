use Rattle.std.proofs.Common.{◌≡◌, ap, inl, inr, subst, sym}
use Rattle.ground_io.specs.Trace.{Adds}
use Rattle.script_lines.specs.Report.{report_text}
use Rattle.alarm_journal.specs.Opened.{content_in}
use Rattle.alarm_journal.specs.Press.{IsSmall}
use Rattle.state_codec.specs.Contents.{StandsForHistory}
use Rattle.state_codec.specs.Keeping.{journal_of}
use Rattle.state_codec.specs.Openings.{IsRefusedFor}
use Rattle.standby.specs.Offers.{LeaderState, heard_by}
use Rattle.standby.specs.Reaches.{HasPackets, OffersAll}
use Rattle.alarm_server.specs.declared.status.Status.TheVariants.{Done, JournalRefused}
use Rattle.alarm_server.specs.Emission.{Sends}
use Rattle.alarm_server.specs.Shipping.{ship_report}
use Rattle.alarm_server.specs.Status.{of_open_fault, of_unsent}
use Rattle.alarm_server.proofs.OfOpenFault.{disk_cause, is_shipped_fault, refusal_is, unhidden}
use Rattle.alarm_server.proofs.ShippedSite.{ends_sent, ends_unsent, keeps_behind, keeps_opening, leads_heard, made_at, nothing_added, sends_added, ships, ships_refused, went_as}
use Rattle.alarm_server.proofs.SmallDevices.{small_end}
use Rattle.alarm_server.proofs.ship.ship_site.Goals as goal

pub returns-in-Err-clause-ships : goal.returns-in-Err-clause-ships
returns-in-Err-clause-ships g c =
    rw c.from.ensures (ships_refused c.args.site.now c.args.text.now c.args.from c.in-Err.fault (g.G.Ground.told c.args.device) (g.G.Ground.told c.in-Err.device) c.in-Err.ensures.quiet)

pub returns-in-Err-clause-keeps : goal.returns-in-Err-clause-keeps
returns-in-Err-clause-keeps g c = keeps_opening (journal_of c.args.site.now c.args.text.now) (g.G.Ground.told c.args.device) (g.G.Ground.told c.in-Err.device) c.in-Err.ensures.reopens

pub returns-in-Err-clause-refuses_journal : goal.returns-in-Err-clause-refuses_journal
returns-in-Err-clause-refuses_journal g c = λ fault same.
    let came : of_open_fault c.in-Err.fault ≡ JournalRefused fault = cc in
    let is = refusal_is c.in-Err.fault fault came in
    (subst (λ f. IsRefusedFor c.args.site.now c.args.text.now (g.G.Ground.told c.args.device) (g.G.Ground.told c.in-Err.device) f) is.1 (c.in-Err.ensures.refused is.0), c.in-Err.ensures.unchanged is.0, λ history stood. c.in-Err.ensures.stands history stood is.0)

pub returns-in-Err-clause-fault : goal.returns-in-Err-clause-fault
returns-in-Err-clause-fault g c = rw c.from.ensures (is_shipped_fault c.in-Err.fault)

pub returns-in-Err-clause-disk_cause : goal.returns-in-Err-clause-disk_cause
returns-in-Err-clause-disk_cause g c = rw c.from.ensures (disk_cause c.in-Err.fault _ _ c.in-Err.ensures.cause)

pub returns-in-Err-clause-unhidden : goal.returns-in-Err-clause-unhidden
returns-in-Err-clause-unhidden g c = rw c.from.ensures (unhidden c.in-Err.fault _ _ c.in-Err.ensures.unhidden)

pub returns-in-Err-led-clause-ships : goal.returns-in-Err-led-clause-ships
returns-in-Err-led-clause-ships g c = rw c.into_ground-device.ensures.same (inl (tt, c.in-Ok.ensures.quiet))

pub returns-in-Err-led-clause-keeps : goal.returns-in-Err-led-clause-keeps
returns-in-Err-led-clause-keeps g c =
    let mid = g.G.Ground.told c.in-Ok.opened.0.device in
    rw c.into_ground-device.ensures.same (keeps_behind (journal_of c.args.site.now c.args.text.now) (g.G.Ground.told c.args.device) mid mid c.in-Ok.ensures.reopens (nothing_added mid))

pub returns-in-Ok-shipped-clause-ships : goal.returns-in-Ok-shipped-clause-ships
returns-in-Ok-shipped-clause-ships g c =
    let old = g.G.Ground.told c.args.device in
    let core = c.in-Ok.opened.1 in
    let mid = g.G.Ground.told c.in-Ok.opened.0.device in
    let new = g.G.Ground.told c.ship_all-shipped.new.device in
    let leader = c.in-Ok-led.leader in
    let has : HasPackets (heard_by c.args.from leader) = subst HasPackets c.hear.ensures.heard c.offers_all.ensures.all in
    let all : OffersAll c.hear.new.self has.packets = subst (λ (l : LeaderState). OffersAll l has.packets) (sym c.hear.ensures.heard) has.all in
    let lines = ship_report has.packets core.events in
    let goes : Sends Adds report_text c.ship_all-shipped.result lines mid new = went_as report_text c.ship_all-shipped.result has.packets c.events-events.result core.events (g.G.Ground.told c.into_ground-device.result) mid new c.events-events.ensures.events (ap g.G.Ground.told c.into_ground-device.ensures.same) (c.ship_all-shipped.ensures.sends has.packets all) in
    let site = c.args.site.now in
    let content = content_in c.in-Ok.opened.2 in
    let opened = c.in-Ok.ensures in
    (inr
    (ships site c.args.text.now c.args.from core opened.site content leader has Done old mid new c.images_open_once.ensures.once (sends_added c.ship_all-shipped.result lines mid new goes) opened.opened opened.leads
    (made_at site core content leader opened.site opened.leads c.in-Ok-led.ensures.made)
    (leads_heard core.site c.args.from leader c.hear.new.self c.hear.ensures.heard (StandsForHistory core.site content) c.in-Ok-led.ensures.leads (c.hear.ensures.leads core.site))
    (ends_sent lines old mid new opened.quiet (rw c.in-Ok-shipped.is at goes))))

pub returns-in-Ok-shipped-clause-keeps : goal.returns-in-Ok-shipped-clause-keeps
returns-in-Ok-shipped-clause-keeps g c =
    let old = g.G.Ground.told c.args.device in
    let core = c.in-Ok.opened.1 in
    let mid = g.G.Ground.told c.in-Ok.opened.0.device in
    let new = g.G.Ground.told c.ship_all-shipped.new.device in
    let leader = c.in-Ok-led.leader in
    let has : HasPackets (heard_by c.args.from leader) = subst HasPackets c.hear.ensures.heard c.offers_all.ensures.all in
    let all : OffersAll c.hear.new.self has.packets = subst (λ (l : LeaderState). OffersAll l has.packets) (sym c.hear.ensures.heard) has.all in
    let lines = ship_report has.packets core.events in
    let goes : Sends Adds report_text c.ship_all-shipped.result lines mid new = went_as report_text c.ship_all-shipped.result has.packets c.events-events.result core.events (g.G.Ground.told c.into_ground-device.result) mid new c.events-events.ensures.events (ap g.G.Ground.told c.into_ground-device.ensures.same) (c.ship_all-shipped.ensures.sends has.packets all) in
    keeps_behind (journal_of c.args.site.now c.args.text.now) old mid new c.in-Ok.ensures.reopens (sends_added c.ship_all-shipped.result lines mid new goes)

pub returns-in-Err-shipped-clause-ships : goal.returns-in-Err-shipped-clause-ships
returns-in-Err-shipped-clause-ships g c =
    let old = g.G.Ground.told c.args.device in
    let core = c.in-Ok.opened.1 in
    let mid = g.G.Ground.told c.in-Ok.opened.0.device in
    let new = g.G.Ground.told c.ship_all-shipped.new.device in
    let leader = c.in-Ok-led.leader in
    let has : HasPackets (heard_by c.args.from leader) = subst HasPackets c.hear.ensures.heard c.offers_all.ensures.all in
    let all : OffersAll c.hear.new.self has.packets = subst (λ (l : LeaderState). OffersAll l has.packets) (sym c.hear.ensures.heard) has.all in
    let lines = ship_report has.packets core.events in
    let goes : Sends Adds report_text c.ship_all-shipped.result lines mid new = went_as report_text c.ship_all-shipped.result has.packets c.events-events.result core.events (g.G.Ground.told c.into_ground-device.result) mid new c.events-events.ensures.events (ap g.G.Ground.told c.into_ground-device.ensures.same) (c.ship_all-shipped.ensures.sends has.packets all) in
    let site = c.args.site.now in
    let content = content_in c.in-Ok.opened.2 in
    let opened = c.in-Ok.ensures in
    rw c.from-in-Err-shipped.ensures
    (inr
    (ships site c.args.text.now c.args.from core opened.site content leader has (of_unsent c.in-Err-shipped.unsent) old mid new c.images_open_once.ensures.once (sends_added c.ship_all-shipped.result lines mid new goes) opened.opened opened.leads
    (made_at site core content leader opened.site opened.leads c.in-Ok-led.ensures.made)
    (leads_heard core.site c.args.from leader c.hear.new.self c.hear.ensures.heard (StandsForHistory core.site content) c.in-Ok-led.ensures.leads (c.hear.ensures.leads core.site))
    (ends_unsent c.in-Err-shipped.unsent lines old mid new opened.quiet (rw c.in-Err-shipped.is at goes))))

pub returns-in-Err-shipped-clause-keeps : goal.returns-in-Err-shipped-clause-keeps
returns-in-Err-shipped-clause-keeps g c =
    let old = g.G.Ground.told c.args.device in
    let core = c.in-Ok.opened.1 in
    let mid = g.G.Ground.told c.in-Ok.opened.0.device in
    let new = g.G.Ground.told c.ship_all-shipped.new.device in
    let leader = c.in-Ok-led.leader in
    let has : HasPackets (heard_by c.args.from leader) = subst HasPackets c.hear.ensures.heard c.offers_all.ensures.all in
    let all : OffersAll c.hear.new.self has.packets = subst (λ (l : LeaderState). OffersAll l has.packets) (sym c.hear.ensures.heard) has.all in
    let lines = ship_report has.packets core.events in
    let goes : Sends Adds report_text c.ship_all-shipped.result lines mid new = went_as report_text c.ship_all-shipped.result has.packets c.events-events.result core.events (g.G.Ground.told c.into_ground-device.result) mid new c.events-events.ensures.events (ap g.G.Ground.told c.into_ground-device.ensures.same) (c.ship_all-shipped.ensures.sends has.packets all) in
    keeps_behind (journal_of c.args.site.now c.args.text.now) old mid new c.in-Ok.ensures.reopens (sends_added c.ship_all-shipped.result lines mid new goes)

pub returns-in-Err-clause-small : goal.returns-in-Err-clause-small
returns-in-Err-clause-small g c = λ fault same.
    let came : of_open_fault c.in-Err.fault ≡ JournalRefused fault = cc in
    subst (λ f. IsSmall (g.G.Ground.size c.args.device) f) (refusal_is c.in-Err.fault fault came).1 c.in-Err.ensures.small

pub returns-in-Err-clause-below : goal.returns-in-Err-clause-below
returns-in-Err-clause-below g c = λ low. rw c.from.ensures (small_end _ _ c.in-Err.fault (c.in-Err.ensures.below low))
