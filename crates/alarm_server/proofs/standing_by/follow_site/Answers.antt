use Rattle.std.proofs.Common.{◌≡◌, subst}
use Rattle.ground_io.specs.Trace.{still}
use Rattle.alarm_journal.specs.Opened.{content_in}
use Rattle.alarm_journal.specs.Press.{IsSmall}
use Rattle.alarm_server.specs.declared.status.Status.TheVariants.{JournalRefused}
use Rattle.alarm_core.specs.State.{state_of}
use Rattle.state_codec.specs.Emission.{Emits}
use Rattle.state_codec.specs.Keeping.{journal_of}
use Rattle.state_codec.specs.Openings.{IsRefusedFor}
use Rattle.state_codec.proofs.Openings.{opened_to}
use Rattle.alarm_server.specs.Following.{StopsFollowing}
use Rattle.alarm_server.specs.Status.{of_open_fault, status_of}
use Rattle.alarm_server.proofs.OfOpenFault.{disk_cause, is_session_fault, refusal_is, unhidden}
use Rattle.alarm_server.proofs.OnFile.{told_more}
use Rattle.alarm_server.proofs.StoodBy.{ends_refused, ends_standby, keeps_refused, keeps_standby, opens_refused, opens_standby, stops_standby}
use Rattle.alarm_server.proofs.SmallDevices.{small_end}
use Rattle.alarm_server.proofs.standing_by.follow_site.Goals as goal

pub returns-in-Err-clause-ends : goal.returns-in-Err-clause-ends
returns-in-Err-clause-ends g c = λ older stood.
    rw c.from.ensures (ends_refused c.in-Err.fault (state_of c.args.site.now older) (still (g.T.Source.left c.args.script.now) (g.T.Source.left c.args.script.now)) (g.G.Ground.told c.args.device) (g.G.Ground.told c.in-Err.device) c.in-Err.ensures.quiet)

pub returns-in-Err-clause-keeps : goal.returns-in-Err-clause-keeps
returns-in-Err-clause-keeps g c = λ sender begun stood.
    keeps_refused (journal_of c.args.site.now c.args.text.now) c.args.site.now sender begun (g.G.Ground.told c.args.device) (g.G.Ground.told c.in-Err.device) (still (g.T.Source.left c.args.script.now) (g.T.Source.left c.args.script.now)) stood c.in-Err.ensures.reopens

pub returns-in-Err-clause-opened : goal.returns-in-Err-clause-opened
returns-in-Err-clause-opened g c =
    rw c.from.ensures (opens_refused c.args.site.now c.args.text.now c.in-Err.fault (g.G.Ground.told c.args.device) (g.G.Ground.told c.in-Err.device) (still (g.T.Source.left c.args.script.now) (g.T.Source.left c.args.script.now)) c.in-Err.ensures.quiet c.in-Err.ensures.reopens)

pub returns-in-Err-clause-stands : goal.returns-in-Err-clause-stands
returns-in-Err-clause-stands g c = λ history fault stood same.
    let came : of_open_fault c.in-Err.fault ≡ JournalRefused fault = cc in
    c.in-Err.ensures.stands history stood (refusal_is c.in-Err.fault fault came).0

pub returns-in-Err-clause-refuses_journal : goal.returns-in-Err-clause-refuses_journal
returns-in-Err-clause-refuses_journal g c = λ fault same.
    let came : of_open_fault c.in-Err.fault ≡ JournalRefused fault = cc in
    let is = refusal_is c.in-Err.fault fault came in
    (subst (λ f. IsRefusedFor c.args.site.now c.args.text.now (g.G.Ground.told c.args.device) (g.G.Ground.told c.in-Err.device) f) is.1 (c.in-Err.ensures.refused is.0), c.in-Err.ensures.unchanged is.0, λ history stood. c.in-Err.ensures.stands history stood is.0)

pub returns-in-Err-clause-fault : goal.returns-in-Err-clause-fault
returns-in-Err-clause-fault g c = rw c.from.ensures (is_session_fault c.in-Err.fault)

pub returns-in-Err-clause-disk_cause : goal.returns-in-Err-clause-disk_cause
returns-in-Err-clause-disk_cause g c = rw c.from.ensures (disk_cause c.in-Err.fault _ _ c.in-Err.ensures.cause)

pub returns-in-Err-clause-unhidden : goal.returns-in-Err-clause-unhidden
returns-in-Err-clause-unhidden g c = rw c.from.ensures (unhidden c.in-Err.fault _ _ c.in-Err.ensures.unhidden)

pub returns-clause-ends : goal.returns-clause-ends
returns-clause-ends g c = λ older stood.
    let press = c.in-Ok.opened.0 in
    let core = c.in-Ok.opened.1 in
    let opened = c.in-Ok.ensures in
    ends_standby (journal_of c.args.site.now c.args.text.now) c.args.site.now core opened.site press.layout older (status_of c.follow_packets.result.1) (g.G.Ground.told c.args.device) (g.G.Ground.told press.device) (g.G.Ground.told c.follow_packets.result.0) stood opened.quiet (opened.represents older) (still (g.T.Source.left c.args.script.now) (g.T.Source.left c.follow_packets.new.script)) c.follow_packets.ensures.ends

pub returns-clause-keeps : goal.returns-clause-keeps
returns-clause-keeps g c = λ sender begun stood.
    let press = c.in-Ok.opened.0 in
    let core = c.in-Ok.opened.1 in
    let opened = c.in-Ok.ensures in
    let journal = journal_of c.args.site.now c.args.text.now in
    keeps_standby journal c.args.site.now core opened.site press.layout begun (status_of c.follow_packets.result.1) (g.G.Ground.told c.args.device) (g.G.Ground.told press.device) (g.G.Ground.told c.follow_packets.result.0) stood opened.quiet (opened.represents begun) sender (still (g.T.Source.left c.args.script.now) (g.T.Source.left c.follow_packets.new.script)) opened.reopens (opened.holds begun) c.follow_packets.ensures.ends (c.follow_packets.ensures.keeps journal sender begun)

pub returns-clause-stops : goal.returns-clause-stops
returns-clause-stops g c = λ older stood e.
    let press = c.in-Ok.opened.0 in
    let core = c.in-Ok.opened.1 in
    let opened = c.in-Ok.ensures in
    stops_standby (journal_of c.args.site.now c.args.text.now) c.args.site.now core opened.site press.layout older (status_of c.follow_packets.result.1) (g.G.Ground.told c.args.device) (g.G.Ground.told press.device) (g.G.Ground.told c.follow_packets.result.0) stood opened.quiet (opened.represents older) (g.T.Source.left c.args.script.now) (g.T.Source.left c.follow_packets.new.script) c.follow_packets.ensures.ends (c.follow_packets.ensures.stops e)

pub returns-clause-script_told : goal.returns-clause-script_told
returns-clause-script_told g c = λ e.
    told_more (λ t rest. StopsFollowing Emits c.in-Ok.opened.1 t rest (g.G.Ground.told c.in-Ok.opened.0.device) (g.G.Ground.told c.follow_packets.result.0)) (g.T.Source.left c.args.script.now) (g.T.Source.left c.follow_packets.new.script) (c.follow_packets.ensures.stops e)

pub returns-clause-opened : goal.returns-clause-opened
returns-clause-opened g c =
    let old = g.G.Ground.told c.args.device in
    let mid = g.G.Ground.told c.in-Ok.opened.0.device in
    opens_standby c.args.site.now c.args.text.now c.in-Ok.opened.1 (status_of c.follow_packets.result.1) old mid (g.G.Ground.told c.follow_packets.result.0) (still (g.T.Source.left c.args.script.now) (g.T.Source.left c.follow_packets.new.script)) c.in-Ok.ensures.quiet (opened_to c.args.site.now c.args.text.now (content_in c.in-Ok.opened.2) c.in-Ok.opened.1 old mid c.in-Ok.ensures.opened c.in-Ok.ensures.leads) c.follow_packets.ensures.ends

pub returns-in-Err-clause-small : goal.returns-in-Err-clause-small
returns-in-Err-clause-small g c = λ fault same.
    let came : of_open_fault c.in-Err.fault ≡ JournalRefused fault = cc in
    subst (λ f. IsSmall (g.G.Ground.size c.args.device) f) (refusal_is c.in-Err.fault fault came).1 c.in-Err.ensures.small

pub returns-in-Err-clause-below : goal.returns-in-Err-clause-below
returns-in-Err-clause-below g c = λ low. rw c.from.ensures (small_end _ _ c.in-Err.fault (c.in-Err.ensures.below low))
