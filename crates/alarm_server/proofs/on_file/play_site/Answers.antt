use Rattle.std.proofs.Common.{◌≡◌, ◌∙◌, Err, ap, subst}
use Rattle.ground_io.specs.Trace.{still}
use Rattle.script_lines.specs.declared.line.Grammar.TheVariants.{Session}
use Rattle.script_lines.specs.Line.{line_says}
use Rattle.script_lines.specs.Script.{lines_of}
use Rattle.alarm_server.specs.declared.status.Status.TheVariants.{Done, JournalRefused, ReadFault}
use Rattle.state_codec.specs.Emission.{Emits}
use Rattle.alarm_server.specs.Emission.{Ends}
use Rattle.alarm_journal.specs.Opened.{content_in}
use Rattle.alarm_journal.specs.Press.{IsSmall}
use Rattle.state_codec.specs.Openings.{IsRefusedFor}
use Rattle.state_codec.proofs.Openings.{opened_to}
use Rattle.state_codec.specs.Keeping.{journal_of}
use Rattle.alarm_server.specs.Keeping.{KeepsOpened}
use Rattle.alarm_server.specs.Pieces.{piece_text}
use Rattle.alarm_server.specs.Report.{report_of}
use Rattle.alarm_server.specs.Script.{spelled_in}
use Rattle.alarm_server.specs.Sessions.{state_front}
use Rattle.alarm_server.specs.Status.{of_open_fault}
use Rattle.alarm_server.specs.Stopping.{StopsReading}
use Rattle.alarm_server.proofs.BehindOpening.{ends_refused, ends_session, keeps_session, opens_refused, opens_session, stops_session}
use Rattle.alarm_server.proofs.KeptOpenings.{opening_kept}
use Rattle.alarm_server.proofs.Known.{in_any}
use Rattle.alarm_server.proofs.OfOpenFault.{disk_cause, is_session_fault, refusal_is, unhidden}
use Rattle.alarm_server.proofs.OnFile.{told_more}
use Rattle.alarm_server.proofs.SmallDevices.{small_end}
use Rattle.alarm_server.proofs.on_file.play_site.Goals as goal

pub returns-in-Err-clause-ends : goal.returns-in-Err-clause-ends
returns-in-Err-clause-ends g c = λ history stood.
    let old = g.G.Ground.told c.args.device in
    let new = g.G.Ground.told c.in-Err.device in
    rw c.from.ensures
    (in_any (λ t. Ends Emits piece_text (of_open_fault c.in-Err.fault) (report_of c.args.site.now history t) old new) (still (g.T.Source.left c.args.script.now) (g.T.Source.left c.args.script.now))
    (λ t. ends_refused piece_text c.in-Err.fault (report_of c.args.site.now history t) old new c.in-Err.ensures.quiet))

pub returns-in-Err-clause-keeps : goal.returns-in-Err-clause-keeps
returns-in-Err-clause-keeps g c = λ history stood.
    let old = g.G.Ground.told c.args.device in
    let new = g.G.Ground.told c.in-Err.device in
    let journal = journal_of c.args.site.now c.args.text.now in
    in_any (λ t. KeepsOpened journal c.args.site.now history (spelled_in (line_says Session) 0 (lines_of t)) 1 old new) (still (g.T.Source.left c.args.script.now) (g.T.Source.left c.args.script.now))
    (λ t. opening_kept journal c.args.site.now history (spelled_in (line_says Session) 0 (lines_of t)) 1 old new stood c.in-Err.ensures.reopens)

pub returns-in-Err-clause-refuses_journal : goal.returns-in-Err-clause-refuses_journal
returns-in-Err-clause-refuses_journal g c = λ fault same.
    let came : of_open_fault c.in-Err.fault ≡ JournalRefused fault = cc in
    let is = refusal_is c.in-Err.fault fault came in
    (subst (λ f. IsRefusedFor c.args.site.now c.args.text.now (g.G.Ground.told c.args.device) (g.G.Ground.told c.in-Err.device) f) is.1 (c.in-Err.ensures.refused is.0), c.in-Err.ensures.unchanged is.0, λ history stood. c.in-Err.ensures.stands history stood is.0)

pub returns-in-Err-clause-small : goal.returns-in-Err-clause-small
returns-in-Err-clause-small g c = λ fault same.
    let came : of_open_fault c.in-Err.fault ≡ JournalRefused fault = cc in
    subst (λ f. IsSmall (g.G.Ground.size c.args.device) f) (refusal_is c.in-Err.fault fault came).1 c.in-Err.ensures.small

pub returns-in-Err-clause-below : goal.returns-in-Err-clause-below
returns-in-Err-clause-below g c = λ low. rw c.from.ensures (small_end _ _ c.in-Err.fault (c.in-Err.ensures.below low))

pub returns-in-Err-clause-fault : goal.returns-in-Err-clause-fault
returns-in-Err-clause-fault g c = rw c.from.ensures (is_session_fault c.in-Err.fault)

pub returns-in-Err-clause-disk_cause : goal.returns-in-Err-clause-disk_cause
returns-in-Err-clause-disk_cause g c = rw c.from.ensures (disk_cause c.in-Err.fault _ _ c.in-Err.ensures.cause)

pub returns-in-Ok-played-clause-ends : goal.returns-in-Ok-played-clause-ends
returns-in-Ok-played-clause-ends g c = λ history stood.
    let old = g.G.Ground.told c.args.device in
    let press = c.in-Ok.opened.0 in
    let core = c.in-Ok.opened.1 in
    let mid = g.G.Ground.told press.device in
    let new = g.G.Ground.told c.play_session-device.result.0 in
    let opened = c.in-Ok.ensures in
    ends_session (journal_of c.args.site.now c.args.text.now) c.args.site.now c.requires.site core opened.site press.layout history Done old mid new stood opened.quiet (opened.represents history) (still (g.T.Source.left c.args.script.now) (g.T.Source.left c.play_session-device.new.script)) (rw c.in-Ok-played.is at c.play_session-device.ensures.ends)

pub returns-in-Ok-played-clause-keeps : goal.returns-in-Ok-played-clause-keeps
returns-in-Ok-played-clause-keeps g c = λ history stood.
    let old = g.G.Ground.told c.args.device in
    let press = c.in-Ok.opened.0 in
    let core = c.in-Ok.opened.1 in
    let mid = g.G.Ground.told press.device in
    let new = g.G.Ground.told c.play_session-device.result.0 in
    let opened = c.in-Ok.ensures in
    keeps_session (journal_of c.args.site.now c.args.text.now) c.args.site.now c.requires.site core opened.site press.layout history Done old mid new stood opened.quiet (opened.represents history) (still (g.T.Source.left c.args.script.now) (g.T.Source.left c.play_session-device.new.script)) opened.reopens (opened.holds history) (rw c.in-Ok-played.is at c.play_session-device.ensures.ends) (c.play_session-device.ensures.keeps (journal_of c.args.site.now c.args.text.now) history)

pub returns-clause-ends : goal.returns-clause-ends
returns-clause-ends g c = λ history stood.
    let old = g.G.Ground.told c.args.device in
    let press = c.in-Ok.opened.0 in
    let core = c.in-Ok.opened.1 in
    let mid = g.G.Ground.told press.device in
    let new = g.G.Ground.told c.play_session-device.result.0 in
    let opened = c.in-Ok.ensures in
    ends_session (journal_of c.args.site.now c.args.text.now) c.args.site.now c.requires.site core opened.site press.layout history c.in-Err-played.status old mid new stood opened.quiet (opened.represents history) (still (g.T.Source.left c.args.script.now) (g.T.Source.left c.play_session-device.new.script)) (rw c.in-Err-played.is at c.play_session-device.ensures.ends)

pub returns-clause-keeps : goal.returns-clause-keeps
returns-clause-keeps g c = λ history stood.
    let old = g.G.Ground.told c.args.device in
    let press = c.in-Ok.opened.0 in
    let core = c.in-Ok.opened.1 in
    let mid = g.G.Ground.told press.device in
    let new = g.G.Ground.told c.play_session-device.result.0 in
    let opened = c.in-Ok.ensures in
    keeps_session (journal_of c.args.site.now c.args.text.now) c.args.site.now c.requires.site core opened.site press.layout history c.in-Err-played.status old mid new stood opened.quiet (opened.represents history) (still (g.T.Source.left c.args.script.now) (g.T.Source.left c.play_session-device.new.script)) opened.reopens (opened.holds history) (rw c.in-Err-played.is at c.play_session-device.ensures.ends) (c.play_session-device.ensures.keeps (journal_of c.args.site.now c.args.text.now) history)

pub returns-clause-stops : goal.returns-clause-stops
returns-clause-stops g c = λ history stood e.
    let same : c.in-Err-played.status ≡ ReadFault = cc in
    let old = g.G.Ground.told c.args.device in
    let press = c.in-Ok.opened.0 in
    let core = c.in-Ok.opened.1 in
    let mid = g.G.Ground.told press.device in
    let new = g.G.Ground.told c.play_session-device.result.0 in
    let opened = c.in-Ok.ensures in
    stops_session (journal_of c.args.site.now c.args.text.now) c.args.site.now c.requires.site core opened.site press.layout history c.in-Err-played.status old mid new stood opened.quiet (opened.represents history) (g.T.Source.left c.args.script.now) (g.T.Source.left c.play_session-device.new.script) (c.play_session-device.ensures.stops (c.in-Err-played.is ∙ ap Err same))

pub returns-clause-script_told : goal.returns-clause-script_told
returns-clause-script_told g c = λ e.
    let same : c.in-Err-played.status ≡ ReadFault = cc in
    let old = g.G.Ground.told c.in-Ok.opened.0.device in
    let new = g.G.Ground.told c.play_session-device.result.0 in
    told_more (λ t rest. StopsReading Emits piece_text (state_front c.in-Ok.opened.1) (line_says Session) t rest old new) (g.T.Source.left c.args.script.now) (g.T.Source.left c.play_session-device.new.script) (c.play_session-device.ensures.stops (c.in-Err-played.is ∙ ap Err same))

pub returns-in-Err-clause-unhidden : goal.returns-in-Err-clause-unhidden
returns-in-Err-clause-unhidden g c = rw c.from.ensures (unhidden c.in-Err.fault _ _ c.in-Err.ensures.unhidden)

pub returns-in-Err-clause-opened : goal.returns-in-Err-clause-opened
returns-in-Err-clause-opened g c =
    rw c.from.ensures (opens_refused c.args.site.now c.args.text.now c.in-Err.fault (g.G.Ground.told c.args.device) (g.G.Ground.told c.in-Err.device) (still (g.T.Source.left c.args.script.now) (g.T.Source.left c.args.script.now)) c.in-Err.ensures.quiet c.in-Err.ensures.reopens)

pub returns-in-Ok-played-clause-opened : goal.returns-in-Ok-played-clause-opened
returns-in-Ok-played-clause-opened g c =
    let old = g.G.Ground.told c.args.device in
    let mid = g.G.Ground.told c.in-Ok.opened.0.device in
    let new = g.G.Ground.told c.play_session-device.result.0 in
    opens_session c.args.site.now c.args.text.now c.in-Ok.opened.1 Done old mid new (still (g.T.Source.left c.args.script.now) (g.T.Source.left c.play_session-device.new.script)) c.in-Ok.ensures.quiet (opened_to c.args.site.now c.args.text.now (content_in c.in-Ok.opened.2) c.in-Ok.opened.1 old mid c.in-Ok.ensures.opened c.in-Ok.ensures.leads) (rw c.in-Ok-played.is at c.play_session-device.ensures.ends)

pub returns-clause-opened : goal.returns-clause-opened
returns-clause-opened g c =
    let old = g.G.Ground.told c.args.device in
    let mid = g.G.Ground.told c.in-Ok.opened.0.device in
    let new = g.G.Ground.told c.play_session-device.result.0 in
    opens_session c.args.site.now c.args.text.now c.in-Ok.opened.1 c.in-Err-played.status old mid new (still (g.T.Source.left c.args.script.now) (g.T.Source.left c.play_session-device.new.script)) c.in-Ok.ensures.quiet (opened_to c.args.site.now c.args.text.now (content_in c.in-Ok.opened.2) c.in-Ok.opened.1 old mid c.in-Ok.ensures.opened c.in-Ok.ensures.leads) (rw c.in-Err-played.is at c.play_session-device.ensures.ends)
