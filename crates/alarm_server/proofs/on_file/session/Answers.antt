use Rattle.std.proofs.Common.{◌≡◌, ◌⊎◌, ◌<◌, ◌∙◌, Ok, Err, None, IfOk, IfSome, IsOk, OnErr, ap, length, refl, inr}
use Rattle.ground_io.specs.Counts.{Rose}
use Rattle.ground_io.specs.Trace.{WhereTold, still}
use Rattle.script_lines.specs.declared.line.Grammar.TheVariants.{Session}
use Rattle.script_lines.specs.Line.{line_says}
use Rattle.script_lines.specs.Script.{lines_of}
use Rattle.site_config.specs.Sites.{site_of}
use Rattle.state_codec.specs.Sizes.{need}
use Rattle.alarm_server.specs.declared.status.Status.TheVariants.{NoMemory, ReadFault, SiteRefused}
use Rattle.state_codec.specs.Emission.{Emits}
use Rattle.alarm_server.specs.Emission.{Ends}
use Rattle.state_codec.specs.Keeping.{StoodFor, journal_of}
use Rattle.alarm_server.specs.Keeping.{KeepsOpened}
use Rattle.alarm_server.specs.OnFile.{AcceptsOnFile, EndsOnSite, KeepsOnSite, StopsInScript}
use Rattle.alarm_server.specs.Openings.{OpensOnSite, RefusesOnSite}
use Rattle.alarm_server.specs.Pieces.{piece_text}
use Rattle.alarm_server.specs.Report.{front_pieces, report_of}
use Rattle.alarm_server.specs.Script.{refused_line, spelled_in}
use Rattle.alarm_server.specs.SmallDevices.{EndsSmall}
use Rattle.alarm_server.specs.Status.{status_of}
use Rattle.alarm_server.specs.Stopping.{StopsReading}
use Rattle.alarm_server.proofs.Emitting.{emits}
use Rattle.alarm_server.proofs.OnFile.{each_script, each_told, ends_unopened, keeps_unopened, on_ok_more, on_read, opens_behind, opens_unopened}
use Rattle.alarm_server.proofs.SmallDevices.{small_unopened}
use Rattle.alarm_server.proofs.on_file.session.Goals as goal

pub returns-in-Err-clause-ends : goal.returns-in-Err-clause-ends
returns-in-Err-clause-ends g c =
    ends_unopened Emits emits (still (g.S.Source.left c.args.site.now) (g.S.Source.left c.open_site.new.source)) (still (g.T.Source.left c.args.script.now) (g.T.Source.left c.args.script.now)) c.in-Err.status (g.G.Ground.told c.args.device) c.in-Err.ensures.fault
    (λ own same. c.open_site.ensures.refused own (c.in-Err.is ∙ ap Err same))

pub returns-in-Err-clause-keeps : goal.returns-in-Err-clause-keeps
returns-in-Err-clause-keeps g c = keeps_unopened (still (g.S.Source.left c.args.site.now) (g.S.Source.left c.open_site.new.source)) (still (g.T.Source.left c.args.script.now) (g.T.Source.left c.args.script.now)) (g.G.Ground.told c.args.device)

pub returns-in-Err-clause-refuses_site : goal.returns-in-Err-clause-refuses_site
returns-in-Err-clause-refuses_site g c = λ own e.
    let same : c.in-Err.status ≡ SiteRefused own = cc in
    c.open_site.ensures.refused own (c.in-Err.is ∙ ap Err same)

pub returns-clause-ends : goal.returns-clause-ends
returns-clause-ends g c =
    let site = c.in-Ok.read.0 in
    let text = c.as_slice.result.now in
    let old = g.G.Ground.told c.args.device in
    let new = g.G.Ground.told c.play_site.result.0 in
    let script = still (g.T.Source.left c.args.script.now) (g.T.Source.left c.play_site.new.script) in
    let ended = status_of c.play_site.result.1 in
    on_read (λ octets says. IfSome script (λ t. EndsOnSite Emits ended octets says t old new)) (still (g.S.Source.left c.args.site.now) (g.S.Source.left c.open_site.new.source)) site c.in-Ok.read.1.items text c.as_slice.ensures.value c.in-Ok.ensures.site
    (each_script (λ history. StoodFor (journal_of site text) site history old new) (λ t history. Ends Emits piece_text ended (report_of site history t) old new) script c.play_site.ensures.ends)

pub returns-clause-keeps : goal.returns-clause-keeps
returns-clause-keeps g c =
    let site = c.in-Ok.read.0 in
    let text = c.as_slice.result.now in
    let old = g.G.Ground.told c.args.device in
    let new = g.G.Ground.told c.play_site.result.0 in
    let script = still (g.T.Source.left c.args.script.now) (g.T.Source.left c.play_site.new.script) in
    on_read (λ octets says. IfSome script (λ t. KeepsOnSite octets says t old new)) (still (g.S.Source.left c.args.site.now) (g.S.Source.left c.open_site.new.source)) site c.in-Ok.read.1.items text c.as_slice.ensures.value c.in-Ok.ensures.site
    (each_script (λ history. StoodFor (journal_of site text) site history old new) (λ t history. KeepsOpened (journal_of site text) site history (spelled_in (line_says Session) 0 (lines_of t)) 1 old new) script c.play_site.ensures.keeps)

pub returns-clause-accepted : goal.returns-clause-accepted
returns-clause-accepted g c =
    let left = still (g.S.Source.left c.args.site.now) (g.S.Source.left c.open_site.new.source) in
    let script = still (g.T.Source.left c.args.script.now) (g.T.Source.left c.play_site.new.script) in
    let taken : IfSome left (λ octets. IsOk (site_of octets)) = on_read (λ octets says. IsOk says) left c.in-Ok.read.0 c.in-Ok.read.1.items c.as_slice.result.now c.as_slice.ensures.value c.in-Ok.ensures.site refl in
    on_ok_more (IfSome script (λ t. refused_line (line_says Session) t ≡ None)) (AcceptsOnFile left script) c.play_site.result.1 (λ lines. (taken, lines)) c.play_site.ensures.accepted

pub returns-clause-refuses_journal : goal.returns-clause-refuses_journal
returns-clause-refuses_journal g c = λ fault e.
    let old = g.G.Ground.told c.args.device in
    let new = g.G.Ground.told c.play_site.result.0 in
    on_read (λ octets says. RefusesOnSite octets says old new fault) (still (g.S.Source.left c.args.site.now) (g.S.Source.left c.open_site.new.source)) c.in-Ok.read.0 c.in-Ok.read.1.items c.as_slice.result.now c.as_slice.ensures.value c.in-Ok.ensures.site (c.play_site.ensures.refuses_journal fault e)

pub returns-clause-unread : goal.returns-clause-unread
returns-clause-unread g c =
    on_read (λ octets says. OnErr says (c.play_site.new.script ≡ c.args.script.now)) (still (g.S.Source.left c.args.site.now) (g.S.Source.left c.open_site.new.source)) c.in-Ok.read.0 c.in-Ok.read.1.items c.as_slice.result.now c.as_slice.ensures.value c.in-Ok.ensures.site tt

pub returns-clause-stops : goal.returns-clause-stops
returns-clause-stops g c = λ e.
    let site = c.in-Ok.read.0 in
    let text = c.as_slice.result.now in
    let old = g.G.Ground.told c.args.device in
    let new = g.G.Ground.told c.play_site.result.0 in
    let script = g.T.Source.left c.args.script.now in
    let rest = g.T.Source.left c.play_site.new.script in
    let stood : IfSome (still (g.S.Source.left c.args.site.now) (g.S.Source.left c.open_site.new.source)) (λ octets. WhereTold script rest (λ t left. StopsInScript Emits octets (site_of octets) t left old new)) = on_read (λ octets says. WhereTold script rest (λ t left. StopsInScript Emits octets says t left old new)) (still (g.S.Source.left c.args.site.now) (g.S.Source.left c.open_site.new.source)) site c.in-Ok.read.1.items text c.as_slice.ensures.value c.in-Ok.ensures.site
    (each_told (λ history. StoodFor (journal_of site text) site history old new) (λ t left history. StopsReading Emits piece_text (front_pieces site history) (line_says Session) t left old new) script rest (c.play_site.ensures.script_told e) (λ history before. c.play_site.ensures.stops history before e)) in
    inr (c.play_site.ensures.read_cause.rose e, stood)

pub returns-in-Err-clause-opened : goal.returns-in-Err-clause-opened
returns-in-Err-clause-opened g c =
    opens_unopened _ (still (g.S.Source.left c.args.site.now) (g.S.Source.left c.open_site.new.source)) (still (g.T.Source.left c.args.script.now) (g.T.Source.left c.args.script.now)) c.in-Err.status (g.G.Ground.told c.args.device) c.in-Err.ensures.fault
    (λ own same. c.open_site.ensures.refused own (c.in-Err.is ∙ ap Err same))
    (λ read. (refl, c.open_site.ensures.cause.rose (c.in-Err.is ∙ ap Err read)))

pub returns-clause-opened : goal.returns-clause-opened
returns-clause-opened g c =
    let failed = (c.play_site.new.script ≡ c.args.script.now) × Rose (g.S.Source.faults c.args.site.now) (g.S.Source.faults c.open_site.new.source) in
    let old = g.G.Ground.told c.args.device in
    let new = g.G.Ground.told c.play_site.result.0 in
    let script = still (g.T.Source.left c.args.script.now) (g.T.Source.left c.play_site.new.script) in
    let ended = status_of c.play_site.result.1 in
    on_read (λ octets says. IfSome script (λ t. OpensOnSite failed octets says ended t old new)) (still (g.S.Source.left c.args.site.now) (g.S.Source.left c.open_site.new.source)) c.in-Ok.read.0 c.in-Ok.read.1.items c.as_slice.result.now c.as_slice.ensures.value c.in-Ok.ensures.site
    (opens_behind failed c.as_slice.result.now script ended old new (Ok c.in-Ok.read.0) c.play_site.ensures.opened)

pub returns-in-Err-clause-below : goal.returns-in-Err-clause-below
returns-in-Err-clause-below g c =
    small_unopened (g.G.Ground.size c.args.device) (still (g.S.Source.left c.args.site.now) (g.S.Source.left c.open_site.new.source)) c.in-Err.status c.in-Err.ensures.fault (λ own same. c.open_site.ensures.refused own (c.in-Err.is ∙ ap Err same))

pub returns-clause-below : goal.returns-clause-below
returns-clause-below g c =
    let size = g.G.Ground.size c.args.device in
    let ended = status_of c.play_site.result.1 in
    on_read (λ octets says. IfOk says (λ site. size < need site (length octets) → (ended ≡ ReadFault) ⊎ ((ended ≡ NoMemory) ⊎ EndsSmall size (need site (length octets)) ended))) (still (g.S.Source.left c.args.site.now) (g.S.Source.left c.open_site.new.source)) c.in-Ok.read.0 c.in-Ok.read.1.items c.as_slice.result.now c.as_slice.ensures.value c.in-Ok.ensures.site
    (λ low. inr (inr (c.play_site.ensures.below low)))
