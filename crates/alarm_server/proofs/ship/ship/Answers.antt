use Rattle.std.proofs.Common.{◌≡◌, ◌⊎◌, ◌<◌, ◌∙◌, Err, IfOk, IfSome, IsOk, ap, length, refl, inr}
use Rattle.ground_io.specs.Trace.{still}
use Rattle.site_config.specs.Sites.{site_of}
use Rattle.state_codec.specs.Sizes.{need}
use Rattle.alarm_server.specs.declared.status.Status.TheVariants.{NoMemory, ReadFault, SiteRefused}
use Rattle.alarm_server.specs.Openings.{RefusesOnSite}
use Rattle.alarm_server.specs.Shipping.{KeepsAlikeOnSite, ShipsOnSite}
use Rattle.alarm_server.specs.SmallDevices.{EndsSmall}
use Rattle.alarm_server.specs.Status.{status_of}
use Rattle.alarm_server.proofs.OnFile.{on_read}
use Rattle.alarm_server.proofs.ShippedSite.{keeps_unopened, on_ok_all, ships_unopened}
use Rattle.alarm_server.proofs.SmallDevices.{small_unopened}
use Rattle.alarm_server.proofs.ship.ship.Goals as goal

pub returns-in-Err-clause-ships : goal.returns-in-Err-clause-ships
returns-in-Err-clause-ships g c =
    ships_unopened (still (g.S.Source.left c.args.site.now) (g.S.Source.left c.open_site.new.source)) c.args.from c.in-Err.status (g.G.Ground.told c.args.device) c.in-Err.ensures.fault
    (λ own same. c.open_site.ensures.refused own (c.in-Err.is ∙ ap Err same))

pub returns-in-Err-clause-keeps : goal.returns-in-Err-clause-keeps
returns-in-Err-clause-keeps g c = keeps_unopened (still (g.S.Source.left c.args.site.now) (g.S.Source.left c.open_site.new.source)) (g.G.Ground.told c.args.device)

pub returns-in-Err-clause-refuses_site : goal.returns-in-Err-clause-refuses_site
returns-in-Err-clause-refuses_site g c = λ own e.
    let same : c.in-Err.status ≡ SiteRefused own = cc in
    c.open_site.ensures.refused own (c.in-Err.is ∙ ap Err same)

pub returns-clause-ships : goal.returns-clause-ships
returns-clause-ships g c =
    let old = g.G.Ground.told c.args.device in
    let new = g.G.Ground.told c.ship_site.result.0 in
    let ended = status_of c.ship_site.result.1 in
    on_read (λ octets says. ShipsOnSite c.args.from octets says ended old new) (still (g.S.Source.left c.args.site.now) (g.S.Source.left c.open_site.new.source)) c.in-Ok.read.0 c.in-Ok.read.1.items c.as_slice.result.now c.as_slice.ensures.value c.in-Ok.ensures.site c.ship_site.ensures.ships

pub returns-clause-keeps : goal.returns-clause-keeps
returns-clause-keeps g c =
    let old = g.G.Ground.told c.args.device in
    let new = g.G.Ground.told c.ship_site.result.0 in
    on_read (λ octets says. KeepsAlikeOnSite octets says old new) (still (g.S.Source.left c.args.site.now) (g.S.Source.left c.open_site.new.source)) c.in-Ok.read.0 c.in-Ok.read.1.items c.as_slice.result.now c.as_slice.ensures.value c.in-Ok.ensures.site c.ship_site.ensures.keeps

pub returns-clause-accepted : goal.returns-clause-accepted
returns-clause-accepted g c =
    let left = still (g.S.Source.left c.args.site.now) (g.S.Source.left c.open_site.new.source) in
    let taken : IfSome left (λ octets. IsOk (site_of octets)) = on_read (λ octets says. IsOk says) left c.in-Ok.read.0 c.in-Ok.read.1.items c.as_slice.result.now c.as_slice.ensures.value c.in-Ok.ensures.site refl in
    on_ok_all (IfSome left (λ octets. IsOk (site_of octets))) c.ship_site.result.1 taken

pub returns-clause-refuses_journal : goal.returns-clause-refuses_journal
returns-clause-refuses_journal g c = λ fault e.
    let old = g.G.Ground.told c.args.device in
    let new = g.G.Ground.told c.ship_site.result.0 in
    on_read (λ octets says. RefusesOnSite octets says old new fault) (still (g.S.Source.left c.args.site.now) (g.S.Source.left c.open_site.new.source)) c.in-Ok.read.0 c.in-Ok.read.1.items c.as_slice.result.now c.as_slice.ensures.value c.in-Ok.ensures.site (c.ship_site.ensures.refuses_journal fault e)

pub returns-in-Err-clause-below : goal.returns-in-Err-clause-below
returns-in-Err-clause-below g c =
    small_unopened (g.G.Ground.size c.args.device) (still (g.S.Source.left c.args.site.now) (g.S.Source.left c.open_site.new.source)) c.in-Err.status c.in-Err.ensures.fault (λ own same. c.open_site.ensures.refused own (c.in-Err.is ∙ ap Err same))

pub returns-clause-below : goal.returns-clause-below
returns-clause-below g c =
    let size = g.G.Ground.size c.args.device in
    let ended = status_of c.ship_site.result.1 in
    on_read (λ octets says. IfOk says (λ site. size < need site (length octets) → (ended ≡ ReadFault) ⊎ ((ended ≡ NoMemory) ⊎ EndsSmall size (need site (length octets)) ended))) (still (g.S.Source.left c.args.site.now) (g.S.Source.left c.open_site.new.source)) c.in-Ok.read.0 c.in-Ok.read.1.items c.as_slice.result.now c.as_slice.ensures.value c.in-Ok.ensures.site
    (λ low. inr (inr (c.ship_site.ensures.below low)))
