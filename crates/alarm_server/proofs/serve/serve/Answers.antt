use Rattle.std.proofs.Common.{◌≡◌, ℕ, Ok, Err, refl, ap, sym, ◌∙◌, ⊎_elim, map, string_bytes}
use Rattle.ground_io.specs.Trace.{still}
use Rattle.alarm_server.specs.ServeWords.{count_in}
use Rattle.alarm_server.specs.Serving.{IsSiteIn, NotOpened, NotRead, NoSite, Opened, OutOfMemory, ServesFile}
use Rattle.alarm_server.proofs.Known.{in_any}
use Rattle.alarm_server.proofs.NoSite.{no_site}
use Rattle.alarm_server.proofs.OnFile.{on_read}
use Rattle.alarm_server.proofs.serve.serve.Goals as goal

pub returns-in-Err-clause-serves : goal.returns-in-Err-clause-serves
returns-in-Err-clause-serves g c =
    let link = c.args.link in
    let device = c.args.device in
    let left = g.L.Link.left c.args.link in
    in_any (λ (count : ℕ). ServesFile g.G.Ground.told g.G.Ground.size g.G.Ground.disk_faults g.G.Ground.emit_faults (g.K.Clock.shows c.args.clock.now) (still (g.S.Source.left c.args.site.now) (g.S.Source.left c.open_site.new.source)) count link link left left device device c.none-in-Err.result)
    (count_in (map string_bytes c.args.words.now))
    (λ count.
    no_site _ (still (g.S.Source.left c.args.site.now) (g.S.Source.left c.open_site.new.source)) c.in-Err.status c.none-in-Err.result c.none-in-Err.ensures.none c.in-Err.ensures.fault (λ fault same. c.open_site.ensures.refused fault (c.in-Err.is ∙ ap Err same))
    (λ fault refuses unserved. NoSite fault refuses unserved refl refl) (λ unserved. NotRead unserved refl refl) (λ unserved. OutOfMemory unserved refl refl))

pub returns-clause-serves : goal.returns-clause-serves
returns-clause-serves g c =
    let file = still (g.S.Source.left c.args.site.now) (g.S.Source.left c.open_site.new.source) in
    let site = c.in-Ok.read.0 in
    let text = c.as_slice.result.now in
    let is : IsSiteIn file site text = on_read (λ octets says. (octets ≡ text) × (says ≡ Ok site)) file site c.in-Ok.read.1.items text c.as_slice.ensures.value c.in-Ok.ensures.site (refl, refl) in
    rw (sym c.count_of.ensures.count ∙ c.in-Some.is)
    (⊎_elim (λ no. NotOpened site text is no.0 no.1) (λ served. Opened site text is served) c.serve_site.ensures.serves)
