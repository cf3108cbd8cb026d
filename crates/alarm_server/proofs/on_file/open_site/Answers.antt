use Rattle.std.proofs.Common.{◌≡◌, ◌⊎◌, Ok, Err}
use Rattle.std.proofs.lemmas.Result.{err_from_is_err_and}
use Rattle.site_config.specs.declared.fault.SiteFault.TheVariants.{NoMemory}
use Rattle.site_config.specs.Sites.{site_of}
use Rattle.alarm_server.specs.declared.status.Status.TheVariants.{SiteRefused}
use Rattle.alarm_server.specs.Status.{of_site_fault}
use Rattle.ground_io.specs.Trace.{still}
use Rattle.alarm_server.proofs.OnFile.{file_is, file_refused}
use Rattle.alarm_server.proofs.Texts.{short_site}
use Rattle.alarm_server.proofs.on_file.open_site.Goals as goal

pub returns-in_err-site-clause-refused : goal.returns-in_err-site-clause-refused
returns-in_err-site-clause-refused g c = λ fault e.
    let p = err_from_is_err_and c.from_residual-in_err-site.result c.from_residual-in_err-site.ensures.1 in
    let found = c.in_err-site.field-0.0 in
    let same : of_site_fault found ≡ SiteRefused fault = cc in
    let given : (found ≡ NoMemory) ⊎ (site_of c.in_ok-text.text.items ≡ Err found) = rw c.as_slice.ensures.value at c.in_err-site.ensures.answer in
    file_refused (still (g.S.Source.left c.args.source.now) (g.S.Source.left c.read_text.new.source)) c.in_ok-text.text.items found fault c.in_ok-text.ensures.text given same

pub returns-clause-site : goal.returns-clause-site
returns-clause-site g c =
    let says : site_of c.in_ok-text.text.items ≡ Ok c.in_ok-site.site = rw c.as_slice.ensures.value at c.in_ok-site.ensures.answer in
    file_is (still (g.S.Source.left c.args.source.now) (g.S.Source.left c.read_text.new.source)) c.in_ok-text.text.items c.in_ok-site.site c.in_ok-text.ensures.text says

pub returns-clause-short : goal.returns-clause-short
returns-clause-short g c =
    let says : site_of c.in_ok-text.text.items ≡ Ok c.in_ok-site.site = rw c.as_slice.ensures.value at c.in_ok-site.ensures.answer in
    short_site c.in_ok-text.text.items c.in_ok-site.site says
