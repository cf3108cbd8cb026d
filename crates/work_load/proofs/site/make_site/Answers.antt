use Rattle.std.proofs.Common.{◌≡◌, ◌∙◌, ◌++◌, ap}
use Rattle.work_load.specs.Site.{device_text, enrollments_text, logs_text}
use Rattle.work_load.proofs.Joined.{joined}
use Rattle.work_load.proofs.site.make_site.Goals as goal

pub returns : goal.returns
returns c =
    let behind = ap (λ objects. objects ++ (enrollments_text ++ logs_text)) c.in_ok-objects.ensures.text in
    let whole = ap (λ others. device_text ++ others) (joined c.in_ok-classes.ensures.text (joined c.in_ok-destinations.ensures.text behind)) in
    record { text = ap (λ text. text.items) c.into_bytes.ensures.value ∙ (c.in_ok-text.ensures.ok ∙ whole) }
