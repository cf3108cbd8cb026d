use Rattle.std.proofs.Common.{◌≡◌, IfOk, string_bytes, rules}
use Rattle.work_load.specs.Site.{object_text}
use Rattle.work_load.proofs.site.object_text.Goals as goal

pub returns : goal.returns
returns c =
    let name = rw c.at-kind.ensures.kind at c.name-name.ensures.name in
    let settings = rw c.at-kind.ensures.kind at c.settings_text-settings.ensures.text in
    record { text = rw (← name, ← settings) c.format.ensures.ok }
