use Rattle.site_config.proofs.KeptSite.{gives_kept}
use Rattle.site_config.proofs.site.read_site.Goals as goal

pub returns : goal.returns
returns c = record { answer = c.site_of_text.ensures.answer; keeps = gives_kept c.site_of_text.result c.args.text.now c.site_of_text.ensures.answer }
