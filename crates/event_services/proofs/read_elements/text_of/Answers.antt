use Rattle.std.proofs.Common.{Some, ap, sym, ◌∙◌, ◌-◌, length, take, drop}
use Rattle.event_services.proofs.TextForms.{rest_is, text_from, no_text_from}
use Rattle.event_services.proofs.read_elements.text_of.Goals as goal

pub returns-in-Ok-clause-exact : goal.returns-in-Ok-clause-exact
returns-in-Ok-clause-exact c =
    let content = c.args.content.now in
    text_from content (take (length content - 1) (drop 1 content)) c.in-len1-up.len_at_least c.if-set-ne0.false c.if-text-gt-MOST_TEXT_OCTETS.false (rest_is content) c.in-Ok.ensures.cases.1 ∙ ap Some (sym c.in-Ok.ensures.cases.0)

pub returns-in-Err-clause-exact : goal.returns-in-Err-clause-exact
returns-in-Err-clause-exact c =
    let content = c.args.content.now in
    no_text_from content (take (length content - 1) (drop 1 content)) c.in-len1-up.len_at_least (rest_is content) c.in-Err.ensures.cases.0
