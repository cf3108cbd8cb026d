use Rattle.std.proofs.Common.{Some, sym, ap, ◌∙◌}
use Rattle.state_codec.proofs.Texts.{is_text, no_text}
use Rattle.state_codec.proofs.value.text_of.Goals as goal

pub returns-in_default : goal.returns-in_default
returns-in_default c = record { exact = no_text c.args.octets.now c.if-octets-gt256.false c.in_default.ensures.cases.0 }

pub returns-in-Ok-new : goal.returns-in-Ok-new
returns-in-Ok-new c =
    record { exact = is_text c.args.octets.now c.if-octets-gt256.false c.in-Ok.ensures.cases.1 ∙ ap (λ t. Some t) (sym (c.in-Ok-new.ensures.same ∙ c.in-Ok.ensures.cases.0)) }
