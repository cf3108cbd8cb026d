use Rattle.std.proofs.Common.{◌≡◌, Some, ap, refl, subst, sym, ◌∙◌}
use Rattle.std.specs.Prelude.{IsErr, IsSomeAnd}
use Rattle.script_lines.specs.SessionLine.{IsText, object_of, value_of}
use Rattle.script_lines.specs.Words.{first_word, moment_of, other_words}
use Rattle.script_lines.proofs.Octets.{value_wants}
use Rattle.script_lines.proofs.session_line.value_line.Goals as goal

pub returns-in_err-value-clause-wants : goal.returns-in_err-value-clause-wants
returns-in_err-value-clause-wants c = λ refused.
    let words = c.args.words.now in
    let first = c.split_word.ensures in
    let second = c.split_word-2.ensures in
    let refusal : IsErr c.read_value.result = rw c.in_err-value.was refl in
    let at_moment : moment_of (first_word words) ≡ Some c.in-Some.moment = sym (ap moment_of first.word) ∙ (sym c.read_moment.ensures.moment ∙ c.in-Some.is) in
    let of_object : object_of (first_word (other_words words)) ≡ Some c.in-Some-read_object.object =
    sym (ap (λ others. object_of (first_word others)) first.others) ∙ (sym (ap object_of second.word) ∙ (sym c.read_object.ensures.object ∙ c.in-Some-read_object.is)) in
    let text = subst (λ others. IsSomeAnd (value_of others) IsText) (second.others ∙ ap other_words first.others) (c.read_value.ensures.wants refusal) in
    value_wants c.args.number c.in-Some.moment c.in-Some-read_object.object words at_moment of_object text
