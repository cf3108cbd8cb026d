use Rattle.std.proofs.Common.{IfSome, subst, sym}
use Rattle.std.proofs.lemmas.Option.{IfSome_then}
use Rattle.script_lines.proofs.SpelledSession.{IsLineAt, spelled_session}
use Rattle.script_lines.proofs.line.Line.read.Goals as goal

pub returns-in_ok-session_line-in-Session-clause-number : goal.returns-in_ok-session_line-in-Session-clause-number
returns-in_ok-session_line-in-Session-clause-number c =
    let found = c.in_ok-session_line-in-Session.field-0 in
    let spelled = subst (λ found. IfSome found (IsLineAt c.args.number)) (sym c.in_ok-session_line-in-Session.ensures.line) (spelled_session c.args.number c.args.text.now) in
    IfSome_then found spelled (λ line is. is.numbered)

pub returns-in_ok-session_line-in-Session-clause-of_grammar : goal.returns-in_ok-session_line-in-Session-clause-of_grammar
returns-in_ok-session_line-in-Session-clause-of_grammar c =
    let found = c.in_ok-session_line-in-Session.field-0 in
    let spelled = subst (λ found. IfSome found (IsLineAt c.args.number)) (sym c.in_ok-session_line-in-Session.ensures.line) (spelled_session c.args.number c.args.text.now) in
    rw c.in-Session.is (IfSome_then found spelled (λ line is. is.of_session))
