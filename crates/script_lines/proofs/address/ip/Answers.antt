use Rattle.std.proofs.Common.{refl, ◌∙◌}
use Rattle.script_lines.specs.Number.{unsigned_of}
use Rattle.script_lines.proofs.Parts.{four_read, no_third, no_fourth, three_dots}
use Rattle.script_lines.proofs.address.ip.Goals as goal

pub returns-in_err-c : goal.returns-in_err-c
returns-in_err-c c =
    let s = c.split_at.ensures in
    let t = c.split_at-2.ensures in
    let u = c.split_at-3.ensures in
    let last = unsigned_of 255 c.split_at-3.result.1.now in
    let dots = three_dots c.args.text.now _ _ _ _ _ _ c.octet.result c.octet-2.result c.octet-3.result last s.before s.after t.before t.after u.before u.after c.octet.ensures.number c.octet-2.ensures.number c.octet-3.ensures.number refl in
    record { ip = c.from_residual-in_err-c.ensures ∙ (no_third _ _ _ last _ _ c.in_ok-a.was c.in_ok-b.was c.in_err-c.was ∙ dots) }

pub returns-in_err-d : goal.returns-in_err-d
returns-in_err-d c =
    let s = c.split_at.ensures in
    let t = c.split_at-2.ensures in
    let u = c.split_at-3.ensures in
    let dots = three_dots c.args.text.now _ _ _ _ _ _ c.octet.result c.octet-2.result c.octet-3.result c.octet-4.result s.before s.after t.before t.after u.before u.after c.octet.ensures.number c.octet-2.ensures.number c.octet-3.ensures.number c.octet-4.ensures.number in
    record { ip = c.from_residual-in_err-d.ensures ∙ (no_fourth _ _ _ _ _ _ _ c.in_ok-a.was c.in_ok-b.was c.in_ok-c.was c.in_err-d.was ∙ dots) }

pub returns : goal.returns
returns c =
    let s = c.split_at.ensures in
    let t = c.split_at-2.ensures in
    let u = c.split_at-3.ensures in
    let dots = three_dots c.args.text.now _ _ _ _ _ _ c.octet.result c.octet-2.result c.octet-3.result c.octet-4.result s.before s.after t.before t.after u.before u.after c.octet.ensures.number c.octet-2.ensures.number c.octet-3.ensures.number c.octet-4.ensures.number in
    record { ip = four_read _ _ _ _ _ _ _ _ c.in_ok-a.was c.in_ok-b.was c.in_ok-c.was c.in_ok-d.was ∙ dots }
