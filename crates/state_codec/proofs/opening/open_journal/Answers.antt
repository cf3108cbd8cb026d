use Rattle.std.proofs.Common.{◌∙◌, Err, ap, arith}
use Rattle.alarm_journal.specs.Opened.{content_in}
use Rattle.state_codec.specs.Keeping.{journal_of}
use Rattle.state_codec.proofs.Openings.{left_alone, never_by_octets, never_refused, not_small, opened_stands, refused_by_octets, refused_within, reopened_quietly, synced_quietly, synced_reopens}
use Rattle.state_codec.proofs.opening.open_journal.Goals as goal

pub returns-in-Err-clause-quiet : goal.returns-in-Err-clause-quiet
returns-in-Err-clause-quiet g c = reopened_quietly (journal_of c.args.site.now c.args.text.now) (g.G.Ground.told c.args.device) (g.G.Ground.told c.in-Err.device) (rw c.need-size.ensures.need at c.in-Err.ensures.any_moment)

pub returns-in-Err-clause-refused : goal.returns-in-Err-clause-refused
returns-in-Err-clause-refused g c = refused_by_octets c.args.site.now c.args.text.now c.in-Err.fault (g.G.Ground.told c.args.device) (g.G.Ground.told c.in-Err.device) (rw c.need-size.ensures.need at c.in-Err.ensures.answer)

pub returns-in-Err-clause-stands : goal.returns-in-Err-clause-stands
returns-in-Err-clause-stands g c = λ history stood. never_by_octets c.args.site.now c.args.text.now c.in-Err.fault history (g.G.Ground.told c.args.device) (g.G.Ground.told c.in-Err.device) stood (rw c.need-size.ensures.need at c.in-Err.ensures.answer)

pub returns-in-Ok-recover-clause-quiet : goal.returns-in-Ok-recover-clause-quiet
returns-in-Ok-recover-clause-quiet g c = synced_quietly (journal_of c.args.site.now c.args.text.now) (g.G.Ground.told c.args.device) (g.G.Ground.told c.in-Ok.opened.0.device) (rw c.need-size.ensures.need at c.in-Ok.ensures.any_moment)

pub returns-in-Err-recover-clause-reopens : goal.returns-in-Err-recover-clause-reopens
returns-in-Err-recover-clause-reopens g c = rw c.into_ground.ensures.same (synced_reopens (journal_of c.args.site.now c.args.text.now) (g.G.Ground.told c.args.device) (g.G.Ground.told c.in-Ok.opened.0.device) (rw c.need-size.ensures.need at c.in-Ok.ensures.any_moment))

pub returns-in-Err-recover-clause-quiet : goal.returns-in-Err-recover-clause-quiet
returns-in-Err-recover-clause-quiet g c = rw c.into_ground.ensures.same (synced_quietly (journal_of c.args.site.now c.args.text.now) (g.G.Ground.told c.args.device) (g.G.Ground.told c.in-Ok.opened.0.device) (rw c.need-size.ensures.need at c.in-Ok.ensures.any_moment))

pub returns-in-Err-recover-clause-refused : goal.returns-in-Err-recover-clause-refused
returns-in-Err-recover-clause-refused g c =
    rw c.into_ground.ensures.same (rw c.refusal_of.ensures.refusal
    (refused_within c.args.site.now c.args.text.now c.in-Ok.opened.1 c.in-Ok.opened.0.layout (g.G.Ground.told c.args.device) (g.G.Ground.told c.in-Ok.opened.0.device) c.in-Err-recover.fault (rw c.need-size.ensures.need at c.in-Ok.ensures.answer) (rw c.need-size.ensures.need at c.in-Ok.ensures.settled) c.in-Ok.ensures.snapshot c.in-Ok.ensures.places c.in-Ok.ensures.stand
    (λ at e. c.recover.ensures.damaged at (c.in-Err-recover.is ∙ ap Err e))))

pub returns-in-Err-recover-clause-stands : goal.returns-in-Err-recover-clause-stands
returns-in-Err-recover-clause-stands g c = λ history stood.
    let before = g.G.Ground.told c.args.device in
    rw c.refusal_of.ensures.refusal
    (never_refused c.args.site.now c.args.text.now c.in-Ok.opened.1 history before (g.G.Ground.told c.in-Ok.opened.0.device) c.in-Err-recover.fault (rw c.into_ground.ensures.same at stood) (rw c.need-size.ensures.need at c.in-Ok.ensures.answer)
    (λ stands at e. c.recover.ensures.stands history stands at (c.in-Err-recover.is ∙ ap Err e)))

pub returns-in-Ok-recover-clause-represents : goal.returns-in-Ok-recover-clause-represents
returns-in-Ok-recover-clause-represents g c = λ history stood.
    let stands = opened_stands c.args.site.now c.args.text.now c.in-Ok.opened.1 history (g.G.Ground.told c.args.device) (g.G.Ground.told c.in-Ok.opened.0.device) stood (rw c.need-size.ensures.need at c.in-Ok.ensures.answer) in
    c.in-Ok-recover.ensures.represents history stands

pub returns-in-Ok-recover-clause-holds : goal.returns-in-Ok-recover-clause-holds
returns-in-Ok-recover-clause-holds g c = λ history stood.
    let stands = opened_stands c.args.site.now c.args.text.now c.in-Ok.opened.1 history (g.G.Ground.told c.args.device) (g.G.Ground.told c.in-Ok.opened.0.device) stood (rw c.need-size.ensures.need at c.in-Ok.ensures.answer) in
    (content_in c.in-Ok.opened.1, (rw c.need-size.ensures.need at c.in-Ok.ensures.settled, rw c.need-size.ensures.need at c.in-Ok.ensures.lasts), stands)

pub returns-in-Err-clause-below : goal.returns-in-Err-clause-below
returns-in-Err-clause-below g c = rw c.need-size.ensures.need at c.in-Err.ensures.below

pub returns-in-Ok-recover-clause-opened : goal.returns-in-Ok-recover-clause-opened
returns-in-Ok-recover-clause-opened g c = rw c.need-size.ensures.need at c.in-Ok.ensures.answer

pub returns-in-Ok-recover-clause-area : goal.returns-in-Ok-recover-clause-area
returns-in-Ok-recover-clause-area g c = rw c.need-size.ensures.need at c.in-Ok.ensures.area

pub returns-in-Err-recover-clause-unchanged : goal.returns-in-Err-recover-clause-unchanged
returns-in-Err-recover-clause-unchanged g c =
    rw c.into_ground.ensures.same (rw c.refusal_of.ensures.refusal
    (left_alone c.args.site.now c.in-Ok.opened.1 (g.G.Ground.told c.args.device) (g.G.Ground.told c.in-Ok.opened.0.device) c.in-Err-recover.fault c.in-Ok.ensures.empty c.in-Ok.ensures.begun
    (λ at e. c.recover.ensures.damaged at (c.in-Err-recover.is ∙ ap Err e))))

pub returns-in-Err-recover-clause-small : goal.returns-in-Err-recover-clause-small
returns-in-Err-recover-clause-small g c = rw c.refusal_of.ensures.refusal (not_small (g.G.Ground.size c.args.device) c.in-Err-recover.fault)

pub returns-in-Err-recover-clause-below : goal.returns-in-Err-recover-clause-below
returns-in-Err-recover-clause-below g c = λ less. absurd (omega (arith, less, rw c.need-size.ensures.need at c.in-Ok.ensures.enough, c.in-Ok.ensures.same))

pub returns-in-Ok-recover-clause-enough : goal.returns-in-Ok-recover-clause-enough
returns-in-Ok-recover-clause-enough g c = omega (arith, rw c.need-size.ensures.need at c.in-Ok.ensures.enough, c.in-Ok.ensures.same)
