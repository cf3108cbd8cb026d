use Rattle.std.proofs.Common.{◌≡◌, ◌+◌, List, take, drop, get_or, sym, ap, ◌∙◌, subst, arith, Err}
use Rattle.std.proofs.lemmas.List.{take_more}
use Rattle.alarm_journal.specs.Opened.{EndsOnDevice}
use Rattle.alarm_journal.specs.declared.body.Body.{Body}
use Rattle.state_codec.specs.Damage.{IsDamagedIn}
use Rattle.state_codec.specs.declared.recovering.RecoverFault.TheVariants.{Damaged}
use Rattle.state_codec.proofs.Following.{IsBehind, around, behind_more, damaged_in, damaged_within, next_fits}
use Rattle.state_codec.proofs.recovering.follow_bodies.Goals as goal

no_body : Body
no_body = record { place = 0; length = 0 }

pub split_at-requires : goal.split_at-requires
unfolding no_body
split_at-requires c =
    let bodies = c.args.bodies.now in
    let index = c.loop-body.body-index in
    next_fits bodies (take index bodies) (drop (index + 1) bodies) (get_or bodies index no_body) c.args.octets.now c.loop-body.rest.now (around bodies index no_body c.loop-body-test.true) c.requires.whole c.loop-body.invariant.left

pub in_body-requires : goal.in_body-requires
unfolding no_body
in_body-requires c = record {
  fits = λ offset is.
      let body = get_or c.args.bodies.now c.loop-body.body-index no_body in
      let damaged : IsDamagedIn c.loop-body.core c.split_at.result.0.now offset = c.follow_records.ensures.damaged offset (c.in-Err.is ∙ ap Err is) in
      let ends : EndsOnDevice body = c.requires.places c.loop-body.body-index no_body c.loop-body-test.true in
      omega (arith, ends, damaged_within c.loop-body.core c.split_at.result.0.now offset damaged, c.split_at.ensures.front_len);
}

pub returns-in-Err-clause-damaged : goal.returns-in-Err-clause-damaged
unfolding no_body
returns-in-Err-clause-damaged c = λ at e.
    let bodies = c.args.bodies.now in
    let index = c.loop-body.body-index in
    let is : c.in_body.result ≡ Damaged at = cc in
    let placed = c.in_body.ensures.place at is in
    let damaged : IsDamagedIn c.loop-body.core c.split_at.result.0.now placed.0 = c.follow_records.ensures.damaged placed.0 (c.in-Err.is ∙ ap Err placed.1) in
    damaged_in c.args.core.now c.loop-body.core bodies (take index bodies) (drop (index + 1) bodies) (get_or bodies index no_body) c.args.octets.now c.loop-body.rest.now c.split_at.result.0.now placed.0 at
    (around bodies index no_body c.loop-body-test.true) c.loop-body.invariant c.split_at.ensures.front damaged placed.2

pub loop-body-preserved : goal.loop-body-preserved
unfolding no_body
loop-body-preserved c =
    let bodies = c.args.bodies.now in
    let index = c.loop-body.body-index in
    subst (λ (read : List Body). IsBehind c.args.core.now read c.args.octets.now c.split_at.result.1.now c.follow_records.new.core) (sym (take_more bodies index no_body c.loop-body-test.true))
    (behind_more c.args.core.now c.loop-body.core c.follow_records.new.core (take index bodies) (get_or bodies index no_body) c.args.octets.now c.loop-body.rest.now c.split_at.result.0.now c.split_at.result.1.now
    c.loop-body.invariant c.split_at.ensures.front c.split_at.ensures.back c.in_default.ensures.followed)
