use Rattle.std.proofs.Common.{◌≡◌, ◌≤◌, ◌<◌, ◌+◌, ◌-◌, ◌^◌, ℕ, arith, ap, ◌∙◌, length, subst, List}
use Rattle.ground_io.specs.Counts.{HasCause}
use Rattle.bac_values.specs.declared.note.Send.{Send}
use Rattle.alarm_journal.specs.Emissions.{EmitsAll}
use Rattle.alarm_journal.specs.Press.{PressState, room_of}
use Rattle.state_codec.specs.declared.work.Work.TheVariants.{Nothing}
use Rattle.floor_desk.specs.Carrying.{CountsCarried, SendsAlone}
use Rattle.floor_desk.specs.declared.load.Carried.TheVariants.{Broken, Home}
use Rattle.floor_desk.proofs.Carrying.{back_broken, back_home}
use Rattle.floor_desk.proofs.Quiet.{quiet_loses_nothing}
use Rattle.floor_desk.proofs.load.Load.carry_out.Goals as goal

pub returns-in-Ok : goal.returns-in-Ok
returns-in-Ok g c =
    let told = g.G.Ground.told in
    let emits = c.emit_all-emits in
    let mid = c.in-Ok.press in
    let few : emits.result.lost ≤ 2 ^ 64 - 1 = omega arith in
    let same = c.in-Ok.ensures.emitted in
    let sends : List Send = c.args.self.sends in
    let sent : EmitsAll sends emits.result.sent emits.result.lost (told mid.device) (told emits.new.self.device) = subst (λ (l : List Send). EmitsAll l emits.result.sent emits.result.lost (told mid.device) (told emits.new.self.device)) c.as_slice.ensures.same emits.ensures.told in
    let all : emits.result.sent + emits.result.lost ≡ length sends = emits.ensures.all ∙ ap (λ (l : List Send). length l) c.as_slice.ensures.same in
    let alone : c.args.self.work ≡ Nothing → SendsAlone told sends c.args.self.press (Home emits.new.self c.args.self.upto emits.result.lost) =
    λ none. let as_it_was = c.in-Ok.ensures.nothing none in
    let is : mid ≡ c.args.self.press = cc in (
      emits.ensures.layout ∙ ap (λ (p : PressState g.row.G.Denot). p.layout) is,
      subst (λ (p : PressState g.row.G.Denot). EmitsAll sends (length sends - emits.result.lost) emits.result.lost (told p.device) (told emits.new.self.device)) is
          (subst (λ (n : ℕ). EmitsAll sends n emits.result.lost (told mid.device) (told emits.new.self.device)) (omega (arith, all)) sent),
    ) in
    let counted : CountsCarried g.G.Ground.size g.G.Ground.disk_faults g.G.Ground.emit_faults c.args.self.press.device (Home emits.new.self c.args.self.upto emits.result.lost) = (
      emits.ensures.same ∙ c.in-Ok.ensures.same,
      emits.ensures.disk ∙ c.in-Ok.ensures.cause,
      record {
        cause = subst (λ (n : ℕ). HasCause n (g.G.Ground.emit_faults emits.new.self.device) (0 < emits.result.lost)) same emits.ensures.cause;
        same = λ none. emits.ensures.uncounted none ∙ same;
      },
    ) in record {
      counts = counted;
      alone = alone;
      rests = λ journal content rest. let kept = c.in-Ok.ensures.rests journal content rest in (emits.ensures.settled journal _ kept.0, emits.ensures.lasts journal _ kept.0);
      carried = λ origin a lent.
          back_home told origin a c.args.self lent g.G.Ground.size g.G.Ground.disk_faults g.G.Ground.emit_faults mid emits.new.self emits.result.sent emits.result.lost few all
          c.in-Ok.ensures.rests c.in-Ok.ensures.any_moment (quiet_loses_nothing (told c.args.self.press.device) (told mid.device) c.in-Ok.ensures.quiet)
          sent emits.ensures.settled emits.ensures.lasts emits.ensures.any_moment (room_of c.args.self.press.layout) c.args.self.press.layout.half c.requires.fits alone counted;
    }

pub returns : goal.returns
returns g c =
    let counted : CountsCarried g.G.Ground.size g.G.Ground.disk_faults g.G.Ground.emit_faults c.args.self.press.device (Broken c.in-Err.device c.args.self.upto) = (c.in-Err.ensures.same, c.in-Err.ensures.cause.rose tt, c.in-Err.ensures.emitted) in
    let some : c.args.self.work ≡ Nothing → ⊥ = λ none. let as_it_was = c.in-Err.ensures.nothing none in cc in record {
      counts = counted;
      alone = λ none. absurd (some none);
      rests = λ journal content rest. tt;
      carried = λ origin a lent.
          back_broken g.G.Ground.told origin a c.args.self lent g.G.Ground.size g.G.Ground.disk_faults g.G.Ground.emit_faults c.in-Err.device c.in-Err.ensures.any_moment
          (quiet_loses_nothing (g.G.Ground.told c.args.self.press.device) (g.G.Ground.told c.in-Err.device) c.in-Err.ensures.quiet) (room_of c.args.self.press.layout) c.args.self.press.layout.half c.requires.fits some counted;
    }
