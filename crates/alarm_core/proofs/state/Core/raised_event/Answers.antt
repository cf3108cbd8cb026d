use Rattle.std.proofs.Common.{◌≡◌, ◌∙◌, ℕ, max, ap, sym, arith, rules}
use Rattle.alarm_core.specs.History.{raised}
use Rattle.alarm_core.specs.declared.event.Event.{Event}
use Rattle.alarm_core.proofs.state.Core.raised_event.Goals as goal

same_again : (last moment : ℕ) → max (max moment last) last ≡ max moment last
same_again last moment = omega arith

-- an event that was raised
raised_again : (last : ℕ) (event raised_once : Event) → raised_once ≡ raised last event → raised last raised_once ≡ raised_once
raised_again last event raised_once is = ap (raised last) is ∙ (ap (λ (m : ℕ). record event { moment = m }) (same_again last event.moment) ∙ sym is)

pub returns-clause-again : goal.returns-clause-again
returns-clause-again c =
    let event = c.args.event in
    let last = c.args.self.now.last_moment in
    let moment : c.raised_moment.result ≡ max event.moment last = search rules in
    raised_again last event (record event { moment = c.raised_moment.result }) (ap (λ (m : ℕ). record event { moment = m }) moment)
