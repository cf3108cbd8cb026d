-- What a decision enters is allowed.
use Rattle.std.proofs.Common.{◌≡◌, ℕ, Result, Ok, Err, IfOk, refl, sym, subst}
use Rattle.bac_values.specs.Identifier.{ObjectIdData}
use Rattle.ack_alarm.specs.declared.verdict.Verdict.{Verdict}
use Rattle.ack_alarm.specs.declared.verdict.Verdict.TheVariants.{Accept, Already, Error}
use Rattle.ack_alarm.specs.Verdicts.{AcceptsAllowed}
use Rattle.alarm_core.specs.Found.{found_in}
use Rattle.alarm_core.specs.State.{CoreState}
use Rattle.service_desk.specs.declared.decision.Decision.{Decision}
use Rattle.service_desk.specs.Requesters.{RequesterData}
use Rattle.service_desk.specs.AcknowledgeAlarm.{verdict_decision}
use Rattle.service_desk.specs.Decisions.{EntersAllowed}

pub verdict_enters : (state : CoreState) (moment : ℕ) (requester : RequesterData) (object : ObjectIdData) (verdict : Verdict) → AcceptsAllowed (found_in state object) verdict →
    EntersAllowed state moment (verdict_decision moment requester object verdict)
verdict_enters state moment requester object (Accept transition named) accepts = (refl, accepts transition named refl)
verdict_enters state moment requester object Already accepts = tt
verdict_enters state moment requester object (Error class code) accepts = tt

-- what holds of one decision holds of an answer that is it
pub holds_of : {E : Type 0} (P : Decision → Type 0) (answer : Result Decision E) (decision : Decision) → IfOk answer (λ d. d ≡ decision) → P decision → IfOk answer P
holds_of P (Ok d) decision same p = subst P (sym same) p
holds_of P (Err fault) decision same p = tt
