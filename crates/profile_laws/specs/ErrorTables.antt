-- Tables of errors (ANSI/ASHRAE 135-2020, clause 18): the errors of a service in their order, each with its condition; the first whose condition holds is the answer.
use Rattle.std.specs.Prelude.{◌≡◌, ◌≢◌, ◌<◌, ℕ, Bool, if◌then◌else◌, Option, Some, None, IsSomeAnd, List, [], ◌∷◌, slice_index}
use Rattle.bac_values.specs.Address.{PeerData}
use Rattle.bac_values.specs.declared.note.Send.{Send}
use Rattle.bac_values.specs.declared.service_error.ServiceError.{ServiceError}
use Rattle.apdu_frame.specs.Writing.{written_error, written_reject}
use Rattle.alarm_core.specs.State.{CoreState}
use Rattle.service_desk.specs.declared.decision.Decision.{Decision}
use Rattle.service_desk.specs.declared.decision.Decision.TheVariants.{Enter, Reply}
use Rattle.service_desk.specs.Requesters.{requester_of}
use Rattle.service_desk.specs.Decisions.{request_decision}
use Rattle.service_desk.specs.Replies.{reply_to}

-- the error of the first row whose condition holds
abbrev pub first_error : List (Bool × ServiceError) → Option ServiceError
first_error [] = None
first_error (row ∷ later) = if row.0 then Some row.1 else first_error later

-- who makes a confirmed request (20.1.2): a peer, the longest APDU that it takes, and its invoke ID
pub record Asker : Type 0 where
  pub peer : PeerData
  pub max_apdu : ℕ
  pub invoke : ℕ

-- what is decided on its request of a service with these parameters
abbrev pub decision_for : CoreState → ℕ → Asker → ℕ → List ℕ → Decision
decision_for state moment asker service parameters = request_decision state moment (requester_of asker.peer asker.max_apdu asker.invoke service) parameters

-- parameters are octets
abbrev pub AreOctets : List ℕ → Type 0
AreOctets octets = (place : ℕ) → slice_index octets place < 256

-- an Error as the answer (20.1.7)
abbrev pub error_to : Asker → ℕ → ServiceError → Send
error_to asker service error = reply_to asker.peer (written_error asker.invoke service error.class error.code)

-- an answer that is no Error, of whatever class and code, and no Reject (20.1.8) either
pub record IsNoError (asker : Asker) (service : ℕ) (send : Send) : Type 0 where
  pub error : (error : ServiceError) → send ≢ error_to asker service error
  pub reject : (reason : ℕ) → send ≢ reply_to asker.peer (written_reject asker.invoke reason)

-- there is an answer, at once or to the event that the request is, and it is none; nor is the one where the event's notifications don't fit the outbox
abbrev pub HasNoError : Asker → ℕ → Decision → Type 0
HasNoError asker service (Reply send) = IsNoError asker service send
HasNoError asker service (Enter event reply full) = IsSomeAnd reply (IsNoError asker service) × IsSomeAnd full (IsNoError asker service)
HasNoError asker service decision = ⊥

-- a request is answered with the first error that applies to it, if one does, and else with no error
abbrev pub IsAnsweredBy : Asker → ℕ → Option ServiceError → Decision → Type 0
IsAnsweredBy asker service (Some error) decision = decision ≡ Reply (error_to asker service error)
IsAnsweredBy asker service None decision = HasNoError asker service decision
