-- Acknowledgements and Aborts are no Errors and no Rejects.
use Rattle.std.proofs.Common.{◌≡◌, ℕ, Bool, true, false, if◌then◌else◌, nat_lt, List, [], ◌∷◌, ◌++◌, length, drop, refl, sym, ap, ◌∙◌, arith}
use Rattle.std.proofs.lemmas.List.{drop_at}
use Rattle.bac_values.specs.Address.{PeerData}
use Rattle.bac_values.specs.declared.note.Send.{Send}
use Rattle.bac_values.specs.declared.service_error.ServiceError.{ServiceError}
use Rattle.apdu_frame.specs.Writing.{written_abort, written_complex_ack, written_error, written_reject, written_simple_ack}
use Rattle.bvlc_npdu.specs.Writing.{written_destination}
use Rattle.service_desk.specs.Requesters.{requester_of}
use Rattle.service_desk.specs.Replies.{reply_to, within_max_apdu}
use Rattle.profile_laws.specs.ErrorTables.{Asker, IsNoError, error_to}

-- what stands behind the first six octets, and the first octet
abbrev behind_six : List ℕ → List ℕ
behind_six (a ∷ b ∷ c ∷ d ∷ e ∷ f ∷ rest) = rest
behind_six _ = []

abbrev pub first_of : List ℕ → ℕ
first_of [] = 0
first_of (octet ∷ octets) = octet

-- datagrams to one peer that are the same carry the same APDU
pub same_apdu : (peer : PeerData) (a b : List ℕ) → reply_to peer a ≡ reply_to peer b → a ≡ b
same_apdu peer a b e =
    let before = written_destination peer in
    let behind : before ++ a ≡ before ++ b = ap (λ (send : Send). behind_six send.bytes) e in
    sym (drop_at before a (length before) refl) ∙ (ap (drop (length before)) behind ∙ drop_at before b (length before) refl)

other_apdu : (asker : Asker) (service : ℕ) (apdu : List ℕ) → (first_of apdu ≡ 80 → ⊥) → (first_of apdu ≡ 96 → ⊥) → IsNoError asker service (reply_to asker.peer apdu)
other_apdu asker service apdu no_error no_reject = record {
  error = λ error e. no_error (ap first_of (same_apdu asker.peer apdu (written_error asker.invoke service error.class error.code) e));
  reject = λ reason e. no_reject (ap first_of (same_apdu asker.peer apdu (written_reject asker.invoke reason) e));
}

pub simple_ack_is_none : (asker : Asker) (service : ℕ) → IsNoError asker service (reply_to asker.peer (written_simple_ack asker.invoke service))
simple_ack_is_none asker service =
    other_apdu asker service (written_simple_ack asker.invoke service) (λ (wrong : 32 ≡ 80). omega (arith, wrong)) (λ (wrong : 32 ≡ 96). omega (arith, wrong))

pub abort_is_none : (asker : Asker) (service reason : ℕ) → IsNoError asker service (reply_to asker.peer (written_abort asker.invoke reason))
abort_is_none asker service reason =
    other_apdu asker service (written_abort asker.invoke reason) (λ (wrong : 113 ≡ 80). omega (arith, wrong)) (λ (wrong : 113 ≡ 96). omega (arith, wrong))

complex_ack_is_none : (asker : Asker) (service : ℕ) (body : List ℕ) → IsNoError asker service (reply_to asker.peer (written_complex_ack asker.invoke service body))
complex_ack_is_none asker service body =
    other_apdu asker service (written_complex_ack asker.invoke service body) (λ (wrong : 48 ≡ 80). omega (arith, wrong)) (λ (wrong : 48 ≡ 96). omega (arith, wrong))

-- a result, or the Abort that it is too long
pub result_is_none : (asker : Asker) (service : ℕ) (body : List ℕ) → IsNoError asker service (within_max_apdu (requester_of asker.peer asker.max_apdu asker.invoke service) (written_complex_ack asker.invoke service body))
unfolding within_max_apdu
result_is_none asker service body = by_length (nat_lt asker.max_apdu (length (written_complex_ack asker.invoke service body)))
  where
    by_length : (long : Bool) → IsNoError asker service (if long then reply_to asker.peer (written_abort asker.invoke 4) else reply_to asker.peer (written_complex_ack asker.invoke service body))
    by_length true = abort_is_none asker service 4
    by_length false = complex_ack_is_none asker service body

-- a Reject is no Error
pub reject_is_no_error : (asker : Asker) (service reason : ℕ) (error : ServiceError) → reply_to asker.peer (written_reject asker.invoke reason) ≡ error_to asker service error → ⊥
reject_is_no_error asker service reason error e =
    let wrong : 96 ≡ 80 = ap first_of (same_apdu asker.peer (written_reject asker.invoke reason) (written_error asker.invoke service error.class error.code) e) in omega (arith, wrong)
