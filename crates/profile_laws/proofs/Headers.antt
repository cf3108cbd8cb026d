-- The header that octets are read as is the one that they have.
use Rattle.std.proofs.Common.{◌≡◌, ◌≢◌, ℕ, ◌/◌, ◌==◌, Bool, true, false, true≢false, if◌then◌else◌, bit_and, List, [], ◌∷◌, refl, sym, ap, ◌∙◌, subst, inl, inr}
use Rattle.std.proofs.lemmas.Bool.{cases_Bool, eq-eqb, eqb-true, ne_eqb}
use Rattle.bac_values.specs.Pdus.{abort_pdu, confirmed_request_pdu, error_pdu, reject_pdu, simple_ack_pdu, unconfirmed_request_pdu}
use Rattle.apdu_frame.specs.declared.apdu.Apdu.{Apdu}
use Rattle.apdu_frame.specs.declared.apdu.Apdu.TheVariants.{Abort, Error, Other, Reject, Request, Segmented, SimpleAck, Unconfirmed}
use Rattle.apdu_frame.specs.Headers.{IsAnswer, IsApdu, IsRefusal, IsRequest, IsSegment, IsUnconfirmed, max_apdu_of}
use Rattle.apdu_frame.specs.ReadingSteps.{answer_of, apdu_of, request_of, unconfirmed_of}

-- a header that is read is there, unless it is none
abbrev IsSoundly : List ℕ → Apdu → Type 0
IsSoundly octets header = header ≢ Other → IsApdu octets header

other_is_none : (octets : List ℕ) → IsSoundly octets Other
other_is_none octets none = absurd (none refl)

-- ---- what is read is there

module _ (first : ℕ) where
  whole : (second invoke service : ℕ) (parameters : List ℕ) → first / 16 ≡ 0 → bit_and first 0x08 ≡ 0 → IsRequest (first ∷ second ∷ invoke ∷ service ∷ parameters) (max_apdu_of second) invoke service 4
  whole second invoke service parameters kind unsegmented =
      record { first = first; second = second; parameters = parameters; spelled = refl; kind = kind; whole = unsegmented; accepts = refl; begins = refl }

  short_by : (second invoke service : ℕ) (parameters : List ℕ) → first / 16 ≡ 0 → (b : Bool) → (bit_and first 0x08 == 0) ≡ b →
      IsSoundly (first ∷ second ∷ invoke ∷ service ∷ parameters) (if b then Request (max_apdu_of second) invoke service 4 else Other)
  short_by second invoke service parameters kind true e there = whole second invoke service parameters kind (eqb-true (bit_and first 0x08) 0 e)
  short_by second invoke service parameters kind false e there = absurd (there refl)

  long_by : (second invoke service window actual : ℕ) (parameters : List ℕ) → first / 16 ≡ 0 → (b : Bool) → (bit_and first 0x08 == 0) ≡ b →
      IsSoundly (first ∷ second ∷ invoke ∷ service ∷ window ∷ actual ∷ parameters) (if b then Request (max_apdu_of second) invoke service 4 else Segmented invoke)
  long_by second invoke service window actual parameters kind true e there = whole second invoke service (window ∷ actual ∷ parameters) kind (eqb-true (bit_and first 0x08) 0 e)
  long_by second invoke sequence window service parameters kind false e there =
      record {
        first = first;
        second = second;
        sequence = sequence;
        window = window;
        service = service;
        parameters = parameters;
        spelled = refl;
        kind = kind;
        segmented = λ none. true≢false (sym (eq-eqb (bit_and first 0x08) 0 none) ∙ e);
      }

  request_found : (rest : List ℕ) → first / 16 ≡ 0 → IsSoundly (first ∷ rest) (request_of first rest)
  request_found [] kind = other_is_none (first ∷ [])
  request_found (a ∷ []) kind = other_is_none (first ∷ a ∷ [])
  request_found (a ∷ b ∷ []) kind = other_is_none (first ∷ a ∷ b ∷ [])
  request_found (a ∷ b ∷ c ∷ []) kind = short_by a b c [] kind (bit_and first 0x08 == 0) refl
  request_found (a ∷ b ∷ c ∷ d ∷ []) kind = short_by a b c (d ∷ []) kind (bit_and first 0x08 == 0) refl
  request_found (a ∷ b ∷ c ∷ d ∷ e ∷ rest) kind = long_by a b c d e rest kind (bit_and first 0x08 == 0) refl

  unconfirmed_found : (rest : List ℕ) → first / 16 ≡ 1 → IsSoundly (first ∷ rest) (unconfirmed_of rest)
  unconfirmed_found [] kind = other_is_none (first ∷ [])
  unconfirmed_found (service ∷ parameters) kind = λ there. record { first = first; parameters = parameters; spelled = refl; kind = kind; begins = refl }

  answer_found : (number : ℕ) (header : ℕ → ℕ → Apdu) (rest : List ℕ) → ((invoke third : ℕ) (more : List ℕ) → IsApdu (first ∷ invoke ∷ third ∷ more) (header invoke third)) → IsSoundly (first ∷ rest) (answer_of header rest)
  answer_found number header [] is = other_is_none (first ∷ [])
  answer_found number header (invoke ∷ []) is = other_is_none (first ∷ invoke ∷ [])
  answer_found number header (invoke ∷ third ∷ more) is = λ there. is invoke third more

  answer_is : (number : ℕ) (invoke service : ℕ) (more : List ℕ) → first / 16 ≡ number → IsAnswer number (first ∷ invoke ∷ service ∷ more) invoke service
  answer_is number invoke service more kind = record { first = first; more = more; spelled = refl; named = kind }

  refusal_is : (number : ℕ) (invoke reason : ℕ) (more : List ℕ) → first / 16 ≡ number → IsRefusal number (first ∷ invoke ∷ reason ∷ more) invoke
  refusal_is number invoke reason more kind = record { first = first; reason = reason; more = more; spelled = refl; named = kind }

  -- one kind after the other
  kind_by : (rest : List ℕ) (number : ℕ) (header later : Apdu) → (first / 16 ≡ number → IsSoundly (first ∷ rest) header) → IsSoundly (first ∷ rest) later →
      IsSoundly (first ∷ rest) (if first / 16 == number then header else later)
  kind_by rest number header later is others = by (first / 16 == number) refl
    where
      by : (b : Bool) → (first / 16 == number) ≡ b → IsSoundly (first ∷ rest) (if b then header else later)
      by true e = is (eqb-true (first / 16) number e)
      by false e = others

pub header_found : (octets : List ℕ) → apdu_of octets ≢ Other → IsApdu octets (apdu_of octets)
header_found [] = other_is_none []
header_found (first ∷ rest) =
    let simple : ℕ → ℕ → Apdu = λ invoke service. SimpleAck invoke service in
    let error : ℕ → ℕ → Apdu = λ invoke service. Error invoke service in
    let reject : ℕ → ℕ → Apdu = λ invoke reason. Reject invoke in
    let abort : ℕ → ℕ → Apdu = λ invoke reason. Abort invoke in
    let at_abort = if first / 16 == 7 then answer_of abort rest else Other in
    let at_reject = if first / 16 == 6 then answer_of reject rest else at_abort in
    let at_error = if first / 16 == 5 then answer_of error rest else at_reject in
    let at_simple = if first / 16 == 2 then answer_of simple rest else at_error in
    let at_unconfirmed = if first / 16 == 1 then unconfirmed_of rest else at_simple in
    kind_by first rest 0 (request_of first rest) at_unconfirmed (request_found first rest)
    (kind_by first rest 1 (unconfirmed_of rest) at_simple (unconfirmed_found first rest)
    (kind_by first rest 2 (answer_of simple rest) at_error (λ kind. answer_found first 2 simple rest (λ invoke service more. answer_is first 2 invoke service more kind))
    (kind_by first rest 5 (answer_of error rest) at_reject (λ kind. answer_found first 5 error rest (λ invoke service more. answer_is first 5 invoke service more kind))
    (kind_by first rest 6 (answer_of reject rest) at_abort (λ kind. answer_found first 6 reject rest (λ invoke reason more. refusal_is first 6 invoke reason more kind))
    (kind_by first rest 7 (answer_of abort rest) Other (λ kind. answer_found first 7 abort rest (λ invoke reason more. refusal_is first 7 invoke reason more kind)) (other_is_none (first ∷ rest)))))))

-- ---- what is there is read

abbrev by_kind : ℕ → List ℕ → ℕ → Apdu
by_kind first rest kind =
    if kind == confirmed_request_pdu then request_of first rest
    else if kind == unconfirmed_request_pdu then unconfirmed_of rest
    else if kind == simple_ack_pdu then answer_of (λ invoke service. SimpleAck invoke service) rest
    else if kind == error_pdu then answer_of (λ invoke service. Error invoke service) rest
    else if kind == reject_pdu then answer_of (λ invoke reason. Reject invoke) rest
    else if kind == abort_pdu then answer_of (λ invoke reason. Abort invoke) rest
    else Other

at_kind : (octets : List ℕ) (first : ℕ) (rest : List ℕ) (kind : ℕ) (header : Apdu) → octets ≡ first ∷ rest → first / 16 ≡ kind → by_kind first rest kind ≡ header → apdu_of octets ≡ header
at_kind octets first rest kind header spelled is read = ap apdu_of spelled ∙ (ap (by_kind first rest) is ∙ read)

request_read : (first second invoke service : ℕ) (parameters : List ℕ) → bit_and first 0x08 ≡ 0 → request_of first (second ∷ invoke ∷ service ∷ parameters) ≡ Request (max_apdu_of second) invoke service 4
request_read first second invoke service [] e = ap (λ (b : Bool). if b then Request (max_apdu_of second) invoke service 4 else Other) (eq-eqb (bit_and first 0x08) 0 e)
request_read first second invoke service (d ∷ []) e = ap (λ (b : Bool). if b then Request (max_apdu_of second) invoke service 4 else Other) (eq-eqb (bit_and first 0x08) 0 e)
request_read first second invoke service (d ∷ f ∷ rest) e = ap (λ (b : Bool). if b then Request (max_apdu_of second) invoke service 4 else Segmented invoke) (eq-eqb (bit_and first 0x08) 0 e)

segment_read : (first second invoke sequence window service : ℕ) (parameters : List ℕ) → bit_and first 0x08 ≢ 0 → request_of first (second ∷ invoke ∷ sequence ∷ window ∷ service ∷ parameters) ≡ Segmented invoke
segment_read first second invoke sequence window service parameters e =
    ap (λ (b : Bool). if b then Request (max_apdu_of second) invoke sequence 4 else Segmented invoke) (ne_eqb (bit_and first 0x08) 0 e)

pub header_read : (octets : List ℕ) (header : Apdu) → IsApdu octets header → apdu_of octets ≡ header
header_read octets (Request max_apdu invoke service start) h =
    at_kind octets h.first (h.second ∷ invoke ∷ service ∷ h.parameters) 0 (Request max_apdu invoke service start) h.spelled h.kind
    (request_read h.first h.second invoke service h.parameters h.whole ∙ (ap (λ (n : ℕ). Request n invoke service 4) (sym h.accepts) ∙ ap (λ (n : ℕ). Request max_apdu invoke service n) (sym h.begins)))
header_read octets (Segmented invoke) h =
    at_kind octets h.first (h.second ∷ invoke ∷ h.sequence ∷ h.window ∷ h.service ∷ h.parameters) 0 (Segmented invoke) h.spelled h.kind
    (segment_read h.first h.second invoke h.sequence h.window h.service h.parameters h.segmented)
header_read octets (Unconfirmed service start) h =
    at_kind octets h.first (service ∷ h.parameters) 1 (Unconfirmed service start) h.spelled h.kind (ap (λ (n : ℕ). Unconfirmed service n) (sym h.begins))
header_read octets (SimpleAck invoke service) h = at_kind octets h.first (invoke ∷ service ∷ h.more) 2 (SimpleAck invoke service) h.spelled h.named refl
header_read octets (Error invoke service) h = at_kind octets h.first (invoke ∷ service ∷ h.more) 5 (Error invoke service) h.spelled h.named refl
header_read octets (Reject invoke) h = at_kind octets h.first (invoke ∷ h.reason ∷ h.more) 6 (Reject invoke) h.spelled h.named refl
header_read octets (Abort invoke) h = at_kind octets h.first (invoke ∷ h.reason ∷ h.more) 7 (Abort invoke) h.spelled h.named refl
header_read octets Other h = absurd h
