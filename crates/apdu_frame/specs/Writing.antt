-- The APDUs that are written, each in its one spelling (ANSI/ASHRAE 135-2020, clause 20.1). None is segmented.
use Rattle.std.specs.Prelude.{ℕ, ◌+◌, ◌*◌, Some, None, List, [], ◌∷◌, ◌++◌}
use Rattle.bac_values.specs.ApplicationTags.{enumerated_tag}
use Rattle.bac_values.specs.Pdus.{confirmed_request_pdu, unconfirmed_request_pdu, simple_ack_pdu, complex_ack_pdu, error_pdu, reject_pdu, abort_pdu}
use Rattle.bac_tags.specs.Writing.{written_enumerated, written_unsigned}
use Rattle.bac_tags.specs.ParameterWriting.{written_enclosed}

-- the first octet of an APDU without flags: its type in the high four bits
abbrev pub first_octet : ℕ → ℕ
first_octet pdu = 16 * pdu

-- the flag of an Abort by the server
abbrev pub by_server : ℕ
by_server = 1

-- 20.1.2.4 and 20.1.2.5: no segments are taken, and answers of up to 1476 octets
abbrev pub accepts : ℕ
accepts = 0x05

-- the tag of an Enumerated of one octet (20.2.1)
abbrev pub enumerated_octet : ℕ
enumerated_octet = 16 * enumerated_tag + 1

-- 20.1.4
abbrev pub written_simple_ack : ℕ → ℕ → List ℕ
written_simple_ack invoke service = first_octet simple_ack_pdu ∷ invoke ∷ service ∷ []

-- 20.1.7, with the class and the code of the error, each an Enumerated of one octet
abbrev pub written_error : ℕ → ℕ → ℕ → ℕ → List ℕ
written_error invoke service class code =
    first_octet error_pdu ∷ invoke ∷ service ∷ enumerated_octet ∷ class ∷ enumerated_octet ∷ code ∷ []

-- 20.1.7, of a service that edits a list (clause 21, ChangeList-Error): [0] the error's class and code between their tags, and [1] the number of the first element that failed, from 1; 0 where it is none of them
abbrev pub written_list_error : ℕ → ℕ → ℕ → ℕ → ℕ → List ℕ
written_list_error invoke service class code element =
    first_octet error_pdu ∷ invoke ∷ service ∷ (written_enclosed 0 (written_enumerated None class ++ written_enumerated None code) ++ written_unsigned (Some 1) element)

-- 20.1.8
abbrev pub written_reject : ℕ → ℕ → List ℕ
written_reject invoke reason = first_octet reject_pdu ∷ invoke ∷ reason ∷ []

-- 20.1.9, by the server
abbrev pub written_abort : ℕ → ℕ → List ℕ
written_abort invoke reason = (first_octet abort_pdu + by_server) ∷ invoke ∷ reason ∷ []

-- 20.1.5
abbrev pub written_complex_ack : ℕ → ℕ → List ℕ → List ℕ
written_complex_ack invoke service body = first_octet complex_ack_pdu ∷ invoke ∷ service ∷ body

-- 20.1.2
abbrev pub written_request : ℕ → ℕ → List ℕ → List ℕ
written_request invoke service body = first_octet confirmed_request_pdu ∷ accepts ∷ invoke ∷ service ∷ body

-- 20.1.3
abbrev pub written_unconfirmed : ℕ → List ℕ → List ℕ
written_unconfirmed service body = first_octet unconfirmed_request_pdu ∷ service ∷ body
