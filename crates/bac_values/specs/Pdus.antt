-- The numbers of PDU types (ANSI/ASHRAE 135-2020, 20.1).
use Rattle.std.specs.Prelude.{ℕ}

abbrev pub confirmed_request_pdu : ℕ
confirmed_request_pdu = 0

abbrev pub unconfirmed_request_pdu : ℕ
unconfirmed_request_pdu = 1

abbrev pub simple_ack_pdu : ℕ
simple_ack_pdu = 2

abbrev pub complex_ack_pdu : ℕ
complex_ack_pdu = 3

abbrev pub error_pdu : ℕ
error_pdu = 5

abbrev pub reject_pdu : ℕ
reject_pdu = 6

abbrev pub abort_pdu : ℕ
abort_pdu = 7
