use Rattle.bac_tags.proofs.RoundTrip.{tag_back, unsigned_back, signed_back, object_back, boolean_back, bits_back, octet_string_back, time_back, stamp_back, value_back}
use Rattle.bac_tags.proofs.round_trip.reads_back.Goals as goal

pub returns-clause-tag : goal.returns-clause-tag
returns-clause-tag c = tag_back

pub returns-clause-unsigned : goal.returns-clause-unsigned
returns-clause-unsigned c = unsigned_back

pub returns-clause-signed : goal.returns-clause-signed
returns-clause-signed c = signed_back

pub returns-clause-object : goal.returns-clause-object
returns-clause-object c = object_back

pub returns-clause-boolean : goal.returns-clause-boolean
returns-clause-boolean c = boolean_back

pub returns-clause-bits : goal.returns-clause-bits
returns-clause-bits c = bits_back

pub returns-clause-stamp : goal.returns-clause-stamp
returns-clause-stamp c = stamp_back

pub returns-clause-value : goal.returns-clause-value
returns-clause-value c = value_back

pub returns-clause-octet_string : goal.returns-clause-octet_string
returns-clause-octet_string c = octet_string_back

pub returns-clause-time : goal.returns-clause-time
returns-clause-time c = time_back
