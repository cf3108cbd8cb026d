use Rattle.std.proofs.Common.{None, refl}
use Rattle.bac_tags.specs.Contents.{IsOctetString}
use Rattle.bac_tags.proofs.WrittenElements.{element_written}
use Rattle.bac_tags.proofs.octet_string.write_octet_string.Goals as goal

pub returns-clause-spelled : goal.returns-clause-spelled
returns-clause-spelled c = element_written 6 None IsOctetString c.args.octets.now c.args.octets.now c.requires refl
