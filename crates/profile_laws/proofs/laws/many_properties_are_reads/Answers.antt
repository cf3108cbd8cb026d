use Rattle.profile_laws.proofs.CanBeRead.{each_can_be_read}
use Rattle.profile_laws.proofs.ManyReads.{each_part_is_a_read}
use Rattle.profile_laws.proofs.laws.many_properties_are_reads.Goals as goal

pub returns : goal.returns
returns c = record { each = each_part_is_a_read; asked = each_can_be_read }
