-- Time stamps (ANSI/ASHRAE 135-2020, clause 21, BACnetTimeStamp): [0] a time of day, [1] a sequence number, or [2] a date and a time of day.
use Rattle.std.specs.Prelude.{ℕ, Some, List}
use Rattle.bac_tags.specs.Contents.{SpellsUnsigned}
use Rattle.bac_tags.specs.Stamps.{SpellsStamp}
use Rattle.bac_tags.specs.EnclosingTags.{SpellsEnclosed, SpellsOctets}
use Rattle.event_services.specs.declared.time_stamp.AckStamp.{AckStamp}
use Rattle.event_services.specs.declared.time_stamp.AckStamp.TheVariants.{Time, Sequence, DateTime}

-- of the first two forms no more is kept than which it is
abbrev pub SpellsTimeStamp : List ℕ → AckStamp → Type 0
SpellsTimeStamp octets Time = (time : List ℕ) × SpellsOctets 0 4 4 octets time
SpellsTimeStamp octets Sequence = (number : ℕ) × SpellsUnsigned (Some 1) octets number
SpellsTimeStamp octets (DateTime stamp) = SpellsEnclosed 2 SpellsStamp octets stamp
