-- How a recipient is read: a device, or else an address.
use Rattle.std.specs.Prelude.{ℕ, Some, None, List, Result, Ok, Err}
use Rattle.bac_values.specs.Identifier.{ObjectIdData}
use Rattle.bac_tags.specs.declared.fault.TagFault.{TagFault}
use Rattle.bac_tags.specs.declared.fault.TagFault.TheVariants.{Truncated, WrongTag, BadLength, NoMemory}
use Rattle.bac_tags.specs.ReadingSteps.{◌>>=◌, unsigned_at, object_at, octet_string_at}
use Rattle.bac_tags.specs.EnclosingSteps.{enclosed_at}
use Rattle.recipients.specs.Recipients.{AddressData, RecipientData, OfDevice, OfAddress, device_parameter, address_parameter}

unfoldable pub address_at : List ℕ → ℕ → Result (AddressData × ℕ) TagFault
address_at input place = do
  network ← unsigned_at input place None
  station ← octet_string_at input network.1
  Ok (record { network = network.0; station = station.0 }, station.1)

unfoldable pub enclosed_address_at : List ℕ → ℕ → Result (AddressData × ℕ) TagFault
enclosed_address_at input place = enclosed_at address_at address_parameter input place

-- where a whole tag stands that isn't the device's, an address should begin
abbrev pub or_address : Result (AddressData × ℕ) TagFault → Result (ObjectIdData × ℕ) TagFault → Result (RecipientData × ℕ) TagFault
or_address address (Ok device) = Ok (OfDevice device.0, device.1)
or_address address (Err (WrongTag other)) = address >>= λ x. Ok (OfAddress x.0, x.1)
or_address address (Err (Truncated end)) = Err (Truncated end)
or_address address (Err (BadLength wrong)) = Err (BadLength wrong)
or_address address (Err NoMemory) = Err NoMemory

unfoldable pub recipient_at : List ℕ → ℕ → Result (RecipientData × ℕ) TagFault
recipient_at input place = or_address (enclosed_address_at input place) (object_at input place (Some device_parameter))
