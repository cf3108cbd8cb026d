-- What comes of a device that is smaller than the journal of its site has to be.
use Rattle.std.specs.Prelude.{◌≡◌, ◌⊎◌, ◌<◌, ℕ, List, length, Option, IfSome, IfOk}
use Rattle.alarm_journal.specs.declared.open_fault.OpenFault.TheVariants.{SmallDevice}
use Rattle.state_codec.specs.Sizes.{need}
use Rattle.site_config.specs.Sites.{site_of}
use Rattle.alarm_server.specs.declared.status.Status.{Status}
use Rattle.alarm_server.specs.declared.status.Status.TheVariants.{DiskFault, JournalRefused, NoMemory, ReadFault}

-- a call of the device failed, or it is refused as small: it has so many octets, and must have so many
abbrev pub EndsSmall : ℕ → ℕ → Status → Type 0
EndsSmall size most ended = (ended ≡ DiskFault) ⊎ (ended ≡ JournalRefused (SmallDevice size most))

-- The text of the file is a site whose journal needs more octets than the device has: so it ends, unless the file can't be read or memory is refused before.
abbrev pub RefusesSmall : ℕ → Option (List ℕ) → Status → Type 0
RefusesSmall size file ended =
    IfSome file (λ octets. IfOk (site_of octets) (λ site. size < need site (length octets) → (ended ≡ ReadFault) ⊎ ((ended ≡ NoMemory) ⊎ EndsSmall size (need site (length octets)) ended)))
