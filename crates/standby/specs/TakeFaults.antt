-- Why a follower doesn't take a packet.
use Rattle.std.specs.Prelude.{◌≡◌, ℕ, ⊤}
use Rattle.ground_io.specs.Counts.{HasCause}
use Rattle.standby.specs.Followers.{FollowerState}
use Rattle.standby.specs.declared.follower.TakeFault.{TakeFault}
use Rattle.standby.specs.declared.follower.TakeFault.TheVariants.{NoMemory, DiskFault}

module _ {G : Type 0} where
  -- where memory was refused the follower is as it was
  abbrev pub KeepsFollower : FollowerState G → TakeFault G → Type 0
  KeepsFollower old (NoMemory follower) = follower ≡ old
  KeepsFollower old (DiskFault device) = ⊤

  -- the ground that a fault leaves has P, where the disk failed
  abbrev pub IfDiskFault : TakeFault G → (G → Type 0) → Type 0
  IfDiskFault (NoMemory follower) P = ⊤
  IfDiskFault (DiskFault device) P = P device

module _ {G : Type 0} (disk_faults : G → ℕ) where
  -- the disk's count never falls, and where the disk failed it rose
  abbrev pub Caused : G → TakeFault G → Type 0
  Caused old (NoMemory follower) = ⊤
  Caused old (DiskFault device) = HasCause (disk_faults old) (disk_faults device) ⊤
