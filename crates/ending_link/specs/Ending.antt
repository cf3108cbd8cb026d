-- What contracts see of a ground that raises a flag, and of a link that ends by it; and when a call of that link fails.
use Rattle.std.specs.Prelude.{◌≡◌, ◌⊎◌, ◌+◌, ℕ, Bool, true, false}
use Rattle.ground_io.specs.Counts.{next_count}

-- what raises a flag: the flag, and how often it was raised so
pub record RaiserState (F : Type 0) : Type 0 where
  pub flag : F
  pub raised : ℕ

-- a ground that raises a flag: its inner ground, the flag, and how often the ground has raised it
pub record NotingGroundState (G F : Type 0) : Type 0 where
  pub inner : G
  pub flag : F
  pub raised : ℕ

-- a link that ends by a flag: its inner link, the flag, and how many calls failed since they found the flag raised
pub record EndingLinkState (L F : Type 0) : Type 0 where
  pub inner : L
  pub flag : F
  pub ended : ℕ

-- how many calls of such a link have failed: of the inner one, or by the flag
abbrev pub faults_with : {L F : Type 0} → (L → ℕ) → EndingLinkState L F → ℕ
faults_with faults link = faults link.inner + link.ended

-- Each call looks at the flag. Where it finds it raised, it fails, is counted, and leaves the inner link as it was; where it finds it lowered, the inner link is asked, and the flag ends nothing.
abbrev pub IsCallOrEnd : {L F : Type 0} → (L → L → Type 0) → (F → Bool → Type 0) → EndingLinkState L F → EndingLinkState L F → Type 0 → Type 0
IsCallOrEnd asked seen old new Fault =
    (seen old.flag true × Fault × (new ≡ record old { ended = next_count old.ended }))
    ⊎ (seen old.flag false × asked old.inner new.inner × (new.flag ≡ old.flag) × (new.ended ≡ old.ended))
