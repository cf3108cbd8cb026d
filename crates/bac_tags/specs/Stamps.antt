-- A date and a time behind it (ANSI/ASHRAE 135-2020, 20.2.12 and 20.2.13).
use Rattle.std.specs.Prelude.{◌≡◌, ℕ, None, List, ◌++◌, length}
use Rattle.bac_values.specs.ApplicationTags.{date_tag, time_tag}
use Rattle.bac_values.specs.declared.stamp.Stamp.{Stamp}
use Rattle.bac_tags.specs.Places.{IsSpelledAt}
use Rattle.bac_tags.specs.Elements.{SpellsElement}

-- both have four octets
abbrev pub IsFour : List ℕ → List ℕ → Type 0
IsFour content octets = (length content ≡ 4) × (octets ≡ content)

abbrev pub SpellsDate : List ℕ → List ℕ → Type 0
SpellsDate = SpellsElement date_tag None IsFour

abbrev pub SpellsTime : List ℕ → List ℕ → Type 0
SpellsTime = SpellsElement time_tag None IsFour

pub record SpellsStamp (octets : List ℕ) (stamp : Stamp) : Type 0 where
  pub date_octets : List ℕ
  pub time_octets : List ℕ
  pub date : List ℕ
  pub time : List ℕ
  pub parts : octets ≡ date_octets ++ time_octets
  pub dated : SpellsDate date_octets date
  pub timed : SpellsTime time_octets time
  pub is : stamp.octets ≡ date ++ time

-- a date stands at the place, and what is said holds of the place after it
pub record HasDate (input : List ℕ) (place : ℕ) (Behind : ℕ → Type 0) : Type 0 where
  pub date : List ℕ
  pub end : ℕ
  pub there : IsSpelledAt SpellsDate input place date end
  pub behind : Behind end
