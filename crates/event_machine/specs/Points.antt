-- The points at which an object is looked at, and what happens to it over time (ANSI/ASHRAE 135-2020, 13.2.2).
use Rattle.std.specs.Prelude.{◌≡◌, ℕ, ◌≤◌, Bool, true, false, List, [], ◌∷◌}
use Rattle.bac_values.specs.declared.stamp.Stamp.{Stamp}
use Rattle.bac_values.specs.declared.reliability.Reliability.{Reliability}
use Rattle.bac_values.specs.declared.transition.Transition.{Transition}
use Rattle.algorithm_rules.specs.Facts.{Facts}

-- A point of an object: when it is, the local date and time of it, what the object's event algorithm sees there, its reliability, whether Event_Algorithm_Inhibit is TRUE, and which transitions have to be acknowledged (Ack_Required of its notification class).
pub record Point : Type 0 where
  pub moment : ℕ
  pub stamp : Stamp
  pub facts : Facts
  pub reliability : Reliability
  pub inhibited : Bool
  pub ack_required : List Bool

-- the object is looked at, or one of its transitions is acknowledged
pub data Incident : Type 0 where
  Looked : Point → Incident
  Acknowledged : Transition → Incident

-- A course of an object is its first point and the incidents after it, which are listed with the newest first.

-- the newest point of a course
abbrev pub newest_of : Point → List Incident → Point
newest_of first [] = first
newest_of first (Looked point ∷ older) = point
newest_of first (Acknowledged transition ∷ older) = newest_of first older

-- the moments of a course's points never fall
abbrev pub NeverFalls : Point → List Incident → Type 0
NeverFalls first [] = Unit {0}
NeverFalls first (Looked point ∷ older) = ((newest_of first older).moment ≤ point.moment) × NeverFalls first older
NeverFalls first (Acknowledged transition ∷ older) = NeverFalls first older

-- A point follows the newest one of a course: it isn't before it, and where the object is inhibited at the newest one and not at this, both have one moment.
pub record Follows (newest point : Point) : Type 0 where
  pub not_before : newest.moment ≤ point.moment
  pub at_once : newest.inhibited ≡ true → point.inhibited ≡ false → newest.moment ≡ point.moment

-- each point of a course follows the newest of those before it
abbrev pub IsCourse : Point → List Incident → Type 0
IsCourse first [] = Unit {0}
IsCourse first (Looked point ∷ older) = Follows (newest_of first older) point × IsCourse first older
IsCourse first (Acknowledged transition ∷ older) = IsCourse first older
