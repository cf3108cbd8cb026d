-- The stamp of a moment in a zone is given back by the moment and the zone.
use Rattle.std.specs.Prelude.{◌≡◌, ℕ}
use Rattle.std.proofs.Common.{ap, sym}
use Rattle.bac_values.specs.declared.stamp.Stamp.{Stamp}
use Rattle.civil_stamp.specs.LocalTime.{IsZonedStamp, local_stamp, ZoneData}
use Rattle.civil_stamp.specs.declared.moment.LocalMoment.TheInside.{Inside}

abbrev pub inside : ZoneData → ℕ → Stamp → Inside
inside zone moment stamp = record { zone = zone; moment = moment; stamp = stamp }

pub gives_back : (at : Inside) → IsZonedStamp at.zone at.moment at.stamp → inside at.zone at.moment (local_stamp at.zone at.moment) ≡ at
gives_back at h = ap (inside at.zone at.moment) (sym h.computed)
