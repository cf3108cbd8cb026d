pub mod ZoneRules
pub mod LocalTime
pub mod CivilStamp
pub mod LocalMoments
