pub mod StampLemmas
pub mod HundredthsLemmas
mod ZoneLemmas
