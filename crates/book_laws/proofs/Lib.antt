mod Bits
mod Matching
mod RulesTied
mod NumbersTied
mod CoursesTied
mod TimesTied
mod RecordsTied
mod ReliabilityTied
