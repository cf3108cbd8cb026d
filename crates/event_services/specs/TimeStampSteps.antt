-- How a time stamp is read: the number of the first tag says which form it is.
use Rattle.std.specs.Prelude.{ℕ, ◌==◌, if◌then◌else◌, Some, List, Result, Ok, Err}
use Rattle.bac_tags.specs.declared.fault.TagFault.{TagFault}
use Rattle.bac_tags.specs.declared.fault.TagFault.TheVariants.{WrongTag}
use Rattle.bac_tags.specs.ReadingSteps.{◌>>=◌, content_at, tag_at, unsigned_at, stamp_at}
use Rattle.bac_tags.specs.EnclosingSteps.{enclosed_at}
use Rattle.event_services.specs.declared.time_stamp.AckStamp.{AckStamp}
use Rattle.event_services.specs.declared.time_stamp.AckStamp.TheVariants.{Time, Sequence, DateTime}

-- reading: the number of the first tag says which form it is
abbrev pub form_at : ℕ → List ℕ → ℕ → Result (AckStamp × ℕ) TagFault
form_at number input place =
    if number == 0 then (content_at input place 0 (Some 0) 4 4 >>= λ x. Ok (Time, x.1))
    else (if number == 1 then (unsigned_at input place (Some 1) >>= λ x. Ok (Sequence, x.1))
    else (if number == 2 then (enclosed_at stamp_at 2 input place >>= λ x. Ok (DateTime x.0, x.1))
    else Err (WrongTag place)))

unfoldable pub time_stamp_at : List ℕ → ℕ → Result (AckStamp × ℕ) TagFault
time_stamp_at input place = tag_at input place >>= λ tag. form_at tag.0.number input place
