-- The errors of ReadRange in their order, each with its condition (ANSI/ASHRAE 135-2020, 15.8 and clause 18).
use Rattle.std.specs.Prelude.{zero, ℤ, pos, ◌==◌, Bool, true, false, not, ◌&&◌, is_some, List, [], ◌∷◌}
use Rattle.std.specs.List.{list_any}
use Rattle.bac_values.specs.Errors.{property_is_not_an_array_error, unknown_object_error, unknown_property_error, value_out_of_range_error}
use Rattle.bac_values.specs.Properties.{log_buffer_property}
use Rattle.bac_values.specs.declared.service_error.ServiceError.{ServiceError}
use Rattle.property_services.specs.declared.requests.RangeBy.{RangeBy}
use Rattle.property_services.specs.declared.requests.RangeBy.TheVariants.{All, Position, Sequence, Time}
use Rattle.property_services.specs.declared.requests.RangeRequest.{RangeRequest}
use Rattle.event_log.specs.declared.log_site.LogSite.{LogSite}
use Rattle.object_table.specs.Rows.{is_object}
use Rattle.alarm_core.specs.declared.site.Site.{Site}
use Rattle.alarm_core.specs.State.{CoreState}
use Rattle.profile_laws.specs.PropertyErrors.{is_unknown_object}

-- Log_Buffer of an event log, which alone has a range
abbrev pub is_log_buffer : Site → RangeRequest → Bool
is_log_buffer site request = list_any (λ (log : LogSite). is_object request.object log.object) site.logs && (request.property.0 == log_buffer_property)

abbrev pub is_no_count : ℤ → Bool
is_no_count (pos zero) = true
is_no_count count = false

-- the count of a range is 0
abbrev pub asks_for_nothing : RangeBy → Bool
asks_for_nothing All = false
asks_for_nothing (Position reference count) = is_no_count count
asks_for_nothing (Sequence reference count) = is_no_count count
asks_for_nothing (Time reference count) = is_no_count count

-- ReadRange (15.8)
abbrev pub range_errors : CoreState → RangeRequest → List (Bool × ServiceError)
range_errors state request =
    (is_unknown_object state request.object, unknown_object_error)
    ∷ (not (is_log_buffer state.site request), unknown_property_error)
    ∷ (is_some request.index, property_is_not_an_array_error)
    ∷ (asks_for_nothing request.range, value_out_of_range_error)
    ∷ []
