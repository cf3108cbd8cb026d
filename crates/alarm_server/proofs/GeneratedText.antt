-- The generated text is the generated site: the reader of TOML, and what the items say, are computed on that text.
use Rattle.std.proofs.Common.{◌≡◌, ◌≤◌, ℕ, false, nat_lt, length, refl, arith}
use Rattle.std.proofs.lemmas.Bool.Decides.{nat_tests}
use Rattle.std.specs.Prelude.{Ok}
use Rattle.std.specs.Fmt.{digits}
use Rattle.std.specs.Str.{is_utf8, chars}
use Rattle.toml.proofs.OnLiterals.{toml_on_literals}
use Rattle.work_load.specs.Kinds.{kind_at}
use Rattle.work_load.specs.Site.{workload_site, objects_text}
use Rattle.alarm_server.specs.GeneratedSite.{generated_site}
use Rattle.state_codec.specs.Sizes.{most_text}
use Rattle.site_config.specs.Drafts.{draft_of}
use Rattle.site_config.specs.FaultKeys.{state_fault_keys_of, text_fault_keys_of, fault_limits_of, limit_fault_keys_of}
use Rattle.site_config.specs.Devices.{device_of}
use Rattle.site_config.specs.Enrollments.{watch_of, enrollment_of}
use Rattle.site_config.specs.KindKeys.{limit_keys_of, binary_keys_of, value_keys_of, bits_keys_of}
use Rattle.site_config.specs.Sites.{verdict_on, site_of_document, site_of}
use Rattle.site_config.specs.Objects.{value_part_of, class_part_of, object_of}
use Rattle.site_config.specs.Logs.{log_of}
use Rattle.site_config.specs.Destinations.{destination_of}
use Rattle.site_config.specs.Classes.{class_of}
use Rattle.site_config.specs.AlarmKeys.{alarm_keys_of}

pub reads : site_of workload_site ≡ Ok generated_site
unfolding digits is_utf8 chars toml_on_literals objects_text kind_at site_of draft_of state_fault_keys_of text_fault_keys_of fault_limits_of limit_fault_keys_of device_of watch_of enrollment_of limit_keys_of binary_keys_of value_keys_of bits_keys_of verdict_on site_of_document value_part_of class_part_of object_of log_of destination_of class_of alarm_keys_of
reads = refl

at_most : (n m : ℕ) → nat_lt m n ≡ false → n ≤ m
at_most n m is = grind (arith, nat_tests)

not_longer : nat_lt most_text (length workload_site) ≡ false
unfolding digits objects_text kind_at
not_longer = refl

-- it is no longer than a site's text may be
pub short : length workload_site ≤ most_text
short = at_most (length workload_site) most_text not_longer
