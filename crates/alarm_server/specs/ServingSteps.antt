-- A server whose site was found: its journal isn't opened, or a desk is.
use Rattle.std.specs.Prelude.{◌≡◌, ◌⊎◌, ℕ, List, Option}
use Rattle.ground_io.specs.Trace.{Told}
use Rattle.bac_values.specs.declared.note.Send.{Send}
use Rattle.alarm_core.specs.declared.site.Site.{Site}
use Rattle.alarm_server.specs.declared.serve.Served.{Served}
use Rattle.alarm_server.specs.ServedSites.{HasServedSite}
use Rattle.alarm_server.specs.Serving.{IsNotOpened}

module _ {G : Type 0} (told : G → Option Told) (size disk_faults emit_faults : G → ℕ) where
  -- the last two ways of a server
  abbrev pub ServesSite : {L : Type 0} → (ℕ → Type 0) → Site → List ℕ → ℕ → L → L → Option (List Send) → Option (List Send) → G → G → Served → Type 0
  ServesSite shows site text count link rest old new before after served =
      (IsNotOpened told size disk_faults emit_faults site text before after served × (rest ≡ link)) ⊎ HasServedSite told size disk_faults emit_faults shows site text count old new before after served
