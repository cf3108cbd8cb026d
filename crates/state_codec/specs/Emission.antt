-- What goes out between two moments.
use Rattle.std.specs.Prelude.{◌≡◌, Option, List}
use Rattle.ground_io.specs.declared.entry.Entry.{Entry}
use Rattle.ground_io.specs.Sent.{emissions}
use Rattle.ground_io.specs.Trace.{Told, Adds}

-- These emissions came, in this order, and between them the disk may have been written and synced.
abbrev pub Emits : Option Told → Option Told → List Entry → Type 0
Emits old new entries = (more : List Entry) × Adds old new more × (emissions more ≡ entries)
