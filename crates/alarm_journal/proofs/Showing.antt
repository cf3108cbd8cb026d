-- What a ground shows of its octets, read after read.
use Rattle.std.proofs.Common.{◌≡◌, ℕ, List, [], length, ap, subst, sym, ◌∙◌, Option, Some, None}
use Rattle.ground_io.specs.Disk.{Disk, octets_at}
use Rattle.ground_io.specs.Trace.{Told, Adds, Reads, HasSize, disk_of}
use Rattle.ground_io.proofs.Crashes.{disk_adds}
use Rattle.alarm_journal.specs.Opened.{Shows}

-- a read leaves it as it is
pub kept : (P : List ℕ → Type 0) (a b : Option Told) → Adds a b [] → Shows a P → Shows b P
kept P a None adds shows = tt
kept P None (Some b) adds shows = absurd adds
kept P (Some a) (Some b) adds shows = subst (λ (k : Disk). P k.contents) (sym (disk_adds a b [] adds)) shows

-- what was read is read again
pub reads_on : (a b : Option Told) (place : ℕ) (octets : List ℕ) → Adds a b [] → Reads a place octets → Reads b place octets
reads_on a None place octets adds reads = tt
reads_on None (Some b) place octets adds reads = absurd adds
reads_on (Some a) (Some b) place octets adds reads = reads ∙ ap (λ (k : Disk). octets_at place (length octets) k.contents) (sym (disk_adds a b [] adds))

pub sized_now : (size : ℕ) (a : Option Told) → HasSize size a → Shows a (λ image. length image ≡ size)
sized_now size None has = tt
sized_now size (Some a) has = has

pub always_so : (P : List ℕ → Type 0) (a : Option Told) → ((image : List ℕ) → P image) → Shows a P
always_so P None all = tt
always_so P (Some a) all = all (disk_of a).contents

pub from_one : (P Q : List ℕ → Type 0) (a : Option Told) → ((image : List ℕ) → P image → Q image) → Shows a P → Shows a Q
from_one P Q None to p = tt
from_one P Q (Some a) to p = to (disk_of a).contents p

pub from_two : (P Q R : List ℕ → Type 0) (a : Option Told) → ((image : List ℕ) → P image → Q image → R image) → Shows a P → Shows a Q → Shows a R
from_two P Q R None to p q = tt
from_two P Q R (Some a) to p q = to (disk_of a).contents p q
