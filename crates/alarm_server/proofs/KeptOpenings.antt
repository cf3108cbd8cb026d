-- What a crash leaves of an opening, and of a session behind it.
use Rattle.std.proofs.Common.{◌≡◌, ℕ, ◌≤◌, Option, Some, None, List, [], ◌∷◌, ◌++◌, length, ap, sym, subst, inl, inr, arith}
use Rattle.ground_io.specs.Disk.{Disk, disk_after}
use Rattle.ground_io.specs.Sent.{Along, sent_after}
use Rattle.ground_io.specs.Trace.{Told, disk_of}
use Rattle.ground_io.specs.declared.entry.Entry.{Entry}
use Rattle.ground_io.specs.declared.entry.Entry.TheVariants.{Synced}
use Rattle.ground_io.proofs.Crashes.{adds_both, adds_none, disk_adds}
use Rattle.ground_io.proofs.Sendings.{along-append, quiet_sends_nothing}
use Rattle.alarm_journal.specs.Journal.{OpenAlike}
use Rattle.alarm_journal.specs.Journal.{Site as Journal}
use Rattle.alarm_journal.specs.Press.{OpensSame, Reopens}
use Rattle.script_lines.specs.declared.line.Line.{Line}
use Rattle.alarm_core.specs.declared.event.Event.{Event}
use Rattle.alarm_core.specs.declared.site.Site.{Site}
use Rattle.state_codec.specs.Contents.{ImageStands, StandsForHistory}
use Rattle.state_codec.specs.Keeping.{StoodFor}
use Rattle.alarm_server.specs.Keeping.{KeepsOpened, KeepsReport, LeavesReport}
use Rattle.alarm_server.proofs.KeptLines.{along_few, history-none}

module _ (journal : Journal) (site : Site) where
  -- what opens as octets that stand for a history does so too
  reopened : (history : List Event) (lines : List Line) (before : ℕ) (octets image : List ℕ) (sent : List Entry) → length sent ≤ 0 → ImageStands journal site octets history → OpenAlike journal image octets → LeavesReport journal site history lines before sent image
  reopened history lines before octets image sent few stood same = (
    0,
    omega arith,
    λ line short later. omega (arith, few, later),
    omega arith,
    record { content = stood.content; opens = (same.opens stood.content).1 stood.opens; stands = subst (λ (h : List Event). StandsForHistory site stood.content h) (sym (history-none site history)) stood.stands },
  )

  -- along an opening nothing is sent, and each image opens as before
  along_opening : (history : List Event) (lines : List Line) (before : ℕ) (old new : Told) → ImageStands journal site (disk_of old).contents history → (opens : OpensSame journal old new)
      → Along (LeavesReport journal site history lines before) [] (record { contents = (disk_of old).contents; loose = [] }) opens.entries
  along_opening history lines before old new stood opens =
      along_few (LeavesReport journal site history lines before) (λ image. OpenAlike journal image (disk_of old).contents) 0
      (λ s image few same. reopened history lines before (disk_of old).contents image s few stood same) [] (record { contents = (disk_of old).contents; loose = [] }) opens.entries
      (omega (arith, ap (λ (l : List Entry). length l) (quiet_sends_nothing [] opens.entries opens.quiet))) opens.always

  pub opening_kept : (history : List Event) (lines : List Line) (before : ℕ) (old new : Option Told) → StoodFor journal site history old new → Reopens journal old new → KeepsOpened journal site history lines before old new
  opening_kept history lines before old None stood opens = tt
  opening_kept history lines before None (Some new) stood opens = absurd opens
  opening_kept history lines before (Some old) (Some new) stood (inl nothing) = inl nothing
  opening_kept history lines before (Some old) (Some new) stood (inr opens) = inr (opens.entries, opens.adds, along_opening history lines before old new stood opens)

  -- nothing was done
  pub untouched_at_once : (history : List Event) (lines : List Line) (before : ℕ) (told : Option Told) → KeepsOpened journal site history lines before told told
  untouched_at_once history lines before None = tt
  untouched_at_once history lines before (Some told) = inl (adds_none (Some told))

  -- and a session behind it, where it has begun with the sync
  pub session_kept : (history : List Event) (lines : List Line) (before : ℕ) (old mid : Told) (new : Option Told) → ImageStands journal site (disk_of old).contents history → OpensSame journal old mid → KeepsReport journal site history lines before (Some mid) new
      → KeepsOpened journal site history lines before (Some old) new
  session_kept history lines before old mid None stood opens kept = tt
  session_kept history lines before old mid (Some new) stood opens (others, adds, along) =
      let P = LeavesReport journal site history lines before in
      let begun : Disk = record { contents = (disk_of old).contents; loose = [] } in
      let nothing : sent_after opens.entries [] ≡ [] = quiet_sends_nothing [] opens.entries opens.quiet in
      let disk : disk_of mid ≡ disk_after opens.entries begun = disk_adds old mid (Synced ∷ opens.entries) opens.adds in
      let there : Along P (sent_after opens.entries []) (disk_after opens.entries begun) others = subst (λ (s : List Entry). Along P s (disk_after opens.entries begun) others) (sym nothing) (subst (λ (d : Disk). Along P [] d others) disk along) in
      inr (opens.entries ++ others, adds_both (Some old) (Some mid) (Some new) (Synced ∷ opens.entries) others opens.adds adds, along-append P [] begun opens.entries others (along_opening history lines before old mid stood opens) there)
