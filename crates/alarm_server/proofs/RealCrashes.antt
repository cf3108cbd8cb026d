-- What a crash leaves of a program over a disk that it finds with no loose writes.
use Rattle.std.proofs.Common.{◌≡◌, ◌++◌, ℕ, List, [], ◌∷◌, Option, Some, refl, sym, ◌∙◌, subst, inl, inr}
use Rattle.ground_io.specs.Disk.{Disk, MayLeave, disk_after}
use Rattle.ground_io.specs.Record.{Supposed}
use Rattle.ground_io.specs.Sent.{Along, emissions}
use Rattle.ground_io.specs.Trace.{Told}
use Rattle.ground_io.specs.declared.entry.Entry.{Entry}
use Rattle.ground_io.specs.declared.entry.Entry.TheVariants.{Synced}
use Rattle.ground_io.proofs.Sendings.{along_at}
use Rattle.alarm_server.specs.Keeping.{KeepsFromSync}
use Rattle.alarm_server.specs.RealLaws.{CrashLeaves, found}

none_before : (before behind : List Entry) → before ++ behind ≡ [] → before ≡ []
none_before [] behind none = refl
none_before (entry ∷ before) behind none = absurd cc

module _ (P : List Entry → List ℕ → Type 0) (disk : Supposed) (now : Told) (image : List ℕ) where
  abbrev at_rest : Disk
  at_rest = record { contents = disk.first; loose = [] }

  -- behind these entries
  behind_these : (before behind entries : List Entry) → before ++ behind ≡ Synced ∷ entries → Along P [] at_rest entries → MayLeave (disk_after before at_rest) image → (MayLeave at_rest image → P [] image) → P (emissions before) image
  behind_these [] behind entries parts along leaves at_first = at_first leaves
  behind_these (entry ∷ before) behind entries parts along leaves at_first =
      let first : entry ≡ Synced = cc in
      let more : before ++ behind ≡ entries = cc in
      let at = along_at P [] at_rest before behind (subst (λ (es : List Entry). Along P [] at_rest es) (sym more) along) in
      subst (λ (e : Entry). P (emissions (e ∷ before)) image) (sym first) (at image (subst (λ (e : Entry). MayLeave (disk_after (e ∷ before) at_rest) image) first leaves))

  -- what is so of each image at each moment from the first sync on, and of the first contents, is so of what the crash left
  pub left_by : (before behind : List Entry) → CrashLeaves disk now before behind image → (MayLeave at_rest image → P [] image) → KeepsFromSync P (Some (found disk)) (Some now) → P (emissions before) image
  left_by before behind crash at_first (inl (same, none)) =
      let nothing : before ≡ [] = none_before before behind (sym crash.parts ∙ none) in
      subst (λ (es : List Entry). P (emissions es) image) (sym nothing) (at_first (subst (λ (es : List Entry). MayLeave (disk_after es at_rest) image) nothing crash.leaves))
  left_by before behind crash at_first (inr (entries, (same, all), along)) =
      behind_these before behind entries (sym crash.parts ∙ all) along crash.leaves at_first
