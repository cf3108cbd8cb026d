-- What a crash leaves of a press at rest.
use Rattle.std.proofs.Common.{◌≡◌, inl, inr, ℕ, zero, ◌+◌, ◌-◌, ◌≤◌, List, [], refl, sym, ap, subst, arith, Ok, Option, Some, None, Bool, true, false, not, if◌then◌else◌}
use Rattle.std.proofs.lemmas.Bool.{cases_lt}
use Rattle.std.proofs.lemmas.List.{append-nil}
use Rattle.ground_io.specs.Disk.{Each, octets_at}
use Rattle.ground_io.specs.Trace.{Told, disk_of}
use Rattle.ground_io.proofs.Crashes.{only_read}
use Rattle.alarm_journal.specs.Journal.{Site, Content, OpensTo}
use Rattle.alarm_journal.specs.JournalSteps.{batches_from}
use Rattle.alarm_journal.specs.Press.{StandsFor, Settled, Lasts, IsSound, end_of, behind_batch, behind_snapshot}
use Rattle.alarm_journal.specs.declared.layout.Layout.{Layout}
use Rattle.alarm_journal.proofs.Standings.{reads_on, reads_closed}

-- the device opens to what stands
pub opens_now : (site : Site) (layout : Layout) (c : List ℕ) (content : Content) (size : ℕ) → IsSound size layout → StandsFor site layout c content → OpensTo site c content
opens_now site layout c content size sound stands = elim (cases_lt layout.next (end_of layout)) [
  | inl inside ↦ reads_closed site layout c content size sound stands c refl refl inside
  | inr full ↦
      let none : end_of layout - layout.next ≡ zero = omega (arith, full) in
      let empty : batches_from layout.next zero (octets_at layout.next (end_of layout - layout.next) c) ≡ Ok [] = ap (λ (n : ℕ). batches_from layout.next zero (octets_at layout.next n c)) none in
      subst (OpensTo site c) (λ i. record { snapshot = content.snapshot; bodies = append-nil content.bodies i }) (reads_on site layout c content size sound stands c [] refl refl empty)
]

-- and so does each image
pub lasts : (site : Site) (layout : Layout) (told : Option Told) (content : Content) (size : ℕ) → IsSound size layout → Settled site layout told content → Lasts site told content
lasts site layout None content size sound settled = tt
lasts site layout (Some told) content size sound settled =
    let disk = disk_of told in
    let same : disk ≡ record { contents = disk.contents; loose = [] } = λ i. record { contents = disk.contents; loose = settled.stable i } in
    subst (Each (λ image. OpensTo site image content)) (sym same)
    (λ x may. subst (λ (l : List ℕ). OpensTo site l content) (sym (only_read disk.contents x may)) (opens_now site layout disk.contents content size sound settled.stands))

-- the layout behind a batch is sound, and so is the one behind a snapshot
pub sound_batch : (size : ℕ) (layout : Layout) (n : ℕ) → IsSound size layout → layout.next + n + 6 ≤ end_of layout → IsSound size (behind_batch layout n)
sound_batch size layout n sound fit = record { fits = sound.fits; behind = omega (arith, sound.behind); within = omega (arith, fit); header = sound.header; word = sound.word }

pub sound_snapshot : (size : ℕ) (layout : Layout) (n : ℕ) → IsSound size layout → n + 5 ≤ layout.half → IsSound size (behind_snapshot layout n)
sound_snapshot size layout n sound fit = record {
  fits = sound.fits;
  behind = begins layout.second layout.areas layout.half;
  within = ends layout.second layout.areas layout.half fit;
  header = sound.header;
  word = sound.word;
}
  where
    begins : (b : Bool) (a h : ℕ) → (if not b then a + h else a) + 4 ≤ (if b then a else a + h) + 4 + n
    begins true a h = omega arith
    begins false a h = omega arith

    ends : (b : Bool) (a h : ℕ) → n + 5 ≤ h → (if b then a else a + h) + 4 + n ≤ (if not b then a + h else a) + h
    ends true a h le = omega arith
    ends false a h le = omega arith
