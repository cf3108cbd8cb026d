-- A filling makes an image that a crash may leave.
use Rattle.std.proofs.Common.{◌≡◌, ◌⊎◌, inl, inr, ℕ, List, [], ◌∷◌, ◌++◌, refl, sym, ap, subst, ◌∙◌, ◌+◌, ◌-◌, ◌<◌, ◌≤◌, length, take, drop, arith, replicate, slice_get, get_or, Some, Result, Ok, Err, IfOk, Vec, length-append}
use Rattle.std.specs.Prelude.{All}
use Rattle.std.proofs.lemmas.List.Elements.{All-head}
use Rattle.std.proofs.lemmas.List.{length-replicate, length-take, length-take-le, get_or-take, get_or-drop, get_or-append_right}
use Rattle.std.proofs.Math.ListN.{get_or-append}
use Rattle.std.proofs.lemmas.Bool.{cases_lt}
use Rattle.std.proofs.lemmas.Option.{slice_get-get_or, slice_get_past}
use Rattle.std.specs.declared.alloc.Global.{Global}
use Rattle.ground_io.specs.Trace.{disk_of}
use Rattle.ground_io.proofs.Disks.{all_tail, contents_after, length-contents_with, length-with_octets}
use Rattle.ground_io.specs.Disk.{Disk, MayLeave, IsInside, after_entry, disk_after, disk_with, with_octets}
use Rattle.ground_io.specs.Image.{contents_with, filled, image_with, image_after}
use Rattle.ground_io.specs.declared.filling.Filling.{Filling}
use Rattle.ground_io.specs.declared.filling.Filling.TheVariants.{Old, New, Octet}
use Rattle.ground_io.specs.declared.entry.Entry.{Entry}
use Rattle.ground_io.specs.declared.entry.Entry.TheVariants.{Wrote, Broke, Synced, Emitted, Lost}

put_before : (place : ℕ) (octets contents : List ℕ) (at : ℕ) → at < place → at < length contents → get_or (with_octets place octets contents) at 0 ≡ get_or contents at 0
put_before place octets contents at before within =
    let front : at < length (take place contents) = omega (arith, length-take place contents) in
    get_or-append (take place contents ++ octets) (drop (place + length octets) contents) 0 at (omega (arith, length-append (take place contents) octets))
    ∙ get_or-append (take place contents) octets 0 at front ∙ get_or-take place contents at 0 before

put_behind : (place : ℕ) (octets contents : List ℕ) (at : ℕ) → place + length octets ≤ length contents → place + length octets ≤ at → get_or (with_octets place octets contents) at 0 ≡ get_or contents at 0
put_behind place octets contents at fits behind =
    let front : length (take place contents ++ octets) ≡ place + length octets = length-append (take place contents) octets ∙ ap (λ (n : ℕ). n + length octets) (length-take-le place contents (omega arith)) in
    get_or-append_right (take place contents ++ octets) (drop (place + length octets) contents) (place + length octets) at 0 front behind
    ∙ get_or-drop (place + length octets) contents (at - (place + length octets)) 0 ∙ ap (λ (n : ℕ). get_or contents n 0) (omega arith)

elsewhere : (place : ℕ) (octets contents : List ℕ) (at : ℕ) → place + length octets ≤ length contents → (at < place) ⊎ (place + length octets ≤ at) → slice_get (with_octets place octets contents) at ≡ slice_get contents at
elsewhere place octets contents at fits outside =
    let size : length (with_octets place octets contents) ≡ length contents = length-with_octets place octets contents fits in
    elim (cases_lt at (length contents)) [
      | inl within ↦
          let same : get_or (with_octets place octets contents) at 0 ≡ get_or contents at 0 =
          elim outside [ inl before ↦ put_before place octets contents at before within | inr behind ↦ put_behind place octets contents at fits behind ] in
          slice_get-get_or (with_octets place octets contents) at 0 (omega (arith, size, within)) ∙ ap Some same ∙ sym (slice_get-get_or contents at 0 within)
      | inr past ↦ slice_get_past (with_octets place octets contents) at (omega (arith, size, past)) ∙ sym (slice_get_past contents at past)
    ]

-- Any octets in a range of an image of the disk before are an image of the disk with that range written.
pub loose : (disk : Disk) (image octets any : List ℕ) (place : ℕ) → place + length octets ≤ length disk.contents → length any ≡ length octets → MayLeave disk image → MayLeave (disk_with place octets disk) (with_octets place any image)
loose disk image octets any place fits count may = record {
  size = length-with_octets place any image (omega (arith, fits, count, may.size)) ∙ may.size ∙ sym (length-with_octets place octets disk.contents fits);
  as_read = λ at outside. elsewhere place any image at (omega (arith, fits, count, may.size)) (subst (λ (n : ℕ). (at < place) ⊎ (place + n ≤ at)) (sym count) outside.0)
      ∙ may.as_read at outside.1
      ∙ sym (elsewhere place octets disk.contents at fits outside.0);
}

-- and so is that image with nothing put there
pub untouched : (disk : Disk) (image octets : List ℕ) (place : ℕ) → place + length octets ≤ length disk.contents → MayLeave disk image → MayLeave (disk_with place octets disk) image
untouched disk image octets place fits may = record {
  size = may.size ∙ sym (length-with_octets place octets disk.contents fits);
  as_read = λ at outside. may.as_read at outside.1 ∙ sym (elsewhere place octets disk.contents at fits outside.0);
}

pub filled_leaves : (filling : Filling) (disk : Disk) (image octets tried : List ℕ) (place : ℕ) → place + length octets ≤ length disk.contents → length tried ≡ length octets → MayLeave disk image → MayLeave (disk_with place octets disk) (filled filling place tried image)
filled_leaves Old disk image octets tried place fits count may = untouched disk image octets place fits may
filled_leaves New disk image octets tried place fits count may = loose disk image octets tried place fits count may
filled_leaves (Octet octet) disk image octets tried place fits count may = loose disk image octets (replicate (length tried) octet) place fits (length-replicate (length tried) octet ∙ count) may

pub leaves_one : (filling : Filling) (entry : Entry) (disk : Disk) (image : List ℕ) → IsInside (length disk.contents) entry → MayLeave disk image → MayLeave (after_entry entry disk) (image_with filling entry disk.contents image)
leaves_one filling (Wrote place octets) disk image inside may = filled_leaves filling disk image octets octets place inside refl may
leaves_one filling (Broke place tried left) disk image inside may = filled_leaves filling disk image left tried place (omega (arith, inside.0, inside.1)) (sym inside.1) may
leaves_one filling Synced disk image inside may = record { size = refl; as_read = λ at outside. refl }
leaves_one filling (Emitted peer octets) disk image inside may = may
leaves_one filling (Lost peer octets) disk image inside may = may

leaves_all : (filling : Filling) (entries : List Entry) (disk : Disk) (contents image : List ℕ) → contents ≡ disk.contents → All (IsInside (length disk.contents)) entries → MayLeave disk image → MayLeave (disk_after entries disk) (image_after filling entries contents image)
leaves_all filling [] disk contents image is inside may = may
leaves_all filling (entry ∷ entries) disk contents image is inside may =
    let here = All-head (IsInside (length disk.contents)) entry entries inside in
    let same : contents_with entry contents ≡ (after_entry entry disk).contents = ap (contents_with entry) is ∙ sym (contents_after entry disk) in
    let size : length (after_entry entry disk).contents ≡ length disk.contents = ap length (contents_after entry disk) ∙ length-contents_with entry disk.contents here in
    leaves_all filling entries (after_entry entry disk) (contents_with entry contents) (image_with filling entry contents image) same
    (subst (λ (n : ℕ). All (IsInside n) entries) (sym size) (all_tail (IsInside (length disk.contents)) entry entries inside))
    (subst (λ (l : List ℕ). MayLeave (after_entry entry disk) (image_with filling entry l image)) (sym is) (leaves_one filling entry disk image here may))

-- the image that a filling makes is one that a crash may leave
pub may_leave : {E : Type 0} (filling : Filling) (first : List ℕ) (entries : List Entry) (result : Result (Vec ℕ Global) E) → All (IsInside (length first)) entries → IfOk result (λ image. image.items ≡ image_after filling entries first first)
    → IfOk result (λ image. MayLeave (disk_of (record { first = first; trace = entries })) image.items)
may_leave filling first entries (Ok image) inside is =
    let start : Disk = record { contents = first; loose = [] } in
    subst (λ (l : List ℕ). MayLeave (disk_after entries start) l) (sym is) (leaves_all filling entries start first first refl inside (record { size = refl; as_read = λ at outside. refl }))
may_leave filling first entries (Err fault) inside is = tt
