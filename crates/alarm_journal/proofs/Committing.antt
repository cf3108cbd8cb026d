-- What a crash may leave at each moment of a batch's commit.
use Rattle.std.proofs.Common.{◌≡◌, ◌⊎◌, inl, inr, ℕ, ◌+◌, ◌<◌, ◌≤◌, ◌^◌, Bool, true, false, List, [], ◌∷◌, ◌++◌, length, take, drop, get_or, sym, ◌∙◌, ap, subst, arith, Option, Some, None, if◌then◌else◌}
use Rattle.std.proofs.lemmas.List.{drop_more}
use Rattle.std.proofs.lemmas.Bool.{cases_eq}
use Rattle.ground_io.specs.Disk.{Disk, Each, with_octets}
use Rattle.ground_io.specs.Trace.{Told, HasSize, disk_of}
use Rattle.ground_io.proofs.Crashes.{only_read, one_loose}
use Rattle.ground_io.proofs.Disks.{length-with_octets}
use Rattle.alarm_journal.specs.Journal.{Site, Content, with_batch, OpensTo, framed}
use Rattle.alarm_journal.specs.Press.{StandsFor, Settled, IsSound, end_of, behind_batch}
use Rattle.alarm_journal.specs.declared.layout.Layout.{Layout}
use Rattle.alarm_journal.proofs.TwoWrites.{TwoWrites, Ready, Ended}
use Rattle.alarm_journal.proofs.Batches.{length-framed}
use Rattle.alarm_journal.proofs.Fronts.{take_front, put_front, put_from, put_past}
use Rattle.alarm_journal.proofs.Standings.{reads_closed, reads_staged, stands_open}

pub end_low : (layout : Layout) → end_of layout ≤ layout.areas + layout.half + layout.half
end_low layout = low layout.second layout.areas layout.half
  where
    low : (b : Bool) (a h : ℕ) → (if b then a + h else a) + h ≤ a + h + h
    low true a h = omega arith
    low false a h = omega arith

module _ (site : Site) (layout : Layout) (content : Content) (body : List ℕ) (size : ℕ) (sound : IsSound size layout) (few : length body < 2 ^ 32) (room : layout.next + length body + 6 ≤ end_of layout) where
  abbrev P : List ℕ → Type 0
  P image = OpensTo site image content ⊎ OpensTo site image (with_batch content body)

  module _ (c : List ℕ) (whole : length c ≡ size) (stands : StandsFor site layout c content) where
    long : layout.next + length body + 6 ≤ length c
    long = omega (arith, room, whole, sound.fits, end_low layout)

    abbrev c1 : List ℕ
    c1 = with_octets (layout.next + 1) (framed body) c

    abbrev c2 : List ℕ
    c2 = with_octets layout.next (1 ∷ []) c1

    long1 : length c1 ≡ length c
    long1 = length-with_octets (layout.next + 1) (framed body) c (omega (arith, long, length-framed body))

    long2 : length c2 ≡ length c
    long2 = length-with_octets layout.next (1 ∷ []) c1 (omega (arith, long, long1)) ∙ long1

    closed : (x : List ℕ) → length x ≡ length c → take (layout.next + 1) x ≡ take (layout.next + 1) c → P x
    closed x same front = inl (reads_closed site layout c content size sound stands x same front (omega (arith, room)))

    at_rest : Each P (record { contents = c; loose = [] })
    at_rest x may = let is = only_read c x may in closed x (ap length is) (ap (take (layout.next + 1)) is)

    at_body : (o : List ℕ) → length o ≡ length (framed body) → Each P (record { contents = with_octets (layout.next + 1) o c; loose = record { place = layout.next + 1; count = length o } ∷ [] })
    at_body o count x may =
        let same = one_loose (with_octets (layout.next + 1) o c) x (layout.next + 1) (length o) may in
        let fits : layout.next + 1 + length o ≤ length c = omega (arith, long, count, length-framed body) in
        closed x (same.size ∙ length-with_octets (layout.next + 1) o c fits) (same.before ∙ put_front (layout.next + 1) o c (omega (arith, long)))

    at_stage : Each P (record { contents = c1; loose = [] })
    at_stage x may =
        let is = only_read c1 x may in
        closed x (ap length is ∙ long1) (ap (take (layout.next + 1)) is ∙ put_front (layout.next + 1) (framed body) c (omega (arith, long)))

    front1 : take layout.next c1 ≡ take layout.next c
    front1 = take_front (layout.next + 1) layout.next c1 c (omega arith) (put_front (layout.next + 1) (framed body) c (omega (arith, long)))

    abbrev more : List ℕ
    more = drop (layout.next + 1 + length (framed body)) c

    behind1 : drop (layout.next + 1) c1 ≡ framed body ++ more
    behind1 = put_from (layout.next + 1) (framed body) c (omega (arith, long))

    staged : (x : List ℕ) (g : ℕ) → length x ≡ length c → take layout.next x ≡ take layout.next c → drop layout.next x ≡ g ∷ (framed body ++ more) → P x
    staged x g same front behind =
        let read = reads_staged site layout c content size sound stands body x g more same few room front behind in
        elim (cases_eq g 1) [ inl is_open ↦ inr (read.1 is_open) | inr shut ↦ inl (read.0 shut) ]

    at_gate : (o : List ℕ) → length o ≡ 1 → Each P (record { contents = with_octets layout.next o c1; loose = record { place = layout.next; count = length o } ∷ [] })
    at_gate o one x may =
        let same = one_loose (with_octets layout.next o c1) x layout.next (length o) may in
        let short : layout.next + length o ≤ length c1 = omega (arith, one, long, long1) in
        let sized : length x ≡ length c = same.size ∙ length-with_octets layout.next o c1 short ∙ long1 in
        let front : take layout.next x ≡ take layout.next c = same.before ∙ put_front layout.next o c1 (omega (arith, short)) ∙ front1 in
        let rest : drop (layout.next + 1) x ≡ framed body ++ more =
        ap (λ (n : ℕ). drop (layout.next + n) x) (sym one) ∙ same.after ∙ put_past layout.next o c1 (omega (arith, short)) ∙ ap (λ (n : ℕ). drop (layout.next + n) c1) one ∙ behind1 in
        staged x (get_or x layout.next 0) sized front (drop_more x layout.next 0 (omega (arith, sized, long)) ∙ ap (λ (l : List ℕ). get_or x layout.next 0 ∷ l) rest)

    front2 : take layout.next c2 ≡ take layout.next c
    front2 = put_front layout.next (1 ∷ []) c1 (omega (arith, long, long1)) ∙ front1

    behind2 : drop layout.next c2 ≡ 1 ∷ (framed body ++ more)
    behind2 = put_from layout.next (1 ∷ []) c1 (omega (arith, long, long1)) ∙ ap (λ (l : List ℕ). 1 ∷ l) behind1

    at_end : Each P (record { contents = c2; loose = [] })
    at_end x may =
        let is = only_read c2 x may in
        staged x 1 (ap length is ∙ long2) (ap (take layout.next) is ∙ front2) (ap (drop layout.next) is ∙ behind2)

    pub steps : TwoWrites P c (layout.next + 1) (framed body) layout.next (1 ∷ [])
    steps = record {
      rest = at_rest;
      first = λ o count. at_body o count;
      middle = at_stage;
      second = λ o one. at_gate o one;
      last = at_end;
    }

    next_is : layout.next + 5 + length body ≡ layout.next + length (framed body)
    next_is = omega (arith, length-framed body)

    pub opened : StandsFor site (behind_batch layout (length body)) c2 (with_batch content body)
    opened = stands_open site layout c content size sound stands body c2 more (layout.next + 5 + length body) long2 few next_is front2 behind2

  pub ready : (a : Option Told) → HasSize size a → Settled site layout a content → Ready P (layout.next + 1) (framed body) layout.next (1 ∷ []) a
  ready None whole settled = tt
  ready (Some a) whole settled = (settled.stable, steps (disk_of a).contents whole settled.stands)

  pub committed : (a d : Option Told) → HasSize size a → Ended (layout.next + 1) (framed body) layout.next (1 ∷ []) a d → Settled site layout a content → Settled site (behind_batch layout (length body)) d (with_batch content body)
  committed a None whole ended settled = tt
  committed None (Some d) whole ended settled = absurd ended
  committed (Some a) (Some d) whole ended settled = record {
    stands = subst (λ (k : Disk). StandsFor site (behind_batch layout (length body)) k.contents (with_batch content body)) (sym ended) (opened (disk_of a).contents whole settled.stands);
    stable = ap (λ (k : Disk). k.loose) ended;
  }
