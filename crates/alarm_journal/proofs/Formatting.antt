-- What a crash may leave while a blank device is formatted.
use Rattle.bac_values.specs.Limits.{most_site_octets}
use Rattle.std.proofs.Common.{◌≡◌, ◌≢◌, inl, inr, ℕ, zero, suc, ◌+◌, ◌-◌, ◌/◌, ◌%◌, ◌<◌, ◌≤◌, ◌^◌, false, List, [], ◌∷◌, ◌++◌, length, take, drop, get_or, refl, sym, ◌∙◌, ap, subst, arith, append_assoc, length-append, Option, Some, None}
use Rattle.std.proofs.lemmas.List.{drop_more, drop-drop, drop_at, take_at, get_or_at, get_or-drop}
use Rattle.std.proofs.lemmas.Bool.{cases_eq}
use Rattle.byteorder.specs.Numbers.{big_number-reads_back}
use Rattle.ground_io.specs.Disk.{Disk, Each, with_octets}
use Rattle.ground_io.specs.Trace.{Told, HasSize, disk_of}
use Rattle.ground_io.proofs.Crashes.{only_read, one_loose}
use Rattle.ground_io.proofs.Disks.{length-with_octets}
use Rattle.alarm_journal.specs.Journal.{Site, BeginsWith, nothing, OpensTo, formatted_size, heading}
use Rattle.alarm_journal.specs.Press.{StandsFor, IsSound, Settled, Blank}
use Rattle.alarm_journal.specs.declared.layout.Layout.{Layout}
use Rattle.alarm_journal.proofs.Fronts.{octet_front, put_front, put_from, put_past}
use Rattle.alarm_journal.proofs.Headers.{opens_blank}
use Rattle.alarm_journal.proofs.Rest.{opens_now}
use Rattle.alarm_journal.proofs.TwoWrites.{TwoWrites, Ready, Ended}

pub length-heading : (text : List ℕ) (size : ℕ) → length (heading text size) ≡ length text + 26
length-heading text size = twenty (length (text ++ (0 ∷ 0 ∷ 0 ∷ 0 ∷ 0 ∷ 0 ∷ []))) (length-append text (0 ∷ 0 ∷ 0 ∷ 0 ∷ 0 ∷ 0 ∷ []))
  where
    twenty : (k : ℕ) → k ≡ length text + 6 → suc (suc (suc (suc (suc (suc (suc (suc (suc (suc (suc (suc (suc (suc (suc (suc (suc (suc (suc (suc k))))))))))))))))))) ≡ length text + 26
    twenty k is = omega arith

module _ (site : Site) (size : ℕ) (text : length site.text ≤ most_site_octets) (room : length site.text + 32 ≤ site.need) (enough : site.need ≤ size) (word : size < 2 ^ 64) where
  abbrev n : ℕ
  n = length site.text

  abbrev first_layout : Layout
  first_layout = record { areas = n + 22; half = (size - (n + 22)) / 2; second = false; next = n + 22 + 4 }

  pub sound : IsSound size first_layout
  sound = record { fits = omega (arith, room, enough); behind = omega arith; within = omega (arith, room, enough); header = omega arith; word = word }

  -- no snapshot
  no_snapshot : BeginsWith (0 ∷ 0 ∷ 0 ∷ 0 ∷ []) nothing []
  no_snapshot = record { four = 0 ∷ 0 ∷ 0 ∷ 0 ∷ []; behind = []; whole = refl; size = (refl, refl); batches = refl }

  -- the device once the gate is open
  pub formatted : (more : List ℕ) → length (1 ∷ (heading site.text size ++ more)) ≡ size → StandsFor site first_layout (1 ∷ (heading site.text size ++ more)) nothing
  formatted more long =
      let x : List ℕ = 1 ∷ (heading site.text size ++ more) in
      let six : List ℕ = 0 ∷ 0 ∷ 0 ∷ 0 ∷ 0 ∷ 0 ∷ [] in
      let rest : drop 21 x ≡ site.text ++ (0 ∷ 0 ∷ 0 ∷ 0 ∷ 0 ∷ 0 ∷ more) = append_assoc site.text six more in
      let five : List ℕ = 0 ∷ 0 ∷ 0 ∷ 0 ∷ 0 ∷ [] in
      let to_gate : site.text ++ (0 ∷ 0 ∷ 0 ∷ 0 ∷ 0 ∷ 0 ∷ more) ≡ (site.text ++ five) ++ (0 ∷ more) = sym (append_assoc site.text five (0 ∷ more)) in
      let to_area : site.text ++ (0 ∷ 0 ∷ 0 ∷ 0 ∷ 0 ∷ 0 ∷ more) ≡ (site.text ++ 0 ∷ []) ++ (0 ∷ 0 ∷ 0 ∷ 0 ∷ 0 ∷ more) = sym (append_assoc site.text (0 ∷ []) (0 ∷ 0 ∷ 0 ∷ 0 ∷ 0 ∷ more)) in
      let long5 : length (site.text ++ five) ≡ n + 5 = length-append site.text five in
      let long1 : length (site.text ++ 0 ∷ []) ≡ n + 1 = length-append site.text (0 ∷ []) in
      let at_gate : n + 22 + 4 ≡ 21 + (n + 5) = omega arith in
      let at_area : n + 22 ≡ 21 + (n + 1) = omega arith in
      let half_is : size - 22 - n ≡ size - (n + 22) = omega arith in
      let size_is : formatted_size x ≡ size = big_number-reads_back 8 size [] word in
      let gate : get_or x (n + 22 + 4) 0 ≡ 0 =
      ap (λ (k : ℕ). get_or x k 0) at_gate ∙ sym (get_or-drop 21 x (n + 5) 0) ∙ ap (λ (l : List ℕ). get_or l (n + 5) 0) (rest ∙ to_gate) ∙ get_or_at (site.text ++ five) 0 more 0 (n + 5) long5 in
      let area : drop (n + 22) x ≡ 0 ∷ 0 ∷ 0 ∷ 0 ∷ 0 ∷ more =
      ap (λ (k : ℕ). drop k x) at_area ∙ sym (drop-drop (n + 1) 21 x) ∙ ap (drop (n + 1)) (rest ∙ to_area) ∙ drop_at (site.text ++ 0 ∷ []) (0 ∷ 0 ∷ 0 ∷ 0 ∷ 0 ∷ more) (n + 1) long1 in
      let four : n + 22 + 4 - (n + 22) ≡ 4 = omega arith in
      record {
        ours = record {
          gate = refl;
          own = record { mark = refl; count = refl; text = ap (take n) rest ∙ take_at site.text (0 ∷ 0 ∷ 0 ∷ 0 ∷ 0 ∷ 0 ∷ more) n refl };
          enough = subst (λ (k : ℕ). site.need ≤ k) (sym size_is) enough;
          whole = subst (λ (k : ℕ). k ≤ length x) (sym size_is) (same_le size (length x) (sym long));
        };
        areas = omega arith;
        half = ap (λ (k : ℕ). (k - 22 - n) / 2) size_is ∙ ap (λ (k : ℕ). k / 2) half_is;
        selected = ap (λ (k : ℕ). k % 2) (sym (get_or-drop 21 x n 0) ∙ ap (λ (l : List ℕ). get_or l n 0) rest ∙ get_or_at site.text 0 (0 ∷ 0 ∷ 0 ∷ 0 ∷ 0 ∷ more) 0 n refl);
        closed = λ _ is. not_one (sym gate ∙ is);
        reads = subst (λ (l : List ℕ). BeginsWith l nothing []) (sym (ap (λ (k : ℕ). take k (drop (n + 22) x)) four ∙ ap (take 4) area)) no_snapshot;
      }
    where
      not_one : zero ≡ 1 → ⊥
      not_one is = omega arith

      same_le : (a b : ℕ) → a ≡ b → a ≤ b
      same_le a b is = omega arith

  module _ (c : List ℕ) (whole : length c ≡ size) (gate : get_or c 0 0 ≢ 1) where
    abbrev c1 : List ℕ
    c1 = with_octets 1 (heading site.text size) c

    abbrev c2 : List ℕ
    c2 = with_octets 0 (1 ∷ []) c1

    abbrev more : List ℕ
    more = drop (1 + length (heading site.text size)) c

    fits : 1 + length (heading site.text size) ≤ length c
    fits = omega (arith, length-heading site.text size, whole, room, enough)

    long1 : length c1 ≡ length c
    long1 = length-with_octets 1 (heading site.text size) c fits

    some : 1 ≤ length c
    some = omega (arith, whole, room, enough)

    long2 : length c2 ≡ length c
    long2 = length-with_octets 0 (1 ∷ []) c1 (omega (arith, long1, some)) ∙ long1

    blank : (x : List ℕ) → length x ≡ length c → take 1 x ≡ take 1 c → OpensTo site x nothing
    blank x size_same same = opens_blank site x (omega (arith, size_same, whole, enough)) (λ is. gate (sym (octet_front 1 0 x c (omega arith) same) ∙ is))

    behind1 : drop 1 c1 ≡ heading site.text size ++ more
    behind1 = put_from 1 (heading site.text size) c some

    opened : c2 ≡ 1 ∷ (heading site.text size ++ more)
    opened = ap (λ (l : List ℕ). 1 ∷ l) behind1

    -- with the gate open
    open_now : (x : List ℕ) → length x ≡ length c → x ≡ 1 ∷ (heading site.text size ++ more) → OpensTo site x nothing
    open_now x size_same is =
        let long : length (1 ∷ (heading site.text size ++ more)) ≡ size = sym (ap length is) ∙ size_same ∙ whole in
        subst (λ (l : List ℕ). OpensTo site l nothing) (sym is) (opens_now site first_layout (1 ∷ (heading site.text size ++ more)) nothing size sound (formatted more long))

    -- with the header whole, whatever the gate
    whole_header : (x : List ℕ) → length x ≡ length c → drop 1 x ≡ heading site.text size ++ more → OpensTo site x nothing
    whole_header x size_same behind =
        let split : x ≡ get_or x 0 0 ∷ (heading site.text size ++ more) = drop_more x 0 0 (omega (arith, size_same, some)) ∙ ap (λ (l : List ℕ). get_or x 0 0 ∷ l) behind in
        elim (cases_eq (get_or x 0 0) 1) [
          | inl is_open ↦ open_now x size_same (split ∙ ap (λ (k : ℕ). k ∷ (heading site.text size ++ more)) is_open)
          | inr shut ↦ opens_blank site x (omega (arith, size_same, whole, enough)) shut
        ]

    at_first : (o : List ℕ) → length o ≡ length (heading site.text size) → Each (λ image. OpensTo site image nothing) (record { contents = with_octets 1 o c; loose = record { place = 1; count = length o } ∷ [] })
    at_first o count x may =
        let same = one_loose (with_octets 1 o c) x 1 (length o) may in
        let fits_o : 1 + length o ≤ length c = omega (arith, count, fits) in
        blank x (same.size ∙ length-with_octets 1 o c fits_o) (same.before ∙ put_front 1 o c some)

    at_middle : Each (λ image. OpensTo site image nothing) (record { contents = c1; loose = [] })
    at_middle x may = let is = only_read c1 x may in blank x (ap length is ∙ long1) (ap (take 1) is ∙ put_front 1 (heading site.text size) c some)

    at_second : (o : List ℕ) → length o ≡ 1 → Each (λ image. OpensTo site image nothing) (record { contents = with_octets 0 o c1; loose = record { place = 0; count = length o } ∷ [] })
    at_second o one x may =
        let same = one_loose (with_octets 0 o c1) x 0 (length o) may in
        let fits_o : 0 + length o ≤ length c1 = omega (arith, one, long1, some) in
        let sized : length x ≡ length c = same.size ∙ length-with_octets 0 o c1 fits_o ∙ long1 in
        let is_one : 1 ≡ 0 + length o = omega (arith, one) in
        let behind : drop 1 x ≡ heading site.text size ++ more = ap (λ (k : ℕ). drop k x) is_one ∙ same.after ∙ put_past 0 o c1 (omega arith) ∙ ap (λ (k : ℕ). drop k c1) (sym is_one) ∙ behind1 in
        whole_header x sized behind

    at_last : Each (λ image. OpensTo site image nothing) (record { contents = c2; loose = [] })
    at_last x may = let is = only_read c2 x may in open_now x (ap length is ∙ long2) (is ∙ opened)

    pub steps : TwoWrites (λ image. OpensTo site image nothing) c 1 (heading site.text size) 0 (1 ∷ [])
    steps = record {
      rest = λ x may. let is = only_read c x may in blank x (ap length is) (ap (take 1) is);
      first = at_first;
      middle = at_middle;
      second = at_second;
      last = at_last;
    }

    pub stands : StandsFor site first_layout c2 nothing
    stands =
        let long : length (1 ∷ (heading site.text size ++ more)) ≡ size = sym (ap length opened) ∙ long2 ∙ whole in
        subst (λ (l : List ℕ). StandsFor site first_layout l nothing) (sym opened) (formatted more long)

  pub ready : (a : Option Told) → HasSize size a → Blank a → Ready (λ image. OpensTo site image nothing) 1 (heading site.text size) 0 (1 ∷ []) a
  ready None whole blank = tt
  ready (Some a) whole blank = (blank.stable, steps (disk_of a).contents whole blank.gate)

  pub settled : (a d : Option Told) → HasSize size a → Blank a → Ended 1 (heading site.text size) 0 (1 ∷ []) a d → Settled site first_layout d nothing
  settled a None whole blank ended = tt
  settled None (Some d) whole blank ended = absurd ended
  settled (Some a) (Some d) whole blank ended = record {
    stands = subst (λ (k : Disk). StandsFor site first_layout k.contents nothing) (sym ended) (stands (disk_of a).contents whole blank.gate);
    stable = ap (λ (k : Disk). k.loose) ended;
  }
