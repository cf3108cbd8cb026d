-- Where records end that stand one behind the other, and how many of them fit into a packet.
use Rattle.std.proofs.Common.{◌≡◌, ℕ, zero, suc, ◌+◌, ◌-◌, ◌<◌, ◌≤◌, Bool, true, false, cond, eqb, List, [], ◌∷◌, ◌++◌, All, length, take, drop, get_or, ◌⊎◌, inl, inr, refl, ap, ◌∙◌, sym, subst, arith}
use Rattle.std.proofs.lemmas.Bool.{cases_lt, cond-false, eqb-true, eqb-false, ne_eqb}
use Rattle.std.proofs.lemmas.List.{append-nil, drop_at, drop-take, length-append, length-drop, length-take, take_all, take_at, take-append-drop, take-take}
use Rattle.std.proofs.lemmas.List.Elements.{All-drop, All-head, All-nil}
use Rattle.std.proofs.lemmas.Grind.{flat_map-append}
use Rattle.bac_tags.specs.Places.{IsSpelledAt}
use Rattle.ground_io.specs.Disk.{octets_at}
use Rattle.alarm_core.specs.declared.event.Event.{Event}
use Rattle.state_codec.specs.Contents.{SpellsEvents, records_of}
use Rattle.state_codec.specs.Laws.{RecordsAreShort}
use Rattle.state_codec.specs.Records.{HasRecord, IsNowhere, SpellsEvent, written_event}
use Rattle.state_codec.proofs.Following.{ends_later, taken_to}
use Rattle.standby.specs.Offers.{AreAsManyAsFit, AreEnds, IsCutAt, LeaderState, ends_from, records_between, start_of}
use Rattle.standby.specs.Packets.{most_packet_octets}
use Rattle.standby.proofs.Walks.{spells_more}

-- ---- ends and starts

pub length-ends : (at : ℕ) (events : List Event) → length (ends_from at events) ≡ length events
length-ends at [] = refl
length-ends at (event ∷ events) = ap (λ n. suc n) (length-ends (at + length (written_event event)) events)

end_is : (at : ℕ) (events : List Event) (k : ℕ) → k < length events → get_or (ends_from at events) k 0 ≡ at + length (records_of (take (suc k) events))
end_is at [] k low = absurd (omega (arith, low))
end_is at (event ∷ events) zero low = omega (arith, length-append (written_event event) [])
end_is at (event ∷ events) (suc k) low =
    omega (arith, end_is (at + length (written_event event)) events k (omega (arith, low)), length-append (written_event event) (records_of (take (suc k) events)))

start_by : (none : Bool) (events : List Event) (k : ℕ) → eqb k 0 ≡ none → k ≤ length events → cond none 0 (get_or (ends_from 0 events) (k - 1) 0) ≡ length (records_of (take k events))
start_by true events k is low = ap (λ (n : ℕ). length (records_of (take n events))) (sym (eqb-true k 0 is))
start_by false events k is low =
    let some : 0 < k = omega (arith, eqb-false k 0 is) in
    let next : suc (k - 1) ≡ k = omega (arith, some) in
    end_is 0 events (k - 1) (omega (arith, some, low)) ∙ (omega arith ∙ ap (λ (n : ℕ). length (records_of (take n events))) next)

start_is : (events : List Event) (k : ℕ) → k ≤ length events → start_of (ends_from 0 events) k ≡ length (records_of (take k events))
start_is events k low = start_by (eqb k 0) events k refl low

-- a record begins where the one before it ends
pub start_next : (ends : List ℕ) (k : ℕ) → start_of ends (k + 1) ≡ get_or ends k 0
start_next ends k = cond-false (eqb (k + 1) 0) 0 (get_or ends (k + 1 - 1) 0) (ne_eqb (k + 1) 0 (λ e. omega (arith, e))) ∙ ap (λ (n : ℕ). get_or ends n 0) (omega arith)

-- where each begins, by the records before it
pub starts : (records ends : List ℕ) (so : AreEnds records ends) (k : ℕ) → k ≤ length ends → start_of ends k ≡ length (records_of (take k so.events))
starts records ends so k low =
    ap (λ (l : List ℕ). start_of l k) so.ends_are ∙ start_is so.events k (omega (arith, low, length-ends 0 so.events, ap (λ (l : List ℕ). length l) so.ends_are))

pub as_many : (records ends : List ℕ) (so : AreEnds records ends) → length ends ≡ length so.events
as_many records ends so = ap (λ (l : List ℕ). length l) so.ends_are ∙ length-ends 0 so.events

-- ---- parts of the records

-- the first of a list, and so many behind them
pub take_both : {A : Type 0} (first second : ℕ) (xs : List A) → take first xs ++ take second (drop first xs) ≡ take (first + second) xs
take_both {A = A} first second xs =
    ap (λ (l : List A). l ++ take second (drop first xs)) (sym (take-take first (first + second) xs (omega arith)))
    ∙ (ap (λ (l : List A). take first (take (first + second) xs) ++ l) (sym (drop-take first second xs)) ∙ take-append-drop first (take (first + second) xs))

records_split : (events : List Event) (first count : ℕ) → records_of (take (first + count) events) ≡ records_of (take first events) ++ records_of (take count (drop first events))
records_split events first count = ap (λ (l : List Event). records_of l) (sym (take_both first count events)) ∙ rw flat_map-append refl

length_split : (events : List Event) (first count : ℕ) → length (records_of (take (first + count) events)) ≡ length (records_of (take first events)) + length (records_of (take count (drop first events)))
length_split events first count = ap (λ (l : List ℕ). length l) (records_split events first count) ∙ length-append (records_of (take first events)) (records_of (take count (drop first events)))

-- a later record begins no earlier
pub rises : (records ends : List ℕ) → AreEnds records ends → (first second : ℕ) → first ≤ second → second ≤ length ends → start_of ends first ≤ start_of ends second
rises records ends so first second before low =
    let is : first + (second - first) ≡ second = omega (arith, before) in
    omega (arith, starts records ends so first (omega (arith, before, low)), starts records ends so second low, length_split so.events first (second - first), ap (λ (n : ℕ). length (records_of (take n so.events))) is)

-- and none behind all of them
pub starts_within : (records ends : List ℕ) → AreEnds records ends → (k : ℕ) → k ≤ length ends → start_of ends k ≤ length records
starts_within records ends so k low =
    let whole : records_of (take (length so.events) so.events) ≡ records_of so.events = ap (λ (l : List Event). records_of l) (take_all (length so.events) so.events (omega arith)) in
    let last : start_of ends (length ends) ≡ length (records_of (take (length ends) so.events)) = starts records ends so (length ends) (omega arith) in
    omega (arith, rises records ends so k (length ends) low (omega arith), last, ap (λ (n : ℕ). length (records_of (take n so.events))) (as_many records ends so), ap (λ (l : List ℕ). length l) whole, ap (λ (l : List ℕ). length l) so.spells.octets_are)

-- what stands between is the records of the events between
pub between : (leader : LeaderState) (so : AreEnds leader.records leader.ends) (first count : ℕ) → first + count ≤ length leader.ends
    → records_between leader first (first + count) ≡ records_of (take count (drop first so.events))
between leader so first count low =
    let a : List ℕ = records_of (take first so.events) in
    let b : List ℕ = records_of (take count (drop first so.events)) in
    let c : List ℕ = records_of (drop count (drop first so.events)) in
    let behind : records_of (drop first so.events) ≡ b ++ c = ap (λ (l : List Event). records_of l) (sym (take-append-drop count (drop first so.events))) ∙ rw flat_map-append refl in
    let whole : leader.records ≡ a ++ (b ++ c) =
    so.spells.octets_are ∙ (ap (λ (l : List Event). records_of l) (sym (take-append-drop first so.events)) ∙ (rw flat_map-append refl ∙ ap (λ (l : List ℕ). a ++ l) behind)) in
    let from : start_of leader.ends first ≡ length a = starts leader.records leader.ends so first (omega (arith, low)) in
    let to : start_of leader.ends (first + count) ≡ length a + length b = starts leader.records leader.ends so (first + count) low ∙ length_split so.events first count in
    let long : start_of leader.ends (first + count) - start_of leader.ends first ≡ length b = omega (arith, from, to) in
    ap (λ (n : ℕ). octets_at (start_of leader.ends first) n leader.records) long
    ∙ (ap (λ (n : ℕ). octets_at n (length b) leader.records) from
    ∙ (ap (λ (l : List ℕ). octets_at (length a) (length b) l) whole
    ∙ (ap (λ (l : List ℕ). take (length b) l) (drop_at a (b ++ c) (length a) refl) ∙ take_at b c (length b) refl)))

pub length_between : (leader : LeaderState) → AreEnds leader.records leader.ends → (first last : ℕ) → first ≤ last → last ≤ length leader.ends
    → length (records_between leader first last) ≡ start_of leader.ends last - start_of leader.ends first
length_between leader so first last before low =
    let from : ℕ = start_of leader.ends first in
    let to : ℕ = start_of leader.ends last in
    omega (arith, starts_within leader.records leader.ends so last low, rises leader.records leader.ends so first last before low, length-take (to - from) (drop from leader.records), length-drop from leader.records)

-- ---- how many fit

first_short : (events : List Event) → RecordsAreShort → All HasRecord events → length (records_of (take 1 events)) ≤ most_packet_octets
first_short [] short have = omega arith
first_short (event ∷ events) short have = omega (arith, short event (All-head HasRecord event events have), length-append (written_event event) [])

-- one fits always
one_fits : (records ends : List ℕ) → RecordsAreShort → AreEnds records ends → (next : ℕ) → next < length ends → get_or ends next 0 ≤ start_of ends next + most_packet_octets
one_fits records ends short so next low =
    let front : length (records_of (take 1 (drop next so.events))) ≤ most_packet_octets = first_short (drop next so.events) short (All-drop HasRecord next so.events so.spells.have) in
    omega (arith, front, start_next ends next, starts records ends so next (omega (arith, low)), starts records ends so (next + 1) (omega (arith, low)), length_split so.events next 1)

-- the records up to the first that ends too far behind are as many as fit
pub fit_up_to : (leader : LeaderState) (last : ℕ) → RecordsAreShort → AreEnds leader.records leader.ends → leader.next < length leader.ends → leader.next ≤ last → last ≤ length leader.ends
    → ((k : ℕ) → leader.next ≤ k → k < last → get_or leader.ends k 0 ≤ start_of leader.ends leader.next + most_packet_octets)
    → (last < length leader.ends → start_of leader.ends leader.next + most_packet_octets < get_or leader.ends last 0)
    → AreAsManyAsFit leader (last - leader.next)
fit_up_to leader last short so more from there fit beyond =
    let next : ℕ = leader.next in
    let ends : List ℕ = leader.ends in
    let some : next < last = later (cases_lt next last) in
    let is : next + (last - next) ≡ last = omega (arith, from) in
    let end : start_of ends last ≡ get_or ends (last - 1) 0 = ap (λ (n : ℕ). start_of ends n) (omega (arith, some)) ∙ start_next ends (last - 1) in
    record {
      some = omega (arith, some);
      there = omega (arith, is, there);
      fit = subst (λ (n : ℕ). length (records_between leader next n) ≤ most_packet_octets) (sym is)
          (omega (arith, length_between leader so next last from there, end, fit (last - 1) (omega (arith, some)) (omega (arith, some))));
      no_more = λ less.
          let low : last < length ends = omega (arith, less, is) in
          subst (λ (n : ℕ). most_packet_octets < length (records_between leader next (n + 1))) (sym is)
          (omega (arith, length_between leader so next (last + 1) (omega (arith, from)) (omega (arith, low)), start_next ends last, beyond low));
    }
  where
    later : (leader.next < last) ⊎ (last ≤ leader.next) → leader.next < last
    later (inl less) = less
    later (inr none) =
        let is : last ≡ leader.next = omega (arith, none, from) in
        absurd (omega (arith, beyond (omega (arith, is, more)), ap (λ (n : ℕ). get_or leader.ends n 0) is, one_fits leader.records leader.ends short so leader.next more))

-- ---- the loop that finds the ends

-- so far
pub record IsEnding (records ends : List ℕ) (at : ℕ) : Type 0 where
  pub events : List Event
  pub spells : SpellsEvents (take at records) events
  pub ends_are : ends ≡ ends_from 0 events
  pub within : at ≤ length records

pub none_ended : (records : List ℕ) → IsEnding records [] 0
none_ended records = record { events = []; spells = record { octets_are = refl; have = All-nil HasRecord }; ends_are = refl; within = omega arith }

ends_more : (at : ℕ) (events : List Event) (event : Event) → ends_from at (events ++ event ∷ []) ≡ ends_from at events ++ (at + length (records_of (events ++ event ∷ []))) ∷ []
ends_more at [] event = ap (λ (n : ℕ). (at + n) ∷ []) (sym (ap (λ (l : List ℕ). length l) (append-nil (written_event event))))
ends_more at (first ∷ events) event =
    let here : ℕ = at + length (written_event first) in
    let same : here + length (records_of (events ++ event ∷ [])) ≡ at + length (written_event first ++ records_of (events ++ event ∷ [])) = omega (arith, length-append (written_event first) (records_of (events ++ event ∷ []))) in
    ap (λ (l : List ℕ). here ∷ l) (ends_more here events event ∙ ap (λ (n : ℕ). ends_from here events ++ n ∷ []) same)

pub ended_on : (records ends : List ℕ) (at end : ℕ) (event : Event) → IsEnding records ends at → (spelled : IsSpelledAt SpellsEvent records at event end) → IsEnding records (ends ++ end ∷ []) end
ended_on records ends at end event so spelled =
    let on = ends_later records at end event spelled so.within in
    let taken : take end records ≡ take at records ++ spelled.octets = taken_to records at end event spelled so.within in
    let spells : SpellsEvents (take end records) (so.events ++ event ∷ []) = subst (λ (l : List ℕ). SpellsEvents l (so.events ++ event ∷ [])) (sym taken) (spells_more (take at records) spelled.octets so.events event so.spells spelled.spelled) in
    let end_at : end ≡ 0 + length (records_of (so.events ++ event ∷ [])) = omega (arith, on.1, length-take end records, ap (λ (l : List ℕ). length l) spells.octets_are) in
    record {
      events = so.events ++ event ∷ [];
      spells = spells;
      ends_are = ap (λ (l : List ℕ). l ++ end ∷ []) so.ends_are ∙ (ap (λ (n : ℕ). ends_from 0 so.events ++ n ∷ []) end_at ∙ sym (ends_more 0 so.events event));
      within = on.1;
    }

pub ended_all : (records ends : List ℕ) (at : ℕ) → length records ≤ at → IsEnding records ends at → AreEnds records ends
ended_all records ends at all so = record { events = so.events; spells = subst (λ (l : List ℕ). SpellsEvents l so.events) (take_all at records all) so.spells; ends_are = so.ends_are }

pub cut_at : (records ends : List ℕ) (at : ℕ) → at < length records → IsEnding records ends at → IsNowhere records at → IsCutAt records at
cut_at records ends at within so none = record {
  events = so.events;
  front = take at records;
  rest = drop at records;
  octets_are = sym (take-append-drop at records);
  spells = so.spells;
  place = omega (arith, length-take at records, within);
  some = omega (arith, length-drop at records, within);
  none = λ event first more there spelled. none event (at + length first) (record { octets = first; rest = more; spelled = spelled; there = there; ends = refl });
}
