-- Events: each has one record, and is read exactly where it stands.
use Rattle.std.proofs.Common.{◌≡◌, ◌⊎◌, ℕ, ◌+◌, ◌-◌, ◌^◌, ◌≤◌, leb, ◌&&◌, List, ◌++◌, length, take, drop, take_all, Option, Some, Result, Ok, Err, IfOk, refl, sym, ap, subst, ◌∙◌, arith, inl, inr}
use Rattle.std.specs.Int.{w64, to_be_bytes}
use Rattle.std.proofs.lemmas.Bool.{leb-true, le-leb}
use Rattle.std.proofs.lemmas.List.{length-append, length-drop}
use Rattle.std.proofs.lemmas.Option.{cond_some, none-some}
use Rattle.bac_tags.specs.Places.{IsSpelledAt}
use Rattle.bac_values.specs.Moments.{first_moment, last_moment}
use Rattle.alarm_core.specs.declared.event.Act.{Act}
use Rattle.alarm_core.specs.declared.event.Event.{Event}
use Rattle.state_codec.specs.declared.fault.CodecFault.{CodecFault}
use Rattle.state_codec.specs.declared.fault.CodecFault.TheVariants as faults
use Rattle.state_codec.specs.Records.{written_act, written_event, IsRecordedAct, HasRecord, SpellsEvent, IsNowhere}
use Rattle.state_codec.specs.ReadingSteps.{last_at, number_at, act_at, event_of, event_at, GivesEvent}
use Rattle.state_codec.proofs.Behind.{AreOctets, Reads, some_is, both_true, reads_then, reads_last}
use Rattle.state_codec.proofs.PartLaws.{IsBelow, u64_reads, AreOctets-drop}
use Rattle.state_codec.proofs.ActLaws.{act_reads}

abbrev event : ℕ → Act → Event
event moment act = record { moment = moment; act = act }

event_forth : (moment : ℕ) (act : Act) (found : Event) → IsRecordedAct act → event_of moment act ≡ Some found → (HasRecord found × (found.moment ≡ moment)) × (written_act found.act ≡ written_act act)
event_forth moment act found recorded e =
    let g = cond_some (leb first_moment moment && leb moment last_moment) (event moment act) found e in
    let t = both_true (leb first_moment moment) (leb moment last_moment) g.0 in
    subst (λ (x : Event). (HasRecord x × (x.moment ≡ moment)) × (written_act x.act ≡ written_act act)) g.1 ((record { moment = (leb-true _ _ t.0, leb-true _ _ t.1); act = recorded }, refl), refl)

event_back : (moment : ℕ) (found : Event) → HasRecord found × (found.moment ≡ moment) → (act : Act) × IsRecordedAct act × (event_of moment act ≡ Some found) × (written_act found.act ≡ written_act act)
event_back moment found is =
    let same : event_of found.moment found.act ≡ Some found = rw (le-leb _ _ is.0.moment.0, le-leb _ _ is.0.moment.1) refl in
    (found.act, is.0.act, subst (λ (m : ℕ). event_of m found.act ≡ Some found) is.1 same, refl)

pub event_reads : Reads event_at written_event HasRecord
unfolding event_at
event_reads =
    reads_then (number_at w64) (λ moment. last_at act_at (event_of moment)) (to_be_bytes w64) (IsBelow (2 ^ 64)) (λ e. e.moment) (λ e. written_act e.act) HasRecord u64_reads (λ e f. omega (arith, f.moment.1))
    (λ moment lt. reads_last act_at (event_of moment) written_act IsRecordedAct (λ e. written_act e.act) (λ e. HasRecord e × (e.moment ≡ moment)) act_reads (event_forth moment) (event_back moment))

-- what is behind an event is no longer than all
pub leaves_fewer : (input : List ℕ) (at : ℕ) (found : Event) (rest : List ℕ) → AreOctets input → event_at (drop at input) ≡ Some (found, rest) → length rest ≤ length input
leaves_fewer input at found rest are e =
    let t = event_reads.takes (drop at input) found rest (AreOctets-drop at input are) e in
    omega (arith, ap (λ (x : List ℕ). length x) t.0.parts, length-append (written_event found) rest, length-drop at input)

-- what a slice from a place on has
pub from_place : (input : List ℕ) (at : ℕ) (read : Option (Event × List ℕ)) → event_at (take (length input - at) (drop at input)) ≡ read → event_at (drop at input) ≡ read
from_place input at read e =
    let all : take (length input - at) (drop at input) ≡ drop at input = take_all (length input - at) (drop at input) (omega (arith, length-drop at input)) in
    ap event_at (sym all) ∙ e

-- an event that is spelled at the place is read there
reads_there : (input : List ℕ) (at : ℕ) (found : Event) (end : ℕ) (spelled : IsSpelledAt SpellsEvent input at found end) → event_at (drop at input) ≡ Some (found, spelled.rest)
reads_there input at found end spelled =
    ap event_at (spelled.there ∙ ap (λ (t : List ℕ). t ++ spelled.rest) spelled.spelled.0) ∙ event_reads.again found spelled.rest spelled.spelled.1

spelled_there : (input : List ℕ) (at : ℕ) (found : Event) (rest : List ℕ) (end : ℕ) → AreOctets input → at ≤ length input → event_at (drop at input) ≡ Some (found, rest) → end + length rest ≡ length input → IsSpelledAt SpellsEvent input at found end
spelled_there input at found rest end are within e ends =
    let t = event_reads.takes (drop at input) found rest (AreOctets-drop at input are) e in
    record {
      octets = written_event found;
      rest = rest;
      spelled = (refl, t.1);
      there = t.0.parts;
      ends = omega (arith, ends, within, ap (λ (x : List ℕ). length x) t.0.parts, length-append (written_event found) rest, length-drop at input);
    }

pub is_found : (input : List ℕ) (at : ℕ) (r : Result (Event × ℕ) CodecFault) → AreOctets input → at ≤ length input → GivesEvent input at r (event_at (drop at input)) → IfOk r (λ x. IsSpelledAt SpellsEvent input at x.0 x.1)
is_found input at (Ok x) are within given = spelled_there input at x.0 given.0 x.1 are within given.1 given.2
is_found input at (Err fault) are within given = tt

same_place : (input : List ℕ) (at : ℕ) (found : Event) (end : ℕ) (spelled : IsSpelledAt SpellsEvent input at found end) → at ≤ length input → end + length spelled.rest ≡ length input
same_place input at found end spelled within =
    omega (arith, within, spelled.ends, ap (λ (x : List ℕ). length x) spelled.there, length-append spelled.octets spelled.rest, length-drop at input)

pub is_only : (input : List ℕ) (at : ℕ) (r : Result (Event × ℕ) CodecFault) → at ≤ length input → GivesEvent input at r (event_at (drop at input))
    → (found : Event) (end : ℕ) → IsSpelledAt SpellsEvent input at found end → (r ≡ Ok (found, end)) ⊎ (r ≡ Err faults.NoMemory)
is_only input at (Ok x) within given found end spelled =
    let both : ◌≡◌ {A = Event × List ℕ} (x.0, given.0) (found, spelled.rest) = some_is (x.0, given.0) (found, spelled.rest) (sym given.1 ∙ reads_there input at found end spelled) in
    let event_is : x.0 ≡ found = ap (λ (p : Event × List ℕ). p.0) both in
    let rest_is : given.0 ≡ spelled.rest = ap (λ (p : Event × List ℕ). p.1) both in
    let end_is : x.1 ≡ end = omega (arith, given.2, same_place input at found end spelled within, ap (λ (l : List ℕ). length l) rest_is) in
    inl (ap (λ (o : Event). Ok (o, x.1)) event_is ∙ ap (λ (n : ℕ). Ok (found, n)) end_is)
is_only input at (Err faults.NoMemory) within given found end spelled = inr refl
is_only input at (Err (faults.Malformed place)) within given found end spelled = absurd (none-some (found, spelled.rest) (sym given.1 ∙ reads_there input at found end spelled))

pub is_refused : (input : List ℕ) (at : ℕ) (r : Result (Event × ℕ) CodecFault) → GivesEvent input at r (event_at (drop at input))
    → (place : ℕ) → r ≡ Err (faults.Malformed place) → (place ≡ at) × IsNowhere input at
is_refused input at (Ok x) given place e = absurd cc
is_refused input at (Err faults.NoMemory) given place e = absurd cc
is_refused input at (Err (faults.Malformed other)) given place e =
    let same : other ≡ place = cc in
    (sym same ∙ given.0, λ found end spelled. none-some (found, spelled.rest) (sym given.1 ∙ reads_there input at found end spelled))

pub is_nothing : (input : List ℕ) (at : ℕ) (r : Result (Event × ℕ) CodecFault) → AreOctets input → at ≤ length input → GivesEvent input at r (event_at (drop at input))
    → IsNowhere input at → (r ≡ Err (faults.Malformed at)) ⊎ (r ≡ Err faults.NoMemory)
is_nothing input at (Ok x) are within given nowhere = absurd (nowhere x.0 x.1 (spelled_there input at x.0 given.0 x.1 are within given.1 given.2))
is_nothing input at (Err faults.NoMemory) are within given nowhere = inr refl
is_nothing input at (Err (faults.Malformed place)) are within given nowhere = inl (ap (λ (p : ℕ). Err (faults.Malformed p)) given.0)

-- ---- one spelling

pub one_spelling : (first second more others : List ℕ) (x y : Event) → SpellsEvent first x → SpellsEvent second y → first ++ more ≡ second ++ others → (first ≡ second) × (x ≡ y)
one_spelling first second more others x y spelled_x spelled_y e =
    let left : event_at (first ++ more) ≡ Some (x, more) = ap (λ (t : List ℕ). event_at (t ++ more)) spelled_x.0 ∙ event_reads.again x more spelled_x.1 in
    let right : event_at (second ++ others) ≡ Some (y, others) = ap (λ (t : List ℕ). event_at (t ++ others)) spelled_y.0 ∙ event_reads.again y others spelled_y.1 in
    let both : (x, more) ≡ (y, others) = some_is (x, more) (y, others) (sym left ∙ ap event_at e ∙ right) in
    let same : x ≡ y = ap (λ (p : Event × List ℕ). p.0) both in
    (spelled_x.0 ∙ ap written_event same ∙ sym spelled_y.0, same)
