-- Elements between the tags of a number: what is read stands there, and what stands there is read.
use Rattle.std.proofs.Common.{◌≡◌, ℕ, suc, ◌+◌, ◌-◌, ◌<◌, ◌≤◌, Some, List, ◌++◌, length, drop, take, Result, Ok, Err, refl, sym, ap, subst, ◌∙◌, arith}
use Rattle.std.specs.Prelude.{slice_range, ok_or, IfOk}
use Rattle.std.proofs.lemmas.List.{length-append, length-drop, take_at}
use Rattle.bac_tags.specs.declared.fault.TagFault.{TagFault}
use Rattle.bac_tags.specs.declared.fault.TagFault.TheVariants.{BadLength}
use Rattle.bac_tags.specs.Places.{IsSpelledAt}
use Rattle.bac_tags.specs.ReadingSteps.{◌>>=◌}
use Rattle.bac_tags.proofs.Standing.{IsBytes, Stands, Stands-from, Stands-then, Stands-front, Stands-back, Stands-within}
use Rattle.bac_tags.proofs.Steps.{bind_ok, ok_is}
use Rattle.bac_tags.proofs.ElementLaws.{some_ok}
use Rattle.bac_tags.specs.EnclosingTags.{opening, SpellsOnly, SpellsEnclosed}
use Rattle.bac_tags.specs.EnclosingSteps.{opening_at}
use Rattle.bac_tags.specs.Balanced.{SpellsElements}
use Rattle.bac_tags.specs.BalancedSteps.{elements_end, elements_at}
use Rattle.bac_tags.proofs.TagReaders.{reads_opening}
use Rattle.bac_tags.proofs.Balance.{closes_found, closes_again}

-- the octets from where they begin to where they end
pub range_is : (input : List ℕ) (place : ℕ) (octets : List ℕ) (end : ℕ) → Stands input place octets end → slice_range input place end ≡ octets
range_is input place octets end p =
    let size : end - place ≡ length octets = omega (arith, p.ends) in
    ap (λ (n : ℕ). take n (drop place input)) size ∙ ap (take (length octets)) p.parts ∙ take_at octets (drop end input) (length octets) refl

if_ok : {X E : Type 0} (P : X → Type 0) (r : Result X E) (x : X) → IfOk r P → r ≡ Ok x → P x
if_ok P (Ok y) x h e = let same : y ≡ x = cc in subst P same h
if_ok P (Err d) x h e = absurd cc

opening_found : (input : List ℕ) (place number start : ℕ) → IsBytes input → opening_at input place number ≡ Ok start → IsSpelledAt (SpellsOnly (opening number)) input place tt start
opening_found input place number start bytes e =
    let r = reads_opening number input place (opening_at input place number) bytes refl in
    if_ok (λ n. IsSpelledAt (SpellsOnly (opening number)) input place tt n) (opening_at input place number) start r.found e

abbrev closing_of : ℕ → ℕ × ℕ → Result ((ℕ × ℕ) × ℕ) TagFault
closing_of start closes = Ok ((start, closes.0), closes.1)

abbrev after_opening : List ℕ → ℕ → ℕ → ℕ → Result ((ℕ × ℕ) × ℕ) TagFault
after_opening input place number start = ok_or (elements_end input start number) (BadLength place) >>= closing_of start

pub elements_found : (input : List ℕ) (place number : ℕ) (x : (ℕ × ℕ) × ℕ) → IsBytes input → place ≤ length input → elements_at input place number ≡ Ok x → IsSpelledAt (SpellsEnclosed number SpellsElements) input place (slice_range input x.0.0 x.0.1) x.1
unfolding elements_at
elements_found input place number x bytes le e =
    let a = bind_ok (opening_at input place number) (after_opening input place number) x e in
    let open_tag = opening_found input place number a.0 bytes a.1 in
    let front : Stands input place open_tag.octets a.0 = subst (λ (n : ℕ). Stands input place open_tag.octets n) (sym open_tag.ends) (Stands-from input place open_tag.octets open_tag.rest open_tag.there) in
    let within = Stands-within input place open_tag.octets a.0 le front in
    let b = bind_ok (ok_or (elements_end input a.0 number) (BadLength place)) (closing_of a.0) x a.2 in
    let c = closes_found (suc (length input)) input a.0 number b.0 bytes within (some_ok (elements_end input a.0 number) (BadLength place) b.0 b.1) in
    let all = Stands-then input place open_tag.octets a.0 (c.inside ++ c.back) b.0.1 front (Stands-then input a.0 c.inside b.0.0 c.back b.0.1 c.stands c.behind) in
    let same : ((a.0, b.0.0), b.0.1) ≡ x = ok_is ((a.0, b.0.0), b.0.1) x b.2 in
    subst (λ (y : (ℕ × ℕ) × ℕ). IsSpelledAt (SpellsEnclosed number SpellsElements) input place (slice_range input y.0.0 y.0.1) y.1) same (record {
      octets = open_tag.octets ++ (c.inside ++ c.back);
      rest = drop b.0.1 input;
      spelled = record { front = open_tag.octets; inside = c.inside; back = c.back; parts = refl; opened = open_tag.spelled; spelled = (range_is input a.0 c.inside b.0.0 c.stands, c.elements); closed = c.closed };
      there = all.parts;
      ends = all.ends;
    })

-- where elements stand that are spelled between tags
pub record Enclosed (number : ℕ) (input : List ℕ) (place : ℕ) (elements : List ℕ) (end : ℕ) : Type 0 where
  pub start : ℕ
  pub stop : ℕ
  pub read : elements_at input place number ≡ Ok ((start, stop), end)
  pub range : slice_range input start stop ≡ elements

pub elements_again : (input : List ℕ) (place number : ℕ) (elements : List ℕ) (end : ℕ) → IsBytes input → place ≤ length input → IsSpelledAt (SpellsEnclosed number SpellsElements) input place elements end → Enclosed number input place elements end
unfolding elements_at
elements_again input place number elements end bytes le s =
    let e = s.spelled in
    let all : Stands input place s.octets end = subst (λ (n : ℕ). Stands input place s.octets n) (sym s.ends) (Stands-from input place s.octets s.rest s.there) in
    let parts : Stands input place (e.front ++ (e.inside ++ e.back)) end = subst (λ (o : List ℕ). Stands input place o end) e.parts all in
    let first = Stands-front input place e.front (e.inside ++ e.back) end parts in
    let later = Stands-back input place e.front (e.inside ++ e.back) end parts in
    let start = place + length e.front in
    let within = Stands-within input place e.front start le first in
    let inside = Stands-front input start e.inside e.back end later in
    let back = Stands-back input start e.inside e.back end later in
    let stop = start + length e.inside in
    let opens : opening_at input place number ≡ Ok start = (reads_opening number input place (opening_at input place number) bytes refl).only start (record { octets = e.front; rest = drop start input; spelled = e.opened; there = first.parts; ends = first.ends }) in
    let few : length e.inside < suc (length input) = omega (arith, within, inside.ends, ap length inside.parts, length-drop start input, length-append e.inside (drop stop input)) in
    let closes : elements_end input start number ≡ Some (stop, end) = closes_again input e.spelled.1 (suc (length input)) start number e.back stop end bytes within inside back e.closed few in
    record {
      start = start;
      stop = stop;
      read = rw (opens, closes) refl;
      range = range_is input start e.inside stop inside ∙ sym e.spelled.0;
    }
