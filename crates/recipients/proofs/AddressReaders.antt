-- An address that is read stands there, and one that stands there is read.
use Rattle.std.proofs.Common.{◌≡◌, ℕ, ◌+◌, ◌^◌, ◌<◌, ◌≤◌, None, List, ◌++◌, length, Result, Ok, Err, refl, sym, ap, subst, ◌∙◌, arith}
use Rattle.std.proofs.lemmas.List.{length-append}
use Rattle.bac_tags.specs.declared.fault.TagFault.{TagFault}
use Rattle.bac_tags.specs.Elements.{SpellsElement}
use Rattle.bac_tags.specs.Contents.{IsOctetString, SpellsOctetString}
use Rattle.bac_tags.specs.ReadingSteps.{◌>>=◌, unsigned_at, octet_string_at}
use Rattle.bac_tags.specs.EnclosingTags.{SpellsEnclosed}
use Rattle.bac_tags.proofs.Steps.{bind_ok, ok_is}
use Rattle.bac_tags.proofs.Standing.{IsBytes, Stands, Stands-then, Stands-front, Stands-back, Stands-within}
use Rattle.bac_tags.proofs.Answered.{Spelled}
use Rattle.bac_tags.proofs.ElementReaders.{Reader, spelled_to, enclosed_reader}
use Rattle.bac_tags.proofs.LongReaders.{IsShort, short_is, octet_string_reader, number_reader}
use Rattle.recipients.specs.Recipients.{AddressData, SpellsAddress}
use Rattle.recipients.specs.RecipientSteps.{address_at, enclosed_address_at}

-- an address whose station is short enough for a tag
pub record SpellsShort (octets : List ℕ) (address : AddressData) : Type 0 where
  pub spelled : SpellsAddress octets address
  pub short : length address.station < 2 ^ 32

abbrev made : ℕ → List ℕ → AddressData
made network station = record { network = network; station = station }

abbrev after_station : ℕ → List ℕ × ℕ → Result (AddressData × ℕ) TagFault
after_station network station = Ok (made network station.0, station.1)

abbrev after_network : List ℕ → ℕ × ℕ → Result (AddressData × ℕ) TagFault
after_network input network = octet_string_at input network.1 >>= after_station network.0

abbrev SpellsStation : List ℕ → List ℕ → Type 0
SpellsStation = SpellsElement 6 None (IsShort IsOctetString)

as_station : (octets station : List ℕ) → SpellsOctetString octets station → length station < 2 ^ 32 → SpellsStation octets station
as_station octets station s short =
    record { header = s.header; content = s.content; parts = s.parts; tagged = s.tagged; is = record { short = subst (λ (o : List ℕ). length o < 2 ^ 32) s.is short; is = s.is } }

of_station : (octets station : List ℕ) → SpellsStation octets station → SpellsOctetString octets station
of_station octets station s = record { header = s.header; content = s.content; parts = s.parts; tagged = s.tagged; is = s.is.is }

station_short : (octets station : List ℕ) → SpellsStation octets station → length station < 2 ^ 32
station_short octets station s = subst (λ (o : List ℕ). length o < 2 ^ 32) (sym s.is.is) s.is.short

address_found : (input : List ℕ) (place : ℕ) (x : AddressData × ℕ) → IsBytes input → place ≤ length input → address_at input place ≡ Ok x → Spelled SpellsShort input place x.0 x.1
unfolding address_at
address_found input place x bytes le e =
    let a = bind_ok (unsigned_at input place None) (after_network input) x e in
    let network = number_reader.found input place a.0 bytes le a.1 in
    let within = Stands-within input place network.octets a.0.1 le network.stands in
    let b = bind_ok (octet_string_at input a.0.1) (after_station a.0.0) x a.2 in
    let station = octet_string_reader.found input a.0.1 b.0 bytes within b.1 in
    subst (λ (y : AddressData × ℕ). Spelled SpellsShort input place y.0 y.1) (ok_is (made a.0.0 b.0.0, b.0.1) x b.2) (record {
      octets = network.octets ++ station.octets;
      stands = Stands-then input place network.octets a.0.1 station.octets b.0.1 network.stands station.stands;
      spells = record {
        spelled = record { network_octets = network.octets; station_octets = station.octets; parts = refl; network = network.spells; station = of_station station.octets b.0.0 station.spells };
        short = station_short station.octets b.0.0 station.spells;
      };
    })

address_again : (input : List ℕ) (place : ℕ) (octets : List ℕ) (x : AddressData) (end : ℕ) → place ≤ length input → SpellsShort octets x → Stands input place octets end → address_at input place ≡ Ok (x, end)
unfolding address_at
address_again input place octets x end le s p =
    let parts : Stands input place (s.spelled.network_octets ++ s.spelled.station_octets) end = subst (λ (o : List ℕ). Stands input place o end) s.spelled.parts p in
    let front = Stands-front input place s.spelled.network_octets s.spelled.station_octets end parts in
    let back = Stands-back input place s.spelled.network_octets s.spelled.station_octets end parts in
    let start = place + length s.spelled.network_octets in
    let within = Stands-within input place s.spelled.network_octets start le front in
    let network = number_reader.again input place s.spelled.network_octets x.network start le s.spelled.network front in
    let station = octet_string_reader.again input start s.spelled.station_octets x.station end within (as_station s.spelled.station_octets x.station s.spelled.station s.short) back in
    rw (network, station) refl

pub address_some : (octets : List ℕ) (x : AddressData) → SpellsAddress octets x → 1 ≤ length octets
address_some octets x s = omega (arith, ap length s.parts, length-append s.network_octets s.station_octets, number_reader.some s.network_octets x.network s.network)

address_reader : Reader SpellsShort address_at
address_reader = record {
  found = λ input place x bytes le e. address_found input place x bytes le e;
  again = λ input place octets x end le s p. address_again input place octets x end le s p;
  some = λ octets x s. address_some octets x s.spelled;
}

pub enclosed_address_reader : Reader (SpellsEnclosed 1 SpellsShort) enclosed_address_at
unfolding enclosed_address_at
enclosed_address_reader = enclosed_reader SpellsShort address_at 1 address_reader

-- ---- among octets every station is short

pub of_short : (octets : List ℕ) (x : AddressData) → SpellsEnclosed 1 SpellsShort octets x → SpellsEnclosed 1 SpellsAddress octets x
of_short octets x s = record { front = s.front; inside = s.inside; back = s.back; parts = s.parts; opened = s.opened; spelled = s.spelled.spelled; closed = s.closed }

pub as_short : (input : List ℕ) (place : ℕ) (octets : List ℕ) (x : AddressData) (end : ℕ) → IsBytes input → SpellsEnclosed 1 SpellsAddress octets x → Stands input place octets end → SpellsEnclosed 1 SpellsShort octets x
as_short input place octets x end bytes s p =
    let parts : Stands input place (s.front ++ (s.inside ++ s.back)) end = subst (λ (o : List ℕ). Stands input place o end) s.parts p in
    let later = Stands-back input place s.front (s.inside ++ s.back) end parts in
    let start = place + length s.front in
    let inside = Stands-front input start s.inside s.back end later in
    let stop = start + length s.inside in
    let inner : Stands input start (s.spelled.network_octets ++ s.spelled.station_octets) stop = subst (λ (o : List ℕ). Stands input start o stop) s.spelled.parts inside in
    let station = Stands-back input start s.spelled.network_octets s.spelled.station_octets stop inner in
    let spelled : Spelled SpellsOctetString input (start + length s.spelled.network_octets) x.station stop = record { octets = s.spelled.station_octets; stands = station; spells = s.spelled.station } in
    let short = short_is 6 None IsOctetString input (start + length s.spelled.network_octets) x.station stop bytes (spelled_to SpellsOctetString input (start + length s.spelled.network_octets) x.station stop spelled) in
    record { front = s.front; inside = s.inside; back = s.back; parts = s.parts; opened = s.opened; spelled = record { spelled = s.spelled; short = station_short short.octets x.station short.spelled }; closed = s.closed }
