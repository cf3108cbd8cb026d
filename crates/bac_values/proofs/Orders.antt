-- The derived orders of identifiers, stations and peers, and the equality of peers, are those of the definitions.
use Rattle.std.proofs.Common.{arith, ◌≡◌, ◌↔◌, ℕ, ◌-◌, Bool, true, false, true≢false, ◌&&◌, IsTrue, List, [], ◌∷◌, ◌++◌, length, replicate, take, refl, sym, ap, ◌∙◌}
use Rattle.std.proofs.lemmas.Bool.{eqb-true}
use Rattle.std.proofs.lemmas.Bool.Decides.{nat_tests}
use Rattle.std.proofs.Math.Seq.{take-append_seam}
use lib.Pointwise.{bytes_decides}
use Rattle.std.specs.Cmp.{both_ways}
use Rattle.std.specs.Cmp.Lexicographic.{slice_cmp}
use Rattle.std.specs.Prelude.{bytes_eq, ◌==◌}
use Rattle.std.specs.Ordering.{nat_cmp, ordering_then}
use Rattle.std.specs.declared.cmp.Ordering.{Ordering}
use Rattle.std.specs.declared.cmp.Ordering.TheVariants.{Less, Equal, Greater}
use Rattle.std.proofs.lemmas.Cmp.{tied_itself, nat_list_cmp_total}
use Rattle.bac_values.specs.Address.{padded, PeerData}
use Rattle.bac_values.specs.Identifier.{ObjectIdData}
use Rattle.bac_values.specs.Orders.{identifier_order, station_order, peer_order, is_same}
use Rattle.bac_values.specs.contracts.object_id.ObjectIdOrd.TheImpl as object_ord
use Rattle.bac_values.specs.contracts.mac.MacOrd.TheImpl as station_ord
use Rattle.bac_values.specs.contracts.mac.MacPartialEq.TheImpl as station_eq
use Rattle.bac_values.specs.contracts.mac.MacEq.TheImpl.Laws as station_eq_laws
use Rattle.bac_values.specs.contracts.peer.PeerOrd.TheImpl as peer_ord
use Rattle.bac_values.specs.contracts.peer.PeerPartialEq.TheImpl as peer_eq
use Rattle.bac_values.specs.contracts.peer.PeerEq.TheImpl.Laws as peer_eq_laws

pub identifiers : (first second : ObjectIdData) → (object_ord.ghosts).cmp first second ≡ identifier_order first second
identifiers first second = refl

-- octets that stand behind both don't count
same_ends : (first second ends : List ℕ) → length first ≡ length second → slice_cmp nat_cmp (first ++ ends) (second ++ ends) ≡ slice_cmp nat_cmp first second
same_ends [] [] ends h = tied_itself nat_list_cmp_total ends
same_ends [] (y ∷ ys) ends h = absurd (omega arith)
same_ends (x ∷ xs) [] ends h = absurd (omega arith)
same_ends (x ∷ xs) (y ∷ ys) ends h =
    let tails : length xs ≡ length ys = omega arith in
    ap (ordering_then (nat_cmp x y)) (same_ends xs ys ends tails)

same_numbers : (m n : ℕ) → nat_cmp m n ≡ Equal → m ≡ n
same_numbers m n h = grind (arith, nat_tests)

same_padding : (first second : List ℕ) → length first ≡ length second → slice_cmp nat_cmp (padded first) (padded second) ≡ slice_cmp nat_cmp first second
same_padding first second size =
    ap (λ n. slice_cmp nat_cmp (padded first) (second ++ replicate (7 - n) 0)) (sym size) ∙ same_ends first second (replicate (7 - length first) 0) size

pub stations : (first second : List ℕ) → (station_ord.ghosts).cmp first second ≡ station_order first second
stations first second = by_size (nat_cmp (length first) (length second)) refl
  where
    by_size : (o : Ordering) → nat_cmp (length first) (length second) ≡ o → ordering_then o (slice_cmp nat_cmp (padded first) (padded second)) ≡ ordering_then o (slice_cmp nat_cmp first second)
    by_size Less e = refl
    by_size Equal e = same_padding first second (same_numbers _ _ e)
    by_size Greater e = refl

pub peers : (first second : PeerData) → (peer_ord.ghosts).cmp first second ≡ peer_order first second
peers first second =
    ap (λ o. ordering_then (nat_cmp first.ip second.ip) (ordering_then (nat_cmp first.port second.port) (ordering_then (nat_cmp first.net second.net) o))) (stations first.mac second.mac)

both : (s t : Bool) → (s && t) ≡ true → (s ≡ true) × (t ≡ true)
both true t h = (refl, h)
both false t h = absurd (true≢false (sym h))

-- octets of the same number with the same padding
padded_same : (first second : List ℕ) → length first ≡ length second → padded first ≡ padded second → first ≡ second
padded_same first second size same =
    sym (take-append_seam first (replicate (7 - length first) 0)) ∙ (ap (take (length first)) same ∙ (ap (λ n. take n (padded second)) size ∙ take-append_seam second (replicate (7 - length second) 0)))

same_stations : (first second : List ℕ) → (station_eq.ghosts).eq first second ≡ bytes_eq first second
same_stations first second = both_ways _ _ in_places in_list
  where
    in_places : (station_eq.ghosts).eq first second ≡ true → bytes_eq first second ≡ true
    in_places h =
        let parts = both _ _ h in
        (bytes_decides first second).1 (padded_same first second (eqb-true _ _ parts.0) ((bytes_decides _ _).0 parts.1))

    in_list : bytes_eq first second ≡ true → (station_eq.ghosts).eq first second ≡ true
    in_list h = ap ((station_eq.ghosts).eq first) (sym ((bytes_decides first second).0 h)) ∙ station_eq_laws.laws-law.refl first

pub compared : (first second : PeerData) → (peer_eq.ghosts).eq first second ≡ is_same first second
compared first second =
    ap (λ b. first.ip == second.ip && (first.port == second.port && (first.net == second.net && b))) (same_stations first.mac second.mac)

fields_are_equal : (first second : PeerData) → is_same first second ≡ true → first ≡ second
fields_are_equal first second h =
    let ip = both _ _ h in
    let port = both _ _ ip.1 in
    let net = both _ _ port.1 in
    let same_ip = eqb-true first.ip second.ip ip.0 in
    let same_port = eqb-true first.port second.port port.0 in
    let same_net = eqb-true first.net second.net net.0 in
    let same_mac = (bytes_decides first.mac second.mac).0 net.1 in
    λ i. record { ip = same_ip i; port = same_port i; net = same_net i; mac = same_mac i }

same_itself : (peer : PeerData) → is_same peer peer ≡ true
same_itself peer = sym (compared peer peer) ∙ peer_eq_laws.laws-law.refl peer

pub one : (first second : PeerData) → IsTrue (is_same first second) ↔ first ≡ second
one first second = (fields_are_equal first second, λ same. ap (is_same first) (sym same) ∙ same_itself first)
