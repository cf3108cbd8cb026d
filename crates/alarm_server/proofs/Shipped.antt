-- The loop that ships all that a leader offers: what is left is offered behind what went out.
use Rattle.std.proofs.Common.{◌≡◌, ℕ, ◌+◌, ◌<◌, ◌≤◌, Option, Some, None, Result, List, [], ◌∷◌, ◌++◌, length, map, refl, ap, ◌∙◌, sym, subst, arith, append_assoc}
use Rattle.std.proofs.lemmas.List.{append-nil, length-append, map-append}
use Rattle.std.proofs.lemmas.Option.{none-some}
use Rattle.bac_values.specs.declared.report.ReportLine.{ReportLine}
use Rattle.bac_values.specs.declared.report.ReportLine.TheVariants as say
use Rattle.ground_io.specs.Trace.{Told, Adds}
use Rattle.script_lines.specs.Report.{report_text}
use Rattle.standby.specs.Offers.{LeaderState, NextPiece, NextRecords, NothingMore, OffersNext, left_of, piece_from, records_packet}
use Rattle.standby.specs.Packets.{written_piece}
use Rattle.standby.specs.Reaches.{HasPackets, OffersAll}
use Rattle.alarm_server.specs.declared.emission.Unsent.{Unsent}
use Rattle.alarm_server.specs.declared.emission.Unsent.TheVariants.{NoMemory}
use Rattle.alarm_server.specs.Emission.{Sends, SendsUpTo, sent}
use Rattle.alarm_server.specs.Shipping.{ship_report}
use Rattle.alarm_server.proofs.Sending.{adds, front_more, front_then, sends_then, sent_then}

-- the lines of some packets
abbrev packet_line : List ℕ → ReportLine
packet_line packet = say.Packet packet

-- Some packets went out, as many as are counted, and behind them is offered what is left.
pub record IsShipping (begun now : LeaderState) (count : ℕ) (old new : Option Told) : Type 0 where
  pub done : List (List ℕ)
  pub behind : (rest : List (List ℕ)) → OffersAll now rest → OffersAll begun (done ++ rest)
  pub many : count ≡ length done
  pub went : Adds old new (sent report_text (map packet_line done))
  pub has : HasPackets now
  pub left : count + left_of now ≤ left_of begun

pub none_shipped : (leader : LeaderState) (told : Option Told) → HasPackets leader → IsShipping leader leader 0 told told
none_shipped leader told has = record { done = []; behind = λ rest all. all; many = refl; went = adds.nothing told; has = has; left = omega arith }

-- where nothing more is offered the leader stays as it is
ends_here : (now next : LeaderState) → OffersNext now None next → OffersAll now []
ends_here now next (NextPiece place is packet_is new_is) = absurd (none-some (written_piece (piece_from now place)) packet_is)
ends_here now next (NextRecords count is fit packet_is new_is) = absurd (none-some (records_packet now count) packet_is)
ends_here now next (NothingMore is all packet_is new_is) = NothingMore is all refl refl

-- the lines of some packets, and of those behind them
split_report : (done rest : List (List ℕ)) (events : ℕ) → ship_report (done ++ rest) events ≡ map packet_line done ++ (map packet_line rest ++ say.ShipEnd (length (done ++ rest)) events ∷ [])
split_report done rest events =
    let last : List ReportLine = say.ShipEnd (length (done ++ rest)) events ∷ [] in
    ap (λ (l : List ReportLine). l ++ last) (map-append packet_line done rest) ∙ append_assoc (map packet_line done) (map packet_line rest) last

module _ (begun now : LeaderState) (count : ℕ) (old mid : Option Told) (it : IsShipping begun now count old mid) where
  -- one more went out
  pub shipped_on : (next : LeaderState) (packet : List ℕ) (new : Option Told) → OffersNext now (Some packet) next → HasPackets next → left_of next < left_of now → Adds mid new (sent report_text (packet_line packet ∷ []))
      → IsShipping begun next (count + 1) old new
  shipped_on next packet new offers has fewer goes = record {
    done = it.done ++ packet ∷ [];
    behind = λ rest all. subst (λ (ps : List (List ℕ)). OffersAll begun ps) (sym (append_assoc it.done (packet ∷ []) rest)) (it.behind (packet ∷ rest) (next, offers, all));
    many = omega (arith, it.many, length-append it.done (packet ∷ []));
    went = subst (λ (ls : List ReportLine). Adds old new (sent report_text ls)) (sym (map-append packet_line it.done (packet ∷ [])))
        (sent_then Adds adds report_text old mid new (map packet_line it.done) (packet_line packet ∷ []) it.went goes);
    has = has;
    left = omega (arith, it.left, fewer);
  }

  -- where the leader offers all of these in turn, they are those that went out, and those that are left
  all_are : (packets rest : List (List ℕ)) → HasPackets begun → OffersAll begun packets → OffersAll now rest → packets ≡ it.done ++ rest
  all_are packets rest has all left = has.only packets all ∙ sym (has.only (it.done ++ rest) (it.behind rest left))

  -- all went out, and then the last line, or it didn't
  pub shipped_all : {A : Type 0} (result : Result A Unsent) (next : LeaderState) (events : ℕ) (new : Option Told) → HasPackets begun → OffersNext now None next → Sends Adds report_text result (say.ShipEnd count events ∷ []) mid new
      → (packets : List (List ℕ)) → OffersAll begun packets → Sends Adds report_text result (ship_report packets events) old new
  shipped_all result next events new has offers goes packets all =
      let same : packets ≡ it.done = all_are packets [] has all (ends_here now next offers) ∙ append-nil it.done in
      let last : Sends Adds report_text result (say.ShipEnd (length it.done) events ∷ []) mid new = subst (λ (n : ℕ). Sends Adds report_text result (say.ShipEnd n events ∷ []) mid new) it.many goes in
      subst (λ (ps : List (List ℕ)). Sends Adds report_text result (ship_report ps events) old new) (sym same)
      (sends_then Adds adds report_text result old mid new (map packet_line it.done) (say.ShipEnd (length it.done) events ∷ []) it.went last)

  -- a packet didn't go out
  pub not_shipped : (fault : Unsent) (next : LeaderState) (packet : List ℕ) (events : ℕ) (new : Option Told) → HasPackets begun → HasPackets next → OffersNext now (Some packet) next
      → SendsUpTo Adds report_text fault (packet_line packet ∷ []) mid new → (packets : List (List ℕ)) → OffersAll begun packets → SendsUpTo Adds report_text fault (ship_report packets events) old new
  not_shipped fault next packet events new has has_next offers goes packets all =
      let rest : List (List ℕ) = packet ∷ has_next.packets in
      let same : packets ≡ it.done ++ rest = all_are packets rest has all (next, offers, has_next.all) in
      let more : List ReportLine = map packet_line has_next.packets ++ say.ShipEnd (length (it.done ++ rest)) events ∷ [] in
      subst (λ (ls : List ReportLine). SendsUpTo Adds report_text fault ls old new) (sym (ap (λ (ps : List (List ℕ)). ship_report ps events) same ∙ split_report it.done rest events))
      (front_then Adds adds report_text fault old mid new (map packet_line it.done) (packet_line packet ∷ more) it.went (front_more Adds report_text fault mid new (packet_line packet ∷ []) more goes))

  -- there was no memory for the next one
  pub no_packet : (events : ℕ) → HasPackets begun → (packets : List (List ℕ)) → OffersAll begun packets → SendsUpTo Adds report_text NoMemory (ship_report packets events) old mid
  no_packet events has packets all =
      let rest : List (List ℕ) = it.has.packets in
      let same : packets ≡ it.done ++ rest = all_are packets rest has all it.has.all in (
        map packet_line it.done,
        map packet_line rest ++ say.ShipEnd (length (it.done ++ rest)) events ∷ [],
        ap (λ (ps : List (List ℕ)). ship_report ps events) same ∙ split_report it.done rest events,
        it.went,
      )
