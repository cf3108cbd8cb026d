-- A datagram is ignored exactly where it isn't heeded.
use Rattle.std.proofs.Common.{◌≡◌, ◌≢◌, ℕ, ◌+◌, ◌-◌, ◌==◌, ◌&&◌, Bool, true, false, true≢false, if◌then◌else◌, nat_le, Option, Some, None, Result, Ok, Err, List, length, drop, get_or, refl, sym, ap, ◌∙◌, subst}
use Rattle.std.specs.Prelude.{◌⊎◌}
use Rattle.std.proofs.Common.{inl, inr, ◌<◌}
use Rattle.std.proofs.lemmas.List.{get_or-drop}
use Rattle.std.proofs.lemmas.Bool.{cases_Bool, eq-eqb, eqb-true, le-leb, leb-true}
use Rattle.bac_values.specs.Address.{PeerData}
use Rattle.bac_tags.specs.declared.malformed.Malformed.{Malformed}
use Rattle.bac_tags.proofs.ParameterAnswers.{Whole}
use Rattle.bvlc_npdu.specs.Frame.{IsFrame}
use Rattle.bvlc_npdu.specs.ReadingSteps.{frame_at, ◌>>=◌}
use Rattle.bvlc_npdu.specs.declared.reading.Incoming.{Incoming}
use Rattle.bvlc_npdu.proofs.Answering.{is_frame, is_none, is_only}
use Rattle.apdu_frame.specs.Headers.{IsApdu}
use Rattle.apdu_frame.specs.ReadingSteps.{apdu_of}
use Rattle.apdu_frame.specs.declared.apdu.Apdu.{Apdu}
use Rattle.apdu_frame.specs.declared.apdu.Apdu.TheVariants.{Abort, Error, Other, Reject, Request, Segmented, SimpleAck, Unconfirmed}
use Rattle.property_services.specs.ReadingSteps.{who_is_of}
use Rattle.property_services.specs.Refusals.{RefusesWhoIs}
use Rattle.property_services.specs.Requests.{SpellsWhoIs}
use Rattle.property_services.proofs.Limits.{who_is_answers}
use Rattle.outbox.specs.Outboxes.{has_in_flight}
use Rattle.alarm_core.specs.State.{CoreState}
use Rattle.alarm_core.specs.declared.event.Event.{Event}
use Rattle.alarm_core.specs.declared.site.Site.{Site}
use Rattle.service_desk.specs.Decisions.{apdu_decision, incoming_decision, request_decision, unconfirmed_decision}
use Rattle.service_desk.specs.NotificationAnswers.{answer_at, answer_decision, named_answer_decision}
use Rattle.service_desk.specs.WhoIs.{i_am, names_device, who_is_decision}
use Rattle.service_desk.specs.Laws.{HasOneReply}
use Rattle.service_desk.specs.declared.decision.Decision.{Decision}
use Rattle.service_desk.specs.declared.decision.Decision.TheVariants.{Enter, Idle, Ignore, Refuse, Reply}
use Rattle.service_desk.proofs.Answered.{each_answered}
use Rattle.profile_laws.specs.ErrorTables.{AreOctets}
use Rattle.profile_laws.specs.Heeded.{AsksDevice, HasEffect, IgnoresTheRest, IsHeeded, IsHeededApdu, IsWithin}
use Rattle.profile_laws.proofs.Headers.{header_found, header_read}

-- a decision follows what is heeded: it has an effect and that holds, or it is to ignore and that doesn't hold
abbrev Follows : Type 0 → Decision → Type 0
Follows Heeded decision = (Heeded × HasEffect decision) ⊎ ((Heeded → ⊥) × (decision ≡ Ignore))

replied : (decision : Decision) → HasOneReply decision → HasEffect decision
replied (Reply send) h = tt
replied (Enter event reply full) h = tt
replied Ignore h = absurd h
replied Idle h = absurd h
replied (Refuse why) h = absurd h

both : (a b : Bool) → (a && b) ≡ true → (a ≡ true) × (b ≡ true)
both true b e = (refl, e)
both false b e = absurd cc

-- ---- Who-Is

named : (site : Site) (peer : PeerData) (instance : ℕ) (parameters : List ℕ) (read : Result (Option (ℕ × ℕ)) Malformed) → ((limits : Option (ℕ × ℕ)) → read ≡ Ok limits → SpellsWhoIs parameters limits) →
    names_device read instance ≡ true → AsksDevice instance parameters
named site peer instance parameters (Err refusal) found e = absurd (true≢false (sym e))
named site peer instance parameters (Ok None) found e = record { limits = None; spelled = found None refl; within = tt }
named site peer instance parameters (Ok (Some limits)) found e =
    let b = both (nat_le limits.0 instance) (nat_le instance limits.1) e in
    record { limits = Some limits; spelled = found (Some limits) refl; within = (leb-true limits.0 instance b.0, leb-true instance limits.1 b.1) }

both_true : (a b : Bool) → a ≡ true → b ≡ true → (a && b) ≡ true
both_true true b e f = f
both_true false b e f = e

names_within : (instance : ℕ) (limits : Option (ℕ × ℕ)) → IsWithin instance limits → names_device (Ok limits) instance ≡ true
names_within instance None h = refl
names_within instance (Some limits) h = both_true (nat_le limits.0 instance) (nat_le instance limits.1) (le-leb limits.0 instance h.0) (le-leb instance limits.1 h.1)

who_is_follows : (site : Site) (peer : PeerData) (parameters : List ℕ) → AreOctets parameters → Follows (AsksDevice site.device.instance parameters) (who_is_decision site peer parameters)
who_is_follows site peer parameters octets = by (names_device (who_is_of parameters) site.device.instance) refl
  where
    answers : Whole (SpellsWhoIs parameters) (RefusesWhoIs parameters) (who_is_of parameters)
    answers = who_is_answers parameters (λ i. octets i)

    by : (b : Bool) → names_device (who_is_of parameters) site.device.instance ≡ b → Follows (AsksDevice site.device.instance parameters) (if b then Reply (i_am site peer) else Ignore)
    by true e = inl (named site peer site.device.instance parameters (who_is_of parameters) answers.found e, tt)
    by false e =
        inr (
          λ asks. true≢false (sym (ap (λ (read : Result (Option (ℕ × ℕ)) Malformed). names_device read site.device.instance) (answers.only asks.limits asks.spelled) ∙ names_within site.device.instance asks.limits asks.within) ∙ e),
          refl,
        )

unconfirmed_follows : (site : Site) (peer : PeerData) (service : ℕ) (parameters : List ℕ) → AreOctets parameters →
    Follows ((service ≡ 8) × AsksDevice site.device.instance parameters) (unconfirmed_decision site peer service parameters)
unconfirmed_follows site peer service parameters octets = by (service == 8) refl
  where
    asks : service ≡ 8 → Follows (AsksDevice site.device.instance parameters) (who_is_decision site peer parameters) → Follows ((service ≡ 8) × AsksDevice site.device.instance parameters) (who_is_decision site peer parameters)
    asks is (inl h) = inl ((is, h.0), h.1)
    asks is (inr h) = inr (λ both. h.0 both.1, h.1)

    by : (b : Bool) → (service == 8) ≡ b → Follows ((service ≡ 8) × AsksDevice site.device.instance parameters) (if b then who_is_decision site peer parameters else Ignore)
    by true e = asks (eqb-true service 8 e) (who_is_follows site peer parameters octets)
    by false e = inr (λ h. true≢false (sym (eq-eqb service 8 h.0) ∙ e), refl)

-- ---- answers

answer_by : (flying : Bool) (event : Event) → Follows (flying ≡ true) (if flying then Enter event None None else Ignore)
answer_by true event = inl (refl, tt)
answer_by false event = inr (λ h. true≢false (sym h), refl)

answer_follows : (state : CoreState) (moment : ℕ) (peer : PeerData) (invoke kind : ℕ) → Follows (has_in_flight peer invoke state.outbox ≡ true) (answer_decision state moment peer invoke kind)
answer_follows state moment peer invoke kind = answer_by (has_in_flight peer invoke state.outbox) (answer_at moment peer invoke kind)

named_follows : (state : CoreState) (moment : ℕ) (peer : PeerData) (invoke service kind : ℕ) →
    Follows ((service ≡ 2) × (has_in_flight peer invoke state.outbox ≡ true)) (named_answer_decision state moment peer invoke service kind)
named_follows state moment peer invoke service kind = by (service == 2) refl
  where
    answers : service ≡ 2 → Follows (has_in_flight peer invoke state.outbox ≡ true) (answer_decision state moment peer invoke kind) →
        Follows ((service ≡ 2) × (has_in_flight peer invoke state.outbox ≡ true)) (answer_decision state moment peer invoke kind)
    answers is (inl h) = inl ((is, h.0), h.1)
    answers is (inr h) = inr (λ both. h.0 both.1, h.1)

    by : (b : Bool) → (service == 2) ≡ b → Follows ((service ≡ 2) × (has_in_flight peer invoke state.outbox ≡ true)) (if b then answer_decision state moment peer invoke kind else Ignore)
    by true e = answers (eqb-true service 2 e) (answer_follows state moment peer invoke kind)
    by false e = inr (λ h. true≢false (sym (eq-eqb service 2 h.0) ∙ e), refl)

-- ---- an APDU and a datagram

apdu_follows : (state : CoreState) (moment : ℕ) (peer : PeerData) (apdu : List ℕ) (header : Apdu) → ((start : ℕ) → AreOctets (drop start apdu)) → Follows (IsHeededApdu state peer apdu header) (apdu_decision state moment peer apdu header)
apdu_follows state moment peer apdu (Request max_apdu invoke service start) octets =
    inl (tt, replied (apdu_decision state moment peer apdu (Request max_apdu invoke service start)) (each_answered state moment peer apdu (Request max_apdu invoke service start) tt))
apdu_follows state moment peer apdu (Segmented invoke) octets = inl (tt, tt)
apdu_follows state moment peer apdu (Unconfirmed service start) octets = unconfirmed_follows state.site peer service (drop start apdu) (octets start)
apdu_follows state moment peer apdu (SimpleAck invoke service) octets = named_follows state moment peer invoke service 2
apdu_follows state moment peer apdu (Error invoke service) octets = named_follows state moment peer invoke service 5
apdu_follows state moment peer apdu (Reject invoke) octets = answer_follows state moment peer invoke 6
apdu_follows state moment peer apdu (Abort invoke) octets = answer_follows state moment peer invoke 7
apdu_follows state moment peer apdu Other octets = inr (λ h. h, refl)

octets_behind : (octets : List ℕ) (start : ℕ) → AreOctets octets → AreOctets (drop start octets)
octets_behind octets start are = λ i. subst (λ (x : ℕ). x < 256) (sym (get_or-drop start octets i 0)) (are (start + i))

module _ (state : CoreState) (moment : ℕ) (sender : PeerData) (octets : List ℕ) (are : AreOctets octets) where
  -- the APDU that the datagram carries, and its header, are the ones that were read
  carried_follows : (peer : PeerData) (apdu : List ℕ) (decision : Decision) → IsFrame sender octets peer apdu → ((other : PeerData) (others : List ℕ) → IsFrame sender octets other others → (peer ≡ other) × (apdu ≡ others)) →
      Follows (IsHeededApdu state peer apdu (apdu_of apdu)) decision → Follows (IsHeeded state sender octets) decision
  carried_follows peer apdu decision frame only (inl h) =
      let begins = header_found apdu (λ none. subst (λ (header : Apdu). IsHeededApdu state peer apdu header) none h.0) in
      inl (record { peer = peer; apdu = apdu; header = apdu_of apdu; carried = frame; begins = begins; heeded = h.0 }, h.1)
  carried_follows peer apdu decision frame only (inr h) =
      inr (
        λ heeded.
            let same = only heeded.peer heeded.apdu heeded.carried in
            let read = ap apdu_of same.1 ∙ header_read heeded.apdu heeded.header heeded.begins in
            h.0 (subst (λ (header : Apdu). IsHeededApdu state peer apdu header) (sym read)
            (subst (λ (octets : List ℕ). IsHeededApdu state peer octets heeded.header) (sym same.1) (subst (λ (p : PeerData). IsHeededApdu state p heeded.apdu heeded.header) (sym same.0) heeded.heeded))),
        h.1,
      )

  abbrev incoming : PeerData × List ℕ → Incoming
  incoming found = record { peer = found.0; start = length octets - length found.1 }

  frame_follows : (found : Option (PeerData × List ℕ)) → frame_at sender octets ≡ found →
      Follows (IsHeeded state sender octets) (incoming_decision state moment octets (found >>= λ f. Some (incoming f)))
  frame_follows None e = inr (λ heeded. is_none sender octets e heeded.peer heeded.apdu heeded.carried, refl)
  frame_follows (Some (peer, behind)) e =
      let start = length octets - length behind in
      let apdu = drop start octets in
      carried_follows peer apdu (apdu_decision state moment peer apdu (apdu_of apdu)) (is_frame sender octets peer behind (λ i. are i) e) (is_only sender octets peer behind e)
      (apdu_follows state moment peer apdu (apdu_of apdu) (λ n. octets_behind apdu n (octets_behind octets start are)))

  follows : Follows (IsHeeded state sender octets) (incoming_decision state moment octets (frame_at sender octets >>= λ f. Some (incoming f)))
  follows = frame_follows (frame_at sender octets) refl

ignored_by : (Heeded : Type 0) (decision : Decision) → Follows Heeded decision → (Heeded → ⊥) → decision ≡ Ignore
ignored_by Heeded decision (inl h) none = absurd (none h.0)
ignored_by Heeded decision (inr h) none = h.1

effect_by : (Heeded : Type 0) (decision : Decision) → Follows Heeded decision → Heeded → HasEffect decision
effect_by Heeded decision (inl h) heeded = h.1
effect_by Heeded decision (inr h) heeded = absurd (h.0 heeded)

pub ignores_the_rest : IgnoresTheRest
ignores_the_rest = record {
  ignored = λ state moment sender octets are none. ignored_by (IsHeeded state sender octets) _ (follows state moment sender octets are) none;
  heeded = λ state moment sender octets are heeded. effect_by (IsHeeded state sender octets) _ (follows state moment sender octets are) heeded;
}
