-- The table gives one answer.
use Rattle.std.proofs.Common.{◌≡◌, ℕ, ◌^◌, ◌<◌, List, length, Some, None, refl, sym, ap, subst, ◌∙◌, arith}
use Rattle.std.proofs.lemmas.Option.{none-some}
use Rattle.alarm_core.specs.declared.event.Event.{Event}
use Rattle.alarm_core.specs.Following.{AreAllowed, state_over}
use Rattle.alarm_core.specs.Sites.{IsSite}
use Rattle.alarm_core.specs.SiteStates.{IsStateOf}
use Rattle.alarm_core.specs.State.{CoreState}
use Rattle.state_codec.specs.Laws.{BoundsAreLow, OneSnapshot}
use Rattle.state_codec.specs.Sizes.{snapshot_bound}
use Rattle.state_codec.specs.Spelled.{SpellsState}
use Rattle.state_codec.proofs.Behind.{some_is}
use Rattle.standby.specs.Once.{AnswersOnce, SameAnswer}
use Rattle.standby.specs.Packets.{PieceData}
use Rattle.standby.specs.Takes.{Following, IsTriedOn, OfNoPacket, OfPiece, OfRecords, TakesPiece, TakesRecords, following, fresh_events, gathered, gathering_of}
use Rattle.standby.specs.declared.took.Took.{Took}
use Rattle.standby.specs.declared.took.Took.TheVariants.{Malformed, Gap, Repeat, Part, Taken}
use Rattle.standby.proofs.Spelling.{not_both, one_piece, one_records}

same_as : (took other : Took) (old new also : Following) → took ≡ other → new ≡ old → also ≡ old → SameAnswer took other new also
same_as took other old new also is one two = record { took_is = is; new_is = one ∙ sym two }

module _ (one : OneSnapshot) (low : BoundsAreLow) where
  bases : (old : Following) (base other : CoreState) → IsStateOf old.core.site old.core → IsTriedOn old.core base → IsTriedOn old.core other → base ≡ other
  bases old base other own tried also = tried.own own ∙ sym (also.own own)

  records_once : (old : Following) (before : ℕ) (events : List Event) (took other : Took) (new also : Following) → IsStateOf old.core.site old.core → TakesRecords old before events took new → TakesRecords old before events other also → SameAnswer took other new also
  records_once old before events (Gap k) (Gap l) new also own a b = same_as (Gap k) (Gap l) old new also (ap Gap (a.0 ∙ sym b.0)) a.2 b.2
  records_once old before events (Gap k) (Repeat l) new also own a b = absurd (omega (arith, a.0, a.1, b.0, b.1))
  records_once old before events (Gap k) Malformed new also own a b = absurd (omega (arith, a.0, a.1, b.0.0))
  records_once old before events (Gap k) (Taken l) new also own a b = absurd (omega (arith, a.0, a.1, b.0.0))
  records_once old before events (Repeat k) (Gap l) new also own a b = absurd (omega (arith, b.0, b.1, a.0, a.1))
  records_once old before events (Repeat k) (Repeat l) new also own a b = same_as (Repeat k) (Repeat l) old new also (ap Repeat (a.0 ∙ sym b.0)) a.2 b.2
  records_once old before events (Repeat k) Malformed new also own a b = absurd (omega (arith, a.0, a.1, b.0.1))
  records_once old before events (Repeat k) (Taken l) new also own a b = absurd (omega (arith, a.0, a.1, b.0.1))
  records_once old before events Malformed (Gap l) new also own a b = absurd (omega (arith, b.0, b.1, a.0.0))
  records_once old before events Malformed (Repeat l) new also own a b = absurd (omega (arith, b.0, b.1, a.0.1))
  records_once old before events Malformed Malformed new also own a b = same_as Malformed Malformed old new also refl a.2 b.2
  records_once old before events Malformed (Taken l) new also own (goes, (base, tried, refused), same) (goes_too, known, (other, tried_too, allowed, is)) =
      absurd (refused (subst (λ (s : CoreState). AreAllowed s (fresh_events old.core.events before events)) (bases old other base own tried_too tried) allowed))
  records_once old before events (Taken k) (Gap l) new also own a b = absurd (omega (arith, b.0, b.1, a.0.0))
  records_once old before events (Taken k) (Repeat l) new also own a b = absurd (omega (arith, b.0, b.1, a.0.1))
  records_once old before events (Taken k) Malformed new also own (goes_too, known, (other, tried_too, allowed, is)) (goes, (base, tried, refused), same) =
      absurd (refused (subst (λ (s : CoreState). AreAllowed s (fresh_events old.core.events before events)) (bases old other base own tried_too tried) allowed))
  records_once old before events (Taken k) (Taken l) new also own (goes, known, (base, tried, allowed, is)) (goes_too, known_too, (other, tried_too, allowed_too, is_too)) = record {
    took_is = ap Taken (known ∙ sym known_too);
    new_is = is ∙ (ap (λ (s : CoreState). following (state_over s (fresh_events old.core.events before events)) old.gathering) (bases old base other own tried tried_too) ∙ sym is_too);
  }
  records_once old before events (Part k) other new also own a b = absurd a
  records_once old before events took (Part l) new also own a b = absurd b

  octets_once : (old : Following) (piece : PieceData) (x y : List ℕ) → gathered old.gathering piece ≡ Some x → gathered old.gathering piece ≡ Some y → x ≡ y
  octets_once old piece x y e f = some_is x y (sym e ∙ f)

  piece_once : (old : Following) (piece : PieceData) (took other : Took) (new also : Following) → IsSite old.core.site → TakesPiece old piece took new → TakesPiece old piece other also → SameAnswer took other new also
  piece_once old piece (Gap k) (Gap l) new also is_site a b = same_as (Gap k) (Gap l) old new also (ap Gap (a.0 ∙ sym b.0)) a.3 b.3
  piece_once old piece (Gap k) (Repeat l) new also is_site a b = absurd (omega (arith, a.0, a.1, b.0, b.1))
  piece_once old piece (Gap k) (Part l) new also is_site a b = absurd (none-some b.1.0 (sym a.2 ∙ b.1.1))
  piece_once old piece (Gap k) Malformed new also is_site a b = absurd (none-some b.1.0 (sym a.2 ∙ b.1.1))
  piece_once old piece (Gap k) (Taken l) new also is_site a b = absurd (none-some b.2.0 (sym a.2 ∙ b.2.2))
  piece_once old piece (Repeat k) (Gap l) new also is_site a b = absurd (omega (arith, b.0, b.1, a.0, a.1))
  piece_once old piece (Repeat k) (Repeat l) new also is_site a b = same_as (Repeat k) (Repeat l) old new also (ap Repeat (a.0 ∙ sym b.0)) a.2 b.2
  piece_once old piece (Repeat k) (Part l) new also is_site a b = absurd (omega (arith, a.0, a.1, b.0))
  piece_once old piece (Repeat k) Malformed new also is_site a b = absurd (omega (arith, a.0, a.1, b.0))
  piece_once old piece (Repeat k) (Taken l) new also is_site a b = absurd (omega (arith, a.0, a.1, b.0))
  piece_once old piece (Part k) (Gap l) new also is_site a b = absurd (none-some a.1.0 (sym b.2 ∙ a.1.1))
  piece_once old piece (Part k) (Repeat l) new also is_site a b = absurd (omega (arith, b.0, b.1, a.0))
  piece_once old piece (Part k) (Part l) new also is_site (more, (x, gathers, short, place, is)) (more_too, (y, gathers_too, short_too, place_too, is_too)) =
      let same : x ≡ y = octets_once old piece x y gathers gathers_too in
      record { took_is = ap Part (place ∙ (ap (λ (l : List ℕ). length l) same ∙ sym place_too)); new_is = is ∙ (ap (λ (l : List ℕ). following old.core (gathering_of piece l)) same ∙ sym is_too) }
  piece_once old piece (Part k) Malformed new also is_site (more, (x, gathers, short, place, is)) (more_too, (y, gathers_too, whole, none, is_too)) =
      absurd (omega (arith, short, whole, ap (λ (l : List ℕ). length l) (octets_once old piece x y gathers gathers_too)))
  piece_once old piece (Part k) (Taken l) new also is_site (more, (x, gathers, short, place, is)) (more_too, known, (y, state, gathers_too, whole, spells, events, is_too)) =
      absurd (omega (arith, short, whole, ap (λ (l : List ℕ). length l) (octets_once old piece x y gathers gathers_too)))
  piece_once old piece Malformed (Gap l) new also is_site a b = absurd (none-some a.1.0 (sym b.2 ∙ a.1.1))
  piece_once old piece Malformed (Repeat l) new also is_site a b = absurd (omega (arith, b.0, b.1, a.0))
  piece_once old piece Malformed (Part l) new also is_site (more_too, (y, gathers_too, whole, none, is_too)) (more, (x, gathers, short, place, is)) =
      absurd (omega (arith, short, whole, ap (λ (l : List ℕ). length l) (octets_once old piece x y gathers gathers_too)))
  piece_once old piece Malformed Malformed new also is_site (more, (x, gathers, whole, none, is)) (more_too, (y, gathers_too, whole_too, none_too, is_too)) = record { took_is = refl; new_is = is ∙ sym is_too }
  piece_once old piece Malformed (Taken l) new also is_site (more, (x, gathers, whole, none, is)) (more_too, known, (y, state, gathers_too, whole_too, spells, events, is_too)) =
      absurd (none state (subst (λ (l : List ℕ). SpellsState old.core.site l state) (octets_once old piece y x gathers_too gathers) spells) events)
  piece_once old piece (Taken k) (Gap l) new also is_site a b = absurd (none-some a.2.0 (sym b.2 ∙ a.2.2))
  piece_once old piece (Taken k) (Repeat l) new also is_site a b = absurd (omega (arith, b.0, b.1, a.0))
  piece_once old piece (Taken k) (Part l) new also is_site (more_too, known, (y, state, gathers_too, whole, spells, events, is_too)) (more, (x, gathers, short, place, is)) =
      absurd (omega (arith, short, whole, ap (λ (l : List ℕ). length l) (octets_once old piece x y gathers gathers_too)))
  piece_once old piece (Taken k) Malformed new also is_site (more_too, known, (y, state, gathers_too, whole_too, spells, events, is_too)) (more, (x, gathers, whole, none, is)) =
      absurd (none state (subst (λ (l : List ℕ). SpellsState old.core.site l state) (octets_once old piece y x gathers_too gathers) spells) events)
  piece_once old piece (Taken k) (Taken l) new also is_site (more, known, (x, state, gathers, whole, spells, events, is)) (more_too, known_too, (y, other, gathers_too, whole_too, spells_too, events_too, is_too)) =
      let same : state ≡ other = one.state old.core.site x state other is_site spells (subst (λ (l : List ℕ). SpellsState old.core.site l other) (octets_once old piece y x gathers_too gathers) spells_too) in
      record { took_is = ap Taken (known ∙ sym known_too); new_is = is ∙ (ap (λ (s : CoreState). following s None) same ∙ sym is_too) }

  pub answers_once : AnswersOnce
  answers_once old octets took other new also is_site own (OfNoPacket none is same) (OfNoPacket also_none is_too same_too) = same_as took other old new also (is ∙ sym is_too) same same_too
  answers_once old octets took other new also is_site own (OfNoPacket none is same) (OfRecords before events spells takes) = absurd (none.records before events spells)
  answers_once old octets took other new also is_site own (OfNoPacket none is same) (OfPiece piece spells takes) = absurd (none.piece piece spells)
  answers_once old octets took other new also is_site own (OfRecords before events spells takes) (OfNoPacket none is same) = absurd (none.records before events spells)
  answers_once old octets took other new also is_site own (OfRecords before events spells takes) (OfRecords before_too events_too spells_too takes_too) =
      let is = one_records octets before_too before events_too events spells_too spells in
      records_once old before events took other new also own takes (subst (λ (l : List Event). TakesRecords old before l other also) is.events_are (subst (λ (n : ℕ). TakesRecords old n events_too other also) is.before_is takes_too))
  answers_once old octets took other new also is_site own (OfRecords before events spells takes) (OfPiece piece spells_too takes_too) = absurd (not_both (snapshot_bound old.core.site) octets before events piece spells spells_too)
  answers_once old octets took other new also is_site own (OfPiece piece spells takes) (OfNoPacket none is same) = absurd (none.piece piece spells)
  answers_once old octets took other new also is_site own (OfPiece piece spells takes) (OfRecords before events spells_too takes_too) = absurd (not_both (snapshot_bound old.core.site) octets before events piece spells_too spells)
  answers_once old octets took other new also is_site own (OfPiece piece spells takes) (OfPiece piece_too spells_too takes_too) =
      let bound_low : snapshot_bound old.core.site < 2 ^ 32 = omega (arith, low.snapshot old.core.site is_site) in
      let is : piece_too ≡ piece = one_piece (snapshot_bound old.core.site) octets piece_too piece bound_low spells_too spells in
      piece_once old piece took other new also is_site takes (subst (λ (p : PieceData). TakesPiece old p other also) is takes_too)
