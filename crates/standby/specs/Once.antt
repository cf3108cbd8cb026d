-- A packet says one thing, and the table gives one answer to it.
use Rattle.std.specs.Prelude.{◌≡◌, ◌^◌, ◌<◌, List, Option, ℕ}
use Rattle.alarm_core.specs.declared.event.Event.{Event}
use Rattle.alarm_core.specs.Sites.{IsSite}
use Rattle.alarm_core.specs.SiteStates.{IsStateOf}
use Rattle.alarm_core.specs.State.{CoreState}
use Rattle.standby.specs.Packets.{PieceData, SpellsPiece, SpellsRecords}
use Rattle.standby.specs.Takes.{Following, Gathering, Takes, following}
use Rattle.standby.specs.declared.took.Took.{Took}

-- Octets are the packet of one list of events behind one number of others, or of one piece, and never of both; and each of these has one packet. A piece counts the octets of the whole in 32 bits.
pub record OnePacket : Type 0 where
  pub before : (octets : List ℕ) (before other : ℕ) (events others : List Event) → SpellsRecords octets before events → SpellsRecords octets other others → before ≡ other
  pub events : (octets : List ℕ) (before other : ℕ) (events others : List Event) → SpellsRecords octets before events → SpellsRecords octets other others → events ≡ others
  pub piece : (bound : ℕ) (octets : List ℕ) (piece other : PieceData) → bound < 2 ^ 32 → SpellsPiece bound octets piece → SpellsPiece bound octets other → piece ≡ other
  pub never_both : (bound : ℕ) (octets : List ℕ) (before : ℕ) (events : List Event) (piece : PieceData) → SpellsRecords octets before events → ¬ SpellsPiece bound octets piece
  pub records_octets : (first second : List ℕ) (before : ℕ) (events : List Event) → SpellsRecords first before events → SpellsRecords second before events → first ≡ second
  pub piece_octets : (bound : ℕ) (first second : List ℕ) (piece : PieceData) → SpellsPiece bound first piece → SpellsPiece bound second piece → first ≡ second

-- to each packet a follower whose state is one that its site may have has one answer, and one way to go on
pub record SameAnswer (took other : Took) (new also : Following) : Type 0 where
  pub took_is : took ≡ other
  pub new_is : new ≡ also

-- whatever it gathers, a follower with this core has one
abbrev pub IsAnsweredOnce : CoreState → Type 0
IsAnsweredOnce core =
    (gathering : Option Gathering) (octets : List ℕ) (took other : Took) (new also : Following)
    → Takes (following core gathering) octets took new → Takes (following core gathering) octets other also → SameAnswer took other new also

abbrev pub AnswersOnce : Type 0
AnswersOnce =
    (old : Following) (octets : List ℕ) (took other : Took) (new also : Following) → IsSite old.core.site → IsStateOf old.core.site old.core
    → Takes old octets took new → Takes old octets other also → SameAnswer took other new also
