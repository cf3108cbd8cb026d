-- The parameters of AcknowledgeAlarm (ANSI/ASHRAE 135-2020, 13.5 and clause 21, AcknowledgeAlarm-Request).
use Rattle.std.specs.Prelude.{◌≡◌, ◌≢◌, ℕ, zero, suc, ◌<◌, Some, List, [], ◌++◌, length}
use Rattle.bac_values.specs.Identifier.{ObjectIdData}
use Rattle.bac_tags.specs.Contents.{SpellsUnsigned, SpellsEnumerated, SpellsObject}
use Rattle.bac_tags.specs.EnclosingTags.{SpellsEnclosed, SpellsOctets}
use Rattle.event_services.specs.declared.acknowledge.AckRequest.{AckRequest}
use Rattle.event_services.specs.declared.time_stamp.AckStamp.{AckStamp}
use Rattle.event_services.specs.TimeStamps.{SpellsTimeStamp}

-- an acknowledgmentSource: a tag with at least one octet of content
abbrev pub SpellsSource : List ℕ → List ℕ → Type 0
SpellsSource = SpellsOctets 4 1 4294967295

-- a time stamp between the tags of a number
abbrev pub SpellsStampOf : ℕ → List ℕ → AckStamp → Type 0
SpellsStampOf number = SpellsEnclosed number SpellsTimeStamp

-- the six parameters, all of which have to be there, one after the other
pub record SpellsAcknowledgement (octets : List ℕ) (request : AckRequest) : Type 0 where
  pub process : List ℕ
  pub object : List ℕ
  pub state : List ℕ
  pub stamp : List ℕ
  pub source : List ℕ
  pub time : List ℕ
  pub parts : octets ≡ process ++ (object ++ (state ++ (stamp ++ (source ++ time))))
  pub named_process : SpellsUnsigned (Some 0) process request.process
  pub named_object : SpellsObject (Some 1) object request.object
  pub named_state : SpellsEnumerated (Some 2) state request.state
  pub stamped : SpellsStampOf 3 stamp request.stamp
  pub sourced : (by : List ℕ) × SpellsSource source by
  pub timed : (at : AckStamp) × SpellsStampOf 5 time at

-- ---- what isn't a request

-- a parameter by its place in the order
abbrev pub SpellsParameter : ℕ → List ℕ → Type 0
SpellsParameter zero octets = (process : ℕ) × SpellsUnsigned (Some 0) octets process
SpellsParameter (suc zero) octets = (object : ObjectIdData) × SpellsObject (Some 1) octets object
SpellsParameter (suc (suc zero)) octets = (state : ℕ) × SpellsEnumerated (Some 2) octets state
SpellsParameter (suc (suc (suc zero))) octets = (stamp : AckStamp) × SpellsStampOf 3 octets stamp
SpellsParameter (suc (suc (suc (suc zero)))) octets = (source : List ℕ) × SpellsSource octets source
SpellsParameter (suc (suc (suc (suc (suc zero))))) octets = (time : AckStamp) × SpellsStampOf 5 octets time
SpellsParameter (suc (suc (suc (suc (suc (suc n)))))) octets = ⊥

-- so many parameters, from the one with that place in the order on
abbrev pub SpellsParameters : ℕ → ℕ → List ℕ → Type 0
SpellsParameters first zero octets = octets ≡ []
SpellsParameters first (suc n) octets = (front : List ℕ) × (back : List ℕ) × (octets ≡ front ++ back) × SpellsParameter first front × SpellsParameters (suc first) n back

-- the octets are fewer than the six parameters
pub record LacksParameter (octets : List ℕ) : Type 0 where
  pub there : ℕ
  pub few : there < 6
  pub spelled : SpellsParameters 0 there octets

-- the six parameters end at the place, and more follows
pub record HasMore (octets : List ℕ) (place : ℕ) : Type 0 where
  pub front : List ℕ
  pub more : List ℕ
  pub parts : octets ≡ front ++ more
  pub spelled : SpellsParameters 0 6 front
  pub some : more ≢ []
  pub ends : place ≡ length front

-- some of the parameters end at the place, and what follows doesn't begin with the next one
pub record HasInvalidParameter (octets : List ℕ) (place : ℕ) : Type 0 where
  pub there : ℕ
  pub few : there < 6
  pub front : List ℕ
  pub more : List ℕ
  pub parts : octets ≡ front ++ more
  pub spelled : SpellsParameters 0 there front
  pub some : more ≢ []
  pub ends : place ≡ length front
  pub other : (next rest : List ℕ) → more ≡ next ++ rest → ¬ SpellsParameter there next
