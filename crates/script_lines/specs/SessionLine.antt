-- What a line of a session's script says.
use Rattle.std.specs.Prelude.{◌≡◌, ℕ, ◌+◌, ◌*◌, ◌-◌, ◌^◌, ◌<◌, ◌≤◌, ◌==◌, ◌&&◌, nat_le, nat_lt, Option, Some, None, IsSome, option_and_then, List, [], ◌∷◌, length, take, find, if◌then◌else◌, codes}
use Rattle.bac_values.specs.Limits.{most_datagram_octets}
use Rattle.std.specs.List.{before_first, after_first, position_or_len}
use Rattle.std.specs.Option.{option_map}
use Rattle.std.specs.Result.{result_ok}
use Rattle.std.specs.Str.{bytes_eq, is_utf8}
use Rattle.hex.specs.Hex.{decode_of}
use Rattle.bac_values.specs.Address.{PeerData}
use Rattle.bac_values.specs.BitString.{BitsData}
use Rattle.bac_values.specs.Identifier.{kind_of, number_of_kind, known_kinds, ObjectIdData}
use Rattle.bac_values.specs.Moments.{IsMoment}
use Rattle.bac_values.specs.declared.input.Input.{Input}
use Rattle.bac_values.specs.declared.input.Input.TheVariants.{Tick, Pump, Set, Fault, Datagram}
use Rattle.bac_values.specs.declared.object_kind.ObjectKind.{ObjectKind}
use Rattle.bac_values.specs.declared.value.Value.{Value}
use Rattle.bac_values.specs.declared.value.Value.TheVariants.{Unsigned, Signed, Text, Bits, Enumerated}
use Rattle.script_lines.specs.declared.line.Line.{Line}
use Rattle.script_lines.specs.Number.{signed_of, unsigned_of}
use Rattle.script_lines.specs.Report.{kind_name}
use Rattle.script_lines.specs.Words.{first_word, other_words, moment_of}

-- one part and then the next; where one isn't spelled, nothing is
infixl 10 ◌>>=◌
abbrev pub ◌>>=◌ : {A B : Type 0} → Option A → (A → Option B) → Option B
part >>= next = option_and_then next part

-- what stands before the first of these octets, or all of the text
abbrev pub before : ℕ → List ℕ → List ℕ
before octet text = before_first (λ c. c == octet) text

-- what stands behind the first of these octets, or nothing
abbrev pub behind : ℕ → List ℕ → List ℕ
behind octet text = after_first (λ c. c == octet) text

-- a colon is 58, a dot 46
abbrev pub colon : ℕ
colon = 58

abbrev pub dot : ℕ
dot = 46

-- the type of objects with this name
abbrev pub kind_named : List ℕ → Option ObjectKind
kind_named name = find (λ kind. bytes_eq (kind_name kind) name) known_kinds

-- the object KIND:INSTANCE
abbrev pub object_of : List ℕ → Option ObjectIdData
object_of text = do
  kind ← kind_named (before colon text)
  instance ← unsigned_of 4194303 (behind colon text)
  Some (record { number = number_of_kind kind; instance = instance })

-- an object of a type that has a name
pub record IsNamedObject (object : ObjectIdData) : Type 0 where
  pub kind : IsSome (kind_of object.number)
  pub instance : object.instance ≤ 4194303

-- the address A.B.C.D of IPv4, its first octet highest
abbrev pub ip_of : List ℕ → Option ℕ
ip_of text = do
  a ← unsigned_of 255 (before dot text)
  b ← unsigned_of 255 (before dot (behind dot text))
  c ← unsigned_of 255 (before dot (behind dot (behind dot text)))
  d ← unsigned_of 255 (behind dot (behind dot (behind dot text)))
  Some (a * 16777216 + b * 65536 + c * 256 + d)

-- a port of UDP; there is no port 0
abbrev pub port_of : List ℕ → Option ℕ
port_of text = do
  port ← unsigned_of 65535 text
  if port == 0 then None else Some port

-- the peer A.B.C.D:PORT, on the local network
abbrev pub peer_of : List ℕ → Option PeerData
peer_of text = do
  ip ← ip_of (before colon text)
  port ← port_of (behind colon text)
  Some (record { ip = ip; port = port; net = 0; mac = [] })

-- a peer on the local network that has a port
pub record IsNamedPeer (peer : PeerData) : Type 0 where
  pub ip : peer.ip < 2 ^ 32
  pub port : (1 ≤ peer.port) × (peer.port ≤ 65535)
  pub net : peer.net ≡ 0
  pub mac : peer.mac ≡ []

-- a digit of a string of bits: 48 is `0`, 49 is `1`
abbrev pub bit_of : ℕ → Option ℕ
bit_of c = if c == 48 then Some 0 else (if c == 49 then Some 1 else None)

-- the number whose lowest bit is the first digit
abbrev pub bits_number : List ℕ → Option ℕ
bits_number [] = Some 0
bits_number (c ∷ cs) = do
  bit ← bit_of c
  others ← bits_number cs
  Some (bit + 2 * others)

-- a string of at most 64 bits, the first digit bit 0
abbrev pub bits_of : List ℕ → Option BitsData
bits_of digits = if nat_lt 64 (length digits) then None else option_map (λ bits. record { size = length digits; bits = bits }) (bits_number digits)

-- the octets that pairs of hexadecimal digits spell, in either case
abbrev pub octets_of : List ℕ → Option (List ℕ)
octets_of digits = result_ok (decode_of digits)

-- a text of UTF-8, which may be empty, of at most 256 octets
abbrev pub text_from : List ℕ → Option (List ℕ)
text_from octets = if is_utf8 octets && nat_le (length octets) 256 then Some octets else None

abbrev pub text_of : List ℕ → Option (List ℕ)
text_of digits = octets_of digits >>= text_from

-- a datagram, which isn't empty, of at most 1,497 octets
abbrev pub datagram_from : List ℕ → Option (List ℕ)
datagram_from octets = if nat_le 1 (length octets) && nat_le (length octets) most_datagram_octets then Some octets else None

abbrev pub datagram_of : List ℕ → Option (List ℕ)
datagram_of digits = octets_of digits >>= datagram_from

-- a name and the colon behind it
abbrev pub name_of : List ℕ → List ℕ
name_of text = take (position_or_len (λ c. c == colon) text + 1) text

-- the value that is spelled behind a name
abbrev pub value_named : List ℕ → List ℕ → Option Value
value_named name digits =
    if bytes_eq name (codes "signed:") then option_map Signed (signed_of digits) else
    (if bytes_eq name (codes "unsigned:") then option_map Unsigned (unsigned_of (2 ^ 32 - 1) digits) else
    (if bytes_eq name (codes "bits:") then option_map Bits (bits_of digits) else
    (if bytes_eq name (codes "text:") then option_map Text (text_of digits) else None)))

-- a value: a state of a binary value, or a name and what it spells
abbrev pub value_of : List ℕ → Option Value
value_of text =
    if bytes_eq text (codes "active") then Some (Enumerated 1) else
    (if bytes_eq text (codes "inactive") then Some (Enumerated 0) else value_named (name_of text) (behind colon text))

-- a line that has a moment and nothing else, from the words behind the first
unfoldable pub moment_line : Input → ℕ → List ℕ → Option Line
moment_line input number words = do
  m ← moment_of words
  Some (record { number = number; moment = m; input = input })

-- the line `set M KIND:INSTANCE VALUE`
unfoldable pub value_line : ℕ → List ℕ → Option Line
value_line number words = do
  m ← moment_of (first_word words)
  object ← object_of (first_word (other_words words))
  value ← value_of (other_words (other_words words))
  Some (record { number = number; moment = m; input = Set object value })

-- the line `fault M KIND:INSTANCE N`
unfoldable pub fault_line : ℕ → List ℕ → Option Line
fault_line number words = do
  m ← moment_of (first_word words)
  object ← object_of (first_word (other_words words))
  reliability ← unsigned_of (2 ^ 32 - 1) (other_words (other_words words))
  Some (record { number = number; moment = m; input = Fault object reliability })

-- the line `from M A.B.C.D:PORT HEX`
unfoldable pub datagram_line : ℕ → List ℕ → Option Line
datagram_line number words = do
  m ← moment_of (first_word words)
  peer ← peer_of (first_word (other_words words))
  octets ← datagram_of (other_words (other_words words))
  Some (record { number = number; moment = m; input = Datagram peer octets })

-- the line of a session with this number that a text spells
unfoldable pub session_line_of : ℕ → List ℕ → Option Line
session_line_of number text =
    if bytes_eq (first_word text) (codes "tick") then moment_line Tick number (other_words text) else
    (if bytes_eq (first_word text) (codes "pump") then moment_line Pump number (other_words text) else
    (if bytes_eq (first_word text) (codes "set") then value_line number (other_words text) else
    (if bytes_eq (first_word text) (codes "fault") then fault_line number (other_words text) else
    (if bytes_eq (first_word text) (codes "from") then datagram_line number (other_words text) else None))))

-- a datagram that a line can hold
abbrev pub IsDatagram : List ℕ → Type 0
IsDatagram octets = (1 ≤ length octets) × (length octets ≤ most_datagram_octets)

-- what a line of a session can say
abbrev pub IsSessionInput : Input → Type 0
IsSessionInput Tick = Unit {0}
IsSessionInput Pump = Unit {0}
IsSessionInput (Set object value) = Unit {0}
IsSessionInput (Fault object reliability) = Unit {0}
IsSessionInput (Datagram peer octets) = IsDatagram octets

-- a moment in range, and what a line of a session can say
pub record IsSessionLine (line : Line) : Type 0 where
  pub moment : IsMoment line.moment
  pub input : IsSessionInput line.input

-- a value that is a text
abbrev pub IsText : Value → Type 0
IsText (Text octets) = Unit {0}
IsText _ = ⊥

-- an object is set to a text, or a datagram came
abbrev pub BringsOctets : Input → Type 0
BringsOctets (Set object value) = IsText value
BringsOctets (Datagram peer octets) = Unit {0}
BringsOctets Tick = ⊥
BringsOctets Pump = ⊥
BringsOctets (Fault object reliability) = ⊥

abbrev pub IsOfOctets : Line → Type 0
IsOfOctets line = BringsOctets line.input
