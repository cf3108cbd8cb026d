-- What a line of a script of packets says.
use Rattle.std.specs.Prelude.{ℕ, nat_le, Option, Some, None, List, length, if◌then◌else◌, codes}
use Rattle.std.specs.Option.{option_map}
use Rattle.std.specs.Str.{bytes_eq}
use Rattle.script_lines.specs.declared.line.Says.{Says}
use Rattle.script_lines.specs.declared.packet_line.PacketLine.{PacketLine}
use Rattle.script_lines.specs.Line.{says_by}
use Rattle.script_lines.specs.SessionLine.{◌>>=◌, octets_of}
use Rattle.script_lines.specs.Words.{first_word, other_words}

-- the octets that pairs of hexadecimal digits spell, in either case, of which there is at least one
abbrev pub packet_of : List ℕ → Option (List ℕ)
packet_of digits = do
  octets ← octets_of digits
  if nat_le 1 (length octets) then Some octets else None

-- the line `packet HEX` with this number
unfoldable pub packet_line : ℕ → List ℕ → Option PacketLine
packet_line number text =
    if bytes_eq (first_word text) (codes "packet") then option_map (λ octets. record { number = number; packet = octets }) (packet_of (other_words text)) else None

-- what the octets of the line with this number say of a script of packets
abbrev pub packet_says : ℕ → List ℕ → Says PacketLine
packet_says number text = says_by packet_line number text
