-- What is written of a journal sends nothing.
use Rattle.std.proofs.Common.{◌≡◌, ℕ, Option, Some, None, List, [], refl, ap, ◌∙◌, inl, inr}
use Rattle.ground_io.specs.declared.entry.Entry.{Entry}
use Rattle.ground_io.specs.Sent.{emissions}
use Rattle.ground_io.specs.Trace.{Told, Adds}
use Rattle.ground_io.proofs.Crashes.{adds_none}
use Rattle.alarm_journal.specs.Protocol.{AddsSome, IsCutShort, IsTwoCutShort, two_writes}
use Rattle.state_codec.specs.Emission.{Emits}

pub written_quietly : (first : ℕ) (body : List ℕ) (second : ℕ) (gate : List ℕ) (old new : Option Told) → Adds old new (two_writes first body second gate) → Emits old new []
written_quietly first body second gate old new adds = (two_writes first body second gate, adds, refl)

cut_sends_nothing : (place : ℕ) (octets : List ℕ) (entries : List Entry) → IsCutShort place octets entries → emissions entries ≡ []
cut_sends_nothing place octets entries (inl wrote) = ap emissions wrote
cut_sends_nothing place octets entries (inr (left, size, broke)) = ap emissions broke

both_send_nothing : (first : ℕ) (body : List ℕ) (second : ℕ) (gate : List ℕ) (entries : List Entry) → IsTwoCutShort first body second gate entries → emissions entries ≡ []
both_send_nothing first body second gate entries (inl cut) = cut_sends_nothing first body entries cut
both_send_nothing first body second gate entries (inr (more, cut, same)) = ap emissions same ∙ cut_sends_nothing second gate more cut

pub cut_quietly : (first : ℕ) (body : List ℕ) (second : ℕ) (gate : List ℕ) (old new : Option Told) → AddsSome (IsTwoCutShort first body second gate) old new → Emits old new []
cut_quietly first body second gate old None some = ([], tt, refl)
cut_quietly first body second gate None (Some new) some = absurd some
cut_quietly first body second gate (Some old) (Some new) (entries, cut, adds) = (entries, adds, both_send_nothing first body second gate entries cut)

-- nothing was done
pub nothing_sent : (told : Option Told) → Emits told told []
nothing_sent told = ([], adds_none told, refl)
