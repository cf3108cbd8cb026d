-- A value that a request spells is in its range: no bit of a string is set at or behind its size.
use Rattle.std.proofs.Common.{◌≡◌, ◌⊎◌, ◌<◌, ◌^◌, ℕ, List, [], ◌∷◌, sym, subst, inl, inr}
use Rattle.bac_values.specs.BitString.{BitsData}
use Rattle.bac_values.specs.declared.value.Foreign.TheVariants.{OtherType}
use Rattle.bac_values.specs.declared.value.Value.{Value}
use Rattle.bac_values.specs.declared.value.Value.TheVariants.{Bits, Opaque}
use Rattle.bac_tags.specs.Contents.{IsBits}
use Rattle.bac_tags.specs.Values.{IsValue, SpellsValue}
use Rattle.bac_tags.proofs.Mirror.{mirrored_small}
use Rattle.property_services.specs.declared.requests.WriteRequest.{WriteRequest}
use Rattle.property_services.specs.Requests.{SpellsWriteProperty}

abbrev pub IsSound : Value → Type 0
IsSound (Bits string) = string.bits < 2 ^ string.size
IsSound _ = Unit {0}

sound_bits : (content : List ℕ) (string : BitsData) → IsBits content string → string.bits < 2 ^ string.size
sound_bits [] string h = absurd h
sound_bits (unused ∷ octets) string h = subst (λ (n : ℕ). n < 2 ^ string.size) (sym h.3) (mirrored_small string.size _)

sound_content : (type : ℕ) (content : List ℕ) (value : Value) → IsValue type content value → IsSound value
sound_content type content (Bits string) h = sound_bits content string h.1
sound_content type content _ h = tt

sound_form : (content : List ℕ) (value : Value) → SpellsValue content value ⊎ ((value ≡ Opaque 0 OtherType) × ((other : Value) → ¬ SpellsValue content other)) → IsSound value
sound_form content value (inl (inl truth)) = subst IsSound (sym truth.1) tt
sound_form content value (inl (inr element)) = sound_content element.0 element.1.content value element.1.is
sound_form content value (inr none) = subst IsSound (sym none.0) tt

pub sound_request : (parameters : List ℕ) (request : WriteRequest) → SpellsWriteProperty parameters request → IsSound request.value
sound_request parameters request spelled = sound_form spelled.value.inside request.value spelled.value.spelled.1
