-- A recipient that is read stands there, and one that stands there is read.
use Rattle.std.proofs.Common.{◌≡◌, ◌≢◌, ℕ, ◌≤◌, Some, List, ◌++◌, length, drop, Result, Ok, Err, refl, sym, ap, subst, ◌∙◌, append_assoc, arith}
use Rattle.std.specs.Prelude.{◌↔◌, IfOk, IsErr, IsOkAnd}
use Rattle.bac_values.specs.Identifier.{ObjectIdData}
use Rattle.bac_tags.specs.declared.fault.TagFault.{TagFault}
use Rattle.bac_tags.specs.declared.fault.TagFault.TheVariants.{Truncated, WrongTag, BadLength, NoMemory}
use Rattle.bac_tags.specs.declared.tag.Tag.{Tag}
use Rattle.bac_tags.specs.Places.{IsSpelledAt}
use Rattle.bac_tags.specs.Parameters.{IsThere}
use Rattle.bac_tags.specs.Elements.{element_tag, HasOtherTag}
use Rattle.bac_tags.specs.Contents.{SpellsObject}
use Rattle.bac_tags.specs.EnclosingTags.{opening, SpellsEnclosed}
use Rattle.bac_tags.specs.ReadingSteps.{◌>>=◌, Gives, object_at, content_at}
use Rattle.bac_tags.proofs.Steps.{bind_ok, ok_is}
use Rattle.bac_tags.proofs.Standing.{IsBytes, Stands}
use Rattle.bac_tags.proofs.Answered.{Spelled}
use Rattle.bac_tags.proofs.ElementLaws.{header_other}
use Rattle.bac_tags.proofs.ElementReaders.{object_reader, spelled_from, spelled_to}
use Rattle.recipients.specs.declared.recipient.Recipient.{Recipient}
use Rattle.recipients.specs.Recipients.{AddressData, SpellsAddress, RecipientData, OfDevice, OfAddress, SpellsRecipient, recipient_in}
use Rattle.recipients.specs.RecipientSteps.{enclosed_address_at, or_address, recipient_at}
use Rattle.recipients.proofs.AddressReaders.{SpellsShort, enclosed_address_reader, of_short, as_short}

-- a recipient whose station is short enough for a tag
abbrev pub SpellsShortRecipient : List ℕ → RecipientData → Type 0
SpellsShortRecipient octets (OfDevice object) = SpellsObject (Some 0) octets object
SpellsShortRecipient octets (OfAddress address) = SpellsEnclosed 1 SpellsShort octets address

abbrev as_address : AddressData × ℕ → Result (RecipientData × ℕ) TagFault
as_address x = Ok (OfAddress x.0, x.1)

abbrev pair : RecipientData → ℕ → RecipientData × ℕ
pair recipient end = (recipient, end)

found_by : (input : List ℕ) (place : ℕ) (x : RecipientData × ℕ) (device : Result (ObjectIdData × ℕ) TagFault) → IsBytes input → place ≤ length input → object_at input place (Some 0) ≡ device → or_address (enclosed_address_at input place) device ≡ Ok x
    → Spelled SpellsRecipient input place x.0 x.1
found_by input place x (Ok d) bytes le same e =
    let s = (object_reader 0).found input place d bytes le same in
    subst (λ (y : RecipientData × ℕ). Spelled SpellsRecipient input place y.0 y.1) (ok_is (pair (OfDevice d.0) d.1) x e) (record { octets = s.octets; stands = s.stands; spells = s.spells })
found_by input place x (Err (WrongTag other)) bytes le same e =
    let b = bind_ok (enclosed_address_at input place) as_address x e in
    let s = enclosed_address_reader.found input place b.0 bytes le b.1 in
    subst (λ (y : RecipientData × ℕ). Spelled SpellsRecipient input place y.0 y.1) (ok_is (pair (OfAddress b.0.0) b.0.1) x b.2) (record { octets = s.octets; stands = s.stands; spells = of_short s.octets b.0.0 s.spells })
found_by input place x (Err (Truncated end)) bytes le same e = absurd cc
found_by input place x (Err (BadLength wrong)) bytes le same e = absurd cc
found_by input place x (Err NoMemory) bytes le same e = absurd cc

pub recipient_found : (input : List ℕ) (place : ℕ) (x : RecipientData × ℕ) → IsBytes input → place ≤ length input → recipient_at input place ≡ Ok x → Spelled SpellsRecipient input place x.0 x.1
unfolding recipient_at
recipient_found input place x bytes le e = found_by input place x (object_at input place (Some 0)) bytes le refl e

other_object : (input : List ℕ) (place : ℕ) → HasOtherTag 12 (Some 0) (drop place input) → object_at input place (Some 0) ≡ Err (WrongTag place)
unfolding object_at content_at
other_object input place h = rw (header_other input place 12 (Some 0) h) refl

opening_is_other : (n : ℕ) → opening 1 ≢ element_tag 12 (Some 0) n
opening_is_other n e = let bad : ◌≡◌ {A = ℕ} 1 0 = ap (λ (tag : Tag). tag.number) e in absurd (omega arith)

pub recipient_again : (input : List ℕ) (place : ℕ) (octets : List ℕ) (x : RecipientData) (end : ℕ) → place ≤ length input → SpellsShortRecipient octets x → Stands input place octets end → recipient_at input place ≡ Ok (x, end)
unfolding recipient_at
recipient_again input place octets (OfDevice object) end le s p = ap (or_address (enclosed_address_at input place)) ((object_reader 0).again input place octets object end le s p)
recipient_again input place octets (OfAddress address) end le s p =
    let parts : drop place input ≡ s.front ++ ((s.inside ++ s.back) ++ drop end input) = p.parts ∙ ap (λ (o : List ℕ). o ++ drop end input) s.parts ∙ append_assoc s.front (s.inside ++ s.back) (drop end input) in
    let other = other_object input place (record { header = s.front; rest = (s.inside ++ s.back) ++ drop end input; tag = opening 1; parts = parts; tagged = s.opened; other = opening_is_other }) in
    ap (or_address (enclosed_address_at input place)) other ∙ ap (λ (r : Result (AddressData × ℕ) TagFault). r >>= as_address) (enclosed_address_reader.again input place octets address end le s p)

pub short_recipient : (input : List ℕ) (place : ℕ) (octets : List ℕ) (x : RecipientData) (end : ℕ) → IsBytes input → SpellsRecipient octets x → Stands input place octets end → SpellsShortRecipient octets x
short_recipient input place octets (OfDevice object) end bytes s p = s
short_recipient input place octets (OfAddress address) end bytes s p = as_short input place octets address end bytes s p

read_again : (input : List ℕ) (place : ℕ) (x : RecipientData) (end : ℕ) → IsBytes input → place ≤ length input → IsSpelledAt SpellsRecipient input place x end → recipient_at input place ≡ Ok (x, end)
read_again input place x end bytes le s =
    let p = spelled_from SpellsRecipient input place x end s in
    recipient_again input place p.octets x end le (short_recipient input place p.octets x end bytes p.spells p.stands) p.stands

-- ---- the clauses

abbrev told_in : List ℕ → Recipient × ℕ → RecipientData × ℕ
told_in input x = (recipient_in input x.0, x.1)

pub record ReadsRecipient (input : List ℕ) (place : ℕ) (answer : Result (Recipient × ℕ) TagFault) : Type 0 where
  pub found : IfOk answer (λ x. IsSpelledAt SpellsRecipient input place (recipient_in input x.0) x.1)
  pub only : (recipient : RecipientData) (end : ℕ) → IsSpelledAt SpellsRecipient input place recipient end → IsOkAnd answer (λ x. (recipient_in input x.0 ≡ recipient) × (x.1 ≡ end))
  pub refused : IsErr answer ↔ ¬ IsThere SpellsRecipient input place

pub reads_recipient : (input : List ℕ) (place : ℕ) (answer : Result (Recipient × ℕ) TagFault) → IsBytes input → place ≤ length input → Gives (told_in input) answer (recipient_at input place) → ReadsRecipient input place answer
reads_recipient input place (Ok x) bytes le e =
    let s = spelled_to SpellsRecipient input place (recipient_in input x.0) x.1 (recipient_found input place (told_in input x) bytes le e) in
    record {
      found = s;
      only = λ recipient end h.
          let same = ok_is (told_in input x) (recipient, end) (sym e ∙ read_again input place recipient end bytes le h) in
          (ap (λ (y : RecipientData × ℕ). y.0) same, ap (λ (y : RecipientData × ℕ). y.1) same);
      refused = (λ h. absurd cc, λ never. absurd (never (record { value = recipient_in input x.0; end = x.1; spelled = s })));
    }
reads_recipient input place (Err fault) bytes le e =
    record {
      found = tt;
      only = λ recipient end h. absurd (let bad = sym e ∙ read_again input place recipient end bytes le h in cc);
      refused = (λ _ there. let bad = sym e ∙ read_again input place there.value there.end bytes le there.spelled in absurd cc, λ _. refl);
    }
