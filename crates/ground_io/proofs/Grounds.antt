-- What a call of a ground in memory leaves, stated of its parts.
use Rattle.std.proofs.Common.{◌≡◌, inl, inr, ℕ, Bool, true, false, List, [], Option, Some, None, refl, sym, ap, ◌∙◌, ◌^◌, ◌<◌, length, append-nil, arith}
use Rattle.std.proofs.lemmas.Bool.{false≢true}
use Rattle.std.specs.Prelude.{◌↔◌, IsTrue, IsSome, IsNone, Contains}
use Rattle.std.specs.Option.{is_some}
use Rattle.ground_io.specs.Counts.{HasCause, next_count}
use Rattle.ground_io.specs.InMemory.{MemoryGroundState, AreTold, FailsAsListed, FailsAsListedOrUntold, size_told}
use Rattle.ground_io.specs.Past.{told_of}
use Rattle.ground_io.specs.Trace.{Told, Adds}
use Rattle.ground_io.specs.declared.entry.Entry.{Entry}
use Rattle.ground_io.specs.declared.past.Past.{Past}

pub size_is : (contents : List ℕ) (told : Option Told) → AreTold contents told → size_told contents told ≡ length contents
size_is contents None is = refl
size_is contents (Some told) is = ap length (sym is.0)

pub same_size : (past after : Option Past) (contents now : List ℕ) → length now ≡ length contents → AreTold contents (told_of past contents) → AreTold now (told_of after now)
    → size_told now (told_of after now) ≡ size_told contents (told_of past contents)
same_size past after contents now same before behind = size_is now (told_of after now) behind ∙ same ∙ sym (size_is contents (told_of past contents) before)

pub stays : (count : ℕ) → HasCause count count (false ≡ true)
stays count = record { later = omega arith; rose = λ fault. absurd (false≢true fault) }

pub rises : (before now : ℕ) → before < 2 ^ 64 → now ≡ next_count before → HasCause before now (true ≡ true)
rises before now fits is = record { later = omega arith; rose = λ fault. omega arith }

pub adds_nothing : (told : Option Told) → Adds told told []
adds_nothing None = tt
adds_nothing (Some told) = (refl, sym (append-nil told.trace))

pub none_adds : (told : Option Told) (after : Option Past) (contents : List ℕ) (entries : List Entry) → is_some after ≡ false → Adds told (told_of after contents) entries
none_adds told None contents entries is = tt
none_adds told (Some past) contents entries is = absurd (false≢true (sym is))

pub none_are_told : (after : Option Past) (contents : List ℕ) → is_some after ≡ false → AreTold contents (told_of after contents)
none_are_told None contents is = tt
none_are_told (Some past) contents is = absurd (false≢true (sym is))

pub tells_where_kept : (past : Option Past) (contents : List ℕ) → is_some (told_of past contents) ≡ is_some past
tells_where_kept None contents = refl
tells_where_kept (Some past) contents = refl

pub fails_listed : (old new : MemoryGroundState) (listed : Bool) → new.failing ≡ old.failing → new.calls ≡ next_count old.calls → (IsTrue listed → Contains old.failing new.calls) → listed ≡ true
    → FailsAsListedOrUntold old new (true ≡ true)
fails_listed old new listed failing counted is so = record { failing = failing; counted = counted; listed = λ at. refl; otherwise = λ fault. inl (is so) }

pub fails_untold : (old new : MemoryGroundState) → new.failing ≡ old.failing → new.calls ≡ next_count old.calls → IsSome old.told → IsNone new.told → FailsAsListedOrUntold old new (true ≡ true)
fails_untold old new failing counted told untold = record { failing = failing; counted = counted; listed = λ at. refl; otherwise = λ fault. inr (told, untold) }

pub goes_well : (old new : MemoryGroundState) (listed : Bool) → new.failing ≡ old.failing → new.calls ≡ next_count old.calls → (Contains old.failing new.calls → IsTrue listed) → listed ≡ false
    → FailsAsListedOrUntold old new (false ≡ true)
goes_well old new listed failing counted is not_so = record { failing = failing; counted = counted; listed = λ at. sym not_so ∙ is at; otherwise = λ fault. absurd (false≢true fault) }

pub fails_as_listed : (old new : MemoryGroundState) (listed fault : Bool) → new.failing ≡ old.failing → new.calls ≡ next_count old.calls → (IsTrue listed ↔ Contains old.failing new.calls) → listed ≡ fault → FailsAsListed old new (fault ≡ true)
fails_as_listed old new listed fault failing counted is same = record { failing = failing; counted = counted; listed = (λ at. is.0 (same ∙ at), λ at. sym same ∙ is.1 at) }
