-- A single datagram that a press emits.
use Rattle.std.proofs.Common.{◌≡◌, ◌⊎◌, ℕ, ◌+◌, ◌<◌, Option, Some, None, List, [], ◌∷◌, refl, ap, ◌∙◌, subst, inl, inr, arith}
use Rattle.bac_values.specs.declared.note.Send.{Send}
use Rattle.ground_io.specs.Trace.{Told, Adds}
use Rattle.ground_io.specs.declared.entry.Entry.{Entry}
use Rattle.ground_io.specs.declared.entry.Entry.TheVariants.{Wrote, Broke, Synced, Emitted, Lost}
use Rattle.alarm_journal.specs.Emissions.{AreEmissions, EmitsAll}

-- it was sent, or it was lost
one_of_two : (send : Send) (sent lost : ℕ) (entries : List Entry) → AreEmissions (send ∷ []) sent lost entries
    → ((lost ≡ 0) × (entries ≡ Emitted send.peer send.bytes ∷ [])) ⊎ ((lost ≡ 1) × (entries ≡ Lost send.peer send.bytes ∷ []))
one_of_two send sent lost [] are = absurd are
one_of_two send sent lost (Wrote place octets ∷ entries) are = absurd are
one_of_two send sent lost (Broke place tried left ∷ entries) are = absurd are
one_of_two send sent lost (Synced ∷ entries) are = absurd are
one_of_two send sent lost (Emitted peer octets ∷ []) (to, of, (before, more, none)) = inl (none.1, rw (to, of) refl)
one_of_two send sent lost (Emitted peer octets ∷ (entry ∷ entries)) (to, of, (before, more, none)) = absurd none
one_of_two send sent lost (Lost peer octets ∷ []) (to, of, (before, more, none)) = inr (more ∙ ap (λ (n : ℕ). n + 1) none.1, rw (to, of) refl)
one_of_two send sent lost (Lost peer octets ∷ (entry ∷ entries)) (to, of, (before, more, none)) = absurd none

pub one_sent : (send : Send) (sent lost : ℕ) (old new : Option Told) → EmitsAll (send ∷ []) sent lost old new → lost ≡ 0 → Adds old new (Emitted send.peer send.bytes ∷ [])
one_sent send sent lost old None emits none = tt
one_sent send sent lost None (Some new) emits none = absurd emits
one_sent send sent lost (Some old) (Some new) emits none = elim (one_of_two send sent lost emits.entries emits.emissions) [
  | inl gone ↦ subst (λ (l : List Entry). Adds (Some old) (Some new) l) gone.1 emits.adds
  | inr gone ↦ absurd (omega (arith, none, gone.0))
]

pub one_lost : (send : Send) (sent lost : ℕ) (old new : Option Told) → EmitsAll (send ∷ []) sent lost old new → 0 < lost → Adds old new (Lost send.peer send.bytes ∷ [])
one_lost send sent lost old None emits some = tt
one_lost send sent lost None (Some new) emits some = absurd emits
one_lost send sent lost (Some old) (Some new) emits some = elim (one_of_two send sent lost emits.entries emits.emissions) [
  | inl gone ↦ absurd (omega (arith, some, gone.0))
  | inr gone ↦ subst (λ (l : List Entry). Adds (Some old) (Some new) l) gone.1 emits.adds
]
