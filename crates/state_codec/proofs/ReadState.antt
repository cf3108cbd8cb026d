-- Octets are read exactly where they are the snapshot of a state of the site.
use Rattle.std.proofs.Common.{◌≡◌, ◌⊎◌, ℕ, Some, List, Result, Ok, Err, IfOk, refl, sym, ap, subst, ◌∙◌, inl, inr}
use Rattle.std.specs.Prelude.{IsOkAnd}
use Rattle.std.proofs.lemmas.Option.{none-some}
use Rattle.outbox.specs.Posts.{TestsPosts}
use Rattle.alarm_core.specs.Parts.{ArePartsOf, RestoresWhatItTells, parts_of, state_of_parts}
use Rattle.alarm_core.specs.Sites.{IsSite}
use Rattle.alarm_core.specs.State.{CoreState}
use Rattle.alarm_core.specs.declared.parts.Parts.{Parts}
use Rattle.alarm_core.specs.declared.site.Site.{Site}
use Rattle.state_codec.specs.declared.fault.CodecFault.{CodecFault}
use Rattle.state_codec.specs.declared.fault.CodecFault.TheVariants as faults
use Rattle.state_codec.specs.Snapshots.{has_rule}
use Rattle.state_codec.specs.SnapshotSteps.{GivesState, parts_in}
use Rattle.state_codec.specs.Laws.{OneSnapshot}
use Rattle.state_codec.specs.Spelled.{SpellsNothing, SpellsState}
use Rattle.state_codec.proofs.Behind.{AreOctets, some_is}
use Rattle.state_codec.proofs.SnapshotReads.{tells, written_whole}
use Rattle.state_codec.proofs.SnapshotStates.{are_parts, is_spelled}
use Rattle.state_codec.proofs.StatesAgain.{parts_again}

-- of what is read a core may be made
pub parts_are : (site : Site) → IsSite site → TestsPosts → (octets : List ℕ) → AreOctets octets → (parts : Parts) → parts_in site octets ≡ Some parts → ArePartsOf site parts
parts_are site is tests octets are parts e =
    let t = tells site is octets are parts e in
    subst (ArePartsOf site) (sym t.parts_are) (are_parts site is tests t.whole t.is)

-- and the octets are its snapshot
pub parts_spelled : (site : Site) → IsSite site → TestsPosts → (octets : List ℕ) → AreOctets octets → (parts : Parts) → parts_in site octets ≡ Some parts → SpellsState site octets (state_of_parts site parts)
parts_spelled site is tests octets are parts e =
    let t = tells site is octets are parts e in
    subst (λ (o : List ℕ). SpellsState site o (state_of_parts site parts)) (sym t.octets_are)
    (subst (λ (p : Parts). SpellsState site (written_whole (has_rule site) t.whole) (state_of_parts site p)) (sym t.parts_are) (is_spelled site is tests t.whole t.is))

-- a snapshot is read
abbrev IsReadAt : List ℕ → CoreState → Site → Type 0
IsReadAt octets state site = IsSite site → SpellsState site octets state → (parts_in site octets ≡ Some (parts_of state)) × (state_of_parts site (parts_of state) ≡ state)

read_there : TestsPosts → RestoresWhatItTells → (octets : List ℕ) (state : CoreState) → IsReadAt octets state state.site
read_there tests law octets state site spelled =
    (ap (parts_in state.site) spelled.octets_are ∙ parts_again state site tests law spelled.own spelled.fits, law.state state.site state site spelled.own)

pub is_read : TestsPosts → RestoresWhatItTells → (octets : List ℕ) (state : CoreState) (site : Site) → IsReadAt octets state site
is_read tests law octets state site is spelled = subst (IsReadAt octets state) spelled.own.site_is (read_there tests law octets state) is spelled

pub is_found : (site : Site) → IsSite site → TestsPosts → (octets : List ℕ) → AreOctets octets → (r : Result CoreState CodecFault) → GivesState site octets r → IfOk r (λ state. SpellsState site octets state)
is_found site is tests octets are (Ok state) given = subst (SpellsState site octets) (sym given.2) (parts_spelled site is tests octets are given.0 given.1)
is_found site is tests octets are (Err fault) given = tt

pub is_only : (site : Site) → IsSite site → TestsPosts → RestoresWhatItTells → (octets : List ℕ) (r : Result CoreState CodecFault) → GivesState site octets r
    → (state : CoreState) → SpellsState site octets state → IsOkAnd r (λ found. found ≡ state) ⊎ (r ≡ Err faults.NoMemory)
is_only site is tests law octets (Ok found) given state spelled =
    let read = is_read tests law octets state site is spelled in
    let same : given.0 ≡ parts_of state = some_is given.0 (parts_of state) (sym given.1 ∙ read.0) in
    inl (given.2 ∙ ap (state_of_parts site) same ∙ read.1)
is_only site is tests law octets (Err faults.NoMemory) given state spelled = inr refl
is_only site is tests law octets (Err (faults.Malformed place)) given state spelled = absurd (none-some (parts_of state) (sym given.1 ∙ (is_read tests law octets state site is spelled).0))

pub is_refused : (site : Site) → IsSite site → TestsPosts → RestoresWhatItTells → (octets : List ℕ) (r : Result CoreState CodecFault) → GivesState site octets r
    → (place : ℕ) → r ≡ Err (faults.Malformed place) → (place ≡ 0) × SpellsNothing site octets
is_refused site is tests law octets (Ok found) given place e = absurd cc
is_refused site is tests law octets (Err faults.NoMemory) given place e = absurd cc
is_refused site is tests law octets (Err (faults.Malformed other)) given place e =
    let same : other ≡ place = cc in
    (sym same ∙ given.0, λ state spelled. none-some (parts_of state) (sym given.1 ∙ (is_read tests law octets state site is spelled).0))

pub is_nothing : (site : Site) → IsSite site → TestsPosts → (octets : List ℕ) → AreOctets octets → (r : Result CoreState CodecFault) → GivesState site octets r
    → SpellsNothing site octets → (r ≡ Err (faults.Malformed 0)) ⊎ (r ≡ Err faults.NoMemory)
is_nothing site is tests octets are (Ok state) given nothing = absurd (nothing state (is_found site is tests octets are (Ok state) given))
is_nothing site is tests octets are (Err faults.NoMemory) given nothing = inr refl
is_nothing site is tests octets are (Err (faults.Malformed place)) given nothing = inl (ap (λ (p : ℕ). Err (faults.Malformed p)) given.0)

-- ---- one spelling

pub one_snapshot : TestsPosts → RestoresWhatItTells → OneSnapshot
one_snapshot tests law = record {
  state = λ site octets x y is first second.
      let a = is_read tests law octets x site is first in
      let b = is_read tests law octets y site is second in
      sym a.1 ∙ ap (state_of_parts site) (some_is (parts_of x) (parts_of y) (sym a.0 ∙ b.0)) ∙ b.1;
  octets = λ site first second x one two. one.octets_are ∙ sym two.octets_are;
}
