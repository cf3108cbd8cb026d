-- What follows from the rules of a journal alone, and that what is computed is what they say.
use Rattle.std.specs.Prelude.{◌≡◌, ◌↔◌, ◌⊎◌, ℕ, List, Ok, Err}
use Rattle.alarm_journal.specs.Journal.{Site, Content, OpensTo, IsRefused}
use Rattle.alarm_journal.specs.JournalSteps.{opened_from}
use Rattle.alarm_journal.specs.declared.open_fault.OpenFault.{OpenFault}

-- For each site each image opens to one content, or is refused for one fault, and not both.
pub record OpensOnce : Type 0 where
  pub either : (site : Site) (image : List ℕ) → ((content : Content) × OpensTo site image content) ⊎ ((fault : OpenFault) × IsRefused site image fault)
  pub content : (site : Site) (image : List ℕ) (one other : Content) → OpensTo site image one → OpensTo site image other → one ≡ other
  pub fault : (site : Site) (image : List ℕ) (one other : OpenFault) → IsRefused site image one → IsRefused site image other → one ≡ other
  pub never_both : (site : Site) (image : List ℕ) (content : Content) (fault : OpenFault) → OpensTo site image content → IsRefused site image fault → ⊥

-- What is computed of an image is what it opens to, and the fault for which it is refused.
pub record IsComputed : Type 0 where
  pub opens : (site : Site) (image : List ℕ) (content : Content) → OpensTo site image content ↔ (opened_from site image ≡ Ok content)
  pub refused : (site : Site) (image : List ℕ) (fault : OpenFault) → IsRefused site image fault ↔ (opened_from site image ≡ Err fault)
