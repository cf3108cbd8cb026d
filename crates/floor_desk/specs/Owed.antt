-- The datagrams that a call owes.
use Rattle.std.specs.Prelude.{List, [], ◌∷◌}
use Rattle.bac_values.specs.declared.note.Send.{Send}
use Rattle.floor_desk.specs.declared.pending.Owed.{Owed}
use Rattle.floor_desk.specs.declared.pending.Owed.TheVariants.{One, Several}

-- all of them, in their order
abbrev pub sends_of : Owed → List Send
sends_of (One send) = send ∷ []
sends_of (Several sends) = sends
