-- What is so of all octets is so of those that a source tells, if it tells any.
use Rattle.std.specs.Prelude.{Option, Some, None, IfSome}

pub in_any : {A : Type 0} (P : A → Type 0) (told : Option A) → ((t : A) → P t) → IfSome told P
in_any P None all = tt
in_any P (Some t) all = all t
