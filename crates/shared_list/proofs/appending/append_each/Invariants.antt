use Rattle.std.proofs.Common.{◌≡◌, ◌++◌, map, take}
use Rattle.turnstile.specs.Passes.{IsOf}
use Rattle.shared_list.specs.declared.list.Call.TheVariants.{Appended}
use Rattle.shared_list.proofs.appending.append_each.Given as goal

abbrev pub invariant-loop-entry : goal.invariant-loop-entry
invariant-loop-entry g l = record {
  here : IsOf l.list l.pass;
  calls : l.pass.mine ≡ l.fn.pass.mine ++ map Appended (take l.entry-index l.entries);
  rest : (l.pass.number ≡ l.fn.pass.number) × (l.pass.carried ≡ l.fn.pass.carried) × (l.pass.split_off ≡ l.fn.pass.split_off);
}
