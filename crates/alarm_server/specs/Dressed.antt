-- A server over what stands between the program's outside ends and it: a ground that raises a flag where a call of its disk fails, and a link that ends by that flag.
use Rattle.std.specs.Prelude.{◌≡◌, ℕ, List, Option}
use Rattle.std.specs.Borrow.{Bor}
use Rattle.ground_io.specs.Trace.{Told}
use Rattle.bac_values.specs.declared.note.Send.{Send}
use Rattle.ending_link.specs.Ending.{EndingLinkState, NotingGroundState, faults_with}
use Rattle.alarm_server.specs.declared.serve.Served.{Served}
use Rattle.alarm_server.specs.ServedSites.{LeavesLink}
use Rattle.alarm_server.specs.Serving.{ServesFile}

module _ {G L : Type 0} (F : Type 0) (told : G → Option Told) (size disk_faults emit_faults : G → ℕ) (left : L → Option (List Send)) (faults : L → ℕ) where
  -- The ground and the link that were given are the inner ones of those that the server began with, and those that came back of those that it left; the flag that the one raises and the one that the other looks at tell the same at first; that they are one flag isn't said. It tells what it did over them; all that they tell and count is what their inner ones do, but that such a link counts each call, too, that found the flag raised.
  pub record ServesDressed (shows : ℕ → Type 0) (file : Option (List ℕ)) (count : ℕ) (link rest : L) (before after : G) (served : Served) : Type 0 where
    pub raised : Bor F
    pub seen : Bor F
    pub same_flag : raised.now ≡ seen.now
    pub noting : NotingGroundState G (Bor F)
    pub ending : EndingLinkState L (Bor F)
    pub ground : noting.inner ≡ after
    pub datagrams : ending.inner ≡ rest
    pub serves : ServesFile (λ (n : NotingGroundState G (Bor F)). told n.inner) (λ n. size n.inner) (λ n. disk_faults n.inner) (λ n. emit_faults n.inner) shows file count (record { inner = link; flag = seen; ended = 0 }) ending (left link) (left rest)
        (record { inner = before; flag = raised; raised = 0 }) noting served
    pub ends : LeavesLink (faults link) (faults_with faults ending) served.status
