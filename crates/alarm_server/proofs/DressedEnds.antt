-- What a server did over a dressed ground and a dressed link, told of their inner ones.
use Rattle.std.proofs.Common.{◌≡◌, ◌+◌, ℕ, List, Option, Some, None, arith, ap, ◌∙◌, sym, subst}
use Rattle.std.specs.Borrow.{Bor}
use Rattle.std.specs.Prelude.{IfSome}
use Rattle.ground_io.specs.Trace.{Told}
use Rattle.bac_values.specs.declared.note.Send.{Send}
use Rattle.ending_link.specs.Ending.{EndingLinkState, NotingGroundState, faults_with}
use Rattle.alarm_server.specs.declared.serve.Served.{Served}
use Rattle.alarm_server.specs.Dressed.{ServesDressed}
use Rattle.alarm_server.specs.ServedSites.{LeavesLink}
use Rattle.alarm_server.specs.Serving.{ServesFile}

pub some_to : {A : Type 0} (o : Option A) (P Q : A → Type 0) → ((x : A) → P x → Q x) → IfSome o P → IfSome o Q
some_to None P Q to p = tt
some_to (Some x) P Q to p = to x p

-- a link over one that is the inner link itself
pub over_inner : {L B : Type 0} (ending : EndingLinkState L B) (waking link : L) (seen : B) → ending ≡ record { inner = waking; flag = seen; ended = 0 } → waking ≡ link → ending ≡ record { inner = link; flag = seen; ended = 0 }
over_inner ending waking link seen made same = made ∙ ap (λ w. record { inner = w; flag = seen; ended = 0 }) same

module _ {G L : Type 0} (F : Type 0) (told : G → Option Told) (size disk_faults emit_faults : G → ℕ) (left : L → Option (List Send)) (faults : L → ℕ) where
  -- what was served over the dressed ones
  abbrev Over : (ℕ → Type 0) → Option (List ℕ) → ℕ → EndingLinkState L (Bor F) → EndingLinkState L (Bor F) → Option (List Send) → Option (List Send) → NotingGroundState G (Bor F) → NotingGroundState G (Bor F) → Served → Type 0
  Over shows file count link rest old new before after served =
      ServesFile (λ (n : NotingGroundState G (Bor F)). told n.inner) (λ n. size n.inner) (λ n. disk_faults n.inner) (λ n. emit_faults n.inner) shows file count link rest old new before after served

  pub dressed : (shows : ℕ → Type 0) (file : Option (List ℕ)) (count : ℕ) (link rest : L) (before after : G) (served : Served) (raised seen : Bor F) (noting noted : NotingGroundState G (Bor F)) (ending ended : EndingLinkState L (Bor F))
      → raised.now ≡ seen.now → noting ≡ record { inner = before; flag = raised; raised = 0 } → ending ≡ record { inner = link; flag = seen; ended = 0 } → after ≡ noted.inner → rest ≡ ended.inner
      → Over shows file count ending ended (left ending.inner) (left ended.inner) noting noted served → LeavesLink (faults_with faults ending) (faults_with faults ended) served.status
      → ServesDressed F told size disk_faults emit_faults left faults shows file count link rest before after served
  dressed shows file count link rest before after served raised seen noting noted ending ended same made listens back still serves ends =
      let first : EndingLinkState L (Bor F) = record { inner = link; flag = seen; ended = 0 } in
      let none : faults_with faults ending ≡ faults link = ap (λ (l : EndingLinkState L (Bor F)). faults l.inner + l.ended) listens ∙ omega arith in record {
        raised = raised;
        seen = seen;
        same_flag = same;
        noting = noted;
        ending = ended;
        ground = sym back;
        datagrams = sym still;
        serves =
            subst (λ (d : NotingGroundState G (Bor F)). Over shows file count first ended (left link) (left rest) d noted served) made
            (subst (λ (l : EndingLinkState L (Bor F)). Over shows file count l ended (left l.inner) (left rest) noting noted served) listens
            (subst (λ (r : L). Over shows file count ending ended (left ending.inner) (left r) noting noted served) (sym still) serves));
        ends = subst (λ (n : ℕ). LeavesLink n (faults_with faults ended) served.status) none ends;
      }
