-- Whole runs.
use Rattle.std.proofs.Common.{ℕ, ◌≤◌, All, List, [], ◌∷◌, ◌++◌, length, sym, ap, subst, arith}
use Rattle.std.proofs.lemmas.List.Elements.{All-append, All-cons, All-contains, All-nil, All-weaker}
use Rattle.alarm_core.specs.declared.event.Event.{Event}
use Rattle.alarm_core.specs.declared.site.Site.{Site}
use Rattle.alarm_core.specs.Fits.{FitsSite}
use Rattle.alarm_core.specs.Sites.{IsSite}
use Rattle.state_codec.specs.Laws.{BoundsAreLow, OneSnapshot}
use Rattle.standby.specs.Takes.{Following, Takes}
use Rattle.standby.specs.Leads.{MayBe}
use Rattle.standby.specs.Runs.{Becomes, Begins, Breaks, Delivers, FollowsItsLeader, Grows, Happens, Hears, IsOffered, Loses, NeverMalformed, Offers, Reopens, Replication, ReplicationRun, acknowledged_by}
use Rattle.standby.specs.declared.took.Took.{Took}
use Rattle.standby.proofs.Steps.{Follows, IsGatheredIf, by_packet, follows_on, not_malformed, offered_on}

-- at every moment of a run
pub record Runs (site : Site) (run : Replication) : Type 0 where
  pub history : MayBe site run.durable
  pub offered : All (IsOffered site run.durable) run.offered
  pub older : List Event
  pub follows : Follows site run.durable older run.follower
  pub covers : All (λ known. known ≤ length older) run.acknowledged

module _ (site : Site) (is_site : IsSite site) (typed : FitsSite site) (one : OneSnapshot) (low : BoundsAreLow) where
  begun : (run : Replication) → Begins site run → Runs site run
  begun run begins = record {
    history = begins.history;
    offered = subst (λ (l : List (List ℕ)). All (IsOffered site run.durable) l) (sym begins.none_offered) (All-nil (IsOffered site run.durable));
    older = begins.older;
    follows = record { there = begins.there; state = ap (λ (f : Following). f.core) begins.nothing; gathers = subst (λ (f : Following). IsGatheredIf site run.durable f.gathering) (sym begins.nothing) tt };
    covers = subst (λ (l : List ℕ). All (λ known. known ≤ length begins.older) l) (sym begins.none_acknowledged) (All-nil (λ known. known ≤ length begins.older));
  }

  next : (old new : Replication) (happens : Happens) → Runs site old → Becomes site old happens new → Runs site new
  next old new (Grows events) so (may, is) = subst (λ (r : Replication). Runs site r) (sym is) (record {
    history = may;
    offered = All-weaker (IsOffered site old.durable) (IsOffered site (events ++ old.durable)) (λ octets. offered_on site old.durable events octets) old.offered so.offered;
    older = so.older;
    follows = follows_on site old.durable so.older events old.follower so.follows;
    covers = so.covers;
  })
  next old new (Offers octets) so (offers, is) = subst (λ (r : Replication). Runs site r) (sym is) (record {
    history = so.history;
    offered = All-cons (IsOffered site old.durable) octets old.offered offers so.offered;
    older = so.older;
    follows = so.follows;
    covers = so.covers;
  })
  next old new (Delivers octets took) so (among, (now, takes, is)) =
      let offered : IsOffered site old.durable octets = All-contains (IsOffered site old.durable) old.offered octets so.offered among in
      let step = by_packet site is_site typed one low old.durable so.older old.follower now octets took so.history so.follows offered takes in
      subst (λ (r : Replication). Runs site r) (sym is) (record {
        history = so.history;
        offered = so.offered;
        older = step.next;
        follows = step.follows;
        covers = All-append (λ known. known ≤ length step.next) (acknowledged_by took) old.acknowledged step.covers
            (All-weaker (λ known. known ≤ length so.older) (λ known. known ≤ length step.next) (λ known few. omega (arith, few, step.no_shorter)) old.acknowledged so.covers);
      })
  next old new (Hears known) so (among, is) = subst (λ (r : Replication). Runs site r) (sym is) (record { history = so.history; offered = so.offered; older = so.older; follows = so.follows; covers = so.covers })
  next old new (Loses octets) so is = subst (λ (r : Replication). Runs site r) (sym is) so
  next old new Reopens so is = subst (λ (r : Replication). Runs site r) (sym is) (record {
    history = so.history;
    offered = so.offered;
    older = so.older;
    follows = record { there = so.follows.there; state = so.follows.state; gathers = tt };
    covers = so.covers;
  })
  next old new (Breaks octets took) so (among, (now, takes, is)) =
      let offered : IsOffered site old.durable octets = All-contains (IsOffered site old.durable) old.offered octets so.offered among in
      let step = by_packet site is_site typed one low old.durable so.older old.follower now octets took so.history so.follows offered takes in
      subst (λ (r : Replication). Runs site r) (sym is) (record {
        history = so.history;
        offered = so.offered;
        older = step.next;
        follows = record { there = step.follows.there; state = step.follows.state; gathers = tt };
        covers = All-weaker (λ known. known ≤ length so.older) (λ known. known ≤ length step.next) (λ known few. omega (arith, few, step.no_shorter)) old.acknowledged so.covers;
      })

  over : (happens : List Happens) (old new : Replication) → Runs site old → ReplicationRun site old happens new → Runs site new
  over [] old new so is = subst (λ (r : Replication). Runs site r) (sym is) so
  over (first ∷ more) old new so (between, becomes, others) = over more between new (next old between first so becomes) others

pub follows_its_leader : OneSnapshot → BoundsAreLow → FollowsItsLeader
follows_its_leader one low site is_site typed first last happens begins run =
    let so = over site is_site typed one low happens first last (begun site is_site typed one low first begins) run in
    record { older = so.older; there = so.follows.there; state = so.follows.state; covers = so.covers }

pub never_malformed : OneSnapshot → BoundsAreLow → NeverMalformed
never_malformed one low site is_site typed first last happens octets took now begins run among takes malformed =
    let so = over site is_site typed one low happens first last (begun site is_site typed one low first begins) run in
    not_malformed site is_site typed one low last.durable so.older last.follower now octets so.history so.follows (All-contains (IsOffered site last.durable) last.offered octets so.offered among)
    (subst (λ (t : Took). Takes last.follower octets t now) malformed takes)
