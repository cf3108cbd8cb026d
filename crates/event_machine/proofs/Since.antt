-- The detection keeps just the points that count, and what is held has been so since the entry.
use Rattle.std.proofs.Common.{◌≡◌, ℕ, ◌≤◌, Bool, true, false, not, ◌&&◌, ◌||◌, if◌then◌else◌, Option, Some, None, List, [], ◌∷◌, ◌++◌, refl, ap, ◌∙◌, sym, subst, arith}
use Rattle.bac_values.specs.declared.event_state.EventState.{EventState}
use Rattle.bac_values.specs.declared.event_state.EventState.TheVariants.{Normal}
use Rattle.algorithm_rules.specs.declared.table.Algorithm.{Algorithm}
use Rattle.algorithm_rules.specs.declared.table.Rule.{Rule}
use Rattle.event_machine.specs.Points.{Point, Incident, Looked, Acknowledged, newest_of, NeverFalls}
use Rattle.event_machine.specs.Held.{IsHeld}
use Rattle.bac_values.specs.EventStates.{is_fault, is_normal}
use Rattle.event_machine.specs.Detection.{Detection, Step, since, sees, stays, enters, fault_target, fault_by, inhibited_step, rule_held, rule_by, later_step, and_then, detection_at}
use Rattle.event_machine.specs.Since.{some_move, starts_anew, points_since, entry_of, detection_tried, KeepsPointsSince, HoldsSinceEntry}

-- whether a point begins the points that count, by the step there
abbrev anew : Point → Step → Bool
anew point step = some_move step.moves || (point.inhibited && not (is_fault step.detection.state))

-- the points that count behind a step are those that it says
abbrev Counts : Point → Step → List Point → Type 0
Counts point step before = since step.detection ≡ (if anew point step then point ∷ [] else point ∷ before)

stays_counts : (inhibited : Bool) (point : Point) (d : Detection) → is_fault d.state ≡ true →
    since (sees point d) ≡ (if inhibited && not (is_fault d.state) then point ∷ [] else point ∷ since d)
stays_counts true point d fault = rw fault refl
stays_counts false point d fault = refl

inhibited_counts : (normal : Bool) (point : Point) (d : Detection) → is_fault d.state ≡ false →
    let step = if normal then stays (record (sees point d) { older = [] }) else enters Normal false (sees point d) in
    since step.detection ≡ (if some_move step.moves || not (is_fault step.detection.state) then point ∷ [] else point ∷ since d)
inhibited_counts true point d free = rw free refl
inhibited_counts false point d free = refl

rule_counts : (found : Option Rule) (point : Point) (d : Detection) →
    since (rule_by found (sees point d)).detection ≡ (if some_move (rule_by found (sees point d)).moves || false then point ∷ [] else point ∷ since d)
rule_counts None point d = refl
rule_counts (Some rule) point d = refl

free_counts : (inhibited : Bool) (found : Option Rule) (point : Point) (d : Detection) → is_fault d.state ≡ false →
    let step = if inhibited then inhibited_step (sees point d) else rule_by found (sees point d) in
    since step.detection ≡ (if some_move step.moves || (inhibited && not (is_fault step.detection.state)) then point ∷ [] else point ∷ since d)
free_counts true found point d free = inhibited_counts (is_normal d.state) point d free
free_counts false found point d free = rule_counts found point d

later_counts : (fault : Bool) (found : Option Rule) (point : Point) (d : Detection) → is_fault d.state ≡ fault →
    Counts point (if fault then stays (sees point d) else (if point.inhibited then inhibited_step (sees point d) else rule_by found (sees point d))) (since d)
later_counts true found point d is = stays_counts point.inhibited point d is
later_counts false found point d is = free_counts point.inhibited found point d is

-- behind a move of the fault step, the point is alone
rule_alone : (found : Option Rule) (d : Detection) → d.older ≡ [] → since (rule_by found d).detection ≡ d.newest ∷ []
rule_alone None d alone = ap (λ ps. d.newest ∷ ps) alone
rule_alone (Some rule) d alone = refl

inhibited_alone : (normal : Bool) (d : Detection) → since (if normal then stays (record d { older = [] }) else enters Normal false d).detection ≡ d.newest ∷ []
inhibited_alone true d = refl
inhibited_alone false d = refl

free_alone : (inhibited : Bool) (found : Option Rule) (d : Detection) → d.older ≡ [] → since (if inhibited then inhibited_step d else rule_by found d).detection ≡ d.newest ∷ []
free_alone true found d alone = inhibited_alone (is_normal d.state) d
free_alone false found d alone = rule_alone found d alone

later_alone : (fault : Bool) (found : Option Rule) (d : Detection) → d.older ≡ [] →
    since (if fault then stays d else (if d.newest.inhibited then inhibited_step d else rule_by found d)).detection ≡ d.newest ∷ []
later_alone true found d alone = ap (λ ps. d.newest ∷ ps) alone
later_alone false found d alone = free_alone d.newest.inhibited found d alone

look_counts : (to : Option EventState) (algorithm : Algorithm) (point : Point) (d : Detection) →
    Counts point (and_then (fault_by to (sees point d)) (later_step algorithm)) (since d)
look_counts None algorithm point d = later_counts (is_fault d.state) (rule_held algorithm (sees point d)) point d refl
look_counts (Some to) algorithm point d =
    let moved = (enters to true (sees point d)).detection in
    later_alone (is_fault moved.state) (rule_held algorithm moved) moved refl

keep_by : (b : Bool) (point : Point) (xs ys : List Point) → xs ≡ ys → (if b then point ∷ [] else point ∷ xs) ≡ (if b then point ∷ [] else point ∷ ys)
keep_by b point xs ys same = ap (λ ps. if b then point ∷ [] else point ∷ ps) same

pub keeps_points_since : KeepsPointsSince
unfolding detection_at
keeps_points_since algorithm first [] = refl
keeps_points_since algorithm first (Looked point ∷ older) =
    let d = detection_at algorithm first older in
    look_counts (fault_target point.reliability d.reliability d.state) algorithm point d
    ∙ keep_by (starts_anew algorithm first point older) point (since d) (points_since algorithm first older) (keeps_points_since algorithm first older)
keeps_points_since algorithm first (Acknowledged transition ∷ older) = keeps_points_since algorithm first older

-- points that lie no earlier than a moment
abbrev pub AllFrom : ℕ → List Point → Type 0
AllFrom moment [] = Unit {0}
AllFrom moment (p ∷ ps) = (moment ≤ p.moment) × AllFrom moment ps

-- points that descend from a moment
abbrev pub DescendsFrom : ℕ → List Point → Type 0
DescendsFrom moment [] = Unit {0}
DescendsFrom moment (p ∷ ps) = (p.moment ≤ moment) × DescendsFrom p.moment ps

entry_by : (b : Bool) (point entry newest : Point) → entry.moment ≤ newest.moment → newest.moment ≤ point.moment → (if b then point else entry).moment ≤ point.moment
entry_by true point entry newest low up = omega arith
entry_by false point entry newest low up = omega (arith, low, up)

entry_low : (algorithm : Algorithm) (first : Point) (later : List Incident) → NeverFalls first later → (entry_of algorithm first later).moment ≤ (newest_of first later).moment
entry_low algorithm first [] n = omega arith
entry_low algorithm first (Looked point ∷ older) n =
    entry_by (starts_anew algorithm first point older) point (entry_of algorithm first older) (newest_of first older) (entry_low algorithm first older n.1) n.0
entry_low algorithm first (Acknowledged transition ∷ older) n = entry_low algorithm first older n

from_by : (b : Bool) (point entry newest : Point) (points : List Point) → entry.moment ≤ newest.moment → newest.moment ≤ point.moment → AllFrom entry.moment points →
    AllFrom (if b then point else entry).moment (if b then point ∷ [] else point ∷ points)
from_by true point entry newest points low up all = (omega arith, tt)
from_by false point entry newest points low up all = (omega (arith, low, up), all)

all_from : (algorithm : Algorithm) (first : Point) (later : List Incident) → NeverFalls first later → AllFrom (entry_of algorithm first later).moment (points_since algorithm first later)
all_from algorithm first [] n = (omega arith, tt)
all_from algorithm first (Looked point ∷ older) n =
    from_by (starts_anew algorithm first point older) point (entry_of algorithm first older) (newest_of first older) (points_since algorithm first older) (entry_low algorithm first older n.1) n.0 (all_from algorithm first older n.1)
all_from algorithm first (Acknowledged transition ∷ older) n = all_from algorithm first older n

descends_later : (a b : ℕ) (ps : List Point) → a ≤ b → DescendsFrom a ps → DescendsFrom b ps
descends_later a b [] low d = tt
descends_later a b (p ∷ ps) low d = (omega (arith, d.0, low), d.1)

descends_by : (b : Bool) (point newest : Point) (points : List Point) → newest.moment ≤ point.moment → DescendsFrom newest.moment points → DescendsFrom point.moment (if b then point ∷ [] else point ∷ points)
descends_by true point newest points up d = (omega arith, tt)
descends_by false point newest points up d = (omega arith, descends_later newest.moment point.moment points up d)

-- the points that count descend
descends : (algorithm : Algorithm) (first : Point) (later : List Incident) → NeverFalls first later → DescendsFrom (newest_of first later).moment (points_since algorithm first later)
descends algorithm first [] n = (omega arith, tt)
descends algorithm first (Looked point ∷ older) n =
    descends_by (starts_anew algorithm first point older) point (newest_of first older) (points_since algorithm first older) n.0 (descends algorithm first older n.1)
descends algorithm first (Acknowledged transition ∷ older) n = descends algorithm first older n

-- what is known of a detection as the rules are tried at a point
pub record IsTried (entry : Point) (point : Point) (d : Detection) : Type 0 where
  pub newest : d.newest ≡ point
  pub down : DescendsFrom point.moment d.older
  pub from : AllFrom entry.moment (point ∷ d.older)

tried_by : (to : Option EventState) (entry point : Point) (d : Detection) → entry.moment ≤ point.moment → DescendsFrom point.moment (since d) → AllFrom entry.moment (since d) → IsTried entry point (fault_by to (sees point d)).detection
tried_by None entry point d low down all = record { newest = refl; down = down; from = (low, all) }
tried_by (Some to) entry point d low down all = record { newest = refl; down = tt; from = (low, tt) }

pub tried : (algorithm : Algorithm) (first : Point) (later : List Incident) (point : Point) → NeverFalls first (Looked point ∷ later) → IsTried (entry_of algorithm first later) point (detection_tried algorithm first later point)
tried algorithm first later point n =
    let d = detection_at algorithm first later in
    let entry = entry_of algorithm first later in
    let newest = newest_of first later in
    let keeps = sym (keeps_points_since algorithm first later) in
    let low = entry_low algorithm first later n.1 in
    let down = descends_later newest.moment point.moment (since d) n.0 (subst (DescendsFrom newest.moment) keeps (descends algorithm first later n.1)) in
    tried_by (fault_target point.reliability d.reliability d.state) entry point d (omega (arith, low, n.0)) down (subst (AllFrom entry.moment) keeps (all_from algorithm first later n.1))

behind : (moment : ℕ) (later : List Point) (start : Point) (earlier : List Point) → AllFrom moment (later ++ start ∷ earlier) → moment ≤ start.moment
behind moment [] start earlier all = all.0
behind moment (p ∷ ps) start earlier all = behind moment ps start earlier all.1

start_from : (entry point : Point) (d : Detection) (rule : Rule) → IsTried entry point d → (held : IsHeld rule d.cause d.newest d.older) → entry.moment ≤ held.start.moment
start_from entry point d rule t held =
    behind entry.moment held.later held.start held.earlier (subst (AllFrom entry.moment) (ap (λ p. p ∷ d.older) (sym t.newest) ∙ held.points) t.from)

pub holds_since_entry : HoldsSinceEntry
holds_since_entry algorithm first later point rule n held =
    start_from (entry_of algorithm first later) point (detection_tried algorithm first later point) rule (tried algorithm first later point n) held
