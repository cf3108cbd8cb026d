use Rattle.std.proofs.Common.{◌≡◌, ◌+◌, ◌-◌, ◌<◌, ◌≤◌, List, ℕ, ap, ◌∙◌, arith, get_or, length, subst, sym}
use Rattle.standby.specs.Offers.{AreAsManyAsFit, AreEnds, LeaderState, start_of}
use Rattle.standby.specs.Packets.{most_packet_octets}
use Rattle.standby.proofs.Endings.{fit_up_to, rises, start_next}
use Rattle.standby.proofs.leader.Leader.fitting.Goals as goal

pub first_beyond-requires-clause-behind : goal.first_beyond-requires-clause-behind
first_beyond-requires-clause-behind c = λ k from low.
    let ends : List ℕ = c.as_slice-ends.result.now in
    let next : ℕ = c.self.inside.next in
    let so : AreEnds c.self.inside.records.items ends = subst (λ (l : List ℕ). AreEnds c.self.inside.records.items l) (sym c.as_slice-ends.ensures.value) c.self.invariant.ends in
    let up : start_of ends next ≤ start_of ends (k + 1) = rises c.self.inside.records.items ends so next (k + 1) (omega (arith, from)) (omega (arith, low)) in
    omega (arith, c.start_of.ensures.start, up, start_next ends k)

pub returns : goal.returns
returns c =
    let inside : LeaderState = record { events = c.self.inside.events; snapshot = c.self.inside.snapshot.items; records = c.self.inside.records.items; ends = c.self.inside.ends.items; place = c.self.inside.place; next = c.self.inside.next } in
    let is : c.as_slice-ends.result.now ≡ inside.ends = c.as_slice-ends.ensures.value in
    let start_is : c.start_of.result ≡ start_of inside.ends inside.next = c.start_of.ensures.start ∙ ap (λ (l : List ℕ). start_of l inside.next) is in
    let long : length c.as_slice-ends.result.now ≡ length inside.ends = ap (λ (l : List ℕ). length l) is in
    let more : inside.next < length inside.ends = subst (λ (s : LeaderState). s.next < length s.ends) (sym c.self.view_is) c.requires.more in
    let fit : (k : ℕ) → inside.next ≤ k → k < c.first_beyond.result → get_or inside.ends k 0 ≤ start_of inside.ends inside.next + most_packet_octets =
    λ k from low. omega (arith, c.first_beyond.ensures.fit k from low, ap (λ (l : List ℕ). get_or l k 0) is, start_is) in
    let beyond : c.first_beyond.result < length inside.ends → start_of inside.ends inside.next + most_packet_octets < get_or inside.ends c.first_beyond.result 0 =
    λ less. omega (arith, c.first_beyond.ensures.beyond (omega (arith, less, long)), ap (λ (l : List ℕ). get_or l c.first_beyond.result 0) is, start_is) in
    record {
      fitting = subst (λ (s : LeaderState). AreAsManyAsFit s (c.first_beyond.result - c.self.inside.next)) c.self.view_is
          (fit_up_to inside c.first_beyond.result c.records_are_short.ensures.short c.self.invariant.ends more c.first_beyond.ensures.from (omega (arith, c.first_beyond.ensures.there, long)) fit beyond);
    }
