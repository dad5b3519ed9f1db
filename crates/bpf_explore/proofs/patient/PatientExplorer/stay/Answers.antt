use Rattle.std.proofs.Common.{◌≡◌, ◌∙◌, ◌<◌, ◌/◌, ◌%◌, ℕ, List, length, map, refl, sym, ap, subst, arith}
use Rattle.std.specs.Prelude.{vec_len}
use Rattle.bpf_explore.specs.declared.turns.Arrival.{Arrival}
use Rattle.bpf_explore.specs.declared.turns.Edge.{Edge}
use Rattle.bpf_explore.specs.Album.{PatientState}
use Rattle.bpf_explore.specs.Search.{Richly, IsIdleAt, IsTurned}
use Rattle.bpf_explore.specs.Private.Edges.{edges_of, turn_of}
use Rattle.bpf_explore.proofs.EdgeLaws.{idle_edge, one_more_placed}
use Rattle.bpf_explore.proofs.RowLaws.{one_more_made_next}
use Rattle.bpf_explore.proofs.SearchLaws.{idle_turned}
use Rattle.bpf_explore.proofs.TurnedLaws.{IsTracked}
use Rattle.bpf_explore.proofs.patient.PatientExplorer.stay.Goals as goal

pub invariant_of-self : goal.invariant_of-self
invariant_of-self c =
    let m = c.self.inside in (
      subst (λ (arrivals : List Arrival). IsTracked m.twins.peers.items m.album.kept m.album.cpus m.origins.items arrivals) (sym c.in_err-push.ensures.items)
          c.self.invariant.0,
      c.self.invariant.1,
      c.self.invariant.2,
    )

pub invariant_of-self-2 : goal.invariant_of-self-2
invariant_of-self-2 c =
    let m = c.self.inside in
    let inside = subst (λ (a : PatientState). c.args.place < length a.kept) (sym c.self.view_is) c.requires.there in
    let idle = subst (λ (a : PatientState). IsIdleAt a.kept c.args.place c.args.cpu) (sym c.self.view_is) c.requires.idle in
    let e : Edge = record { from = c.args.place; to = c.in_ok-to.to; ahead = 0; cpu = c.args.cpu } in
    let edge = idle_edge m.twins.peers.items m.album.kept c.args.place c.args.cpu e inside idle refl c.in_ok-to.ensures refl refl in
    let size : vec_len m.arrivals ≡ length m.arrivals.items = omega (arith, m.arrivals.ok.0) in
    let here : length m.arrivals.items / m.album.cpus ≡ c.args.place = subst (λ (n : ℕ). n / m.album.cpus ≡ c.args.place)
    (c.len-number.ensures ∙ size) (subst (λ (n : ℕ). c.len-number.result / n ≡ c.args.place) c.cpus-cpus.ensures.cpus
    (c.if-not-is_next.ensures.place refl)) in
    let own : length m.arrivals.items % m.album.cpus ≡ c.args.cpu = subst (λ (n : ℕ). n % m.album.cpus ≡ c.args.cpu)
    (c.len-number.ensures ∙ size) (subst (λ (n : ℕ). c.len-number.result % n ≡ c.args.cpu) c.cpus-cpus.ensures.cpus
    (c.if-not-is_next.ensures.cpu refl)) in (
      (
        c.self.invariant.0.0,
        one_more_placed m.twins.peers.items m.album.kept m.album.cpus m.album.cpus m.arrivals.items c.push.new.self.items c.args.place
            c.args.cpu c.in_ok-to.to 0
            here own refl c.self.invariant.0.1 edge c.in_ok-push.ensures.items,
        c.self.invariant.0.2,
      ),
      c.self.invariant.1,
      c.self.invariant.2,
    )

pub returns-clause-turned : goal.returns-clause-turned
returns-clause-turned c =
    let idle = idle_turned (Richly c.args.self.now.peers) c.args.self.now.kept c.args.place c.args.cpu c.requires.idle in
    subst (λ (a : PatientState). IsTurned (Richly a.peers) a.kept c.args.place c.args.cpu) (sym c.self.view_is) idle

pub returns-clause-made : goal.returns-clause-made
returns-clause-made c turns made =
    let m = c.self.inside in
    let size : vec_len m.arrivals ≡ length m.arrivals.items = omega (arith, m.arrivals.ok.0) in
    let here : length m.arrivals.items / m.album.cpus ≡ c.args.place = subst (λ (n : ℕ). n / m.album.cpus ≡ c.args.place)
    (c.len-number.ensures ∙ size) (subst (λ (n : ℕ). c.len-number.result / n ≡ c.args.place) c.cpus-cpus.ensures.cpus
    (c.if-not-is_next.ensures.place refl)) in
    let own : length m.arrivals.items % m.album.cpus ≡ c.args.cpu = subst (λ (n : ℕ). n % m.album.cpus ≡ c.args.cpu)
    (c.len-number.ensures ∙ size) (subst (λ (n : ℕ). c.len-number.result % n ≡ c.args.cpu) c.cpus-cpus.ensures.cpus
    (c.if-not-is_next.ensures.cpu refl)) in
    let was : map turn_of (edges_of m.album.cpus m.arrivals.items) ≡ turns = ap (λ (a : PatientState). a.made) c.self.view_is ∙ made in
    one_more_made_next m.album.cpus m.album.cpus m.arrivals.items c.push.new.self.items c.args.place c.args.cpu c.in_ok-to.to 0 turns here
    own refl was c.in_ok-push.ensures.items
