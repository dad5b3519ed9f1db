use Rattle.std.proofs.Common.{◌≡◌, ◌∙◌, ◌<◌, ◌/◌, ◌%◌, ℕ, List, Vec, Global, length, map, refl, sym, ap, subst, arith}
use Rattle.std.specs.Prelude.{vec_len}
use Rattle.bpf_machine.specs.Machine.{MachineState}
use Rattle.bpf_equal.specs.declared.peers.Peer.{Peer}
use Rattle.bpf_explore.specs.declared.turns.Edge.{Edge}
use Rattle.bpf_explore.specs.Album.{IsNumbered, PatientState}
use Rattle.bpf_explore.specs.Search.{IsTurned, Richly}
use Rattle.bpf_explore.specs.Private.Edges.{edges_of, turn_of}
use Rattle.bpf_explore.specs.Private.Peers.{IsKeptElsewhereAt}
use Rattle.bpf_explore.proofs.EdgeLaws.{edge_made}
use Rattle.bpf_explore.proofs.PatientStill.{none_arrived, one_arrived, patient_as, patient_more, patient_still}
use Rattle.bpf_explore.proofs.PermutedLaws.{same_extends, some_has}
use Rattle.bpf_explore.proofs.RichLaws.{here_elsewhere, turned_richly}
use Rattle.bpf_explore.proofs.RowLaws.{one_more_made_next}
use Rattle.bpf_explore.proofs.ScoutLaws.{same_has_more}
use Rattle.bpf_explore.proofs.SearchLaws.{more_again}
use Rattle.bpf_explore.proofs.patient.PatientExplorer.make.Goals as goal

pub invariant_of-self : goal.invariant_of-self
invariant_of-self c =
    let m = c.self.inside in
    let now = c.look.new.album in
    let there = subst (λ (a : PatientState). c.args.place < length a.kept) (sym c.self.view_is) c.requires in
    let still = patient_still m.origins.items m.arrivals.items m.scouts.scouts.items m.twins.peers.items m.twins.tables.items m.album.kept now.kept
    m.album.stock now.stock m.album.cpus now.cpus c.look.ensures.kept c.look.ensures.more c.look.ensures.cpus (omega (arith, there)) c.self.invariant in
    still

pub find_known-requires-clause-tables : goal.find_known-requires-clause-tables
find_known-requires-clause-tables c =
    let m = c.self.inside in
    let now = c.look.new.album in
    let there = subst (λ (a : PatientState). c.args.place < length a.kept) (sym c.self.view_is) c.requires in
    let still = patient_still m.origins.items m.arrivals.items m.scouts.scouts.items m.twins.peers.items m.twins.tables.items m.album.kept now.kept
    m.album.stock now.stock m.album.cpus now.cpus c.look.ensures.kept c.look.ensures.more c.look.ensures.cpus (omega (arith, there)) c.self.invariant in
    still.2.right

pub invariant_of-self-in_err-known : goal.invariant_of-self-in_err-known
invariant_of-self-in_err-known c =
    let m = c.self.inside in
    let now = c.look.new.album in
    let there = subst (λ (a : PatientState). c.args.place < length a.kept) (sym c.self.view_is) c.requires in
    let still = patient_still m.origins.items m.arrivals.items m.scouts.scouts.items m.twins.peers.items m.twins.tables.items m.album.kept now.kept
    m.album.stock now.stock m.album.cpus now.cpus c.look.ensures.kept c.look.ensures.more c.look.ensures.cpus (omega (arith, there)) c.self.invariant in
    let t = c.find_known.new.twins in
    patient_as now.kept now.stock now.cpus m.origins.items m.scouts.scouts.items m.arrivals.items m.twins.peers t.peers m.twins.tables t.tables
    c.find_known.ensures.peers c.find_known.ensures.tables
    (still)

-- ---- a machine that is the same but for places is kept
pub invariant_of-self-in_err-arrive : goal.invariant_of-self-in_err-arrive
invariant_of-self-in_err-arrive c =
    let m = c.self.inside in
    let now = c.look.new.album in
    let there = subst (λ (a : PatientState). c.args.place < length a.kept) (sym c.self.view_is) c.requires in
    let still = patient_still m.origins.items m.arrivals.items m.scouts.scouts.items m.twins.peers.items m.twins.tables.items m.album.kept now.kept
    m.album.stock now.stock m.album.cpus now.cpus c.look.ensures.kept c.look.ensures.more c.look.ensures.cpus (omega (arith, there)) c.self.invariant in
    let t = c.find_known.new.twins in
    patient_as now.kept now.stock now.cpus m.origins.items m.scouts.scouts.items c.arrive.new.arrivals.items m.twins.peers t.peers m.twins.tables t.tables
    c.find_known.ensures.peers c.find_known.ensures.tables
    (none_arrived now.kept now.stock now.cpus m.origins.items m.scouts.scouts.items m.arrivals.items c.arrive.new.arrivals.items
    m.twins.peers.items m.twins.tables.items c.in_err-arrive.ensures.err still)

pub invariant_of-self-in-Some : goal.invariant_of-self-in-Some
invariant_of-self-in-Some c =
    let m = c.self.inside in
    let now = c.look.new.album in
    let there = subst (λ (a : PatientState). c.args.place < length a.kept) (sym c.self.view_is) c.requires in
    let still = patient_still m.origins.items m.arrivals.items m.scouts.scouts.items m.twins.peers.items m.twins.tables.items m.album.kept now.kept
    m.album.stock now.stock m.album.cpus now.cpus c.look.ensures.kept c.look.ensures.more c.look.ensures.cpus (omega (arith, there)) c.self.invariant in
    let t = c.find_known.new.twins in
    let size : vec_len m.arrivals ≡ length m.arrivals.items = omega (arith, m.arrivals.ok.0) in
    let here : length m.arrivals.items / m.album.cpus ≡ c.args.place = subst (λ (n : ℕ). n / m.album.cpus ≡ c.args.place)
    (c.len-number.ensures ∙ size) (subst (λ (n : ℕ). c.len-number.result / n ≡ c.args.place) c.cpus-cpus.ensures.cpus
    (c.if-not-is_next.ensures.place refl)) in
    let own : length m.arrivals.items % m.album.cpus ≡ c.args.cpu = subst (λ (n : ℕ). n % m.album.cpus ≡ c.args.cpu)
    (c.len-number.ensures ∙ size) (subst (λ (n : ℕ). c.len-number.result % n ≡ c.args.cpu) c.cpus-cpus.ensures.cpus
    (c.if-not-is_next.ensures.cpu refl)) in
    let ahead = c.in_ok-ahead.ahead in
    let is = c.in_ok-ahead.ensures.turn in
    let numbered = subst (IsNumbered now.stock is.0) (sym c.deref.ensures.value) is.2 in
    let number = c.in-Some.number in
    let within = some_has (λ (n : ℕ). n < length now.kept) c.in_ok-known.known number c.in-Some.is c.in_ok-known.ensures.within in
    let found = some_has (λ (n : ℕ). (one : MachineState) → IsNumbered now.stock one c.deref.result.now → IsKeptElsewhereAt m.twins.peers.items
    now.kept n one) c.in_ok-known.known number c.in-Some.is c.in_ok-known.ensures.kept is.0 numbered in
    let more = same_extends m.album.kept now.kept c.look.ensures.kept in
    let e : Edge = record { from = c.args.place; to = number; ahead = ahead; cpu = c.args.cpu } in
    let edge = edge_made m.twins.peers.items m.album.kept now.kept is.1.old is.1.mid is.0 c.args.place c.args.cpu ahead number e is.1.at more
    is.1.leads.ahead is.1.refilled within found refl refl refl refl in
    patient_as now.kept now.stock now.cpus m.origins.items m.scouts.scouts.items c.arrive.new.arrivals.items m.twins.peers t.peers m.twins.tables t.tables
    c.find_known.ensures.peers c.find_known.ensures.tables
    (one_arrived now.kept now.stock now.cpus m.origins.items m.scouts.scouts.items m.arrivals.items c.arrive.new.arrivals.items
    m.twins.peers.items m.twins.tables.items m.album.cpus c.args.place c.args.cpu number ahead here own c.look.ensures.cpus edge
    c.in_ok-arrive.ensures.ok still)

pub returns-in-Some-clause-turned : goal.returns-in-Some-clause-turned
returns-in-Some-clause-turned c =
    let m = c.self.inside in
    let now = c.look.new.album in
    let ahead = c.in_ok-ahead.ahead in
    let is = c.in_ok-ahead.ensures.turn in
    let numbered = subst (IsNumbered now.stock is.0) (sym c.deref.ensures.value) is.2 in
    let number = c.in-Some.number in
    let found = some_has (λ (n : ℕ). (one : MachineState) → IsNumbered now.stock one c.deref.result.now → IsKeptElsewhereAt m.twins.peers.items
    now.kept n one) c.in_ok-known.known number c.in-Some.is c.in_ok-known.ensures.kept is.0 numbered in
    let more = same_extends m.album.kept now.kept c.look.ensures.kept in
    subst (λ (ps : Vec Peer Global). IsTurned (Richly ps.items) now.kept c.args.place c.args.cpu) (sym c.find_known.ensures.peers)
    (turned_richly m.twins.peers.items m.album.kept now.kept c.args.place c.args.cpu number is.1.old is.1.mid is.0 is.1.at more is.1.leads.turns
    is.1.refilled found)

pub returns-in-Some-clause-made : goal.returns-in-Some-clause-made
returns-in-Some-clause-made c turns made =
    let m = c.self.inside in
    let now = c.look.new.album in
    let size : vec_len m.arrivals ≡ length m.arrivals.items = omega (arith, m.arrivals.ok.0) in
    let here : length m.arrivals.items / m.album.cpus ≡ c.args.place = subst (λ (n : ℕ). n / m.album.cpus ≡ c.args.place)
    (c.len-number.ensures ∙ size) (subst (λ (n : ℕ). c.len-number.result / n ≡ c.args.place) c.cpus-cpus.ensures.cpus
    (c.if-not-is_next.ensures.place refl)) in
    let own : length m.arrivals.items % m.album.cpus ≡ c.args.cpu = subst (λ (n : ℕ). n % m.album.cpus ≡ c.args.cpu)
    (c.len-number.ensures ∙ size) (subst (λ (n : ℕ). c.len-number.result % n ≡ c.args.cpu) c.cpus-cpus.ensures.cpus
    (c.if-not-is_next.ensures.cpu refl)) in
    let ahead = c.in_ok-ahead.ahead in
    let number = c.in-Some.number in
    let was : map turn_of (edges_of m.album.cpus m.arrivals.items) ≡ turns = ap (λ (a : PatientState). a.made) c.self.view_is ∙ made in
    one_more_made_next m.album.cpus now.cpus m.arrivals.items c.arrive.new.arrivals.items c.args.place c.args.cpu number ahead turns here own
    c.look.ensures.cpus was c.in_ok-arrive.ensures.ok

-- ---- none is
pub keep_turn-requires-clause-whole : goal.keep_turn-requires-clause-whole
keep_turn-requires-clause-whole c =
    let m = c.self.inside in
    let now = c.look.new.album in
    let there = subst (λ (a : PatientState). c.args.place < length a.kept) (sym c.self.view_is) c.requires in
    let still = patient_still m.origins.items m.arrivals.items m.scouts.scouts.items m.twins.peers.items m.twins.tables.items m.album.kept now.kept
    m.album.stock now.stock m.album.cpus now.cpus c.look.ensures.kept c.look.ensures.more c.look.ensures.cpus (omega (arith, there)) c.self.invariant in
    still.0.2

pub invariant_of-self-in_err-number : goal.invariant_of-self-in_err-number
invariant_of-self-in_err-number c =
    let m = c.self.inside in
    let now = c.look.new.album in
    let there = subst (λ (a : PatientState). c.args.place < length a.kept) (sym c.self.view_is) c.requires in
    let still = patient_still m.origins.items m.arrivals.items m.scouts.scouts.items m.twins.peers.items m.twins.tables.items m.album.kept now.kept
    m.album.stock now.stock m.album.cpus now.cpus c.look.ensures.kept c.look.ensures.more c.look.ensures.cpus (omega (arith, there)) c.self.invariant in
    let t = c.find_known.new.twins in
    let all = c.keep_turn.new.album in
    let after = patient_more m.origins.items m.arrivals.items m.scouts.scouts.items m.twins.peers.items m.twins.tables.items now.kept all.kept
    now.stock all.stock now.cpus all.cpus c.keep_turn.new.origins.items c.keep_turn.ensures.origins c.keep_turn.ensures.whole
    c.keep_turn.ensures.extends (same_has_more now.stock all.stock c.keep_turn.ensures.stock) c.keep_turn.ensures.cpus
    (subst (λ (ms : List MachineState). 0 < length ms) (sym c.look.ensures.kept) (omega (arith, there))) still in
    patient_as all.kept all.stock all.cpus c.keep_turn.new.origins.items m.scouts.scouts.items m.arrivals.items m.twins.peers t.peers m.twins.tables t.tables
    c.find_known.ensures.peers c.find_known.ensures.tables
    (after)

pub invariant_of-self-in_err-add : goal.invariant_of-self-in_err-add
invariant_of-self-in_err-add c =
    let m = c.self.inside in
    let now = c.look.new.album in
    let there = subst (λ (a : PatientState). c.args.place < length a.kept) (sym c.self.view_is) c.requires in
    let still = patient_still m.origins.items m.arrivals.items m.scouts.scouts.items m.twins.peers.items m.twins.tables.items m.album.kept now.kept
    m.album.stock now.stock m.album.cpus now.cpus c.look.ensures.kept c.look.ensures.more c.look.ensures.cpus (omega (arith, there)) c.self.invariant in
    let t = c.find_known.new.twins in
    let all = c.keep_turn.new.album in
    let after = patient_more m.origins.items m.arrivals.items m.scouts.scouts.items m.twins.peers.items m.twins.tables.items now.kept all.kept
    now.stock all.stock now.cpus all.cpus c.keep_turn.new.origins.items c.keep_turn.ensures.origins c.keep_turn.ensures.whole
    c.keep_turn.ensures.extends (same_has_more now.stock all.stock c.keep_turn.ensures.stock) c.keep_turn.ensures.cpus
    (subst (λ (ms : List MachineState). 0 < length ms) (sym c.look.ensures.kept) (omega (arith, there))) still in
    patient_as all.kept all.stock all.cpus c.keep_turn.new.origins.items m.scouts.scouts.items m.arrivals.items m.twins.peers t.peers m.twins.tables t.tables
    c.find_known.ensures.peers c.find_known.ensures.tables
    (after)

pub invariant_of-self-in_err-arrive-2 : goal.invariant_of-self-in_err-arrive-2
invariant_of-self-in_err-arrive-2 c =
    let m = c.self.inside in
    let now = c.look.new.album in
    let there = subst (λ (a : PatientState). c.args.place < length a.kept) (sym c.self.view_is) c.requires in
    let still = patient_still m.origins.items m.arrivals.items m.scouts.scouts.items m.twins.peers.items m.twins.tables.items m.album.kept now.kept
    m.album.stock now.stock m.album.cpus now.cpus c.look.ensures.kept c.look.ensures.more c.look.ensures.cpus (omega (arith, there)) c.self.invariant in
    let t = c.find_known.new.twins in
    let all = c.keep_turn.new.album in
    let after = patient_more m.origins.items m.arrivals.items m.scouts.scouts.items m.twins.peers.items m.twins.tables.items now.kept all.kept
    now.stock all.stock now.cpus all.cpus c.keep_turn.new.origins.items c.keep_turn.ensures.origins c.keep_turn.ensures.whole
    c.keep_turn.ensures.extends (same_has_more now.stock all.stock c.keep_turn.ensures.stock) c.keep_turn.ensures.cpus
    (subst (λ (ms : List MachineState). 0 < length ms) (sym c.look.ensures.kept) (omega (arith, there))) still in
    patient_as all.kept all.stock all.cpus c.keep_turn.new.origins.items m.scouts.scouts.items c.arrive-2.new.arrivals.items m.twins.peers
    t.peers m.twins.tables t.tables
    c.find_known.ensures.peers c.find_known.ensures.tables
    (none_arrived all.kept all.stock all.cpus c.keep_turn.new.origins.items m.scouts.scouts.items m.arrivals.items
    c.arrive-2.new.arrivals.items m.twins.peers.items m.twins.tables.items c.in_err-arrive-2.ensures.err after)

pub invariant_of-self-2 : goal.invariant_of-self-2
invariant_of-self-2 c =
    let m = c.self.inside in
    let now = c.look.new.album in
    let there = subst (λ (a : PatientState). c.args.place < length a.kept) (sym c.self.view_is) c.requires in
    let still = patient_still m.origins.items m.arrivals.items m.scouts.scouts.items m.twins.peers.items m.twins.tables.items m.album.kept now.kept
    m.album.stock now.stock m.album.cpus now.cpus c.look.ensures.kept c.look.ensures.more c.look.ensures.cpus (omega (arith, there)) c.self.invariant in
    let t = c.find_known.new.twins in
    let all = c.keep_turn.new.album in
    let after = patient_more m.origins.items m.arrivals.items m.scouts.scouts.items m.twins.peers.items m.twins.tables.items now.kept all.kept
    now.stock all.stock now.cpus all.cpus c.keep_turn.new.origins.items c.keep_turn.ensures.origins c.keep_turn.ensures.whole
    c.keep_turn.ensures.extends (same_has_more now.stock all.stock c.keep_turn.ensures.stock) c.keep_turn.ensures.cpus
    (subst (λ (ms : List MachineState). 0 < length ms) (sym c.look.ensures.kept) (omega (arith, there))) still in
    let size : vec_len m.arrivals ≡ length m.arrivals.items = omega (arith, m.arrivals.ok.0) in
    let here : length m.arrivals.items / m.album.cpus ≡ c.args.place = subst (λ (n : ℕ). n / m.album.cpus ≡ c.args.place)
    (c.len-number.ensures ∙ size) (subst (λ (n : ℕ). c.len-number.result / n ≡ c.args.place) c.cpus-cpus.ensures.cpus
    (c.if-not-is_next.ensures.place refl)) in
    let own : length m.arrivals.items % m.album.cpus ≡ c.args.cpu = subst (λ (n : ℕ). n % m.album.cpus ≡ c.args.cpu)
    (c.len-number.ensures ∙ size) (subst (λ (n : ℕ). c.len-number.result % n ≡ c.args.cpu) c.cpus-cpus.ensures.cpus
    (c.if-not-is_next.ensures.cpu refl)) in
    let ahead = c.in_ok-ahead.ahead in
    let is = c.in_ok-ahead.ensures.turn in
    let numbered = subst (IsNumbered now.stock is.0) (sym c.deref-2.ensures.value) is.2 in
    let number = c.in_ok-number.number in
    let within = c.in_ok-number.ensures.within in
    let found = here_elsewhere m.twins.peers.items all.kept number is.0 (c.in_ok-number.ensures.kept is.0 numbered) in
    let more = more_again m.album.kept now.kept all.kept (same_extends m.album.kept now.kept c.look.ensures.kept) c.keep_turn.ensures.extends in
    let e : Edge = record { from = c.args.place; to = number; ahead = ahead; cpu = c.args.cpu } in
    let edge = edge_made m.twins.peers.items m.album.kept all.kept is.1.old is.1.mid is.0 c.args.place c.args.cpu ahead number e is.1.at more
    is.1.leads.ahead is.1.refilled within found refl refl refl refl in
    patient_as all.kept all.stock all.cpus c.keep_turn.new.origins.items m.scouts.scouts.items c.arrive-2.new.arrivals.items m.twins.peers
    t.peers m.twins.tables t.tables
    c.find_known.ensures.peers c.find_known.ensures.tables
    (one_arrived all.kept all.stock all.cpus c.keep_turn.new.origins.items m.scouts.scouts.items m.arrivals.items
    c.arrive-2.new.arrivals.items m.twins.peers.items m.twins.tables.items m.album.cpus c.args.place c.args.cpu number ahead here own
    (c.keep_turn.ensures.cpus ∙ c.look.ensures.cpus) edge c.in_ok-arrive-2.ensures.ok after)

pub returns-clause-turned : goal.returns-clause-turned
returns-clause-turned c =
    let m = c.self.inside in
    let now = c.look.new.album in
    let all = c.keep_turn.new.album in
    let is = c.in_ok-ahead.ensures.turn in
    let numbered = subst (IsNumbered now.stock is.0) (sym c.deref-2.ensures.value) is.2 in
    let number = c.in_ok-number.number in
    let found = here_elsewhere m.twins.peers.items all.kept number is.0 (c.in_ok-number.ensures.kept is.0 numbered) in
    let more = more_again m.album.kept now.kept all.kept (same_extends m.album.kept now.kept c.look.ensures.kept) c.keep_turn.ensures.extends in
    subst (λ (ps : Vec Peer Global). IsTurned (Richly ps.items) all.kept c.args.place c.args.cpu) (sym c.find_known.ensures.peers)
    (turned_richly m.twins.peers.items m.album.kept all.kept c.args.place c.args.cpu number is.1.old is.1.mid is.0 is.1.at more is.1.leads.turns
    is.1.refilled found)

pub returns-clause-made : goal.returns-clause-made
returns-clause-made c turns made =
    let m = c.self.inside in
    let all = c.keep_turn.new.album in
    let size : vec_len m.arrivals ≡ length m.arrivals.items = omega (arith, m.arrivals.ok.0) in
    let here : length m.arrivals.items / m.album.cpus ≡ c.args.place = subst (λ (n : ℕ). n / m.album.cpus ≡ c.args.place)
    (c.len-number.ensures ∙ size) (subst (λ (n : ℕ). c.len-number.result / n ≡ c.args.place) c.cpus-cpus.ensures.cpus
    (c.if-not-is_next.ensures.place refl)) in
    let own : length m.arrivals.items % m.album.cpus ≡ c.args.cpu = subst (λ (n : ℕ). n % m.album.cpus ≡ c.args.cpu)
    (c.len-number.ensures ∙ size) (subst (λ (n : ℕ). c.len-number.result % n ≡ c.args.cpu) c.cpus-cpus.ensures.cpus
    (c.if-not-is_next.ensures.cpu refl)) in
    let ahead = c.in_ok-ahead.ahead in
    let number = c.in_ok-number.number in
    let was : map turn_of (edges_of m.album.cpus m.arrivals.items) ≡ turns = ap (λ (a : PatientState). a.made) c.self.view_is ∙ made in
    one_more_made_next m.album.cpus all.cpus m.arrivals.items c.arrive-2.new.arrivals.items c.args.place c.args.cpu number ahead turns here own
    (c.keep_turn.ensures.cpus ∙ c.look.ensures.cpus) was c.in_ok-arrive-2.ensures.ok
