-- Turns from kept machines, while more are kept.
use Rattle.std.proofs.Common.{◌≡◌, ◌∙◌, ℕ, zero, suc, ◌+◌, ◌/◌, ◌%◌, ◌<◌, List, [], ◌∷◌, ◌++◌, Some, inl, inr, length, refl, sym, ap, subst}
use Rattle.std.proofs.Common.{append-nil, length-append, arith}
use Rattle.std.specs.Prelude.{slice_get}
use Rattle.std.proofs.lemmas.Bool.{cases_lt}
use Rattle.std.proofs.lemmas.Option.{slice_get_cases, slice_get_within}
use Rattle.bpf_base.proofs.Lists.{slice_get-front}
use Rattle.bpf_machine.specs.Machine.{MachineState}
use Rattle.bpf_machine.specs.declared.machine.Turn.TheVariants as turn
use Rattle.bpf_machine.specs.declared.machine.ahead.Headway.TheVariants.{Idle}
use Rattle.bpf_machine.proofs.TurnLaws.{turn_idle}
use Rattle.bpf_alike.proofs.Like.{all_like}
use Rattle.bpf_machine.specs.Cover.{TurnsAhead}
use Rattle.bpf_equal.specs.declared.peers.Peer.{Peer}
use Rattle.bpf_equal.specs.Patient.{IsKeptPermutedRichlyAt}
use Rattle.bpf_machine.specs.Patient.{IsRefilled}
use Rattle.bpf_explore.specs.declared.turns.Arrival.{Arrival}
use Rattle.bpf_explore.specs.declared.turns.Edge.{Edge}
use Rattle.bpf_explore.specs.Search.{Extends, IsIdleAt}
use Rattle.bpf_explore.specs.Private.Edges.{IsEdge, AreEdges, IsEdgeOf, edge_of, edges_from}
use Rattle.bpf_explore.specs.Private.Peers.{IsKeptElsewhereAt}
use Rattle.bpf_explore.proofs.AlbumLaws.{still_at}
use Rattle.bpf_explore.proofs.RichLaws.{here_elsewhere, richly_kept}

module _ (peers : List Peer) where
  pub no_edges : (kept : List MachineState) → AreEdges peers kept []
  no_edges kept k e at = cc

longer : (old new : List MachineState) → Extends old new → (i : ℕ) → i < length old → i < length new
longer old new more i less =
    let both = length-append old more.0 in
    let size = ap (λ (ms : List MachineState). length ms) more.1 in
    omega arith

module _ (peers : List Peer) where
  pub edges_still : (old new : List MachineState) (edges : List Edge) → Extends old new → AreEdges peers old edges → AreEdges peers new edges
  edges_still old new edges more are k e at =
      let is = are k e at in
      record {
        inside = longer old new more e.to is.inside;
        old = is.old;
        new = is.new;
        there = still_at old new e.«from» is.old is.there more;
        turns = is.turns;
        is_kept = λ w shows. (
            let r = is.is_kept w shows in
            let t = r.2.2.2 in
            (r.0, r.1, (r.2.0, r.2.1, (r.2.2.0, r.2.2.1, (t.0, still_at old new e.to t.0 t.1 more, t.2)))));
      }

-- ---- turns by their numbers
pub one_more_arrival : (cpus n : ℕ) (xs : List Arrival) (a : Arrival) → edges_from cpus n (xs ++ a ∷ []) ≡ edges_from cpus n xs ++ edge_of
    cpus (n + length xs) a ∷ []
one_more_arrival cpus n [] a =
    let here : n ≡ n + 0 = omega arith in
    ap (λ (k : ℕ). edge_of cpus k a ∷ []) here
one_more_arrival cpus n (x ∷ xs) a =
    let far = one_more_arrival cpus (suc n) xs a in
    let next : suc n + length xs ≡ n + suc (length xs) = omega arith in
    ap (λ (es : List Edge). edge_of cpus n x ∷ es) (far ∙ ap (λ (k : ℕ). edges_from cpus (suc n) xs ++ edge_of cpus k a ∷ []) next)

-- the same where the first is 0
pub one_more_first : (cpus : ℕ) (xs : List Arrival) (a : Arrival) → edges_from cpus 0 (xs ++ a ∷ []) ≡ edges_from cpus 0 xs ++ edge_of cpus (length xs) a ∷ []
one_more_first cpus xs a =
    let next : 0 + length xs ≡ length xs = omega arith in
    one_more_arrival cpus 0 xs a ∙ ap (λ (k : ℕ). edges_from cpus 0 xs ++ edge_of cpus k a ∷ []) next

pub count_edges : (cpus n : ℕ) (xs : List Arrival) → length (edges_from cpus n xs) ≡ length xs
count_edges cpus n [] = refl
count_edges cpus n (x ∷ xs) = ap suc (count_edges cpus (suc n) xs)

pub read_edge : (cpus n : ℕ) (xs : List Arrival) (k : ℕ) (a : Arrival) → slice_get xs k ≡ Some a → slice_get (edges_from cpus n xs) k ≡ Some
    (edge_of cpus (n + k) a)
read_edge cpus n [] k a at = cc
read_edge cpus n (x ∷ xs) zero a at =
    let same : x ≡ a = cc in
    let here : n ≡ n + zero = omega arith in
    ap (λ (y : Arrival). Some (edge_of cpus n y)) same ∙ ap (λ (m : ℕ). Some (edge_of cpus m a)) here
read_edge cpus n (x ∷ xs) (suc k) a at =
    let next : suc n + k ≡ n + suc k = omega arith in
    read_edge cpus (suc n) xs k a at ∙ ap (λ (m : ℕ). Some (edge_of cpus m a)) next

-- the turn of a number is this one
pub this_edge : (cpus n place cpu to ahead : ℕ) → n / cpus ≡ place → n % cpus ≡ cpu → (P : Edge → Type 0) → P
    (record { «from» = place; to = to; ahead = ahead; cpu = cpu }) → P (edge_of cpus n (record { to = to; ahead = ahead }))
this_edge cpus n place cpu to ahead here own P is =
    subst (λ (i : ℕ). P (record { «from» = i; to = to; ahead = ahead; cpu = n % cpus })) (sym here)
    (subst (λ (c : ℕ). P (record { «from» = place; to = to; ahead = ahead; cpu = c })) (sym own) is)

module _ (peers : List Peer) where
  -- the turn by a CPU from a machine, with these given
  pub placed_edge : (kept : List MachineState) (i c : ℕ) (e : Edge) → IsEdgeOf peers kept i c e → IsEdgeOf peers kept i c
      (record { «from» = i; to = e.to; ahead = e.ahead; cpu = c })
  placed_edge kept i c e (from, own, is) = (
    refl,
    refl,
    record {
      inside = is.inside;
      old = is.old;
      new = is.new;
      there = subst (λ (k : ℕ). slice_get kept k ≡ Some is.old) from is.there;
      turns = subst (λ (d : ℕ). TurnsAhead is.old d e.ahead is.new) own is.turns;
      is_kept = is.is_kept;
    },
  )

at_end : (edges : List Edge) (e : Edge) → slice_get (edges ++ e ∷ []) (length edges) ≡ Some e
at_end [] e = refl
at_end (x ∷ xs) e = at_end xs e

module _ (peers : List Peer) where
  pub one_more_edge : (kept : List MachineState) (edges pushed : List Edge) (e : Edge) → AreEdges peers kept edges → IsEdge peers kept e → pushed ≡ edges
      ++ e ∷ [] → AreEdges peers kept pushed
  one_more_edge kept edges pushed e are is same k x at = elim (cases_lt k (length edges)) [
    | inl below ↦ are k x (sym (slice_get-front edges (e ∷ []) k below) ∙ there)
    | inr past ↦
        let inside = slice_get_within (edges ++ e ∷ []) k x there in
        let both = length-append edges (e ∷ []) in
        let last : length edges ≡ k = omega arith in
        let two : Some e ≡ Some x = sym (at_end edges e) ∙ (ap (slice_get (edges ++ e ∷ [])) last ∙ there) in
        let one : e ≡ x = cc in
        subst (IsEdge peers kept) one is
  ]
    where
      there : slice_get (edges ++ e ∷ []) k ≡ Some x
      there = ap (λ (es : List Edge). slice_get es k) (sym same) ∙ at

  pub edge_made : (old new : List MachineState) (restored after refilled : MachineState) (place cpu made n : ℕ) (e : Edge) → slice_get old
      place ≡ Some restored → Extends old new → TurnsAhead restored cpu made after → IsRefilled after cpu refilled → n < length new →
      IsKeptElsewhereAt peers new n refilled
      → e.«from» ≡ place → e.to ≡ n → e.ahead ≡ made → e.cpu ≡ cpu → IsEdge peers new e
  edge_made old new restored after refilled place cpu made n e at more turns refills within is from to ahead own =
      let P : ℕ → Type 0 = λ i. slice_get new i ≡ Some restored in record {
        inside = subst (λ (k : ℕ). k < length new) (sym to) within;
        old = restored;
        new = after;
        there = subst P (sym from) (still_at old new place restored at more);
        turns = subst (λ (k : ℕ). TurnsAhead restored e.cpu k after) (sym ahead) (subst (λ (k : ℕ). TurnsAhead restored k made after) (sym own) turns);
        is_kept = subst (λ (k : ℕ). IsKeptPermutedRichlyAt peers new k after) (sym to) (richly_kept peers new after refilled cpu n refills is);
      }

some_at : (kept : List MachineState) (i : ℕ) → i < length kept → (m : MachineState) × (slice_get kept i ≡ Some m)
some_at kept i inside = elim ((slice_get_cases kept i).1) [
  | inl r ↦ (r.0, r.2)
  | inr past ↦ let end = past.0 in absurd (omega arith)
]

module _ (peers : List Peer) where
  -- the turn of a CPU without work
  pub idle_edge : (kept : List MachineState) (place cpu : ℕ) (e : Edge) → place < length kept → IsIdleAt kept place cpu → e.«from» ≡ place → e.to ≡ place
      → e.ahead ≡ 0 → e.cpu ≡ cpu → IsEdge peers kept e
  idle_edge kept place cpu e inside idle from to ahead own =
      let there = some_at kept place inside in
      let m = there.0 in
      let none = idle m there.1 in
      let turns : TurnsAhead m cpu 0 m = (turn.Idle, m, Idle, turn_idle m cpu none.0 none.1, (refl, none.0, none.1), refl) in
      edge_made peers kept kept m m m place cpu 0 place e there.1 ([], sym (append-nil kept)) turns (inl (none.0, refl)) inside
      (here_elsewhere peers kept place m (λ w shows. (w.jobs, all_like w.programs w.jobs, (m, there.1, shows)))) from to ahead own

  -- one more where it is the next in the order
  pub one_more_placed : (kept : List MachineState) (cpus now : ℕ) (xs pushed : List Arrival) (place cpu to ahead : ℕ) → length xs / cpus ≡
      place → length xs % cpus ≡ cpu → now ≡ cpus → AreEdges peers kept (edges_from now 0 xs) → IsEdge peers kept
      (record { «from» = place; to = to; ahead = ahead; cpu = cpu }) → pushed ≡ xs ++ record { to = to; ahead = ahead } ∷ [] → AreEdges peers kept
      (edges_from now 0 pushed)
  one_more_placed kept cpus now xs pushed place cpu to ahead here own width are is push =
      let a : Arrival = record { to = to; ahead = ahead } in
      let P : Edge → Type 0 = IsEdge peers kept in
      let e = this_edge now (length xs) place cpu to ahead (ap (λ (n : ℕ). length xs / n) width ∙ here) (ap (λ (n : ℕ). length xs % n) width ∙ own) P is in
      one_more_edge peers kept (edges_from now 0 xs) (edges_from now 0 pushed) (edge_of now (length xs) a) are e
      (ap (edges_from now 0) push ∙ one_more_first now xs a)
