-- The turns of each CPU from each kept machine, in their order.
use Rattle.std.proofs.Common.{◌≡◌, ◌∙◌, ℕ, zero, suc, ◌+◌, ◌*◌, ◌/◌, ◌%◌, ◌<◌, ◌≤◌, List, [], ◌∷◌, ◌++◌, Option, Some, inl, inr, length}
use Rattle.std.proofs.Common.{map, refl, sym, ap, subst, append_assoc, length-append, add-one, arith}
use Rattle.std.specs.Prelude.{option_map, slice_get}
use Rattle.std.proofs.Math.Nat.{suc-mul}
use Rattle.std.proofs.lemmas.Bool.{cases_lt}
use Rattle.std.proofs.lemmas.List.{length-map, map-append}
use Rattle.std.proofs.lemmas.Option.{slice_get-map}
use Rattle.bpf_base.proofs.Lists.{slice_get-append, slice_get-front}
use Rattle.bpf_machine.specs.Machine.{MachineState}
use Rattle.bpf_explore.specs.declared.turns.Arrival.{Arrival}
use Rattle.bpf_explore.specs.declared.turns.Edge.{Edge}
use Rattle.bpf_explore.specs.declared.turns.Turns.{Turns}
use Rattle.bpf_explore.specs.Search.{IsIdleAt, row_of, rows_of}
use Rattle.bpf_explore.specs.Private.Edges.{AreEdges, AreTurns, edge_of, edges_of, turn_of}
use Rattle.bpf_explore.proofs.EdgeLaws.{count_edges, one_more_first}

-- ---- while they are made
pub one_more_turn : (first : List (ℕ × ℕ)) (place n : ℕ) → (first ++ row_of place n) ++ (place, n) ∷ [] ≡ first ++ row_of place (n + 1)
one_more_turn first place n = append_assoc first (row_of place n) ((place, n) ∷ []) ∙ ap (λ (k : ℕ). first ++ row_of place k) (sym (add-one n))

pub one_more_row : (cpus n : ℕ) → rows_of cpus n ++ row_of n cpus ≡ rows_of cpus (n + 1)
one_more_row cpus n = ap (rows_of cpus) (sym (add-one n))

-- ---- where each is
row_length : (i n : ℕ) → length (row_of i n) ≡ n
row_length i zero = refl
row_length i (suc n) =
    let both = length-append (row_of i n) ((i, n) ∷ []) in
    let far = row_length i n in
    omega arith

pub rows_length : (cpus n : ℕ) → length (rows_of cpus n) ≡ n * cpus
rows_length cpus zero = omega arith
rows_length cpus (suc n) =
    length-append (rows_of cpus n) (row_of n cpus) ∙ (ap (λ (k : ℕ). k + length (row_of n cpus)) (rows_length cpus n) ∙
    (ap (λ (k : ℕ). n * cpus + k) (row_length n cpus) ∙ sym (suc-mul n cpus)))

row_at : (i n c : ℕ) → c < n → slice_get (row_of i n) c ≡ Some (i, c)
row_at i zero c less = absurd (omega arith)
row_at i (suc n) c less =
    let size = row_length i n in elim (cases_lt c n) [
      | inl below ↦ slice_get-front (row_of i n) ((i, n) ∷ []) c (omega arith) ∙ row_at i n c below
      | inr past ↦
          let last : n ≡ c = omega arith in
          let place : c ≡ length (row_of i n) + 0 = omega arith in
          slice_get-append (row_of i n) ((i, n) ∷ []) 0 c place ∙ ap (λ (k : ℕ). Some (i, k)) last
    ]

pub inside_rows : (i c n cpus : ℕ) → i < n → c < cpus → i * cpus + c < n * cpus
inside_rows i c zero cpus less own = absurd (omega arith)
inside_rows i c (suc n) cpus less own =
    let step = suc-mul n cpus in elim (cases_lt i n) [
      | inl below ↦ let far = inside_rows i c n cpus below own in omega arith
      | inr past ↦
          let last : i ≡ n = omega arith in
          let same : i * cpus ≡ n * cpus = ap (λ (k : ℕ). k * cpus) last in
          omega arith
    ]

rows_at : (cpus n i c : ℕ) → i < n → c < cpus → slice_get (rows_of cpus n) (i * cpus + c) ≡ Some (i, c)
rows_at cpus zero i c less own = absurd (omega arith)
rows_at cpus (suc n) i c less own =
    let size = rows_length cpus n in elim (cases_lt i n) [
      | inl below ↦
          let inside = inside_rows i c n cpus below own in
          slice_get-front (rows_of cpus n) (row_of n cpus) (i * cpus + c) (omega arith) ∙ rows_at cpus n i c below own
      | inr past ↦
          let last : i ≡ n = omega arith in
          let same : i * cpus ≡ n * cpus = ap (λ (k : ℕ). k * cpus) last in
          let place : i * cpus + c ≡ length (rows_of cpus n) + c = omega arith in
          slice_get-append (rows_of cpus n) (row_of n cpus) c (i * cpus + c) place ∙ (row_at n cpus c own ∙ ap (λ (k : ℕ). Some (k, c)) (sym last))
    ]

-- ---- all of them
pub are_turns : (kept : List MachineState) (turns : Turns) → AreEdges turns.peers.items kept (edges_of turns.cpus turns.arrivals.items) → map turn_of
    (edges_of turns.cpus turns.arrivals.items) ≡ rows_of turns.cpus (length kept) → ((i c : ℕ) → turns.cpus ≤ c → IsIdleAt kept i c) →
    AreTurns kept turns
are_turns kept turns are made idle =
    let edges = edges_of turns.cpus turns.arrivals.items in record {
      count = sym (count_edges turns.cpus 0 turns.arrivals.items) ∙
          (sym (length-map edges turn_of) ∙ (ap (λ (ts : List (ℕ × ℕ)). length ts) made ∙ rows_length turns.cpus (length kept)));
      each = λ i c e less own at. (
          let here : slice_get (map turn_of edges) (i * turns.cpus + c) ≡ Some (turn_of e) = slice_get-map turn_of edges
          (i * turns.cpus + c) ∙ ap (λ (o : Option Edge). option_map turn_of o) at in
          let there = rows_at turns.cpus (length kept) i c less own in
          let two : Some (turn_of e) ≡ Some (i, c) = sym here ∙ (ap (λ (ts : List (ℕ × ℕ)). slice_get ts (i * turns.cpus + c)) made ∙ there) in
          let one : turn_of e ≡ (i, c) = cc in
          (ap (λ (t : ℕ × ℕ). t.0) one, ap (λ (t : ℕ × ℕ). t.1) one, are (i * turns.cpus + c) e at));
      idle = idle;
    }

pub turn_inside : (kept : List MachineState) (turns : Turns) (i c : ℕ) → AreTurns kept turns → i < length kept → c < turns.cpus → i *
    turns.cpus + c < length turns.arrivals.items
turn_inside kept turns i c are less own = subst (λ (n : ℕ). i * turns.cpus + c < n) (sym are.count) (inside_rows i c (length kept) turns.cpus less own)

pub one_more_made : (edges pushed : List Edge) (e : Edge) (turns : List (ℕ × ℕ)) → pushed ≡ edges ++ e ∷ [] → map turn_of edges ≡ turns →
    map turn_of pushed ≡ turns ++ turn_of e ∷ []
one_more_made edges pushed e turns push made =
    ap (map turn_of) push ∙ (map-append turn_of edges (e ∷ []) ∙ ap (λ (ts : List (ℕ × ℕ)). ts ++ turn_of e ∷ []) made)

-- one more where it is the next in the order
pub one_more_made_next : (cpus now : ℕ) (xs pushed : List Arrival) (place cpu to ahead : ℕ) (turns : List (ℕ × ℕ)) → length xs / cpus ≡
    place → length xs % cpus ≡ cpu → now ≡ cpus → map turn_of (edges_of cpus xs) ≡ turns → pushed ≡ xs ++ record { to = to; ahead = ahead }
    ∷ [] → map turn_of (edges_of now pushed) ≡ turns ++ (place, cpu) ∷ []
one_more_made_next cpus now xs pushed place cpu to ahead turns here own width made push =
    let a : Arrival = record { to = to; ahead = ahead } in
    let e = edge_of cpus (length xs) a in
    let both : turn_of e ≡ (place, cpu) = ap (λ (i : ℕ). (i, length xs % cpus)) here ∙ ap (λ (c : ℕ). (place, c)) own in
    let more = one_more_made (edges_of cpus xs) (edges_of cpus pushed) e turns (ap (edges_of cpus) push ∙ one_more_first cpus xs a) made in
    ap (λ (n : ℕ). map turn_of (edges_of n pushed)) width ∙ (more ∙ ap (λ (t : ℕ × ℕ). turns ++ t ∷ []) both)
