-- Moves that are made again, and what is kept of a CPU's turns among them.
use Rattle.std.proofs.Common.{◌≡◌, ℕ, ◌+◌, ◌<◌, ◌≤◌, Bool, true, false, ◌&&◌, if◌then◌else◌, List, [], ◌∷◌, ◌++◌, length, take, get_or, replicate}
use Rattle.std.proofs.Common.{Option, Some, None, refl, sym, ap, subst}
use Rattle.std.specs.Prelude.{◌==◌}
use Rattle.std.proofs.lemmas.Bool.{and_parts, eqb-true}
use Rattle.std.proofs.lemmas.List.{take_all}
use Rattle.std.proofs.lemmas.Grind.{replicate_next}
use Rattle.bpf_cpu.specs.Task.{Task}
use Rattle.bpf_machine.specs.declared.machine.Turn.{Turn}
use Rattle.bpf_x86.specs.Machine.{X86, Move, TurnOf, FlushOf}
use Rattle.bpf_buffering.specs.Search.{BufferedState, MovesTo, buffer_at, move_of}
use Rattle.bpf_buffering.specs.Buffering.{TurnsTo}
use Rattle.bpf_flushes.specs.Moves.{Makes}
use Rattle.bpf_flushes.proofs.Turning.{flush_made}
use Rattle.bpf_debug.specs.declared.recall.Kind.{Kind}
use Rattle.bpf_debug.specs.declared.recall.Recall.{Recall}
use Rattle.bpf_debug.specs.Answer.{IsWhere}
use Rattle.bpf_debug.specs.Recall.{IsLastText, IsRecall, IsStand, Past, is_of, past_after}
use Rattle.bpf_buffer_debug.specs.Moves.{all_moves}
use Rattle.bpf_buffer_debug.specs.Recall.{Recalls, RecallsTo}
use Rattle.bpf_buffer_debug.proofs.MoveLaws.{one_run_more}

-- ---- one after the other
recalls_both : (k : Kind) (c : ℕ) (ms ns : List Move) (x y z : X86) (old mid new : Option Past) → Recalls k c x old ms mid y → Recalls k c y mid ns new z
    → Recalls k c x old (ms ++ ns) new z
recalls_both k c [] ns x y z old mid new a b =
    subst (λ (p : Option Past). Recalls k c x p ns new z) a.0 (subst (λ (w : X86). Recalls k c w mid ns new z) a.1 b)
recalls_both k c (m ∷ ms) ns x y z old mid new a b = (a.0, a.1, a.2, recalls_both k c ms ns a.0 y z a.1 mid new a.3 b)

pub none_recalled : (k : Kind) (c : ℕ) (m : BufferedState) (kept : Option Recall) → RecallsTo k c m kept [] m kept
none_recalled k c m kept x shows past is = (x, past, (refl, refl), shows, is)

both_recalled : (k : Kind) (c : ℕ) (ms ns : List Move) (old mid new : BufferedState) (before between after : Option Recall)
    → RecallsTo k c old before ms mid between → RecallsTo k c mid between ns new after → RecallsTo k c old before (ms ++ ns) new after
both_recalled k c ms ns old mid new before between after p q x shows past is =
    let r = p x shows past is in
    let t = q r.0 r.3 r.1 r.4 in
    (t.0, t.1, recalls_both k c ms ns x r.0 t.0 past r.1 t.1 r.2 t.2, t.3, t.4)

-- ---- one move
-- a turn of the CPU, of the kind
pub kept_turn : (k : Kind) (c d : ℕ) (old new : BufferedState) (kept : Option Recall) (more : Recall) (answer : Turn) → ((d == c) && is_of k answer) ≡ true
    → IsStand old.machine.jobs d more.stand → more.turn ≡ answer → TurnsTo old d answer new → RecallsTo k c old kept (TurnOf d ∷ []) new (Some more)
kept_turn k c d old new kept more answer is stands same turns x shows past was =
    let t = turns x shows in
    let now : Option Past = Some (record { before = x.world; answer = answer }) in
    let after : past_after k c x.world d answer past ≡ now = ap (λ (b : Bool). if b then now else past) is in
    let own : d ≡ c = eqb-true d c (and_parts (d == c) (is_of k answer) is).0 in
    let here : IsStand x.world.jobs d more.stand = subst (λ (jobs : List Task). IsStand jobs d more.stand) (sym shows.world.jobs) stands in (
      t.0,
      now,
      (t.0, now, (answer, t.1, sym after), (refl, refl)),
      t.2,
      (subst (λ (n : ℕ). IsStand x.world.jobs n more.stand) own here, same),
    )

-- another turn
pub passed_turn : (k : Kind) (c d : ℕ) (old new : BufferedState) (kept : Option Recall) (answer : Turn) → ((d == c) && is_of k answer) ≡ false
    → TurnsTo old d answer new → RecallsTo k c old kept (TurnOf d ∷ []) new kept
passed_turn k c d old new kept answer is turns x shows past was =
    let t = turns x shows in
    let now : Option Past = Some (record { before = x.world; answer = answer }) in
    let after : past_after k c x.world d answer past ≡ past = ap (λ (b : Bool). if b then now else past) is in
    (t.0, past, (t.0, past, (answer, t.1, sym after), (refl, refl)), t.2, was)

-- a flush
pub passed_flush : (k : Kind) (c d : ℕ) (old new : BufferedState) (kept : Option Recall) (flushed : Bool) → (flushed ≡ true → MovesTo old (FlushOf d) new)
    → (flushed ≡ false → buffer_at old.buffers d ≡ []) → (flushed ≡ false → new ≡ old) → RecallsTo k c old kept (FlushOf d ∷ []) new kept
passed_flush k c d old new kept flushed moves none same x shows past was =
    let t = flush_made old new d flushed moves none same x shows in
    let makes : Makes x (FlushOf d) t.0 = subst (λ (z : X86). Makes x (FlushOf d) z) (sym t.1.2) t.1.1 in
    (t.0, past, (t.0, past, (makes, refl), (refl, refl)), t.2, was)

-- ---- several
pub one_more : (k : Kind) (c : ℕ) (old mid new : BufferedState) (move : Move) (n : ℕ) (before between after : Option Recall)
    → RecallsTo k c old before (replicate n move) mid between → RecallsTo k c mid between (move ∷ []) new after
    → RecallsTo k c old before (replicate (n + 1) move) new after
one_more k c old mid new move n before between after made here =
    subst (λ (ms : List Move). RecallsTo k c old before ms new after) (sym (replicate_next n move))
    (both_recalled k c (replicate n move) (move ∷ []) old mid new before between after made here)

pub next_run : (k : Kind) (c : ℕ) (old mid new : BufferedState) (runs : List (ℕ × ℕ)) (i : ℕ) (d : ℕ × ℕ) (before between after : Option Recall)
    → i < length runs → RecallsTo k c old before (all_moves (take i runs)) mid between
    → RecallsTo k c mid between (replicate (get_or runs i d).1 (move_of (get_or runs i d).0)) new after
    → RecallsTo k c old before (all_moves (take (i + 1) runs)) new after
next_run k c old mid new runs i d before between after inside made here =
    let run = get_or runs i d in
    subst (λ (ms : List Move). RecallsTo k c old before ms new after) (sym (one_run_more runs i d inside))
    (both_recalled k c (all_moves (take i runs)) (replicate run.1 (move_of run.0)) old mid new before between after made here)

pub all_runs : (k : Kind) (c : ℕ) (old new : BufferedState) (runs : List (ℕ × ℕ)) (i : ℕ) (before after : Option Recall) → length runs ≤ i
    → RecallsTo k c old before (all_moves (take i runs)) new after → RecallsTo k c old before (all_moves runs) new after
all_runs k c old new runs i before after past made =
    subst (λ (rs : List (ℕ × ℕ)). RecallsTo k c old before (all_moves rs) new after) (take_all i runs past) made

-- ---- what is printed where no turn is kept
is_told : (c : ℕ) (jobs : List Task) (text : List ℕ) → IsWhere jobs c text → (past : Option Past) → IsRecall c None past → IsLastText c past jobs text
is_told c jobs text is None none = is
is_told c jobs text is (Some past) none = absurd none

pub where_told : (recall : Option Recall) (c : ℕ) (jobs : List Task) (text : List ℕ) → recall ≡ None → IsWhere jobs c text → (past : Option Past)
    → IsRecall c recall past → IsLastText c past jobs text
where_told recall c jobs text same is =
    subst (λ (r : Option Recall). (past : Option Past) → IsRecall c r past → IsLastText c past jobs text) (sym same) (is_told c jobs text is)
