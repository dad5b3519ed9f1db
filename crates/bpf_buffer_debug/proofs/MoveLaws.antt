-- Moves with the lines of the jobs that end in them: how far they have come.
use Rattle.std.proofs.Common.{◌≡◌, ◌∙◌, ℕ, zero, suc, ◌+◌, ◌<◌, ◌≤◌, Bool, true, false, List, [], ◌∷◌, ◌++◌, append_assoc, append-nil, length, map, take}
use Rattle.std.proofs.Common.{replicate, get_or, inl, refl, sym, ap, subst}
use Rattle.std.proofs.lemmas.List.{map-append, take_more, take_all}
use Rattle.std.proofs.lemmas.Grind.{replicate_next}
use Rattle.bpf_machine.specs.declared.machine.Turn.{Turn}
use Rattle.bpf_machine.specs.Schedule.{unrolled}
use Rattle.bpf_x86.specs.Machine.{X86, Move, TurnOf, FlushOf}
use Rattle.bpf_buffering.specs.Search.{BufferedState, ShowsX86, MovesTo, buffer_at, move_of}
use Rattle.bpf_buffering.specs.Buffering.{TurnsTo}
use Rattle.bpf_flushes.specs.Moves.{Makes, MakesAll, MakesTo}
use Rattle.bpf_flushes.proofs.Turning.{flush_made}
use Rattle.bpf_debug.specs.Answer.{ended_text}
use Rattle.bpf_buffer_debug.specs.Moves.{TellsMove, TellsMoves, TellsTo, all_moves}

-- ---- the moves are made
made_one : (x : X86) (move : Move) (text : List ℕ) (z : X86) → TellsMove x move text z → Makes x move z
made_one x (TurnOf c) text z told = inl (told.0, told.1)
made_one x (FlushOf c) text z told = told.0

pub made_all : (x : X86) (moves : List Move) (text : List ℕ) (z : X86) → TellsMoves x moves text z → MakesAll x moves z
made_all x [] text z told = told.1
made_all x (move ∷ moves) text z told = (told.0, made_one x move told.1 told.0 told.3, made_all told.0 moves told.2 z told.4)

-- ---- one after the other
tells_both : (ms ns : List Move) (x y z : X86) (before more : List ℕ) → TellsMoves x ms before y → TellsMoves y ns more z →
    TellsMoves x (ms ++ ns) (before ++ more) z
tells_both [] ns x y z before more p q =
    subst (λ (s : List ℕ). TellsMoves x ns (s ++ more) z) (sym p.0) (subst (λ (w : X86). TellsMoves w ns more z) p.1 q)
tells_both (m ∷ ms) ns x y z before more p q = (
  p.0,
  p.1,
  p.2 ++ more,
  p.3,
  tells_both ms ns p.0 y z p.2 more p.4 q,
  ap (λ (s : List ℕ). s ++ more) p.5 ∙ append_assoc p.1 p.2 more,
)

pub none_told : (old : BufferedState) (before : List ℕ) → TellsTo old [] before old before
none_told old before x shows = (x, [], (refl, refl), shows, sym (append-nil before))

pub told_both : (ms ns : List Move) (old mid new : BufferedState) (before between after : List ℕ) → TellsTo old ms before mid between →
    TellsTo mid ns between new after → TellsTo old (ms ++ ns) before new after
told_both ms ns old mid new before between after p q x shows =
    let r = p x shows in
    let t = q r.0 r.3 in (
      t.0,
      r.1 ++ t.1,
      tells_both ms ns x r.0 t.0 r.1 t.1 r.2 t.2,
      t.3,
      t.4 ∙ ap (λ (s : List ℕ). s ++ t.1) r.4 ∙ append_assoc before r.1 t.1,
    )

pub told_turn : (old new : BufferedState) (c : ℕ) (answer : Turn) (before after : List ℕ) → TurnsTo old c answer new → after ≡ before ++
    ended_text c answer → TellsTo old (TurnOf c ∷ []) before new after
told_turn old new c answer before after turns put x shows =
    let t = turns x shows in
    let text = ended_text c answer in
    (t.0, text, (t.0, text, [], (answer, t.1, refl), (refl, refl), sym (append-nil text)), t.2, put)

pub told_flush : (old new : BufferedState) (c : ℕ) (flushed : Bool) (before : List ℕ) → (flushed ≡ true → MovesTo old (FlushOf c) new) →
    (flushed ≡ false → buffer_at old.buffers c ≡ []) → (flushed ≡ false → new ≡ old) → TellsTo old (FlushOf c ∷ []) before new before
told_flush old new c flushed before moves none same x shows =
    let t = flush_made old new c flushed moves none same x shows in
    let makes : Makes x (FlushOf c) t.0 = subst (λ (z : X86). Makes x (FlushOf c) z) (sym t.1.2) t.1.1 in
    (t.0, [], (t.0, [], [], (makes, refl), (refl, refl), refl), t.2, sym (append-nil before))

pub one_more : (old mid new : BufferedState) (move : Move) (n : ℕ) (before between after : List ℕ) → TellsTo old (replicate n move) before mid
    between → TellsTo mid (move ∷ []) between new after → TellsTo old (replicate (n + 1) move) before new after
one_more old mid new move n before between after made here =
    subst (λ (ms : List Move). TellsTo old ms before new after) (sym (replicate_next n move))
    (told_both (replicate n move) (move ∷ []) old mid new before between after made here)

-- ---- schedules in which each move has how often it is made
unrolled-append : (xs ys : List (ℕ × ℕ)) → unrolled (xs ++ ys) ≡ unrolled xs ++ unrolled ys
unrolled-append [] ys = refl
unrolled-append (x ∷ xs) ys = ap (λ (cs : List ℕ). replicate x.1 x.0 ++ cs) (unrolled-append xs ys) ∙ sym
    (append_assoc (replicate x.1 x.0) (unrolled xs) (unrolled ys))

moves_alike : (n c : ℕ) → map move_of (replicate n c) ≡ replicate n (move_of c)
moves_alike zero c = refl
moves_alike (suc n) c = ap (λ (ms : List Move). move_of c ∷ ms) (moves_alike n c)

pub one_run_more : (runs : List (ℕ × ℕ)) (i : ℕ) (d : ℕ × ℕ) → i < length runs → all_moves (take (i + 1) runs)
    ≡ all_moves (take i runs) ++ replicate (get_or runs i d).1 (move_of (get_or runs i d).0)
one_run_more runs i d inside =
    let run = get_or runs i d in
    let last : unrolled (run ∷ []) ≡ replicate run.1 run.0 = append-nil (replicate run.1 run.0) in
    let all : unrolled (take (i + 1) runs) ≡ unrolled (take i runs) ++ replicate run.1 run.0 =
    ap unrolled (take_more runs i d inside) ∙ (unrolled-append (take i runs) (run ∷ []) ∙ ap (λ (cs : List ℕ). unrolled (take i runs) ++ cs) last)
    in
    ap (map move_of) all ∙ (map-append move_of (unrolled (take i runs)) (replicate run.1 run.0) ∙ ap
    (λ (ms : List Move). all_moves (take i runs) ++ ms) (moves_alike run.1 run.0))

pub next_run : (old mid new : BufferedState) (runs : List (ℕ × ℕ)) (i : ℕ) (d : ℕ × ℕ) (before between after : List ℕ) → i < length runs →
    TellsTo old (all_moves (take i runs)) before mid between
    → TellsTo mid (replicate (get_or runs i d).1 (move_of (get_or runs i d).0)) between new after
    → TellsTo old (all_moves (take (i + 1) runs)) before new after
next_run old mid new runs i d before between after inside made here =
    let run = get_or runs i d in
    subst (λ (ms : List Move). TellsTo old ms before new after) (sym (one_run_more runs i d inside)) (told_both (all_moves (take i runs))
    (replicate run.1 (move_of run.0)) old mid new before between after made here)

pub all_runs : (old new : BufferedState) (runs : List (ℕ × ℕ)) (i : ℕ) (before after : List ℕ) → length runs ≤ i → TellsTo old
    (all_moves (take i runs)) before new after → TellsTo old (all_moves runs) before new after
all_runs old new runs i before after past made =
    subst (λ (rs : List (ℕ × ℕ)). TellsTo old (all_moves rs) before new after) (take_all i runs past) made

-- ---- with a line after them
pub with_place : (old new : BufferedState) (moves : List Move) (start made place last : List ℕ) → start ≡ [] → TellsTo old moves start new made →
    last ≡ made ++ place → (x : X86) → ShowsX86 old x
    → (z : X86) × (before : List ℕ) × TellsMoves x moves before z × ShowsX86 new z × (last ≡ before ++ place)
with_place old new moves start made place last empty told put x shows =
    let t = told x shows in
    let alone : made ≡ t.1 = t.4 ∙ ap (λ (s : List ℕ). s ++ t.1) empty in
    (t.0, t.1, t.2, t.3, put ∙ ap (λ (s : List ℕ). s ++ place) alone)

pub without_text : (old new : BufferedState) (moves : List Move) (before after : List ℕ) → TellsTo old moves before new after → MakesTo old moves new
without_text old new moves before after told x shows = let t = told x shows in (t.0, made_all x moves t.1 t.0 t.2, t.3)
