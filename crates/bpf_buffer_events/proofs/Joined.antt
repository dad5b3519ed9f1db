-- Moves that follow each other, as they are printed.
use Rattle.std.proofs.Common.{◌≡◌, ◌∙◌, Bool, true, false, Option, ℕ, zero, suc, ◌+◌, ◌-◌, ◌<◌, ◌≤◌, List, [], ◌∷◌, ◌++◌, append_assoc}
use Rattle.std.proofs.Common.{append-nil, length, take, drop, replicate, get_or, map, inl, inr, refl, sym, ap, subst, arith}
use Rattle.std.proofs.lemmas.List.{map-append, replicate-append-replicate, take_more, take_all}
use Rattle.std.proofs.lemmas.Bool.{eqb-true}
use Rattle.std.proofs.lemmas.Grind.{replicate_next}
use Rattle.std.specs.Prelude.{◌==◌, nat_lt, string_bytes}
use Rattle.bpf_shared.specs.declared.events.Event.{Event}
use Rattle.bpf_plain.specs.PlainStore.{has_cpu}
use Rattle.bpf_machine.specs.declared.machine.Turn.{Turn}
use Rattle.bpf_machine.specs.declared.machine.Turn.TheVariants.{Idle}
use Rattle.bpf_cpu.specs.Task.{Task}
use Rattle.bpf_machine.specs.Hands.{IsFree, NoneWaits}
use Rattle.bpf_machine.specs.Rounds.{HaveEnded}
use Rattle.bpf_machine.specs.Schedule.{unrolled}
use Rattle.bpf_machine.specs.Parts.{IsSameHost}
use Rattle.bpf_machine.proofs.RoundLaws.{cpus_shown}
use Rattle.bpf_x86.specs.Machine.{X86, Move, TurnOf, FlushOf}
use Rattle.bpf_buffering.specs.declared.waiting.Stored.{Stored}
use Rattle.bpf_buffering.specs.Buffering.{TurnsTo}
use Rattle.bpf_buffering.specs.Search.{BufferedState, ShowsX86, MovesTo, buffer_at, move_of}
use Rattle.bpf_buffering.specs.Waiting as buffers
use Rattle.bpf_flushes.specs.Moves.{round_below}
use Rattle.bpf_flushes.proofs.Turning.{idles}
use Rattle.bpf_buffer_events.specs.Happenings.{Item, Flushed, Happens, oldest, MakesWith, MakesAllWith}
use Rattle.bpf_buffer_events.specs.Printed.{item_line, item_lines}
use Rattle.bpf_buffer_events.specs.Private.Told.{ArePrinted, By, LastRounds, OneRound}
use Rattle.bpf_buffer_events.specs.Private.Watched.{AreWatched, IsWatched, noted}
use Rattle.bpf_buffer_events.specs.declared.telling.Scene.{Scene}
use Rattle.bpf_buffer_events.specs.declared.watching.Watcher.{Watcher}
use Rattle.bpf_buffer_events.proofs.Items.{lines_both, no_lines, one_line}

pub told_join : (p q r : X86 → List Item → X86 → Type 0) (names : List (List ℕ)) (old mid new : Scene)
    → ((x y z : X86) (xs ys : List Item) → p x xs y → q y ys z → r x (xs ++ ys) z) → ArePrinted p names old mid → ArePrinted q names mid new
    → ArePrinted r names old new
told_join p q r names old mid new join before after x shows =
    let a = before x shows in
    let b = after a.0 a.3 in (
      b.0,
      a.1 ++ b.1,
      join x a.0 b.0 a.1 b.1 a.2 b.2,
      b.3,
      lines_both names a.1 b.1 (string_bytes old.text) (string_bytes mid.text) (string_bytes new.text) a.4 b.4,
    )

all_both : (ms ns : List Move) (x y z : X86) (xs ys : List Item) → MakesAllWith x ms xs y → MakesAllWith y ns ys z → MakesAllWith x (ms ++ ns) (xs ++ ys) z
all_both [] ns x y z xs ys p q =
    subst (λ (log : List Item). MakesAllWith x ns log z) (ap (λ (l : List Item). l ++ ys) (sym p.1)) (subst (λ (s : X86). MakesAllWith s ns ys z) p.0 q)
all_both (m ∷ ms) ns x y z xs ys p q = (
  p.0,
  p.1,
  p.2 ++ ys,
  p.3,
  all_both ms ns p.0 y z p.2 ys p.4 q,
  ap (λ (l : List Item). l ++ ys) p.5 ∙ append_assoc p.1 p.2 ys,
)

pub moves_both : (ms ns : List Move) (names : List (List ℕ)) (old mid new : Scene) → ArePrinted (By ms) names old mid → ArePrinted (By ns) names mid new
    → ArePrinted (By (ms ++ ns)) names old new
moves_both ms ns names old mid new before after =
    told_join (By ms) (By ns) (By (ms ++ ns)) names old mid new (λ x y z xs ys p q. all_both ms ns x y z xs ys p q) before after

pub nothing_told : (names : List (List ℕ)) (old : Scene) → ArePrinted (By []) names old old
nothing_told names old x shows = (x, [], (refl, refl), shows, no_lines names (string_bytes old.text))

-- the stores of what notes a machine's turns have the shape of the machine's after a move too
pub still_watched : (old new : BufferedState) (w : Watcher) → IsSameHost old.machine new.machine → AreWatched old w → AreWatched new w
still_watched old new w host watched =
    let kept = host.shape in (
      (λ c. watched.0.0 c ∙ sym (kept.0 c), watched.0.1 ∙ sym kept.1),
      (λ c. watched.1.0 c ∙ sym (kept.0 c), watched.1.1 ∙ sym kept.1),
    )

-- one move
one_with : (x z : X86) (move : Move) (log : List Item) → MakesWith x move log z → MakesAllWith x (move ∷ []) log z
one_with x z move log made = (z, log, [], made, (refl, refl), sym (append-nil log))

-- ---- a turn
pub turn_told : (c : ℕ) (at : Option (ℕ × ℕ)) (events waiting : List Event) (answer : Turn) (names : List (List ℕ)) (old new : Scene)
    → IsWatched old.machine c at events → waiting ≡ buffer_at old.machine.buffers c → TurnsTo old.machine c answer new.machine
    → string_bytes new.text ≡ string_bytes old.text ++ item_lines names (noted c at waiting events answer)
    → ArePrinted (By (TurnOf c ∷ [])) names old new
turn_told c at events waiting answer names old new watched waits turn is x shows =
    let r = turn x shows in
    let here : waiting ≡ x.buffers c = waits ∙ ap (λ (f : ℕ → List Event). f c) (sym shows.buffers) in
    let log = noted c at (x.buffers c) events answer in (
      r.0,
      log,
      one_with x r.0 (TurnOf c) log (answer, r.1, watched x shows answer),
      r.2,
      subst (λ (w : List Event). string_bytes new.text ≡ string_bytes old.text ++ item_lines names (noted c at w events answer)) here is,
    )

-- of a CPU without work nothing happens, however often
idle_moves : (n c : ℕ) (x : X86) → IsFree x.world.jobs c → NoneWaits x.world.jobs c → MakesAllWith x (replicate n (TurnOf c)) [] x
idle_moves zero c x free none = (refl, refl)
idle_moves (suc n) c x free none =
    (x, [], [], (Idle, inr (inr (free, none, refl, refl)), inr (inr (free, none, refl))), idle_moves n c x free none, refl)

no_job : (m : BufferedState) (c : ℕ) (at : Option (ℕ × ℕ)) (events : List Event) (x : X86) → IsWatched m c at events → ShowsX86 m x
    → IsFree x.world.jobs c → NoneWaits x.world.jobs c → noted c at (x.buffers c) events Idle ≡ []
no_job m c at events x watched shows free none = silent (watched x shows Idle)
  where
    log : List Item
    log = noted c at (x.buffers c) events Idle

    silent : Happens x c Idle log → log ≡ []
    silent (inl a) = absurd (free a.0 a.1 a.2 a.3 a.5)
    silent (inr (inl (still, a))) = absurd (none a.0 a.1 a.2 a.5)
    silent (inr (inr a)) = a.2

pub idle_told : (c : ℕ) (at : Option (ℕ × ℕ)) (events waiting : List Event) (answer : Turn) (names : List (List ℕ)) (old new : Scene)
    → IsWatched old.machine c at events → waiting ≡ buffer_at old.machine.buffers c → TurnsTo old.machine c answer new.machine
    → string_bytes new.text ≡ string_bytes old.text ++ item_lines names (noted c at waiting events answer) → answer ≡ Idle → (n : ℕ)
    → ArePrinted (By (replicate n (TurnOf c))) names old new
idle_told c at events waiting answer names old new watched waits turn is idle n x shows =
    let none = idles old.machine new.machine c answer turn idle x shows in
    let P : List Task → Type 0 = λ jobs. IsFree jobs c × NoneWaits jobs c in
    let here = subst P (sym shows.world.jobs) (none.0, none.1) in
    let there : waiting ≡ x.buffers c = waits ∙ ap (λ (f : ℕ → List Event). f c) (sym shows.buffers) in
    let nothing : noted c at waiting events answer ≡ [] =
    ap (λ (w : List Event). noted c at w events answer) there
    ∙ (ap (noted c at (x.buffers c) events) idle ∙ no_job old.machine c at events x watched shows here.0 here.1) in (
      x,
      [],
      idle_moves n c x here.0 here.1,
      none.2,
      is ∙ ap (λ (l : List Item). string_bytes old.text ++ item_lines names l) nothing,
    )

-- ---- a flush
pub none_here : (xs : List Stored) (es : List Event) (b : Bool) → b ≡ (length xs == 0) → b ≡ true → map buffers.event_of xs ≡ es → es ≡ []
none_here [] es b is none all = sym all
none_here (x ∷ xs) es b is none all =
    let zero : length (x ∷ xs) ≡ 0 = eqb-true (length (x ∷ xs)) 0 (sym is ∙ none) in
    absurd (omega (arith, zero))

pub some_here : (xs : List Stored) (b : Bool) → b ≡ (length xs == 0) → b ≡ false → 0 < length xs
some_here [] b is some = let no : false ≡ true = sym some ∙ is in cc
some_here (x ∷ xs) b is some = omega arith

-- the oldest of what waits
oldest_waits : (xs : List Stored) (d : Stored) (es : List Event) → 0 < length xs → map buffers.event_of xs ≡ es
    → es ≡ buffers.event_of (get_or xs 0 d) ∷ map buffers.event_of (drop 1 xs)
oldest_waits [] d es some is = absurd (omega arith)
oldest_waits (x ∷ xs) d es some is = sym is

flush_told : (c : ℕ) (e : Event) (rest : List Event) (flushed : Bool) (names : List (List ℕ)) (old new : Scene)
    → buffer_at old.machine.buffers c ≡ e ∷ rest → (flushed ≡ true → MovesTo old.machine (FlushOf c) new.machine)
    → (flushed ≡ false → buffer_at old.machine.buffers c ≡ [])
    → string_bytes new.text ≡ string_bytes old.text ++ item_lines names (Flushed c e ∷ []) → ArePrinted (By (FlushOf c ∷ [])) names old new
flush_told c e rest true names old new waits moves none is x shows =
    let r = moves refl x shows in
    let first : x.buffers c ≡ e ∷ rest = ap (λ (f : ℕ → List Event). f c) shows.buffers ∙ waits in
    let log : map (Flushed c) (oldest (x.buffers c)) ≡ Flushed c e ∷ [] = ap (λ (es : List Event). map (Flushed c) (oldest es)) first in
    (r.0, Flushed c e ∷ [], one_with x r.0 (FlushOf c) (Flushed c e ∷ []) (inl r.1, sym log), r.2, is)
flush_told c e rest false names old new waits moves none is x shows = let no : [] ≡ e ∷ rest = sym (none refl) ∙ waits in cc

pub oldest_told : (c : ℕ) (xs : List Stored) (d : Stored) (flushed : Bool) (names : List (List ℕ)) (old new : Scene) → 0 < length xs
    → map buffers.event_of xs ≡ buffer_at old.machine.buffers c → (flushed ≡ true → MovesTo old.machine (FlushOf c) new.machine)
    → (flushed ≡ false → buffer_at old.machine.buffers c ≡ [])
    → string_bytes new.text ≡ string_bytes old.text ++ item_line names (Flushed c (buffers.event_of (get_or xs 0 d)))
    → ArePrinted (By (FlushOf c ∷ [])) names old new
oldest_told c xs d flushed names old new some is moves none line =
    let e = buffers.event_of (get_or xs 0 d) in
    flush_told c e (map buffers.event_of (drop 1 xs)) flushed names old new (oldest_waits xs d (buffer_at old.machine.buffers c) some is) moves none
    (one_line names (Flushed c e) (string_bytes old.text) (string_bytes new.text) line)

pub nothing_flushed : (c : ℕ) (names : List (List ℕ)) (old : Scene) → buffer_at old.machine.buffers c ≡ [] → (n : ℕ)
    → ArePrinted (By (replicate n (FlushOf c))) names old old
nothing_flushed c names old none n x shows =
    let here : x.buffers c ≡ [] = ap (λ (f : ℕ → List Event). f c) shows.buffers ∙ none in
    (x, [], over n here, shows, no_lines names (string_bytes old.text))
  where
    over : (n : ℕ) → x.buffers c ≡ [] → MakesAllWith x (replicate n (FlushOf c)) [] x
    over zero here = (refl, refl)
    over (suc n) here =
        (x, [], [], (inr (here, refl), sym (ap (λ (es : List Event). map (Flushed c) (oldest es)) here)), over n here, refl)

-- ---- moves of one kind
pub one_more : (names : List (List ℕ)) (old mid new : Scene) (move : Move) (n : ℕ) → ArePrinted (By (replicate n move)) names old mid
    → ArePrinted (By (move ∷ [])) names mid new → ArePrinted (By (replicate (n + 1) move)) names old new
one_more names old mid new move n before here =
    subst (λ (ms : List Move). ArePrinted (By ms) names old new) (sym (replicate_next n move))
    (moves_both (replicate n move) (move ∷ []) names old mid new before here)

-- those after one that changes nothing
pub rest_told : (names : List (List ℕ)) (old mid new : Scene) (move : Move) (k n : ℕ) → k ≤ n → ArePrinted (By (replicate k move)) names old mid
    → ((i : ℕ) → ArePrinted (By (replicate i move)) names mid new) → ArePrinted (By (replicate n move)) names old new
rest_told names old mid new move k n within before rest =
    let all : replicate n move ≡ replicate k move ++ replicate (n - k) move =
    ap (λ (i : ℕ). replicate i move) (omega arith) ∙ sym (replicate-append-replicate k (n - k) move) in
    subst (λ (ms : List Move). ArePrinted (By ms) names old new) (sym all)
    (moves_both (replicate k move) (replicate (n - k) move) names old mid new before (rest (n - k)))

-- ---- schedules in which each move has how often it is made
unrolled-append : (xs ys : List (ℕ × ℕ)) → unrolled (xs ++ ys) ≡ unrolled xs ++ unrolled ys
unrolled-append [] ys = refl
unrolled-append (x ∷ xs) ys = ap (λ (cs : List ℕ). replicate x.1 x.0 ++ cs) (unrolled-append xs ys) ∙ sym
    (append_assoc (replicate x.1 x.0) (unrolled xs) (unrolled ys))

moves_alike : (n c : ℕ) → map move_of (replicate n c) ≡ replicate n (move_of c)
moves_alike zero c = refl
moves_alike (suc n) c = ap (λ (ms : List Move). move_of c ∷ ms) (moves_alike n c)

pub next_run : (names : List (List ℕ)) (old mid new : Scene) (runs : List (ℕ × ℕ)) (i : ℕ) (d : ℕ × ℕ) → i < length runs
    → ArePrinted (By (map move_of (unrolled (take i runs)))) names old mid
    → ArePrinted (By (replicate (get_or runs i d).1 (move_of (get_or runs i d).0))) names mid new
    → ArePrinted (By (map move_of (unrolled (take (i + 1) runs)))) names old new
next_run names old mid new runs i d inside before here =
    let run = get_or runs i d in
    let last : unrolled (run ∷ []) ≡ replicate run.1 run.0 = append-nil (replicate run.1 run.0) in
    let all : unrolled (take (i + 1) runs) ≡ unrolled (take i runs) ++ replicate run.1 run.0 =
    ap unrolled (take_more runs i d inside) ∙ (unrolled-append (take i runs) (run ∷ []) ∙ ap (λ (cs : List ℕ). unrolled (take i runs) ++ cs) last)
    in
    let moves : map move_of (unrolled (take (i + 1) runs)) ≡ map move_of (unrolled (take i runs)) ++ replicate run.1 (move_of run.0) =
    ap (map move_of) all ∙ (map-append move_of (unrolled (take i runs)) (replicate run.1 run.0) ∙ ap
    (λ (ms : List Move). map move_of (unrolled (take i runs)) ++ ms) (moves_alike run.1 run.0))
    in
    subst (λ (ms : List Move). ArePrinted (By ms) names old new) (sym moves) (moves_both (map move_of (unrolled (take i runs)))
    (replicate run.1 (move_of run.0)) names old mid new before here)

pub all_runs : (names : List (List ℕ)) (old new : Scene) (runs : List (ℕ × ℕ)) (i : ℕ) → length runs ≤ i
    → ArePrinted (By (map move_of (unrolled (take i runs)))) names old new → ArePrinted (By (map move_of (unrolled runs))) names old new
all_runs names old new runs i past made =
    subst (λ (rs : List (ℕ × ℕ)). ArePrinted (By (map move_of (unrolled rs))) names old new) (take_all i runs past) made

-- ---- rounds
pub one_cpu_more : (c : ℕ) (names : List (List ℕ)) (old mid turned new : Scene) → ArePrinted (By (round_below c)) names old mid
    → ArePrinted (By (TurnOf c ∷ [])) names mid turned → ArePrinted (By (FlushOf c ∷ [])) names turned new
    → ArePrinted (By (round_below (c + 1))) names old new
one_cpu_more c names old mid turned new before turn flush =
    let more : suc c ≡ c + 1 = omega arith in
    subst (λ (n : ℕ). ArePrinted (By (round_below n)) names old new) more
    (moves_both (round_below c) (TurnOf c ∷ FlushOf c ∷ []) names old mid new before
    (moves_both (TurnOf c ∷ []) (FlushOf c ∷ []) names mid turned new turn flush))

pub whole_round : (n k : ℕ) (names : List (List ℕ)) (old new : Scene) → k ≡ n → ((c : ℕ) → has_cpu old.machine.machine.store c ≡ nat_lt c n)
    → ArePrinted (By (round_below k)) names old new → ArePrinted OneRound names old new
whole_round n k names old new all same told x shows =
    let r = told x shows in
    let cpus : n ≡ x.world.store.shape.cpus = sym (cpus_shown old.machine.machine x.world n same shows.world) in
    (r.0, r.1, subst (λ (i : ℕ). MakesAllWith x (round_below i) r.1 r.0) (all ∙ cpus) r.2, r.3, r.4)

-- rounds so far: with those to come they are rounds
abbrev pub Going : List (List ℕ) → Scene → Scene → Type 0
Going names old mid = (x : X86) → ShowsX86 old.machine x → (y : X86) × (log : List Item)
    × ((z : X86) (rest : List Item) → LastRounds y rest z → LastRounds x (log ++ rest) z) × ShowsX86 mid.machine y
    × (string_bytes mid.text ≡ string_bytes old.text ++ item_lines names log)

pub not_begun : (names : List (List ℕ)) (old : Scene) → Going names old old
not_begun names old x shows = (x, [], (λ z rest rounds. rounds), shows, no_lines names (string_bytes old.text))

pub round_more : (names : List (List ℕ)) (old mid new : Scene) → (HaveEnded mid.machine.machine.jobs → ⊥) → Going names old mid
    → ArePrinted OneRound names mid new → Going names old new
round_more names old mid new unended going round x shows =
    let a = going x shows in
    let b = round a.0 a.3 in
    let works : HaveEnded a.0.world.jobs → ⊥ = λ ended. unended (subst HaveEnded a.3.world.jobs ended) in (
      b.0,
      a.1 ++ b.1,
      λ z rest rounds.
          subst (λ (log : List Item). LastRounds x log z) (sym (append_assoc a.1 b.1 rest))
          (a.2 z (b.1 ++ rest) (suc rounds.0, (works, (b.0, b.1, rest, b.2, rounds.1, refl)))),
      b.3,
      lines_both names a.1 b.1 (string_bytes old.text) (string_bytes mid.text) (string_bytes new.text) a.4 b.4,
    )

pub last_round : (names : List (List ℕ)) (old mid : Scene) → HaveEnded mid.machine.machine.jobs → Going names old mid → ArePrinted LastRounds names old mid
last_round names old mid ended going x shows =
    let a = going x shows in
    let there : HaveEnded a.0.world.jobs = subst HaveEnded (sym a.3.world.jobs) ended in (
      a.0,
      a.1,
      subst (λ (log : List Item). LastRounds x log a.0) (append-nil a.1) (a.2 a.0 [] (0, (there, refl, refl))),
      a.3,
      a.4,
    )
