-- Moves follow each other.
use Rattle.std.proofs.Common.{◌≡◌, ◌∙◌, ℕ, zero, suc, ◌+◌, ◌-◌, ◌<◌, ◌≤◌, List, [], ◌∷◌, ◌++◌, append_assoc, append-nil, length, map, take}
use Rattle.std.proofs.Common.{replicate, get_or, inl, inr, refl, sym, ap, subst, arith}
use Rattle.std.proofs.lemmas.List.{map-append, replicate-append-replicate, take_more, take_all}
use Rattle.std.proofs.lemmas.Grind.{replicate_next}
use Rattle.bpf_machine.specs.Schedule.{unrolled}
use Rattle.bpf_x86.specs.Machine.{X86, Move, RunsMoves}
use Rattle.bpf_buffering.specs.Search.{BufferedState, MovesTo, move_of}
use Rattle.bpf_flushes.specs.Moves.{MakesAll, MakesTo}

pub runs_both : (ms ns : List Move) (x y z : X86) → RunsMoves x ms y → RunsMoves y ns z → RunsMoves x (ms ++ ns) z
runs_both [] ns x y z p q = subst (λ (s : X86). RunsMoves s ns z) p q
runs_both (m ∷ ms) ns x y z p q = (p.0, p.1, runs_both ms ns p.0 y z p.2 q)

pub all_both : (ms ns : List Move) (x y z : X86) → MakesAll x ms y → MakesAll y ns z → MakesAll x (ms ++ ns) z
all_both [] ns x y z p q = subst (λ (s : X86). MakesAll s ns z) p q
all_both (m ∷ ms) ns x y z p q = (p.0, p.1, all_both ms ns p.0 y z p.2 q)

-- moves without those that are passed over
pub all_run : (moves : List Move) (x z : X86) → MakesAll x moves z → (kept : List Move) × RunsMoves x kept z
all_run [] x z p = ([], p)
all_run (m ∷ ms) x z (y, inl moved, rest) = let r = all_run ms y z rest in (m ∷ r.0, (y, moved, r.1))
all_run (m ∷ ms) x z (y, inr (nothing, same), rest) = let r = all_run ms y z rest in (r.0, subst (λ (s : X86). RunsMoves s r.0 z) same r.1)

-- ---- as machines show them
pub nothing_made : (old : BufferedState) → MakesTo old [] old
nothing_made old x shows = (x, refl, shows)

pub makes_both : (ms ns : List Move) (old mid new : BufferedState) → MakesTo old ms mid → MakesTo mid ns new → MakesTo old (ms ++ ns) new
makes_both ms ns old mid new p q x shows =
    let r = p x shows in
    let t = q r.0 r.2 in
    (t.0, all_both ms ns x r.0 t.0 r.1 t.1, t.2)

pub moved : (old new : BufferedState) (move : Move) → MovesTo old move new → MakesTo old (move ∷ []) new
moved old new move moves x shows = let t = moves x shows in (t.0, (t.0, inl t.1, refl), t.2)

pub one_more : (old mid new : BufferedState) (move : Move) (n : ℕ) → MakesTo old (replicate n move) mid → MakesTo mid (move ∷ []) new →
    MakesTo old (replicate (n + 1) move) new
one_more old mid new move n before here =
    subst (λ (ms : List Move). MakesTo old ms new) (sym (replicate_next n move)) (makes_both (replicate n move) (move ∷ []) old mid new before here)

-- those after one that changes nothing
pub rest_made : (old mid new : BufferedState) (move : Move) (k n : ℕ) → k ≤ n → MakesTo old (replicate k move) mid →
    ((i : ℕ) → MakesTo mid (replicate i move) new) → MakesTo old (replicate n move) new
rest_made old mid new move k n within before rest =
    let all : replicate n move ≡ replicate k move ++ replicate (n - k) move =
    ap (λ (i : ℕ). replicate i move) (omega arith) ∙ sym (replicate-append-replicate k (n - k) move)
    in
    subst (λ (ms : List Move). MakesTo old ms new) (sym all) (makes_both (replicate k move) (replicate (n - k) move) old mid new before (rest (n - k)))

-- ---- schedules in which each move has how often it is made
unrolled-append : (xs ys : List (ℕ × ℕ)) → unrolled (xs ++ ys) ≡ unrolled xs ++ unrolled ys
unrolled-append [] ys = refl
unrolled-append (x ∷ xs) ys = ap (λ (cs : List ℕ). replicate x.1 x.0 ++ cs) (unrolled-append xs ys) ∙ sym
    (append_assoc (replicate x.1 x.0) (unrolled xs) (unrolled ys))

moves_alike : (n c : ℕ) → map move_of (replicate n c) ≡ replicate n (move_of c)
moves_alike zero c = refl
moves_alike (suc n) c = ap (λ (ms : List Move). move_of c ∷ ms) (moves_alike n c)

pub next_run : (old mid new : BufferedState) (runs : List (ℕ × ℕ)) (i : ℕ) (d : ℕ × ℕ) → i < length runs → MakesTo old
    (map move_of (unrolled (take i runs))) mid
    → MakesTo mid (replicate (get_or runs i d).1 (move_of (get_or runs i d).0)) new → MakesTo old (map move_of (unrolled (take (i + 1) runs))) new
next_run old mid new runs i d inside before here =
    let run = get_or runs i d in
    let last : unrolled (run ∷ []) ≡ replicate run.1 run.0 = append-nil (replicate run.1 run.0) in
    let all : unrolled (take (i + 1) runs) ≡ unrolled (take i runs) ++ replicate run.1 run.0 =
    ap unrolled (take_more runs i d inside) ∙ (unrolled-append (take i runs) (run ∷ []) ∙ ap (λ (cs : List ℕ). unrolled (take i runs) ++ cs) last)
    in
    let moves : map move_of (unrolled (take (i + 1) runs)) ≡ map move_of (unrolled (take i runs)) ++ replicate run.1 (move_of run.0) =
    ap (map move_of) all ∙ (map-append move_of (unrolled (take i runs)) (replicate run.1 run.0) ∙ ap
    (λ (ms : List Move). map move_of (unrolled (take i runs)) ++ ms) (moves_alike run.1 run.0))
    in
    subst (λ (ms : List Move). MakesTo old ms new) (sym moves) (makes_both (map move_of (unrolled (take i runs)))
    (replicate run.1 (move_of run.0)) old mid new before here)

pub all_runs : (old new : BufferedState) (runs : List (ℕ × ℕ)) (i : ℕ) → length runs ≤ i → MakesTo old
    (map move_of (unrolled (take i runs))) new → MakesTo old (map move_of (unrolled runs)) new
all_runs old new runs i past made = subst (λ (rs : List (ℕ × ℕ)). MakesTo old (map move_of (unrolled rs)) new) (take_all i runs past) made
