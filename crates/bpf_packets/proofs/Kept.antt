-- Turns that are made one after the other, while packets are kept.
use Rattle.std.proofs.Common.{◌≡◌, ◌∙◌, Bool, false, Some, ℕ, zero, suc, ◌+◌, ◌-◌, ◌<◌, ◌≤◌, List, [], ◌∷◌, ◌++◌, append_assoc, append-nil}
use Rattle.std.proofs.Common.{length, take, replicate, get_or, inl, inr, refl, sym, ap, subst, arith}
use Rattle.std.proofs.lemmas.List.{replicate-append-replicate, take_more, take_all}
use Rattle.std.proofs.lemmas.Grind.{replicate_next}
use Rattle.std.specs.Prelude.{nat_lt, slice_get}
use Rattle.std.proofs.lemmas.Bool.{cases_lt, ltb-true}
use Rattle.bpf_plain.specs.PlainStore.{has_cpu}
use Rattle.bpf_cpu.specs.Task.{Task}
use Rattle.bpf_machine.specs.declared.machine.Turn.{Turn}
use Rattle.bpf_machine.specs.declared.machine.Turn.TheVariants.{Idle}
use Rattle.bpf_machine.specs.Hands.{IsFree, NoneWaits}
use Rattle.bpf_machine.specs.Machine.{MachineState, Shows}
use Rattle.bpf_machine.specs.Parts.{CanStand}
use Rattle.bpf_machine.specs.Rounds.{below, HaveEnded}
use Rattle.bpf_machine.specs.Schedule.{World, TakesTurn, unrolled}
use Rattle.bpf_machine.proofs.RoundLaws.{all_ended, cpus_shown, idle_turn}
use Rattle.bpf_packets.specs.Packets.{Keeps, RunsKeeping}
use Rattle.bpf_packets.specs.Private.{ARound, AreKept, OneTurn, SomeRounds, Turns}

abbrev Bytes : Type 0
Bytes = List (List ℕ)

-- ---- one after the other
pub kept_nothing : (m : MachineState) (packets : Bytes) → AreKept (Turns []) m packets m packets
kept_nothing m packets w shows = (w, (refl, refl), shows)

pub no_rounds : (m : MachineState) (packets : Bytes) → AreKept SomeRounds m packets m packets
no_rounds m packets w shows = (w, (0, (refl, refl)), shows)

abbrev Leads : Type 1
Leads = World → Bytes → Bytes → World → Type 0

pub kept_join : (first second both : Leads) (old mid new : MachineState) (packets between later : Bytes)
    → ((w y z : World) → first w packets between y → second y between later z → both w packets later z)
    → AreKept first old packets mid between → AreKept second mid between new later → AreKept both old packets new later
kept_join first second both old mid new packets between later join before after w shows =
    let r = before w shows in
    let t = after r.0 r.2 in
    (t.0, join w r.0 t.0 r.1 t.1, t.2)

kept_as : (cs ds : List ℕ) (old new : MachineState) (packets later : Bytes) → cs ≡ ds → AreKept (Turns cs) old packets new later
    → AreKept (Turns ds) old packets new later
kept_as cs ds old new packets later same kept = subst (λ (es : List ℕ). AreKept (Turns es) old packets new later) same kept

runs_both : (cs ds : List ℕ) (w y z : World) (old mid new : Bytes) → RunsKeeping w cs old mid y → RunsKeeping y ds mid new z
    → RunsKeeping w (cs ++ ds) old new z
runs_both [] ds w y z old mid new first second =
    let P : World → Type 0 = λ v. RunsKeeping v ds mid new z in
    let Q : Bytes → Type 0 = λ b. RunsKeeping w ds b new z in
    subst Q first.1 (subst P first.0 second)
runs_both (c ∷ cs) ds w y z old mid new first second = (first.0, first.1, first.2, first.3, first.4, runs_both cs ds first.1 y z first.2 mid new first.5 second)

-- one more turn
one_turn : (c : ℕ) (answer : Turn) (w z : World) (old new : Bytes) → OneTurn c answer w old new z → RunsKeeping w (c ∷ []) old new z
one_turn c answer w z old new turn = (answer, z, new, turn.0, turn.1, (refl, refl))

pub turn_more : (cs : List ℕ) (c : ℕ) (answer : Turn) (old mid new : MachineState) (packets between later : Bytes)
    → AreKept (Turns cs) old packets mid between → AreKept (OneTurn c answer) mid between new later → AreKept (Turns (cs ++ c ∷ [])) old packets new later
turn_more cs c answer old mid new packets between later before after =
    kept_join (Turns cs) (OneTurn c answer) (Turns (cs ++ c ∷ [])) old mid new packets between later
    (λ w y z first second. runs_both cs (c ∷ []) w y z packets between later first (one_turn c answer y z between later second)) before after

pub turns_more : (cs ds : List ℕ) (old mid new : MachineState) (packets between later : Bytes)
    → AreKept (Turns cs) old packets mid between → AreKept (Turns ds) mid between new later → AreKept (Turns (cs ++ ds)) old packets new later
turns_more cs ds old mid new packets between later before after =
    kept_join (Turns cs) (Turns ds) (Turns (cs ++ ds)) old mid new packets between later
    (λ w y z first second. runs_both cs ds w y z packets between later first second) before after

-- ---- turns of one CPU
pub one_more : (n c : ℕ) (answer : Turn) (old mid new : MachineState) (packets between later : Bytes)
    → AreKept (Turns (replicate n c)) old packets mid between → AreKept (OneTurn c answer) mid between new later
    → AreKept (Turns (replicate (n + 1) c)) old packets new later
one_more n c answer old mid new packets between later before after =
    kept_as (replicate n c ++ c ∷ []) (replicate (n + 1) c) old new packets later (sym (replicate_next n c))
    (turn_more (replicate n c) c answer old mid new packets between later before after)

nothing_more : (n : ℕ) (w : World) (c : ℕ) (packets : Bytes) → IsFree w.jobs c → NoneWaits w.jobs c → RunsKeeping w (replicate n c) packets packets w
nothing_more zero w c packets free none = (refl, refl)
nothing_more (suc n) w c packets free none = (Idle, w, packets, inr (inr (free, none, refl, refl)), inr (free, refl), nothing_more n w c packets free none)

-- after an idle turn of it the others change nothing
pub rest_idle : (k n c : ℕ) (answer : Turn) (old mid new : MachineState) (packets between later : Bytes) → k ≤ n → answer ≡ Idle
    → AreKept (Turns (replicate k c)) old packets mid between → AreKept (OneTurn c answer) mid between new later
    → AreKept (Turns (replicate n c)) old packets new later
rest_idle k n c answer old mid new packets between later within idle before after =
    let all : replicate k c ++ replicate (n - k) c ≡ replicate n c = replicate-append-replicate k (n - k) c ∙ ap (λ (i : ℕ). replicate i c) (omega arith) in
    kept_as (replicate k c ++ replicate (n - k) c) (replicate n c) old new packets later all
    (kept_join (Turns (replicate k c)) (OneTurn c answer) (Turns (replicate k c ++ replicate (n - k) c)) old mid new packets between later join before after)
  where
    still : (y z : World) → OneTurn c answer y between later z → IsFree y.jobs c × NoneWaits y.jobs c × (z ≡ y) × (later ≡ between)
    still y z turn =
        let none = idle_turn y c answer z turn.0 idle in
        (none.0, none.1, stays turn.0, silent turn.1)
      where
        stays : TakesTurn y c answer z → z ≡ y
        stays (inl a) = absurd ((idle_turn y c answer z turn.0 idle).0 a.0 a.1 a.2 a.3 a.4)
        stays (inr (inl (free, a))) = absurd ((idle_turn y c answer z turn.0 idle).1 a.0 a.1 a.2 a.4)
        stays (inr (inr a)) = a.3

        silent : Keeps y.jobs c between later → later ≡ between
        silent (inl a) = absurd ((idle_turn y c answer z turn.0 idle).0 a.0 a.1 a.2 a.3 a.4)
        silent (inr a) = a.1

    join : (w y z : World) → RunsKeeping w (replicate k c) packets between y → OneTurn c answer y between later z
        → RunsKeeping w (replicate k c ++ replicate (n - k) c) packets later z
    join w y z first second =
        let none = still y z second in
        let P : World → Type 0 = λ v. RunsKeeping w (replicate k c ++ replicate (n - k) c) packets between v in
        let Q : Bytes → Type 0 = λ b. RunsKeeping w (replicate k c ++ replicate (n - k) c) packets b z in
        subst Q (sym none.3)
        (subst P (sym none.2) (runs_both (replicate k c) (replicate (n - k) c) w y y packets between between first
        (nothing_more (n - k) y c between none.0 none.1)))

-- ---- run lengths
unrolled-append : (xs ys : List (ℕ × ℕ)) → unrolled (xs ++ ys) ≡ unrolled xs ++ unrolled ys
unrolled-append [] ys = refl
unrolled-append (x ∷ xs) ys =
    ap (λ (cs : List ℕ). replicate x.1 x.0 ++ cs) (unrolled-append xs ys) ∙ sym (append_assoc (replicate x.1 x.0) (unrolled xs) (unrolled ys))

pub next_run : (runs : List (ℕ × ℕ)) (i : ℕ) (d : ℕ × ℕ) (old mid new : MachineState) (packets between later : Bytes) → i < length runs
    → AreKept (Turns (unrolled (take i runs))) old packets mid between
    → AreKept (Turns (replicate (get_or runs i d).1 (get_or runs i d).0)) mid between new later
    → AreKept (Turns (unrolled (take (i + 1) runs))) old packets new later
next_run runs i d old mid new packets between later inside before after =
    let run = get_or runs i d in
    let last : unrolled (run ∷ []) ≡ replicate run.1 run.0 = append-nil (replicate run.1 run.0) in
    let all : unrolled (take (i + 1) runs) ≡ unrolled (take i runs) ++ replicate run.1 run.0 =
    ap unrolled (take_more runs i d inside) ∙ (unrolled-append (take i runs) (run ∷ []) ∙ ap (λ (cs : List ℕ). unrolled (take i runs) ++ cs) last)
    in
    kept_as (unrolled (take i runs) ++ replicate run.1 run.0) (unrolled (take (i + 1) runs)) old new packets later (sym all)
    (turns_more (unrolled (take i runs)) (replicate run.1 run.0) old mid new packets between later before after)

pub all_runs : (runs : List (ℕ × ℕ)) (i : ℕ) (old new : MachineState) (packets later : Bytes) → length runs ≤ i
    → AreKept (Turns (unrolled (take i runs))) old packets new later → AreKept (Turns (unrolled runs)) old packets new later
all_runs runs i old new packets later past kept =
    kept_as (unrolled (take i runs)) (unrolled runs) old new packets later (ap unrolled (take_all i runs past)) kept

-- ---- rounds
pub one_cpu_more : (c : ℕ) (answer : Turn) (old mid new : MachineState) (packets between later : Bytes)
    → AreKept (Turns (below c)) old packets mid between → AreKept (OneTurn c answer) mid between new later
    → AreKept (Turns (below (c + 1))) old packets new later
one_cpu_more c answer old mid new packets between later before after =
    let more : suc c ≡ c + 1 = omega arith in
    kept_as (below (suc c)) (below (c + 1)) old new packets later (ap below more) (turn_more (below c) c answer old mid new packets between later before after)

pub whole_round : (n : ℕ) (old new : MachineState) (packets later : Bytes) → ((c : ℕ) → has_cpu old.store c ≡ nat_lt c n)
    → AreKept (Turns (below n)) old packets new later → AreKept ARound old packets new later
whole_round n old new packets later same kept w shows =
    let r = kept w shows in
    (r.0, subst (λ (k : ℕ). RunsKeeping w (below k) packets later r.0) (sym (cpus_shown old w n same shows)) r.1, r.2)

pub round_more : (old mid new : MachineState) (packets between later : Bytes)
    → AreKept SomeRounds old packets mid between → AreKept ARound mid between new later → AreKept SomeRounds old packets new later
round_more old mid new packets between later before after =
    kept_join SomeRounds ARound SomeRounds old mid new packets between later
    (λ w y z first second. (suc first.0, (y, between, first.1, second))) before after

-- ---- a turn
pub turn_kept : (c : ℕ) (answer : Turn) (old new : MachineState) (packets later : Bytes) → Keeps old.jobs c packets later
    → ((w : World) → Shows old w → (z : World) × TakesTurn w c answer z × Shows new z) → AreKept (OneTurn c answer) old packets new later
turn_kept c answer old new packets later keeps turn w shows =
    let r = turn w shows in
    (r.0, (r.1, subst (λ (jobs : List Task). Keeps jobs c packets later) (sym shows.jobs) keeps), r.2)

-- ---- CPUs without work
abbrev pub IdleSo : MachineState → ℕ → Bool → MachineState → Type 0
IdleSo old c worked new = worked ≡ false → (new ≡ old) × ((d : ℕ) → d < c → ((w : World) × Shows old w) → IsFree old.jobs d × NoneWaits old.jobs d)

pub none_yet : (old : MachineState) → IdleSo old 0 false old
none_yet old e = (refl, λ d less shown. absurd (omega arith))

pub idle_more : (c : ℕ) (answer : Turn) (was now : Bool) (old mid new : MachineState) (packets later : Bytes) → IdleSo old c was mid
    → (now ≡ false → (was ≡ false) × (answer ≡ Idle)) → AreKept (OneTurn c answer) mid packets new later → (answer ≡ Idle → new ≡ mid)
    → IdleSo old (c + 1) now new
idle_more c answer was now old mid new packets later before choice turn stays e =
    let both = choice e in
    let so = before both.0 in (
      stays both.1 ∙ so.0,
      λ d less shown. elim (cases_lt d c) [
        | inl below ↦ so.1 d below shown
        | inr past ↦ here both.1 so.0 d (omega arith) shown
      ],
    )
  where
    here : answer ≡ Idle → mid ≡ old → (d : ℕ) → c ≡ d → ((w : World) × Shows old w) → IsFree old.jobs d × NoneWaits old.jobs d
    here idle same d at (w, shows) =
        let r = turn w (subst (λ (m : MachineState). Shows m w) (sym same) shows) in
        let none = idle_turn w c answer r.0 r.1.0 idle in
        let P : List Task → Type 0 = λ jobs. IsFree jobs c × NoneWaits jobs c in
        subst (λ (n : ℕ). IsFree old.jobs n × NoneWaits old.jobs n) at (subst P shows.jobs none)

pub round_ends : (n : ℕ) (worked : Bool) (old new : MachineState) → CanStand old → ((c : ℕ) → has_cpu old.store c ≡ nat_lt c n) → IdleSo old n worked new
    → worked ≡ false → ((w : World) × Shows old w) → HaveEnded new.jobs
round_ends n worked old new stands cpus so e shown =
    let idle = so e in
    let inside : (j : ℕ) (task : Task) → slice_get old.jobs j ≡ Some task → task.cpu < n =
    λ j task listed. ltb-true task.cpu n (sym (cpus task.cpu) ∙ stands.served j task listed)
    in
    subst (λ (m : MachineState). HaveEnded m.jobs) (sym idle.0) (all_ended old.jobs n inside (λ c less. idle.1 c less shown))
