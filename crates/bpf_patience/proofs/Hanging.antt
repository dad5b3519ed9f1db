-- Machines from which an end can be reached, and from which none can.
use Rattle.std.proofs.Common.{◌≡◌, ◌∙◌, ℕ, zero, suc, ◌≤◌, ◌⊎◌, Bool, false, List, [], ◌∷◌, ◌++◌, Some, inl, inr, length, replicate, refl}
use Rattle.std.proofs.Common.{sym, ap, subst, arith}
use Rattle.std.specs.Prelude.{slice_get}
use Rattle.bpf_shared.specs.Laws.{CallsHaveOneReply}
use Rattle.bpf_loader.specs.Laws.{OneInstructionBegins}
use Rattle.bpf_mem.specs.Laws.{WritesAreDetermined}
use Rattle.bpf_cpu.specs.Task.{Task}
use Rattle.bpf_live.specs.Laws.{AlikeIsAnEquivalence, StepsAreAlike}
use Rattle.bpf_alike.proofs.AlikeJobs.{all_back}
use Rattle.bpf_alike.proofs.AlikeRicher.{rich_under}
use Rattle.bpf_machine.specs.Patient.{AsRich, NoneRanOut}
use Rattle.bpf_machine.specs.Rounds.{HaveEnded}
use Rattle.bpf_machine.proofs.DeterminedTurns.{IsWorld, fresh_world}
use Rattle.bpf_machine.proofs.PatientLaws.{all_same, rich_again, rich_ended, rich_world}
use Rattle.bpf_x86.specs.Buffers.{Buffered, Flushes}
use Rattle.bpf_x86.specs.Machine.{X86, Move, TurnOf, FlushOf, Moves, RunsMoves, buffered, with_buffered, drained}
use Rattle.bpf_buffering.specs.Search.{BufferedState, ShowsX86}
use Rattle.bpf_buffering.specs.Ahead.{TakesUnseen}
use Rattle.bpf_buffering.specs.Album.{IsShownAt}
use Rattle.bpf_buffering.proofs.AlikeMoves.{alike_world, none_alike}
use Rattle.bpf_buffering.proofs.Determined.{one_move}
use Rattle.bpf_buffering.specs.Alike.{with_x86_jobs}
use Rattle.bpf_patience.specs.Patience.{RunsFreelyX86}
use Rattle.bpf_patience.specs.Ends.{AreStuckX86, CanEndX86, EndsInX86, IsShownRichlyAtX86, LeadsToX86, StuckX86sAreHung, X86sCanEnd}
use Rattle.bpf_patience.proofs.AlikeRuns.{end_back, freely_to_end}
use Rattle.bpf_patience.proofs.Freeing.{all_first_freely, freely_none, freely_richer, none_poor, poor_ended, rich_join, rich_unseens, unseen_moves}
use Rattle.bpf_patience.proofs.Joining.{free_both, free_nowhere, gift_first, gift_last}
use Rattle.bpf_patience.proofs.Richer.{none_ran_before, rich_move}

-- what a move from a kept machine leads to, after turns that are unseen
record Led (kept : List BufferedState) (u : X86) (move : Move) (k : ℕ) : Type 0 where
  mid : X86
  last : X86
  cpu : ℕ
  count : ℕ
  moved : Moves u move mid
  unseen : TakesUnseen count mid cpu last
  shown : IsShownRichlyAtX86 kept k last

one_kept : (kept : List BufferedState) (i : ℕ) (m n : BufferedState) → slice_get kept i ≡ Some m → slice_get kept i ≡ Some n → m ≡ n
one_kept kept i m n a b = let both : Some m ≡ Some n = sym a ∙ b in cc

led_from : (kept : List BufferedState) (u : X86) (i : ℕ) (move : Move) (k : ℕ) → IsShownAt kept i u → LeadsToX86 kept i move k → Led kept u move k
led_from kept u i move k (n, there, shows) (m, new, at, moves, keeps) =
    let same : n ≡ m = one_kept kept i n m there at in
    let r = moves u (subst (λ (s : BufferedState). ShowsX86 s u) same shows) in
    record { mid = r.0; last = r.1; cpu = r.2; count = r.3; moved = r.4; unseen = r.5; shown = keeps r.1 r.6 }

-- ---- an end can be reached
can_end : AlikeIsAnEquivalence → StepsAreAlike → (kept : List BufferedState) (n i : ℕ) (x : X86) → EndsInX86 kept n i → IsShownAt kept i x
    → CanEndX86 x
can_end equal steps kept zero i x (m, at, ended, none) (n, there, shows) =
    let same : m ≡ n = one_kept kept i m n at there in
    let are : m.machine.jobs ≡ x.world.jobs = ap (λ (s : BufferedState). s.machine.jobs) same ∙ sym shows.world.jobs in
    ([], x, free_nowhere x, subst HaveEnded are ended, subst NoneRanOut are none)
can_end equal steps kept (suc n) i x (move, k, leads, rest) shown =
    let l = led_from kept x i move k shown leads in
    let rich = l.shown in
    let dead = rich.2 in
    let mid : X86 = with_x86_jobs l.last rich.0 in
    let r = end_back equal steps mid dead.0 dead.1 (can_end equal steps kept n k (with_x86_jobs mid dead.0) rest dead.2) in
    let turns : List Move = replicate l.count (TurnOf l.cpu) in
    let through : RunsFreelyX86 l.mid turns l.last =
    gift_last turns l.mid l.last l.last.world.jobs (unseen_moves l.count l.mid l.last l.cpu l.unseen) (all_same l.last.world.jobs) in
    let on : RunsFreelyX86 l.mid (turns ++ r.0) r.1 =
    free_both turns r.0 l.mid l.last r.1 through (gift_first r.0 l.last r.1 rich.0 rich.1 r.2) in
    (move ∷ (turns ++ r.0), r.1, (x.world.jobs, l.mid, all_same x.world.jobs, l.moved, on), r.3, r.4)

pub x86s_can_end : AlikeIsAnEquivalence → StepsAreAlike → X86sCanEnd
x86s_can_end equal steps kept n i x ends (jobs, all, shown) =
    end_back equal steps x jobs all (can_end equal steps kept n i (with_x86_jobs x jobs) ends shown)

-- ---- none can
-- stores that wait don't depend on jobs
flush_too : (u x y : X86) (c : ℕ) → buffered u ≡ buffered x → Moves x (FlushOf c) y → (v : X86) × Moves u (FlushOf c) v
flush_too u x y c same (b, flushes, is) =
    (with_buffered u b, (b, subst (λ (q : Buffered). Flushes q c b) (sym same) flushes, refl))

module _ (kept : List BufferedState) (ends : List Bool) (stuck : AreStuckX86 kept ends) where
  abbrev IsStuckAt : ℕ → X86 → Type 0
  IsStuckAt i u = (slice_get ends i ≡ Some false) × IsShownAt kept i u

  -- but for steps that are left, a kept machine shows it that is stuck
  record IsLikeStuck (x : X86) : Type 0 where
    place : ℕ
    like : X86
    jobs : List Task
    stuck_there : IsStuckAt place like
    below : AsRich like.world.jobs jobs
    up : AsRich x.world.jobs jobs
    same : with_x86_jobs like jobs ≡ with_x86_jobs x jobs

  none_stuck : (i : ℕ) (u : X86) → IsStuckAt i u → NoneRanOut u.world.jobs
  none_stuck i u (off, (m, at, shows)) = subst NoneRanOut (sym shows.world.jobs) ((stuck i off).none m at)

  never_ended : (x : X86) → IsLikeStuck x → HaveEnded x.world.jobs → ⊥
  never_ended x like ended =
      let high : like.jobs ≡ x.world.jobs = rich_ended x.world.jobs like.jobs like.up ended in
      let over : HaveEnded like.jobs = subst HaveEnded (sym high) ended in
      let low : like.jobs ≡ like.like.world.jobs = poor_ended like.like.world.jobs like.jobs like.below over in
      let there = like.stuck_there in
      let shown = there.1 in
      (stuck like.place there.0).works shown.0 shown.1 (subst HaveEnded shown.2.world.jobs (subst HaveEnded low over))

  -- the move from one that is stuck
  led_stuck : (i : ℕ) (u : X86) (move : Move) → IsStuckAt i u
      → ((k : ℕ) × Led kept u move k × (slice_get ends k ≡ Some false)) ⊎ ((c : ℕ) × (move ≡ FlushOf c) × ((v : X86) → Moves u (FlushOf c) v → ⊥))
  led_stuck i u (TurnOf c) (off, shown) =
      let t = (stuck i off).turns c in
      inl (t.0, led_from kept u i (TurnOf c) t.0 shown t.1, t.2)
  led_stuck i u (FlushOf c) (off, shown) = elim ((stuck i off).flushes c) [
    | inl t ↦ inl (t.0, led_from kept u i (FlushOf c) t.0 shown t.1, t.2)
    | inr never ↦ inr (c, refl, λ v moved. never shown.0 shown.1 u v shown.2 moved)
  ]

  module _ (equal : AlikeIsAnEquivalence) (steps : StepsAreAlike) (law : WritesAreDetermined) (begins : OneInstructionBegins)
      (replies : CallsHaveOneReply) where
    -- the run goes on from such a machine
    record Next (moves : List Move) (z : X86) : Type 0 where
      from_here : X86
      rest : List Move
      runs : RunsFreelyX86 from_here rest z
      less : length rest ≤ length moves
      world : IsWorld from_here.world
      like : IsLikeStuck from_here

    module _ (x y z : X86) (given : List Task) (move : Move) (moves : List Move) (world : IsWorld x.world) (like : IsLikeStuck x)
        (rich : AsRich x.world.jobs given) (first : Moves (with_x86_jobs x given) move y) (runs : RunsFreelyX86 y moves z)
        (ended : HaveEnded z.world.jobs) (none : NoneRanOut z.world.jobs) where
      led_on : (k : ℕ) → Led kept like.like move k → slice_get ends k ≡ Some false → Next moves z
      led_on k l off =
          let top = rich_join x.world.jobs like.jobs given like.up rich in
          let seen = l.shown in
          let dead = seen.2 in
          let programs = l.last.world.programs in
          let stuck_now : IsStuckAt k (with_x86_jobs l.last dead.0) = (off, dead.2) in
          let none_dead : NoneRanOut dead.0 = none_stuck k (with_x86_jobs l.last dead.0) stuck_now in
          let none_last : NoneRanOut l.last.world.jobs = none_poor l.last.world.jobs seen.0 seen.1
          (none_alike equal programs dead.0 seen.0 (all_back equal programs seen.0 dead.0 dead.1) none_dead) in
          let none_mid : NoneRanOut l.mid.world.jobs = none_ran_before (replicate l.count (TurnOf l.cpu)) l.mid l.last
          (unseen_moves l.count l.mid l.last l.cpu l.unseen) none_last in
          let a = rich_move (with_x86_jobs x given) top.0 move y top.2 first (freely_none moves y z runs none) in
          let b = rich_move like.like top.0 move l.mid (rich_again like.like.world.jobs like.jobs top.0 like.below top.1) l.moved none_mid in
          let same : with_x86_jobs like.like top.0 ≡ with_x86_jobs x top.0 = ap (λ (v : X86). with_x86_jobs v top.0) like.same in
          let one = one_move law begins replies (with_x86_jobs x top.0) move (with_x86_jobs y a.0) (with_x86_jobs l.mid b.0)
          (rich_world x.world top.0 (rich_again x.world.jobs like.jobs top.0 like.up top.1) world) a.1
          (subst (λ (v : X86). Moves v move (with_x86_jobs l.mid b.0)) same b.1) in
          let u = rich_unseens l.count l.mid b.0 l.cpu l.last b.2 l.unseen in
          let later : X86 = with_x86_jobs l.last u.0 in
          let r = all_first_freely law begins replies l.count moves (with_x86_jobs y a.0) later z l.cpu one.1 ended
          (freely_richer moves y z a.0 a.2 runs ended none)
          (subst (λ (v : X86). TakesUnseen l.count v l.cpu later) (sym one.0) u.1) in
          let up = rich_join l.last.world.jobs seen.0 u.0 seen.1 u.2 in
          let high : X86 = with_x86_jobs l.last up.0 in
          let over : RunsFreelyX86 high r.0 z = freely_richer r.0 later z up.0 up.2 r.1 ended none in
          -- dead registers, and then richer jobs
          let under = rich_under programs dead.0 seen.0 up.0 (all_back equal programs seen.0 dead.0 dead.1) up.1 in
          let back = all_back equal programs under.0 up.0 under.2 in
          record {
            from_here = with_x86_jobs l.last under.0;
            rest = r.0;
            runs = freely_to_end equal steps r.0 high z under.0 back over ended;
            less = r.2;
            world = alike_world equal high.world under.0 back (rich_world later.world up.0 up.2 r.3);
            like = record {
              place = k;
              like = with_x86_jobs l.last dead.0;
              jobs = under.0;
              stuck_there = stuck_now;
              below = under.1;
              up = all_same under.0;
              same = refl;
            };
          }

      next : Next moves z
      next = elim (led_stuck like.place like.like move like.stuck_there) [
        | inl l ↦ led_on l.0 l.1 l.2
        | inr never ↦
            let same : buffered like.like ≡ buffered (with_x86_jobs x given) = ap (λ (v : X86). buffered v) like.same in
            let made = flush_too like.like (with_x86_jobs x given) y never.0 same (subst (λ (m : Move). Moves (with_x86_jobs x given) m y) never.1 first) in
            absurd (never.2 made.0 made.1)
      ]

    never : (n : ℕ) (moves : List Move) (x z : X86) → length moves ≤ n → IsWorld x.world → IsLikeStuck x → RunsFreelyX86 x moves z → HaveEnded
        z.world.jobs → NoneRanOut z.world.jobs → ⊥
    never n [] x z few world like (jobs, rich, same) ended none =
        let over : HaveEnded jobs = subst (λ (v : X86). HaveEnded v.world.jobs) same ended in
        never_ended x like (subst HaveEnded (poor_ended x.world.jobs jobs rich over) over)
    never zero (move ∷ moves) x z few world like runs ended none = absurd (omega arith)
    never (suc n) (move ∷ moves) x z few world like (jobs, y, rich, first, runs) ended none =
        let r = next x y z jobs move moves world like rich first runs ended none in
        let less = r.less in
        never n r.rest r.from_here z (omega arith) r.world r.like r.runs ended none

pub moved_world : WritesAreDetermined → OneInstructionBegins → CallsHaveOneReply → (moves : List Move) (x z : X86) → IsWorld x.world → RunsMoves x
    moves z → IsWorld z.world
moved_world law begins replies [] x z world runs = subst (λ (v : X86). IsWorld v.world) (sym runs) world
moved_world law begins replies (move ∷ moves) x z world (y, first, runs) =
    moved_world law begins replies moves y z (one_move law begins replies x move y y world first first).1 runs

pub stuck_x86s_are_hung : AlikeIsAnEquivalence → StepsAreAlike → WritesAreDetermined → OneInstructionBegins → CallsHaveOneReply → StuckX86sAreHung
stuck_x86s_are_hung equal steps law begins replies kept ends w moves z i stuck fresh runs off (jobs, rich, (dead, all, shown))
    (others, y, freely, ended, none) =
    let world = moved_world law begins replies moves (drained w) z (fresh_world law begins replies w fresh) runs in
    let high : X86 = with_x86_jobs z jobs in
    let low : X86 = with_x86_jobs z dead in
    let over : RunsFreelyX86 high others y = freely_richer others z y jobs rich freely ended none in
    never kept ends stuck equal steps law begins replies (length others) others low y (omega arith)
    (alike_world equal high.world dead all (rich_world z.world jobs rich world))
    (record { place = i; like = low; jobs = dead; stuck_there = (off, shown); below = all_same dead; up = all_same dead; same = refl })
    (freely_to_end equal steps others high y dead all over ended) ended none
