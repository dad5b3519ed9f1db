-- Runs of moves in which jobs are given steps: richer beginnings, and turns that are unseen first.
use Rattle.std.proofs.Common.{◌≡◌, ◌∙◌, ◌+◌, ◌<◌, ◌≤◌, ℕ, zero, suc, List, [], ◌∷◌, inl, inr, length, replicate, refl, sym, ap, subst, arith}
use Rattle.std.specs.Prelude.{slice_get}
use Rattle.bpf_shared.specs.Shape.{Shape}
use Rattle.bpf_shared.specs.Laws.{CallsHaveOneReply}
use Rattle.bpf_shared.specs.declared.events.Event.{Event}
use Rattle.bpf_loader.specs.Loaded.{Loaded}
use Rattle.bpf_loader.specs.Laws.{OneInstructionBegins}
use Rattle.bpf_mem.specs.Laws.{WritesAreDetermined}
use Rattle.bpf_cpu.specs.declared.cpu.Cpu.{Cpu}
use Rattle.bpf_cpu.specs.declared.outcome.Outcome.{Outcome}
use Rattle.bpf_cpu.specs.declared.outcome.Outcome.TheVariants.{OutOfBudget}
use Rattle.bpf_cpu.specs.declared.outcome.Progress.TheVariants.{On}
use Rattle.bpf_cpu.specs.Step.{Step}
use Rattle.bpf_cpu.specs.Task.{Stage, Task, InHand, Ended}
use Rattle.bpf_machine.specs.declared.machine.Turn.TheVariants.{Ran}
use Rattle.bpf_machine.specs.Hands.{with_stage}
use Rattle.bpf_machine.specs.Patient.{NoneRanOut, IsRicher, AsRich}
use Rattle.bpf_machine.specs.Rounds.{HaveEnded}
use Rattle.bpf_machine.proofs.DeterminedTurns.{IsWorld}
use Rattle.bpf_machine.proofs.PatientLaws.{all_same, end_richer, richer_hand, rich_at, rich_back, rich_ended, rich_world}
use Rattle.bpf_x86.specs.Forwarding.{AreStores}
use Rattle.bpf_x86.specs.Machine.{X86, Move, TurnOf, Moves, RunsMoves, buffered}
use Rattle.bpf_buffering.specs.Ahead.{gone_on, IsUnseen, TakesUnseen}
use Rattle.bpf_buffering.proofs.Covering.{ahead, is_turn, unseen_turn, CanGo, still_goes, move_is, moves_along}
use Rattle.bpf_buffering.proofs.Determined.{one_move}
use Rattle.bpf_buffering.proofs.Fronting.{stores_wait}
use Rattle.bpf_buffering.specs.Alike.{with_x86_jobs}
use Rattle.bpf_patience.specs.Patience.{RunsFreelyX86}
use Rattle.bpf_patience.proofs.Joining.{gift_first}
use Rattle.bpf_patience.proofs.Richer.{rich_move, rich_set, stays_ended, suc_more}

-- ---- two lists of richer jobs have a third that is richer than both
richer_join : (x y z : Task) → IsRicher x y → IsRicher x z → (t : Task) × IsRicher y t × IsRicher z t
richer_join x y z (inl same) more = (z, subst (λ (t : Task). IsRicher t z) (sym same) more, inl refl)
richer_join x y z (inr (state, left, k, at, is)) more =
    let there = richer_hand x z state left more at in
    let n = there.0 in
    let t : Task = record x { stage = InHand state (left + k + n) } in
    let sum : left + k + n ≡ left + n + k = omega arith in (
      t,
      inr (state, left + k, n, ap (λ (u : Task). u.stage) is, sym (ap (λ (u : Task). record u { stage = InHand state (left + k + n) }) is)),
      inr (
        state,
        left + n,
        k,
        ap (λ (u : Task). u.stage) there.1,
        ap (λ (i : ℕ). record x { stage = InHand state i }) sum ∙ sym
            (ap (λ (u : Task). record u { stage = InHand state (left + n + k) }) there.1),
      ),
    )

pub rich_join : (xs ys zs : List Task) → AsRich xs ys → AsRich xs zs → (ts : List Task) × AsRich ys ts × AsRich zs ts
rich_join [] [] [] a b = ([], tt, tt)
rich_join [] [] (z ∷ zs) a b = absurd b
rich_join [] (y ∷ ys) zs a b = absurd a
rich_join (x ∷ xs) [] zs a b = absurd a
rich_join (x ∷ xs) (y ∷ ys) [] a b = absurd b
rich_join (x ∷ xs) (y ∷ ys) (z ∷ zs) a b =
    let one = richer_join x y z a.0 b.0 in
    let rest = rich_join xs ys zs a.1 b.1 in
    (one.0 ∷ rest.0, (one.1, rest.1), (one.2, rest.2))

-- ---- jobs that have ended
richer_end : (old new : Task) (end : Outcome) → IsRicher old new → new.stage ≡ Ended end → new ≡ old
richer_end old new end (inl same) at = same
richer_end old new end (inr a) at = let no : InHand a.0 (a.1 + a.2) ≡ Ended end = ap (λ (t : Task). t.stage) (sym a.4) ∙ at in cc

pub poor_ended : (xs ys : List Task) → AsRich xs ys → HaveEnded ys → ys ≡ xs
poor_ended [] [] rich ended = refl
poor_ended [] (y ∷ ys) rich ended = absurd rich
poor_ended (x ∷ xs) [] rich ended = absurd rich
poor_ended (x ∷ xs) (y ∷ ys) rich ended =
    let end = ended 0 y refl in
    ap (λ (t : Task). t ∷ ys) (richer_end x y end.0 rich.0 end.1) ∙ ap (λ (ts : List Task). x ∷ ts)
    (poor_ended xs ys rich.1 (λ j task at. ended (suc j) task at))

pub none_poor : (xs ys : List Task) → AsRich xs ys → NoneRanOut ys → NoneRanOut xs
none_poor xs ys rich none j task pc at ended =
    let b = rich_at xs ys j task rich at in
    let same : b.0 ≡ task = end_richer task b.0 (OutOfBudget pc) b.2 ended in
    none j b.0 pc b.1 (ap (λ (t : Task). t.stage) same ∙ ended)

pub rich_none : (xs ys : List Task) → AsRich xs ys → NoneRanOut xs → NoneRanOut ys
rich_none xs ys rich none j task pc at ended =
    let b = rich_back xs ys j task rich at in
    let same : task ≡ b.0 = richer_end b.0 task (OutOfBudget pc) b.2 ended in
    none j b.0 pc b.1 (ap (λ (t : Task). t.stage) (sym same) ∙ ended)

-- ---- runs in which jobs are given steps
pub freely_none : (moves : List Move) (x z : X86) → RunsFreelyX86 x moves z → NoneRanOut z.world.jobs → NoneRanOut x.world.jobs
freely_none [] x z (jobs, rich, same) none = none_poor x.world.jobs jobs rich (subst (λ (v : X86). NoneRanOut v.world.jobs) same none)
freely_none (move ∷ moves) x z (jobs, y, rich, first, runs) none =
    let after = freely_none moves y z runs none in
    none_poor x.world.jobs jobs rich (λ j task pc at ended. after j task pc
    (stays_ended (with_x86_jobs x jobs) move y j task (OutOfBudget pc) first at ended) ended)

-- they lead to the same end where more steps are there from the first on
pub freely_richer : (moves : List Move) (x z : X86) (more : List Task) → AsRich x.world.jobs more → RunsFreelyX86 x moves z → HaveEnded
    z.world.jobs → NoneRanOut z.world.jobs → RunsFreelyX86 (with_x86_jobs x more) moves z
freely_richer [] x z more rich (jobs, given, same) ended none =
    let are : z.world.jobs ≡ jobs = ap (λ (v : X86). v.world.jobs) same in
    let low : jobs ≡ x.world.jobs = poor_ended x.world.jobs jobs given (subst HaveEnded are ended) in
    let over : HaveEnded x.world.jobs = subst HaveEnded (are ∙ low) ended in
    let high : more ≡ x.world.jobs = rich_ended x.world.jobs more rich over in
    (more, all_same more, same ∙ ap (with_x86_jobs x) (low ∙ sym high))
freely_richer (move ∷ moves) x z more rich (jobs, y, given, first, runs) ended none =
    let top = rich_join x.world.jobs more jobs rich given in
    let on = rich_move (with_x86_jobs x jobs) top.0 move y top.2 first (freely_none moves y z runs none) in
    (top.0, with_x86_jobs y on.0, top.1, on.1, freely_richer moves y z on.0 on.2 runs ended none)

-- ---- turns that are unseen, where jobs have more steps left
pub rich_unseen : (x : X86) (jobs : List Task) (c : ℕ) (y : X86) → AsRich x.world.jobs jobs → IsUnseen x c y → (later : List Task) ×
    IsUnseen (with_x86_jobs x jobs) c (with_x86_jobs y later) × AsRich y.world.jobs later
rich_unseen x jobs c y rich u =
    let b = rich_at x.world.jobs jobs u.job u.task rich u.at.listed in
    let h = richer_hand u.task b.0 u.old (suc (suc u.left)) b.2 u.at.at in
    let k = h.0 in
    let left : suc (suc u.left) + k ≡ suc (suc (u.left + k)) = omega arith in
    let stage : Stage = InHand u.new (suc (u.left + k)) in
    let later : List Task = with_stage jobs u.job b.0 stage in
    let made : IsUnseen (with_x86_jobs x jobs) c (with_x86_jobs y later) = record {
      job = u.job;
      task = b.0;
      old = u.old;
      left = u.left + k;
      at = record {
        listed = b.1;
        of = ap (λ (t : Task). t.cpu) h.1 ∙ u.at.of;
        at = ap (λ (t : Task). t.stage) h.1 ∙ ap (InHand u.old) left;
      };
      program = u.program;
      loaded = ap (λ (t : Task). slice_get x.world.programs t.program) h.1 ∙ u.loaded;
      events = u.events;
      new = u.new;
      step = u.step;
      stores = u.stores;
      after = u.after;
      calls = u.calls;
      is = ap (λ (v : X86). with_x86_jobs v later) u.is;
    } in
    let richer : IsRicher (record u.task { stage = InHand u.new (suc u.left) }) (record b.0 { stage = stage }) = inr (
      u.new,
      suc u.left,
      k,
      refl,
      ap (λ (t : Task). record t { stage = stage }) h.1 ∙ ap (λ (n : ℕ). record u.task { stage = InHand u.new n }) (suc_more u.left k),
    ) in (
      later,
      made,
      subst (λ (v : X86). AsRich v.world.jobs later) (sym u.is)
          (rich_set x.world.jobs jobs u.job (record u.task { stage = InHand u.new (suc u.left) }) (record b.0 { stage = stage }) rich richer),
    )

pub rich_unseens : (n : ℕ) (x : X86) (jobs : List Task) (c : ℕ) (y : X86) → AsRich x.world.jobs jobs → TakesUnseen n x c y → (later : List Task) ×
    TakesUnseen n (with_x86_jobs x jobs) c (with_x86_jobs y later) × AsRich y.world.jobs later
rich_unseens zero x jobs c y rich is =
    (jobs, ap (λ (v : X86). with_x86_jobs v jobs) is, subst (λ (v : X86). AsRich v.world.jobs jobs) (sym is) rich)
rich_unseens (suc n) x jobs c y rich (m, first, rest) =
    let one = rich_unseen x jobs c m rich first in
    let r = rich_unseens n m one.0 c y one.2 rest in
    (r.0, (with_x86_jobs m one.0, one.1, r.1), r.2)

-- they are turns
pub unseen_moves : (n : ℕ) (x z : X86) (c : ℕ) → TakesUnseen n x c z → RunsMoves x (replicate n (TurnOf c)) z
unseen_moves zero x z c takes = takes
unseen_moves (suc n) x z c (y, made, rest) = (y, (Ran, unseen_turn x y c made), unseen_moves n y z c rest)

-- ---- unseen turns come first
module _ (law : WritesAreDetermined) (begins : OneInstructionBegins) (replies : CallsHaveOneReply) where
  module _ (c j : ℕ) (old : Cpu) (program : Loaded) (shape : Shape) (ws : List Event) (new : Cpu)
      (step : Step shape program old ws On new) (stores : AreStores ws) where
    abbrev Goes : Task → ℕ → X86 → Type 0
    Goes task left x = CanGo law begins replies c j task old left program shape ws new step stores x

    abbrev on : Task → ℕ → X86 → X86
    on task left x = ahead c j task (InHand old (suc (suc left))) (InHand new (suc left)) ws x

    -- the moves that lead to a machine without work, but for that turn
    abbrev Rest : Task → ℕ → List Move → X86 → X86 → Type 0
    Rest task left moves x z = (rest : List Move) × RunsFreelyX86 (on task left x) rest z × (length rest < length moves)

    front : (moves : List Move) (task : Task) (left : ℕ) (x z : X86) → Goes task left x → HaveEnded z.world.jobs → RunsFreelyX86 x moves z →
        Rest task left moves x z
    front [] task left x z can ended (jobs, rich, same) =
        let b = rich_at x.world.jobs jobs j task rich can.at.listed in
        let h = richer_hand task b.0 old (suc (suc left)) b.2 can.at.at in
        let end = ended j b.0 (ap (λ (v : X86). slice_get v.world.jobs j) same ∙ b.1) in
        let no : InHand old (suc (suc left) + h.0) ≡ Ended end.0 = sym (ap (λ (t : Task). t.stage) h.1) ∙ end.1 in
        cc
    front (move ∷ moves) task left x z can ended (jobs, y, rich, first, runs) =
        let b = rich_at x.world.jobs jobs j task rich can.at.listed in
        let h = richer_hand task b.0 old (suc (suc left)) b.2 can.at.at in
        let k = h.0 in
        let sum : suc (suc left) + k ≡ suc (suc (left + k)) = omega arith in
        let stage : Stage = InHand new (suc (left + k)) in
        let later : List Task = with_stage jobs j b.0 stage in
        let richer : IsRicher (record task { stage = InHand new (suc left) }) (record b.0 { stage = stage }) = inr (
          new,
          suc left,
          k,
          refl,
          ap (λ (t : Task). record t { stage = stage }) h.1 ∙ ap (λ (n : ℕ). record task { stage = InHand new n }) (suc_more left k),
        ) in
        let given : AsRich (on task left x).world.jobs later =
        rich_set x.world.jobs jobs j (record task { stage = InHand new (suc left) }) (record b.0 { stage = stage }) rich richer in
        let still : Goes b.0 (left + k) (with_x86_jobs x jobs) = record {
          at = record {
            listed = b.1;
            of = ap (λ (t : Task). t.cpu) h.1 ∙ can.at.of;
            at = ap (λ (t : Task). t.stage) h.1 ∙ ap (InHand old) sum;
          };
          loaded = ap (λ (t : Task). slice_get x.world.programs t.program) h.1 ∙ can.loaded;
          shape_is = can.shape_is;
          world = rich_world x.world jobs rich can.world;
        } in
        elim (is_turn move c) [
          | inl e ↦
              let here : y ≡ on b.0 (left + k) (with_x86_jobs x jobs) =
              move_is law begins replies c j b.0 old (left + k) program shape ws new step stores (with_x86_jobs x jobs) y move e still first in
              (moves, gift_first moves (on task left x) z later given (subst (λ (v : X86). RunsFreelyX86 v moves z) here runs), omega arith)
          | inr ne ↦
              let next = still_goes law begins replies c j b.0 old (left + k) program shape ws new step stores (with_x86_jobs x jobs) y move ne still first in
              let r = front moves b.0 (left + k) y z next ended runs in
              let less = r.2 in
              let along : Moves (on b.0 (left + k) (with_x86_jobs x jobs)) move (on b.0 (left + k) y) =
              moves_along c j b.0 (InHand old (suc (suc (left + k)))) stage ws (with_x86_jobs x jobs) y move ne still.at first in
              (move ∷ r.0, (later, on b.0 (left + k) y, given, along, r.1), omega arith)
        ]

  unseen_first : (moves : List Move) (x y z : X86) (c : ℕ) → IsWorld x.world → HaveEnded z.world.jobs → RunsFreelyX86 x moves z → IsUnseen x c y
      → (rest : List Move) × RunsFreelyX86 y rest z × (length rest < length moves) × IsWorld y.world
  unseen_first moves x y z c world ended runs u =
      let r = front c u.job u.old u.program x.world.store.shape u.events u.new u.step u.stores moves u.task u.left x z
      (record { at = u.at; loaded = u.loaded; shape_is = refl; world = world }) ended runs in
      let is : y ≡ ahead c u.job u.task (InHand u.old (suc (suc u.left))) (InHand u.new (suc u.left)) u.events x =
      u.is ∙ ap (λ (b : _). gone_on x b u.job u.task u.new (suc u.left)) (stores_wait c u.events (buffered x) u.after u.stores u.calls) in
      let turn : Moves x (TurnOf c) y = (Ran, unseen_turn x y c u) in (
        r.0,
        subst (λ (v : X86). RunsFreelyX86 v r.0 z) (sym is) r.1,
        r.2,
        (one_move law begins replies x (TurnOf c) y y world turn turn).1,
      )

  pub all_first_freely : (n : ℕ) (moves : List Move) (x y z : X86) (c : ℕ) → IsWorld x.world → HaveEnded z.world.jobs → RunsFreelyX86 x
      moves z → TakesUnseen n x c y → (rest : List Move) × RunsFreelyX86 y rest z × (length rest ≤ length moves) × IsWorld y.world
  all_first_freely zero moves x y z c world ended runs is =
      (moves, subst (λ (v : X86). RunsFreelyX86 v moves z) (sym is) runs, omega arith, subst (λ (v : X86). IsWorld v.world) (sym is) world)
  all_first_freely (suc n) moves x y z c world ended runs (m, first, others) =
      let one = unseen_first moves x m z c world ended runs first in
      let r = all_first_freely n one.0 m y z c one.3 ended one.1 others in
      let less = one.2 in
      let few = r.2 in
      (r.0, r.1, omega arith, r.3)
