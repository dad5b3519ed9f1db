-- All that moves lead to while no job runs out of budget leads to what a kept machine shows: turns that are
-- unseen are made there at last, if they weren't before.
use Rattle.std.proofs.Common.{◌≡◌, ◌∙◌, ℕ, zero, suc, ◌<◌, ◌≤◌, ◌⊎◌, List, [], ◌∷◌, ◌++◌, Some, inl, inr, length, refl, sym, ap, subst, arith}
use Rattle.std.specs.Prelude.{slice_get}
use Rattle.bpf_base.proofs.Lists.{slice_get-set_known, slice_get-set_other}
use Rattle.bpf_shared.proofs.Puts.{equal_or_not}
use Rattle.bpf_shared.specs.Shape.{Shape}
use Rattle.bpf_shared.specs.Laws.{CallsHaveOneReply}
use Rattle.bpf_shared.specs.declared.events.Event.{Event}
use Rattle.bpf_loader.specs.Loaded.{Loaded}
use Rattle.bpf_loader.specs.Laws.{OneInstructionBegins}
use Rattle.bpf_mem.specs.Laws.{WritesAreDetermined}
use Rattle.bpf_cpu.specs.declared.cpu.Cpu.{Cpu}
use Rattle.bpf_cpu.specs.declared.outcome.Outcome.TheVariants.{OutOfBudget}
use Rattle.bpf_cpu.specs.declared.outcome.Progress.TheVariants.{On}
use Rattle.bpf_cpu.specs.Step.{Step}
use Rattle.bpf_cpu.specs.Task.{Stage, Task, InHand, Ended}
use Rattle.bpf_alike.specs.Worlds.{AllAlike}
use Rattle.bpf_live.specs.Laws.{AlikeIsAnEquivalence, StepsAreAlike}
use Rattle.bpf_machine.specs.declared.machine.Turn.TheVariants.{Ran}
use Rattle.bpf_machine.specs.Hands.{with_stage}
use Rattle.bpf_machine.specs.Patient.{NoneRanOut}
use Rattle.bpf_machine.proofs.DeterminedTurns.{IsWorld, fresh_world}
use Rattle.bpf_machine.proofs.PatientLaws.{all_same, rich_world}
use Rattle.bpf_x86.specs.Buffers.{Buffered, CallsAll}
use Rattle.bpf_x86.specs.Forwarding.{AreStores}
use Rattle.bpf_x86.specs.Machine.{X86, Move, TurnOf, Moves, RunsMoves, buffered, drained}
use Rattle.bpf_buffering.specs.Ahead.{gone_on, IsUnseen, TakesUnseen}
use Rattle.bpf_buffering.specs.Search.{BufferedState, IsShownX86}
use Rattle.bpf_buffering.proofs.AlikeMoves.{alike_world, dead_none, moves_alike, none_alike}
use Rattle.bpf_buffering.proofs.Covering.{ahead, is_turn, unseen_turn, CanGo, still_goes, move_is, moves_along}
use Rattle.bpf_buffering.proofs.Determined.{one_move}
use Rattle.bpf_buffering.proofs.Fronting.{stores_wait}
use Rattle.bpf_buffering.specs.Alike.{with_x86_jobs}
use Rattle.bpf_patience.specs.Patience.{IsClosedRichlyX86, RunsFreelyX86}
use Rattle.bpf_patience.specs.Ends.{LeadsOnX86, PatientSetsLeadOn}
use Rattle.bpf_patience.proofs.AlikeRuns.{freely_back}
use Rattle.bpf_patience.proofs.Freeing.{rich_none}
use Rattle.bpf_patience.proofs.Joining.{free_both, free_nowhere, gift_first}
use Rattle.bpf_patience.proofs.Leaving.{AllStores, stores_after, stores_still}
use Rattle.bpf_patience.proofs.Richer.{rich_moves}

-- a job that goes on has not run out
none_on : (jobs : List Task) (j : ℕ) (task : Task) (state : Cpu) (left : ℕ) → slice_get jobs j ≡ Some task → NoneRanOut jobs → NoneRanOut
    (with_stage jobs j task (InHand state left))
none_on jobs j task state left listed none i t pc there ended = elim (equal_or_not i j) [
  | inl e ↦
      let now : Task = record task { stage = InHand state left } in
      let both : Some now ≡ Some t = sym (slice_get-set_known jobs j now task listed)
      ∙ subst (λ (k : ℕ). slice_get (with_stage jobs j task (InHand state left)) k ≡ Some t) e there in
      let same : now ≡ t = cc in
      let no : InHand state left ≡ Ended (OutOfBudget pc) = ap (λ (u : Task). u.stage) same ∙ ended in
      cc
  | inr ne ↦ none i t pc (sym (slice_get-set_other jobs j i (record task { stage = InHand state left }) ne) ∙ there) ended
]

module _ (law : WritesAreDetermined) (begins : OneInstructionBegins) (replies : CallsHaveOneReply) where
  -- the same moves, or fewer, go on from there, and end where such turns lead
  record Sooner (moves : List Move) (y z : X86) : Type 0 where
    rest : List Move
    last : X86
    turns : List Move
    runs : RunsMoves y rest last
    later : RunsFreelyX86 z turns last
    goes_on : NoneRanOut z.world.jobs → NoneRanOut last.world.jobs
    few : length rest ≤ length moves
    world : IsWorld y.world
    stores : AllStores y

  module _ (c j : ℕ) (task : Task) (old : Cpu) (left : ℕ) (program : Loaded) (shape : Shape) (ws : List Event) (new : Cpu)
      (step : Step shape program old ws On new) (are : AreStores ws) where
    abbrev was : Stage
    was = InHand old (suc (suc left))

    abbrev now : Stage
    now = InHand new (suc left)

    abbrev Goes : X86 → Type 0
    Goes x = CanGo law begins replies c j task old left program shape ws new step are x

    abbrev on : X86 → X86
    on x = ahead c j task was now ws x

    -- the turn is among the moves
    abbrev IsMade : List Move → X86 → X86 → Type 0
    IsMade moves x z = (rest : List Move) × RunsMoves (on x) rest z × (length rest < length moves)

    -- or it can be made at last
    abbrev IsLeft : List Move → X86 → X86 → Type 0
    IsLeft moves x z = Goes z × ((t : Buffered) × CallsAll (buffered z) c ws t) × RunsMoves (on x) moves (on z)

    made_or_left : (moves : List Move) (x z : X86) (t : Buffered) → Goes x → AllStores x → CallsAll (buffered x) c ws t → RunsMoves x moves z → IsMade
        moves x z ⊎ IsLeft moves x z
    made_or_left [] x z t can stores calls runs = inr (
      subst Goes (sym runs) can,
      (t, subst (λ (v : X86). CallsAll (buffered v) c ws t) (sym runs) calls),
      ap on runs,
    )
    made_or_left (move ∷ moves) x z t can stores calls (y, first, runs) = elim (is_turn move c) [
      | inl e ↦
          let here : y ≡ on x = move_is law begins replies c j task old left program shape ws new step are x y move e can first in
          inl (moves, subst (λ (v : X86). RunsMoves v moves z) here runs, omega arith)
      | inr ne ↦
          let next = still_goes law begins replies c j task old left program shape ws new step are x y move ne can first in
          let along : Moves (on x) move (on y) = moves_along c j task was now ws x y move ne can.at first in
          let still = stores_still replies x y c move ws t ne can.world.store stores are first calls in
          let r = made_or_left moves y z still.0 next (stores_after x y move can.world.store first stores) still.1 runs in
          elim r [
            | inl made ↦ let less = made.2 in inl (move ∷ made.0, (on y, along, made.1), omega arith)
            | inr later ↦ inr (later.0, later.1, (on y, along, later.2))
          ]
    ]

    -- the turn, where it can be made
    unseen_there : (z : X86) (t : Buffered) → Goes z → CallsAll (buffered z) c ws t → IsUnseen z c (on z)
    unseen_there z t can calls = record {
      job = j;
      task = task;
      old = old;
      left = left;
      at = can.at;
      program = program;
      loaded = can.loaded;
      events = ws;
      new = new;
      step = subst (λ (h : Shape). Step h program old ws On new) (sym can.shape_is) step;
      stores = are;
      after = t;
      calls = calls;
      is = ap (λ (b : Buffered). gone_on z b j task new (suc left)) (sym (stores_wait c ws (buffered z) t are calls));
    }

    sooner : (moves : List Move) (x z : X86) → IsMade moves x z ⊎ IsLeft moves x z → IsWorld (on x).world → AllStores (on x) → Sooner moves (on x) z
    sooner moves x z (inl made) world stores =
        let less = made.2 in
        record {
          rest = made.0;
          last = z;
          turns = [];
          runs = made.1;
          later = free_nowhere z;
          goes_on = λ none. none;
          few = omega arith;
          world = world;
          stores = stores;
        }
    sooner moves x z (inr (can, (t, calls), runs)) world stores =
        let u = unseen_there z t can calls in record {
          rest = moves;
          last = on z;
          turns = TurnOf c ∷ [];
          runs = runs;
          later = (z.world.jobs, on z, all_same z.world.jobs, (Ran, unseen_turn z (on z) c u), free_nowhere (on z));
          goes_on = none_on z.world.jobs j task new (suc left) can.at.listed;
          few = omega arith;
          world = world;
          stores = stores;
        }

  unseen_sooner : (moves : List Move) (x y z : X86) (c : ℕ) → IsWorld x.world → AllStores x → RunsMoves x moves z → IsUnseen x c y → Sooner moves y z
  unseen_sooner moves x y z c world stores runs u =
      let is : y ≡ ahead c u.job u.task (InHand u.old (suc (suc u.left))) (InHand u.new (suc u.left)) u.events x =
      u.is ∙ ap (λ (b : Buffered). gone_on x b u.job u.task u.new (suc u.left)) (stores_wait c u.events (buffered x) u.after u.stores u.calls) in
      let turn : Moves x (TurnOf c) y = (Ran, unseen_turn x y c u) in
      let world_y : IsWorld y.world = (one_move law begins replies x (TurnOf c) y y world turn turn).1 in
      let stores_y : AllStores y = stores_after x y (TurnOf c) world.store turn stores in
      let r = made_or_left c u.job u.task u.old u.left u.program x.world.store.shape u.events u.new u.step u.stores moves x z u.after
      (record { at = u.at; loaded = u.loaded; shape_is = refl; world = world }) stores u.calls runs in
      subst (λ (v : X86). Sooner moves v z) (sym is)
      (sooner c u.job u.task u.old u.left u.program x.world.store.shape u.events u.new u.step u.stores moves x z r
      (subst (λ (v : X86). IsWorld v.world) is world_y) (subst AllStores is stores_y))

  all_sooner : (n : ℕ) (moves : List Move) (x y z : X86) (c : ℕ) → IsWorld x.world → AllStores x → RunsMoves x moves z → TakesUnseen n x c y → Sooner moves y z
  all_sooner zero moves x y z c world stores runs is = record {
    rest = moves;
    last = z;
    turns = [];
    runs = subst (λ (v : X86). RunsMoves v moves z) (sym is) runs;
    later = free_nowhere z;
    goes_on = λ none. none;
    few = omega arith;
    world = subst (λ (v : X86). IsWorld v.world) (sym is) world;
    stores = subst AllStores (sym is) stores;
  }
  all_sooner (suc n) moves x y z c world stores runs (m, first, others) =
      let one = unseen_sooner moves x m z c world stores runs first in
      let r = all_sooner n one.rest m y one.last c one.world one.stores one.runs others in
      let less = one.few in
      let few = r.few in
      record {
        rest = r.rest;
        last = r.last;
        turns = one.turns ++ r.turns;
        runs = r.runs;
        later = free_both one.turns r.turns z one.last r.last one.later r.later;
        goes_on = λ none. r.goes_on (one.goes_on none);
        few = omega arith;
        world = r.world;
        stores = r.stores;
      }

-- ---- a closed list
module _ (equal : AlikeIsAnEquivalence) (steps : StepsAreAlike) (law : WritesAreDetermined) (begins : OneInstructionBegins)
    (replies : CallsHaveOneReply) where
  leads_on : (kept : List BufferedState) → IsClosedRichlyX86 kept → (n : ℕ) (moves : List Move) (x z : X86) → length moves ≤ n → IsWorld x.world →
      AllStores x → IsShownX86 kept x → RunsMoves x moves z → NoneRanOut z.world.jobs → LeadsOnX86 kept z
  leads_on kept closed n [] x z few world stores shown runs none =
      ([], z, free_nowhere z, dead_none equal (IsShownX86 kept) z (subst (IsShownX86 kept) (sym runs) shown))
  leads_on kept closed zero (move ∷ moves) x z few world stores shown runs none = absurd (omega arith)
  leads_on kept closed (suc n) (move ∷ moves) x z few world stores shown (m, first, runs) none = elim (closed shown.0 shown.1 shown.2 move) [
    | inl made ↦
        (let there = made.1 x shown.3 in
        let one = one_move law begins replies x move m there.0 world first there.4 in
        let r = all_sooner law begins replies there.3 moves there.0 there.1 z there.2 (subst (λ (v : X86). IsWorld v.world) one.0 one.1)
        (stores_after x there.0 move world.store there.4 stores) (subst (λ (v : X86). RunsMoves v moves z) one.0 runs) there.5 in
        let less = r.few in
        let rich = made.2 there.1 there.6 in
        let none_last = r.goes_on none in
        let on = rich_moves r.rest there.1 r.last rich.0 rich.1 r.runs none_last in
        let mid : X86 = with_x86_jobs there.1 rich.0 in
        let end : X86 = with_x86_jobs r.last on.0 in
        let dead = rich.2 in
        let off = moves_alike equal steps mid.world.programs r.rest mid end dead.0 refl dead.1 on.1 in
        let fit : NoneRanOut off.0 = none_alike equal mid.world.programs on.0 off.0 off.2 (rich_none r.last.world.jobs on.0 on.2 none_last) in
        let far = leads_on kept closed n r.rest (with_x86_jobs mid dead.0) (with_x86_jobs end off.0) (omega arith)
        (alike_world equal mid.world dead.0 dead.1 (rich_world there.1.world rich.0 rich.1 r.world)) r.stores dead.2 off.1 fit in
        let like : AllAlike end.world.programs on.0 off.0 = subst (λ (ps : List Loaded). AllAlike ps on.0 off.0) (sym off.3) off.2 in
        let back = freely_back equal steps (IsShownX86 kept) far.0 end far.1 off.0 like far.2 far.3 in
        (r.turns ++ far.0, back.0, free_both r.turns far.0 z r.last back.0 r.later (gift_first far.0 r.last back.0 on.0 on.2 back.1), back.2))
    | inr never ↦ absurd (never x m shown.3 first)
  ]

  pub patient_sets_lead_on : PatientSetsLeadOn
  patient_sets_lead_on kept w moves z closed fresh shown runs none = leads_on kept closed (length moves) moves (drained w) z (omega arith)
      (fresh_world law begins replies w fresh) (λ c. tt) shown runs none
