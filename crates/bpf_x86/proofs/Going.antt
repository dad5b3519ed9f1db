-- A job that goes on, on the x86 machine and on the plain one that is ahead of it.
use Rattle.std.proofs.Common.{◌≡◌, ◌≢◌, ℕ, suc, List, [], ◌++◌, Option, Some, None, inl, inr, refl, sym, ap, subst, ◌∙◌}
use Rattle.std.specs.Prelude.{map, slice_get}
use Rattle.bpf_shared.specs.declared.events.Event.{Event}
use Rattle.bpf_shared.specs.declared.events.Event.TheVariants.{End}
use Rattle.bpf_shared.specs.Store.{Plain, put}
use Rattle.bpf_shared.specs.Choice.{PlainlyAllowed}
use Rattle.bpf_shared.specs.History.{PlainlyLegal, entry}
use Rattle.bpf_shared.proofs.Puts.{put-same}
use Rattle.bpf_loader.specs.Loaded.{Loaded}
use Rattle.bpf_cpu.specs.declared.cpu.Cpu.{Cpu}
use Rattle.bpf_cpu.specs.declared.outcome.Outcome.{Outcome}
use Rattle.bpf_cpu.specs.declared.outcome.Progress.{Progress}
use Rattle.bpf_cpu.specs.Step.{Step}
use Rattle.bpf_cpu.specs.Task.{Task, InHand, Ended}
use Rattle.bpf_machine.specs.declared.machine.Turn.{Turn}
use Rattle.bpf_machine.specs.declared.machine.Turn.TheVariants as turn
use Rattle.bpf_machine.specs.Listings.{Listing, listed_now, keys_by_map}
use Rattle.bpf_machine.specs.Schedule.{World, Lists, Settles}
use Rattle.bpf_machine.specs.Schedule as plain
use Rattle.bpf_x86.specs.Buffers.{Buffered, Calls}
use Rattle.bpf_x86.specs.Machine.{X86, buffered, Advances, Settled, GoesOn}
use Rattle.bpf_x86.proofs.Buffers.{IsAhead}
use Rattle.bpf_x86.proofs.Meeting.{call_ahead}
use Rattle.bpf_x86.proofs.Behind.{IsBehind}
use Rattle.bpf_x86.proofs.Lagging.{AdvanceMisses, new_world}
use Rattle.bpf_x86.proofs.Following.{listed_same}
use Rattle.bpf_x86.proofs.StepShapes.{AreNot, is_call}
use Rattle.bpf_x86.proofs.Turning.{OwnStep, Drained, Kept, Stored, Advanced, CoversBuffers, JudgeStep, stores_of, advance_ahead}

-- a world with other memory, and buffers
abbrev pub over : World → Plain → (ℕ → List Event) → X86
over w p buffers = record { world = record w { store = p }; buffers = buffers }

-- the CPU's own buffer after its turn, and its job
pub data OwnTurn (w : World) (program : Loaded) (buffers after : ℕ → List Event) (s : Plain) (c k : ℕ) (t : Task) (old : Cpu) (left : ℕ)
    (z : World) : Type 0 where
  NothingWaits : after c ≡ [] → OwnTurn w program buffers after s c k t old left z
  AsBefore : after c ≡ buffers c → (next : Plain) (new : Cpu) (rest : ℕ) → z ≡ new_world w next k t (InHand new rest) w.lists
      → ((lacking : List Event) (l : Plain) → IsBehind c lacking l s → IsBehind c lacking l next) → OwnTurn w program buffers after s c k t old left z
  SomeMore : (made : List Event) (n : ℕ) (answer : Progress) (later : Cpu) → left ≡ suc n → Step s.shape program old made answer later → AreNot is_call made
      → after c ≡ buffers c ++ stores_of made → (next : Plain) (new : Cpu) (rest : ℕ) → z ≡ new_world w next k t (InHand new rest) w.lists →
      PlainlyLegal s (map (entry c) made) next
      → OwnTurn w program buffers after s c k t old left z

pub record Gone (lacks : ℕ → List Event) (w : World) (b : Buffered) (s : Plain) (c k : ℕ) (t : Task) (old : Cpu) (left : ℕ) (answer : Turn)
    (z : X86) : Type 0 where
  pub next : World
  pub goes : plain.GoesOn (record w { store = s }) c k t old left answer next
  pub misses : (d : ℕ) → d ≢ c → AdvanceMisses (lacks d) goes.0 c s old left goes.1 goes.2 goes.3 goes.4 goes.6
  pub world : z.world ≡ record next { store = z.world.store }
  pub ahead : IsAhead (buffered z) next.store
  pub others : (d : ℕ) → d ≢ c → z.buffers d ≡ b.buffers d
  pub own : OwnTurn w goes.0 b.buffers z.buffers s c k t old left next

-- memory of a machine that is known
in_memory : (z : X86) (v : World) (p : Plain) (f : ℕ → List Event) (s : Plain) → z.world ≡ record v { store = p } → z.buffers ≡ f → IsAhead
    (record { memory = p; buffers = f }) s → IsAhead (buffered z) s
in_memory z v p f s world buffers ahead =
    subst (λ (q : Plain). IsAhead (record { memory = q; buffers = z.buffers }) s) (sym (ap (λ (x : World). x.store) world))
    (subst (λ (g : ℕ → List Event). IsAhead (record { memory = p; buffers = g }) s) (sym buffers) ahead)

its_world : (z : X86) (v : World) (p : Plain) → z.world ≡ record v { store = p } → z.world ≡ record v { store = z.world.store }
its_world z v p world = world ∙ ap (λ (q : Plain). record v { store = q }) (sym (ap (λ (x : World). x.store) world))

module _ (lacks : ℕ → List Event) (w : World) (b : Buffered) (s : Plain) (c k : ℕ) (t : Task) (old : Cpu) (left : ℕ) (answer : Turn)
    (z : X86) (ahead : IsAhead b s) (cover : CoversBuffers lacks b) where
  go : (program : Loaded) → slice_get w.programs t.program ≡ Some program → JudgeStep lacks program c s old left
      → (end : Option Outcome) (b1 : Buffered) (new : Cpu) (rest : ℕ) → Advances program c b old left end b1 new rest → Settled
      (over w b1.memory b1.buffers) c k t new rest end answer z
      → Gone lacks w b s c k t old left answer z
  go program loaded judge None b1 new rest advances settled =
      let a = advance_ahead lacks program c b s old left None b1 new rest ahead cover judge advances in
      let next : World = new_world w a.next k t (InHand new rest) w.lists in
      let path : z.world ≡ record next { store = b1.memory } = settled.0.1 in
      record {
        next = next;
        goes = (program, None, a.next, new, rest, loaded, a.advances, (settled.0.0, refl));
        misses = a.misses;
        world = its_world z next b1.memory path;
        ahead = in_memory z next b1.memory b1.buffers a.next path settled.1 a.ahead;
        others = λ d ne. ap (λ (f : ℕ → List Event). f d) settled.1 ∙ a.others d ne;
        own = own a.next next refl a.own;
      }
    where
      own : (p : Plain) (next : World) → next ≡ new_world w p k t (InHand new rest) w.lists → OwnStep program b b1 s p c old left → OwnTurn
          w program b.buffers z.buffers s c k t old left next
      own p next is (Drained none) = NothingWaits (ap (λ (f : ℕ → List Event). f c) settled.1 ∙ none)
      own p next is (Kept same stays) = AsBefore (ap (λ (f : ℕ → List Event). f c) settled.1 ∙ same) p new rest is stays
      own p next is (Stored made n answer later lefts step quiet legal more) =
          SomeMore made n answer later lefts step quiet (ap (λ (f : ℕ → List Event). f c) settled.1 ∙ more) p new rest is legal
  go program loaded judge (Some end) b1 new rest advances settled =
      let a = advance_ahead lacks program c b s old left (Some end) b1 new rest ahead cover judge advances in
      let drained : Buffered = settled.0 in
      let ended = settled.2 in
      let after : Buffered = record { memory = ended.0; buffers = drained.buffers } in
      let call : Calls b1 c End after = (drained, settled.1, (ended.0, ended.1, refl)) in
      let r = call_ahead b1 after a.next c End a.ahead (λ d x ne hit too. cc) call in
      let none : z.buffers c ≡ [] = ap (λ (f : ℕ → List Event). f c) settled.3 ∙ ap (λ (q : Buffered). q.buffers c) settled.1.2 ∙ put-same
      b1.buffers c c [] refl in
      let keys : keys_by_map ended.0 ≡ keys_by_map r.next = sym (ap keys_by_map r.ahead.like.same) in
      let others : (d : ℕ) → d ≢ c → z.buffers d ≡ b.buffers d = λ d ne. ap (λ (f : ℕ → List Event). f d) settled.3 ∙ r.others d ne ∙ a.others d ne in
      listed a r.next r.allowed ended.0 drained.buffers settled.3 r.ahead none keys others ended.2 ended.3
    where
      listed : (a : Advanced lacks program c b s old left (Some end) b1 new rest) (p : Plain) → PlainlyAllowed a.next c End p → (q : Plain)
          (buffers : ℕ → List Event) → z.buffers ≡ buffers → IsAhead (record { memory = q; buffers = buffers }) p
          → z.buffers c ≡ [] → keys_by_map q ≡ keys_by_map p → ((d : ℕ) → d ≢ c → z.buffers d ≡ b.buffers d) → answer ≡ turn.Ended k end
          → Lists (new_world w q k t (Ended end) w.lists) c z.world → Gone lacks w b s c k t old left answer z
      listed a p allowed q buffers same ahead_p none keys others said (inl (some, path)) =
          let next : World = new_world w p k t (Ended end) w.lists in
          record {
            next = next;
            goes = (program, Some end, a.next, new, rest, loaded, a.advances, (p, allowed, said, inl (some, refl)));
            misses = a.misses;
            world = its_world z next q path;
            ahead = in_memory z next q buffers p path same ahead_p;
            others = others;
            own = NothingWaits none;
          }
      listed a p allowed q buffers same ahead_p none keys others said (inr (idle, path)) =
          let made : ℕ → Listing = put w.lists c (listed_now p (w.lists c)) in
          let next : World = new_world w p k t (Ended end) made in
          let lists : put w.lists c (listed_now q (w.lists c)) ≡ made = ap (λ (x : Listing). put w.lists c x) (listed_same q p (w.lists c) keys) in
          let path' : z.world ≡ record next { store = q } = path ∙ ap (λ (f : ℕ → Listing). new_world w q k t (Ended end) f) lists in
          record {
            next = next;
            goes = (program, Some end, a.next, new, rest, loaded, a.advances, (p, allowed, said, inr (idle, refl)));
            misses = a.misses;
            world = its_world z next q path';
            ahead = in_memory z next q buffers p path' same ahead_p;
            others = others;
            own = NothingWaits none;
          }

  pub goes_on : ((program : Loaded) → slice_get w.programs t.program ≡ Some program → JudgeStep lacks program c s old left) → GoesOn
      (over w b.memory b.buffers) c k t old left answer z → Gone lacks w b s c k t old left answer z
  goes_on judge g = go g.0 g.5 (judge g.0 g.5) g.1 g.2 g.3 g.4 g.6 g.7
