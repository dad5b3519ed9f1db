-- A flush of a CPU's buffer.
use Rattle.std.proofs.Common.{◌≡◌, ℕ, ◌<◌, ◌≤◌, zero, suc, Bool, true, List, [], ◌∷◌, length, inl, inr, refl, sym, ap, subst, ◌∙◌, arith}
use Rattle.std.specs.Prelude.{Vec, map, nat_lt, slice_set, slice_index_or}
use Rattle.std.specs.declared.alloc.Global.{Global}
use Rattle.std.proofs.lemmas.Bool.{lt-ltb}
use Rattle.std.proofs.lemmas.List.{map-set, length-set, set-get_or}
use Rattle.bpf_base.proofs.Lists.{set_twice}
use Rattle.bpf_shared.specs.declared.events.Event.{Event}
use Rattle.bpf_shared.specs.declared.events.Span.{Span}
use Rattle.bpf_shared.specs.Store.{put}
use Rattle.bpf_shared.specs.Choice.{PlainlyAllowed}
use Rattle.bpf_shared.proofs.Puts.{equal_or_not}
use Rattle.bpf_plain.specs.PlainStore.{Contents, StandsFor, shape_of, has_cpu, is_running, held_spans}
use Rattle.bpf_loader.specs.Loaded.{Loaded}
use Rattle.bpf_helpers.specs.Held.{AreHeld}
use Rattle.bpf_machine.specs.Machine.{MachineState}
use Rattle.bpf_x86.specs.Buffers.{Buffered}
use Rattle.bpf_x86.specs.Machine.{FlushOf, with_buffered}
use Rattle.bpf_buffering.specs.Search.{BufferedState, MovesTo, CannotMove, buffer_at}
use Rattle.bpf_buffering.specs.declared.waiting.Stored.{Stored}
use Rattle.bpf_buffering.specs.declared.jobs.Listed.{Listed}
use Rattle.bpf_buffering.specs.Waiting.{WaitingContents, CanWait, FlushesAlone, buffer_of, event_of}
use Rattle.bpf_buffering.specs.Going.{LeavesOthers}
use Rattle.bpf_buffering.specs.Buffering.{stored_at, events_of_all, state_of, Stands, IsBuffering}
use Rattle.bpf_buffering.proofs.Placing.{read_items}
use Rattle.bpf_buffering.proofs.Waits.{events_in, stored_same, stored_other, events_set, events_at, waits_still, nothing_waits}

-- nothing waits of a CPU: it can't flush
pub cannot_flush : (old : BufferedState) (c : ℕ) → buffer_at old.buffers c ≡ [] → CannotMove old (FlushOf c)
cannot_flush old c none x z shows (b, (oldest, rest, s, is, allowed, same), moved) =
    let no : [] ≡ oldest ∷ rest = sym none ∙ ap (λ (f : ℕ → List Event). f c) (sym shows.buffers) ∙ is in cc

module _ (w : WaitingContents) (programs : List Loaded) (jobs : List Listed) (buffers : List (Vec Stored Global))
    (board : IsBuffering w programs jobs buffers) where
  -- a CPU beyond the machine's
  pub none_beyond : (c : ℕ) → length buffers ≤ c → buffer_at (events_of_all buffers) c ≡ []
  none_beyond c past = beyond buffers c past
    where
      beyond : (bs : List (Vec Stored Global)) (c : ℕ) → length bs ≤ c → buffer_at (events_of_all bs) c ≡ []
      beyond [] c past = refl
      beyond (b ∷ bs) zero past = absurd (omega arith)
      beyond (b ∷ bs) (suc c) past = beyond bs c (omega arith)

  module _ (c : ℕ) (within : c < length buffers) (v : Vec Stored Global) (read : v ≡ slice_index_or buffers c v) where
    pub can_take : CanWait w.store c v.items
    can_take = subst (λ (es : List Stored). CanWait w.store c es) (sym (read_items buffers c v within read)) (board.each c)

    pub has_one : has_cpu w.store c ≡ true
    has_one = board.cpus c ∙ lt-ltb c (length buffers) within

    module _ (h : WaitingContents) (taken : h ≡ record w { waiting = v.items; cpu = c }) (u : Vec Stored Global) (u_is : u.items ≡ w.waiting) where
      buffer_is : buffer_of h ≡ buffer_at (events_of_all buffers) c
      buffer_is = ap (λ (x : WaitingContents). map event_of x.waiting) taken ∙ ap (map event_of) (read_items buffers c v within read) ∙ sym
          (events_at buffers c)

      pub serves : has_cpu h.store h.cpu ≡ true
      serves = subst (λ (x : WaitingContents). has_cpu x.store x.cpu ≡ true) (sym taken) has_one

      pub none_waits_here : h.waiting ≡ [] → buffer_at (events_of_all buffers) c ≡ []
      none_waits_here none = sym buffer_is ∙ ap (map event_of) none

      module _ (x : Vec Stored Global) (again : x ≡ slice_index_or (slice_set buffers c u) c x) where
        nothing_else : x.items ≡ []
        nothing_else = read_items (slice_set buffers c u) c x (subst (λ (n : ℕ). c < n) (sym (length-set buffers c u)) within) again ∙
            stored_same buffers c u within ∙ u_is ∙ board.put_back

        pub can_put_back : (store : Contents) → CanWait store c x.items
        can_put_back store = nothing_waits store c x.items nothing_else

        module _ (k : WaitingContents) (cpu : k.cpu ≡ h.cpu) (shape : shape_of k.store ≡ shape_of h.store)
            (held : held_spans k.store ≡ held_spans h.store) (running : is_running k.store ≡ is_running h.store)
            (serving : has_cpu k.store ≡ has_cpu h.store)
            (z : WaitingContents) (given : z ≡ record k { waiting = x.items; cpu = c }) (y : Vec Stored Global) (y_is : y.items ≡ k.waiting)
            (y_can : CanWait k.store k.cpu y.items) where
          abbrev buffers' : List (Vec Stored Global)
          buffers' = slice_set (slice_set buffers c u) c y

          store_now : z.store ≡ k.store
          store_now = ap (λ (a : WaitingContents). a.store) given

          store_first : h.store ≡ w.store
          store_first = ap (λ (a : WaitingContents). a.store) taken

          held_now : held_spans z.store ≡ held_spans w.store
          held_now = ap held_spans store_now ∙ held ∙ ap held_spans store_first

          running_now : is_running z.store ≡ is_running w.store
          running_now = ap is_running store_now ∙ running ∙ ap is_running store_first

          serving_now : has_cpu z.store ≡ has_cpu w.store
          serving_now = ap has_cpu store_now ∙ serving ∙ ap has_cpu store_first

          others_now : LeavesOthers c w.store z.store
          others_now = record {
            shape = ap shape_of store_now ∙ shape ∙ ap shape_of store_first;
            serves = serving_now;
            runs = λ d ne. ap (λ (f : ℕ → Bool). f d) running_now;
            held = λ d ne. ap (λ (f : ℕ → Span → Bool). f d) held_now;
          }

          buffers_once : buffers' ≡ slice_set buffers c y
          buffers_once = set_twice buffers c u y

          events_now : buffer_at (events_of_all buffers') ≡ put (buffer_at (events_of_all buffers)) c (buffer_of k)
          events_now =
              ap (λ (bs : List (Vec Stored Global)). buffer_at (events_of_all bs)) buffers_once ∙ events_set buffers c y within ∙ ap
              (λ (es : List Stored). put (buffer_at (events_of_all buffers)) c (map event_of es)) y_is

          stands_now : Stands (state_of z programs jobs buffers').machine
          stands_now = record {
            served = λ j task is. ap (λ (f : ℕ → Bool). f task.cpu) serving_now ∙ board.stands.served j task is;
            loaded = board.stands.loaded;
            hand = λ d j task state left at.
                (let f = board.stands.hand d j task state left at in
                record {
                  number = f.number;
                  program = f.program;
                  loaded = f.loaded;
                  ready = f.ready;
                  held = subst (λ (g : ℕ → Span → Bool). AreHeld (g d) state.held) (sym held_now) f.held;
                  runs = ap (λ (g : ℕ → Bool). g d) running_now ∙ f.runs;
                });
            one = board.stands.one;
            idle = λ d free. ap (λ (g : ℕ → Bool). g d) running_now ∙ board.stands.idle d free;
          }

          each_now : (d : ℕ) → CanWait z.store d (stored_at buffers' d)
          each_now d = subst (λ (bs : List (Vec Stored Global)). CanWait z.store d (stored_at bs d)) (sym buffers_once) (elim (equal_or_not d c) [
            | inl here ↦
                subst (λ (n : ℕ). CanWait z.store n (stored_at (slice_set buffers c y) n)) (sym here)
                (subst (λ (es : List Stored). CanWait z.store c es) (sym (stored_same buffers c y within))
                (subst (λ (n : ℕ). CanWait z.store n y.items) (cpu ∙ ap (λ (a : WaitingContents). a.cpu) taken)
                (subst (λ (s : Contents). CanWait s k.cpu y.items) (sym store_now) y_can)))
            | inr ne ↦ subst (λ (es : List Stored). CanWait z.store d es) (sym (stored_other buffers c y within d ne))
                (waits_still w.store z.store c d (stored_at buffers d) ne others_now (board.each d))
          ])

          pub board_now : IsBuffering z programs jobs buffers'
          board_now = record {
            stands = stands_now;
            put_back = ap (λ (a : WaitingContents). a.waiting) given ∙ nothing_else;
            cpus = λ d. ap (λ (f : ℕ → Bool). f d) serving_now ∙ board.cpus d ∙ ap (nat_lt d)
                (sym (length-set (slice_set buffers c u) c y ∙ length-set buffers c u));
            each = each_now;
          }

          -- the oldest store is made
          pub flush_moves : FlushesAlone h k → MovesTo (state_of w programs jobs buffers) (FlushOf c) (state_of z programs jobs buffers')
          flush_moves flushes m shows =
              let e : Event = event_of flushes.0 in
              let own : m.buffers c ≡ e ∷ buffer_of k = ap (λ (f : ℕ → List Event). f c) shows.buffers ∙ sym buffer_is ∙ ap (map event_of) flushes.1 in
              let there : StandsFor h.store m.world.store = subst (λ (s : Contents). StandsFor s m.world.store) (sym store_first) shows.world.store in
              let t = flushes.2 m.world.store shows.world.sound there in
              let b : Buffered = record { memory = t.0; buffers = put m.buffers c (buffer_of k) } in
              let by : h.cpu ≡ c = ap (λ (a : WaitingContents). a.cpu) taken in (
                with_buffered m b,
                (b, (e, buffer_of k, t.0, own, subst (λ (n : ℕ). PlainlyAllowed m.world.store n e t.0) by t.3, refl), refl),
                record {
                  world = record {
                    store = subst (λ (s : Contents). StandsFor s t.0) (sym store_now) t.2;
                    sound = t.1;
                    programs = shows.world.programs;
                    jobs = shows.world.jobs;
                    lists = shows.world.lists;
                  };
                  buffers = ap (λ (f : ℕ → List Event). put f c (buffer_of k)) shows.buffers ∙ sym events_now;
                },
              )

          -- nothing waits: all stays
          pub stays : k ≡ h → state_of z programs jobs buffers' ≡ state_of w programs jobs buffers
          stays same =
              let store : z.store ≡ w.store = store_now ∙ ap (λ (a : WaitingContents). a.store) same ∙ store_first in
              let items : y.items ≡ v.items = y_is ∙ ap (λ (a : WaitingContents). a.waiting) same ∙ ap (λ (a : WaitingContents). a.waiting) taken in
              let here : events_in y ≡ slice_index_or (events_of_all buffers) c [] = ap (map event_of)
              (items ∙ read_items buffers c v within read) ∙ sym (events_at buffers c) in
              let events : events_of_all buffers' ≡ events_of_all buffers =
              ap events_of_all buffers_once ∙ map-set events_in buffers c y ∙ ap
              (λ (es : List Event). slice_set (events_of_all buffers) c es) here ∙ set-get_or (events_of_all buffers) c [] in
              let P : MachineState = (state_of w programs jobs buffers).machine in
              ap (λ (s : Contents). record { machine = record P { store = s }; buffers = events_of_all buffers' }) store ∙ ap
              (λ (es : List (List Event)). record { machine = P; buffers = es }) events
