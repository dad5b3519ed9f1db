-- What a session's commands do, from what its functions ensure.
use Rattle.std.proofs.Common.{◌≡◌, ◌∙◌, ℕ, ◌+◌, ◌-◌, ◌≤◌, drop, get_or, Bool, true, false, List, [], ◌∷◌, ◌++◌, length, map, inl, inr, refl}
use Rattle.std.proofs.Common.{sym, ap, subst, arith, Option, Some, None}
use Rattle.std.specs.Prelude.{codes, slice_get, string_bytes}
use Rattle.std.proofs.lemmas.List.{get_or-drop, length-drop, take-append-drop}
use Rattle.std.proofs.lemmas.Option.{get_or_from_slice_get}
use Rattle.bpf_schedule.specs.Moves.{all_moves_text}
use Rattle.bpf_loader.specs.Loaded.{Loaded}
use Rattle.bpf_shared.specs.declared.events.Event.{Event}
use Rattle.bpf_names.specs.Names.{Names, Variable, variable_named}
use Rattle.bpf_plain.specs.PlainStore.{Contents, has_cpu, shape_of}
use Rattle.bpf_shared.specs.Shape.{Shape}
use Rattle.bpf_plain.specs.Alike.{IsSameShape}
use Rattle.bpf_cpu.specs.Task.{Task}
use Rattle.bpf_machine.specs.Parts.{IsSameHost}
use Rattle.bpf_machine.specs.Schedule.{unrolled}
use Rattle.bpf_x86.specs.Machine.{X86, FlushOf}
use Rattle.bpf_buffering.specs.Album.{AlbumState}
use Rattle.bpf_buffering.specs.Search.{BufferedState, ShowsX86, MovesTo, buffer_at, move_of}
use Rattle.bpf_flushes.specs.Moves.{Makes, MakesAll, MakesTo}
use Rattle.bpf_flushes.proofs.Turning.{flush_made}
use Rattle.bpf_debug.specs.declared.breakpoint.Breakpoint.{Breakpoint}
use Rattle.bpf_debug.specs.declared.recall.Kind.TheVariants as kind
use Rattle.bpf_debug.specs.declared.recall.Recall.{Recall}
use Rattle.bpf_debug.specs.declared.show.Shown.{Shown}
use Rattle.bpf_debug.specs.Answer.{IsOff, IsWhere, break_line, deleted_line, unwatched_line, variable_watch_line, watch_line}
use Rattle.bpf_debug.specs.Command as plain
use Rattle.bpf_debug.specs.Command.{Break, Delete, Step, StepTimes, Steps, Go, GoTo, Back, Memory, Held, Schedule, Help, Registers, Where, Map, Keys}
use Rattle.bpf_debug.specs.Command.{Maps, Variables, Number, Jobs, Mark, Nearby, Last, Show, Watch, WatchVariable, Unwatch}
use Rattle.bpf_debug.specs.Course.{IsKept, KeepsOn, TakesBack, cpu_before, runs_of, turns_before}
use Rattle.bpf_debug.specs.Go.{without_break}
use Rattle.bpf_debug.specs.Session as plain_session
use Rattle.bpf_debug.specs.Session.{IsPc, with_break}
use Rattle.bpf_debug.specs.Read.{IsNamed}
use Rattle.bpf_debug.specs.Recall.{IsLastText, IsRecall, Past}
use Rattle.bpf_debug.specs.Show.{AreShownLines, IsBefore, IsShownText, changed_text}
use Rattle.bpf_debug.specs.Watch.{Watched, chosen_in, variable_watched}
use Rattle.bpf_debug.proofs.CourseLaws.{runs_tell_turns}
use Rattle.bpf_debug.proofs.SessionLaws.{alone, is_cpu}
use Rattle.bpf_buffer_debug.specs.Command.{Plain, Flush, Buffer}
use Rattle.bpf_buffer_debug.specs.Go.{Goes}
use Rattle.bpf_buffer_debug.specs.Help.{help_text}
use Rattle.bpf_buffer_debug.specs.Moves.{TellsMoves, all_moves, cpu_of, last_cpu}
use Rattle.bpf_buffer_debug.specs.Private.Kept.{CanRewind, first_of}
use Rattle.bpf_buffer_debug.specs.Recall.{Recalls, RecallsTo}
use Rattle.bpf_buffer_debug.specs.Seeing.{TellsSeenHeld, TellsSeenLines, TellsSeenMemory, IsSeenHeld}
use Rattle.bpf_buffer_debug.specs.Session.{SessionState, Scene, IsShown, IsCpu, Leaves, are_cpus, behind, unbuffered, undone}
use Rattle.bpf_buffer_debug.specs.Waiting.{buffer_text, flush_text}

-- ---- the machine before the first move
pub first_still : (a b : AlbumState) → slice_get a.kept 0 ≡ Some (first_of a) → b.kept ≡ a.kept → first_of b ≡ first_of a
first_still a b at same =
    ap (λ (kept : List BufferedState). get_or kept 0 b.machine) same ∙ get_or_from_slice_get a.kept 0 (first_of a) b.machine at

same_shape : (p q r : Contents) → IsSameShape p q → IsSameShape p r → IsSameShape q r
same_shape p q r here there = (λ c. there.0 c ∙ sym (here.0 c), there.1 ∙ sym here.1)

pub can_still : (a b : AlbumState) (seen : Contents) → IsSameHost a.machine.machine b.machine.machine → b.kept ≡ a.kept → CanRewind a seen → CanRewind b seen
can_still a b seen went same can =
    let first = first_still a b can.kept same in
    record {
      kept = ap (λ (kept : List BufferedState). slice_get kept 0) same ∙ can.kept ∙ ap (λ (m : BufferedState). Some m) (sym first);
      first = subst (λ (m : BufferedState). IsSameShape m.machine.store seen) (sym first) can.first;
      here = same_shape a.machine.machine.store b.machine.machine.store seen (went.shape.0, went.shape.1) can.here;
    }

-- at first
pub can_begin : (a : AlbumState) (m : BufferedState) (seen : Contents) → a.machine ≡ m → a.kept ≡ m ∷ [] → IsSameShape m.machine.store seen → CanRewind a seen
can_begin a m seen machine kept shape =
    let first : first_of a ≡ m = ap (λ (ms : List BufferedState). get_or ms 0 a.machine) kept in
    record {
      kept = ap (λ (ms : List BufferedState). slice_get ms 0) kept ∙ ap (λ (s : BufferedState). Some s) (sym first);
      first = subst (λ (s : BufferedState). IsSameShape s.machine.store seen) (sym first) shape;
      here = subst (λ (s : BufferedState). IsSameShape s.machine.store seen) (sym machine) shape;
    }

-- it is the machine again
pub can_again : (a b : AlbumState) (seen : Contents) → slice_get a.kept 0 ≡ Some b.machine → b.kept ≡ a.kept → CanRewind a seen → CanRewind b seen
can_again a b seen again same can =
    let first = first_still a b can.kept same in
    let two : Some (first_of a) ≡ Some b.machine = sym can.kept ∙ again in
    let is : first_of a ≡ b.machine = cc in
    record {
      kept = ap (λ (kept : List BufferedState). slice_get kept 0) same ∙ can.kept ∙ ap (λ (m : BufferedState). Some m) (sym first);
      first = subst (λ (m : BufferedState). IsSameShape m.machine.store seen) (sym first) can.first;
      here = subst (λ (m : BufferedState). IsSameShape m.machine.store seen) is can.first;
    }

-- ---- what commands without store buffers answer alike
abbrev pub plain_state : SessionState → plain_session.SessionState
plain_state s = record {
  machine = s.machine.machine;
  first = s.first.machine;
  names = s.names;
  breaks = s.breaks;
  watch = s.watch;
  course = s.course;
}

shown_plain : (s : SessionState) (x : Scene) → IsShown s x → plain_session.IsShown (plain_state s) (unbuffered x)
shown_plain s x shown = record {
  world = shown.here.world;
  first = shown.first.world;
  names = shown.names;
  breaks = shown.breaks;
  watch = shown.watch;
  turns = shown.moves;
}

abbrev pub IsAlike : plain.Order → Type 0
IsAlike (Registers c) = Unit {0}
IsAlike (Where c) = Unit {0}
IsAlike (Nearby c) = Unit {0}
IsAlike (Map name) = Unit {0}
IsAlike (Keys name) = Unit {0}
IsAlike Maps = Unit {0}
IsAlike Variables = Unit {0}
IsAlike (Number name) = Unit {0}
IsAlike Jobs = Unit {0}
IsAlike (Mark n) = Unit {0}
IsAlike order = ⊥

pub alike : (s : SessionState) (order : plain.Order) (text : List ℕ) → IsAlike order → plain_session.Leaves (plain_state s) order text (plain_state s)
    → Leaves s (Plain order) text s
alike s (Registers c) text is leaves x shown = let l = leaves (unbuffered x) (shown_plain s x shown) in (x, (l.1.0, refl), shown)
alike s (Where c) text is leaves x shown = let l = leaves (unbuffered x) (shown_plain s x shown) in (x, (l.1.0, refl), shown)
alike s (Nearby c) text is leaves x shown = let l = leaves (unbuffered x) (shown_plain s x shown) in (x, (l.1.0, refl), shown)
alike s (Map name) text is leaves x shown = let l = leaves (unbuffered x) (shown_plain s x shown) in (x, (l.1.0, refl), shown)
alike s (Keys name) text is leaves x shown = let l = leaves (unbuffered x) (shown_plain s x shown) in (x, (l.1.0, refl), shown)
alike s Maps text is leaves x shown = let l = leaves (unbuffered x) (shown_plain s x shown) in (x, (l.1.0, refl), shown)
alike s Variables text is leaves x shown = let l = leaves (unbuffered x) (shown_plain s x shown) in (x, (l.1.0, refl), shown)
alike s (Number name) text is leaves x shown = let l = leaves (unbuffered x) (shown_plain s x shown) in (x, (l.1.0, refl), shown)
alike s Jobs text is leaves x shown = let l = leaves (unbuffered x) (shown_plain s x shown) in (x, (l.1.0, refl), shown)
alike s (Mark n) text is leaves x shown = let l = leaves (unbuffered x) (shown_plain s x shown) in (x, (l.1.0, refl), shown)
alike s (Memory c at n) text is leaves x shown = absurd is
alike s (Held c) text is leaves x shown = absurd is
alike s Schedule text is leaves x shown = absurd is
alike s Help text is leaves x shown = absurd is
alike s (Break c p) text is leaves x shown = absurd is
alike s (Delete c p) text is leaves x shown = absurd is
alike s (Step c) text is leaves x shown = absurd is
alike s (StepTimes c n) text is leaves x shown = absurd is
alike s (Steps runs) text is leaves x shown = absurd is
alike s Go text is leaves x shown = absurd is
alike s (GoTo c p) text is leaves x shown = absurd is
alike s (Back n) text is leaves x shown = absurd is
alike s (Last c) text is leaves x shown = absurd is
alike s (Show c) text is leaves x shown = absurd is
alike s (Watch name word) text is leaves x shown = absurd is
alike s (WatchVariable name) text is leaves x shown = absurd is
alike s Unwatch text is leaves x shown = absurd is

-- ---- other questions
module _ (s : SessionState) (c : ℕ) (has : has_cpu s.machine.machine.store c ≡ true) where
  here_is : (x : Scene) → IsShown s x → IsCpu x c
  here_is x shown = is_cpu s.machine.machine x.here.world c has shown.here.world

  pub told_memory : (at : Option ℕ) (n : ℕ) (last : List ℕ) → TellsSeenMemory s.machine c at n last → Leaves s (Plain (Memory (Some c) at n)) last s
  told_memory at n last tells x shown = (x, ((here_is x shown, tells x.here shown.here), refl), shown)

  pub told_held : (last : List ℕ) → TellsSeenHeld s.names.maps s.machine c last → Leaves s (Plain (Held (Some c))) last s
  told_held last tells x shown =
      let N : Names → Type 0 = λ names. IsSeenHeld names.maps x.here c last in
      (x, ((here_is x shown, subst N (sym shown.names) (tells x.here shown.here)), refl), shown)

  pub told_buffer : (last : List ℕ) → last ≡ buffer_text s.names.maps c (buffer_at s.machine.buffers c) → Leaves s (Buffer (Some c)) last s
  told_buffer last put x shown =
      let N : Names → Type 0 = λ names. last ≡ buffer_text names.maps c (x.here.buffers c) in
      let B : (ℕ → List Event) → Type 0 = λ bs. last ≡ buffer_text s.names.maps c (bs c) in
      (x, (here_is x shown, subst N (sym shown.names) (subst B (sym shown.here.buffers) put), refl), shown)

pub told_course : (s : SessionState) (runs : List (ℕ × ℕ)) (last : List ℕ) → s.course ≡ Some runs → last ≡ codes "steps" ++ all_moves_text
    (length runs) runs ++ codes "\n" → Leaves s (Plain Schedule) last s
told_course s runs last is put x shown =
    let told : runs ≡ runs_of x.moves = subst (λ (kept : Option (List (ℕ × ℕ))). IsKept kept x.moves) is shown.moves in
    (x, (put ∙ ap (λ (rs : List (ℕ × ℕ)). codes "steps" ++ all_moves_text (length rs) rs ++ codes "\n") told, refl), shown)

pub told_help : (s : SessionState) (last : List ℕ) → last ≡ help_text → Leaves s (Plain Help) last s
told_help s last put x shown = (x, (put, refl), shown)

-- ---- what leaves another session
-- the names, the breakpoints, what is watched and the first machine are the same, and it is lost only if
-- that was
pub record GoesOn (s t : SessionState) : Type 0 where
  pub first : t.first ≡ s.first
  pub names : t.names ≡ s.names
  pub breaks : t.breaks ≡ s.breaks
  pub watch : t.watch ≡ s.watch
  pub kept : s.lost ≡ false → t.lost ≡ false

module _ (s t : SessionState) (on : GoesOn s t) where
  shown_on : (x : Scene) (moves : List ℕ) (z : X86) → IsShown s x → ShowsX86 t.machine z → KeepsOn s.course moves t.course → IsShown t (behind x moves z)
  shown_on x moves z shown here keeps = record {
    kept = on.kept shown.kept;
    here = here;
    first = subst (λ (m : BufferedState). ShowsX86 m x.first) (sym on.first) shown.first;
    names = shown.names ∙ sym on.names;
    breaks = shown.breaks ∙ sym on.breaks;
    watch = shown.watch ∙ sym on.watch;
    moves = keeps x.moves shown.moves;
  }

  pub stepped : (runs : List (ℕ × ℕ)) (place last : List ℕ) → are_cpus (length s.machine.machine.store.maps.runs) runs ≡ true
      → IsWhere t.machine.machine.jobs (last_cpu runs) place
      → ((x : X86) → ShowsX86 s.machine x → (z : X86) × (before : List ℕ) × TellsMoves x (all_moves runs) before z × ShowsX86 t.machine z
      × (last ≡ before ++ place))
      → KeepsOn s.course (unrolled runs) t.course → Leaves s (Plain (Steps runs)) last t
  stepped runs place last has stands moves keeps x shown =
      let m = moves x.here shown.here in
      let J : List Task → Type 0 = λ jobs. IsWhere jobs (last_cpu runs) place in
      let H : ℕ → Type 0 = λ cpus. are_cpus cpus runs ≡ true in (
        behind x (unrolled runs) m.0,
        (subst H (sym shown.here.world.store.maps.cpus) has, (m.0, m.1, place, m.2, subst J (sym m.3.world.jobs) stands, m.4, refl)),
        shown_on x (unrolled runs) m.0 shown m.3 keeps,
      )

  pub went : (cpus : ℕ) (last : List ℕ) → cpus ≡ length s.machine.machine.store.maps.runs
      → ((x : X86) → ShowsX86 s.machine x → (z : X86) × (moves : List ℕ) × Goes s.breaks s.watch true 0 cpus x 0 [] moves last z × ShowsX86 t.machine z
      × KeepsOn s.course moves t.course)
      → Leaves s (Plain Go) last t
  went cpus last count goes x shown =
      let g = goes x.here shown.here in
      let B : List Breakpoint → Type 0 = λ bs. Goes bs x.watch true 0 x.here.world.store.shape.cpus x.here 0 [] g.1 last g.0 in
      let W : Option Watched → Type 0 = λ w. Goes s.breaks w true 0 x.here.world.store.shape.cpus x.here 0 [] g.1 last g.0 in
      let C : ℕ → Type 0 = λ n. Goes s.breaks s.watch true 0 n x.here 0 [] g.1 last g.0 in
      let all = subst C (count ∙ sym shown.here.world.store.maps.cpus) g.2 in (
        behind x g.1 g.0,
        (g.0, g.1, subst B (sym shown.breaks) (subst W (sym shown.watch) all), refl),
        shown_on x g.1 g.0 shown g.3 g.4,
      )

  pub went_to : (c p : ℕ) (last : List ℕ) → has_cpu s.machine.machine.store c ≡ true → IsPc s.machine.machine.programs p
      → ((x : X86) → ShowsX86 s.machine x → (z : X86) × (moves : List ℕ)
      × Goes (record { cpu = c; pc = p } ∷ []) s.watch false c (c + 1) x c [] moves last z
      × ShowsX86 t.machine z × KeepsOn s.course moves t.course)
      → Leaves s (Plain (GoTo (Some c) (Some p))) last t
  went_to c p last has begins goes x shown =
      let g = goes x.here shown.here in
      let P : List Loaded → Type 0 = λ ps. IsPc ps p in
      let W : Option Watched → Type 0 = λ w. Goes (record { cpu = c; pc = p } ∷ []) w false c (c + 1) x.here c [] g.1 last g.0 in (
        behind x g.1 g.0,
        (
          is_cpu s.machine.machine x.here.world c has shown.here.world,
          (subst P (sym shown.here.world.programs) begins, (g.0, g.1, subst W (sym shown.watch) g.2, refl)),
        ),
        shown_on x g.1 g.0 shown g.3 g.4,
      )

  pub flushed : (c : ℕ) (done : Bool) (last : List ℕ) → has_cpu s.machine.machine.store c ≡ true
      → (done ≡ true → MovesTo s.machine (FlushOf c) t.machine) → (done ≡ false → buffer_at s.machine.buffers c ≡ [])
      → (done ≡ false → t.machine ≡ s.machine) → last ≡ flush_text s.names.maps c (buffer_at s.machine.buffers c)
      → KeepsOn s.course ((128 + c) ∷ []) t.course → Leaves s (Flush (Some c)) last t
  flushed c done last has moves none same put keeps x shown =
      let m = flush_made s.machine t.machine c done moves none same x.here shown.here in
      let makes : Makes x.here (FlushOf c) m.0 = subst (λ (z : X86). Makes x.here (FlushOf c) z) (sym m.1.2) m.1.1 in
      let N : Names → Type 0 = λ names. last ≡ flush_text names.maps c (x.here.buffers c) in
      let B : (ℕ → List Event) → Type 0 = λ bs. last ≡ flush_text s.names.maps c (bs c) in (
        behind x ((128 + c) ∷ []) m.0,
        (
          is_cpu s.machine.machine x.here.world c has shown.here.world,
          (m.0, makes, subst N (sym shown.names) (subst B (sym shown.here.buffers) put), refl),
        ),
        shown_on x ((128 + c) ∷ []) m.0 shown m.2 keeps,
      )

  pub went_back : (runs fewer : List (ℕ × ℕ)) (count c : ℕ) (text : List ℕ) → s.course ≡ Some runs → t.course ≡ Some fewer → count ≤ length (unrolled runs)
      → TakesBack runs count fewer c → MakesTo s.first (all_moves fewer) t.machine → IsWhere t.machine.machine.jobs (cpu_of c) text
      → Leaves s (Plain (Back count)) text t
  went_back runs fewer count c text is left enough takes made stands x shown =
      let told : runs ≡ runs_of x.moves = subst (λ (h : Option (List (ℕ × ℕ))). IsKept h x.moves) is shown.moves in
      let sized : length (unrolled runs) ≡ length x.moves = ap (λ (rs : List (ℕ × ℕ)). length (unrolled rs)) told ∙ ap
      (λ (cs : List ℕ). length cs) (runs_tell_turns x.moves).0 in
      let before : List ℕ = turns_before x.moves count in
      let more : List ℕ = drop (length x.moves - count) x.moves in
      let cut : before ++ more ≡ x.moves = take-append-drop (length x.moves - count) x.moves in
      let size : length more ≡ length x.moves - (length x.moves - count) = length-drop (length x.moves - count) x.moves in
      let k = takes before more (omega (arith, size, sized, enough)) (told ∙ ap (λ (cs : List ℕ). runs_of cs) (sym cut)) in
      let z = made x.first shown.first in
      let led : unrolled fewer ≡ before = ap (λ (rs : List (ℕ × ℕ)). unrolled rs) k.0 ∙ (runs_tell_turns before).0 in
      let past : length x.moves - count + 0 ≡ length x.moves - count = omega arith in
      let whose : c ≡ cpu_before x.moves count = k.1 ∙ get_or-drop (length x.moves - count) x.moves 0 0 ∙ ap (λ (i : ℕ). get_or x.moves i 0) past in
      let W : ℕ → List Task → Type 0 = λ d jobs. IsWhere jobs (cpu_of d) text in
      let place : IsWhere z.0.world.jobs (cpu_of (cpu_before x.moves count)) text =
      subst (λ (d : ℕ). W d z.0.world.jobs) whose (subst (λ (jobs : List Task). W c jobs) (sym z.2.world.jobs) stands) in (
        undone x count z.0,
        (
          omega (arith, sized, enough),
          (z.0, subst (λ (cs : List ℕ). MakesAll x.first (map move_of cs) z.0) led z.1, place, refl),
        ),
        record {
          kept = on.kept shown.kept;
          here = z.2;
          first = subst (λ (m : BufferedState). ShowsX86 m x.first) (sym on.first) shown.first;
          names = shown.names ∙ sym on.names;
          breaks = shown.breaks ∙ sym on.breaks;
          watch = shown.watch ∙ sym on.watch;
          moves = subst (λ (h : Option (List (ℕ × ℕ))). IsKept h before) (sym left) k.0;
        },
      )

  -- all moves are made again
  led_again : (runs : List (ℕ × ℕ)) → s.course ≡ Some runs → (x : Scene) → IsShown s x → unrolled runs ≡ x.moves
  led_again runs is x shown =
      let told : runs ≡ runs_of x.moves = subst (λ (h : Option (List (ℕ × ℕ))). IsKept h x.moves) is shown.moves in
      ap (λ (rs : List (ℕ × ℕ)). unrolled rs) told ∙ (runs_tell_turns x.moves).0

  shown_again : (x : Scene) (z : X86) → IsShown s x → ShowsX86 t.machine z → t.course ≡ s.course → IsShown t (record x { here = z })
  shown_again x z shown here same = record {
    kept = on.kept shown.kept;
    here = here;
    first = subst (λ (m : BufferedState). ShowsX86 m x.first) (sym on.first) shown.first;
    names = shown.names ∙ sym on.names;
    breaks = shown.breaks ∙ sym on.breaks;
    watch = shown.watch ∙ sym on.watch;
    moves = subst (λ (h : Option (List (ℕ × ℕ))). IsKept h x.moves) (sym same) shown.moves;
  }

  pub told_last : (runs : List (ℕ × ℕ)) (c : ℕ) (recall : Option Recall) (last : List ℕ) → has_cpu s.machine.machine.store c ≡ true → s.course ≡ Some runs
      → t.course ≡ s.course → RecallsTo kind.Ends c s.first None (all_moves runs) t.machine recall
      → ((past : Option Past) → IsRecall c recall past → IsLastText c past t.machine.machine.jobs last) → Leaves s (Plain (Last (Some c))) last t
  told_last runs c recall last has is same recalls put x shown =
      let r = recalls x.first shown.first None tt in
      let J : List Task → Type 0 = λ jobs. IsLastText c r.1 jobs last in
      let R : List ℕ → Type 0 = λ cs. Recalls kind.Ends c x.first None (map move_of cs) r.1 r.0 in (
        record x { here = r.0 },
        (
          is_cpu s.machine.machine x.here.world c has shown.here.world,
          (r.1, r.0, subst R (led_again runs is x shown) r.2, subst J (sym r.3.world.jobs) (put r.1 r.4), refl),
        ),
        shown_again x r.0 shown r.3 same,
      )

  pub told_shown : (runs : List (ℕ × ℕ)) (c : ℕ) (recall : Option Recall) (lines : Shown) (last : List ℕ) → has_cpu s.machine.machine.store c ≡ true
      → s.course ≡ Some runs → t.course ≡ s.course → RecallsTo kind.Works c s.first None (all_moves runs) t.machine recall
      → TellsSeenLines s.names s.machine c lines
      → ((past : Option Past) → IsRecall c recall past → (before : List ℕ) × IsBefore c past before
      × (last ≡ changed_text before 0 lines.registers (map string_bytes lines.lines.items))) → Leaves s (Plain (Show (Some c))) last t
  told_shown runs c recall lines last has is same recalls tells put x shown =
      let r = recalls x.first shown.first None tt in
      let l = tells x.here shown.here in
      let p = put r.1 r.4 in
      let texts : List (List ℕ) = map string_bytes lines.lines.items in
      let N : Names → Type 0 = λ names. AreShownLines names l.0 l.3.held 0 l.3.registers texts in
      let R : List ℕ → Type 0 = λ cs. Recalls kind.Works c x.first None (map move_of cs) r.1 r.0 in
      let said : last ≡ changed_text p.0 0 l.3.registers texts = p.2 ∙ ap (λ (rs : List ℕ). changed_text p.0 0 rs texts) l.7 in
      let text : IsShownText c x.names r.1 (record x.here.world { store = l.0 }) last =
      (l.1, l.2, l.3, l.4, p.0, texts, l.6, p.1, subst N (sym shown.names) l.8, said) in (
        record x { here = r.0 },
        (
          is_cpu s.machine.machine x.here.world c has shown.here.world,
          inr (r.1, r.0, subst R (led_again runs is x shown) r.2, (l.0, l.5, text), refl),
        ),
        shown_again x r.0 shown r.3 same,
      )

-- a CPU without a job in hand has no registers
pub told_off : (s : SessionState) (c : ℕ) (last : List ℕ) → has_cpu s.machine.machine.store c ≡ true → IsOff s.machine.machine.jobs c last
    → Leaves s (Plain (Show (Some c))) last s
told_off s c last has off x shown =
    let J : List Task → Type 0 = λ jobs. IsOff jobs c last in
    (x, (is_cpu s.machine.machine x.here.world c has shown.here.world, inl (subst J (sym shown.here.world.jobs) off, refl)), shown)

-- the turns of one CPU are a schedule
pub one_cpu : (s t : SessionState) (c n : ℕ) (last : List ℕ) → has_cpu s.machine.machine.store c ≡ true → Leaves s (Plain (Steps ((c, n) ∷ []))) last t
    → Leaves s (Plain (StepTimes (Some c) n)) last t
one_cpu s t c n last has leaves x shown =
    let l = leaves x shown in
    (l.0, (is_cpu s.machine.machine x.here.world c has shown.here.world, l.1.1), l.2)

pub one_turn : (s t : SessionState) (c : ℕ) (last : List ℕ) → has_cpu s.machine.machine.store c ≡ true → Leaves s (Plain (Steps ((c, 1) ∷ []))) last t
    → Leaves s (Plain (Step (Some c))) last t
one_turn s t c last has leaves x shown =
    let l = leaves x shown in
    (l.0, (is_cpu s.machine.machine x.here.world c has shown.here.world, l.1.1), l.2)

-- ---- breakpoints
module _ (s t : SessionState) (machine : t.machine ≡ s.machine) (first : t.first ≡ s.first) (names : t.names ≡ s.names) (watch : t.watch ≡ s.watch)
    (course : t.course ≡ s.course) (lost : t.lost ≡ s.lost) where
  shown_breaks : (x : Scene) (breaks : List Breakpoint) → IsShown s x → t.breaks ≡ breaks → IsShown t (record x { breaks = breaks })
  shown_breaks x breaks shown is = record {
    kept = lost ∙ shown.kept;
    here = subst (λ (m : BufferedState). ShowsX86 m x.here) (sym machine) shown.here;
    first = subst (λ (m : BufferedState). ShowsX86 m x.first) (sym first) shown.first;
    names = shown.names ∙ sym names;
    breaks = sym is;
    watch = shown.watch ∙ sym watch;
    moves = subst (λ (kept : Option (List (ℕ × ℕ))). IsKept kept x.moves) (sym course) shown.moves;
  }

  pub broken : (c p : ℕ) (room last : List ℕ) → has_cpu s.machine.machine.store c ≡ true → IsPc s.machine.machine.programs p
      → t.breaks ≡ with_break s.breaks c p → room ≡ [] → last ≡ room ++ break_line c p → Leaves s (Plain (Break (Some c) (Some p))) last t
  broken c p room last has begins same empty put x shown =
      let P : List Loaded → Type 0 = λ ps. IsPc ps p in (
        record x { breaks = with_break x.breaks c p },
        (
          is_cpu s.machine.machine x.here.world c has shown.here.world,
          (subst P (sym shown.here.world.programs) begins, alone room last (break_line c p) empty put, refl),
        ),
        shown_breaks x (with_break x.breaks c p) shown (same ∙ ap (λ (bs : List Breakpoint). with_break bs c p) (sym shown.breaks)),
      )

  pub unbroken : (c p : ℕ) (room last : List ℕ) → has_cpu s.machine.machine.store c ≡ true → IsPc s.machine.machine.programs p
      → t.breaks ≡ without_break s.breaks c p → room ≡ [] → last ≡ room ++ deleted_line c p → Leaves s (Plain (Delete (Some c) (Some p))) last t
  unbroken c p room last has begins same empty put x shown =
      let P : List Loaded → Type 0 = λ ps. IsPc ps p in (
        record x { breaks = without_break x.breaks c p },
        (
          is_cpu s.machine.machine x.here.world c has shown.here.world,
          (subst P (sym shown.here.world.programs) begins, alone room last (deleted_line c p) empty put, refl),
        ),
        shown_breaks x (without_break x.breaks c p) shown (same ∙ ap (λ (bs : List Breakpoint). without_break bs c p) (sym shown.breaks)),
      )

-- ---- what is watched
module _ (s t : SessionState) (machine : t.machine ≡ s.machine) (first : t.first ≡ s.first) (names : t.names ≡ s.names) (breaks : t.breaks ≡ s.breaks)
    (course : t.course ≡ s.course) (lost : t.lost ≡ s.lost) where
  shown_watch : (x : Scene) (watch : Option Watched) → IsShown s x → t.watch ≡ watch → IsShown t (record x { watch = watch })
  shown_watch x watch shown is = record {
    kept = lost ∙ shown.kept;
    here = subst (λ (m : BufferedState). ShowsX86 m x.here) (sym machine) shown.here;
    first = subst (λ (m : BufferedState). ShowsX86 m x.first) (sym first) shown.first;
    names = shown.names ∙ sym names;
    breaks = shown.breaks ∙ sym breaks;
    watch = sym is;
    moves = subst (λ (kept : Option (List (ℕ × ℕ))). IsKept kept x.moves) (sym course) shown.moves;
  }

  pub watched_key : (name word key : List ℕ) (n : ℕ) (w : Watched) (last : List ℕ) → IsNamed s.names.maps name n
      → chosen_in (shape_of s.machine.machine.store) n word ≡ Some (w, key) → t.watch ≡ Some w → last ≡ watch_line name key
      → Leaves s (Plain (Watch name word)) last t
  watched_key name word key n w last named chosen same put x shown =
      let N : Names → Type 0 = λ ns. IsNamed ns.maps name n in
      let H : Shape → Type 0 = λ h. chosen_in h n word ≡ Some (w, key) in (
        record x { watch = Some w },
        (Some w, refl, (n, w, key, subst N (sym shown.names) named, subst H (sym shown.here.world.store.shape) chosen, put, refl)),
        shown_watch x (Some w) shown same,
      )

  pub watched_variable : (name : List ℕ) (v : Variable) (last : List ℕ) → variable_named name s.names.variables ≡ Some v
      → t.watch ≡ Some (variable_watched v) → last ≡ variable_watch_line v.name → Leaves s (Plain (WatchVariable name)) last t
  watched_variable name v last named same put x shown =
      let N : Names → Type 0 = λ ns. variable_named name ns.variables ≡ Some v in (
        record x { watch = Some (variable_watched v) },
        (Some (variable_watched v), refl, (v, subst N (sym shown.names) named, put, refl)),
        shown_watch x (Some (variable_watched v)) shown same,
      )

  pub watched_none : (last : List ℕ) → t.watch ≡ None → last ≡ unwatched_line → Leaves s (Plain Unwatch) last t
  watched_none last same put x shown = (record x { watch = None }, (None, refl, (put, refl)), shown_watch x None shown same)
