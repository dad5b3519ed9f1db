-- Lines that are followed or refused.
use Rattle.std.proofs.Common.{◌≡◌, ◌∙◌, ℕ, ◌<◌, List, [], ◌∷◌, length, refl, sym, ap, subst, arith, Option, Some, None}
use Rattle.bpf_names.specs.Names.{Names}
use Rattle.bpf_loader.specs.Loaded.{Loaded}
use Rattle.bpf_shared.specs.Shape.{Shape}
use Rattle.bpf_plain.specs.PlainStore.{shape_of}
use Rattle.bpf_machine.specs.Schedule.{unrolled}
use Rattle.bpf_debug.specs.declared.error.DebugError.{DebugError}
use Rattle.bpf_debug.specs.declared.error.DebugError.TheVariants as error
use Rattle.bpf_debug.specs.Command as plain
use Rattle.bpf_debug.specs.Command.{Break, Delete, Step, StepTimes, Steps, Go, GoTo, Back, Memory, Held, Schedule, Help, Registers, Where, Map, Keys}
use Rattle.bpf_debug.specs.Command.{Maps, Variables, Number, Jobs, Mark, Nearby, Last, Show, Watch, WatchVariable, Unwatch}
use Rattle.bpf_debug.specs.Course.{AreFewer, IsKept, count_of}
use Rattle.bpf_debug.specs.Session.{HasBadOperand, RefusesOrder}
use Rattle.bpf_debug.proofs.CourseLaws.{runs_tell_turns}
use Rattle.bpf_buffer_debug.specs.Command.{Order, order_of}
use Rattle.bpf_buffer_debug.proofs.CourseLaws.{follows_on}
use Rattle.bpf_buffer_debug.specs.Session.{SessionState, Scene, IsShown, Obeys, Leaves, LeavesLine, RefusesHere, RefusesLine, IsRefused, refusable}

pub no_line : (s : SessionState) (fields : List (List ℕ)) (text : List ℕ) → fields ≡ [] → text ≡ [] → LeavesLine s fields text s
no_line s fields text e none x shown = (x, subst (λ (fs : List (List ℕ)). Obeys x fs text x) (sym e) (none, refl), λ course. course, shown)

pub line_done : (s t : SessionState) (fields : List (List ℕ)) (order : Order) (text : List ℕ) → Some order ≡ order_of fields → Leaves s
    order text t → LeavesLine s fields text t
line_done s t [] order text e leaves x shown = let no : Some order ≡ None = e in cc
line_done s t (f ∷ fs) order text e leaves x shown =
    let l = leaves x shown in
    let few = shown.here.world.sound.fixed.shape.cpus.1 in
    (l.0, (order, sym e, l.1), λ course. (follows_on x order text l.0 few l.1 course).0, l.2)

-- ---- refusals
-- the moves that are kept are as many as were made
fewer : (kept : Option (List (ℕ × ℕ))) (moves : List ℕ) (n : ℕ) → IsKept kept moves → AreFewer (count_of kept) n → length moves < n
fewer None moves n is less = absurd less
fewer (Some runs) moves n is less =
    let sized : length (unrolled runs) ≡ length moves = ap (λ (rs : List (ℕ × ℕ)). length (unrolled rs)) is ∙ ap
    (λ (cs : List ℕ). length cs) (runs_tell_turns moves).0 in
    omega (arith, sized, less)

few_moves : (h : Shape) (names : Names) (kept : Option (List (ℕ × ℕ))) (moves : List ℕ) (order : plain.Order) → IsKept kept moves → HasBadOperand
    h names (count_of kept) order → HasBadOperand h names (Some (length moves)) order
few_moves h names kept moves (Back n) is few = fewer kept moves n is few
few_moves h names kept moves (Watch name word) is few = few
few_moves h names kept moves (WatchVariable name) is few = absurd few
few_moves h names kept moves Unwatch is few = absurd few
few_moves h names kept moves (Break c p) is few = absurd few
few_moves h names kept moves (Delete c p) is few = absurd few
few_moves h names kept moves (Step c) is few = absurd few
few_moves h names kept moves (Show c) is few = absurd few
few_moves h names kept moves (Last c) is few = absurd few
few_moves h names kept moves (StepTimes c n) is few = absurd few
few_moves h names kept moves (Steps runs) is few = absurd few
few_moves h names kept moves Go is few = absurd few
few_moves h names kept moves (Registers c) is few = absurd few
few_moves h names kept moves (Where c) is few = absurd few
few_moves h names kept moves (Memory c at n) is few = absurd few
few_moves h names kept moves (Map name) is few = absurd few
few_moves h names kept moves (Keys name) is few = absurd few
few_moves h names kept moves Schedule is few = absurd few
few_moves h names kept moves (GoTo c p) is few = absurd few
few_moves h names kept moves Maps is few = absurd few
few_moves h names kept moves Variables is few = absurd few
few_moves h names kept moves (Number name) is few = absurd few
few_moves h names kept moves Jobs is few = absurd few
few_moves h names kept moves (Mark n) is few = absurd few
few_moves h names kept moves Help is few = absurd few
few_moves h names kept moves (Held c) is few = absurd few
few_moves h names kept moves (Nearby c) is few = absurd few

counted : (cpus : ℕ) (programs : List Loaded) (h : Shape) (names : Names) (kept : Option (List (ℕ × ℕ))) (moves : List ℕ) (order : plain.Order)
    (e : DebugError) → IsKept kept moves
    → RefusesOrder cpus programs h names (count_of kept) order e → RefusesOrder cpus programs h names (Some (length moves)) order e
counted cpus programs h names kept moves order error.NoCpu is here = here
counted cpus programs h names kept moves order error.NoPc is here = here
counted cpus programs h names kept moves order error.NoMap is here = here
counted cpus programs h names kept moves order error.BadCommand is here = here
counted cpus programs h names kept moves order error.OutOfMemory is here = here
counted cpus programs h names kept moves order error.BadOperand is here = few_moves h names kept moves order is here

module _ (s : SessionState) (x : Scene) (shown : IsShown s x) where
  -- what a session refuses, its scenes refuse
  moved : (order : plain.Order) (e : DebugError) → RefusesOrder (length s.machine.machine.store.maps.runs) s.machine.machine.programs
      (shape_of s.machine.machine.store) s.names (count_of s.course) order e → RefusesOrder x.here.world.store.shape.cpus x.here.world.programs
      x.here.world.store.shape x.names (Some (length x.moves)) order e
  moved order e here =
      let cpus = length s.machine.machine.store.maps.runs in
      let h = shape_of s.machine.machine.store in
      let n : Option ℕ = Some (length x.moves) in
      let C : ℕ → Type 0 = λ count. RefusesOrder count x.here.world.programs x.here.world.store.shape x.names n order e in
      let P : List Loaded → Type 0 = λ programs. RefusesOrder cpus programs x.here.world.store.shape x.names n order e in
      let H : Shape → Type 0 = λ shape. RefusesOrder cpus s.machine.machine.programs shape x.names n order e in
      let N : Names → Type 0 = λ names. RefusesOrder cpus s.machine.machine.programs h names n order e in
      subst C (sym shown.here.world.store.maps.cpus) (subst P (sym shown.here.world.programs)
      (subst H (sym shown.here.world.store.shape) (subst N (sym shown.names)
      (counted cpus s.machine.machine.programs h s.names s.course x.moves order e shown.moves here))))

  order_refused : (order : Order) (e : DebugError) → RefusesHere s order e → IsRefused x order e
  order_refused order e here = moved (refusable order) e here

pub line_refused : (s : SessionState) (fields : List (List ℕ)) (order : Order) (e : DebugError) → Some order ≡ order_of fields → RefusesHere
    s order e → RefusesLine s fields e
line_refused s fields order error.NoCpu is here x shown = (order, sym is, order_refused s x shown order error.NoCpu here)
line_refused s fields order error.NoPc is here x shown = (order, sym is, order_refused s x shown order error.NoPc here)
line_refused s fields order error.NoMap is here x shown = (order, sym is, order_refused s x shown order error.NoMap here)
line_refused s fields order error.BadOperand is here x shown = (order, sym is, order_refused s x shown order error.BadOperand here)
line_refused s fields order error.BadCommand is here x shown = absurd here
line_refused s fields order error.OutOfMemory is here x shown = tt

pub not_said : (s : SessionState) (fields : List (List ℕ)) → (fields ≡ [] → ⊥) → order_of fields ≡ None → RefusesLine s fields error.BadCommand
not_said s fields some none x shown = (some, none)
